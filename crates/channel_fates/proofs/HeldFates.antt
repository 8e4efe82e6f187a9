-- An element that is held stands in its queue, or was handed to a wait that is not settled.
use Rattle.std.specs.Prelude.{◌≡◌, ℕ, ◌≤◌, ◌==◌, nat_lt, Bool, true, false, not, ◌&&◌, ◌||◌, List, [], ◌∷◌, Option, Some, None, refl, if◌then◌else◌, ◌⊎◌, ◌↔◌, is_some, is_none}
use Rattle.std.specs.List.{list_any, AllByRecursion}
use Rattle.std.proofs.Common.{sym, ap, ◌∙◌, subst, arith, inl, inr, ⊎_elim}
use Rattle.std.proofs.lemmas.Bool.{eqb-true, eq-eqb, false_from_ne_true, cases_lt, or_cases, and_parts, and_from, or_left, or_right, or_parts, both_ways}
use Rattle.std.proofs.lemmas.Bool.Decides.{nat_tests}
use Rattle.std.proofs.Math.Bool.{or-true}
use Rattle.co_base.specs.declared.names.WaitId.{WaitId}
use Rattle.channel_model.specs.declared.acts.Act.{Act}
use Rattle.channel_model.specs.declared.acts.Act.TheVariants.{Put, Await, Admit}
use Rattle.channel_model.specs.declared.acts.Entry.{Entry}
use Rattle.channel_model.specs.declared.acts.Fate.TheVariants as fate
use Rattle.channel_model.specs.declared.acts.Settled.{Settled}
use Rattle.channel_model.specs.declared.standing.Party.{Party}
use Rattle.channel_model.specs.declared.standing.Standing.{Standing}
use Rattle.channel_model.specs.Channels.{Shape, State, Wait}
use Rattle.channel_model.specs.Histories.{replay, acts_in, Legal}
use Rattle.channel_model.specs.Fates.{is_at, brings, hands, takes, admits, drops_at, spurns_at, drains, withdraws, settles_value, settles_undelivered, resolves_at, offers_at, places_wait, first_some, element_at, wait_at, is_wait, resolves_elsewhere, is_chosen_elsewhere, of_wait, of_offer, is_received, is_taken_back, is_undelivered_at, is_dropped, is_spurned, is_withdrawn, fate_at, removes}
use Rattle.channel_model.specs.Laws.{IsStandingAt, HolderStands, OffersStand, how_many}
use Rattle.channel_fates.specs.OneFate.{stands_in, is_unsettled, StandsOrIsUnsettled}
use Rattle.channel_model.proofs.Waits.{same_wait-refl}
use Rattle.channel_model.proofs.Resolutions.{not_open}
use Rattle.channel_model.specs.Answers.{IsResolvedWait, IsSettledWait}
use Rattle.channel_fates.proofs.Appended.{any_count, count_any, none_count, found, first_found, first_there}
use Rattle.channel_fates.proofs.OncePlaced.{enters, awaits, answers, Counted, at_both}
use Rattle.channel_fates.proofs.StandsByActs.{puts, offers, OfferKnown, HolderKnown, came, enters_count, handed_answered, here}
use Rattle.channel_fates.proofs.Chosen.{Chosen, Unheld, resolver, resolver_is, this_place, put_alone}
use Rattle.channel_fates.proofs.ChosenOnce.{admitted_resolved}
use Rattle.channel_fates.proofs.Endings.{handed_resolved}
use Rattle.channel_fates.proofs.KeptUntilRemoved.{frees, is_free}
use Rattle.channel_fates.proofs.HeldWhileOpen.{Stands, is_held, offer_of}
use Rattle.channel_fates.proofs.OwnPlaces.{alone}
use Rattle.channel_fates.proofs.Traced.{Traced, replay_traced}
use Rattle.channel_fates.proofs.AtMostOne.{some_wait, HandedAs, ends_as, OfferedAs, received_is, undelivered_is, withdrawn_is, leaves_count, handed_alone, handed_or_left, handed_or_offered, resolved_here}

-- ---- a fate is held where no other applies

held_if : (r u d x w : Bool) → (r ≡ true → ⊥) → (u ≡ true → ⊥) → (d ≡ true → ⊥) → (x ≡ true → ⊥) → (w ≡ true → ⊥)
    → (if r then fate.Received else if u then fate.Undelivered else if d then fate.Dropped else if x then fate.Spurned else if w then
    fate.Withdrawn else fate.Held) ≡ fate.Held
held_if r u d x w a b e g f = rw (
  false_from_ne_true r a,
  false_from_ne_true u b,
  false_from_ne_true d e,
  false_from_ne_true x g,
  false_from_ne_true w f,
) refl

held_only : (r u d x w : Bool)
    → (if r then fate.Received else if u then fate.Undelivered else if d then fate.Dropped else if x then fate.Spurned else if w then
    fate.Withdrawn else fate.Held) ≡ fate.Held
    → (r ≡ false) × (u ≡ false) × (d ≡ false) × (x ≡ false) × (w ≡ false)
held_only true u d x w e = cc
held_only false true d x w e = cc
held_only false false true x w e = cc
held_only false false false true w e = cc
held_only false false false false true e = cc
held_only false false false false false e = (refl, refl, refl, refl, refl)

-- ---- what stands at a place

-- an offer of this place stands
abbrev place_stands : ℕ → List Standing → Bool
place_stands p os = list_any (λ o. o.place == p) os

-- the words of the law, for offers of any value
abbrev PlaceStands : ℕ → ℕ → List Act → State → Type 0
PlaceStands c p acts s = (place_stands p (s.channels c).queue
    || (list_any (hands c p) acts && of_wait (λ w. is_unsettled (s.waits w)) (wait_at c p acts))) ≡ true

either_holds : (a b r : Bool) → (a ≡ true → b ≡ true) → (a || r) ≡ true → (b || r) ≡ true
either_holds true b r k e = ap (λ x. x || r) (k refl)
either_holds false b r k e = ap (λ x. b || x) e ∙ or-true b

place_of_value : (p v : ℕ) (os : List Standing) → stands_in p v os ≡ true → place_stands p os ≡ true
place_of_value p v os e = let x = found (λ (o : Standing). (o.place == p) && (o.value == v)) os e
    in x.2 (λ o. o.place == p) (and_parts _ _ x.1).0

-- what stands has the value that came to its place
value_stands : (acts : List Act) (c p v : ℕ) (os : List Standing) → AllByRecursion (OfferKnown acts c) os → element_at c p acts ≡ Some v
    → place_stands p os ≡ true → stands_in p v os ≡ true
value_stands acts c p v [] k e h = cc
value_stands acts c p v (o ∷ os) k e h = ⊎_elim
    (λ t.
    let f : element_at c p acts ≡ Some o.value = subst (λ q. element_at c q acts ≡ Some o.value) (eqb-true o.place p t) k.0.1 in
    let same : o.value ≡ v = cc in
    or_left _ _ (and_from _ _ t (eq-eqb o.value v same)))
    (λ m. or_right ((o.place == p) && (o.value == v)) _ (value_stands acts c p v os k.1 e m)) (or_cases (o.place == p) _ h)

standing_here : (waits : WaitId → Option Wait) (acts : List Act) (c p : ℕ) (h : Option Party) → HolderStands waits c h
    → HolderKnown acts c p h → Unheld acts (c, p) ⊎ ((w : WaitId) × (wait_at c p acts ≡ Some w) × IsStandingAt c (waits w))
standing_here waits acts c p None h k = inl k
standing_here waits acts c p (Some x) h k = inr (x.wait, k.1, h)

standing_known : (waits : WaitId → Option Wait) (acts : List Act) (c p : ℕ) (os : List Standing) → OffersStand waits c os
    → AllByRecursion (OfferKnown acts c) os → place_stands p os ≡ true → Unheld acts (c, p)
    ⊎ ((w : WaitId) × (wait_at c p acts ≡ Some w) × IsStandingAt c (waits w))
unfolding OffersStand
standing_known waits acts c p [] h k e = cc
standing_known waits acts c p (o ∷ os) h k e = ⊎_elim
    (λ t. subst (λ q. Unheld acts (c, q) ⊎ ((w : WaitId) × (wait_at c q acts ≡ Some w) × IsStandingAt c (waits w)))
    (eqb-true o.place p t) (standing_here waits acts c o.place o.holder h.0 k.0.0))
    (standing_known waits acts c p os h.1 k.1) (or_cases (o.place == p) _ e)

some_not_none : (ending : Option Settled) → is_some ending ≡ true → is_none ending ≡ false
some_not_none (Some outcome) h = refl
some_not_none None h = cc

unsettled_or : (x : Option Wait) → IsSettledWait x → is_unsettled x ≡ true → ⊥
unsettled_or None h e = h
unsettled_or (Some x) h e = let f : is_none x.settled ≡ false = some_not_none x.settled h in cc

settled_or : (x : Option Wait) → IsResolvedWait x → IsSettledWait x ⊎ (is_unsettled x ≡ true)
settled_or None h = absurd h
settled_or (Some x) h = by_end x.settled
  where
    by_end : (ending : Option Settled) → (is_some ending ≡ true) ⊎ (is_none ending ≡ true)
    by_end (Some outcome) = inl refl
    by_end None = inr refl

-- ---- where an element came from

-- an element was handed, put or offered
element_came : (c p v : ℕ) (acts : List Act) → element_at c p acts ≡ Some v → (list_any (hands c p) acts ≡ true)
    ⊎ ((list_any (puts c p) acts ≡ true) ⊎ (list_any (offers c p) acts ≡ true))
element_came c p v acts e =
    let f = first_found (brings c p) acts v e in
    ⊎_elim (λ k. inl (f.2 (hands c p) k)) (λ m. ⊎_elim (λ k. inr (inl (f.2 (puts c p) k))) (λ k. inr (inr (f.2 (offers c p) k))) m)
    (came c p v f.0 f.1)

pub offer_waits : (c p : ℕ) (act : Act) → offers c p act ≡ true → (w : WaitId) × (places_wait c p act ≡ Some w)
offer_waits c p act e = let o = offer_of c p act e in (o.1, ap (places_wait c p) o.3 ∙ ap (λ b. if b then Some o.1 else None) (here c p))

pub offer_clause : (c p : ℕ) (act : Act) → offers c p act ≡ true → (k : ℕ) × (offers_at c p act ≡ Some k)
offer_clause c p act e = let o = offer_of c p act e in (o.2, ap (offers_at c p) o.3 ∙ ap (λ b. if b then Some o.2 else None) (here c p))

pub await_waits : (c p : ℕ) (act : Act) → awaits c p act ≡ true → (w : WaitId) × (places_wait c p act ≡ Some w)
await_waits c p (Await d q w k) e = (w, ap (λ b. if b then Some w else None) e)
await_waits c p other e = cc

put_frees : (c p : ℕ) (act : Act) → puts c p act ≡ true → frees c p act ≡ true
put_frees c p (Put d q x) e = e
put_frees c p other e = cc

admit_frees : (c p : ℕ) (act : Act) → admits c p act ≡ true → frees c p act ≡ true
admit_frees c p (Admit d q) e = e
admit_frees c p other e = cc

any_freed : (c p : ℕ) (acts : List Act) (f : Act → Bool) → ((act : Act) → f act ≡ true → frees c p act ≡ true) → list_any f acts ≡ true
    → 1 ≤ how_many (frees c p) acts
any_freed c p acts f k e = let x = found f acts e in any_count (frees c p) acts (x.2 (frees c p) (k x.0 x.1))

placed_in : (p : ℕ) (f : Standing → Bool) (os : List Standing) → ((o : Standing) → f o ≡ true → (o.place == p) ≡ true) → 1 ≤ how_many f os
    → place_stands p os ≡ true
placed_in p f os k h = let x = found f os (count_any f os h) in x.2 (λ o. o.place == p) (k x.0 x.1)

-- ---- tests, from what they say

wait_holds : (f : WaitId → Bool) (o : Option WaitId) (w : WaitId) → o ≡ Some w → f w ≡ true → of_wait f o ≡ true
wait_holds f o w e h = ap (of_wait f) e ∙ h

offer_holds : (f : ℕ → Bool) (o : Option ℕ) (k : ℕ) → o ≡ Some k → f k ≡ true → of_offer f o ≡ true
offer_holds f o k e h = ap (of_offer f) e ∙ h

pub chosen_elsewhere : (acts : List Act) (c p d q : ℕ) (w : WaitId) → is_at c p d q ≡ false → Chosen acts d q w
    → is_chosen_elsewhere c p w acts ≡ true
chosen_elsewhere acts c p d q w e h =
    let f = found (resolver d q) acts h.1 in
    let at = this_place d q (resolves_at f.0) f.1 in
    let is : is_wait w (wait_at d q acts) ≡ true = ap (is_wait w) h.0 ∙ same_wait-refl w in
    f.2 (λ a. resolves_elsewhere c p w acts (resolves_at a)) (ap (resolves_elsewhere c p w acts) at
    ∙ and_from (not (is_at c p d q)) (is_wait w (wait_at d q acts)) (ap not e) is)

-- ---- what stands, or is not settled, has no other fate

module _ (shape : Shape) (acts : List Act) (s : State) (t : Traced shape acts s) (c p : ℕ) where
  counted : Counted c p acts (s.channels c)
  counted = t.told.counted c p

  -- the wait of what stands has no end yet
  standing_or_ended : (f : ℕ → Bool) → place_stands p (s.channels c).queue ≡ true → OfferedAs f c p acts → ⊥
  standing_or_ended f e o =
      ⊎_elim
      (λ u. ⊎_elim
      (λ k. put_alone c p acts (s.channels c) o.3.0 counted k o.3.1)
      (λ k. resolved_here shape acts s t c p o.3.0 o.3.1 (admitted_resolved c p acts k) o.3.2)
      u)
      (λ x.
      let a = o.3.1 in
      let b = x.1 in
      let same : x.0 ≡ o.3.0 = cc in
      not_open c (s.waits o.3.0) (subst (λ w. IsStandingAt c (s.waits w)) same x.2)
      (⊎_elim (λ k. t.chosen.withdrawn o.3.0 k) (λ k. t.chosen.resolved k.0 k.1 o.3.0 k.3) o.3.2))
      (standing_known s.waits acts c p (s.channels c).queue (t.told.stand c).offers (t.told.known c).offers e)

  standing_stays : place_stands p (s.channels c).queue ≡ true → how_many (removes c p) acts ≡ 0
  standing_stays e = let k = any_count (λ (o : Standing). o.place == p) (s.channels c).queue e
      in omega (arith, counted.queue, counted.given)

  standing_or_handed : place_stands p (s.channels c).queue ≡ true → list_any (hands c p) acts ≡ true → ⊥
  standing_or_handed e h =
      let k = any_count (λ (o : Standing). o.place == p) (s.channels c).queue e in
      let m = handed_alone shape acts s t c p h in
      omega (arith, counted.queue)

  standing_held : place_stands p (s.channels c).queue ≡ true → fate_at c p acts ≡ fate.Held
  standing_held e =
      let z = standing_stays e in
      let n = leaves_count c p acts in
      held_if (is_received c p acts) (is_undelivered_at c p acts) (is_dropped c p acts) (is_spurned c p acts) (is_withdrawn c p acts)
      (λ r. ⊎_elim (λ k. let m = any_count (takes c p) acts k in omega arith) (λ h. standing_or_handed e h.0) (received_is c p acts r))
      (λ u. ⊎_elim
      (λ k. let m = any_count (drains c p) acts k in omega arith)
      (λ x. ⊎_elim (λ h. standing_or_handed e h.0) (λ o. standing_or_ended (λ k. k == 0) e o) x)
      (undelivered_is c p acts u))
      (λ k. let m = any_count (drops_at c p) acts k in omega arith)
      (λ k. let m = any_count (spurns_at c p) acts k in omega arith)
      (λ w. standing_or_ended (λ k. nat_lt 0 k) e (withdrawn_is c p acts w))

  handed_as_settled : (test : WaitId → Act → Bool) → ((w : WaitId) → list_any (test w) acts ≡ true → IsSettledWait (s.waits w))
      → (w : WaitId) → wait_at c p acts ≡ Some w → is_unsettled (s.waits w) ≡ true → HandedAs (ends_as test acts) c p acts → ⊥
  handed_as_settled test settled w e f h =
      let g = h.1.1 in
      let same : h.1.0 ≡ w = cc in
      unsettled_or (s.waits w) (subst (λ u. IsSettledWait (s.waits u)) same (settled h.1.0 h.1.2)) f

  unsettled_held : (w : WaitId) → list_any (hands c p) acts ≡ true → wait_at c p acts ≡ Some w → is_unsettled (s.waits w) ≡ true
      → fate_at c p acts ≡ fate.Held
  unsettled_held w h e f =
      held_if (is_received c p acts) (is_undelivered_at c p acts) (is_dropped c p acts) (is_spurned c p acts) (is_withdrawn c p acts)
      (λ r. ⊎_elim
      (λ k. let m = any_count (takes c p) acts k in handed_or_left shape acts s t c p h (omega arith))
      (λ x. handed_as_settled settles_value t.ended.value w e f x)
      (received_is c p acts r))
      (λ u. ⊎_elim
      (λ k. let m = any_count (drains c p) acts k in handed_or_left shape acts s t c p h (omega arith))
      (λ x. ⊎_elim (λ y. handed_as_settled settles_undelivered t.ended.undelivered w e f y)
      (λ o. handed_or_offered shape acts s t c p o.0 h o.1) x)
      (undelivered_is c p acts u))
      (λ k. let m = any_count (drops_at c p) acts k in handed_or_left shape acts s t c p h (omega arith))
      (λ k. let m = any_count (spurns_at c p) acts k in handed_or_left shape acts s t c p h (omega arith))
      (λ x. let o = withdrawn_is c p acts x in handed_or_offered shape acts s t c p o.0 h o.1)

  pub held_where_standing : PlaceStands c p acts s → fate_at c p acts ≡ fate.Held
  held_where_standing h =
      ⊎_elim
      (λ e. standing_held e)
      (λ e. let k = and_parts _ _ e in let x = some_wait (λ w. is_unsettled (s.waits w)) (wait_at c p acts) k.1
      in unsettled_held x.0 k.0 x.1 x.2)
      (or_cases _ _ h)

-- ---- what has no other fate stands, or is not settled

module _ (shape : Shape) (acts : List Act) (s : State) (t : Traced shape acts s) (c p : ℕ)
    (received : is_received c p acts ≡ false) (undelivered : is_undelivered_at c p acts ≡ false) (dropped : is_dropped c p acts ≡ false)
    (spurned : is_spurned c p acts ≡ false) (withdrawn : is_withdrawn c p acts ≡ false) where
  given : Counted c p acts (s.channels c)
  given = t.told.counted c p

  nothing_left : how_many (removes c p) acts ≡ 0
  nothing_left =
      let a = none_count (takes c p) acts (or_parts _ _ received).0 in
      let b = none_count (drains c p) acts (or_parts _ _ undelivered).0 in
      let d = none_count (drops_at c p) acts dropped in
      let x = none_count (spurns_at c p) acts spurned in
      omega (arith, leaves_count c p acts)

  freed_stands : 1 ≤ how_many (frees c p) acts → PlaceStands c p acts s
  freed_stands h =
      or_left _ _ (placed_in p (is_free p) (s.channels c).queue (λ o e. (and_parts (o.place == p) _ e).0)
      (omega (arith, t.kept.kept c p, nothing_left)))

  held_stands : (w : WaitId) → Stands p w (s.channels c) → PlaceStands c p acts s
  held_stands w h = or_left _ _ (placed_in p (is_held p w) (s.channels c).queue (λ o e. (and_parts (o.place == p) _ e).0) h)

  -- an end of a handed wait is a fate
  handed_end : (w : WaitId) → list_any (hands c p) acts ≡ true → wait_at c p acts ≡ Some w → (list_any (settles_value w) acts ≡ true)
      ⊎ (list_any (settles_undelivered w) acts ≡ true) → ⊥
  handed_end w h e x =
      ⊎_elim
      (λ k. both_ways _ (or_parts _ _ received).1 (and_from _ _ h
      (wait_holds (λ u. list_any (settles_value u) acts) (wait_at c p acts) w e k)))
      (λ k. both_ways _ (or_parts _ _ (or_parts _ _ undelivered).1).0
      (and_from _ _ h (wait_holds (λ u. list_any (settles_undelivered u) acts) (wait_at c p acts) w e k)))
      x

  handed_unsettled : list_any (hands c p) acts ≡ true → PlaceStands c p acts s
  handed_unsettled h =
      let n = handed_answered c p acts h in
      let m : 1 ≤ how_many (awaits c p) acts = omega (arith, given.receivers) in
      let w = first_there (places_wait c p) (awaits c p) (await_waits c p) acts (count_any (awaits c p) acts m) in
      let how = t.ended.handed c p w.0 h w.1 in
      ⊎_elim
      (λ k. absurd (handed_end w.0 h w.1 (t.ended.given w.0 how k)))
      (λ k. or_right _ _ (and_from _ _ h (wait_holds (λ u. is_unsettled (s.waits u)) (wait_at c p acts) w.0 w.1 k)))
      (settled_or (s.waits w.0) (handed_resolved (s.waits w.0) how))

  -- at a select's clause
  select_ended : (k : ℕ) → first_some (offers_at c p) acts ≡ Some k → 1 ≤ k
      → (is_taken_back c p acts || (not (list_any (admits c p) acts) && of_wait (λ w. is_chosen_elsewhere c p w acts) (wait_at c p acts))) ≡
      true → ⊥
  select_ended k e l h =
      both_ways _ withdrawn (offer_holds (λ j. nat_lt 0 j && (is_taken_back c p acts
      || (not (list_any (admits c p) acts) && of_wait (λ w. is_chosen_elsewhere c p w acts) (wait_at c p acts))))
      (first_some (offers_at c p) acts) k e (and_from _ _ (grind (arith, nat_tests)) h))

  taken_back : (k : ℕ) → first_some (offers_at c p) acts ≡ Some k → is_taken_back c p acts ≡ true → ⊥
  taken_back k e h =
      ⊎_elim
      (λ l. select_ended k e l (or_left _ _ h))
      (λ l.
      let z : k ≡ 0 = omega arith in
      both_ways _ (or_parts _ _ (or_parts _ _ undelivered).1).1
      (offer_holds (λ j. (j == 0) && is_taken_back c p acts) (first_some (offers_at c p) acts) k e
      (and_from _ _ (ap (λ j. j == 0) z) h)))
      (cases_lt 0 k)

  -- an act that answered the place is an end of its element
  answered_here : how_many (enters c p) acts ≡ 1 → list_any (admits c p) acts ≡ false → list_any (resolver c p) acts ≡ true → ⊥
  answered_here one none e =
      let f = found (resolver c p) acts e in
      ⊎_elim
      (λ k. let n = any_count (answers c p) acts (f.2 (answers c p) k) in omega (arith, given.receivers, given.given))
      (λ m. ⊎_elim
      (λ k. let n = any_count (removes c p) acts (f.2 (removes c p) k) in omega (arith, nothing_left))
      (λ k. both_ways _ none (f.2 (admits c p) k))
      m)
      (resolver_is c p f.0 f.1)

  answered_elsewhere : (k d q : ℕ) (w : WaitId) → first_some (offers_at c p) acts ≡ Some k → wait_at c p acts ≡ Some w
      → list_any (admits c p) acts ≡ false → is_at c p d q ≡ false → Chosen acts d q w → ⊥
  answered_elsewhere k d q w e f none away h =
      ⊎_elim
      (λ l. select_ended k e l (or_right _ _ (and_from _ _ (ap not none)
      (wait_holds (λ u. is_chosen_elsewhere c p u acts) (wait_at c p acts) w f (chosen_elsewhere acts c p d q w away h)))))
      (λ l.
      let z : k ≡ 0 = omega arith in
      let m = alone acts s t.own c p d q w (e ∙ ap (λ x. Some x) z) f h.0 in
      both_ways _ (subst (λ x. is_at c p c x ≡ false) (sym m.1) (subst (λ x. is_at c p x q ≡ false) (sym m.0) away)) (here c p))
      (cases_lt 0 k)

  offered_unanswered : (k : ℕ) (w : WaitId) → how_many (enters c p) acts ≡ 1 → first_some (offers_at c p) acts ≡ Some k
      → wait_at c p acts ≡ Some w → list_any (admits c p) acts ≡ false → IsResolvedWait (s.waits w) → ⊥
  offered_unanswered k w one e f none h =
      ⊎_elim
      (λ x. taken_back k e (and_from _ _ (ap not none) (wait_holds (λ u. list_any (withdraws u) acts) (wait_at c p acts) w f x)))
      (λ x. by_place x.0 x.1 x.2 (is_at c p x.0 x.1) refl)
      (t.chosen.known w h)
    where
      by_place : (d q : ℕ) → Chosen acts d q w → (b : Bool) → is_at c p d q ≡ b → ⊥
      by_place d q x true m =
          let n = at_both c p d q m in
          answered_here one none (subst (λ j. list_any (resolver c j) acts ≡ true) n.1
          (subst (λ j. list_any (resolver j q) acts ≡ true) n.0 x.1))
      by_place d q x false m = answered_elsewhere k d q w e f none m x

  offered_stands : list_any (offers c p) acts ≡ true → PlaceStands c p acts s
  offered_stands e = by_admits (list_any (admits c p) acts) refl
    where
      by_admits : (b : Bool) → list_any (admits c p) acts ≡ b → PlaceStands c p acts s
      by_admits true a = freed_stands (any_freed c p acts (admits c p) (admit_frees c p) a)
      by_admits false a =
          let n = any_count (offers c p) acts e in
          let w = first_there (places_wait c p) (offers c p) (offer_waits c p) acts e in
          let k = first_there (offers_at c p) (offers c p) (offer_clause c p) acts e in
          ⊎_elim
          (λ r. absurd (offered_unanswered k.0 w.0 (omega (arith, enters_count c p acts, given.given)) k.1 w.1 a r))
          (λ x. held_stands w.0 x)
          (t.held.held c p w.0 e w.1)

  stands_where_held : (v : ℕ) → element_at c p acts ≡ Some v → PlaceStands c p acts s
  stands_where_held v e =
      ⊎_elim
      (λ h. handed_unsettled h)
      (λ m. ⊎_elim (λ k. freed_stands (any_freed c p acts (puts c p) (put_frees c p) k)) (λ k. offered_stands k) m)
      (element_came c p v acts e)

pub replay_held : (shape : Shape) (history : List Entry) (c p v : ℕ) → Legal shape history → element_at c p (acts_in history) ≡ Some v
    → (fate_at c p (acts_in history) ≡ fate.Held) ↔ StandsOrIsUnsettled c p v (acts_in history) (replay history)
replay_held shape history c p v l e =
    let acts = acts_in history in
    let s = replay history in
    let t = replay_traced shape history l in (
      λ f. let k = held_only (is_received c p acts) (is_undelivered_at c p acts) (is_dropped c p acts) (is_spurned c p acts)
          (is_withdrawn c p acts) f in
          either_holds (place_stands p (s.channels c).queue) _ _ (value_stands acts c p v (s.channels c).queue (t.told.known c).offers e)
          (stands_where_held shape acts s t c p k.0 k.1 k.2 k.3 k.4 v e),
      λ h. held_where_standing shape acts s t c p (either_holds (stands_in p v (s.channels c).queue) _ _
          (place_of_value p v (s.channels c).queue) h),
    )
