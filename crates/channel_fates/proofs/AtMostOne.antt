-- At most one fate applies to the element of a place.
use Rattle.std.specs.Prelude.{◌≡◌, ℕ, ◌+◌, ◌≤◌, ◌==◌, nat_lt, Bool, true, false, not, ◌&&◌, ◌||◌, cond, List, [], ◌∷◌, Option, Some, None, refl, ◌⊎◌}
use Rattle.std.specs.List.{list_any}
use Rattle.std.proofs.Common.{sym, ap, ◌∙◌, subst, arith, inl, inr, ⊎_elim}
use Rattle.std.proofs.lemmas.Bool.{or_cases, and_parts, not-true}
use Rattle.co_base.specs.declared.names.WaitId.{WaitId}
use Rattle.channel_model.specs.declared.acts.Act.{Act}
use Rattle.channel_model.specs.declared.acts.Act.TheVariants.{Take, Drop, Spurn, Drain}
use Rattle.channel_model.specs.declared.acts.Entry.{Entry}
use Rattle.channel_model.specs.Channels.{Shape, State, kind_at}
use Rattle.channel_model.specs.Histories.{replay, acts_in, Legal}
use Rattle.channel_model.specs.Fates.{is_at, hands, takes, admits, drops_at, spurns_at, drains, withdraws, settles_value, settles_undelivered, resolves_at, offers_at, first_some, wait_at, is_wait, resolves_elsewhere, is_chosen_elsewhere, of_wait, of_offer, is_received, is_taken_back, is_undelivered_at, is_dropped, is_spurned, is_withdrawn, removes}
use Rattle.channel_model.specs.Laws.{how_many}
use Rattle.channel_fates.specs.OneFate.{IsAtMostOneFate}
use Rattle.channel_model.proofs.Waits.{same_wait-eq}
use Rattle.channel_fates.proofs.Appended.{any_count, found}
use Rattle.channel_fates.proofs.OncePlaced.{enters, Counted}
use Rattle.channel_fates.proofs.StandsByActs.{offers, enters_count, handed_answered, clause_offered, here}
use Rattle.channel_fates.proofs.Chosen.{Chosen, resolver, is_this}
use Rattle.channel_fates.proofs.Endings.{waits_or_drops, waits_or_spurns}
use Rattle.channel_fates.proofs.OwnPlaces.{two_clauses}
use Rattle.channel_fates.proofs.Traced.{Traced, replay_traced}

-- ---- what each test says

pub some_wait : (f : WaitId → Bool) (o : Option WaitId) → of_wait f o ≡ true → (w : WaitId) × (o ≡ Some w) × (f w ≡ true)
some_wait f None e = cc
some_wait f (Some w) e = (w, refl, e)

pub some_offer : (f : ℕ → Bool) (o : Option ℕ) → of_offer f o ≡ true → (k : ℕ) × (o ≡ Some k) × (f k ≡ true)
some_offer f None e = cc
some_offer f (Some k) e = (k, refl, e)

-- handed, and the wait of the place passes the test
abbrev pub HandedAs : (WaitId → Bool) → ℕ → ℕ → List Act → Type 0
HandedAs f c p acts = (list_any (hands c p) acts ≡ true) × ((w : WaitId) × (wait_at c p acts ≡ Some w) × (f w ≡ true))

handed_as : (f : WaitId → Bool) (c p : ℕ) (acts : List Act) → (list_any (hands c p) acts && of_wait f (wait_at c p acts)) ≡ true
    → HandedAs f c p acts
handed_as f c p acts e = let k = and_parts _ _ e in (k.0, some_wait f (wait_at c p acts) k.1)

abbrev pub ends_as : (WaitId → Act → Bool) → List Act → WaitId → Bool
ends_as test acts w = list_any (test w) acts

pub received_is : (c p : ℕ) (acts : List Act) → is_received c p acts ≡ true → (list_any (takes c p) acts ≡ true)
    ⊎ HandedAs (ends_as settles_value acts) c p acts
received_is c p acts e = ⊎_elim (λ k. inl k) (λ k. inr (handed_as (ends_as settles_value acts) c p acts k)) (or_cases _ _ e)

-- a wait of an offer here was withdrawn, or answered elsewhere
abbrev pub OtherEnd : ℕ → ℕ → List Act → WaitId → Type 0
OtherEnd c p acts w = (list_any (withdraws w) acts ≡ true) ⊎ ((d : ℕ) × (q : ℕ) × (is_at c p d q ≡ false) × Chosen acts d q w)

-- offered at this clause by a wait that ended otherwise
abbrev pub OfferedAs : (ℕ → Bool) → ℕ → ℕ → List Act → Type 0
OfferedAs f c p acts = (k : ℕ) × (first_some (offers_at c p) acts ≡ Some k) × (f k ≡ true)
    × ((w : WaitId) × (wait_at c p acts ≡ Some w) × OtherEnd c p acts w)

taken_back_is : (c p : ℕ) (acts : List Act) → is_taken_back c p acts ≡ true → (w : WaitId) × (wait_at c p acts ≡ Some w)
    × OtherEnd c p acts w
taken_back_is c p acts e = let k = some_wait (λ w. list_any (withdraws w) acts) (wait_at c p acts) (and_parts _ _ e).1
    in (k.0, k.1, inl k.2)

is_wait_some : (w : WaitId) (o : Option WaitId) → is_wait w o ≡ true → o ≡ Some w
is_wait_some w None e = cc
is_wait_some w (Some v) e = ap (λ u. Some u) (sym (same_wait-eq w v e))

elsewhere_at : (c p : ℕ) (w : WaitId) (acts : List Act) (o : Option (ℕ × ℕ)) → resolves_elsewhere c p w acts o ≡ true → (d : ℕ) × (q : ℕ)
    × (o ≡ Some (d, q)) × (is_at c p d q ≡ false) × (wait_at d q acts ≡ Some w)
elsewhere_at c p w acts None e = cc
elsewhere_at c p w acts (Some x) e = let k = and_parts _ _ e in (x.0, x.1, refl, not-true _ k.0, is_wait_some w (wait_at x.0 x.1 acts) k.1)

pub elsewhere_is : (c p : ℕ) (w : WaitId) (acts : List Act) → is_chosen_elsewhere c p w acts ≡ true → (d : ℕ) × (q : ℕ)
    × (is_at c p d q ≡ false) × Chosen acts d q w
elsewhere_is c p w acts e =
    let f = found (λ a. resolves_elsewhere c p w acts (resolves_at a)) acts e in
    let k = elsewhere_at c p w acts (resolves_at f.0) f.1 in
    (k.0, k.1, k.3, (k.4, f.2 (resolver k.0 k.1) (ap (is_this k.0 k.1) k.2 ∙ here k.0 k.1)))

pub undelivered_is : (c p : ℕ) (acts : List Act) → is_undelivered_at c p acts ≡ true → (list_any (drains c p) acts ≡ true)
    ⊎ (HandedAs (ends_as settles_undelivered acts) c p acts ⊎ OfferedAs (λ k. k == 0) c p acts)
undelivered_is c p acts e =
    ⊎_elim
    (λ k. inl k)
    (λ m. inr (⊎_elim
    (λ k. inl (handed_as (ends_as settles_undelivered acts) c p acts k))
    (λ k.
    let o = some_offer (λ k. (k == 0) && is_taken_back c p acts) (first_some (offers_at c p) acts) k in
    let b = and_parts _ _ o.2 in
    inr (o.0, o.1, b.0, taken_back_is c p acts b.1))
    (or_cases _ _ m)))
    (or_cases _ _ e)

pub withdrawn_is : (c p : ℕ) (acts : List Act) → is_withdrawn c p acts ≡ true → OfferedAs (λ k. nat_lt 0 k) c p acts
withdrawn_is c p acts e =
    let o = some_offer (λ k. nat_lt 0 k && (is_taken_back c p acts
    || (not (list_any (admits c p) acts) && of_wait (λ w. is_chosen_elsewhere c p w acts) (wait_at c p acts))))
    (first_some (offers_at c p) acts) e in
    let b = and_parts _ _ o.2 in (
      o.0,
      o.1,
      b.0,
      ⊎_elim
          (λ k. taken_back_is c p acts k)
          (λ k. let x = some_wait (λ w. is_chosen_elsewhere c p w acts) (wait_at c p acts) (and_parts _ _ k).1
          in (x.0, x.1, inr (elsewhere_is c p x.0 acts x.2)))
          (or_cases _ _ b.1),
    )

-- ---- counts

one_leaves : (c p : ℕ) (act : Act) → cond (takes c p act) 1 0 + cond (drains c p act) 1 0 + cond (drops_at c p act) 1 0 + cond
    (spurns_at c p act) 1 0 ≡ cond (removes c p act) 1 0
one_leaves c p (Take d q v) = omega arith
one_leaves c p (Drop d q v) = omega arith
one_leaves c p (Spurn d q v) = omega arith
one_leaves c p (Drain d q v) = omega arith
one_leaves c p other = refl

pub leaves_count : (c p : ℕ) (acts : List Act) → how_many (takes c p) acts + how_many (drains c p) acts + how_many (drops_at c p) acts +
    how_many (spurns_at c p) acts ≡ how_many (removes c p) acts
leaves_count c p [] = refl
leaves_count c p (a ∷ acts) = let k = one_leaves c p a in let m = leaves_count c p acts in omega arith

takes_resolve : (c p : ℕ) (act : Act) → takes c p act ≡ true → resolver c p act ≡ true
takes_resolve c p (Take d q v) e = e
takes_resolve c p other e = cc

pub drains_resolve : (c p : ℕ) (act : Act) → drains c p act ≡ true → resolver c p act ≡ true
drains_resolve c p (Drain d q v) e = e
drains_resolve c p other e = cc

taken_resolved : (c p : ℕ) (acts : List Act) → list_any (takes c p) acts ≡ true → list_any (resolver c p) acts ≡ true
taken_resolved c p acts e = let f = found (takes c p) acts e in f.2 (resolver c p) (takes_resolve c p f.0 f.1)

drained_resolved : (c p : ℕ) (acts : List Act) → list_any (drains c p) acts ≡ true → list_any (resolver c p) acts ≡ true
drained_resolved c p acts e = let f = found (drains c p) acts e in f.2 (resolver c p) (drains_resolve c p f.0 f.1)

apart_sum : (a b : Bool) → (a ≡ true → b ≡ true → ⊥) → cond a 1 0 + cond b 1 0 ≤ 1
apart_sum true true h = absurd (h refl refl)
apart_sum true false h = omega arith
apart_sum false true h = omega arith
apart_sum false false h = omega arith

one_of : (r u d x w : Bool) → (r ≡ true → u ≡ true → ⊥) → (r ≡ true → d ≡ true → ⊥) → (r ≡ true → x ≡ true → ⊥) → (r ≡ true → w ≡ true → ⊥)
    → (u ≡ true → d ≡ true → ⊥) → (u ≡ true → x ≡ true → ⊥) → (u ≡ true → w ≡ true → ⊥) → (d ≡ true → x ≡ true → ⊥)
    → (d ≡ true → w ≡ true → ⊥)
    → (x ≡ true → w ≡ true → ⊥) → how_many (λ (applies : Bool). applies) (r ∷ u ∷ d ∷ x ∷ w ∷ []) ≤ 1
one_of true u d x w ru rd rx rw ud ux uw dx dw xw = let a = apart_sum true u ru in let b = apart_sum true d rd
    in let g = apart_sum true x rx in let e = apart_sum true w rw in omega arith
one_of false true d x w ru rd rx rw ud ux uw dx dw xw = let b = apart_sum true d ud in let g = apart_sum true x ux
    in let e = apart_sum true w uw in omega arith
one_of false false true x w ru rd rx rw ud ux uw dx dw xw = let g = apart_sum true x dx in let e = apart_sum true w dw in omega arith
one_of false false false x w ru rd rx rw ud ux uw dx dw xw = let e = apart_sum x w xw in omega arith

-- ---- which two cannot both be

module _ (shape : Shape) (acts : List Act) (s : State) (t : Traced shape acts s) (c p : ℕ) where
  counted : Counted c p acts (s.channels c)
  counted = t.told.counted c p

  left_once : how_many (takes c p) acts + how_many (drains c p) acts + how_many (drops_at c p) acts + how_many (spurns_at c p) acts ≤ 1
  left_once = omega (arith, leaves_count c p acts, counted.queue, counted.given)

  -- a place whose receiver was handed an element had no other element
  pub handed_alone : list_any (hands c p) acts ≡ true → how_many (enters c p) acts ≡ 0
  handed_alone e = let k = handed_answered c p acts e in omega (arith, counted.receivers, counted.given)

  pub handed_or_left : list_any (hands c p) acts ≡ true → 1 ≤ how_many (takes c p) acts + how_many (drains c p) acts + how_many
      (drops_at c p) acts + how_many (spurns_at c p) acts → ⊥
  handed_or_left e h = let k = handed_alone e in omega (arith, leaves_count c p acts, counted.queue)

  pub handed_or_offered : (k : ℕ) → list_any (hands c p) acts ≡ true → first_some (offers_at c p) acts ≡ Some k → ⊥
  handed_or_offered k e f =
      let m = handed_alone e in
      let n = any_count (offers c p) acts (clause_offered c p k acts f) in
      omega (arith, enters_count c p acts)

  -- a wait that was answered here has no other end
  pub resolved_here : (w : WaitId) → wait_at c p acts ≡ Some w → list_any (resolver c p) acts ≡ true → OtherEnd c p acts w → ⊥
  resolved_here w e r o =
      ⊎_elim
      (λ k. t.chosen.apart c p w (e, r) k)
      (λ x. let m = t.chosen.one c p x.0 x.1 w (e, r) x.3 in
      let f : is_at c p c p ≡ false = subst (λ q. is_at c p c q ≡ false) (sym m.1) (subst (λ d. is_at c p d x.1 ≡ false) (sym m.0) x.2) in
      let g = here c p in cc)
      o

  taken_or_otherwise : (f : ℕ → Bool) → list_any (takes c p) acts ≡ true → OfferedAs f c p acts → ⊥
  taken_or_otherwise f e o = resolved_here o.3.0 o.3.1 (taken_resolved c p acts e) o.3.2

  drained_or_otherwise : (f : ℕ → Bool) → list_any (drains c p) acts ≡ true → OfferedAs f c p acts → ⊥
  drained_or_otherwise f e o = resolved_here o.3.0 o.3.1 (drained_resolved c p acts e) o.3.2

  dropped_or_offered : (k : ℕ) → list_any (drops_at c p) acts ≡ true → first_some (offers_at c p) acts ≡ Some k → ⊥
  dropped_or_offered k e f =
      let d = t.kinds.dropped c p e in
      waits_or_drops (kind_at shape c) d.0 (t.kinds.offered c p (clause_offered c p k acts f)) d.1

  spurned_or_offered : (k : ℕ) → list_any (spurns_at c p) acts ≡ true → first_some (offers_at c p) acts ≡ Some k → ⊥
  spurned_or_offered k e f =
      let d = t.kinds.spurned c p e in
      waits_or_spurns (kind_at shape c) d.0 (t.kinds.offered c p (clause_offered c p k acts f)) d.1

  taken_once : list_any (takes c p) acts ≡ true → 1 ≤ how_many (drains c p) acts + how_many (drops_at c p) acts + how_many (spurns_at c p)
      acts → ⊥
  taken_once e h = let k = any_count (takes c p) acts e in omega (arith, left_once)

  handed_one_end : HandedAs (ends_as settles_value acts) c p acts → HandedAs (ends_as settles_undelivered acts) c p acts → ⊥
  handed_one_end h k =
      let e = h.1.1 in
      let f = k.1.1 in
      let same : k.1.0 ≡ h.1.0 = cc in
      t.ended.apart h.1.0 h.1.2 (subst (λ w. list_any (settles_undelivered w) acts ≡ true) same k.1.2)

  received_or_undelivered : is_received c p acts ≡ true → is_undelivered_at c p acts ≡ true → ⊥
  received_or_undelivered r u =
      ⊎_elim
      (λ e. ⊎_elim
      (λ f. let n = any_count (drains c p) acts f in taken_once e (omega arith))
      (λ m. ⊎_elim (λ h. let n = any_count (takes c p) acts e
      in handed_or_left h.0 (omega arith)) (λ o. taken_or_otherwise (λ k. k == 0) e o) m)
      (undelivered_is c p acts u))
      (λ h. ⊎_elim
      (λ f. let n = any_count (drains c p) acts f in handed_or_left h.0 (omega arith))
      (λ m. ⊎_elim (λ k. handed_one_end h k) (λ o. handed_or_offered o.0 h.0 o.1) m)
      (undelivered_is c p acts u))
      (received_is c p acts r)

  received_or_dropped : is_received c p acts ≡ true → is_dropped c p acts ≡ true → ⊥
  received_or_dropped r d =
      let n = any_count (drops_at c p) acts d in
      ⊎_elim (λ e. taken_once e (omega arith)) (λ h. handed_or_left h.0 (omega arith)) (received_is c p acts r)

  received_or_withdrawn : is_received c p acts ≡ true → is_withdrawn c p acts ≡ true → ⊥
  received_or_withdrawn r w =
      let o = withdrawn_is c p acts w in
      ⊎_elim (λ e. taken_or_otherwise (λ k. nat_lt 0 k) e o) (λ h. handed_or_offered o.0 h.0 o.1) (received_is c p acts r)

  undelivered_or_dropped : is_undelivered_at c p acts ≡ true → is_dropped c p acts ≡ true → ⊥
  undelivered_or_dropped u d =
      let n = any_count (drops_at c p) acts d in
      ⊎_elim
      (λ f. let m = any_count (drains c p) acts f in absurd (omega (arith, left_once)))
      (λ m. ⊎_elim (λ h. handed_or_left h.0 (omega arith)) (λ o. dropped_or_offered o.0 d o.1) m)
      (undelivered_is c p acts u)

  undelivered_or_withdrawn : is_undelivered_at c p acts ≡ true → is_withdrawn c p acts ≡ true → ⊥
  undelivered_or_withdrawn u w =
      let o = withdrawn_is c p acts w in
      ⊎_elim
      (λ f. drained_or_otherwise (λ k. nat_lt 0 k) f o)
      (λ m. ⊎_elim (λ h. handed_or_offered o.0 h.0 o.1) (λ x. two_clauses x.0 o.0 (let e = x.1 in let f = o.1 in cc) x.2 o.2) m)
      (undelivered_is c p acts u)

  dropped_or_withdrawn : is_dropped c p acts ≡ true → is_withdrawn c p acts ≡ true → ⊥
  dropped_or_withdrawn d w = let o = withdrawn_is c p acts w in dropped_or_offered o.0 d o.1

  received_or_spurned : is_received c p acts ≡ true → is_spurned c p acts ≡ true → ⊥
  received_or_spurned r d =
      let n = any_count (spurns_at c p) acts d in
      ⊎_elim (λ e. taken_once e (omega arith)) (λ h. handed_or_left h.0 (omega arith)) (received_is c p acts r)

  undelivered_or_spurned : is_undelivered_at c p acts ≡ true → is_spurned c p acts ≡ true → ⊥
  undelivered_or_spurned u d =
      let n = any_count (spurns_at c p) acts d in
      ⊎_elim
      (λ f. let m = any_count (drains c p) acts f in absurd (omega (arith, left_once)))
      (λ m. ⊎_elim (λ h. handed_or_left h.0 (omega arith)) (λ o. spurned_or_offered o.0 d o.1) m)
      (undelivered_is c p acts u)

  dropped_or_spurned : is_dropped c p acts ≡ true → is_spurned c p acts ≡ true → ⊥
  dropped_or_spurned d e =
      let n = any_count (drops_at c p) acts d in
      let m = any_count (spurns_at c p) acts e in
      absurd (omega (arith, left_once))

  spurned_or_withdrawn : is_spurned c p acts ≡ true → is_withdrawn c p acts ≡ true → ⊥
  spurned_or_withdrawn d w = let o = withdrawn_is c p acts w in spurned_or_offered o.0 d o.1

  one_fate : IsAtMostOneFate c p acts
  one_fate =
      one_of (is_received c p acts) (is_undelivered_at c p acts) (is_dropped c p acts) (is_spurned c p acts) (is_withdrawn c p acts)
      received_or_undelivered received_or_dropped received_or_spurned received_or_withdrawn undelivered_or_dropped
      undelivered_or_spurned
      undelivered_or_withdrawn dropped_or_spurned dropped_or_withdrawn spurned_or_withdrawn

pub replay_one_fate : (shape : Shape) (history : List Entry) (c p : ℕ) → Legal shape history → IsAtMostOneFate c p (acts_in history)
replay_one_fate shape history c p l = one_fate shape (acts_in history) (replay history) (replay_traced shape history l) c p
