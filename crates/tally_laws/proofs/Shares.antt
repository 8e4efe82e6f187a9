-- What the acts on one place come to: its element, what became of it, and how its wait was resolved.
use Rattle.std.specs.Prelude.{◌≡◌, ℕ, ◌+◌, ◌≤◌, ◌==◌, nat_lt, Bool, true, false, not, ◌&&◌, ◌||◌, cond, List, Option, Some, None, refl, is_some, if◌then◌else◌}
use Rattle.std.specs.List.{list_any}
use Rattle.std.proofs.Common.{sym, ap, ◌∙◌, subst, arith, inl, inr, ⊎_elim}
use Rattle.std.proofs.lemmas.Bool.{cases_lt, or_cases, and_parts, false_from_ne_true, and_from, and_right, or_right, both_ways}
use Rattle.std.proofs.lemmas.Bool.Decides.{nat_tests}
use Rattle.co_base.specs.declared.names.WaitId.{WaitId}
use Rattle.channel_model.specs.declared.acts.Act.{Act}
use Rattle.channel_model.specs.declared.acts.Act.TheVariants.{Hand, Put, Offer}
use Rattle.channel_model.specs.Channels.{Shape, State}
use Rattle.channel_model.specs.Answers.{IsResolvedWait, IsSettledWait}
use Rattle.channel_model.specs.Fates.{is_at, brings, hands, takes, admits, drops_at, spurns_at, drains, withdraws, settles_value, settles_undelivered, places_wait, offers_at, first_some, element_at, wait_at, is_chosen_elsewhere, of_wait, of_offer, is_received, is_taken_back, is_undelivered_at, is_dropped, is_spurned, is_withdrawn}
use Rattle.channel_model.specs.Laws.{how_many}
use Rattle.channel_fates.proofs.Appended.{any_count, none_count, found, first_found, first_there}
use Rattle.channel_fates.proofs.OncePlaced.{answers, Counted, at_both}
use Rattle.channel_fates.proofs.StandsByActs.{puts, offers, came, enters_count, clause_offered, here, hand_answers}
use Rattle.channel_fates.proofs.Chosen.{Chosen, resolver}
use Rattle.channel_fates.proofs.ChosenOnce.{admitted_resolved}
use Rattle.channel_fates.proofs.OwnPlaces.{alone, two_clauses}
use Rattle.channel_fates.proofs.Traced.{Traced}
use Rattle.channel_fates.proofs.AtMostOne.{some_wait, OtherEnd, undelivered_is, withdrawn_is, received_is, leaves_count, handed_or_left, handed_or_offered, resolved_here, drains_resolve, some_offer}
use Rattle.tally_laws.specs.Kinds.{settles_wait}
use Rattle.tally_laws.specs.Settlings.{ResolvedAreSettled}
use Rattle.tally_laws.proofs.Counting.{any_one, count_less}
use Rattle.channel_fates.proofs.HeldFates.{chosen_elsewhere, offer_waits, offer_clause}

-- ---- words

-- handed, and an act of this sort ends the wait of the place
abbrev pub is_handed_as : (WaitId → Act → Bool) → List Act → ℕ → ℕ → Bool
is_handed_as test acts c p = list_any (hands c p) acts && of_wait (λ w. list_any (test w) acts) (wait_at c p acts)

-- a plain offer whose wait was withdrawn
abbrev pub is_taken_offer : List Act → ℕ → ℕ → Bool
is_taken_offer acts c p = of_offer (λ k. (k == 0) && is_taken_back c p acts) (first_some (offers_at c p) acts)

-- an act at the place resolved its wait, which is settled
abbrev pub is_chosen_at : List Act → ℕ → ℕ → Bool
is_chosen_at acts c p = list_any (resolver c p) acts && of_wait (λ w. list_any (settles_wait w) acts) (wait_at c p acts)

-- an offer at which its wait was resolved
abbrev pub is_sent_at : List Act → ℕ → ℕ → Bool
is_sent_at acts c p = list_any (offers c p) acts && is_chosen_at acts c p

-- an offer whose wait is not settled
abbrev pub is_open_at : List Act → ℕ → ℕ → Bool
is_open_at acts c p = list_any (offers c p) acts && of_wait (λ w. not (list_any (settles_wait w) acts)) (wait_at c p acts)

-- ---- tests

pub or_sum : (a b : Bool) → (a ≡ true → b ≡ true → ⊥) → cond (a || b) 1 0 ≡ cond a 1 0 + cond b 1 0
or_sum true true h = absurd (h refl refl)
or_sum true false h = omega arith
or_sum false b h = omega arith

pub counts_one : (b : Bool) → b ≡ true → ◌≡◌ {A = ℕ} (cond b 1 0) 1
counts_one b e = ap (λ x. cond x 1 0) e

pub counts_none : (b : Bool) → b ≡ false → ◌≡◌ {A = ℕ} (cond b 1 0) 0
counts_none b e = ap (λ x. cond x 1 0) e

brought : (b : Bool) (v : ℕ) → b ≡ true → (x : ℕ) × ((if b then Some v else None) ≡ Some x)
brought true v e = (v, refl)
brought false v e = cc

hand_brings : (c p : ℕ) (act : Act) → hands c p act ≡ true → (v : ℕ) × (brings c p act ≡ Some v)
hand_brings c p (Hand d q v) e = brought (is_at c p d q) v e
hand_brings c p other e = cc

put_brings : (c p : ℕ) (act : Act) → puts c p act ≡ true → (v : ℕ) × (brings c p act ≡ Some v)
put_brings c p (Put d q v) e = brought (is_at c p d q) v e
put_brings c p other e = cc

offer_brings : (c p : ℕ) (act : Act) → offers c p act ≡ true → (v : ℕ) × (brings c p act ≡ Some v)
offer_brings c p (Offer d q v w k) e = brought (is_at c p d q) v e
offer_brings c p other e = cc

-- ---- one place

module _ (shape : Shape) (acts : List Act) (s : State) (t : Traced shape acts s) (c p : ℕ) where
  counted : Counted c p acts (s.channels c)
  counted = t.told.counted c p

  hands_few : how_many (hands c p) acts ≤ how_many (answers c p) acts
  hands_few = count_less (hands c p) (answers c p) (hand_answers c p) acts

  brought_once : how_many (hands c p) acts + (how_many (puts c p) acts + how_many (offers c p) acts) ≤ 1
  brought_once = let e = enters_count c p acts in omega (arith, hands_few, counted.receivers, counted.given)

  left_once : how_many (takes c p) acts + how_many (drains c p) acts + how_many (drops_at c p) acts + how_many (spurns_at c p) acts ≤ 1
  left_once = omega (arith, leaves_count c p acts, counted.queue, counted.given)

  -- what left was brought
  left_brought : 1 ≤ how_many (takes c p) acts + how_many (drains c p) acts + how_many (drops_at c p) acts + how_many (spurns_at c p) acts
      → 1 ≤ how_many (puts c p) acts + how_many (offers c p) acts
  left_brought h = omega (arith, leaves_count c p acts, counted.queue, enters_count c p acts)

  there : {f : Act → Bool} → ((act : Act) → f act ≡ true → (v : ℕ) × (brings c p act ≡ Some v)) → list_any f acts ≡ true
      → is_some (element_at c p acts) ≡ true
  there {f} k e = let x = first_there (brings c p) f k acts e in ap is_some x.1

  -- where something was brought, there is an element
  element_there : 1 ≤ how_many (hands c p) acts + (how_many (puts c p) acts + how_many (offers c p) acts)
      → is_some (element_at c p acts) ≡ true
  element_there h = by_tests (list_any (hands c p) acts) (list_any (puts c p) acts) (list_any (offers c p) acts) refl refl refl
    where
      by_tests : (a b d : Bool) → list_any (hands c p) acts ≡ a → list_any (puts c p) acts ≡ b → list_any (offers c p) acts ≡ d
          → is_some (element_at c p acts) ≡ true
      by_tests true b d e f g = there (hand_brings c p) e
      by_tests false true d e f g = there (put_brings c p) f
      by_tests false false true e f g = there (offer_brings c p) g
      by_tests false false false e f g =
          let x = none_count (hands c p) acts e in
          let y = none_count (puts c p) acts f in
          let z = none_count (offers c p) acts g in
          absurd (omega arith)

  -- an element is there exactly where one act brought it
  pub element_share : cond (is_some (element_at c p acts)) 1 0 ≡
      how_many (hands c p) acts + (how_many (puts c p) acts + how_many (offers c p) acts)
  element_share = by_element (element_at c p acts) refl
    where
      by_element : (o : Option ℕ) → element_at c p acts ≡ o
          → cond (is_some o) 1 0 ≡ how_many (hands c p) acts + (how_many (puts c p) acts + how_many (offers c p) acts)
      by_element (Some v) e =
          let f = first_found (brings c p) acts v e in
          ⊎_elim
          (λ k. let n = any_count (hands c p) acts (f.2 (hands c p) k) in let m = brought_once in omega arith)
          (λ x. ⊎_elim
          (λ k. let n = any_count (puts c p) acts (f.2 (puts c p) k) in let m = brought_once in omega arith)
          (λ k. let n = any_count (offers c p) acts (f.2 (offers c p) k) in let m = brought_once in omega arith)
          x)
          (came c p v f.0 f.1)
      by_element None e =
          ⊎_elim
          (λ l. let k = element_there l in let m : is_some (element_at c p acts) ≡ false = ap is_some e in absurd (both_ways _ m k))
          (λ l. omega arith)
          (cases_lt 0 (how_many (hands c p) acts + (how_many (puts c p) acts + how_many (offers c p) acts)))

  -- ---- each fate is that of an element

  offered_there : (k : ℕ) → first_some (offers_at c p) acts ≡ Some k → is_some (element_at c p acts) ≡ true
  offered_there k e = there (offer_brings c p) (clause_offered c p k acts e)

  pub received_there : is_received c p acts ≡ true → is_some (element_at c p acts) ≡ true
  received_there e =
      ⊎_elim
      (λ k. let n = any_count (takes c p) acts k in let m = left_brought (omega arith) in element_there (omega arith))
      (λ h. there (hand_brings c p) h.0)
      (received_is c p acts e)

  pub undelivered_there : is_undelivered_at c p acts ≡ true → is_some (element_at c p acts) ≡ true
  undelivered_there e =
      ⊎_elim
      (λ k. let n = any_count (drains c p) acts k in let m = left_brought (omega arith) in element_there (omega arith))
      (λ x. ⊎_elim (λ h. there (hand_brings c p) h.0) (λ o. offered_there o.0 o.1) x)
      (undelivered_is c p acts e)

  pub dropped_there : is_dropped c p acts ≡ true → is_some (element_at c p acts) ≡ true
  dropped_there e = let n = any_count (drops_at c p) acts e in let m = left_brought (omega arith) in element_there (omega arith)

  pub spurned_there : is_spurned c p acts ≡ true → is_some (element_at c p acts) ≡ true
  spurned_there e = let n = any_count (spurns_at c p) acts e in let m = left_brought (omega arith) in element_there (omega arith)

  pub withdrawn_there : is_withdrawn c p acts ≡ true → is_some (element_at c p acts) ≡ true
  withdrawn_there e = let o = withdrawn_is c p acts e in offered_there o.0 o.1

  -- ---- received, undelivered, dropped, spurned

  handed_test : (test : WaitId → Act → Bool) → is_handed_as test acts c p ≡ true → list_any (hands c p) acts ≡ true
  handed_test test e = (and_parts _ _ e).0

  taken_offer_is : is_taken_offer acts c p ≡ true → (k : ℕ) × (first_some (offers_at c p) acts ≡ Some k) × ((k == 0) ≡ true)
      × ((w : WaitId) × (wait_at c p acts ≡ Some w) × (list_any (withdraws w) acts ≡ true))
  taken_offer_is e =
      let o = some_offer (λ k. (k == 0) && is_taken_back c p acts) (first_some (offers_at c p) acts) e in
      let b = and_parts _ _ o.2 in
      (o.0, o.1, b.0, some_wait (λ w. list_any (withdraws w) acts) (wait_at c p acts) (and_parts _ _ b.1).1)

  drained_resolved : list_any (drains c p) acts ≡ true → list_any (resolver c p) acts ≡ true
  drained_resolved e = let f = found (drains c p) acts e in f.2 (resolver c p) (drains_resolve c p f.0 f.1)

  pub received_share : cond (is_received c p acts) 1 0 ≡ how_many (takes c p) acts + cond (is_handed_as settles_value acts c p) 1 0
  received_share =
      let one = any_one (takes c p) acts (let m = left_once in omega arith) in
      let both = or_sum (list_any (takes c p) acts) (is_handed_as settles_value acts c p)
      (λ e h. let n = any_count (takes c p) acts e in handed_or_left shape acts s t c p (handed_test settles_value h) (omega arith)) in
      omega arith

  pub undelivered_share : cond (is_undelivered_at c p acts) 1 0 ≡
      how_many (drains c p) acts + (cond (is_handed_as settles_undelivered acts c p) 1 0 + cond (is_taken_offer acts c p) 1 0)
  undelivered_share =
      let one = any_one (drains c p) acts (let m = left_once in omega arith) in
      let two = or_sum (is_handed_as settles_undelivered acts c p) (is_taken_offer acts c p)
      (λ h o. let x = taken_offer_is o in handed_or_offered shape acts s t c p x.0 (handed_test settles_undelivered h) x.1) in
      let all = or_sum (list_any (drains c p) acts) (is_handed_as settles_undelivered acts c p || is_taken_offer acts c p)
      (λ e m. ⊎_elim
      (λ h. let n = any_count (drains c p) acts e in handed_or_left shape acts s t c p (handed_test settles_undelivered h) (omega arith))
      (λ o. let x = taken_offer_is o in resolved_here shape acts s t c p x.3.0 x.3.1 (drained_resolved e) (inl x.3.2))
      (or_cases _ _ m)) in
      omega arith

  pub dropped_share : cond (is_dropped c p acts) 1 0 ≡ how_many (drops_at c p) acts
  dropped_share = any_one (drops_at c p) acts (let m = left_once in omega arith)

  pub spurned_share : cond (is_spurned c p acts) 1 0 ≡ how_many (spurns_at c p) acts
  spurned_share = any_one (spurns_at c p) acts (let m = left_once in omega arith)

  -- ---- offers

  module _ (settled : (w : WaitId) → list_any (settles_wait w) acts ≡ true → IsSettledWait (s.waits w))
      (settles : (w : WaitId) → IsSettledWait (s.waits w) → list_any (settles_wait w) acts ≡ true) (rest : ResolvedAreSettled s) where
    -- the wait of the place had another end, or none
    other_resolved : (w v : WaitId) → wait_at c p acts ≡ Some w → wait_at c p acts ≡ Some v → OtherEnd c p acts v
        → IsResolvedWait (s.waits w)
    other_resolved w v e f o =
        let same : v ≡ w = cc in
        subst (λ u. IsResolvedWait (s.waits u)) same (⊎_elim (λ k. t.chosen.withdrawn v k) (λ x. t.chosen.resolved x.0 x.1 v x.3) o)

    -- the wait of an offer that is withdrawn, or was taken back, was resolved otherwise than here
    withdrawn_resolved : (w : WaitId) → wait_at c p acts ≡ Some w → is_withdrawn c p acts ≡ true → IsResolvedWait (s.waits w)
    withdrawn_resolved w e h = let o = withdrawn_is c p acts h in other_resolved w o.3.0 e o.3.1 o.3.2

    taken_resolved : (w : WaitId) → wait_at c p acts ≡ Some w → is_taken_offer acts c p ≡ true → IsResolvedWait (s.waits w)
    taken_resolved w e h = let o = taken_offer_is h in other_resolved w o.3.0 e o.3.1 (inl o.3.2)

    withdrawn_not_here : list_any (resolver c p) acts ≡ true → is_withdrawn c p acts ≡ true → ⊥
    withdrawn_not_here r h = let o = withdrawn_is c p acts h in resolved_here shape acts s t c p o.3.0 o.3.1 r o.3.2

    taken_not_here : list_any (resolver c p) acts ≡ true → is_taken_offer acts c p ≡ true → ⊥
    taken_not_here r h = let o = taken_offer_is h in resolved_here shape acts s t c p o.3.0 o.3.1 r (inl o.3.2)

    module _ (w : WaitId) (k : ℕ) (named : wait_at c p acts ≡ Some w) (clause : first_some (offers_at c p) acts ≡ Some k) where
      -- no number is that of a plain offer and that of a select's
      plain_not_withdrawn : (k == 0) ≡ true → is_withdrawn c p acts ≡ true → ⊥
      plain_not_withdrawn z h = let o = withdrawn_is c p acts h in two_clauses k o.0 (let e = o.1 in cc) z o.2

      select_not_taken : nat_lt 0 k ≡ true → is_taken_offer acts c p ≡ true → ⊥
      select_not_taken l h = let o = taken_offer_is h in two_clauses o.0 k (let e = o.1 in cc) o.2 l

      -- not answered here, and withdrawn
      taken_back_here : list_any (resolver c p) acts ≡ false → list_any (withdraws w) acts ≡ true → is_taken_back c p acts ≡ true
      taken_back_here r e =
          and_from (not (list_any (admits c p) acts)) _ (ap not
          (false_from_ne_true (list_any (admits c p) acts) (λ a. both_ways _ r (admitted_resolved c p acts a))))
          (ap (of_wait (λ v. list_any (withdraws v) acts)) named ∙ e)

      withdrawn_by : nat_lt 0 k ≡ true → (is_taken_back c p acts
          || (not (list_any (admits c p) acts) && of_wait (λ v. is_chosen_elsewhere c p v acts) (wait_at c p acts))) ≡ true
          → is_withdrawn c p acts ≡ true
      withdrawn_by l h =
          ap (of_offer (λ j. nat_lt 0 j && (is_taken_back c p acts
          || (not (list_any (admits c p) acts) && of_wait (λ v. is_chosen_elsewhere c p v acts) (wait_at c p acts))))) clause
          ∙ and_from (nat_lt 0 k) _ l h

      taken_by : (k == 0) ≡ true → is_taken_back c p acts ≡ true → is_taken_offer acts c p ≡ true
      taken_by z h = ap (of_offer (λ j. (j == 0) && is_taken_back c p acts)) clause ∙ and_from (k == 0) _ z h

      -- withdrawn or taken back, one of the two, where its wait had another end
      ended_otherwise : list_any (resolver c p) acts ≡ false → OtherEnd c p acts w
          → cond (is_withdrawn c p acts) 1 0 + cond (is_taken_offer acts c p) 1 0 ≡ 1
      ended_otherwise r o =
          ⊎_elim
          (λ l.
          let m : nat_lt 0 k ≡ true = grind (arith, nat_tests) in
          let a = counts_one (is_withdrawn c p acts) (withdrawn_by m (select_end o)) in
          let b = counts_none (is_taken_offer acts c p) (false_from_ne_true _ (select_not_taken m)) in
          omega arith)
          (λ l.
          let z : k ≡ 0 = omega arith in
          let m : (k == 0) ≡ true = ap (λ j. j == 0) z in
          let a = counts_none (is_withdrawn c p acts) (false_from_ne_true _ (plain_not_withdrawn m)) in
          let b = counts_one (is_taken_offer acts c p) (taken_by m (plain_end z o)) in
          omega arith)
          (cases_lt 0 k)
        where
          select_end : OtherEnd c p acts w → (is_taken_back c p acts
              || (not (list_any (admits c p) acts) && of_wait (λ v. is_chosen_elsewhere c p v acts) (wait_at c p acts))) ≡ true
          select_end o =
              ⊎_elim
              (λ e. ap (λ b. b || (not (list_any (admits c p) acts) && of_wait (λ v. is_chosen_elsewhere c p v acts) (wait_at c p acts)))
              (taken_back_here r e))
              (λ x. or_right (is_taken_back c p acts) _ (and_from (not (list_any (admits c p) acts)) _
              (ap not (false_from_ne_true (list_any (admits c p) acts) (λ a. both_ways _ r (admitted_resolved c p acts a))))
              (ap (of_wait (λ v. is_chosen_elsewhere c p v acts)) named ∙ chosen_elsewhere acts c p x.0 x.1 w x.2 x.3)))
              o

          plain_end : k ≡ 0 → OtherEnd c p acts w → is_taken_back c p acts ≡ true
          plain_end z o =
              ⊎_elim
              (λ e. taken_back_here r e)
              (λ x.
              let m = alone acts s t.own c p x.0 x.1 w (clause ∙ ap (λ j. Some j) z) named x.3.0 in
              absurd (both_ways _ (subst (λ d. is_at c p d p ≡ false) (sym m.0)
              (subst (λ q. is_at c p x.0 q ≡ false) (sym m.1) x.2)) (here c p)))
              o

      open_is : (b : Bool) → list_any (settles_wait w) acts ≡ b
          → of_wait (λ v. not (list_any (settles_wait v) acts)) (wait_at c p acts) ≡ not b
      open_is b e = ap (of_wait (λ v. not (list_any (settles_wait v) acts))) named ∙ ap not e

      chosen_is : (b : Bool) → list_any (settles_wait w) acts ≡ b → of_wait (λ v. list_any (settles_wait v) acts) (wait_at c p acts) ≡ b
      chosen_is b e = ap (of_wait (λ v. list_any (settles_wait v) acts)) named ∙ e

      pub named_share : 1 ≡ cond (is_withdrawn c p acts) 1 0 +
          (cond (is_taken_offer acts c p) 1 0 + (cond (is_chosen_at acts c p) 1 0 + cond
          (of_wait (λ v. not (list_any (settles_wait v) acts)) (wait_at c p acts)) 1 0))
      named_share = by_tests (list_any (settles_wait w) acts) (list_any (resolver c p) acts) refl refl
        where
          by_tests : (b r : Bool) → list_any (settles_wait w) acts ≡ b → list_any (resolver c p) acts ≡ r
              → 1 ≡ cond (is_withdrawn c p acts) 1 0 + (cond (is_taken_offer acts c p) 1 0 +
              (cond (is_chosen_at acts c p) 1 0 + cond (of_wait (λ v. not (list_any (settles_wait v) acts)) (wait_at c p acts)) 1 0))
          by_tests false r e f =
              let no : IsResolvedWait (s.waits w) → ⊥ = λ h. both_ways _ e (settles w (rest w h)) in
              let a = counts_none (is_withdrawn c p acts) (false_from_ne_true _ (λ h. no (withdrawn_resolved w named h))) in
              let b = counts_none (is_taken_offer acts c p) (false_from_ne_true _ (λ h. no (taken_resolved w named h))) in
              let x = counts_none (is_chosen_at acts c p) (and_right (list_any (resolver c p) acts) _ (chosen_is false e)) in
              let y = counts_one _ (open_is false e) in
              omega arith
          by_tests true true e f =
              let a = counts_none (is_withdrawn c p acts) (false_from_ne_true _ (withdrawn_not_here f)) in
              let b = counts_none (is_taken_offer acts c p) (false_from_ne_true _ (taken_not_here f)) in
              let x = counts_one (is_chosen_at acts c p) (and_from (list_any (resolver c p) acts) _ f (chosen_is true e)) in
              let y = counts_none _ (open_is true e) in
              omega arith
          by_tests true false e f =
              let h = t.ended.resolved w (settled w e) in
              let o : OtherEnd c p acts w = ⊎_elim (λ k. inl k) (λ x. inr
              (x.0, x.1, false_from_ne_true _ (λ at. not_here x.0 x.1 at x.2), x.2))
              (t.chosen.known w h) in
              let a = ended_otherwise f o in
              let x = counts_none (is_chosen_at acts c p) (ap (λ b. b
              && of_wait (λ v. list_any (settles_wait v) acts) (wait_at c p acts)) f) in
              let y = counts_none _ (open_is true e) in
              omega arith
            where
              not_here : (d q : ℕ) → is_at c p d q ≡ true → Chosen acts d q w → ⊥
              not_here d q at x =
                  let m = at_both c p d q at in
                  both_ways _ f (subst (λ j. list_any (resolver c j) acts ≡ true) m.1
                  (subst (λ j. list_any (resolver j q) acts ≡ true) m.0 x.1))

    -- an offer was withdrawn or taken back, or its wait was resolved at it, or is not settled
    pub offered_share : how_many (offers c p) acts ≡ cond (is_withdrawn c p acts) 1 0 +
        (cond (is_taken_offer acts c p) 1 0 + (cond (is_sent_at acts c p) 1 0 + cond (is_open_at acts c p) 1 0))
    offered_share = by_test (list_any (offers c p) acts) refl
      where
        Shared : Bool → Type 0
        Shared b = how_many (offers c p) acts ≡ cond (is_withdrawn c p acts) 1 0 +
            (cond (is_taken_offer acts c p) 1 0 + (cond (b && is_chosen_at acts c p) 1 0 + cond (b
            && of_wait (λ w. not (list_any (settles_wait w) acts)) (wait_at c p acts)) 1 0))

        by_test : (b : Bool) → list_any (offers c p) acts ≡ b → Shared b
        by_test true e =
            let w = first_there (places_wait c p) (offers c p) (offer_waits c p) acts e in
            let k = first_there (offers_at c p) (offers c p) (offer_clause c p) acts e in
            let n = any_count (offers c p) acts e in
            let m = brought_once in
            let h = named_share w.0 k.0 w.1 k.1 in
            omega arith
        by_test false e =
            let n = none_count (offers c p) acts e in
            let a = counts_none (is_withdrawn c p acts) (false_from_ne_true _ (λ h. let o = withdrawn_is c p acts h
            in both_ways _ e (clause_offered c p o.0 acts o.1))) in
            let b = counts_none (is_taken_offer acts c p) (false_from_ne_true _ (λ h. let o = taken_offer_is h
            in both_ways _ e (clause_offered c p o.0 acts o.1))) in
            omega arith
