-- The tally of a caller that has one wait at a time.
use Rattle.std.specs.Prelude.{◌≡◌, ℕ, ◌+◌, Bool, true, false, ◌&&◌, ◌||◌, cond, List, [], ◌∷◌, ◌++◌, Option, Some, None, refl}
use Rattle.std.specs.List.{list_any}
use Rattle.std.proofs.Common.{sym, ap, ◌∙◌, subst, arith}
use Rattle.std.proofs.Math.Bool.{or-true}
use Rattle.std.proofs.lemmas.Bool.{and_parts}
use Rattle.co_base.specs.declared.names.WaitId.{WaitId}
use Rattle.channel_model.specs.declared.acts.Act.{Act}
use Rattle.channel_model.specs.declared.acts.Act.TheVariants.{Offer, Await, Settle}
use Rattle.channel_model.specs.Fates.{is_wait}
use Rattle.channel_model.specs.Laws.{how_many}
use Rattle.channel_model.proofs.Waits.{same_wait-eq, same_wait-refl}
use Rattle.tally_laws.specs.Counts.{Counts, added}
use Rattle.tally_laws.specs.Kinds.{settles_wait}
use Rattle.tally_laws.specs.Tallies.{Tally, count_of, with_act, with_acts}
use Rattle.tally_laws.specs.Settlings.{may_name, has_one_wait}

-- the wait that the caller has after an act, or after all
abbrev pub wait_after : Option WaitId → Act → Option WaitId
wait_after o (Offer c p v w k) = Some w
wait_after o (Await c p w k) = Some w
wait_after o (Settle w outcome) = None
wait_after o other = o

abbrev pub waits_after : Option WaitId → List Act → Option WaitId
waits_after o [] = o
waits_after o (a ∷ acts) = waits_after (wait_after o a) acts

-- the act names or settles the wait that the caller has, or begins one where it has none
abbrev pub fits_wait : Option WaitId → Act → Bool
fits_wait o (Offer c p v w k) = may_name w o
fits_wait o (Await c p w k) = may_name w o
fits_wait o (Settle w outcome) = is_wait w o
fits_wait o other = true

-- ---- one act more

pub wait_last : (o : Option WaitId) (xs : List Act) (a : Act) → waits_after o (xs ++ a ∷ []) ≡ wait_after (waits_after o xs) a
wait_last o [] a = refl
wait_last o (x ∷ xs) a = wait_last (wait_after o x) xs a

pub act_last : (t : Tally) (xs : List Act) (a : Act) → with_acts t (xs ++ a ∷ []) ≡ with_act (with_acts t xs) a
act_last t [] a = refl
act_last t (x ∷ xs) a = act_last (with_act t x) xs a

one_by_one : (o : Option WaitId) (a : Act) (acts : List Act)
    → has_one_wait o (a ∷ acts) ≡ (fits_wait o a && has_one_wait (wait_after o a) acts)
one_by_one o (Offer c p v w k) acts = refl
one_by_one o other acts = refl

-- behind some acts, the next one fits
pub fits_next : (o : Option WaitId) (xs : List Act) (a : Act) (ys : List Act) → has_one_wait o (xs ++ a ∷ ys) ≡ true
    → fits_wait (waits_after o xs) a ≡ true
fits_next o [] a ys h = (and_parts (fits_wait o a) (has_one_wait (wait_after o a) ys) (sym (one_by_one o a ys) ∙ h)).0
fits_next o (x ∷ xs) a ys h = fits_next (wait_after o x) xs a ys
    (and_parts (fits_wait o x) (has_one_wait (wait_after o x) (xs ++ a ∷ ys)) (sym (one_by_one o x (xs ++ a ∷ ys)) ∙ h)).1

-- ---- counts that need no wait

pub stateless : (field : Counts → ℕ) (f : Act → Bool) → ((x y : Counts) → field (added x y) ≡ field x + field y)
    → ((t : Tally) (a : Act) → field (count_of t a) ≡ cond (f a) 1 0)
    → (t : Tally) (acts : List Act) → field (with_acts t acts).counts ≡ field t.counts + how_many f acts
stateless field f add step t [] = omega arith
stateless field f add step t (a ∷ acts) =
    let k = stateless field f add step (with_act t a) acts in
    let m = add t.counts (count_of t a) in
    let n = step t a in
    omega arith

-- ---- offers of waits that are settled

-- what is owed for the offers of the wait that the caller has
abbrev owed : (WaitId → Bool) → Option WaitId → ℕ → ℕ
owed ends None n = 0
owed ends (Some w) n = cond (ends w) n 0

abbrev pub offers_as : (WaitId → Bool) → Act → Bool
offers_as ends (Offer c p v w k) = ends w
offers_as ends other = false

-- no offer is open where the caller has no wait
abbrev pub OpenFits : Option WaitId → ℕ → Type 0
OpenFits None n = n ≡ 0
OpenFits (Some w) n = Unit {0}

-- each that is settled ends
abbrev SettledEnd : (WaitId → Bool) → List Act → Type 0
SettledEnd ends acts = (w : WaitId) → list_any (settles_wait w) acts ≡ true → ends w ≡ true

later : (ends : WaitId → Bool) (a : Act) (acts : List Act) → SettledEnd ends (a ∷ acts) → SettledEnd ends acts
later ends a acts h w e = h w (ap (λ b. settles_wait w a || b) e ∙ or-true (settles_wait w a))

one_more : (b : Bool) (n : ℕ) → cond b (n + 1) 0 ≡ cond b n 0 + cond b 1 0
one_more true n = refl
one_more false n = refl

of_none : (b : Bool) (n : ℕ) → n ≡ 0 → cond b n 0 ≡ 0
of_none true n h = h
of_none false n h = refl

offered_then : (ends : WaitId → Bool) (o : Option WaitId) (w : WaitId) (n : ℕ) → OpenFits o n → may_name w o ≡ true
    → cond (ends w) (n + 1) 0 ≡ owed ends o n + cond (ends w) 1 0
offered_then ends None w n h e = one_more (ends w) n ∙ ap (λ m. m + cond (ends w) 1 0) (of_none (ends w) n h)
offered_then ends (Some u) w n h e = subst (λ x. cond (ends w) (n + 1) 0 ≡ cond (ends x) n 0 + cond (ends w) 1 0) (same_wait-eq w u e)
    (one_more (ends w) n)

awaited_then : (ends : WaitId → Bool) (o : Option WaitId) (w : WaitId) (n : ℕ) → OpenFits o n → may_name w o ≡ true
    → cond (ends w) n 0 ≡ owed ends o n
awaited_then ends None w n h e = of_none (ends w) n h
awaited_then ends (Some u) w n h e = subst (λ x. cond (ends w) n 0 ≡ cond (ends x) n 0) (same_wait-eq w u e) refl

settled_then : (ends : WaitId → Bool) (o : Option WaitId) (w : WaitId) (n : ℕ) → is_wait w o ≡ true → ends w ≡ true → owed ends o n ≡ n
settled_then ends None w n e h = cc
settled_then ends (Some u) w n e h = ap (λ b. cond b n 0) (ap ends (sym (same_wait-eq w u e)) ∙ h)

none_owed : (ends : WaitId → Bool) (o : Option WaitId) (n : ℕ) → ((w : WaitId) → o ≡ Some w → ends w ≡ false) → owed ends o n ≡ 0
none_owed ends None n h = refl
none_owed ends (Some w) n h = ap (λ b. cond b n 0) (h w refl)

-- all offers of waits that end are counted, but for those that are still owed
pub ended_offers : (ends : WaitId → Bool) (o : Option WaitId) (t : Tally) (acts : List Act) → OpenFits o t.open_offers
    → has_one_wait o acts ≡ true → SettledEnd ends acts → ((w : WaitId) → waits_after o acts ≡ Some w → ends w ≡ false)
    → (with_acts t acts).counts.ended ≡ t.counts.ended + (owed ends o t.open_offers + how_many (offers_as ends) acts)
ended_offers ends o t [] fits one se last = let k = none_owed ends o t.open_offers last in omega arith
ended_offers ends o t (Offer c p v w k ∷ acts) fits one se last =
    let b = and_parts (may_name w o) (has_one_wait (Some w) acts) one in
    let r = ended_offers ends (Some w) (with_act t (Offer c p v w k)) acts tt b.1 (later ends (Offer c p v w k) acts se) last in
    let m = offered_then ends o w t.open_offers fits b.0 in
    omega arith
ended_offers ends o t (Await c p w k ∷ acts) fits one se last =
    let b = and_parts (may_name w o) (has_one_wait (Some w) acts) one in
    let r = ended_offers ends (Some w) (with_act t (Await c p w k)) acts tt b.1 (later ends (Await c p w k) acts se) last in
    let m = awaited_then ends o w t.open_offers fits b.0 in
    omega arith
ended_offers ends o t (Settle w outcome ∷ acts) fits one se last =
    let b = and_parts (is_wait w o) (has_one_wait None acts) one in
    let r = ended_offers ends None (with_act t (Settle w outcome)) acts refl b.1 (later ends (Settle w outcome) acts se) last in
    let m = settled_then ends o w t.open_offers b.0 (se w (ap (λ x. x || list_any (settles_wait w) acts) (same_wait-refl w))) in
    omega arith
ended_offers ends o t (other ∷ acts) fits one se last =
    let r = ended_offers ends o (with_act t other) acts fits one (later ends other acts se) last in
    omega arith
