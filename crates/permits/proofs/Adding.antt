-- Free permits, permits on their way and permits that are held add up.
use Rattle.std.specs.Prelude.{◌≡◌, ℕ, ◌+◌, ◌-◌, ◌<◌, ◌≤◌, ◌==◌, nat_lt, Bool, true, false, cond, List, [], ◌∷◌, ◌++◌, refl, if◌then◌else◌}
use Rattle.std.specs.List.{list_all}
use mathlib.Core.List.{IsPrefix}
use Rattle.std.proofs.Common.{sym, ap, ◌∙◌, subst, arith, ⊎_elim}
use Rattle.std.proofs.lemmas.Bool.{eqb-true, cases_lt, true≢false}
use Rattle.std.proofs.lemmas.Bool.Decides.{nat_tests}
use Rattle.channel_model.specs.declared.acts.Act.{Act}
use Rattle.channel_model.specs.declared.acts.Entry.{Entry}
use Rattle.channel_model.specs.Channels.{Shape, start}
use Rattle.channel_model.specs.Histories.{Legal, acts_of, acts_in}
use Rattle.channel_model.specs.Laws.{how_many}
use Rattle.channel_model.proofs.Histories.{Legal-prefix, acts_of-append}
use Rattle.channel_model.proofs.Elements.{all_first, all_rest, all_more}
use Rattle.channel_model.proofs.Placed.{same_number}
use Rattle.channel_model.proofs.Sound.{sound_start}
use Rattle.permits.specs.Parts.{gets_permit, gives_permit, is_permit_act, got, given, is_filler, gave, held}
use Rattle.permits.specs.Laws.{are_below, permits_of, PermitsAddUp}
use Rattle.permits.proofs.Sums.{sum_plus, sum_same, sum_one, counted_by_tag}
use Rattle.permits.proofs.Flows.{weight, plain_start, flow, start_weighs}
use Rattle.permits.proofs.PartsGo.{given_on, filler_append}

-- each act of a history is one of its coroutine
all_fit : (p : Act → Bool) (es : List Entry) → ((k : ℕ) → list_all p (acts_of k es) ≡ true) → list_all p (acts_in es) ≡ true
unfolding acts_of
all_fit p [] h = refl
all_fit p (e ∷ es) h =
    let own : list_all p (e.act ∷ acts_of e.who es) ≡ true =
    ap (λ b. list_all p (if b then e.act ∷ acts_of e.who es else acts_of e.who es)) (sym (same_number e.who)) ∙ h e.who in
    all_more p e.act (acts_in es) (all_first p e.act (acts_of e.who es) own) (all_fit p es (λ k. rest k (e.who == k) (h k)))
  where
    rest : (k : ℕ) (b : Bool) → list_all p (if b then e.act ∷ acts_of k es else acts_of k es) ≡ true → list_all p (acts_of k es) ≡ true
    rest k true t = all_rest p e.act (acts_of k es) t
    rest k false t = t

all_left : {X : Type 0} (p : X → Bool) (xs ys : List X) → list_all p (xs ++ ys) ≡ true → list_all p xs ≡ true
all_left p [] ys h = refl
all_left p (x ∷ xs) ys h = all_more p x xs (all_first p x (xs ++ ys) h) (all_left p xs ys (all_rest p x (xs ++ ys) h))

-- the acts of a coroutine before are a beginning of those later
begins_own : (k : ℕ) (before history : List Entry) → IsPrefix before history → IsPrefix (acts_of k before) (acts_of k history)
begins_own k before history p = (acts_of k p.0, sym (acts_of-append k before p.0) ∙ ap (acts_of k) p.1)

-- a coroutine has no acts where all entries are of those below it
none_above : (p : Act → Bool) (m f : ℕ) (es : List Entry) → are_below m es ≡ true → m ≤ f → how_many p (acts_of f es) ≡ 0
unfolding acts_of
none_above p m f [] h le = refl
none_above p m f (e ∷ es) h le =
    let low : e.who < m = below (all_first (λ (x : Entry). nat_lt x.who m) e es h) in
    let other : (e.who == f) ≡ false = grind (arith, nat_tests) in
    ap (λ b. how_many p (if b then e.act ∷ acts_of f es else acts_of f es)) other
    ∙ none_above p m f es (all_rest (λ (x : Entry). nat_lt x.who m) e es h) le
  where
    below : nat_lt e.who m ≡ true → e.who < m
    below k = grind (arith, nat_tests)

pub add_up : (shape : Shape) (c n f m : ℕ) (before history : List Entry) → PermitsAddUp shape c n f m before history
add_up shape c n f m before history kind legal h p filled low = record { all = all; few = omega (arith, all); covered = covered }
  where
    legal_before : Legal shape before
    legal_before = Legal-prefix shape before p.0 (subst (Legal shape) (sym p.1) legal)

    covered : (k : ℕ) → gave c n (acts_of k before) ≤ got c (acts_of k before)
    covered k = (h.parts k).covered (acts_of k before) (begins_own k before history p)

    fits : list_all (is_permit_act c) (acts_in before) ≡ true
    fits = all_fit (is_permit_act c) before (λ k. all_left (is_permit_act c) (acts_of k before) (acts_of k p.0)
        (ap (list_all (is_permit_act c)) (sym (acts_of-append k before p.0) ∙ ap (acts_of k) p.1) ∙ (h.parts k).fits))

    -- as the whole says
    filler_is : (k : ℕ) → 1 ≤ given c (acts_of k before) → is_filler c (acts_of k before) ≡ is_filler c (acts_of k history)
    filler_is k le =
        let o = given_on c (acts_of k before) in
        sym (filler_append c (acts_of k before) (acts_of k p.0) (omega arith))
        ∙ ap (is_filler c) (sym (acts_of-append k before p.0) ∙ ap (acts_of k) p.1)

    -- what a coroutine gave back, and the fill
    by_tag : (k : ℕ) → gave c n (acts_of k before) + cond (f == k) n 0 ≡ given c (acts_of k before)
    by_tag k = by_test (f == k) refl
      where
        other : (f == k) ≡ false → (b : Bool) → is_filler c (acts_of k before) ≡ b
            → (if b then given c (acts_of k before) - n else given c (acts_of k before)) ≡ given c (acts_of k before)
        other e false t = refl
        other e true t = ⊎_elim
            (λ z. let w : given c (acts_of k before) ≡ 0 = omega arith in omega arith)
            (λ some.
            let is : k ≡ f = h.only k (sym (filler_is k some) ∙ t) in
            let same : (f == k) ≡ true = grind (arith, nat_tests) in
            absurd (true≢false (sym same ∙ e)))
            (cases_lt (given c (acts_of k before)) 1)

        by_test : (b : Bool) → (f == k) ≡ b → gave c n (acts_of k before) + cond b n 0 ≡ given c (acts_of k before)
        by_test true e =
            let is : f ≡ k = eqb-true f k e in
            let filled' : n ≤ given c (acts_of k before) = subst (λ j. n ≤ given c (acts_of j before)) is filled in
            let t : is_filler c (acts_of k before) ≡ true = filler_is k (let s = h.some in omega arith)
            ∙ subst (λ j. is_filler c (acts_of j history) ≡ true) is h.filler in
            let g : gave c n (acts_of k before) ≡ given c (acts_of k before) - n =
            ap (λ b. if b then given c (acts_of k before) - n else given c (acts_of k before)) t in
            omega arith
        by_test false e = let o = other e (is_filler c (acts_of k before)) refl in omega arith

    f_low : f < m
    f_low = ⊎_elim (λ lt. lt) (λ le. let z = none_above (gives_permit c) m f before low le in let s = h.some
        in absurd (omega arith)) (cases_lt f m)

    all : permits_of c n m before ≡ n
    all =
        let w = flow shape c start before kind legal_before fits (sound_start shape) (plain_start c) in
        let z : weight c start ≡ 0 = start_weighs c in
        let gets = counted_by_tag (gets_permit c) m before low in
        let gives = counted_by_tag (gives_permit c) m before low in
        let one = sum_one m f n f_low in
        let a = sum_plus m (λ k. gave c n (acts_of k before)) (λ k. cond (f == k) n 0) in
        let b = sum_same m (λ k. gave c n (acts_of k before) + cond (f == k) n 0) (λ k. given c (acts_of k before)) by_tag in
        let d = sum_plus m (λ k. held c n (acts_of k before)) (λ k. gave c n (acts_of k before)) in
        let e = sum_same m (λ k. held c n (acts_of k before) + gave c n (acts_of k before)) (λ k. got c (acts_of k before))
        (λ k. let v = covered k in omega arith) in
        omega arith
