-- The acts of one who uses permits, with one act more.
use Rattle.std.specs.Prelude.{◌≡◌, ℕ, ◌+◌, ◌-◌, ◌≤◌, ◌⊎◌, Bool, true, false, ◌&&◌, cond, List, [], ◌∷◌, ◌++◌, refl, if◌then◌else◌}
use mathlib.Core.List.{IsPrefix}
use Rattle.std.proofs.Common.{sym, ap, ◌∙◌, subst, arith, inl, inr, ⊎_elim}
use Rattle.channel_model.specs.declared.acts.Act.{Act}
use Rattle.channel_model.specs.declared.acts.Act.TheVariants.{Hand, Put, Take, Settle}
use Rattle.channel_model.specs.Laws.{how_many}
use Rattle.channel_model.proofs.Elements.{all_push}
use Rattle.permits.specs.Parts.{is_on, gets_permit, gives_permit, is_permit_act, brings_element, got, given, is_filler, gave, held, IsPermitPart}
use Rattle.channel_model.proofs.Others.{front_empty}
use Rattle.channel_model.proofs.Apart.{how_many_push}

-- ---- beginnings

-- a beginning of a list with one more is the whole, or one of the list
pub begins_push : {A : Type 0} (bs rest xs : List A) (x : A) → bs ++ rest ≡ xs ++ x ∷ [] → (bs ≡ xs ++ x ∷ []) ⊎ IsPrefix bs xs
begins_push [] rest xs x e = inr (xs, refl)
begins_push (b ∷ bs) rest [] x e =
    let k : bs ++ rest ≡ [] = cc in
    let n : bs ≡ [] = front_empty bs rest k in
    let f : b ≡ x = cc in
    inl (ap (λ l. b ∷ l) n ∙ ap (λ y. y ∷ []) f)
begins_push (b ∷ bs) rest (y ∷ ys) x e =
    let k : bs ++ rest ≡ ys ++ x ∷ [] = cc in
    let f : b ≡ y = cc in
    ⊎_elim
    (λ w. inl (ap (λ l. b ∷ l) w ∙ ap (λ z. z ∷ (ys ++ x ∷ [])) f))
    (λ p. inr (p.0, ap (λ l. b ∷ l) p.1 ∙ ap (λ z. z ∷ ys) f))
    (begins_push bs rest ys x k)

-- ---- counts

pub one_true : (b : Bool) → b ≡ true → cond b 1 0 ≡ (let n : ℕ = 1 in n)
one_true true e = refl
one_true false e = cc

pub one_false : (b : Bool) → b ≡ false → cond b 1 0 ≡ (let n : ℕ = 0 in n)
one_false true e = cc
one_false false e = refl

pub same_one : (a b : Bool) → a ≡ b → cond a 1 0 ≡ (let n : ℕ = cond b 1 0 in n)
same_one a b e = ap (λ (x : Bool). let n : ℕ = cond x 1 0 in n) e

pub count_append : {X : Type 0} (p : X → Bool) (xs ys : List X) → how_many p (xs ++ ys) ≡ how_many p xs + how_many p ys
count_append p [] ys = omega arith
count_append p (x ∷ xs) ys = let k = count_append p xs ys in omega arith

-- what gets or gives a permit of the channel names it
gets_on : (c : ℕ) (act : Act) → is_on c act ≡ false → gets_permit c act ≡ false
gets_on c (Take d p v) e = e
gets_on c (Settle w outcome) e = ap (λ (b : Bool). b && brings_element outcome) e
gets_on c other e = refl

gives_on : (c : ℕ) (act : Act) → is_on c act ≡ false → gives_permit c act ≡ false
gives_on c (Hand d p v) e = e
gives_on c (Put d p v) e = e
gives_on c other e = refl

pub got_on : (c : ℕ) (acts : List Act) → got c acts ≤ how_many (is_on c) acts
got_on c [] = omega arith
got_on c (a ∷ rest) = by_test (is_on c a) refl (got_on c rest)
  where
    by_test : (b : Bool) → is_on c a ≡ b → got c rest ≤ how_many (is_on c) rest
        → cond (gets_permit c a) 1 0 + got c rest ≤ cond b 1 0 + how_many (is_on c) rest
    by_test true e k = at_most (gets_permit c a)
      where
        at_most : (b : Bool) → cond b 1 0 + got c rest ≤ 1 + how_many (is_on c) rest
        at_most true = omega arith
        at_most false = omega arith
    by_test false e k = let n = one_false (gets_permit c a) (gets_on c a e) in omega (arith, n, k)

pub given_on : (c : ℕ) (acts : List Act) → given c acts ≤ how_many (is_on c) acts
given_on c [] = omega arith
given_on c (a ∷ rest) = by_test (is_on c a) refl (given_on c rest)
  where
    by_test : (b : Bool) → is_on c a ≡ b → given c rest ≤ how_many (is_on c) rest
        → cond (gives_permit c a) 1 0 + given c rest ≤ cond b 1 0 + how_many (is_on c) rest
    by_test true e k = at_most (gives_permit c a)
      where
        at_most : (b : Bool) → cond b 1 0 + given c rest ≤ 1 + how_many (is_on c) rest
        at_most true = omega arith
        at_most false = omega arith
    by_test false e k = let n = one_false (gives_permit c a) (gives_on c a e) in omega (arith, n, k)

-- ---- who is a filler

-- an act that gives nothing makes nobody a filler
pub filler_push : (c : ℕ) (acts : List Act) (act : Act) → gives_permit c act ≡ false → is_filler c (acts ++ act ∷ []) ≡ is_filler c acts
unfolding is_filler
filler_push c [] act e = by_test (is_on c act)
  where
    by_test : (b : Bool) → (if b then gives_permit c act else false) ≡ false
    by_test true = e
    by_test false = refl
filler_push c (a ∷ rest) act e = ap (λ r. if is_on c a then gives_permit c a else r) (filler_push c rest act e)

-- and after the first act on the channel that is settled
pub filler_append : (c : ℕ) (acts more : List Act) → 1 ≤ how_many (is_on c) acts → is_filler c (acts ++ more) ≡ is_filler c acts
unfolding is_filler
filler_append c [] more h = absurd (omega arith)
filler_append c (a ∷ rest) more h = by_test (is_on c a) h (filler_append c rest more)
  where
    by_test : (b : Bool) → 1 ≤ cond b 1 0 + how_many (is_on c) rest
        → (1 ≤ how_many (is_on c) rest → is_filler c (rest ++ more) ≡ is_filler c rest)
        → (if b then gives_permit c a else is_filler c (rest ++ more)) ≡ (if b then gives_permit c a else is_filler c rest)
    by_test true h k = refl
    by_test false h k = k (omega arith)

-- without acts on the channel
pub filler_none : (c : ℕ) (acts : List Act) → how_many (is_on c) acts ≡ 0 → is_filler c acts ≡ false
unfolding is_filler
filler_none c [] h = refl
filler_none c (a ∷ rest) h = by_test (is_on c a) h (filler_none c rest)
  where
    by_test : (b : Bool) → cond b 1 0 + how_many (is_on c) rest ≡ 0 → (how_many (is_on c) rest ≡ 0 → is_filler c rest ≡ false)
        → (if b then gives_permit c a else is_filler c rest) ≡ false
    by_test true h k = absurd (omega arith)
    by_test false h k = k (omega arith)

-- the first on the channel, and it gives
pub filler_first : (c : ℕ) (acts : List Act) (act : Act) → how_many (is_on c) acts ≡ 0 → is_on c act ≡ true → gives_permit c act ≡ true
    → is_filler c (acts ++ act ∷ []) ≡ true
unfolding is_filler
filler_first c [] act h e f = ap (λ b. if b then gives_permit c act else false) e ∙ f
filler_first c (a ∷ rest) act h e f = by_test (is_on c a) h (λ k. filler_first c rest act k e f)
  where
    by_test : (b : Bool) → cond b 1 0 + how_many (is_on c) rest ≡ 0 → (how_many (is_on c) rest ≡ 0 → is_filler c (rest ++ act ∷ []) ≡ true)
        → (if b then gives_permit c a else is_filler c (rest ++ act ∷ [])) ≡ true
    by_test true h k = absurd (omega arith)
    by_test false h k = k (omega arith)

-- ---- what was given back

pub gave_filler : (c n : ℕ) (acts : List Act) → is_filler c acts ≡ true → gave c n acts ≡ given c acts - n
gave_filler c n acts e = ap (λ b. if b then given c acts - n else given c acts) e

pub gave_other : (c n : ℕ) (acts : List Act) → is_filler c acts ≡ false → gave c n acts ≡ given c acts
gave_other c n acts e = ap (λ b. if b then given c acts - n else given c acts) e

-- an act that gives nothing
pub gave_same : (c n : ℕ) (acts : List Act) (act : Act) → gives_permit c act ≡ false → gave c n (acts ++ act ∷ []) ≡ gave c n acts
gave_same c n acts act e =
    let k : given c (acts ++ act ∷ []) ≡ given c acts = (let p = how_many_push (gives_permit c) acts act
    in let q = one_false (gives_permit c act) e in omega (arith, p, q)) in
    ap (λ b. if b then given c (acts ++ act ∷ []) - n else given c (acts ++ act ∷ [])) (filler_push c acts act e)
    ∙ ap (λ m. if is_filler c acts then m - n else m) k

-- an act that gives, of one who filled the channel or got something before
pub gave_more : (c n : ℕ) (acts : List Act) (act : Act) → 1 ≤ how_many (is_on c) acts → (is_filler c acts ≡ true → n ≤ given c acts)
    → gives_permit c act ≡ true → gave c n (acts ++ act ∷ []) ≡ gave c n acts + 1
gave_more c n acts act h filled e = by_test (is_filler c acts) refl
  where
    more : given c (acts ++ act ∷ []) ≡ given c acts + 1
    more = let p = how_many_push (gives_permit c) acts act in let q = one_true (gives_permit c act) e in omega (arith, p, q)

    by_test : (b : Bool) → is_filler c acts ≡ b → gave c n (acts ++ act ∷ []) ≡ gave c n acts + 1
    by_test true f =
        let a = gave_filler c n acts f in
        let b = gave_filler c n (acts ++ act ∷ []) (filler_append c acts (act ∷ []) h ∙ f) in
        let k = filled f in
        let m = more in
        omega arith
    by_test false f =
        let a = gave_other c n acts f in
        let b = gave_other c n (acts ++ act ∷ []) (filler_append c acts (act ∷ []) h ∙ f) in
        let m = more in
        omega arith

-- ---- parts

pub part_push : (c n : ℕ) (acts : List Act) (act : Act) → IsPermitPart c n acts → is_permit_act c act ≡ true
    → gave c n (acts ++ act ∷ []) ≤ got c (acts ++ act ∷ []) → IsPermitPart c n (acts ++ act ∷ [])
part_push c n acts act h fits le = record {
  fits = all_push (is_permit_act c) acts act h.fits fits;
  covered = λ before p. ⊎_elim
      (λ w. subst (λ l. gave c n l ≤ got c l) (sym w) le)
      (λ q. h.covered before q)
      (begins_push before p.0 acts act p.1);
}

pub whole_covered : (c n : ℕ) (acts : List Act) → IsPermitPart c n acts → gave c n acts ≤ got c acts
whole_covered c n acts h = h.covered acts ([], nothing acts)
  where
    nothing : (xs : List Act) → xs ++ [] ≡ xs
    nothing [] = refl
    nothing (x ∷ xs) = ap (λ l. x ∷ l) (nothing xs)

-- so many permits are held after one more act
pub record Goes (c n count count' : ℕ) (acts acts' : List Act) : Type 0 where
  pub part : IsPermitPart c n acts'
  pub count_is : count' ≡ held c n acts'
  pub filled : (is_filler c acts ≡ true → n ≤ given c acts) → is_filler c acts' ≡ true → n ≤ given c acts'

-- an act that gives nothing, and gets a permit or not
pub goes_getting : (c n count : ℕ) (acts : List Act) (act : Act) (b : Bool) → IsPermitPart c n acts → count ≡ held c n acts
    → is_permit_act c act ≡ true → gives_permit c act ≡ false → gets_permit c act ≡ b
    → Goes c n count (count + cond b 1 0) acts (acts ++ act ∷ [])
goes_getting c n count acts act b h is fits gives gets =
    let a = gave_same c n acts act gives in
    let g = how_many_push (gets_permit c) acts act in
    let e = same_one (gets_permit c act) b gets in
    let w = whole_covered c n acts h in
    record {
      part = part_push c n acts act h fits (omega (arith, a, g, e, w));
      count_is = omega (arith, a, g, e, w, is);
      filled = λ f k. (
          let p = f (sym (filler_push c acts act gives) ∙ k) in
          let q = how_many_push (gives_permit c) acts act in
          omega arith
          );
    }

-- an act that gives one of the permits that are held
pub goes_giving : (c n count : ℕ) (acts : List Act) (act : Act) → IsPermitPart c n acts → count + 1 ≡ held c n acts
    → (is_filler c acts ≡ true → n ≤ given c acts) → is_permit_act c act ≡ true → gives_permit c act ≡ true → gets_permit c act ≡ false
    → Goes c n (count + 1) count acts (acts ++ act ∷ [])
goes_giving c n count acts act h is filled fits gives gets =
    let some : 1 ≤ how_many (is_on c) acts = (let k = got_on c acts in omega arith) in
    let a = gave_more c n acts act some filled gives in
    let g = how_many_push (gets_permit c) acts act in
    let e = one_false (gets_permit c act) gets in
    let w = whole_covered c n acts h in
    record {
      part = part_push c n acts act h fits (omega (arith, a, g, e, w));
      count_is = omega (arith, a, g, e, w, is);
      filled = λ f k. (
          let p = f (sym (filler_append c acts (act ∷ []) some) ∙ k) in
          let q = how_many_push (gives_permit c) acts act in
          omega arith
          );
    }
