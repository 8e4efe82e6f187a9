-- What is owed after a history came by its last rise: so nothing is owed that everyone pays who brings it about.
use Rattle.std.proofs.Common.{◌≡◌, ℕ, Bool, true, false, List, [], ◌∷◌, ◌++◌, refl, ap, sym, ◌∙◌, subst, inl, inr, ◌⊎◌, ⊎_elim, arith}
use Rattle.std.specs.Prelude.{◌==◌}
use Rattle.std.proofs.lemmas.Bool.{eqb-true, both_ways}
use Rattle.std.proofs.lemmas.Bool.Decides.{nat_tests}

-- ---- lists

pub same_tail : {E : Type 0} (x y : E) (xs ys : List E) → x ∷ xs ≡ y ∷ ys → (x ≡ y) × (xs ≡ ys)
same_tail x y xs ys q = (cc, cc)

pub not_empty : {E : Type 0} (xs ys : List E) (x : E) → [] ≡ xs ++ x ∷ ys → ⊥
not_empty [] ys x q = cc
not_empty (y ∷ xs) ys x q = cc

unfoldable pub Exists : {T : Type 0} → (T → Type 0) → List T → Type 0
Exists P [] = ⊥
Exists P (t ∷ ts) = P t ⊎ Exists P ts

pub exists_first : {T : Type 0} (P : T → Type 0) (t : T) (ts : List T) → P t → Exists P (t ∷ ts)
unfolding Exists
exists_first P t ts p = inl p

pub exists_later : {T : Type 0} (P : T → Type 0) (t : T) (ts : List T) → Exists P ts → Exists P (t ∷ ts)
unfolding Exists
exists_later P t ts p = inr p

pub exists_right : {T : Type 0} (P : T → Type 0) (xs ys : List T) → Exists P ys → Exists P (xs ++ ys)
unfolding Exists
exists_right P [] ys p = p
exists_right P (x ∷ xs) ys p = inr (exists_right P xs ys p)

pub exists_left : {T : Type 0} (P : T → Type 0) (xs ys : List T) → Exists P xs → Exists P (xs ++ ys)
unfolding Exists
exists_left P [] ys p = absurd p
exists_left P (x ∷ xs) ys p = ⊎_elim (λ (a : P x). inl a) (λ (b : Exists P xs). inr (exists_left P xs ys b)) p

-- ---- debts

abbrev pub state_after : {S E : Type 0} → (S → E → S) → S → List E → S
state_after after s [] = s
state_after after s (e ∷ es) = state_after after (after s e) es

pub state_then : {S E : Type 0} (after : S → E → S) (s : S) (xs ys : List E)
    → state_after after s (xs ++ ys) ≡ state_after after (state_after after s xs) ys
state_then after s [] ys = refl
state_then after s (x ∷ xs) ys = state_then after (after s x) xs ys

module _ {S E : Type 0} (after : S → E → S) (who : E → ℕ) (owes : S → Bool) where
  abbrev pub OwedThroughout : S → List E → Type 0
  OwedThroughout s es = (xs ys : List E) → es ≡ xs ++ ys → owes (state_after after s xs) ≡ true

  pub record LastRise (s : S) (es : List E) : Type 0 where
    pub before : List E
    pub entry : E
    pub rest : List E
    pub parts : es ≡ before ++ entry ∷ rest
    pub not_owed : owes (state_after after s before) ≡ false
    pub owed : OwedThroughout (after (state_after after s before) entry) rest

  -- whoever brings it about sees it paid later
  abbrev pub Pays : S → ℕ → List E → Type 0
  Pays s k es =
      (before : List E) (e : E) (rest : List E) → es ≡ before ++ e ∷ rest → who e ≡ k → owes (state_after after s before) ≡ false
      → owes (after (state_after after s before) e) ≡ true
      → (xs : List E) × (ys : List E) × (rest ≡ xs ++ ys) × (owes (state_after after (after (state_after after s before) e) xs) ≡ false)

  later : (s : S) (e : E) (es : List E) → LastRise (after s e) es → LastRise s (e ∷ es)
  later s e es h = record {
    before = e ∷ h.before;
    entry = h.entry;
    rest = h.rest;
    parts = ap (λ l. e ∷ l) h.parts;
    not_owed = h.not_owed;
    owed = h.owed;
  }

  one_more : (s : S) (e : E) (es : List E) → owes s ≡ true → OwedThroughout (after s e) es → OwedThroughout s (e ∷ es)
  one_more s e es now h [] ys q = now
  one_more s e es now h (x ∷ xs) ys q =
      let t = same_tail e x es (xs ++ ys) q in
      subst (λ z. owes (state_after after (after s z) xs) ≡ true) t.0 (h xs ys t.1)

  no_more : (s : S) → owes s ≡ true → OwedThroughout s []
  no_more s now [] ys q = now
  no_more s now (x ∷ xs) ys q = cc

  pub last_rise : (s : S) (es : List E) → owes (state_after after s es) ≡ true → OwedThroughout s es ⊎ LastRise s es
  last_rise s [] h = inl (no_more s h)
  last_rise s (e ∷ es) h = ⊎_elim (λ (t : OwedThroughout (after s e) es). here t (owes s) refl)
      (λ (r : LastRise (after s e) es). inr (later s e es r)) (last_rise (after s e) es h)
    where
      here : OwedThroughout (after s e) es → (b : Bool) → owes s ≡ b → OwedThroughout s (e ∷ es) ⊎ LastRise s (e ∷ es)
      here t true q = inl (one_more s e es q t)
      here t false q = inr (record { before = []; entry = e; rest = es; parts = refl; not_owed = q; owed = t })

  pub nothing_owed : (s : S) (es : List E) → owes s ≡ false → ((k : ℕ) → Pays s k es) → owes (state_after after s es) ≡ false
  nothing_owed s es first pays = by_test (owes (state_after after s es)) refl
    where
      rises : LastRise s es → ⊥
      rises r =
          let paid = pays (who r.entry) r.before r.entry r.rest r.parts refl r.not_owed (r.owed [] r.rest refl) in
          both_ways (owes (state_after after (after (state_after after s r.before) r.entry) paid.0)) paid.3 (r.owed paid.0 paid.1 paid.2)

      by_test : (b : Bool) → owes (state_after after s es) ≡ b → owes (state_after after s es) ≡ false
      by_test false q = q
      by_test true q = absurd (⊎_elim (λ (t : OwedThroughout s es). both_ways (owes s) first (t [] es refl)) rises (last_rise s es q))

-- ---- the part of one caller

abbrev pub add : {A : Type 0} → Bool → A → List A → List A
add true a us = a ∷ us
add false a us = us

module _ {E A : Type 0} (who : E → ℕ) (act : E → A) (k : ℕ) where
  unfoldable pub part : List E → List A
  part [] = []
  part (e ∷ es) = add (who e == k) (act e) (part es)

  pub part-append : (xs ys : List E) → part (xs ++ ys) ≡ part xs ++ part ys
  unfolding part
  part-append [] ys = refl
  part-append (x ∷ xs) ys = ap (add (who x == k) (act x)) (part-append xs ys) ∙ over (who x == k)
    where
      over : (b : Bool) → add b (act x) (part xs ++ part ys) ≡ add b (act x) (part xs) ++ part ys
      over true = refl
      over false = refl

  -- a moment at which the caller had made one act more than before this entry is after it
  pub reached : (before : List E) (e : E) (rest at more : List E) (zs : List A) → at ++ more ≡ before ++ e ∷ rest → part at ≡ part before
      ++ act e ∷ zs → (xs : List E) × (rest ≡ xs ++ more) × (at ≡ before ++ e ∷ xs)
  unfolding part
  reached [] e rest [] more zs p q = absurd (not_empty [] zs (act e) q)
  reached [] e rest (a ∷ at) more zs p q =
      let t = same_tail a e (at ++ more) rest p in
      (at, sym t.1, ap (λ x. x ∷ at) t.0)
  reached (b ∷ before) e rest [] more zs p q = absurd (not_empty (add (who b == k) (act b) (part before)) zs (act e) q)
  reached (b ∷ before) e rest (a ∷ at) more zs p q =
      let t = same_tail a b (at ++ more) (before ++ e ∷ rest) p in
      let r = reached before e rest at more zs t.1 (off (who b == k)
      (subst (λ x. add (who x == k) (act x) (part at) ≡ add (who b == k) (act b) (part before) ++ act e ∷ zs) t.0 q)) in
      (r.0, r.1, ap (λ x. x ∷ at) t.0 ∙ ap (λ l. b ∷ l) r.2)
    where
      off : (c : Bool) → add c (act b) (part at) ≡ add c (act b) (part before) ++ act e ∷ zs → part at ≡ part before ++ act e ∷ zs
      off true h = (same_tail (act b) (act b) (part at) (part before ++ act e ∷ zs) h).1
      off false h = h

  pub record Found (es : List E) (us : List A) (a : A) : Type 0 where
    pub before : List E
    pub entry : E
    pub rest : List E
    pub parts : es ≡ before ++ entry ∷ rest
    pub mine : who entry ≡ k
    pub is : act entry ≡ a
    pub acts : part before ≡ us

  pub find : (es : List E) (us bs : List A) (a : A) → part es ≡ us ++ a ∷ bs → Found es us a
  unfolding part
  find [] us bs a q = absurd (not_empty us bs a q)
  find (e ∷ es) us bs a q = by_test (λ vs h. find es vs bs a h) (who e == k) refl us q
    where
      by_test : ((vs : List A) → part es ≡ vs ++ a ∷ bs → Found es vs a) → (b : Bool) → (who e == k) ≡ b → (us : List A)
          → add b (act e) (part es) ≡ us ++ a ∷ bs → Found (e ∷ es) us a
      by_test rec true m [] h = record {
        before = [];
        entry = e;
        rest = es;
        parts = refl;
        mine = eqb-true (who e) k m;
        is =
            (same_tail (act e) a (part es) bs h).0;
        acts = refl;
      }
      by_test rec true m (x ∷ us) h =
          let t = same_tail (act e) x (part es) (us ++ a ∷ bs) h in
          let f = rec us t.1 in
          record {
            before = e ∷ f.before;
            entry = f.entry;
            rest = f.rest;
            parts = ap (λ l. e ∷ l) f.parts;
            mine = f.mine;
            is = f.is;
            acts =
                ap (λ c. add c (act e) (part f.before)) m ∙ ap (λ y. y ∷ part f.before) t.0 ∙ ap (λ l. x ∷ l) f.acts;
          }
      by_test rec false m us h =
          let f = rec us h in
          record {
            before = e ∷ f.before;
            entry = f.entry;
            rest = f.rest;
            parts = ap (λ l. e ∷ l) f.parts;
            mine = f.mine;
            is = f.is;
            acts =
                ap (λ c. add c (act e) (part f.before)) m ∙ f.acts;
          }

  mine_one : (e : E) (b : Bool) → (who e == k) ≡ b → who e ≡ k → part (e ∷ []) ≡ act e ∷ []
  unfolding part
  mine_one e true m q = ap (λ c. add c (act e) []) m
  mine_one e false m q = absurd (let h : (k == k) ≡ false = ap (λ n. n == k) (sym q) ∙ m in differs k h)
    where
      differs : (n : ℕ) → (n == n) ≡ false → ⊥
      differs n h = grind (arith, nat_tests)

  pub part_push : (before : List E) (e : E) → who e ≡ k → part (before ++ e ∷ []) ≡ part before ++ act e ∷ []
  part_push before e m = part-append before (e ∷ []) ∙ ap (λ l. part before ++ l) (mine_one e (who e == k) refl m)
