-- Who told, behind each act that may raise a debt, something that takes it away, pays.
use Rattle.std.proofs.Common.{◌≡◌, ℕ, Bool, true, false, List, [], ◌∷◌, ◌++◌, refl, ap, sym, ◌∙◌, subst, ⊎_elim, append_assoc, Option, Some, None}
use Rattle.script_meaning.proofs.Debts.{same_tail, not_empty, Exists, state_after, state_then, Pays, part, part-append, part_push, reached, find}

abbrev pub act_list : {A : Type 0} → Option A → List A
act_list None = []
act_list (Some a) = a ∷ []

module _ {S E A T : Type 0} (after : S → E → S) (start : S) (who : E → ℕ) (act : E → A) (k : ℕ) (act_in : T → Option A) (Holds : T → List E
    → Type 0) where
  unfoldable pub acts_told : List T → List A
  acts_told [] = []
  acts_told (t ∷ ts) = act_list (act_in t) ++ acts_told ts

  -- it was so at a moment of the history at which the caller had made just these acts
  pub record SoAt (history : List E) (done : List A) (t : T) : Type 0 where
    pub at : List E
    pub more : List E
    pub parts : at ++ more ≡ history
    pub acts : part who act k at ≡ done
    pub holds : Holds t at

  unfoldable pub AllSo : List E → List A → List T → Type 0
  AllSo history done [] = Unit {0}
  AllSo history done (t ∷ ts) = SoAt history done t × AllSo history (done ++ act_list (act_in t)) ts

  pub so_behind : (history : List E) (done : List A) (xs ys : List T) → AllSo history done (xs ++ ys)
      → AllSo history (done ++ acts_told xs) ys
  unfolding AllSo acts_told
  so_behind history done [] ys h = subst (λ d. AllSo history d ys) (sym (no_more done)) h
    where
      no_more : (zs : List A) → zs ++ [] ≡ zs
      no_more [] = refl
      no_more (z ∷ zs) = ap (λ l. z ∷ l) (no_more zs)
  so_behind history done (x ∷ xs) ys h = subst (λ d. AllSo history d ys) (append_assoc done (act_list (act_in x)) (acts_told xs))
      (so_behind history (done ++ act_list (act_in x)) xs ys h.1)

  -- where an act was told
  pub record ToldAt (ts : List T) (us : List A) (a : A) : Type 0 where
    pub before : List T
    pub told : T
    pub rest : List T
    pub parts : ts ≡ before ++ told ∷ rest
    pub is : act_in told ≡ Some a
    pub acts : acts_told before ≡ us

  pub find_told : (ts : List T) (us vs : List A) (a : A) → acts_told ts ≡ us ++ a ∷ vs → ToldAt ts us a
  unfolding acts_told
  find_told [] us vs a q = absurd (not_empty us vs a q)
  find_told (t ∷ ts) us vs a q = by_act (λ ws h. find_told ts ws vs a h) (act_in t) refl us q
    where
      by_act : ((ws : List A) → acts_told ts ≡ ws ++ a ∷ vs → ToldAt ts ws a) → (o : Option A) → act_in t ≡ o → (us : List A) → act_list o
          ++ acts_told ts ≡ us ++ a ∷ vs → ToldAt (t ∷ ts) us a
      by_act rec None m us h =
          let f = rec us h in
          record {
            before = t ∷ f.before;
            told = f.told;
            rest = f.rest;
            parts = ap (λ l. t ∷ l) f.parts;
            is = f.is;
            acts =
                ap (λ o. act_list o ++ acts_told f.before) m ∙ f.acts;
          }
      by_act rec (Some b) m [] h = record {
        before = [];
        told = t;
        rest = ts;
        parts = refl;
        is = m
            ∙ ap (λ x. Some x) (same_tail b a (acts_told ts) vs h).0;
        acts = refl;
      }
      by_act rec (Some b) m (x ∷ us) h =
          let e = same_tail b x (acts_told ts) (us ++ a ∷ vs) h in
          let f = rec us e.1 in
          record {
            before = t ∷ f.before;
            told = f.told;
            rest = f.rest;
            parts = ap (λ l. t ∷ l) f.parts;
            is = f.is;
            acts =
                ap (λ o. act_list o ++ acts_told f.before) m ∙ ap (λ y. y ∷ acts_told f.before) e.0 ∙ ap (λ l. x ∷ l) f.acts;
          }

  -- ---- what is paid

  module _ (owes : S → Bool) (Raises : A → Type 0) (Off : A → List T → Type 0) where
    abbrev pub IsPaid : Option A → List T → Type 0
    IsPaid None ts = Unit {0}
    IsPaid (Some a) ts = Raises a → Off a ts

    -- behind each act that may raise the debt stands what takes it away
    unfoldable pub AllPaid : List T → Type 0
    AllPaid [] = Unit {0}
    AllPaid (t ∷ ts) = IsPaid (act_in t) ts × AllPaid ts

    pub paid_at : (xs ys : List T) (t : T) (a : A) → act_in t ≡ Some a → AllPaid (xs ++ t ∷ ys) → Raises a → Off a ys
    unfolding AllPaid
    paid_at [] ys t a m h = subst (λ o. IsPaid o ys) m h.0
    paid_at (x ∷ xs) ys t a m h = paid_at xs ys t a m h.1

    -- a moment without the debt, at which the caller had made these acts, and this one behind them
    pub record PaidAt (history : List E) (done : List A) : Type 0 where
      pub at : List E
      pub more : List E
      pub later_acts : List A
      pub parts : at ++ more ≡ history
      pub acts : part who act k at ≡ done ++ later_acts
      pub paid : owes (state_after after start at) ≡ false

    pub all_pays : (history : List E) (ts : List T) → AllSo history [] ts → acts_told ts ≡ part who act k history → AllPaid ts
        → ((before : List E) (e : E) (rest : List E) → history ≡ before ++ e ∷ rest → who e ≡ k
        → owes (state_after after start before) ≡ false → owes (after (state_after after start before) e) ≡ true → Raises (act e))
        → ((before : List E) (e : E) (rest : List E) (ys : List T) → history ≡ before ++ e ∷ rest → who e ≡ k
        → owes (after (state_after after start before) e) ≡ true → part who act k history ≡ (part who act k before ++ act e ∷ [])
        ++ acts_told ys → AllSo history (part who act k before ++ act e ∷ []) ys → Raises (act e) → Off (act e) ys
        → PaidAt history (part who act k before ++ act e ∷ []))
        → Pays after who owes start k history
    unfolding acts_told AllSo part
    all_pays history ts so told paid raises takes before e rest parts mine free owed =
        let one : part who act k history ≡ part who act k before ++ act e ∷ part who act k rest = ap (part who act k) parts
        ∙ part-append who act k before (e ∷ rest) ∙ ap (λ l. part who act k before ++ l) (first mine) in
        let f = find_told ts (part who act k before) (part who act k rest) (act e) (told ∙ one) in
        let behind : AllSo history (part who act k before ++ act e ∷ []) f.rest =
        told_then f.before f.told f.rest (subst (λ l. AllSo history [] l) f.parts so) f.is f.acts in
        let acts : part who act k history ≡ (part who act k before ++ act e ∷ []) ++ acts_told f.rest = sym told ∙ ap acts_told f.parts
        ∙ told_parts f.before f.told f.rest f.is ∙ ap (λ l. (l ++ act e ∷ []) ++ acts_told f.rest) f.acts in
        let r = raises before e rest parts mine free owed in
        let p = takes before e rest f.rest parts mine owed acts behind r
        (paid_at f.before f.rest f.told (act e) f.is (subst AllPaid f.parts paid) r) in
        let g = reached who act k before e rest p.at p.more p.later_acts (p.parts ∙ parts) (p.acts
        ∙ append_assoc (part who act k before) (act e ∷ []) p.later_acts) in
        (g.0, p.more, g.1, subst (λ s. owes s ≡ false) (ap (state_after after start) g.2 ∙ state_then after start before (e ∷ g.0)) p.paid)
      where
        first : who e ≡ k → part who act k (e ∷ rest) ≡ act e ∷ part who act k rest
        first m = part-append who act k (e ∷ []) rest ∙ ap (λ l. l ++ part who act k rest) (part_push who act k [] e m)

        told_parts : (xs : List T) (t : T) (ys : List T) → act_in t ≡ Some (act e) → acts_told (xs ++ t ∷ ys) ≡ (acts_told xs ++ act e ∷ [])
            ++ acts_told ys
        told_parts [] t ys m = ap (λ o. act_list o ++ acts_told ys) m
        told_parts (x ∷ xs) t ys m = ap (λ l. act_list (act_in x) ++ l) (told_parts xs t ys m)
            ∙ sym (append_assoc (act_list (act_in x)) (acts_told xs ++ act e ∷ []) (acts_told ys))
            ∙ ap (λ l. l ++ acts_told ys) (sym (append_assoc (act_list (act_in x)) (acts_told xs) (act e ∷ [])))

        told_then : (xs : List T) (t : T) (ys : List T) → AllSo history [] (xs ++ t ∷ ys) → act_in t ≡ Some (act e)
            → acts_told xs ≡ part who act k before → AllSo history (part who act k before ++ act e ∷ []) ys
        told_then xs t ys h m q =
            let a = so_behind history [] xs (t ∷ ys) h in
            subst (λ d. AllSo history (d ++ act e ∷ []) ys) q (subst (λ o. AllSo history (acts_told xs ++ act_list o) ys) m a.1)

    -- ---- where one told thing takes it away

    pub takes_off : (history : List E) (Takes : T → Type 0)
        → ((t : T) (at more : List E) → at ++ more ≡ history → Holds t at → act_in t ≡ None → Takes t
        → owes (state_after after start at) ≡ false)
        → ((t : T) (b : A) → act_in t ≡ Some b → Takes t → (before rest : List E) (e : E) → history ≡ before ++ e ∷ rest → act e ≡ b
        → owes (after (state_after after start before) e) ≡ false)
        → (done more : List A) (ys : List T) → part who act k history ≡ (done ++ more) ++ acts_told ys → AllSo history (done ++ more) ys
        → Exists Takes ys → PaidAt history done
    unfolding AllSo Exists acts_told
    takes_off history Takes by_fact by_act done more [] acts so x = absurd x
    takes_off history Takes by_fact by_act done more (y ∷ ys) acts so x =
        ⊎_elim (λ (t : Takes y). now (act_in y) refl t) (λ (u : Exists Takes ys). takes_off history Takes by_fact by_act done (more
        ++ act_list (act_in y)) ys (acts ∙ sym (append_assoc (done ++ more) (act_list (act_in y)) (acts_told ys))
        ∙ ap (λ l. l ++ acts_told ys) (append_assoc done more (act_list (act_in y))))
        (subst (λ d. AllSo history d ys) (append_assoc done more (act_list (act_in y))) so.1) u) x
      where
        now : (o : Option A) → act_in y ≡ o → Takes y → PaidAt history done
        now None m t = record {
          at = so.0.at;
          more = so.0.more;
          later_acts = more;
          parts = so.0.parts;
          acts = so.0.acts;
          paid =
              by_fact y so.0.at so.0.more so.0.parts so.0.holds m t;
        }
        now (Some b) m t =
            let f = find who act k history (done ++ more) (acts_told ys) b (acts
            ∙ ap (λ o. (done ++ more) ++ (act_list o ++ acts_told ys)) m) in
            record {
              at = f.before ++ f.entry ∷ [];
              more = f.rest;
              later_acts = more ++ b ∷ [];
              parts = append_assoc f.before (f.entry ∷ []) f.rest ∙ sym f.parts;
              acts = part_push who act k f.before f.entry f.mine ∙ ap (λ l. l ++ act f.entry ∷ []) f.acts
                  ∙ ap (λ u. (done ++ more) ++ u ∷ []) f.is ∙ append_assoc done more (b ∷ []);
              paid = subst (λ s. owes s ≡ false) (sym (state_then after start f.before (f.entry ∷ [])))
                  (by_act y b m t f.before f.rest f.entry f.parts f.is);
            }
