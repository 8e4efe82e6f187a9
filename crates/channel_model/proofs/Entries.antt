-- An act among one's own has its entry.
use Rattle.std.specs.Prelude.{◌≡◌, ℕ, ◌==◌, Bool, true, false, List, [], ◌∷◌, ◌++◌, if◌then◌else◌, refl}
use mathlib.Core.List.{IsPrefix}
use Rattle.std.proofs.Common.{sym, ap, ◌∙◌}
use Rattle.std.proofs.lemmas.Bool.{eqb-true}
use Rattle.channel_model.specs.declared.acts.Act.{Act}
use Rattle.channel_model.specs.declared.acts.Entry.{Entry}
use Rattle.channel_model.specs.Histories.{acts_of}

-- what stands before the entry, and that the entry follows
pub record HasEntry (who : ℕ) (earlier : List Act) (act : Act) (ys : List Entry) : Type 0 where
  pub before : List Entry
  pub follows : IsPrefix (before ++ record { who = who; act = act } ∷ []) ys
  pub own : acts_of who before ≡ earlier

pub entry_of : (who : ℕ) (earlier : List Act) (act : Act) (rest : List Act) (ys : List Entry) → acts_of who ys ≡ earlier ++ act ∷ rest
    → HasEntry who earlier act ys
unfolding acts_of
entry_of who [] act rest [] h = cc
entry_of who (x ∷ xs) act rest [] h = cc
entry_of who earlier act rest (e ∷ es) h = by_test (e.who == who) refl h (λ k. entry_of who earlier act rest es k) earlier refl
    (λ xs k. entry_of who xs act rest es k)
  where
    with_other : (b : Bool) → (e.who == who) ≡ b → b ≡ false → (earlier : List Act) → HasEntry who earlier act es
        → HasEntry who earlier act (e ∷ es)
    with_other b t f earlier r = record {
      before = e ∷ r.before;
      follows = (r.follows.0, ap (λ l. e ∷ l) r.follows.1);
      own =
          ap (λ b. if b then e.act ∷ acts_of who r.before else acts_of who r.before) (t ∙ f) ∙ r.own;
    }

    own_one : (earlier : List Act) → (e.who == who) ≡ true → e.act ∷ acts_of who es ≡ earlier ++ act ∷ rest
        → ((xs : List Act) → acts_of who es ≡ xs ++ act ∷ rest → HasEntry who xs act es) → HasEntry who earlier act (e ∷ es)
    own_one [] t h f =
        let is : e.act ≡ act = cc in
        let me : e.who ≡ who = eqb-true e.who who t in
        record { before = []; follows = (es, ap (λ (x : Entry). x ∷ es) (same_entry e is me)); own = refl }
      where
        entry_at : (m n : ℕ) (a b : Act) → m ≡ n → a ≡ b → (let x : Entry = record { who = m; act = a } in x) ≡ record { who = n; act = b }
        entry_at m n a b p q = ap (λ k. record { who = k; act = a }) p ∙ ap (λ c. record { who = n; act = c }) q

        same_entry : (x : Entry) → x.act ≡ act → x.who ≡ who → record { who = who; act = act } ≡ x
        same_entry x p q = entry_at who x.who act x.act (sym q) (sym p)
    own_one (x ∷ xs) t h f =
        let is : e.act ≡ x = cc in
        let r = f xs (let k : acts_of who es ≡ xs ++ act ∷ rest = cc in k) in
        record {
          before = e ∷ r.before;
          follows = (r.follows.0, ap (λ l. e ∷ l) r.follows.1);
          own =
              ap (λ b. if b then e.act ∷ acts_of who r.before else acts_of who r.before) t ∙ ap (λ l. e.act ∷ l) r.own
              ∙ ap (λ (y : Act). y ∷ xs) is;
        }

    by_test : (b : Bool) → (e.who == who) ≡ b → (if b then e.act ∷ acts_of who es else acts_of who es) ≡ earlier ++ act ∷ rest
        → (acts_of who es ≡ earlier ++ act ∷ rest → HasEntry who earlier act es) → (l : List Act) → l ≡ earlier
        → ((xs : List Act) → acts_of who es ≡ xs ++ act ∷ rest → HasEntry who xs act es) → HasEntry who earlier act (e ∷ es)
    by_test true t h f l q g = own_one earlier t h g
    by_test false t h f l q g = with_other false t refl earlier (f h)
