-- To split a seat off and to end one keeps the rule of the berths.
use Rattle.std.proofs.Common.{◌≡◌, ◌≢◌, ℕ, zero, suc, ◌+◌, ◌≤◌, eqb, Bool, true, true≢false, if◌then◌else◌, List, [], ◌∷◌, ◌++◌, ◌⊎◌, inl, inr, ⊎_elim, length, set, sym, refl, ap, ◌∙◌, subst, arith, eq-eqb, ne_eqb, Option}
use mathlib.Core.Logic.{dite}
use mathlib.Core.Option.{some, some-injective, some-ne-none}
use native.Mathlib.Decide.{ℕ_discrete}
use lib.ListN.{get_elem?}
use Rattle.atomic_table.specs.Table.{State, Splits, Joins}
use Rattle.atomic_table.proofs.Lists.{at_set, set_else, at_longer}
use Rattle.task_berths.specs.declared.rule.SeatView.{SeatView}
use Rattle.task_berths.specs.Views.{has_tag, spent_view, having_split, new_seat, having_ended, live_count}
use Rattle.task_berths.specs.Homes.{Knows, HoldsTasks}
use Rattle.task_berths.proofs.OneSeatSteps.{in_views}
use Rattle.task_berths.proofs.SeatsCounted.{live_same, live_spent, live_added, takes_set, takes_added}
use Rattle.task_berths.proofs.WordsByStep.{has_none}

-- an element of a list that is one longer
pub at_more : {A : Type 0} (l : List A) (a b : A) (j : ℕ) → get_elem? (l ++ a ∷ []) j ≡ some b → (get_elem? l j ≡ some b)
    ⊎ ((j ≡ length l) × (a ≡ b))
at_more [] a b zero e = inr (refl, some-injective a b e)
at_more [] a b (suc j) e = absurd (some-ne-none b (sym e))
at_more (x ∷ xs) a b zero e = inl e
at_more (x ∷ xs) a b (suc j) e = ⊎_elim inl (λ t. inr (ap suc t.0, t.1)) (at_more xs a b j e)

module _ {T : Type 0} (tag_of : T → ℕ) where
  abbrev Rule : State (Option T) SeatView → Type 0
  Rule = HoldsTasks tag_of

  pub split_allowed : (id : ℕ) (v : SeatView) → v.chief ≡ true → v.live ≡ true → Splits Rule id v (having_split v) (new_seat v)
  split_allowed id v chief live s r at = record {
    log = r.log;
    made = let p = takes_set s.views id v (having_split v) at in let q = takes_added left (new_seat v) in omega (arith, p, q, r.made);
    owner = owner';
    as_long = r.as_long;
    words = r.words;
    home = r.home;
    away = λ t lt ne. let h = r.away t lt ne in dite (ℕ_discrete h.id id)
        (λ is. let e : h.v ≡ v = some-injective h.v v (sym h.at ∙ ap (get_elem? s.views) is ∙ at) in record {
          id = id;
          v = having_split v;
          at = at_longer left (new_seat v ∷ []) id (having_split v) (in_views s.views id v (having_split v) at);
          live = live;
          has_it = ap (λ (z : SeatView). has_tag t z.held) (sym e) ∙ h.has_it;
          numbered = h.numbered ∙ ap (λ (z : SeatView). suc z.number) e;
        })
        (λ apart. record {
          id = h.id;
          v = h.v;
          at = at_longer left (new_seat v ∷ []) h.id h.v
              (set_else s.views id h.id (having_split v) apart ∙ h.at);
          live = h.live;
          has_it = h.has_it;
          numbered = h.numbered;
        });
    knows = λ j u e. ⊎_elim
        (λ (q : get_elem? left j ≡ some u). ⊎_elim
        (λ (p : (j ≡ id) × (having_split v ≡ u)). subst (λ (x : ℕ × SeatView). Knows s.homes views' r.log owner' x.0 x.1)
        (λ i. (sym p.0 i, p.1 i)) mine)
        (λ (p : (j ≢ id) × (get_elem? s.views j ≡ some u)). other j u p.0 p.1)
        (at_set s.views id j (having_split v) u q))
        (λ (q : (j ≡ length left) × (new_seat v ≡ u)). subst (λ (x : ℕ × SeatView). Knows s.homes views' r.log owner' x.0 x.1)
        (λ i. (sym q.0 i, q.1 i)) fresh)
        (at_more left (new_seat v) u j e);
  }
    where
      left : List SeatView
      left = set s.views id (having_split v)

      views' : List SeatView
      views' = left ++ new_seat v ∷ []

      kv : Knows s.homes s.views r.log r.owner id v
      kv = r.knows id v at

      owner' : ℕ → ℕ
      owner' k = if eqb k (suc v.splits) then length left else r.owner k

      owner_old : (k : ℕ) → k ≤ v.splits → owner' k ≡ r.owner k
      owner_old k le = ap (λ (b : Bool). if b then length left else r.owner k)
          (ne_eqb k (suc v.splits) (λ e. absurd (omega (arith, e, le))))

      owner_new : owner' (suc v.splits) ≡ length left
      owner_new = ap (λ (b : Bool). if b then length left else r.owner (suc v.splits)) (eq-eqb (suc v.splits) (suc v.splits) refl)

      bound : (j : ℕ) (u : SeatView) → get_elem? s.views j ≡ some u → u.live ≡ true → u.number ≤ v.splits
      bound = (kv.numbers chief).1

      counted : live_count views' ≡ suc (live_count s.views)
      counted = live_added left (new_seat v) refl ∙ ap suc (live_same s.views id v (having_split v) at refl)

      all_numbers : (j : ℕ) (u : SeatView) → get_elem? views' j ≡ some u → u.live ≡ true → u.number ≤ suc v.splits
      all_numbers j u e alive = ⊎_elim
          (λ (q : get_elem? left j ≡ some u). ⊎_elim
          (λ (p : (j ≡ id) × (having_split v ≡ u)). omega (arith, bound id v at live, ap (λ (z : SeatView). z.number) p.1))
          (λ (p : (j ≢ id) × (get_elem? s.views j ≡ some u)). omega (arith, bound j u p.1 alive))
          (at_set s.views id j (having_split v) u q))
          (λ (q : (j ≡ length left) × (new_seat v ≡ u)). omega (arith, ap (λ (z : SeatView). z.number) q.1))
          (at_more left (new_seat v) u j e)

      mine : Knows s.homes views' r.log owner' id (having_split v)
      mine = record {
        begins = kv.begins;
        own = λ l. owner_old v.number (bound id v at live) ∙ kv.own l;
        holds = kv.holds;
        down = kv.down;
        numbers = λ c. ((kv.numbers chief).0, all_numbers);
        count = λ c. omega (arith, counted, kv.count chief);
      }

      fresh : Knows s.homes views' r.log owner' (length left) (new_seat v)
      fresh = record {
        begins = kv.begins;
        own = λ l. owner_new;
        holds = λ t h. absurd (has_none t h);
        down = λ t h. absurd (has_none t h);
        numbers = λ c. absurd (true≢false (sym c));
        count = λ c. absurd (true≢false (sym c));
      }

      other : (j : ℕ) (u : SeatView) → j ≢ id → get_elem? s.views j ≡ some u → Knows s.homes views' r.log owner' j u
      other j u ne e = let k = r.knows j u e in record {
        begins = k.begins;
        own = λ l. owner_old u.number (bound j u e l) ∙ k.own l;
        holds = k.holds;
        down = k.down;
        numbers = λ c. absurd (ne ((k.numbers c).0 ∙ sym (kv.numbers chief).0));
        count = λ c. absurd (ne ((k.numbers c).0 ∙ sym (kv.numbers chief).0));
      }

  pub end_allowed : (id other : ℕ) (v w : SeatView) → v.chief ≡ true → v.live ≡ true → w.live ≡ true → w.held ≡ []
      → Joins Rule id v other w (having_ended v w) spent_view
  end_allowed id gone v w chief live alive empty s r at apart there = record {
    log = r.log;
    made = let p = takes_set s.views id v (having_ended v w) at in let q = takes_set left gone w spent_view there
        in omega (arith, p, q, r.made);
    owner = r.owner;
    as_long = r.as_long;
    words = r.words;
    home = r.home;
    away = λ t lt ne. let h = r.away t lt ne in dite (ℕ_discrete h.id id)
        (λ is. let e : h.v ≡ v = some-injective h.v v (sym h.at ∙ ap (get_elem? s.views) is ∙ at) in record {
          id = id;
          v = having_ended v w;
          at = set_else left gone id spent_view (λ q. apart (sym q)) ∙ in_views s.views id v (having_ended v w) at;
          live = live;
          has_it = ap (λ (z : SeatView). has_tag t z.held) (sym e) ∙ h.has_it;
          numbered = h.numbered ∙ ap (λ (z : SeatView). suc z.number) e;
        })
        (λ far. let stays : h.id ≢ gone = λ q. let e : h.v ≡ w = some-injective h.v w (sym h.at ∙ ap (get_elem? s.views) q ∙ was) in
        has_none t (ap (has_tag t) (sym empty) ∙ ap (λ (z : SeatView). has_tag t z.held) (sym e) ∙ h.has_it) in
        record {
          id = h.id;
          v = h.v;
          at = set_else left gone h.id spent_view stays ∙ set_else s.views id h.id (having_ended v w) far
              ∙ h.at;
          live = h.live;
          has_it = h.has_it;
          numbered = h.numbered;
        });
    knows = λ j u e. ⊎_elim
        (λ (q : (j ≡ gone) × (spent_view ≡ u)). subst (λ (x : ℕ × SeatView). Knows s.homes views' r.log r.owner x.0 x.1)
        (λ i. (sym q.0 i, q.1 i)) spent)
        (λ (q : (j ≢ gone) × (get_elem? left j ≡ some u)). ⊎_elim
        (λ (p : (j ≡ id) × (having_ended v w ≡ u)). subst (λ (x : ℕ × SeatView). Knows s.homes views' r.log r.owner x.0 x.1)
        (λ i. (sym p.0 i, p.1 i)) mine)
        (λ (p : (j ≢ id) × (get_elem? s.views j ≡ some u)). other j u p.0 p.1)
        (at_set s.views id j (having_ended v w) u q.1))
        (at_set left gone j spent_view u e);
  }
    where
      left : List SeatView
      left = set s.views id (having_ended v w)

      views' : List SeatView
      views' = set left gone spent_view

      was : get_elem? s.views gone ≡ some w
      was = sym (set_else s.views id gone (having_ended v w) apart) ∙ there

      kv : Knows s.homes s.views r.log r.owner id v
      kv = r.knows id v at

      counted : live_count s.views ≡ suc (live_count views')
      counted = sym (live_same s.views id v (having_ended v w) at refl) ∙ live_spent left gone w spent_view there alive refl

      bound : (j : ℕ) (u : SeatView) → get_elem? s.views j ≡ some u → u.live ≡ true → u.number ≤ v.splits
      bound = (kv.numbers chief).1

      all_numbers : (j : ℕ) (u : SeatView) → get_elem? views' j ≡ some u → u.live ≡ true → u.number ≤ v.splits
      all_numbers j u e alive' = ⊎_elim
          (λ (q : (j ≡ gone) × (spent_view ≡ u)). absurd (true≢false (sym alive' ∙ ap (λ (z : SeatView). z.live) (sym q.1))))
          (λ (q : (j ≢ gone) × (get_elem? left j ≡ some u)). ⊎_elim
          (λ (p : (j ≡ id) × (having_ended v w ≡ u)). omega (arith, bound id v at live, ap (λ (z : SeatView). z.number) p.1))
          (λ (p : (j ≢ id) × (get_elem? s.views j ≡ some u)). bound j u p.1 alive')
          (at_set s.views id j (having_ended v w) u q.1))
          (at_set left gone j spent_view u e)

      mine : Knows s.homes views' r.log r.owner id (having_ended v w)
      mine = record {
        begins = kv.begins;
        own = kv.own;
        holds = kv.holds;
        down = kv.down;
        numbers = λ c. ((kv.numbers chief).0, all_numbers);
        count = λ c. omega (arith, counted, kv.count chief);
      }

      spent : Knows s.homes views' r.log r.owner gone spent_view
      spent = record {
        begins = (r.log, refl);
        own = λ l. absurd (true≢false (sym l));
        holds = λ t h. absurd (has_none t h);
        down = λ t h. absurd (has_none t h);
        numbers = λ c. absurd (true≢false (sym c));
        count = λ c. absurd (true≢false (sym c));
      }

      other : (j : ℕ) (u : SeatView) → j ≢ id → get_elem? s.views j ≡ some u → Knows s.homes views' r.log r.owner j u
      other j u ne e = let k = r.knows j u e in record {
        begins = k.begins;
        own = k.own;
        holds = k.holds;
        down = k.down;
        numbers = λ c. absurd (ne ((k.numbers c).0 ∙ sym (kv.numbers chief).0));
        count = λ c. absurd (ne ((k.numbers c).0 ∙ sym (kv.numbers chief).0));
      }
