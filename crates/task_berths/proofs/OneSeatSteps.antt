-- What one seat changes at a step keeps the rule, if it is right by the words that it changes.
use Rattle.std.proofs.Common.{◌≡◌, ◌≢◌, ℕ, zero, suc, ◌+◌, ◌*◌, ◌/◌, ◌<◌, ◌≤◌, true, false, true≢false, List, [], ◌∷◌, ◌++◌, ◌⊎◌, inr, ⊎_elim, length, get_or, set, sym, refl, ap, ◌∙◌, subst, arith, length-set, append_assoc, Option, Some, None}
use mathlib.Core.Logic.{dite}
use mathlib.Core.Option.{some, some-injective, some-ne-none}
use native.Mathlib.Decide.{ℕ_discrete}
use lib.ListN.{get_elem?}
use lib.Seq.{set-get_or}
use Rattle.atomic_table.specs.Table.{State, keeps, takes, stepped}
use Rattle.atomic_table.proofs.Lists.{at_set, set_else}
use Rattle.task_berths.specs.declared.rule.SeatView.{SeatView}
use Rattle.task_berths.specs.declared.rule.BerthStep.{BerthStep}
use Rattle.task_berths.specs.Words.{Begins, word_of, takes_in}
use Rattle.task_berths.specs.Views.{has_tag, having_seen, live_count}
use Rattle.task_berths.specs.Homes.{Slots, IsAtHome, Holder, Knows, HoldsTasks}
use Rattle.task_berths.specs.Steps.{Found}
use Rattle.task_berths.proofs.SeatsCounted.{live_same, takes_set}
use Rattle.task_berths.proofs.WordsByStep.{begins_all}

pub in_views : (l : List SeatView) (i : ℕ) (x w : SeatView) → get_elem? l i ≡ some x → get_elem? (set l i w) i ≡ some w
in_views [] i x w e = absurd (some-ne-none x (sym e))
in_views (y ∷ ys) zero x w e = refl
in_views (y ∷ ys) (suc i) x w e = in_views ys i x w e

module _ {T : Type 0} (tag_of : T → ℕ) where
  abbrev St : Type 0
  St = State (Option T) SeatView

  abbrev Rule : St → Type 0
  Rule = HoldsTasks tag_of

  -- what one seat's step leaves
  pub record Moves (s : St) (r : Rule s) (id : ℕ) (v w : SeatView) (words' : List ℕ) (homes' : Slots T) (log' : List BerthStep) : Type 0
    where
      pub wide : length words' ≡ length s.words
      pub long : length homes' ≡ length s.homes
      pub begins : Begins w.seen log'
      pub grows : Begins r.log log'
      pub made : takes_in log' + v.takes ≡ takes_in r.log + w.takes
      pub same : (w.live ≡ v.live) × ((w.number ≡ v.number) × ((w.chief ≡ v.chief) × ((w.splits ≡ v.splits) × (w.ends ≡ v.ends))))
      pub words : (u : ℕ) → u < length s.homes → get_or words' u 0 ≡ word_of u log'
      pub home : (u : ℕ) → u < length s.homes → word_of u log' ≡ 0 → IsAtHome tag_of homes' u
      pub away : (u : ℕ) → u < length s.homes → word_of u log' ≢ 0
          → ((v.live ≡ true) × ((has_tag u w.held ≡ true) × (word_of u log' / 2 ≡ suc v.number)))
          ⊎ ((word_of u r.log ≢ 0) × ((word_of u log' / 2 ≡ word_of u r.log / 2) × (has_tag u v.held ≡ true → has_tag u w.held ≡ true)))
      pub holds : (u : ℕ) → has_tag u w.held ≡ true → (v.live ≡ true) × ((u < length s.homes) × (word_of u log' / 2 ≡ suc v.number))
      pub down : (u : ℕ) → has_tag u w.held ≡ true → w.carries ≢ Some u → get_elem? homes' u ≡ some (some None)
      pub others : (u j : ℕ) (x : SeatView) → j ≢ id → get_elem? s.views j ≡ some x → has_tag u x.held ≡ true
          → (word_of u log' / 2 ≡ word_of u r.log / 2) × (get_elem? homes' u ≡ get_elem? s.homes u)

  pub moved : (s : St) (r : Rule s) (id : ℕ) (v w : SeatView) (words' : List ℕ) (homes' : Slots T) (log' : List BerthStep)
      → get_elem? s.views id ≡ some v → Moves s r id v w words' homes' log'
      → Rule record { words = words'; homes = homes'; views = set s.views id w }
  moved s r id v w words' homes' log' at m = record {
    log = log';
    made = let q = takes_set s.views id v w at in omega (arith, q, m.made, r.made);
    owner = r.owner;
    as_long = m.wide ∙ r.as_long ∙ ap (λ n. suc (2 * n)) (sym m.long);
    words = λ u lu. m.words u (omega (arith, lu, m.long));
    home = λ u lu. m.home u (omega (arith, lu, m.long));
    away = λ u lu ne. ⊎_elim
        (λ (q : (v.live ≡ true) × ((has_tag u w.held ≡ true) × (word_of u log' / 2 ≡ suc v.number))). record
        { id = id; v = w; at = here; live = m.same.0 ∙ q.0; has_it = q.1.0; numbered = q.1.1 ∙ ap suc (sym m.same.1.0) })
        (λ (q : (word_of u r.log ≢ 0) × ((word_of u log' / 2 ≡ word_of u r.log / 2) × (has_tag u v.held ≡ true → has_tag u w.held ≡ true))).
        held_still u q.1.0 q.1.1 (r.away u (omega (arith, lu, m.long)) q.0))
        (m.away u (omega (arith, lu, m.long)) ne);
    knows = λ j u e. ⊎_elim
        (λ (q : (j ≡ id) × (w ≡ u)). subst (λ (x : ℕ × SeatView). Knows homes' views' log' r.owner x.0 x.1) (λ i. (sym q.0 i, q.1 i)) mine)
        (λ (q : (j ≢ id) × (get_elem? s.views j ≡ some u)). other j u q.0 q.1)
        (at_set s.views id j w u e);
  }
    where
      views' : List SeatView
      views' = set s.views id w

      here : get_elem? (set s.views id w) id ≡ some w
      here = in_views s.views id v w at

      held_still : (u : ℕ) → word_of u log' / 2 ≡ word_of u r.log / 2 → (has_tag u v.held ≡ true → has_tag u w.held ≡ true)
          → Holder s.views u (word_of u r.log) → Holder views' u (word_of u log')
      held_still u half keep h = dite (ℕ_discrete h.id id)
          (λ is. let e : h.v ≡ v = some-injective h.v v (sym h.at ∙ ap (get_elem? s.views) is ∙ at) in record {
            id = id;
            v = w;
            at = here;
            live = m.same.0 ∙ ap (λ (z : SeatView). z.live) (sym e) ∙ h.live;
            has_it = keep (ap (λ (z : SeatView). has_tag u z.held) (sym e) ∙ h.has_it);
            numbered = half ∙ h.numbered ∙ ap (λ (z : SeatView). suc z.number) e ∙ ap suc (sym m.same.1.0);
          })
          (λ ne. record {
            id = h.id;
            v = h.v;
            at = set_else s.views id h.id w ne ∙ h.at;
            live = h.live;
            has_it = h.has_it;
            numbered = half
                ∙ h.numbered;
          })

      counted : live_count views' ≡ live_count s.views
      counted = live_same s.views id v w at m.same.0

      all_numbers : (k : ℕ) → ((j : ℕ) (u : SeatView) → get_elem? s.views j ≡ some u → u.live ≡ true → u.number ≤ k)
          → (j : ℕ) (u : SeatView) → get_elem? views' j ≡ some u → u.live ≡ true → u.number ≤ k
      all_numbers k old j u e live = ⊎_elim
          (λ (q : (j ≡ id) × (w ≡ u)). let b = old id v at (sym m.same.0 ∙ ap (λ (z : SeatView). z.live) q.1 ∙ live)
          in omega (arith, b, m.same.1.0, ap (λ (z : SeatView). z.number) q.1))
          (λ (q : (j ≢ id) × (get_elem? s.views j ≡ some u)). old j u q.1 live)
          (at_set s.views id j w u e)

      kv : Knows s.homes s.views r.log r.owner id v
      kv = r.knows id v at

      mine : Knows homes' views' log' r.owner id w
      mine = record {
        begins = m.begins;
        own = λ live. ap r.owner m.same.1.0 ∙ kv.own (sym m.same.0 ∙ live);
        holds = λ u h. let q = m.holds u h in (m.same.0 ∙ q.0, (omega (arith, q.1.0, m.long), q.1.1 ∙ ap suc (sym m.same.1.0)));
        down = m.down;
        numbers = λ chief. let q = kv.numbers (sym m.same.1.1.0 ∙ chief)
            in (q.0, all_numbers w.splits (λ j u e live. subst (λ k. u.number ≤ k) (sym m.same.1.1.1.0) (q.1 j u e live)));
        count = λ chief. let q = kv.count (sym m.same.1.1.0 ∙ chief) in omega (arith, q, counted, m.same.1.1.1.0, m.same.1.1.1.1);
      }

      other : (j : ℕ) (u : SeatView) → j ≢ id → get_elem? s.views j ≡ some u → Knows homes' views' log' r.owner j u
      other j u ne e = let k = r.knows j u e in record {
        begins = (k.begins.0 ++ m.grows.0, m.grows.1 ∙ ap (λ l. l ++ m.grows.0) k.begins.1 ∙ append_assoc u.seen k.begins.0 m.grows.0);
        own = k.own;
        holds = λ t h. let q = k.holds t h in (q.0, (omega (arith, q.1.0, m.long), (m.others t j u ne e h).0 ∙ q.1.1));
        down = λ t h hand. (m.others t j u ne e h).1 ∙ k.down t h hand;
        numbers = λ chief. let q = k.numbers chief in (q.0, all_numbers u.splits q.1);
        count = λ chief. let q = k.count chief in omega (arith, q, counted);
      }

  -- a word was loaded
  pub looked : (s : St) (r : Rule s) (id t : ℕ) (v : SeatView) (c : List (ℕ × Option T)) → v.live ≡ true → get_elem? s.views id ≡ some v
      → t < length s.homes
      → Rule (stepped s t (get_or s.words t 0) id c (having_seen v r.log) keeps) × Found t (get_or s.words t 0) v (having_seen v r.log)
  looked s r id t v c live at lt = (
    moved s r id v (having_seen v r.log) (set s.words t (get_or s.words t 0)) s.homes r.log at record {
      wide = length-set s.words t _;
      long = refl;
      begins = begins_all r.log;
      grows = begins_all r.log;
      made = refl;
      same = (refl, (refl, (refl, (refl, refl))));
      words = λ u lu. ap (λ (l : List ℕ). get_or l u 0) (set-get_or s.words t 0) ∙ r.words u lu;
      home = r.home;
      away = λ u lu ne. inr (ne, (refl, λ h. h));
      holds = λ u h. kv.holds u h;
      down = kv.down;
      others = λ u j x ne e h. (refl, refl);
    },
    record {
      others = kv.begins.0;
      now = ap (having_seen v) kv.begins.1;
      found = r.words t lt ∙ ap (word_of t) kv.begins.1;
      elsewhere = λ not out half. away_from not (r.away t lt (λ z. out (r.words t lt ∙ z))) half;
    },
  )
    where
      kv : Knows s.homes s.views r.log r.owner id v
      kv = r.knows id v at

      away_from : has_tag t v.held ≡ false → Holder s.views t (word_of t r.log) → get_or s.words t 0 / 2 ≡ suc v.number → ⊥
      away_from not h half = let numbers : h.v.number ≡ v.number = omega (arith, half, h.numbered, ap (λ k. k / 2) (r.words t lt)) in
          let is : h.id ≡ id = sym ((r.knows h.id h.v h.at).own h.live) ∙ ap r.owner numbers ∙ kv.own live in
          let e : h.v ≡ v = some-injective h.v v (sym h.at ∙ ap (get_elem? s.views) is ∙ at) in
          true≢false (sym h.has_it ∙ ap (λ (z : SeatView). has_tag t z.held) e ∙ not)
