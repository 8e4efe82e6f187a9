-- The rule holds when the tasks are put in, and gives them back at the end.
use Rattle.std.proofs.Common.{◌≡◌, ℕ, zero, suc, ◌*◌, ◌<◌, ◌≤◌, true, List, [], ◌∷◌, length, map, get_or, sym, refl, ap, ◌∙◌, subst, arith, Option, Some}
use Rattle.std.proofs.lemmas.List.{length-map}
use mathlib.Core.Logic.{dite}
use mathlib.Core.Option.{some, some-injective, some-ne-none}
use native.Mathlib.Decide.{ℕ_discrete}
use lib.ListN.{get_elem?}
use Rattle.atomic_table.specs.Table.{State, Final, Seen, opening}
use Rattle.atomic_table.proofs.Lists.{at_map}
use Rattle.task_berths.specs.declared.rule.SeatView.{SeatView}
use Rattle.task_berths.specs.Words.{word_of}
use Rattle.task_berths.specs.Views.{has_tag, first_view, live_count}
use Rattle.task_berths.specs.Homes.{Knows, HoldsTasks}
use Rattle.task_berths.proofs.SeatsCounted.{live_one}
use Rattle.task_berths.proofs.WordsByStep.{has_none}

module _ {T : Type 0} (tag_of : T → ℕ) where
  abbrev Rule : State (Option T) SeatView → Type 0
  Rule = HoldsTasks tag_of

  -- the main seat alone is left, and has no task: all are at home
  pub closes : (id : ℕ) (v : SeatView) (ws : List ℕ) (xs : List (Option T)) → v.chief ≡ true → v.live ≡ true → v.ends ≡ v.splits
      → v.held ≡ []
      → Final (Seen Rule id v) ws xs → (t : ℕ) → t < length xs → (y : T) × (get_elem? xs t ≡ some (Some y)) × (tag_of y ≡ t)
  closes id v ws xs chief live ended empty f t lt = let s = f.0 in let r = f.1.0 in let at = f.1.1 in let kv = r.knows id v at in
      let one : live_count s.views ≡ 1 = omega (arith, kv.count chief, ended) in
      let in_homes : t < length s.homes = omega (arith, lt, f.3) in
      let zero_ : word_of t r.log ≡ 0 = dite (ℕ_discrete (word_of t r.log) 0) (λ e. e) (λ ne. let h = r.away t in_homes ne in
      let is : h.id ≡ id = live_one s.views id h.id v h.v one at live h.at h.live in
      let e : h.v ≡ v = some-injective h.v v (sym h.at ∙ ap (get_elem? s.views) is ∙ at) in
      absurd (has_none t (ap (has_tag t) (sym empty) ∙ ap (λ (z : SeatView). has_tag t z.held) (sym e) ∙ h.has_it))) in
      let y = r.home t in_homes zero_ in (y.0, f.4 t (Some y.0) y.1, y.2)

  pub opens : (ws : List ℕ) (xs : List (Option T)) → length ws ≡ suc (2 * length xs) → ((i : ℕ) → get_or ws i 0 ≡ 0)
      → ((t : ℕ) → t < length xs → (y : T) × (get_elem? xs t ≡ some (Some y)) × (tag_of y ≡ t))
      → Rule (opening ws xs first_view)
  opens ws xs wide zeros tagged = record {
    log = [];
    made = refl;
    owner = λ _. 0;
    as_long = wide ∙ ap (λ n. suc (2 * n)) (sym (length-map xs some));
    words = λ t lt. zeros t;
    home = λ t lt z. let y = tagged t (omega (arith, lt, length-map xs some)) in (y.0, at_map some xs t (Some y.0) y.1, y.2);
    away = λ t lt ne. absurd (ne refl);
    knows = λ j u e. one j u e;
  }
    where
      one : (j : ℕ) (u : SeatView) → get_elem? (first_view ∷ []) j ≡ some u → Knows (map some xs) (first_view ∷ []) [] (λ _. 0) j u
      one zero u e = subst (λ z. Knows (map some xs) (first_view ∷ []) [] (λ _. 0) 0 z) (some-injective first_view u e) record {
        begins = ([], refl);
        own = λ l. refl;
        holds = λ t h. absurd (has_none t h);
        down = λ t h. absurd (has_none t h);
        numbers = λ c. (refl, λ i x q live. low i x q);
        count = λ c. refl;
      }
        where
          low : (i : ℕ) (x : SeatView) → get_elem? (first_view ∷ []) i ≡ some x → x.number ≤ 0
          low zero x q = omega (arith, ap (λ (z : SeatView). z.number) (some-injective first_view x q))
          low (suc i) x q = absurd (some-ne-none x (sym q))
      one (suc j) u e = absurd (some-ne-none u (sym e))
