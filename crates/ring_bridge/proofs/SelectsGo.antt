-- A select that has no answer yet goes on, and has its answer.
use Rattle.std.specs.Prelude.{◌≡◌, ℕ, ◌+◌}
use Rattle.ring_bridge.specs.declared.clauses.ClauseTurn.{ClauseTurn}
use Rattle.ring_bridge.specs.declared.clauses.ClauseTurn.TheVariants as turn
use Rattle.ring_bridge.specs.Selects.{NotYet, TriedClause, SelectAnswer}
use Rattle.ring_bridge.specs.Selects.TriedClause.{first, again}

module _ {C X : Type 0} where
  -- it had no answer for a number of turns
  pub record TriedSo (Turn : C → C → ClauseTurn X → Type 0) (old now : C) : Type 0 where
    pub times : ℕ
    pub tried : TriedClause Turn times old now

  pub none_tried : (Turn : C → C → ClauseTurn X → Type 0) (c : C) → TriedSo Turn c c
  none_tried Turn c = record { times = 0; tried = first c }

  pub tried_more : (Turn : C → C → ClauseTurn X → Type 0) (a b c : C) → TriedSo Turn a b → NotYet Turn b c → TriedSo Turn a c
  tried_more Turn a b c h k = record { times = h.times + 1; tried = again h.times a b c h.tried k }

  pub selected : (Turn : C → C → ClauseTurn X → Type 0) (a b c : C) (x : X) → TriedSo Turn a b → Turn b c (turn.Done x)
      → SelectAnswer Turn a c x
  selected Turn a b c x h k = record { times = h.times; last = b; tried = h.tried; answer = k }
