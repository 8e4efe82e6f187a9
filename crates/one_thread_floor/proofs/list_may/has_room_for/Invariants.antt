use Rattle.std.proofs.Common.{◌≡◌, ◌==◌, ℕ, drop, map}
use Rattle.std.specs.List.{list_any}
use Rattle.one_thread_floor.specs.ListStands.{clause_of}
use Rattle.one_thread_floor.proofs.list_may.has_room_for.Given as goal

abbrev pub invariant-loop-one : goal.invariant-loop-one
invariant-loop-one l =
    (list_any (λ (y : ℕ × ℕ). y.1 == l.c) (map clause_of (drop l.one-index l.clauses))
    ≡ list_any (λ (y : ℕ × ℕ). y.1 == l.c) (map clause_of l.clauses))
    × (list_any (λ (y : ℕ × ℕ). y.0 == l.clause) (map clause_of (drop l.one-index l.clauses))
    ≡ list_any (λ (y : ℕ × ℕ). y.0 == l.clause) (map clause_of l.clauses))
