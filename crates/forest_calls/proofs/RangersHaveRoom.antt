-- A ranger has room for each Cancel.
use Rattle.std.specs.Prelude.{◌≡◌, ℕ, ◌≤◌}
use Rattle.std.proofs.Common.{ap, arith}
use Rattle.job_words.specs.declared.ranger.Ranger.{Ranger}
use Rattle.job_words.specs.Passes.{floor_seen}
use Rattle.job_words.specs.Rangers.{ranger_floor}
use Rattle.job_words.specs.Forests.{seen_by}
use Rattle.job_tree.specs.Rooms.{uncancelled, MayCancelAll}
use Rattle.job_tree.proofs.Rooms.{uncancelled_rows}

pub may_cancel_all : (r : Ranger) (spare : ℕ) → uncancelled (ranger_floor r) ≤ spare → MayCancelAll (ranger_floor r) spare
may_cancel_all r spare h =
    let v = seen_by r.pass.now in
    let few : uncancelled (floor_seen v) ≤ v.key.rows = uncancelled_rows (floor_seen v) in
    let rows : v.key.rows ≡ r.forest.now.size.rows = ap (λ k. k.rows) r.of.1 in
    record { floor_room = omega (arith, r.forest.now.small.few); book_room = h }
