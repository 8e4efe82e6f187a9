use Rattle.std.proofs.Common.{◌≡◌, ◌≤◌, ap, arith}
use Rattle.word_rules.specs.declared.size.ForestSize.{ForestSize}
use Rattle.job_words.specs.Passes.{floor_seen}
use Rattle.job_words.specs.Forests.{seen_by}
use Rattle.job_tree.specs.Rooms.{uncancelled}
use Rattle.job_tree.proofs.Rooms.{uncancelled_rows}
use Rattle.job_model.proofs.Own.{root_attached}
use Rattle.floor_tests.proofs.forest_shares.on_passes.cancel_root.Goals as goal

pub cancel_pass-requires-clause-attached : goal.cancel_pass-requires-clause-attached
cancel_pass-requires-clause-attached c = root_attached _ _ c.args.pass.now.legal

pub cancel_pass-requires-clause-room : goal.cancel_pass-requires-clause-room
cancel_pass-requires-clause-room c =
    let v = seen_by c.args.pass.now in
    let few : uncancelled (floor_seen v) ≤ v.key.rows = uncancelled_rows (floor_seen v) in
    let rows : v.key.rows ≡ c.args.forest.now.size.rows = ap (λ (k : ForestSize). k.rows) c.requires.own.0.1 in
    omega (arith, few, rows, c.args.forest.now.small.few, c.in_ok-room.ensures.ok)
