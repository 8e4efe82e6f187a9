use Rattle.std.proofs.Common.{◌≤◌, ◌+◌, false, arith}
use Rattle.channel_model.specs.Channels.{kind_at}
use Rattle.cell_words.specs.Hubs.{shape_of, seen_by}
use Rattle.cell_words.specs.Seen.{at_channel}
use Rattle.cell_words.proofs.LooksAtCells.{hub_legal, sees_then, below_seen, given_seen}
use Rattle.cell_words.proofs.OffersUpTo.{drops_as, trimmed_never, trimmed_few, over_told}
use Rattle.cell_words.proofs.RunsOfKeptPlaces.{run_over}
use Rattle.cell_words.proofs.counting.is_over.Goals as goal

pub returns-in-None-clause-over : goal.returns-in-None-clause-over
returns-in-None-clause-over c =
    let shape = shape_of c.args.hub.now in
    trimmed_never shape (seen_by c.args.pass.now).seen (hub_legal c.args.hub.now c.args.pass.now c.requires.own.0) c.args.c c.args.mine
    c.requires.given.1
    (drops_as c.kind_of.result (kind_at shape c.args.c) (λ n. false) c.kind_of.ensures c.in-None.ensures)

pub returns-then-mine-most-clause-over : goal.returns-then-mine-most-clause-over
returns-then-mine-most-clause-over c =
    let shape = shape_of c.args.hub.now in
    trimmed_few shape (seen_by c.args.pass.now).seen (hub_legal c.args.hub.now c.args.pass.now c.requires.own.0) c.args.c c.args.mine
    c.requires.given.1 _
    (drops_as c.kind_of.result (kind_at shape c.args.c) _ c.kind_of.ensures c.in-Some.ensures) c.if-mine-most.true

pub returns-then-has_from-clause-over : goal.returns-then-has_from-clause-over
returns-then-has_from-clause-over c =
    let shape = shape_of c.args.hub.now in
    let v = seen_by c.kept_run-run.new.pass in
    let h = c.kept_run-run.ensures in
    let l = hub_legal c.args.hub.now c.kept_run-run.new.pass h.own.0 in
    let r = rw c.if-has_from.true at c.has_from.ensures in
    run_over shape c.args.c c.args.first _ _ _ (drops_as c.kind_of.result (kind_at shape c.args.c) _ c.kind_of.ensures c.in-Some.ensures)
    v.seen l (below_seen shape 0 c.args.first c.args.c (seen_by c.args.pass.now) v h.sees l c.requires.low) h.kept r.0 r.1

pub returns-clause-sees : goal.returns-clause-sees
returns-clause-sees c = sees_then (seen_by c.args.pass.now) (seen_by c.kept_run-run.new.pass) (seen_by c.enough_from.new.pass)
    c.kept_run-run.ensures.sees c.enough_from.ensures.sees

pub enough_from-requires-clause-given : goal.enough_from-requires-clause-given
enough_from-requires-clause-given c =
    let h = c.kept_run-run.ensures in
    let given : c.args.mine + 1 ≤ (at_channel (seen_by c.args.pass.now).seen c.args.c).next = omega (arith, c.requires.given.1) in
    given_seen (shape_of c.args.hub.now) (c.args.mine + 1) c.args.c (seen_by c.args.pass.now) (seen_by c.kept_run-run.new.pass) h.sees
    (hub_legal c.args.hub.now c.kept_run-run.new.pass h.own.0) given

pub enough_from-requires-clause-low : goal.enough_from-requires-clause-low
enough_from-requires-clause-low c =
    let h = c.kept_run-run.ensures in
    below_seen (shape_of c.args.hub.now) 0 c.args.first c.args.c (seen_by c.args.pass.now) (seen_by c.kept_run-run.new.pass) h.sees
    (hub_legal c.args.hub.now c.kept_run-run.new.pass h.own.0) c.requires.low

pub returns-clause-over : goal.returns-clause-over
returns-clause-over c =
    let shape = shape_of c.args.hub.now in
    let u = seen_by c.args.pass.now in
    let v = seen_by c.kept_run-run.new.pass in
    let w = seen_by c.enough_from.new.pass in
    let k = c.kept_run-run.ensures in
    let h = c.enough_from.ensures in
    let lv = hub_legal c.args.hub.now c.kept_run-run.new.pass k.own.0 in
    let lw = hub_legal c.args.hub.now c.enough_from.new.pass h.own.0 in
    let given : c.args.mine + 1 ≤ (at_channel u.seen c.args.c).next = omega (arith, c.requires.given.1) in
    let at : c.args.mine + 1 ≤ (at_channel v.seen c.args.c).next = given_seen shape (c.args.mine + 1) c.args.c u v k.sees lv given in
    let later : c.args.mine + 1 ≤ (at_channel w.seen c.args.c).next = given_seen shape (c.args.mine + 1) c.args.c v w h.sees lw at in
    over_told shape c.args.c c.args.first c.args.mine _ v w h.sees lv lw c.requires.given.0 (omega (arith, at)) (omega (arith, later))
    (below_seen shape 0 c.args.first c.args.c u v k.sees lv c.requires.low)
    (drops_as c.kind_of.result (kind_at shape c.args.c) _ c.kind_of.ensures c.in-Some.ensures) c.enough_from.result h.count
