use Rattle.std.proofs.Common.{sym, ◌∙◌}
use Rattle.cell_words.specs.Hubs.{shape_of, seen_by}
use Rattle.cell_words.proofs.LooksAtCells.{hub_legal, sees_then}
use Rattle.cell_words.proofs.WalksToAdmit.{sees_self}
use Rattle.cell_words.proofs.RunsOfKeptPlaces.{run_seen, word_kept, run_longer, run_shorter}
use Rattle.cell_words.proofs.placing.put_until.Goals as goal

pub loop-next-init : goal.loop-next-init
loop-next-init c = record { own = c.requires.own; sees = sees_self (seen_by c.args.pass.now); kept = c.requires.run }

pub loop-next-preserved : goal.loop-next-preserved
loop-next-preserved c =
    let shape = shape_of c.args.hub.now in
    let i = c.loop-next.invariant in
    let h = c.load_cell-word.ensures in
    let v = seen_by c.loop-next.pass in
    let w = seen_by c.load_cell-word.new.pass in
    let l = hub_legal c.args.hub.now c.load_cell-word.new.pass h.own.0 in
    record {
      own = h.own;
      sees = sees_then (seen_by c.args.pass.now) v w i.sees h.sees;
      kept = run_longer w.seen c.args.c _ c.loop-next.next (run_seen shape c.args.c _ _ v w h.sees l i.kept)
          (word_kept shape c.args.c c.loop-next.next w.seen c.load_cell-word.result h.word (sym c.was_put.ensures
          ∙ c.if-not-was_put.false));
    }

pub returns-then-not-was_put-clause-sees : goal.returns-then-not-was_put-clause-sees
returns-then-not-was_put-clause-sees c = sees_then (seen_by c.args.pass.now) (seen_by c.loop-next.pass)
    (seen_by c.load_cell-word.new.pass) c.loop-next.invariant.sees c.load_cell-word.ensures.sees

pub returns-then-not-was_put-clause-kept : goal.returns-then-not-was_put-clause-kept
returns-then-not-was_put-clause-kept c = run_seen (shape_of c.args.hub.now) c.args.c _ _ (seen_by c.loop-next.pass)
    (seen_by c.load_cell-word.new.pass) c.load_cell-word.ensures.sees
    (hub_legal c.args.hub.now c.load_cell-word.new.pass c.load_cell-word.ensures.own.0) c.loop-next.invariant.kept

pub returns-clause-sees : goal.returns-clause-sees
returns-clause-sees c = c.loop-next.invariant.sees

pub returns-clause-kept : goal.returns-clause-kept
returns-clause-kept c = run_shorter (seen_by c.loop-next.pass).seen c.args.c _ c.loop-next.next c.args.place
    c.loop-next-test.false c.loop-next.invariant.kept
