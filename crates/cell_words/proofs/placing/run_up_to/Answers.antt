use Rattle.std.proofs.Common.{sym, subst}
use Rattle.cell_words.specs.Hubs.{shape_of, seen_by}
use Rattle.cell_words.specs.Seen.{Seen, Sees}
use Rattle.word_rules.specs.Words.{WereKept}
use Rattle.cell_words.proofs.LooksAtCells.{hub_legal, sees_then}
use Rattle.cell_words.proofs.RunsOfKeptPlaces.{run_seen}
use Rattle.cell_words.proofs.placing.run_up_to.Goals as goal

pub say_run-requires-clause-run : goal.say_run-requires-clause-run
say_run-requires-clause-run c = run_seen (shape_of c.args.hub.now) c.args.c _ _ (seen_by c.kept_run-run.new.pass)
    (seen_by c.put_until-to.new.pass) c.put_until-to.ensures.sees
    (hub_legal c.args.hub.now c.put_until-to.new.pass c.put_until-to.ensures.own.0) c.kept_run-run.ensures.kept

pub returns-clause-sees : goal.returns-clause-sees
returns-clause-sees c =
    let u = seen_by c.args.pass.now in
    subst (λ (z : Seen). Sees u z) (sym c.say_run.ensures.same)
    (sees_then u (seen_by c.kept_run-run.new.pass) (seen_by c.put_until-to.new.pass) c.kept_run-run.ensures.sees
    c.put_until-to.ensures.sees)

pub returns-clause-kept : goal.returns-clause-kept
returns-clause-kept c = subst (λ (z : Seen). WereKept z.seen c.args.c c.say_run.result.from c.say_run.result.to)
    (sym c.say_run.ensures.same) c.say_run.ensures.kept
