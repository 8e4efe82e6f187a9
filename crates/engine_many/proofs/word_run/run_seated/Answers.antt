use Rattle.std.proofs.Common.{◌∙◌, sym, refl, arith}
use Rattle.script_grammar.specs.Tags.{coroutine_count}
use Rattle.job_words.specs.Forests.{IsOf as IsOfForest, seen_by as jobs_seen_by}
use Rattle.cell_words.specs.Seen.{on_channels}
use Rattle.cell_words.specs.Hubs.{IsOf, beside, seen_by}
use Rattle.word_seats.proofs.SameForests.{same_forest}
use Rattle.engine_many.proofs.NewTasks.{nobody_first, nobody_at_all}
use Rattle.engine_many.proofs.WholeFloors.{gave_these, gives_out}
use Rattle.engine_many.proofs.word_run.run_seated.Goals as goal

pub seat_tasks-requires-clause-nobody : goal.seat_tasks-requires-clause-nobody
seat_tasks-requires-clause-nobody g c = nobody_first (seen_by c.args.pass).chief (seen_by c.args.pass).given c.requires.hub.2.0
    c.requires.hub.2.1

pub seat_tasks-requires-clause-nobody_on_jobs : goal.seat_tasks-requires-clause-nobody_on_jobs
unfolding on_channels
seat_tasks-requires-clause-nobody_on_jobs g c = nobody_at_all (seen_by c.args.pass).chief (beside c.args.pass).given
    c.requires.hub.2.0 c.requires.forest.1

pub returns-clause-pass : goal.returns-clause-pass
returns-clause-pass g c =
    let seat = c.in_ok-left.left.channels in
    let hub = c.requires.hub.0 in
    (seat.of.0 ∙ seat.named.0 ∙ sym hub.0, seat.of.1 ∙ seat.named.1 ∙ sym hub.1, seat.of.2, seat.of.3)

pub returns-clause-jobs : goal.returns-clause-jobs
returns-clause-jobs g c =
    let seat = c.in_ok-left.left.jobs in
    same_forest _ _ c.args.forest.now seat.forest.now seat.pass c.requires.forest.0 seat.named seat.of

pub returns-clause-tags : goal.returns-clause-tags
returns-clause-tags g c =
    let seat = c.in_ok-left.left.channels in
    let hub = c.requires.hub.0 in
    let of : IsOf c.args.hub.now seat.pass =
    (seat.of.0 ∙ seat.named.0 ∙ sym hub.0, seat.of.1 ∙ seat.named.1 ∙ sym hub.1, seat.of.2, seat.of.3) in
    let n = coroutine_count g.N.ScriptName.program in
    let whole = c.in_ok-left.ensures.whole in
    record {
      callers = λ k lt. (of, (whole.callers k (omega (arith, lt))).0);
      gives = (gives_out n (seen_by seat.pass).chief (seen_by seat.pass).given (λ k lt. (whole.others k lt).0), refl);
      has_given = λ k e. (
        of,
        gave_these n (seen_by seat.pass).chief (seen_by seat.pass).given (seen_by seat.pass).tags (λ i le. (whole.callers i le).0)
            (λ i lt. (whole.others i lt).0) k e,
      );
    }

pub returns-clause-job_tags : goal.returns-clause-job_tags
unfolding on_channels
returns-clause-job_tags g c =
    let seat = c.in_ok-left.left.jobs in
    let giver = c.in_ok-left.left.channels.pass in
    let of : IsOfForest c.args.forest.now seat.pass =
    same_forest _ _ c.args.forest.now seat.forest.now seat.pass c.requires.forest.0 seat.named seat.of in
    let n = coroutine_count g.N.ScriptName.program in
    let whole = c.in_ok-left.ensures.whole in
    record {
      callers = λ k lt. (of, (whole.callers k (omega (arith, lt))).1);
      gives = (gives_out n (seen_by giver).chief (beside giver).given (λ k lt. (whole.others k lt).1), refl);
      has_given = λ k e. (
        of,
        gave_these n (seen_by giver).chief (beside giver).given (jobs_seen_by seat.pass).tags
            (λ i le. (whole.callers i le).1) (λ i lt. (whole.others i lt).1) k e,
      );
    }

pub returns-clause-job_shape : goal.returns-clause-job_shape
returns-clause-job_shape g c = c.in_ok-left.ensures.whole.job_shape

pub returns-clause-rest : goal.returns-clause-rest
returns-clause-rest g c = let rest = c.in_ok-left.ensures.rest in (rest.0, rest.1 (λ j. refl))

pub seat_tasks-requires-clause-channels : goal.seat_tasks-requires-clause-channels
seat_tasks-requires-clause-channels g c = record {
  shape = c.requires.channels.0;
  seen = c.requires.channels.1;
  caller = c.requires.hub.1.1;
}

pub invariant_of-root : goal.invariant_of-root
invariant_of-root g c = record { of = c.requires.hub.1.0; named = c.requires.hub.0 }
