use Rattle.std.proofs.Common.{ℕ, Bool, ap, ◌∙◌, subst}
use Rattle.channel_model.specs.Answers.{LookAnswer}
use Rattle.word_rules.specs.Cells.{spot}
use Rattle.cell_words.proofs.LooksAtCells.{hub_legal}
use Rattle.cell_calls.specs.HubFloors.{hub_floor}
use Rattle.word_bench.proofs.WaitsBegun.{wait_own, wait_looked, ready_looked}
use Rattle.word_bench.proofs.channels.apart.is_resolved.Goals as goal

pub look-state-requires-clause-own : goal.look-state-requires-clause-own
look-state-requires-clause-own c = wait_own c.args.who _ c.requires.holds

pub returns : goal.returns
returns c =
    let w = spot 0 c.args.place in
    let old = hub_floor c.args.hub.now c.args.pass.now in
    let new = hub_floor c.args.hub.now c.look-state.new.pass in
    let legal = hub_legal c.args.hub.now c.look-state.new.pass c.look-state.ensures.of in
    let answer = c.look-state.ensures.answer in
    record {
      own = (c.look-state.ensures.of, ap (λ (f : ℕ → Bool). f c.args.who) answer.0.same.callers ∙ c.requires.own.1);
      holds = wait_looked c.args.who w old new legal answer.0 c.requires.holds;
      ready = λ e. ready_looked c.args.who w old new legal c.requires.holds
          (subst (λ r. LookAnswer c.args.who w old new r) (c.is_end.ensures e) answer);
    }
