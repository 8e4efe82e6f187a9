use Rattle.std.proofs.Common.{ℕ, Bool, None, ap, ◌∙◌}
use Rattle.cell_words.proofs.LooksAtCells.{hub_legal}
use Rattle.cell_calls.specs.HubFloors.{hub_floor}
use Rattle.cell_calls.proofs.CallersStay.{register_receive_callers}
use Rattle.cell_calls.proofs.SelectsBegun.{begun_joins}
use Rattle.floor_rows.proofs.selects_on_passes.begin.Goals as goal

pub returns-in-Stands-clause-own : goal.returns-in-Stands-clause-own
returns-in-Stands-clause-own c =
    let same = register_receive_callers 1 1 0 None (hub_floor c.args.hub.now c.args.pass.now)
    (hub_floor c.args.hub.now c.register_receive-answer.new.pass) c.register_receive-answer.result
    c.register_receive-answer.ensures.answer in
    (c.register_receive-answer.ensures.of, ap (λ (f : ℕ → Bool). f 1) same ∙ c.requires.own.1)

pub returns-in-Stands-clause-joins : goal.returns-in-Stands-clause-joins
returns-in-Stands-clause-joins c =
    begun_joins 1 c.in-Stands.place (hub_floor c.args.hub.now c.args.pass.now)
    (hub_floor c.args.hub.now c.register_receive-answer.new.pass)
    (hub_legal c.args.hub.now c.register_receive-answer.new.pass c.register_receive-answer.ensures.of) c.in-Stands.ensures.answer

pub returns-clause-own : goal.returns-clause-own
returns-clause-own c =
    let same = register_receive_callers 1 1 0 None (hub_floor c.args.hub.now c.args.pass.now)
    (hub_floor c.args.hub.now c.register_receive-answer.new.pass) c.register_receive-answer.result
    c.register_receive-answer.ensures.answer in
    (c.register_receive-answer.ensures.of, ap (λ (f : ℕ → Bool). f 1) same ∙ c.requires.own.1)
