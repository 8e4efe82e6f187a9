use Rattle.std.proofs.Common.{ℕ, Bool, ap, ◌∙◌}
use Rattle.word_rules.specs.Cells.{spot}
use Rattle.cell_calls.specs.HubFloors.{hub_floor}
use Rattle.cell_calls.proofs.CallersStay.{withdraw_callers}
use Rattle.word_bench.proofs.channels.waits.withdraw.Goals as goal

pub returns-then-is_own : goal.returns-then-is_own
returns-then-is_own c =
    let same = withdraw_callers c.args.who (spot 0 c.args.place) _ (hub_floor c.args.hub.now c.is_own.new.pass)
    (hub_floor c.args.hub.now c.withdraw.new.pass) c.withdraw.result c.withdraw.ensures.answer in
    record { own = (c.withdraw.ensures.of, ap (λ (f : ℕ → Bool). f c.args.who) same ∙ c.is_own.ensures.own.1) }
