use Rattle.std.proofs.Common.{ℕ, Bool, ap, ◌∙◌}
use Rattle.cell_calls.specs.HubFloors.{hub_floor}
use Rattle.word_bench.proofs.CallersGoOn.{try_got_callers}
use Rattle.word_bench.proofs.channels.on_passes.try_receive.Goals as goal

pub returns : goal.returns
returns c =
    let same = try_got_callers c.args.who c.args.c (hub_floor c.args.hub.now c.args.pass.now)
    (hub_floor c.args.hub.now c.try_receive.new.pass) c.try_receive.result c.try_receive.ensures.answer in
    record { own = (c.try_receive.ensures.of, ap (λ (f : ℕ → Bool). f c.args.who) same ∙ c.requires.own.1) }
