use Rattle.std.proofs.Common.{ℕ, Bool, ap, ◌∙◌}
use Rattle.cell_calls.specs.HubFloors.{hub_floor}
use Rattle.floor_rows.proofs.LatestCalls.{got_callers}
use Rattle.floor_rows.proofs.words.latest_at_once.take.Goals as goal

pub returns : goal.returns
returns c =
    let a = hub_floor c.args.hub.now c.args.pass.now in
    let b = hub_floor c.args.hub.now c.try_receive.new.pass in
    let h = c.try_receive.ensures in
    record {
      own = (h.of, ap (λ (f : ℕ → Bool). f c.args.who) (got_callers c.args.who 0 a b c.try_receive.result h.answer) ∙ c.requires.own.1);
    }
