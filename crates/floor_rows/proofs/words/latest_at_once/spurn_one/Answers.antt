use Rattle.std.proofs.Common.{ℕ, Bool, ap, ◌∙◌}
use Rattle.cell_calls.specs.HubFloors.{hub_floor}
use Rattle.floor_rows.proofs.LatestCalls.{spurn_callers}
use Rattle.floor_rows.proofs.words.latest_at_once.spurn_one.Goals as goal

pub returns : goal.returns
returns c =
    let a = hub_floor c.args.hub.now c.args.pass.now in
    let b = hub_floor c.args.hub.now c.spurn.new.pass in
    let h = c.spurn.ensures in
    record {
      own = (
        h.of,
        ap (λ (f : ℕ → Bool). f c.args.who) (spurn_callers c.args.who 0 c.args.place a b c.spurn.result h.answer)
            ∙ c.requires.own.1,
      );
    }
