use Rattle.std.proofs.Common.{ℕ, Bool, ap, ◌∙◌}
use Rattle.cell_calls.specs.HubFloors.{hub_floor}
use Rattle.cell_calls.proofs.CallersStay.{offer_callers}
use Rattle.floor_rows.proofs.LatestCalls.{offer_puts}
use Rattle.floor_rows.proofs.words.latest_at_once.offer_one.Goals as goal

pub returns : goal.returns
returns c =
    let a = hub_floor c.args.hub.now c.args.pass.now in
    let b = hub_floor c.args.hub.now c.offer.new.pass in
    let h = c.offer.ensures in
    record {
      own = (
        h.of,
        ap (λ (f : ℕ → Bool). f c.args.who) (offer_callers c.args.who 0 c.args.value a b c.offer.result h.answer)
            ∙ c.requires.own.1,
      );
      put = offer_puts c.args.who 0 c.args.value a b c.offer.result h.answer;
    }
