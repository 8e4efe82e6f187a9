use Rattle.std.proofs.Common.{ap, ◌∙◌, arith}
use Rattle.std.proofs.lemmas.List.Elements.{All-push}
use Rattle.task_berths.specs.declared.rule.SeatView.{SeatView}
use Rattle.task_berths.specs.Seats.{IsSeatOf}
use Rattle.task_crew.proofs.crew.seat_all.Goals as goal

pub loop-own-preserved : goal.loop-own-preserved
loop-own-preserved g c =
    let i = c.loop-own.invariant in
    let view = c.split.ensures.view in
    let splits = ap (λ (v : SeatView). v.splits) view in
    let before = i.counts.1 in
    let whole = i.counts.0 in
    let more = c.in_ok-push.ensures.len in
    let fewer = c.in-Some.ensures.cases in
    record {
      main = (c.split.ensures.main, ap (λ (v : SeatView). v.held) view ∙ i.main.1);
      counts = (omega (arith, whole, more, fewer), omega (arith, splits, before, more), ap (λ (v : SeatView). v.ends) view ∙ i.counts.2);
      seats = rw c.in_ok-push.ensures.items (All-push (λ hand. IsSeatOf c.args.berths.now hand.seat) c.loop-own.hands.items _ i.seats
          c.split.ensures.seat);
    }
