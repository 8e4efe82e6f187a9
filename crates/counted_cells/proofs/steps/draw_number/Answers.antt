use Rattle.counted_cells.specs.declared.act.Side.TheVariants.{Send, Receive}
use Rattle.std.proofs.Common.{◌≡◌, false, subst}
use Rattle.counted_cells.specs.Seen.{now_in}
use Rattle.counted_cells.proofs.MayExchange.{draws_at}
use Rattle.counted_cells.proofs.StepsTell.{drawn_at}
use Rattle.counted_cells.proofs.steps.draw_number.Goals as goal

pub draw-requires-clause-may : goal.draw-requires-clause-may
draw-requires-clause-may c =
    let f = c.args.counted.now in
    let p = c.args.pass.now in
    draws_at f.cells f.table.shared.key p.number Send p.seat.me.0 f.sized.1 f.few.1 p.small p.numbered.0 p.numbered.1
    (subst (λ d. (now_in p.seat.me.0).late d p.number ≡ false) c.in-Send.is c.requires.early)

pub draw-requires-in-Receive-clause-may : goal.draw-requires-in-Receive-clause-may
draw-requires-in-Receive-clause-may c =
    let f = c.args.counted.now in
    let p = c.args.pass.now in
    draws_at f.cells f.table.shared.key p.number Receive p.seat.me.0 f.sized.1 f.few.1 p.small p.numbered.0 p.numbered.1
    (subst (λ d. (now_in p.seat.me.0).late d p.number ≡ false) c.in-Receive.is c.requires.early)

pub returns-in-Send-clause-drawn : goal.returns-in-Send-clause-drawn
returns-in-Send-clause-drawn c =
    let f = c.args.counted.now in
    let p = c.args.pass.now in
    drawn_at f.cells f.table.shared.key p.number c.draw.result c.args.side Send p.seat.me.0 c.draw.new.seat.me.0 f.sized.1 p.numbered.0
    c.in-Send.is c.requires.of.2 c.draw.ensures.entered

pub returns-in-Receive-clause-drawn : goal.returns-in-Receive-clause-drawn
returns-in-Receive-clause-drawn c =
    let f = c.args.counted.now in
    let p = c.args.pass.now in
    drawn_at f.cells f.table.shared.key p.number c.draw-in-Receive.result c.args.side Receive p.seat.me.0 c.draw-in-Receive.new.seat.me.0
    f.sized.1 p.numbered.0 c.in-Receive.is c.requires.of.2 c.draw-in-Receive.ensures.entered
