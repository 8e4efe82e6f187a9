use Rattle.std.proofs.Common.{◌+◌, ◌≤◌, arith}
use Rattle.cell_words.specs.Hubs.{shape_of, seen_by}
use Rattle.cell_words.specs.Seen.{at_channel}
use Rattle.cell_words.proofs.LooksAtCells.{hub_legal, below_seen, given_seen}
use Rattle.cell_words.proofs.WalksToAdmit.{passed_low, search_seen}
use Rattle.cell_words.proofs.admitting.admit_past.Goals as goal

pub admit_decided-requires-clause-low : goal.admit_decided-requires-clause-low
admit_decided-requires-clause-low c =
    below_seen (shape_of c.args.hub.now) 0 c.args.low c.args.c (seen_by c.args.pass.now) (seen_by c.stands_at.new.pass)
    c.stands_at.ensures.sees (hub_legal c.args.hub.now c.stands_at.new.pass c.stands_at.ensures.own.0) c.requires.low

pub returns-then-stands_at-clause-search : goal.returns-then-stands_at-clause-search
returns-then-stands_at-clause-search c =
    search_seen (shape_of c.args.hub.now) c.args.who c.args.c c.args.low c.args.mark (seen_by c.args.pass.now)
    (seen_by c.stands_at.new.pass) (seen_by c.admit_decided.new.pass) c.stands_at.ensures.sees c.admit_decided.result
    c.admit_decided.ensures.search

pub returns-clause-search : goal.returns-clause-search
returns-clause-search c =
    let shape = shape_of c.args.hub.now in
    let u = seen_by c.args.pass.now in
    let v = seen_by c.stands_at.new.pass in
    let s = c.stands_at.ensures.sees in
    let l = hub_legal c.args.hub.now c.stands_at.new.pass c.stands_at.ensures.own.0 in
    let at : c.args.low + 1 ≤ (at_channel u.seen c.args.c).next = omega (arith, c.requires.given) in
    let later = given_seen shape (c.args.low + 1) c.args.c u v s l at in (
      s,
      passed_low shape c.args.c c.args.low v.seen l (below_seen shape 0 c.args.low c.args.c u v s l c.requires.low) (omega (arith, later))
          (rw c.if-stands_at.false at c.stands_at.ensures.stands),
    )
