use Rattle.std.proofs.Common.{◌+◌, ◌<◌, ◌≤◌, None, sym, subst, ◌∙◌, arith}
use Rattle.channel_model.specs.Channels.{places_at}
use Rattle.channel_model.specs.Histories.{replay}
use Rattle.channel_model.specs.Answers.{IsTrimmed}
use Rattle.cell_words.specs.declared.found.Removal.TheVariants as removal
use Rattle.cell_words.specs.Hubs.{shape_of, seen_by}
use Rattle.cell_words.specs.Answers.{RemovesFrom}
use Rattle.cell_words.specs.Seen.{at_channel}
use Rattle.cell_words.proofs.LooksAtCells.{hub_legal, sees_then, given_seen, below_seen}
use Rattle.cell_calls.proofs.CallsTell.{made_of, seen_of}
use Rattle.cell_calls.proofs.PlacesPassed.{removed_past}
use Rattle.cell_calls.proofs.KeepingTells.{trimmed_ever, trimmed_empty, trimmed_below, nobody_waits, put_seen, own_put_given, own_put_within}
use Rattle.cell_calls.proofs.keeping.trim.Goals.{in-Kept+else-not-is_over+else-remove_kept, in-Gone}
use Rattle.cell_calls.proofs.keeping.trim.Goals as goal
use Rattle.cell_words.proofs.WalksToAdmit.{sees_self}

pub returns-then-not-drops_oldest-clause-answer : goal.returns-then-not-drops_oldest-clause-answer
returns-then-not-drops_oldest-clause-answer c = seen_of c.args.hub.now c.args.who c.args.pass.now c.args.pass.now
    (IsTrimmed (shape_of c.args.hub.now) c.args.c c.args.mine) c.requires.can.caller (sees_self (seen_by c.args.pass.now))
    (trimmed_ever (shape_of c.args.hub.now) c.args.c c.args.mine (replay (seen_by c.args.pass.now).seen) c.if-not-drops_oldest.ensures)

pub loop-first-init : goal.loop-first-init
loop-first-init c = record {
  own = c.receives_from-from.ensures.own;
  sees = c.receives_from-from.ensures.sees;
  low =
      c.receives_from-from.ensures.low;
}

pub overflow_add-first-end : goal.overflow_add-first-end
overflow_add-first-end c =
    let shape = shape_of c.args.hub.now in
    let lt : c.args.mine < places_at shape c.args.c = own_put_within shape c.args.who c.args.c c.args.mine (seen_by c.args.pass.now).seen
    (hub_legal c.args.hub.now c.args.pass.now c.requires.of) c.requires.own in
    let few : places_at shape c.args.c ≤ 1048576 = (c.args.hub.now.sized.places c.args.c c.requires.can.channel).few in
    omega arith

pub try_await_at-requires-clause-at : goal.try_await_at-requires-clause-at
try_await_at-requires-clause-at c =
    let shape = shape_of c.args.hub.now in
    let lt : c.args.mine < places_at shape c.args.c = own_put_within shape c.args.who c.args.c c.args.mine (seen_by c.args.pass.now).seen
    (hub_legal c.args.hub.now c.args.pass.now c.requires.of) c.requires.own in
    (c.requires.can.channel, omega (arith, c.loop-first-test.true))

pub is_over-requires-clause-at : goal.is_over-requires-clause-at
is_over-requires-clause-at c = (
  c.requires.can.channel,
  own_put_within (shape_of c.args.hub.now) c.args.who c.args.c c.args.mine (seen_by c.args.pass.now).seen
      (hub_legal c.args.hub.now c.args.pass.now c.requires.of) c.requires.own,
)

pub is_over-requires-clause-given : goal.is_over-requires-clause-given
is_over-requires-clause-given c =
    let shape = shape_of c.args.hub.now in
    let w = seen_by c.try_await_at.new.pass in
    let given : c.args.mine < (at_channel (seen_by c.args.pass.now).seen c.args.c).next =
    own_put_given shape c.args.who c.args.c c.args.mine (seen_by c.args.pass.now).seen
    (hub_legal c.args.hub.now c.args.pass.now c.requires.of) c.requires.own in
    let later : c.args.mine + 1 ≤ (at_channel w.seen c.args.c).next =
    given_seen shape (c.args.mine + 1) c.args.c (seen_by c.args.pass.now) w
    (sees_then _ _ _ c.loop-first.invariant.sees c.in-Kept.ensures.at.0)
    (hub_legal c.args.hub.now c.try_await_at.new.pass c.try_await_at.ensures.own.0) (omega (arith, given)) in
    (omega (arith, c.loop-first-test.true), omega (arith, later))

pub returns-then-not-is_over-clause-answer : goal.returns-then-not-is_over-clause-answer
returns-then-not-is_over-clause-answer c = seen_of c.args.hub.now c.args.who c.args.pass.now c.is_over.new.pass
    (IsTrimmed (shape_of c.args.hub.now) c.args.c c.args.mine) c.requires.can.caller
    (sees_then _ _ _ c.loop-first.invariant.sees (sees_then _ _ _ c.in-Kept.ensures.at.0 c.is_over.ensures.sees))
    c.if-not-is_over.ensures.over

pub remove_kept-requires-clause-at : goal.remove_kept-requires-clause-at
remove_kept-requires-clause-at c =
    let shape = shape_of c.args.hub.now in
    let lt : c.args.mine < places_at shape c.args.c = own_put_within shape c.args.who c.args.c c.args.mine (seen_by c.args.pass.now).seen
    (hub_legal c.args.hub.now c.args.pass.now c.requires.of) c.requires.own in
    (c.requires.can.channel, omega (arith, c.loop-first-test.true))

pub remove_kept-requires-clause-low : goal.remove_kept-requires-clause-low
remove_kept-requires-clause-low c =
    below_seen (shape_of c.args.hub.now) 0 c.loop-first.first c.args.c (seen_by c.try_await_at.new.pass) (seen_by c.is_over.new.pass)
    c.is_over.ensures.sees (hub_legal c.args.hub.now c.is_over.new.pass c.is_over.ensures.own.0) c.in-Kept.ensures.at.1

pub remove_kept-requires-clause-kept : goal.remove_kept-requires-clause-kept
remove_kept-requires-clause-kept c = put_seen (shape_of c.args.hub.now) c.args.c c.loop-first.first c.in-Kept.value
    (seen_by c.try_await_at.new.pass) (seen_by c.is_over.new.pass) c.is_over.ensures.sees
    (hub_legal c.args.hub.now c.is_over.new.pass c.is_over.ensures.own.0) c.in-Kept.ensures.at.2

pub raise_receives-requires-clause-low : goal.raise_receives-requires-clause-low
raise_receives-requires-clause-low c =
    removed_past (shape_of c.args.hub.now) c.args.who c.args.c c.loop-first.first (seen_by c.is_over.new.pass)
    (seen_by c.remove_kept.new.pass) (hub_legal c.args.hub.now c.remove_kept.new.pass c.remove_kept.ensures.own.0) removal.Drop tt _
    None c.if-remove_kept.ensures.removed

pub returns-then-remove_kept-clause-answer : goal.returns-then-remove_kept-clause-answer
returns-then-remove_kept-clause-answer c =
    let y = seen_by c.is_over.new.pass in
    let r = subst (RemovesFrom removal.Drop c.args.who c.args.c c.loop-first.first _ None y) (sym c.raise_receives.ensures.same)
    c.if-remove_kept.ensures.removed in (
      made_of c.args.hub.now c.args.who c.args.pass.now c.raise_receives.new.pass y _ c.requires.can.caller
          (sees_then _ _ _ c.loop-first.invariant.sees (sees_then _ _ _ c.in-Kept.ensures.at.0 c.is_over.ensures.sees)) r.made,
      omega (arith, c.loop-first-test.true),
    )

pub returns-then-remove_kept-clause-giving : goal.returns-then-remove_kept-clause-giving
returns-then-remove_kept-clause-giving c = let y = seen_by c.is_over.new.pass in
    (subst (RemovesFrom removal.Drop c.args.who c.args.c c.loop-first.first _ None y) (sym c.raise_receives.ensures.same)
    c.if-remove_kept.ensures.removed).made.giving ∙ c.is_over.ensures.sees.giving ∙ c.in-Kept.ensures.at.0.giving
    ∙ c.loop-first.invariant.sees.giving

pub returns-in-Closed-clause-answer : goal.returns-in-Closed-clause-answer
returns-in-Closed-clause-answer c = let t = c.in-Closed.ensures.at
    in seen_of c.args.hub.now c.args.who c.args.pass.now c.try_await_at.new.pass (IsTrimmed (shape_of c.args.hub.now) c.args.c c.args.mine)
    c.requires.can.caller (sees_then _ _ _ c.loop-first.invariant.sees t.0)
    (trimmed_empty (shape_of c.args.hub.now) c.args.c c.args.mine (replay (seen_by c.try_await_at.new.pass).seen) t.2)

pub returns-in-Open-clause-answer : goal.returns-in-Open-clause-answer
returns-in-Open-clause-answer c = let t = c.in-Open.ensures.at
    in seen_of c.args.hub.now c.args.who c.args.pass.now c.try_await_at.new.pass (IsTrimmed (shape_of c.args.hub.now) c.args.c c.args.mine)
    c.requires.can.caller (sees_then _ _ _ c.loop-first.invariant.sees t.0)
    (trimmed_empty (shape_of c.args.hub.now) c.args.c c.args.mine (replay (seen_by c.try_await_at.new.pass).seen) t.1.nothing)

pub unreachable-requires : goal.unreachable-requires
unreachable-requires c = nobody_waits (shape_of c.args.hub.now) c.args.c c.loop-first.first c.in-Waiting.field-0
    (seen_by c.try_await_at.new.pass).seen (hub_legal c.args.hub.now c.try_await_at.new.pass c.try_await_at.ensures.own.0)
    c.if-not-drops_oldest.ensures c.in-Waiting.ensures.at.2

pub loop-first-preserved : goal.loop-first-preserved
loop-first-preserved c = let i = c.loop-first.invariant in elim c.match-try_await_at.branch [
  | in-Kept+else-not-is_over+else-remove_kept w ↦ let un = rw w.if-remove_kept.false at w.remove_kept.ensures.removed
      in rw w.pass-is (record {
        own = w.remove_kept.ensures.own;
        sees =
            sees_then _ _ _ i.sees (sees_then _ _ _ w.in-Kept.ensures.at.0 (sees_then _ _ _ w.is_over.ensures.sees un.0));
        low = un.1;
      })
  | in-Gone w ↦ rw w.pass-is (record {
    own = c.try_await_at.ensures.own;
    sees = sees_then _ _ _ i.sees w.in-Gone.ensures.at.0;
    low =
        w.in-Gone.ensures.at.1;
  })
]

pub returns-clause-answer : goal.returns-clause-answer
returns-clause-answer c = let x = seen_by c.loop-first.pass in
    seen_of c.args.hub.now c.args.who c.args.pass.now c.loop-first.pass (IsTrimmed (shape_of c.args.hub.now) c.args.c c.args.mine)
    c.requires.can.caller c.loop-first.invariant.sees (trimmed_below (shape_of c.args.hub.now) c.args.c c.args.mine c.loop-first.first
    (replay x.seen) (omega (arith, c.loop-first-test.false)) c.loop-first.invariant.low)
