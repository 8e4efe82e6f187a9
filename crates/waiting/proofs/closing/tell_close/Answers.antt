use Rattle.std.specs.Prelude.{None, refl}
use Rattle.co_base.proofs.Orders.{order_same}
use Rattle.std.proofs.Common.{subst}
use Rattle.cell_words.proofs.LooksAtCells.{hub_legal}
use Rattle.parcel_channel.specs.Hubs.{floor_by, WakeParcel}
use Rattle.waiting.specs.Closes.Tells.{nobody}
use Rattle.waiting.proofs.ClosesGo.{told_less, told_setting, told_closed, told_more, pass_then}
use Rattle.waiting.proofs.closing.tell_close.Goals as goal

pub loop-tag-init : goal.loop-tag-init
loop-tag-init g c = record {
  of = c.requires.of;
  same = ((refl, (refl, refl), refl), refl);
  setting = record { shape = refl; alone = refl; callers = refl; order = order_same _ };
  closed = c.requires.closed;
  told = nobody (floor_by c.args.hub.now c.args.pass.now);
}

pub wake_closed-requires-clause-closed : goal.wake_closed-requires-clause-closed
wake_closed-requires-clause-closed g c = c.loop-tag.invariant.closed

pub loop-tag-smaller : goal.loop-tag-smaller
loop-tag-smaller g c =
    let hub = c.args.hub.now in
    let q = c.wake_closed.new.pass in
    told_less c.loop-tag.pass.tag c.in-Some.tag (floor_by hub c.args.pass.now) (floor_by hub c.loop-tag.pass) (floor_by hub q)
    c.loop-tag.invariant.setting (hub_legal hub.hub q.pass c.wake_closed.ensures.of.2.0) c.in-Some.ensures.answer

pub loop-tag-preserved : goal.loop-tag-preserved
loop-tag-preserved g c =
    let hub = c.args.hub.now in
    let p = c.args.pass.now in
    let m = c.loop-tag.pass in
    let q = c.wake_closed.new.pass in
    let i = c.loop-tag.invariant in
    let answer = c.in-Some.ensures.answer in
    record {
      of = c.wake_closed.ensures.of;
      same = pass_then p m q i.same c.wake_closed.ensures.same;
      setting = told_setting m.tag c.in-Some.tag (floor_by hub p) (floor_by hub m) (floor_by hub q) i.setting answer;
      closed = told_closed m.tag c.in-Some.tag (floor_by hub m) (floor_by hub q)
          (hub_legal hub.hub q.pass c.wake_closed.ensures.of.2.0) answer i.closed;
      told = told_more p.tag m.tag c.in-Some.tag (floor_by hub p) (floor_by hub m) (floor_by hub q) i.same.0.0 i.told answer;
    }

pub returns-in-None-clause-same : goal.returns-in-None-clause-same
returns-in-None-clause-same g c =
    pass_then c.args.pass.now c.loop-tag.pass c.wake_closed.new.pass c.loop-tag.invariant.same c.wake_closed.ensures.same

pub returns-in-None-clause-told : goal.returns-in-None-clause-told
returns-in-None-clause-told g c =
    let hub = c.args.hub.now in
    let m = c.loop-tag.pass in
    let q = c.wake_closed.new.pass in
    record {
      before = floor_by hub m;
      told = c.loop-tag.invariant.told;
      none = subst (λ n. WakeParcel n (floor_by hub m) (floor_by hub q) None) c.loop-tag.invariant.same.0.0 c.in-None.ensures.answer;
    }
