use Rattle.std.proofs.Common.{refl, sym, ap, ◌∙◌, arith, []}
use Rattle.call_meaning.proofs.HeardCalls.{told_before_now}
use Rattle.job_model.proofs.Spans.{nothing_more}
use Rattle.scope_builders.specs.Dones.{EndsDone}
use Rattle.scope_builders.proofs.Closings.{closed_still, both_closed, both_told, ends_done, ends_noted, ends_length, ends_no_jobs}
use Rattle.scope_builders.proofs.done_channels.DoneChannelsEnds.ended.Goals as goal

pub returns-then-row-self-clause-ended : goal.returns-then-row-self-clause-ended
returns-then-row-self-clause-ended g c = record {
  ended = [];
  does_it = (refl, refl, refl, refl, refl, EndsDone.outside c.if-row-self.true refl refl);
  few = omega arith;
  no_jobs = refl;
  appended = sym (nothing_more _);
  room = omega arith;
}

pub returns-clause-ended : goal.returns-clause-ended
returns-clause-ended g c =
    let h = c.close_first.ensures.closed in
    let w = c.wake_last.ensures.woken in
    let count = ends_length h w in
    let caller = c.args.self.now.may.caller in
    record {
      ended = _;
      does_it = (
        refl,
        refl,
        refl,
        refl,
        c.hear.ensures.channels_anchor ∙ c.wake_last.ensures.channels_anchor ∙ c.close_first.ensures.channels_anchor
            ∙ c.tell.ensures.channels_anchor,
        ends_done c.if-row-self.false c.done_channel-c.ensures c.value_of.ensures (both_closed h w)
            (told_before_now c.tell.ensures.jobs (c.tell.ensures.looked c.args.self.now.who caller) c.tell.ensures.told)
            (both_told h w) (closed_still (g.met.C.ChannelFloor.legal c.wake_last.new.channels) h w) c.hear.ensures.channels
            (λ joint. c.hear.ensures.heard (ap (λ f. f.joint) c.tell.ensures.jobs ∙ joint)),
      );
      few = omega (arith, w.few);
      no_jobs = ends_no_jobs h w;
      appended = ends_noted h w;
      room = omega (arith, c.close_first.ensures.spare, w.room);
    }
