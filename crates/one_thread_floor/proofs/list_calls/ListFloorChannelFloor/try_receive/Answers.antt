use Rattle.std.specs.Prelude.{is_some}
use Rattle.std.proofs.Common.{sym, ap, ◌∙◌}
use Rattle.channel_model.specs.Channels.{Channel}
use Rattle.channel_model.proofs.Alone.{looked_alone, here_moment}
use Rattle.one_thread_floor.specs.Entries.{channel_entries}
use Rattle.one_thread_floor.proofs.ListEntries.{empty_queue}
use Rattle.one_thread_floor.proofs.ListPartners.{closed_seen}
use Rattle.one_thread_floor.proofs.list_calls.ListFloorChannelFloor.try_receive.Goals as goal

pub returns-in-Some-clause-answer : goal.returns-in-Some-clause-answer
returns-in-Some-clause-answer c =
    let xs = c.args.self.now.channels.items in
    let at = c.args.self.now.stands in (
      closed_seen _ xs (channel_entries c.args.self.now.entries) c.args.who c.args.c c.in-Some.v _ at c.in-Some.ensures,
      here_moment _ (channel_entries c.args.self.now.entries) _ _ (record {
        is_closed = ap (λ (ch : Channel). is_some ch.closed) (at.channels_are c.args.c) ∙ ap is_some (sym c.in-Some.ensures);
        nothing = empty_queue _ xs _ c.args.c c.queue_len.result at c.queue_len.ensures c.if-queue_len-gt0.false;
      }),
    )

pub returns-in-None-clause-answer : goal.returns-in-None-clause-answer
returns-in-None-clause-answer c =
    let xs = c.args.self.now.channels.items in
    let at = c.args.self.now.stands in (
      looked_alone _ c.args.who (channel_entries c.args.self.now.entries) _,
      here_moment _ (channel_entries c.args.self.now.entries) _ _ (record {
        not_closed = ap (λ (ch : Channel). ch.closed) (at.channels_are c.args.c) ∙ sym c.in-None.ensures;
        nothing = empty_queue _ xs _ c.args.c c.queue_len.result at c.queue_len.ensures c.if-queue_len-gt0.false;
      }),
    )
