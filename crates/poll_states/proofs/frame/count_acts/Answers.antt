use Rattle.std.proofs.Common.{arith}
use Rattle.channel_model.specs.declared.acts.Act.TheVariants.{Hand}
use Rattle.channel_model.specs.declared.acts.ChannelNote.TheVariants as note
use Rattle.note_book.specs.declared.book.Item.TheVariants as item
use Rattle.poll_states.proofs.Acts.{acts_first, acts_after, acts_fit, acts_all}
use Rattle.poll_states.proofs.frame.count_acts.Goals as goal

pub loop-item-init : goal.loop-item-init
loop-item-init c = record { counted = acts_first c.args.items.now; few = omega (arith, c.requires.notes, c.ranges.notes) }

pub overflow_add-acts : goal.overflow_add-acts
overflow_add-acts c =
    let fits = acts_fit c.args.items.now c.loop-item.item-index c.loop-item.acts _ (item.Channel (note.Made (Hand 0 0 0)))
    c.loop-item-test.true c.loop-item.invariant.counted c.acts_of_item-acts.ensures in
    omega (arith, fits, c.loop-item.invariant.few)

pub loop-item-preserved : goal.loop-item-preserved
loop-item-preserved c = record {
  counted = acts_after c.args.items.now c.loop-item.item-index c.loop-item.acts _ (item.Channel (note.Made (Hand 0 0 0)))
      c.loop-item-test.true c.loop-item.invariant.counted c.acts_of_item-acts.ensures;
  few = c.loop-item.invariant.few;
}

pub returns : goal.returns
returns c = acts_all c.args.items.now c.loop-item.item-index c.loop-item.acts c.loop-item-test.false c.loop-item.invariant.counted
