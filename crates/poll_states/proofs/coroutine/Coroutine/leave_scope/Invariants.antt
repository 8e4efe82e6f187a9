use Rattle.std.proofs.Common.{◌≡◌, length}
use Rattle.script_meaning.specs.Configs.{with_entered}
use Rattle.poll_states.specs.Frames.{config_of, stack_of}
use Rattle.poll_states.proofs.Stacks.{HasScope}
use Rattle.poll_states.proofs.coroutine.Coroutine.leave_scope.Given as goal

abbrev pub invariant-loop-one : goal.invariant-loop-one
invariant-loop-one g l = record {
  tag : l.self.tag ≡ l.fn.self.tag;
  config : config_of l.self ≡ with_entered (stack_of l.self.entered.items) (config_of l.fn.self);
  items : g.B.NoteBook.items l.self.book ≡ g.B.NoteBook.items l.fn.self.book;
  scope : HasScope l.fn.self.entered.items l.self.entered.items;
}

abbrev pub decreases-loop-one : goal.decreases-loop-one
decreases-loop-one g l = length l.self.entered.items
