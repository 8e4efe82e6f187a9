use Rattle.std.proofs.Common.{sym, ap, ◌∙◌}
use Rattle.one_thread_floor.specs.ListSnapshots.{is_resolved}
use Rattle.one_thread_floor.proofs.list_floor.ListFloor.is_resolved.Goals as goal

pub returns : goal.returns
returns c = c.is_resolved_in.ensures ∙ ap is_resolved (sym (c.args.self.now.stands.waits_are c.args.w))
