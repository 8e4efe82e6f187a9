use Rattle.std.proofs.Common.{ap, ◌∙◌, length, ◌-◌}
use Rattle.std.specs.Prelude.{slice_get, List}
use Rattle.poll_states.specs.declared.entered.Entered.{Entered}
use Rattle.poll_states.proofs.Stacks.{top_read}
use Rattle.poll_states.proofs.coroutine.Coroutine.top.Goals as goal

pub returns : goal.returns
returns g c = top_read c.args.self.now.entered.items c.copied.result (c.copied.ensures ∙ c.last.ensures.value
    ∙ ap (λ (l : List Entered). slice_get l (length l - 1)) c.deref.ensures.value)
