use Rattle.std.proofs.Common.{sym, ap, ◌∙◌}
use Rattle.channel_ends.proofs.Handles.{marked}
use Rattle.channel_ends.proofs.handle.ChannelEnd.open.Goals as goal

pub show-requires : goal.show-requires
show-requires c =
    let h = c.replace-hidden.result in
    record {
      some = marked h.hidden.end h.used h.marked (λ e. c.if-self-eq0.false (ap (λ x. x.used) (sym c.replace-hidden.ensures.value)
          ∙ e));
    }
