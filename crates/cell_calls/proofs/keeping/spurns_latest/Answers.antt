use Rattle.std.proofs.Common.{◌∙◌, sym, ap}
use Rattle.channel_model.specs.declared.acts.Kind.{Kind}
use Rattle.channel_model.specs.Channels.{suspends}
use Rattle.cell_calls.proofs.KeepingTells.{spurning_waits_not}
use Rattle.cell_calls.proofs.keeping.spurns_latest.Goals as goal

pub returns-in-Some : goal.returns-in-Some
returns-in-Some c = ap (λ (k : Kind). suspends k) (sym c.kind_of.ensures)
    ∙ spurning_waits_not c.kind_of.result c.in-Some.field-0 c.in-Some.ensures
