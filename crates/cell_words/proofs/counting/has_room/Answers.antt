use Rattle.std.proofs.Common.{sym, ap, ◌∙◌}
use Rattle.channel_model.specs.declared.acts.Kind.{Kind}
use Rattle.channel_model.specs.Channels.{suspends}
use Rattle.cell_words.proofs.counting.has_room.Goals as goal

pub count_below-requires-clause-kind : goal.count_below-requires-clause-kind
count_below-requires-clause-kind c = ap (λ (k : Kind). suspends k) (sym c.kind_of.ensures ∙ c.in-Buffered.is)
