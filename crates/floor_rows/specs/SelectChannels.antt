-- Two channels for selects.
use Rattle.std.specs.Prelude.{[], ◌∷◌}
use Rattle.channel_model.specs.declared.acts.Kind.TheVariants.{Rendezvous, Buffered}
use Rattle.channel_model.specs.Channels.{Shape}

-- a rendezvous channel, and one that keeps an element, with four places each
abbrev pub two_kinds : Shape
two_kinds = (Rendezvous, 4) ∷ (Buffered 1, 4) ∷ []
