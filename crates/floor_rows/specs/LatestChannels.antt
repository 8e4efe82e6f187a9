-- A channel that does not keep its latest.
use Rattle.std.specs.Prelude.{[], ◌∷◌}
use Rattle.channel_model.specs.declared.acts.Kind.TheVariants.{DropLatest}
use Rattle.channel_model.specs.Channels.{Shape}

-- it keeps two elements, and has 40 places
abbrev pub one_latest : Shape
one_latest = (DropLatest 2, 40) ∷ []
