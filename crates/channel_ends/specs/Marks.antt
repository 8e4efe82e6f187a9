-- The number by which C sees whether there is an end.
use Rattle.std.specs.Prelude.{ℕ, ◌+◌, Option, Some, None}
use Rattle.channel_ends.specs.declared.end.End.{End}

-- 0 for none, and else one more than the tag of the end
abbrev pub mark_of : Option End → ℕ
mark_of None = 0
mark_of (Some e) = e.tag + 1
