-- A part of a table, as a table of its own.
use Rattle.std.specs.Prelude.{ℕ, [], map, take, drop}
use Rattle.atomic_table.specs.Table.{State}
use Rattle.worded.specs.declared.view.View.{View}
use Rattle.joined_words.specs.Parts.{Part, view_in}

-- its words, of which there are `count`, and what each seat has seen of it
abbrev pub state_in : {E K F L S : Type 0} → Part E K F L → K → ℕ → State S (View E K) → State S (View F L)
state_in part key count s =
    record { words = take count (drop (part.first key) s.words); homes = []; views = map (view_in part) s.views }
