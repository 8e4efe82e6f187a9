-- A book as a vector.
use Rattle.std.specs.Prelude.{ℕ, ◌-◌, List, vec_len, vec_capacity}
use Rattle.note_book.specs.declared.book.Item.{Item}
use Rattle.note_book.specs.declared.notes.Notes.{Notes}

abbrev pub notes_of : Notes → List Item
notes_of b = b.items.items

-- room for so many notes
abbrev pub spare_of : Notes → ℕ
spare_of b = vec_capacity b.items - vec_len b.items
