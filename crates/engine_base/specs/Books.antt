-- What the coroutines noted.
use Rattle.std.specs.Prelude.{List, map}
use Rattle.note_book.specs.declared.book.Item.{Item}
use Rattle.poll_states.specs.Frames.{Frame, items_of}

-- the books of the frames, in their order
abbrev pub books_of : List Frame → List (List Item)
books_of frames = map items_of frames
