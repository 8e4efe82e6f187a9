-- A line that goes into the book of its coroutine, and books with nothing in them.
use Rattle.std.specs.Prelude.{◌≡◌, ℕ, ◌+◌, ◌<◌, List, [], ◌∷◌, ◌++◌, length, map, set, slice_set, get_or, replicate}
use Rattle.std.proofs.Common.{ap, sym, ◌∙◌}
use Rattle.std.proofs.lemmas.List.{get_or-map, map-append, map-set, replicate_more}
use Rattle.note_book.specs.declared.notes.Notes.{Notes}
use Rattle.note_book.specs.Books.{notes_of}
use Rattle.history_text.specs.declared.line.Line.{Line}
use Rattle.log_check.specs.Logs.{with_line}

-- the book of its coroutine has it at its end
pub written : (books : List Notes) (line : Line) (new d : Notes) → line.who < length books
    → notes_of new ≡ notes_of (get_or books line.who d) ++ line.item ∷ []
    → map notes_of (set books line.who new) ≡ with_line (map notes_of books) line
written books line new d lt is =
    map-set notes_of books line.who new
    ∙ ap (set (map notes_of books) line.who) (is ∙ ap (λ l. l ++ line.item ∷ []) (sym (get_or-map notes_of books line.who d [] lt)))

-- the same of the book that stood there
pub written_there : (books : List Notes) (line : Line) (new old : Notes) → line.who < length books → old ≡ get_or books line.who old
    → notes_of new ≡ notes_of old ++ line.item ∷ []
    → map notes_of (slice_set books line.who new) ≡ with_line (map notes_of books) line
written_there books line new old lt here is = written books line new old lt (is ∙ ap (λ b. notes_of b ++ line.item ∷ []) here)

-- one empty book more
pub one_book_more : (before new : List Notes) (book : Notes) (n : ℕ) → map notes_of before ≡ replicate n [] → new ≡ before ++ book ∷ []
    → notes_of book ≡ [] → map notes_of new ≡ replicate (n + 1) []
one_book_more before new book n are more empty =
    ap (map notes_of) more ∙ map-append notes_of before (book ∷ []) ∙ (λ i. are i ++ empty i ∷ []) ∙ replicate_more n []
