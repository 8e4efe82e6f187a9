-- The lines of a log, and the books that they are.
use Rattle.std.specs.Prelude.{◌≡◌, ℕ, nat_lt, true, List, [], ◌∷◌, ◌++◌, map, set, get_or, replicate}
use Rattle.std.specs.List.{fold, list_all, range_with_len}
use Rattle.std.specs.Fmt.{decimal}
use lib.Chars.{codes}
use Rattle.note_book.specs.declared.book.Item.{Item}
use Rattle.script_grammar.specs.Programs.{Program, channel_names}
use Rattle.script_grammar.specs.Tags.{job_count}
use Rattle.history_text.specs.declared.line.Line.{Line}

-- the name of the done channel of a row
abbrev pub row_name : ℕ → List ℕ
row_name row = codes "@" ++ decimal row

-- the names of all channels of a run: those that the script declares, and those of the done channels of its rows
abbrev pub names_in : Program → List (List ℕ)
names_in p = channel_names p.channels ++ map row_name (range_with_len 0 (job_count p))

-- each line is of one of so many coroutines
abbrev pub AreOf : ℕ → List Line → Type 0
AreOf count lines = list_all (λ line. nat_lt line.who count) lines ≡ true

-- a line goes to the end of the book of its coroutine
abbrev pub with_line : List (List Item) → Line → List (List Item)
with_line books line = set books line.who (get_or books line.who [] ++ line.item ∷ [])

-- the books of so many coroutines that the lines of a log are
abbrev pub books_in : ℕ → List Line → List (List Item)
books_in count lines = fold with_line (replicate count []) lines
