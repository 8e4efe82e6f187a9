-- The names of channels, and where each stands.
use Rattle.std.specs.Prelude.{◌≡◌, ◌<◌, ◌≤◌, ℕ, ◌+◌, ◌==◌, Bool, ◌&&◌, true, false, List, [], ◌∷◌, ◌++◌, length, Option, Some, None, is_none, if◌then◌else◌}
use Rattle.std.specs.List.{list_all}
use Rattle.report_reader.specs.Words.{texts, value_at}
use Rattle.history_text.specs.declared.names.Names.{Names}

-- the row of a done channel, whose name is `@` and this number
abbrev pub row_named : List ℕ → Option ℕ
row_named [] = None
row_named (b ∷ rest) = if b == 64 then value_at rest else None

abbrev pub is_row : ℕ → Option ℕ → Bool
is_row row None = false
is_row row (Some n) = n == row

-- each is the name of a done channel: the first that of this row, and so on
abbrev pub are_rows : ℕ → List (List ℕ) → Bool
are_rows row [] = true
are_rows row (name ∷ names) = is_row row (row_named name) && are_rows (row + 1) names

-- none is the name of a done channel
abbrev pub are_no_rows : List (List ℕ) → Bool
are_no_rows names = list_all (λ name. is_none (row_named name)) names

-- all names in their order
abbrev pub listed : Names → List (List ℕ)
listed names = texts names.declared.now ++ texts names.marked.now

-- the marked names are those of the rows from 0 on, and the others are of none
pub record AreNames (names : Names) : Type 0 where
  pub few : length names.declared.now + length names.marked.now ≤ 65536
  pub apart : 0 < length names.marked.now → are_no_rows (texts names.declared.now) ≡ true
  pub rows : are_rows 0 (texts names.marked.now) ≡ true
