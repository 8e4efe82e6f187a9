-- A text's lines, and a line's words.
use Rattle.std.specs.Prelude.{◌*◌, ◌++◌, replicate, ℕ, ◌-◌, List, [], ◌∷◌, length, take, get_or, Bool, true, false, ◌==◌, ◌||◌, ◌&&◌, nat_le, if◌then◌else◌, map, filter}
use Rattle.std.specs.List.{slice_split}
use denote.Ref.{Bor}

-- what slices point to
abbrev pub texts : List (Bor (List ℕ)) → List (List ℕ)
texts ws = map (λ w. w.now) ws

abbrev pub is_line_feed : ℕ → Bool
is_line_feed b = b == 10

-- a tabulator, a carriage return or a blank; a word is what stands between them
abbrev pub is_space : ℕ → Bool
is_space b = (b == 9) || ((b == 13) || (b == 32))

-- a space or a printed character
abbrev pub is_plain : ℕ → Bool
is_plain b = (b == 9) || ((b == 13) || (nat_le 32 b && nat_le b 126))

abbrev pub all_plain : List ℕ → Bool
all_plain [] = true
all_plain (b ∷ rest) = is_plain b && all_plain rest

-- a text without the line feed at its end, if it has one
abbrev pub without_last_feed : List ℕ → List ℕ
without_last_feed bytes = if get_or bytes (length bytes - 1) 0 == 10 then take (length bytes - 1) bytes else bytes

-- what stands between line feeds
abbrev pub lines_of : List ℕ → List (List ℕ)
lines_of bytes = slice_split is_line_feed (without_last_feed bytes)

abbrev pub has_items : {A : Type 0} → List A → Bool
has_items [] = false
has_items (x ∷ xs) = true

-- a word that begins with #
abbrev pub begins_comment : List ℕ → Bool
begins_comment [] = false
begins_comment (b ∷ rest) = b == 35

-- the words before the first that begins a comment
abbrev pub before_comment : List (List ℕ) → List (List ℕ)
before_comment [] = []
before_comment (w ∷ ws) = if begins_comment w then [] else w ∷ before_comment ws

-- the longest runs of bytes that are no spaces, up to the comment
abbrev pub words_of : List ℕ → List (List ℕ)
words_of line = before_comment (filter has_items (slice_split is_space line))

-- the words of each line that has any
abbrev pub with_words : List (List ℕ) → List (List (List ℕ))
with_words lines = filter has_items (map words_of lines)

-- ---- written out

-- words with one space between them
abbrev pub spaced : List (List ℕ) → List ℕ
spaced [] = []
spaced (w ∷ []) = w
spaced (w ∷ (v ∷ ws)) = w ++ 32 ∷ spaced (v ∷ ws)

-- a line of these words, so many levels deep
abbrev pub indented : ℕ → List (List ℕ) → List ℕ
indented depth words = replicate (2 * depth) 32 ++ spaced words

-- lines, each with a line feed after it
abbrev pub unlines : List (List ℕ) → List ℕ
unlines [] = []
unlines (l ∷ ls) = l ++ 10 ∷ unlines ls
