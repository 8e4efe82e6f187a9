-- The lines of a text, and the words that stand in them.
use Rattle.std.specs.Prelude.{ℕ, ◌-◌, ◌^◌, List, [], ◌∷◌, length, take, get_or, map, Bool, false, ◌==◌, ◌&&◌, ◌||◌, not, nat_lt, nat_le, Option, Some, None, if◌then◌else◌}
use Rattle.std.specs.List.{slice_split, list_all}
use Rattle.std.specs.Str.{all_ascii_digits}
use Rattle.std.specs.Str.Parse.{digits_value}
use denote.Ref.{Bor}

-- what slices point to
abbrev pub texts : List (Bor (List ℕ)) → List (List ℕ)
texts words = map (λ w. w.now) words

-- the first part of a text that is cut, and those of the rest, if there is a rest
abbrev pub parts : ℕ → List ℕ → Option (Bor (List ℕ)) → List (List ℕ)
parts cut first None = first ∷ []
parts cut first (Some rest) = first ∷ slice_split (λ b. b == cut) rest.now

-- a text without the line feed at its end, if it has one
abbrev pub without_last_feed : List ℕ → List ℕ
without_last_feed bytes = if get_or bytes (length bytes - 1) 0 == 10 then take (length bytes - 1) bytes else bytes

-- what stands between line feeds
abbrev pub lines_of : List ℕ → List (List ℕ)
lines_of bytes = slice_split (λ b. b == 10) (without_last_feed bytes)

-- what stands between blanks
abbrev pub words_of : List ℕ → List (List ℕ)
words_of line = slice_split (λ b. b == 32) line

-- ---- numbers

-- 1 to 10 digits without a leading zero, except 0 itself
abbrev pub is_number : List ℕ → Bool
is_number [] = false
is_number (b ∷ rest) = all_ascii_digits (b ∷ rest) && (nat_lt (length rest) 10 && (length rest == 0 || not (b == 48)))

-- the value of a number that fits 32 bits
abbrev pub value_at : List ℕ → Option ℕ
value_at word = if is_number word && nat_lt (digits_value 10 word) (2 ^ 32) then Some (digits_value 10 word) else None

-- ---- names

abbrev pub is_lower : ℕ → Bool
is_lower b = nat_le 97 b && nat_le b 122

-- a lower-case letter, a digit or _
abbrev pub is_name_byte : ℕ → Bool
is_name_byte b = is_lower b || ((nat_le 48 b && nat_le b 57) || b == 95)

-- 1 to 16 characters: a lower-case letter, then lower-case letters, digits or _
abbrev pub is_name : List ℕ → Bool
is_name [] = false
is_name (b ∷ rest) = is_lower b && (list_all is_name_byte rest && nat_le (length rest) 15)
