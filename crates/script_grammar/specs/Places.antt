-- What stands at each place of a line, read from left to right.
use Rattle.std.specs.Prelude.{ℕ, ◌+◌, ◌^◌, List, [], ◌∷◌, length, Option, Some, None, Result, Ok, Err, Bool, false, ◌&&◌, ◌||◌, nat_lt, nat_le, ◌==◌, if◌then◌else◌, not, get_or}
use lib.Chars.{codes}
use Rattle.std.specs.Str.{bytes_eq, all_ascii_digits}
use Rattle.std.specs.Str.Parse.{digits_value}
use Rattle.script_grammar.specs.declared.fault.FaultKind.{FaultKind}
use Rattle.script_grammar.specs.declared.fault.FaultKind.TheVariants.{UnknownWord, BadNumber, BadName, Duplicate, Undeclared, Extra, Recursive}
use Rattle.channel_model.specs.declared.acts.Kind.{Kind}
use Rattle.channel_model.specs.declared.acts.Kind.TheVariants.{Rendezvous, Buffered, Unlimited, Conflated, DropOldest, DropLatest}
use Rattle.script_grammar.specs.declared.instructions.Operand.{Operand}
use Rattle.script_grammar.specs.declared.instructions.Operand.TheVariants.{Number, It, Sum}
use Rattle.script_grammar.specs.Faults.{◌>>=◌}
use Rattle.script_grammar.specs.Blocks.{is_main, is_new}
use Rattle.script_grammar.specs.Grammar.{is_name, default_capacity, default_places}

-- no word is left
abbrev pub end_at : List (List ℕ) → Result (Unit {0}) FaultKind
end_at [] = Ok tt
end_at (word ∷ rest) = Err Extra

-- ---- numbers

-- 1 to 10 digits without a leading zero, except 0 itself
abbrev pub is_number : List ℕ → Bool
is_number [] = false
is_number (b ∷ rest) = all_ascii_digits (b ∷ rest) && (nat_lt (length rest) 10 && (length rest == 0 || not (b == 48)))

-- the value of a number that fits 32 bits
abbrev pub value_at : List ℕ → Option ℕ
value_at word = if is_number word && nat_lt (digits_value 10 word) (2 ^ 32) then Some (digits_value 10 word) else None

-- a number that lies in this range
abbrev pub within : {X : Type 0} → ℕ → ℕ → Option ℕ → X → Result (ℕ × X) FaultKind
within low high None rest = Err BadNumber
within low high (Some n) rest = if nat_le low n && nat_le n high then Ok (n, rest) else Err BadNumber

-- a number from low to high, and the words after it
abbrev pub number_at : ℕ → ℕ → List (List ℕ) → Result (ℕ × List (List ℕ)) FaultKind
number_at low high [] = Err BadNumber
number_at low high (word ∷ rest) = within low high (value_at word) rest

-- what is made of a number, and the words after it
abbrev pub made : {X Y : Type 0} → (ℕ → X) → Result (ℕ × Y) FaultKind → Result (X × Y) FaultKind
made make read = do
  n ← read
  Ok (make n.0, n.1)

-- `it`, `sum` or a number of 32 bits, and the words after it
abbrev pub operand_at : List (List ℕ) → Result (Operand × List (List ℕ)) FaultKind
operand_at [] = Err BadNumber
operand_at (word ∷ rest) =
    if bytes_eq word (codes "it") then Ok (It, rest)
    else if bytes_eq word (codes "sum") then Ok (Sum, rest)
    else made (λ n. Number n) (number_at 0 4294967295 (word ∷ rest))

-- `places` and a number of places, or no word
abbrev pub places_at : List (List ℕ) → Result (ℕ × List (List ℕ)) FaultKind
places_at [] = Ok (default_places, [])
places_at (word ∷ rest) = if bytes_eq word (codes "places") then number_at 1 1048576 rest else Err Extra

-- a number of instances, or no word if there is one
abbrev pub count_at : List (List ℕ) → Result (ℕ × List (List ℕ)) FaultKind
count_at [] = Ok (1, [])
count_at (word ∷ rest) = number_at 1 16000 (word ∷ rest)

-- a capacity, or none before `places` or the end
abbrev pub buffered_at : List (List ℕ) → Result (Kind × List (List ℕ)) FaultKind
buffered_at [] = Ok (Buffered default_capacity, [])
buffered_at (word ∷ rest) =
    if bytes_eq word (codes "places") then Ok (Buffered default_capacity, word ∷ rest)
    else made (λ k. Buffered k) (number_at 1 65535 (word ∷ rest))

-- the kind of a channel of a script of this version, and the words after it
unfoldable pub kind_at : ℕ → List (List ℕ) → Result (Kind × List (List ℕ)) FaultKind
kind_at version [] = Err UnknownWord
kind_at version (word ∷ rest) =
    if bytes_eq word (codes "rendezvous") then Ok (Rendezvous, rest)
    else if bytes_eq word (codes "buffered") then buffered_at rest
    else if bytes_eq word (codes "unlimited") then Ok (Unlimited, rest)
    else if bytes_eq word (codes "conflated") then Ok (Conflated, rest)
    else if bytes_eq word (codes "dropoldest") then made (λ k. DropOldest k) (number_at 1 65535 rest)
    else if bytes_eq word (codes "droplatest") && version == 2 then made (λ k. DropLatest k) (number_at 1 65535 rest)
    else Err UnknownWord

-- ---- names

-- where a name stands in a list of names, the first of which has the number i
abbrev pub place_from : ℕ → List ℕ → List (List ℕ) → Option ℕ
place_from i name [] = None
place_from i name (x ∷ xs) = if bytes_eq x name then Some i else place_from (i + 1) name xs

-- a name, and the words after it
abbrev pub name_at : List (List ℕ) → Result (List ℕ × List (List ℕ)) FaultKind
name_at [] = Err BadName
name_at (word ∷ rest) = if is_name word then Ok (word, rest) else Err BadName

abbrev pub unless_found : {X : Type 0} → Option ℕ → X → Result X FaultKind
unless_found None x = Ok x
unless_found (Some i) x = Err Duplicate

-- a name that nothing in the list has, and the words after it
abbrev pub new_at : List (List ℕ) → List (List ℕ) → Result (List ℕ × List (List ℕ)) FaultKind
new_at names words = do
  name ← name_at words
  unless_found (place_from 0 name.0 names) name

abbrev pub if_found : {X : Type 0} → Option ℕ → X → Result (ℕ × X) FaultKind
if_found None x = Err Undeclared
if_found (Some i) x = Ok (i, x)

-- a name that is in the list, as its place there, and the words after it
abbrev pub known_at : List (List ℕ) → List (List ℕ) → Result (ℕ × List (List ℕ)) FaultKind
known_at names words = do
  name ← name_at words
  if_found (place_from 0 name.0 names) name.1

-- a channel that no clause of the open select names, and the words after it
abbrev pub clause_at : List (List ℕ) → Option (List ℕ) → List (List ℕ) → Result (ℕ × List (List ℕ)) FaultKind
clause_at names clauses words = do
  c ← known_at names words
  if is_new c.0 clauses then Ok c else Err Duplicate

-- a Job that may be awaited, and the words after it
abbrev pub awaitable_at : List (List ℕ) → List Bool → List (List ℕ) → Result (ℕ × List (List ℕ)) FaultKind
awaitable_at names awaitable words = do
  j ← known_at names words
  if get_or awaitable j.0 false then Ok j else Err Undeclared

-- main may not stand here
abbrev pub other_than_main : List (List ℕ) → Result (Unit {0}) FaultKind
other_than_main [] = Ok tt
other_than_main (word ∷ rest) = if is_main word then Err Recursive else Ok tt

-- the place of what is declared before, which is neither the open block nor main
abbrev pub launchable : {X : Type 0} → Bool → Bool → Option ℕ → X → Result (ℕ × X) FaultKind
launchable own main None x = if own then Err Recursive else Err Undeclared
launchable own main (Some i) x = if main then Err Recursive else Ok (i, x)

-- a block that is declared before the open one and is not main, and the words after it
abbrev pub target_at : List (List ℕ) → List ℕ → List (List ℕ) → Result (ℕ × List (List ℕ)) FaultKind
target_at blocks own words = do
  name ← name_at words
  launchable (bytes_eq own name.0) (is_main name.0) (place_from 0 name.0 blocks) name.1

abbrev pub job_named : List (List ℕ) → List (List ℕ) → Result (Option (List ℕ)) FaultKind
job_named names words = do
  name ← new_at names words
  _ ← end_at name.1
  Ok (Some name.0)

-- `as` and a name that nothing in the list has, or no word
abbrev pub job_at : List (List ℕ) → List (List ℕ) → Result (Option (List ℕ)) FaultKind
job_at names [] = Ok None
job_at names (word ∷ rest) = if bytes_eq word (codes "as") then job_named names rest else Err Extra

-- ---- limits

-- no more than the limit, or this fault
abbrev pub at_most : FaultKind → ℕ → ℕ → Result (Unit {0}) FaultKind
at_most fault limit count = if nat_le count limit then Ok tt else Err fault
