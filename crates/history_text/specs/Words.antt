-- What a word names: a coroutine, the row of a Job, a clause or a wait. A channel is named as a script declares it.
use Rattle.std.specs.Prelude.{ℕ, List, [], ◌∷◌, ◌==◌, nat_lt, Option, Some, None, if◌then◌else◌}
use Rattle.std.specs.List.{slice_split}
use Rattle.co_base.specs.declared.names.WaitId.{WaitId}
use Rattle.report_reader.specs.Words.{value_at}
use Rattle.script_grammar.specs.Places.{place_from}

-- a number below the bound
abbrev pub below : ℕ → Option ℕ → Option ℕ
below bound None = None
below bound (Some n) = if nat_lt n bound then Some n else None

-- the tag that a word says
abbrev pub tag_at : List ℕ → Option ℕ
tag_at word = below 65536 (value_at word)

-- the row of a Job that a word says
abbrev pub row_at : List ℕ → Option ℕ
row_at word = below 65536 (value_at word)

-- the number of a clause that a word says
abbrev pub clause_at : List ℕ → Option ℕ
clause_at word = below 256 (value_at word)

abbrev pub wait_with : Option ℕ → Option ℕ → Option WaitId
wait_with None place = None
wait_with (Some c) None = None
wait_with (Some c) (Some place) = Some (record { channel = c; place = place })

-- the wait that these name: a channel and a place
abbrev pub wait_by : List (List ℕ) → List (List ℕ) → Option WaitId
wait_by names [] = None
wait_by names (c ∷ []) = None
wait_by names (c ∷ (place ∷ [])) = wait_with (place_from 0 c names) (value_at place)
wait_by names (c ∷ (place ∷ (other ∷ more))) = None

-- the wait that a word names: a channel and a place, with a point between them
abbrev pub wait_at : List (List ℕ) → List ℕ → Option WaitId
wait_at names word = wait_by names (slice_split (λ b. b == 46) word)
