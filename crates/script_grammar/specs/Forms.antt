-- What each line is read as, or its fault.
use Rattle.std.specs.Prelude.{ℕ, ◌==◌, ◌&&◌, not, List, [], ◌∷◌, length, Bool, Option, Some, None, Result, Ok, Err, true, false, if◌then◌else◌, is_some}
use lib.Chars.{codes}
use Rattle.std.specs.Str.{bytes_eq}
use Rattle.script_grammar.specs.declared.fault.FaultKind.{FaultKind}
use Rattle.script_grammar.specs.declared.fault.FaultKind.TheVariants.{UnknownWord, TooMany, TooDeep}
use Rattle.script_grammar.specs.declared.instructions.Operand.{Operand}
use Rattle.script_grammar.specs.declared.instructions.Launching.{Launching}
use Rattle.script_grammar.specs.declared.instructions.Launching.TheVariants as launchings
use Rattle.script_grammar.specs.declared.instructions.Instruction.{Instruction}
use Rattle.script_grammar.specs.declared.instructions.Instruction.TheVariants as lines
use Rattle.script_grammar.specs.declared.verbs.Verb.{Verb}
use Rattle.script_grammar.specs.declared.verbs.Verb.TheVariants as verbs
use Rattle.script_grammar.specs.Verbs.{verb_of}
use Rattle.script_grammar.specs.Words.{has_items}
use Rattle.script_grammar.specs.Faults.{◌>>=◌}
use Rattle.script_grammar.specs.Programs.{channel_names, block_names, places_in}
use Rattle.script_grammar.specs.Blocks.{Open}
use Rattle.script_grammar.specs.Reads.{Read, Form, version_is, channel_is, coroutine_is, spawn_is, line_is, end_is, after, load}
use Rattle.script_grammar.specs.Places.{end_at, number_at, operand_at, places_at, count_at, kind_at, new_at, known_at, clause_at, awaitable_at, other_than_main, target_at, job_at, at_most}

-- ---- outside blocks

-- the version, alone
abbrev pub version_line : List (List ℕ) → Result Form FaultKind
version_line words = do
  n ← number_at 2 2 words
  _ ← end_at n.1
  Ok version_is

abbrev pub channel_line : Read → List (List ℕ) → Result Form FaultKind
channel_line s words = do
  name ← new_at (channel_names s.channels) words
  kind ← kind_at s.version name.1
  places ← places_at kind.1
  _ ← end_at places.1
  Ok (channel_is (record { name = name.0; kind = kind.0; places = places.0 }))

abbrev pub coroutine_line : Read → List (List ℕ) → Result Form FaultKind
coroutine_line s words = do
  name ← new_at (block_names s.blocks) words
  _ ← end_at name.1
  Ok (coroutine_is name.0)

abbrev pub spawn_line : Read → List (List ℕ) → Result Form FaultKind
spawn_line s words = do
  block ← known_at (block_names s.blocks) words
  _ ← other_than_main words
  count ← count_at block.1
  _ ← end_at count.1
  Ok (spawn_is block.0 count.0)

-- no line is said yet
abbrev pub is_start : Read → Bool
is_start s =
    (s.version == 1)
    && (not (has_items s.channels)
    && (not (has_items s.blocks)
    && (not (has_items s.spawns) && (not (has_items s.weights) && not (is_some s.current)))))

-- a line outside blocks, by its first word
unfoldable pub outside : Read → List ℕ → List (List ℕ) → Result Form FaultKind
outside s word rest =
    if bytes_eq word (codes "script") && is_start s then version_line rest
    else if bytes_eq word (codes "channel") then channel_line s rest
    else if bytes_eq word (codes "coroutine") then coroutine_line s rest
    else if bytes_eq word (codes "spawn") then spawn_line s rest
    else Err UnknownWord

-- ---- in a block, by families

-- no more words
abbrev pub plain_line : Instruction → List (List ℕ) → Result Form FaultKind
plain_line x words = do
  _ ← end_at words
  Ok (line_is x None)

-- a name of the list alone
abbrev pub named_line : List (List ℕ) → (ℕ → Instruction) → List (List ℕ) → Result Form FaultKind
named_line names make words = do
  i ← known_at names words
  _ ← end_at i.1
  Ok (line_is (make i.0) None)

-- a channel and an operand
abbrev pub sending_line : List (List ℕ) → (ℕ → Operand → Instruction) → List (List ℕ) → Result Form FaultKind
sending_line names make words = do
  c ← known_at names words
  v ← operand_at c.1
  _ ← end_at v.1
  Ok (line_is (make c.0 v.0) None)

-- a number from low to high alone
abbrev pub number_line : ℕ → ℕ → (ℕ → Instruction) → List (List ℕ) → Result Form FaultKind
number_line low high make words = do
  n ← number_at low high words
  _ ← end_at n.1
  Ok (line_is (make n.0) None)

-- an operand alone
abbrev pub result_line : List (List ℕ) → Result Form FaultKind
result_line words = do
  v ← operand_at words
  _ ← end_at v.1
  Ok (line_is (lines.SetResult v.0) None)

-- a Job that may be awaited, alone
abbrev pub await_line : Open → List (List ℕ) → Result Form FaultKind
await_line b words = do
  j ← awaitable_at b.jobs b.awaitable words
  _ ← end_at j.1
  Ok (line_is (lines.Await j.0) None)

-- the number that a new name gets
abbrev pub number_for : List (List ℕ) → Option (List ℕ) → Option ℕ
number_for jobs None = None
number_for jobs (Some name) = Some (length jobs)

-- a block, and the name of the Job
abbrev pub launch_line : Read → Open → Launching → List (List ℕ) → Result Form FaultKind
launch_line s b how words = do
  block ← target_at (block_names s.blocks) b.name words
  job ← job_at b.jobs block.1
  Ok (line_is (lines.Launch block.0 how (number_for b.jobs job)) job)

-- a channel that is new in the select, and an operand
abbrev pub onsend_line : Read → Open → List (List ℕ) → Result Form FaultKind
onsend_line s b words = do
  c ← clause_at (channel_names s.channels) b.clauses words
  v ← operand_at c.1
  _ ← end_at v.1
  Ok (line_is (lines.OnSend c.0 v.0) None)

-- a channel that is new in the select, alone
abbrev pub onreceive_line : Read → Open → List (List ℕ) → Result Form FaultKind
onreceive_line s b words = do
  c ← clause_at (channel_names s.channels) b.clauses words
  _ ← end_at c.1
  Ok (line_is (lines.OnReceive c.0) None)

-- ---- where a line may stand

-- in a select, whose clauses so far name these channels
abbrev pub clause_form : Read → Open → List ℕ → Verb → List (List ℕ) → Result Form FaultKind
clause_form s b cs verbs.OnSend rest = onsend_line s b rest
clause_form s b cs verbs.OnReceive rest = onreceive_line s b rest
clause_form s b cs verbs.End rest = if has_items cs then plain_line lines.End rest else Err UnknownWord
clause_form s b cs other rest = Err UnknownWord

-- an end: that of the innermost line that opened others, or of the block
abbrev pub ending : List ℕ → List (List ℕ) → Result Form FaultKind
ending [] words = do
  _ ← end_at words
  Ok end_is
ending (n ∷ nest) words = plain_line lines.End words

-- elsewhere in a block
abbrev pub line_form : Read → Open → Verb → List (List ℕ) → Result Form FaultKind
line_form s b verbs.Send rest = sending_line (channel_names s.channels) (λ c v. lines.Send c v) rest
line_form s b verbs.TrySend rest = sending_line (channel_names s.channels) (λ c v. lines.TrySend c v) rest
line_form s b verbs.Receive rest = named_line (channel_names s.channels) (λ c. lines.Receive c) rest
line_form s b verbs.TryReceive rest = named_line (channel_names s.channels) (λ c. lines.TryReceive c) rest
line_form s b verbs.Close rest = named_line (channel_names s.channels) (λ c. lines.Close c) rest
line_form s b verbs.CancelChannel rest = named_line (channel_names s.channels) (λ c. lines.CancelChannel c) rest
line_form s b verbs.Yield rest = plain_line lines.Yield rest
line_form s b verbs.Launch rest = launch_line s b launchings.Plain rest
line_form s b verbs.Async rest = launch_line s b launchings.Async rest
line_form s b verbs.Lazy rest = launch_line s b launchings.Lazy rest
line_form s b verbs.Start rest = named_line b.jobs (λ j. lines.Start j) rest
line_form s b verbs.Join rest = named_line b.jobs (λ j. lines.Join j) rest
line_form s b verbs.Await rest = await_line b rest
line_form s b verbs.Cancel rest = named_line b.jobs (λ j. lines.Cancel j) rest
line_form s b verbs.Fail rest = number_line 0 4294967295 (λ n. lines.Fail n) rest
line_form s b verbs.Result rest = result_line rest
line_form s b verbs.Repeat rest = number_line 1 1000000 (λ n. lines.Repeat n) rest
line_form s b verbs.Each rest = named_line (channel_names s.channels) (λ c. lines.Each c) rest
line_form s b verbs.Scope rest = plain_line (lines.Scope false) rest
line_form s b verbs.Supervisor rest = plain_line (lines.Scope true) rest
line_form s b verbs.Select rest = plain_line lines.Select rest
line_form s b verbs.OnSend rest = Err UnknownWord
line_form s b verbs.OnReceive rest = Err UnknownWord
line_form s b verbs.End rest = ending b.nest rest

abbrev pub verb_form : Read → Open → Option (List ℕ) → Option Verb → List (List ℕ) → Result Form FaultKind
verb_form s b clauses None rest = Err UnknownWord
verb_form s b None (Some verb) rest = line_form s b verb rest
verb_form s b (Some cs) (Some verb) rest = clause_form s b cs verb rest

-- what a line says, by its first word and the words after it
abbrev pub form_at : Read → Option Open → List ℕ → List (List ℕ) → Result Form FaultKind
form_at s None word rest = outside s word rest
form_at s (Some b) word rest = verb_form s b b.clauses (verb_of word) rest

-- ---- limits

abbrev pub clause_count : Option (List ℕ) → ℕ
clause_count None = 0
clause_count (Some cs) = length cs

-- at most 8 lines are open within one another
abbrev pub deep : Option Open → Result (Unit {0}) FaultKind
deep None = Ok tt
deep (Some b) = at_most TooDeep 8 (length b.nest)

-- at most 7 clauses, and a weight of at most 16,000
abbrev pub light : Option Open → Result (Unit {0}) FaultKind
light None = Ok tt
light (Some b) = do
  _ ← at_most TooMany 7 (clause_count b.clauses)
  at_most TooMany 16000 b.weight

-- the script, where it is within the limits
abbrev pub limited : Read → Result Read FaultKind
limited s = do
  _ ← deep s.current
  _ ← light s.current
  _ ← at_most TooMany 256 (length s.channels)
  _ ← at_most TooMany 4194304 (places_in s.channels)
  _ ← at_most TooMany 16000 (load s)
  Ok s

-- the script with what these words add, or their fault
unfoldable pub step : Read → List (List ℕ) → Result Read FaultKind
step s [] = Ok s
step s (word ∷ rest) = do
  form ← form_at s s.current word rest
  limited (after form s)
