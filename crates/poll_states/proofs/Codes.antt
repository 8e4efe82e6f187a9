-- The lines of a coroutine as they are read, and the clauses with which lines begin.
use Rattle.std.specs.Prelude.{◌≡◌, ℕ, ◌+◌, ◌-◌, ◌<◌, ◌≤◌, List, [], ◌∷◌, ◌++◌, length, map, Some, None, option_map, slice_get, refl}
use Rattle.std.proofs.Common.{sym, ap, ◌∙◌, subst, arith, append_assoc, get_or, take, drop}
use Rattle.std.proofs.lemmas.List.{take_all, map-append, length-map, append-nil, length-append}
use Rattle.std.proofs.lemmas.Option.{slice_get-map, slice_get_within, slice_get-get_or}
use Rattle.call_meaning.specs.ChannelCalls.{Call, sends, receives}
use Rattle.script_grammar.specs.declared.instructions.Instruction.{Instruction}
use Rattle.script_grammar.specs.declared.instructions.Instruction.TheVariants as line
use Rattle.script_grammar.specs.Programs.{Program}
use Rattle.script_grammar.specs.Tags.{code_of, code_at, code_of_block, block_of_tag}
use Rattle.script_reader.specs.declared.script.Coroutine.{Coroutine}
use Rattle.script_reader.specs.declared.script.Script.{Script}
use Rattle.script_reader.specs.Scripts.{program_of}
use Rattle.script_reader.specs.Programs.{block_of}
use Rattle.script_meaning.specs.Configs.{Config, IsAt, LineIs, operand}
use Rattle.script_meaning.specs.Lines.{clauses_in}
use Rattle.select_calls.specs.declared.clause.Clause.{Clause}
use Rattle.select_calls.specs.Clauses.{call_of, calls_of}
use Rattle.poll_states.specs.Frames.{Frame, config_of}
use Rattle.poll_states.specs.Selecting.{clause_in}
use Rattle.poll_states.proofs.Standing.{line_short}

-- ---- the lines of a coroutine

-- a block of the script is among those that are read
pub block_short : (p : Program) (cs : List Coroutine) (block : ℕ) → map block_of cs ≡ p.blocks → block < length p.blocks
    → block < length cs
block_short p cs block e lt = omega (arith, ap length e, length-map cs block_of)

-- the lines of the block that is read there are those of the tag
pub code_read : (p : Program) (tag block : ℕ) (cs : List Coroutine) (d : Coroutine) → map block_of cs ≡ p.blocks
    → block_of_tag p tag ≡ Some block → block < length p.blocks → (get_or cs block d).code.items ≡ code_of p tag
code_read p tag block cs d e is lt =
    let here = slice_get-get_or cs block d (block_short p cs block e lt) in
    sym (ap (code_at p) is ∙ ap (λ bs. code_of_block (slice_get bs block)) (sym e)
    ∙ ap code_of_block (slice_get-map block_of cs block ∙ ap (option_map block_of) here))

-- a line that is one of them is read there
pub code_at_line : (p : Program) (tag i : ℕ) (code : List Instruction) (d : Instruction) → code ≡ code_of p tag
    → i < length (code_of p tag) → slice_get (code_of p tag) i ≡ Some (get_or code i d)
code_at_line p tag i code d e lt = slice_get-get_or (code_of p tag) i d lt ∙ ap (λ l. Some (get_or l i d)) (sym e)

-- and there is a line
pub code_long : (p : Program) (tag i : ℕ) (code : List Instruction) → code ≡ code_of p tag → i < length (code_of p tag) → i < length code
code_long p tag i code e lt = subst (λ l. i < length l) (sym e) lt

-- and so where it is known
pub line_long : (p : Program) (tag : ℕ) (x : Config) (i : Instruction) (code : List Instruction) → code ≡ code_of p tag → LineIs p tag x i
    → x.line < length code
line_long p tag x i code e at = code_long p tag x.line code e (slice_get_within (code_of p tag) x.line i at)

-- and its place is a small number
pub place_short : (s : Script) (tag i : ℕ) → i < length (code_of (program_of s) tag) → i < 1048577
place_short s tag i lt = line_short s tag i _ (slice_get-get_or (code_of (program_of s) tag) i line.End lt)

-- it is the same line where tag and place are the same
pub line_kept : (p : Program) {k k' : ℕ} {x x' : Config} {i : Instruction} → k' ≡ k → x' ≡ x → LineIs p k x i → LineIs p k' x' i
line_kept p {k} {k'} {x} {x'} {i} t e at =
    subst (λ n. LineIs p n x' i) (sym t) (subst (λ y. LineIs p k y i) (sym e) at)

-- at a select there is a line
pub line_read : (p : Program) (f : Frame) (code : List Instruction) → code ≡ code_of p f.tag → IsAt p f.tag (config_of f) line.Select
    → f.line + 1 ≤ length code
line_read p f code e at = let lt = slice_get_within (code_of p f.tag) f.line line.Select at.line_is in omega (arith, lt, ap length e)

-- ---- the clauses with which lines begin

-- a clause in front is the first of them
clause_first : (x : Config) (i : Instruction) (code : List Instruction) (c : Clause) → option_map call_of (Some c) ≡ clause_in x i
    → clauses_in x (i ∷ code) ≡ call_of c ∷ clauses_in x code
clause_first x (line.OnSend n o) code c e =
    let same : call_of c ≡ sends n (operand x o) = cc in
    ap (λ k. k ∷ clauses_in x code) (sym same)
clause_first x (line.OnReceive n) code c e =
    let same : call_of c ≡ receives n = cc in
    ap (λ k. k ∷ clauses_in x code) (sym same)
clause_first x other code c e = cc

-- where none is in front there is none
clause_none : (x : Config) (i : Instruction) (code : List Instruction) → option_map call_of None ≡ clause_in x i
    → clauses_in x (i ∷ code) ≡ []
clause_none x (line.OnSend n o) code e = cc
clause_none x (line.OnReceive n) code e = cc
clause_none x other code e = refl

-- those taken so far and those of the rest are all
abbrev TakenOf : Config → List Clause → List Instruction → List Call → Type 0
TakenOf x taken rest all = calls_of taken ++ clauses_in x rest ≡ all

-- one more is taken
pub clause_taken : (x : Config) (taken : List Clause) (rest : List Instruction) (all : List Call) (d : Instruction) (c : Clause)
    → 1 ≤ length rest → option_map call_of (Some c) ≡ clause_in x (get_or rest 0 d) → TakenOf x taken rest all
    → TakenOf x (taken ++ c ∷ []) (take (length rest - 1) (drop 1 rest)) all
clause_taken x taken [] all d c some e so = absurd (omega (arith, some))
clause_taken x taken (i ∷ rest) all d c some e so =
    ap (λ l. calls_of (taken ++ c ∷ []) ++ clauses_in x l) (take_all (length (i ∷ rest) - 1) rest (omega arith))
    ∙ ap (λ l. l ++ clauses_in x rest) (map-append call_of taken (c ∷ []))
    ∙ append_assoc (calls_of taken) (call_of c ∷ []) (clauses_in x rest)
    ∙ ap (λ l. calls_of taken ++ l) (sym (clause_first x i rest c e)) ∙ so

-- there is room for it where all are few
pub clause_room : (x : Config) (taken : List Clause) (rest : List Instruction) (all : List Call) (d : Instruction) (c : Clause) (most : ℕ)
    → 1 ≤ length rest → option_map call_of (Some c) ≡ clause_in x (get_or rest 0 d) → TakenOf x taken rest all → length all ≤ most
    → length taken < most
clause_room x taken [] all d c most some e so few = absurd (omega (arith, some))
clause_room x taken (i ∷ rest) all d c most some e so few = omega (
  arith,
  few,
  ap length (ap (λ l. calls_of taken ++ l) (sym (clause_first x i rest c e)) ∙ so),
  length-append (calls_of taken) (call_of c ∷ clauses_in x rest),
  length-map taken call_of,
)

-- where the next line is none, all are taken
pub clauses_taken : (x : Config) (taken : List Clause) (rest : List Instruction) (all : List Call) (d : Instruction)
    → 1 ≤ length rest → option_map call_of None ≡ clause_in x (get_or rest 0 d) → TakenOf x taken rest all → calls_of taken ≡ all
clauses_taken x taken [] all d some e so = absurd (omega (arith, some))
clauses_taken x taken (i ∷ rest) all d some e so = sym (append-nil (calls_of taken))
    ∙ ap (λ l. calls_of taken ++ l) (sym (clause_none x i rest e)) ∙ so

-- or where no line is left
pub clauses_all : (x : Config) (taken : List Clause) (rest : List Instruction) (all : List Call) → length rest < 1
    → TakenOf x taken rest all → calls_of taken ≡ all
clauses_all x taken [] all few so = sym (append-nil (calls_of taken)) ∙ so
clauses_all x taken (i ∷ rest) all few so = absurd (omega (arith, few))
