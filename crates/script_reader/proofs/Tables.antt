-- The tables of a script, read at a place.
use Rattle.std.proofs.Common.{◌≡◌, ℕ, zero, suc, ◌+◌, ◌<◌, ◌≤◌, List, [], ◌∷◌, length, true, refl, ap, ap₂, sym, ◌∙◌, arith, get_or, slice_get, drop, map, Option, Some, None, if◌then◌else◌}
use Rattle.std.specs.Prelude.{option_map, unwrap_or, is_some}
use Rattle.std.proofs.lemmas.Option.{slice_get-map, slice_get_read}
use Rattle.std.proofs.lemmas.List.{length-map}
use Rattle.script_grammar.specs.declared.instructions.Instruction.{Instruction}
use Rattle.script_grammar.specs.Programs.{Block, Program}
use Rattle.script_grammar.specs.WellFormed.{IsProgram}
use Rattle.script_grammar.specs.Nesting.{closing_from, closing_of}
use Rattle.script_grammar.specs.Tags.{code_of_block, coroutine_count}
use Rattle.script_grammar.proofs.OpenedIsClosed.{program-closes}
use Rattle.script_grammar.proofs.JobsCounted.{whole_load-job_count}
use Rattle.script_reader.specs.declared.script.Coroutine.{Coroutine}
use Rattle.script_reader.specs.Programs.{block_of}
use Rattle.script_reader.specs.Closings.{closings_from, closing_places}
use Rattle.script_reader.specs.Lines.{block_code, does_open}

-- ---- tables of all blocks

some_is : (f : List Instruction → List ℕ) (o : Option Coroutine) (x : List ℕ) → Some x ≡ option_map (λ (c : Coroutine). f c.code.items) o
    → x ≡ f (code_of_block (option_map block_of o))
some_is f None x e = cc
some_is f (Some c) x e = cc

-- what a table has of a block
pub at_block : {V : Type 0} (items : V → List ℕ) (f : List Instruction → List ℕ) (each : List V) (cs : List Coroutine) (i : ℕ) (x : V)
    → map items each ≡ map (λ c. f c.code.items) cs → i < length cs → x ≡ get_or each i x
    → items x ≡ f (code_of_block (slice_get (map block_of cs) i))
at_block items f each cs i x same h at =
    let g = λ (c : Coroutine). f c.code.items in
    let long : i < length each = omega (arith, h, ap length same, length-map each items, length-map cs g) in
    some_is f (slice_get cs i) (items x)
    (ap (option_map items) (sym (slice_get_read each (length each) i x refl long at)) ∙ sym (slice_get-map items each i)
    ∙ ap (λ l. slice_get l i) same ∙ slice_get-map g cs i)
    ∙ ap (λ o. f (code_of_block o)) (sym (slice_get-map block_of cs i))

-- ---- lines that close others

length-closings_from : (place : ℕ) (code : List Instruction) → length (closings_from place code) ≡ length code
length-closings_from place [] = refl
length-closings_from place (x ∷ code) = omega (arith, length-closings_from (place + 1) code)

closings_from-at : (place : ℕ) (code : List Instruction) (i : ℕ) → does_open (slice_get code i) ≡ true
    → get_or (closings_from place code) i 0 ≡ unwrap_or (closing_from 0 (place + i + 1) (drop (i + 1) code)) 0
closings_from-at place [] i e = cc
closings_from-at place (x ∷ code) zero e =
    let here : place + 1 ≡ place + 0 + 1 = omega arith in
    ap (λ b. if b then unwrap_or (closing_from 0 (place + 1) code) 0 else 0) e ∙ ap (λ n. unwrap_or (closing_from 0 n code) 0) here
closings_from-at place (x ∷ code) (suc i) e =
    let there : place + 1 + i + 1 ≡ place + suc i + 1 = omega arith in
    let next : suc (i + 1) ≡ suc i + 1 = omega arith in
    closings_from-at (place + 1) code i e
    ∙ ap₂ (λ (n : ℕ) (l : List Instruction). unwrap_or (closing_from 0 n l) 0) there (ap (λ n. drop n (x ∷ code)) next)

some_of : (o : Option ℕ) (n : ℕ) → is_some o ≡ true → n ≡ unwrap_or o 0 → o ≡ Some n
some_of None n e is = cc
some_of (Some m) n e is = ap (λ k. Some k) (sym is)

open_within : (code : List Instruction) (i : ℕ) → does_open (slice_get code i) ≡ true → i < length code
open_within [] i e = cc
open_within (x ∷ code) zero e = omega arith
open_within (x ∷ code) (suc i) e = omega (arith, open_within code i e)

block_within : (bs : List Block) (block line : ℕ) → does_open (slice_get (code_of_block (slice_get bs block)) line) ≡ true
    → block < length bs
block_within [] block line e = cc
block_within (b ∷ bs) zero line e = omega arith
block_within (b ∷ bs) (suc block) line e = omega (arith, block_within bs block line e)

-- a block with such a line is one of them
pub open_block : (cs : List Coroutine) (block line : ℕ)
    → does_open (slice_get (code_of_block (slice_get (map block_of cs) block)) line) ≡ true → block < length cs
open_block cs block line e = omega (arith, block_within (map block_of cs) block line e, length-map cs block_of)

-- the table has a place for a line that opens others
pub closing_within : (places : List ℕ) (code : List Instruction) (line : ℕ) → places ≡ closing_places code
    → does_open (slice_get code line) ≡ true → line < length places
closing_within places code line is e = omega (arith, ap length is, length-closings_from 0 code, open_within code line e)

opened_there : (p : Program) → IsProgram p → (block line : ℕ) (b : Option Block) (x : Option Instruction) → slice_get p.blocks block ≡ b
    → slice_get (code_of_block b) line ≡ x → does_open x ≡ true → is_some (closing_of (code_of_block b) line) ≡ true
opened_there p is block line None x at line_is e = cc
opened_there p is block line (Some b) None at line_is e = cc
opened_there p is block line (Some b) (Some x) at line_is e = program-closes p is block line b x at line_is e

-- and has the line that closes it
pub closing_at : (p : Program) → IsProgram p → (block line n : ℕ) (places : List ℕ) → places ≡ closing_places (block_code p block)
    → does_open (slice_get (block_code p block) line) ≡ true → n ≡ get_or places line 0 → closing_of (block_code p block) line ≡ Some n
closing_at p is block line n places table e at =
    let code = block_code p block in
    let place : 0 + line + 1 ≡ line + 1 = omega arith in
    some_of (closing_of code line) n (opened_there p is block line (slice_get p.blocks block) (slice_get code line) refl refl e)
    (at ∙ ap (λ l. get_or l line 0) table ∙ closings_from-at 0 code line e
    ∙ ap (λ k. unwrap_or (closing_from 0 k (drop (line + 1) code)) 0) place)

-- ---- how many Jobs

pub few_coroutines : (p : Program) → IsProgram p → coroutine_count p ≤ 16000
few_coroutines p is = omega (arith, whole_load-job_count p is, is.load)
