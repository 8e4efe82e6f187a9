-- The script, after the last line.
use Rattle.std.proofs.Common.{◌≡◌, ℕ, zero, suc, ◌+◌, ◌<◌, ◌≤◌, List, [], ◌∷◌, ◌++◌, length, Bool, true, false, ◌&&◌, nat_le, refl, ap, sym, ◌∙◌, arith, get_or, Some, None, Result, Ok, Err, if◌then◌else◌}
use Rattle.std.specs.Prelude.{◌||◌, is_some}
use Rattle.std.specs.List.{list_all}
use Rattle.std.specs.Str.{bytes_eq}
use lib.Chars.{codes}
use Rattle.script_grammar.specs.declared.fault.FaultKind.{FaultKind}
use Rattle.script_grammar.specs.declared.fault.FaultKind.TheVariants as kinds
use Rattle.script_grammar.specs.declared.instructions.Instruction.{Instruction}
use Rattle.script_grammar.specs.Programs.{Block, Program, block_names}
use Rattle.script_grammar.specs.Blocks.{Open, opened, with_line, is_main}
use Rattle.script_grammar.specs.Reads.{Read, load, open_main, closed_main, spawned_weight, program_so_far}
use Rattle.script_grammar.specs.Grammar.{has_main}
use Rattle.script_grammar.specs.Places.{place_from}
use Rattle.script_grammar.specs.Texts.{finish, when_closed}
use Rattle.script_grammar.specs.WellFormed.{name_given, few_clauses, lines_fit, with_lines, weight_in, weights_from, blocks_fit, whole_load, IsProgram}
use Rattle.script_grammar.specs.Tags.{block_named, size_in, tags_for, tags_of, spawned, coroutine_count, scope_count}
use Rattle.script_grammar.proofs.Truths.{both_true, le-true, le-from_true}
use Rattle.script_grammar.proofs.SizesSoFar.{size_in-light}
use Rattle.script_grammar.proofs.JobsCounted.{whole_load-job_count}
use Rattle.script_grammar.proofs.TextsRead.{finish_again}
use Rattle.script_reader.proofs.Tables.{few_coroutines}
use Rattle.channel_model.proofs.Elements.{all_push}

-- ---- sizes

lines_light : (n : ℕ) (blocks : List (List ℕ)) (weights : List ℕ) (jobs : List (List ℕ)) (b : Open) (code : List Instruction)
    → lines_fit n blocks weights jobs b code ≡ true → b.weight ≤ 16000 → (with_lines weights jobs b code).weight ≤ 16000
lines_light n blocks weights jobs b [] e light = light
lines_light n blocks weights jobs b (x ∷ code) e light =
    let next = with_line weights x (name_given jobs x) b in
    let two = both_true _ _ e in
    let more = both_true _ _ two.1 in
    let deep = both_true (nat_le (length next.nest) 8) (few_clauses next.clauses && nat_le next.weight 16000) more.0 in
    let within = both_true (few_clauses next.clauses) (nat_le next.weight 16000) deep.1 in
    lines_light n blocks weights jobs next code more.1 (le-from_true next.weight 16000 within.1)

weights_light : (n : ℕ) (before : List (List ℕ)) (weights : List ℕ) (bs : List Block) → blocks_fit n before weights bs ≡ true
    → list_all (λ w. nat_le w 16000) weights ≡ true → list_all (λ w. nat_le w 16000) (weights_from weights bs) ≡ true
weights_light n before weights [] e light = light
weights_light n before weights (b ∷ bs) e light =
    let two = both_true _ _ e in
    let more = both_true _ _ two.1 in
    let w = weight_in weights b in
    let new = lines_light n before weights b.jobs (opened b.name) b.code more.0 (omega arith) in
    weights_light n (before ++ b.name ∷ []) (weights ++ w ∷ []) bs more.1
    (all_push (λ v. nat_le v 16000) weights w light (le-true w 16000 new))

weight_light : (weights : List ℕ) (k : ℕ) → list_all (λ w. nat_le w 16000) weights ≡ true → get_or weights k 0 ≤ 16000
weight_light [] k e = omega arith
weight_light (w ∷ weights) zero e = le-from_true w 16000 (both_true (nat_le w 16000) _ e).0
weight_light (w ∷ weights) (suc k) e = weight_light weights k (both_true (nat_le w 16000) _ e).1

-- an instance of a block takes few tags
pub sizes_light : (p : Program) → IsProgram p → (k : ℕ) → k < length p.blocks → size_in p.blocks k ≤ 16000
sizes_light p is k h =
    omega (
      arith,
      size_in-light (length p.channels) p.blocks is.blocks k h,
      weight_light (weights_from [] p.blocks) k (weights_light (length p.channels) [] [] p.blocks is.blocks refl),
    )

-- ---- tags

pub few_tags : (p : Program) (main : ℕ) → IsProgram p → block_named (codes "main") 0 p.blocks ≡ Some main
    → length (tags_for p.blocks (spawned p) (Some main)) ≤ 16000
few_tags p main is e = omega (arith, few_coroutines p is, ap (λ o. length (tags_for p.blocks (spawned p) o)) e)

pub tags_are : (p : Program) (main : ℕ) (tags : List ℕ) → block_named (codes "main") 0 p.blocks ≡ Some main
    → tags ≡ tags_for p.blocks (spawned p) (Some main) → tags ≡ tags_of p
tags_are p main tags e is = is ∙ ap (tags_for p.blocks (spawned p)) (sym e)

pub scopes_are : (p : Program) (n count load : ℕ) → IsProgram p → load ≡ whole_load p → count ≡ coroutine_count p → (count ≤ load)
    × (load ≤ 16000) × (n + count ≡ load → n ≡ scope_count p)
scopes_are p n count load is whole tags = (
  omega (arith, whole, tags, whole_load-job_count p is),
  omega (arith, whole, is.load),
  λ e. omega (arith, e, whole, tags, whole_load-job_count p is),
)

-- ---- main

pub place-named : (name : List ℕ) (i : ℕ) (bs : List Block) → place_from i name (block_names bs) ≡ block_named name i bs
place-named name i [] = refl
place-named name i (b ∷ bs) = ap (λ o. if bytes_eq b.name name then Some i else o) (place-named name (i + 1) bs)

has_main-named : (i : ℕ) (bs : List Block) → has_main bs ≡ is_some (block_named (codes "main") i bs)
has_main-named i [] = refl
has_main-named i (b ∷ bs) = by_test (is_main b.name) (has_main-named (i + 1) bs)
  where
    by_test : (t : Bool) → has_main bs ≡ is_some (block_named (codes "main") (i + 1) bs)
        → (t || has_main bs) ≡ is_some (if t then Some i else block_named (codes "main") (i + 1) bs)
    by_test true e = refl
    by_test false e = e

pub main_there : (bs : List Block) (main : ℕ) → block_named (codes "main") 0 bs ≡ Some main → has_main bs ≡ true
main_there bs main e = has_main-named 0 bs ∙ ap is_some e

-- a script that is closed and has a main
pub finish_ok : (s : Read) (main : ℕ) → s.current ≡ None → block_named (codes "main") 0 s.blocks ≡ Some main
    → finish s ≡ Ok (program_so_far s)
finish_ok s main out e = finish_again s out (main_there s.blocks main e)

pub finish_no_main : (s : Read) → s.current ≡ None → block_named (codes "main") 0 s.blocks ≡ None → finish s ≡ Err kinds.NoMain
finish_no_main s out e =
    let none : has_main s.blocks ≡ false = has_main-named 0 s.blocks ∙ ap is_some e in
    ap (when_closed s) out ∙ ap (λ b. if◌then◌else◌ {A = Result Program FaultKind} b (Ok (program_so_far s)) (Err kinds.NoMain)) none

-- its load is that of the whole
pub load-whole : (s : Read) → s.current ≡ None → s.weights ≡ weights_from [] s.blocks → load s ≡ whole_load (program_so_far s)
load-whole s out is = omega (arith, ap open_main out, ap (closed_main s.blocks) is, ap (λ w. spawned_weight w s.spawns) is)
