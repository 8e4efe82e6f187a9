use Rattle.std.proofs.Common.{◌≡◌, Bool, true, false, sym, ap, ◌∙◌, refl}
use Rattle.script_grammar.specs.declared.instructions.Instruction.{Instruction}
use Rattle.script_grammar.specs.declared.instructions.Instruction.TheVariants as line
use Rattle.script_grammar.specs.Blocks.{is_clause}
use Rattle.script_reader.specs.Scripts.{program_of}
use Rattle.script_meaning.proofs.InsideCode.{no_clause}
use Rattle.poll_states.proofs.Standing.{stands_fits}
use Rattle.poll_states.proofs.lines.run_line.Goals as goal

-- a select, and no other line
abbrev is_select : Instruction → Bool
is_select line.Select = true
is_select other = false

-- a line that is another one is no select
apart : {A : Type 0} (l i : Instruction) → l ≡ i → is_select i ≡ false → l ≡ line.Select → A
apart l i e away is = let both_ways : true ≡ false = sym (ap is_select is) ∙ ap is_select e ∙ away in absurd (let no_way : ⊥ = cc in no_way)

pub unreachable-requires : goal.unreachable-requires
unreachable-requires g c =
    let both_ways : false ≡ true = sym (no_clause (program_of c.args.script.now) _ _ c.args.line c.args.script.now.well_formed
    (stands_fits _ _ _ _ c.requires.stands) c.requires.at) ∙ ap is_clause c.in-OnSend.is in
    cc

pub unreachable-requires-in-OnReceive : goal.unreachable-requires-in-OnReceive
unreachable-requires-in-OnReceive g c =
    let both_ways : false ≡ true = sym (no_clause (program_of c.args.script.now) _ _ c.args.line c.args.script.now.well_formed
    (stands_fits _ _ _ _ c.requires.stands) c.requires.at) ∙ ap is_clause c.in-OnReceive.is in
    cc

pub repeat-requires-clause-at : goal.repeat-requires-clause-at
repeat-requires-clause-at g c = rw c.in-Repeat.is at c.requires.at

pub launch-requires-clause-at : goal.launch-requires-clause-at
launch-requires-clause-at g c = rw c.in-Launch.is at c.requires.at

pub fail-requires-clause-at : goal.fail-requires-clause-at
fail-requires-clause-at g c = rw c.in-Fail.is at c.requires.at

pub set_result-requires-clause-at : goal.set_result-requires-clause-at
set_result-requires-clause-at g c = rw c.in-SetResult.is at c.requires.at

pub enter_scope-requires-clause-at : goal.enter_scope-requires-clause-at
enter_scope-requires-clause-at g c = rw c.in-Scope.is at c.requires.at

pub end_line-requires-clause-at : goal.end_line-requires-clause-at
end_line-requires-clause-at g c = rw c.in-End.is at c.requires.at

pub select-requires-clause-at : goal.select-requires-clause-at
select-requires-clause-at g c = rw c.in-Select.is at c.requires.at

pub look_up-requires-clause-at : goal.look_up-requires-clause-at
look_up-requires-clause-at g c = rw c.in-Yield.is at c.requires.at

pub returns-in-Repeat-clause-came : goal.returns-in-Repeat-clause-came
returns-in-Repeat-clause-came g c = c.repeat.ensures.came

pub returns-in-Repeat-clause-same : goal.returns-in-Repeat-clause-same
returns-in-Repeat-clause-same g c = c.repeat.ensures.same

pub returns-in-Launch-clause-came : goal.returns-in-Launch-clause-came
returns-in-Launch-clause-came g c = c.launch.ensures.came

pub returns-in-Launch-clause-same : goal.returns-in-Launch-clause-same
returns-in-Launch-clause-same g c = c.launch.ensures.same

pub returns-in-Fail-clause-came : goal.returns-in-Fail-clause-came
returns-in-Fail-clause-came g c = c.fail.ensures.came

pub returns-in-Fail-clause-same : goal.returns-in-Fail-clause-same
returns-in-Fail-clause-same g c = c.fail.ensures.same

pub returns-in-SetResult-clause-came : goal.returns-in-SetResult-clause-came
returns-in-SetResult-clause-came g c = c.set_result.ensures.came

pub returns-in-SetResult-clause-same : goal.returns-in-SetResult-clause-same
returns-in-SetResult-clause-same g c = c.set_result.ensures.same

pub returns-in-Scope-clause-came : goal.returns-in-Scope-clause-came
returns-in-Scope-clause-came g c = c.enter_scope.ensures.came

pub returns-in-Scope-clause-same : goal.returns-in-Scope-clause-same
returns-in-Scope-clause-same g c = c.enter_scope.ensures.same

pub returns-in-End-clause-came : goal.returns-in-End-clause-came
returns-in-End-clause-came g c = c.end_line.ensures.came

pub returns-in-End-clause-same : goal.returns-in-End-clause-same
returns-in-End-clause-same g c = c.end_line.ensures.same

pub returns-in-Select-clause-came : goal.returns-in-Select-clause-came
returns-in-Select-clause-came g c = c.select.ensures.came

pub returns-in-Select-clause-same : goal.returns-in-Select-clause-same
returns-in-Select-clause-same g c = c.select.ensures.same

pub returns-in-Yield-clause-came : goal.returns-in-Yield-clause-came
returns-in-Yield-clause-came g c = c.look_up.ensures.came

pub returns-in-Yield-clause-same : goal.returns-in-Yield-clause-same
returns-in-Yield-clause-same g c = c.look_up.ensures.same

pub returns-in-Send-clause-came : goal.returns-in-Send-clause-came
returns-in-Send-clause-came g c = c.call.ensures.came

pub returns-in-Send-clause-same : goal.returns-in-Send-clause-same
returns-in-Send-clause-same g c = c.call.ensures.same

pub returns-in-Start-clause-came : goal.returns-in-Start-clause-came
returns-in-Start-clause-came g c = c.call_named.ensures.came

pub returns-in-Start-clause-same : goal.returns-in-Start-clause-same
returns-in-Start-clause-same g c = c.call_named.ensures.same

pub returns-in-Repeat-clause-moves : goal.returns-in-Repeat-clause-moves
returns-in-Repeat-clause-moves g c = λ e. apart _ _ c.in-Repeat.is refl e

pub returns-in-Launch-clause-moves : goal.returns-in-Launch-clause-moves
returns-in-Launch-clause-moves g c = λ e. apart _ _ c.in-Launch.is refl e

pub returns-in-Fail-clause-moves : goal.returns-in-Fail-clause-moves
returns-in-Fail-clause-moves g c = λ e. apart _ _ c.in-Fail.is refl e

pub returns-in-SetResult-clause-moves : goal.returns-in-SetResult-clause-moves
returns-in-SetResult-clause-moves g c = λ e. apart _ _ c.in-SetResult.is refl e

pub returns-in-Scope-clause-moves : goal.returns-in-Scope-clause-moves
returns-in-Scope-clause-moves g c = λ e. apart _ _ c.in-Scope.is refl e

pub returns-in-End-clause-moves : goal.returns-in-End-clause-moves
returns-in-End-clause-moves g c = λ e. apart _ _ c.in-End.is refl e

pub returns-in-Select-clause-moves : goal.returns-in-Select-clause-moves
returns-in-Select-clause-moves g c = λ e. c.select.ensures.moves

pub returns-in-Yield-clause-moves : goal.returns-in-Yield-clause-moves
returns-in-Yield-clause-moves g c = λ e. apart _ _ c.in-Yield.is refl e
