use Rattle.std.specs.Prelude.{◌≡◌, ℕ, List, IfOk, map}
use Rattle.std.specs.List.{All}
use Rattle.std.proofs.Common.{ap, subst, sym, ◌∙◌}
use Rattle.channel_model.specs.declared.acts.Kind.{Kind}
use Rattle.one_thread_floor.specs.ListFloors.{MayBeMade}
use Rattle.script_grammar.specs.Programs.{Declared}
use Rattle.script_reader.specs.Scripts.{program_of}
use Rattle.script_reader.specs.declared.script.Channel.{Channel}
use Rattle.script_reader.specs.Programs.{declared_of}
use Rattle.history_text.specs.Numbers.{shape_of}
use Rattle.history_check.specs.Verdicts.{IsVerdict}
use Rattle.history_check.proofs.DeclaredKinds.{all_may_be_made, declared_kinds}
use Rattle.history_check.proofs.input.check_input.Goals as goal

-- the kinds in memory are those that the channels are declared with
kinds_are : (kinds items : List (Kind × ℕ)) (xs : List Channel) (declared : List Declared) → kinds ≡ items
    → items ≡ map (λ (c : Channel). (c.kind, c.places)) xs → map declared_of xs ≡ declared
    → kinds ≡ map {B = Kind × ℕ} (λ (c : Declared). (c.kind, c.places)) declared
kinds_are kinds items xs declared e f g =
    e ∙ f ∙ declared_kinds xs ∙ ap (map {B = Kind × ℕ} (λ (c : Declared). (c.kind, c.places))) g

pub check_history-requires-clause-kinds : goal.check_history-requires-clause-kinds
check_history-requires-clause-kinds c =
    let p = program_of c.args.input.now.script in
    subst (All MayBeMade)
    (sym (kinds_are c.as_slice.result.now c.in_ok-kinds.kinds.items c.channels.result.now p.channels c.as_slice.ensures.value
    c.in_ok-kinds.ensures c.channels.ensures)) (all_may_be_made p c.args.input.now.script.well_formed)

pub returns : goal.returns
returns c =
    let p = program_of c.args.input.now.script in
    subst (λ ks. IfOk c.check_history.result
    (λ judgement. IsVerdict ks (shape_of c.args.input.now.numbers) c.args.input.now.lines.items judgement.verdict))
    (kinds_are c.as_slice.result.now c.in_ok-kinds.kinds.items c.channels.result.now p.channels c.as_slice.ensures.value
    c.in_ok-kinds.ensures c.channels.ensures)
    (subst (λ ls. IfOk c.check_history.result
    (λ judgement. IsVerdict c.as_slice.result.now (shape_of c.args.input.now.numbers) ls judgement.verdict))
    c.as_slice-2.ensures.value c.check_history.ensures)
