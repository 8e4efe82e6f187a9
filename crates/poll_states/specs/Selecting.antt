-- Where a coroutine goes on from a select.
use Rattle.std.specs.Prelude.{◌≡◌, ℕ, Option, Some, None}
use Rattle.co_base.specs.declared.names.WaitId.{WaitId}
use Rattle.call_meaning.specs.ChannelCalls.{Call, sends, receives}
use Rattle.script_grammar.specs.declared.instructions.Instruction.{Instruction}
use Rattle.script_grammar.specs.declared.instructions.Instruction.TheVariants as line
use Rattle.script_grammar.specs.Programs.{Program}
use Rattle.script_meaning.specs.declared.stage.Stage.TheVariants.{Waiting, Unwinding}
use Rattle.script_meaning.specs.Configs.{Config, at_stage, received, operand}
use Rattle.select_calls.specs.declared.clause.Outcome.{Outcome}
use Rattle.select_calls.specs.declared.clause.Outcome.TheVariants as outcome
use Rattle.select_calls.specs.declared.clause.SelectAnswer.{SelectAnswer}
use Rattle.select_calls.specs.declared.clause.SelectAnswer.TheVariants as answer
use Rattle.poll_states.specs.Steps.{GoesPast}

-- the call that a line asks for as a clause, with the element that it sends from here
abbrev pub clause_in : Config → Instruction → Option Call
clause_in x (line.OnSend c o) = Some (sends c (operand x o))
clause_in x (line.OnReceive c) = Some (receives c)
clause_in x other = None

-- where it is whose chosen clause came to this: after the end of the select
abbrev pub AfterChosen : Program → ℕ → Outcome → Config → Config → Type 0
AfterChosen p k outcome.Sent x y = GoesPast p k x y
AfterChosen p k (outcome.Value v) x y = GoesPast p k (received v x) y
AfterChosen p k (outcome.Closed v) x y = GoesPast p k x y

abbrev pub waits_with : Option WaitId → Config → Config
waits_with None x = x
waits_with (Some w) x = at_stage (Waiting w) x

abbrev pub AfterSelect : Program → ℕ → SelectAnswer → Option WaitId → Config → Config → Type 0
AfterSelect p k (answer.Chosen n o) held x y = AfterChosen p k o x y
AfterSelect p k answer.Waiting held x y = y ≡ waits_with held x
AfterSelect p k answer.Again held x y = y ≡ x
AfterSelect p k answer.Spent held x y = y ≡ at_stage (Unwinding (Some k)) x
