-- Lines by families.
use Rattle.std.specs.Prelude.{ℕ, Bool, true, false}
use Rattle.script_grammar.specs.declared.instructions.Operand.{Operand}
use Rattle.script_grammar.specs.declared.instructions.Instruction.{Instruction}
use Rattle.script_grammar.specs.declared.instructions.Instruction.TheVariants as lines
use Rattle.script_grammar.specs.declared.verbs.Verb.{Verb}
use Rattle.script_grammar.specs.declared.verbs.Verb.TheVariants as verbs

-- whether a line with this verb names one thing, and has no other word
abbrev pub is_of_a_name : Verb → Bool
is_of_a_name verbs.Receive = true
is_of_a_name verbs.TryReceive = true
is_of_a_name verbs.Close = true
is_of_a_name verbs.CancelChannel = true
is_of_a_name verbs.Each = true
is_of_a_name verbs.Start = true
is_of_a_name verbs.Join = true
is_of_a_name verbs.Cancel = true
is_of_a_name other = false

-- a line that names one thing; of the other verbs nobody asks
abbrev pub with_name : Verb → ℕ → Instruction
with_name verbs.Receive i = lines.Receive i
with_name verbs.TryReceive i = lines.TryReceive i
with_name verbs.Close i = lines.Close i
with_name verbs.CancelChannel i = lines.CancelChannel i
with_name verbs.Each i = lines.Each i
with_name verbs.Start i = lines.Start i
with_name verbs.Join i = lines.Join i
with_name verbs.Cancel i = lines.Cancel i
with_name other i = lines.Yield

-- whether a line with this verb names a channel and has an operand
abbrev pub is_of_an_operand : Verb → Bool
is_of_an_operand verbs.Send = true
is_of_an_operand verbs.TrySend = true
is_of_an_operand verbs.OnSend = true
is_of_an_operand other = false

-- a line that names a channel and has an operand; of the other verbs nobody asks
abbrev pub with_operand : Verb → ℕ → Operand → Instruction
with_operand verbs.Send c v = lines.Send c v
with_operand verbs.TrySend c v = lines.TrySend c v
with_operand verbs.OnSend c v = lines.OnSend c v
with_operand other c v = lines.Yield
