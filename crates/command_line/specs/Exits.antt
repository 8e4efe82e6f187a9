-- What a process is asked for, and what standard error says of one that ends with a number.
use Rattle.std.specs.Prelude.{ℕ, ◌==◌, List, map, drop, string_bytes, Option, Some, None, option_and_then, Result, String, if◌then◌else◌}
use Rattle.std.specs.Global.{Global}
use Rattle.std.specs.declared.vec.IntoIter.{IntoIter}
use Rattle.command_line.specs.declared.exit.Message.{Message}
use Rattle.command_line.specs.declared.exit.Message.TheVariants.{Usage, ReadFault, WriteFault, NoMemory}
use Rattle.command_line.specs.declared.words.Command.{Command}
use Rattle.command_line.specs.Commands.{command_of}
use Rattle.program_input.specs.Arguments.{arguments_given}

-- the command that the arguments are behind the first, which is the program's name
abbrev pub asked_by : {E : Type 0} → Result (IntoIter (String Global) Global) E → Option Command
asked_by arguments = option_and_then (λ all. command_of (map string_bytes (drop 1 all))) (arguments_given arguments)

-- what standard error says
abbrev pub message_at : ℕ → Option Message
message_at number =
    if number == 2 then Some Usage
    else if number == 5 then Some ReadFault
    else if number == 6 then Some WriteFault
    else if number == 7 then Some NoMemory
    else None
