-- Books that no run gives: main sends an element, and launches a coroutine that finds the channel empty.
use Rattle.std.specs.Prelude.{ℕ, false, List, [], ◌∷◌, None}
use lib.Chars.{codes}
use Rattle.channel_model.specs.declared.acts.Kind.TheVariants.{Buffered}
use Rattle.channel_model.specs.declared.acts.Act.{Act}
use Rattle.channel_model.specs.declared.acts.Act.TheVariants.{Put, Close}
use Rattle.channel_model.specs.declared.acts.ChannelNote.TheVariants as heard
use Rattle.channel_model.specs.declared.acts.Entry.{Entry}
use Rattle.job_model.specs.declared.acts.End.TheVariants.{Completed}
use Rattle.job_model.specs.declared.acts.JobAct.{JobAct}
use Rattle.job_model.specs.declared.acts.JobAct.TheVariants.{Attach, EndBody, Finish, Gone}
use Rattle.job_model.specs.declared.acts.JobNote.TheVariants as known
use Rattle.job_model.specs.declared.acts.JobEntry.{JobEntry}
use Rattle.job_model.specs.Trees.{plain}
use Rattle.note_book.specs.declared.book.Item.{Item}
use Rattle.note_book.specs.declared.book.Item.TheVariants as item
use Rattle.script_grammar.specs.declared.instructions.Instruction.TheVariants as line
use Rattle.script_grammar.specs.declared.instructions.Launching.TheVariants as how
use Rattle.script_grammar.specs.declared.instructions.Operand.TheVariants as operand
use Rattle.script_grammar.specs.Programs.{Program}

-- the script: `coroutine p` is `tryreceive a`, and `coroutine main` is `send a 1`, `launch p`
abbrev pub program : Program
program = record {
  version = 1;
  channels = record { name = codes "a"; kind = Buffered 2; places = 16384 } ∷ [];
  blocks =
      record { name = codes "p"; jobs = []; code = line.TryReceive 0 ∷ [] }
      ∷ record { name = codes "main"; jobs = []; code = line.Send 0 (operand.Number 1) ∷ line.Launch 0 how.Plain None ∷ [] } ∷ [];
  spawns = [];
}

-- ---- the histories

abbrev pub by : ℕ → Act → Entry
by who act = record { who = who; act = act }

abbrev pub done_by : ℕ → JobAct → JobEntry
done_by who act = record { who = who; act = act }

-- 1 and 2 are the done channels of the two Jobs
abbrev pub channels : List Entry
channels = by 0 (Put 0 0 1) ∷ by 1 (Close 2 0) ∷ by 1 (Close 1 0) ∷ []

abbrev pub jobs : List JobEntry
jobs =
    done_by 0 (Attach 0 1 plain 1 false)
    ∷ done_by 0 (EndBody 0 0)
    ∷ done_by 1 (EndBody 1 0)
    ∷ done_by 1 (Finish 1 (Completed 0))
    ∷ done_by 1 (Gone 1)
    ∷ done_by 1 (Finish 0 (Completed 0))
    ∷ []

-- ---- the books

abbrev pub noted : Act → Item
noted act = item.Channel (heard.Made act)

abbrev pub job_noted : JobAct → Item
job_noted act = item.Job (known.Made act)

abbrev pub book_of_main : List Item
book_of_main = noted (Put 0 0 1) ∷ job_noted (Attach 0 1 plain 1 false) ∷ job_noted (EndBody 0 0) ∷ []

abbrev pub book_of_child : List Item
book_of_child =
    item.Channel (heard.Empty 0)
    ∷ job_noted (EndBody 1 0)
    ∷ job_noted (Finish 1 (Completed 0))
    ∷ noted (Close 2 0)
    ∷ job_noted (Gone 1)
    ∷ job_noted (Finish 0 (Completed 0))
    ∷ noted (Close 1 0)
    ∷ []

abbrev pub books : List (List Item)
books = book_of_main ∷ book_of_child ∷ []
