-- Books that no run gives: main sends an element, and the coroutine whose result it awaits finds the channel empty. So main's result is 0,
-- where each run gives 1.
use Rattle.std.specs.Prelude.{false, List, [], ◌∷◌, Some}
use lib.Chars.{codes}
use Rattle.co_base.specs.declared.names.WaitId.{WaitId}
use Rattle.channel_model.specs.declared.acts.Kind.TheVariants.{Buffered}
use Rattle.channel_model.specs.declared.acts.Act.TheVariants.{Put, Await, Close, WakeClosed, Settle}
use Rattle.channel_model.specs.declared.acts.ChannelNote.TheVariants as heard
use Rattle.channel_model.specs.declared.acts.Entry.{Entry}
use Rattle.channel_model.specs.declared.acts.Settled.TheVariants.{Closed}
use Rattle.job_model.specs.declared.acts.End.TheVariants.{Completed}
use Rattle.job_model.specs.declared.acts.JobAct.TheVariants.{Attach, EndBody, Finish, Gone}
use Rattle.job_model.specs.declared.acts.JobEntry.{JobEntry}
use Rattle.job_model.specs.declared.acts.JobNote.TheVariants as known
use Rattle.job_model.specs.Trees.{plain}
use Rattle.note_book.specs.declared.book.Item.{Item}
use Rattle.note_book.specs.declared.book.Item.TheVariants as item
use Rattle.script_grammar.specs.declared.instructions.Instruction.TheVariants as line
use Rattle.script_grammar.specs.declared.instructions.Launching.TheVariants as how
use Rattle.script_grammar.specs.declared.instructions.Operand.TheVariants as operand
use Rattle.script_grammar.specs.Programs.{Program}
use Rattle.order_laws.specs.StaleAnswers.{by, done_by, noted, job_noted}

-- the script: `coroutine p` is `tryreceive a`, `result sum`, and `coroutine main` is `send a 1`, `async p as j`, `await j`, `result sum`
abbrev pub program : Program
program = record {
  version = 1;
  channels = record { name = codes "a"; kind = Buffered 2; places = 16384 } ∷ [];
  blocks =
      record { name = codes "p"; jobs = []; code = line.TryReceive 0 ∷ line.SetResult operand.Sum ∷ [] }
      ∷ record {
        name = codes "main";
        jobs = codes "j" ∷ [];
        code =
            line.Send 0 (operand.Number 1) ∷ line.Launch 0 how.Async (Some 0) ∷ line.Await 0 ∷ line.SetResult operand.Sum ∷ [];
      } ∷ [];
  spawns = [];
}

-- ---- the histories

-- main waits on the done channel of the coroutine
abbrev pub wait : WaitId
wait = record { channel = 2; place = 0 }

-- 1 and 2 are the done channels of the two Jobs
abbrev pub channels : List Entry
channels =
    by 0 (Put 0 0 1)
    ∷ by 0 (Await 2 0 wait 0)
    ∷ by 1 (Close 2 0)
    ∷ by 1 (WakeClosed 2 0)
    ∷ by 0 (Settle wait (Closed 0 0))
    ∷ by 0 (Close 1 0)
    ∷ []

abbrev pub jobs : List JobEntry
jobs =
    done_by 0 (Attach 0 1 plain 1 false)
    ∷ done_by 1 (EndBody 1 0)
    ∷ done_by 1 (Finish 1 (Completed 0))
    ∷ done_by 1 (Gone 1)
    ∷ done_by 0 (EndBody 0 0)
    ∷ done_by 0 (Finish 0 (Completed 0))
    ∷ []

-- ---- the books

abbrev pub book_of_main : List Item
book_of_main =
    noted (Put 0 0 1)
    ∷ job_noted (Attach 0 1 plain 1 false)
    ∷ noted (Await 2 0 wait 0)
    ∷ noted (Settle wait (Closed 0 0))
    ∷ item.Job (known.SawEnd 1 (Completed 0))
    ∷ job_noted (EndBody 0 0)
    ∷ job_noted (Finish 0 (Completed 0))
    ∷ noted (Close 1 0)
    ∷ []

abbrev pub book_of_child : List Item
book_of_child =
    item.Channel (heard.Empty 0)
    ∷ job_noted (EndBody 1 0)
    ∷ job_noted (Finish 1 (Completed 0))
    ∷ noted (Close 2 0)
    ∷ noted (WakeClosed 2 0)
    ∷ job_noted (Gone 1)
    ∷ []

abbrev pub books : List (List Item)
books = book_of_main ∷ book_of_child ∷ []
