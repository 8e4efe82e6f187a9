-- Books that no run gives: a scope waits for a child, whose send is refused by a close that main makes only behind the scope.
use Rattle.std.specs.Prelude.{true, false, List, [], ◌∷◌, None}
use lib.Chars.{codes}
use Rattle.co_base.specs.declared.names.WaitId.{WaitId}
use Rattle.channel_model.specs.declared.acts.Kind.TheVariants.{Buffered}
use Rattle.channel_model.specs.declared.acts.Act.TheVariants.{Await, Close, WakeClosed, Settle}
use Rattle.channel_model.specs.declared.acts.ChannelNote.TheVariants as heard
use Rattle.channel_model.specs.declared.acts.Entry.{Entry}
use Rattle.channel_model.specs.declared.acts.Settled.TheVariants.{Closed}
use Rattle.job_model.specs.declared.acts.End.TheVariants.{Completed}
use Rattle.job_model.specs.declared.acts.JobAct.TheVariants.{Attach, EndBody, Finish, Gone}
use Rattle.job_model.specs.declared.acts.JobEntry.{JobEntry}
use Rattle.job_model.specs.declared.acts.JobKind.{JobKind}
use Rattle.job_model.specs.declared.acts.JobNote.TheVariants as known
use Rattle.job_model.specs.Trees.{plain}
use Rattle.note_book.specs.declared.book.Item.{Item}
use Rattle.note_book.specs.declared.book.Item.TheVariants as item
use Rattle.script_grammar.specs.declared.instructions.Instruction.TheVariants as line
use Rattle.script_grammar.specs.declared.instructions.Launching.TheVariants as how
use Rattle.script_grammar.specs.declared.instructions.Operand.TheVariants as operand
use Rattle.script_grammar.specs.Programs.{Program}
use Rattle.order_laws.specs.StaleAnswers.{by, done_by, noted, job_noted}

-- the script: `coroutine p` is `send a 1`, `coroutine q` is empty, and `coroutine main` is `scope`, `launch p`, `launch q`, `end`, `close
-- a`, `each a`, `end`, `result sum`
abbrev pub program : Program
program = record {
  version = 1;
  channels = record { name = codes "a"; kind = Buffered 4; places = 16384 } ∷ [];
  blocks =
      record { name = codes "p"; jobs = []; code = line.Send 0 (operand.Number 1) ∷ [] }
      ∷ record { name = codes "q"; jobs = []; code = [] }
      ∷ record {
        name = codes "main";
        jobs = [];
        code =
            line.Scope false ∷ line.Launch 0 how.Plain None ∷ line.Launch 1 how.Plain None ∷ line.End
            ∷ line.Close 0 ∷ line.Each 0 ∷ line.End ∷ line.SetResult operand.Sum ∷ [];
      } ∷ [];
  spawns = [];
}

-- ---- the histories

-- main waits on the done channel of its scope, whose Job is 3
abbrev pub wait : WaitId
wait = record { channel = 4; place = 0 }

abbrev pub scoped : JobKind
scoped = record { supervisor = false; scoped = true; lazy = false }

-- 1 to 4 are the done channels of the four Jobs
abbrev pub channels : List Entry
channels =
    by 0 (Await 4 0 wait 0)
    ∷ by 2 (Close 3 0)
    ∷ by 2 (Close 4 0)
    ∷ by 2 (WakeClosed 4 0)
    ∷ by 0 (Settle wait (Closed 0 0))
    ∷ by 0 (Close 0 0)
    ∷ by 1 (Close 2 0)
    ∷ by 0 (Close 1 0)
    ∷ []

abbrev pub jobs : List JobEntry
jobs =
    done_by 0 (Attach 0 3 scoped 0 false)
    ∷ done_by 0 (Attach 3 1 plain 1 false)
    ∷ done_by 0 (Attach 3 2 plain 2 false)
    ∷ done_by 0 (EndBody 3 0)
    ∷ done_by 1 (EndBody 1 0)
    ∷ done_by 1 (Finish 1 (Completed 0))
    ∷ done_by 1 (Gone 1)
    ∷ done_by 2 (EndBody 2 0)
    ∷ done_by 2 (Finish 2 (Completed 0))
    ∷ done_by 2 (Gone 2)
    ∷ done_by 2 (Finish 3 (Completed 0))
    ∷ done_by 2 (Gone 3)
    ∷ done_by 0 (EndBody 0 0)
    ∷ done_by 0 (Finish 0 (Completed 0))
    ∷ []

-- ---- the books

abbrev pub book_of_main : List Item
book_of_main =
    job_noted (Attach 0 3 scoped 0 false)
    ∷ job_noted (Attach 3 1 plain 1 false)
    ∷ job_noted (Attach 3 2 plain 2 false)
    ∷ job_noted (EndBody 3 0)
    ∷ noted (Await 4 0 wait 0)
    ∷ noted (Settle wait (Closed 0 0))
    ∷ item.Job (known.SawEnd 3 (Completed 0))
    ∷ noted (Close 0 0)
    ∷ item.Channel (heard.ReceiveClosed 0 0)
    ∷ job_noted (EndBody 0 0)
    ∷ job_noted (Finish 0 (Completed 0))
    ∷ noted (Close 1 0)
    ∷ []

abbrev pub book_of_p : List Item
book_of_p =
    item.Channel (heard.SendClosed 0 1 0)
    ∷ job_noted (EndBody 1 0)
    ∷ job_noted (Finish 1 (Completed 0))
    ∷ noted (Close 2 0)
    ∷ job_noted (Gone 1)
    ∷ []

abbrev pub book_of_q : List Item
book_of_q =
    job_noted (EndBody 2 0)
    ∷ job_noted (Finish 2 (Completed 0))
    ∷ noted (Close 3 0)
    ∷ job_noted (Gone 2)
    ∷ job_noted (Finish 3 (Completed 0))
    ∷ noted (Close 4 0)
    ∷ noted (WakeClosed 4 0)
    ∷ job_noted (Gone 3)
    ∷ []

abbrev pub books : List (List Item)
books = book_of_main ∷ book_of_p ∷ book_of_q ∷ []
