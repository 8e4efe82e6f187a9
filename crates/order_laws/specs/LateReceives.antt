-- Books that no run gives: main cancels a receiver that waits, and then hands it an element, which it receives as if it had not been
-- cancelled.
use Rattle.std.specs.Prelude.{false, List, [], ◌∷◌, Some}
use lib.Chars.{codes}
use Rattle.co_base.specs.declared.names.WaitId.{WaitId}
use Rattle.channel_model.specs.declared.acts.Kind.TheVariants.{Rendezvous}
use Rattle.channel_model.specs.declared.acts.Act.TheVariants.{Hand, Await, Close, Settle}
use Rattle.channel_model.specs.declared.acts.Entry.{Entry}
use Rattle.channel_model.specs.declared.acts.Settled.TheVariants.{Value}
use Rattle.job_model.specs.declared.acts.Cause.TheVariants as because
use Rattle.job_model.specs.declared.acts.End.TheVariants as ends
use Rattle.job_model.specs.declared.acts.JobAct.TheVariants.{Attach, EndBody, Cancel, Finish, Gone}
use Rattle.job_model.specs.declared.acts.JobEntry.{JobEntry}
use Rattle.job_model.specs.declared.acts.Reason.TheVariants as reasons
use Rattle.job_model.specs.Trees.{plain}
use Rattle.note_book.specs.declared.book.Item.{Item}
use Rattle.script_grammar.specs.declared.instructions.Instruction.TheVariants as line
use Rattle.script_grammar.specs.declared.instructions.Launching.TheVariants as how
use Rattle.script_grammar.specs.declared.instructions.Operand.TheVariants as operand
use Rattle.script_grammar.specs.Programs.{Program}
use Rattle.order_laws.specs.StaleAnswers.{by, done_by, noted, job_noted}

-- the script: `coroutine receiver` is `receive a`, and `coroutine main` is `launch receiver as r`, `cancel r`, `send a 5`
abbrev pub program : Program
program = record {
  version = 1;
  channels = record { name = codes "a"; kind = Rendezvous; places = 16384 } ∷ [];
  blocks =
      record { name = codes "receiver"; jobs = []; code = line.Receive 0 ∷ [] }
      ∷ record {
        name = codes "main";
        jobs = codes "r" ∷ [];
        code = line.Launch 0 how.Plain (Some 0) ∷ line.Cancel 0 ∷ line.Send 0 (operand.Number 5) ∷ [];
      } ∷ [];
  spawns = [];
}

-- ---- the histories

abbrev pub wait : WaitId
wait = record { channel = 0; place = 0 }

-- 1 and 2 are the done channels of the two Jobs
abbrev pub channels : List Entry
channels =
    by 1 (Await 0 0 wait 0) ∷ by 0 (Hand 0 0 5) ∷ by 1 (Settle wait (Value 0 5)) ∷ by 1 (Close 2 0) ∷ by 1 (Close 1 0) ∷ []

abbrev pub jobs : List JobEntry
jobs =
    done_by 0 (Attach 0 1 plain 1 false)
    ∷ done_by 0 (Cancel 1 reasons.Request)
    ∷ done_by 0 (EndBody 0 0)
    ∷ done_by 1 (EndBody 1 0)
    ∷ done_by 1 (Finish 1 (ends.Cancelled because.Request))
    ∷ done_by 1 (Gone 1)
    ∷ done_by 1 (Finish 0 (ends.Completed 0))
    ∷ []

-- ---- the books

abbrev pub book_of_main : List Item
book_of_main =
    job_noted (Attach 0 1 plain 1 false) ∷ job_noted (Cancel 1 reasons.Request) ∷ noted (Hand 0 0 5) ∷ job_noted (EndBody 0 0) ∷ []

-- of the receiver, behind its wait
abbrev pub after_wait : List Item
after_wait =
    job_noted (EndBody 1 0)
    ∷ job_noted (Finish 1 (ends.Cancelled because.Request))
    ∷ noted (Close 2 0)
    ∷ job_noted (Gone 1)
    ∷ job_noted (Finish 0 (ends.Completed 0))
    ∷ noted (Close 1 0)
    ∷ []

abbrev pub book_of_receiver : List Item
book_of_receiver = noted (Await 0 0 wait 0) ∷ noted (Settle wait (Value 0 5)) ∷ after_wait

abbrev pub books : List (List Item)
books = book_of_main ∷ book_of_receiver ∷ []
