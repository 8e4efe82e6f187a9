-- What the report says: the lines of the books.
use Rattle.std.specs.Prelude.{ℕ, ◌+◌, ◌-◌, List, [], ◌∷◌, ◌++◌, length, Option, Some, None, slice_get}
use Rattle.std.specs.Fmt.{decimal}
use lib.Chars.{codes}
use Rattle.co_base.specs.declared.names.WaitId.{WaitId}
use Rattle.channel_model.specs.declared.acts.Act.{Act}
use Rattle.channel_model.specs.declared.acts.Act.TheVariants.{Hand, Put, Offer, Await, Take, Admit, Drop, Spurn, Close, Void, Drain, WakeClosed, Withdraw, Settle}
use Rattle.channel_model.specs.declared.acts.ChannelNote.{ChannelNote}
use Rattle.channel_model.specs.declared.acts.ChannelNote.TheVariants as note
use Rattle.channel_model.specs.declared.acts.Settled.{Settled}
use Rattle.channel_model.specs.declared.acts.Settled.TheVariants as settled
use Rattle.channel_model.specs.declared.acts.Why.{Why}
use Rattle.channel_model.specs.declared.acts.Why.TheVariants as why
use Rattle.note_book.specs.declared.book.Item.{Item}
use Rattle.note_book.specs.declared.book.Item.TheVariants as item
use Rattle.script_grammar.specs.Programs.{Declared}
use Rattle.run_report.specs.JobTexts.{job_note_text}

-- ---- the parts of a line

-- a channel's name, or @ and the row of a done channel
abbrev pub name_or_row : Option Declared → ℕ → List ℕ
name_or_row (Some c) row = c.name
name_or_row None row = codes "@" ++ decimal row

-- a channel: the declared ones have names, the done channels come after them
abbrev pub channel_text : List Declared → ℕ → List ℕ
channel_text channels c = name_or_row (slice_get channels c) (c - length channels)

-- a channel and a place of it
abbrev pub place_text : List Declared → ℕ → ℕ → List ℕ
place_text channels c place = channel_text channels c ++ codes " " ++ decimal place

-- a wait: the channel and the place at which it began
abbrev pub wait_text : List Declared → WaitId → List ℕ
wait_text channels w = channel_text channels w.channel ++ codes "." ++ decimal w.place

-- why a wait was withdrawn
abbrev pub why_text : Why → List ℕ
why_text why.Cancelled = codes "cancelled"
why_text why.Revoked = codes "revoked"

-- how a wait ended, the clause before the value
abbrev pub settled_text : Settled → List ℕ
settled_text (settled.Value clause value) = codes "value " ++ decimal clause ++ codes " " ++ decimal value
settled_text (settled.Sent clause) = codes "sent " ++ decimal clause
settled_text (settled.Closed clause v) = codes "closed " ++ decimal clause ++ codes " " ++ decimal v
settled_text settled.Cancelled = codes "cancelled"
settled_text (settled.Undelivered value) = codes "undelivered " ++ decimal value

-- ---- the items of a book

-- an act: its word, and then what it names
abbrev pub act_text : List Declared → Act → List ℕ
act_text channels (Hand c place value) = codes "hand " ++ place_text channels c place ++ codes " " ++ decimal value
act_text channels (Put c place value) = codes "put " ++ place_text channels c place ++ codes " " ++ decimal value
act_text channels (Offer c place value w clause) =
    codes "offer " ++ place_text channels c place ++ codes " " ++ decimal value
    ++ codes " " ++ wait_text channels w ++ codes " " ++ decimal clause
act_text channels (Await c place w clause) =
    codes "await " ++ place_text channels c place ++ codes " " ++ wait_text channels w ++ codes " " ++ decimal clause
act_text channels (Take c place value) = codes "take " ++ place_text channels c place ++ codes " " ++ decimal value
act_text channels (Admit c place) = codes "admit " ++ place_text channels c place
act_text channels (Drop c place value) = codes "drop " ++ place_text channels c place ++ codes " " ++ decimal value
act_text channels (Spurn c place value) = codes "spurn " ++ place_text channels c place ++ codes " " ++ decimal value
act_text channels (Close c v) = codes "close " ++ channel_text channels c ++ codes " " ++ decimal v
act_text channels (Void c) = codes "void " ++ channel_text channels c
act_text channels (Drain c place value) = codes "drain " ++ place_text channels c place ++ codes " " ++ decimal value
act_text channels (WakeClosed c place) = codes "wakeclosed " ++ place_text channels c place
act_text channels (Withdraw w why) = codes "withdraw " ++ wait_text channels w ++ codes " " ++ why_text why
act_text channels (Settle w outcome) = codes "settle " ++ wait_text channels w ++ codes " " ++ settled_text outcome

-- a note on a channel: an act, or the answer of a call that made none
abbrev pub channel_note_text : List Declared → ChannelNote → List ℕ
channel_note_text channels (note.Made act) = act_text channels act
channel_note_text channels (note.SendClosed c value v) =
    codes "sendclosed " ++ channel_text channels c ++ codes " " ++ decimal value ++ codes " " ++ decimal v
channel_note_text channels (note.TrySendClosed c value v) =
    codes "trysendclosed " ++ channel_text channels c ++ codes " " ++ decimal value ++ codes " " ++ decimal v
channel_note_text channels (note.ReceiveClosed c v) = codes "receiveclosed " ++ channel_text channels c ++ codes " " ++ decimal v
channel_note_text channels (note.TryReceiveClosed c v) = codes "tryreceiveclosed " ++ channel_text channels c ++ codes " " ++ decimal v
channel_note_text channels (note.AlreadyClosed c v) = codes "alreadyclosed " ++ channel_text channels c ++ codes " " ++ decimal v
channel_note_text channels (note.Full c value) = codes "full " ++ channel_text channels c ++ codes " " ++ decimal value
channel_note_text channels (note.Empty c) = codes "empty " ++ channel_text channels c
channel_note_text channels (note.Spent c) = codes "spent " ++ channel_text channels c
channel_note_text channels (note.Partner c place) = codes "partner " ++ place_text channels c place
channel_note_text channels (note.MainResolved w) = codes "resolved " ++ wait_text channels w
channel_note_text channels (note.Late w) = codes "late " ++ wait_text channels w

-- an item: a note on a channel or on a Job
abbrev pub item_text : List Declared → Item → List ℕ
item_text channels (item.Channel of_channel) = channel_note_text channels of_channel
item_text channels (item.Job of_job) = job_note_text of_job

-- ---- the lines of the books

-- the lines of the coroutine with this tag, one for each item
abbrev pub book_text : List Declared → ℕ → List Item → List ℕ
book_text channels tag [] = []
book_text channels tag (i ∷ items) = decimal tag ++ codes " " ++ item_text channels i ++ codes "\n" ++ book_text channels tag items

-- the lines of all coroutines from this tag on
abbrev pub books_text : List Declared → ℕ → List (List Item) → List ℕ
books_text channels tag [] = []
books_text channels tag (book ∷ books) = book_text channels tag book ++ books_text channels (tag + 1) books
