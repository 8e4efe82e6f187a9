-- Examples of runs: the acts on channels of each book, and what their tallies tell.
use Rattle.std.specs.Prelude.{ℕ, List, [], ◌∷◌, map}
use Rattle.channel_model.specs.declared.acts.Act.{Act}
use Rattle.channel_model.specs.declared.acts.Act.TheVariants.{Hand, Put, Offer, Await, Take, Admit, Drop, Spurn}
use Rattle.channel_model.specs.declared.acts.Act.TheVariants.{Close, Void, Drain, WakeClosed, Withdraw, Settle}
use Rattle.channel_model.specs.declared.acts.ChannelNote.TheVariants as of_channel
use Rattle.channel_model.specs.declared.acts.Settled.TheVariants as settled
use Rattle.channel_model.specs.declared.acts.Why.TheVariants as why
use Rattle.co_base.specs.declared.names.WaitId.{WaitId}
use Rattle.note_book.specs.declared.book.Item.{Item}
use Rattle.note_book.specs.declared.book.Item.TheVariants as item
use Rattle.tally_laws.specs.Counts.{elements, received, undelivered, dropped, spurned, withdrawn, held}
use Rattle.tally_laws.specs.Tallies.{tallied}

-- ---- words

-- the wait with the name of a place of channel 0
abbrev pub wait_at : ℕ → WaitId
wait_at p = record { channel = 0; place = p }

abbrev pub made : Act → Item
made act = item.Channel (of_channel.Made act)

-- how many elements, and how many of them received, undelivered, dropped, spurned, withdrawn and held
abbrev pub told : List (List Act) → List ℕ
told books =
    let n = tallied (map (λ acts. map made acts) books) in
    elements n ∷ received n ∷ undelivered n ∷ dropped n ∷ spurned n ∷ withdrawn n ∷ held n ∷ []

-- ---- books

-- a send waits to the end
abbrev pub waits : List (List Act)
waits = (Offer 0 0 9 (wait_at 0) 0 ∷ []) ∷ []

-- two elements are kept, and a third one is admitted behind a take
abbrev pub admitted : List (List Act)
admitted =
    (Put 0 0 1 ∷ Put 0 1 2 ∷ Offer 0 2 3 (wait_at 2) 0 ∷ Settle (wait_at 2) (settled.Sent 0) ∷ []) ∷ (Take 0 0 1 ∷ Admit 0 2 ∷ []) ∷ []

-- the newest alone is kept
abbrev pub newest : List (List Act)
newest = (Put 0 0 1 ∷ Put 0 1 2 ∷ Drop 0 0 1 ∷ Put 0 2 3 ∷ Drop 0 1 2 ∷ Take 0 2 3 ∷ []) ∷ []

-- the first two alone are kept
abbrev pub oldest : List (List Act)
oldest = (Put 0 0 1 ∷ Put 0 1 2 ∷ Put 0 2 3 ∷ Spurn 0 2 3 ∷ Take 0 0 1 ∷ []) ∷ []

-- a channel is cancelled on which one element is kept and another one waits
abbrev pub drained : List (List Act)
drained =
    (Put 0 0 1 ∷ Offer 0 1 2 (wait_at 1) 0 ∷ Settle (wait_at 1) settled.Cancelled ∷ [])
    ∷ (Close 0 0 ∷ Void 0 ∷ Drain 0 0 1 ∷ Drain 0 1 2 ∷ [])
    ∷ []

-- a receiver is handed an element, and cancelled before it goes on
abbrev pub given_up : List (List Act)
given_up = (Await 0 0 (wait_at 0) 0 ∷ Settle (wait_at 0) (settled.Undelivered 5) ∷ []) ∷ (Hand 0 0 5 ∷ []) ∷ []

-- a receiver is told of a close, and cancelled before it goes on
abbrev pub closed : List (List Act)
closed = (Await 0 0 (wait_at 0) 0 ∷ Settle (wait_at 0) settled.Cancelled ∷ []) ∷ (Close 0 0 ∷ WakeClosed 0 0 ∷ []) ∷ []

-- a select offers twice, and the second offer is taken
abbrev pub chosen : List (List Act)
chosen = (Offer 0 0 1 (wait_at 0) 1 ∷ Offer 1 0 2 (wait_at 0) 2 ∷ Settle (wait_at 0) (settled.Sent 2) ∷ []) ∷ (Take 1 0 2 ∷ []) ∷ []

-- a send is cancelled while it waits
abbrev pub taken_back : List (List Act)
taken_back = (Offer 0 0 5 (wait_at 0) 0 ∷ Withdraw (wait_at 0) why.Cancelled ∷ Settle (wait_at 0) settled.Cancelled ∷ []) ∷ []

-- the acts of a select that offers and receives, up to its wait
abbrev pub select_then : List Act → List Act
select_then acts = Offer 0 0 7 (wait_at 0) 1 ∷ Await 1 0 (wait_at 0) 2 ∷ acts

-- it is handed an element
abbrev pub select_receives : List (List Act)
select_receives = select_then (Settle (wait_at 0) (settled.Value 2 1) ∷ []) ∷ (Hand 1 0 1 ∷ Await 0 1 (wait_at 1) 0 ∷ []) ∷ []

-- it is cancelled while it waits
abbrev pub select_withdrawn : List (List Act)
select_withdrawn = select_then (Withdraw (wait_at 0) why.Cancelled ∷ Settle (wait_at 0) settled.Cancelled ∷ []) ∷ []

-- the channel of its offer is cancelled
abbrev pub select_voided : List (List Act)
select_voided = (Close 0 0 ∷ Void 0 ∷ Drain 0 0 7 ∷ []) ∷ select_then (Settle (wait_at 0) settled.Cancelled ∷ []) ∷ []

-- its offer is taken, and it is cancelled before it goes on
abbrev pub select_taken : List (List Act)
select_taken = (Take 0 0 7 ∷ []) ∷ select_then (Settle (wait_at 0) settled.Cancelled ∷ []) ∷ []

-- the channel on which it receives is closed, and it is cancelled before it goes on
abbrev pub select_closed : List (List Act)
select_closed = (Close 1 0 ∷ WakeClosed 1 0 ∷ []) ∷ select_then (Settle (wait_at 0) settled.Cancelled ∷ []) ∷ []

-- ---- the examples

-- the books, and what is told of them
abbrev pub examples : List (List (List Act) × List ℕ)
examples =
    (waits, 1 ∷ 0 ∷ 0 ∷ 0 ∷ 0 ∷ 0 ∷ 1 ∷ [])
    ∷ (admitted, 3 ∷ 1 ∷ 0 ∷ 0 ∷ 0 ∷ 0 ∷ 2 ∷ [])
    ∷ (newest, 3 ∷ 1 ∷ 0 ∷ 2 ∷ 0 ∷ 0 ∷ 0 ∷ [])
    ∷ (oldest, 3 ∷ 1 ∷ 0 ∷ 0 ∷ 1 ∷ 0 ∷ 1 ∷ [])
    ∷ (drained, 2 ∷ 0 ∷ 2 ∷ 0 ∷ 0 ∷ 0 ∷ 0 ∷ [])
    ∷ (given_up, 1 ∷ 0 ∷ 1 ∷ 0 ∷ 0 ∷ 0 ∷ 0 ∷ [])
    ∷ (closed, 0 ∷ 0 ∷ 0 ∷ 0 ∷ 0 ∷ 0 ∷ 0 ∷ [])
    ∷ (chosen, 2 ∷ 1 ∷ 0 ∷ 0 ∷ 0 ∷ 1 ∷ 0 ∷ [])
    ∷ (taken_back, 1 ∷ 0 ∷ 1 ∷ 0 ∷ 0 ∷ 0 ∷ 0 ∷ [])
    ∷ (select_receives, 2 ∷ 1 ∷ 0 ∷ 0 ∷ 0 ∷ 1 ∷ 0 ∷ [])
    ∷ (select_withdrawn, 1 ∷ 0 ∷ 0 ∷ 0 ∷ 0 ∷ 1 ∷ 0 ∷ [])
    ∷ (select_voided, 1 ∷ 0 ∷ 1 ∷ 0 ∷ 0 ∷ 0 ∷ 0 ∷ [])
    ∷ (select_taken, 1 ∷ 1 ∷ 0 ∷ 0 ∷ 0 ∷ 0 ∷ 0 ∷ [])
    ∷ (select_closed, 1 ∷ 0 ∷ 0 ∷ 0 ∷ 0 ∷ 1 ∷ 0 ∷ [])
    ∷ []
