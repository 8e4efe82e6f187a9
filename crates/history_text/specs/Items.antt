-- Which words are an item: an act on a channel, or the answer of a call that made none, as a report writes them.
use Rattle.std.specs.Prelude.{ℕ, List, [], ◌∷◌, Option, Some, None, if◌then◌else◌, option_map}
use Rattle.std.specs.Str.{bytes_eq}
use lib.Chars.{codes}
use Rattle.channel_model.specs.declared.acts.Act.TheVariants.{Hand, Put, Offer, Await, Take, Admit, Drop, Spurn, Close, Void, Drain, WakeClosed, Withdraw, Settle}
use Rattle.channel_model.specs.declared.acts.ChannelNote.{ChannelNote}
use Rattle.channel_model.specs.declared.acts.ChannelNote.TheVariants.{Made, SendClosed, TrySendClosed, ReceiveClosed, TryReceiveClosed, AlreadyClosed, Full, Empty, Spent, Partner, MainResolved, Late}
use Rattle.channel_model.specs.declared.acts.Settled.{Settled}
use Rattle.channel_model.specs.declared.acts.Settled.TheVariants as settled
use Rattle.channel_model.specs.declared.acts.Why.TheVariants as why
use Rattle.co_base.specs.declared.names.WaitId.{WaitId}
use Rattle.report_reader.specs.Words.{value_at}
use Rattle.script_grammar.specs.Places.{place_from}
use Rattle.history_text.specs.Words.{clause_at, wait_at}

-- ---- items of a channel alone, of a channel and a number, and of a channel and two numbers

unfoldable pub of_channel : List ℕ → ℕ → Option ChannelNote
of_channel verb c =
    if bytes_eq verb (codes "void") then Some (Made (Void c))
    else if bytes_eq verb (codes "empty") then Some (Empty c)
    else if bytes_eq verb (codes "spent") then Some (Spent c)
    else None

unfoldable pub of_number : List ℕ → ℕ → ℕ → Option ChannelNote
of_number verb c n =
    if bytes_eq verb (codes "admit") then Some (Made (Admit c n))
    else if bytes_eq verb (codes "close") then Some (Made (Close c n))
    else if bytes_eq verb (codes "wakeclosed") then Some (Made (WakeClosed c n))
    else if bytes_eq verb (codes "receiveclosed") then Some (ReceiveClosed c n)
    else if bytes_eq verb (codes "tryreceiveclosed") then Some (TryReceiveClosed c n)
    else if bytes_eq verb (codes "alreadyclosed") then Some (AlreadyClosed c n)
    else if bytes_eq verb (codes "full") then Some (Full c n)
    else if bytes_eq verb (codes "partner") then Some (Partner c n)
    else None

unfoldable pub of_numbers : List ℕ → ℕ → ℕ → ℕ → Option ChannelNote
of_numbers verb c n m =
    if bytes_eq verb (codes "hand") then Some (Made (Hand c n m))
    else if bytes_eq verb (codes "put") then Some (Made (Put c n m))
    else if bytes_eq verb (codes "take") then Some (Made (Take c n m))
    else if bytes_eq verb (codes "drop") then Some (Made (Drop c n m))
    else if bytes_eq verb (codes "spurn") then Some (Made (Spurn c n m))
    else if bytes_eq verb (codes "drain") then Some (Made (Drain c n m))
    else if bytes_eq verb (codes "sendclosed") then Some (SendClosed c n m)
    else if bytes_eq verb (codes "trysendclosed") then Some (TrySendClosed c n m)
    else None

abbrev pub with_channel : List ℕ → Option ℕ → Option ChannelNote
with_channel verb None = None
with_channel verb (Some c) = of_channel verb c

abbrev pub with_number : List ℕ → Option ℕ → Option ℕ → Option ChannelNote
with_number verb None n = None
with_number verb (Some c) None = None
with_number verb (Some c) (Some n) = of_number verb c n

abbrev pub with_numbers : List ℕ → Option ℕ → Option ℕ → Option ℕ → Option ChannelNote
with_numbers verb None n m = None
with_numbers verb (Some c) None m = None
with_numbers verb (Some c) (Some n) None = None
with_numbers verb (Some c) (Some n) (Some m) = of_numbers verb c n m

-- an item of which these words stand behind its verb
abbrev pub plain_by : List (List ℕ) → List ℕ → List (List ℕ) → Option ChannelNote
plain_by names verb [] = None
plain_by names verb (c ∷ []) = with_channel verb (place_from 0 c names)
plain_by names verb (c ∷ (n ∷ [])) = with_number verb (place_from 0 c names) (value_at n)
plain_by names verb (c ∷ (n ∷ (m ∷ []))) = with_numbers verb (place_from 0 c names) (value_at n) (value_at m)
plain_by names verb (c ∷ (n ∷ (m ∷ (other ∷ more)))) = None

-- ---- items of a wait

abbrev pub offer_with : Option ℕ → Option ℕ → Option ℕ → Option WaitId → Option ℕ → Option ChannelNote
offer_with None p v w k = None
offer_with (Some c) None v w k = None
offer_with (Some c) (Some p) None w k = None
offer_with (Some c) (Some p) (Some v) None k = None
offer_with (Some c) (Some p) (Some v) (Some w) None = None
offer_with (Some c) (Some p) (Some v) (Some w) (Some k) = Some (Made (Offer c p v w k))

-- an offer: a channel, a place, an element, a wait and a clause
abbrev pub offer_by : List (List ℕ) → List (List ℕ) → Option ChannelNote
offer_by names (c ∷ (p ∷ (v ∷ (w ∷ (k ∷ []))))) =
    offer_with (place_from 0 c names) (value_at p) (value_at v) (wait_at names w) (clause_at k)
offer_by names other = None

abbrev pub await_with : Option ℕ → Option ℕ → Option WaitId → Option ℕ → Option ChannelNote
await_with None p w k = None
await_with (Some c) None w k = None
await_with (Some c) (Some p) None k = None
await_with (Some c) (Some p) (Some w) None = None
await_with (Some c) (Some p) (Some w) (Some k) = Some (Made (Await c p w k))

-- a receiver: a channel, a place, a wait and a clause
abbrev pub await_by : List (List ℕ) → List (List ℕ) → Option ChannelNote
await_by names (c ∷ (p ∷ (w ∷ (k ∷ [])))) = await_with (place_from 0 c names) (value_at p) (wait_at names w) (clause_at k)
await_by names other = None

abbrev pub withdraw_with : Option WaitId → List ℕ → Option ChannelNote
withdraw_with None reason = None
withdraw_with (Some w) reason =
    if bytes_eq reason (codes "cancelled") then Some (Made (Withdraw w why.Cancelled))
    else if bytes_eq reason (codes "revoked") then Some (Made (Withdraw w why.Revoked))
    else None

-- a wait, and why it was withdrawn
abbrev pub withdraw_by : List (List ℕ) → List (List ℕ) → Option ChannelNote
withdraw_by names (w ∷ (reason ∷ [])) = withdraw_with (wait_at names w) reason
withdraw_by names other = None

-- so a wait ended, with a clause or an element, or with both
unfoldable pub ended_alone : List ℕ → Option Settled
ended_alone how = if bytes_eq how (codes "cancelled") then Some settled.Cancelled else None

unfoldable pub ended_with : List ℕ → Option ℕ → Option ℕ → Option Settled
ended_with how k v =
    if bytes_eq how (codes "sent") then option_map (λ n. settled.Sent n) k
    else if bytes_eq how (codes "undelivered") then option_map (λ n. settled.Undelivered n) v
    else None

unfoldable pub ended_with_both : List ℕ → ℕ → ℕ → Option Settled
ended_with_both how k v =
    if bytes_eq how (codes "value") then Some (settled.Value k v)
    else if bytes_eq how (codes "closed") then Some (settled.Closed k v)
    else None

abbrev pub both_of : List ℕ → Option ℕ → Option ℕ → Option Settled
both_of how None v = None
both_of how (Some k) None = None
both_of how (Some k) (Some v) = ended_with_both how k v

-- how a wait ended, the clause before the element
abbrev pub ended_by : List (List ℕ) → Option Settled
ended_by [] = None
ended_by (how ∷ []) = ended_alone how
ended_by (how ∷ (n ∷ [])) = ended_with how (clause_at n) (value_at n)
ended_by (how ∷ (k ∷ (v ∷ []))) = both_of how (clause_at k) (value_at v)
ended_by (how ∷ (k ∷ (v ∷ (other ∷ more)))) = None

abbrev pub settle_with : Option WaitId → Option Settled → Option ChannelNote
settle_with None outcome = None
settle_with (Some w) None = None
settle_with (Some w) (Some outcome) = Some (Made (Settle w outcome))

-- a wait, and how it ended
abbrev pub settle_by : List (List ℕ) → List (List ℕ) → Option ChannelNote
settle_by names [] = None
settle_by names (w ∷ how) = settle_with (wait_at names w) (ended_by how)

-- a select's wait, of which it is told that it was resolved
abbrev pub resolved_by : List (List ℕ) → List (List ℕ) → Option ChannelNote
resolved_by names (w ∷ []) = option_map (λ x. MainResolved x) (wait_at names w)
resolved_by names other = None

-- a wait that was withdrawn too late
abbrev pub late_by : List (List ℕ) → List (List ℕ) → Option ChannelNote
late_by names (w ∷ []) = option_map (λ x. Late x) (wait_at names w)
late_by names other = None

-- ---- all items

-- the item that a verb and the words behind it are
unfoldable pub item_by : List (List ℕ) → List ℕ → List (List ℕ) → Option ChannelNote
item_by names verb words =
    if bytes_eq verb (codes "offer") then offer_by names words
    else if bytes_eq verb (codes "await") then await_by names words
    else if bytes_eq verb (codes "withdraw") then withdraw_by names words
    else if bytes_eq verb (codes "settle") then settle_by names words
    else if bytes_eq verb (codes "resolved") then resolved_by names words
    else if bytes_eq verb (codes "late") then late_by names words
    else plain_by names verb words
