-- The words that a history gives.
use Rattle.std.specs.Prelude.{◌≡◌, ℕ, zero, suc, ◌+◌, ◌*◌, ◌/◌, ◌%◌, ◌<◌, ◌≤◌, ◌==◌, nat_le, Bool, true, false, not, List, [], ◌∷◌, length, if◌then◌else◌, Option, Some, None}
use Rattle.co_base.specs.declared.names.WaitId.{WaitId}
use Rattle.channel_model.specs.declared.acts.Entry.{Entry}
use Rattle.channel_model.specs.declared.acts.Settled.{Settled}
use Rattle.channel_model.specs.declared.acts.Settled.TheVariants as settled
use Rattle.channel_model.specs.declared.acts.Why.TheVariants.{Cancelled, Revoked}
use Rattle.channel_model.specs.declared.standing.Resolution.{Resolution}
use Rattle.channel_model.specs.declared.standing.Resolution.TheVariants as resolved
use Rattle.channel_model.specs.Channels.{Shape, Wait, places_at, kind_at, spurns, same_wait}
use Rattle.channel_model.specs.Histories.{replay}
use Rattle.channel_model.specs.Laws.{NoneBelow, IsResolvedAs}
use Rattle.word_rules.specs.declared.cell_word.CellState.{CellState}
use Rattle.word_rules.specs.declared.cell_word.CellState.TheVariants as cell
use Rattle.word_rules.specs.declared.cell_word.CellWord.{CellWord}
use Rattle.word_rules.specs.declared.wait_word.ResolvedBy.{ResolvedBy}
use Rattle.word_rules.specs.declared.wait_word.ResolvedBy.TheVariants as by
use Rattle.word_rules.specs.declared.wait_word.WaitWord.{WaitWord}
use Rattle.word_rules.specs.Cells.{Cell, free, receiver, offer, buffered, emptied, closed_by, voided_by, spot, cell_of}
use Rattle.word_rules.specs.Codes.{packed_cell, packed_wait}

-- ---- numbers: each channel has one cell more than its places

-- how many cells the channels before this one have
abbrev pub base : Shape → ℕ → ℕ
base [] c = 0
base (x ∷ xs) zero = 0
base (x ∷ xs) (suc c) = (x.1 + 1) + base xs c

abbrev pub cells_in : Shape → ℕ
cells_in [] = 0
cells_in (x ∷ xs) = (x.1 + 1) + cells_in xs

-- the number of a cell
abbrev pub number : Shape → ℕ → ℕ → ℕ
number shape c p = base shape c + p

-- the number of its word, and of the word of the wait that began there
abbrev pub cell_number : Shape → ℕ → ℕ → ℕ
cell_number shape c p = 2 * number shape c p

abbrev pub wait_number : Shape → ℕ → ℕ → ℕ
wait_number shape c p = 2 * number shape c p + 1

-- of the two counters of a channel, of its run of kept places, and of the places of which is decided whether their element was kept; a
-- channel has 16 words for them, of which the others say nothing
abbrev pub send_number : Shape → ℕ → ℕ
send_number shape c = 2 * cells_in shape + 16 * c

abbrev pub run_number : Shape → ℕ → ℕ
run_number shape c = 2 * cells_in shape + 16 * c + 1

abbrev pub decided_number : Shape → ℕ → ℕ
decided_number shape c = 2 * cells_in shape + 16 * c + 2

abbrev pub receive_number : Shape → ℕ → ℕ
receive_number shape c = 2 * cells_in shape + 16 * c + 8

-- of the mark of a place
abbrev pub mark_number : Shape → ℕ → ℕ → ℕ
mark_number shape c p = 2 * cells_in shape + 16 * length shape + number shape c p

-- one word more says nothing, so that even a hub without channels has a word 0 to load where passes meet
abbrev pub word_count : Shape → ℕ
word_count shape = 3 * cells_in shape + 16 * length shape + 1

-- a place of the channel, or its end
abbrev pub IsCell : Shape → ℕ → ℕ → Type 0
IsCell shape c p = (c < length shape) × (p ≤ places_at shape c)

-- ---- cells

abbrev pub plain_word : CellState → ℕ → CellWord
plain_word state v = record { state = state; clause = 0; own_wait = false; holder = 0; value = v }

-- a cell that holds its own wait has its coroutine, another the number of the cell that holds the wait
abbrev pub party_word : Shape → ℕ → ℕ → CellState → ℕ → ℕ → WaitId → ℕ → CellWord
party_word shape c p state v who w k =
    record {
      state = state;
      clause = k;
      own_wait = same_wait w (spot c p);
      holder = if same_wait w (spot c p) then who else number shape w.channel w.place;
      value = v;
    }

abbrev pub word_of_cell : Shape → ℕ → ℕ → Cell → CellWord
word_of_cell shape c p free = plain_word cell.Free 0
word_of_cell shape c p (receiver who w k) = party_word shape c p cell.Receiver 0 who w k
word_of_cell shape c p (offer v who w k) = party_word shape c p cell.Offer v who w k
word_of_cell shape c p (buffered v) = plain_word cell.Buffered v
word_of_cell shape c p (emptied v) = plain_word cell.Emptied v
word_of_cell shape c p (closed_by v) = plain_word cell.Closed v
word_of_cell shape c p (voided_by v) = plain_word cell.Voided v

abbrev pub cell_code : Shape → ℕ → ℕ → Cell → ℕ
cell_code shape c p x = packed_cell (word_of_cell shape c p x)

-- who waits is a coroutine, at a clause of a wait that began at a cell
pub record PartyFits (shape : Shape) (who : ℕ) (w : WaitId) (k : ℕ) : Type 0 where
  pub tag : who < 65536
  pub clause : k < 8
  pub channel : w.channel < length shape
  pub place : w.place ≤ places_at shape w.channel
  pub few : number shape w.channel w.place < 8388608

abbrev pub CellFits : Shape → Cell → Type 0
CellFits shape free = Unit {0}
CellFits shape (receiver who w k) = PartyFits shape who w k
CellFits shape (offer v who w k) = PartyFits shape who w k × (v < 4294967296)
CellFits shape (buffered v) = v < 4294967296
CellFits shape (emptied v) = v < 4294967296
CellFits shape (closed_by v) = v < 4294967296
CellFits shape (voided_by v) = v < 4294967296

-- ---- waits

abbrev pub resolved_word : ResolvedBy → ℕ → ℕ → WaitWord
resolved_word who k v = record { by = who; clause = k; settled = false; cancelled = false; value = v }

abbrev pub how_word : Resolution → WaitWord
how_word (resolved.Handed k v) = resolved_word by.Hand k v
how_word (resolved.Taken k) = resolved_word by.Take k 0
how_word (resolved.Admitted k) = resolved_word by.Admit k 0
how_word (resolved.Closed k v) = resolved_word by.Close k v
how_word (resolved.Withdrawn Cancelled) = resolved_word by.Cancel 0 0
how_word (resolved.Withdrawn Revoked) = resolved_word by.Revoke 0 0
how_word resolved.Voided = resolved_word by.Void 0 0

-- the coroutine was cancelled
abbrev pub is_cancelled_end : Settled → Bool
is_cancelled_end (settled.Value k v) = false
is_cancelled_end (settled.Sent k) = false
is_cancelled_end (settled.Closed k v) = false
is_cancelled_end settled.Cancelled = true
is_cancelled_end (settled.Undelivered v) = true

abbrev pub settled_word : Settled → WaitWord → WaitWord
settled_word outcome w = record { by = w.by; clause = w.clause; settled = true; cancelled = is_cancelled_end outcome; value = w.value }

abbrev pub parts_word : Option Resolution → Option Settled → WaitWord
parts_word None outcome = resolved_word by.Nobody 0 0
parts_word (Some how) None = how_word how
parts_word (Some how) (Some outcome) = settled_word outcome (how_word how)

-- no wait began there, or this one
abbrev pub word_of_wait : Option Wait → WaitWord
word_of_wait None = resolved_word by.Nobody 0 0
word_of_wait (Some x) = parts_word x.resolved x.settled

abbrev pub wait_code : Option Wait → ℕ
wait_code y = packed_wait (word_of_wait y)

abbrev pub how_code : Resolution → ℕ
how_code how = packed_wait (how_word how)

abbrev pub HowFits : Resolution → Type 0
HowFits (resolved.Handed k v) = (k < 8) × (v < 4294967296)
HowFits (resolved.Taken k) = k < 8
HowFits (resolved.Admitted k) = k < 8
HowFits (resolved.Closed k v) = (k < 8) × (v < 4294967296)
HowFits (resolved.Withdrawn why) = Unit {0}
HowFits resolved.Voided = Unit {0}

abbrev pub PartsFit : Option Resolution → Type 0
PartsFit None = Unit {0}
PartsFit (Some how) = HowFits how

abbrev pub WaitFits : Option Wait → Type 0
WaitFits None = Unit {0}
WaitFits (Some x) = PartsFit x.resolved

-- the number n is the word of this wait
abbrev pub HasWaitCode : ℕ → Option Wait → Type 0
HasWaitCode n y = (n ≡ wait_code y) × WaitFits y

-- ---- kept places

-- an element was put in this cell, or its offer was admitted; it may have been removed since
abbrev pub WasKept : (WaitId → Option Wait) → Cell → Type 0
WasKept waits free = ⊥
WasKept waits (receiver who w k) = ⊥
WasKept waits (offer v who w k) = IsResolvedAs (resolved.Admitted k) (waits w)
WasKept waits (buffered v) = Unit {0}
WasKept waits (emptied v) = Unit {0}
WasKept waits (closed_by v) = ⊥
WasKept waits (voided_by v) = ⊥

-- so it was at each place from one on, and before another
abbrev pub WereKept : List Entry → ℕ → ℕ → ℕ → Type 0
WereKept log c from to = (p : ℕ) → from ≤ p → p < to → WasKept (replay log).waits (cell_of log c p)

-- the number n says from which place on, and before which
abbrev pub IsKeptRun : List Entry → ℕ → ℕ → Type 0
IsKeptRun log c n = WereKept log c (n % 4294967296) (n / 4294967296)

-- ---- places of which is decided whether their element was kept

-- whether an offer was kept, by how its wait was resolved
abbrev pub kept_after : ℕ → Resolution → Bool
kept_after k (resolved.Handed j v) = false
kept_after k (resolved.Taken j) = false
kept_after k (resolved.Admitted j) = j == k
kept_after k (resolved.Closed j v) = false
kept_after k (resolved.Withdrawn why) = false
kept_after k resolved.Voided = false

abbrev pub kept_by : ℕ → Option Resolution → Option Bool
kept_by k None = None
kept_by k (Some how) = Some (kept_after k how)

abbrev pub kept_of : ℕ → Option Wait → Option Bool
kept_of k None = None
kept_of k (Some x) = kept_by k x.resolved

-- whether an element that was put was kept, as long as it was not removed: one that was too many may be spurned
abbrev pub kept_put : Bool → Option Bool
kept_put true = None
kept_put false = Some true

-- whether the element of this cell was kept, by whether it was one too many; nothing while its offer waits, or where there is none
abbrev pub kept_in : Bool → (WaitId → Option Wait) → Cell → Option Bool
kept_in over waits free = None
kept_in over waits (receiver who w k) = None
kept_in over waits (offer v who w k) = kept_of k (waits w)
kept_in over waits (buffered v) = kept_put over
kept_in over waits (emptied v) = Some (not over)
kept_in over waits (closed_by v) = None
kept_in over waits (voided_by v) = None

-- the element at this place was one too many when it was put
abbrev pub was_over : Shape → List Entry → ℕ → ℕ → Bool
was_over shape log c p = spurns (kind_at shape c) ((replay log).stood c p)

abbrev pub fate : Shape → List Entry → ℕ → ℕ → Option Bool
fate shape log c p = kept_in (was_over shape log c p) (replay log).waits (cell_of log c p)

-- what a place adds to a count
abbrev pub one_if : Bool → ℕ
one_if true = 1
one_if false = 0

-- a count goes on with one place, if both are decided
abbrev pub add_kept : Option Bool → Option ℕ → Option ℕ
add_kept None y = None
add_kept (Some b) None = None
add_kept (Some b) (Some n) = Some (n + one_if b)

-- at how many of so many places from one on an element was kept, if it is decided of each
abbrev pub kept_among : (ℕ → Option Bool) → ℕ → ℕ → Option ℕ
kept_among f from zero = Some 0
kept_among f from (suc n) = add_kept (f (from + n)) (kept_among f from n)

-- it is decided of all places from one on, and before another, and at so many an element was kept
abbrev pub WereDecided : Shape → List Entry → ℕ → ℕ → ℕ → ℕ → Type 0
WereDecided shape log c from to count = (d : ℕ) → to ≡ from + d → kept_among (fate shape log c) from d ≡ Some count

-- the number n says of which places, and how many
abbrev pub AreDecided : Shape → List Entry → ℕ → ℕ → Type 0
AreDecided shape log c n = WereDecided shape log c ((n / 2097152) % 2097152) (n / 4398046511104) (n % 2097152)

-- the number n of a mark says from 2^62 on whether the element was kept
abbrev pub mark_told : ℕ → Option Bool
mark_told n = if nat_le 4611686018427387904 n then Some (n == 4611686018427387904) else None

-- and says the truth; below that it says up to which place behind its own it is decided, and how many were kept there: nothing at first
pub record IsMark (shape : Shape) (log : List Entry) (c p n : ℕ) : Type 0 where
  pub told : (b : Bool) → mark_told n ≡ Some b → fate shape log c p ≡ Some b
  pub behind : n < 4611686018427387904 → WereDecided shape log c (p + 1) (n / 2097152) (n % 2097152)

-- ---- all words

-- the word i is n after this history; a counter is at most the number of places that were given out, each place of a run
-- was kept once, at as many places as a word says an element was kept, and so it was where a mark says so
pub record Fits (shape : Shape) (log : List Entry) (i n : ℕ) : Type 0 where
  pub cell : (c p : ℕ) → c < length shape → p ≤ places_at shape c → i ≡ cell_number shape c p
      → (n ≡ cell_code shape c p (cell_of log c p)) × CellFits shape (cell_of log c p)
  pub wait : (c p : ℕ) → c < length shape → p ≤ places_at shape c → i ≡ wait_number shape c p
      → HasWaitCode n ((replay log).waits (spot c p))
  pub sends : (c : ℕ) → c < length shape → i ≡ send_number shape c → NoneBelow n 0 ((replay log).channels c)
  pub receives : (c : ℕ) → c < length shape → i ≡ receive_number shape c → NoneBelow 0 n ((replay log).channels c)
  pub run : (c : ℕ) → c < length shape → i ≡ run_number shape c → IsKeptRun log c n
  pub decided : (c : ℕ) → c < length shape → i ≡ decided_number shape c → AreDecided shape log c n
  pub mark : (c p : ℕ) → c < length shape → p ≤ places_at shape c → i ≡ mark_number shape c p → IsMark shape log c p n

-- the tag under which an entry was made
abbrev pub maker : Entry → ℕ
maker e = e.who
