-- How many of the notes are of acts, one note after the other.
use Rattle.std.specs.Prelude.{◌≡◌, ℕ, zero, suc, ◌+◌, ◌<◌, ◌≤◌, List, [], ◌∷◌, length, drop, refl}
use Rattle.std.proofs.Common.{ap, arith, get_or, length-append}
use Rattle.std.proofs.lemmas.List.{at_drop_more}
use Rattle.channel_model.specs.declared.acts.ChannelNote.{ChannelNote}
use Rattle.channel_model.specs.declared.acts.ChannelNote.TheVariants as of_channel
use Rattle.job_model.specs.declared.acts.JobNote.{JobNote}
use Rattle.job_model.specs.declared.acts.JobNote.TheVariants as of_job
use Rattle.note_book.specs.declared.book.Item.{Item}
use Rattle.note_book.specs.declared.book.Item.TheVariants as item
use Rattle.note_book.specs.Items.{channel_act, job_act, channel_acts_in, job_acts_in}
use Rattle.poll_states.specs.Frames.{acts_in}

-- a note, and those after it
acts_more : (x : Item) (xs : List Item) → acts_in (x ∷ xs) ≡ acts_in (x ∷ []) + acts_in xs
acts_more (item.Channel note) xs = omega (arith, length-append (channel_act note) (channel_acts_in xs), length-append (channel_act note) [])
acts_more (item.Job note) xs = omega (arith, length-append (job_act note) (job_acts_in xs), length-append (job_act note) [])

one_channel_act : (note : ChannelNote) → length (channel_act note) ≤ 1
one_channel_act (of_channel.Made act) = omega arith
one_channel_act (of_channel.SendClosed c value v) = omega arith
one_channel_act (of_channel.TrySendClosed c value v) = omega arith
one_channel_act (of_channel.ReceiveClosed c v) = omega arith
one_channel_act (of_channel.TryReceiveClosed c v) = omega arith
one_channel_act (of_channel.AlreadyClosed c v) = omega arith
one_channel_act (of_channel.Full c value) = omega arith
one_channel_act (of_channel.Empty c) = omega arith
one_channel_act (of_channel.Spent c) = omega arith
one_channel_act (of_channel.Partner c place) = omega arith
one_channel_act (of_channel.MainResolved w) = omega arith
one_channel_act (of_channel.Late w) = omega arith

one_job_act : (note : JobNote) → length (job_act note) ≤ 1
one_job_act (of_job.Made act) = omega arith
one_job_act (of_job.Saw row) = omega arith
one_job_act (of_job.SawEnd row end) = omega arith
one_job_act (of_job.Fail code) = omega arith
one_job_act of_job.NoRow = omega arith
one_job_act of_job.Used = omega arith
one_job_act of_job.ParentEnded = omega arith

one_act : (x : Item) → acts_in (x ∷ []) ≤ 1
one_act (item.Channel note) = omega (arith, length-append (channel_act note) [], one_channel_act note)
one_act (item.Job note) = omega (arith, length-append (job_act note) [], one_job_act note)

-- no more than there are notes
acts_few : (xs : List Item) → acts_in xs ≤ length xs
acts_few [] = omega arith
acts_few (x ∷ xs) = omega (arith, acts_more x xs, one_act x, acts_few xs)

all_dropped : (xs : List Item) (k : ℕ) → length xs ≤ k → drop k xs ≡ []
all_dropped [] zero h = refl
all_dropped [] (suc k) h = refl
all_dropped (x ∷ xs) zero h = absurd (omega (arith, h))
all_dropped (x ∷ xs) (suc k) h = all_dropped xs k (omega (arith, h))

-- before the first
pub acts_first : (xs : List Item) → 0 + acts_in (drop 0 xs) ≡ acts_in xs
acts_first [] = refl
acts_first (x ∷ xs) = none (acts_in (x ∷ xs))
  where
    none : (n : ℕ) → 0 + n ≡ n
    none n = omega arith

-- n were counted before place k, and m at that place
pub acts_after : (xs : List Item) (k n m : ℕ) (z : Item) → k < length xs → n + acts_in (drop k xs) ≡ acts_in xs
    → m ≡ acts_in (get_or xs k z ∷ []) → (n + m) + acts_in (drop (k + 1) xs) ≡ acts_in xs
acts_after xs k n m z lt so_far here =
    let at : acts_in (drop k xs) ≡ acts_in (get_or xs k z ∷ drop (k + 1) xs) = at_drop_more acts_in xs k z lt in
    let more : acts_in (get_or xs k z ∷ drop (k + 1) xs) ≡ acts_in (get_or xs k z ∷ []) + acts_in (drop (k + 1) xs) =
    acts_more (get_or xs k z) (drop (k + 1) xs) in
    sums n m (acts_in (drop k xs)) (acts_in (get_or xs k z ∷ drop (k + 1) xs)) (acts_in (get_or xs k z ∷ [])) (acts_in (drop (k + 1) xs))
    (acts_in xs) so_far at more here
  where
    sums : (n m a b c d all : ℕ) → n + a ≡ all → a ≡ b → b ≡ c + d → m ≡ c → (n + m) + d ≡ all
    sums n m a b c d all e f g h = omega arith

pub acts_fit : (xs : List Item) (k n m : ℕ) (z : Item) → k < length xs → n + acts_in (drop k xs) ≡ acts_in xs
    → m ≡ acts_in (get_or xs k z ∷ []) → n + m ≤ length xs
acts_fit xs k n m z lt so_far here = fits (n + m) (acts_in (drop (k + 1) xs)) (acts_in xs) (length xs)
    (acts_after xs k n m z lt so_far here) (acts_few xs)
  where
    fits : (a b all len : ℕ) → a + b ≡ all → all ≤ len → a ≤ len
    fits a b all len e f = omega arith

pub acts_all : (xs : List Item) (k n : ℕ) → length xs ≤ k → n + acts_in (drop k xs) ≡ acts_in xs → n ≡ acts_in xs
acts_all xs k n le so_far = none n (acts_in (drop k xs)) (acts_in xs) so_far (ap acts_in (all_dropped xs k le))
  where
    none : (a b all : ℕ) → a + b ≡ all → b ≡ 0 → a ≡ all
    none a b all e f = omega arith
