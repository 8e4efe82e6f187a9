-- How many entries of each history are in an order, and in that of the acts of a book.
use Rattle.std.specs.Prelude.{◌≡◌, suc, ◌+◌, ◌≤◌, List, [], ◌∷◌, ◌++◌, length, map, refl}
use Rattle.std.proofs.Common.{ap, sym, ◌∙◌, append_assoc, arith, length-append}
use mathlib.Core.List.{IsPrefix}
use Rattle.note_book.specs.declared.book.Item.{Item}
use Rattle.note_book.specs.declared.book.Item.TheVariants as item
use Rattle.note_book.specs.Items.{channel_act, job_act, channel_acts_in, job_acts_in}
use Rattle.call_meaning.specs.Telling.{Told, items_in}
use Rattle.co_base.specs.Orders.{Side, OfChannels, OfJobs, channel_entries_in, job_entries_in}

-- ---- of two orders, one after the other

pub channel_entries_in-append : (xs ys : List Side) → channel_entries_in (xs ++ ys) ≡ channel_entries_in xs + channel_entries_in ys
channel_entries_in-append [] ys = omega arith
channel_entries_in-append (OfChannels ∷ xs) ys = let more = channel_entries_in-append xs ys in omega (arith, more)
channel_entries_in-append (OfJobs ∷ xs) ys = channel_entries_in-append xs ys

pub job_entries_in-append : (xs ys : List Side) → job_entries_in (xs ++ ys) ≡ job_entries_in xs + job_entries_in ys
job_entries_in-append [] ys = omega arith
job_entries_in-append (OfChannels ∷ xs) ys = job_entries_in-append xs ys
job_entries_in-append (OfJobs ∷ xs) ys = let more = job_entries_in-append xs ys in omega (arith, more)

-- a point has at most as many as the order
pub fewer_channel_entries : (point order : List Side) → IsPrefix point order → channel_entries_in point ≤ channel_entries_in order
fewer_channel_entries point order (rest, e) =
    let parts = channel_entries_in-append point rest in
    let whole : channel_entries_in (point ++ rest) ≡ channel_entries_in order = ap channel_entries_in e in
    omega (arith, parts, whole)

pub fewer_job_entries : (point order : List Side) → IsPrefix point order → job_entries_in point ≤ job_entries_in order
fewer_job_entries point order (rest, e) =
    let parts = job_entries_in-append point rest in
    let whole : job_entries_in (point ++ rest) ≡ job_entries_in order = ap job_entries_in e in
    omega (arith, parts, whole)

-- ---- the order of the acts of a book

-- the entry of the act that a note has, if it has one
abbrev pub side_of : Item → List Side
side_of (item.Channel note) = map (λ act. OfChannels) (channel_act note)
side_of (item.Job note) = map (λ act. OfJobs) (job_act note)

-- the entries of all acts of a book
abbrev pub sides_of : List Item → List Side
sides_of [] = []
sides_of (i ∷ items) = side_of i ++ sides_of items

-- the order after what was told so
abbrev pub order_after : List Side → List Told → List Side
order_after order told = order ++ sides_of (items_in told)

pub sides_of-append : (xs ys : List Item) → sides_of (xs ++ ys) ≡ sides_of xs ++ sides_of ys
sides_of-append [] ys = refl
sides_of-append (i ∷ xs) ys = ap (λ l. side_of i ++ l) (sides_of-append xs ys) ∙ sym (append_assoc (side_of i) (sides_of xs) (sides_of ys))

channels_of_channels : {A : Type 0} (l : List A) → channel_entries_in (map (λ a. OfChannels) l) ≡ length l
channels_of_channels [] = refl
channels_of_channels (x ∷ l) = ap suc (channels_of_channels l)

channels_of_jobs : {A : Type 0} (l : List A) → channel_entries_in (map (λ a. OfJobs) l) ≡ 0
channels_of_jobs [] = refl
channels_of_jobs (x ∷ l) = channels_of_jobs l

jobs_of_jobs : {A : Type 0} (l : List A) → job_entries_in (map (λ a. OfJobs) l) ≡ length l
jobs_of_jobs [] = refl
jobs_of_jobs (x ∷ l) = ap suc (jobs_of_jobs l)

jobs_of_channels : {A : Type 0} (l : List A) → job_entries_in (map (λ a. OfChannels) l) ≡ 0
jobs_of_channels [] = refl
jobs_of_channels (x ∷ l) = jobs_of_channels l

pub channel_entries_in-sides_of : (items : List Item) → channel_entries_in (sides_of items) ≡ length (channel_acts_in items)
channel_entries_in-sides_of [] = refl
channel_entries_in-sides_of (item.Channel n ∷ items) =
    let parts = channel_entries_in-append (side_of (item.Channel n)) (sides_of items) in
    let one = channels_of_channels (channel_act n) in
    let more = channel_entries_in-sides_of items in
    let whole = length-append (channel_act n) (channel_acts_in items) in
    omega (arith, parts, one, more, whole)
channel_entries_in-sides_of (item.Job n ∷ items) =
    let parts = channel_entries_in-append (side_of (item.Job n)) (sides_of items) in
    let one = channels_of_jobs (job_act n) in
    let more = channel_entries_in-sides_of items in
    omega (arith, parts, one, more)

pub job_entries_in-sides_of : (items : List Item) → job_entries_in (sides_of items) ≡ length (job_acts_in items)
job_entries_in-sides_of [] = refl
job_entries_in-sides_of (item.Channel n ∷ items) =
    let parts = job_entries_in-append (side_of (item.Channel n)) (sides_of items) in
    let one = jobs_of_channels (channel_act n) in
    let more = job_entries_in-sides_of items in
    omega (arith, parts, one, more)
job_entries_in-sides_of (item.Job n ∷ items) =
    let parts = job_entries_in-append (side_of (item.Job n)) (sides_of items) in
    let one = jobs_of_jobs (job_act n) in
    let more = job_entries_in-sides_of items in
    let whole = length-append (job_act n) (job_acts_in items) in
    omega (arith, parts, one, more, whole)
