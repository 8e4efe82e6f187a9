-- Each call of one who uses permits adds acts of that one alone.
use Rattle.std.specs.Prelude.{◌≡◌, ℕ, List, [], ◌++◌, Result, Ok, Err, refl}
use Rattle.co_base.proofs.Orders.{order_same}
use Rattle.std.proofs.Common.{sym, ap, subst}
use Rattle.co_base.specs.declared.names.WaitId.{WaitId}
use Rattle.co_base.specs.declared.names.Memory.{Memory}
use Rattle.channel_model.specs.Floors.{Floor, Looked}
use Rattle.channel_model.proofs.Spans.{added_none, added_looked, added_then}
use Rattle.note_book.specs.declared.book.Item.{Item}
use Rattle.call_meaning.specs.Telling.{Told}
use Rattle.call_meaning.specs.Seen.{SeenOnChannels}
use Rattle.call_meaning.specs.Calls.{ToldOnChannels}
use Rattle.channel_calls.specs.Calls.{IsUntouched}
use Rattle.permits.specs.declared.permits.Acquired.{Acquired}
use Rattle.permits.specs.declared.permits.Acquired.TheVariants as acquired
use Rattle.permits.specs.declared.permits.Released.{Released}
use Rattle.permits.specs.declared.permits.Released.TheVariants as released
use Rattle.permits.specs.declared.permits.GivenBack.{GivenBack}
use Rattle.permits.specs.declared.permits.GivenBack.TheVariants as back
use Rattle.permits.specs.Answers.{AcquiredAnswer, TakenUpAnswer, ReleasedAnswer, GivenBackAnswer, StopsEarly}
use Rattle.floor_tests.specs.KnownPermits.{Adds, HoldsWait, IsOwnWait, wait_of}

-- what a caller sees, in parts
abbrev parts : ℕ → Floor → List Item → SeenOnChannels
parts who floor items = record { who = who; floor = floor; items = items }

told_adds : (who me : ℕ) (a d : Floor) (i k : List Item) (told : List Told) → ToldOnChannels (parts who a i) (parts me d k) told
    → Adds who a d
told_adds who me a d i k told h = record { acts = _; added = h.added }

pub nothing_adds : (who : ℕ) (a : Floor) → Adds who a a
nothing_adds who a = record {
  acts = [];
  added = added_none who a a
      (record { shape = refl; alone = refl; callers = refl; order = order_same _ }) refl;
}

pub untouched_adds : (who me : ℕ) (a d : Floor) (i k : List Item) → IsUntouched (parts who a i) (parts me d k) → Adds who a d
untouched_adds who me a d i k h = subst (Adds who a) (sym h.floor) (nothing_adds who a)

pub looked_adds : (who : ℕ) (a d : Floor) → Looked who a d → Adds who a d
looked_adds who a d h = record { acts = []; added = added_looked who a d h }

pub adds_then : (who : ℕ) (a b d : Floor) → Adds who a b → Adds who b d → Adds who a d
adds_then who a b d h k = record { acts = h.acts ++ k.acts; added = added_then who h.acts k.acts a b d h.added k.added }

-- an acquire adds acts of the caller alone, whatever it came to
pub acquire_adds : (who me c : ℕ) (a d : Floor) (i k : List Item) (r : Result Acquired Memory)
    → AcquiredAnswer c (parts who a i) (parts me d k) r → Adds who a d
acquire_adds who me c a d i k (Ok acquired.Held) h = told_adds who me a d i k _ h.takes.told
acquire_adds who me c a d i k (Ok (acquired.Waits w)) h = told_adds who me a d i k _ h.told
acquire_adds who me c a d i k (Ok acquired.Cancelled) h = absurd h
acquire_adds who me c a d i k (Ok (acquired.Closed x)) h = told_adds who me a d i k _ h
acquire_adds who me c a d i k (Ok acquired.Spent) h = told_adds who me a d i k _ h
acquire_adds who me c a d i k (Err m) h = untouched_adds who me a d i k h

-- the wait that it began, if it did, is the caller's and did not end
pub acquired_wait : (who me c : ℕ) (a d : Floor) (i k : List Item) (r : Acquired) → me ≡ who
    → AcquiredAnswer c (parts who a i) (parts me d k) (Ok r) → IsOwnWait c who (wait_of r) d
acquired_wait who me c a d i k acquired.Held e h = tt
acquired_wait who me c a d i k (acquired.Waits w) e h =
    (ap (λ (u : WaitId). u.channel) h.is, subst (λ (t : ℕ). HoldsWait t w d) e h.waits.holds)
acquired_wait who me c a d i k acquired.Cancelled e h = tt
acquired_wait who me c a d i k (acquired.Closed x) e h = tt
acquired_wait who me c a d i k acquired.Spent e h = tt

pub take_up_adds : (who me : ℕ) (w : WaitId) (a d : Floor) (i k : List Item) (r : Result Acquired Memory)
    → TakenUpAnswer w (parts who a i) (parts me d k) r → Adds who a d
take_up_adds who me w a d i k (Ok acquired.Held) h = told_adds who me a d i k _ h.ended.0
take_up_adds who me w a d i k (Ok (acquired.Waits u)) h = absurd h
take_up_adds who me w a d i k (Ok acquired.Cancelled) h = told_adds who me a d i k _ h.ended.0
take_up_adds who me w a d i k (Ok (acquired.Closed x)) h = told_adds who me a d i k _ h.ended.0
take_up_adds who me w a d i k (Ok acquired.Spent) h = absurd h
take_up_adds who me w a d i k (Err m) h = untouched_adds who me a d i k h

pub release_adds : (who me c : ℕ) (a d : Floor) (i k : List Item) (r : Result Released Memory)
    → ReleasedAnswer c (parts who a i) (parts me d k) r → Adds who a d
release_adds who me c a d i k (Ok released.Done) h = told_adds who me a d i k _ h.told
release_adds who me c a d i k (Ok released.NotHeld) h = untouched_adds who me a d i k h
release_adds who me c a d i k (Ok (released.Closed x)) h = told_adds who me a d i k _ h
release_adds who me c a d i k (Ok released.Spent) h = told_adds who me a d i k _ h
release_adds who me c a d i k (Err m) h = untouched_adds who me a d i k h

pub cancel_adds : (who me c : ℕ) (w : WaitId) (a d : Floor) (i k : List Item) (r : Result GivenBack Memory)
    → GivenBackAnswer c w (parts who a i) (parts me d k) r → Adds who a d
cancel_adds who me c w a d i k (Ok back.Cancelled) h = told_adds who me a d i k _ h.left
cancel_adds who me c w a d i k (Ok back.Back) h = told_adds who me a d i k _ h.left
cancel_adds who me c w a d i k (Ok (back.Closed x)) h = told_adds who me a d i k _ h.left
cancel_adds who me c w a d i k (Ok back.Spent) h = told_adds who me a d i k _ h.left
cancel_adds who me c w a d i k (Err m) (StopsEarly.untouched h) = untouched_adds who me a d i k h
cancel_adds who me c w a d i k (Err m) (StopsEarly.ended h) = told_adds who me a d i k _ h.left
