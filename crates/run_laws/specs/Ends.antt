-- How the floors of all are brought together at the end.
use Rattle.std.specs.Prelude.{◌≡◌, ◌≢◌, ℕ, ◌≤◌, true, false, List, [], Option, Some, map}
use Rattle.std.specs.List.{All}
use Rattle.co_base.specs.Orders.{Side}
use Rattle.channel_model.specs.Floors.{Floor as ChannelFloor}
use Rattle.channel_model.specs.Histories.{acts_of}
use Rattle.channel_model.specs.declared.acts.Entry.{Entry}
use Rattle.job_model.specs.declared.acts.JobEntry.{JobEntry}
use Rattle.job_model.specs.declared.acts.End.{End}
use Rattle.job_model.specs.Histories.{acts_of as job_acts_of}
use Rattle.job_model.specs.Floors.{Floor, is_claimed_by}
use Rattle.note_book.specs.declared.book.Item.{Item}
use Rattle.call_meaning.specs.Calls.{seen_by}
use Rattle.call_meaning.specs.Orders.{IsOrderOf}
use Rattle.script_grammar.specs.Programs.{Program}
use Rattle.script_grammar.specs.Tags.{coroutine_count}
use Rattle.script_meaning.specs.Books.{BooksOf}
use Rattle.script_meaning.specs.Idle.{IsIdle}
use Rattle.run_laws.specs.Orders.{RunsAlong, InOneOrder}
use Rattle.run_laws.specs.Sights.{Sight, Keeps, IsWithin, SameOf}

-- what the coroutine of s has seen and done was brought to these floors
pub record IsBroughtTo (p : Program) (c : ChannelFloor) (j : Floor) (s : Sight) : Type 0 where
  pub keeps : Keeps p s
  pub shape : c.shape ≡ s.channels.shape
  pub job_shape : j.shape ≡ s.jobs.shape
  pub caller : c.callers s.frame.tag ≡ true
  pub job_caller : j.callers s.frame.tag ≡ true
  pub seen : IsWithin s (record { frame = s.frame; channels = c; jobs = j })
  pub same : SameOf s.frame.tag s (record { frame = s.frame; channels = c; jobs = j })
  pub kept : (r t : ℕ) → s.jobs.claims r ≡ Some t → j.claims r ≡ Some t
  pub claims : (r : ℕ) → is_claimed_by s.frame.tag (j.claims r) ≡ is_claimed_by s.frame.tag (s.jobs.claims r)

-- no other tag made an entry, or claimed a row
pub record NoOthers (p : Program) (c : ChannelFloor) (j : Floor) : Type 0 where
  pub calls : (k : ℕ) → coroutine_count p ≤ k → acts_of k c.seen ≡ []
  pub jobs : (k : ℕ) → coroutine_count p ≤ k → job_acts_of k j.seen ≡ []
  pub claims : (r k : ℕ) → coroutine_count p ≤ k → r ≢ 0 → is_claimed_by k (j.claims r) ≡ false

-- the books of those, in order
abbrev pub books_in : List Sight → List (List Item)
books_in sights = map (λ s. s.frame.book) sights

-- these are the books of a run of the script with these histories, which came to rest; the root has ended so, if it has
abbrev pub IsRunAtRest : Program → List (List Item) → List Entry → List JobEntry → Option End → Type 0
IsRunAtRest p books channels jobs root = (of : BooksOf p books channels jobs) × IsIdle p books channels jobs of root

-- the same, and both histories have one order, along which each coroutine told its story
abbrev pub IsRunInOneOrder : Program → List (List Item) → List Entry → List JobEntry → Option End → Type 0
IsRunInOneOrder p books channels jobs root =
    (rest : IsRunAtRest p books channels jobs root) × InOneOrder p books channels jobs rest.0

-- both whole histories, as these floors have seen them, have one order, along which the coroutine of each of these told its story
pub record HaveOneOrder (p : Program) (c : ChannelFloor) (j : Floor) (sights : List Sight) : Type 0 where
  pub order : List Side
  pub whole : IsOrderOf (seen_by c j) order
  pub runs : All (λ s. RunsAlong p s.frame.tag (seen_by c j) order s.frame.book s.frame.config) sights

-- a run at rest; and if this holds, both histories have one order
abbrev pub IsRunInOneOrderIf : Type 0 → Program → List (List Item) → List Entry → List JobEntry → Option End → Type 0
IsRunInOneOrderIf joint p books channels jobs root =
    (rest : IsRunAtRest p books channels jobs root) × (joint → InOneOrder p books channels jobs rest.0)

-- all floors of this type know one order of both histories
abbrev pub AreJoint : {J : Type 0} → (J → Floor) → Type 0
AreJoint {J} jobs = (x : J) → (jobs x).joint ≡ true

-- floors that are kept aside: their tag, the first past those of the script, did nothing
pub record IsSpare (p : Program) (c : ChannelFloor) (j : Floor) : Type 0 where
  pub caller : c.callers (coroutine_count p) ≡ true
  pub job_caller : j.callers (coroutine_count p) ≡ true
  pub calls : acts_of (coroutine_count p) c.seen ≡ []
  pub jobs : job_acts_of (coroutine_count p) j.seen ≡ []
  pub claims : (r : ℕ) → r ≢ 0 → is_claimed_by (coroutine_count p) (j.claims r) ≡ false
