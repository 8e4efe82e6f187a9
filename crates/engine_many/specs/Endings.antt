-- What is left when the floors of all were ended into those of the root.
use Rattle.std.specs.Prelude.{◌≡◌, ℕ, ◌<◌, ◌≤◌, Bool, true, false, List, Option, map}
use Rattle.std.specs.List.{All}
use Rattle.channel_model.specs.Floors.{Floor as ChannelFloor}
use Rattle.job_model.specs.Floors.{Floor}
use Rattle.job_model.specs.declared.acts.End.{End}
use Rattle.note_book.specs.declared.book.Item.{Item}
use Rattle.script_grammar.specs.Programs.{Program}
use Rattle.script_grammar.specs.Tags.{coroutine_count}
use Rattle.script_meaning.specs.Shapes.{floor_shape, job_shape}
use Rattle.poll_states.specs.Frames.{Frame}
use Rattle.run_laws.specs.Sights.{Sight}
use Rattle.run_laws.specs.Ends.{IsBroughtTo, NoOthers, IsRunInOneOrderIf, AreJoint}
use Rattle.engine_many.specs.declared.ending.Left.{Left}
use Rattle.engine_many.specs.Parts.{sight_of}

-- what the task has seen and done was brought to these floors
abbrev pub IsBroughtInto : {B C J : Type 0} → (C → ChannelFloor) → (J → Floor) → Program → Left C J B → Frame × C × J → Type 0
IsBroughtInto calls jobs p left x = IsBroughtTo p (calls left.channels) (jobs left.jobs) (sight_of calls jobs x)

-- what was brought to the first floors is brought to the second
abbrev pub StaysBrought : Program → ChannelFloor → Floor → ChannelFloor → Floor → Type 0
StaysBrought p c j c' j' = (s : Sight) → IsBroughtTo p c j s → IsBroughtTo p c' j' s

-- where anything was brought to the first floors, what those have seen and done was brought to the second
abbrev pub AreBrought : {X : Type 0} → Program → ChannelFloor → Floor → ChannelFloor → Floor → (X → Sight) → List X → Type 0
AreBrought p c j c' j' at xs = (s : Sight) → IsBroughtTo p c j s → All (λ x. IsBroughtTo p c' j' (at x)) xs

-- both floors may call for this tag
abbrev pub MayBothCall : ChannelFloor → Floor → ℕ → Type 0
MayBothCall c j k = (c.callers k ≡ true) × (j.callers k ≡ true)

-- the floors of a script that may call for every coroutine, and for the tag that was kept aside; no other tag may act, or has acted
pub record AreWhole (p : Program) (c : ChannelFloor) (j : Floor) (may_call may_act : ℕ → Bool) : Type 0 where
  pub shape : c.shape ≡ floor_shape p
  pub job_shape : j.shape ≡ job_shape p
  pub callers : (k : ℕ) → k ≤ coroutine_count p → MayBothCall c j k
  pub others : (k : ℕ) → coroutine_count p < k → (may_call k ≡ false) × (may_act k ≡ false)
  pub none : NoOthers p c j

-- the books are those of a run of the script with the histories of these floors, which came to rest; the root has ended so, if it has; if
-- all floors know one order of both histories, the run has one; and the floors are whole
pub record IsLeftAtRest {B C J : Type 0} (items : B → List Item) (calls : C → ChannelFloor) (jobs : J → Floor) (may_call : C → ℕ → Bool)
    (may_act : C → ℕ → Bool) (p : Program) (left : Left C J B) (end : Option End) : Type 0 where
  pub rest : IsRunInOneOrderIf (AreJoint jobs) p (map items left.books.items) (calls left.channels).seen (jobs left.jobs).seen end
  pub whole : AreWhole p (calls left.channels) (jobs left.jobs) (may_call left.channels) (may_act left.channels)
