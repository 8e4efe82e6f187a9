-- Whose claims and entries these are: coroutines that stand on these floors.
use Rattle.std.specs.Prelude.{◌≡◌, ℕ, ◌⊎◌, [], Some}
use Rattle.channel_model.specs.Histories.{acts_of}
use Rattle.channel_model.specs.Floors.{Floor as ChannelFloor}
use Rattle.job_model.specs.Floors.{Floor, is_claimed_by}
use Rattle.script_grammar.specs.Programs.{Program}
use Rattle.script_grammar.specs.Tags.{coroutine_count, scope_count}
use Rattle.script_meaning.specs.Polls.{Frame, StandsOn}
use Rattle.script_laws.specs.Counts.{count_from}

-- each claimed row was claimed by a coroutine that stands on these floors
abbrev pub AreClaimed : Program → ChannelFloor → Floor → Type 0
AreClaimed p c j = (r t : ℕ) → j.claims r ≡ Some t → (g : Frame) × StandsOn p c j g × (g.tag ≡ t)

-- so does each that made an entry on channels
abbrev pub AllNoted : Program → ChannelFloor → Floor → Type 0
AllNoted p c j = (t : ℕ) → (acts_of t c.seen ≡ []) ⊎ ((g : Frame) × StandsOn p c j g × (g.tag ≡ t))

-- how many rows for scopes this one claimed
abbrev pub scopes_claimed : Program → Floor → ℕ → ℕ
scopes_claimed p j t = count_from (coroutine_count p) (scope_count p) (λ r. is_claimed_by t (j.claims r))
