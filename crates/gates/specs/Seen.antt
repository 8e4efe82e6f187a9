-- What was seen of a gate, and what steps add.
use Rattle.std.specs.Prelude.{◌≡◌, ◌≢◌, ℕ, ◌<◌, ◌≤◌, Bool, true, false, List, [], ◌∷◌, ◌++◌, length}
use Rattle.worded.specs.Views.{has_tag}
use Rattle.worded.specs.Views as views
use Rattle.worded.specs.Histories.{entries_of}
use Rattle.worded.specs.declared.view.View.{View}
use Rattle.gates.specs.declared.act.GateAct.{GateAct}
use Rattle.gates.specs.declared.act.GateEntry.{GateEntry}
use Rattle.gates.specs.Gates.{State, state_of, maker}

-- what a pass knows
abbrev pub Seen : Type 0
Seen = View GateEntry ℕ

-- what it has seen leaves this
abbrev pub now_in : Seen → State
now_in v = state_of v.key v.seen

abbrev pub entry_of : ℕ → GateAct → GateEntry
entry_of who act = record { who = who; act = act }

abbrev pub first_tag : List ℕ → ℕ
first_tag [] = 0
first_tag (t ∷ ts) = t

-- whether a pass splits others off, and which numbers it has given out
abbrev pub tags_given : Seen → Bool × List ℕ
tags_given = views.tags_given

-- no number above n was given out
abbrev pub Ungiven : ℕ → Seen → Type 0
Ungiven n v = (t : ℕ) → n < t → has_tag t v.given ≡ false

-- who made these entries after what was seen, in their order, and nobody else did under a number of the pass
pub record Adds (who : ℕ) (made : List GateEntry) (v w : Seen) : Type 0 where
  pub rest : List GateEntry
  pub now : w.seen ≡ v.seen ++ rest
  pub mine : entries_of maker who rest ≡ made
  pub apart : (t : ℕ) → has_tag t v.tags ≡ true → t ≢ who → entries_of maker t rest ≡ []
  pub key : w.key ≡ v.key
  pub tags : w.tags ≡ v.tags
  pub giving : tags_given w ≡ tags_given v

-- others made so many entries at least, and who made none
pub record Beaten (k who : ℕ) (v w : Seen) : Type 0 where
  pub adds : Adds who [] v w
  pub many : k ≤ length adds.rest
