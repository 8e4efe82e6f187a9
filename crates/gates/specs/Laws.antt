-- What holds of a gate between any two steps.
use Rattle.std.specs.Prelude.{◌≡◌, ℕ, ◌+◌, ◌<◌, true, List, length, slice_index}
use mathlib.Core.Option.{some}
use mathlib.Core.List.{IsPrefix}
use lib.ListN.{get_elem?}
use Rattle.atomic_table.specs.Table.{State as Table}
use Rattle.worded.specs.Views.{has_tag}
use Rattle.worded.specs.Histories.{entries_of}
use Rattle.worded.specs.declared.view.View.{View}
use Rattle.gates.specs.declared.act.GateEntry.{GateEntry}
use Rattle.gates.specs.Gates.{State, state_of, holds, claims, NobodyWaits, Legal, maker}
use Rattle.gates.specs.Words.{word_of}

-- of one permit there is at most one holder
abbrev pub OneHolder : State → Type 0
OneHolder s = (t u : ℕ) → 0 < holds t s → 0 < holds u s → t ≡ u

-- The permits that are free and those that are held or granted are n; while one is free nobody waits; and of one permit there is one holder
pub record AddsUp (n : ℕ) (s : State) : Type 0 where
  pub total : s.free + length s.holders ≡ n
  pub served : 0 < s.free → NobodyWaits s
  pub mutex : n ≡ 1 → OneHolder s

-- The word is that of one legal history. Each pass has seen a beginning of it, and all entries of its own numbers, and knows what they hold
-- or wait for
pub record HoldsGate (n : ℕ) (s : Table GateEntry (View GateEntry ℕ)) : Type 0 where
  pub log : List GateEntry
  pub legal : Legal n log
  pub adds_up : AddsUp n (state_of n log)
  pub word : slice_index s.words 0 ≡ word_of (state_of n log)
  pub prefixes : (id : ℕ) (v : View GateEntry ℕ) → get_elem? s.views id ≡ some v → IsPrefix v.seen log
  pub own : (id t : ℕ) (v : View GateEntry ℕ)
      → get_elem? s.views id ≡ some v → has_tag t v.tags ≡ true → entries_of maker t log ≡ entries_of maker t v.seen
  pub known : (id t : ℕ) (v : View GateEntry ℕ)
      → get_elem? s.views id ≡ some v → has_tag t v.tags ≡ true → claims t (state_of n log) ≡ claims t (state_of n v.seen)
