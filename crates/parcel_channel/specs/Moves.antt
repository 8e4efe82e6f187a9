-- The one list of moves, and how often a number is moved.
use Rattle.std.specs.Prelude.{◌≡◌, ℕ, ◌+◌, ◌==◌, ◌≤◌, Bool, false, List, [], ◌∷◌, if◌then◌else◌}
use mathlib.Core.Option.{some}
use mathlib.Core.List.{IsPrefix}
use lib.ListN.{get_elem?}
use Rattle.std.specs.Prelude.{Option}
use Rattle.atomic_table.specs.Table.{State as Table}
use Rattle.parcel_channel.specs.declared.parcel.ParcelAct.{ParcelAct}
use Rattle.parcel_channel.specs.declared.parcel.ParcelAct.TheVariants.{Draw, Miss, MoveIn, MoveOut, PutBack}
use Rattle.parcel_channel.specs.declared.parcel.ParcelEntry.{ParcelEntry}
use Rattle.parcel_channel.specs.Parcels.{moves}
use Rattle.parcel_channel.specs.Seen.{Seen}

module _ {T : Type 0} where
  abbrev pub is_move_in : ℕ → ParcelAct T → Bool
  is_move_in k (Draw j) = false
  is_move_in k Miss = false
  is_move_in k (MoveIn j v) = j == k
  is_move_in k (MoveOut j) = false
  is_move_in k (PutBack j) = false

  abbrev pub is_move_out : ℕ → ParcelAct T → Bool
  is_move_out k (Draw j) = false
  is_move_out k Miss = false
  is_move_out k (MoveIn j v) = false
  is_move_out k (MoveOut j) = j == k
  is_move_out k (PutBack j) = false

  -- how many entries pass this test
  abbrev pub how_often : (ParcelAct T → Bool) → List (ParcelEntry T) → ℕ
  how_often test [] = 0
  how_often test (e ∷ es) = if test e.act then 1 + how_often test es else how_often test es

  -- a number is moved in at most once, and moved out at most as often
  pub record IsMovedOnce (log : List (ParcelEntry T)) (k : ℕ) : Type 0 where
    pub once : how_often (is_move_in k) log ≤ 1
    pub out : how_often (is_move_out k) log ≤ how_often (is_move_in k) log

  -- there is one list of moves, of which each pass has seen a beginning
  pub record HoldsMoves (s : Table (Option T) (Seen T)) : Type 0 where
    pub log : List (ParcelEntry T)
    pub once : (k : ℕ) → IsMovedOnce log k
    pub prefixes : (id : ℕ) (v : Seen T) → get_elem? s.views id ≡ some v → IsPrefix (moves v.seen) (moves log)
