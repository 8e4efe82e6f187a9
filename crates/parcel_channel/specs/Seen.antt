-- What was seen of parcels, and what steps add.
use Rattle.std.specs.Prelude.{◌≡◌, ℕ, ◌+◌, ◌==◌, true, false, List, [], ◌∷◌, ◌++◌, Option, Some, None, nat_lt}
use Rattle.std.specs.Prelude.{MatchBool, if◌then◌else◌}
use Rattle.atomic_table.specs.Table.{Me}
use Rattle.worded.specs.Views.{has_tag, tags_given}
use Rattle.worded.specs.Exchanges.{Loaded, Entered}
use Rattle.worded.specs.declared.view.View.{View}
use Rattle.parcel_channel.specs.declared.parcel.ParcelAct.{ParcelAct}
use Rattle.parcel_channel.specs.declared.parcel.ParcelAct.TheVariants.{Draw, Miss, MoveIn, MoveOut, PutBack}
use Rattle.parcel_channel.specs.declared.parcel.ParcelEntry.{ParcelEntry}
use Rattle.parcel_channel.specs.Parcels.{State, inside, is_held, state_of, Legal, maker}
use Rattle.parcel_channel.specs.Tables.{Fits}

abbrev pub first_tag : List ℕ → ℕ
first_tag [] = 0
first_tag (t ∷ ts) = t

-- what a seat knows of parcels
abbrev pub Seen : Type 0 → Type 0
Seen T = View (ParcelEntry T) ℕ

-- a seat, with the slots that it has in hand
abbrev pub Sat : Type 0 → Type 0
Sat T = Me (Option T) (Seen T)

module _ {T : Type 0} where
  -- the tag under which it steps
  abbrev pub own_tag : Seen T → ℕ
  own_tag v = first_tag v.tags

  -- it has the same tags, and gives out others as before
  abbrev pub SameTags : Seen T → Seen T → Type 0
  SameTags v w = (w.tags ≡ v.tags) × (tags_given w ≡ tags_given v)

  -- what it has seen leaves this
  abbrev pub now_in : Seen T → State T
  now_in v = state_of v.seen

  -- no slot is in the hands of one of its tags
  abbrev pub IsIdle : Seen T → Type 0
  IsIdle v = (t k : ℕ) → has_tag t v.tags ≡ true → is_held t ((state_of v.seen).parcels k) ≡ false

  abbrev pub entry_of : ℕ → ParcelAct T → ParcelEntry T
  entry_of who act = record { who = who; act = act }

  -- the entry of who draws this number, where there are so many
  abbrev pub entry_drawn : ℕ → ℕ → ℕ → ParcelEntry T
  entry_drawn parcels who n = entry_of who (if nat_lt n parcels then Draw n else Miss)

  -- the slot that is then in its hands
  abbrev pub slot_drawn : ℕ → ℕ → List (ℕ × Option T)
  slot_drawn parcels n = if nat_lt n parcels then (n, None) ∷ [] else []

  -- ---- what the steps tell: a seat with its slots before and after

  -- the number n was drawn
  abbrev pub Draws : ℕ → ℕ → Sat T → Sat T → Type 0
  Draws parcels n m r = Entered (Legal parcels) Fits maker 0 n (entry_drawn parcels (own_tag m.0) n) m.0 r.0 × (r.1 ≡ slot_drawn parcels n)

  -- the value in hand was moved in
  abbrev pub MovesIn : ℕ → ℕ → Sat T → Sat T → Type 0
  MovesIn parcels word m r =
      (k : ℕ) (v : T) → m.1 ≡ (k, Some v) ∷ [] → word ≡ 1 + k
      → (n : ℕ) × Entered (Legal parcels) Fits maker word n (entry_of (own_tag m.0) (MoveIn k v)) m.0 r.0 × (r.1 ≡ [])

  -- the value was moved out, and is in hand
  pub record MovedOut (parcels k : ℕ) (m r : Sat T) : Type 0 where
    pub value : T
    pub entered : Entered (Legal parcels) Fits maker (1 + k) 1 (entry_of (own_tag m.0) (MoveOut k)) m.0 r.0
    pub was : (state_of (m.0.seen ++ entered.others)).parcels k ≡ inside value
    pub hand : r.1 ≡ (k, Some value) ∷ []

  -- the value was moved out, where its word is 1, or else the word was loaded
  abbrev pub MovesOut : ℕ → ℕ → ℕ → Sat T → Sat T → Type 0
  MovesOut parcels word n m r =
      (k : ℕ) → word ≡ 1 + k
      → MatchBool (n == 1) (MovedOut parcels k m r) (Loaded (Legal parcels) Fits maker (1 + k) n m.0 r.0 × (r.1 ≡ []))

  -- the empty slot in hand was put back
  abbrev pub PutsBack : ℕ → ℕ → Sat T → Sat T → Type 0
  PutsBack parcels word m r =
      (k : ℕ) → m.1 ≡ (k, None) ∷ [] → word ≡ 1 + k
      → (n : ℕ) × Entered (Legal parcels) Fits maker word n (entry_of (own_tag m.0) (PutBack k)) m.0 r.0 × (r.1 ≡ [])
