-- What the steps on parcels ask, and what the calls answer.
use Rattle.std.specs.Prelude.{◌≡◌, ◌≢◌, ◌⊎◌, ℕ, ◌<◌, ◌≤◌, true, false, List, [], ◌∷◌, ◌++◌, Option, Some, None}
use Rattle.std.specs.Prelude.{Result, Ok, Err}
use Rattle.atomic_table.specs.Seated.{TableId}
use Rattle.worded.specs.Views.{has_tag, tags_given}
use Rattle.worded.specs.Histories.{entries_of}
use Rattle.worded.specs.Steps as steps
use Rattle.parcel_channel.specs.declared.parcel.ParcelAct.TheVariants.{Draw, Miss, MoveIn, MoveOut, PutBack}
use Rattle.parcel_channel.specs.declared.parcel.ParcelEntry.{ParcelEntry}
use Rattle.parcel_channel.specs.Parcels.{is_inside, moves, maker}
use Rattle.parcel_channel.specs.Tables.{word_count}
use Rattle.parcel_channel.specs.Seen.{Seen, Sat, now_in, entry_of, own_tag}

-- a table of so many parcels
pub record IsTable (table : TableId) (parcels : ℕ) : Type 0 where
  pub words : table.words ≡ word_count parcels
  pub slots : table.slots ≡ parcels
  pub few : parcels ≤ 1048576

module _ {T : Type 0} where
  -- the seat is one of so many parcels
  pub record IsSeated (parcels : ℕ) (m : Sat T) : Type 0 where
    pub key : m.0.key ≡ parcels
    pub idle : m.0.heard_tags ≡ []
    pub own : has_tag (own_tag m.0) m.0.tags ≡ true
    pub small : own_tag m.0 < 65536

  -- others added to what was seen, and nothing under the tags of the seat
  abbrev pub Sees : Seen T → Seen T → Type 0
  Sees = steps.Sees maker

  -- the entry was made after all that was seen, and is the last that was then seen
  abbrev pub Makes : Seen T → ParcelEntry T → Seen T → Type 0
  Makes = steps.Makes maker

  -- who made these entries after what was seen, in their order, and nobody else did under a tag of the seat
  pub record Adds (who : ℕ) (made : List (ParcelEntry T)) (v w : Seen T) : Type 0 where
    pub rest : List (ParcelEntry T)
    pub now : w.seen ≡ v.seen ++ rest
    pub mine : entries_of maker who rest ≡ made
    pub apart : (t : ℕ) → has_tag t v.tags ≡ true → t ≢ who → entries_of maker t rest ≡ []
    pub tags : w.tags ≡ v.tags
    pub giving : tags_given w ≡ tags_given v

  -- the entries of one tag are the same
  abbrev pub SameOf : ℕ → List (ParcelEntry T) → List (ParcelEntry T) → Type 0
  SameOf t old new = entries_of maker t new ≡ entries_of maker t old

  -- a seat that had seen `old` met one that had seen `other`
  abbrev pub MeetAnswer : Seen T → Seen T → Seen T → Type 0
  MeetAnswer = steps.MeetAnswer SameOf

  -- a seat that had seen `old` took in one that had seen `other`, with its tags
  abbrev pub EndAnswer : Seen T → Seen T → Seen T → Type 0
  EndAnswer = steps.EndAnswer SameOf

  -- the value was moved in with this number
  pub record IsMove (k : ℕ) (x : T) (log : List (ParcelEntry T)) : Type 0 where
    pub before : List (ℕ × T)
    pub after : List (ℕ × T)
    pub at : moves log ≡ before ++ (k, x) ∷ after

  -- no other value was moved in with this number
  abbrev pub IsOnly : ℕ → T → List (ParcelEntry T) → Type 0
  IsOnly k x log = (y : T) → IsMove k y log → x ≡ y

  -- every number was drawn, and this call drew none
  pub record IsSpent (parcels who : ℕ) (v w : Seen T) : Type 0 where
    pub made : List (ParcelEntry T)
    pub adds : Adds who made v w
    pub none : (made ≡ []) ⊎ (made ≡ entry_of who Miss ∷ [])
    pub all : parcels ≤ (now_in w).count

  -- the value was moved in with this number; or no number is left, and the value comes back
  abbrev pub PutAnswer : ℕ → ℕ → T → Seen T → Seen T → Result ℕ T → Type 0
  PutAnswer parcels who x v w (Ok k) = Adds who (entry_of who (Draw k) ∷ entry_of who (MoveIn k x) ∷ []) v w × (k < parcels)
  PutAnswer parcels who x v w (Err y) = (y ≡ x) × IsSpent parcels who v w

  -- the value that was moved in with this number was moved out; or it did not lie in its slot
  abbrev pub TakeAnswer : ℕ → ℕ → Seen T → Seen T → Option T → Type 0
  TakeAnswer who k v w (Some x) = Adds who (entry_of who (MoveOut k) ∷ entry_of who (PutBack k) ∷ []) v w × IsMove k x w.seen
  TakeAnswer who k v w None = Adds who [] v w × (is_inside ((now_in w).parcels k) ≡ false)
