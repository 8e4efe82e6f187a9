-- A part of a table: some of its words, and the entries that are of them.
use Rattle.std.specs.Prelude.{◌≡◌, ◌≢◌, ℕ, ◌+◌, ◌*◌, ◌/◌, ◌%◌, ◌==◌, ◌<◌, ◌≤◌, List, [], ◌∷◌, ◌++◌, if◌then◌else◌}
use mathlib.Core.Option.{Option, some, none}
use Rattle.worded.specs.declared.view.View.{View}

-- What is of a part: of the table's key, of an entry (if it is one of the part), the table's word that is the part's first, and
-- which of every two tags
pub record Part (E K F L : Type 0) : Type 0 where
  pub key_of : K → L
  pub read : E → Option F
  pub first : K → ℕ
  pub place : ℕ

-- one more, if there is one
abbrev pub kept : {F : Type 0} → Option F → List F → List F
kept none fs = fs
kept (some f) fs = f ∷ fs

-- the entries that are of a part
abbrev pub entries_in : {E F : Type 0} → (E → Option F) → List E → List F
entries_in read [] = []
entries_in read (e ∷ es) = kept (read e) (entries_in read es)

-- a tag of a part, as the table has it: each of two parts has every second tag
abbrev pub tag_in : ℕ → ℕ → ℕ
tag_in place t = 2 * t + place

-- the tags of a part, among those of the table
abbrev pub tags_in : ℕ → List ℕ → List ℕ
tags_in place [] = []
tags_in place (t ∷ ts) = if t % 2 == place then t / 2 ∷ tags_in place ts else tags_in place ts

module _ {E K F L : Type 0} (part : Part E K F L) where
  -- what a seat knows of the part
  abbrev pub view_in : View E K → View F L
  view_in v =
      record {
        key = part.key_of v.key;
        chief = v.chief;
        next = v.next / 2;
        given = tags_in part.place v.given;
        tags = tags_in part.place v.tags;
        seen = entries_in part.read v.seen;
        heard = entries_in part.read v.heard;
        heard_tags = tags_in part.place v.heard_tags;
      }

  -- the word of the table is none of the part's, of which there are `count`
  abbrev pub IsElsewhere : K → ℕ → ℕ → Type 0
  IsElsewhere key count i = (j : ℕ) → j < count → i ≢ part.first key + j

-- What makes it a part of a rule, with a rule of its own: its words are words of the table, which fit the history exactly if they fit the
-- part's; what is legal is legal in the part; and an entry of the part that is legal there is legal, and leaves all other words as they are
module _ {E K F L : Type 0} (part : Part E K F L) (legal : K → List E → Type 0) (fits : K → List E → ℕ → ℕ → Type 0) (who : E → ℕ)
    (size : K → ℕ) (legal' : L → List F → Type 0) (fits' : L → List F → ℕ → ℕ → Type 0) (who' : F → ℕ) (size' : L → ℕ) where
  pub record IsPartOf : Type 0 where
    pub small : part.place < 2
    pub own : (e : E) (f : F) → part.read e ≡ some f → who e ≡ tag_in part.place (who' f)
    pub apart : (e : E) (t : ℕ) → part.read e ≡ none → who e ≢ tag_in part.place t
    pub within : (k : K) → part.first k + size' (part.key_of k) ≤ size k
    pub legal_in : (k : K) (log : List E) → legal k log → legal' (part.key_of k) (entries_in part.read log)
    pub legal_with : (k : K) (log : List E) (e : E) (f : F) → part.read e ≡ some f → legal k log
        → legal' (part.key_of k) (entries_in part.read (log ++ e ∷ [])) → legal k (log ++ e ∷ [])
    pub fits_in : (k : K) (log : List E) (i n : ℕ) → i < size' (part.key_of k) → fits k log (part.first k + i) n
        → fits' (part.key_of k) (entries_in part.read log) i n
    pub fits_of : (k : K) (log : List E) (i n : ℕ) → i < size' (part.key_of k)
        → fits' (part.key_of k) (entries_in part.read log) i n → fits k log (part.first k + i) n
    pub leaves : (k : K) (log : List E) (e : E) (f : F) (i n : ℕ) → part.read e ≡ some f
        → IsElsewhere part k (size' (part.key_of k)) i → fits k log i n → fits k (log ++ e ∷ []) i n

-- there is an entry, of which this holds
abbrev pub IsEntryAnd : {F : Type 0} → Option F → (F → Type 0) → Type 0
IsEntryAnd none holds = ⊥
IsEntryAnd (some f) holds = holds f
