-- What a seat has seen of a part after each step, with the order of the entries of both parts.
use Rattle.std.specs.Prelude.{◌≡◌, ℕ, ◌==◌, Bool, true, ◌||◌, List, [], ◌∷◌, ◌++◌, MatchBool}
use mathlib.Core.List.{IsPrefix}
use Rattle.worded.specs.declared.view.View.{View}
use Rattle.worded.specs.Views.{has_tag}
use Rattle.worded.specs.Histories.{entries_of}
use Rattle.joined_words.specs.Parts.{Part, view_in}

-- What a seat knows of a part, the order of all entries that it has seen, of both parts, and the tags that it has given out, of both
pub record SeenIn (F L S : Type 0) : Type 0 where
  pub key : L
  pub chief : Bool
  pub next : ℕ
  pub given : List ℕ
  pub tags : List ℕ
  pub seen : List F
  pub heard : List F
  pub heard_tags : List ℕ
  pub order : List S
  pub given_all : List ℕ

-- the places of an order that these entries take; an entry may take none
abbrev pub order_in : {E S : Type 0} → (E → List S) → List E → List S
order_in sides [] = []
order_in sides (e ∷ es) = sides e ++ order_in sides es

module _ {F L S : Type 0} where
  -- what it knows of the part alone
  abbrev pub view_of : SeenIn F L S → View F L
  view_of v =
      record {
        key = v.key;
        chief = v.chief;
        next = v.next;
        given = v.given;
        tags = v.tags;
        seen = v.seen;
        heard = v.heard;
        heard_tags = v.heard_tags;
      }

  -- whether it gives out tags, and which it has given out, of the part and of both
  abbrev pub tags_given : SeenIn F L S → Bool × List ℕ × List ℕ
  tags_given v = (v.chief, v.given, v.given_all)

-- what a seat of the table knows of a part
abbrev pub seen_in : {E K F L S : Type 0} → (E → List S) → Part E K F L → View E K → SeenIn F L S
seen_in sides part v =
    record {
      key = (view_in part v).key;
      chief = (view_in part v).chief;
      next = (view_in part v).next;
      given = (view_in part v).given;
      tags = (view_in part v).tags;
      seen = (view_in part v).seen;
      heard = (view_in part v).heard;
      heard_tags = (view_in part v).heard_tags;
      order = order_in sides v.seen;
      given_all = v.given;
    }

-- ---- what the steps of `worded` tell, and that the order goes on

module _ {F L S : Type 0} (who : F → ℕ) where
  -- others added to what was seen, and nothing under the tags of the seat
  pub record Sees (v w : SeenIn F L S) : Type 0 where
    pub others : List F
    pub now : w.seen ≡ v.seen ++ others
    pub apart : (t : ℕ) → has_tag t v.tags ≡ true → entries_of who t others ≡ []
    pub tags : w.tags ≡ v.tags
    pub giving : tags_given w ≡ tags_given v
    pub order : IsPrefix v.order w.order

  -- the entry was made after all that was seen, and is the last that was then seen
  pub record Makes (v : SeenIn F L S) (e : F) (w : SeenIn F L S) : Type 0 where
    pub others : List F
    pub now : w.seen ≡ (v.seen ++ others) ++ e ∷ []
    pub apart : (t : ℕ) → has_tag t v.tags ≡ true → entries_of who t others ≡ []
    pub tags : w.tags ≡ v.tags
    pub giving : tags_given w ≡ tags_given v
    pub order : IsPrefix v.order w.order

module _ {F L S : Type 0} (fits : List F → ℕ → ℕ → Type 0) (who : F → ℕ) where
  -- and right before it this word was old
  pub record Turns (word old : ℕ) (e : F) (v w : SeenIn F L S) : Type 0 where
    pub made : Makes who v e w
    pub found : fits (v.seen ++ made.others) word old

  -- the entry was made where the word found is old, and else the word was seen
  abbrev pub ExchangeAnswer : ℕ → ℕ → F → SeenIn F L S → SeenIn F L S → ℕ → Type 0
  ExchangeAnswer word old e v w n = MatchBool (n == old) (Turns word old e v w) (Sees who v w × fits w.seen word n)

-- `same t xs ys` says that the tag t did the same in xs and in ys
module _ {F L S : Type 0} (same : ℕ → List F → List F → Type 0) where
  -- a seat that had seen `old` met one that had seen `other`: its history goes on, and begins with what the other had seen
  pub record MeetAnswer (old other new : SeenIn F L S) : Type 0 where
    pub goes_on : IsPrefix old.seen new.seen
    pub told : IsPrefix other.seen new.seen
    pub own : (t : ℕ) → has_tag t old.tags ≡ true → same t old.seen new.seen
    pub tags : new.tags ≡ old.tags
    pub giving : tags_given new ≡ tags_given old
    pub order : IsPrefix old.order new.order
    pub told_order : IsPrefix other.order new.order

  -- a seat that had seen `old` took in one that had seen `other`, with its tags
  pub record EndAnswer (old other new : SeenIn F L S) : Type 0 where
    pub goes_on : IsPrefix old.seen new.seen
    pub told : IsPrefix other.seen new.seen
    pub own : (t : ℕ) → has_tag t old.tags ≡ true → same t old.seen new.seen
    pub taken : (t : ℕ) → has_tag t other.tags ≡ true → same t other.seen new.seen
    pub callers : (t : ℕ) → has_tag t new.tags ≡ (has_tag t old.tags || has_tag t other.tags)
    pub giving : tags_given new ≡ tags_given old
    pub order : IsPrefix old.order new.order
    pub told_order : IsPrefix other.order new.order
