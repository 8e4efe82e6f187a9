-- What a seat has seen after a step, and after it met another.
use Rattle.std.specs.Prelude.{◌≡◌, ℕ, ◌==◌, true, ◌||◌, List, [], ◌∷◌, ◌++◌, MatchBool}
use mathlib.Core.List.{IsPrefix}
use Rattle.worded.specs.declared.view.View.{View}
use Rattle.worded.specs.Views.{has_tag, tags_given}
use Rattle.worded.specs.Histories.{entries_of}

module _ {E K : Type 0} (who : E → ℕ) where
  -- others added to what was seen, and nothing under the tags of the seat
  pub record Sees (v w : View E K) : Type 0 where
    pub others : List E
    pub now : w.seen ≡ v.seen ++ others
    pub apart : (t : ℕ) → has_tag t v.tags ≡ true → entries_of who t others ≡ []
    pub tags : w.tags ≡ v.tags
    pub giving : tags_given w ≡ tags_given v

  -- the entry was made after all that was seen, and is the last that was then seen
  pub record Makes (v : View E K) (e : E) (w : View E K) : Type 0 where
    pub others : List E
    pub now : w.seen ≡ (v.seen ++ others) ++ e ∷ []
    pub apart : (t : ℕ) → has_tag t v.tags ≡ true → entries_of who t others ≡ []
    pub tags : w.tags ≡ v.tags
    pub giving : tags_given w ≡ tags_given v

module _ {E K : Type 0} (fits : List E → ℕ → ℕ → Type 0) (who : E → ℕ) where
  -- and right before it this word was old
  pub record Turns (word old : ℕ) (e : E) (v w : View E K) : Type 0 where
    pub made : Makes who v e w
    pub found : fits (v.seen ++ made.others) word old

  -- the entry was made where the word found is old, and else the word was seen
  abbrev pub ExchangeAnswer : ℕ → ℕ → E → View E K → View E K → ℕ → Type 0
  ExchangeAnswer word old e v w n = MatchBool (n == old) (Turns word old e v w) (Sees who v w × fits w.seen word n)

-- `same t xs ys` says that the tag t did the same in xs and in ys
module _ {E K : Type 0} (same : ℕ → List E → List E → Type 0) where
  -- a seat that had seen `old` met one that had seen `other`: its history goes on, and begins with what the other had seen
  pub record MeetAnswer (old other new : View E K) : Type 0 where
    pub goes_on : IsPrefix old.seen new.seen
    pub told : IsPrefix other.seen new.seen
    pub own : (t : ℕ) → has_tag t old.tags ≡ true → same t old.seen new.seen
    pub tags : new.tags ≡ old.tags
    pub giving : tags_given new ≡ tags_given old

  -- a seat that had seen `old` took in one that had seen `other`, with its tags
  pub record EndAnswer (old other new : View E K) : Type 0 where
    pub goes_on : IsPrefix old.seen new.seen
    pub told : IsPrefix other.seen new.seen
    pub own : (t : ℕ) → has_tag t old.tags ≡ true → same t old.seen new.seen
    pub taken : (t : ℕ) → has_tag t other.tags ≡ true → same t other.seen new.seen
    pub callers : (t : ℕ) → has_tag t new.tags ≡ (has_tag t old.tags || has_tag t other.tags)
    pub giving : tags_given new ≡ tags_given old
