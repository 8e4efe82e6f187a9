-- What was seen of a forest, and what steps add.
use Rattle.std.specs.Prelude.{◌≡◌, ℕ, ◌==◌, Bool, true, false, List, [], ◌∷◌, ◌++◌, Some, None, MatchBool}
use mathlib.Core.List.{IsPrefix}
use Rattle.co_base.specs.Orders.{Side}
use Rattle.job_model.specs.Floors.{Floor}
use Rattle.worded.specs.Views.{has_tag}
use Rattle.worded.specs.Histories.{entries_of}
use Rattle.joined_words.specs.Seen.{SeenIn}
use Rattle.word_rules.specs.declared.size.ForestSize.{ForestSize}
use Rattle.word_rules.specs.declared.deed.Deed.{Deed}
use Rattle.word_rules.specs.Deeds.{shape_of, doer, history_of, rows_claimed, store_of, Store, IsDone, Fits}

-- what a pass knows of its forest, and the order of all entries of the table that it has seen
abbrev pub Seen : Type 0
Seen = SeenIn Deed ForestSize Side

-- the floor that these deeds show to callers of these tags, with the order that the entries have among those of the table
abbrev pub floor_of : ForestSize → List ℕ → List Deed → List Side → Floor
floor_of size tags log order =
    record {
      shape = shape_of size;
      seen = history_of log;
      spare = 4294967296;
      alone = false;
      callers = λ t. has_tag t tags;
      order = order;
      joint = true;
      claims = (store_of log).claimer;
    }

-- the floor that a pass shows to its callers
abbrev pub floor_seen : Seen → Floor
floor_seen v = floor_of v.key v.tags v.seen v.order

-- whether a pass gives out tags, and which it has given out
abbrev pub tags_given : Seen → Bool × List ℕ
tags_given v = (v.chief, v.given)

-- who claimed these rows and made no entry, after v, which led to w; others may have done theirs
pub record Goes (who : ℕ) (claimed : List ℕ) (v w : Seen) : Type 0 where
  pub rest : List Deed
  pub seen : w.seen ≡ v.seen ++ rest
  pub mine : history_of (entries_of doer who rest) ≡ []
  pub rows : rows_claimed (entries_of doer who rest) ≡ claimed
  pub tags : w.tags ≡ v.tags
  pub key : w.key ≡ v.key
  pub giving : tags_given w ≡ tags_given v
  pub order : IsPrefix v.order w.order
  pub idle : w.heard_tags ≡ []
  pub done : IsDone (shape_of v.key) w.seen

-- nothing of who was done, after v, which led to w
pub record Sees (who : ℕ) (v w : Seen) : Type 0 where
  pub others : List Deed
  pub seen : w.seen ≡ v.seen ++ others
  pub apart : entries_of doer who others ≡ []
  pub tags : w.tags ≡ v.tags
  pub key : w.key ≡ v.key
  pub giving : tags_given w ≡ tags_given v
  pub order : IsPrefix v.order w.order
  pub idle : w.heard_tags ≡ []
  pub done : IsDone (shape_of v.key) w.seen

-- who did d, after what others may have done, if this word was old
pub record Does (who : ℕ) (d : Deed) (word old : ℕ) (v w : Seen) : Type 0 where
  pub others : List Deed
  pub seen : w.seen ≡ (v.seen ++ others) ++ d ∷ []
  pub apart : entries_of doer who others ≡ []
  pub tags : w.tags ≡ v.tags
  pub key : w.key ≡ v.key
  pub giving : tags_given w ≡ tags_given v
  pub order : IsPrefix v.order w.order
  pub idle : w.heard_tags ≡ []
  pub done : IsDone (shape_of v.key) w.seen
  pub found : Fits v.key (v.seen ++ others) word old

-- who did d where the word found is old, and else saw the word
abbrev pub ExchangeAnswer : ℕ → Deed → ℕ → ℕ → Seen → Seen → ℕ → Type 0
ExchangeAnswer who d word old v w n =
    MatchBool (n == old) (Does who d word old v w) (Sees who v w × Fits v.key w.seen word n)

-- a row that who claimed and nobody attached, and its two words
pub record IsMine (who row stored_link stored_job : ℕ) (s : Store) : Type 0 where
  pub claimer : s.claimer row ≡ Some who
  pub tree : s.tree row ≡ None
  pub link : s.links row ≡ stored_link
  pub job : s.jobs row ≡ stored_job
