-- What holds of a forest's table between any two steps.
use Rattle.std.specs.Prelude.{◌≡◌, ℕ, ◌<◌, List, Option, Some, slice_index}
use mathlib.Core.Option.{some}
use lib.ListN.{get_elem?}
use Rattle.atomic_table.specs.Table.{State}
use Rattle.worded.specs.Histories.{AreSeatsOf}
use Rattle.worded.specs.declared.view.View.{View}
use Rattle.job_model.specs.declared.acts.JobEntry.{JobEntry}
use Rattle.job_model.specs.Histories.{Legal, acts_of}
use Rattle.word_rules.specs.declared.size.ForestSize.{ForestSize}
use Rattle.word_rules.specs.declared.deed.Deed.{Deed}
use Rattle.word_rules.specs.Deeds.{shape_of, history_of, store_of, word_count}
use Rattle.job_words.specs.JobWords.{AreJobWordsOf}

-- The words are those of one legal history and of the claims; each pass has seen a beginning of it, and all entries of its own tags,
-- and what it has seen claimed is claimed; no two passes have one tag, and a tag that no pass has made no entry
pub record HoldsJobs (size : ForestSize) {S : Type 0} (s : State S (View Deed ForestSize)) : Type 0 where
  pub entries : List JobEntry
  pub legal : Legal (shape_of size) entries
  pub claims : ℕ → Option ℕ
  pub words : (i : ℕ) → i < word_count size → AreJobWordsOf entries claims i (slice_index s.words i)
  pub passes : AreSeatsOf history_of acts_of entries s.views
  pub claims_seen : (id r t : ℕ) (v : View Deed ForestSize)
      → get_elem? s.views id ≡ some v → (store_of v.seen).claimer r ≡ Some t → claims r ≡ Some t
