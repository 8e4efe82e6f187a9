-- A run over words: before it begins, and what it leaves.
use Rattle.std.specs.Prelude.{◌≡◌, ℕ, ◌<◌, true, List, [], map, is_none}
use Rattle.channel_model.specs.Floors.{Floor}
use Rattle.note_book.specs.declared.book.Item.{Item}
use Rattle.worded.specs.Views.{HasGiven, has_tag}
use Rattle.cell_words.specs.declared.hub.Hub.{Hub}
use Rattle.cell_words.specs.declared.pass.Pass.{Pass}
use Rattle.cell_words.specs.Hubs.{IsOf, IsOwn, GivesTags, shape_of, beside, seen_by as channels_seen_by}
use Rattle.job_words.specs.declared.forest.Forest.{Forest}
use Rattle.job_words.specs.declared.pass.JobPass.{JobPass}
use Rattle.job_words.specs.Forests.{IsOf as IsOfForest, IsOwn as IsOwnJobs, seen_by}
use Rattle.job_words.specs.Passes.{floor_seen}
use Rattle.script_grammar.specs.Programs.{Program}
use Rattle.script_grammar.specs.Tags.{coroutine_count}
use Rattle.script_meaning.specs.Shapes.{floor_shape, job_shape}
use Rattle.run_laws.specs.Ends.{IsRunInOneOrder}
use Rattle.engine_many.specs.declared.word_run.WordRun.{WordRun}

-- the channels are those of the script, nobody did anything, and the root may call
pub record IsFreshHub (p : Program) (c : Floor) : Type 0 where
  pub shape : c.shape ≡ floor_shape p
  pub seen : c.seen ≡ []
  pub caller : c.callers 0 ≡ true

-- the pass of the hub may call for each of so many tags; it gives out tags, and has those that it gave out, so that nobody else can have
-- made an entry
pub record HasAllTags (count : ℕ) (hub : Hub) (pass : Pass) : Type 0 where
  pub callers : (k : ℕ) → k < count → IsOwn hub pass k
  pub gives : GivesTags (channels_seen_by pass).given pass
  pub has_given : (k : ℕ) → has_tag k (channels_seen_by pass).given ≡ true → IsOwn hub pass k

-- the same of a pass of a forest, whose tags the pass of the hub on the same table gives out
pub record HasAllJobTags (count : ℕ) (forest : Forest) (giver : Pass) (pass : JobPass) : Type 0 where
  pub callers : (k : ℕ) → k < count → IsOwnJobs forest pass k
  pub gives : HasGiven (beside giver).given (beside giver)
  pub has_given : (k : ℕ) → has_tag k (beside giver).given ≡ true → IsOwnJobs forest pass k

-- the passes are of the hub and of the forest, which are those of the script and stand on one table, and have all tags; the books are those
-- of a run of the script with the histories that they have seen, which came to rest, and both histories have one order
pub record CameToRest {B : Type 0} (items : B → List Item) (p : Program) (run : WordRun B) : Type 0 where
  pub pass : IsOf run.hub run.pass
  pub jobs : IsOfForest run.forest run.jobs
  pub shape : shape_of run.hub ≡ floor_shape p
  pub job_shape : (floor_seen (seen_by run.jobs)).shape ≡ job_shape p
  pub tags : HasAllTags (coroutine_count p) run.hub run.pass
  pub one_table : run.forest.table.value ≡ run.hub.table.value
  pub job_tags : HasAllJobTags (coroutine_count p) run.forest run.pass run.jobs
  pub rest : IsRunInOneOrder p (map items run.done.books.items) (channels_seen_by run.pass).seen
      (floor_seen (seen_by run.jobs)).seen run.done.end

-- it says of itself that the root has not ended exactly where that is so
abbrev pub TellsIdle : {B : Type 0} → WordRun B → Type 0
TellsIdle run = run.done.idle ≡ is_none run.done.end
