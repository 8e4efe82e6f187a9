-- What holds of a forest's table between any two steps.
use Rattle.std.proofs.Common.{[], sym, ap, ◌∙◌}
use Rattle.co_base.proofs.Orders.{order_same}
use Rattle.atomic_table.specs.Table.{State}
use Rattle.worded.specs.Histories.{HasOneHistory}
use Rattle.worded.specs.declared.view.View.{View}
use Rattle.job_model.specs.Histories.{acts_of}
use Rattle.word_rules.specs.declared.size.ForestSize.{ForestSize}
use Rattle.word_rules.specs.declared.deed.Deed.{Deed}
use Rattle.word_rules.specs.Deeds.{shape_of, IsSize, doer, history_of, store_of, word_count, IsDone, Fits}
use Rattle.either.specs.declared.Either.{Either}
use Rattle.channel_model.specs.declared.acts.Entry.{Entry}
use Rattle.channel_model.specs.Histories.{Legal as ChannelsLegal}
use Rattle.word_rules.specs.declared.layout.Layout.{Layout}
use Rattle.word_rules.specs.Words as cells
use Rattle.joined_words.specs.JointParts.{is_second}
use Rattle.joined_words.specs.Tables.{state_in}
use Rattle.joined_words.proofs.PartsOfTables.{one_history_in}
use Rattle.job_words.specs.JobParts.{channel_words, job_part, HasBoth}
use Rattle.job_words.specs.Tables.{HoldsJobs}
use Rattle.job_words.proofs.DeedsAddUp.{history-append, is_legal, acts_of-deeds}
use Rattle.job_words.proofs.WordsFollow.{words_of}
use Rattle.worded.proofs.TagsHeld.{are_seats}
use Rattle.job_words.proofs.PassesMeet.{has_seen, no_acts}

pub holds_jobs : (size : ForestSize) {S : Type 0} (s : State S (View Deed ForestSize)) → IsSize size
    → HasOneHistory (IsDone (shape_of size)) (Fits size) doer (word_count size) s → HoldsJobs size s
holds_jobs size s small r = record {
  entries = history_of r.log;
  legal = is_legal (shape_of size) r.log r.is_legal;
  claims = (store_of r.log).claimer;
  words = λ i lt. words_of size r.log i _ small r.is_legal (r.words_fit i lt);
  passes = are_seats (IsDone (shape_of size)) (Fits size) doer (word_count size) history_of acts_of
      (λ xs ys p. (history_of p.0, sym (history-append xs p.0) ∙ ap history_of p.1))
      (λ t xs ys e. acts_of-deeds t ys ∙ ap (λ l. acts_of t (history_of l)) e ∙ sym (acts_of-deeds t xs)) no_acts bare bare_has;
  claims_seen = λ id rr t v at c. (has_seen size v.key v.tags v.tags v.seen r.log [] [] (r.views_fit id v at).begins (order_same [])
      r.is_legal).claims rr t c;
}
  where
    -- its words and views, without what is carried
    bare : State Deed (View Deed ForestSize)
    bare = record { words = s.words; homes = []; views = s.views }

    bare_has : HasOneHistory (IsDone (shape_of size)) (Fits size) doer (word_count size) bare
    bare_has = record {
      log = r.log;
      owner = r.owner;
      is_legal = r.is_legal;
      unowned = r.unowned;
      held = r.held;
      wide = r.wide;
      words_fit = r.words_fit;
      views_fit = r.views_fit;
    }

-- so it is of the part of a table of both histories
pub part_holds_jobs : (key : Layout × ForestSize) {S : Type 0} (s : State S (View (Either Entry Deed) (Layout × ForestSize))) → IsSize key.1
    → HasBoth key s → HoldsJobs key.1 (state_in job_part key (word_count key.1) s)
part_holds_jobs key s small r = holds_jobs key.1 (state_in job_part key (word_count key.1) s) small
    (one_history_in job_part _ _ _ _ _ _ _ _ (is_second (λ layout. ChannelsLegal layout.kinds)
    (λ layout. cells.Fits layout.kinds) cells.maker channel_words (λ size. IsDone (shape_of size)) Fits doer word_count) key s r)
