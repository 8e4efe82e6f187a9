-- The summary of a run at rest, by the tallies of its books.
use Rattle.std.specs.Prelude.{◌≡◌, ℕ, ◌+◌, ◌<◌, Bool, List, [], ◌∷◌, Option, refl}
use Rattle.std.proofs.Common.{sym, ap, ◌∙◌}
use Rattle.channel_model.specs.Laws.{how_many}
use Rattle.channel_model.specs.declared.acts.Entry.{Entry}
use Rattle.job_model.specs.declared.acts.End.{End}
use Rattle.job_model.specs.declared.acts.JobAct.{JobAct}
use Rattle.job_model.specs.declared.acts.JobAct.TheVariants.{Finish}
use Rattle.job_model.specs.declared.acts.JobEntry.{JobEntry}
use Rattle.job_model.specs.Histories.{acts_of, acts_in}
use Rattle.note_book.specs.declared.book.Item.{Item}
use Rattle.note_book.specs.Items.{job_acts_in}
use Rattle.script_grammar.specs.Programs.{Program}
use Rattle.script_grammar.specs.Tags.{coroutine_count, job_count}
use Rattle.script_meaning.specs.Books.{BooksOf}
use Rattle.script_meaning.specs.Shapes.{job_shape}
use Rattle.script_meaning.proofs.BodiesOpen.{shape_fits}
use Rattle.run_laws.specs.Ends.{IsRunAtRest}
use Rattle.run_report.specs.Jobs.{end_noted, job_acts_noted}
use Rattle.run_report.specs.Summaries.{job_counts_text, jobs_counted, summary_text}
use Rattle.tally_laws.specs.TallyTexts.{line_of_tallies}
use Rattle.tally_laws.proofs.SummaryFolds.{summary_tallied}
use Rattle.tally_laws.specs.JobTallies.{attaches_one, completes_one, cancels_one, is_completed, is_cancelled, jobs_tallied}
use Rattle.tally_laws.specs.Tallies.{tallied}
use Rattle.tally_laws.proofs.Counting.{count_same}
use Rattle.tally_laws.proofs.Summing.{sum_over}
use Rattle.tally_laws.specs.LinesTold.{job_numbers_text, job_tally_text, line_of_books}
use Rattle.tally_laws.proofs.WaitsSettled.{none_lost}
use Rattle.tally_laws.proofs.Printed.{printed, printed_jobs, job_parts, jobs_noted}
use Rattle.tally_laws.proofs.Parted.{by_books}
use Rattle.tally_laws.proofs.JobsCounted.{finishes_one, attached_counted, completed_counted, cancelled_counted}

-- ---- the tallies of all books, added

attached_over : (books : List (List Item)) → (jobs_tallied books).attached ≡ sum_over (λ b. how_many attaches_one (job_acts_in b)) books
attached_over [] = refl
attached_over (b ∷ books) = ap (λ n. how_many attaches_one (job_acts_in b) + n) (attached_over books)

completed_over : (books : List (List Item)) → (jobs_tallied books).completed ≡ sum_over (λ b. how_many completes_one (job_acts_in b)) books
completed_over [] = refl
completed_over (b ∷ books) = ap (λ n. how_many completes_one (job_acts_in b) + n) (completed_over books)

cancelled_over : (books : List (List Item)) → (jobs_tallied books).cancelled ≡ sum_over (λ b. how_many cancels_one (job_acts_in b)) books
cancelled_over [] = refl
cancelled_over (b ∷ books) = ap (λ n. how_many cancels_one (job_acts_in b) + n) (cancelled_over books)

completes_same : (a : JobAct) → finishes_one is_completed a ≡ completes_one a
completes_same (Finish q end) = refl
completes_same other = refl

cancels_same : (a : JobAct) → finishes_one is_cancelled a ≡ cancels_one a
cancels_same (Finish q end) = refl
cancels_same other = refl

-- the same numbers give the same text
same_numbers : (a b c a' b' c' : ℕ) → a ≡ a' → b ≡ b' → c ≡ c' → job_numbers_text a b c ≡ job_numbers_text a' b' c'
same_numbers a b c a' b' c' p q r = ap (λ i. job_numbers_text i b c) p
    ∙ (ap (λ i. job_numbers_text a' i c) q ∙ ap (λ i. job_numbers_text a' b' i) r)

module _ (p : Program) (books : List (List Item)) (channels : List Entry) (jobs : List JobEntry) (some : 0 < coroutine_count p)
    (of : BooksOf p books channels jobs) where
  over_books : (f : JobAct → Bool) → sum_over (λ b. how_many f (job_acts_in b)) books ≡ how_many f (acts_in jobs)
  over_books f = by_books (λ (e : JobEntry). e.who) (λ (e : JobEntry). e.act) acts_of job_parts f job_acts_in [] jobs books refl
      of.job_parts

  jobs_told : job_counts_text (jobs_counted (job_acts_noted books) (job_count p)) ≡ job_tally_text (jobs_tallied books)
  jobs_told =
      let same = jobs_noted p books channels jobs of in
      same_numbers _ _ _ _ _ _
      (attached_counted (job_shape p) jobs (shape_fits p 0 some) of.legal_jobs (job_acts_noted books) same
      ∙ ap (λ n. 1 + n) (sym (attached_over books ∙ over_books attaches_one)))
      (completed_counted (job_shape p) jobs (shape_fits p 0 some) of.legal_jobs (job_acts_noted books) same
      ∙ (count_same (finishes_one is_completed) completes_one completes_same (acts_in jobs)
      ∙ sym (completed_over books ∙ over_books completes_one)))
      (cancelled_counted (job_shape p) jobs (shape_fits p 0 some) of.legal_jobs (job_acts_noted books) same
      ∙ (count_same (finishes_one is_cancelled) cancels_one cancels_same (acts_in jobs)
      ∙ sym (cancelled_over books ∙ over_books cancels_one)))

pub summary_told : (p : Program) (books : List (List Item)) (channels : List Entry) (jobs : List JobEntry) (root : Option End)
    → 0 < coroutine_count p → IsRunAtRest p books channels jobs root → summary_text p books ≡ line_of_books p.version books root
summary_told p books channels jobs root some rests =
    summary_tallied p books channels jobs rests.0 (none_lost p books channels jobs rests.0 root rests.1)
    (λ c q. sym (printed p books channels jobs rests.0 c q))
    ∙ (ap (λ t. line_of_tallies p.version t (tallied books) (end_noted 0 (job_acts_noted books)))
    (jobs_told p books channels jobs some rests.0)
    ∙ ap (line_of_tallies p.version (job_tally_text (jobs_tallied books)) (tallied books))
    ((printed_jobs p books channels jobs rests.0).root ∙ rests.1.ended))
