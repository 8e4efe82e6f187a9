use Rattle.std.proofs.Common.{ap, get_or, ◌∙◌}
use Rattle.joined_words.specs.Seen.{view_of}
use Rattle.job_words.specs.JobParts.{jobs_in}
use Rattle.word_rules.proofs.FirstRows.{nothing_yet}
use Rattle.job_words.proofs.NewForests.{no_entries, first_fits, took_both}
use Rattle.job_words.proofs.meeting.table_alone.Goals as goal

pub new_joint-requires-clause-legal : goal.new_joint-requires-clause-legal
new_joint-requires-clause-legal c = (no_entries _, nothing_yet _)

pub new_joint-requires-clause-second : goal.new_joint-requires-clause-second
new_joint-requires-clause-second c i lt = first_fits c.as_slice.result.now
    (λ j. ap (λ ws. get_or ws j 0) c.as_slice.ensures.value ∙ c.in_ok-words.ensures.words j) c.new-kinds.result c.new-kinds.ensures
    c.args.size i

pub returns-clause-first : goal.returns-clause-first
returns-clause-first c = ap (λ x. view_of (jobs_in x)) (took_both _ _ _ (record { kinds = c.new-kinds.result }, c.args.size)
    c.in_ok-table.seat.me.0
    c.split_in-root.new.seat.me.0
    c.split_in-root.result.me.0 c.end_in.new.main.me.0 (ap (λ x. x.0) c.in_ok-table.ensures.seat.1) c.split_in-root.ensures.whole.0
    c.split_in-root.ensures.whole.1 c.end_in.ensures.whole)
