-- Calls that close no done channel leave the done channels as they are.
use Rattle.std.specs.Prelude.{◌≡◌, ℕ, ◌<◌, true, List, Option, Some, None, is_some}
use Rattle.std.specs.List.{list_all}
use Rattle.std.proofs.Common.{sym, ap, ◌∙◌, subst, arith}
use Rattle.channel_model.specs.declared.acts.Act.{Act}
use Rattle.channel_model.specs.Floors.{Added as AddedToChannels}
use Rattle.job_model.specs.declared.acts.JobAct.{JobAct}
use Rattle.job_model.specs.Trees.{Shape, Job}
use Rattle.job_model.specs.Families.{IsEnded}
use Rattle.job_model.specs.Laws.{has_ended}
use Rattle.job_model.specs.Done.{done_channel}
use Rattle.job_model.specs.Histories.{replay as replay_jobs, Legal}
use Rattle.job_model.specs.Floors.{Added}
use Rattle.job_model.proofs.Lasting.{ended_lasts}
use Rattle.job_model.proofs.Own.{prefix_keeps}
use Rattle.note_book.specs.declared.book.Item.{Item}
use Rattle.call_meaning.specs.Seen.{SeenOnBoth}
use Rattle.call_meaning.specs.Endings.{ClosesAtOnce}
use Rattle.scope_builders.specs.Dones.{KeepsDones}
use Rattle.script_meaning.proofs.GentleNotes.{leaves_dones}
use Rattle.script_meaning.proofs.DonesUnclosed.{added_closes}

ended_test : (x : Option Job) → has_ended x ≡ true → IsEnded x
ended_test None e = cc
ended_test (Some j) e = e

test_ended : (x : Option Job) → IsEnded x → has_ended x ≡ true
test_ended None e = absurd e
test_ended (Some j) e = e

pub unclosed_kept : (who base : ℕ) (acts : List Act) (job_acts : List JobAct) (rows : List ℕ) (a b : SeenOnBoth) (group : List Item)
    → Legal b.jobs.shape b.jobs.seen → AddedToChannels who acts a.channels b.channels → list_all (leaves_dones base) acts ≡ true
    → Added who job_acts rows a.jobs b.jobs → ClosesAtOnce base group → KeepsDones base a b group
unclosed_kept who base acts job_acts rows a b group l added none h quiet = record {
  only = λ x y o r lt is.
      test_ended (replay_jobs b.jobs.seen r)
      (prefix_keeps IsEnded ended_lasts b.jobs.shape a.jobs.seen b.jobs.seen r l h.longer
      (ended_test (replay_jobs a.jobs.seen r) (o r (subst (λ (s : Shape). r < s.rows) h.same.shape lt)
      (ap is_some (sym (added_closes base who acts a.channels b.channels added none x (done_channel base r) (omega arith))) ∙ is))));
  at_once = λ x y o. quiet;
}
