use Rattle.std.proofs.Common.{sym, subst}
use Rattle.job_words.specs.JobParts.{jobs_in}
use Rattle.job_words.proofs.StepsOfATable.{TableSeen, PassLaws}
use Rattle.word_seats.proofs.beside.hear_jobs.Goals as goal

pub invariant_of-jobs : goal.invariant_of-jobs
invariant_of-jobs c =
    let p = c.args.jobs.now in
    let l = subst (λ (v : TableSeen). PassLaws (jobs_in v)) (sym c.hear.ensures.other.1)
    (record { shaped = p.shaped; done = p.done; legal = p.legal; claimed = p.claimed; ungiven = p.ungiven }) in
    record { shaped = l.shaped; done = l.done; legal = l.legal; claimed = l.claimed; ungiven = l.ungiven }
