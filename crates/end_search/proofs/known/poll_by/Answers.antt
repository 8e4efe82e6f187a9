use Rattle.std.proofs.Common.{subst, sym}
use Rattle.script_reader.specs.Scripts.{program_of}
use Rattle.engine_one.specs.Trials.{TrialStands}
use Rattle.end_search.specs.declared.parts.Desk.{Desk}
use Rattle.end_search.proofs.known.poll_by.Goals as goal
use Rattle.end_search.proofs.known.poll_by.Goals.{then-not-there+in_ok-go_to, else-not-there}

pub make_poll-requires : goal.make_poll-requires
make_poll-requires g c =
    let p = program_of c.args.around.now.task.script.now in
    elim c.if-not-there.branch [
      | then-not-there+in_ok-go_to w ↦ subst (λ (desk : Desk). TrialStands p desk.trial) (sym w.desk-is) w.in_ok-go_to.ensures
      | else-not-there w ↦ subst (λ (desk : Desk). TrialStands p desk.trial) (sym w.desk-is) c.requires
    ]
