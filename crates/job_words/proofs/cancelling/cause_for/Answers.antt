use Rattle.std.proofs.Common.{sym, subst}
use Rattle.job_model.specs.declared.acts.Cause.{Cause}
use Rattle.job_model.specs.declared.acts.Reason.{Reason}
use Rattle.job_model.specs.declared.acts.Reason.TheVariants as reasons
use Rattle.job_model.specs.Needs.{Holds}
use Rattle.word_rules.specs.Deeds.{shape_of, store_of}
use Rattle.job_words.specs.Acts.{IsCauseOf}
use Rattle.job_words.proofs.StepsAsCalls.{sees_goes}
use Rattle.job_words.proofs.ClaimedRows.{goes_self}
use Rattle.job_words.proofs.CausesInWords.{child_cause}
use Rattle.job_words.specs.Forests.{seen_by}
use Rattle.job_words.proofs.cancelling.cause_for.Goals as goal

pub returns-in-Request-clause-goes : goal.returns-in-Request-clause-goes
returns-in-Request-clause-goes c = goes_self c.args.who (seen_by c.args.pass.now) c.requires.own.0.2 c.args.pass.now.done

pub returns-in-Child-clause-goes : goal.returns-in-Child-clause-goes
returns-in-Child-clause-goes c = sees_goes c.args.who (seen_by c.args.pass.now) (seen_by c.load_job.new.pass) c.load_job.ensures.sees

pub returns-in-Child-clause-cause : goal.returns-in-Child-clause-cause
returns-in-Child-clause-cause c =
    let f = c.args.forest.now in
    let p = c.args.pass.now in
    let w = seen_by c.load_job.new.pass in
    subst (λ (y : Reason). IsCauseOf f.size c.args.who c.args.row y w c.cause_of_rest.result) (sym c.in-Child.is)
    (subst (λ (x : Cause). IsCauseOf f.size c.args.who c.args.row (reasons.Child c.in-Child.child) w x) (sym c.cause_of_rest.ensures)
    (child_cause f.size c.args.who c.args.row c.in-Child.child (seen_by p) w c.load_job.result f.small c.requires.own.0.1 p.done
    c.load_job.ensures.sees c.requires.attached (subst (λ (x : Reason). Holds (shape_of f.size) (store_of (seen_by p).seen).tree
    c.args.who c.args.row x) c.in-Child.is c.requires.reason) c.load_job.ensures.word))

pub returns-in-Own-clause-goes : goal.returns-in-Own-clause-goes
returns-in-Own-clause-goes c = goes_self c.args.who (seen_by c.args.pass.now) c.requires.own.0.2 c.args.pass.now.done
