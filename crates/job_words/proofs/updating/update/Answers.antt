use Rattle.std.proofs.Common.{ℕ, [], refl}
use Rattle.job_words.specs.declared.decision.Decision.TheVariants.{Keep, Change}
use Rattle.job_words.specs.Passes.{Seen, Sees, Goes}
use Rattle.job_words.proofs.StepsAsCalls.{sees_goes, goes_trans}
use Rattle.job_words.proofs.ClaimedRows.{goes_self}
use Rattle.job_words.proofs.LostExchangesGrow.{nearer}
use Rattle.job_words.proofs.TriesOfAnAct.{lost}
use Rattle.job_words.specs.Forests.{seen_by}
use Rattle.job_words.proofs.updating.update.Goals as goal

pub tries-init : goal.tries-init
tries-init g c = record {
  own = c.requires.own;
  goes = goes_self c.args.who (seen_by c.args.pass.now) c.requires.own.0.2 c.args.pass.now.done;
  attached = c.requires.attached;
}

-- from the call to the last load
loaded : (who : ℕ) (u v w : Seen) → Goes who [] u v → Sees who v w → Goes who [] u w
loaded who u v w g s = goes_trans who [] [] u v w g (sees_goes who v w s)

pub decide-requires : goal.decide-requires
decide-requires g c = c.requires.can (seen_by c.load_job-word.new.pass) c.load_job-word.result
    (loaded c.args.who (seen_by c.args.pass.now) (seen_by c.tries.pass) (seen_by c.load_job-word.new.pass) c.tries.invariant.goes
    c.load_job-word.ensures.sees) c.load_job-word.ensures.word

pub returns-in-Keep-clause-answer : goal.returns-in-Keep-clause-answer
returns-in-Keep-clause-answer g c = (
  c.load_job-word.result,
  Keep c.in-Keep.answer,
  c.in-Keep.ensures,
  (
    loaded c.args.who (seen_by c.args.pass.now) (seen_by c.tries.pass) (seen_by c.load_job-word.new.pass) c.tries.invariant.goes
        c.load_job-word.ensures.sees,
    c.load_job-word.ensures.word,
    refl,
  ),
)

pub act_on-requires-clause-narrow : goal.act_on-requires-clause-narrow
act_on-requires-clause-narrow g c = (
  c.load_job-word.ensures.word.narrow,
  (c.requires.may (seen_by c.load_job-word.new.pass) c.load_job-word.result (Change c.in-Change.new c.in-Change.act c.in-Change.answer)
      (loaded c.args.who (seen_by c.args.pass.now) (seen_by c.tries.pass) (seen_by c.load_job-word.new.pass) c.tries.invariant.goes
      c.load_job-word.ensures.sees) c.load_job-word.ensures.word c.in-Change.ensures).0,
)

pub act_on-requires-clause-may : goal.act_on-requires-clause-may
act_on-requires-clause-may g c =
    (c.requires.may (seen_by c.load_job-word.new.pass) c.load_job-word.result (Change c.in-Change.new c.in-Change.act c.in-Change.answer)
    (loaded c.args.who (seen_by c.args.pass.now) (seen_by c.tries.pass) (seen_by c.load_job-word.new.pass) c.tries.invariant.goes
    c.load_job-word.ensures.sees) c.load_job-word.ensures.word c.in-Change.ensures).1

pub returns-then-act_on-clause-answer : goal.returns-then-act_on-clause-answer
returns-then-act_on-clause-answer g c = (
  c.load_job-word.result,
  Change c.in-Change.new c.in-Change.act c.in-Change.answer,
  c.in-Change.ensures,
  (
    record {
      before = (seen_by c.load_job-word.new.pass);
      goes = loaded c.args.who (seen_by c.args.pass.now) (seen_by c.tries.pass) (seen_by c.load_job-word.new.pass)
          c.tries.invariant.goes c.load_job-word.ensures.sees;
      does = c.if-act_on.ensures.told;
    },
    c.load_job-word.ensures.word.narrow,
    refl,
  ),
)

pub tries-smaller : goal.tries-smaller
tries-smaller g c = nearer c.args.forest.now.size (seen_by c.tries.pass) (seen_by c.act_on.new.pass) c.args.forest.now.small
    c.act_on.ensures.own.0.1 c.act_on.new.pass.done (lost c.args.who c.args.row c.load_job-word.result (seen_by c.tries.pass)
    (seen_by c.load_job-word.new.pass) (seen_by c.act_on.new.pass) c.load_job-word.ensures.sees c.load_job-word.ensures.attached
    c.load_job-word.ensures.word c.if-act_on.ensures.told).grew

pub tries-preserved : goal.tries-preserved
tries-preserved g c = record {
  own = c.act_on.ensures.own;
  goes = goes_trans c.args.who [] [] (seen_by c.args.pass.now) (seen_by c.tries.pass) (seen_by c.act_on.new.pass) c.tries.invariant.goes
      (lost c.args.who c.args.row c.load_job-word.result (seen_by c.tries.pass) (seen_by c.load_job-word.new.pass)
      (seen_by c.act_on.new.pass) c.load_job-word.ensures.sees c.load_job-word.ensures.attached c.load_job-word.ensures.word
      c.if-act_on.ensures.told).goes;
  attached = c.act_on.ensures.attached;
}
