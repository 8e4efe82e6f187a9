use Rattle.std.proofs.Common.{[], ◌∷◌, true, is_some, sym, ap, subst, arith}
use Rattle.job_words.specs.Passes.{Seen}
use Rattle.job_words.specs.Attaches.{ClaimAnswer}
use Rattle.job_words.proofs.StepsAsCalls.{sees_goes, goes_trans}
use Rattle.job_words.proofs.ClaimedRows.{claimed_more}
use Rattle.job_words.specs.Forests.{seen_by}
use Rattle.job_words.proofs.claiming.claim_scope.Goals as goal

pub loop-row-init : goal.loop-row-init
loop-row-init c = record {
  own = c.scopes_from-row.ensures.own;
  goes = sees_goes c.args.who (seen_by c.args.pass.now) (seen_by c.scopes_from-row.new.pass) c.scopes_from-row.ensures.sees;
  from = c.scopes_from-row.ensures.range.0;
  claimed = c.scopes_from-row.ensures.claimed;
}

pub raise_scopes-requires-clause-claimed : goal.raise_scopes-requires-clause-claimed
raise_scopes-requires-clause-claimed c r le lt =
    let a = c.if-claim.ensures.claimed in
    claimed_more c.args.who (c.loop-row.row ∷ []) c.args.forest.now.size.coroutines c.loop-row.row (seen_by c.loop-row.pass)
    (seen_by c.claim.new.pass) a.0 c.loop-row.invariant.claimed (ap is_some a.1.claimer) r le (omega arith)

pub returns-then-claim-clause-claimed : goal.returns-then-claim-clause-claimed
returns-then-claim-clause-claimed c =
    let u = seen_by c.args.pass.now in
    let a = c.if-claim.ensures.claimed in (
      subst (λ (w : Seen). ClaimAnswer c.args.who c.loop-row.row u w true) (sym c.raise_scopes.ensures.same) (
        goes_trans c.args.who [] (c.loop-row.row ∷ []) u (seen_by c.loop-row.pass) (seen_by c.claim.new.pass) c.loop-row.invariant.goes
            a.0,
        a.1,
      ),
      c.loop-row.invariant.from,
      c.loop-row-test.true,
    )

pub loop-row-preserved : goal.loop-row-preserved
loop-row-preserved c =
    let v = seen_by c.loop-row.pass in
    let w = seen_by c.claim.new.pass in
    let a = c.if-claim.ensures.claimed in
    record {
      own = c.claim.ensures.own;
      goes = goes_trans c.args.who [] [] (seen_by c.args.pass.now) v w c.loop-row.invariant.goes a.0;
      from = omega (arith, c.loop-row.invariant.from);
      claimed = λ r le lt. claimed_more c.args.who [] c.args.forest.now.size.coroutines c.loop-row.row v w a.0 c.loop-row.invariant.claimed
          a.1 r le (omega arith);
    }
