use Rattle.std.proofs.Common.{arith, refl}
use Rattle.job_words.proofs.claiming.scopes_from.Goals as goal

pub returns-then-hint-from-clause-claimed : goal.returns-then-hint-from-clause-claimed
returns-then-hint-from-clause-claimed c r le lt = c.load_word-hint.ensures.found.hint refl r le
    (omega (arith, c.if-hint-from.true, c.from.ensures))

pub returns-clause-claimed : goal.returns-clause-claimed
returns-clause-claimed c r le lt = c.load_word-hint.ensures.found.hint refl r le (omega (arith, c.max.ensures))
