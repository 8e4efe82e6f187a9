use Rattle.job_words.proofs.MayExchange.{claims}
use Rattle.job_words.proofs.PartsOfAnAttach.{claim_told}
use Rattle.job_words.specs.Forests.{seen_by}
use Rattle.job_words.proofs.claiming.claim.Goals as goal

pub exchange_word-requires-clause-may : goal.exchange_word-requires-clause-may
exchange_word-requires-clause-may c = claims c.args.forest.now.size (seen_by c.args.pass.now) c.args.who c.args.row c.args.forest.now.small
    c.requires.own.1 c.requires.row

pub returns-clause-claimed : goal.returns-clause-claimed
returns-clause-claimed c = claim_told c.args.forest.now.size c.args.who c.args.row c.exchange_word.result (seen_by c.args.pass.now)
    (seen_by c.exchange_word.new.pass) c.args.forest.now.small c.requires.own.0.1 c.exchange_word.ensures.told
