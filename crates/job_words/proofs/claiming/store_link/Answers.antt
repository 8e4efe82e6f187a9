use Rattle.job_words.proofs.MayExchange.{stores_link}
use Rattle.job_words.proofs.PartsOfAnAttach.{link_told}
use Rattle.job_words.specs.Forests.{seen_by}
use Rattle.job_words.proofs.claiming.store_link.Goals as goal

pub exchange_word-requires-clause-may : goal.exchange_word-requires-clause-may
exchange_word-requires-clause-may c = stores_link c.args.forest.now.size (seen_by c.args.pass.now) c.args.who c.args.row c.args.old
    c.requires.mine.0 c.args.new c.requires.own.1 c.requires.mine.1 c.requires.link c.requires.short

pub returns-clause-goes : goal.returns-clause-goes
returns-clause-goes c = (link_told c.args.who c.args.row c.args.old c.args.new c.exchange_word.result (seen_by c.args.pass.now)
    (seen_by c.exchange_word.new.pass) c.requires.mine c.exchange_word.ensures.told).0

pub returns-clause-mine : goal.returns-clause-mine
returns-clause-mine c = (link_told c.args.who c.args.row c.args.old c.args.new c.exchange_word.result (seen_by c.args.pass.now)
    (seen_by c.exchange_word.new.pass) c.requires.mine c.exchange_word.ensures.told).1
