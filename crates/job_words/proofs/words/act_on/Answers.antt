use Rattle.std.proofs.Common.{◌*◌, ◌<◌, arith}
use Rattle.job_words.proofs.PartsOfAnAttach.{row_within, attached_told}
use Rattle.job_words.specs.Forests.{seen_by}
use Rattle.job_words.proofs.words.act_on.Goals as goal

pub exchange_word-requires-clause-word : goal.exchange_word-requires-clause-word
exchange_word-requires-clause-word c =
    let p = c.args.pass.now in
    let lt : c.args.row < c.args.forest.now.size.rows = row_within c.args.forest.now.size (seen_by p) c.args.row c.requires.own.0.1 p.shaped
    p.done c.requires.attached in
    omega arith

pub returns-clause-attached : goal.returns-clause-attached
returns-clause-attached c = attached_told c.args.who _ (2 * c.args.row) _ (seen_by c.args.pass.now) (seen_by c.exchange_word.new.pass)
    c.exchange_word.result c.args.row c.exchange_word.ensures.told c.requires.attached
