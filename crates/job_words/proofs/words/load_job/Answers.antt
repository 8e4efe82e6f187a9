use Rattle.std.proofs.Common.{◌<◌, arith, refl}
use Rattle.job_words.proofs.PartsOfAnAttach.{row_within, attached_sees, is_word}
use Rattle.job_words.specs.Forests.{seen_by}
use Rattle.job_words.proofs.words.load_job.Goals as goal

pub load_word-number-requires-clause-word : goal.load_word-number-requires-clause-word
load_word-number-requires-clause-word c =
    let p = c.args.pass.now in
    let lt : c.args.row < c.args.forest.now.size.rows = row_within c.args.forest.now.size (seen_by p) c.args.row c.requires.own.0.1 p.shaped
    p.done c.requires.attached in
    omega arith

pub unreachable-requires : goal.unreachable-requires
unreachable-requires c =
    let w = seen_by c.load_word-number.new.pass in
    is_word w c.args.row c.load_word-number.result (attached_sees c.args.who (seen_by c.args.pass.now) w c.args.row
    c.load_word-number.ensures.sees c.requires.attached) (c.load_word-number.ensures.found.job c.args.row refl)
    (λ w. c.in-None.ensures w)

pub returns-clause-attached : goal.returns-clause-attached
returns-clause-attached c = attached_sees c.args.who (seen_by c.args.pass.now) (seen_by c.load_word-number.new.pass) c.args.row
    c.load_word-number.ensures.sees c.requires.attached
