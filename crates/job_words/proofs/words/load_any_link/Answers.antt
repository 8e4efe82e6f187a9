use Rattle.std.proofs.Common.{arith, refl, sym, subst}
use Rattle.word_rules.specs.Deeds.{store_of, MayBeLink}
use Rattle.job_words.proofs.PartsOfAnAttach.{sees_done, link_small}
use Rattle.job_words.specs.Forests.{seen_by}
use Rattle.job_words.proofs.words.load_any_link.Goals as goal

pub unreachable-requires : goal.unreachable-requires
unreachable-requires c =
    let v = seen_by c.args.pass.now in
    let w = seen_by c.load_word-number.new.pass in
    let size = c.args.forest.now.size in
    let lt = link_small size w c.args.row c.load_word-number.result c.args.forest.now.small
    (sees_done size c.args.who v w c.requires.own.0.1 c.load_word-number.ensures.sees)
    (c.load_word-number.ensures.found.link c.args.row c.requires.child refl) in
    let le = c.in-None.ensures.none in
    omega arith

pub returns-clause-word : goal.returns-clause-word
returns-clause-word c =
    let w = seen_by c.load_word-number.new.pass in
    subst (MayBeLink (store_of w.seen) c.args.row) (sym c.in-Some.ensures.word.0)
    (c.load_word-number.ensures.found.link c.args.row c.requires.child refl)
