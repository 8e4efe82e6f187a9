use Rattle.std.proofs.Common.{◌≡◌, Some, None, sym, ◌∙◌, refl}
use Rattle.word_rules.specs.Rows.{without_hint}
use Rattle.job_words.proofs.PartsOfAnAttach.{sees_done}
use Rattle.job_words.proofs.TriesOfAnAct.{link_answer}
use Rattle.job_words.specs.Forests.{seen_by}
use Rattle.job_words.proofs.linking.link.Goals as goal

pub returns-then-word-eq0-clause-answer : goal.returns-then-word-eq0-clause-answer
returns-then-word-eq0-clause-answer c =
    let v0 = seen_by c.args.pass.now in
    let v1 = seen_by c.load_link-word.new.pass in
    let size = c.args.forest.now.size in
    let sees = c.load_link-word.ensures.sees in
    link_answer size c.args.who c.args.row v0 v1 (without_hint c.load_link-word.result) None c.args.forest.now.small
    (sees_done size c.args.who v0 v1 c.requires.own.0.1 sees) c.requires.child sees c.load_link-word.ensures.link
    (sym c.if-word-eq0.true) (λ e. c.if-word-eq0.true) (λ d e. absurd (let k : None ≡ Some d = e in cc))

pub returns-else-word-eq0-clause-answer : goal.returns-else-word-eq0-clause-answer
returns-else-word-eq0-clause-answer c =
    let v0 = seen_by c.args.pass.now in
    let v1 = seen_by c.load_link-word.new.pass in
    let size = c.args.forest.now.size in
    let sees = c.load_link-word.ensures.sees in
    let n = c.load_link-word.result.next in
    link_answer size c.args.who c.args.row v0 v1 (without_hint c.load_link-word.result) (Some n) c.args.forest.now.small
    (sees_done size c.args.who v0 v1 c.requires.own.0.1 sees) c.requires.child sees c.load_link-word.ensures.link refl
    (λ e. absurd (let k : Some n ≡ None = e in cc)) (λ d e z. let k : n ≡ d = cc in c.if-word-eq0.false (k ∙ z))

pub returns-then-word-eq0-clause-giving : goal.returns-then-word-eq0-clause-giving
returns-then-word-eq0-clause-giving c = c.load_link-word.ensures.sees.giving

pub returns-else-word-eq0-clause-giving : goal.returns-else-word-eq0-clause-giving
returns-else-word-eq0-clause-giving c = c.load_link-word.ensures.sees.giving
