use Rattle.std.proofs.Common.{◌≤◌, rules, of_calls}
use Rattle.word_rules.specs.Rows.{without_hint}
use Rattle.job_words.proofs.StepsAsCalls.{sees_goes}
use Rattle.job_words.proofs.PartsOfAnAttach.{sees_done}
use Rattle.job_words.proofs.TriesOfAnAct.{link_parent, own_gone_sees, parent_attached}
use Rattle.job_words.proofs.DecisionsOnWords.{gone_some, gone_may, gone_told}
use Rattle.job_words.specs.Forests.{seen_by}
use Rattle.job_words.proofs.telling.gone.Goals as goal

pub update-requires-clause-attached : goal.update-requires-clause-attached
update-requires-clause-attached c =
    let size = c.args.forest.now.size in
    let u = seen_by c.load_link-parent.new.pass in
    let done = sees_done size c.args.who (seen_by c.args.pass.now) u c.requires.own.0.1 c.load_link-parent.ensures.sees in
    parent_attached size u c.args.row c.load_link-parent.result.parent c.args.forest.now.small done
    (link_parent size u c.args.row (without_hint c.load_link-parent.result) c.args.forest.now.small done c.requires.untold.2
    c.load_link-parent.ensures.link)

pub update-requires-clause-can : goal.update-requires-clause-can
update-requires-clause-can c = λ v w g k.
    let size = c.args.forest.now.size in
    let small = c.args.forest.now.small in
    let u0 = seen_by c.args.pass.now in
    let u = seen_by c.load_link-parent.new.pass in
    let sees = c.load_link-parent.ensures.sees in
    let up = link_parent size u c.args.row (without_hint c.load_link-parent.result) small
    (sees_done size c.args.who u0 u c.requires.own.0.1 sees) c.requires.untold.2 c.load_link-parent.ensures.link in
    let some : 1 ≤ w.living = gone_some size c.args.who c.args.row c.load_link-parent.result.parent w u v small
    c.load_link-parent.ensures.own.0.1 g (own_gone_sees c.args.who c.args.row u0 u sees c.requires.untold) up k in
    search rules

pub update-requires-clause-may : goal.update-requires-clause-may
update-requires-clause-may c = λ v w d g k p.
    let size = c.args.forest.now.size in
    let small = c.args.forest.now.small in
    let u0 = seen_by c.args.pass.now in
    let u = seen_by c.load_link-parent.new.pass in
    let sees = c.load_link-parent.ensures.sees in
    let own = c.load_link-parent.ensures.own in
    let up = link_parent size u c.args.row (without_hint c.load_link-parent.result) small
    (sees_done size c.args.who u0 u c.requires.own.0.1 sees) c.requires.untold.2 c.load_link-parent.ensures.link in
    gone_may size c.args.who c.args.row c.load_link-parent.result.parent w d u v small own.0.1 own.1 g
    (own_gone_sees c.args.who c.args.row u0 u sees c.requires.untold) up k (search of_calls)

pub returns-clause-answer : goal.returns-clause-answer
returns-clause-answer c =
    let size = c.args.forest.now.size in
    let small = c.args.forest.now.small in
    let u0 = seen_by c.args.pass.now in
    let u = seen_by c.load_link-parent.new.pass in
    let sees = c.load_link-parent.ensures.sees in
    let done = sees_done size c.args.who u0 u c.requires.own.0.1 sees in
    let up = link_parent size u c.args.row (without_hint c.load_link-parent.result) small done c.requires.untold.2
    c.load_link-parent.ensures.link in
    let t = c.update.ensures.answer in
    gone_told size c.args.who c.args.row c.load_link-parent.result.parent t.0 t.1 u0 u (seen_by c.update.new.pass) c.update.result small
    c.load_link-parent.ensures.own.0.1 (parent_attached size u c.args.row c.load_link-parent.result.parent small done up)
    (sees_goes c.args.who u0 u sees) up (let p = t.2 in search of_calls) t.3
