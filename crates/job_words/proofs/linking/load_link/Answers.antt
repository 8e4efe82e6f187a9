use Rattle.job_words.proofs.PartsOfAnAttach.{row_within, attached_sees, sees_done, link_found}
use Rattle.job_words.specs.Forests.{seen_by}
use Rattle.job_words.proofs.linking.load_link.Goals as goal

pub load_any_link-requires-clause-row : goal.load_any_link-requires-clause-row
load_any_link-requires-clause-row c =
    let p = c.args.pass.now in
    row_within c.args.forest.now.size (seen_by p) c.args.row c.requires.own.0.1 p.shaped p.done c.requires.attached

pub returns-clause-link : goal.returns-clause-link
returns-clause-link c =
    let v = seen_by c.args.pass.now in
    let w = seen_by c.load_any_link.new.pass in
    let size = c.args.forest.now.size in
    let sees = c.load_any_link.ensures.sees in
    link_found size w c.args.row c.load_any_link.result c.args.forest.now.small (sees_done size c.args.who v w c.requires.own.0.1 sees)
    (attached_sees c.args.who v w c.args.row sees c.requires.attached) c.requires.child c.load_any_link.ensures.narrow
    c.load_any_link.ensures.word
