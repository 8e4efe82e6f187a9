use Rattle.std.proofs.Common.{[], Some, sym, ◌∙◌, ap}
use Rattle.job_words.proofs.StepsAsCalls.{sees_goes, goes_trans}
use Rattle.job_words.proofs.PartsOfAnAttach.{sees_done}
use Rattle.job_words.proofs.LooksSee.{kind_goes, view_seen, look_some, look_none}
use Rattle.job_words.specs.Forests.{seen_by}
use Rattle.job_words.proofs.looking.look.Goals as goal

pub returns-in-None-clause-answer : goal.returns-in-None-clause-answer
returns-in-None-clause-answer c = look_none c.args.who c.args.row (seen_by c.args.pass.now) (seen_by c.kind_if_attached.new.pass)
    c.in-None.ensures.answer

pub returns-in-Some-clause-answer : goal.returns-in-Some-clause-answer
returns-in-Some-clause-answer c =
    let size = c.args.forest.now.size in
    let v0 = seen_by c.args.pass.now in
    let v1 = seen_by c.kind_if_attached.new.pass in
    let v2 = seen_by c.load_job-word.new.pass in
    let t = c.in-Some.ensures.answer in
    let sees = c.load_job-word.ensures.sees in
    let last = sees_goes c.args.who v1 v2 sees in
    let view = view_seen size v2 c.args.row c.load_job-word.result c.in-Some.kind c.args.forest.now.small
    (sees_done size c.args.who v1 v2 c.kind_if_attached.ensures.own.0.1 sees) c.load_job-word.ensures.attached
    c.load_job-word.ensures.word (kind_goes c.args.who [] v1 v2 c.args.row c.in-Some.kind last t.1) in
    look_some c.args.who c.args.row v0 v2 c.view_of.result (goes_trans c.args.who [] [] v0 v1 v2 t.0 last) (view
    ∙ ap (λ x. Some x) (sym c.view_of.ensures))

pub returns-in-None-clause-giving : goal.returns-in-None-clause-giving
returns-in-None-clause-giving c = let t = c.in-None.ensures.answer in t.2.giving ∙ t.1.giving

pub returns-in-Some-clause-giving : goal.returns-in-Some-clause-giving
returns-in-Some-clause-giving c = c.load_job-word.ensures.sees.giving ∙ c.in-Some.ensures.answer.0.giving
