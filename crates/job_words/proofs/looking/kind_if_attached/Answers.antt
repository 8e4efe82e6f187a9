use Rattle.std.proofs.Common.{[], ◌∙◌, ap, refl}
use Rattle.word_rules.specs.Deeds.{store_of}
use Rattle.job_model.specs.Trees.{kind_of}
use Rattle.word_rules.specs.Rows.{without_hint}
use Rattle.job_words.proofs.StepsAsCalls.{sees_goes, goes_trans}
use Rattle.job_words.proofs.ClaimedRows.{goes_self}
use Rattle.job_words.proofs.PartsOfAnAttach.{attached_sees, sees_done, link_found}
use Rattle.job_words.proofs.LooksSee.{not_a_word, root_kind, link_above, hint_attached, link_kind, not_among}
use Rattle.job_words.specs.Forests.{seen_by}
use Rattle.job_words.proofs.looking.kind_if_attached.Goals as goal

pub returns-then-row-eq0-clause-answer : goal.returns-then-row-eq0-clause-answer
returns-then-row-eq0-clause-answer c =
    let v = seen_by c.args.pass.now in (
      goes_self c.args.who v c.requires.own.0.2 c.args.pass.now.done,
      ap (λ n. kind_of ((store_of v.seen).tree n)) c.if-row-eq0.true
          ∙ root_kind v.key v.seen c.args.pass.now.done,
    )

-- the hint was found
pub returns-then-link-clause-answer : goal.returns-then-link-clause-answer
returns-then-link-clause-answer c =
    let size = c.args.forest.now.size in
    let v0 = seen_by c.args.pass.now in
    let v1 = seen_by c.load_any_link-link.new.pass in
    let sees = c.load_any_link-link.ensures.sees in
    let x = c.load_any_link-link.result in
    let h = sees_done size c.args.who v0 v1 c.requires.own.0.1 sees in
    let a = hint_attached size v1 c.args.row x c.args.forest.now.small h c.load_any_link-link.ensures.word c.if-link.true in (
      sees_goes c.args.who v0 v1 sees,
      link_kind v1 c.args.row (without_hint x)
          (link_found size v1 c.args.row x c.args.forest.now.small h a c.if-row-eq0.false c.load_any_link-link.ensures.narrow
          c.load_any_link-link.ensures.word),
    )

pub returns-in-None-clause-answer : goal.returns-in-None-clause-answer
returns-in-None-clause-answer c =
    let v0 = seen_by c.args.pass.now in
    let v1 = seen_by c.load_any_link-link.new.pass in
    let v2 = seen_by c.load_word-number.new.pass in
    let g = goes_trans c.args.who [] [] v0 v1 v2 (sees_goes c.args.who v0 v1 c.load_any_link-link.ensures.sees)
    (sees_goes c.args.who v1 v2 c.load_word-number.ensures.sees) in (
      v2,
      g,
      goes_self c.args.who v2 c.load_word-number.ensures.own.0.2 c.load_word-number.new.pass.done,
      not_a_word v2 c.args.row c.load_word-number.result (c.load_word-number.ensures.found.job c.args.row refl)
          (λ w. c.in-None.ensures w),
    )

pub is_child-requires-clause-parent : goal.is_child-requires-clause-parent
is_child-requires-clause-parent c =
    let size = c.args.forest.now.size in
    let v0 = seen_by c.args.pass.now in
    let v1 = seen_by c.load_any_link-link.new.pass in
    let v2 = seen_by c.load_word-number.new.pass in
    let x = c.load_any_link-link.result in
    attached_sees c.args.who v1 v2 x.parent c.load_word-number.ensures.sees
    (link_above size v1 c.args.row x c.args.forest.now.small
    (sees_done size c.args.who v0 v1 c.requires.own.0.1 c.load_any_link-link.ensures.sees) c.load_any_link-link.ensures.narrow
    c.load_any_link-link.ensures.word c.if-link.false)

pub returns-then-not-is_child-clause-answer : goal.returns-then-not-is_child-clause-answer
returns-then-not-is_child-clause-answer c =
    let size = c.args.forest.now.size in
    let v0 = seen_by c.args.pass.now in
    let v1 = seen_by c.load_any_link-link.new.pass in
    let v2 = seen_by c.load_word-number.new.pass in
    let v3 = seen_by c.is_child.new.pass in
    let sees = c.load_any_link-link.ensures.sees in
    not_among size c.args.who c.args.row v0 v1 v2 v3 c.load_any_link-link.result c.args.forest.now.small
    c.load_any_link-link.ensures.own.0.1 (sees_done size c.args.who v0 v1 c.requires.own.0.1 sees) c.if-row-eq0.false
    (sees_goes c.args.who v0 v1 sees) (sees_goes c.args.who v1 v2 c.load_word-number.ensures.sees) c.load_any_link-link.ensures.narrow
    c.load_any_link-link.ensures.word c.if-not-is_child.ensures.found

pub returns-clause-answer : goal.returns-clause-answer
returns-clause-answer c =
    let v0 = seen_by c.args.pass.now in
    let v1 = seen_by c.load_any_link-link.new.pass in
    let v2 = seen_by c.load_word-number.new.pass in
    let v3 = seen_by c.is_child.new.pass in
    let v4 = seen_by c.load_link.new.pass in
    let a = goes_trans c.args.who [] [] v0 v1 v2 (sees_goes c.args.who v0 v1 c.load_any_link-link.ensures.sees)
    (sees_goes c.args.who v1 v2 c.load_word-number.ensures.sees) in
    let b = goes_trans c.args.who [] [] v2 v3 v4 c.if-not-is_child.ensures.found.0 (sees_goes c.args.who v3 v4 c.load_link.ensures.sees) in
    (goes_trans c.args.who [] [] v0 v2 v4 a b, link_kind v4 c.args.row (without_hint c.load_link.result) c.load_link.ensures.link)
