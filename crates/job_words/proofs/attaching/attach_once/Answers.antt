use Rattle.std.proofs.Common.{◌≡◌, ℕ, ◌<◌, ◌≤◌, true, [], is_some, refl, sym, ◌∙◌, ap, subst, arith}
use Rattle.job_model.specs.Trees.{is_ended}
use Rattle.job_model.specs.Families.{IsEnded}
use Rattle.job_model.specs.declared.acts.JobKind.{JobKind}
use Rattle.word_rules.specs.Rows.{job_code, new_word, new_link, with_newest, IsNarrow, IsNarrowLink}
use Rattle.word_rules.specs.Deeds.{store_of}
use Rattle.job_words.specs.Passes.{Seen, IsMine, Sees, Goes}
use Rattle.job_words.specs.Attaches.{IsAttached, AttachedNow}
use Rattle.word_rules.specs.declared.job_word.JobWord.{JobWord}
use Rattle.word_rules.specs.declared.link_word.LinkWord.{LinkWord}
use Rattle.job_words.proofs.OneCodeOneWord.{link_code_is, link_code_short}
use Rattle.job_words.proofs.MayExchange.{attaches_row, not_root}
use Rattle.job_words.proofs.StepsAsCalls.{sees_goes, goes_trans}
use Rattle.job_words.proofs.LostExchangesGrow.{grew, grew_more, mine_sees, attached_goes}
use Rattle.job_words.proofs.PartsOfAnAttach.{row_within, attached_words, sees_done, living_few, state_seen}
use Rattle.job_words.specs.Forests.{seen_by}
use Rattle.job_words.proofs.attaching.attach_once.Goals as goal

pub returns-then-is_completed-clause-tried : goal.returns-then-is_completed-clause-tried
returns-then-is_completed-clause-tried c = state_seen IsEnded c.args.forest.now.size c.args.who (seen_by c.args.pass.now)
    (seen_by c.load_job-above.new.pass) c.args.parent c.load_job-above.result c.args.forest.now.small c.requires.own.0.1
    c.load_job-above.ensures.sees c.load_job-above.ensures.attached c.load_job-above.ensures.word
    (λ j e. ap (λ (x : JobWord). is_ended x.state) e ∙ sym c.is_completed.ensures ∙ c.if-is_completed.true)

narrow_link : (p n tag rows : ℕ) (kind : JobKind) → p < rows → rows ≤ 16000 → n < 16384 → tag < 65536 → IsNarrowLink (new_link p n tag kind)
narrow_link p n tag rows kind lp few ln lt = record { parent = omega arith; next = ln; tag = lt }

pub pack-new_link-requires : goal.pack-new_link-requires
pack-new_link-requires c =
    let p = c.args.pass.now in
    narrow_link c.args.parent c.load_job-above.result.first_child c.args.tag c.args.forest.now.size.rows c.args.kind
    (row_within c.args.forest.now.size (seen_by p) c.args.parent c.requires.own.0.1 p.shaped p.done c.requires.parent)
    c.args.forest.now.small.few c.load_job-above.ensures.word.narrow.first_child (omega (arith, c.ranges.tag.fits))

pub store_link-requires-clause-mine : goal.store_link-requires-clause-mine
store_link-requires-clause-mine c = (
  c.args.job,
  mine_sees c.args.who c.args.row c.args.link c.args.job (seen_by c.args.pass.now)
      (seen_by c.load_job-above.new.pass) c.load_job-above.ensures.sees c.requires.mine,
)

pub store_link-requires-clause-link : goal.store_link-requires-clause-link
store_link-requires-clause-link c =
    let p = c.args.pass.now in
    let v1 = seen_by c.load_job-above.new.pass in
    let link : LinkWord = new_link c.args.parent c.load_job-above.result.first_child c.args.tag c.args.kind in
    let narrow = narrow_link c.args.parent c.load_job-above.result.first_child c.args.tag c.args.forest.now.size.rows c.args.kind
    (row_within c.args.forest.now.size (seen_by p) c.args.parent c.requires.own.0.1 p.shaped p.done c.requires.parent)
    c.args.forest.now.small.few c.load_job-above.ensures.word.narrow.first_child (omega (arith, c.ranges.tag.fits)) in
    λ w nw e. subst (λ (x : LinkWord). is_some ((store_of v1.seen).tree x.parent) ≡ true)
    (link_code_is link w narrow nw (sym c.pack-new_link.ensures ∙ sym e)) c.load_job-above.ensures.attached

pub store_link-requires-clause-short : goal.store_link-requires-clause-short
store_link-requires-clause-short c =
    let p = c.args.pass.now in
    let link : LinkWord = new_link c.args.parent c.load_job-above.result.first_child c.args.tag c.args.kind in
    let narrow = narrow_link c.args.parent c.load_job-above.result.first_child c.args.tag c.args.forest.now.size.rows c.args.kind
    (row_within c.args.forest.now.size (seen_by p) c.args.parent c.requires.own.0.1 p.shaped p.done c.requires.parent)
    c.args.forest.now.small.few c.load_job-above.ensures.word.narrow.first_child (omega (arith, c.ranges.tag.fits)) in
    subst (λ (n : ℕ). n < 140737488355328) (sym c.pack-new_link.ensures) (link_code_short link narrow refl)

pub store_job-requires-clause-mine : goal.store_job-requires-clause-mine
store_job-requires-clause-mine c = (
  c.pack-new_link.result,
  c.store_link.ensures.mine c.args.job (mine_sees c.args.who c.args.row c.args.link c.args.job (seen_by c.args.pass.now)
      (seen_by c.load_job-above.new.pass) c.load_job-above.ensures.sees c.requires.mine),
)

-- from the call to the last exchange
stored : (who : ℕ) (v0 v1 v2 v3 : Seen) → Sees who v0 v1 → Goes who [] v1 v2 → Goes who [] v2 v3 → Goes who [] v0 v3
stored who v0 v1 v2 v3 a b d = goes_trans who [] [] v0 v1 v3 (sees_goes who v0 v1 a) (goes_trans who [] [] v1 v2 v3 b d)

pub act_on-requires-clause-attached : goal.act_on-requires-clause-attached
act_on-requires-clause-attached c =
    let v0 = seen_by c.args.pass.now in
    let v3 = seen_by c.store_job.new.pass in
    attached_goes c.args.who [] v0 v3 c.args.parent (stored c.args.who v0 (seen_by c.load_job-above.new.pass)
    (seen_by c.store_link.new.pass) v3 c.load_job-above.ensures.sees c.store_link.ensures.goes c.store_job.ensures.goes)
    c.requires.parent

narrow_more : (w : JobWord) (r rows : ℕ) → IsNarrow w → w.living ≤ 16000 → r < rows → rows ≤ 16000 → IsNarrow (with_newest r w)
narrow_more w r rows n l lt few = record { first_child = omega arith; living = omega arith; rest = n.rest }

pub act_on-requires-clause-narrow : goal.act_on-requires-clause-narrow
act_on-requires-clause-narrow c =
    let f = c.args.forest.now in
    let v0 = seen_by c.args.pass.now in
    let v1 = seen_by c.load_job-above.new.pass in
    let few = living_few f.size v1 c.args.parent c.load_job-above.result f.small
    (sees_done f.size c.args.who v0 v1 c.requires.own.0.1 c.load_job-above.ensures.sees) c.load_job-above.ensures.attached
    c.load_job-above.ensures.word in (
      c.load_job-above.ensures.word.narrow,
      narrow_more c.load_job-above.result c.args.row f.size.rows c.load_job-above.ensures.word.narrow
          few c.requires.row.0 f.small.few,
    )

pub act_on-requires-clause-may : goal.act_on-requires-clause-may
act_on-requires-clause-may c =
    let f = c.args.forest.now in
    let v0 = seen_by c.args.pass.now in
    let v1 = seen_by c.load_job-above.new.pass in
    let v3 = seen_by c.store_job.new.pass in
    let mine1 = mine_sees c.args.who c.args.row c.args.link c.args.job v0 v1 c.load_job-above.ensures.sees c.requires.mine in
    let mine3 : IsMine c.args.who c.args.row c.pack-new_link.result c.pack-new_job.result (store_of v3.seen) =
    c.store_job.ensures.mine c.pack-new_link.result (c.store_link.ensures.mine c.args.job mine1) in
    let job : c.pack-new_job.result ≡ job_code (new_word c.args.kind c.is_cancelled-cancelled.result) = c.pack-new_job.ensures
    ∙ ap job_code c.new_child.ensures in
    attaches_row f.size v3 c.args.who c.args.parent c.args.row c.args.kind c.args.tag c.is_cancelled-cancelled.result
    c.load_job-above.result f.small c.store_job.ensures.own.1
    (subst (λ (x : ℕ × ℕ). IsMine c.args.who c.args.row x.0 x.1 (store_of v3.seen)) (λ i. (c.pack-new_link.ensures i, job i)) mine3)
    (attached_goes c.args.who [] v0 v3 c.args.parent (stored c.args.who v0 v1 (seen_by c.store_link.new.pass) v3
    c.load_job-above.ensures.sees c.store_link.ensures.goes c.store_job.ensures.goes) c.requires.parent)
    c.load_job-above.ensures.word.narrow (sym c.is_completed.ensures
    ∙ c.if-is_completed.false) c.is_cancelled-cancelled.ensures c.requires.tag c.requires.row.1

pub raise_hint-requires-clause-row : goal.raise_hint-requires-clause-row
raise_hint-requires-clause-row c =
    let p = c.args.pass.now in
    (c.requires.row.0, not_root (seen_by p).key (seen_by p).seen c.args.row p.done c.requires.mine.tree)

pub raise_hint-requires-clause-attached : goal.raise_hint-requires-clause-attached
raise_hint-requires-clause-attached c =
    let mine1 = mine_sees c.args.who c.args.row c.args.link c.args.job (seen_by c.args.pass.now) (seen_by c.load_job-above.new.pass)
    c.load_job-above.ensures.sees c.requires.mine in
    (attached_words c.args.who c.args.parent c.args.row c.pack-new_link.result c.pack-new_job.result _ _ c.args.kind c.args.tag
    c.is_cancelled-cancelled.result (seen_by c.store_job.new.pass) (seen_by c.act_on.new.pass) c.if-act_on.ensures.told
    (c.store_job.ensures.mine c.pack-new_link.result (c.store_link.ensures.mine c.args.job mine1))).0

pub raise_hint-requires-clause-link : goal.raise_hint-requires-clause-link
raise_hint-requires-clause-link c =
    let mine1 = mine_sees c.args.who c.args.row c.args.link c.args.job (seen_by c.args.pass.now) (seen_by c.load_job-above.new.pass)
    c.load_job-above.ensures.sees c.requires.mine in
    (attached_words c.args.who c.args.parent c.args.row c.pack-new_link.result c.pack-new_job.result _ _ c.args.kind c.args.tag
    c.is_cancelled-cancelled.result (seen_by c.store_job.new.pass) (seen_by c.act_on.new.pass) c.if-act_on.ensures.told
    (c.store_job.ensures.mine c.pack-new_link.result (c.store_link.ensures.mine c.args.job mine1))).1

pub raise_hint-requires-clause-short : goal.raise_hint-requires-clause-short
raise_hint-requires-clause-short c =
    let p = c.args.pass.now in
    let link : LinkWord = new_link c.args.parent c.load_job-above.result.first_child c.args.tag c.args.kind in
    let narrow = narrow_link c.args.parent c.load_job-above.result.first_child c.args.tag c.args.forest.now.size.rows c.args.kind
    (row_within c.args.forest.now.size (seen_by p) c.args.parent c.requires.own.0.1 p.shaped p.done c.requires.parent)
    c.args.forest.now.small.few c.load_job-above.ensures.word.narrow.first_child (omega (arith, c.ranges.tag.fits)) in
    subst (λ (n : ℕ). n < 140737488355328) (sym c.pack-new_link.ensures) (link_code_short link narrow refl)

pub returns-then-act_on-clause-parent : goal.returns-then-act_on-clause-parent
returns-then-act_on-clause-parent c = subst (λ (w : Seen). IsAttached w c.args.parent) (sym c.raise_hint.ensures.same)
    c.act_on.ensures.attached

pub returns-then-act_on-clause-tried : goal.returns-then-act_on-clause-tried
returns-then-act_on-clause-tried c =
    let v0 = seen_by c.args.pass.now in
    let v3 = seen_by c.store_job.new.pass in
    subst (λ (w : Seen). AttachedNow c.args.who c.args.parent c.args.kind c.args.tag c.args.row c.is_cancelled-cancelled.result v0 w)
    (sym c.raise_hint.ensures.same) (
      c.load_job-above.result,
      record {
        before = v3;
        goes =
            stored c.args.who v0 (seen_by c.load_job-above.new.pass) (seen_by c.store_link.new.pass) v3 c.load_job-above.ensures.sees
            c.store_link.ensures.goes c.store_job.ensures.goes;
        does = c.if-act_on.ensures.told;
      },
    )

pub returns-else-act_on-clause-tried : goal.returns-else-act_on-clause-tried
returns-else-act_on-clause-tried c =
    let v0 = seen_by c.args.pass.now in
    let v1 = seen_by c.load_job-above.new.pass in
    let v2 = seen_by c.store_link.new.pass in
    let v3 = seen_by c.store_job.new.pass in
    let v4 = seen_by c.act_on.new.pass in
    let last = sees_goes c.args.who v3 v4 c.if-act_on.ensures.told.0 in
    let mine1 = mine_sees c.args.who c.args.row c.args.link c.args.job v0 v1 c.load_job-above.ensures.sees c.requires.mine in
    let mine3 : IsMine c.args.who c.args.row c.pack-new_link.result c.pack-new_job.result (store_of v3.seen) =
    c.store_job.ensures.mine c.pack-new_link.result (c.store_link.ensures.mine c.args.job mine1) in
    let first = sees_goes c.args.who v0 v1 c.load_job-above.ensures.sees in
    let rest = goes_trans c.args.who [] [] v1 v3 v4 (goes_trans c.args.who [] [] v1 v2 v3 c.store_link.ensures.goes
    c.store_job.ensures.goes) last in (
      record {
        goes = goes_trans c.args.who [] [] v0 v1 v4 first rest;
        grew =
            grew_more c.args.who [] v0 v1 v4 first (grew c.args.who [] v1 v4 c.args.parent rest c.load_job-above.ensures.attached
            (λ e. c.if-act_on.ensures.told.1 (c.load_job-above.ensures.word.is ∙ e)));
      },
      mine_sees c.args.who c.args.row c.pack-new_link.result c.pack-new_job.result v3 v4 c.if-act_on.ensures.told.0 mine3,
    )
