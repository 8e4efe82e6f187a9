-- What a look shows of a later moment.
use Rattle.std.specs.Prelude.{◌≡◌, ℕ, true, false, List, [], Option, Some, None, option_map, refl}
use Rattle.co_base.proofs.Orders.{order_same}
use mathlib.Core.List.{IsPrefix}
use Rattle.std.proofs.Common.{sym, ap, ◌∙◌, subst}
use Rattle.job_model.specs.declared.acts.JobEntry.{JobEntry}
use Rattle.job_model.specs.declared.acts.Reason.TheVariants as reasons
use Rattle.job_model.specs.declared.floor.JobView.{JobView}
use Rattle.job_model.specs.declared.floor.Link.{Link}
use Rattle.job_model.specs.Trees.{Job, Tree, is_new, is_cancelled, tag_of, parent_of, parent_row, row_of}
use Rattle.job_model.specs.Needs.{MayEndBody, IsCancelled}
use Rattle.job_model.specs.Families.{older_sibling}
use Rattle.job_model.specs.Histories.{replay, Legal, acts_of}
use Rattle.job_model.specs.Floors.{Floor, Added}
use Rattle.job_model.specs.Answers.{view_of, LookAnswer, link_of, link_from, LinkAnswer}
use Rattle.job_model.proofs.Spans.{nothing_more, same_between, claimed_none, prefix_then}
use Rattle.job_model.proofs.Lasting.{parent_lasts, tag_lasts}
use Rattle.job_model.proofs.Own.{prefix_keeps, own_body_kept}
use Rattle.job_tree.proofs.Looks.{moment_legal, holds_later, link_is}

-- ---- the own body

linked_tag : (tree : Tree) (r : ℕ) (x : Option Job) (l : Link) → link_of tree r x ≡ Some l → tag_of x ≡ Some l.tag
linked_tag tree r None l e = cc
linked_tag tree r (Some j) l e = by_parent j.parent e
  where
    by_parent : (o : Option ℕ) → link_from o (older_sibling tree r) j.tag ≡ Some l → Some j.tag ≡ Some l.tag
    by_parent None e = cc
    by_parent (Some p) e =
        let k : record { parent = p; next = older_sibling tree r; tag = j.tag } ≡ l = cc in
        ap (λ (u : Link). Some u.tag) k

runs : (x : Option Job) (who : ℕ) (v : JobView) → tag_of x ≡ Some who → option_map view_of x ≡ Some v → is_new v.state ≡ false
    → v.body_ended ≡ false → MayEndBody who x
runs None who v t e s b = cc
runs (Some j) who v t e s b =
    let k : view_of j ≡ v = cc in
    let u : j.tag ≡ who = cc in
    (u, ap (λ (w : JobView). is_new w.state) k ∙ s, ap (λ (w : JobView). w.body_ended) k ∙ b)

-- the caller made nothing since
abbrev with_seen : Floor → List JobEntry → Floor
with_seen a seen = record { shape = a.shape; seen = seen; spare = 0; alone = false; callers = a.callers; order = []; joint = a.joint; claims = a.claims }

since : (who : ℕ) (a : Floor) (xs ys : List JobEntry) → IsPrefix xs ys → acts_of who ys ≡ acts_of who xs
    → Added who [] [] (with_seen a xs) (with_seen a ys)
since who a xs ys p e = record {
  same = record { shape = refl; alone = refl; callers = refl; order = order_same _; joint = refl };
  longer = p;
  mine = e ∙ sym (nothing_more (acts_of who xs));
  alone = λ f. absurd (let u : false ≡ true = f in cc);
  claims = claimed_none who (with_seen a xs) (with_seen a ys) (λ r. refl);
}

-- the row is the caller's own, and its body was seen at work
pub may_end_body : (who row : ℕ) (v : JobView) (l : Link) (a b c : Floor) → Legal c.shape c.seen → LinkAnswer who row a b l → l.tag ≡ who
    → LookAnswer who row b c (Some v) → is_new v.state ≡ false → v.body_ended ≡ false → MayEndBody who (replay c.seen row)
may_end_body who row v l a b c legal k t h s e =
    let m = k.1 in
    let n = h.1 in
    let tag : tag_of (replay m.moment row) ≡ Some who = linked_tag (replay m.moment) row (replay m.moment row) l m.holds
    ∙ ap (λ (x : ℕ). Some x) t in
    let later : tag_of (replay n.moment row) ≡ Some who =
    prefix_keeps _ (tag_lasts who) c.shape m.moment n.moment row (moment_legal b c _ n legal)
    (prefix_then m.moment b.seen n.moment m.before n.after) tag in
    let mine : acts_of who c.seen ≡ acts_of who n.moment = h.0.mine
    ∙ sym (same_between who b.seen n.moment c.seen n.after n.before h.0.mine) in
    own_body_kept who row [] [] (with_seen c n.moment) (with_seen c c.seen) legal (since who c n.moment c.seen n.before mine) refl
    (runs (replay n.moment row) who v later n.holds s e)

-- ---- the parent

view_cancelled : (x : Option Job) (v : JobView) → option_map view_of x ≡ Some v → is_cancelled v.state ≡ true → IsCancelled x
view_cancelled None v e h = cc
view_cancelled (Some j) v e h = let k : view_of j ≡ v = cc in ap (λ (u : JobView). is_cancelled u.state) k ∙ h

above_cancelled : (tree : Tree) (r p : ℕ) → parent_of (tree r) ≡ Some p → IsCancelled (tree p) → IsCancelled (parent_row tree r)
above_cancelled tree r p e h = subst (λ (o : Option ℕ). IsCancelled (row_of tree o)) (sym e) h

-- the parent was seen cancelled
pub parent_cancelled : (who row : ℕ) (v : JobView) (l : Link) (a b c : Floor) → Legal c.shape c.seen → LinkAnswer who row a b l
    → LookAnswer who l.parent b c (Some v) → is_cancelled v.state ≡ true → IsCancelled (parent_row (replay c.seen) row)
parent_cancelled who row v l a b c legal k h s =
    let m = k.1 in
    let n = h.1 in
    let at = (link_is (replay m.moment) row (replay m.moment row) l m.holds).0 in
    let later : parent_of (replay n.moment row) ≡ Some l.parent =
    prefix_keeps _ (parent_lasts l.parent) c.shape m.moment n.moment row (moment_legal b c _ n legal)
    (prefix_then m.moment b.seen n.moment m.before n.after) at in
    let old : Floor = with_seen c n.moment in
    let new : Floor = with_seen c c.seen in
    holds_later who row reasons.Parent old new (record { shape = refl; alone = refl; callers = refl; order = order_same _; joint = refl }) n.before legal
    (above_cancelled (replay n.moment) row l.parent later (view_cancelled (replay n.moment l.parent) v n.holds s))
