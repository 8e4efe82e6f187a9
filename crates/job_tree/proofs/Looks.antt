-- What a look at a Job says of it from then on.
use Rattle.std.specs.Prelude.{◌≡◌, ℕ, ◌<◌, Bool, true, false, List, [], ◌∷◌, ◌++◌, Option, Some, None, is_some, option_map, refl}
use Rattle.co_base.proofs.Orders.{order_same}
use mathlib.Core.List.{IsPrefix}
use Rattle.std.proofs.Common.{sym, ap, ◌∙◌, subst, arith}
use Rattle.job_model.specs.declared.acts.Reason.{Reason}
use Rattle.job_model.specs.declared.acts.JobAct.{JobAct}
use Rattle.job_model.specs.declared.acts.JobAct.TheVariants.{Cancel}
use Rattle.job_model.specs.declared.floor.JobView.{JobView}
use Rattle.job_model.specs.declared.floor.Link.{Link}
use Rattle.job_model.specs.Trees.{Shape, IsShape, Job, Tree, is_cancellable, is_ended, parent_of}
use Rattle.job_model.specs.Acts.{cancels}
use Rattle.job_model.specs.Laws.{has}
use Rattle.job_model.specs.Needs.{Holds, MayBeCancelled}
use Rattle.job_model.specs.Families.{IsCancellingOrEnded, newest, older_sibling}
use Rattle.job_model.specs.Histories.{replay, Legal, acts_of}
use Rattle.job_model.specs.Floors.{Floor, SameSetting, HasRoom, MayCall, Looked, Made, AtStep}
use Rattle.job_model.specs.Answers.{view_of, LookAnswer, link_of, link_from, LinkAnswer}
use Rattle.job_model.proofs.Histories.{Legal-prefix}
use Rattle.job_model.proofs.Spans.{prefix_self, prefix_then, nothing_more, setting_then, claimed_none, claimed_then, added_looked, added_made, added_then}
use Rattle.job_model.proofs.Lasting.{attached_lasts}
use Rattle.job_model.proofs.Own.{prefix_keeps}
use Rattle.job_model.proofs.Reasons.{reason_holds_on}
use Rattle.job_model.proofs.Below.{cancelling_lasts}
use Rattle.job_model.proofs.Short.{attached_within}
use Rattle.call_meaning.specs.Seen.{SeenOnJobs}
use Rattle.job_tree.specs.Notes.{made_note, Noted}
use Rattle.job_tree.specs.Rooms.{MayCancelAll}
use Rattle.job_tree.specs.Passes.{HasNoneBelow}
use Rattle.job_tree.proofs.Rooms.{HasRoomNow, seen_room, marked, now_marked}

pub in_rows : (who row : ℕ) (a : Floor) → IsShape a.shape → Legal a.shape a.seen → MayCall who row a → row < a.shape.rows
in_rows who row a s l h = attached_within a.shape a.seen row s l h.attached

pub may_later : (who row : ℕ) (a b : Floor) → SameSetting a b → IsPrefix a.seen b.seen → Legal b.shape b.seen → MayCall who row a
    → MayCall who row b
may_later who row a b same p l h = record {
  caller = ap (λ (f : ℕ → Bool). f who) same.callers
      ∙ h.caller;
  attached = prefix_keeps _ attached_lasts b.shape a.seen b.seen row l p h.attached;
}

pub holds_later : (who row : ℕ) (reason : Reason) (a b : Floor) → SameSetting a b → IsPrefix a.seen b.seen → Legal b.shape b.seen
    → Holds a.shape (replay a.seen) who row reason → Holds b.shape (replay b.seen) who row reason
holds_later who row reason a b same p l h =
    subst (λ es. Holds b.shape (replay es) who row reason) p.1
    (reason_holds_on b.shape a.seen p.0 who row reason (subst (Legal b.shape) (sym p.1) l)
    (subst (λ (s : Shape). Holds s (replay a.seen) who row reason) (sym same.shape) h))

-- a moment of the call has a legal history
pub moment_legal : (a b : Floor) (P : Tree → Type 0) (m : AtStep a b P) → Legal b.shape b.seen → Legal b.shape m.moment
moment_legal a b P m l = Legal-prefix b.shape m.moment m.before.0 (subst (Legal b.shape) (sym m.before.1) l)

-- ---- looks one after the other

pub looked_then : (who : ℕ) (a b c : Floor) → Looked who [] a b → Looked who [] b c → Looked who [] a c
looked_then who a b c h k = record {
  same = setting_then a b c h.same k.same;
  longer = prefix_then a.seen b.seen c.seen h.longer k.longer;
  mine = k.mine ∙ h.mine;
  alone = λ e. k.alone (h.same.alone ∙ e) ∙ h.alone e;
  spare = (let x = h.spare in let y = k.spare in omega arith);
  claims = claimed_then who [] [] a b c h.same h.claims k.claims;
}

pub looked_self : (who : ℕ) (a : Floor) → Looked who [] a a
looked_self who a = record {
  same = record { shape = refl; alone = refl; callers = refl; order = order_same _; joint = refl };
  longer = prefix_self a.seen;
  mine = refl;
  alone =
      λ e. refl;
  spare = omega arith;
  claims = claimed_none who a a (λ r. refl);
}

-- room was made
pub looked_made : (who n : ℕ) (a b : Floor) → HasRoom n a b → Looked who [] a b
looked_made who n a b h = record {
  same = h.same;
  longer = ([], nothing_more a.seen ∙ sym h.seen);
  mine = ap (acts_of who) h.seen;
  alone = λ e. h.seen;
  spare = h.kept;
  claims = claimed_none who a b h.claims;
}

pub looked_same : (who : ℕ) (a b : Floor) → b ≡ a → Looked who [] a b
looked_same who a b e = subst (λ (x : Floor). Looked who [] a x) (sym e) (looked_self who a)

-- ---- look

no_view : (x : Option Job) (P : Type 0) → is_some x ≡ true → option_map view_of x ≡ None → P
no_view None P a e = cc
no_view (Some j) P a e = cc

-- an attached row is seen
pub never_none : (who row : ℕ) (a b : Floor) (P : Type 0) → Legal b.shape b.seen → MayCall who row a → LookAnswer who row a b None → P
never_none who row a b P l h k =
    let m = k.1 in
    no_view (replay m.moment row) P (prefix_keeps _ attached_lasts b.shape a.seen m.moment row (moment_legal a b _ m l) m.after h.attached)
    m.holds

view_state : (x : Option Job) (v : JobView) → option_map view_of x ≡ Some v → is_cancellable v.state ≡ false → IsCancellingOrEnded x
view_state None v e h = cc
view_state (Some j) v e h = let k : view_of j ≡ v = cc in ap (λ (u : JobView). is_cancellable u.state) k ∙ h

view_live : (x : Option Job) (v : JobView) → option_map view_of x ≡ Some v → is_cancellable v.state ≡ true → MayBeCancelled x
view_live None v e h = cc
view_live (Some j) v e h = let k : view_of j ≡ v = cc in ap (λ (u : JobView). is_cancellable u.state) k ∙ h

-- a Job that was seen Cancelling or ended is so
pub seen_cancelled : (who row : ℕ) (v : JobView) (a b : Floor) → Legal b.shape b.seen → LookAnswer who row a b (Some v)
    → is_cancellable v.state ≡ false → IsCancellingOrEnded (replay b.seen row)
seen_cancelled who row v a b l k h =
    let m = k.1 in
    prefix_keeps _ cancelling_lasts b.shape m.moment b.seen row l m.before (view_state (replay m.moment row) v m.holds h)

-- for a Job that was seen neither Cancelling nor ended there is room
pub room_seen : (who row : ℕ) (v : JobView) (a b : Floor) (spare : ℕ) → IsShape a.shape → Legal a.shape a.seen → Legal b.shape b.seen
    → MayCall who row a → LookAnswer who row a b (Some v) → is_cancellable v.state ≡ true → MayCancelAll a spare → HasRoomNow b spare
room_seen who row v a b spare s l l' h k e room =
    let m = k.1 in
    seen_room row a b m.moment spare s (subst (λ (x : Shape). Legal x m.moment) k.0.same.shape (moment_legal a b _ m l'))
    (in_rows who row a s l h) m.after (view_live (replay m.moment row) v m.holds e) k.0.spare room

-- ---- a Cancel

pub step_cancelled : (row : ℕ) (a b : Floor) → Legal b.shape b.seen → AtStep a b (λ tree. IsCancellingOrEnded (tree row))
    → IsCancellingOrEnded (replay b.seen row)
step_cancelled row a b l m = prefix_keeps _ cancelling_lasts b.shape m.moment b.seen row l m.before m.holds

pub made_cancelled : (who row : ℕ) (reason : Reason) (a b c : Floor) → Legal c.shape c.seen → Made who (Cancel row reason) [] a b
    → IsPrefix b.seen c.seen → IsCancellingOrEnded (replay c.seen row)
made_cancelled who row reason a b c l m p =
    let lb = Legal-prefix c.shape b.seen p.0 (subst (Legal c.shape) (sym p.1) l) in
    prefix_keeps _ cancelling_lasts c.shape b.seen c.seen row l p
    (marked c.shape b.seen row lb (ap (has cancels row) m.last ∙ now_marked row m.before who reason))

-- a look, an act that was noted, and a look
pub noted_one : {act : JobAct} {a d : SeenOnJobs} {b c : Floor} → Looked a.who [] a.floor b → Made a.who act [] b c
    → Looked a.who [] c d.floor
    → d.who ≡ a.who → d.items ≡ a.items ++ made_note act ∷ [] → Noted (act ∷ []) a d
noted_one {act} {a} {d} {b} {c} h m k w e =
    let who : ℕ = a.who in
    let later = added_then who (act ∷ []) [] [] [] b c d.floor (added_made who act [] b c m) (added_looked who [] c d.floor k) in
    record {
      who = w;
      appended = e;
      added = added_then who [] (act ∷ []) [] [] a.floor b d.floor (added_looked who [] a.floor b h) later;
    }

-- ---- steps of a walk

no_children : (cs : List ℕ) → newest cs ≡ None → cs ≡ []
no_children [] e = refl
no_children (c ∷ cs) e = cc

none_seen : (x : Option Job) (v : JobView) → option_map view_of x ≡ Some v → (is_ended v.state ≡ false → v.first_child ≡ None)
    → HasNoneBelow x
none_seen None v e f = cc
none_seen (Some j) v e f = let k : view_of j ≡ v = cc in
    λ h. no_children j.children (ap (λ (u : JobView). u.first_child) k ∙ f (ap (λ (u : JobView). is_ended u.state) (sym k) ∙ h))

pub walk_step_over : (who row : ℕ) (v : JobView) (a b : Floor) → LookAnswer who row a b (Some v)
    → (is_ended v.state ≡ false → v.first_child ≡ None) → AtStep a b (λ tree. HasNoneBelow (tree row))
walk_step_over who row v a b k f = let m = k.1 in record
    { moment = m.moment; after = m.after; before = m.before; holds = none_seen (replay m.moment row) v m.holds f }

-- what a link says
pub link_is : (tree : Tree) (r : ℕ) (x : Option Job) (l : Link) → link_of tree r x ≡ Some l → (parent_of x ≡ Some l.parent)
    × (older_sibling tree r ≡ l.next)
link_is tree r None l e = cc
link_is tree r (Some j) l e = by_parent j.parent e
  where
    by_parent : (o : Option ℕ) → link_from o (older_sibling tree r) j.tag ≡ Some l → (o ≡ Some l.parent) × (older_sibling tree r ≡ l.next)
    by_parent None e = cc
    by_parent (Some p) e =
        let k : record { parent = p; next = older_sibling tree r; tag = j.tag } ≡ l = cc in
        (ap (λ (u : Link). Some u.parent) k, ap (λ (u : Link). u.next) k)

pub walk_step_up : (who row : ℕ) (l : Link) (a b : Floor) → LinkAnswer who row a b l → l.next ≡ None
    → AtStep a b (λ tree. (parent_of (tree row) ≡ Some l.parent) × (older_sibling tree row ≡ None))
walk_step_up who row l a b k e = let m = k.1 in let i = link_is (replay m.moment) row (replay m.moment row) l m.holds
    in record { moment = m.moment; after = m.after; before = m.before; holds = (i.0, i.1 ∙ e) }
