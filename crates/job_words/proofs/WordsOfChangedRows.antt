-- Which words an act changes.
use Rattle.std.specs.Prelude.{◌≡◌, ◌≢◌, ℕ, ◌==◌, Bool, true, false, not, length, Option, Some, None, option_map, if◌then◌else◌, refl}
use Rattle.std.proofs.Common.{sym, ap, ◌∙◌, ne_eqb}
use Rattle.std.proofs.lemmas.Bool.{eqb-true}
use Rattle.job_model.specs.declared.acts.JobKind.{JobKind}
use Rattle.job_model.specs.declared.acts.JobAct.{JobAct}
use Rattle.job_model.specs.declared.acts.JobAct.TheVariants.{Attach, Start, EndBody, Cancel, Finish, Gone}
use Rattle.job_model.specs.Trees.{Job, Tree, is_among, living, parent_of, was_told}
use Rattle.job_model.specs.Effects.{after, change, change_parent, new_child, with_child, started, without_body, cancelled_for, cause_of_reason, ended_by, with_told, first_state, first_cause}
use Rattle.job_model.specs.Needs.{MayHaveChild}
use Rattle.job_model.specs.Families.{newest, children_of, older_sibling}
use Rattle.job_model.specs.Laws.{HasFamilies}
use Rattle.job_model.proofs.Rows.{same}
use Rattle.job_model.proofs.Families.{changed_here, apart_rows}
use Rattle.word_rules.specs.Rows.{row_code, rest_of, word_of, link_word_of, link_at, new_word, new_link, with_newest}
use Rattle.job_model.proofs.Siblings.{KeepsFamily, changed_at, sibling_kept, attached_tree, attached_at, new_sibling, sibling_stays, not_told, newest-push, kept_last}

-- ---- one row changes

pub changed_else : (r q : ℕ) (f : Job → Job) (tree : Tree) → q ≢ r → change r f tree q ≡ tree q
changed_else r q f tree ne = ap (λ b. if b then option_map f (tree r) else tree q) (ne_eqb r q (λ e. ne (sym e)))

pub changed_job : (r : ℕ) (f : Job → Job) (tree : Tree) (j : Job) → tree r ≡ Some j → change r f tree r ≡ Some (f j)
changed_job r f tree j e = changed_here r f tree ∙ ap (option_map f) e

-- a change that leaves a Job its link
pub record KeepsLink (f : Job → Job) : Type 0 where
  pub family : KeepsFamily f
  pub tag : (j : Job) → (f j).tag ≡ j.tag
  pub kind : (j : Job) → (f j).kind ≡ j.kind

link_kept : (f : Job → Job) → KeepsLink f → (o : Option ℕ) (x : Option Job)
    → option_map (link_word_of o) (option_map f x) ≡ option_map (link_word_of o) x
link_kept f k o None = refl
link_kept f k o (Some j) = λ i. Some (record {
  parent = row_code (k.family.parent j i);
  next = row_code o;
  tag = k.tag j i;
  kind =
      k.kind j i;
  disclosed = false;
})

pub link_changed : (r : ℕ) (f : Job → Job) (tree : Tree) → KeepsLink f → (q : ℕ) → link_at (change r f tree) q ≡ link_at tree q
link_changed r f tree k q =
    ap (λ o. option_map (link_word_of o) (change r f tree q)) (sibling_kept r f tree k.family q)
    ∙ changed_at (option_map (link_word_of (older_sibling tree q))) r f tree (link_kept f k (older_sibling tree q)) q

pub link_changed_parent : (o : Option ℕ) (f : Job → Job) (tree : Tree) → KeepsLink f → (q : ℕ)
    → link_at (change_parent o f tree) q ≡ link_at tree q
link_changed_parent None f tree k q = refl
link_changed_parent (Some p) f tree k q = link_changed p f tree k q

pub started_link : KeepsLink started
started_link = record { family = record { parent = λ j. refl; children = λ j. refl }; tag = λ j. refl; kind = λ j. refl }

pub body_link : (v : ℕ) → KeepsLink (without_body v)
body_link v = record { family = record { parent = λ j. refl; children = λ j. refl }; tag = λ j. refl; kind = λ j. refl }

-- ---- a child more

pub new_is : (p tag : ℕ) (kind : JobKind) (cancelled : Bool) → word_of (new_child p kind tag cancelled) ≡ new_word kind cancelled
new_is p tag kind cancelled = ap (λ n. record {
  state = first_state cancelled kind.lazy;
  body_ended = false;
  first_child = 0;
  living = 0;
  rest = n;
}) (nothing cancelled kind.lazy)
  where
    nothing : (cancelled lazy : Bool) → rest_of (first_state cancelled lazy) 0 (first_cause cancelled) ≡ 0
    nothing true lazy = refl
    nothing false true = refl
    nothing false false = refl

pub attached_else : (tree : Tree) (p r q : ℕ) (kind : JobKind) (tag : ℕ) (cancelled : Bool) → q ≢ p → q ≢ r
    → attached_tree p r kind tag cancelled tree q ≡ tree q
attached_else tree p r q kind tag cancelled np nr =
    ap (λ b. if b then Some (new_child p kind tag cancelled) else (if p == q then option_map (with_child r) (tree p) else tree q))
    (ne_eqb r q (λ e. nr (sym e)))
    ∙ ap (λ b. if b then option_map (with_child r) (tree p) else tree q) (ne_eqb p q (λ e. np (sym e)))

pub attached_above : (tree : Tree) (p r : ℕ) (kind : JobKind) (tag : ℕ) (cancelled : Bool) (j : Job) → tree r ≡ None
    → MayHaveChild cancelled (tree p) → tree p ≡ Some j → attached_tree p r kind tag cancelled tree p ≡ Some (with_child r j)
attached_above tree p r kind tag cancelled j none m e =
    ap (λ b. if b then Some (new_child p kind tag cancelled) else (if p == p then option_map (with_child r) (tree p) else tree p))
    (apart_rows tree r p cancelled none m)
    ∙ ap (λ b. if b then option_map (with_child r) (tree p) else tree p) (same p)
    ∙ ap (option_map (with_child r)) e

-- the word of the parent
pub child_word : (r : ℕ) (j : Job) → is_among r j.told ≡ false → word_of (with_child r j) ≡ with_newest r (word_of j)
child_word r j e =
    ap (λ n. record (word_of j) { first_child = row_code n; living = length (living (with_child r j)) }) (newest-push r j.children)
    ∙ ap (λ n. record (word_of j) { first_child = r; living = n }) (kept_last (λ c. not (is_among c j.told)) r j.children (ap not e))

pub told_of : (tree : Tree) (p r : ℕ) (j : Job) → HasFamilies tree → tree r ≡ None → tree p ≡ Some j → is_among r j.told ≡ false
told_of tree p r j h none e = sym (ap (was_told r) e) ∙ not_told tree p r h none

with_child_link : (r : ℕ) (o : Option ℕ) (x : Option Job)
    → option_map (link_word_of o) (option_map (with_child r) x) ≡ option_map (link_word_of o) x
with_child_link r o None = refl
with_child_link r o (Some j) = refl

pub link_attached : (tree : Tree) (p r q : ℕ) (kind : JobKind) (tag : ℕ) (cancelled : Bool) → HasFamilies tree → tree r ≡ None
    → MayHaveChild cancelled (tree p) → (r == q) ≡ false → link_at (attached_tree p r kind tag cancelled tree) q ≡ link_at tree q
link_attached tree p r q kind tag cancelled h none m f =
    ap (λ o. option_map (link_word_of o) (attached_tree p r kind tag cancelled tree q))
    (sibling_stays tree p r q kind tag cancelled h none m f)
    ∙ ap (λ b. option_map (link_word_of (older_sibling tree q))
    (if b then Some (new_child p kind tag cancelled) else (if p == q then option_map (with_child r) (tree p) else tree q))) f
    ∙ by_parent (p == q) refl
  where
    by_parent : (b : Bool) → (p == q) ≡ b → option_map (link_word_of (older_sibling tree q))
        (if b then option_map (with_child r) (tree p) else tree q) ≡ option_map (link_word_of (older_sibling tree q)) (tree q)
    by_parent true e = with_child_link r (older_sibling tree q) (tree p)
        ∙ ap (λ u. option_map (link_word_of (older_sibling tree q)) (tree u)) (eqb-true p q e)
    by_parent false e = refl

pub link_new : (tree : Tree) (p r : ℕ) (kind : JobKind) (tag : ℕ) (cancelled : Bool) → HasFamilies tree → tree r ≡ None
    → MayHaveChild cancelled (tree p)
    → link_at (attached_tree p r kind tag cancelled tree) r ≡ Some (new_link p (row_code (newest (children_of (tree p)))) tag kind)
link_new tree p r kind tag cancelled h none m =
    ap (λ x. option_map (link_word_of (older_sibling (attached_tree p r kind tag cancelled tree) r)) x)
    (attached_at tree p r kind tag cancelled)
    ∙ ap (λ o. Some (new_link p (row_code o) tag kind)) (new_sibling tree p r kind tag cancelled h none m)

-- ---- links after an act

-- an act other than the Attach of this row leaves its link
pub link_stays : (tree : Tree) (who q : ℕ) (act : JobAct) → HasFamilies tree
    → ((p r tag : ℕ) (kind : JobKind) (cancelled : Bool) → act ≡ Attach p r kind tag cancelled → (tree r ≡ None)
    × MayHaveChild cancelled (tree p) × ((r == q) ≡ false)) → link_at (after tree who act) q ≡ link_at tree q
link_stays tree who q (Attach p r kind tag cancelled) h k = let n = k p r tag kind cancelled refl
    in link_attached tree p r q kind tag cancelled h n.0 n.1 n.2
link_stays tree who q (Start r) h k = link_changed r started tree started_link q
link_stays tree who q (EndBody r v) h k = link_changed r (without_body v) tree (body_link v) q
link_stays tree who q (Cancel r reason) h k = link_changed r (cancelled_for (cause_of_reason tree reason)) tree
    (record { family = record { parent = λ j. refl; children = λ j. refl }; tag = λ j. refl; kind = λ j. refl }) q
link_stays tree who q (Finish r end) h k = link_changed r (ended_by who end) tree
    (record { family = record { parent = λ j. refl; children = λ j. refl }; tag = λ j. refl; kind = λ j. refl }) q
link_stays tree who q (Gone r) h k = link_changed_parent (parent_of (tree r)) (with_told r) tree
    (record { family = record { parent = λ j. refl; children = λ j. refl }; tag = λ j. refl; kind = λ j. refl }) q
