-- A walk over the entries of a history.
use Rattle.std.specs.Prelude.{◌≡◌, ℕ, ◌+◌, ◌≤◌, true, false, List, [], ◌∷◌, ◌++◌, length, refl}
use Rattle.std.proofs.Common.{get_or, sym, ap, ◌∙◌, subst, arith, append_assoc, drop, length-append, true≢false}
use Rattle.job_model.specs.declared.acts.JobEntry.{JobEntry}
use Rattle.job_model.specs.Trees.{Shape, Tree, start}
use Rattle.job_model.specs.Histories.{Legal, LegalFrom, replay, replay_from}
use Rattle.job_model.specs.Needs.{Needs}
use Rattle.job_model.specs.Steps.{may_make}
use Rattle.job_model.proofs.Histories.{LegalFrom-parts, Legal_push, replay_push}
use Rattle.job_replay.specs.declared.replay.JobReplay.{JobReplay}
use Rattle.job_replay.specs.Replays.{IsStep, IsTree}
use Rattle.job_replay.specs.Sizes.{shape_of}
use Rattle.job_replay.specs.Verdicts.{StopsAt}
use Rattle.job_replay.proofs.TreeCalls.{may_of, needs_of}

-- the tree is that after the entries before those that are left, which are legal
pub record Walked (shape : Shape) (entries : List JobEntry) (number : ℕ) (rest : List JobEntry) (x : JobReplay) : Type 0 where
  pub before : List JobEntry
  pub split : entries ≡ before ++ rest
  pub numbered : length before + 1 ≡ number
  pub shape_is : shape_of x.size ≡ shape
  pub legal : Legal shape before
  pub tree : IsTree (replay before) x

pub begun : (shape : Shape) (entries : List JobEntry) (x : JobReplay) → shape_of x.size ≡ shape → IsTree start x
    → Walked shape entries 1 entries x
unfolding LegalFrom replay_from
begun shape entries x is tree =
    record { before = []; split = refl; numbered = refl; shape_is = is; legal = tt; tree = tree }

first_needs : (shape : Shape) (tree : Tree) (e : JobEntry) (more : List JobEntry) → LegalFrom shape tree (e ∷ more)
    → Needs shape tree e.who e.act
unfolding LegalFrom
first_needs shape tree e more l = l.0

pub goes_on : (shape : Shape) (entries : List JobEntry) (n : ℕ) (rest next : List JobEntry) (d : JobEntry) (old new : JobReplay)
    → Walked shape entries n rest old → 1 ≤ length rest → next ≡ drop 1 rest → new.size ≡ old.size
    → ((tree : Tree) → IsTree tree old → IsStep true tree (get_or rest 0 d).who (get_or rest 0 d).act old new)
    → Walked shape entries (n + 1) next new
goes_on shape entries n [] next d old new w le is size step = absurd (omega (arith, le))
goes_on shape entries n (e ∷ more) next d old new w le is size step =
    let made = step (replay w.before) w.tree in
    let may : may_make shape (replay w.before) e.who e.act ≡ true =
    ap (λ (s : Shape). may_make s (replay w.before) e.who e.act) (sym w.shape_is) ∙ sym made.may in
    record {
      before = w.before ++ e ∷ [];
      split = w.split ∙ sym (append_assoc w.before (e ∷ []) more) ∙ ap (λ es. (w.before ++ e ∷ []) ++ es) (sym is);
      numbered = omega (arith, length-append w.before (e ∷ []), w.numbered);
      shape_is = ap shape_of size ∙ w.shape_is;
      legal = Legal_push shape w.before e w.legal (needs_of shape (replay w.before) e.who e.act may);
      tree = subst (λ t. IsTree t new) (sym (replay_push w.before e)) made.left;
    }

pub stops : (shape : Shape) (entries : List JobEntry) (n : ℕ) (rest : List JobEntry) (d : JobEntry) (old new : JobReplay)
    → Walked shape entries n rest old → 1 ≤ length rest
    → ((tree : Tree) → IsTree tree old → IsStep false tree (get_or rest 0 d).who (get_or rest 0 d).act old new)
    → StopsAt n shape entries
stops shape entries n [] d old new w le step = absurd (omega (arith, le))
stops shape entries n (e ∷ more) d old new w le step =
    let made = step (replay w.before) w.tree in
    let may_not : may_make shape (replay w.before) e.who e.act ≡ false =
    ap (λ (s : Shape). may_make s (replay w.before) e.who e.act) (sym w.shape_is) ∙ sym made.may in
    record {
      before = w.before;
      entry = e;
      rest = more;
      split = w.split;
      numbered = w.numbered;
      legal = w.legal;
      none =
          λ later l. let parts = LegalFrom-parts shape start w.before (e ∷ later) l in
          true≢false (sym (may_of shape (replay w.before) e.who e.act (first_needs shape (replay w.before) e later parts.1)) ∙ may_not);
    }
