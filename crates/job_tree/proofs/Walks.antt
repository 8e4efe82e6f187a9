-- The walk of a pass, step by step.
use Rattle.std.specs.Prelude.{◌≡◌, ◌≢◌, ℕ, ◌+◌, ◌*◌, ◌-◌, ◌==◌, ◌≤◌, ◌<◌, Bool, true, false, List, [], ◌∷◌, ◌++◌, length, Option, Some, None, is_some, refl}
use mathlib.Core.List.{IsPrefix}
use Rattle.std.proofs.Common.{sym, ap, ◌∙◌, subst, arith, length-append}
use Rattle.std.specs.Int.{from_bool}
use Rattle.std.proofs.lemmas.Bool.{eq-eqb, eqb-true}
use Rattle.job_model.specs.declared.acts.Reason.{Reason}
use Rattle.job_model.specs.declared.acts.Reason.TheVariants as reasons
use Rattle.job_model.specs.declared.acts.JobAct.{JobAct}
use Rattle.job_model.specs.declared.acts.JobEntry.{JobEntry}
use Rattle.job_model.specs.Trees.{Shape, IsShape, Job, Tree, start, is_among, parent_of, row_of}
use Rattle.job_model.specs.Needs.{IsCancelled, Holds}
use Rattle.job_model.specs.Families.{IsBelow, IsCancellingOrEnded, children_of, older_sibling}
use Rattle.job_model.specs.Histories.{replay, Legal}
use Rattle.job_model.specs.Floors.{Floor, SameSetting, MayCall}
use Rattle.job_model.proofs.Histories.{Legal-prefix}
use Rattle.job_model.proofs.Spans.{prefix_then, nothing_more, setting_then}
use Rattle.job_model.proofs.Lasting.{Lasts, history_keeps, attached_lasts, parent_lasts}
use Rattle.job_model.proofs.Own.{prefix_keeps}
use Rattle.job_model.proofs.Families.{replay_families}
use Rattle.job_model.proofs.Below.{cancelling_lasts, below_kept}
use Rattle.call_meaning.specs.Seen.{SeenOnJobs, tree_in}
use Rattle.job_tree.specs.Notes.{Noted, OnlyLooked}
use Rattle.job_tree.specs.Rooms.{uncancelled, MayCancelAll}
use Rattle.job_tree.specs.Passes.{IsNewestOf, HasNoneBelow, IsPassBelow, IsPass, CancelledJob, WalkStepAnswer, IsPartBelow, IsPartOfPass, IsCovered, covers}
use Rattle.job_model.specs.Cancels.{IsAllCancelled, AreCancelsBelow, own_cancel}
use Rattle.job_tree.specs.declared.caller.Reserve.{Reserve}
use Rattle.job_tree.specs.declared.caller.Reserve.TheVariants.{Before, AsItGoes}
use Rattle.job_tree.specs.declared.steps.WalkStep.TheVariants.{To, Over, Up}
use Rattle.job_model.proofs.Covered.{prefix_keeps_all}
use Rattle.job_tree.proofs.Causes.{failure_later}
use Rattle.job_model.proofs.Ranks.{ranks, top_rank, are_ranks, ranks_stay, has_parent}
use Rattle.job_tree.proofs.Notes.{noted_then, noted_looked}
use Rattle.job_tree.proofs.PassesTold.{pass_told, pass_tells, pass_count}
use Rattle.job_model.proofs.FailingUp.{cancels_below_kept}
use Rattle.job_tree.proofs.Rooms.{looked_fewer, looked_room, uncancelled_rows}
use Rattle.job_tree.proofs.Looks.{looked_self}
use Rattle.job_tree.proofs.Ways.{IsWay, way_kept, still_cancelled, IsStep, step_down, step_over, step_none, step_up}

-- ---- where a walk stands

-- how far it has come; `done`: past all below the row
abbrev pub walked : Shape → List JobEntry → ℕ → Bool → ℕ
walked shape history at true = (ranks shape history).rank at + (ranks shape history).weight at
walked shape history at false = (ranks shape history).rank at

pub record IsWalk (shape : Shape) (history : List JobEntry) (top at : ℕ) (done : Bool) : Type 0 where
  pub attached : is_some (replay history at) ≡ true
  pub way : IsWay (replay history) (ranks shape history).weight top at
  pub cancelled : IsCancellingOrEnded (replay history at)
  pub all : done ≡ true → IsAllCancelled (replay history) at

pub first_walk : (shape : Shape) (history : List JobEntry) (top : ℕ) → is_some (replay history top) ≡ true
    → IsCancellingOrEnded (replay history top) → IsWalk shape history top top false
first_walk shape history top a i = record {
  attached = a;
  way = IsWay.here;
  cancelled = i;
  all =
      λ e. absurd (let u : false ≡ true = e in cc);
}

walk_kept : (shape : Shape) (xs ys : List JobEntry) (top at : ℕ) (done : Bool) → Legal shape ys → IsPrefix xs ys
    → IsWalk shape xs top at done → IsWalk shape ys top at done
walk_kept shape xs ys top at done l p h = record {
  attached = prefix_keeps _ attached_lasts shape xs ys at l p h.attached;
  way = way_kept shape xs ys top at l p h.way;
  cancelled = prefix_keeps _ cancelling_lasts shape xs ys at l p h.cancelled;
  all = λ e. prefix_keeps_all shape xs ys at l p (h.all e);
}

same_walked : (shape : Shape) (xs ys : List JobEntry) (at : ℕ) (done : Bool) → Legal shape ys → IsPrefix xs ys
    → is_some (replay xs at) ≡ true → walked shape ys at done ≡ walked shape xs at done
same_walked shape xs ys at true l p a = let k = ranks_stay shape xs ys at l p a in sums k.0 k.1
  where
    sums : {a b x y : ℕ} → a ≡ x → b ≡ y → a + b ≡ x + y
    sums {a} {b} {x} {y} e f = omega arith
same_walked shape xs ys at false l p a = (ranks_stay shape xs ys at l p a).0

pub walked_within : (shape : Shape) (history : List JobEntry) (top at : ℕ) (done : Bool) → IsShape shape → Legal shape history
    → IsWalk shape history top at done → walked shape history at done ≤ top_rank shape
walked_within shape history top at true s l h = (are_ranks shape history s l).within at h.attached
walked_within shape history top at false s l h = less ((ranks shape history).rank at) ((ranks shape history).weight at) (top_rank shape)
    ((are_ranks shape history s l).within at h.attached)
  where
    less : (a b c : ℕ) → a + b ≤ c → a ≤ c
    less a b c p = omega arith

-- ---- the root

abbrev IsRoot : Option Job → Type 0
IsRoot None = ⊥
IsRoot (Some j) = j.parent ≡ None

root_lasts : Lasts IsRoot
root_lasts = record {
  child = λ r j live h. h;
  start = λ j n h. h;
  body = λ v j h. h;
  cancel = λ cause j c h. h;
  finish = λ who end j m h. h;
  told = λ c j h. h;
  attached = λ h x. absurd h;
}

no_parent : (x : Option Job) (p : ℕ) → IsRoot x → parent_of x ≡ Some p → ⊥
no_parent None p h e = h
no_parent (Some j) p h e = let u : None ≡ Some p = sym h ∙ e in cc

-- a child is not the root
pub not_root : (shape : Shape) (history : List JobEntry) (c p : ℕ) → Legal shape history → parent_of (replay history c) ≡ Some p → c ≢ 0
not_root shape history c p l e z = no_parent (replay history c) p
    (subst (λ r. IsRoot (replay history r)) (sym z) (history_keeps IsRoot root_lasts shape start history 0 l refl)) e

way_not_root : (shape : Shape) (history : List JobEntry) (top at : ℕ) → Legal shape history
    → IsWay (replay history) (ranks shape history).weight top at → (at == top) ≡ false → at ≢ 0
way_not_root shape history top _ l IsWay.here e = absurd (let u : true ≡ false = sym (eq-eqb top top refl) ∙ e in cc)
way_not_root shape history top at l (IsWay.further p _ w e h done) f = not_root shape history at p l e

pub walk_not_root : (shape : Shape) (history : List JobEntry) (top at : ℕ) (done : Bool) → Legal shape history
    → IsWalk shape history top at done → (at == top) ≡ false → at ≢ 0
walk_not_root shape history top at done l h e = way_not_root shape history top at l h.way e

-- ---- to the next row

pub record IsNext (shape : Shape) (xs ys : List JobEntry) (top at : ℕ) (done : Bool) (c : ℕ) : Type 0 where
  pub attached : is_some (replay ys c) ≡ true
  pub way : IsWay (replay ys) (ranks shape ys).weight top c
  pub holds : Holds shape (replay ys) 0 c reasons.Parent
  pub below : IsBelow (replay ys) top c
  pub further : walked shape xs at done < walked shape ys c false

next_of : (shape : Shape) (xs m ys : List JobEntry) (top at p : ℕ) (done : Bool) (c : ℕ) → IsShape shape → Legal shape ys → IsPrefix m ys
    → IsStep (replay m) (ranks shape m).weight top p c → walked shape xs at done < walked shape m c false → IsNext shape xs ys top at done c
next_of shape xs m ys top at p done c s l q step less =
    let lm : Legal shape m = Legal-prefix shape m q.0 (subst (Legal shape) (sym q.1) l) in
    let a = has_parent (replay m c) p step.parent in
    let par = prefix_keeps _ (parent_lasts p) shape m ys c l q step.parent in
    record {
      attached = prefix_keeps _ attached_lasts shape m ys c l q a;
      way = way_kept shape m ys top c l q step.way;
      holds = subst (λ o. IsCancelled (row_of (replay ys) o)) (sym par) (still_cancelled shape m ys p c l q step.parent step.cancelled);
      below = below_kept shape m ys top c l q step.below;
      further = more less (same_walked shape m ys c false l q a);
    }
  where
    more : {x y z : ℕ} → x < y → z ≡ y → x < z
    more {x} {y} {z} f e = omega arith

pub next_down : (shape : Shape) (xs m ys : List JobEntry) (top at c : ℕ) → IsShape shape → Legal shape ys → IsPrefix xs m → IsPrefix m ys
    → IsWalk shape xs top at false → IsNewestOf c (replay m at) → IsNext shape xs ys top at false c
next_down shape xs m ys top at c s l p q h n =
    let lm : Legal shape m = Legal-prefix shape m q.0 (subst (Legal shape) (sym q.1) l) in
    let k = walk_kept shape xs m top at false lm p h in
    let step = step_down shape m top at c s lm k.way k.cancelled n in
    let r = are_ranks shape m s lm in
    next_of shape xs m ys top at at false c s l q step
    (more (same_walked shape xs m at false lm p h.attached) (r.child at c step.parent) (r.heavy c (has_parent (replay m c) at step.parent)))
  where
    more : {a b r w : ℕ} → b ≡ a → r ≡ b + w → 1 ≤ w → a < r
    more {a} {b} {r} {w} e f g = omega arith

pub next_over : (shape : Shape) (xs m ys : List JobEntry) (top at c : ℕ) → IsShape shape → Legal shape ys → IsPrefix xs m → IsPrefix m ys
    → IsWalk shape xs top at true → (at == top) ≡ false → older_sibling (replay m) at ≡ Some c → IsNext shape xs ys top at true c
next_over shape xs m ys top at c s l p q h apart o =
    let lm : Legal shape m = Legal-prefix shape m q.0 (subst (Legal shape) (sym q.1) l) in
    let k = walk_kept shape xs m top at true lm p h in
    let over = step_over shape m top at c s lm k.way apart (k.all refl) o in
    let r = are_ranks shape m s lm in
    next_of shape xs m ys top at over.p true c s l q over.step
    (more ((ranks shape m).rank at) ((ranks shape m).weight at) ((ranks shape m).rank over.p) ((ranks shape m).weight c)
    (same_walked shape xs m at true lm p h.attached) (r.child over.p at over.was) (r.child over.p c over.step.parent) over.heavier
    (r.heavy at k.attached))
  where
    more : {a c : ℕ} (b w p v : ℕ) → b + w ≡ a → b ≡ p + w → c ≡ p + v → 3 * w ≤ v → 1 ≤ w → a < c
    more {a} {c} b w p v e f g i j = omega arith

-- once it is cancelled the walk stands there, or past it where all below it was passed
pub next_walk : (shape : Shape) (xs ys zs : List JobEntry) (top at : ℕ) (done : Bool) (c : ℕ) (over : Bool) → Legal shape zs
    → IsPrefix ys zs → IsNext shape xs ys top at done c → IsCancellingOrEnded (replay zs c) → (over ≡ true → IsAllCancelled (replay zs) c)
    → IsWalk shape zs top c over × (walked shape xs at done < walked shape zs c over)
next_walk shape xs ys zs top at done c over l p h i all = (
  record {
    attached = prefix_keeps _ attached_lasts shape ys zs c l p h.attached;
    way = way_kept shape ys zs top c l p h.way;
    cancelled =
        i;
    all = all;
  },
  more over h.further (same_walked shape ys zs c false l p h.attached),
)
  where
    more : (over : Bool) {x y : ℕ} → x < y → walked shape zs c false ≡ y → x < walked shape zs c over
    more true {x} {y} f e = past ((ranks shape zs).weight c) f e
      where
        past : {x y z : ℕ} (w : ℕ) → x < y → z ≡ y → x < z + w
        past {x} {y} {z} w f e = omega arith
    more false {x} {y} f e = there f e
      where
        there : {x y z : ℕ} → x < y → z ≡ y → x < z
        there {x} {y} {z} f e = omega arith

-- ---- on the same row, and up

pub over_walk : (shape : Shape) (xs m ys : List JobEntry) (top at : ℕ) → IsShape shape → Legal shape ys → IsPrefix xs m → IsPrefix m ys
    → IsWalk shape xs top at false → HasNoneBelow (replay m at) → IsWalk shape ys top at true
    × (walked shape xs at false < walked shape ys at true)
over_walk shape xs m ys top at s l p q h n =
    let lm : Legal shape m = Legal-prefix shape m q.0 (subst (Legal shape) (sym q.1) l) in
    let k = walk_kept shape xs m top at false lm p h in
    let all = step_none shape m at lm k.cancelled n in
    let j = walk_kept shape m ys top at false l q k in (
      record { attached = j.attached; way = j.way; cancelled = j.cancelled; all = λ e. prefix_keeps_all shape m ys at l q all },
      more (same_walked shape xs ys at false l (prefix_then xs m ys p q) h.attached) ((are_ranks shape ys s l).heavy at j.attached),
    )
  where
    more : {a b w : ℕ} → b ≡ a → 1 ≤ w → a < b + w
    more {a} {b} {w} e f = omega arith

pub up_walk : (shape : Shape) (xs m ys : List JobEntry) (top at p : ℕ) → IsShape shape → Legal shape ys → IsPrefix xs m → IsPrefix m ys
    → IsWalk shape xs top at true → (at == top) ≡ false → parent_of (replay m at) ≡ Some p → older_sibling (replay m) at ≡ None
    → IsWalk shape ys top p true × (walked shape xs at true < walked shape ys p true)
up_walk shape xs m ys top at p s l pre q h apart e o =
    let lm : Legal shape m = Legal-prefix shape m q.0 (subst (Legal shape) (sym q.1) l) in
    let k = walk_kept shape xs m top at true lm pre h in
    let up = step_up shape m top at p s lm k.way apart (k.all refl) e o in
    let r = are_ranks shape m s lm in
    let a = has_children (replay m p) at ((replay_families shape m lm).listed p at e) in
    let j : IsWalk shape m top p true = record { attached = a; way = up.way; cancelled = up.all.here; all = λ z. up.all } in (
      walk_kept shape m ys top p true l q j,
      more ((ranks shape m).rank at) ((ranks shape m).weight at) ((ranks shape m).rank p) ((ranks shape m).weight p)
          (same_walked shape xs m at true lm pre h.attached) (r.child p at e) up.heavier (r.heavy at k.attached)
          (same_walked shape m ys p true l q a),
    )
  where
    has_children : (x : Option Job) (c : ℕ) → is_among c (children_of x) ≡ true → is_some x ≡ true
    has_children None c e = cc
    has_children (Some j) c e = refl

    more : {a z : ℕ} (b w r v : ℕ) → b + w ≡ a → b ≡ r + w → 3 * w ≤ v → 1 ≤ w → z ≡ r + v → a < z
    more {a} {z} b w r v e f g i j = omega arith

-- ---- one step

pub walk_step_to : (shape : Shape) (a b : SeenOnJobs) (top at : ℕ) (done : Bool) (c : ℕ) → IsShape shape → Legal shape b.floor.seen
    → IsWalk shape a.floor.seen top at done → (done ≡ true → (at == top) ≡ false) → WalkStepAnswer at done a b (To c)
    → IsNext shape a.floor.seen b.floor.seen top at done c
walk_step_to shape a b top at true c s l h apart t =
    next_over shape a.floor.seen t.moment b.floor.seen top at c s l t.after t.before h (apart refl) t.holds
walk_step_to shape a b top at false c s l h apart t = next_down shape a.floor.seen t.moment b.floor.seen top at c s l t.after t.before h
    t.holds

pub walk_step_over : (shape : Shape) (a b : SeenOnJobs) (top at : ℕ) (done : Bool) → IsShape shape → Legal shape b.floor.seen
    → IsWalk shape a.floor.seen top at done → WalkStepAnswer at done a b Over
    → IsWalk shape b.floor.seen top at true × (walked shape a.floor.seen at done < walked shape b.floor.seen at true)
walk_step_over shape a b top at true s l h t = absurd t
walk_step_over shape a b top at false s l h t = over_walk shape a.floor.seen t.moment b.floor.seen top at s l t.after t.before h t.holds

pub walk_step_up : (shape : Shape) (a b : SeenOnJobs) (top at : ℕ) (done : Bool) (p : ℕ) → IsShape shape → Legal shape b.floor.seen
    → IsWalk shape a.floor.seen top at done → (done ≡ true → (at == top) ≡ false) → WalkStepAnswer at done a b (Up p)
    → IsWalk shape b.floor.seen top p true × (walked shape a.floor.seen at done < walked shape b.floor.seen p true)
walk_step_up shape a b top at true p s l h apart t =
    up_walk shape a.floor.seen t.moment b.floor.seen top at p s l t.after t.before h (apart refl) t.holds.0 t.holds.1
walk_step_up shape a b top at false p s l h apart t = absurd t

-- what is left of the walk
abbrev pub left : Shape → List JobEntry → ℕ → Bool → ℕ
left shape history at done = top_rank shape - walked shape history at done

pub less_left : (shape : Shape) (xs ys : List JobEntry) (top at c : ℕ) (done over : Bool) → IsShape shape → Legal shape ys
    → IsWalk shape ys top c over → walked shape xs at done < walked shape ys c over → left shape ys c over < left shape xs at done
less_left shape xs ys top at c done over s l h less = smaller (walked shape xs at done) (walked shape ys c over) (top_rank shape) less
    (walked_within shape ys top c over s l h)
  where
    smaller : (a b n : ℕ) → a < b → b ≤ n → n - b < n - a
    smaller a b n p q = omega arith

-- ---- what a pass has done so far

pub record IsPassSoFar (top : ℕ) (a b : SeenOnJobs) (count : ℕ) : Type 0 where
  pub acts : List JobAct
  pub noted : Noted acts a b
  pub cancels : AreCancelsBelow (tree_in b) top acts
  pub counted : count ≡ length acts
  pub fewer : count + uncancelled b.floor ≤ uncancelled a.floor

pub none_so_far : (top : ℕ) (a : SeenOnJobs) → IsPassSoFar top a a 0
none_so_far top a = record {
  acts = [];
  noted = noted_looked (record { who = refl; items = refl; looked = looked_self a.who a.floor });
  cancels = tt;
  counted = refl;
  fewer = omega arith;
}

pub so_far_looked : {top : ℕ} {a b c : SeenOnJobs} {count : ℕ} → Legal c.floor.shape c.floor.seen → IsPassSoFar top a b count
    → OnlyLooked b c
    → IsPassSoFar top a c count
so_far_looked {top} {a} {b} {c} {count} l h k =
    let f = looked_fewer b.who [] b.floor c.floor k.looked in
    let g = h.fewer in
    let kept = cancels_below_kept c.floor.shape b.floor.seen c.floor.seen top h.acts l k.looked.longer h.cancels in
    record {
      acts = h.acts ++ [];
      noted = noted_then h.noted (noted_looked k);
      cancels = subst (AreCancelsBelow (tree_in c) top) (sym (nothing_more h.acts)) kept;
      counted = h.counted ∙ ap length (sym (nothing_more h.acts));
      fewer = omega arith;
    }

are_both : (tree : Tree) (top : ℕ) (xs ys : List JobAct) → AreCancelsBelow tree top xs → AreCancelsBelow tree top ys
    → AreCancelsBelow tree top (xs ++ ys)
are_both tree top [] ys h k = k
are_both tree top (x ∷ xs) ys h k = (h.0, are_both tree top xs ys h.1 k)

own_below : (tree : Tree) (top row : ℕ) (now : Bool) → IsBelow tree top row → AreCancelsBelow tree top (own_cancel now row reasons.Parent)
own_below tree top row true b = ((refl, b), tt)
own_below tree top row false b = tt

-- the Cancel of one row counts one, where it was made
pub count_newly : (newly : Bool) (row : ℕ) (reason : Reason) → from_bool newly ≡ length (own_cancel newly row reason)
count_newly true row reason = refl
count_newly false row reason = refl

pub so_far_cancelled : {top row : ℕ} {now : Bool} {a b c : SeenOnJobs} {count next : ℕ} → Legal c.floor.shape c.floor.seen
    → IsBelow (tree_in b) top row → next ≡ count + length (own_cancel now row reasons.Parent) → IsPassSoFar top a b count
    → CancelledJob row reasons.Parent b c now → IsPassSoFar top a c next
so_far_cancelled {top} {row} {now} {a} {b} {c} {count} {next} l below e h m =
    let own = own_cancel now row reasons.Parent in
    let f = m.fewer in
    let g = h.fewer in
    let longer = m.noted.added.longer in
    let before = cancels_below_kept c.floor.shape b.floor.seen c.floor.seen top h.acts l longer h.cancels in
    let still = below_kept c.floor.shape b.floor.seen c.floor.seen top row l longer below in
    record {
      acts = h.acts ++ own;
      noted = noted_then h.noted m.noted;
      cancels = are_both (tree_in c) top h.acts own before (own_below (tree_in c) top row now still);
      counted = e ∙ ap (λ n. n + length own) h.counted ∙ sym (length-append h.acts own);
      fewer = omega arith;
    }

pub so_far_small : {top : ℕ} {a b : SeenOnJobs} {count : ℕ} → IsPassSoFar top a b count → count ≤ a.floor.shape.rows
so_far_small {top} {a} h = let f = h.fewer in let g = uncancelled_rows a.floor in omega arith

-- ---- what a step comes to

-- the history is legal for the numbers of rows at the start
pub legal_as : (a b : Floor) → SameSetting a b → Legal b.shape b.seen → Legal a.shape b.seen
legal_as a b same l = subst (λ (s : Shape). Legal s b.seen) same.shape l

pub to_next : {top at next : ℕ} {done : Bool} {a b c : SeenOnJobs} {count : ℕ} → IsShape a.floor.shape → Legal c.floor.shape c.floor.seen
    → IsPassSoFar top a b count → IsWalk a.floor.shape b.floor.seen top at done → (done ≡ true → (at == top) ≡ false) → OnlyLooked b c
    → WalkStepAnswer at done b c (To next) → IsNext a.floor.shape b.floor.seen c.floor.seen top at done next
to_next {top} {at} {next} {done} {a} {b} {c} s l h w apart k t =
    let same = setting_then a.floor b.floor c.floor h.noted.added.same k.looked.same in
    walk_step_to a.floor.shape b c top at done next s (legal_as a.floor c.floor same l) w apart t

pub may_next : (who who' row next : ℕ) (a c : Floor) → who' ≡ who → MayCall who row a → SameSetting a c
    → is_some (replay c.seen next) ≡ true → MayCall who' next c
may_next who who' row next a c e m same h = record {
  caller = ap (λ (f : ℕ → Bool). f who') same.callers ∙ ap a.callers e
      ∙ m.caller;
  attached = h;
}

-- where a pass stands: at a row, whether all below that was passed, and how many Jobs were cancelled
pub record Progress : Type 0 where
  pub at : ℕ
  pub done : Bool
  pub count : ℕ

abbrev pub progress : ℕ → Bool → ℕ → Progress
progress at done count = record { at = at; done = done; count = count }

-- one step further
pub record IsAfter (top : ℕ) (p q : Progress) (a b d : SeenOnJobs) : Type 0 where
  pub walk : IsWalk a.floor.shape d.floor.seen top q.at q.done
  pub less : left a.floor.shape d.floor.seen q.at q.done < left a.floor.shape b.floor.seen p.at p.done
  pub so_far : IsPassSoFar top a d q.count

-- the covered row is still so
pub covered_kept : (shape : Shape) (xs ys : List JobEntry) (covered : Option ℕ) → Legal shape ys → IsPrefix xs ys
    → IsCovered (replay xs) covered → IsCovered (replay ys) covered
covered_kept shape xs ys None l p h = h
covered_kept shape xs ys (Some c) l p h = prefix_keeps_all shape xs ys c l p h

covered_all : (tree : Tree) (covered : Option ℕ) (row : ℕ) → IsCovered tree covered → covers covered row ≡ true → IsAllCancelled tree row
covered_all tree None row h e = cc
covered_all tree (Some c) row h e = subst (IsAllCancelled tree) (eqb-true c row e) h

pub after_to : {top : ℕ} {p q : Progress} (covered : Option ℕ) (now : Bool) {a b c d : SeenOnJobs} → q.count ≡ p.count + from_bool now
    → q.done ≡ covers covered q.at → IsCovered (tree_in a) covered → IsShape a.floor.shape → Legal c.floor.shape c.floor.seen
    → Legal d.floor.shape d.floor.seen → IsPassSoFar top a b p.count → IsWalk a.floor.shape b.floor.seen top p.at p.done
    → (p.done ≡ true → (p.at == top) ≡ false) → OnlyLooked b c → WalkStepAnswer p.at p.done b c (To q.at)
    → CancelledJob q.at reasons.Parent c d now → IsAfter top p q a b d
after_to {top} {p} {q} covered now {a} {b} {c} {d} n is passed s lc ld h w apart look t m =
    let shape : Shape = a.floor.shape in
    let next_is = to_next s lc h w apart look t in
    let counted = n ∙ ap (λ x. p.count + x) (count_newly now q.at reasons.Parent) in
    let far : IsPassSoFar top a d q.count = so_far_cancelled ld next_is.below counted (so_far_looked lc h look) m in
    let la = legal_as a.floor d.floor far.noted.added.same ld in
    let kept = covered_kept shape a.floor.seen d.floor.seen covered la far.noted.added.longer passed in
    let r = next_walk shape b.floor.seen c.floor.seen d.floor.seen top p.at p.done q.at q.done la m.noted.added.longer next_is m.cancelled
    (λ o. covered_all (tree_in d) covered q.at kept (sym is ∙ o)) in
    record { walk = r.0; less = less_left shape b.floor.seen d.floor.seen top p.at q.at p.done q.done s la r.0 r.1; so_far = far }

pub after_over : {top : ℕ} {p : Progress} {a b c : SeenOnJobs} → IsShape a.floor.shape → Legal c.floor.shape c.floor.seen
    → IsPassSoFar top a b p.count → IsWalk a.floor.shape b.floor.seen top p.at p.done → OnlyLooked b c → WalkStepAnswer p.at p.done b c Over
    → IsAfter top p (progress p.at true p.count) a b c
after_over {top} {p} {a} {b} {c} s l h w look t =
    let shape : Shape = a.floor.shape in
    let far : IsPassSoFar top a c p.count = so_far_looked l h look in
    let la = legal_as a.floor c.floor far.noted.added.same l in
    let r = walk_step_over shape b c top p.at p.done s la w t in
    record { walk = r.0; less = less_left shape b.floor.seen c.floor.seen top p.at p.at p.done true s la r.0 r.1; so_far = far }

up_of : (shape : Shape) (top at up : ℕ) (done : Bool) (b c : SeenOnJobs) → IsShape shape → Legal shape c.floor.seen
    → IsWalk shape b.floor.seen top at done → (done ≡ true → (at == top) ≡ false) → WalkStepAnswer at done b c (Up up)
    → IsWalk shape c.floor.seen top up done × (left shape c.floor.seen up done < left shape b.floor.seen at done)
up_of shape top at up true b c s l w apart t =
    let r = walk_step_up shape b c top at true up s l w apart t in
    (r.0, less_left shape b.floor.seen c.floor.seen top at up true true s l r.0 r.1)
up_of shape top at up false b c s l w apart t = absurd t

pub after_up : {top up : ℕ} {p : Progress} {a b c : SeenOnJobs} → IsShape a.floor.shape → Legal c.floor.shape c.floor.seen
    → IsPassSoFar top a b p.count → IsWalk a.floor.shape b.floor.seen top p.at p.done → (p.done ≡ true → (p.at == top) ≡ false)
    → OnlyLooked b c → WalkStepAnswer p.at p.done b c (Up up) → IsAfter top p (progress up p.done p.count) a b c
after_up {top} {up} {p} {a} {b} {c} s l h w apart look t =
    let far : IsPassSoFar top a c p.count = so_far_looked l h look in
    let r = up_of a.floor.shape top p.at up p.done b c s (legal_as a.floor c.floor far.noted.added.same l) w apart t in
    record { walk = r.0; less = r.1; so_far = far }

-- where a pass over all below a row has come to; `most`: a number for the rows, that a count of Cancels stays within
pub record IsOnWay (top : ℕ) (reserve : Reserve) (most : ℕ) (p : Progress) (a b : SeenOnJobs) (spare : ℕ) : Type 0 where
  pub walk : IsWalk a.floor.shape b.floor.seen top p.at p.done
  pub so_far : IsPassSoFar top a b p.count
  pub room : reserve ≡ Before → MayCancelAll b.floor spare
  pub rows : most ≡ a.floor.shape.rows
  pub few : most < 65536

-- a step that only looks leaves the room
pub way_looked : {top : ℕ} {reserve : Reserve} {most : ℕ} {p q : Progress} {a b c : SeenOnJobs} {spare spare' : ℕ} → OnlyLooked b c
    → spare' ≡ spare → IsOnWay top reserve most p a b spare → IsAfter top p q a b c → IsOnWay top reserve most q a c spare'
way_looked {b = b} {c = c} {spare = spare} {spare' = spare'} look e h r = record {
  walk = r.walk;
  so_far = r.so_far;
  room = λ f. looked_room b.who [] b.floor c.floor spare spare' look.looked e (h.room f);
  rows = h.rows;
  few = h.few;
}

pub pass_below_done : {top : ℕ} {a b : SeenOnJobs} {count : ℕ} → IsPassSoFar top a b count → IsAllCancelled (tree_in b) top
    → IsPassBelow top a b count
pass_below_done h all = record { acts = h.acts; noted = h.noted; cancels = h.cancels; counted = h.counted; all = all }

-- there was no memory for the next Cancel
pub part_below : {top : ℕ} {a b c d : SeenOnJobs} {count : ℕ} → Legal c.floor.shape c.floor.seen → Legal d.floor.shape d.floor.seen
    → IsPassSoFar top a b count → OnlyLooked b c → Noted [] c d → IsPartBelow top a d
part_below {top} {a} {b} {c} {d} {count} lc ld h look m =
    let far : IsPassSoFar top a c count = so_far_looked lc h look in
    let kept = cancels_below_kept d.floor.shape c.floor.seen d.floor.seen top far.acts ld m.added.longer far.cancels in
    record {
      acts = far.acts ++ [];
      noted = noted_then far.noted m;
      cancels = subst (AreCancelsBelow (tree_in d) top) (sym (nothing_more far.acts)) kept;
    }

-- there was no memory for the Cancel of the first row
pub part_none : {row : ℕ} {reason : Reason} {a b : SeenOnJobs} → Noted [] a b → IsPartOfPass row reason a b
part_none h = record { newly = false; below = []; noted = h; cancels = tt }

-- nor for one below it
pub part_passed : {row : ℕ} {reason : Reason} {newly : Bool} {a b c : SeenOnJobs} → CancelledJob row reason a b newly → IsPartBelow row b c
    → IsPartOfPass row reason a c
part_passed {newly = newly} h m = record { newly = newly; below = m.acts; noted = noted_then h.noted m.noted; cancels = m.cancels }

-- a pass is the Cancel of its row, where it was made, and a pass below it
pub passed : {row : ℕ} {reason : Reason} {newly : Bool} {a b c : SeenOnJobs} {count next : ℕ} → next ≡ count + from_bool newly
    → Legal c.floor.shape c.floor.seen → CancelledJob row reason a b newly → IsPassBelow row b c count → IsPass row reason newly a c next
passed {row} {reason} {newly} {a} {b} {c} n l h m =
    let own = own_cancel newly row reason in
    let counted = sums n (count_newly newly row reason) m.counted in
    record {
      told = pass_told row reason newly m.acts;
      group = record { below = m.acts; all = refl };
      noted = pass_tells row reason newly m.acts (noted_then h.noted m.noted) m.cancels m.all;
      counted = counted ∙ sym (length-append own m.acts) ∙ sym (pass_count row reason newly m.acts);
      cancels = m.cancels;
      all = m.all;
      failed = λ f g. failure_later c.floor.shape b.floor.seen c.floor.seen row l m.noted.added.longer (h.failed f g);
    }
  where
    sums : {count next x y b : ℕ} → next ≡ count + b → b ≡ x → count ≡ y → next ≡ x + y
    sums {count} {next} {x} {y} {b} e f g = omega arith

-- where room was made before, memory is never wanting
pub never_wanting : Before ≡ AsItGoes → ⊥
never_wanting e = cc
