-- What a look at a row saw.
use Rattle.std.specs.Prelude.{◌≡◌, ◌≢◌, ℕ, ◌==◌, ◌<◌, ◌+◌, Bool, true, false, List, [], ◌∷◌, ◌++◌, Option, Some, None, option_map, is_some, if◌then◌else◌, refl}
use Rattle.std.proofs.Common.{⊎_elim, arith, sym, ap, ◌∙◌, subst, append_assoc, append-nil, ne_eqb}
use Rattle.std.specs.List.{IsDistinct}
use Rattle.job_model.specs.declared.acts.JobState.{JobState}
use Rattle.job_model.specs.declared.acts.JobState.TheVariants.{Completing, Completed}
use Rattle.job_model.specs.declared.acts.JobKind.{JobKind}
use Rattle.job_model.specs.declared.acts.Cause.{Cause}
use Rattle.job_model.specs.declared.acts.Cause.TheVariants as because
use Rattle.job_model.specs.declared.floor.JobView.{JobView}
use Rattle.job_model.specs.Trees.{Shape, Job, Tree, is_among, is_cancelled, kind_of, parent_of, row_of}
use Rattle.job_model.specs.Families.{newest, older, older_sibling, children_of}
use Rattle.job_model.specs.Answers.{LookAnswer, view_of}
use Rattle.job_model.specs.Laws.{is_cause, IsSoundRow}
use Rattle.job_model.proofs.Lasting.{Lasts, parent_lasts}
use Rattle.job_model.proofs.FailingUp.{kind_lasts}
use Rattle.word_rules.specs.declared.job_word.JobWord.{JobWord}
use Rattle.word_rules.specs.declared.link_word.LinkWord.{LinkWord}
use Rattle.word_rules.specs.declared.size.ForestSize.{ForestSize}
use Rattle.word_rules.specs.declared.deed.Deed.{Deed}
use Rattle.word_rules.specs.Rows.{row_code, rest_of, job_code, link_code, word_of, link_word_of, link_at, without_hint, bit, IsNarrowLink}
use Rattle.word_rules.specs.Deeds.{shape_of, IsSize, store_from, store_of, job_word, MayBeLink, IsDone, is_valued, IsSmall, IsSmallRow}
use Rattle.job_words.specs.Passes.{Seen, Goes, floor_seen}
use Rattle.job_words.specs.Attaches.{IsAttached, IsWord}
use Rattle.job_words.specs.Looks.{WalkAnswer, KindAnswer, view_from, cause_in, row_from, value_in}
use Rattle.job_words.proofs.OneCodeOneWord.{link_code_short}
use Rattle.job_words.proofs.DeedsAddUp.{tree_is}
use Rattle.job_words.proofs.StepsAsCalls.{goes_trans, looked, at_step}
use Rattle.job_words.proofs.StoreStaysSound.{kept}
use Rattle.job_words.proofs.MayExchange.{lasts_more, word_is}
use Rattle.job_words.proofs.LostExchangesGrow.{attached_goes, lasts_goes}
use Rattle.job_words.proofs.PartsOfAnAttach.{job_seen, goes_done, link_found}
use Rattle.job_words.proofs.TriesOfAnAct.{root_parent, last_step, link_parent}
use Rattle.job_words.proofs.CausesInWords.{cause_word}
use Rattle.job_words.proofs.ChildrenInOrder.{IsAhead, ahead, begin_walk, step_walk, step_nearer, older_is, distinct_front, among_at, newest_last}
use Rattle.job_model.proofs.Ranks.{has_parent}

-- ---- children stay, in their order

no_front : (xs ys : List ℕ) → [] ≡ xs ++ ys → xs ≡ []
no_front [] ys e = refl
no_front (x ∷ xs) ys e = cc

front_lasts : (front : List ℕ) → Lasts (λ x. (more : List ℕ) × (children_of x ≡ front ++ more))
front_lasts front = record {
  child = λ r j live h. (h.0 ++ r ∷ [], ap (λ l. l ++ r ∷ []) h.1 ∙ append_assoc front h.0 (r ∷ []));
  start = λ j n h. h;
  body = λ v j h. h;
  cancel = λ cause j c h. h;
  finish = λ who end j m h. h;
  told = λ c j h. h;
  attached = λ h x. (children_of x, ap (λ l. l ++ children_of x) (sym (no_front front h.0 h.1)));
}

pub children_goes : (who : ℕ) (rows : List ℕ) (v w : Seen) (p : ℕ) → Goes who rows v w → (more : List ℕ)
    × (children_of ((store_of w.seen).tree p) ≡ children_of ((store_of v.seen).tree p) ++ more)
children_goes who rows v w p g = lasts_goes (λ x. (more : List ℕ)
    × (children_of x ≡ children_of ((store_of v.seen).tree p) ++ more)) (front_lasts (children_of ((store_of v.seen).tree p))) who rows v w
    p g ([], sym (append-nil (children_of ((store_of v.seen).tree p))))

-- no child is the root
child_not_root : (size : ForestSize) (v : Seen) (p : ℕ) → IsSize size → IsDone (shape_of size) v.seen → (d : ℕ)
    → is_among d (children_of ((store_of v.seen).tree p)) ≡ true → d ≢ 0
child_not_root size v p s h d a z =
    let k = (kept size v.seen s h).families.parents p d a in
    let m : None ≡ Some p = sym (root_parent size v.seen s h) ∙ ap (λ n. parent_of ((store_of v.seen).tree n)) (sym z) ∙ k in
    cc

child_attached : (size : ForestSize) (v : Seen) (p d : ℕ) → IsSize size → IsDone (shape_of size) v.seen
    → is_among d (children_of ((store_of v.seen).tree p)) ≡ true → IsAttached v d
child_attached size v p d s h a = has_parent ((store_of v.seen).tree d) p ((kept size v.seen s h).families.parents p d a)

-- ---- the walk

pub walk_begins : (size : ForestSize) (v : Seen) (p row : ℕ) (w : JobWord) → IsSize size → IsDone (shape_of size) v.seen → IsAttached v p
    → IsWord v p w → IsAhead (children_of ((store_of v.seen).tree p)) row w.first_child
walk_begins size v p row w s h a k =
    let j = job_seen size v p w s h a k in
    begin_walk (children_of ((store_of v.seen).tree p)) row w.first_child (child_not_root size v p s h)
    (newest (children_of ((store_of v.seen).tree p))) refl
    (ap (λ (x : JobWord). x.first_child) (sym j.2) ∙ ap (λ x. row_code (newest (children_of x))) (sym j.1))

next_among : (children : List ℕ) (row next : ℕ) → next ≢ 0 → IsAhead children row next → is_among next children ≡ true
next_among children row next nz h = let a = h.1 nz in ap (is_among next) a.2 ∙ among_at next a.0 a.1

pub next_attached : (size : ForestSize) (who p row next : ℕ) (i v : Seen) → IsSize size → IsDone (shape_of size) i.seen → Goes who [] i v
    → next ≢ 0 → IsAhead (children_of ((store_of i.seen).tree p)) row next → IsAttached v next
next_attached size who p row next i v s h g nz a = attached_goes who [] i v next g
    (child_attached size i p next s h (next_among (children_of ((store_of i.seen).tree p)) row next nz a))

link_next : (o : Option ℕ) (x : Option Job) (w : LinkWord) → option_map (link_word_of o) x ≡ Some w → row_code o ≡ w.next
link_next o None w e = cc
link_next o (Some j) w e = let k : link_word_of o j ≡ w = cc in ap (λ (z : LinkWord). z.next) k

pub walk_steps : (size : ForestSize) (who p row next : ℕ) (i v w : Seen) (link : LinkWord) → IsSize size → IsDone (shape_of size) i.seen
    → IsDone (shape_of size) v.seen → IsDone (shape_of size) w.seen → Goes who [] i v → Goes who [] v w → next ≢ 0 → row ≢ next
    → IsAhead (children_of ((store_of i.seen).tree p)) row next → link_at (store_of w.seen).tree next ≡ Some link
    → IsAhead (children_of ((store_of i.seen).tree p)) row link.next
    × (ahead link.next (children_of ((store_of w.seen).tree p)) < ahead next (children_of ((store_of v.seen).tree p)))
walk_steps size who p row next i v w link s hi hv hw g1 g2 nz ne a l =
    let C : List ℕ = children_of ((store_of i.seen).tree p) in
    let at = a.1 nz in
    let front : List ℕ = at.0 in
    let back : List ℕ = at.1 in
    let mv = children_goes who [] i v p g1 in
    let mw = children_goes who [] v w p g2 in
    let cv : children_of ((store_of v.seen).tree p) ≡ front ++ next ∷ (back ++ mv.0) = mv.1 ∙ ap (λ x. x ++ mv.0) at.2
    ∙ append_assoc front (next ∷ back) mv.0 in
    let cw : children_of ((store_of w.seen).tree p) ≡ (front ++ next ∷ (back ++ mv.0)) ++ mw.0 = mw.1 ∙ ap (λ x. x ++ mw.0) cv in
    let flat : children_of ((store_of w.seen).tree p) ≡ front ++ next ∷ ((back ++ mv.0) ++ mw.0) = cw
    ∙ append_assoc front (next ∷ (back ++ mv.0)) mw.0 in
    let kw = (kept size w.seen s hw).families in
    let kv = (kept size v.seen s hv).families in
    let up : parent_of ((store_of w.seen).tree next) ≡ Some p =
    kw.parents p next (ap (is_among next) flat ∙ among_at next front ((back ++ mv.0) ++ mw.0)) in
    let dw : IsDistinct (λ (x : ℕ) (y : ℕ). x == y) (front ++ next ∷ ((back ++ mv.0) ++ mw.0)) =
    subst (IsDistinct (λ (x : ℕ) (y : ℕ). x == y)) flat (kw.once p) in
    let older : older_sibling (store_of w.seen).tree next ≡ newest front =
    ap (λ o. older next (children_of (row_of (store_of w.seen).tree o))) up ∙ ap (older next) flat
    ∙ older_is next front ((back ++ mv.0) ++ mw.0) (distinct_front next front ((back ++ mv.0) ++ mw.0) dw) in
    let is : link.next ≡ row_code (newest front) = sym (link_next (older_sibling (store_of w.seen).tree next) ((store_of w.seen).tree next)
    link l) ∙ ap row_code older in (
      step_walk C row next link.next (child_not_root size i p s hi) front back at.2 at.3 ne (newest front) refl is,
      subst (λ (x : List ℕ × List ℕ). ahead link.next x.0 < ahead next x.1) (λ k. (sym cw k, sym cv k))
          (step_nearer next link.next front (back ++ mv.0) mw.0 nz (subst (IsDistinct (λ (x : ℕ) (y : ℕ). x == y)) cv (kv.once p))
          (subst (IsDistinct (λ (x : ℕ) (y : ℕ). x == y)) cw (kw.once p)) (newest front) refl is),
    )

-- ---- kinds

pub kind_goes : (who : ℕ) (rows : List ℕ) (v w : Seen) (r : ℕ) (k : JobKind) → Goes who rows v w
    → kind_of ((store_of v.seen).tree r) ≡ Some k → kind_of ((store_of w.seen).tree r) ≡ Some k
kind_goes who rows v w r k g e = lasts_goes (λ x. kind_of x ≡ Some k) (kind_lasts k) who rows v w r g e

first_kind : kind_of ((store_of []).tree 0) ≡ Some (record { supervisor = false; scoped = false; lazy = false })
unfolding store_from
first_kind = refl

pub root_kind : (size : ForestSize) (log : List Deed) → IsDone (shape_of size) log
    → kind_of ((store_of log).tree 0) ≡ Some (record { supervisor = false; scoped = false; lazy = false })
root_kind size log h = lasts_more (λ x. kind_of x ≡ Some (record { supervisor = false; scoped = false; lazy = false }))
    (kind_lasts (record { supervisor = false; scoped = false; lazy = false })) size [] log 0 h first_kind

-- ---- the view

no_cause : (c : Cause) → is_cause c ≡ false → c ≡ because.None
no_cause because.None e = refl
no_cause other e = cc

valued_rest : (s : JobState) (v : ℕ) (c : Cause) → is_valued s ≡ true → rest_of s v c ≡ v
valued_rest Completing v c e = refl
valued_rest Completed v c e = refl
valued_rest other v c e = cc

some_row : (o : Option ℕ) → ((d : ℕ) → o ≡ Some d → d ≢ 0) → o ≡ row_from (row_code o)
some_row None h = refl
some_row (Some d) h = sym (ap (λ (b : Bool). if b then None else Some d) (ne_eqb d 0 (h d refl)))

newest_in : (l : List ℕ) (d : ℕ) → newest l ≡ Some d → is_among d l ≡ true
newest_in l d e = let k = newest_last l d e in ap (is_among d) k.1 ∙ among_at d k.0 []

view_cause : (size : ForestSize) (j : Job) (w : JobWord) → IsSize size → IsSmall (shape_of size) j → is_cause j.cause ≡ is_cancelled j.state
    → word_of j ≡ w → (b : Bool) → is_cancelled w.state ≡ b → j.cause ≡ cause_in b w.rest
view_cause size j w s small caused e true b = sym (cause_word size j w s small caused e b)
view_cause size j w s small caused e false b = no_cause j.cause (caused ∙ ap (λ (x : JobWord). is_cancelled x.state) e ∙ b)

view_value : (shape : Shape) (j : Job) (w : JobWord) → IsSmall shape j → word_of j ≡ w → (b : Bool) → is_valued w.state ≡ b
    → j.value ≡ value_in b w.rest
view_value shape j w small e true b = sym (ap (λ (x : JobWord). x.rest) (sym e)
    ∙ valued_rest j.state j.value j.cause (ap (λ (x : JobWord). is_valued x.state) e ∙ b))
view_value shape j w small e false b = small.none (ap (λ (x : JobWord). is_valued x.state) e ∙ b)

-- the view of a Job that its word and its kind give
pub view_seen : (size : ForestSize) (v : Seen) (r : ℕ) (w : JobWord) (kind : JobKind) → IsSize size → IsDone (shape_of size) v.seen
    → IsAttached v r → IsWord v r w → kind_of ((store_of v.seen).tree r) ≡ Some kind
    → option_map view_of ((store_of v.seen).tree r) ≡ Some (view_from w kind)
view_seen size v r w kind s h a k e =
    let j = job_seen size v r w s h a k in
    let kp = kept size v.seen s h in
    let sound = subst IsSoundRow j.1 (kp.families.rows r) in
    let small : IsSmall (shape_of size) j.0 = subst (IsSmallRow (shape_of size)) j.1 (kp.holds.small r) in
    let ks : Some j.0.kind ≡ Some kind = sym (ap kind_of j.1) ∙ e in
    let kk : j.0.kind ≡ kind = cc in
    let first : newest j.0.children ≡ row_from w.first_child =
    some_row (newest j.0.children) (λ d q. child_not_root size v r s h d (ap (λ x. is_among d (children_of x)) j.1
    ∙ newest_in j.0.children d q)) ∙ ap (λ (x : JobWord). row_from x.first_child) j.2 in
    let cause : j.0.cause ≡ cause_in (is_cancelled w.state) w.rest =
    view_cause size j.0 w s small sound.caused j.2 (is_cancelled w.state) refl in
    let value : j.0.value ≡ value_in (is_valued w.state) w.rest = view_value (shape_of size) j.0 w small j.2 (is_valued w.state) refl in
    ap (option_map view_of) j.1
    ∙ (λ i. Some (record {
      state = (j.2 i).state;
      kind = kk i;
      cause = cause i;
      body_ended = (j.2 i).body_ended;
      living =
          (j.2 i).living;
      first_child = first i;
      value = value i;
    }))

-- ---- answers

pub look_none : (who row : ℕ) (v w : Seen) → KindAnswer who row v w None → LookAnswer who row (floor_seen v) (floor_seen w) None
look_none who row v w t = (
  looked who [] v w (goes_trans who [] [] v t.0 w t.1 t.2),
  at_step who [] [] v t.0 w (λ tree. option_map view_of (tree row) ≡ None) t.1 t.2
      (ap (λ (x : Tree). option_map view_of (x row)) (sym (tree_is t.0.seen)) ∙ ap (option_map view_of) t.3),
)

pub look_some : (who row : ℕ) (v w : Seen) (x : JobView) → Goes who [] v w → option_map view_of ((store_of w.seen).tree row) ≡ Some x
    → LookAnswer who row (floor_seen v) (floor_seen w) (Some x)
look_some who row v w x g e = (looked who [] v w g, last_step who v w (λ tree. option_map view_of (tree row) ≡ Some x) g e)

-- ---- is it attached

-- a word that is no Job word is that of a row that is not attached
pub not_a_word : (v : Seen) (r n : ℕ) → n ≡ job_word (store_of v.seen) r → ((w : JobWord) → job_code w ≢ n)
    → (store_of v.seen).tree r ≡ None
not_a_word v r n e never = by_job ((store_of v.seen).tree r) refl
  where
    by_job : (x : Option Job) → (store_of v.seen).tree r ≡ x → x ≡ None
    by_job None t = refl
    by_job (Some j) t = absurd (never (word_of j) (sym (e ∙ word_is (store_of v.seen) r j t)))

-- a link word without its hint names an attached parent
pub link_above : (size : ForestSize) (v : Seen) (r : ℕ) (x : LinkWord) → IsSize size → IsDone (shape_of size) v.seen → IsNarrowLink x
    → MayBeLink (store_of v.seen) r (link_code x) → x.disclosed ≡ false → IsAttached v x.parent
link_above size v r x s h nx e d =
    let k = (kept size v.seen s h).holds in
    let lt = link_code_short x nx d in
    ⊎_elim (λ q. k.above r x nx q) (λ (q : (is_some ((store_of v.seen).tree r) ≡ true)
    × (link_code x ≡ (store_of v.seen).links r + 140737488355328)). absurd (let m = q.1 in omega arith)) e

-- the hint stands only in the link word of an attached row
pub hint_attached : (size : ForestSize) (v : Seen) (r : ℕ) (x : LinkWord) → IsSize size → IsDone (shape_of size) v.seen
    → MayBeLink (store_of v.seen) r (link_code x) → x.disclosed ≡ true → IsAttached v r
hint_attached size v r x s h e d =
    let lt = (kept size v.seen s h).holds.short r in
    let b : bit x.disclosed ≡ 1 = ap bit d in
    ⊎_elim (λ q. absurd (omega arith)) (λ (q : (is_some ((store_of v.seen).tree r) ≡ true)
    × (link_code x ≡ (store_of v.seen).links r + 140737488355328)). q.0) e

kind_of_link : (o : Option ℕ) (y : Option Job) (w : LinkWord) → option_map (link_word_of o) y ≡ Some w → kind_of y ≡ Some w.kind
kind_of_link o None w e = cc
kind_of_link o (Some j) w e = let k : link_word_of o j ≡ w = cc in ap (λ (x : LinkWord). Some x.kind) k

-- the kind that a link word has
pub link_kind : (v : Seen) (r : ℕ) (w : LinkWord) → link_at (store_of v.seen).tree r ≡ Some w
    → kind_of ((store_of v.seen).tree r) ≡ Some w.kind
link_kind v r w e = kind_of_link (older_sibling (store_of v.seen).tree r) ((store_of v.seen).tree r) w e

-- where the walk over the children of the parent that the link word names did not meet the row, it was not attached when that was loaded
pub not_among : (size : ForestSize) (who row : ℕ) (v0 v1 v2 v3 : Seen) (x : LinkWord) → IsSize size → v1.key ≡ size
    → IsDone (shape_of size) v1.seen → row ≢ 0 → Goes who [] v0 v1 → Goes who [] v1 v2
    → IsNarrowLink x → MayBeLink (store_of v1.seen) row (link_code x) → WalkAnswer who x.parent row v2 v3 false
    → KindAnswer who row v0 v3 None
not_among size who row v0 v1 v2 v3 x s key h ne g0 g1 nx e t =
    (v1, g0, goes_trans who [] [] v1 v2 v3 g1 (goes_trans who [] [] v2 t.0 v3 t.1 t.2), not_there ((store_of v1.seen).tree row) refl)
  where
    m : Seen
    m = t.0

    gm : Goes who [] v1 m
    gm = goes_trans who [] [] v1 v2 m g1 t.1

    hm : IsDone (shape_of size) m.seen
    hm = goes_done size who [] v1 m key gm

    met : (j : Job) → (store_of v1.seen).tree row ≡ Some j → ⊥
    met j is =
        let l = link_found size v1 row x s h (ap is_some is) ne nx e in
        let up : parent_of ((store_of v1.seen).tree row) ≡ Some x.parent = link_parent size v1 row (without_hint x) s h ne l in
        let upm : parent_of ((store_of m.seen).tree row) ≡ Some x.parent =
        lasts_goes (λ y. parent_of y ≡ Some x.parent) (parent_lasts x.parent) who [] v1 m row gm up in
        let there = (kept size m.seen s hm).families.listed x.parent row upm in
        let f : false ≡ true = sym t.3 ∙ there in
        cc

    not_there : (y : Option Job) → (store_of v1.seen).tree row ≡ y → y ≡ None
    not_there None is = refl
    not_there (Some j) is = absurd (met j is)
