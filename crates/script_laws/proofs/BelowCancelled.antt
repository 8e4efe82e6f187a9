-- At the end of a run all below a cancelled Job is Cancelling or ended.
use Rattle.std.proofs.Common.{◌≡◌, ℕ, Bool, true, false, ◌&&◌, List, [], ◌∷◌, ◌++◌, refl, ap, sym, ◌∙◌, subst, inl, inr, ◌⊎◌, ⊎_elim, Option, Some, None, if◌then◌else◌}
use Rattle.std.specs.Prelude.{◌==◌, map}
use Rattle.std.proofs.lemmas.Bool.{eqb-true, both_ways, false_from_ne_true, and_from, and_parts}
use Rattle.channel_model.specs.declared.acts.Entry.{Entry}
use Rattle.job_model.specs.declared.acts.End.{End}
use Rattle.job_model.specs.declared.acts.JobState.{JobState}
use Rattle.job_model.specs.declared.acts.JobState.TheVariants.{New, Cancelling, Cancelled, Completed}
use Rattle.job_model.specs.declared.acts.Reason.{Reason}
use Rattle.job_model.specs.declared.acts.Reason.TheVariants as reasons
use Rattle.job_model.specs.declared.acts.JobAct.{JobAct}
use Rattle.job_model.specs.declared.acts.JobAct.TheVariants.{Attach, Cancel, Finish, Gone}
use Rattle.job_model.specs.declared.acts.JobEntry.{JobEntry}
use Rattle.job_model.specs.Effects.{after, first_state}
use Rattle.job_model.specs.Trees.{Job, Tree, root, start, parent_of, is_ended, is_cancelled, is_cancelling, is_cancellable, is_among}
use Rattle.job_model.specs.Needs.{Needs, IsCancelled, MayHaveChild}
use Rattle.job_model.specs.Laws.{HasFamilies}
use Rattle.job_model.specs.Families.{IsEnded, IsBelow, is_child, is_further, IsCancellingOrEnded, AllBelowCancelled, children_of}
use Rattle.job_model.specs.Histories.{replay, Legal}
use Rattle.job_model.proofs.Histories.{Legal-prefix}
use Rattle.job_model.proofs.Steps.{RowStep, row_step}
use Rattle.job_model.proofs.Sound.{body_cancelled, end_cancelled}
use Rattle.job_model.proofs.Lasting.{act_keeps}
use Rattle.job_model.proofs.Below.{cancelling_lasts}
use Rattle.job_model.proofs.Ends.{child_ended}
use Rattle.job_model.proofs.Families.{replay_families, parent_was}
use Rattle.job_model.specs.Cancels.{own_cancel, IsCancelBelow, AreCancelsBelow}
use Rattle.job_model.specs.Failures.{FailsUp}
use Rattle.note_book.specs.declared.book.Item.{Item}
use Rattle.call_meaning.specs.Telling.{Told, on_jobs, JobFact, PassedBelow, FailedUp, did}
use Rattle.call_meaning.specs.JobCalls.{Passes, Chain}
use Rattle.script_grammar.specs.Programs.{Program}
use Rattle.script_meaning.specs.Shapes.{job_shape, base_of}
use Rattle.script_meaning.specs.Books.{BooksOf}
use Rattle.script_meaning.proofs.Debts.{Exists, exists_first, exists_later, exists_right}
use Rattle.script_meaning.proofs.Payments.{AllPaid}
use Rattle.script_meaning.proofs.JobPieces.{job_told, JobPiece, quiet_closes}
use Rattle.script_meaning.proofs.JobStories.{step, who_did, deed, JobHolds}
use Rattle.script_meaning.proofs.JobDebts.{JobPaid, JobDebt, paid_then, paid_quiet, nobody_owes, needs_there}

abbrev pub cancelled_at : Option Job → Bool
cancelled_at None = false
cancelled_at (Some j) = is_cancelled j.state

abbrev pub cancellable_at : Option Job → Bool
cancellable_at None = false
cancellable_at (Some j) = is_cancellable j.state

abbrev pub is_row : ℕ → Option ℕ → Bool
is_row r None = false
is_row r (Some q) = q == r

-- the row is cancelled, this is its child, and may still be cancelled
abbrev pub owes_below : ℕ → ℕ → Tree → Bool
owes_below r d tree = cancelled_at (tree r) && (is_row r (parent_of (tree d)) && cancellable_at (tree d))

abbrev pub IsCancelOf : ℕ → JobAct → Type 0
IsCancelOf r (Cancel q reason) = q ≡ r
IsCancelOf r other = ⊥

abbrev pub CoversRow : ℕ → JobFact → Type 0
CoversRow r (PassedBelow row acts) = (row ≡ r) ⊎ Exists (IsCancelOf r) acts
CoversRow r (FailedUp row acts) = Exists (IsCancelOf r) acts
CoversRow r other = ⊥

abbrev pub TakesBelow : ℕ → JobAct → Told → Type 0
TakesBelow r a (on_jobs fact) = CoversRow r fact
TakesBelow r a other = ⊥

-- ---- what is told

-- acts that are all paid by what is told last
unfoldable pub AllTakenBy : (JobAct → Type 0) → (JobAct → Told → Type 0) → Told → List JobAct → Type 0
AllTakenBy Raises Takes t [] = Unit {0}
AllTakenBy Raises Takes t (a ∷ acts) = (Raises a → Takes a t) × AllTakenBy Raises Takes t acts

pub paid_by_last : (k : ℕ) (owes : Tree → Bool) (Raises : JobAct → Type 0) (Takes : JobAct → Told → Type 0) (t : Told) (acts : List JobAct)
    → job_told t ≡ None → AllTakenBy Raises Takes t acts → JobPaid k owes Raises Takes (map did acts ++ t ∷ [])
unfolding AllPaid AllTakenBy
paid_by_last k owes Raises Takes t [] m h = (
  subst (λ o. Rattle.script_meaning.proofs.Payments.IsPaid step start who_did deed k job_told JobHolds owes Raises
      (Rattle.script_meaning.proofs.JobDebts.Off Takes) o []) (sym m) tt,
  tt,
)
paid_by_last k owes Raises Takes t (a ∷ acts) m h = (
  λ r. exists_right (Takes a) (map did acts) (t ∷ [])
      (exists_first (Takes a) t [] (h.0 r)),
  paid_by_last k owes Raises Takes t acts m h.1,
)

covered : (r : ℕ) (t : Told) (acts : List JobAct) (all : Exists (IsCancelOf r) acts → (a : JobAct) → TakesBelow r a t)
    → AllTakenBy (IsCancelOf r) (TakesBelow r) t acts
unfolding AllTakenBy
covered r t [] all = tt
covered r t (a ∷ acts) all = (
  λ x. all (exists_first (IsCancelOf r) a acts x) a,
  covered r t acts (λ x b. all (exists_later (IsCancelOf r) a acts x) b),
)

own_or_below : (r row : ℕ) (newly : Bool) (reason : Reason) (below : List JobAct)
    → Exists (IsCancelOf r) (own_cancel newly row reason ++ below) → (row ≡ r) ⊎ Exists (IsCancelOf r) below
unfolding Exists
own_or_below r row true reason below h = h
own_or_below r row false reason below h = inr h

abbrev pub BelowPaid : ℕ → ℕ → ℕ → List Told → Type 0
BelowPaid k r d told = JobPaid k (owes_below r d) (IsCancelOf r) (TakesBelow r) told

pass_pays : (k r d row : ℕ) (reason : Reason) (newly : Bool) (g : List Told) → Passes row reason newly g → BelowPaid k r d g
pass_pays k r d row reason newly g s = subst (BelowPaid k r d) (sym s.all)
    (paid_by_last k (owes_below r d) (IsCancelOf r) (TakesBelow r) (on_jobs (PassedBelow row s.below)) (own_cancel newly row reason
    ++ s.below) refl (covered r (on_jobs (PassedBelow row s.below)) (own_cancel newly row reason
    ++ s.below) (λ x a. own_or_below r row newly reason s.below x)))

-- where neither the end of a Job nor what is told of it raises a debt, a chain pays
pub chain_calm : (p : Program) (k : ℕ) (owes : Tree → Bool) (Raises : JobAct → Type 0) (Takes : JobAct → Told → Type 0)
    → ((row : ℕ) (end : End) → Raises (Finish row end) → ⊥) → ((row : ℕ) → Raises (Gone row) → ⊥)
    → (row : ℕ) (g : List Told) → Chain (base_of p) row g → JobPaid k owes Raises Takes g
unfolding AllPaid
chain_calm p k owes Raises Takes n m _ _ (Chain.stops row) = (tt, tt)
chain_calm p k owes Raises Takes n m _ _ (Chain.root end closes c) =
    (λ x. absurd (n 0 end x), paid_quiet k owes Raises Takes closes (quiet_closes _ _ closes c))
chain_calm p k owes Raises Takes n m row g (Chain.goes_up _ parent end closes rest _ u c up e) =
    subst (JobPaid k owes Raises Takes) (sym e) (
      λ x. absurd (n row end x),
      paid_then k owes Raises Takes closes _ (paid_quiet k owes Raises Takes closes (quiet_closes _ _ closes c))
          (λ x. absurd (m row x), (tt, chain_calm p k owes Raises Takes n m parent rest up)),
    )

below_pieces : (p : Program) (r d k : ℕ) (g : List Told) → JobPiece p k g → BelowPaid k r d g
unfolding AllPaid
below_pieces p r d k _ (JobPiece.quiet g q) = paid_quiet k (owes_below r d) (IsCancelOf r) (TakesBelow r) g q
below_pieces p r d k g (JobPiece.passes row reason newly _ m o t) = pass_pays k r d row reason newly g t
below_pieces p r d k g (JobPiece.fails f up pass _ t e) =
    subst (BelowPaid k r d) (sym e) (paid_then k (owes_below r d) (IsCancelOf r) (TakesBelow r) pass _
    (pass_pays k r d k (reasons.Own f) true pass t) (paid_by_last k (owes_below r d) (IsCancelOf r) (TakesBelow r) (on_jobs (FailedUp k up))
    up refl (covered r (on_jobs (FailedUp k up)) up (λ x a. x))))
below_pieces p r d k _ (JobPiece.ends_body row v chain t) = (
  λ x. absurd x,
  chain_calm p k (owes_below r d) (IsCancelOf r) (TakesBelow r) (λ q end x. x) (λ q x. x) row chain t,
)
below_pieces p r d k _ other = (λ x. absurd x, tt)

-- ---- what takes it away

settled : (o : Option Job) → IsCancellingOrEnded o → cancellable_at o ≡ false
settled None h = refl
settled (Some j) h = h

pub row_is : (r : ℕ) (o : Option ℕ) → is_row r o ≡ true → o ≡ Some r
row_is r None h = cc
row_is r (Some q) h = ap (λ n. Some n) (eqb-true q r h)

three : (a b c : Bool) → (a && (b && c)) ≡ true → (a ≡ true) × (b ≡ true) × (c ≡ true)
three a b c h = let p = and_parts a (b && c) h in let q = and_parts b c p.1 in (p.0, q.0, q.1)

nothing_below : (tree : Tree) (r d : ℕ) → (parent_of (tree d) ≡ Some r → IsCancellingOrEnded (tree d)) → owes_below r d tree ≡ false
nothing_below tree r d h = false_from_ne_true _ (λ k. let q = three (cancelled_at (tree r)) (is_row r (parent_of (tree d))) _ k
    in both_ways (cancellable_at (tree d)) (settled (tree d) (h (row_is r (parent_of (tree d)) q.1))) q.2)

among_below : (tree : Tree) (row r : ℕ) (a : JobAct) → IsCancelBelow tree row a → IsCancelOf r a → IsBelow tree row r
among_below tree row r (Cancel q reason) h e = subst (IsBelow tree row) e h.1
among_below tree row r other h e = absurd h

some_below : (tree : Tree) (row r : ℕ) (acts : List JobAct) → AreCancelsBelow tree row acts → Exists (IsCancelOf r) acts
    → IsBelow tree row r
unfolding Exists
some_below tree row r [] h x = absurd x
some_below tree row r (a ∷ acts) h x = ⊎_elim (λ (y : IsCancelOf r a). among_below tree row r a h.0 y)
    (λ (y : Exists (IsCancelOf r) acts). some_below tree row r acts h.1 y) x

pub exists_parts : (P : JobAct → Type 0) (xs ys : List JobAct) → Exists P (xs ++ ys) → Exists P xs ⊎ Exists P ys
unfolding Exists
exists_parts P [] ys h = inr h
exists_parts P (x ∷ xs) ys h = ⊎_elim (λ (a : P x). inl (inl a))
    (λ (b : Exists P (xs ++ ys)). ⊎_elim (λ (c : Exists P xs). inl (inr c)) (λ (c : Exists P ys). inr c) (exists_parts P xs ys b)) h

up_covers : (tree : Tree) (r d row : ℕ) (acts : List JobAct) → FailsUp tree row acts → Exists (IsCancelOf r) acts
    → parent_of (tree d) ≡ Some r → IsCancellingOrEnded (tree d)
unfolding Exists
up_covers tree r d _ _ (FailsUp.ends row s) x e = absurd x
up_covers tree r d _ _ (FailsUp.stops row p acts g a b) x e = a.below d (is_further r d (some_below tree p r acts b x) e)
up_covers tree r d row acts (FailsUp.goes_on _ p these later _ g a b f q) x e =
    let y : Exists (IsCancelOf r) (Cancel p (reasons.Child row) ∷ these ++ later) = subst (Exists (IsCancelOf r)) q x in
    ⊎_elim (λ (i : p ≡ r). a.below d (is_child d (e ∙ ap (λ n. Some n) (sym i))))
    (λ (z : Exists (IsCancelOf r) (these ++ later)). ⊎_elim
    (λ (u : Exists (IsCancelOf r) these). a.below d (is_further r d (some_below tree p r these b u) e))
    (λ (u : Exists (IsCancelOf r) later). up_covers tree r d p later f u e) (exists_parts (IsCancelOf r) these later z)) y

below_by_fact : (r d : ℕ) (at : List JobEntry) (fact : JobFact) → JobHolds (on_jobs fact) at → CoversRow r fact
    → owes_below r d (replay at) ≡ false
below_by_fact r d at (PassedBelow row acts) h c = nothing_below (replay at) r d
    (λ e. ⊎_elim (λ (i : row ≡ r). h.1.below d (is_child d (e ∙ ap (λ n. Some n) (sym i))))
    (λ (x : Exists (IsCancelOf r) acts). h.1.below d (is_further r d (some_below (replay at) row r acts h.0 x) e)) c)
below_by_fact r d at (FailedUp row acts) h c = nothing_below (replay at) r d (up_covers (replay at) r d row acts h.0 c)
below_by_fact r d at other h c = absurd c

below_by_told : (r d : ℕ) (a : JobAct) (t : Told) (at : List JobEntry) → JobHolds t at → TakesBelow r a t
    → owes_below r d (replay at) ≡ false
below_by_told r d a (on_jobs fact) at h t = below_by_fact r d at fact h t
below_by_told r d a other at h t = absurd t

pub no_act : (r : ℕ) (a : JobAct) (t : Told) (b : JobAct) → job_told t ≡ Some b → TakesBelow r a t → ⊥
no_act r a (on_jobs fact) b m t = cc
no_act r a other b m t = t

-- ---- which act raises it

newly_cancelled : (shape : _) (tree : Tree) (who r : ℕ) (act : JobAct) (x y : Option Job) → RowStep shape tree who r act x y
    → cancelled_at x ≡ false → cancelled_at y ≡ true → IsCancelOf r act ⊎ (x ≡ None)
newly_cancelled shape tree who r _ _ _ (RowStep.is_attached p kind tag cancelled m i) f t = inr refl
newly_cancelled shape tree who r _ _ _ (RowStep.is_started j n) f t = cc
newly_cancelled shape tree who r _ _ _ (RowStep.body_ends v j m) f t =
    absurd (both_ways (is_cancelled j.state) f (body_cancelled j.state ∙ t))
newly_cancelled shape tree who r _ _ _ (RowStep.is_cancelled reason j m o) f t = inl refl
newly_cancelled shape tree who r _ _ _ (RowStep.ends end j m) f t =
    absurd (both_ways (is_cancelled j.state) f (end_cancelled j.state j end m.2 ∙ t))
newly_cancelled shape tree who r act x y other f t = absurd (both_ways (cancelled_at x) f t)

-- a Job that may have a child which is not cancelled at once is not cancelled
not_yet : (o : Option Job) (cancelled lazy : Bool) → MayHaveChild cancelled o → is_cancellable (first_state cancelled lazy) ≡ true
    → cancelled_at o ≡ true → ⊥
not_yet None cancelled lazy m c t = absurd m
not_yet (Some j) true lazy m c t = cc
not_yet (Some j) false lazy m c t = at j.state m.0 m.1 t
  where
    at : (s : JobState) → is_ended s ≡ false → is_cancelling s ≡ false → is_cancelled s ≡ true → ⊥
    at New a b d = cc
    at other a b d = cc

new_cancellable : (shape : _) (tree : Tree) (who r q : ℕ) (act : JobAct) (x y : Option Job) (kind : _) (tag : ℕ) (cancelled : Bool)
    → RowStep shape tree who q act x y → act ≡ Attach r q kind tag cancelled → cancellable_at y ≡ true → x ≡ None
    → cancelled_at (tree r) ≡ true → ⊥
new_cancellable shape tree who r q _ _ _ kind tag cancelled (RowStep.is_attached p kind' tag' cancelled' m i) e c n t =
    not_yet (tree r) cancelled' kind'.lazy (subst (λ u. MayHaveChild cancelled' (tree u)) (let f : p ≡ r = cc in f) m) c t
new_cancellable shape tree who r q _ _ _ kind tag cancelled (RowStep.stays act x a b d f g) e c n t =
    absurd (let z : cancellable_at x ≡ false = ap cancellable_at n in both_ways (cancellable_at x) z c)
new_cancellable shape tree who r q _ _ _ kind tag cancelled other e c n t = cc

pub row_same : (r : ℕ) (o : Option ℕ) → o ≡ Some r → is_row r o ≡ true
row_same r o e = subst (λ o. is_row r o ≡ true) (sym e) (Rattle.job_model.proofs.Rows.same r)

stays_cancelling : (o : Option Job) → cancellable_at o ≡ false → (o ≡ None → ⊥) → IsCancellingOrEnded o
stays_cancelling None h n = n refl
stays_cancelling (Some j) h n = h

last_false : (a b c : Bool) → (a && (b && c)) ≡ false → a ≡ true → b ≡ true → c ≡ false
last_false a b c h p q = false_from_ne_true c (λ k. both_ways (a && (b && c)) h (and_from a _ p (and_from b c q k)))

pub some_parent : (o : Option Job) (r : ℕ) → parent_of o ≡ Some r → o ≡ None → ⊥
some_parent None r e n = cc
some_parent (Some j) r e n = cc

no_children : (o : Option Job) (d : ℕ) → o ≡ None → is_among d (children_of o) ≡ true → ⊥
no_children None d n h = cc
no_children (Some j) d n h = cc

below_raised : (shape : _) (tree : Tree) (who r d : ℕ) (act : JobAct) → HasFamilies tree → Needs shape tree who act
    → owes_below r d tree ≡ false → owes_below r d (after tree who act) ≡ true → IsCancelOf r act
below_raised shape tree who r d act fam needs f t =
    let q = three (cancelled_at (after tree who act r)) (is_row r (parent_of (after tree who act d)))
    (cancellable_at (after tree who act d)) t in
    let parent = row_is r (parent_of (after tree who act d)) q.1 in
    at (cancelled_at (tree r)) refl q.0 parent q.2
  where
    child_before : cancelled_at (tree r) ≡ true → cancellable_at (after tree who act d) ≡ true → parent_of (tree d) ≡ Some r → ⊥
    child_before c y e =
        let now : cancellable_at (tree d) ≡ false = last_false (cancelled_at (tree r)) (is_row r (parent_of (tree d)))
        (cancellable_at (tree d)) f c (row_same r (parent_of (tree d)) e) in
        both_ways (cancellable_at (after tree who act d)) (settled (after tree who act d)
        (act_keeps IsCancellingOrEnded cancelling_lasts shape tree who act d needs
        (stays_cancelling (tree d) now (some_parent (tree d) r e)))) y

    at : (b : Bool) → cancelled_at (tree r) ≡ b → cancelled_at (after tree who act r) ≡ true → parent_of (after tree who act d) ≡ Some r
        → cancellable_at (after tree who act d) ≡ true → IsCancelOf r act
    at true c x parent y = parent_was shape tree who d r act _ _ _ (row_step shape tree who act d needs) parent
        (λ e. absurd (child_before c y e)) (λ kind tag cancelled e. absurd
        (new_cancellable shape tree who r d act _ _ kind tag cancelled (row_step shape tree who act d needs) e y
        (subst (Needs shape tree who) e needs).0 c))
    at false c x parent y = ⊎_elim (λ (z : IsCancelOf r act). z)
        (λ (z : tree r ≡ None). absurd (parent_was shape tree who d r act _ _ ⊥ (row_step shape tree who act d needs) parent
        (λ e. no_children (tree r) d z (fam.listed r d e)) (λ kind tag cancelled e. subst (MayHaveChild cancelled) z
        (subst (Needs shape tree who) e needs).1))) (newly_cancelled shape tree who r act _ _ (row_step shape tree who act r needs) c x)

of_start : (b x : Bool) → (cancelled_at (if b then Some root else None) && x) ≡ false
of_start true x = refl
of_start false x = refl

below_debt : (p : Program) (jobs : List JobEntry) → Legal (job_shape p) jobs → (r d : ℕ) → JobDebt p jobs
below_debt p jobs l r d = record {
  owes = owes_below r d;
  Raises = λ n. IsCancelOf r;
  Takes = TakesBelow r;
  first = of_start (r == 0) _;
  rises = λ before e rest parts f t. below_raised (job_shape p) (replay before) e.who r d e.act
      (replay_families (job_shape p) before (Legal-prefix (job_shape p) before (e ∷ rest) (subst (Legal (job_shape p)) parts l)))
      (needs_there (job_shape p) jobs before e rest l parts) f t;
  pieces = λ k g h s. below_pieces p r d k g s;
  by_fact = λ a t at more parts h m x. below_by_told r d a t at h x;
  by_act = λ a t b m x before rest e parts is. absurd (no_act r a t b m x);
}

-- ---- all below

is_cancelled_true : (o : Option Job) → IsCancelled o → cancelled_at o ≡ true
is_cancelled_true None h = absurd h
is_cancelled_true (Some j) h = h

ended_is : (o : Option Job) → IsEnded o → IsCancellingOrEnded o
ended_is None h = absurd h
ended_is (Some j) h = at j.state h
  where
    at : (s : JobState) → is_ended s ≡ true → is_cancellable s ≡ false
    at Cancelled e = refl
    at Completed e = refl
    at other e = cc

either : (o : Option Job) → IsCancellingOrEnded o → (cancelled_at o ≡ true) ⊎ IsEnded o
either None h = absurd h
either (Some j) h = at j.state h
  where
    at : (s : JobState) → is_cancellable s ≡ false → (is_cancelled s ≡ true) ⊎ (is_ended s ≡ true)
    at Cancelling e = inl refl
    at Cancelled e = inl refl
    at Completed e = inr refl
    at other e = cc

-- all below a cancelled Job is Cancelling or ended
pub below : (p : Program) (books : List (List Item)) (channels : List Entry) (jobs : List JobEntry) → BooksOf p books channels jobs
    → (r : ℕ) → IsCancelled (replay jobs r) → AllBelowCancelled (replay jobs) r
unfolding below_debt
below p books channels jobs of r cancelled d under = down d under
  where
    one : (q c : ℕ) → cancelled_at (replay jobs q) ≡ true → parent_of (replay jobs c) ≡ Some q → IsCancellingOrEnded (replay jobs c)
    one q c t e = stays_cancelling (replay jobs c) (last_false (cancelled_at (replay jobs q)) (is_row q (parent_of (replay jobs c)))
        (cancellable_at (replay jobs c)) (nobody_owes p books channels jobs of (below_debt p jobs of.legal_jobs q c)) t
        (row_same q (parent_of (replay jobs c)) e)) (some_parent (replay jobs c) q e)

    down : (c : ℕ) → IsBelow (replay jobs) r c → IsCancellingOrEnded (replay jobs c)
    down _ (is_child c e) = one r c (is_cancelled_true (replay jobs r) cancelled) e
    down _ (is_further q c h e) = ⊎_elim (λ (t : cancelled_at (replay jobs q) ≡ true). one q c t e)
        (λ (t : IsEnded (replay jobs q)). ended_is (replay jobs c)
        (child_ended (replay jobs) q c (replay_families (job_shape p) jobs of.legal_jobs) t e)) (either (replay jobs q) (down q h))
