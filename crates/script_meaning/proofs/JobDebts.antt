-- No debt of the tree of Jobs is left at the end of a run, if each piece of what is told takes away what it raises.
use Rattle.std.proofs.Common.{◌≡◌, ℕ, ◌≤◌, Bool, true, false, List, [], ◌∷◌, ◌++◌, length, refl, ap, sym, ◌∙◌, subst, append_assoc, inl, inr, ◌⊎◌, ⊎_elim, Option, Some, None, arith, zero, suc}
use Rattle.std.specs.Prelude.{nat_lt, map}
use Rattle.std.proofs.lemmas.Bool.Decides.{nat_tests}
use mathlib.Core.List.{IsPrefix, append-nil}
use Rattle.channel_model.specs.declared.acts.Entry.{Entry}
use Rattle.job_model.specs.declared.acts.Reason.{Reason}
use Rattle.job_model.specs.declared.acts.Reason.TheVariants as reasons
use Rattle.job_model.specs.declared.acts.JobAct.{JobAct}
use Rattle.job_model.specs.declared.acts.JobAct.TheVariants.{Attach, Cancel}
use Rattle.job_model.specs.declared.acts.JobEntry.{JobEntry}
use Rattle.job_model.specs.Cancels.{IsCancelBelow, AreCancelsBelow}
use Rattle.job_model.specs.Failures.{FailsUp}
use Rattle.job_model.specs.Effects.{after}
use Rattle.job_model.specs.Trees.{Tree, start, parent_of}
use Rattle.job_model.specs.Histories.{replay, Legal}
use Rattle.job_model.specs.Needs.{Needs}
use Rattle.job_model.proofs.Histories.{LegalFrom-parts, LegalFrom-cons}
use Rattle.job_model.proofs.Own.{prefix_keeps}
use Rattle.job_model.proofs.Lasting.{parent_lasts}
use Rattle.note_book.specs.declared.book.Item.{Item}
use Rattle.note_book.specs.Items.{job_acts_in}
use Rattle.call_meaning.specs.Telling.{Told, on_jobs, JobFact, ParentIs, PassedBelow, FailedUp, did}
use Rattle.script_grammar.specs.Programs.{Program}
use Rattle.script_grammar.specs.Tags.{coroutine_count}
use Rattle.script_meaning.specs.Shapes.{job_shape}
use Rattle.script_meaning.specs.Configs.{Config}
use Rattle.script_meaning.specs.Books.{Reaches, BooksOf, book_at}
use Rattle.script_meaning.proofs.Debts.{not_empty, part, part-append, part_push, Exists, exists_left, Pays, nothing_owed}
use Rattle.script_meaning.proofs.Payments.{act_list, acts_told, AllSo, IsPaid, AllPaid, all_pays, takes_off}
use Rattle.script_meaning.proofs.JobPieces.{job_told, IsQuiet, JobPiece, JobPieces, all_pieces}
use Rattle.script_meaning.proofs.JobStories.{step, who_did, deed, JobHolds, JobSo, same_tree, same_part, true_so, told_parts}

-- ---- who is whose parent, for good

abbrev pub Parents : Type 0
Parents = ℕ → Option ℕ

abbrev pub parents_in : List JobEntry → Parents
parents_in jobs c = parent_of (replay jobs c)

abbrev pub IsCancel : JobAct → Type 0
IsCancel (Cancel q reason) = Unit {0}
IsCancel other = ⊥

unfoldable pub AreCancels : List JobAct → Type 0
AreCancels [] = Unit {0}
AreCancels (a ∷ acts) = IsCancel a × AreCancels acts

pub cancels_then : (xs ys : List JobAct) → AreCancels xs → AreCancels ys → AreCancels (xs ++ ys)
unfolding AreCancels
cancels_then [] ys a b = b
cancels_then (x ∷ xs) ys a b = (a.0, cancels_then xs ys a.1 b)

one_cancel : (tree : Tree) (row : ℕ) (a : JobAct) → IsCancelBelow tree row a → IsCancel a
one_cancel tree row (Cancel q reason) h = tt
one_cancel tree row other h = absurd h

pub below_cancels : (tree : Tree) (row : ℕ) (acts : List JobAct) → AreCancelsBelow tree row acts → AreCancels acts
unfolding AreCancels
below_cancels tree row [] h = tt
below_cancels tree row (a ∷ acts) h = (one_cancel tree row a h.0, below_cancels tree row acts h.1)

pub up_cancels : (tree : Tree) (row : ℕ) (acts : List JobAct) → FailsUp tree row acts → AreCancels acts
unfolding AreCancels
up_cancels tree _ _ (FailsUp.ends row s) = tt
up_cancels tree _ _ (FailsUp.stops row p acts g a b) = below_cancels tree p acts b
up_cancels tree _ _ (FailsUp.goes_on row p acts later all g a b f e) =
    subst AreCancels (sym e) (tt, cancels_then acts later (below_cancels tree p acts b) (up_cancels tree p later f))

abbrev pub IsParent : Reason → Type 0
IsParent reasons.Parent = Unit {0}
IsParent other = ⊥

abbrev pub IsUp : Reason → Type 0
IsUp reasons.Parent = Unit {0}
IsUp (reasons.Child c) = Unit {0}
IsUp other = ⊥

abbrev pub IsFor : (Reason → Type 0) → JobAct → Type 0
IsFor P (Cancel q reason) = P reason
IsFor P other = ⊥

unfoldable pub AreFor : (Reason → Type 0) → List JobAct → Type 0
AreFor P [] = Unit {0}
AreFor P (a ∷ acts) = IsFor P a × AreFor P acts

for_then : (P : Reason → Type 0) (xs ys : List JobAct) → AreFor P xs → AreFor P ys → AreFor P (xs ++ ys)
unfolding AreFor
for_then P [] ys a b = b
for_then P (x ∷ xs) ys a b = (a.0, for_then P xs ys a.1 b)

one_for : (P : Reason → Type 0) → P reasons.Parent → (tree : Tree) (row : ℕ) (a : JobAct) → IsCancelBelow tree row a → IsFor P a
one_for P u tree row (Cancel q reason) h = subst P (sym h.0) u
one_for P u tree row other h = absurd h

below_for : (P : Reason → Type 0) → P reasons.Parent → (tree : Tree) (row : ℕ) (acts : List JobAct) → AreCancelsBelow tree row acts
    → AreFor P acts
unfolding AreFor
below_for P u tree row [] h = tt
below_for P u tree row (a ∷ acts) h = (one_for P u tree row a h.0, below_for P u tree row acts h.1)

up_for : (tree : Tree) (row : ℕ) (acts : List JobAct) → FailsUp tree row acts → AreFor IsUp acts
unfolding AreFor
up_for tree _ _ (FailsUp.ends row s) = tt
up_for tree _ _ (FailsUp.stops row p acts g a b) = below_for IsUp tt tree p acts b
up_for tree _ _ (FailsUp.goes_on row p acts later all g a b f e) =
    subst (AreFor IsUp) (sym e) (tt, for_then IsUp acts later (below_for IsUp tt tree p acts b) (up_for tree p later f))

abbrev pub FactIsKnown : Parents → JobFact → Type 0
FactIsKnown parents (ParentIs row q) = parents row ≡ Some q
FactIsKnown parents (PassedBelow row acts) = AreCancels acts × AreFor IsParent acts
FactIsKnown parents (FailedUp row acts) = AreCancels acts × AreFor IsUp acts
FactIsKnown parents other = Unit {0}

abbrev pub IsKnown : Parents → Told → Type 0
IsKnown parents (on_jobs fact) = FactIsKnown parents fact
IsKnown parents other = Unit {0}

unfoldable pub AllKnown : Parents → List Told → Type 0
AllKnown parents [] = Unit {0}
AllKnown parents (t ∷ ts) = IsKnown parents t × AllKnown parents ts

pub known_left : (parents : Parents) (xs ys : List Told) → AllKnown parents (xs ++ ys) → AllKnown parents xs
unfolding AllKnown
known_left parents [] ys h = tt
known_left parents (x ∷ xs) ys h = (h.0, known_left parents xs ys h.1)

pub known_right : (parents : Parents) (xs ys : List Told) → AllKnown parents (xs ++ ys) → AllKnown parents ys
unfolding AllKnown
known_right parents [] ys h = h
known_right parents (x ∷ xs) ys h = known_right parents xs ys h.1

fact_known : (shape : _) (jobs at : List JobEntry) (fact : JobFact) → Legal shape jobs → IsPrefix at jobs → JobHolds (on_jobs fact) at
    → FactIsKnown (parents_in jobs) fact
fact_known shape jobs at (ParentIs row q) l p h = prefix_keeps (λ x. parent_of x ≡ Some q) (parent_lasts q) shape at jobs row l p h
fact_known shape jobs at (PassedBelow row acts) l p h =
    (below_cancels (replay at) row acts h.0, below_for IsParent tt (replay at) row acts h.0)
fact_known shape jobs at (FailedUp row acts) l p h = (up_cancels (replay at) row acts h.0, up_for (replay at) row acts h.0)
fact_known shape jobs at other l p h = tt

one_known : (shape : _) (jobs at : List JobEntry) (t : Told) → Legal shape jobs → IsPrefix at jobs → JobHolds t at
    → IsKnown (parents_in jobs) t
one_known shape jobs at (on_jobs fact) l p h = fact_known shape jobs at fact l p h
one_known shape jobs at other l p h = tt

pub all_known : (shape : _) (k : ℕ) (jobs : List JobEntry) (done : List JobAct) (told : List Told) → Legal shape jobs
    → JobSo k jobs done told → AllKnown (parents_in jobs) told
unfolding AllKnown AllSo
all_known shape k jobs done [] l h = tt
all_known shape k jobs done (t ∷ told) l h = (
  one_known shape jobs h.0.at t l (h.0.more, h.0.parts) h.0.holds,
  all_known shape k jobs (done ++ act_list (job_told t)) told l h.1,
)

-- ---- what a coroutine of the run told

pub record HasTold (p : Program) (jobs : List JobEntry) (k : ℕ) : Type 0 where
  pub told : List Told
  pub config : Config
  pub reaches : Reaches p k told config
  pub so : JobSo k jobs [] told
  pub acts : acts_told step start who_did deed k job_told JobHolds told ≡ part who_did deed k jobs

pub no_book : (books : List (List Item)) (k : ℕ) → length books ≤ k → book_at k books ≡ []
no_book [] k h = refl
no_book (b ∷ books) zero h = absurd (omega arith)
no_book (b ∷ books) (suc k) h = no_book books k (omega arith)

pub has_told : (p : Program) (books : List (List Item)) (channels : List Entry) (jobs : List JobEntry) → BooksOf p books channels jobs
    → (k : ℕ) → HasTold p jobs k ⊎ (part who_did deed k jobs ≡ [])
has_told p books channels jobs of k = by_test (nat_lt k (coroutine_count p)) refl
  where
    by_test : (b : Bool) → nat_lt k (coroutine_count p) ≡ b → HasTold p jobs k ⊎ (part who_did deed k jobs ≡ [])
    by_test true h =
        let r = of.runs k (grind (arith, nat_tests)) in
        inl (record {
          told = r.told;
          config = of.ends_at k;
          reaches = r.reaches;
          so = true_so _ [] _ r.told r.is_true;
          acts =
              sym (told_parts k r.told) ∙ ap job_acts_in r.written ∙ sym (of.job_parts k) ∙ sym (same_part k jobs);
        })
    by_test false h = inr (same_part k jobs ∙ of.job_parts k
        ∙ ap job_acts_in (no_book books k (let n : length books ≡ coroutine_count p = of.count in grind (arith, nat_tests))))

-- ---- debts

abbrev pub Off : (JobAct → Told → Type 0) → JobAct → List Told → Type 0
Off Takes a ts = Exists (Takes a) ts

abbrev pub JobPaid : ℕ → (Tree → Bool) → (JobAct → Type 0) → (JobAct → Told → Type 0) → List Told → Type 0
JobPaid k owes Raises Takes told = AllPaid step start who_did deed k job_told JobHolds owes Raises (Off Takes) told

pub paid_then : (k : ℕ) (owes : Tree → Bool) (Raises : JobAct → Type 0) (Takes : JobAct → Told → Type 0) (xs ys : List Told)
    → JobPaid k owes Raises Takes xs → JobPaid k owes Raises Takes ys → JobPaid k owes Raises Takes (xs ++ ys)
unfolding AllPaid
paid_then k owes Raises Takes [] ys a b = b
paid_then k owes Raises Takes (x ∷ xs) ys a b = (more (job_told x) a.0, paid_then k owes Raises Takes xs ys a.1 b)
  where
    more : (o : Option JobAct) → IsPaid step start who_did deed k job_told JobHolds owes Raises (Off Takes) o xs
        → IsPaid step start who_did deed k job_told JobHolds owes Raises (Off Takes) o (xs ++ ys)
    more None h = tt
    more (Some act) h = λ r. exists_left (Takes act) xs ys (h r)

pub paid_quiet : (k : ℕ) (owes : Tree → Bool) (Raises : JobAct → Type 0) (Takes : JobAct → Told → Type 0) (xs : List Told) → IsQuiet xs
    → JobPaid k owes Raises Takes xs
unfolding AllPaid IsQuiet
paid_quiet k owes Raises Takes [] h = tt
paid_quiet k owes Raises Takes (x ∷ xs) h = (
  subst (λ o. IsPaid step start who_did deed k job_told JobHolds owes Raises (Off Takes) o xs)
      (sym h.0) tt,
  paid_quiet k owes Raises Takes xs h.1,
)

pub paid_cancels : (k : ℕ) (owes : Tree → Bool) (Raises : JobAct → Type 0) (Takes : JobAct → Told → Type 0) (acts : List JobAct)
    → AreCancels acts → ((q : ℕ) (reason : Reason) → Raises (Cancel q reason) → ⊥) → JobPaid k owes Raises Takes (map did acts)
unfolding AllPaid AreCancels
paid_cancels k owes Raises Takes [] h n = tt
paid_cancels k owes Raises Takes (Cancel q reason ∷ acts) h n = (λ r. absurd (n q reason r), paid_cancels k owes Raises Takes acts h.1 n)
paid_cancels k owes Raises Takes (Attach a b c d e ∷ acts) h n = absurd h.0
paid_cancels k owes Raises Takes other h n = absurd h.0

pub record JobDebt (p : Program) (jobs : List JobEntry) : Type 1 where
  pub owes : Tree → Bool
  -- this act of k may raise it
  pub Raises : ℕ → JobAct → Type 0
  pub Takes : JobAct → Told → Type 0
  pub first : owes start ≡ false
  pub rises : (before : List JobEntry) (e : JobEntry) (rest : List JobEntry) → jobs ≡ before ++ e ∷ rest → owes (replay before) ≡ false
      → owes (after (replay before) e.who e.act) ≡ true → Raises e.who e.act
  pub pieces : (k : ℕ) (g : List Told) → AllKnown (parents_in jobs) g → JobPiece p k g → JobPaid k owes (Raises k) Takes g
  pub by_fact : (a : JobAct) (t : Told) (at more : List JobEntry) → at ++ more ≡ jobs → JobHolds t at → job_told t ≡ None → Takes a t
      → owes (replay at) ≡ false
  pub by_act : (a : JobAct) (t : Told) (b : JobAct) → job_told t ≡ Some b → Takes a t → (before rest : List JobEntry) (e : JobEntry)
      → jobs ≡ before ++ e ∷ rest → e.act ≡ b → owes (after (replay before) e.who e.act) ≡ false

paid_pieces : (p : Program) (jobs : List JobEntry) (d : JobDebt p jobs) (k : ℕ) (told : List Told) → AllKnown (parents_in jobs) told
    → JobPieces p k told → JobPaid k d.owes (d.Raises k) d.Takes told
unfolding AllPaid
paid_pieces p jobs d k _ h JobPieces.none = tt
paid_pieces p jobs d k told h (JobPieces.more g rest _ a r e) =
    let known : AllKnown (parents_in jobs) (g ++ rest) = subst (AllKnown (parents_in jobs)) e h in
    subst (JobPaid k d.owes (d.Raises k) d.Takes) (sym e)
    (paid_then k d.owes (d.Raises k) d.Takes g rest (d.pieces k g (known_left (parents_in jobs) g rest known) a)
    (paid_pieces p jobs d k rest (known_right (parents_in jobs) g rest known) r))

pub nobody_owes : (p : Program) (books : List (List Item)) (channels : List Entry) (jobs : List JobEntry) → BooksOf p books channels jobs
    → (d : JobDebt p jobs) → d.owes (replay jobs) ≡ false
nobody_owes p books channels jobs of d = subst (λ tree. d.owes tree ≡ false) (same_tree start jobs)
    (nothing_owed step who_did d.owes start jobs d.first pays)
  where
    none_of : (k : ℕ) → part who_did deed k jobs ≡ [] → Pays step who_did d.owes start k jobs
    none_of k none before e rest parts mine free owed = absurd
        (not_empty (part who_did deed k before) (part who_did deed k rest) e.act (sym none
        ∙ ap (part who_did deed k) (parts ∙ sym (append_assoc before (e ∷ []) rest)) ∙ part-append who_did deed k (before ++ e ∷ []) rest
        ∙ ap (λ l. l ++ part who_did deed k rest) (part_push who_did deed k before e mine)
        ∙ append_assoc (part who_did deed k before) (e.act ∷ []) (part who_did deed k rest)))

    one_of : (k : ℕ) → HasTold p jobs k → Pays step who_did d.owes start k jobs
    one_of k h = all_pays step start who_did deed k job_told JobHolds d.owes (d.Raises k) (Off d.Takes) jobs h.told h.so h.acts
        (paid_pieces p jobs d k h.told (all_known (job_shape p) k jobs [] h.told of.legal_jobs h.so)
        (all_pieces p k h.told h.config h.reaches))
        (λ before e rest parts mine free owed. subst (λ n. d.Raises n e.act) mine
        (d.rises before e rest parts (subst (λ t. d.owes t ≡ false) (same_tree start before) free)
        (subst (λ t. d.owes (after t e.who e.act) ≡ true) (same_tree start before) owed)))
        (λ bs e rs ys parts mine owed acts so r x. takes_off step start who_did deed k job_told JobHolds d.owes (d.Raises k) (Off d.Takes)
        jobs (d.Takes e.act)
        (λ t at more parts holds m takes. subst (λ s. d.owes s ≡ false) (sym (same_tree start at))
        (d.by_fact e.act t at more parts holds m takes))
        (λ t b m takes before rest u parts is. subst (λ s. d.owes (after s u.who u.act) ≡ false) (sym (same_tree start before))
        (d.by_act e.act t b m takes before rest u parts is))
        (part who_did deed k bs ++ e.act ∷ []) [] ys (acts ∙ ap (λ l. l
        ++ acts_told step start who_did deed k job_told JobHolds ys) (sym (append-nil (part who_did deed k bs ++ e.act ∷ []))))
        (subst (λ l. JobSo k jobs l ys) (sym (append-nil (part who_did deed k bs ++ e.act ∷ []))) so) x)

    pays : (k : ℕ) → Pays step who_did d.owes start k jobs
    pays k = ⊎_elim (λ (h : HasTold p jobs k). one_of k h) (λ (n : part who_did deed k jobs ≡ []). none_of k n)
        (has_told p books channels jobs of k)

-- what an entry of the history met
pub needs_there : (shape : _) (jobs before : List JobEntry) (e : JobEntry) (rest : List JobEntry) → Legal shape jobs → jobs ≡ before
    ++ e ∷ rest → Needs shape (replay before) e.who e.act
needs_there shape jobs before e rest l q = (LegalFrom-cons shape (replay before) e rest
    (LegalFrom-parts shape start before (e ∷ rest) (subst (Legal shape) q l)).1).0
