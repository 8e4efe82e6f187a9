-- What a coroutine has claimed it attached, whatever the floors: of the rows of coroutines those that it launched, and no more of those for
-- scopes than its lines enter. And which refusals a book may have.
use Rattle.std.specs.Prelude.{◌≡◌, ℕ, zero, suc, ◌+◌, ◌<◌, ◌≤◌, ◌==◌, ◌⊎◌, Bool, true, false, ◌||◌, List, [], ◌∷◌, Option, Some, None, is_some, if◌then◌else◌, refl}
use Rattle.std.specs.List.{list_any}
use Rattle.std.proofs.Common.{sym, ap, ◌∙◌, subst, inl, inr, ⊎_elim, arith}
use Rattle.std.proofs.lemmas.Bool.{eqb-true, cases_Bool, or_from, or_cases, or_parts}
use Rattle.std.proofs.lemmas.List.Folds.{list_any-append}
use Rattle.channel_model.specs.Floors.{Floor as ChannelFloor}
use Rattle.job_model.specs.declared.acts.JobAct.{JobAct}
use Rattle.job_model.specs.declared.acts.JobAct.TheVariants.{Attach}
use Rattle.job_model.specs.declared.acts.JobNote.TheVariants as known
use Rattle.job_model.specs.Acts.{attaches}
use Rattle.job_model.specs.Trees.{is_among, start}
use Rattle.job_model.specs.Histories.{Legal}
use Rattle.job_model.proofs.Spans.{or_nothing}
use Rattle.job_model.specs.Floors.{Floor, is_claimed_by}
use Rattle.note_book.specs.declared.book.Item.{Item}
use Rattle.note_book.specs.declared.book.Item.TheVariants as item
use Rattle.note_book.specs.Items.{job_acts_in}
use Rattle.call_meaning.specs.Calls.{seen_by, row_in, rows_in}
use Rattle.script_grammar.specs.Programs.{Program}
use Rattle.script_grammar.specs.WellFormed.{IsProgram}
use Rattle.script_grammar.specs.Tags.{coroutine_count, scope_count, LaunchesAt}
use Rattle.script_meaning.specs.Shapes.{job_shape}
use Rattle.script_meaning.specs.Books.{is_refusal, is_channel_refusal}
use Rattle.script_meaning.specs.Polls.{Frame, StandsOn, own_rows, is_no_row, is_used, is_parent_ended}
use Rattle.script_meaning.proofs.CompletedJobs.{completed_in}
use Rattle.script_meaning.proofs.TagsGiven.{launches_row, launched_in, scopes_told, scopes_of_acts}
use Rattle.script_meaning.proofs.TagsReached.{ReachGives, runs_give, launched_in_run}
use Rattle.script_laws.specs.Counts.{one, count_from}
use Rattle.script_laws.specs.Owners.{AreClaimed, scopes_claimed}
use Rattle.script_laws.proofs.RowsEntered.{scopes_at, enters_row, attach_is, rows_few, scope_rows, count_more}

-- ---- rows that acts attach

same_row : (r : ℕ) (act : JobAct) → is_among r (row_in act) ≡ attaches r act
same_row r (Attach p q kind tag cancelled) = sym (or_nothing (r == q))
same_row r other = refl

pub is_among-rows_in : (r : ℕ) (acts : List JobAct) → is_among r (rows_in acts) ≡ list_any (attaches r) acts
unfolding rows_in
is_among-rows_in r [] = refl
is_among-rows_in r (act ∷ acts) =
    list_any-append (λ q. r == q) (row_in act) (rows_in acts)
    ∙ ap (λ b. b || is_among r (rows_in acts)) (same_row r act)
    ∙ ap (λ b. attaches r act || b) (is_among-rows_in r acts)

-- an own row is the root's, or was attached
own_or_attached : (k r : ℕ) (book : List Item) → is_among r (own_rows k book) ≡ true → (r ≡ 0)
    ⊎ (list_any (attaches r) (job_acts_in book) ≡ true)
own_or_attached k r book e =
    ⊎_elim
    (λ f. inl (first (k == 0) f))
    (λ f. inr (sym (is_among-rows_in r (job_acts_in book)) ∙ f))
    (or_cases (is_among r roots) (is_among r (rows_in (job_acts_in book)))
    (sym (list_any-append (λ q. r == q) roots (rows_in (job_acts_in book))) ∙ e))
  where
    roots : List ℕ
    roots = if k == 0 then 0 ∷ [] else []

    first : (b : Bool) → is_among r (if b then 0 ∷ [] else []) ≡ true → r ≡ 0
    first true f = ⊎_elim (λ g. eqb-true r 0 g) (λ g. cc) (or_cases (r == 0) false f)
    first false f = cc

-- ---- a coroutine on its floors

pub stands_give : (p : Program) (c : ChannelFloor) (j : Floor) (f : Frame) → IsProgram p → Legal (job_shape p) j.seen
    → (h : StandsOn p c j f) → ReachGives p f.tag (completed_in j.seen) h.runs.told f.config
stands_give p c j f ok legal h = runs_give p f.tag (seen_by c j) f.book f.config ok legal h.runs

-- the row of a coroutine or of a scope that it attached
launched_there : (p : Program) (c : ChannelFloor) (j : Floor) (f : Frame) (r : ℕ) → (h : StandsOn p c j f)
    → list_any (launches_row r) (job_acts_in f.book) ≡ true → launched_in r h.runs.told ≡ true
launched_there p c j f r h e = ap (λ items. list_any (launches_row r) (job_acts_in items)) h.runs.written ∙ e

entered_there : (p : Program) (c : ChannelFloor) (j : Floor) (f : Frame) (r : ℕ) → Legal (job_shape p) j.seen → (h : StandsOn p c j f)
    → list_any (enters_row r) (job_acts_in f.book) ≡ true → coroutine_count p ≤ r
entered_there p c j f r legal h e = scope_rows (job_shape p) start j.seen f.tag r legal (ap (list_any (enters_row r)) h.job_acts ∙ e)

-- what a coroutine claimed of the rows of coroutines is the root's, or one that it launched
pub claimed_below : (p : Program) (c : ChannelFloor) (j : Floor) (g : Frame) (r : ℕ) → IsProgram p → Legal (job_shape p) j.seen
    → StandsOn p c j g → is_claimed_by g.tag (j.claims r) ≡ true → r < coroutine_count p → (r ≡ 0)
    ⊎ (LaunchesAt p g.tag r × (r < g.config.free))
claimed_below p c j g r ok legal on claimed low =
    ⊎_elim
    (λ root. inl root)
    (λ attached. ⊎_elim
    (λ e. inr ((stands_give p c j g ok legal on).launched r (launched_there p c j g r on e)))
    (λ e. let high = entered_there p c j g r legal on e in absurd (omega (arith, low, high)))
    (attach_is r (job_acts_in g.book) attached))
    (own_or_attached g.tag r g.book (sym (on.claims r) ∙ claimed))

-- what it claimed of the rows of scopes is one that it attached to a scope
claimed_above : (p : Program) (c : ChannelFloor) (j : Floor) (g : Frame) (r : ℕ) → IsProgram p → Legal (job_shape p) j.seen
    → StandsOn p c j g → is_claimed_by g.tag (j.claims r) ≡ true → coroutine_count p ≤ r
    → list_any (enters_row r) (job_acts_in g.book) ≡ true
claimed_above p c j g r ok legal on claimed high =
    ⊎_elim
    (λ root. let some = on.in_run in absurd (omega (arith, root, some, high)))
    (λ attached. ⊎_elim
    (λ e. let launches = (stands_give p c j g ok legal on).launched r (launched_there p c j g r on e)
    in let low = launched_in_run p g.tag r ok on.in_run launches.0 in absurd (omega (arith, low, high)))
    (λ e. e)
    (attach_is r (job_acts_in g.book) attached))
    (own_or_attached g.tag r g.book (sym (on.claims r) ∙ claimed))

pub some_is : {A : Type 0} (o : Option A) → is_some o ≡ true → (x : A) × (o ≡ Some x)
some_is None e = cc
some_is (Some x) e = (x, refl)

-- ---- the rows of scopes

-- those whom one stands for: as many as scopes of its book at most
pub claims_few : (p : Program) (c : ChannelFloor) (j : Floor) (g : Frame) → IsProgram p → Legal (job_shape p) j.seen → StandsOn p c j g
    → scopes_claimed p j g.tag ≤ scopes_of_acts (job_acts_in g.book)
claims_few p c j g ok legal on =
    let less = count_more (coroutine_count p) (scope_count p) (λ r. is_claimed_by g.tag (j.claims r))
    (λ r. list_any (enters_row r) (job_acts_in g.book)) (λ r high claimed. claimed_above p c j g r ok legal on claimed high) in
    let few = rows_few (coroutine_count p) (scope_count p) (job_acts_in g.book) in
    omega (arith, less, few)

-- a count is 0, or some number passes the test
some_or_none : (from n : ℕ) (test : ℕ → Bool) → (count_from from n test ≡ 0) ⊎ ((r : ℕ) × (test r ≡ true))
unfolding count_from
some_or_none from zero test = inl refl
some_or_none from (suc n) test = ⊎_elim
    (λ e. inr (from, e))
    (λ e. ⊎_elim (λ f. let none = ap one e in inl (omega (arith, none, f))) (λ f. inr f) (some_or_none (from + 1) n test))
    (cases_Bool (test from))

claimed_is : (t : ℕ) (o : Option ℕ) → is_claimed_by t o ≡ true → o ≡ Some t
claimed_is t None e = cc
claimed_is t (Some u) e = ap (λ (n : ℕ). Some n) (sym (eqb-true t u e))

entered_in_book : (p : Program) (c : ChannelFloor) (j : Floor) (g : Frame) → IsProgram p → Legal (job_shape p) j.seen
    → (h : StandsOn p c j g) → scopes_of_acts (job_acts_in g.book) ≤ scopes_at p g.tag
entered_in_book p c j g ok legal h =
    let few = (stands_give p c j g ok legal h).entered in
    let same : scopes_told h.runs.told ≡ scopes_of_acts (job_acts_in g.book) =
    ap (λ items. scopes_of_acts (job_acts_in items)) h.runs.written in
    omega (arith, few, same)

pub claims_fit : (p : Program) (c : ChannelFloor) (j : Floor) (t : ℕ) → IsProgram p → Legal (job_shape p) j.seen → AreClaimed p c j
    → scopes_claimed p j t ≤ scopes_at p t
claims_fit p c j t ok legal claimed =
    ⊎_elim
    (λ none. omega (arith, none))
    (λ some. of_frame (claimed some.0 t (claimed_is t (j.claims some.0) some.1)))
    (some_or_none (coroutine_count p) (scope_count p) (λ r. is_claimed_by t (j.claims r)))
  where
    of_frame : (g : Frame) × StandsOn p c j g × (g.tag ≡ t)
        → count_from (coroutine_count p) (scope_count p) (λ r. is_claimed_by t (j.claims r)) ≤ scopes_at p t
    of_frame g =
        let few = claims_few p c j g.0 ok legal g.1 in
        let fit = entered_in_book p c j g.0 ok legal g.1 in
        subst (λ n. scopes_claimed p j n ≤ scopes_at p n) g.2 (omega (arith, few, fit))

-- ---- refusals

-- no place was left on a done channel
abbrev pub is_spent : ℕ → Item → Bool
is_spent base (item.Channel n) = is_channel_refusal base n
is_spent base (item.Job n) = false

pub all_refusals : (base : ℕ) (items : List Item) → list_any (is_spent base) items ≡ false → list_any is_no_row items ≡ false
    → list_any is_used items ≡ false → list_any is_parent_ended items ≡ false → list_any (is_refusal base) items ≡ false
all_refusals base [] s n u e = refl
all_refusals base (item.Channel x ∷ items) s n u e = let two = or_parts (is_channel_refusal base x) (list_any (is_spent base) items) s
    in or_from (is_channel_refusal base x) (list_any (is_refusal base) items) two.0 (all_refusals base items two.1 n u e)
all_refusals base (item.Job known.NoRow ∷ items) s n u e = cc
all_refusals base (item.Job known.Used ∷ items) s n u e = cc
all_refusals base (item.Job known.ParentEnded ∷ items) s n u e = cc
all_refusals base (other ∷ items) s n u e = all_refusals base items s n u e
