-- No book of a run has a refusal, whoever claimed rows meanwhile: each coroutine keeps what a refusal in its book says of the claims that
-- it has seen, and at the end, where all that was claimed was attached, none of it can be.
use Rattle.std.specs.Prelude.{◌≡◌, ℕ, zero, suc, ◌+◌, ◌<◌, ◌≤◌, ◌⊎◌, Bool, true, false, List, [], ◌++◌, Some, is_some, refl}
use Rattle.std.specs.List.{list_any}
use Rattle.std.proofs.Common.{sym, ap, ◌∙◌, subst, ⊎_elim, arith}
use Rattle.std.proofs.lemmas.Bool.{eq-eqb, or_from, or_cases, false_from_ne_true, false≢true}
use Rattle.std.proofs.lemmas.List.{append-nil}
use Rattle.std.proofs.lemmas.List.Folds.{list_any-append}
use Rattle.channel_model.specs.Histories.{Legal as LegalCalls}
use Rattle.channel_model.specs.Floors.{Floor as ChannelFloor}
use Rattle.job_model.specs.Histories.{Legal}
use Rattle.job_model.specs.Floors.{Floor, is_claimed_by}
use Rattle.note_book.specs.declared.book.Item.{Item}
use Rattle.note_book.specs.Items.{job_acts_in}
use Rattle.note_book.proofs.Appended.{job_acts_in-append}
use Rattle.call_meaning.specs.Telling.{Told, items_in}
use Rattle.call_meaning.specs.Stories.{Moment, IsTrue}
use Rattle.call_meaning.specs.Calls.{seen_by}
use Rattle.script_grammar.specs.Programs.{Program}
use Rattle.script_grammar.specs.WellFormed.{IsProgram}
use Rattle.script_grammar.specs.Tags.{coroutine_count, scope_count, LaunchesAt}
use Rattle.script_grammar.proofs.LaunchedTags.{launched_once}
use Rattle.script_meaning.specs.Shapes.{base_of, floor_shape, job_shape}
use Rattle.script_meaning.specs.Books.{story, Runs, is_refusal}
use Rattle.script_meaning.specs.Polls.{Frame, StandsOn, Begun, Polled, Turned, is_no_row, is_used, is_parent_ended}
use Rattle.script_meaning.proofs.BooksGoOn.{runs_then}
use Rattle.script_meaning.proofs.JobStories.{true_so}
use Rattle.script_meaning.proofs.JobDebts.{AllKnown, all_known, parents_in}
use Rattle.script_meaning.proofs.CompletedJobs.{EndsSo, ends_so, completed_in}
use Rattle.script_meaning.proofs.TagsGiven.{scopes_told, scopes_of_acts, scopes_of_acts-append, MoveGives}
use Rattle.script_meaning.proofs.TagsReached.{BeginGives, ReachGives, runs_give, launched_in_run, begins_give, turn_gives}
use Rattle.script_laws.specs.Counts.{one, count_from}
use Rattle.script_laws.specs.Owners.{AreClaimed, AllNoted, scopes_claimed}
use Rattle.script_laws.proofs.RowsEntered.{sum_less, counts_all, scopes_at, scopes_of_all_tags}
use Rattle.script_laws.proofs.ClaimsAttached.{some_is, claimed_below, claims_few, claims_fit, all_refusals}
use Rattle.script_laws.proofs.NotSpent.{stands_unspent}
use Rattle.run_laws.specs.Refusals.{NoRowLeft, RowTaken, RefusedSo}

-- ---- counts

count_alike : (from n : ℕ) (f g : ℕ → Bool) → ((r : ℕ) → from ≤ r → r < from + n → f r ≡ g r) → count_from from n f ≡ count_from from n g
unfolding count_from
count_alike from zero f g h = refl
count_alike from (suc n) f g h =
    ap (λ b. one b + count_from (from + 1) n f) (h from (omega arith) (omega arith))
    ∙ ap (λ m. one (g from) + m) (count_alike (from + 1) n f g (λ r le lt. h r (omega (arith, le)) (omega (arith, lt))))

-- ---- what was so of claims stays so

still_claimed : (j j' : Floor) (r : ℕ) → ((r t : ℕ) → j.claims r ≡ Some t → j'.claims r ≡ Some t) → is_some (j.claims r) ≡ true
    → j'.claims r ≡ j.claims r
still_claimed j j' r kept e = let who = some_is (j.claims r) e in kept r who.0 who.1 ∙ sym who.1

no_row_later : (p : Program) (j j' : Floor) (t : ℕ) → ((r u : ℕ) → j.claims r ≡ Some u → j'.claims r ≡ Some u) → NoRowLeft p j t
    → NoRowLeft p j' t
no_row_later p j j' t kept h = record {
  all = λ r le lt. ap is_some (still_claimed j j' r kept (h.all r le lt)) ∙ h.all r le lt;
  few = let same = count_alike (coroutine_count p) (scope_count p) (λ r. is_claimed_by t (j'.claims r)) (λ r. is_claimed_by t (j.claims r))
      (λ r le lt. ap (is_claimed_by t) (still_claimed j j' r kept (h.all r le lt))) in let few = h.few in omega (arith, same, few);
}

taken_later : (p : Program) (j j' : Floor) (t : ℕ) → ((r u : ℕ) → j.claims r ≡ Some u → j'.claims r ≡ Some u) → RowTaken p j t
    → RowTaken p j' t
taken_later p j j' t kept h = record {
  row = h.row;
  other = h.other;
  launches = h.launches;
  claimed = kept h.row h.other h.claimed;
  apart =
      h.apart;
}

pub refused_later : (p : Program) (j j' : Floor) (f : Frame) → ((r u : ℕ) → j.claims r ≡ Some u → j'.claims r ≡ Some u) → RefusedSo p j f
    → RefusedSo p j' f
refused_later p j j' f kept h = record {
  no_row = λ e. no_row_later p j j' f.tag kept (h.no_row e);
  used = λ e. taken_later p j j' f.tag kept (h.used e);
  none_ended = h.none_ended;
}

-- ---- a poll

no_more : (book : List Item) → book ++ items_in [] ≡ book
unfolding items_in
no_more book = append-nil book

counted : (book : List Item) (told : List Told) → scopes_told told ≡ 0
    → scopes_of_acts (job_acts_in (book ++ items_in told)) ≡ scopes_of_acts (job_acts_in book)
counted book told e =
    let parts = ap scopes_of_acts (job_acts_in-append book (items_in told))
    ∙ scopes_of_acts-append (job_acts_in book) (job_acts_in (items_in told)) in
    omega (arith, parts, e)

nothing_true : (p : Program) (k : ℕ) (now : Moment) (book : List Item) (earlier : Moment) → IsTrue (story p k now) book earlier []
unfolding IsTrue
nothing_true p k now book earlier = tt

-- who else claimed the row that a coroutine launches next
taken_now : (p : Program) (c : ChannelFloor) (j : Floor) (g : Frame) → IsProgram p → Legal (job_shape p) j.seen → StandsOn p c j g
    → LaunchesAt p g.tag g.config.free → is_some (j.claims g.config.free) ≡ true → RowTaken p j g.tag
taken_now p c j g ok legal on launches e =
    let who = some_is (j.claims g.config.free) e in
    record { row = g.config.free; other = who.0; launches = launches; claimed = who.1; apart = λ same. mine who.0 who.1 same }
  where
    mine : (t : ℕ) → j.claims g.config.free ≡ Some t → t ≡ g.tag → ⊥
    mine t is same =
        let own : is_claimed_by g.tag (j.claims g.config.free) ≡ true = ap (is_claimed_by g.tag) is ∙ eq-eqb g.tag t (sym same) in
        let low = launched_in_run p g.tag g.config.free ok on.in_run launches in
        ⊎_elim
        (λ root. let next = launches.next in omega (arith, next, root))
        (λ own. let under = own.1 in omega (arith, under))
        (claimed_below p c j g g.config.free ok legal on own low)

pub polled_refused : (p : Program) (c c' : ChannelFloor) (j j' : Floor) (f g : Frame) → IsProgram p → Legal (job_shape p) j'.seen
    → StandsOn p c j f → StandsOn p c' j' g → (h : Polled p c c' j j' f g) → RefusedSo p j f → RefusedSo p j' g
polled_refused p c c' j j' f g ok legal on on' h was = record {
  no_row = λ e. ⊎_elim
      (λ (old : list_any is_no_row f.book ≡ true). no_row_later p j j' g.tag h.jobs.claims.kept
      (subst (NoRowLeft p j) (sym h.tag) (was.no_row old)))
      (λ (new : list_any is_no_row (items_in h.told) ≡ true). no_row new)
      (parts is_no_row e);
  used = λ e. ⊎_elim
      (λ (old : list_any is_used f.book ≡ true). taken_later p j j' g.tag h.jobs.claims.kept
      (subst (RowTaken p j) (sym h.tag) (was.used old)))
      (λ (new : list_any is_used (items_in h.told) ≡ true). used new)
      (parts is_used e);
  none_ended = ap (list_any is_parent_ended) h.appended ∙ list_any-append is_parent_ended f.book (items_in h.told)
      ∙ or_from (list_any is_parent_ended f.book) (list_any is_parent_ended (items_in h.told)) was.none_ended h.refused.none_ended;
}
  where
    parts : (test : Item → Bool) → list_any test g.book ≡ true → (list_any test f.book ≡ true) ⊎ (list_any test (items_in h.told) ≡ true)
    parts test e = or_cases (list_any test f.book) (list_any test (items_in h.told))
        (sym (ap (list_any test) h.appended ∙ list_any-append test f.book (items_in h.told)) ∙ e)

    now : Moment
    now = seen_by c' j'

    before : Runs p f.tag now (f.book ++ items_in []) f.config
    before = runs_then p f.tag (seen_by c j) now f.book f.config f.config [] (record { channels = h.channels.longer; jobs = h.jobs.longer })
        on.runs (Turned.still f.config) (nothing_true p f.tag now f.book (seen_by c j))

    known : AllKnown (parents_in j'.seen) h.told
    known = all_known (job_shape p) f.tag j'.seen (job_acts_in f.book) h.told legal
        (true_so (story p f.tag now) f.book (seen_by c j) h.told h.is_true)

    ends : EndsSo (completed_in j'.seen) h.told
    ends = ends_so (job_shape p) (story p f.tag now) f.book (seen_by c j) h.told legal h.is_true

    stood : ReachGives p f.tag (completed_in j'.seen) before.told f.config
    stood = runs_give p f.tag now (f.book ++ items_in []) f.config ok legal before

    turned : MoveGives p f.tag (completed_in j'.seen) f.config stood.gives.scopes h.told g.config
    turned = turn_gives p f.tag (parents_in j'.seen) (completed_in j'.seen) f.config h.told g.config ok known ends stood.gives h.turned

    used : list_any is_used (items_in h.told) ≡ true → RowTaken p j' g.tag
    used e =
        let u = turned.used e in
        taken_now p c' j' g ok legal on' (subst (λ k. LaunchesAt p k g.config.free) (sym h.tag) (subst (LaunchesAt p f.tag) (sym u.1) u.0))
        (ap (λ n. is_some (j'.claims n)) u.1 ∙ h.refused.used e)

    no_row : list_any is_no_row (items_in h.told) ≡ true → NoRowLeft p j' g.tag
    no_row e =
        let n = turned.no_row e in
        let some = n.0 in
        let none = n.1 in
        let few = stood.entered in
        let book : scopes_of_acts (job_acts_in g.book) ≡ scopes_told before.told =
        ap (λ items. scopes_of_acts (job_acts_in items)) (h.appended) ∙ counted f.book h.told none
        ∙ ap (λ items. scopes_of_acts (job_acts_in items)) (sym (before.written ∙ no_more f.book)) in
        let less : scopes_of_acts (job_acts_in g.book) < scopes_at p f.tag = omega (arith, some, few, book) in
        let mine = claims_few p c' j' g ok legal on' in
        let same : scopes_at p g.tag ≡ scopes_at p f.tag = ap (scopes_at p) h.tag in
        record {
          all = λ r le lt. h.refused.no_row e r (subst (λ m. m ≤ r) (sym (ap (λ s. s.coroutines) on'.jobs)) le)
              (subst (λ m. r < m) (sym (ap (λ s. s.rows) on'.jobs)) lt);
          few = omega (arith, less, mine, same);
        }

-- ---- the beginning

pub begun_refused : (p : Program) (c : ChannelFloor) (j j' : Floor) (f g : Frame) → IsProgram p → Legal (job_shape p) j'.seen
    → StandsOn p c j' g → (h : Begun p j j' f g) → RefusedSo p j' g
begun_refused p c j j' f g ok legal on h = record {
  no_row = λ e. absurd (false≢true (sym (ap (list_any is_no_row) h.written ∙ begins.no_row) ∙ e));
  used = λ e. let u : list_any is_used (items_in h.told) ≡ true = sym (ap (list_any is_used) h.written) ∙ e
      in taken_now p c j' g ok legal on (subst (λ k. LaunchesAt p k g.config.free) (sym h.tag) (begins.used u)) (h.refused.used u);
  none_ended = ap (list_any is_parent_ended) h.written ∙ h.refused.none_ended;
}
  where
    begins : BeginGives p f.tag (completed_in j'.seen) h.told g.config
    begins = begins_give p f.tag (completed_in j'.seen) h.told g.config ok h.begins

-- ---- the end

row_is_left : (p : Program) (c : ChannelFloor) (j : Floor) (k : ℕ) → IsProgram p → Legal (job_shape p) j.seen → k < coroutine_count p
    → AreClaimed p c j → NoRowLeft p j k → ⊥
row_is_left p c j k ok legal lt claimed h =
    let few = h.few in
    let sum = sum_less (coroutine_count p) k (scopes_claimed p j) (scopes_at p) (λ t below. claims_fit p c j t ok legal claimed) lt few in
    let total = scopes_of_all_tags p in
    let each = counts_all (coroutine_count p) (scope_count p) (coroutine_count p) (λ t r. is_claimed_by t (j.claims r)) owner in
    omega (arith, sum, total, each)
  where
    owner : (r : ℕ) → coroutine_count p ≤ r → r < coroutine_count p + scope_count p → (t : ℕ) × (t < coroutine_count p)
        × (is_claimed_by t (j.claims r) ≡ true)
    owner r high low =
        let who = some_is (j.claims r) (h.all r high low) in
        let by = claimed r who.0 who.1 in
        (who.0, subst (λ t. t < coroutine_count p) by.2 by.1.in_run, ap (is_claimed_by who.0) who.1 ∙ eq-eqb who.0 who.0 refl)

row_is_free : (p : Program) (c : ChannelFloor) (j : Floor) (k : ℕ) → IsProgram p → Legal (job_shape p) j.seen → k < coroutine_count p
    → AreClaimed p c j → RowTaken p j k → ⊥
row_is_free p c j k ok legal lt claimed h =
    let by = claimed h.row h.other h.claimed in
    let theirs : is_claimed_by by.0.tag (j.claims h.row) ≡ true = ap (is_claimed_by by.0.tag) h.claimed ∙ eq-eqb by.0.tag h.other by.2 in
    let low = launched_in_run p k h.row ok lt h.launches in
    ⊎_elim
    (λ root. let next = h.launches.next in omega (arith, next, root))
    (λ by_g. h.apart (sym by.2 ∙ sym (launched_once p k by.0.tag h.row ok lt by.1.in_run h.launches by_g.0)))
    (claimed_below p c j by.0 h.row ok legal by.1 theirs low)

-- where all stand on the same floors, no book has a refusal
pub never_refused : (p : Program) (c : ChannelFloor) (j : Floor) (f : Frame) → IsProgram p → LegalCalls (floor_shape p) c.seen
    → Legal (job_shape p) j.seen → StandsOn p c j f → AreClaimed p c j → AllNoted p c j → RefusedSo p j f
    → list_any (is_refusal (base_of p)) f.book ≡ false
never_refused p c j f ok legal_calls legal on claimed noted h =
    all_refusals (base_of p) f.book (stands_unspent p c j f ok legal_calls legal on noted)
    (false_from_ne_true (list_any is_no_row f.book) (λ e. row_is_left p c j f.tag ok legal on.in_run claimed (h.no_row e)))
    (false_from_ne_true (list_any is_used f.book) (λ e. row_is_free p c j f.tag ok legal on.in_run claimed (h.used e)))
    h.none_ended
