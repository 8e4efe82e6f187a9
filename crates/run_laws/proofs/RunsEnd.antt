-- A run ends at rest where a last round came to nothing and all was brought together after it.
use Rattle.std.specs.Prelude.{◌≡◌, ℕ, zero, suc, ◌+◌, ◌<◌, ◌≤◌, ◌==◌, ◌⊎◌, true, false, List, [], ◌∷◌, length, map, Option, Some, None, slice_get, refl}
use Rattle.std.specs.List.{All, list_any}
use Rattle.std.proofs.Common.{sym, ap, ◌∙◌, subst, inl, inr, ⊎_elim, arith}
use Rattle.std.proofs.lemmas.Bool.{eq-eqb, cases_eq, cases_lt}
use Rattle.std.proofs.lemmas.List.{length-map}
use mathlib.Core.List.{IsPrefix}
use Rattle.std.proofs.lemmas.Option.{slice_get_past, same_Some}
use Rattle.channel_model.specs.Histories.{replay, acts_of, Legal}
use Rattle.channel_model.specs.Floors.{Floor as ChannelFloor}
use Rattle.job_model.specs.declared.acts.End.{End}
use Rattle.job_model.specs.declared.acts.JobEntry.{JobEntry}
use Rattle.job_model.specs.Histories.{replay as replay_jobs, acts_of as job_acts_of, Legal as LegalJobs}
use Rattle.job_model.specs.Floors.{Floor, is_claimed_by}
use Rattle.note_book.specs.declared.book.Item.{Item}
use Rattle.note_book.specs.Items.{channel_acts_in, job_acts_in}
use Rattle.call_meaning.specs.Facts.{end_at}
use Rattle.call_meaning.specs.Stories.{beginning}
use Rattle.call_meaning.specs.Calls.{seen_by}
use Rattle.call_meaning.proofs.Tellings.{true_later}
use Rattle.script_grammar.specs.Programs.{Program}
use Rattle.script_grammar.specs.WellFormed.{IsProgram}
use Rattle.script_grammar.specs.Tags.{coroutine_count}
use Rattle.script_meaning.specs.Shapes.{base_of, floor_shape, job_shape}
use Rattle.script_meaning.specs.Configs.{Config, fresh}
use Rattle.script_meaning.specs.Books.{book_at, Runs, BooksOf, is_refusal}
use Rattle.script_meaning.specs.Idle.{IsLeft, IsIdle}
use Rattle.script_meaning.specs.Polls.{Frame as Meant, StandsOn}
use Rattle.script_laws.proofs.TreesAtRest.{at_rest}
use Rattle.script_laws.proofs.NothingOwed.{nothing_is_owed}
use Rattle.script_laws.specs.Owners.{AreClaimed, AllNoted}
use Rattle.run_laws.specs.Parts.{AreParts}
use Rattle.run_laws.specs.Sights.{Sight, CountUp}
use Rattle.run_laws.specs.LastRounds.{KnowsAllOf, HasRested}
use Rattle.run_laws.specs.Orders.{RunsAlong, InOneOrder}
use Rattle.run_laws.specs.Ends.{IsBroughtTo, NoOthers, books_in, IsRunInOneOrderIf}
use Rattle.run_laws.proofs.OneOrder.{AlongTo, along_whole}
use Rattle.run_laws.proofs.Exact.{same_calls, same_jobs, calls_between, jobs_between}
use Rattle.run_laws.proofs.RefusalsTold.{refused_later, never_refused}
use Rattle.run_laws.proofs.ClosedAtOnce.{closes_always}
use Rattle.run_laws.proofs.CannotGoOn.{cannot_go_on}
use Rattle.run_laws.proofs.Prefixes.{prefix_then, between_same}
use Rattle.run_laws.proofs.Places.{all_at, some_at}
use Rattle.run_laws.proofs.Lists.{some_coroutine}

-- ---- places in lists

tag_at : (n : ℕ) (sights : List Sight) (k : ℕ) (s : Sight) → CountUp n (map (λ s. s.frame.tag) sights) → slice_get sights k ≡ Some s
    → s.frame.tag ≡ n + k
tag_at n [] k s h e = cc
tag_at n (x ∷ xs) zero s h e = let same : x ≡ s = same_Some x s e in ap (λ (y : Sight). y.frame.tag) (sym same) ∙ h.0
    ∙ (let z : n ≡ n + 0 = omega arith in z)
tag_at n (x ∷ xs) (suc k) s h e = tag_at (suc n) xs k s h.1 e ∙ (let z : suc n + k ≡ n + suc k = omega arith in z)

-- ---- books

abbrev book_in : Option Sight → List Item
book_in None = []
book_in (Some s) = s.frame.book

abbrev config_in : Option Sight → Config
config_in None = fresh 0
config_in (Some s) = s.frame.config

book_at-map : (sights : List Sight) (k : ℕ) → book_at k (books_in sights) ≡ book_in (slice_get sights k)
book_at-map [] k = refl
book_at-map (s ∷ sights) zero = refl
book_at-map (s ∷ sights) (suc k) = book_at-map sights k

-- ---- a run that ends

-- what is known at the end: all that the tasks have seen was brought to these floors
pub record IsOver (p : Program) (first : Sight) (sights : List Sight) (c : ChannelFloor) (j : Floor) (root : Option End) : Type 0 where
  pub ok : IsProgram p
  pub count : length sights ≡ coroutine_count p
  pub tags : CountUp 0 (map (λ s. s.frame.tag) sights)
  pub rested : All (HasRested p first) sights
  pub known : All (KnowsAllOf first) sights
  pub brought : All (IsBroughtTo p c j) sights
  pub others : NoOthers p c j
  pub legal : Legal c.shape c.seen
  pub legal_jobs : LegalJobs j.shape j.seen
  pub root_claimed : j.claims 0 ≡ Some 0
  pub seen : (moment : List JobEntry) × IsPrefix first.jobs.seen moment × IsPrefix moment j.seen × (end_at (replay_jobs moment 0) ≡ root)

-- what its coroutine has seen and done, seen on these floors
stands_there : (p : Program) (c : ChannelFloor) (j : Floor) (s : Sight) → IsBroughtTo p c j s → StandsOn p c j (s.frame)
stands_there p c j s h = record {
  channels = h.shape ∙ on.channels;
  jobs = h.job_shape ∙ on.jobs;
  of_channels = h.caller;
  of_jobs = h.job_caller;
  in_run = on.in_run;
  channel_acts = h.same.calls ∙ on.channel_acts;
  job_acts = h.same.jobs ∙ on.job_acts;
  runs = record {
    told = on.runs.told;
    written = on.runs.written;
    reaches = on.runs.reaches;
    is_true = true_later (floor_shape p) s.frame.tag (seen_by s.channels s.jobs) (seen_by c j) [] beginning on.runs.told
        (record { channels = h.seen.channels; jobs = h.seen.jobs }) on.runs.is_true;
  };
  claims = λ r. h.claims r ∙ on.claims r;
}
  where
    on : StandsOn p s.channels s.jobs (s.frame)
    on = h.keeps.stands

module _ (p : Program) (first : Sight) (sights : List Sight) (c : ChannelFloor) (j : Floor) (root : Option End)
    (h : IsOver p first sights c j root) where
  -- the sight of coroutine k
  the_sight : (k : ℕ) → k < coroutine_count p → (s : Sight) × (slice_get sights k ≡ Some s)
  the_sight k lt = some_at sights k (let count = h.count in omega (arith, lt, count))

  tag_of : (k : ℕ) (s : Sight) → slice_get sights k ≡ Some s → s.frame.tag ≡ k
  tag_of k s e = tag_at 0 sights k s h.tags e ∙ (let z : 0 + k ≡ k = omega arith in z)

  brought_at : (k : ℕ) (s : Sight) → slice_get sights k ≡ Some s → IsBroughtTo p c j s
  brought_at k s e = all_at (IsBroughtTo p c j) sights k s h.brought e

  rested_at : (k : ℕ) (s : Sight) → slice_get sights k ≡ Some s → HasRested p first s
  rested_at k s e = all_at (HasRested p first) sights k s h.rested e

  known_at : (k : ℕ) (s : Sight) → slice_get sights k ≡ Some s → KnowsAllOf first s
  known_at k s e = all_at (KnowsAllOf first) sights k s h.known e

  within_count : (k : ℕ) (s : Sight) → slice_get sights k ≡ Some s → k < coroutine_count p
  within_count k s e = ⊎_elim
      (λ lt. lt)
      (λ le. let count = h.count in let q : Some s ≡ None = sym e ∙ slice_get_past sights k (omega (arith, le, count)) in cc)
      (cases_lt k (coroutine_count p))

  -- ---- one history

  first_calls : IsPrefix first.channels.seen c.seen
  first_calls =
      let x = the_sight 0 (some_coroutine p h.ok) in
      let r = rested_at 0 x.0 x.1 in
      prefix_then _ _ _ r.knew.channels (prefix_then _ _ _ r.rested.polled.channels.longer
      (prefix_then _ _ _ r.since.channels (brought_at 0 x.0 x.1).seen.channels))

  first_jobs : IsPrefix first.jobs.seen j.seen
  first_jobs =
      let x = the_sight 0 (some_coroutine p h.ok) in
      let r = rested_at 0 x.0 x.1 in
      prefix_then _ _ _ r.knew.jobs (prefix_then _ _ _ r.rested.polled.jobs.longer
      (prefix_then _ _ _ r.since.jobs (brought_at 0 x.0 x.1).seen.jobs))

  calls_of : (k : ℕ) → acts_of k c.seen ≡ acts_of k first.channels.seen
  unfolding acts_of
  calls_of k = ⊎_elim
      (λ lt. let x = the_sight k lt in own x.0 x.1)
      (λ le. calls_between k [] first.channels.seen c.seen (first.channels.seen, refl) first_calls (h.others.calls k le))
      (cases_lt k (coroutine_count p))
    where
      own : (s : Sight) → slice_get sights k ≡ Some s → acts_of k c.seen ≡ acts_of k first.channels.seen
      own s e =
          let known = known_at k s e in
          let there = brought_at k s e in
          let all : acts_of s.frame.tag c.seen ≡ acts_of s.frame.tag known.past.channels.seen = there.same.calls ∙ known.same.calls in
          calls_between k known.past.channels.seen first.channels.seen c.seen known.within.channels first_calls
          (subst (λ n. acts_of n c.seen ≡ acts_of n known.past.channels.seen) (tag_of k s e) all)

  jobs_of : (k : ℕ) → job_acts_of k j.seen ≡ job_acts_of k first.jobs.seen
  unfolding job_acts_of
  jobs_of k = ⊎_elim
      (λ lt. let x = the_sight k lt in own x.0 x.1)
      (λ le. jobs_between k [] first.jobs.seen j.seen (first.jobs.seen, refl) first_jobs (h.others.jobs k le))
      (cases_lt k (coroutine_count p))
    where
      own : (s : Sight) → slice_get sights k ≡ Some s → job_acts_of k j.seen ≡ job_acts_of k first.jobs.seen
      own s e =
          let known = known_at k s e in
          let there = brought_at k s e in
          let all : job_acts_of s.frame.tag j.seen ≡ job_acts_of s.frame.tag known.past.jobs.seen = there.same.jobs ∙ known.same.jobs in
          jobs_between k known.past.jobs.seen first.jobs.seen j.seen known.within.jobs first_jobs
          (subst (λ n. job_acts_of n j.seen ≡ job_acts_of n known.past.jobs.seen) (tag_of k s e) all)

  same_channels : c.seen ≡ first.channels.seen
  same_channels = same_calls first.channels.seen c.seen first_calls calls_of

  same_tree : j.seen ≡ first.jobs.seen
  same_tree = same_jobs first.jobs.seen j.seen first_jobs jobs_of

  -- ---- the floors are those of the script

  shape_is : (c.shape ≡ floor_shape p) × (j.shape ≡ job_shape p)
  shape_is =
      let x = the_sight 0 (some_coroutine p h.ok) in
      let on = stands_there p c j x.0 (brought_at 0 x.0 x.1) in
      (on.channels, on.jobs)

  legal : Legal (floor_shape p) c.seen
  legal = subst (λ z. Legal z c.seen) shape_is.0 h.legal

  legal_jobs : LegalJobs (job_shape p) j.seen
  legal_jobs = subst (λ z. LegalJobs z j.seen) shape_is.1 h.legal_jobs

  -- ---- the books

  book : (k : ℕ) (o : Option Sight) → slice_get sights k ≡ o → book_at k (books_in sights) ≡ book_in o
  book k o e = book_at-map sights k ∙ ap book_in e

  past : (k : ℕ) → slice_get sights k ≡ None → coroutine_count p ≤ k
  past k e = ⊎_elim
      (λ lt. let x = the_sight k lt in let q : Some x.0 ≡ None = sym x.1 ∙ e in cc)
      (λ le. le)
      (cases_lt k (coroutine_count p))

  calls_in : (k : ℕ) → (o : Option Sight) → slice_get sights k ≡ o → acts_of k c.seen ≡ channel_acts_in (book_at k (books_in sights))
  calls_in k None e = h.others.calls k (past k e) ∙ ap channel_acts_in (sym (book k None e))
  calls_in k (Some s) e =
      let on = stands_there p c j s (brought_at k s e) in
      ap (λ n. acts_of n c.seen) (sym (tag_of k s e)) ∙ on.channel_acts ∙ ap channel_acts_in (sym (book k (Some s) e))

  job_calls_in : (k : ℕ) → (o : Option Sight) → slice_get sights k ≡ o → job_acts_of k j.seen ≡ job_acts_in (book_at k (books_in sights))
  job_calls_in k None e = h.others.jobs k (past k e) ∙ ap job_acts_in (sym (book k None e))
  job_calls_in k (Some s) e =
      let on = stands_there p c j s (brought_at k s e) in
      ap (λ n. job_acts_of n j.seen) (sym (tag_of k s e)) ∙ on.job_acts ∙ ap job_acts_in (sym (book k (Some s) e))

  run_of : (k : ℕ) → k < coroutine_count p → Runs p k (record { channels = c.seen; jobs = j.seen }) (book_at k (books_in sights))
      (config_in (slice_get sights k))
  run_of k lt =
      let x = the_sight k lt in
      let on = stands_there p c j x.0 (brought_at k x.0 x.1) in
      subst (λ o. Runs p k (seen_by c j) (book_at k (books_in sights)) (config_in o)) (sym x.1)
      (subst (λ b. Runs p k (seen_by c j) b (x.0.frame.config)) (sym (book k (Some x.0) x.1))
      (subst (λ n. Runs p n (seen_by c j) (x.0.frame.book) (x.0.frame.config)) (tag_of k x.0 x.1) on.runs))

  parts : AreParts p (books_in sights) c.seen j.seen
  parts = record {
    count = length-map sights (λ s. s.frame.book) ∙ h.count;
    legal_channels = legal;
    legal_jobs = legal_jobs;
    channel_parts = λ k. calls_in k (slice_get sights k) refl;
    job_parts = λ k. job_calls_in k (slice_get sights k) refl;
    ends_at = λ k. config_in (slice_get sights k);
    runs = run_of;
  }

  -- ---- no refusal

  -- the coroutine that stands for a tag
  meant : (t : ℕ) → t < coroutine_count p → (g : Meant) × StandsOn p c j g × (g.tag ≡ t)
  meant t lt = let x = the_sight t lt in (x.0.frame, stands_there p c j x.0 (brought_at t x.0 x.1), tag_of t x.0 x.1)

  claimed : AreClaimed p c j
  claimed r t e = ⊎_elim (meant t) (λ le. absurd (never le)) (cases_lt t (coroutine_count p))
    where
      never : coroutine_count p ≤ t → ⊥
      never le = ⊎_elim
          (λ f.
          let root : Some t ≡ Some 0 = sym e ∙ ap j.claims f ∙ h.root_claimed in
          let zero_tag : t ≡ 0 = same_Some t 0 root in
          let some = some_coroutine p h.ok in
          omega (arith, le, zero_tag, some))
          (λ f.
          let yes : is_claimed_by t (j.claims r) ≡ true = ap (is_claimed_by t) e ∙ eq-eqb t t refl in
          let both : true ≡ false = sym yes ∙ h.others.claims r t le f in
          cc)
          (cases_eq r 0)

  noted : AllNoted p c j
  noted t = ⊎_elim (λ lt. inr (meant t lt)) (λ le. inl (h.others.calls t le)) (cases_lt t (coroutine_count p))

  unrefused : (k : ℕ) → (o : Option Sight) → slice_get sights k ≡ o
      → list_any (is_refusal (base_of p)) (book_at k (books_in sights)) ≡ false
  unrefused k None e = ap (list_any (is_refusal (base_of p))) (book k None e)
  unrefused k (Some s) e =
      let there = brought_at k s e in
      ap (list_any (is_refusal (base_of p))) (book k (Some s) e)
      ∙ never_refused p c j (s.frame) h.ok legal legal_jobs (stands_there p c j s there) claimed noted
      (refused_later p s.jobs j (s.frame) there.kept there.keeps.refused)

  -- these are the books of a run
  the_books : BooksOf p (books_in sights) c.seen j.seen
  the_books = record {
    count = length-map sights (λ s. s.frame.book) ∙ h.count;
    legal_channels = legal;
    legal_jobs = legal_jobs;
    channel_parts = λ k. calls_in k (slice_get sights k) refl;
    job_parts = λ k. job_calls_in k (slice_get sights k) refl;
    ends_at = λ k. config_in (slice_get sights k);
    runs = run_of;
    closes = closes_always p (books_in sights) c.seen j.seen h.ok parts;
    no_refusal = λ k. unrefused k (slice_get sights k) refl;
  }

  -- ---- nobody can go on

  left_at : (k : ℕ) → (s : Sight) → slice_get sights k ≡ Some s
      → IsLeft k (s.frame.config) (s.frame.book) (replay c.seen) j.seen s.frame.config.stage
  left_at k s e =
      let r = rested_at k s e in
      let there = brought_at k s e in
      let b_calls = prefix_then _ _ _ r.rested.polled.channels.longer (prefix_then _ _ _ r.since.channels there.seen.channels) in
      let b_jobs = prefix_then _ _ _ r.rested.polled.jobs.longer (prefix_then _ _ _ r.since.jobs there.seen.jobs) in
      let before_calls = between_same _ _ _ r.knew.channels b_calls same_channels in
      let before_jobs = between_same _ _ _ r.knew.jobs b_jobs same_tree in
      let after_calls = between_same _ _ _ (prefix_then _ _ _ r.knew.channels r.rested.polled.channels.longer)
      (prefix_then _ _ _ r.since.channels there.seen.channels) same_channels in
      let after_jobs = between_same _ _ _ (prefix_then _ _ _ r.knew.jobs r.rested.polled.jobs.longer)
      (prefix_then _ _ _ r.since.jobs there.seen.jobs) same_tree in
      let now_calls : r.after.channels.seen ≡ c.seen = after_calls ∙ sym same_channels in
      let now_jobs : r.after.jobs.seen ≡ j.seen = after_jobs ∙ sym same_tree in
      let left = cannot_go_on p r.before.channels r.after.channels r.before.jobs r.after.jobs r.before.frame r.after.frame
      r.rested.polled.told r.rested.answer
      (subst (Legal (floor_shape p)) (sym now_calls) legal) (subst (LegalJobs (job_shape p)) (sym now_jobs) legal_jobs) r.kept.stands
      (after_calls ∙ sym before_calls) (after_jobs ∙ sym before_jobs) r.rested.said r.rested.not_ready in
      of_frame r.after r.frame now_calls now_jobs left
    where
      of_frame : (a : Sight) → s.frame ≡ a.frame → a.channels.seen ≡ c.seen → a.jobs.seen ≡ j.seen
          → IsLeft a.frame.tag (a.frame.config) (a.frame.book) (replay a.channels.seen) a.jobs.seen a.frame.config.stage
          → IsLeft k (s.frame.config) (s.frame.book) (replay c.seen) j.seen s.frame.config.stage
      of_frame a f calls jobs left =
          subst (λ n. IsLeft n (s.frame.config) (s.frame.book) (replay c.seen) j.seen s.frame.config.stage) (tag_of k s e)
          (subst (λ es. IsLeft s.frame.tag (s.frame.config) (s.frame.book) (replay c.seen) es s.frame.config.stage) jobs
          (subst (λ es. IsLeft s.frame.tag (s.frame.config) (s.frame.book) (replay es) a.jobs.seen s.frame.config.stage) calls
          (subst (λ (x : Meant). IsLeft x.tag x.config x.book (replay a.channels.seen) a.jobs.seen x.config.stage) (sym f) left)))

  idle : IsIdle p (books_in sights) c.seen j.seen the_books root
  unfolding the_books
  idle = record {
    left = λ k lt.
        let x = the_sight k lt in
        subst (λ o. IsLeft k (config_in o) (book_at k (books_in sights)) (replay c.seen) j.seen (config_in o).stage) (sym x.1)
        (subst (λ b. IsLeft k (x.0.frame.config) b (replay c.seen) j.seen x.0.frame.config.stage) (sym (book k (Some x.0) x.1))
        (left_at k x.0 x.1));
    nothing_owed = nothing_is_owed p (books_in sights) c.seen j.seen the_books;
    rest = at_rest p (books_in sights) c.seen j.seen the_books;
    ended = subst (λ es. end_at (replay_jobs es 0) ≡ root) (between_same first.jobs.seen h.seen.0 j.seen h.seen.1 h.seen.2 same_tree
        ∙ sym same_tree) h.seen.3;
  }

  -- ---- one order

  in_one_order : All (λ s. s.jobs.joint ≡ true) sights → InOneOrder p (books_in sights) c.seen j.seen the_books
  unfolding the_books
  in_one_order joint =
      let whole = along_whole p c j sights h.brought joint in
      record {
        order = whole.order;
        whole = whole.whole;
        runs = λ k lt.
            let x = the_sight k lt in
            subst (λ o. RunsAlong p k (seen_by c j) whole.order (book_at k (books_in sights)) (config_in o)) (sym x.1)
            (subst (λ b. RunsAlong p k (seen_by c j) whole.order b (x.0.frame.config)) (sym (book k (Some x.0) x.1))
            (subst (λ n. RunsAlong p n (seen_by c j) whole.order (x.0.frame.book) (x.0.frame.config)) (tag_of k x.0 x.1)
            (all_at (AlongTo p c j whole.order) sights k x.0 whole.runs x.1)));
      }

  pub run_rests : (T : Type 0) → (T → All (λ s. s.jobs.joint ≡ true) sights) → IsRunInOneOrderIf T p (books_in sights) c.seen j.seen root
  run_rests T joint = ((the_books, idle), λ t. in_one_order (joint t))
