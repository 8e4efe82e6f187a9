-- At the end of a run the Close of its done channel stands right behind each Finish, whoever else made entries meanwhile: a note that it
-- had been closed would need a Close by one that noted the same Finish.
use Rattle.std.specs.Prelude.{◌≡◌, ◌≢◌, ℕ, ◌+◌, ◌<◌, ◌≤◌, ◌==◌, nat_le, cond, Bool, true, false, not, List, [], ◌∷◌, ◌++◌, is_some, Some, refl, if◌then◌else◌, ◌⊎◌}
use Rattle.std.proofs.Common.{sym, ap, ◌∙◌, subst, inl, inr, ⊎_elim, arith}
use Rattle.std.proofs.lemmas.Bool.{eqb-true, eq-eqb, cases_eq, cases_lt, cond_both, cond-true}
use Rattle.std.proofs.lemmas.Bool.Decides.{nat_tests}
use Rattle.channel_model.specs.declared.acts.Act.{Act}
use Rattle.channel_model.specs.declared.acts.Act.TheVariants.{Close}
use Rattle.channel_model.specs.declared.acts.Entry.{Entry}
use Rattle.channel_model.specs.declared.acts.ChannelNote.{ChannelNote}
use Rattle.channel_model.specs.declared.acts.ChannelNote.TheVariants as heard_as
use Rattle.channel_model.specs.Laws.{how_many, closes, closings_of}
use Rattle.channel_model.specs.Histories.{replay, acts_of, Legal}
use Rattle.channel_model.proofs.Later.{closed_later}
use Rattle.channel_model.proofs.OneEntry.{closed_by_one}
use Rattle.job_model.specs.declared.acts.End.{End}
use Rattle.job_model.specs.declared.acts.JobAct.{JobAct}
use Rattle.job_model.specs.declared.acts.JobAct.TheVariants.{Finish}
use Rattle.job_model.specs.declared.acts.JobEntry.{JobEntry}
use Rattle.job_model.specs.declared.acts.JobNote.{JobNote}
use Rattle.job_model.specs.declared.acts.JobNote.TheVariants as known
use Rattle.job_model.specs.Trees.{Shape}
use Rattle.job_model.specs.Acts.{finishes}
use Rattle.job_model.specs.Done.{done_channel}
use Rattle.job_model.specs.Laws.{count_of}
use Rattle.job_model.specs.Histories.{replay as replay_jobs, acts_of as job_acts_of, Legal as LegalJobs}
use Rattle.job_model.proofs.Marks.{count-cons}
use Rattle.job_model.proofs.RowMarks.{each_once}
use Rattle.note_book.specs.declared.book.Item.{Item}
use Rattle.note_book.specs.declared.book.Item.TheVariants as item
use Rattle.note_book.specs.Items.{channel_acts_in, job_acts_in}
use Rattle.call_meaning.specs.Telling.{Told, note, items_in}
use Rattle.call_meaning.specs.Facts.{NoteHolds, IsClosedWith}
use Rattle.call_meaning.specs.JobCalls.{value_of}
use Rattle.call_meaning.specs.Stories.{Moment, beginning, Story, IsBy, IsTrue}
use Rattle.script_grammar.specs.Programs.{Program}
use Rattle.script_grammar.specs.WellFormed.{IsProgram}
use Rattle.script_grammar.specs.Tags.{coroutine_count}
use Rattle.script_meaning.specs.Shapes.{base_of, floor_shape, job_shape}
use Rattle.call_meaning.specs.Endings.{ClosesAtOnce, IsClosedNext, finish_of}
use Rattle.script_meaning.specs.Books.{story, Runs, book_at}
use Rattle.script_meaning.proofs.Debts.{same_tail, not_empty}
use Rattle.script_meaning.proofs.JobStories.{true_so}
use Rattle.script_meaning.proofs.JobDebts.{parents_in, all_known, no_book}
use Rattle.script_meaning.proofs.GroupNotes.{close_note, job_note}
use Rattle.script_meaning.proofs.GentleNotes.{leaves_dones, is_no_finish, is_gentle, is_gentle_call, is_gentle_note}
use Rattle.run_laws.specs.Parts.{AreParts}
use Rattle.run_laws.proofs.ClosesTold.{ClosesDones, finish_note, had_closed, reach_told}

-- ---- counts

-- how often the notes say that the row has ended, and that the channel was closed
abbrev finishings : ℕ → List Item → ℕ
finishings row items = how_many (finishes row) (job_acts_in items)

abbrev closings : ℕ → List Item → ℕ
closings c items = how_many (closes c) (channel_acts_in items)

none_here : (n : ℕ) → 0 + n ≡ n
none_here n = omega arith

act_unclosed : (base row : ℕ) (act : Act) → leaves_dones base act ≡ true → closes (base + row) act ≡ false
act_unclosed base row (Close c v) e = apart base row c e
  where
    apart : (base row c : ℕ) → not (nat_le base c) ≡ true → (c == (base + row)) ≡ false
    apart base row c e = grind (arith, nat_tests)
act_unclosed base row other e = refl

note_unclosed : (base row : ℕ) (n : ChannelNote) (more : List Item) → is_gentle_call base n ≡ true
    → closings (base + row) (item.Channel n ∷ more) ≡ closings (base + row) more
note_unclosed base row (heard_as.Made act) more e = ap (λ b. cond b 1 0 + closings (base + row) more) (act_unclosed base row act e)
    ∙ none_here (closings (base + row) more)
note_unclosed base row other more e = refl

gentle_closings : (base row : ℕ) (i : Item) (more : List Item) → is_gentle base i ≡ true
    → closings (base + row) (i ∷ more) ≡ closings (base + row) more
gentle_closings base row (item.Channel n) more e = note_unclosed base row n more e
gentle_closings base row (item.Job n) more e = refl

act_unfinished : (row : ℕ) (act : JobAct) → is_no_finish act ≡ true → finishes row act ≡ false
act_unfinished row (Finish q end) e = cc
act_unfinished row other e = refl

note_unfinished : (row : ℕ) (n : JobNote) (more : List Item) → is_gentle_note n ≡ true
    → finishings row (item.Job n ∷ more) ≡ finishings row more
note_unfinished row (known.Made act) more e = ap (λ b. cond b 1 0 + finishings row more) (act_unfinished row act e)
    ∙ none_here (finishings row more)
note_unfinished row other more e = refl

gentle_finishings : (base row : ℕ) (i : Item) (more : List Item) → is_gentle base i ≡ true → finishings row (i ∷ more) ≡ finishings row more
gentle_finishings base row (item.Channel n) more e = refl
gentle_finishings base row (item.Job n) more e = note_unfinished row n more e

shifted : (base r row : ℕ) → ◌≡◌ {A = ℕ} (cond ((base + r) == (base + row)) 1 0) (cond (row == r) 1 0)
shifted base r row = let same : ((base + r) == (base + row)) ≡ (row == r) = grind (arith, nat_tests) in ap (λ x. cond x 1 0) same

-- each Close of a done channel stands behind a Finish of its Job
few : (base row : ℕ) (items : List Item) → ClosesDones base items → closings (base + row) items ≤ finishings row items
few base row _ ClosesDones.none = omega arith
few base row _ (ClosesDones.gentle i more e h) =
    let c = gentle_closings base row i more e in
    let f = gentle_finishings base row i more e in
    let less = few base row more h in
    omega (arith, c, f, less)
few base row _ (ClosesDones.closes r end more h) = let less = few base row more h in omega (arith, shifted base r row, less)
few base row _ (ClosesDones.had_been r end v more h) = let less = few base row more h in omega (arith, less)

-- ---- where a Finish is not followed by the Close

pub record Misses (base : ℕ) (items : List Item) : Type 0 where
  pub row : ℕ
  pub end : End
  pub value : ℕ
  pub before : List Item
  pub after : List Item
  pub parts : items ≡ before ++ had_closed (done_channel base row) value ∷ after
  pub more : closings (base + row) items + 1 ≤ finishings row items

act_next : (base : ℕ) (act : JobAct) (more : List Item) → is_no_finish act ≡ true → IsClosedNext base (finish_of (job_note act)) more
act_next base (Finish q end) more e = cc
act_next base other more e = tt

gentle_next : (base : ℕ) (i : Item) (more : List Item) → is_gentle base i ≡ true → IsClosedNext base (finish_of i) more
gentle_next base (item.Job (known.Made act)) more e = act_next base act more e
gentle_next base other more e = tt

closes_or_misses : (base : ℕ) (items : List Item) → ClosesDones base items → Misses base items ⊎ ClosesAtOnce base items
closes_or_misses base _ ClosesDones.none = inr tt
closes_or_misses base _ (ClosesDones.gentle i more e h) = ⊎_elim
    (λ (m : Misses base more). inl (record {
      row = m.row;
      end = m.end;
      value = m.value;
      before = i ∷ m.before;
      after = m.after;
      parts = ap (λ l. i ∷ l) m.parts;
      more = let c = gentle_closings base m.row i more e in let f = gentle_finishings base m.row i more e in let less = m.more
          in omega (arith, c, f, less);
    }))
    (λ (c : ClosesAtOnce base more). inr (gentle_next base i more e, c))
    (closes_or_misses base more h)
closes_or_misses base _ (ClosesDones.closes r end more h) = ⊎_elim
    (λ (m : Misses base more). inl (record {
      row = m.row;
      end = m.end;
      value = m.value;
      before = finish_note r end ∷ close_note (done_channel base r) (value_of end) ∷ m.before;
      after = m.after;
      parts = ap (λ l. finish_note r end ∷ close_note (done_channel base r) (value_of end) ∷ l) m.parts;
      more = let less = m.more in omega (arith, shifted base r m.row, less);
    }))
    (λ (c : ClosesAtOnce base more). inr (refl, (tt, c)))
    (closes_or_misses base more h)
closes_or_misses base _ (ClosesDones.had_been r end v more h) = inl (record {
  row = r;
  end = end;
  value = v;
  before = finish_note r end ∷ [];
  after = more;
  parts = refl;
  more = let less = few base r more h in let one : ◌≡◌ {A = ℕ} (cond (r == r) 1 0) 1 = ap (λ x. cond x 1 0) (eq-eqb r r refl)
      in omega (arith, less, one);
})

-- ---- who did it

of_none : (b : Bool) (n : ℕ) → cond b 1 0 + n ≡ 0 → b ≡ false
of_none true n e = absurd (omega (arith, e))
of_none false n e = refl

-- what nobody did is not in the history
zero_from_each : (test : Act → Bool) (es : List Entry) → ((u : ℕ) → how_many test (acts_of u es) ≡ 0)
    → how_many (λ (e : Entry). test e.act) es ≡ 0
unfolding acts_of
zero_from_each test [] h = refl
zero_from_each test (e ∷ es) h =
    let here = ap (how_many test) (cond-true (e.who == e.who) (e.act ∷ acts_of e.who es) (acts_of e.who es) (eq-eqb e.who e.who refl)) in
    ap (λ b. cond b 1 0 + how_many (λ (x : Entry). test x.act) es) (of_none (test e.act) _ (sym here ∙ h e.who)) ∙ none_here _
    ∙ zero_from_each test es (λ u. cond_both (e.who == u) (e.act ∷ acts_of u es) (acts_of u es)
    (λ acts. how_many test acts ≡ 0 → how_many test (acts_of u es) ≡ 0) (λ own g. omega (arith, g)) (λ other g. g) (h u))

one_part : (test : JobAct → Bool) (k : ℕ) (es : List JobEntry)
    → how_many test (job_acts_of k es) ≤ how_many (λ (e : JobEntry). test e.act) es
unfolding job_acts_of
one_part test k [] = omega arith
one_part test k (e ∷ es) =
    let h = one_part test k es in
    cond_both (e.who == k) (e.act ∷ job_acts_of k es) (job_acts_of k es)
    (λ acts. how_many test acts ≤ cond (test e.act) 1 0 + how_many (λ (x : JobEntry). test x.act) es) (λ own. omega (arith, h))
    (λ other. omega (arith, h))

two_parts : (test : JobAct → Bool) (u k : ℕ) (es : List JobEntry) → u ≢ k
    → how_many test (job_acts_of u es) + how_many test (job_acts_of k es) ≤ how_many (λ (e : JobEntry). test e.act) es
unfolding job_acts_of
two_parts test u k [] n = omega arith
two_parts test u k (e ∷ es) n = by_who (e.who == u) refl (e.who == k) refl (two_parts test u k es n)
  where
    by_who : (a : Bool) → (e.who == u) ≡ a → (b : Bool) → (e.who == k) ≡ b
        → how_many test (job_acts_of u es) + how_many test (job_acts_of k es) ≤ how_many (λ (x : JobEntry). test x.act) es
        → how_many test (if a then e.act ∷ job_acts_of u es else job_acts_of u es) + how_many test
        (if b then e.act ∷ job_acts_of k es else job_acts_of k es) ≤ cond (test e.act) 1 0 + how_many (λ (x : JobEntry). test x.act) es
    by_who true f true g h = absurd (n (sym (eqb-true e.who u f) ∙ eqb-true e.who k g))
    by_who true f false g h = omega (arith, h)
    by_who false f true g h = omega (arith, h)
    by_who false f false g h = omega (arith, h)

counted : (row : ℕ) (es : List JobEntry) → count_of finishes row es ≡ how_many (λ (e : JobEntry). finishes row e.act) es
counted row [] = refl
counted row (e ∷ es) = count-cons finishes row e es (finishes row e.act) refl ∙ ap (λ n. cond (finishes row e.act) 1 0 + n) (counted row es)

finished_once : (shape : Shape) (jobs : List JobEntry) (row : ℕ) → LegalJobs shape jobs
    → how_many (λ (e : JobEntry). finishes row e.act) jobs ≤ 1
finished_once shape jobs row l = let once = (each_once shape jobs row l).finish in let same = counted row jobs in omega (arith, once, same)

-- ---- what a note says was so

note_so : (s : Story) (items : List Item) (earlier : Moment) (told : List Told) (i : Item) (before after : List Item)
    → IsTrue s items earlier told → items_in told ≡ before ++ i ∷ after
    → (at : Moment) × IsBy at s.now × NoteHolds s.shape i (replay at.channels) (replay_jobs at.jobs)
unfolding items_in IsTrue
note_so s items earlier [] i before after h e = absurd (not_empty before after i e)
note_so s items earlier (note x ∷ told) i [] after h e = (
  h.0,
  h.1.not_after,
  subst (λ y. NoteHolds s.shape y (replay h.0.channels) (replay_jobs h.0.jobs))
      (same_tail x i (items_in told) after e).0 h.1.holds,
)
note_so s items earlier (note x ∷ told) i (b ∷ before) after h e =
    note_so s (items ++ x ∷ []) h.0 told i before after h.2 (same_tail x b (items_in told) (before ++ i ∷ after) e).1
note_so s items earlier (other ∷ told) i before after h e = note_so s items h.0 told i before after h.2 e

-- ---- the run

dones_of : (p : Program) (books : List (List Item)) (channels : List Entry) (jobs : List JobEntry) → IsProgram p
    → AreParts p books channels jobs → (k : ℕ) → k < coroutine_count p → ClosesDones (base_of p) (book_at k books)
dones_of p books channels jobs ok parts k lt =
    let runs = parts.runs k lt in
    let now : Moment = record { channels = channels; jobs = jobs } in
    subst (ClosesDones (base_of p)) runs.written
    (reach_told p k (parents_in jobs) runs.told (parts.ends_at k) ok
    (all_known (job_shape p) k jobs [] runs.told parts.legal_jobs (true_so (story p k now) [] beginning runs.told runs.is_true))
    runs.reaches)

closes_none : (base : ℕ) → ClosesAtOnce base []
closes_none base = tt

closes_of : (p : Program) (books : List (List Item)) (channels : List Entry) (jobs : List JobEntry) → IsProgram p
    → AreParts p books channels jobs → (k : ℕ) → k < coroutine_count p → ClosesAtOnce (base_of p) (book_at k books)
closes_of p books channels jobs ok parts k lt =
    ⊎_elim (λ (m : Misses (base_of p) (book_at k books)). absurd (never m)) (λ (c : ClosesAtOnce (base_of p) (book_at k books)). c)
    (closes_or_misses (base_of p) (book_at k books) (dones_of p books channels jobs ok parts k lt))
  where
    never : Misses (base_of p) (book_at k books) → ⊥
    never m = contrary
      where
        d : ℕ
        d = base_of p + m.row

        once : how_many (λ (e : JobEntry). finishes m.row e.act) jobs ≤ 1
        once = finished_once (job_shape p) jobs m.row parts.legal_jobs

        mine : finishings m.row (book_at k books) ≤ 1
        mine = let part = one_part (finishes m.row) k jobs in let is = ap (how_many (finishes m.row)) (parts.job_parts k)
            in omega (arith, part, is, once)

        -- nobody closed it
        unclosed : (u : ℕ) → how_many (closes d) (acts_of u channels) ≡ 0
        unclosed u = ap (how_many (closes d)) (parts.channel_parts u) ∙ ⊎_elim
            (λ below. ⊎_elim own (λ n. other n below) (cases_eq u k))
            (λ le. let count = parts.count in ap (closings d) (no_book books u (omega (arith, count, le))))
            (cases_lt u (coroutine_count p))
          where
            own : u ≡ k → closings d (book_at u books) ≡ 0
            own e = let more = m.more in let same : closings d (book_at u books) ≡ closings d (book_at k books) =
                ap (λ n. closings d (book_at n books)) e in omega (arith, more, mine, same)

            other : u ≢ k → u < coroutine_count p → closings d (book_at u books) ≡ 0
            other n below =
                let less = few (base_of p) m.row (book_at u books) (dones_of p books channels jobs ok parts u below) in
                let both = two_parts (finishes m.row) u k jobs n in
                let theirs = ap (how_many (finishes m.row)) (parts.job_parts u) in
                let is = ap (how_many (finishes m.row)) (parts.job_parts k) in
                let more = m.more in
                omega (arith, less, both, theirs, is, more, once)

        -- and yet it was seen closed
        runs : Runs p k (record { channels = channels; jobs = jobs }) (book_at k books) (parts.ends_at k)
        runs = parts.runs k lt

        so : (at : Moment) × IsBy at (record { channels = channels; jobs = jobs }) × IsClosedWith d m.value (replay at.channels)
        so = note_so (story p k (record { channels = channels; jobs = jobs })) [] beginning runs.told (had_closed d m.value) m.before
            m.after runs.is_true (runs.written ∙ m.parts)

        closed : is_some ((replay channels).channels d).closed ≡ true
        closed = ap is_some (subst (λ es. ((replay es).channels d).closed ≡ Some m.value) so.1.channels.1
            (closed_later (floor_shape p) so.0.channels so.1.channels.0 d m.value
            (subst (Legal (floor_shape p)) (sym so.1.channels.1) parts.legal_channels) so.2))

        contrary : ⊥
        contrary =
            let one : closings_of d channels ≡ 1 = (closed_by_one (floor_shape p) channels d parts.legal_channels).1 closed in
            let none : closings_of d channels ≡ 0 = zero_from_each (closes d) channels unclosed in
            omega (arith, one, none)

-- right behind each Finish stands the Close of its done channel
pub closes_always : (p : Program) (books : List (List Item)) (channels : List Entry) (jobs : List JobEntry) → IsProgram p
    → AreParts p books channels jobs → (k : ℕ) → ClosesAtOnce (base_of p) (book_at k books)
closes_always p books channels jobs ok parts k = ⊎_elim
    (closes_of p books channels jobs ok parts k)
    (λ le. let count = parts.count
    in subst (ClosesAtOnce (base_of p)) (sym (no_book books k (omega (arith, count, le)))) (closes_none (base_of p)))
    (cases_lt k (coroutine_count p))
