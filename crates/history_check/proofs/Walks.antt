-- A walk over the lines of a history.
use Rattle.std.specs.Prelude.{◌≡◌, ℕ, ◌+◌, ◌≤◌, Bool, true, false, List, [], ◌∷◌, ◌++◌, Some, None, length, map, refl}
use Rattle.std.specs.Bool.{Decides}
use Rattle.std.proofs.Common.{get_or, sym, ap, ◌∙◌, subst, arith, append_assoc, append-nil, drop, length-append, true≢false}
use Rattle.channel_model.specs.declared.acts.Entry.{Entry}
use Rattle.channel_model.specs.declared.acts.Act.{Act}
use Rattle.channel_model.specs.declared.acts.ChannelNote.{ChannelNote}
use Rattle.channel_model.specs.Channels.{Shape, State, start}
use Rattle.channel_model.specs.Floors.{Floor, HasRoom, Made}
use Rattle.channel_model.specs.Histories.{replay, Legal, LegalFrom}
use Rattle.channel_model.specs.Needs.{Needs}
use Rattle.channel_model.specs.Steps.{may_come}
use Rattle.channel_model.proofs.Histories.{LegalFrom-parts}
use Rattle.one_thread_floor.proofs.ListMay.{may_of}
use Rattle.job_model.specs.Histories as of_jobs
use Rattle.job_model.specs.Trees as trees
use Rattle.job_replay.specs.declared.replay.JobReplay.{JobReplay}
use Rattle.job_replay.specs.Replays.{IsTree}
use Rattle.job_replay.specs.Sizes.{shape_of as job_shape}
use Rattle.note_book.specs.declared.book.Item.{Item}
use Rattle.note_book.specs.declared.book.Item.TheVariants as item
use Rattle.note_book.specs.Items.{channel_act}
use Rattle.call_meaning.specs.Facts.{ChannelNoteHolds}
use Rattle.history_text.specs.declared.line.Line.{Line}
use Rattle.history_check.specs.Histories.{AreSo, IsAllowed, IsSo, entries_of, entry_by, entry_of, job_entries_of, job_entry_of}
use Rattle.history_check.specs.declared.verdict.Step.{Step}
use Rattle.history_check.specs.declared.verdict.Step.TheVariants as step
use Rattle.history_check.specs.Steps.{Grows, IfGood, IsChannelStep, IsItemStep, IsMade, IsStep, NoneHas, listed}
use Rattle.history_check.specs.Verdicts.{IsNotSo, MayNotCome, MayNotComeBy, StopsAt}
use Rattle.history_check.proofs.JobSteps.{job_goes_on, job_may_not_come, job_not_so, none_legal, none_seen}

-- the floor and the tree have seen the lines before those that are left, and each of them says what holds
pub record Walked (shape : Shape) (jobs : trees.Shape) (lines : List Line) (number : ℕ) (rest : List Line) (floor : Floor)
    (tree : JobReplay) : Type 0 where
  pub before : List Line
  pub split : lines ≡ before ++ rest
  pub numbered : length before + 1 ≡ number
  pub shape_is : floor.shape ≡ shape
  pub seen : floor.seen ≡ entries_of before
  pub jobs_is : job_shape tree.size ≡ jobs
  pub legal_jobs : of_jobs.Legal jobs (job_entries_of before)
  pub tree_is : IsTree (of_jobs.replay (job_entries_of before)) tree
  pub so : AreSo shape [] before

-- ---- entries of lines

pub entries_of-append : (xs ys : List Line) → entries_of (xs ++ ys) ≡ entries_of xs ++ entries_of ys
unfolding entries_of
entries_of-append [] ys = refl
entries_of-append (x ∷ xs) ys = ap (λ es. entry_of x ++ es) (entries_of-append xs ys)
    ∙ sym (append_assoc (entry_of x) (entries_of xs) (entries_of ys))

job_entries_of-append : (xs ys : List Line) → job_entries_of (xs ++ ys) ≡ job_entries_of xs ++ job_entries_of ys
unfolding job_entries_of
job_entries_of-append [] ys = refl
job_entries_of-append (x ∷ xs) ys = ap (λ es. job_entry_of x ++ es) (job_entries_of-append xs ys)
    ∙ sym (append_assoc (job_entry_of x) (job_entries_of xs) (job_entries_of ys))

one_entry : (line : Line) → entries_of (line ∷ []) ≡ entry_of line
unfolding entries_of
one_entry line = append-nil (entry_of line)

one_job_entry : (line : Line) → job_entries_of (line ∷ []) ≡ job_entry_of line
unfolding job_entries_of
one_job_entry line = append-nil (job_entry_of line)

pub last_entry : (before : List Line) (line : Line) → entries_of (before ++ line ∷ []) ≡ entries_of before ++ entry_of line
last_entry before line = entries_of-append before (line ∷ []) ∙ ap (λ es. entries_of before ++ es) (one_entry line)

pub last_job_entry : (before : List Line) (line : Line) → job_entries_of (before ++ line ∷ []) ≡ job_entries_of before ++ job_entry_of line
last_job_entry before line = job_entries_of-append before (line ∷ []) ∙ ap (λ es. job_entries_of before ++ es) (one_job_entry line)

-- the entries of lines, with one that is marked
as_entries : (before : List Line) (line : Line) (rest : List Line)
    → entries_of (before ++ line ∷ rest) ≡ (entries_of before ++ entry_of line) ++ entries_of rest
as_entries before line rest = ap entries_of (sym (append_assoc before (line ∷ []) rest))
    ∙ entries_of-append (before ++ line ∷ []) rest ∙ ap (λ es. es ++ entries_of rest) (last_entry before line)

as_job_entries : (before : List Line) (line : Line) (rest : List Line)
    → job_entries_of (before ++ line ∷ rest) ≡ (job_entries_of before ++ job_entry_of line) ++ job_entries_of rest
as_job_entries before line rest = ap job_entries_of (sym (append_assoc before (line ∷ []) rest))
    ∙ job_entries_of-append (before ++ line ∷ []) rest ∙ ap (λ es. es ++ job_entries_of rest) (last_job_entry before line)

-- ---- what lines say

AreSo-last : (shape : Shape) (before xs : List Line) (line : Line) → AreSo shape before xs → IsSo shape (before ++ xs) line
    → AreSo shape before (xs ++ line ∷ [])
unfolding AreSo
AreSo-last shape before [] line h k = (subst (λ l. IsSo shape l line) (append-nil before) k, tt)
AreSo-last shape before (x ∷ xs) line h k = (
  h.0,
  AreSo-last shape (before ++ x ∷ []) xs line h.1 (subst (λ l. IsSo shape l line) (sym (append_assoc before (x ∷ []) xs)) k),
)

AreSo-at : (shape : Shape) (before xs : List Line) (line : Line) (more : List Line) → AreSo shape before (xs ++ line ∷ more)
    → IsSo shape (before ++ xs) line
unfolding AreSo
AreSo-at shape before [] line more h = subst (λ l. IsSo shape l line) (sym (append-nil before)) h.0
AreSo-at shape before (x ∷ xs) line more h =
    subst (λ l. IsSo shape l line) (append_assoc before (x ∷ []) xs) (AreSo-at shape (before ++ x ∷ []) xs line more h.1)

-- ---- the loop

pub begun : (shape : Shape) (jobs : trees.Shape) (lines : List Line) (floor : Floor) (tree : JobReplay) → floor.shape ≡ shape
    → floor.seen ≡ [] → job_shape tree.size ≡ jobs → IsTree trees.start tree → Walked shape jobs lines 1 lines floor tree
unfolding entries_of job_entries_of AreSo
begun shape jobs lines floor tree is nothing jobs_is tree_is = record {
  before = [];
  split = refl;
  numbered = refl;
  shape_is = is;
  seen = nothing;
  jobs_is = jobs_is;
  legal_jobs = none_legal jobs;
  tree_is = none_seen tree tree_is;
  so = tt;
}

-- what became of a good line: what the floor and the tree have seen then, and that it says what holds
pub record Wrote (shape : Shape) (jobs : trees.Shape) (before : List Line) (line : Line) (old new : Floor) (tree' : JobReplay) : Type 0
  where
    pub shape_is : new.shape ≡ old.shape
    pub seen : new.seen ≡ old.seen ++ entry_of line
    pub jobs_is : job_shape tree'.size ≡ jobs
    pub legal_jobs : of_jobs.Legal jobs (job_entries_of before ++ job_entry_of line)
    pub tree_is : IsTree (of_jobs.replay (job_entries_of before ++ job_entry_of line)) tree'
    pub so : IsSo shape before line

wrote : (shape : Shape) (jobs : trees.Shape) (before : List Line) (who : ℕ) (i : Item) (old new : Floor) (tree tree' : JobReplay)
    → old.shape ≡ shape → old.seen ≡ entries_of before → job_shape tree.size ≡ jobs → of_jobs.Legal jobs (job_entries_of before)
    → IsTree (of_jobs.replay (job_entries_of before)) tree → IsItemStep step.Good who i old new tree tree'
    → Wrote shape jobs before (record { who = who; item = i }) old new tree'
wrote shape jobs before who (item.Channel note) old new tree tree' is seen jobs_is legal at h = record {
  shape_is = h.0.1.shape;
  seen = h.0.1.seen;
  jobs_is = ap (λ (x : JobReplay). job_shape x.size) h.1 ∙ jobs_is;
  legal_jobs = subst (of_jobs.Legal jobs) (sym (append-nil (job_entries_of before))) legal;
  tree_is = subst (λ es. IsTree (of_jobs.replay es) tree') (sym (append-nil (job_entries_of before)))
      (subst (IsTree (of_jobs.replay (job_entries_of before))) (sym h.1) at);
  so = subst (λ sh. ChannelNoteHolds sh note (replay (entries_of before))) is
      (subst (λ es. ChannelNoteHolds old.shape note (replay es)) seen h.0.0);
}
wrote shape jobs before who (item.Job note) old new tree tree' is seen jobs_is legal at h =
    let step = job_goes_on jobs (job_entries_of before) who note tree tree' jobs_is h.1 legal at h.2 in
    record {
      shape_is = ap (λ (f : Floor). f.shape) h.0;
      seen = ap (λ (f : Floor). f.seen) h.0 ∙ sym (append-nil old.seen);
      jobs_is = ap job_shape h.1 ∙ jobs_is;
      legal_jobs = step.1;
      tree_is = step.2;
      so = step.0;
    }

pub goes_on : (shape : Shape) (jobs : trees.Shape) (lines : List Line) (n : ℕ) (rest next : List Line) (d : Line) (old new : Floor)
    (tree tree' : JobReplay) → Walked shape jobs lines n rest old tree → 1 ≤ length rest → next ≡ drop 1 rest
    → IsStep step.Good (get_or rest 0 d) old new tree tree' → Walked shape jobs lines (n + 1) next new tree'
goes_on shape jobs lines n [] next d old new tree tree' w le is step = absurd (omega (arith, le))
goes_on shape jobs lines n (line ∷ more) next d old new tree tree' w le is step =
    let x = wrote shape jobs w.before line.who line.item old new tree tree' w.shape_is w.seen w.jobs_is w.legal_jobs w.tree_is step in
    record {
      before = w.before ++ line ∷ [];
      split = w.split ∙ sym (append_assoc w.before (line ∷ []) more) ∙ ap (λ ls. (w.before ++ line ∷ []) ++ ls) (sym is);
      numbered = omega (arith, length-append w.before (line ∷ []), w.numbered);
      shape_is = x.shape_is ∙ w.shape_is;
      seen = x.seen ∙ ap (λ es. es ++ entry_of line) w.seen ∙ sym (last_entry w.before line);
      jobs_is = x.jobs_is;
      legal_jobs = subst (of_jobs.Legal jobs) (sym (last_job_entry w.before line)) x.legal_jobs;
      tree_is = subst (λ es. IsTree (of_jobs.replay es) tree') (sym (last_job_entry w.before line)) x.tree_is;
      so = AreSo-last shape [] w.before line w.so x.so;
    }

-- ---- an act on a channel

-- the first entry may come
pub first_needs : (shape : Shape) (s : State) (e : Entry) (more : List Entry) → LegalFrom shape s (e ∷ more) → Needs shape s e.who e.act
unfolding LegalFrom
first_needs shape s e more l = l.0

-- an act that may not come, and one that was made
pub none_has : (who : ℕ) (act : Act) (old mid : Floor) → HasRoom 1 old mid → false ≡ may_come mid.shape (replay mid.seen) who act
    → NoneHas (record { who = who; act = act } ∷ []) old
none_has who act old mid room refused =
    let e : Entry = record { who = who; act = act } in
    λ more l.
    let parts = LegalFrom-parts old.shape start old.seen (e ∷ more) (subst (Legal old.shape) (append_assoc old.seen (e ∷ []) more) l) in
    let may : may_come old.shape (replay old.seen) who act ≡ true =
    may_of old.shape (replay old.seen) who act (first_needs old.shape _ e more parts.1) in
    true≢false (sym may ∙ sym (refused ∙ ap (λ sh. may_come sh (replay mid.seen) who act) room.same.shape
    ∙ ap (λ es. may_come old.shape (replay es) who act) room.seen))

pub has_more : (who : ℕ) (act : Act) (old mid new : Floor) → HasRoom 1 old mid → mid.alone ≡ true → Made who act mid new
    → Grows (record { who = who; act = act } ∷ []) old new
has_more who act old mid new room alone made = record {
  shape = made.same.shape ∙ room.same.shape;
  seen = made.last ∙ ap (λ es. es ++ record { who = who; act = act } ∷ []) (made.alone alone ∙ room.seen);
}

-- what became of a note that is an act
pub step_made : (r : Step) (so : Bool) (who : ℕ) (note : ChannelNote) (act : Act) (shape : Shape) (old new : Floor) → old.shape ≡ shape
    → listed (Some act) ≡ channel_act note → Decides so (ChannelNoteHolds shape note (replay old.seen))
    → IsMade r so who act old new → IsChannelStep r who note old new
step_made step.Good so who note act shape old new is e d m = (
  subst (λ sh. ChannelNoteHolds sh note (replay old.seen)) (sym is) (d.0 m.0),
  subst (λ es. Grows es old new) (ap (map (λ a. record { who = who; act = a })) e) m.1,
)
step_made step.MayNotCome so who note act shape old new is e d m =
    subst (λ es. NoneHas es old) (ap (map (λ a. record { who = who; act = a })) e) m
step_made step.NotSo so who note act shape old new is e d m =
    λ h. true≢false (sym (d.1 (subst (λ sh. ChannelNoteHolds sh note (replay old.seen)) is h)) ∙ m)

-- what became of a note that is none
pub step_noted : (who : ℕ) (note : ChannelNote) (shape : Shape) (floor : Floor) → floor.shape ≡ shape → listed None ≡ channel_act note
    → Decides true (ChannelNoteHolds shape note (replay floor.seen)) → IsChannelStep step.Good who note floor floor
step_noted who note shape floor is e d = (
  subst (λ sh. ChannelNoteHolds sh note (replay floor.seen)) (sym is) (d.0 refl),
  subst (λ es. Grows es floor floor) (ap (map (λ a. record { who = who; act = a })) e)
      (record { shape = refl; seen = sym (append-nil floor.seen) }),
)

pub step_refuted : (who : ℕ) (note : ChannelNote) (shape : Shape) (floor : Floor) → floor.shape ≡ shape
    → Decides false (ChannelNoteHolds shape note (replay floor.seen)) → IsChannelStep step.NotSo who note floor floor
step_refuted who note shape floor is d =
    λ h. true≢false (sym (d.1 (subst (λ sh. ChannelNoteHolds sh note (replay floor.seen)) is h)))

-- what is so whatever became of a line
pub if_good : (r : Step) (P : Type 0) → P → IfGood r P
if_good step.Good P p = p
if_good step.MayNotCome P p = tt
if_good step.NotSo P p = tt

-- ---- verdicts

-- the lines that were passed are allowed
passed : (shape : Shape) (jobs : trees.Shape) (lines : List Line) (n : ℕ) (rest : List Line) (floor : Floor) (tree : JobReplay)
    (w : Walked shape jobs lines n rest floor tree) → Legal floor.shape floor.seen → IsAllowed shape jobs w.before
passed shape jobs lines n rest floor tree w l = record {
  legal = subst (Legal shape) w.seen (subst (λ sh. Legal sh floor.seen) w.shape_is l);
  legal_jobs = w.legal_jobs;
  so = w.so;
}

may_not : (shape : Shape) (jobs : trees.Shape) (before : List Line) (who : ℕ) (i : Item) (old new : Floor) (tree tree' : JobReplay)
    → old.shape ≡ shape → old.seen ≡ entries_of before → job_shape tree.size ≡ jobs
    → IsTree (of_jobs.replay (job_entries_of before)) tree → IsItemStep step.MayNotCome who i old new tree tree'
    → MayNotComeBy shape jobs before who i
may_not shape jobs before who (item.Channel note) old new tree tree' is seen jobs_is at h =
    subst (λ es. (rest : List Entry) → Legal shape ((es ++ entry_by who (item.Channel note)) ++ rest) → ⊥) seen
    (subst (λ sh. (rest : List Entry) → Legal sh ((old.seen ++ entry_by who (item.Channel note)) ++ rest) → ⊥) is h.0)
may_not shape jobs before who (item.Job note) old new tree tree' is seen jobs_is at h =
    job_may_not_come jobs (job_entries_of before) who note tree tree' jobs_is at h.2

-- no history goes on from a line that may not come
none_from : (shape : Shape) (jobs : trees.Shape) (before : List Line) (who : ℕ) (i : Item) (more : List Line)
    → MayNotComeBy shape jobs before who i → IsAllowed shape jobs (before ++ record { who = who; item = i } ∷ more) → ⊥
none_from shape jobs before who (item.Channel note) more h a =
    h (entries_of more) (subst (Legal shape) (as_entries before (record { who = who; item = item.Channel note }) more) a.legal)
none_from shape jobs before who (item.Job note) more h a =
    h (job_entries_of more)
    (subst (of_jobs.Legal jobs) (as_job_entries before (record { who = who; item = item.Job note }) more) a.legal_jobs)

pub stops_for_act : (shape : Shape) (jobs : trees.Shape) (lines : List Line) (n : ℕ) (rest : List Line) (d : Line) (old new : Floor)
    (tree tree' : JobReplay) → Walked shape jobs lines n rest old tree → 1 ≤ length rest → Legal old.shape old.seen
    → IsStep step.MayNotCome (get_or rest 0 d) old new tree tree' → StopsAt n (MayNotCome shape jobs) shape jobs lines
stops_for_act shape jobs lines n [] d old new tree tree' w le l step = absurd (omega (arith, le))
stops_for_act shape jobs lines n (line ∷ more) d old new tree tree' w le l step =
    let none : MayNotCome shape jobs w.before line =
    may_not shape jobs w.before line.who line.item old new tree tree' w.shape_is w.seen w.jobs_is w.tree_is step in
    record {
      before = w.before;
      line = line;
      rest = more;
      split = w.split;
      numbered = w.numbered;
      allowed = passed shape jobs lines n (line ∷ more) old tree w l;
      fault = none;
      none = λ rest a. none_from shape jobs w.before line.who line.item rest none a;
    }

not_so : (shape : Shape) (before : List Line) (who : ℕ) (i : Item) (old new : Floor) (tree tree' : JobReplay) → old.shape ≡ shape
    → old.seen ≡ entries_of before → IsTree (of_jobs.replay (job_entries_of before)) tree → IsItemStep step.NotSo who i old new tree tree'
    → IsNotSo shape before (record { who = who; item = i })
not_so shape before who (item.Channel note) old new tree tree' is seen at h =
    subst (λ es. ChannelNoteHolds shape note (replay es) → ⊥) seen
    (subst (λ sh. ChannelNoteHolds sh note (replay old.seen) → ⊥) is h.0)
not_so shape before who (item.Job note) old new tree tree' is seen at h =
    job_not_so (job_entries_of before) who note tree tree' at h.2

pub stops_for_note : (shape : Shape) (jobs : trees.Shape) (lines : List Line) (n : ℕ) (rest : List Line) (d : Line) (old new : Floor)
    (tree tree' : JobReplay) → Walked shape jobs lines n rest old tree → 1 ≤ length rest → Legal old.shape old.seen
    → IsStep step.NotSo (get_or rest 0 d) old new tree tree' → StopsAt n (IsNotSo shape) shape jobs lines
stops_for_note shape jobs lines n [] d old new tree tree' w le l step = absurd (omega (arith, le))
stops_for_note shape jobs lines n (line ∷ more) d old new tree tree' w le l step =
    let none : IsNotSo shape w.before line =
    not_so shape w.before line.who line.item old new tree tree' w.shape_is w.seen w.tree_is step in
    record {
      before = w.before;
      line = line;
      rest = more;
      split = w.split;
      numbered = w.numbered;
      allowed = passed shape jobs lines n (line ∷ more) old tree w l;
      fault = none;
      none = λ rest a. none (AreSo-at shape [] w.before line rest a.so);
    }
