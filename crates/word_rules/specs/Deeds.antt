-- What the exchanges on the words of a forest leave, and when each may come.
use Rattle.std.specs.Prelude.{◌≡◌, ◌≢◌, ◌⊎◌, ℕ, ◌+◌, ◌*◌, ◌==◌, ◌<◌, ◌≤◌, Bool, true, false, List, [], ◌∷◌, Option, Some, None, is_some, if◌then◌else◌}
use Rattle.job_model.specs.declared.acts.JobState.{JobState}
use Rattle.job_model.specs.declared.acts.JobState.TheVariants.{New, Active, Completing, Cancelling, Cancelled, Completed}
use Rattle.job_model.specs.declared.acts.Cause.{Cause}
use Rattle.job_model.specs.declared.acts.Cause.TheVariants as because
use Rattle.job_model.specs.declared.acts.JobAct.{JobAct}
use Rattle.job_model.specs.declared.acts.JobAct.TheVariants.{Attach, Start, EndBody, Cancel, Finish, Gone}
use Rattle.job_model.specs.declared.acts.JobEntry.{JobEntry}
use Rattle.job_model.specs.Trees.{Shape, Job, Tree, start}
use Rattle.job_model.specs.Effects.{after}
use Rattle.job_model.specs.Needs.{Needs}
use Rattle.job_model.specs.Laws.{HasFamilies}
use Rattle.job_model.specs.Families.{newest, children_of}
use Rattle.word_rules.specs.declared.job_word.JobWord.{JobWord}
use Rattle.word_rules.specs.declared.link_word.LinkWord.{LinkWord}
use Rattle.word_rules.specs.declared.size.ForestSize.{ForestSize}
use Rattle.word_rules.specs.declared.deed.Deed.{Deed}
use Rattle.word_rules.specs.declared.deed.Deed.TheVariants.{Act, Claim, StoreLink, StoreJob}
use Rattle.word_rules.specs.Rows.{job_code, link_code, row_code, new_word, new_link, job_at, link_at, IsNarrowLink}

-- the numbers of coroutines and of rows, as the model has them
abbrev pub shape_of : ForestSize → Shape
shape_of size = record { coroutines = size.coroutines; rows = size.rows }

-- there is a root, each coroutine has a row, and a row fits 14 bits
pub record IsSize (size : ForestSize) : Type 0 where
  pub some : 0 < size.coroutines
  pub fit : size.coroutines ≤ size.rows
  pub few : size.rows ≤ 16000

-- who did it
abbrev pub doer : Deed → ℕ
doer (Act e) = e.who
doer (Claim who r) = who
doer (StoreLink who r w) = who
doer (StoreJob who r w) = who

-- the entries among the deeds
unfoldable pub history_of : List Deed → List JobEntry
history_of [] = []
history_of (Act e ∷ ds) = e ∷ history_of ds
history_of (Claim who r ∷ ds) = history_of ds
history_of (StoreLink who r w ∷ ds) = history_of ds
history_of (StoreJob who r w ∷ ds) = history_of ds

-- the rows that they claim
unfoldable pub rows_claimed : List Deed → List ℕ
rows_claimed [] = []
rows_claimed (Act e ∷ ds) = rows_claimed ds
rows_claimed (Claim who r ∷ ds) = r ∷ rows_claimed ds
rows_claimed (StoreLink who r w ∷ ds) = rows_claimed ds
rows_claimed (StoreJob who r w ∷ ds) = rows_claimed ds

-- What the deeds leave: the tree, who claimed each row, and the words that were stored in rows
pub record Store : Type 0 where
  pub tree : Tree
  pub claimer : ℕ → Option ℕ
  pub links : ℕ → ℕ
  pub jobs : ℕ → ℕ

-- f, but x at r
abbrev pub put : {A : Type 0} → ℕ → A → (ℕ → A) → ℕ → A
put r x f q = if r == q then x else f q

-- the root is claimed from the start
abbrev pub first_claim : ℕ → Option ℕ
first_claim r = if r == 0 then Some 0 else None

-- a forest as it is made
abbrev pub nothing_done : Store
nothing_done = record { tree = start; claimer = first_claim; links = λ r. 0; jobs = λ r. if r == 0 then 7 else 0 }

-- what a deed leaves
abbrev pub after_deed : Store → Deed → Store
after_deed s (Act e) = record s { tree = after s.tree e.who e.act }
after_deed s (Claim who r) = record s { claimer = put r (Some who) s.claimer; jobs = put r 7 s.jobs }
after_deed s (StoreLink who r w) = record s { links = put r w s.links }
after_deed s (StoreJob who r w) = record s { jobs = put r w s.jobs }

-- what deeds leave
unfoldable pub store_from : Store → List Deed → Store
store_from s [] = s
store_from s (d ∷ ds) = store_from (after_deed s d) ds

-- what deeds leave of a new forest
abbrev pub store_of : List Deed → Store
store_of deeds = store_from nothing_done deeds

-- ---- when a deed may come

-- the row of a new child is claimed by who attaches it, and has its two words
abbrev pub IsStored : Store → ℕ → JobAct → Type 0
IsStored s who (Attach p r kind tag cancelled) =
    (s.claimer r ≡ Some who)
    × (s.links r ≡ link_code (new_link p (row_code (newest (children_of (s.tree p)))) tag kind))
    × (s.jobs r ≡ job_code (new_word kind cancelled))
IsStored s who (Start r) = Unit {0}
IsStored s who (EndBody r v) = Unit {0}
IsStored s who (Cancel r reason) = Unit {0}
IsStored s who (Finish r end) = Unit {0}
IsStored s who (Gone r) = Unit {0}

-- its numbers fit their places
abbrev pub IsRanged : JobAct → Type 0
IsRanged (Attach p r kind tag cancelled) = Unit {0}
IsRanged (Start r) = Unit {0}
IsRanged (EndBody r v) = v < 4294967296
IsRanged (Cancel r reason) = Unit {0}
IsRanged (Finish r end) = Unit {0}
IsRanged (Gone r) = Unit {0}

-- a link word of this number names an attached parent
abbrev pub IsLinkTo : Store → ℕ → Type 0
IsLinkTo s n = (w : LinkWord) → IsNarrowLink w → link_code w ≡ n → is_some (s.tree w.parent) ≡ true

-- an entry may come by the rules of the model; a row is claimed once; and its claimer stores words until it is attached
abbrev pub DeedNeeds : Shape → Store → Deed → Type 0
DeedNeeds shape s (Act e) = Needs shape s.tree e.who e.act × IsStored s e.who e.act × IsRanged e.act
DeedNeeds shape s (Claim who r) = (s.claimer r ≡ None) × (r < shape.rows)
DeedNeeds shape s (StoreLink who r w) = (s.claimer r ≡ Some who) × (s.tree r ≡ None) × IsLinkTo s w × (w < 140737488355328)
DeedNeeds shape s (StoreJob who r w) = (s.claimer r ≡ Some who) × (s.tree r ≡ None) × (0 < w)

-- each deed might come when it comes, after s
unfoldable pub DoneFrom : Shape → Store → List Deed → Type 0
DoneFrom shape s [] = Unit {0}
DoneFrom shape s (d ∷ ds) = DeedNeeds shape s d × DoneFrom shape (after_deed s d) ds

-- the same from the start
abbrev pub IsDone : Shape → List Deed → Type 0
IsDone shape deeds = DoneFrom shape nothing_done deeds

-- ---- words

-- the number of a word, or n
abbrev pub word_or : ℕ → Option JobWord → ℕ
word_or n None = n
word_or n (Some w) = job_code w

-- the Job word of a row: what was stored there, and once it is attached what the tree says
abbrev pub job_word : Store → ℕ → ℕ
job_word s r = word_or (s.jobs r) (job_at s.tree r)

-- a link word may be n: what was stored in the row; once the row is attached, the hint may stand in bit 47 too
abbrev pub MayBeLink : Store → ℕ → ℕ → Type 0
MayBeLink s r n = (n ≡ s.links r) ⊎ ((is_some (s.tree r) ≡ true) × (n ≡ s.links r + 140737488355328))

-- each row for scopes below n was claimed
abbrev pub AreClaimedBelow : ForestSize → Store → ℕ → Type 0
AreClaimedBelow size s n = (r : ℕ) → size.coroutines ≤ r → r < n → is_some (s.claimer r) ≡ true

-- the word i may be n; the root is nobody's child, so its link word is a hint from where on to look for a row for a scope
pub record Fits (size : ForestSize) (log : List Deed) (i n : ℕ) : Type 0 where
  pub job : (r : ℕ) → i ≡ 2 * r → n ≡ job_word (store_of log) r
  pub link : (r : ℕ) → r ≢ 0 → i ≡ 2 * r + 1 → MayBeLink (store_of log) r n
  pub hint : i ≡ 1 → AreClaimedBelow size (store_of log) n

-- two words for each row
abbrev pub word_count : ForestSize → ℕ
word_count size = 2 * size.rows

-- the size of no forest
abbrev pub no_size : ForestSize
no_size = record { coroutines = 0; rows = 0 }

-- ---- what holds of each history of deeds

-- a Job in this state has a result
abbrev pub is_valued : JobState → Bool
is_valued New = false
is_valued Active = false
is_valued Completing = true
is_valued Cancelling = false
is_valued Cancelled = false
is_valued Completed = true

-- the row of a failure is a row
abbrev pub IsSmallCause : ℕ → Cause → Type 0
IsSmallCause rows because.None = Unit {0}
IsSmallCause rows because.Request = Unit {0}
IsSmallCause rows (because.Failure f) = f < rows

-- the numbers of a Job fit their places, and it has a result only in Completing and Completed
pub record IsSmall (shape : Shape) (j : Job) : Type 0 where
  pub value : j.value < 4294967296
  pub none : is_valued j.state ≡ false → j.value ≡ 0
  pub cause : IsSmallCause shape.rows j.cause
  pub tag : j.tag < shape.coroutines

-- so it is of the Job of a row, if it is attached
abbrev pub IsSmallRow : Shape → Option Job → Type 0
IsSmallRow shape None = Unit {0}
IsSmallRow shape (Some j) = IsSmall shape j

-- a row that nobody claimed is not attached and has no words; one that was claimed has a Job word; the link word of a child says
-- where it stands, and each that is stored names an attached parent
pub record StoreHolds (shape : Shape) (s : Store) : Type 0 where
  pub unclaimed : (r : ℕ) → s.claimer r ≡ None → (s.tree r ≡ None) × (s.jobs r ≡ 0) × (s.links r ≡ 0)
  pub claimed : (r t : ℕ) → s.claimer r ≡ Some t → 0 < s.jobs r
  pub linked : (r : ℕ) (w : LinkWord) → link_at s.tree r ≡ Some w → r ≢ 0 → s.links r ≡ link_code w
  pub above : (r : ℕ) (w : LinkWord) → IsNarrowLink w → link_code w ≡ s.links r → is_some (s.tree w.parent) ≡ true
  pub short : (r : ℕ) → s.links r < 140737488355328
  pub small : (r : ℕ) → IsSmallRow shape (s.tree r)

-- what holds after each history of deeds
pub record IsKept (shape : Shape) (s : Store) : Type 0 where
  pub holds : StoreHolds shape s
  pub families : HasFamilies s.tree
  pub within : (r : ℕ) → is_some (s.tree r) ≡ true → r < shape.rows
