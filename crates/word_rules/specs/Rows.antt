-- A row of the tree as its two words have it.
use Rattle.std.specs.Prelude.{ℕ, ◌+◌, ◌*◌, ◌/◌, ◌%◌, ◌==◌, ◌<◌, Bool, true, false, length, Option, Some, None, option_map, if◌then◌else◌}
use Rattle.job_model.specs.declared.acts.JobState.{JobState}
use Rattle.job_model.specs.declared.acts.JobState.TheVariants.{New, Active, Completing, Cancelling, Cancelled, Completed}
use Rattle.job_model.specs.declared.acts.JobKind.{JobKind}
use Rattle.job_model.specs.declared.acts.Cause.{Cause}
use Rattle.job_model.specs.declared.acts.Cause.TheVariants as because
use Rattle.job_model.specs.declared.acts.End.{End}
use Rattle.job_model.specs.declared.acts.End.TheVariants as ends
use Rattle.job_model.specs.Trees.{Job, Tree, living}
use Rattle.job_model.specs.Effects.{first_state, state_after_body}
use Rattle.job_model.specs.Families.{newest, older_sibling}
use Rattle.word_rules.specs.declared.job_word.JobWord.{JobWord}
use Rattle.word_rules.specs.declared.link_word.LinkWord.{LinkWord}

-- ---- numbers

-- a bit as a number
abbrev pub bit : Bool → ℕ
bit false = 0
bit true = 1

-- a row's number, or 0 for none: the root is nobody's child
abbrev pub row_code : Option ℕ → ℕ
row_code None = 0
row_code (Some r) = r

-- the number of a state; 0 and 7 are kept for rows that are not attached
abbrev pub state_code : JobState → ℕ
state_code New = 1
state_code Active = 2
state_code Completing = 3
state_code Cancelling = 4
state_code Cancelled = 5
state_code Completed = 6

-- the number of a cause: 0 for a request, and one more than twice the row for a failure
abbrev pub cause_code : Cause → ℕ
cause_code because.None = 0
cause_code because.Request = 0
cause_code (because.Failure f) = 1 + 2 * f

-- the result in Completing and Completed, the cause in Cancelling and Cancelled
abbrev pub rest_of : JobState → ℕ → Cause → ℕ
rest_of New value cause = 0
rest_of Active value cause = 0
rest_of Completing value cause = value
rest_of Cancelling value cause = cause_code cause
rest_of Cancelled value cause = cause_code cause
rest_of Completed value cause = value

-- ---- words

-- the number of a Job word: bits 0 to 2, 3, 4 to 17, 18 to 31, 32 to 63
abbrev pub job_code : JobWord → ℕ
job_code w =
    state_code w.state + 8 * bit w.body_ended + 16 * w.first_child + 262144 * w.living + 4294967296 * w.rest

-- the number of a link word: bits 0 to 13, 14 to 27, 28 to 43, and 44, 45, 46, 47
abbrev pub link_code : LinkWord → ℕ
link_code w =
    w.parent + 16384 * w.next + 268435456 * w.tag
    + 17592186044416 * bit w.kind.supervisor + 35184372088832 * bit w.kind.scoped + 70368744177664 * bit w.kind.lazy
    + 140737488355328 * bit w.disclosed

-- the numbers of a Job word fit their bits
pub record IsNarrow (w : JobWord) : Type 0 where
  pub first_child : w.first_child < 16384
  pub living : w.living < 16384
  pub rest : w.rest < 4294967296

-- the numbers of a link word fit their bits
pub record IsNarrowLink (w : LinkWord) : Type 0 where
  pub parent : w.parent < 16384
  pub next : w.next < 16384
  pub tag : w.tag < 65536

-- ---- rows

-- the word of an attached Job
abbrev pub word_of : Job → JobWord
word_of j =
    record {
      state = j.state;
      body_ended = j.body_ended;
      first_child = row_code (newest j.children);
      living = length (living j);
      rest = rest_of j.state j.value j.cause;
    }

-- the link of a row, next being the child of its parent that was attached before it
abbrev pub link_word_of : Option ℕ → Job → LinkWord
link_word_of next j = record { parent = row_code j.parent; next = row_code next; tag = j.tag; kind = j.kind; disclosed = false }

-- a link word except for the hint that its row was disclosed
abbrev pub without_hint : LinkWord → LinkWord
without_hint w = record w { disclosed = false }

-- the link word of a child that is to be attached
abbrev pub new_link : ℕ → ℕ → ℕ → JobKind → LinkWord
new_link parent next tag kind = record { parent = parent; next = next; tag = tag; kind = kind; disclosed = false }

-- the word of a row, if it is attached
abbrev pub job_at : Tree → ℕ → Option JobWord
job_at tree r = option_map word_of (tree r)

-- the link word of a row, if it is attached
abbrev pub link_at : Tree → ℕ → Option LinkWord
link_at tree r = option_map (link_word_of (older_sibling tree r)) (tree r)

-- a child as it is attached
abbrev pub new_word : JobKind → Bool → JobWord
new_word kind cancelled =
    record { state = first_state cancelled kind.lazy; body_ended = false; first_child = 0; living = 0; rest = 0 }

-- the word of a Job that has a child more
abbrev pub with_newest : ℕ → JobWord → JobWord
with_newest r w = record w { first_child = r; living = w.living + 1 }

-- the result or cause after the body ended with v
abbrev pub rest_after_body : JobState → ℕ → ℕ → ℕ
rest_after_body New v old = old
rest_after_body Active v old = v
rest_after_body Completing v old = old
rest_after_body Cancelling v old = old
rest_after_body Cancelled v old = old
rest_after_body Completed v old = old

-- the word after the body ended with v
abbrev pub word_without_body : ℕ → JobWord → JobWord
word_without_body v w = record w { body_ended = true; state = state_after_body w.state; rest = rest_after_body w.state v w.rest }

-- the cause that a Cancelling Job's word has
abbrev pub cause_from : ℕ → Cause
cause_from n = if (n % 2) == 1 then because.Failure ((n / 2) % 65536) else because.Request

-- how a Job ends that has this word, if its body has ended
abbrev pub end_from : JobWord → JobState → Option End
end_from w New = None
end_from w Active = None
end_from w Completing = Some (ends.Completed w.rest)
end_from w Cancelling = Some (ends.Cancelled (cause_from w.rest))
end_from w Cancelled = None
end_from w Completed = None
