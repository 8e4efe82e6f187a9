-- What a look at a row saw.
use Rattle.std.specs.Prelude.{◌≡◌, ℕ, ◌==◌, Bool, true, false, [], Option, Some, None, if◌then◌else◌}
use Rattle.job_model.specs.declared.acts.JobKind.{JobKind}
use Rattle.job_model.specs.declared.acts.Cause.{Cause}
use Rattle.job_model.specs.declared.acts.Cause.TheVariants as because
use Rattle.job_model.specs.declared.floor.JobView.{JobView}
use Rattle.job_model.specs.Trees.{is_among, is_cancelled, kind_of}
use Rattle.job_model.specs.Families.{children_of}
use Rattle.word_rules.specs.declared.job_word.JobWord.{JobWord}
use Rattle.word_rules.specs.Rows.{cause_from}
use Rattle.word_rules.specs.Deeds.{store_of, is_valued}
use Rattle.job_words.specs.Passes.{Seen, Goes}
use Rattle.job_words.specs.Attaches.{IsAttached}

-- the row was no child of the parent when v was seen
abbrev pub IsNoChild : Seen → ℕ → ℕ → Type 0
IsNoChild v parent row = is_among row (children_of ((store_of v.seen).tree parent)) ≡ false

-- whether the row was a child of the parent when that was seen
abbrev pub WalkAnswer : ℕ → ℕ → ℕ → Seen → Seen → Bool → Type 0
WalkAnswer who parent row v w true = Goes who [] v w × IsAttached w row
WalkAnswer who parent row v w false = (m : Seen) × Goes who [] v m × Goes who [] m w × IsNoChild m parent row

-- the cause in a word of a cancelled Job
abbrev pub cause_in : Bool → ℕ → Cause
cause_in true n = cause_from n
cause_in false n = because.None

-- a row, 0 for none
abbrev pub row_from : ℕ → Option ℕ
row_from n = if n == 0 then None else Some n

-- the result in a word that has one
abbrev pub value_in : Bool → ℕ → ℕ
value_in true n = n
value_in false n = 0

-- the view that a Job word and a kind give
abbrev pub view_from : JobWord → JobKind → JobView
view_from w kind =
    record {
      state = w.state;
      kind = kind;
      cause = cause_in (is_cancelled w.state) w.rest;
      body_ended = w.body_ended;
      living = w.living;
      first_child = row_from w.first_child;
      value = value_in (is_valued w.state) w.rest;
    }

-- the kind of the row at the end of the call; or a moment of the call at which the row was not attached
abbrev pub KindAnswer : ℕ → ℕ → Seen → Seen → Option JobKind → Type 0
KindAnswer who row v w (Some kind) = Goes who [] v w × (kind_of ((store_of w.seen).tree row) ≡ Some kind)
KindAnswer who row v w None = (m : Seen) × Goes who [] v m × Goes who [] m w × ((store_of m.seen).tree row ≡ None)
