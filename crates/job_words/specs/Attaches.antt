-- What the parts of an attach come to.
use Rattle.std.specs.Prelude.{◌≡◌, ℕ, ◌*◌, ◌<◌, ◌≤◌, Bool, true, false, [], ◌∷◌, length, Option, Some, None, Result, Ok, Err, is_some}
use Rattle.job_model.specs.declared.acts.JobKind.{JobKind}
use Rattle.job_model.specs.declared.acts.JobAct.{JobAct}
use Rattle.job_model.specs.declared.acts.JobAct.TheVariants.{Attach}
use Rattle.job_model.specs.declared.floor.AttachError.{AttachError}
use Rattle.job_model.specs.declared.floor.AttachError.TheVariants.{NoRow, Used, ParentEnded}
use Rattle.job_model.specs.Needs.{IsRowFor}
use Rattle.job_model.specs.Families.{IsEnded}
use Rattle.word_rules.specs.declared.job_word.JobWord.{JobWord}
use Rattle.word_rules.specs.declared.size.ForestSize.{ForestSize}
use Rattle.word_rules.specs.declared.deed.Deed.TheVariants.{Act}
use Rattle.job_words.specs.declared.tried.Tried.{Tried}
use Rattle.job_words.specs.declared.tried.Tried.TheVariants.{Attached, Ended, Lost}
use Rattle.word_rules.specs.Rows.{job_code, IsNarrow}
use Rattle.word_rules.specs.Deeds.{shape_of, history_of, store_of, job_word, AreClaimedBelow}
use Rattle.job_words.specs.Passes.{Seen, Goes, Does, IsMine}

-- the row was seen claimed
abbrev pub IsClaimed : Seen → ℕ → Type 0
IsClaimed v r = is_some ((store_of v.seen).claimer r) ≡ true

-- the row was seen attached
abbrev pub IsAttached : Seen → ℕ → Type 0
IsAttached v r = is_some ((store_of v.seen).tree r) ≡ true

-- the row is now the caller's, with no link word and no Job word yet; or somebody has claimed it
abbrev pub ClaimAnswer : ℕ → ℕ → Seen → Seen → Bool → Type 0
ClaimAnswer who row v w true = Goes who (row ∷ []) v w × IsMine who row 0 7 (store_of w.seen)
ClaimAnswer who row v w false = Goes who [] v w × IsClaimed w row

-- all rows for scopes were seen claimed
abbrev pub AllScopesClaimed : ForestSize → Seen → Type 0
AllScopesClaimed size v = AreClaimedBelow size (store_of v.seen) size.rows

-- such a row for a scope; or all of them are claimed
abbrev pub ScopeAnswer : ForestSize → ℕ → Seen → Seen → Option ℕ → Type 0
ScopeAnswer size who v w None = Goes who [] v w × AllScopesClaimed size w
ScopeAnswer size who v w (Some row) =
    ClaimAnswer who row v w true × (size.coroutines ≤ row) × (row < size.rows)

-- a row for the child was claimed, which has no words yet
pub record HasRow (size : ForestSize) (who : ℕ) (kind : JobKind) (tag row : ℕ) (v w : Seen) : Type 0 where
  pub goes : Goes who (row ∷ []) v w
  pub mine : IsMine who row 0 7 (store_of w.seen)
  pub row_for : IsRowFor (shape_of size) who kind tag row
  pub within : row < size.rows

-- a row for the child; or why there is none
abbrev pub RowAnswer : ForestSize → ℕ → JobKind → ℕ → Seen → Seen → Result ℕ AttachError → Type 0
RowAnswer size who kind tag v w (Ok row) = HasRow size who kind tag row v w
RowAnswer size who kind tag v w (Err NoRow) = Goes who [] v w × (kind.scoped ≡ true) × AllScopesClaimed size w
RowAnswer size who kind tag v w (Err Used) = Goes who [] v w × (kind.scoped ≡ false) × IsClaimed w tag
RowAnswer size who kind tag v w (Err ParentEnded) = ⊥

-- the history has grown
abbrev pub Grew : Seen → Seen → Type 0
Grew v w = length (history_of v.seen) < length (history_of w.seen)

-- who lost a try: it made no act, and the history has grown
pub record HasLost (who : ℕ) (v w : Seen) : Type 0 where
  pub goes : Goes who [] v w
  pub grew : Grew v w

-- who made the act as the last step, if the Job word of the row was old
pub record ActedNow (who row : ℕ) (old : JobWord) (act : JobAct) (v w : Seen) : Type 0 where
  pub before : Seen
  pub goes : Goes who [] v before
  pub does : Does who (Act (record { who = who; act = act })) (2 * row) (job_code old) before w

-- who attached the row as the last step
abbrev pub AttachedNow : ℕ → ℕ → JobKind → ℕ → ℕ → Bool → Seen → Seen → Type 0
AttachedNow who parent kind tag row cancelled v w =
    (old : JobWord) × ActedNow who parent old (Attach parent row kind tag cancelled) v w

-- it attached the row, or the parent had ended, or it lost and these words are stored now
abbrev pub TriedAnswer : ℕ → ℕ → JobKind → ℕ → ℕ → Seen → Seen → Tried → Type 0
TriedAnswer who parent kind tag row v w (Attached cancelled) = AttachedNow who parent kind tag row cancelled v w
TriedAnswer who parent kind tag row v w Ended = Goes who [] v w × IsEnded ((store_of w.seen).tree parent)
TriedAnswer who parent kind tag row v w (Lost link job) = HasLost who v w × IsMine who row link job (store_of w.seen)

-- it attached the row, or the parent had ended
abbrev pub DisclosedAnswer : ℕ → ℕ → JobKind → ℕ → ℕ → Seen → Seen → Option Bool → Type 0
DisclosedAnswer who parent kind tag row v w (Some cancelled) = AttachedNow who parent kind tag row cancelled v w
DisclosedAnswer who parent kind tag row v w None = Goes who [] v w × IsEnded ((store_of w.seen).tree parent)

-- the row's Job word that was seen last
pub record IsWord (v : Seen) (row : ℕ) (w : JobWord) : Type 0 where
  pub narrow : IsNarrow w
  pub is : job_code w ≡ job_word (store_of v.seen) row
