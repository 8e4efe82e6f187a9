-- What the word of a berth says of the steps so far: who took the task last, and whether it was asked since.
use Rattle.std.specs.Prelude.{◌≡◌, ◌⊎◌, ℕ, suc, ◌==◌, Bool, true, false, List, [], ◌∷◌, ◌++◌, if◌then◌else◌}
use Rattle.task_berths.specs.declared.rule.BerthStep.{BerthStep}
use Rattle.task_berths.specs.declared.rule.BerthStep.TheVariants.{Take, Ask, Leave}
use Rattle.task_berths.specs.Words.{out_word}

-- the task t was taken or came home in one of these steps
abbrev pub is_moved : ℕ → List BerthStep → Bool
is_moved t [] = false
is_moved t (Take u k ∷ es) = if u == t then true else is_moved t es
is_moved t (Ask u ∷ es) = is_moved t es
is_moved t (Leave u ∷ es) = if u == t then true else is_moved t es

-- the seat that has it was asked in one of these
abbrev pub is_asked : ℕ → List BerthStep → Bool
is_asked t [] = false
is_asked t (Take u k ∷ es) = is_asked t es
is_asked t (Ask u ∷ es) = if u == t then true else is_asked t es
is_asked t (Leave u ∷ es) = is_asked t es

-- the task never was taken, or it came home and was not taken since
abbrev pub CameHome : ℕ → List BerthStep → Type 0
CameHome t log =
    (is_moved t log ≡ false)
    ⊎ ((before : List BerthStep) × (after : List BerthStep) × (log ≡ before ++ Leave t ∷ after) × (is_moved t after ≡ false))

-- the seat k took the task and has it still; and whether it was asked since
pub record IsWith (t k : ℕ) (asked : Bool) (log : List BerthStep) : Type 0 where
  pub before : List BerthStep
  pub after : List BerthStep
  pub taken : log ≡ before ++ Take t k ∷ after
  pub still : is_moved t after ≡ false
  pub asks : asked ≡ is_asked t after

-- the word is 0 for a task that came home, and else has the number of its seat, and whether that was asked
abbrev pub SaysWhere : ℕ → List BerthStep → ℕ → Type 0
SaysWhere t log word =
    ((word ≡ 0) × CameHome t log)
    ⊎ ((k : ℕ) × (asked : Bool) × (word ≡ (if asked then suc (out_word k) else out_word k)) × IsWith t k asked log)
