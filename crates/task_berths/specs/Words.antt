-- Takes, asks and leaves, and what they make of the word of a berth.
use Rattle.std.specs.Prelude.{◌≡◌, ℕ, zero, suc, ◌+◌, ◌*◌, ◌/◌, ◌==◌, List, [], ◌∷◌, ◌++◌, if◌then◌else◌}
use Rattle.task_berths.specs.declared.rule.BerthStep.{BerthStep}
use Rattle.task_berths.specs.declared.rule.BerthStep.TheVariants.{Take, Ask, Leave}

-- these steps are the first of those
abbrev pub Begins : List BerthStep → List BerthStep → Type 0
Begins seen log = (rest : List BerthStep) × (log ≡ seen ++ rest)

-- the word of a task that the seat of this number took
abbrev pub out_word : ℕ → ℕ
out_word number = 2 * (number + 1)

-- the word once its seat is asked; a task at home is not asked for
abbrev pub asked_word : ℕ → ℕ
asked_word zero = zero
asked_word (suc w) = suc (suc w / 2 * 2)

-- the word of the berth t, which was w, after one step
abbrev pub word_by : ℕ → ℕ → BerthStep → ℕ
word_by t w (Take u k) = if u == t then out_word k else w
word_by t w (Ask u) = if u == t then asked_word w else w
word_by t w (Leave u) = if u == t then 0 else w

-- and after these steps
abbrev pub word_after : ℕ → ℕ → List BerthStep → ℕ
word_after t w [] = w
word_after t w (e ∷ es) = word_after t (word_by t w e) es

-- what all steps so far make of the word of the berth t
abbrev pub word_of : ℕ → List BerthStep → ℕ
word_of t log = word_after t 0 log

-- how many takes are among the steps
abbrev pub takes_in : List BerthStep → ℕ
takes_in [] = 0
takes_in (Take u k ∷ es) = suc (takes_in es)
takes_in (Ask u ∷ es) = takes_in es
takes_in (Leave u ∷ es) = takes_in es
