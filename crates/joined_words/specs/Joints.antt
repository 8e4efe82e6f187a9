-- Two histories in one: a list of entries of either, over words that stay 0, the words of the first, and those of the second.
use Rattle.std.specs.Prelude.{◌≡◌, ℕ, ◌+◌, ◌<◌, List}
use mathlib.Core.Option.{Option, some, none}
use Rattle.either.specs.declared.Either.{Either}
use Rattle.either.specs.declared.Either.TheVariants.{Left, Right}
use Rattle.joined_words.specs.Parts.{Part, entries_in, tag_in}

module _ {E F : Type 0} where
  -- an entry of the first history
  abbrev pub first_of : Either E F → Option E
  first_of (Left e) = some e
  first_of (Right f) = none

  -- an entry of the second history
  abbrev pub second_of : Either E F → Option F
  second_of (Left e) = none
  second_of (Right f) = some f

  -- who made it: the tags of the first are the even ones
  abbrev pub joint_who : (E → ℕ) → (F → ℕ) → Either E F → ℕ
  joint_who who who' (Left e) = tag_in 0 (who e)
  joint_who who who' (Right f) = tag_in 1 (who' f)

-- how many words stay 0: a line of the cache, so that a look at the first of them does not wait for who writes the next
abbrev pub quiet_words : ℕ
quiet_words = 8

-- how many words
abbrev pub joint_size : {K L : Type 0} → (K → ℕ) → (L → ℕ) → K × L → ℕ
joint_size size size' k = (quiet_words + size k.0) + size' k.1

module _ {E K F L : Type 0} where
  -- legal exactly if each history is
  abbrev pub IsJointLegal : (K → List E → Type 0) → (L → List F → Type 0) → K × L → List (Either E F) → Type 0
  IsJointLegal legal legal' k log = legal k.0 (entries_in first_of log) × legal' k.1 (entries_in second_of log)

  -- the word i may be n
  pub record JointFits (fits : K → List E → ℕ → ℕ → Type 0) (size : K → ℕ) (fits' : L → List F → ℕ → ℕ → Type 0) (size' : L → ℕ)
      (k : K × L) (log : List (Either E F)) (i n : ℕ) : Type 0 where
    pub quiet : i < quiet_words → n ≡ 0
    pub first : (j : ℕ) → j < size k.0 → i ≡ quiet_words + j → fits k.0 (entries_in first_of log) j n
    pub second : (j : ℕ) → j < size' k.1 → i ≡ (quiet_words + size k.0) + j → fits' k.1 (entries_in second_of log) j n

  -- the first history and its words
  abbrev pub first_part : Part (Either E F) (K × L) E K
  first_part = record { key_of = λ k. k.0; read = first_of; first = λ k. quiet_words; place = 0 }

  -- the second history and its words
  abbrev pub second_part : (K → ℕ) → Part (Either E F) (K × L) F L
  second_part size = record { key_of = λ k. k.1; read = second_of; first = λ k. quiet_words + size k.0; place = 1 }
