-- How many places of all channels have an element, and one of which fate.
use Rattle.std.specs.Prelude.{◌≡◌, ℕ, ◌==◌, Bool, true, ◌&&◌, cond, List, length, is_some}
use Rattle.std.specs.List.{list_all}
use Rattle.channel_model.specs.declared.acts.Act.{Act}
use Rattle.channel_model.specs.declared.acts.Fate.{Fate}
use Rattle.channel_model.specs.declared.acts.Fate.TheVariants as fate
use Rattle.channel_model.specs.Channels.{Shape, places_at, is_signal}
use Rattle.channel_model.specs.Fates.{element_at, fate_at}
use Rattle.tally_laws.specs.Counts.{Counts, elements, received, undelivered, dropped, spurned, withdrawn, held}
use Rattle.tally_laws.specs.Sums.{sum_places}

-- a number for each fate
abbrev pub number_of : Fate → ℕ
number_of fate.Received = 0
number_of fate.Undelivered = 1
number_of fate.Dropped = 2
number_of fate.Spurned = 3
number_of fate.Withdrawn = 4
number_of fate.Held = 5

-- the place has an element
abbrev pub has_element : List Act → ℕ → ℕ → Bool
has_element acts c p = is_some (element_at c p acts)

-- the place has an element, and this became of it
abbrev pub has_fate : Fate → List Act → ℕ → ℕ → Bool
has_fate f acts c p = has_element acts c p && (number_of (fate_at c p acts) == number_of f)

-- how many places of all channels pass the test
abbrev pub places_where : Shape → (ℕ → ℕ → Bool) → ℕ
places_where shape test = sum_places (length shape) (places_at shape) (λ c p. cond (test c p) 1 0)

-- each of these is a signal, which carries no element
abbrev pub AreSignals : Shape → Type 0
AreSignals shape = list_all (λ x. is_signal x.0) shape ≡ true

-- so many elements are there as the counts say, and this became of so many
pub record AreFatesOf (shape : Shape) (acts : List Act) (n : Counts) : Type 0 where
  pub elements : places_where shape (has_element acts) ≡ elements n
  pub received : places_where shape (has_fate fate.Received acts) ≡ received n
  pub undelivered : places_where shape (has_fate fate.Undelivered acts) ≡ undelivered n
  pub dropped : places_where shape (has_fate fate.Dropped acts) ≡ dropped n
  pub spurned : places_where shape (has_fate fate.Spurned acts) ≡ spurned n
  pub withdrawn : places_where shape (has_fate fate.Withdrawn acts) ≡ withdrawn n
  pub held : places_where shape (has_fate fate.Held acts) ≡ held n
