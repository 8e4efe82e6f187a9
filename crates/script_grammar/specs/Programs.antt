-- What a script says.
use Rattle.std.specs.Prelude.{ℕ, ◌+◌, List, [], ◌∷◌, map, get_or}
use Rattle.channel_model.specs.declared.acts.Kind.{Kind}
use Rattle.channel_model.specs.Channels.{Shape}
use Rattle.script_grammar.specs.declared.instructions.Instruction.{Instruction}

-- a channel's name, kind and number of places
pub record Declared : Type 0 where
  pub name : List ℕ
  pub kind : Kind
  pub places : ℕ

-- a coroutine's name, the names of its Jobs, and its lines but the last
pub record Block : Type 0 where
  pub name : List ℕ
  -- in the order of the lines that give them
  pub jobs : List (List ℕ)
  pub code : List Instruction

-- what a script says: its version, its channels, its coroutines, and of each spawn the coroutine and how many instances it has
pub record Program : Type 0 where
  pub version : ℕ
  pub channels : List Declared
  pub blocks : List Block
  pub spawns : List (ℕ × ℕ)

abbrev pub channel_names : List Declared → List (List ℕ)
channel_names cs = map (λ c. c.name) cs

abbrev pub block_names : List Block → List (List ℕ)
block_names bs = map (λ b. b.name) bs

-- the name of this number
abbrev pub name_of : List (List ℕ) → ℕ → List ℕ
name_of names i = get_or names i []

-- how many places these channels have together
abbrev pub places_in : List Declared → ℕ
places_in [] = 0
places_in (c ∷ cs) = c.places + places_in cs

-- the kinds and places of the channels
abbrev pub shape_of : Program → Shape
shape_of p = map (λ c. (c.kind, c.places)) p.channels
