-- What holds of each program that a text spells.
use Rattle.std.specs.Prelude.{◌≡◌, ℕ, ◌+◌, ◌≤◌, ◌&&◌, not, is_some, nat_le, List, [], ◌∷◌, ◌++◌, length, Bool, true, Option, Some, None, option_map}
use Rattle.std.specs.List.{list_all}
use Rattle.script_grammar.specs.declared.instructions.Instruction.{Instruction}
use Rattle.script_grammar.specs.Words.{has_items}
use Rattle.script_grammar.specs.Programs.{Block, Program, channel_names, block_names, name_of, places_in}
use Rattle.script_grammar.specs.Blocks.{Open, opened, with_line, stands, fits, job_given}
use Rattle.script_grammar.specs.Reads.{closed_main, spawned_weight}
use Rattle.script_grammar.specs.Grammar.{is_fresh, names_job, is_declared, is_spawn, has_main}

-- ---- one block

-- the name that a line gives, of the names of its block
abbrev pub name_given : List (List ℕ) → Instruction → Option (List ℕ)
name_given jobs x = option_map (name_of jobs) (job_given x)

-- a select that is open has at most 7 clauses
abbrev pub few_clauses : Option (List ℕ) → Bool
few_clauses None = true
few_clauses (Some cs) = nat_le (length cs) 7

-- the limits of an open block
abbrev pub is_within : Open → Bool
is_within b = nat_le (length b.nest) 8 && (few_clauses b.clauses && nat_le b.weight 16000)

-- nothing is open, and all names are given
abbrev pub is_done : List (List ℕ) → Open → Bool
is_done jobs b = not (has_items b.nest) && (not (is_some b.clauses) && nat_le (length jobs) (length b.jobs))

-- a line may stand next in an open block, after n channels and blocks of these names
abbrev pub line_fits : ℕ → List (List ℕ) → Open → Instruction → Option (List ℕ) → Bool
line_fits n blocks b x job = stands b.clauses b.nest x && (fits n blocks b x && names_job b.jobs (job_given x) job)

-- the rest of a block's lines fit, after n channels and blocks of these names and weights
abbrev pub lines_fit : ℕ → List (List ℕ) → List ℕ → List (List ℕ) → Open → List Instruction → Bool
lines_fit n blocks weights jobs b [] = is_done jobs b
lines_fit n blocks weights jobs b (x ∷ code) =
    line_fits n blocks b x (name_given jobs x)
    && (is_within (with_line weights x (name_given jobs x) b)
    && lines_fit n blocks weights jobs (with_line weights x (name_given jobs x) b) code)

-- ---- weights

-- the open block after these lines
abbrev pub with_lines : List ℕ → List (List ℕ) → Open → List Instruction → Open
with_lines weights jobs b [] = b
with_lines weights jobs b (x ∷ code) = with_lines weights jobs (with_line weights x (name_given jobs x) b) code

-- a block's weight, after blocks of these weights
abbrev pub weight_in : List ℕ → Block → ℕ
weight_in weights b = (with_lines weights b.jobs (opened b.name) b.code).weight

-- the weights of these blocks, after blocks of these weights
abbrev pub weights_from : List ℕ → List Block → List ℕ
weights_from weights [] = weights
weights_from weights (b ∷ bs) = weights_from (weights ++ weight_in weights b ∷ []) bs

-- the weight of main, and of all spawned instances
abbrev pub whole_load : Program → ℕ
whole_load p = closed_main p.blocks (weights_from [] p.blocks) + spawned_weight (weights_from [] p.blocks) p.spawns

-- ---- all blocks

-- each block has a name of its own, and its lines fit, after n channels and blocks of these names and weights
abbrev pub blocks_fit : ℕ → List (List ℕ) → List ℕ → List Block → Bool
blocks_fit n before weights [] = true
blocks_fit n before weights (b ∷ bs) =
    is_fresh before b.name
    && (lines_fit n before weights b.jobs (opened b.name) b.code
    && blocks_fit n (before ++ b.name ∷ []) (weights ++ weight_in weights b ∷ []) bs)

-- each of these names is fresh after those before it
abbrev pub all_fresh : List (List ℕ) → List (List ℕ) → Bool
all_fresh before [] = true
all_fresh before (name ∷ names) = is_fresh before name && all_fresh (before ++ name ∷ []) names

-- the version is 1 or 2, names are formed and distinct, numbers lie in their ranges, what is named is declared, lines stand where they
-- may, there is a main, and the counts are within the limits
pub record IsProgram (p : Program) : Type 0 where
  pub version : (nat_le 1 p.version && nat_le p.version 2) ≡ true
  pub few_channels : length p.channels ≤ 256
  pub channel_names : all_fresh [] (channel_names p.channels) ≡ true
  pub channels : list_all (is_declared p.version) p.channels ≡ true
  pub few_places : places_in p.channels ≤ 4194304
  pub blocks : blocks_fit (length p.channels) [] [] p.blocks ≡ true
  pub main : has_main p.blocks ≡ true
  pub spawns : list_all (is_spawn (block_names p.blocks)) p.spawns ≡ true
  pub load : whole_load p ≤ 16000
