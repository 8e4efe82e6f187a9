-- A program written out.
use Rattle.std.specs.Prelude.{ℕ, ◌==◌, List, [], ◌∷◌, ◌++◌, map, true, if◌then◌else◌}
use lib.Chars.{codes}
use Rattle.script_grammar.specs.declared.instructions.Instruction.{Instruction}
use Rattle.script_grammar.specs.Words.{indented, unlines}
use Rattle.script_grammar.specs.Programs.{Block, Program, channel_names, block_names, name_of}
use Rattle.script_grammar.specs.Lines.{Names, version_words, channel_words, coroutine_words, spawn_words, line_words}
use Rattle.script_grammar.specs.Blocks.{is_end}
use Rattle.script_grammar.specs.Nesting.{one_less, depth_after}

-- ---- the canonical lines: the version, then channels, then coroutines, then spawns, with all parts

-- the first line of a script of version 2
abbrev pub version_lines : ℕ → List (List (List ℕ))
version_lines version = if version == 2 then version_words ∷ [] else []

-- a coroutine's lines, with these names of channels and blocks
abbrev pub block_lines : List (List ℕ) → List (List ℕ) → Block → List (List (List ℕ))
block_lines channels blocks b =
    coroutine_words b.name
    ∷ (map (line_words (record { channels = channels; blocks = blocks; jobs = b.jobs })) b.code
    ++ (codes "end" ∷ []) ∷ [])

abbrev pub blocks_lines : List (List ℕ) → List (List ℕ) → List Block → List (List (List ℕ))
blocks_lines channels blocks [] = []
blocks_lines channels blocks (b ∷ bs) = block_lines channels blocks b ++ blocks_lines channels blocks bs

-- the words of each line
abbrev pub canonical : Program → List (List (List ℕ))
canonical p =
    version_lines p.version
    ++ (map (λ c. channel_words c true true) p.channels
    ++ (blocks_lines (channel_names p.channels) (block_names p.blocks) p.blocks
    ++ map (λ s. spawn_words (name_of (block_names p.blocks) s.0) s.1 true) p.spawns))

-- ---- how deep each line stands

-- an end stands as deep as the line whose lines it closes
abbrev pub depth_of : ℕ → Instruction → ℕ
depth_of depth x = if is_end x then one_less depth else depth

-- these lines, the first of which stands so deep
abbrev pub code_lines : Names → ℕ → List Instruction → List (ℕ × List (List ℕ))
code_lines names depth [] = []
code_lines names depth (x ∷ code) = (depth_of depth x, line_words names x) ∷ code_lines names (depth_after x depth) code

-- lines outside blocks
abbrev pub flat : List (List (List ℕ)) → List (ℕ × List (List ℕ))
flat lines = map (λ words. (0, words)) lines

-- a coroutine's lines, each with its depth
abbrev pub deep_block : List (List ℕ) → List (List ℕ) → Block → List (ℕ × List (List ℕ))
deep_block channels blocks b =
    (0, coroutine_words b.name)
    ∷ (code_lines (record { channels = channels; blocks = blocks; jobs = b.jobs }) 1 b.code
    ++ (0, codes "end" ∷ []) ∷ [])

abbrev pub deep_blocks : List (List ℕ) → List (List ℕ) → List Block → List (ℕ × List (List ℕ))
deep_blocks channels blocks [] = []
deep_blocks channels blocks (b ∷ bs) = deep_block channels blocks b ++ deep_blocks channels blocks bs

-- the canonical lines, each with its depth
abbrev pub deep_lines : Program → List (ℕ × List (List ℕ))
deep_lines p =
    flat (version_lines p.version)
    ++ (flat (map (λ c. channel_words c true true) p.channels)
    ++ (deep_blocks (channel_names p.channels) (block_names p.blocks) p.blocks
    ++ flat (map (λ s. spawn_words (name_of (block_names p.blocks) s.0) s.1 true) p.spawns)))

-- two spaces for each level, one between words, and a line feed after each line
abbrev pub canonical_text : Program → List ℕ
canonical_text p = unlines (map (λ l. indented l.0 l.1) (deep_lines p))
