-- The tags of the coroutines that may run, and how many Jobs there may be.
use Rattle.std.specs.Prelude.{◌≡◌, ℕ, ◌+◌, ◌*◌, ◌<◌, ◌==◌, zero, suc, List, [], ◌∷◌, ◌++◌, length, map, take, replicate, Option, Some, None, if◌then◌else◌, slice_get, slice_index_or}
use Rattle.std.specs.List.{flat_map}
use Rattle.std.specs.Str.{bytes_eq}
use lib.Chars.{codes}
use Rattle.script_grammar.specs.declared.instructions.Instruction.{Instruction}
use Rattle.script_grammar.specs.declared.instructions.Instruction.TheVariants.{Launch, Repeat, Each, Scope, Select, End}
use Rattle.script_grammar.specs.Programs.{Block, Program}
use Rattle.script_grammar.specs.Blocks.{without_end, product, but_first, launch_of}

-- ---- what lines launch

-- a list so many times over
abbrev pub times_over : ℕ → List ℕ → List ℕ
times_over zero blocks = []
times_over (suc n) blocks = blocks ++ times_over n blocks

-- what is launched in all, if the lines that are open end here: of each that opened others, the innermost first, how often
-- these run, and what was launched before them
abbrev pub closed_all : List (ℕ × List ℕ) → List ℕ → List ℕ
closed_all [] blocks = blocks
closed_all (o ∷ outer) blocks = closed_all outer (o.1 ++ times_over o.0 blocks)

-- what these lines launch within those that are open, if so much was launched since the innermost was opened
abbrev pub launched_from : List (ℕ × List ℕ) → List ℕ → List Instruction → List ℕ
launched_from outer blocks [] = closed_all outer blocks
launched_from outer blocks (Launch block how job ∷ code) = launched_from outer (blocks ++ block ∷ []) code
launched_from outer blocks (Repeat n ∷ code) = launched_from ((n, blocks) ∷ outer) [] code
launched_from outer blocks (Each c ∷ code) = launched_from ((without_end, blocks) ∷ outer) [] code
launched_from outer blocks (Scope supervisor ∷ code) = launched_from ((1, blocks) ∷ outer) [] code
launched_from outer blocks (Select ∷ code) = launched_from ((1, blocks) ∷ outer) [] code
launched_from [] blocks (End ∷ code) = launched_from [] blocks code
launched_from (o ∷ outer) blocks (End ∷ code) = launched_from outer (o.1 ++ times_over o.0 blocks) code
launched_from outer blocks (other ∷ code) = launched_from outer blocks code

-- the blocks that these lines launch, in the order in which they do, repeats counted
abbrev pub launched : List Instruction → List ℕ
launched code = launched_from [] [] code

-- ---- layouts

-- the blocks of all instances of these blocks and of what they launch, in order of tags, from the layouts of the blocks
abbrev pub laid_out : List (List ℕ) → List ℕ → List ℕ
laid_out layouts blocks = flat_map (λ b. slice_index_or layouts b []) blocks

-- the layouts of these blocks, after the layouts of the blocks before them: an instance stands first, then what it
-- launches, in that order
unfoldable pub layouts_from : List (List ℕ) → List Block → List (List ℕ)
layouts_from before [] = before
layouts_from before (b ∷ bs) = layouts_from (before ++ (length before ∷ laid_out before (launched b.code)) ∷ []) bs

abbrev pub layouts : List Block → List (List ℕ)
layouts blocks = layouts_from [] blocks

-- the number of tags of an instance of each block, with all that it launches
abbrev pub sizes_in : List Block → List ℕ
sizes_in blocks = map length (layouts blocks)

-- the number of tags of an instance of this block
abbrev pub size_in : List Block → ℕ → ℕ
size_in blocks block = length (slice_index_or (layouts blocks) block [])

-- ---- coroutines by their tags

-- the number of the first block of this name, if the first of these blocks has the number i
abbrev pub block_named : List ℕ → ℕ → List Block → Option ℕ
block_named name i [] = None
block_named name i (b ∷ bs) = if bytes_eq b.name name then Some i else block_named name (i + 1) bs

abbrev pub code_of_block : Option Block → List Instruction
code_of_block None = []
code_of_block (Some b) = b.code

-- the block of each of these spawns, as often as its count says
abbrev pub spawned_by : List (ℕ × ℕ) → List ℕ
spawned_by [] = []
spawned_by (s ∷ spawns) = replicate s.1 s.0 ++ spawned_by spawns

-- the block of each spawned instance, in order of tags
abbrev pub spawned : Program → List ℕ
spawned p = spawned_by p.spawns

-- main's instance, then instances of these blocks with all that they launch, then what main launches
abbrev pub tags_for : List Block → List ℕ → Option ℕ → List ℕ
tags_for blocks instances None = []
tags_for blocks instances (Some main) =
    main ∷ (laid_out (layouts blocks) instances ++ laid_out (layouts blocks) (launched (code_of_block (slice_get blocks main))))

-- the block of each tag
abbrev pub tags_of : Program → List ℕ
tags_of p = tags_for p.blocks (spawned p) (block_named (codes "main") 0 p.blocks)

-- the number of coroutines that may run
abbrev pub coroutine_count : Program → ℕ
coroutine_count p = length (tags_of p)

-- the block of a tag
abbrev pub block_of_tag : Program → ℕ → Option ℕ
block_of_tag p tag = slice_get (tags_of p) tag

abbrev pub code_at : Program → Option ℕ → List Instruction
code_at p None = []
code_at p (Some i) = code_of_block (slice_get p.blocks i)

-- the lines of the coroutine with this tag
abbrev pub code_of : Program → ℕ → List Instruction
code_of p tag = code_at p (block_of_tag p tag)

-- how many tags an instance of this block takes
abbrev pub size_of : Program → ℕ → ℕ
size_of p block = size_in p.blocks block

-- how many tags these instances take
abbrev pub sizes_of : Program → List ℕ → ℕ
sizes_of p [] = 0
sizes_of p (b ∷ bs) = size_of p b + sizes_of p bs

-- ---- who launches whom

-- the blocks of the instances that the coroutine with this tag launches, in order: main begins with what is spawned
abbrev pub launches_of : Program → ℕ → List ℕ
launches_of p tag = (if tag == 0 then spawned p else []) ++ launched (code_of p tag)

-- the coroutine k gives this tag to an instance that it launches: they follow its own tag, each with all that it launches
pub record LaunchesAt (p : Program) (k tag : ℕ) : Type 0 where
  -- so many instances it launches before
  pub before : ℕ
  pub one_more : before < length (launches_of p k)
  pub next : tag ≡ k + 1 + sizes_of p (take before (launches_of p k))

-- ---- sums, without the lists

-- how often the lines run that are open after this one, the innermost first; those of a select run once
abbrev pub nest_with : List ℕ → Instruction → List ℕ
nest_with nest (Repeat n) = n ∷ nest
nest_with nest (Each c) = without_end ∷ nest
nest_with nest (Scope supervisor) = 1 ∷ nest
nest_with nest Select = 1 ∷ nest
nest_with nest End = but_first nest
nest_with nest other = nest

-- what an instance of this block counts, if there is one
abbrev pub counted : (ℕ → ℕ) → Option ℕ → ℕ
counted count None = 0
counted count (Some block) = count block

-- what all counts that lines launch within lines that run so often, where an instance of each block counts so much
abbrev pub launches_from : (ℕ → ℕ) → List ℕ → List Instruction → ℕ
launches_from count nest [] = 0
launches_from count nest (x ∷ code) = product nest * counted count (launch_of x) + launches_from count (nest_with nest x) code

-- ---- Jobs

-- how many scopes a line enters that runs once
abbrev pub scopes_entered : Instruction → ℕ
scopes_entered (Scope supervisor) = 1
scopes_entered other = 0

-- how many scopes lines enter within lines that run so often
abbrev pub scopes_from : List ℕ → List Instruction → ℕ
scopes_from nest [] = 0
scopes_from nest (x ∷ code) = product nest * scopes_entered x + scopes_from (nest_with nest x) code

-- how many scopes the lines of this block enter
abbrev pub scopes_of : Program → ℕ → ℕ
scopes_of p block = scopes_from [] (code_of_block (slice_get p.blocks block))

-- how many scopes these instances enter, except for what they launch
abbrev pub scopes_of_all : Program → List ℕ → ℕ
scopes_of_all p [] = 0
scopes_of_all p (b ∷ bs) = scopes_of p b + scopes_of_all p bs

-- how many scopes may be entered in all
abbrev pub scope_count : Program → ℕ
scope_count p = scopes_of_all p (tags_of p)

-- how many Jobs there may be: one of each coroutine and one of each scope
abbrev pub job_count : Program → ℕ
job_count p = coroutine_count p + scope_count p
