-- What each program declares before it is named.
use Rattle.std.specs.Prelude.{◌≡◌, ℕ, ◌+◌, ◌==◌, ◌&&◌, nat_lt, Bool, true, List, [], ◌∷◌, length, Option, Some, None, is_some}
use Rattle.std.specs.List.{list_all}
use lib.Chars.{codes}
use Rattle.script_grammar.specs.declared.instructions.Instruction.{Instruction}
use Rattle.script_grammar.specs.Programs.{Block, Program}
use Rattle.script_grammar.specs.Blocks.{channel_of, launch_of, job_used, job_given}
use Rattle.script_grammar.specs.Tags.{launched, spawned, block_named}

-- a number below n, if there is one
abbrev pub is_below : ℕ → Option ℕ → Bool
is_below n None = true
is_below n (Some i) = nat_lt i n

-- the line names no channel, or one of the n that are declared
abbrev pub names_channel : ℕ → Instruction → Bool
names_channel n x = is_below n (channel_of x)

-- how many Job names there are after a line that follows on n: it gives the next one, or none
abbrev pub jobs_after_name : ℕ → Option ℕ → ℕ
jobs_after_name n None = n
jobs_after_name n (Some job) = n + 1

abbrev pub is_next_job : ℕ → Option ℕ → Bool
is_next_job n None = true
is_next_job n (Some job) = job == n

-- after n Job names, each line that names its Job gives the next name, and each that uses one uses one that was given
abbrev pub knows_jobs : ℕ → List Instruction → Bool
knows_jobs n [] = true
knows_jobs n (x ∷ code) =
    is_below n (job_used x) && (is_next_job n (job_given x) && knows_jobs (jobs_after_name n (job_given x)) code)

-- how many Job names there are after these lines, which follow on n
abbrev pub jobs_after : ℕ → List Instruction → ℕ
jobs_after n [] = n
jobs_after n (x ∷ code) = jobs_after (jobs_after_name n (job_given x)) code

-- the line launches no block, or one below n
abbrev pub launch_below : ℕ → Instruction → Bool
launch_below n x = is_below n (launch_of x)

-- the lines of the block numbered i name only blocks before it to be launched, and so on
abbrev pub targets_back : ℕ → List Block → Bool
targets_back i [] = true
targets_back i (b ∷ bs) = list_all (launch_below i) b.code && targets_back (i + 1) bs

-- all of these are below n
abbrev pub all_below : ℕ → List ℕ → Bool
all_below n is = list_all (λ i. nat_lt i n) is

-- and launch only these, repeats counted
abbrev pub launch_back : ℕ → List Block → Bool
launch_back i [] = true
launch_back i (b ∷ bs) = all_below i (launched b.code) && launch_back (i + 1) bs

-- the block gives as many Job names as it has
abbrev pub names_its_jobs : Block → Bool
names_its_jobs b = jobs_after 0 b.code == length b.jobs

-- what lines and spawns name is declared, what a block launches stands before it, and there is a main
pub record Declares (p : Program) : Type 0 where
  pub channels : list_all (λ b. list_all (names_channel (length p.channels)) b.code) p.blocks ≡ true
  pub jobs : list_all (λ b. knows_jobs 0 b.code) p.blocks ≡ true
  pub names : list_all names_its_jobs p.blocks ≡ true
  pub targets : targets_back 0 p.blocks ≡ true
  pub launches : launch_back 0 p.blocks ≡ true
  pub spawns : all_below (length p.blocks) (spawned p) ≡ true
  pub main : is_some (block_named (codes "main") 0 p.blocks) ≡ true
