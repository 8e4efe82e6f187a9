-- What a line of a program names is declared.
use Rattle.std.proofs.Common.{◌≡◌, ℕ, ◌+◌, ◌<◌, ◌≤◌, List, [], ◌∷◌, ◌++◌, refl, ap, sym, ◌∙◌, arith, Bool, true, false, Option, Some, None, length, nat_lt, length-append, if◌then◌else◌, replicate, zero, suc}
use Rattle.std.specs.Prelude.{◌==◌, ◌||◌, is_some, option_map}
use Rattle.std.specs.List.{list_all}
use Rattle.std.proofs.lemmas.List.{length-map}
use lib.Chars.{codes}
use Rattle.script_grammar.specs.declared.instructions.Instruction.{Instruction}
use Rattle.script_grammar.specs.declared.instructions.Instruction.TheVariants.{Send, TrySend, Receive, TryReceive, Close, CancelChannel, Yield, Launch, Start, Join, Await, Cancel, Fail, SetResult, Repeat, Each, Scope, Select, OnSend, OnReceive, End}
use Rattle.script_grammar.specs.Programs.{Block, Program, block_names, name_of}
use Rattle.script_grammar.specs.Blocks.{Open, opened, with_line, fits, is_main, job_given, job_used, launch_of, listed, without_end}
use Rattle.script_grammar.specs.Grammar.{names_job, is_spawn, has_main}
use Rattle.script_grammar.specs.WellFormed.{name_given, lines_fit, blocks_fit, weight_in, IsProgram}
use Rattle.script_grammar.specs.Tags.{times_over, closed_all, launched_from, launched, spawned_by, spawned, block_named}
use Rattle.script_grammar.specs.Declarations.{is_below, names_channel, jobs_after_name, is_next_job, knows_jobs, jobs_after, launch_below, targets_back, all_below, launch_back, names_its_jobs, Declares}
use Rattle.script_grammar.proofs.BlocksPrinted.{after_all}
use Rattle.script_grammar.proofs.Truths.{both, both_true, le-from_true, same-from_true, same-true}

-- ---- one line

pub fits-channel : (n : ℕ) (blocks : List (List ℕ)) (b : Open) (x : Instruction) → fits n blocks b x ≡ true → names_channel n x ≡ true
fits-channel n blocks b (Send c v) h = (both_true (nat_lt c n) _ h).0
fits-channel n blocks b (TrySend c v) h = (both_true (nat_lt c n) _ h).0
fits-channel n blocks b (Receive c) h = h
fits-channel n blocks b (TryReceive c) h = h
fits-channel n blocks b (Close c) h = h
fits-channel n blocks b (CancelChannel c) h = h
fits-channel n blocks b (Each c) h = h
fits-channel n blocks b (OnSend c v) h = (both_true (nat_lt c n) _ h).0
fits-channel n blocks b (OnReceive c) h = (both_true (nat_lt c n) _ h).0
fits-channel n blocks b other h = refl

pub fits-job : (n : ℕ) (blocks : List (List ℕ)) (b : Open) (x : Instruction) → fits n blocks b x ≡ true
    → is_below (length b.jobs) (job_used x) ≡ true
fits-job n blocks b (Send c v) h = refl
fits-job n blocks b (TrySend c v) h = refl
fits-job n blocks b (Receive c) h = refl
fits-job n blocks b (TryReceive c) h = refl
fits-job n blocks b (Close c) h = refl
fits-job n blocks b (CancelChannel c) h = refl
fits-job n blocks b Yield h = refl
fits-job n blocks b (Launch p how job) h = refl
fits-job n blocks b (Start j) h = h
fits-job n blocks b (Join j) h = h
fits-job n blocks b (Await j) h = (both_true (nat_lt j (length b.jobs)) _ h).0
fits-job n blocks b (Cancel j) h = h
fits-job n blocks b (Fail k) h = refl
fits-job n blocks b other h = refl

pub fits-launch : (n : ℕ) (blocks : List (List ℕ)) (b : Open) (x : Instruction) → fits n blocks b x ≡ true
    → is_below (length blocks) (launch_of x) ≡ true
fits-launch n blocks b (Send c v) h = refl
fits-launch n blocks b (TrySend c v) h = refl
fits-launch n blocks b (Receive c) h = refl
fits-launch n blocks b (TryReceive c) h = refl
fits-launch n blocks b (Close c) h = refl
fits-launch n blocks b (CancelChannel c) h = refl
fits-launch n blocks b Yield h = refl
fits-launch n blocks b (Launch p how job) h = (both_true (nat_lt p (length blocks)) _ h).0
fits-launch n blocks b (Start j) h = refl
fits-launch n blocks b other h = refl

-- ---- the lines of a block

pub lines-channels : (n : ℕ) (blocks : List (List ℕ)) (weights : List ℕ) (jobs : List (List ℕ)) (b : Open) (code : List Instruction)
    → lines_fit n blocks weights jobs b code ≡ true → list_all (names_channel n) code ≡ true
lines-channels n blocks weights jobs b [] e = refl
lines-channels n blocks weights jobs b (x ∷ code) e =
    let two = both_true _ _ e in
    let rest = both_true _ _ two.1 in
    let fit = both_true _ _ (both_true _ _ two.0).1 in
    both (names_channel n x) _ (fits-channel n blocks b x fit.0)
    (lines-channels n blocks weights jobs (with_line weights x (name_given jobs x) b) code rest.1)

-- how many names there are after one that a line gives
length-listed : (given jobs : List (List ℕ)) (o : Option ℕ)
    → length (given ++ listed (option_map (name_of jobs) o)) ≡ jobs_after_name (length given) o
length-listed given jobs None = omega (arith, length-append given (listed (option_map (name_of jobs) None)))
length-listed given jobs (Some j) = length-append given (name_of jobs j ∷ [])

next_job : (given jobs : List (List ℕ)) (o : Option ℕ) → names_job given o (option_map (name_of jobs) o) ≡ true
    → is_next_job (length given) o ≡ true
next_job given jobs None e = refl
next_job given jobs (Some j) e = (both_true (j == length given) _ e).0

pub lines-jobs : (n : ℕ) (blocks : List (List ℕ)) (weights : List ℕ) (jobs : List (List ℕ)) (b : Open) (code : List Instruction)
    → lines_fit n blocks weights jobs b code ≡ true → knows_jobs (length b.jobs) code ≡ true
lines-jobs n blocks weights jobs b [] e = refl
lines-jobs n blocks weights jobs b (x ∷ code) e =
    let two = both_true _ _ e in
    let rest = both_true _ _ two.1 in
    let fit = both_true _ _ (both_true _ _ two.0).1 in
    let more = lines-jobs n blocks weights jobs (with_line weights x (name_given jobs x) b) code rest.1 in
    both (is_below (length b.jobs) (job_used x)) _ (fits-job n blocks b x fit.0)
    (both (is_next_job (length b.jobs) (job_given x)) _ (next_job b.jobs jobs (job_given x) fit.1)
    (ap (λ m. knows_jobs m code) (sym (length-listed b.jobs jobs (job_given x))) ∙ more))

-- a block's names so far are among its names
pub lines-names : (n : ℕ) (blocks : List (List ℕ)) (weights : List ℕ) (jobs : List (List ℕ)) (b : Open) (code : List Instruction)
    → lines_fit n blocks weights jobs b code ≡ true → length b.jobs ≤ length jobs → jobs_after (length b.jobs) code ≡ length jobs
lines-names n blocks weights jobs b [] e few = let done = both_true _ _ (both_true _ _ e).1
    in let enough : length jobs ≤ length b.jobs = le-from_true (length jobs) (length b.jobs) done.1 in omega (arith, few, enough)
lines-names n blocks weights jobs b (x ∷ code) e few =
    let two = both_true _ _ e in
    let rest = both_true _ _ two.1 in
    let fit = both_true _ _ (both_true _ _ two.0).1 in
    let still = few_more b.jobs jobs (job_given x) fit.1 few in
    ap (λ m. jobs_after m code) (sym (length-listed b.jobs jobs (job_given x)))
    ∙ lines-names n blocks weights jobs (with_line weights x (name_given jobs x) b) code rest.1 still
  where
    few_more : (given jobs : List (List ℕ)) (o : Option ℕ) → names_job given o (option_map (name_of jobs) o) ≡ true
        → length given ≤ length jobs → length (given ++ listed (option_map (name_of jobs) o)) ≤ length jobs
    few_more given jobs None e h = omega (arith, h, length-append given (listed (option_map (name_of jobs) None)))
    few_more given jobs (Some j) e h =
        let two = both_true (j == length given) _ e in
        let formed = (both_true _ _ two.1).0 in
        let here : j ≡ length given = same-from_true j (length given) two.0 in
        let known : j < length jobs = after_all jobs j formed in
        omega (arith, length-append given (name_of jobs j ∷ []), here, known)

-- ---- what lines launch

all_append : (n : ℕ) (xs ys : List ℕ) → all_below n xs ≡ true → all_below n ys ≡ true → all_below n (xs ++ ys) ≡ true
all_append n [] ys e f = f
all_append n (x ∷ xs) ys e f = let two = both_true _ _ e in both (nat_lt x n) _ two.0 (all_append n xs ys two.1 f)

all_times : (n k : ℕ) (xs : List ℕ) → all_below n xs ≡ true → all_below n (times_over k xs) ≡ true
all_times n zero xs e = refl
all_times n (suc k) xs e = all_append n xs (times_over k xs) e (all_times n k xs e)

-- what was launched before each line that is open is below n
abbrev pub all_outer : ℕ → List (ℕ × List ℕ) → Bool
all_outer n outer = list_all (λ o. all_below n o.1) outer

all_end : (n : ℕ) (o : ℕ × List ℕ) (xs : List ℕ) → all_below n o.1 ≡ true → all_below n xs ≡ true
    → all_below n (o.1 ++ times_over o.0 xs) ≡ true
all_end n o xs e f = all_append n o.1 (times_over o.0 xs) e (all_times n o.0 xs f)

all_closed : (n : ℕ) (outer : List (ℕ × List ℕ)) (xs : List ℕ) → all_outer n outer ≡ true → all_below n xs ≡ true
    → all_below n (closed_all outer xs) ≡ true
all_closed n [] xs e f = f
all_closed n (o ∷ outer) xs e f = let two = both_true _ _ e in all_closed n outer (o.1 ++ times_over o.0 xs) two.1 (all_end n o xs two.0 f)

all_launched : (n : ℕ) (outer : List (ℕ × List ℕ)) (xs : List ℕ) (code : List Instruction) → all_outer n outer ≡ true
    → all_below n xs ≡ true → list_all (launch_below n) code ≡ true → all_below n (launched_from outer xs code) ≡ true
all_launched n outer xs [] e f h = all_closed n outer xs e f
all_launched n outer xs (Send c v ∷ code) e f h = all_launched n outer xs code e f h
all_launched n outer xs (TrySend c v ∷ code) e f h = all_launched n outer xs code e f h
all_launched n outer xs (Receive c ∷ code) e f h = all_launched n outer xs code e f h
all_launched n outer xs (TryReceive c ∷ code) e f h = all_launched n outer xs code e f h
all_launched n outer xs (Close c ∷ code) e f h = all_launched n outer xs code e f h
all_launched n outer xs (CancelChannel c ∷ code) e f h = all_launched n outer xs code e f h
all_launched n outer xs (Yield ∷ code) e f h = all_launched n outer xs code e f h
all_launched n outer xs (Launch p how job ∷ code) e f h = let two = both_true (nat_lt p n) _ h
    in all_launched n outer (xs ++ p ∷ []) code e (all_append n xs (p ∷ []) f (both (nat_lt p n) true two.0 refl)) two.1
all_launched n outer xs (Start j ∷ code) e f h = all_launched n outer xs code e f h
all_launched n outer xs (Join j ∷ code) e f h = all_launched n outer xs code e f h
all_launched n outer xs (Await j ∷ code) e f h = all_launched n outer xs code e f h
all_launched n outer xs (Cancel j ∷ code) e f h = all_launched n outer xs code e f h
all_launched n outer xs (Fail k ∷ code) e f h = all_launched n outer xs code e f h
all_launched n outer xs (SetResult v ∷ code) e f h = all_launched n outer xs code e f h
all_launched n outer xs (Repeat k ∷ code) e f h = all_launched n ((k, xs) ∷ outer) [] code (both (all_below n xs) _ f e) refl h
all_launched n outer xs (Each c ∷ code) e f h = all_launched n ((without_end, xs) ∷ outer) [] code (both (all_below n xs) _ f e) refl h
all_launched n outer xs (Scope supervisor ∷ code) e f h = all_launched n ((1, xs) ∷ outer) [] code (both (all_below n xs) _ f e) refl h
all_launched n outer xs (Select ∷ code) e f h = all_launched n ((1, xs) ∷ outer) [] code (both (all_below n xs) _ f e) refl h
all_launched n outer xs (OnSend c v ∷ code) e f h = all_launched n outer xs code e f h
all_launched n outer xs (OnReceive c ∷ code) e f h = all_launched n outer xs code e f h
all_launched n [] xs (End ∷ code) e f h = all_launched n [] xs code e f h
all_launched n (o ∷ outer) xs (End ∷ code) e f h = let two = both_true _ _ e
    in all_launched n outer (o.1 ++ times_over o.0 xs) code two.1 (all_end n o xs two.0 f) h

pub lines-launch_below : (n : ℕ) (blocks : List (List ℕ)) (weights : List ℕ) (jobs : List (List ℕ)) (b : Open) (code : List Instruction)
    → lines_fit n blocks weights jobs b code ≡ true → list_all (launch_below (length blocks)) code ≡ true
lines-launch_below n blocks weights jobs b [] e = refl
lines-launch_below n blocks weights jobs b (x ∷ code) e =
    let two = both_true _ _ e in
    let rest = both_true _ _ two.1 in
    let fit = both_true _ _ (both_true _ _ two.0).1 in
    both (launch_below (length blocks) x) _ (fits-launch n blocks b x fit.0)
    (lines-launch_below n blocks weights jobs (with_line weights x (name_given jobs x) b) code rest.1)

pub lines-launched : (n : ℕ) (blocks : List (List ℕ)) (weights : List ℕ) (jobs : List (List ℕ)) (b : Open) (code : List Instruction)
    → lines_fit n blocks weights jobs b code ≡ true → all_below (length blocks) (launched code) ≡ true
lines-launched n blocks weights jobs b code e = all_launched (length blocks) [] [] code refl refl
    (lines-launch_below n blocks weights jobs b code e)

-- ---- all blocks

blocks-channels : (n : ℕ) (before : List (List ℕ)) (weights : List ℕ) (bs : List Block) → blocks_fit n before weights bs ≡ true
    → list_all (λ (b : Block). list_all (names_channel n) b.code) bs ≡ true
blocks-channels n before weights [] e = refl
blocks-channels n before weights (b ∷ bs) e =
    let two = both_true _ _ (both_true _ _ e).1 in
    both (list_all (names_channel n) b.code) _ (lines-channels n before weights b.jobs (opened b.name) b.code two.0)
    (blocks-channels n (before ++ b.name ∷ []) (weights ++ weight_in weights b ∷ []) bs two.1)

blocks-jobs : (n : ℕ) (before : List (List ℕ)) (weights : List ℕ) (bs : List Block) → blocks_fit n before weights bs ≡ true
    → list_all (λ (b : Block). knows_jobs 0 b.code) bs ≡ true
blocks-jobs n before weights [] e = refl
blocks-jobs n before weights (b ∷ bs) e =
    let two = both_true _ _ (both_true _ _ e).1 in
    both (knows_jobs 0 b.code) _ (lines-jobs n before weights b.jobs (opened b.name) b.code two.0)
    (blocks-jobs n (before ++ b.name ∷ []) (weights ++ weight_in weights b ∷ []) bs two.1)

blocks-names : (n : ℕ) (before : List (List ℕ)) (weights : List ℕ) (bs : List Block) → blocks_fit n before weights bs ≡ true
    → list_all names_its_jobs bs ≡ true
blocks-names n before weights [] e = refl
blocks-names n before weights (b ∷ bs) e =
    let two = both_true _ _ (both_true _ _ e).1 in
    both (names_its_jobs b) _ (same-true (jobs_after 0 b.code) (length b.jobs)
    (lines-names n before weights b.jobs (opened b.name) b.code two.0 (omega arith)))
    (blocks-names n (before ++ b.name ∷ []) (weights ++ weight_in weights b ∷ []) bs two.1)

blocks-back : (n i : ℕ) (before : List (List ℕ)) (weights : List ℕ) (bs : List Block) → i ≡ length before
    → blocks_fit n before weights bs ≡ true → launch_back i bs ≡ true
blocks-back n i before weights [] is e = refl
blocks-back n i before weights (b ∷ bs) is e =
    let two = both_true _ _ (both_true _ _ e).1 in
    both (all_below i (launched b.code)) _ (ap (λ m. all_below m (launched b.code)) is
    ∙ lines-launched n before weights b.jobs (opened b.name) b.code two.0)
    (blocks-back n (i + 1) (before ++ b.name ∷ []) (weights
    ++ weight_in weights b ∷ []) bs (omega (arith, is, length-append before (b.name ∷ []))) two.1)

blocks-targets : (n i : ℕ) (before : List (List ℕ)) (weights : List ℕ) (bs : List Block) → i ≡ length before
    → blocks_fit n before weights bs ≡ true → targets_back i bs ≡ true
blocks-targets n i before weights [] is e = refl
blocks-targets n i before weights (b ∷ bs) is e =
    let two = both_true _ _ (both_true _ _ e).1 in
    both (list_all (launch_below i) b.code) _ (ap (λ m. list_all (launch_below m) b.code) is
    ∙ lines-launch_below n before weights b.jobs (opened b.name) b.code two.0)
    (blocks-targets n (i + 1) (before ++ b.name ∷ []) (weights
    ++ weight_in weights b ∷ []) bs (omega (arith, is, length-append before (b.name ∷ []))) two.1)

all_copies : (n k x : ℕ) → nat_lt x n ≡ true → all_below n (replicate k x) ≡ true
all_copies n zero x e = refl
all_copies n (suc k) x e = both (nat_lt x n) _ e (all_copies n k x e)

all_spawned : (blocks : List (List ℕ)) (spawns : List (ℕ × ℕ)) → list_all (is_spawn blocks) spawns ≡ true
    → all_below (length blocks) (spawned_by spawns) ≡ true
all_spawned blocks [] e = refl
all_spawned blocks (s ∷ spawns) e =
    let two = both_true (is_spawn blocks s) _ e in
    all_append (length blocks) (replicate s.1 s.0) (spawned_by spawns)
    (all_copies (length blocks) s.1 s.0 (both_true _ _ (both_true _ _ two.0).0).0) (all_spawned blocks spawns two.1)

main_named : (i : ℕ) (bs : List Block) → has_main bs ≡ true → is_some (block_named (codes "main") i bs) ≡ true
main_named i [] e = cc
main_named i (b ∷ bs) e = by_test (is_main b.name) (λ f. main_named (i + 1) bs f) e
  where
    by_test : (t : Bool) → (has_main bs ≡ true → is_some (block_named (codes "main") (i + 1) bs) ≡ true) → (t || has_main bs) ≡ true
        → is_some (if t then Some i else block_named (codes "main") (i + 1) bs) ≡ true
    by_test true more e = refl
    by_test false more e = more e

-- what a program names is declared
pub Declares-from_program : (p : Program) → IsProgram p → Declares p
Declares-from_program p ok =
    let n = length p.channels in
    record {
      channels = blocks-channels n [] [] p.blocks ok.blocks;
      jobs = blocks-jobs n [] [] p.blocks ok.blocks;
      names = blocks-names n [] [] p.blocks ok.blocks;
      targets = blocks-targets n 0 [] [] p.blocks refl ok.blocks;
      launches = blocks-back n 0 [] [] p.blocks refl ok.blocks;
      spawns = ap (λ m. all_below m (spawned p)) (sym (length-map p.blocks (λ (b : Block). b.name)))
          ∙ all_spawned (block_names p.blocks) p.spawns ok.spawns;
      main = main_named 0 p.blocks ok.main;
    }
