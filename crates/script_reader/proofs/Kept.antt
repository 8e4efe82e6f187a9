-- What each line keeps of the script so far.
use Rattle.std.proofs.Common.{◌≡◌, ℕ, zero, suc, ◌+◌, ◌*◌, ◌<◌, ◌≤◌, List, [], ◌∷◌, ◌++◌, length, length-append, true, nat_lt, nat_le, refl, ap, sym, ◌∙◌, subst, arith, get_or, map, Option, Some, None, Result, Ok}
use Rattle.std.specs.Prelude.{option_map, string_bytes}
use Rattle.std.specs.List.{list_all}
use Rattle.std.proofs.lemmas.List.{length-map, append-nil}
use Rattle.std.proofs.Math.Nat.{mul-le-mul_left}
use Rattle.script_grammar.specs.declared.fault.FaultKind.{FaultKind}
use Rattle.script_grammar.specs.declared.instructions.Instruction.{Instruction}
use Rattle.script_grammar.specs.declared.instructions.Instruction.TheVariants.{Launch, Repeat, Each, Scope, End}
use Rattle.script_grammar.specs.Programs.{Block, block_names}
use Rattle.script_grammar.specs.Lines.{Names, line_words}
use Rattle.script_grammar.specs.Blocks.{Open, with_line, product, own_weight, nest_after, after_end, but_first, fits, job_given, listed}
use Rattle.script_grammar.specs.Reads.{Read, Form, version_is, channel_is, coroutine_is, spawn_is, line_is, end_is, start, after, names_for, closed_block, closed_weight}
use Rattle.script_grammar.specs.Forms.{form_at, limited, step}
use Rattle.script_grammar.specs.Faults.{◌>>=◌}
use Rattle.script_grammar.specs.Grammar.{is_name, names_job, Says, Within, IsWithin}
use Rattle.script_grammar.proofs.Truths.{both, both_true, lt-true, lt-from_true, le-true, le-from_true}
use Rattle.script_grammar.proofs.DistinctNames.{fresh_none}
use Rattle.script_grammar.proofs.TextsRead.{limited_again}
use Rattle.script_reader.specs.Holding.{IsKept, WeighsJobs, IsNewBlock, line_count, open_cost, cost}
use Rattle.script_reader.specs.Entering.{CanEnter, IsNewName, IsNewJob, HasRoom}
use Rattle.script_reader.specs.declared.reading.OpenBlock.{OpenBlock}
use Rattle.script_reader.specs.Reading.{open_of, HasFewJobs}
use Rattle.script_reader.specs.declared.script.Coroutine.{Coroutine}
use Rattle.script_reader.specs.Programs.{block_of}
use Rattle.script_reader.proofs.Lengths.{text_length}
use Rattle.channel_model.proofs.Elements.{all_push}

-- ---- Jobs

product-some : (nest : List ℕ) → list_all (nat_le 1) nest ≡ true → 1 ≤ product nest
product-some [] e = omega arith
product-some (n ∷ nest) e =
    let two = both_true (nat_le 1 n) _ e in
    let low = le-from_true 1 n two.0 in
    omega (arith, low, mul-le-mul_left n (product-some nest two.1))

weight-some : (weights : List ℕ) (i : ℕ) → list_all (nat_le 1) weights ≡ true → i < length weights → 1 ≤ get_or weights i 0
weight-some [] i e h = absurd (omega (arith, h))
weight-some (w ∷ weights) zero e h = le-from_true 1 w (both_true (nat_le 1 w) _ e).0
weight-some (w ∷ weights) (suc i) e h = weight-some weights i (both_true (nat_le 1 w) _ e).1 (omega (arith, h))

own-some : (weights : List ℕ) (n : ℕ) (blocks : List (List ℕ)) (b : Open) (x : Instruction) (name : List ℕ)
    → list_all (nat_le 1) weights ≡ true → length weights ≡ length blocks → fits n blocks b x ≡ true
    → names_job b.jobs (job_given x) (Some name) ≡ true → 1 ≤ own_weight weights x
own-some weights n blocks b (Launch p how job) name some same fit gives =
    weight-some weights p some (omega (arith, same, lt-from_true p (length blocks) (both_true _ _ fit).0))
own-some weights n blocks b other name some same fit gives = cc

jobs-line : (weights : List ℕ) (n : ℕ) (blocks : List (List ℕ)) (b : Open) (x : Instruction) (job : Option (List ℕ))
    → list_all (nat_le 1) weights ≡ true → length weights ≡ length blocks → fits n blocks b x ≡ true
    → names_job b.jobs (job_given x) job ≡ true → list_all (nat_le 1) b.nest ≡ true → length b.jobs < b.weight
    → length (b.jobs ++ listed job) < b.weight + product b.nest * own_weight weights x
jobs-line weights n blocks b x None some same fit gives nest few = omega (arith, few, ap length (append-nil b.jobs))
jobs-line weights n blocks b x (Some name) some same fit gives nest few =
    let own = own-some weights n blocks b x name some same fit gives in
    omega (arith, few, length-append b.jobs (name ∷ []), product-some b.nest nest, mul-le-mul_left (product b.nest) own)

but_first-some : (nest : List ℕ) → list_all (nat_le 1) nest ≡ true → list_all (nat_le 1) (but_first nest) ≡ true
but_first-some [] e = e
but_first-some (n ∷ nest) e = (both_true (nat_le 1 n) _ e).1

after_end-some : (clauses : Option (List ℕ)) (nest : List ℕ) → list_all (nat_le 1) nest ≡ true
    → list_all (nat_le 1) (after_end clauses nest) ≡ true
after_end-some None nest e = but_first-some nest e
after_end-some (Some cs) nest e = e

nest-line : (n : ℕ) (blocks : List (List ℕ)) (b : Open) (clauses : Option (List ℕ)) (x : Instruction) → fits n blocks b x ≡ true
    → list_all (nat_le 1) b.nest ≡ true → list_all (nat_le 1) (nest_after clauses b.nest x) ≡ true
nest-line n blocks b clauses (Repeat k) fit e = both (nat_le 1 k) _ (both_true _ _ fit).0 e
nest-line n blocks b clauses (Each c) fit e = e
nest-line n blocks b clauses (Scope supervisor) fit e = e
nest-line n blocks b clauses End fit e = after_end-some clauses b.nest e
nest-line n blocks b clauses other fit e = e

current-line : (weights : List ℕ) (n : ℕ) (blocks : List (List ℕ)) (o : Option Open) (b : Open) (x : Instruction) (job : Option (List ℕ))
    → o ≡ Some b → WeighsJobs o → list_all (nat_le 1) weights ≡ true → length weights ≡ length blocks → fits n blocks b x ≡ true
    → names_job b.jobs (job_given x) job ≡ true → WeighsJobs (option_map (with_line weights x job) o)
current-line weights n blocks o b x job is h some same fit gives =
    let jobs : WeighsJobs (Some b) = subst WeighsJobs is h in
    subst (λ c. WeighsJobs (option_map (with_line weights x job) c)) (sym is)
    (jobs-line weights n blocks b x job some same fit gives jobs.1 jobs.0, nest-line n blocks b b.clauses x fit jobs.1)

new-line : (weights : List ℕ) (blocks : List Block) (o : Option Open) (x : Instruction) (job : Option (List ℕ)) → IsNewBlock blocks o
    → IsNewBlock blocks (option_map (with_line weights x job) o)
new-line weights blocks None x job h = tt
new-line weights blocks (Some b) x job h = h

length-names : (bs : List Block) → length (block_names bs) ≡ length bs
length-names bs = length-map bs (λ (b : Block). b.name)

known-more : (n m : ℕ) (spawns : List (ℕ × ℕ)) → n ≤ m → list_all (λ t. nat_lt t.0 n) spawns ≡ true
    → list_all (λ t. nat_lt t.0 m) spawns ≡ true
known-more n m [] h e = refl
known-more n m (s ∷ spawns) h e =
    let two = both_true (nat_lt s.0 n) _ e in
    both (nat_lt s.0 m) _ (lt-true s.0 m (omega (arith, h, lt-from_true s.0 n two.0))) (known-more n m spawns h two.1)

-- ---- each line

pub IsKept-start : IsKept start
IsKept-start = record {
  within = record { channels = omega arith; places = omega arith; current = tt; load = omega arith };
  weights = refl;
  some = refl;
  spawns = refl;
  jobs = tt;
  new = tt;
}

pub IsKept-after : (s : Read) (words : List (List ℕ)) (f : Form) → IsKept s → Says s words f → Within (after f s) → IsKept (after f s)
IsKept-after s words version_is is says within = record
    { within = within; weights = is.weights; some = is.some; spawns = is.spawns; jobs = is.jobs; new = is.new }
IsKept-after s words (channel_is c) is says within = record
    { within = within; weights = is.weights; some = is.some; spawns = is.spawns; jobs = is.jobs; new = is.new }
IsKept-after s words (coroutine_is p) is says within = record {
  within = within;
  weights = is.weights;
  some = is.some;
  spawns = is.spawns;
  jobs = (omega arith, refl);
  new = (fresh_none (block_names s.blocks) p says.2).1;
}
IsKept-after s words (spawn_is i n) is says within =
    let known = lt-from_true i (length (block_names s.blocks)) (both_true _ _ (both_true _ _ says.3).0).0 in
    record {
      within = within;
      weights = is.weights;
      some = is.some;
      spawns = all_push (λ t. nat_lt t.0 (length s.weights)) s.spawns (i, n) is.spawns
          (lt-true i (length s.weights) (omega (arith, known, length-names s.blocks, is.weights)));
      jobs = is.jobs;
      new = is.new;
    }
IsKept-after s words (line_is x job) is says within = record {
  within = within;
  weights = is.weights;
  some = is.some;
  spawns = is.spawns;
  jobs = current-line s.weights (length s.channels) (block_names s.blocks) s.current says.0 x job says.1 is.jobs is.some (is.weights
      ∙ sym (length-names s.blocks)) says.4 says.5;
  new = new-line s.weights s.blocks s.current x job is.new;
}
IsKept-after s words end_is is says within =
    let b = says.0 in
    let jobs : WeighsJobs (Some b) = subst WeighsJobs says.1 is.jobs in
    let weights : s.weights ++ closed_weight s.current ≡ s.weights ++ b.weight ∷ [] = ap (λ o. s.weights ++ closed_weight o) says.1 in
    let blocks : length (s.blocks ++ closed_block s.current) ≡ length s.blocks + 1 = ap (λ o. length (s.blocks ++ closed_block o)) says.1
    ∙ length-append s.blocks (closed_block (Some b)) in
    let more : length (s.weights ++ closed_weight s.current) ≡ length s.weights + 1 = ap length weights
    ∙ length-append s.weights (b.weight ∷ []) in
    record {
      within = within;
      weights = omega (arith, blocks, more, is.weights);
      some = ap (list_all (nat_le 1)) weights ∙ all_push (nat_le 1) s.weights b.weight is.some (le-true 1 b.weight (omega (arith, jobs.0)));
      spawns = known-more (length s.weights) (length (s.weights ++ closed_weight s.current)) s.spawns (omega (arith, more)) is.spawns;
      jobs = tt;
      new = tt;
    }

-- ---- new names

new-job : (n : ℕ) (jobs : List (List ℕ)) (given : Option ℕ) (job : Option (List ℕ)) → names_job jobs given job ≡ true → IsNewName jobs job
new-job n jobs given None e = tt
new-job n jobs None (Some name) e = cc
new-job n jobs (Some j) (Some name) e = (fresh_none jobs name (both_true _ _ e).1).1

-- what is said may be entered
pub CanEnter-from_Says : (s : Read) (words : List (List ℕ)) (f : Form) → IsKept s → Says s words f → CanEnter s f
CanEnter-from_Says s words version_is is says = tt
CanEnter-from_Says s words (channel_is c) is says = (fresh_none _ c.name says.4).1
CanEnter-from_Says s words (coroutine_is p) is says = tt
CanEnter-from_Says s words (spawn_is i n) is says = tt
CanEnter-from_Says s words (line_is x job) is says = subst (λ o. IsNewJob o job) (sym says.1)
    (new-job 0 (says.0).jobs (job_given x) job says.5)
CanEnter-from_Says s words end_is is says = is.new

-- ---- what a line needs

-- the Jobs of the open block have a number each
pub few_jobs : (o : Option OpenBlock) → WeighsJobs (option_map open_of o) → IsWithin (option_map open_of o) → HasFewJobs o
few_jobs None weighs within = tt
few_jobs (Some b) weighs within = omega (arith, weighs.0, within.2, length-map b.jobs.items.items string_bytes)

-- and there is a number for the open block
pub room_left : (cs : List Coroutine) (o : Option Open)
    → 16 * length (map block_of cs) + line_count (map block_of cs) + open_cost o ≤ 1048577
    → HasRoom (length cs) o
room_left cs None short = tt
room_left cs (Some b) short = omega (arith, short, length-map cs block_of)

-- a line that is found and leads to no more than the limits allow
pub step_ok : (s : Read) (words : List (List ℕ)) (w : List ℕ) (ws : List (List ℕ)) (f : Form) → words ≡ w ∷ ws
    → form_at s s.current w ws ≡ Ok f → Within (after f s) → step s words ≡ Ok (after f s)
unfolding step
step_ok s words w ws f is found within =
    ap (step s) is ∙ ap (λ (r : Result Form FaultKind). r >>= λ g. limited (after g s)) found ∙ limited_again (after f s) within

-- ---- how many blocks

name-some : (name : List ℕ) → is_name name ≡ true → 1 ≤ length name
name-some [] e = cc
name-some (b ∷ name) e = omega arith

line_count-push : (bs : List Block) (b : Block) → line_count (bs ++ b ∷ []) ≡ line_count bs + length b.code
line_count-push [] b = omega arith
line_count-push (c ∷ bs) b = omega (arith, line_count-push bs b)

-- a line costs no more bytes than it has
pub cost-after : (s : Read) (words : List (List ℕ)) (f : Form) → Says s words f → cost (after f s) ≤ cost s + text_length words
cost-after s words version_is says = omega arith
cost-after s words (channel_is c) says = omega arith
cost-after s words (coroutine_is p) says =
    omega (arith, ap text_length says.1, name-some p (fresh_none (block_names s.blocks) p says.2).0, ap open_cost says.0)
cost-after s words (spawn_is i n) says = omega arith
cost-after s words (line_is x job) says =
    let b = says.0 in
    omega (
      arith,
      ap open_cost says.1,
      ap (λ o. open_cost (option_map (with_line s.weights x job) o)) says.1,
      length-append b.code (x ∷ []),
      words-some words x says.2,
    )
  where
    some_word : (n : Names) (x : Instruction) → 1 ≤ text_length (line_words n x)
    some_word n (Launch p how job) = omega arith
    some_word n (Scope supervisor) = omega arith
    some_word n other = omega arith

    words-some : (words : List (List ℕ)) (x : Instruction) → words ≡ line_words (names_for s says.0 job) x → 1 ≤ text_length words
    words-some words x e = let h = some_word (names_for s says.0 job) x in omega (arith, h, ap text_length e)
cost-after s words end_is says =
    let b = says.0 in
    let closing : Block = record { name = b.name; jobs = b.jobs; code = b.code } in
    omega (
      arith,
      ap text_length says.2,
      ap open_cost says.1,
      ap (λ o. length (s.blocks ++ closed_block o)) says.1,
      length-append s.blocks (closing ∷ []),
      ap (λ o. line_count (s.blocks ++ closed_block o)) says.1,
      line_count-push s.blocks closing,
    )

-- ---- how many lines

-- each of these blocks has no more lines than all have
pub short_code : (n : ℕ) (cs : List Coroutine) → line_count (map block_of cs) ≤ n → list_all (λ c. nat_le (length c.code.items) n) cs ≡ true
short_code n [] h = refl
short_code n (c ∷ cs) h = both (nat_le (length c.code.items) n) _ (le-true (length c.code.items) n (omega (arith, h)))
    (short_code n cs (omega (arith, h)))
