-- A line that is written as the grammar says is read as what it says.
use Rattle.std.proofs.Common.{◌≡◌, ℕ, ◌<◌, ◌≤◌, ◌^◌, List, [], ◌∷◌, refl, ap, sym, ◌∙◌, arith, Result, Ok, Err, true, false, Option, Some, None, length, get_or, if◌then◌else◌, nat_lt, subst}
use Rattle.std.specs.Prelude.{◌||◌, not}
use Rattle.std.proofs.lemmas.List.{length-map}
use Rattle.std.specs.Fmt.{decimal}
use mathlib.Core.List.{append-nil}
use lib.Chars.{codes}
use Rattle.script_grammar.specs.declared.fault.FaultKind.{FaultKind}
use Rattle.script_grammar.specs.declared.fault.FaultKind.TheVariants as kinds
use Rattle.script_grammar.specs.declared.instructions.Operand.{Operand}
use Rattle.script_grammar.specs.declared.instructions.Launching.{Launching}
use Rattle.script_grammar.specs.declared.instructions.Launching.TheVariants.{Plain, Async, Lazy}
use Rattle.script_grammar.specs.declared.instructions.Instruction.{Instruction}
use Rattle.script_grammar.specs.declared.instructions.Instruction.TheVariants.{Send, TrySend, Receive, TryReceive, Close, CancelChannel, Launch, Start, Join, Await, Cancel, Fail, SetResult, Repeat, Each, Scope, OnSend, OnReceive, End}
use Rattle.script_grammar.specs.Verbs.{verb_of}
use Rattle.script_grammar.specs.Words.{has_items}
use Rattle.script_grammar.specs.Faults.{◌>>=◌}
use Rattle.script_grammar.specs.Programs.{Declared, channel_names, block_names, name_of}
use Rattle.script_grammar.specs.Lines.{line_words, operand_word, launch_word}
use Rattle.script_grammar.specs.Blocks.{Open, stands, fits, is_main, is_operand, is_new, job_given}
use Rattle.script_grammar.specs.Reads.{Read, Form, line_is, names_for}
use Rattle.script_grammar.specs.Grammar.{is_fresh, names_job}
use Rattle.script_grammar.specs.Places.{end_at, operand_at, job_at}
use Rattle.script_grammar.specs.Forms.{plain_line, named_line, sending_line, number_line, result_line, await_line, number_for, launch_line, onsend_line, onreceive_line, ending, verb_form}
use Rattle.script_grammar.proofs.Truths.{both_true, not_true, lt-from_true, le-from_true, same-from_true}
use Rattle.script_grammar.proofs.DistinctNames.{Distinct, name_of-last}
use Rattle.script_grammar.proofs.PlacesRead.{known_again, clause_again, awaitable_again, target_again, job_again, number_again, operand_again}

-- ---- families

named_again : (names : List (List ℕ)) (make : ℕ → Instruction) (i : ℕ) → Distinct names → i < length names
    → named_line names make (name_of names i ∷ []) ≡ Ok (line_is (make i) None)
named_again names make i is h =
    ap (λ (r : Result (ℕ × List (List ℕ)) FaultKind). r >>= λ c. end_at c.1 >>= λ u. Ok (line_is (make c.0) None))
    (known_again names i [] is h)

sending_again : (names : List (List ℕ)) (make : ℕ → Operand → Instruction) (i : ℕ) (v : Operand) → Distinct names → i < length names
    → is_operand v ≡ true → sending_line names make (name_of names i ∷ operand_word v ∷ []) ≡ Ok (line_is (make i v) None)
sending_again names make i v is h operand =
    ap (λ (r : Result (ℕ × List (List ℕ)) FaultKind). r >>= λ c. operand_at c.1 >>= λ v. end_at v.1 >>=
    λ u. Ok (line_is (make c.0 v.0) None)) (known_again names i (operand_word v ∷ []) is h)
    ∙ ap (λ (r : Result (Operand × List (List ℕ)) FaultKind). r >>= λ v. end_at v.1 >>= λ u. Ok (line_is (make i v.0) None))
    (operand_again v [] operand)

numbered_again : (low high : ℕ) (make : ℕ → Instruction) (n : ℕ) → low ≤ n → n ≤ high → n < 2 ^ 32
    → number_line low high make (decimal n ∷ []) ≡ Ok (line_is (make n) None)
numbered_again low high make n from to small =
    ap (λ (r : Result (ℕ × List (List ℕ)) FaultKind). r >>= λ v. end_at v.1 >>= λ u. Ok (line_is (make v.0) None))
    (number_again low high n [] from to small)

result_again : (v : Operand) → is_operand v ≡ true → result_line (operand_word v ∷ []) ≡ Ok (line_is (SetResult v) None)
result_again v h = ap (λ (r : Result (Operand × List (List ℕ)) FaultKind). r >>= λ v. end_at v.1 >>= λ u. Ok (line_is (SetResult v.0) None))
    (operand_again v [] h)

await_again : (b : Open) (j : ℕ) → Distinct b.jobs → j < length b.jobs → get_or b.awaitable j false ≡ true
    → await_line b (name_of b.jobs j ∷ []) ≡ Ok (line_is (Await j) None)
await_again b j is h may = ap (λ (r : Result (ℕ × List (List ℕ)) FaultKind). r >>= λ c. end_at c.1 >>= λ u. Ok (line_is (Await c.0) None))
    (awaitable_again b.jobs b.awaitable j [] is h may)

launch_again : (s : Read) (b : Open) (how : Launching) (i : ℕ) (job : Option (List ℕ)) (words : List (List ℕ))
    → Distinct (block_names s.blocks) → i < length (block_names s.blocks) → is_main (name_of (block_names s.blocks) i) ≡ false
    → job_at b.jobs words ≡ Ok job → launch_line s b how (name_of (block_names s.blocks) i ∷ words) ≡
    Ok (line_is (Launch i how (number_for b.jobs job)) job)
launch_again s b how i job words is h other named =
    ap (λ (r : Result (ℕ × List (List ℕ)) FaultKind). r >>= λ t. job_at b.jobs t.1 >>=
    λ k. Ok (line_is (Launch t.0 how (number_for b.jobs k)) k)) (target_again (block_names s.blocks) b.name i words is h other)
    ∙ ap (λ (r : Result (Option (List ℕ)) FaultKind). r >>= λ k. Ok (line_is (Launch i how (number_for b.jobs k)) k)) named

onsend_again : (s : Read) (b : Open) (i : ℕ) (v : Operand) → Distinct (channel_names s.channels) → i < length (channel_names s.channels)
    → is_new i b.clauses ≡ true → is_operand v ≡ true → onsend_line s b (name_of (channel_names s.channels) i ∷ operand_word v ∷ []) ≡
    Ok (line_is (OnSend i v) None)
onsend_again s b i v is h new operand =
    ap (λ (r : Result (ℕ × List (List ℕ)) FaultKind). r >>= λ c. operand_at c.1 >>= λ v. end_at v.1 >>=
    λ u. Ok (line_is (OnSend c.0 v.0) None)) (clause_again (channel_names s.channels) b.clauses i (operand_word v ∷ []) is h new)
    ∙ ap (λ (r : Result (Operand × List (List ℕ)) FaultKind). r >>= λ v. end_at v.1 >>= λ u. Ok (line_is (OnSend i v.0) None))
    (operand_again v [] operand)

onreceive_again : (s : Read) (b : Open) (i : ℕ) → Distinct (channel_names s.channels) → i < length (channel_names s.channels)
    → is_new i b.clauses ≡ true → onreceive_line s b (name_of (channel_names s.channels) i ∷ []) ≡ Ok (line_is (OnReceive i) None)
onreceive_again s b i is h new =
    ap (λ (r : Result (ℕ × List (List ℕ)) FaultKind). r >>= λ c. end_at c.1 >>= λ u. Ok (line_is (OnReceive c.0) None))
    (clause_again (channel_names s.channels) b.clauses i [] is h new)

-- ---- lines of a block

-- the names that stand are each the first of its name
pub record Named (s : Read) (b : Open) : Type 0 where
  pub channels : Distinct (channel_names s.channels)
  pub blocks : Distinct (block_names s.blocks)
  pub jobs : Distinct b.jobs

-- what the words of a line of a block are read as
abbrev pub words_form : Read → Open → Option (List ℕ) → List (List ℕ) → Result Form FaultKind
words_form s b clauses [] = Err kinds.UnknownWord
words_form s b clauses (word ∷ rest) = verb_form s b clauses (verb_of word) rest

declared : (s : Read) (c : ℕ) → nat_lt c (length s.channels) ≡ true → c < length (channel_names s.channels)
declared s c h = let low = lt-from_true c (length s.channels) h in omega (arith, low, length-map s.channels (λ (c : Declared). c.name))

-- the words of a line that names no new Job
abbrev pub old_words : Read → Open → Instruction → List (List ℕ)
old_words s b x = line_words (record { channels = channel_names s.channels; blocks = block_names s.blocks; jobs = b.jobs }) x

plain_again : (s : Read) (b : Open) (x : Instruction) → Named s b → job_given x ≡ None → stands None b.nest x ≡ true
    → fits (length s.channels) (block_names s.blocks) b x ≡ true → words_form s b None (old_words s b x) ≡ Ok (line_is x None)
unfolding verb_of
plain_again s b (Send c v) is none may h = let two = both_true _ _ h
    in sending_again (channel_names s.channels) (λ c v. Send c v) c v is.channels (declared s c two.0) two.1
plain_again s b (TrySend c v) is none may h = let two = both_true _ _ h
    in sending_again (channel_names s.channels) (λ c v. TrySend c v) c v is.channels (declared s c two.0) two.1
plain_again s b (Receive c) is none may h = named_again (channel_names s.channels) (λ c. Receive c) c is.channels (declared s c h)
plain_again s b (TryReceive c) is none may h = named_again (channel_names s.channels) (λ c. TryReceive c) c is.channels (declared s c h)
plain_again s b (Close c) is none may h = named_again (channel_names s.channels) (λ c. Close c) c is.channels (declared s c h)
plain_again s b (CancelChannel c) is none may h = named_again (channel_names s.channels) (λ c. CancelChannel c) c is.channels
    (declared s c h)
plain_again s b (Launch p Plain None) is none may h = let two = both_true _ _ h
    in launch_again s b Plain p None [] is.blocks (lt-from_true p (length (block_names s.blocks)) two.0) (not_true _ two.1) refl
plain_again s b (Launch p Async None) is none may h = let two = both_true _ _ h
    in launch_again s b Async p None [] is.blocks (lt-from_true p (length (block_names s.blocks)) two.0) (not_true _ two.1) refl
plain_again s b (Launch p Lazy None) is none may h = let two = both_true _ _ h
    in launch_again s b Lazy p None [] is.blocks (lt-from_true p (length (block_names s.blocks)) two.0) (not_true _ two.1) refl
plain_again s b (Launch p how (Some j)) is none may h = cc
plain_again s b (Start j) is none may h = named_again b.jobs (λ j. Start j) j is.jobs (lt-from_true j (length b.jobs) h)
plain_again s b (Join j) is none may h = named_again b.jobs (λ j. Join j) j is.jobs (lt-from_true j (length b.jobs) h)
plain_again s b (Await j) is none may h = let two = both_true _ _ h in await_again b j is.jobs (lt-from_true j (length b.jobs) two.0) two.1
plain_again s b (Cancel j) is none may h = named_again b.jobs (λ j. Cancel j) j is.jobs (lt-from_true j (length b.jobs) h)
plain_again s b (Fail n) is none may h = let small = lt-from_true n (2 ^ 32) h
    in numbered_again 0 4294967295 (λ n. Fail n) n (omega arith) (omega (arith, small)) small
plain_again s b (SetResult v) is none may h = result_again v h
plain_again s b (Repeat n) is none may h = let two = both_true _ _ h in let high : n ≤ 1000000 = le-from_true n 1000000 two.1
    in numbered_again 1 1000000 (λ n. Repeat n) n (le-from_true 1 n two.0) high (omega (arith, high))
plain_again s b (Each c) is none may h = named_again (channel_names s.channels) (λ c. Each c) c is.channels (declared s c h)
plain_again s b (Scope false) is none may h = refl
plain_again s b (Scope true) is none may h = refl
plain_again s b (OnSend c v) is none may h = cc
plain_again s b (OnReceive c) is none may h = cc
plain_again s b End is none may h = some b.nest may
  where
    some : (nest : List ℕ) → (has_items nest || not true) ≡ true → ending nest [] ≡ Ok (line_is End None)
    some [] e = cc
    some (n ∷ nest) e = refl
plain_again s b other is none may h = refl

in_select : (s : Read) (b : Open) (cs : List ℕ) (x : Instruction) → Named s b → stands (Some cs) b.nest x ≡ true
    → fits (length s.channels) (block_names s.blocks) b x ≡ true → words_form s b (Some cs) (old_words s b x) ≡ Ok (line_is x None)
unfolding verb_of
in_select s b cs (OnSend c v) is may h = let two = both_true _ _ h in let more = both_true _ _ two.1
    in onsend_again s b c v is.channels (declared s c two.0) more.0 more.1
in_select s b cs (OnReceive c) is may h = let two = both_true _ _ h in onreceive_again s b c is.channels (declared s c two.0) two.1
in_select s b cs End is may h = some cs may
  where
    some : (cs : List ℕ) → has_items cs ≡ true → (if has_items cs then plain_line End [] else Err kinds.UnknownWord) ≡ Ok (line_is End None)
    some [] e = cc
    some (c ∷ cs) e = refl
in_select s b cs other is may h = cc

-- ---- lines that name a Job

none_given : (jobs : List (List ℕ)) (o : Option ℕ) → names_job jobs o None ≡ true → o ≡ None
none_given jobs None e = refl
none_given jobs (Some j) e = cc

pub some_given : (jobs : List (List ℕ)) (o : Option ℕ) (name : List ℕ) → names_job jobs o (Some name) ≡ true → (o ≡ Some (length jobs))
    × (is_fresh jobs name ≡ true)
some_given jobs None name e = cc
some_given jobs (Some j) name e = let two = both_true _ _ e in (ap (λ k. Some k) (same-from_true j (length jobs) two.0), two.1)

pub as_launch : (x : Instruction) (j : ℕ) → job_given x ≡ Some j → (p : ℕ) × (how : Launching) × (x ≡ Launch p how (Some j))
as_launch (Launch p how job) j e = (p, how, ap (λ k. Launch p how k) e)
as_launch other j e = cc

launching : (s : Read) (b : Open) (how : Launching) (rest : List (List ℕ))
    → words_form s b None (launch_word how ∷ rest) ≡ launch_line s b how rest
unfolding verb_of
launching s b Plain rest = refl
launching s b Async rest = refl
launching s b Lazy rest = refl

launch_named : (s : Read) (b : Open) (p : ℕ) (how : Launching) (name : List ℕ) → Named s b → is_fresh b.jobs name ≡ true
    → fits (length s.channels) (block_names s.blocks) b (Launch p how (Some (length b.jobs))) ≡ true
    → words_form s b None (line_words (names_for s b (Some name)) (Launch p how (Some (length b.jobs)))) ≡
    Ok (line_is (Launch p how (Some (length b.jobs))) (Some name))
launch_named s b p how name is fresh h =
    let two = both_true _ _ h in
    ap (λ n. words_form s b None (launch_word how ∷ name_of (block_names s.blocks) p ∷ codes "as" ∷ n ∷ [])) (name_of-last b.jobs name)
    ∙ launching s b how (name_of (block_names s.blocks) p ∷ codes "as" ∷ name ∷ [])
    ∙ launch_again s b how p (Some name) (codes "as" ∷ name ∷ []) is.blocks (lt-from_true p (length (block_names s.blocks)) two.0)
    (not_true _ two.1) (job_again b.jobs name fresh)

unnamed : (s : Read) (b : Open) (x : Instruction) (o : Option (List ℕ)) → b.clauses ≡ o → Named s b → job_given x ≡ None
    → stands o b.nest x ≡ true → fits (length s.channels) (block_names s.blocks) b x ≡ true
    → words_form s b o (old_words s b x) ≡ Ok (line_is x None)
unnamed s b x None e is none may h = plain_again s b x is none may h
unnamed s b x (Some cs) e is none may h = in_select s b cs x is may h

named : (s : Read) (b : Open) (p : ℕ) (how : Launching) (name : List ℕ) (o : Option (List ℕ)) → Named s b → is_fresh b.jobs name ≡ true
    → stands o b.nest (Launch p how (Some (length b.jobs))) ≡ true
    → fits (length s.channels) (block_names s.blocks) b (Launch p how (Some (length b.jobs))) ≡ true
    → words_form s b o (line_words (names_for s b (Some name)) (Launch p how (Some (length b.jobs)))) ≡
    Ok (line_is (Launch p how (Some (length b.jobs))) (Some name))
named s b p how name None is fresh may h = launch_named s b p how name is fresh h
named s b p how name (Some cs) is fresh may h = cc

-- a line that stands and fits is read
pub line_again : (s : Read) (b : Open) (x : Instruction) (job : Option (List ℕ)) → Named s b → stands b.clauses b.nest x ≡ true
    → fits (length s.channels) (block_names s.blocks) b x ≡ true → names_job b.jobs (job_given x) job ≡ true
    → words_form s b b.clauses (line_words (names_for s b job) x) ≡ Ok (line_is x job)
line_again s b x None is may h gives =
    ap (λ js. words_form s b b.clauses (line_words (record
    { channels = channel_names s.channels; blocks = block_names s.blocks; jobs = js }) x)) (append-nil b.jobs)
    ∙ unnamed s b x b.clauses refl is (none_given b.jobs (job_given x) gives) may h
line_again s b x (Some name) is may h gives =
    let g = some_given b.jobs (job_given x) name gives in
    let l = as_launch x (length b.jobs) g.0 in
    subst (λ y. stands b.clauses b.nest y ≡ true → fits (length s.channels) (block_names s.blocks) b y ≡ true
    → words_form s b b.clauses (line_words (names_for s b (Some name)) y) ≡ Ok (line_is y (Some name))) (sym l.2)
    (λ m k. named s b l.0 l.1 name b.clauses is g.1 m k) may h
