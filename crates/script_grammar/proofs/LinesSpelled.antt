-- A line that is read is written as the grammar says.
use Rattle.std.proofs.Common.{◌≡◌, ℕ, ◌<◌, ◌≤◌, ◌^◌, List, [], ◌∷◌, refl, ap, sym, ◌∙◌, arith, Result, Ok, Err, Bool, true, false, Option, Some, None, length, get_or, if◌then◌else◌, ◌&&◌, nat_lt, nat_le, subst}
use Rattle.std.specs.Prelude.{◌==◌, ◌||◌, not}
use Rattle.std.proofs.lemmas.List.{length-map, append-nil}
use Rattle.std.specs.Fmt.{decimal}
use Rattle.std.proofs.lemmas.Bool.{or_right}
use lib.Chars.{codes}
use Rattle.std.proofs.lemmas.Bool.{or_right}
use Rattle.script_grammar.specs.declared.fault.FaultKind.TheVariants as kinds
use Rattle.script_grammar.specs.declared.instructions.Operand.{Operand}
use Rattle.script_grammar.specs.declared.instructions.Launching.{Launching}
use Rattle.script_grammar.specs.declared.instructions.Launching.TheVariants.{Plain, Async, Lazy}
use Rattle.script_grammar.specs.declared.instructions.Instruction.{Instruction}
use Rattle.script_grammar.specs.declared.instructions.Instruction.TheVariants.{Send, TrySend, Receive, TryReceive, Close, CancelChannel, Yield, Launch, Start, Join, Await, Cancel, Fail, SetResult, Repeat, Each, Scope, Select, OnSend, OnReceive, End}
use Rattle.script_grammar.specs.Verbs.{verb_of}
use Rattle.script_grammar.specs.Words.{has_items}
use Rattle.script_grammar.specs.Faults.{◌>>=◌}
use Rattle.script_grammar.specs.Programs.{Declared, channel_names, block_names, name_of}
use Rattle.script_grammar.specs.Lines.{line_words, operand_word, launch_word}
use Rattle.script_grammar.specs.Blocks.{Open, stands, fits, is_clause, is_end, is_main, is_operand, is_new, job_given}
use Rattle.script_grammar.specs.Reads.{Read, Form, line_is, end_is}
use Rattle.script_grammar.specs.Grammar.{is_fresh, names_job, Says}
use Rattle.script_grammar.specs.Places.{end_at, number_at, operand_at, known_at, clause_at, awaitable_at, target_at, job_at}
use Rattle.script_grammar.specs.Forms.{plain_line, named_line, sending_line, number_line, result_line, await_line, number_for, launch_line, onsend_line, onreceive_line, clause_form, ending, line_form, verb_form}
use Rattle.script_grammar.proofs.Truths.{both, same-true, le-true, lt-true}
use Rattle.script_grammar.proofs.PlacesSpelled.{bind_ok, ok_is, end_found, known_found, clause_found, awaitable_found, number_found, operand_found, target_found, job_found, new_job_words, IsFreshJob}
use Rattle.script_grammar.proofs.LinesRead.{old_words}
use Rattle.script_grammar.proofs.DistinctNames.{name_of-last}
use Rattle.script_grammar.proofs.VerbWords.{verb_found}
use Rattle.script_grammar.specs.Verbs.{word_of_verb}
use Rattle.script_grammar.specs.declared.verbs.Verb.{Verb}
use Rattle.script_grammar.specs.declared.verbs.Verb.TheVariants as verbs

-- ---- families

named_found : (names : List (List ℕ)) (make : ℕ → Instruction) (ws : List (List ℕ)) (f : Form) → named_line names make ws ≡ Ok f → (i : ℕ)
    × (ws ≡ name_of names i ∷ []) × (i < length names) × (line_is (make i) None ≡ f)
named_found names make ws f ok =
    let x = bind_ok (known_at names ws) (λ c. end_at c.1 >>= λ u. Ok (line_is (make c.0) None)) f ok in
    let z = bind_ok (end_at x.0.1) (λ u. Ok (line_is (make x.0.0) None)) f x.2 in
    let a = known_found names ws x.0.0 x.0.1 x.1 in
    let b = end_found x.0.1 z.0 z.1 in
    (x.0.0, a.0 ∙ ap (λ l. name_of names x.0.0 ∷ l) b, a.1, ok_is (line_is (make x.0.0) None) f (Ok (line_is (make x.0.0) None)) refl z.2)

sending_found : (names : List (List ℕ)) (make : ℕ → Operand → Instruction) (ws : List (List ℕ)) (f : Form)
    → sending_line names make ws ≡ Ok f → (i : ℕ) × (v : Operand) × (ws ≡ name_of names i ∷ operand_word v ∷ []) × (i < length names)
    × (is_operand v ≡ true) × (line_is (make i v) None ≡ f)
sending_found names make ws f ok =
    let x = bind_ok (known_at names ws) (λ c. operand_at c.1 >>= λ v. end_at v.1 >>= λ u. Ok (line_is (make c.0 v.0) None)) f ok in
    let y = bind_ok (operand_at x.0.1) (λ v. end_at v.1 >>= λ u. Ok (line_is (make x.0.0 v.0) None)) f x.2 in
    let z = bind_ok (end_at y.0.1) (λ u. Ok (line_is (make x.0.0 y.0.0) None)) f y.2 in
    let a = known_found names ws x.0.0 x.0.1 x.1 in
    let b = operand_found x.0.1 y.0.1 y.0.0 y.1 in
    let c = end_found y.0.1 z.0 z.1 in (
      x.0.0,
      y.0.0,
      a.0 ∙ ap (λ l. name_of names x.0.0 ∷ l) (b.0 ∙ ap (λ l. operand_word y.0.0 ∷ l) c),
      a.1,
      b.1,
      ok_is (line_is (make x.0.0 y.0.0) None) f (Ok (line_is (make x.0.0 y.0.0) None)) refl z.2,
    )

numbered_found : (low high : ℕ) (make : ℕ → Instruction) (ws : List (List ℕ)) (f : Form) → number_line low high make ws ≡ Ok f → (n : ℕ)
    × (ws ≡ decimal n ∷ []) × (low ≤ n) × (n ≤ high) × (line_is (make n) None ≡ f)
numbered_found low high make ws f ok =
    let x = bind_ok (number_at low high ws) (λ c. end_at c.1 >>= λ u. Ok (line_is (make c.0) None)) f ok in
    let z = bind_ok (end_at x.0.1) (λ u. Ok (line_is (make x.0.0) None)) f x.2 in
    let a = number_found low high x.0.0 ws x.0.1 x.1 in
    let b = end_found x.0.1 z.0 z.1 in
    (x.0.0, a.0 ∙ ap (λ l. decimal x.0.0 ∷ l) b, a.1, a.2, ok_is (line_is (make x.0.0) None) f (Ok (line_is (make x.0.0) None)) refl z.2)

result_found : (ws : List (List ℕ)) (f : Form) → result_line ws ≡ Ok f → (v : Operand) × (ws ≡ operand_word v ∷ []) × (is_operand v ≡ true)
    × (line_is (SetResult v) None ≡ f)
result_found ws f ok =
    let x = bind_ok (operand_at ws) (λ c. end_at c.1 >>= λ u. Ok (line_is (SetResult c.0) None)) f ok in
    let z = bind_ok (end_at x.0.1) (λ u. Ok (line_is (SetResult x.0.0) None)) f x.2 in
    let a = operand_found ws x.0.1 x.0.0 x.1 in
    let b = end_found x.0.1 z.0 z.1 in (
      x.0.0,
      a.0 ∙ ap (λ l. operand_word x.0.0 ∷ l) b,
      a.1,
      ok_is (line_is (SetResult x.0.0) None) f (Ok (line_is (SetResult x.0.0) None)) refl z.2,
    )

plain_found : (x : Instruction) (ws : List (List ℕ)) (f : Form) → plain_line x ws ≡ Ok f → (ws ≡ []) × (line_is x None ≡ f)
plain_found x ws f ok =
    let z = bind_ok (end_at ws) (λ u. Ok (line_is x None)) f ok in
    (end_found ws z.0 z.1, ok_is (line_is x None) f (Ok (line_is x None)) refl z.2)

await_found : (b : Open) (ws : List (List ℕ)) (f : Form) → await_line b ws ≡ Ok f → (i : ℕ) × (ws ≡ name_of b.jobs i ∷ [])
    × (i < length b.jobs) × (get_or b.awaitable i false ≡ true) × (line_is (Await i) None ≡ f)
await_found b ws f ok =
    let x = bind_ok (awaitable_at b.jobs b.awaitable ws) (λ c. end_at c.1 >>= λ u. Ok (line_is (Await c.0) None)) f ok in
    let z = bind_ok (end_at x.0.1) (λ u. Ok (line_is (Await x.0.0) None)) f x.2 in
    let a = awaitable_found b.jobs b.awaitable ws x.0.0 x.0.1 x.1 in
    let c = end_found x.0.1 z.0 z.1 in (
      x.0.0,
      a.0 ∙ ap (λ l. name_of b.jobs x.0.0 ∷ l) c,
      a.1,
      a.2,
      ok_is (line_is (Await x.0.0) None) f (Ok (line_is (Await x.0.0) None)) refl z.2,
    )

onsend_found : (s : Read) (b : Open) (ws : List (List ℕ)) (f : Form) → onsend_line s b ws ≡ Ok f → (i : ℕ) × (v : Operand)
    × (ws ≡ name_of (channel_names s.channels) i ∷ operand_word v ∷ []) × (i < length (channel_names s.channels))
    × (is_new i b.clauses ≡ true) × (is_operand v ≡ true) × (line_is (OnSend i v) None ≡ f)
onsend_found s b ws f ok =
    let names = channel_names s.channels in
    let x = bind_ok (clause_at names b.clauses ws) (λ c. operand_at c.1 >>= λ v. end_at v.1 >>= λ u. Ok (line_is (OnSend c.0 v.0) None)) f
    ok in
    let y = bind_ok (operand_at x.0.1) (λ v. end_at v.1 >>= λ u. Ok (line_is (OnSend x.0.0 v.0) None)) f x.2 in
    let z = bind_ok (end_at y.0.1) (λ u. Ok (line_is (OnSend x.0.0 y.0.0) None)) f y.2 in
    let a = clause_found names b.clauses ws x.0.0 x.0.1 x.1 in
    let d = operand_found x.0.1 y.0.1 y.0.0 y.1 in
    let c = end_found y.0.1 z.0 z.1 in (
      x.0.0,
      y.0.0,
      a.0 ∙ ap (λ l. name_of names x.0.0 ∷ l) (d.0 ∙ ap (λ l. operand_word y.0.0 ∷ l) c),
      a.1,
      a.2,
      d.1,
      ok_is (line_is (OnSend x.0.0 y.0.0) None) f (Ok (line_is (OnSend x.0.0 y.0.0) None)) refl z.2,
    )

onreceive_found : (s : Read) (b : Open) (ws : List (List ℕ)) (f : Form) → onreceive_line s b ws ≡ Ok f → (i : ℕ)
    × (ws ≡ name_of (channel_names s.channels) i ∷ []) × (i < length (channel_names s.channels)) × (is_new i b.clauses ≡ true)
    × (line_is (OnReceive i) None ≡ f)
onreceive_found s b ws f ok =
    let names = channel_names s.channels in
    let x = bind_ok (clause_at names b.clauses ws) (λ c. end_at c.1 >>= λ u. Ok (line_is (OnReceive c.0) None)) f ok in
    let z = bind_ok (end_at x.0.1) (λ u. Ok (line_is (OnReceive x.0.0) None)) f x.2 in
    let a = clause_found names b.clauses ws x.0.0 x.0.1 x.1 in
    let c = end_found x.0.1 z.0 z.1 in (
      x.0.0,
      a.0 ∙ ap (λ l. name_of names x.0.0 ∷ l) c,
      a.1,
      a.2,
      ok_is (line_is (OnReceive x.0.0) None) f (Ok (line_is (OnReceive x.0.0) None)) refl z.2,
    )

launch_found : (s : Read) (b : Open) (how : Launching) (ws : List (List ℕ)) (f : Form) → launch_line s b how ws ≡ Ok f → (i : ℕ)
    × (job : Option (List ℕ)) × (ws ≡ name_of (block_names s.blocks) i ∷ new_job_words job) × (i < length (block_names s.blocks))
    × (is_main (name_of (block_names s.blocks) i) ≡ false) × IsFreshJob b.jobs job
    × (line_is (Launch i how (number_for b.jobs job)) job ≡ f)
launch_found s b how ws f ok =
    let names = block_names s.blocks in
    let x = bind_ok (target_at names b.name ws) (λ t. job_at b.jobs t.1 >>= λ k. Ok (line_is (Launch t.0 how (number_for b.jobs k)) k)) f ok
    in
    let z = bind_ok (job_at b.jobs x.0.1) (λ k. Ok (line_is (Launch x.0.0 how (number_for b.jobs k)) k)) f x.2 in
    let a = target_found names b.name ws x.0.0 x.0.1 x.1 in
    let c = job_found b.jobs x.0.1 z.0 z.1 in
    let g = line_is (Launch x.0.0 how (number_for b.jobs z.0)) z.0 in
    (x.0.0, z.0, a.0 ∙ ap (λ l. name_of names x.0.0 ∷ l) c.0, a.1, a.2, c.1, ok_is g f (Ok g) refl z.2)

-- ---- lines

declared : (s : Read) (c : ℕ) → c < length (channel_names s.channels) → nat_lt c (length s.channels) ≡ true
declared s c h = lt-true c (length s.channels) (omega (arith, h, length-map s.channels (λ (c : Declared). c.name)))

says_old : (s : Read) (b : Open) (x : Instruction) (word : List ℕ) (words : List (List ℕ)) (first : List ℕ) (rest : List (List ℕ))
    (f : Form) → s.current ≡ Some b → word ≡ first → words ≡ rest → first ∷ rest ≡ old_words s b x → stands b.clauses b.nest x ≡ true
    → fits (length s.channels) (block_names s.blocks) b x ≡ true → job_given x ≡ None → line_is x None ≡ f → Says s (word ∷ words) f
says_old s b x word words first rest f open_ a c same may fit none is =
    subst (Says s (word ∷ words)) is (
      b,
      open_,
      ap (λ w. w ∷ words) a ∙ ap (λ l. first ∷ l) c ∙ same
          ∙ ap (λ js. line_words (record { channels = channel_names s.channels; blocks = block_names s.blocks; jobs = js }) x)
          (sym (append-nil b.jobs)),
      may,
      fit,
      ap (λ o. names_job b.jobs o None) none,
    )

outside_select : (o : Option (List ℕ)) (nest : List ℕ) (x : Instruction) → o ≡ None → is_clause x ≡ false → is_end x ≡ false
    → stands o nest x ≡ true
outside_select None nest x e clause end = ap (λ c. not c && (has_items nest || not (is_end x))) clause
    ∙ ap (λ c. has_items nest || not c) end ∙ or_right (has_items nest) true refl
outside_select (Some cs) nest x e clause end = cc

launch_says : (s : Read) (b : Open) (how : Launching) (word : List ℕ) (words : List (List ℕ)) (i : ℕ) (job : Option (List ℕ)) (f : Form)
    → s.current ≡ Some b → b.clauses ≡ None → word ≡ launch_word how → words ≡ name_of (block_names s.blocks) i ∷ new_job_words job
    → i < length (block_names s.blocks) → is_main (name_of (block_names s.blocks) i) ≡ false → IsFreshJob b.jobs job
    → line_is (Launch i how (number_for b.jobs job)) job ≡ f → Says s (word ∷ words) f
launch_says s b how word words i None f open_ out a c h other fresh is =
    says_old s b (Launch i how None) word words (launch_word how) (name_of (block_names s.blocks) i ∷ []) f open_ a c refl
    (outside_select b.clauses b.nest (Launch i how None) out refl refl)
    (both (nat_lt i (length (block_names s.blocks))) _ (lt-true i _ h) (ap not other)) refl is
launch_says s b how word words i (Some name) f open_ out a c h other fresh is =
    let n = length b.jobs in
    subst (Says s (word ∷ words)) is (
      b,
      open_,
      ap (λ w. w ∷ words) a ∙ ap (λ l. launch_word how ∷ l) c
          ∙ ap (λ w. launch_word how ∷ name_of (block_names s.blocks) i ∷ codes "as" ∷ w ∷ []) (sym (name_of-last b.jobs name)),
      outside_select b.clauses b.nest (Launch i how (Some n)) out refl refl,
      both (nat_lt i (length (block_names s.blocks))) _ (lt-true i _ h) (ap not other),
      both (n == n) (is_fresh b.jobs name) (same-true n n refl) fresh,
    )

launch_line_found : (s : Read) (b : Open) (how : Launching) (word : List ℕ) (ws : List (List ℕ)) (f : Form) → s.current ≡ Some b
    → b.clauses ≡ None → word ≡ launch_word how → launch_line s b how ws ≡ Ok f → Says s (word ∷ ws) f
launch_line_found s b how word ws f open_ out w ok =
    let r = launch_found s b how ws f ok in
    launch_says s b how word ws r.0 r.1 f open_ out w r.2 r.3 r.4 r.5 r.6

ending_found : (s : Read) (b : Open) (nest : List ℕ) (word : List ℕ) (ws : List (List ℕ)) (f : Form) → s.current ≡ Some b → b.clauses ≡ None
    → b.nest ≡ nest → word ≡ codes "end" → ending nest ws ≡ Ok f → Says s (word ∷ ws) f
ending_found s b [] word ws f open_ out e w ok =
    let z = bind_ok (end_at ws) (λ u. Ok end_is) f ok in
    subst (Says s (word ∷ ws)) (ok_is end_is f (Ok end_is) refl z.2) (
      b,
      open_,
      ap (λ v. v ∷ ws) w
          ∙ ap (λ l. codes "end" ∷ l) (end_found ws z.0 z.1),
      (e, out),
    )
ending_found s b (n ∷ nest) word ws f open_ out e w ok =
    let r = plain_found End ws f ok in
    says_old s b End word ws (codes "end") [] f open_ w r.0 refl (ap (λ o. stands o b.nest End) out
    ∙ ap (λ l. stands None l End) e) refl refl r.1

line_found : (s : Read) (b : Open) (v : Verb) (word : List ℕ) (ws : List (List ℕ)) (f : Form) → s.current ≡ Some b → b.clauses ≡ None
    → word ≡ word_of_verb v → line_form s b v ws ≡ Ok f → Says s (word ∷ ws) f
line_found s b verbs.Send word ws f open_ out w ok = let r = sending_found (channel_names s.channels) (λ c v. Send c v) ws f ok
    in says_old s b (Send r.0 r.1) word ws (codes "send") (name_of (channel_names s.channels) r.0 ∷ operand_word r.1 ∷ []) f open_ w r.2
    refl (outside_select b.clauses b.nest (Send r.0 r.1) out refl refl)
    (both (nat_lt r.0 (length s.channels)) (is_operand r.1) (declared s r.0 r.3) r.4) refl r.5
line_found s b verbs.TrySend word ws f open_ out w ok = let r = sending_found (channel_names s.channels) (λ c v. TrySend c v) ws f ok
    in says_old s b (TrySend r.0 r.1) word ws (codes "trysend") (name_of (channel_names s.channels) r.0 ∷ operand_word r.1 ∷ []) f open_ w
    r.2 refl (outside_select b.clauses b.nest (TrySend r.0 r.1) out refl refl)
    (both (nat_lt r.0 (length s.channels)) (is_operand r.1) (declared s r.0 r.3) r.4) refl r.5
line_found s b verbs.Receive word ws f open_ out w ok = let r = named_found (channel_names s.channels) (λ c. Receive c) ws f ok
    in says_old s b (Receive r.0) word ws (codes "receive") (name_of (channel_names s.channels) r.0 ∷ []) f open_ w r.1 refl
    (outside_select b.clauses b.nest (Receive r.0) out refl refl) (declared s r.0 r.2) refl r.3
line_found s b verbs.TryReceive word ws f open_ out w ok = let r = named_found (channel_names s.channels) (λ c. TryReceive c) ws f ok
    in says_old s b (TryReceive r.0) word ws (codes "tryreceive") (name_of (channel_names s.channels) r.0 ∷ []) f open_ w r.1 refl
    (outside_select b.clauses b.nest (TryReceive r.0) out refl refl) (declared s r.0 r.2) refl r.3
line_found s b verbs.Close word ws f open_ out w ok = let r = named_found (channel_names s.channels) (λ c. Close c) ws f ok
    in says_old s b (Close r.0) word ws (codes "close") (name_of (channel_names s.channels) r.0 ∷ []) f open_ w r.1 refl
    (outside_select b.clauses b.nest (Close r.0) out refl refl) (declared s r.0 r.2) refl r.3
line_found s b verbs.CancelChannel word ws f open_ out w ok = let r = named_found (channel_names s.channels) (λ c. CancelChannel c) ws f ok
    in says_old s b (CancelChannel r.0) word ws (codes "cancelchannel") (name_of (channel_names s.channels) r.0 ∷ []) f open_ w r.1 refl
    (outside_select b.clauses b.nest (CancelChannel r.0) out refl refl) (declared s r.0 r.2) refl r.3
line_found s b verbs.Yield word ws f open_ out w ok = let r = plain_found Yield ws f ok
    in says_old s b Yield word ws (codes "yield") [] f open_ w r.0 refl (outside_select b.clauses b.nest Yield out refl refl) refl refl r.1
line_found s b verbs.Launch word ws f open_ out w ok = launch_line_found s b Plain word ws f open_ out w ok
line_found s b verbs.Async word ws f open_ out w ok = launch_line_found s b Async word ws f open_ out w ok
line_found s b verbs.Lazy word ws f open_ out w ok = launch_line_found s b Lazy word ws f open_ out w ok
line_found s b verbs.Start word ws f open_ out w ok = let r = named_found b.jobs (λ j. Start j) ws f ok
    in says_old s b (Start r.0) word ws (codes "start") (name_of b.jobs r.0 ∷ []) f open_ w r.1 refl
    (outside_select b.clauses b.nest (Start r.0) out refl refl) (lt-true r.0 (length b.jobs) r.2) refl r.3
line_found s b verbs.Join word ws f open_ out w ok = let r = named_found b.jobs (λ j. Join j) ws f ok
    in says_old s b (Join r.0) word ws (codes "join") (name_of b.jobs r.0 ∷ []) f open_ w r.1 refl
    (outside_select b.clauses b.nest (Join r.0) out refl refl) (lt-true r.0 (length b.jobs) r.2) refl r.3
line_found s b verbs.Await word ws f open_ out w ok = let r = await_found b ws f ok
    in says_old s b (Await r.0) word ws (codes "await") (name_of b.jobs r.0 ∷ []) f open_ w r.1 refl
    (outside_select b.clauses b.nest (Await r.0) out refl refl) (both (nat_lt r.0 (length b.jobs)) _ (lt-true r.0 (length b.jobs) r.2) r.3)
    refl r.4
line_found s b verbs.Cancel word ws f open_ out w ok = let r = named_found b.jobs (λ j. Cancel j) ws f ok
    in says_old s b (Cancel r.0) word ws (codes "cancel") (name_of b.jobs r.0 ∷ []) f open_ w r.1 refl
    (outside_select b.clauses b.nest (Cancel r.0) out refl refl) (lt-true r.0 (length b.jobs) r.2) refl r.3
line_found s b verbs.Fail word ws f open_ out w ok = let r = numbered_found 0 4294967295 (λ n. Fail n) ws f ok
    in says_old s b (Fail r.0) word ws (codes "fail") (decimal r.0 ∷ []) f open_ w r.1 refl
    (outside_select b.clauses b.nest (Fail r.0) out refl refl) (lt-true r.0 (2 ^ 32) (omega (arith, r.3))) refl r.4
line_found s b verbs.Result word ws f open_ out w ok = let r = result_found ws f ok
    in says_old s b (SetResult r.0) word ws (codes "result") (operand_word r.0 ∷ []) f open_ w r.1 refl
    (outside_select b.clauses b.nest (SetResult r.0) out refl refl) r.2 refl r.3
line_found s b verbs.Repeat word ws f open_ out w ok = let r = numbered_found 1 1000000 (λ n. Repeat n) ws f ok
    in says_old s b (Repeat r.0) word ws (codes "repeat") (decimal r.0 ∷ []) f open_ w r.1 refl
    (outside_select b.clauses b.nest (Repeat r.0) out refl refl)
    (both (nat_le 1 r.0) (nat_le r.0 1000000) (le-true 1 r.0 r.2) (le-true r.0 1000000 r.3)) refl r.4
line_found s b verbs.Each word ws f open_ out w ok = let r = named_found (channel_names s.channels) (λ c. Each c) ws f ok
    in says_old s b (Each r.0) word ws (codes "each") (name_of (channel_names s.channels) r.0 ∷ []) f open_ w r.1 refl
    (outside_select b.clauses b.nest (Each r.0) out refl refl) (declared s r.0 r.2) refl r.3
line_found s b verbs.Scope word ws f open_ out w ok = let r = plain_found (Scope false) ws f ok
    in says_old s b (Scope false) word ws (codes "scope") [] f open_ w r.0 refl
    (outside_select b.clauses b.nest (Scope false) out refl refl) refl refl r.1
line_found s b verbs.Supervisor word ws f open_ out w ok = let r = plain_found (Scope true) ws f ok
    in says_old s b (Scope true) word ws (codes "supervisor") [] f open_ w r.0 refl
    (outside_select b.clauses b.nest (Scope true) out refl refl) refl refl r.1
line_found s b verbs.Select word ws f open_ out w ok = let r = plain_found Select ws f ok
    in says_old s b Select word ws (codes "select") [] f open_ w r.0 refl (outside_select b.clauses b.nest Select out refl refl) refl refl
    r.1
line_found s b verbs.End word ws f open_ out w ok = ending_found s b b.nest word ws f open_ out refl w ok
line_found s b other word ws f open_ out w ok = cc

select_end_found : (s : Read) (b : Open) (cs : List ℕ) (t : Bool) (word : List ℕ) (ws : List (List ℕ)) (f : Form) → s.current ≡ Some b
    → b.clauses ≡ Some cs → has_items cs ≡ t → word ≡ codes "end" → (if t then plain_line End ws else Err kinds.UnknownWord) ≡ Ok f
    → Says s (word ∷ ws) f
select_end_found s b cs true word ws f open_ in_ has w ok =
    let r = plain_found End ws f ok in
    says_old s b End word ws (codes "end") [] f open_ w r.0 refl (ap (λ o. stands o b.nest End) in_ ∙ has) refl refl r.1
select_end_found s b cs false word ws f open_ in_ has w ok = cc

clause_line_found : (s : Read) (b : Open) (cs : List ℕ) (v : Verb) (word : List ℕ) (ws : List (List ℕ)) (f : Form) → s.current ≡ Some b
    → b.clauses ≡ Some cs → word ≡ word_of_verb v → clause_form s b cs v ws ≡ Ok f → Says s (word ∷ ws) f
clause_line_found s b cs verbs.OnSend word ws f open_ in_ w ok = let r = onsend_found s b ws f ok
    in says_old s b (OnSend r.0 r.1) word ws (codes "onsend") (name_of (channel_names s.channels) r.0 ∷ operand_word r.1 ∷ []) f open_ w r.2
    refl (ap (λ o. stands o b.nest (OnSend r.0 r.1)) in_)
    (both (nat_lt r.0 (length s.channels)) _ (declared s r.0 r.3) (both (is_new r.0 b.clauses) (is_operand r.1) r.4 r.5)) refl r.6
clause_line_found s b cs verbs.OnReceive word ws f open_ in_ w ok = let r = onreceive_found s b ws f ok
    in says_old s b (OnReceive r.0) word ws (codes "onreceive") (name_of (channel_names s.channels) r.0 ∷ []) f open_ w r.1 refl
    (ap (λ o. stands o b.nest (OnReceive r.0)) in_) (both (nat_lt r.0 (length s.channels)) _ (declared s r.0 r.2) r.3) refl r.4
clause_line_found s b cs verbs.End word ws f open_ in_ w ok = select_end_found s b cs (has_items cs) word ws f open_ in_ refl w ok
clause_line_found s b cs other word ws f open_ in_ w ok = cc

pub verb_line_found : (s : Read) (b : Open) (clauses : Option (List ℕ)) (v : Option Verb) (word : List ℕ) (ws : List (List ℕ)) (f : Form)
    → s.current ≡ Some b → b.clauses ≡ clauses → verb_of word ≡ v → verb_form s b clauses v ws ≡ Ok f → Says s (word ∷ ws) f
verb_line_found s b clauses None word ws f open_ e v ok = cc
verb_line_found s b None (Some verb) word ws f open_ e v ok = line_found s b verb word ws f open_ e (verb_found word verb v) ok
verb_line_found s b (Some cs) (Some verb) word ws f open_ e v ok =
    clause_line_found s b cs verb word ws f open_ e (verb_found word verb v) ok
