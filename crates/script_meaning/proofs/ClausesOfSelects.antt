-- The clauses of a select of a program: one to seven, on distinct channels that the program declares.
use Rattle.std.specs.Prelude.{◌≡◌, ℕ, zero, suc, ◌+◌, ◌<◌, ◌≤◌, ◌==◌, ◌||◌, not, nat_lt, true, false, List, [], ◌∷◌, ◌++◌, length, drop, Option, Some, None, is_some, slice_get, refl}
use Rattle.std.proofs.Common.{sym, ap, ◌∙◌, subst, length-append, arith, option_map}
use Rattle.std.proofs.lemmas.Bool.Decides.{nat_tests}
use Rattle.std.proofs.lemmas.Bool.{not-true, or_parts}
use Rattle.script_grammar.specs.declared.instructions.Instruction.{Instruction}
use Rattle.script_grammar.specs.declared.instructions.Instruction.TheVariants as line
use Rattle.script_grammar.specs.Programs.{Program, Block}
use Rattle.script_grammar.specs.Blocks.{Open, opened, with_line, clauses_after, stands, fits, is_among, is_new}
use Rattle.script_grammar.specs.Words.{has_items}
use Rattle.script_grammar.specs.WellFormed.{name_given, few_clauses, is_within, lines_fit, weight_in, blocks_fit, IsProgram}
use Rattle.script_grammar.specs.Tags.{code_of, code_at, code_of_block, block_of_tag}
use Rattle.script_grammar.proofs.Truths.{both_true, lt-from_true, le-from_true}
use Rattle.call_meaning.specs.ChannelCalls.{Call, channel_of}
use Rattle.script_meaning.specs.Configs.{Config}
use Rattle.script_meaning.specs.Lines.{clauses_in, clauses_at}

-- clauses behind those that name these channels, of n that are declared
pub record ClausesFit (n : ℕ) (before : List ℕ) (calls : List Call) : Type 0 where
  pub few : length before + length calls ≤ 7
  pub some : before ≡ [] → 1 ≤ length calls
  pub low : (i : ℕ) (call : Call) → slice_get calls i ≡ Some call → channel_of call < n
  pub fresh : (i : ℕ) (call : Call) → slice_get calls i ≡ Some call → is_among (channel_of call) before ≡ false
  pub apart : (i j : ℕ) (a b : Call) → slice_get calls i ≡ Some a → slice_get calls j ≡ Some b → channel_of a ≡ channel_of b → i ≡ j

-- ---- one clause more

among_push : (c d : ℕ) (cs : List ℕ) → is_among c (cs ++ d ∷ []) ≡ false → (is_among c cs ≡ false) × (c ≡ d → ⊥)
among_push c d [] e = (refl, λ f. grind (arith, nat_tests))
among_push c d (x ∷ cs) e =
    let parts : (x == c ≡ false) × (is_among c (cs ++ d ∷ []) ≡ false) = or_parts (x == c) (is_among c (cs ++ d ∷ [])) e in
    let rest = among_push c d cs parts.1 in
    (ap (λ b. b || is_among c cs) parts.0 ∙ rest.0, rest.1)

one_more : (n c : ℕ) (before : List ℕ) (call : Call) (calls : List Call) → channel_of call ≡ c → c < n → is_among c before ≡ false
    → ClausesFit n (before ++ c ∷ []) calls → ClausesFit n before (call ∷ calls)
one_more n c before call calls is lt new h = record {
  few = let l : length (before ++ c ∷ []) ≡ length before + 1 = length-append before (c ∷ []) in let f = h.few in omega (arith, l, f);
  some = λ e. omega arith;
  low = low;
  fresh = fresh;
  apart = apart;
}
  where
    low : (i : ℕ) (x : Call) → slice_get (call ∷ calls) i ≡ Some x → channel_of x < n
    low zero x e = let k : call ≡ x = cc in subst (λ d. d < n) (sym is ∙ ap channel_of k) lt
    low (suc i) x e = h.low i x e

    fresh : (i : ℕ) (x : Call) → slice_get (call ∷ calls) i ≡ Some x → is_among (channel_of x) before ≡ false
    fresh zero x e = let k : call ≡ x = cc in subst (λ d. is_among d before ≡ false) (sym is ∙ ap channel_of k) new
    fresh (suc i) x e = (among_push (channel_of x) c before (h.fresh i x e)).0

    differs : (i : ℕ) (a x : Call) → call ≡ a → slice_get calls i ≡ Some x → channel_of a ≡ channel_of x → ⊥
    differs i a x k e f = (among_push (channel_of x) c before (h.fresh i x e)).1 (sym f ∙ sym (ap channel_of k) ∙ is)

    apart : (i j : ℕ) (a b : Call) → slice_get (call ∷ calls) i ≡ Some a → slice_get (call ∷ calls) j ≡ Some b → channel_of a ≡ channel_of b
        → i ≡ j
    apart zero zero a b e f g = refl
    apart zero (suc j) a b e f g = let k : call ≡ a = cc in absurd (differs j a b k f g)
    apart (suc i) zero a b e f g = let k : call ≡ b = cc in absurd (differs i b a k e (sym g))
    apart (suc i) (suc j) a b e f g = ap suc (h.apart i j a b e f g)

no_more : (n : ℕ) (before : List ℕ) → length before ≤ 7 → (before ≡ [] → ⊥) → ClausesFit n before []
no_more n before few some = record {
  few = omega (arith, few);
  some = λ e. absurd (some e);
  low = λ i x e. never i x e;
  fresh = λ i x e. never i x e;
  apart = λ i j a b e f g. never i a e;
}
  where
    never : {A : Type 0} (i : ℕ) (x : Call) → slice_get [] i ≡ Some x → A
    never zero x e = cc
    never (suc i) x e = cc

no_line : {A : Type 0} (i : ℕ) → slice_get [] i ≡ Some line.Select → A
no_line zero e = cc
no_line (suc i) e = cc

module _ (x : Config) (n : ℕ) (blocks : List (List ℕ)) (weights : List ℕ) (jobs : List (List ℕ)) where
  -- these lines, behind clauses that name the channels
  abbrev AllFit : List Instruction → Type 0
  AllFit code = (b : Open) (cs : List ℕ) → lines_fit n blocks weights jobs b code ≡ true → b.clauses ≡ Some cs → length cs ≤ 7
      → ClausesFit n cs (clauses_in x code)

  at_line : (l : Instruction) (code : List Instruction) → AllFit code → (b : Open) (cs : List ℕ) → stands b.clauses b.nest l ≡ true
      → fits n blocks b l ≡ true → is_within (with_line weights l (name_given jobs l) b) ≡ true → b.clauses ≡ Some cs → length cs ≤ 7
      → lines_fit n blocks weights jobs (with_line weights l (name_given jobs l) b) code ≡ true → ClausesFit n cs (clauses_in x (l ∷ code))
  at_line (line.OnSend c v) code again b cs s f w e le rest =
      let two = both_true (nat_lt c n) _ f in
      let new : not (is_among c cs) ≡ true = ap (is_new c) (sym e) ∙ (both_true _ _ two.1).0 in
      let more : (with_line weights (line.OnSend c v) (name_given jobs (line.OnSend c v)) b).clauses ≡ Some (cs ++ c ∷ []) =
      ap (λ o. option_map (λ (l : List ℕ). l ++ c ∷ []) o) e in
      let few : few_clauses (Some (cs ++ c ∷ [])) ≡ true = ap few_clauses (sym more) ∙ (both_true _ _ (both_true _ _ w).1).0 in
      one_more n c cs _ _ refl (lt-from_true c n two.0) (not-true _ new) (again _ (cs ++ c ∷ []) rest more (le-from_true _ 7 few))
  at_line (line.OnReceive c) code again b cs s f w e le rest =
      let two = both_true (nat_lt c n) _ f in
      let new : not (is_among c cs) ≡ true = ap (is_new c) (sym e) ∙ two.1 in
      let more : (with_line weights (line.OnReceive c) (name_given jobs (line.OnReceive c)) b).clauses ≡ Some (cs ++ c ∷ []) =
      ap (λ o. option_map (λ (l : List ℕ). l ++ c ∷ []) o) e in
      let few : few_clauses (Some (cs ++ c ∷ [])) ≡ true = ap few_clauses (sym more) ∙ (both_true _ _ (both_true _ _ w).1).0 in
      one_more n c cs _ _ refl (lt-from_true c n two.0) (not-true _ new) (again _ (cs ++ c ∷ []) rest more (le-from_true _ 7 few))
  at_line line.End code again b cs s f w e le rest = no_more n cs le
      (λ k. let t : has_items {A = ℕ} cs ≡ true = ap (λ o. stands o b.nest line.End) (sym e) ∙ s
      in let u : has_items {A = ℕ} [] ≡ true = ap (has_items {A = ℕ}) (sym k) ∙ t in absurd (let no_way : ⊥ = cc in no_way))
  at_line other code again b cs s f w e le rest = let t : stands (Some cs) b.nest other ≡ true = ap (λ o. stands o b.nest other) (sym e) ∙ s
      in cc

  clauses_fit : (code : List Instruction) → AllFit code
  clauses_fit [] b cs fit e le = let t : not (is_some (Some cs)) ≡ true = ap (λ (o : Option (List ℕ)). not (is_some o)) (sym e)
      ∙ (both_true _ _ (both_true _ _ fit).1).0 in cc
  clauses_fit (l ∷ code) b cs fit e le =
      let two = both_true _ _ fit in
      let rest = both_true _ _ two.1 in
      let may = both_true _ _ two.0 in
      at_line l code (clauses_fit code) b cs may.0 (both_true _ _ may.1).0 rest.0 e le rest.1

  -- behind a select
  behind : (i : ℕ) (code : List Instruction) (b : Open) → lines_fit n blocks weights jobs b code ≡ true
      → slice_get code i ≡ Some line.Select → ClausesFit n [] (clauses_in x (drop (suc i) code))
  behind i [] b fit e = cc
  behind zero (l ∷ code) b fit e =
      let is : l ≡ line.Select = cc in
      let rest = both_true _ _ (both_true _ _ fit).1 in
      clauses_fit code (with_line weights l (name_given jobs l) b) [] rest.1 (ap (clauses_after b.clauses) is) (omega arith)
  behind (suc i) (l ∷ code) b fit e = behind i code (with_line weights l (name_given jobs l) b) (both_true _ _ (both_true _ _ fit).1).1 e

in_blocks : (x : Config) (n : ℕ) (before : List (List ℕ)) (weights : List ℕ) (bs : List Block) (j i : ℕ)
    → blocks_fit n before weights bs ≡ true → slice_get (code_of_block (slice_get bs j)) i ≡ Some line.Select
    → ClausesFit n [] (clauses_in x (drop (suc i) (code_of_block (slice_get bs j))))
in_blocks x n before weights [] zero i fit at = no_line i at
in_blocks x n before weights [] (suc j) i fit at = no_line i at
in_blocks x n before weights (c ∷ bs) zero i fit at =
    let two = both_true _ _ (both_true _ _ fit).1 in
    behind x n before weights c.jobs i c.code (opened c.name) two.0 at
in_blocks x n before weights (c ∷ bs) (suc j) i fit at =
    let two = both_true _ _ (both_true _ _ fit).1 in
    in_blocks x n (before ++ c.name ∷ []) (weights ++ weight_in weights c ∷ []) bs j i two.1 at

pub select_fits : (p : Program) (k : ℕ) (x : Config) → IsProgram p → slice_get (code_of p k) x.line ≡ Some line.Select
    → ClausesFit (length p.channels) [] (clauses_at p k x)
select_fits p k x ok at = subst (λ m. ClausesFit (length p.channels) [] (clauses_in x (drop m (code_of p k))))
    (let e : suc x.line ≡ x.line + 1 = omega arith in e) (by_tag (block_of_tag p k) at)
  where
    by_tag : (o : Option ℕ) → slice_get (code_at p o) x.line ≡ Some line.Select
        → ClausesFit (length p.channels) [] (clauses_in x (drop (suc x.line) (code_at p o)))
    by_tag None e = no_line x.line e
    by_tag (Some n) e = in_blocks x (length p.channels) [] [] p.blocks n x.line ok.blocks e
