-- Where the lines of a program stand: clauses in a select, ends where something is open; and what each opens is closed.
use Rattle.std.specs.Prelude.{◌≡◌, ℕ, zero, suc, ◌+◌, ◌<◌, ◌≤◌, nat_le, true, List, [], ◌∷◌, ◌++◌, length, Option, Some, None, is_some, slice_get, get_or, refl}
use Rattle.std.proofs.Common.{sym, ap, ◌∙◌, subst, length-append, arith}
use Rattle.script_grammar.specs.declared.instructions.Instruction.{Instruction}
use Rattle.script_grammar.specs.declared.instructions.Instruction.TheVariants as line
use Rattle.script_grammar.specs.Programs.{Program, Block}
use Rattle.script_grammar.specs.Blocks.{Open, opened, with_line, stands, fits, nest_after, clauses_after, is_clause, opens_lines, but_first, turns}
use Rattle.script_grammar.specs.WellFormed.{name_given, is_within, lines_fit, weight_in, blocks_fit, IsProgram}
use Rattle.script_grammar.specs.Nesting.{closing_of}
use Rattle.script_grammar.specs.Tags.{code_of, code_at, code_of_block, block_of_tag}
use Rattle.script_grammar.proofs.Truths.{both_true, le-from_true}
use Rattle.script_grammar.proofs.OpenedIsClosed.{program-closes}
use Rattle.script_meaning.specs.Inside.{heads_after, heads_from, heads_at}
use Rattle.script_meaning.proofs.OpenLines.{ClosedAt, closed_at}
use Rattle.script_grammar.proofs.ProgramsBalanced.{weight_grows}

-- ---- what is open, as the grammar has it

-- a line opens others, which run so often
abbrev pub HasTurns : List Instruction → ℕ → ℕ → Type 0
HasTurns code h n = (x : Instruction) × (slice_get code h ≡ Some x) × (turns x ≡ Some n) × (1 ≤ n)

-- these lines are open, and the lines of each run so often
abbrev pub AreTurns : List Instruction → List ℕ → List ℕ → Type 0
AreTurns code [] [] = Unit {0}
AreTurns code (n ∷ nest) (h ∷ heads) = HasTurns code h n × AreTurns code nest heads
AreTurns code nest heads = ⊥

-- the lines are open that run so often, and round a clause a select
abbrev pub Matches : List Instruction → Option (List ℕ) → List ℕ → List ℕ → Type 0
Matches code None nest heads = AreTurns code nest heads
Matches code (Some cs) nest heads = (h : ℕ) × (hs : List ℕ) × (heads ≡ h ∷ hs) × (slice_get code h ≡ Some line.Select)
    × AreTurns code nest hs

matches_step : (code : List Instruction) (place : ℕ) (o : Option (List ℕ)) (nest heads : List ℕ) (x : Instruction)
    → slice_get code place ≡ Some x → ((n : ℕ) → x ≡ line.Repeat n → 1 ≤ n) → stands o nest x ≡ true → Matches code o nest heads
    → Matches code (clauses_after o x) (nest_after o nest x) (heads_after place heads x)
matches_step code place None nest heads (line.Send c v) at r s m = m
matches_step code place (Some cs) nest heads (line.Send c v) at r s m = cc
matches_step code place None nest heads (line.TrySend c v) at r s m = m
matches_step code place (Some cs) nest heads (line.TrySend c v) at r s m = cc
matches_step code place None nest heads (line.Receive c) at r s m = m
matches_step code place (Some cs) nest heads (line.Receive c) at r s m = cc
matches_step code place None nest heads (line.TryReceive c) at r s m = m
matches_step code place (Some cs) nest heads (line.TryReceive c) at r s m = cc
matches_step code place None nest heads (line.Close c) at r s m = m
matches_step code place (Some cs) nest heads (line.Close c) at r s m = cc
matches_step code place None nest heads (line.CancelChannel c) at r s m = m
matches_step code place (Some cs) nest heads (line.CancelChannel c) at r s m = cc
matches_step code place None nest heads line.Yield at r s m = m
matches_step code place (Some cs) nest heads line.Yield at r s m = cc
matches_step code place None nest heads (line.Launch b how job) at r s m = m
matches_step code place (Some cs) nest heads (line.Launch b how job) at r s m = cc
matches_step code place None nest heads (line.Start j) at r s m = m
matches_step code place (Some cs) nest heads (line.Start j) at r s m = cc
matches_step code place None nest heads (line.Join j) at r s m = m
matches_step code place (Some cs) nest heads (line.Join j) at r s m = cc
matches_step code place None nest heads (line.Await j) at r s m = m
matches_step code place (Some cs) nest heads (line.Await j) at r s m = cc
matches_step code place None nest heads (line.Cancel j) at r s m = m
matches_step code place (Some cs) nest heads (line.Cancel j) at r s m = cc
matches_step code place None nest heads (line.Fail v) at r s m = m
matches_step code place (Some cs) nest heads (line.Fail v) at r s m = cc
matches_step code place None nest heads (line.SetResult v) at r s m = m
matches_step code place (Some cs) nest heads (line.SetResult v) at r s m = cc
matches_step code place None nest heads (line.Repeat n) at r s m = ((line.Repeat n, at, refl, r n refl), m)
matches_step code place (Some cs) nest heads (line.Repeat n) at r s m = cc
matches_step code place None nest heads (line.Each c) at r s m = ((line.Each c, at, refl, omega arith), m)
matches_step code place (Some cs) nest heads (line.Each c) at r s m = cc
matches_step code place None nest heads (line.Scope supervisor) at r s m = ((line.Scope supervisor, at, refl, omega arith), m)
matches_step code place (Some cs) nest heads (line.Scope supervisor) at r s m = cc
matches_step code place None nest heads line.Select at r s m = (place, heads, refl, at, m)
matches_step code place (Some cs) nest heads line.Select at r s m = cc
matches_step code place None nest heads (line.OnSend c v) at r s m = cc
matches_step code place (Some cs) nest heads (line.OnSend c v) at r s m = m
matches_step code place None nest heads (line.OnReceive c) at r s m = cc
matches_step code place (Some cs) nest heads (line.OnReceive c) at r s m = m
matches_step code place None [] heads line.End at r s m = cc
matches_step code place None (n ∷ nest) [] line.End at r s m = absurd m
matches_step code place None (n ∷ nest) (h ∷ heads) line.End at r s m = m.1
matches_step code place (Some cs) nest heads line.End at r s m = subst (λ l. AreTurns code nest (but_first l)) (sym m.2) m.4

turns_there : (n : ℕ) (blocks : List (List ℕ)) (b : Open) (t : ℕ) → fits n blocks b (line.Repeat t) ≡ true → 1 ≤ t
turns_there n blocks b t e = le-from_true 1 t (both_true (nat_le 1 t) (nat_le t 1000000) e).0

-- ---- weights

abbrev pub AllSome : List ℕ → Type 0
AllSome [] = Unit {0}
AllSome (w ∷ ws) = (1 ≤ w) × AllSome ws

all_some_push : (ws : List ℕ) (w : ℕ) → AllSome ws → 1 ≤ w → AllSome (ws ++ w ∷ [])
all_some_push [] w h l = (l, tt)
all_some_push (v ∷ ws) w h l = (h.0, all_some_push ws w h.1 l)

some_at : (ws : List ℕ) (j : ℕ) → AllSome ws → j < length ws → 1 ≤ get_or ws j 0
some_at [] j h lt = absurd (omega (arith, lt))
some_at (w ∷ ws) zero h lt = h.0
some_at (w ∷ ws) (suc j) h lt = let shorter : j < length ws = omega (arith, lt) in some_at ws j h.1 shorter

weight_some : (weights : List ℕ) (b : Block) → 1 ≤ weight_in weights b
weight_some weights b = weight_grows weights b.jobs (opened b.name) b.code

-- ---- a line of a block

-- the line may stand where it stands, after what is open there
pub record PlacedAt (code : List Instruction) (i : ℕ) (x : Instruction) : Type 0 where
  pub channels : ℕ
  pub blocks : List (List ℕ)
  pub weights : List ℕ
  pub before : Open
  pub job : Option (List ℕ)
  pub stands : stands before.clauses before.nest x ≡ true
  pub fits : fits channels blocks before x ≡ true
  pub within : is_within (with_line weights x job before) ≡ true
  -- each block that is launched weighs something
  pub weighs : (j : ℕ) → j < length blocks → 1 ≤ get_or weights j 0
  pub matches : Matches code before.clauses before.nest (heads_at code i)

placed_from : (whole : List Instruction) (n : ℕ) (blocks : List (List ℕ)) (weights : List ℕ) (jobs : List (List ℕ)) (b : Open)
    (code : List Instruction) (place : ℕ) (heads : List ℕ) (i : ℕ) (x : Instruction)
    → lines_fit n blocks weights jobs b code ≡ true → ((j : ℕ) → j < length blocks → 1 ≤ get_or weights j 0)
    → Matches whole b.clauses b.nest heads → ((j : ℕ) → slice_get code j ≡ slice_get whole (place + j))
    → heads_from place heads code i ≡ heads_at whole (place + i) → slice_get code i ≡ Some x → PlacedAt whole (place + i) x
placed_from whole n blocks weights jobs b [] place heads i x fit some m same e at = cc
placed_from whole n blocks weights jobs b (y ∷ code) place heads zero x fit some m same e at =
    let is : y ≡ x = cc in
    let two = both_true _ _ fit in
    let rest = both_true _ _ two.1 in
    let may = both_true _ _ two.0 in
    record {
      channels = n;
      blocks = blocks;
      weights = weights;
      before = b;
      job = name_given jobs y;
      stands = ap (stands b.clauses b.nest) (sym is) ∙ may.0;
      fits = ap (fits n blocks b) (sym is) ∙ (both_true _ _ may.1).0;
      within = ap (λ l. is_within (with_line weights l (name_given jobs y) b)) (sym is) ∙ rest.0;
      weighs = some;
      matches = subst (Matches whole b.clauses b.nest) e m;
    }
placed_from whole n blocks weights jobs b (y ∷ code) place heads (suc i) x fit some m same e at =
    let here : place + 0 ≡ place = omega arith in
    let up : place + 1 + i ≡ place + suc i = omega arith in
    let onward : (j : ℕ) → place + suc j ≡ place + 1 + j = λ j. omega arith in
    let two = both_true _ _ fit in
    let rest = both_true _ _ two.1 in
    let may = both_true _ _ two.0 in
    let first : slice_get whole place ≡ Some y = ap (slice_get whole) (sym here) ∙ sym (same 0) in
    subst (λ q. PlacedAt whole q x) up
    (placed_from whole n blocks weights jobs (with_line weights y (name_given jobs y) b) code (place + 1) (heads_after place heads y) i x
    rest.1 some
    (matches_step whole place b.clauses b.nest heads y first
    (λ t f. turns_there n blocks b t (ap (fits n blocks b) (sym f) ∙ (both_true _ _ may.1).0)) may.0 m)
    (λ j. same (suc j) ∙ ap (slice_get whole) (onward j))
    (e ∙ ap (heads_at whole) (sym up)) at)

in_blocks : (n : ℕ) (before : List (List ℕ)) (weights : List ℕ) (bs : List Block) (j i : ℕ) (x : Instruction)
    → blocks_fit n before weights bs ≡ true → length before ≡ length weights → AllSome weights
    → slice_get (code_of_block (slice_get bs j)) i ≡ Some x → PlacedAt (code_of_block (slice_get bs j)) i x
in_blocks n before weights [] zero i x fit same some at = cc
in_blocks n before weights [] (suc j) i x fit same some at = cc
in_blocks n before weights (c ∷ bs) zero i x fit same some at =
    let up : 0 + i ≡ i = omega arith in
    let first : (j : ℕ) → j ≡ 0 + j = λ j. omega arith in
    let two = both_true _ _ (both_true _ _ fit).1 in
    subst (λ q. PlacedAt c.code q x) up
    (placed_from c.code n before weights c.jobs (opened c.name) c.code 0 [] i x two.0
    (λ j h. some_at weights j some (omega (arith, h, same))) tt (λ j. ap (slice_get c.code) (first j)) (ap (heads_at c.code) (sym up))
    at)
in_blocks n before weights (c ∷ bs) (suc j) i x fit same some at =
    let longer : length (before ++ c.name ∷ []) ≡ length (weights ++ weight_in weights c ∷ []) = length-append before (c.name ∷ [])
    ∙ ap (λ n. n + 1) same ∙ sym (length-append weights (weight_in weights c ∷ [])) in
    let two = both_true _ _ (both_true _ _ fit).1 in
    in_blocks n (before ++ c.name ∷ []) (weights ++ weight_in weights c ∷ []) bs j i x two.1 longer
    (all_some_push weights (weight_in weights c) some (weight_some weights c)) at

no_line : {A : Type 0} (i : ℕ) (x : Instruction) → slice_get [] i ≡ Some x → A
no_line zero x e = cc
no_line (suc i) x e = cc

-- a line of a coroutine may stand where it stands
pub placed_at : (p : Program) (k i : ℕ) (x : Instruction) → IsProgram p → slice_get (code_of p k) i ≡ Some x → PlacedAt (code_of p k) i x
placed_at p k i x ok at = by_tag (block_of_tag p k) at
  where
    by_tag : (o : Option ℕ) → slice_get (code_at p o) i ≡ Some x → PlacedAt (code_at p o) i x
    by_tag None e = no_line i x e
    by_tag (Some n) e = in_blocks (length p.channels) [] [] p.blocks n i x ok.blocks refl tt e

-- ---- what that says

-- a clause stands in a select
pub clause_in_select : (code : List Instruction) (i : ℕ) (x : Instruction) → PlacedAt code i x → is_clause x ≡ true → (h : ℕ)
    × (hs : List ℕ) × (heads_at code i ≡ h ∷ hs) × (slice_get code h ≡ Some line.Select)
clause_in_select code i x w c = by_clauses w.before.clauses w.stands w.matches
  where
    by_clauses : (o : Option (List ℕ)) → stands o w.before.nest x ≡ true → Matches code o w.before.nest (heads_at code i) → (h : ℕ)
        × (hs : List ℕ) × (heads_at code i ≡ h ∷ hs) × (slice_get code h ≡ Some line.Select)
    by_clauses None s m = absurd (none x c s)
      where
        none : (x : Instruction) → is_clause x ≡ true → stands None w.before.nest x ≡ true → ⊥
        none (line.OnSend c v) e s = cc
        none (line.OnReceive c) e s = cc
        none other e s = cc
    by_clauses (Some cs) s m = (m.0, m.1, m.2, m.3)

-- at an end something is open
pub end_in_open : (code : List Instruction) (i : ℕ) → PlacedAt code i line.End → (h : ℕ) × (hs : List ℕ) × (heads_at code i ≡ h ∷ hs)
end_in_open code i w = by_clauses w.before.clauses w.before.nest (heads_at code i) refl w.stands w.matches
  where
    by_clauses : (o : Option (List ℕ)) (nest heads : List ℕ) → heads_at code i ≡ heads → stands o nest line.End ≡ true
        → Matches code o nest heads → (h : ℕ) × (hs : List ℕ) × (heads_at code i ≡ h ∷ hs)
    by_clauses None [] heads e s m = cc
    by_clauses None (n ∷ nest) [] e s m = absurd m
    by_clauses None (n ∷ nest) (h ∷ hs) e s m = (h, hs, e)
    by_clauses (Some cs) nest heads e s m = (m.0, m.1, e ∙ m.2)

-- a repeat has at least one turn, and not too many
pub repeat_turns : (p : Program) (k i n : ℕ) → IsProgram p → slice_get (code_of p k) i ≡ Some (line.Repeat n) → (1 ≤ n) × (n ≤ 1000000)
repeat_turns p k i n ok at =
    let two = both_true (nat_le 1 n) (nat_le n 1000000) (placed_at p k i (line.Repeat n) ok at).fits in
    (le-from_true 1 n two.0, le-from_true n 1000000 two.1)

-- what a line opens is closed
pub opened_closed : (p : Program) (k i : ℕ) (x : Instruction) → IsProgram p → slice_get (code_of p k) i ≡ Some x → opens_lines x ≡ true
    → (e : ℕ) × (closing_of (code_of p k) i ≡ Some e) × ClosedAt (code_of p k) i e
opened_closed p k i x ok at o = by_some (closing_of (code_of p k) i) refl (by_tag (block_of_tag p k) at)
  where
    by_block : (n : ℕ) (b : Option Block) → slice_get p.blocks n ≡ b → slice_get (code_of_block b) i ≡ Some x
        → is_some (closing_of (code_of_block b) i) ≡ true
    by_block n None f e = no_line i x e
    by_block n (Some b) f e = program-closes p ok n i b x f e o

    by_tag : (t : Option ℕ) → slice_get (code_at p t) i ≡ Some x → is_some (closing_of (code_at p t) i) ≡ true
    by_tag None e = no_line i x e
    by_tag (Some n) e = by_block n (slice_get p.blocks n) refl e

    by_some : (c : Option ℕ) → closing_of (code_of p k) i ≡ c → is_some c ≡ true → (e : ℕ) × (closing_of (code_of p k) i ≡ Some e)
        × ClosedAt (code_of p k) i e
    by_some None f s = cc
    by_some (Some e) f s = (e, f, closed_at (code_of p k) i e x at o f)
