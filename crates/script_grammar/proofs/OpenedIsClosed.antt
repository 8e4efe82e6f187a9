-- What a line of a program opens is closed.
use Rattle.std.proofs.Common.{◌≡◌, ℕ, ◌+◌, ◌-◌, ◌<◌, List, [], ◌∷◌, ◌++◌, refl, ap, sym, ◌∙◌, arith, slice_get, Bool, true, false, Option, Some, None, length, get_or, drop, if◌then◌else◌, zero, suc}
use Rattle.std.specs.Prelude.{not, is_some}
use Rattle.script_grammar.specs.declared.instructions.Instruction.{Instruction}
use Rattle.script_grammar.specs.declared.instructions.Instruction.TheVariants.{Send, TrySend, Receive, TryReceive, Close, CancelChannel, Yield, Launch, Start, Join, Await, Cancel, Fail, SetResult, Repeat, Each, Scope, Select, OnSend, OnReceive, End}
use Rattle.script_grammar.specs.Words.{has_items}
use Rattle.script_grammar.specs.Programs.{Block, Program}
use Rattle.script_grammar.specs.Blocks.{Open, opened, with_line, stands, nest_after, clauses_after, is_end, opens_lines}
use Rattle.script_grammar.specs.WellFormed.{name_given, is_done, lines_fit, weight_in, blocks_fit, IsProgram}
use Rattle.script_grammar.specs.Nesting.{closing_from, closing_of, end_from, one_less, depth_after}
use Rattle.std.proofs.lemmas.Option.{get_or_from_slice_get}
use Rattle.script_grammar.proofs.Truths.{both_true}

abbrev pub extra : Option (List ℕ) → ℕ
extra None = 0
extra (Some cs) = 1

-- how many lines are open
abbrev pub depth_of : List ℕ → Option (List ℕ) → ℕ
depth_of nest clauses = length nest + extra clauses

one_less-is : (n : ℕ) → one_less n ≡ n - 1
one_less-is zero = omega arith
one_less-is (suc n) = omega arith

depth_step : (o : Option (List ℕ)) (nest : List ℕ) (x : Instruction) → stands o nest x ≡ true
    → depth_of (nest_after o nest x) (clauses_after o x) ≡ depth_after x (depth_of nest o)
depth_step None nest (Send c v) e = refl
depth_step (Some cs) nest (Send c v) e = cc
depth_step None nest (TrySend c v) e = refl
depth_step (Some cs) nest (TrySend c v) e = cc
depth_step None nest (Receive c) e = refl
depth_step (Some cs) nest (Receive c) e = cc
depth_step None nest (TryReceive c) e = refl
depth_step (Some cs) nest (TryReceive c) e = cc
depth_step None nest (Close c) e = refl
depth_step (Some cs) nest (Close c) e = cc
depth_step None nest (CancelChannel c) e = refl
depth_step (Some cs) nest (CancelChannel c) e = cc
depth_step None nest Yield e = refl
depth_step (Some cs) nest Yield e = cc
depth_step None nest (Launch p how job) e = refl
depth_step (Some cs) nest (Launch p how job) e = cc
depth_step None nest (Start j) e = refl
depth_step (Some cs) nest (Start j) e = cc
depth_step None nest (Join j) e = refl
depth_step (Some cs) nest (Join j) e = cc
depth_step None nest (Await j) e = refl
depth_step (Some cs) nest (Await j) e = cc
depth_step None nest (Cancel j) e = refl
depth_step (Some cs) nest (Cancel j) e = cc
depth_step None nest (Fail k) e = refl
depth_step (Some cs) nest (Fail k) e = cc
depth_step None nest (SetResult v) e = refl
depth_step (Some cs) nest (SetResult v) e = cc
depth_step None nest (Repeat k) e = omega arith
depth_step (Some cs) nest (Repeat k) e = cc
depth_step None nest (Each c) e = omega arith
depth_step (Some cs) nest (Each c) e = cc
depth_step None nest (Scope supervisor) e = omega arith
depth_step (Some cs) nest (Scope supervisor) e = cc
depth_step None nest Select e = omega arith
depth_step (Some cs) nest Select e = cc
depth_step None nest (OnSend c v) e = cc
depth_step (Some cs) nest (OnSend c v) e = refl
depth_step None nest (OnReceive c) e = cc
depth_step (Some cs) nest (OnReceive c) e = refl
depth_step None [] End e = cc
depth_step None (n ∷ nest) End e = omega (arith, one_less-is (length (n ∷ nest) + 0))
depth_step (Some cs) nest End e = omega (arith, one_less-is (length nest + 1))

depth_after-one_less : (x : Instruction) (d n : ℕ) → is_end x ≡ false → d < n → depth_after x d < depth_after x n
depth_after-one_less x d n e h = by_test (opens_lines x) (is_end x) e
  where
    by_test : (o t : Bool) → t ≡ false → (if o then d + 1 else (if t then one_less d else d)) <
        (if o then n + 1 else (if t then one_less n else n))
    by_test true t f = omega (arith, h)
    by_test false true f = cc
    by_test false false f = h

-- an end stands for no line that opens
end_deeper : (x : Instruction) (n : ℕ) → is_end x ≡ true → depth_after x n ≡ n - 1
end_deeper End n e = one_less-is n
end_deeper other n e = cc

none_open : (jobs : List (List ℕ)) (b : Open) (d : ℕ) → is_done jobs b ≡ true → d < depth_of b.nest b.clauses → ⊥
none_open jobs b d e h =
    let two = both_true _ _ e in
    let more = both_true _ _ two.1 in
    nothing b.nest b.clauses two.0 more.0 h
  where
    nothing : (nest : List ℕ) (o : Option (List ℕ)) → not (has_items nest) ≡ true → not (is_some o) ≡ true → d < depth_of nest o → ⊥
    nothing [] None e f h = omega (arith, h)
    nothing [] (Some cs) e f h = cc
    nothing (n ∷ nest) o e f h = cc

at_line : (x : Instruction) (d i n : ℕ) (code : List Instruction) → d < n
    → ((e j : ℕ) → e < depth_after x n → is_some (closing_from e j code) ≡ true) → is_some (closing_from d i (x ∷ code)) ≡ true
at_line x d i n code h more = by_test (is_end x) d refl h
  where
    by_test : (t : Bool) (d : ℕ) → is_end x ≡ t → d < n → is_some
        (if t then end_from d i (closing_from (one_less d) (i + 1) code) else closing_from (depth_after x d) (i + 1) code) ≡ true
    by_test true zero e h = refl
    by_test true (suc d) e h = more d (i + 1) (omega (arith, end_deeper x n e, h))
    by_test false d e h = more (depth_after x d) (i + 1) (depth_after-one_less x d n e h)

-- as many lines as are open are closed by the rest of the block
pub closed_by : (n : ℕ) (blocks : List (List ℕ)) (weights : List ℕ) (jobs : List (List ℕ)) (b : Open) (code : List Instruction) (d i : ℕ)
    → lines_fit n blocks weights jobs b code ≡ true → d < depth_of b.nest b.clauses → is_some (closing_from d i code) ≡ true
closed_by n blocks weights jobs b [] d i e h = absurd (none_open jobs b d e h)
closed_by n blocks weights jobs b (x ∷ code) d i e h =
    let two = both_true _ _ e in
    let rest = both_true _ _ two.1 in
    let may = (both_true _ _ two.0).0 in
    let next = with_line weights x (name_given jobs x) b in
    let step = depth_step b.clauses b.nest x may in
    at_line x d i (depth_of b.nest b.clauses) code h (λ f j g. closed_by n blocks weights jobs next code f j rest.1
    (omega (arith, step, g)))

opens_deeper : (x : Instruction) (n : ℕ) → opens_lines x ≡ true → depth_after x n ≡ n + 1
opens_deeper x n e = ap (λ b. if b then n + 1 else (if is_end x then one_less n else n)) e

-- each line that opens is closed
pub closes : (n : ℕ) (blocks : List (List ℕ)) (weights : List ℕ) (jobs : List (List ℕ)) (b : Open) (code : List Instruction) (i k : ℕ)
    → lines_fit n blocks weights jobs b code ≡ true → opens_lines (get_or code i End) ≡ true
    → is_some (closing_from 0 k (drop (i + 1) code)) ≡ true
closes n blocks weights jobs b [] i k e o = cc
closes n blocks weights jobs b (y ∷ code) zero k e o =
    let two = both_true _ _ e in
    let rest = both_true _ _ two.1 in
    let step = depth_step b.clauses b.nest y (both_true _ _ two.0).0 in
    let up = opens_deeper y (depth_of b.nest b.clauses) o in
    closed_by n blocks weights jobs (with_line weights y (name_given jobs y) b) code 0 k rest.1 (omega (arith, step, up))
closes n blocks weights jobs b (y ∷ code) (suc i) k e o =
    let two = both_true _ _ e in
    let rest = both_true _ _ two.1 in
    let same : suc i + 1 ≡ suc (i + 1) = omega arith in
    ap (λ m. is_some (closing_from 0 k (drop m (y ∷ code)))) same
    ∙ closes n blocks weights jobs (with_line weights y (name_given jobs y) b) code i k rest.1 o

-- ---- programs

blocks-close : (n : ℕ) (before : List (List ℕ)) (weights : List ℕ) (bs : List Block) (j i : ℕ) (b : Block)
    → blocks_fit n before weights bs ≡ true → slice_get bs j ≡ Some b → opens_lines (get_or b.code i End) ≡ true
    → is_some (closing_of b.code i) ≡ true
blocks-close n before weights [] j i b e at o = cc
blocks-close n before weights (c ∷ bs) zero i b e at o =
    let same : c ≡ b = cc in
    let two = both_true _ _ (both_true _ _ e).1 in
    ap (λ (d : Block). is_some (closing_of d.code i)) (sym same)
    ∙ closes n before weights c.jobs (opened c.name) c.code i (i + 1) two.0 (ap (λ (d : Block). opens_lines (get_or d.code i End)) same ∙ o)
blocks-close n before weights (c ∷ bs) (suc j) i b e at o =
    let two = both_true _ _ (both_true _ _ e).1 in
    blocks-close n (before ++ c.name ∷ []) (weights ++ weight_in weights c ∷ []) bs j i b two.1 at o

-- each line of a program that opens others is closed
pub program-closes : (p : Program) → IsProgram p → (n i : ℕ) (b : Block) (x : Instruction) → slice_get p.blocks n ≡ Some b
    → slice_get b.code i ≡ Some x → opens_lines x ≡ true → is_some (closing_of b.code i) ≡ true
program-closes p ok n i b x at line o = blocks-close (length p.channels) [] [] p.blocks n i b ok.blocks at
    (ap opens_lines (get_or_from_slice_get b.code i x End line) ∙ o)

-- ---- what closes a line is an end behind it

-- an end stands at this place, the first line having the number from
abbrev pub IsEndFrom : ℕ → List Instruction → ℕ → Type 0
IsEndFrom from code k = (j : ℕ) × (k ≡ from + j) × (slice_get code j ≡ Some End)

end_is : (x : Instruction) → is_end x ≡ true → x ≡ End
end_is End e = refl
end_is other e = cc

later_end : (from k : ℕ) (x : Instruction) (code : List Instruction) → IsEndFrom (from + 1) code k → IsEndFrom from (x ∷ code) k
later_end from k x code e = (suc e.0, omega (arith, e.1), e.2)

pub closing_from-end : (d from k : ℕ) (code : List Instruction) → closing_from d from code ≡ Some k → IsEndFrom from code k
closing_from-end d from k [] e = cc
closing_from-end d from k (x ∷ code) e = by_test (is_end x) d refl (λ c f. closing_from-end c (from + 1) k code f) e
  where
    by_test : (t : Bool) (d : ℕ) → is_end x ≡ t → ((c : ℕ) → closing_from c (from + 1) code ≡ Some k → IsEndFrom (from + 1) code k)
        → (if t then end_from d from (closing_from (one_less d) (from + 1) code) else closing_from (depth_after x d) (from + 1) code) ≡
        Some k → IsEndFrom from (x ∷ code) k
    by_test true zero t more f = let here : from ≡ k = cc in (0, omega (arith, here), ap (λ y. Some y) (end_is x t))
    by_test true (suc d) t more f = later_end from k x code (more d f)
    by_test false d t more f = later_end from k x code (more (depth_after x d) f)
