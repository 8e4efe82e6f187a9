-- The lines of each coroutine of a program close what they open, and launch nothing within an each.
use Rattle.std.proofs.Common.{◌≡◌, ℕ, zero, suc, ◌+◌, ◌*◌, ◌<◌, ◌≤◌, Bool, true, false, nat_lt, List, [], ◌∷◌, ◌++◌, length, Option, Some, None, refl, ap, sym, ◌∙◌, subst, arith, append_assoc, length-append, get_or, slice_get}
use Rattle.std.specs.Prelude.{not, is_some, nat_le}
use Rattle.std.proofs.lemmas.List.{append-nil}
use Rattle.script_grammar.specs.declared.instructions.Instruction.{Instruction}
use Rattle.script_grammar.specs.declared.instructions.Instruction.TheVariants.{Send, TrySend, Receive, TryReceive, Close, CancelChannel, Yield, Launch, Start, Join, Await, Cancel, Fail, SetResult, Repeat, Each, Scope, Select, OnSend, OnReceive, End}
use Rattle.script_grammar.specs.Words.{has_items}
use Rattle.script_grammar.specs.Programs.{Block, Program}
use Rattle.script_grammar.specs.Blocks.{Open, opened, with_line, stands, fits, but_first, own_weight, without_end, product, launch_of, listed, opens_lines, is_end}
use Rattle.script_grammar.specs.WellFormed.{name_given, is_done, lines_fit, with_lines, weight_in, blocks_fit, IsProgram}
use Rattle.script_grammar.specs.Tags.{times_over, launched, scopes_entered, scopes_from, code_of_block, code_at, code_of, block_of_tag}
use Rattle.script_grammar.proofs.Truths.{both_true, lt-from_true, le-from_true, le-from_lt_false}
use Rattle.script_grammar.proofs.NestAfterLines.{open_nest, nest_then, open_nest-line}
use Rattle.script_grammar.proofs.BalancedLines.{Balanced, Balanced-append, launched-Balanced, scopes_from-Balanced, times_over-none}

-- each of these runs at least once
unfoldable EachSome : List ℕ → Type 0
EachSome [] = Unit {0}
EachSome (n ∷ nest) = (1 ≤ n) × EachSome nest

times_some : (n p : ℕ) → 1 ≤ n → p ≤ n * p
times_some zero p h = absurd (omega (arith, h))
times_some (suc n) p h = more n p
  where
    more : (n p : ℕ) → p ≤ suc n * p
    more n p = let same : suc n * p ≡ p + n * p = omega arith in omega (arith, same)

product_some : (nest : List ℕ) → EachSome nest → 1 ≤ product nest
unfolding EachSome
product_some [] h = omega arith
product_some (n ∷ nest) h = let rest = product_some nest h.1 in let more = times_some n (product nest) h.0 in omega (arith, rest, more)

-- ---- the rest of a block, in parts that close what they open

-- lines within others that run so often launch nothing and enter no scope
AreFew : List ℕ → List ℕ → ℕ → Type 0
AreFew nest bs n = 16000 < product nest → (bs ≡ []) × (n ≡ 0)

data Segments : List ℕ → List Instruction → Type 0 where
  last : (code : List Instruction) (bs : List ℕ) (n : ℕ) → Balanced code bs n → Segments [] code
  more : (turns : ℕ) (nest : List ℕ) (seg rest code : List Instruction) (bs : List ℕ) (n : ℕ) → Balanced seg bs n
      → AreFew (turns ∷ nest) bs n → Segments nest rest → code ≡ seg ++ End ∷ rest → Segments (turns ∷ nest) code

few_both : (nest cs bs : List ℕ) (m n : ℕ) → AreFew nest cs m → AreFew nest bs n → AreFew nest (cs ++ bs) (m + n)
unfolding AreFew
few_both nest cs bs m n a b h =
    let x = a h in
    let y = b h in
    (ap (λ l. l ++ bs) x.0 ∙ y.0, omega (arith, x.1, y.1))

front : (nest : List ℕ) (pre code : List Instruction) (cs : List ℕ) (m : ℕ) → Balanced pre cs m → AreFew nest cs m → Segments nest code
    → Segments nest (pre ++ code)
front _ pre _ cs m b few (Segments.last code bs n c) = Segments.last (pre ++ code) (cs
    ++ bs) (m + n) (Balanced-append pre code cs bs m n b c)
front _ pre _ cs m b few (Segments.more turns nest seg rest code bs n c w s e) =
    Segments.more turns nest (pre ++ seg) rest (pre ++ code) (cs
    ++ bs) (m + n) (Balanced-append pre seg cs bs m n b c) (few_both (turns ∷ nest) cs bs m n few w) s
    (ap (λ l. pre ++ l) e ∙ sym (append_assoc pre seg (End ∷ rest)))

-- a line that opens nothing and closes nothing
plain_first : (nest : List ℕ) (x : Instruction) (code : List Instruction) → opens_lines x ≡ false → is_end x ≡ false
    → AreFew nest (listed (launch_of x)) 0 → Segments nest code → Segments nest (x ∷ code)
plain_first nest x code o e few s = front nest (x ∷ []) code (listed (launch_of x)) 0
    (Balanced.line x [] [] (listed (launch_of x)) 0 o e Balanced.none (sym (append-nil (listed (launch_of x))))) few s

none_few : (nest : List ℕ) → AreFew nest [] 0
unfolding AreFew
none_few nest h = (refl, refl)

-- the parts within a line that opens others, and behind it
record Parts (turns : ℕ) (nest : List ℕ) (code : List Instruction) : Type 0 where
  seg : List Instruction
  rest : List Instruction
  bs : List ℕ
  n : ℕ
  balanced : Balanced seg bs n
  few : AreFew (turns ∷ nest) bs n
  behind : Segments nest rest
  all : code ≡ seg ++ End ∷ rest

parts : (turns : ℕ) (nest : List ℕ) (code : List Instruction) → Segments (turns ∷ nest) code → Parts turns nest code
parts _ _ _ (Segments.more turns nest seg rest code bs n c w s e) =
    record { seg = seg; rest = rest; bs = bs; n = n; balanced = c; few = w; behind = s; all = e }

-- the line, what it opens and its end, before the rest
opened_first : (nest : List ℕ) (x : Instruction) (seg rest code : List Instruction) (cs : List ℕ) (m : ℕ) → code ≡ seg ++ End ∷ rest
    → Balanced (x ∷ (seg ++ End ∷ [])) cs m → AreFew nest cs m → Segments nest rest → Segments nest (x ∷ code)
opened_first nest x seg rest code cs m e b few s =
    subst (Segments nest) (ap (λ l. x ∷ l) (append_assoc seg (End ∷ []) rest ∙ sym e))
    (front nest (x ∷ (seg ++ End ∷ [])) rest cs m b few s)

times_more : (turns n : ℕ) → n ≡ 0 → turns * n + 0 ≡ 0
times_more turns n e = ap (λ m. turns * m + 0) e ∙ zero_times turns
  where
    zero_times : (t : ℕ) → t * 0 + 0 ≡ 0
    zero_times t = omega arith

repeat_first : (turns : ℕ) (nest : List ℕ) (code : List Instruction) → 1 ≤ turns → Segments (turns ∷ nest) code
    → Segments nest (Repeat turns ∷ code)
unfolding AreFew
repeat_first turns nest code some s =
    let h = parts turns nest code s in
    opened_first nest (Repeat turns) h.seg h.rest code (times_over turns h.bs ++ []) (turns * h.n + 0) h.all
    (Balanced.repeats turns h.seg [] (h.seg ++ End ∷ []) h.bs [] (times_over turns h.bs
    ++ []) h.n 0 (turns * h.n + 0) h.balanced Balanced.none refl refl refl)
    (λ big. let more = times_some turns (product nest) some in let w = h.few (omega (arith, big, more))
    in (append-nil (times_over turns h.bs) ∙ ap (times_over turns) w.0 ∙ times_over-none turns, times_more turns h.n w.1))
    h.behind

without : (nest : List ℕ) → EachSome nest → 16000 < product (without_end ∷ nest)
without nest h = let some = product_some nest h in omega (arith, some)

idle_within : (nest code : _) → EachSome nest → (h : Parts without_end nest code) → Balanced h.seg [] 0
unfolding AreFew
idle_within nest code some h =
    let w = h.few (without nest some) in
    subst (λ m. Balanced h.seg [] m) w.1 (subst (λ l. Balanced h.seg l h.n) w.0 h.balanced)

each_first : (c : ℕ) (nest : List ℕ) (code : List Instruction) → EachSome nest → Segments (without_end ∷ nest) code
    → Segments nest (Each c ∷ code)
each_first c nest code some s =
    let h = parts without_end nest code s in
    opened_first nest (Each c) h.seg h.rest code [] 0 h.all
    (Balanced.each c h.seg [] (h.seg ++ End ∷ []) [] 0 (idle_within nest code some h) Balanced.none refl) (none_few nest) h.behind

select_first : (nest : List ℕ) (code : List Instruction) → EachSome nest → Segments (without_end ∷ nest) code
    → Segments nest (Select ∷ code)
select_first nest code some s =
    let h = parts without_end nest code s in
    opened_first nest Select h.seg h.rest code [] 0 h.all
    (Balanced.select h.seg [] (h.seg ++ End ∷ []) [] 0 (idle_within nest code some h) Balanced.none refl) (none_few nest) h.behind

scope_first : (supervisor : Bool) (nest : List ℕ) (code : List Instruction) → product nest ≤ 16000 → Segments (1 ∷ nest) code
    → Segments nest (Scope supervisor ∷ code)
unfolding AreFew
scope_first supervisor nest code small s =
    let h = parts 1 nest code s in
    opened_first nest (Scope supervisor) h.seg h.rest code (h.bs ++ []) (1 + (h.n + 0)) h.all
    (Balanced.scope supervisor h.seg [] (h.seg ++ End ∷ []) h.bs [] (h.bs
    ++ []) h.n 0 (1 + (h.n + 0)) h.balanced Balanced.none refl refl refl)
    (λ big. absurd (omega (arith, big, small)))
    h.behind

end_first : (nest : List ℕ) (code : List Instruction) → has_items nest ≡ true → Segments (but_first nest) code → Segments nest (End ∷ code)
end_first [] code h s = cc
end_first (n ∷ nest) code h s = Segments.more n nest [] code (End ∷ code) [] 0 Balanced.none (none_few (n ∷ nest)) s refl

-- ---- one line

-- what is known of a line where these are open
record Allowed (nest : List ℕ) (x : Instruction) : Type 0 where
  some : EachSome nest
  few : AreFew nest (listed (launch_of x)) (scopes_entered x)
  turns : (n : ℕ) → x ≡ Repeat n → 1 ≤ n
  ends : x ≡ End → has_items nest ≡ true

few_scopes : (nest : List ℕ) (supervisor : Bool) → AreFew nest [] 1 → product nest ≤ 16000
unfolding AreFew
few_scopes nest supervisor few = by_test (nat_lt 16000 (product nest)) refl
  where
    by_test : (b : Bool) → nat_lt 16000 (product nest) ≡ b → product nest ≤ 16000
    by_test true e = let no_way : 1 ≡ 0 = (few (lt-from_true 16000 (product nest) e)).1 in absurd (omega (arith, no_way))
    by_test false e = le-from_lt_false 16000 (product nest) e

line_first : (nest : List ℕ) (x : Instruction) (code : List Instruction) → Allowed nest x → Segments (nest_then without_end nest x) code
    → Segments nest (x ∷ code)
line_first nest (Send c v) code h s = plain_first nest (Send c v) code refl refl h.few s
line_first nest (TrySend c v) code h s = plain_first nest (TrySend c v) code refl refl h.few s
line_first nest (Receive c) code h s = plain_first nest (Receive c) code refl refl h.few s
line_first nest (TryReceive c) code h s = plain_first nest (TryReceive c) code refl refl h.few s
line_first nest (Close c) code h s = plain_first nest (Close c) code refl refl h.few s
line_first nest (CancelChannel c) code h s = plain_first nest (CancelChannel c) code refl refl h.few s
line_first nest Yield code h s = plain_first nest Yield code refl refl h.few s
line_first nest (Launch p how job) code h s = plain_first nest (Launch p how job) code refl refl h.few s
line_first nest (Start j) code h s = plain_first nest (Start j) code refl refl h.few s
line_first nest (Join j) code h s = plain_first nest (Join j) code refl refl h.few s
line_first nest (Await j) code h s = plain_first nest (Await j) code refl refl h.few s
line_first nest (Cancel j) code h s = plain_first nest (Cancel j) code refl refl h.few s
line_first nest (Fail k) code h s = plain_first nest (Fail k) code refl refl h.few s
line_first nest (SetResult v) code h s = plain_first nest (SetResult v) code refl refl h.few s
line_first nest (Repeat k) code h s = repeat_first k nest code (h.turns k refl) s
line_first nest (Each c) code h s = each_first c nest code h.some s
line_first nest (Scope supervisor) code h s = scope_first supervisor nest code (few_scopes nest supervisor h.few) s
line_first nest Select code h s = select_first nest code h.some s
line_first nest (OnSend c v) code h s = plain_first nest (OnSend c v) code refl refl h.few s
line_first nest (OnReceive c) code h s = plain_first nest (OnReceive c) code refl refl h.few s
line_first nest End code h s = end_first nest code (h.ends refl) s

some_next : (nest : List ℕ) (x : Instruction) → Allowed nest x → EachSome (nest_then without_end nest x)
unfolding EachSome
some_next nest (Repeat k) h = (h.turns k refl, h.some)
some_next nest (Each c) h = (omega arith, h.some)
some_next nest (Scope supervisor) h = (omega arith, h.some)
some_next nest Select h = (omega arith, h.some)
some_next [] End h = tt
some_next (n ∷ nest) End h = h.some.1
some_next nest other h = h.some

-- ---- what the grammar asks of a line

clause_idle : (cs nest : List ℕ) (x : Instruction) → stands (Some cs) nest x ≡ true → (listed (launch_of x) ≡ []) × (scopes_entered x ≡ 0)
clause_idle cs nest (OnSend c v) e = (refl, refl)
clause_idle cs nest (OnReceive c) e = (refl, refl)
clause_idle cs nest End e = (refl, refl)
clause_idle cs nest other e = cc

some_at : (weights : List ℕ) (i : ℕ) → EachSome weights → i < length weights → 1 ≤ get_or weights i 0
unfolding EachSome
some_at [] i h lt = absurd (omega (arith, lt))
some_at (w ∷ weights) zero h lt = h.0
some_at (w ∷ weights) (suc i) h lt = some_at weights i h.1 (omega (arith, lt))

-- a line that weighs nothing
light : (n : ℕ) (blocks : List (List ℕ)) (weights : List ℕ) (b : Open) (x : Instruction) → length weights ≡ length blocks → EachSome weights
    → fits n blocks b x ≡ true → own_weight weights x ≡ 0 → (listed (launch_of x) ≡ []) × (scopes_entered x ≡ 0)
light n blocks weights b (Send c v) l h f e = (refl, refl)
light n blocks weights b (TrySend c v) l h f e = (refl, refl)
light n blocks weights b (Receive c) l h f e = (refl, refl)
light n blocks weights b (TryReceive c) l h f e = (refl, refl)
light n blocks weights b (Close c) l h f e = (refl, refl)
light n blocks weights b (CancelChannel c) l h f e = (refl, refl)
light n blocks weights b Yield l h f e = (refl, refl)
light n blocks weights b (Launch p how job) l h f e =
    let low = lt-from_true p (length blocks) (both_true (nat_lt p (length blocks)) _ f).0 in
    let some = some_at weights p h (omega (arith, low, l)) in
    absurd (omega (arith, some, e))
light n blocks weights b (Start j) l h f e = (refl, refl)
light n blocks weights b (Join j) l h f e = (refl, refl)
light n blocks weights b (Await j) l h f e = (refl, refl)
light n blocks weights b (Cancel j) l h f e = (refl, refl)
light n blocks weights b (Fail k) l h f e = (refl, refl)
light n blocks weights b (SetResult v) l h f e = (refl, refl)
light n blocks weights b (Repeat k) l h f e = (refl, refl)
light n blocks weights b (Each c) l h f e = (refl, refl)
light n blocks weights b (Scope supervisor) l h f e = absurd (omega (arith, e))
light n blocks weights b Select l h f e = (refl, refl)
light n blocks weights b other l h f e = (refl, refl)

no_weight : (w p own : ℕ) → w + p * own ≤ 16000 → 16000 < p → own ≡ 0
no_weight w p zero h big = refl
no_weight w p (suc own) h big = absurd (omega (arith, more p own, h, big))
  where
    more : (p own : ℕ) → p * suc own ≡ p + p * own
    more p own = omega arith

few_in : (n : ℕ) (blocks : List (List ℕ)) (weights : List ℕ) (b : Open) (x : Instruction) (o : Option (List ℕ)) (nest : List ℕ)
    → length weights ≡ length blocks → EachSome weights → stands o nest x ≡ true → fits n blocks b x ≡ true
    → b.weight + product nest * own_weight weights x ≤ 16000
    → AreFew (open_nest without_end o nest) (listed (launch_of x)) (scopes_entered x)
unfolding AreFew
few_in n blocks weights b x None nest l h e f w big = light n blocks weights b x l h f
    (no_weight b.weight (product nest) (own_weight weights x) w big)
few_in n blocks weights b x (Some cs) nest l h e f w big = clause_idle cs nest x e

end_in : (o : Option (List ℕ)) (nest : List ℕ) → stands o nest End ≡ true → has_items (open_nest without_end o nest) ≡ true
end_in None [] e = cc
end_in None (n ∷ nest) e = refl
end_in (Some cs) nest e = refl

line_allowed : (n : ℕ) (blocks : List (List ℕ)) (weights : List ℕ) (b : Open) (x : Instruction) → length weights ≡ length blocks
    → EachSome weights → EachSome (open_nest without_end b.clauses b.nest) → stands b.clauses b.nest x ≡ true → fits n blocks b x ≡ true
    → b.weight + product b.nest * own_weight weights x ≤ 16000
    → Allowed (open_nest without_end b.clauses b.nest) x
line_allowed n blocks weights b x l h some e f w = record {
  some = some;
  few = few_in n blocks weights b x b.clauses b.nest l h e f w;
  turns = λ m is. le-from_true 1 m (both_true (nat_le 1 m) _ (subst (λ y. fits n blocks b y ≡ true) is f)).0;
  ends = λ is. end_in b.clauses b.nest (subst (λ y. stands b.clauses b.nest y ≡ true) is e);
}

-- ---- the lines of a block

all_closed : (jobs : List (List ℕ)) (b : Open) → is_done jobs b ≡ true → open_nest without_end b.clauses b.nest ≡ []
all_closed jobs b e =
    let two = both_true _ _ e in
    let more = both_true _ _ two.1 in
    nothing b.nest b.clauses two.0 more.0
  where
    nothing : (nest : List ℕ) (o : Option (List ℕ)) → not (has_items nest) ≡ true → not (is_some o) ≡ true
        → open_nest without_end o nest ≡ []
    nothing [] None e f = refl
    nothing [] (Some cs) e f = cc
    nothing (n ∷ nest) o e f = cc

segments : (n : ℕ) (blocks : List (List ℕ)) (weights : List ℕ) (jobs : List (List ℕ)) (b : Open) (code : List Instruction)
    → length weights ≡ length blocks → EachSome weights → EachSome (open_nest without_end b.clauses b.nest)
    → lines_fit n blocks weights jobs b code ≡ true → Segments (open_nest without_end b.clauses b.nest) code
segments n blocks weights jobs b [] l h some e = subst (λ nest. Segments nest []) (sym (all_closed jobs b e))
    (Segments.last [] [] 0 Balanced.none)
segments n blocks weights jobs b (x ∷ code) l h some e =
    let two = both_true _ _ e in
    let rest = both_true _ _ two.1 in
    let line = both_true _ _ two.0 in
    let fit = both_true _ _ line.1 in
    let within = both_true _ _ (both_true _ _ rest.0).1 in
    let next = with_line weights x (name_given jobs x) b in
    let small : next.weight ≤ 16000 = le-from_true next.weight 16000 within.1 in
    let allowed = line_allowed n blocks weights b x l h some line.0 fit.0 small in
    let step = open_nest-line without_end b.clauses b.nest x line.0 in
    line_first (open_nest without_end b.clauses b.nest) x code allowed
    (subst (λ nest. Segments nest code) step
    (segments n blocks weights jobs next code l h (subst EachSome (sym step) (some_next (open_nest without_end b.clauses b.nest) x allowed))
    rest.1))

whole : (code : List Instruction) → Segments [] code → Balanced code (launched code) (scopes_from [] code)
whole _ (Segments.last code bs n b) = subst (λ m. Balanced code (launched code) m) (sym (scopes_from-Balanced code bs n b))
    (subst (λ l. Balanced code l n) (sym (launched-Balanced code bs n b)) b)

-- ---- programs

pub weight_grows : (weights : List ℕ) (jobs : List (List ℕ)) (b : Open) (code : List Instruction)
    → b.weight ≤ (with_lines weights jobs b code).weight
weight_grows weights jobs b [] = omega arith
weight_grows weights jobs b (x ∷ code) = let more = weight_grows weights jobs (with_line weights x (name_given jobs x) b) code
    in omega (arith, more)

some_push : (weights : List ℕ) (w : ℕ) → EachSome weights → 1 ≤ w → EachSome (weights ++ w ∷ [])
unfolding EachSome
some_push [] w h le = (le, tt)
some_push (v ∷ weights) w h le = (h.0, some_push weights w h.1 le)

nothing_open : (name : List ℕ) → EachSome (open_nest without_end (opened name).clauses (opened name).nest)
unfolding EachSome
nothing_open name = tt

blocks-balance : (n : ℕ) (before : List (List ℕ)) (weights : List ℕ) (bs : List Block) (j : ℕ) (b : Block) → length weights ≡ length before
    → EachSome weights → blocks_fit n before weights bs ≡ true → slice_get bs j ≡ Some b
    → Balanced b.code (launched b.code) (scopes_from [] b.code)
blocks-balance n before weights [] j b l h e at = cc
blocks-balance n before weights (c ∷ bs) zero b l h e at =
    let same : c ≡ b = cc in
    let two = both_true _ _ (both_true _ _ e).1 in
    subst (λ (d : Block). Balanced d.code (launched d.code) (scopes_from [] d.code)) same
    (whole c.code (segments n before weights c.jobs (opened c.name) c.code l h (nothing_open c.name) two.0))
blocks-balance n before weights (c ∷ bs) (suc j) b l h e at =
    let two = both_true _ _ (both_true _ _ e).1 in
    let grows = weight_grows weights c.jobs (opened c.name) c.code in
    blocks-balance n (before ++ c.name ∷ []) (weights ++ weight_in weights c ∷ []) bs j b
    (omega (arith, l, length-append weights (weight_in weights c ∷ []), length-append before (c.name ∷ [])))
    (some_push weights (weight_in weights c) h (omega (arith, grows))) two.1 at

none_some : EachSome []
unfolding EachSome
none_some = tt

-- the lines of each coroutine of a program close what they open
pub program-balances : (p : Program) → IsProgram p → (k : ℕ)
    → Balanced (code_of p k) (launched (code_of p k)) (scopes_from [] (code_of p k))
program-balances p ok k = of_tag (block_of_tag p k)
  where
    of_block : (j : ℕ) (o : Option Block) → slice_get p.blocks j ≡ o
        → Balanced (code_of_block o) (launched (code_of_block o)) (scopes_from [] (code_of_block o))
    of_block j None e = Balanced.none
    of_block j (Some b) e = blocks-balance (length p.channels) [] [] p.blocks j b refl none_some ok.blocks e

    of_tag : (o : Option ℕ) → Balanced (code_at p o) (launched (code_at p o)) (scopes_from [] (code_at p o))
    of_tag None = Balanced.none
    of_tag (Some j) = of_block j (slice_get p.blocks j) refl
