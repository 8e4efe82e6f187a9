-- Lines that close what they open: what they launch, how many scopes they enter, and where they are closed.
use Rattle.std.proofs.Common.{◌≡◌, ℕ, zero, suc, ◌+◌, ◌*◌, ◌≤◌, Bool, false, List, [], ◌∷◌, ◌++◌, length, Some, refl, ap, sym, ◌∙◌, subst, arith, append_assoc, length-append, drop, if◌then◌else◌}
use Rattle.std.proofs.lemmas.List.{append-nil}
use Rattle.std.proofs.Math.Seq.{drop-append-add}
use Rattle.script_grammar.specs.declared.instructions.Instruction.{Instruction}
use Rattle.script_grammar.specs.declared.instructions.Instruction.TheVariants.{Launch, Repeat, Each, Scope, Select, End}
use Rattle.script_grammar.specs.Blocks.{without_end, product, launch_of, listed, opens_lines, is_end}
use Rattle.script_grammar.specs.Nesting.{closing_from, closing_of, end_from, one_less}
use Rattle.script_grammar.specs.Tags.{times_over, launched_from, launched, scopes_from}

-- these lines close what they open, launch these blocks and enter so many scopes; an each and a select launch nothing and enter none
pub data Balanced : List Instruction → List ℕ → ℕ → Type 0 where
  none : Balanced [] [] 0
  line : (x : Instruction) (code : List Instruction) (bs all : List ℕ) (n : ℕ) → opens_lines x ≡ false → is_end x ≡ false
      → Balanced code bs n → all ≡ listed (launch_of x) ++ bs
      → Balanced (x ∷ code) all n
  repeats : (turns : ℕ) (inner rest code : List Instruction) (bs cs all : List ℕ) (m n count : ℕ)
      → Balanced inner bs m → Balanced rest cs n → code ≡ inner ++ End ∷ rest → all ≡ times_over turns bs ++ cs → count ≡ turns * m + n
      → Balanced (Repeat turns ∷ code) all count
  each : (c : ℕ) (inner rest code : List Instruction) (cs : List ℕ) (n : ℕ)
      → Balanced inner [] 0 → Balanced rest cs n → code ≡ inner ++ End ∷ rest
      → Balanced (Each c ∷ code) cs n
  scope : (supervisor : Bool) (inner rest code : List Instruction) (bs cs all : List ℕ) (m n count : ℕ)
      → Balanced inner bs m → Balanced rest cs n → code ≡ inner ++ End ∷ rest → all ≡ bs ++ cs → count ≡ 1 + (m + n)
      → Balanced (Scope supervisor ∷ code) all count
  select : (inner rest code : List Instruction) (cs : List ℕ) (n : ℕ)
      → Balanced inner [] 0 → Balanced rest cs n → code ≡ inner ++ End ∷ rest
      → Balanced (Select ∷ code) cs n

-- ---- one behind the other

behind : (code inner rest more : List Instruction) → code ≡ inner ++ End ∷ rest → code ++ more ≡ inner ++ End ∷ (rest ++ more)
behind code inner rest more e = ap (λ l. l ++ more) e ∙ append_assoc inner (End ∷ rest) more

all_behind : (all js bs cs : List ℕ) → all ≡ js ++ bs → all ++ cs ≡ js ++ (bs ++ cs)
all_behind all js bs cs e = ap (λ l. l ++ cs) e ∙ append_assoc js bs cs

pub Balanced-append : (xs ys : List Instruction) (js bs : List ℕ) (m n : ℕ) → Balanced xs js m → Balanced ys bs n
    → Balanced (xs ++ ys) (js ++ bs) (m + n)
Balanced-append _ ys _ bs _ n Balanced.none h = let same : n ≡ 0 + n = omega arith in subst (Balanced ys bs) same h
Balanced-append _ ys _ bs m n (Balanced.line x code js all _ o e b is) h =
    Balanced.line x (code ++ ys) (js ++ bs) (all ++ bs) (m + n) o e (Balanced-append code ys js bs m n b h)
    (all_behind all (listed (launch_of x)) js bs is)
Balanced-append _ ys _ bs _ n (Balanced.repeats turns inner rest code js cs all m v count b r e is w) h =
    Balanced.repeats turns inner (rest ++ ys) (code ++ ys) js (cs ++ bs) (all
    ++ bs) m (v + n) (count + n) b (Balanced-append rest ys cs bs v n r h) (behind code inner rest ys e)
    (all_behind all (times_over turns js) cs bs is) (omega (arith, w))
Balanced-append _ ys _ bs m n (Balanced.each c inner rest code cs _ b r e) h =
    Balanced.each c inner (rest ++ ys) (code ++ ys) (cs ++ bs) (m + n) b (Balanced-append rest ys cs bs m n r h)
    (behind code inner rest ys e)
Balanced-append _ ys _ bs _ n (Balanced.scope supervisor inner rest code js cs all m v count b r e is w) h =
    Balanced.scope supervisor inner (rest ++ ys) (code ++ ys) js (cs ++ bs) (all
    ++ bs) m (v + n) (count + n) b (Balanced-append rest ys cs bs v n r h) (behind code inner rest ys e) (all_behind all js cs bs is)
    (omega (arith, w))
Balanced-append _ ys _ bs m n (Balanced.select inner rest code cs _ b r e) h =
    Balanced.select inner (rest ++ ys) (code ++ ys) (cs ++ bs) (m + n) b (Balanced-append rest ys cs bs m n r h)
    (behind code inner rest ys e)

-- ---- what they launch

line_launches : (outer : List (ℕ × List ℕ)) (blocks : List ℕ) (x : Instruction) (code : List Instruction) → opens_lines x ≡ false
    → is_end x ≡ false → launched_from outer blocks (x ∷ code) ≡ launched_from outer (blocks ++ listed (launch_of x)) code
line_launches outer blocks (Launch p how job) code o e = refl
line_launches outer blocks (Repeat k) code o e = cc
line_launches outer blocks (Each c) code o e = cc
line_launches outer blocks (Scope supervisor) code o e = cc
line_launches outer blocks Select code o e = cc
line_launches outer blocks End code o e = cc
line_launches outer blocks other code o e = ap (λ l. launched_from outer l code) (sym (append-nil blocks))

pub times_over-none : (n : ℕ) → times_over n [] ≡ []
times_over-none zero = refl
times_over-none (suc n) = times_over-none n

times_over-one : (bs : List ℕ) → times_over 1 bs ≡ bs
times_over-one bs = append-nil bs

after_none : (blocks : List ℕ) (n : ℕ) → blocks ++ times_over n [] ≡ blocks
after_none blocks n = ap (λ l. blocks ++ l) (times_over-none n) ∙ append-nil blocks

-- the lines behind go on with what these launched
pub launched_through : (outer : List (ℕ × List ℕ)) (blocks : List ℕ) (xs more : List Instruction) (js : List ℕ) (m : ℕ) → Balanced xs js m
    → launched_from outer blocks (xs ++ more) ≡ launched_from outer (blocks ++ js) more
launched_through outer blocks _ more _ _ Balanced.none = ap (λ l. launched_from outer l more) (sym (append-nil blocks))
launched_through outer blocks _ more _ _ (Balanced.line x code js all n o e b is) =
    line_launches outer blocks x (code ++ more) o e
    ∙ launched_through outer (blocks ++ listed (launch_of x)) code more js n b
    ∙ ap (λ l. launched_from outer l more) (append_assoc blocks (listed (launch_of x)) js ∙ ap (λ l. blocks ++ l) (sym is))
launched_through outer blocks _ more _ _ (Balanced.repeats turns inner rest code js cs all m n count b r e is w) =
    ap (λ l. launched_from ((turns, blocks) ∷ outer) [] l) (behind code inner rest more e)
    ∙ launched_through ((turns, blocks) ∷ outer) [] inner (End ∷ (rest ++ more)) js m b
    ∙ launched_through outer (blocks ++ times_over turns js) rest more cs n r
    ∙ ap (λ l. launched_from outer l more) (append_assoc blocks (times_over turns js) cs ∙ ap (λ l. blocks ++ l) (sym is))
launched_through outer blocks _ more _ _ (Balanced.each c inner rest code cs n b r e) =
    ap (λ l. launched_from ((without_end, blocks) ∷ outer) [] l) (behind code inner rest more e)
    ∙ launched_through ((without_end, blocks) ∷ outer) [] inner (End ∷ (rest ++ more)) [] 0 b
    ∙ ap (λ l. launched_from outer l (rest ++ more)) (after_none blocks without_end)
    ∙ launched_through outer blocks rest more cs n r
launched_through outer blocks _ more _ _ (Balanced.scope supervisor inner rest code js cs all m n count b r e is w) =
    ap (λ l. launched_from ((1, blocks) ∷ outer) [] l) (behind code inner rest more e)
    ∙ launched_through ((1, blocks) ∷ outer) [] inner (End ∷ (rest ++ more)) js m b
    ∙ ap (λ l. launched_from outer (blocks ++ l) (rest ++ more)) (times_over-one js)
    ∙ launched_through outer (blocks ++ js) rest more cs n r
    ∙ ap (λ l. launched_from outer l more) (append_assoc blocks js cs ∙ ap (λ l. blocks ++ l) (sym is))
launched_through outer blocks _ more _ _ (Balanced.select inner rest code cs n b r e) =
    ap (λ l. launched_from ((1, blocks) ∷ outer) [] l) (behind code inner rest more e)
    ∙ launched_through ((1, blocks) ∷ outer) [] inner (End ∷ (rest ++ more)) [] 0 b
    ∙ ap (λ l. launched_from outer l (rest ++ more)) (after_none blocks 1)
    ∙ launched_through outer blocks rest more cs n r

pub launched-Balanced : (xs : List Instruction) (js : List ℕ) (m : ℕ) → Balanced xs js m → launched xs ≡ js
launched-Balanced xs js m b = ap launched (sym (append-nil xs)) ∙ launched_through [] [] xs [] js m b

-- ---- how many scopes they enter

line_scopes : (nest : List ℕ) (x : Instruction) (code : List Instruction) → opens_lines x ≡ false → is_end x ≡ false
    → scopes_from nest (x ∷ code) ≡ scopes_from nest code
line_scopes nest (Repeat k) code o e = cc
line_scopes nest (Each c) code o e = cc
line_scopes nest (Scope supervisor) code o e = cc
line_scopes nest Select code o e = cc
line_scopes nest End code o e = cc
line_scopes nest other code o e = omega arith

spread : (p t m n : ℕ) → t * p * m + p * n ≡ p * (t * m + n)
spread p t m n = omega arith

nothing : (p n : ℕ) → p * 0 + n ≡ n
nothing p n = omega arith

pub scopes_through : (nest : List ℕ) (xs more : List Instruction) (js : List ℕ) (m : ℕ) → Balanced xs js m
    → scopes_from nest (xs ++ more) ≡ product nest * m + scopes_from nest more
scopes_through nest _ more _ _ Balanced.none = sym (nothing (product nest) (scopes_from nest more))
scopes_through nest _ more _ _ (Balanced.line x code js all n o e b is) = line_scopes nest x (code ++ more) o e
    ∙ scopes_through nest code more js n b
scopes_through nest _ more _ _ (Balanced.repeats turns inner rest code js cs all m n count b r e is w) =
    let p = product nest in
    let s = scopes_from nest more in
    nothing p _
    ∙ ap (λ l. scopes_from (turns ∷ nest) l) (behind code inner rest more e)
    ∙ scopes_through (turns ∷ nest) inner (End ∷ (rest ++ more)) js m b
    ∙ ap (λ v. turns * p * m + v) (nothing (turns * p) _ ∙ scopes_through nest rest more cs n r)
    ∙ joined p turns m n s ∙ ap (λ v. p * v + s) (sym w)
  where
    joined : (p t m n s : ℕ) → t * p * m + (p * n + s) ≡ p * (t * m + n) + s
    joined p t m n s = omega (arith, spread p t m n)
scopes_through nest _ more _ _ (Balanced.each c inner rest code cs n b r e) =
    let p = product nest in
    nothing p _
    ∙ ap (λ l. scopes_from (without_end ∷ nest) l) (behind code inner rest more e)
    ∙ scopes_through (without_end ∷ nest) inner (End ∷ (rest ++ more)) [] 0 b
    ∙ nothing (without_end * p) _ ∙ nothing (without_end * p) _
    ∙ scopes_through nest rest more cs n r
scopes_through nest _ more _ _ (Balanced.scope supervisor inner rest code js cs all m n count b r e is w) =
    let p = product nest in
    let s = scopes_from nest more in
    ap (λ v. p * 1 + v)
    (ap (λ l. scopes_from (1 ∷ nest) l) (behind code inner rest more e)
    ∙ scopes_through (1 ∷ nest) inner (End ∷ (rest ++ more)) js m b
    ∙ ap (λ v. 1 * p * m + v) (nothing (1 * p) _ ∙ scopes_through nest rest more cs n r))
    ∙ joined p m n s ∙ ap (λ v. p * v + s) (sym w)
  where
    joined : (p m n s : ℕ) → p * 1 + (1 * p * m + (p * n + s)) ≡ p * (1 + (m + n)) + s
    joined p m n s = omega arith
scopes_through nest _ more _ _ (Balanced.select inner rest code cs n b r e) =
    let p = product nest in
    nothing p _
    ∙ ap (λ l. scopes_from (1 ∷ nest) l) (behind code inner rest more e)
    ∙ scopes_through (1 ∷ nest) inner (End ∷ (rest ++ more)) [] 0 b
    ∙ nothing (1 * p) _ ∙ nothing (1 * p) _
    ∙ scopes_through nest rest more cs n r

pub scopes_from-Balanced : (xs : List Instruction) (js : List ℕ) (m : ℕ) → Balanced xs js m → scopes_from [] xs ≡ m
scopes_from-Balanced xs js m b = ap (scopes_from []) (sym (append-nil xs)) ∙ scopes_through [] xs [] js m b ∙ once m
  where
    once : (m : ℕ) → 1 * m + 0 ≡ m
    once m = omega arith

-- ---- where they are closed

line_closes : (d i : ℕ) (x : Instruction) (code : List Instruction) → opens_lines x ≡ false → is_end x ≡ false
    → closing_from d i (x ∷ code) ≡ closing_from d (i + 1) code
line_closes d i x code o e =
    ap (λ t. if t then end_from d i (closing_from (one_less d) (i + 1) code) else closing_from
    (if opens_lines x then d + 1 else (if t then one_less d else d)) (i + 1) code) e
    ∙ ap (λ t. closing_from (if t then d + 1 else d) (i + 1) code) o

closed_next : (d i : ℕ) (code : List Instruction) → closing_from (d + 1) i (End ∷ code) ≡ closing_from d (i + 1) code
closed_next d i code = let same : d + 1 ≡ suc d = omega arith in ap (λ n. closing_from n i (End ∷ code)) same

further : (i n : ℕ) → i + 1 + n ≡ i + suc n
further i n = omega arith

-- past the lines between a line that opens and its end, and past that end
within : (d i : ℕ) (inner rest code more : List Instruction) → code ≡ inner ++ End ∷ rest
    → closing_from (d + 1) i (inner ++ End ∷ (rest ++ more)) ≡ closing_from (d + 1) (i + length inner) (End ∷ (rest ++ more))
    → closing_from d (i + length inner + 1) (rest ++ more) ≡ closing_from d (i + length inner + 1 + length rest) more
    → closing_from (d + 1) i (code ++ more) ≡ closing_from d (i + length code) more
within d i inner rest code more e first second =
    let all : length code ≡ length inner + (1 + length rest) = ap length e ∙ length-append inner (End ∷ rest)
    ∙ behind_end (length inner) (length rest) in
    let same : i + length inner + 1 + length rest ≡ i + length code = omega (arith, all) in
    ap (closing_from (d + 1) i) (behind code inner rest more e) ∙ first ∙ closed_next d (i + length inner) (rest ++ more) ∙ second
    ∙ ap (λ n. closing_from d n more) same
  where
    behind_end : (a b : ℕ) → a + suc b ≡ a + (1 + b)
    behind_end a b = omega arith

pub closing_through : (d i : ℕ) (xs more : List Instruction) (js : List ℕ) (m : ℕ) → Balanced xs js m
    → closing_from d i (xs ++ more) ≡ closing_from d (i + length xs) more
closing_through d i _ more _ _ Balanced.none = let same : i ≡ i + 0 = omega arith in ap (λ n. closing_from d n more) same
closing_through d i _ more _ _ (Balanced.line x code js all n o e b is) =
    line_closes d i x (code ++ more) o e ∙ closing_through d (i + 1) code more js n b
    ∙ ap (λ n. closing_from d n more) (further i (length code))
closing_through d i _ more _ _ (Balanced.repeats turns inner rest code js cs all m n count b r e is w) =
    within d (i + 1) inner rest code more e (closing_through (d + 1) (i + 1) inner (End ∷ (rest ++ more)) js m b)
    (closing_through d (i + 1 + length inner + 1) rest more cs n r) ∙ ap (λ n. closing_from d n more) (further i (length code))
closing_through d i _ more _ _ (Balanced.each c inner rest code cs n b r e) =
    within d (i + 1) inner rest code more e (closing_through (d + 1) (i + 1) inner (End ∷ (rest ++ more)) [] 0 b)
    (closing_through d (i + 1 + length inner + 1) rest more cs n r) ∙ ap (λ n. closing_from d n more) (further i (length code))
closing_through d i _ more _ _ (Balanced.scope supervisor inner rest code js cs all m n count b r e is w) =
    within d (i + 1) inner rest code more e (closing_through (d + 1) (i + 1) inner (End ∷ (rest ++ more)) js m b)
    (closing_through d (i + 1 + length inner + 1) rest more cs n r) ∙ ap (λ n. closing_from d n more) (further i (length code))
closing_through d i _ more _ _ (Balanced.select inner rest code cs n b r e) =
    within d (i + 1) inner rest code more e (closing_through (d + 1) (i + 1) inner (End ∷ (rest ++ more)) [] 0 b)
    (closing_through d (i + 1 + length inner + 1) rest more cs n r) ∙ ap (λ n. closing_from d n more) (further i (length code))

-- the line at the head of these is closed by the end behind them
pub closing-Balanced : (i : ℕ) (xs more : List Instruction) (js : List ℕ) (m : ℕ) → Balanced xs js m
    → closing_from 0 i (xs ++ End ∷ more) ≡ Some (i + length xs)
closing-Balanced i xs more js m b = closing_through 0 i xs (End ∷ more) js m b

drop_more : {A : Type 0} (m n : ℕ) (xs : List A) → drop (m + n) xs ≡ drop n (drop m xs)
drop_more zero n xs = let same : 0 + n ≡ n = omega arith in ap (λ k. drop k xs) same
drop_more (suc m) n [] = none_left n (suc m + n) (omega arith)
  where
    none_left : {A : Type 0} (n k : ℕ) → n ≤ k → drop {A = A} k [] ≡ drop n []
    none_left zero zero h = refl
    none_left zero (suc k) h = refl
    none_left (suc n) zero h = absurd (omega (arith, h))
    none_left (suc n) (suc k) h = refl
drop_more (suc m) n (x ∷ xs) = let same : suc m + n ≡ suc (m + n) = omega arith in ap (λ k. drop k (x ∷ xs)) same ∙ drop_more m n xs

pub drop_behind : (code xs more : List Instruction) (i : ℕ) → drop i code ≡ xs ++ End ∷ more → drop (i + length xs + 1) code ≡ more
drop_behind code xs more i e =
    let same : i + length xs + 1 ≡ i + (length xs + 1) = omega arith in
    ap (λ n. drop n code) same ∙ drop_more i (length xs + 1) code ∙ ap (drop (length xs + 1)) e ∙ drop-append-add xs (End ∷ more) 1

-- behind the line that closes what this line opens stand the lines behind that end
pub after_closing : (code xs more : List Instruction) (head e : ℕ) (js : List ℕ) (m : ℕ) → Balanced xs js m → drop (head + 1) code ≡ xs
    ++ End ∷ more → closing_of code head ≡ Some e → drop (e + 1) code ≡ more
after_closing code xs more head e js m b d c =
    let found : closing_of code head ≡ Some (head + 1 + length xs) = ap (closing_from 0 (head + 1)) d
    ∙ closing-Balanced (head + 1) xs more js m b in
    let both_some : Some e ≡ Some (head + 1 + length xs) = sym c ∙ found in
    let same : e ≡ head + 1 + length xs = cc in
    ap (λ n. drop (n + 1) code) same ∙ drop_behind code xs more (head + 1) d
