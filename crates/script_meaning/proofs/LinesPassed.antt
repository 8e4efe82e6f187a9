-- What is left to be launched after each step through the code: a line behind, into what a line opens, past it, and at its end.
use Rattle.std.proofs.Common.{◌≡◌, ℕ, suc, ◌+◌, ◌*◌, Bool, false, List, [], ◌∷◌, ◌++◌, Some, refl, ap, sym, ◌∙◌, subst, arith, append_assoc, slice_get, drop}
use Rattle.script_grammar.specs.declared.instructions.Instruction.{Instruction}
use Rattle.script_grammar.specs.declared.instructions.Instruction.TheVariants as line
use Rattle.script_grammar.specs.Blocks.{launch_of, listed, opens_lines, is_end}
use Rattle.script_grammar.specs.Nesting.{closing_of}
use Rattle.script_grammar.specs.Tags.{times_over}
use Rattle.script_grammar.proofs.BalancedLines.{Balanced, after_closing}
use Rattle.script_meaning.specs.Configs.{Entered, in_repeat, in_each, in_scope}
use Rattle.script_meaning.proofs.LinesLeft.{Behind, Left, First, left_front, first_line}
use Rattle.script_meaning.proofs.OpenLines.{drop_at}

-- the first line of what is left
pub first_at : (code : List Instruction) (es : List Entered) (i : ℕ) (l : Instruction) (all : List ℕ) (count : ℕ)
    → slice_get code i ≡ Some l → Left code es (drop i code) all count → First code es l (drop (i + 1) code) all count
first_at code es i l all count at h = first_line code es l (drop (i + 1) code) all count
    (subst (λ lines. Left code es lines all count) (drop_at code i l at) h)

-- ---- a line that opens nothing and closes nothing

pub record Next (code : List Instruction) (es : List Entered) (x : Instruction) (lines : List Instruction) (all : List ℕ) (count : ℕ) : Type
    0 where
  pub blocks : List ℕ
  pub left : Left code es lines blocks count
  pub is : all ≡ listed (launch_of x) ++ blocks

pub next_line : (code : List Instruction) (es : List Entered) (x : Instruction) (lines : List Instruction) (all : List ℕ) (count : ℕ)
    → opens_lines x ≡ false → is_end x ≡ false → First code es x lines all count → Next code es x lines all count
next_line code es _ _ _ _ o e (First.plain x lines bs all n f g l a) = record { blocks = bs; left = l; is = a }
next_line code es _ _ _ _ o e (First.repeats turns inner rest lines bs cs all m n count b l d a w) = cc
next_line code es _ _ _ _ o e other = cc

-- ---- into what a line opens, or past it

pub enter_repeat : (code : List Instruction) (es : List Entered) (i turns n : ℕ) (all : List ℕ) (count : ℕ) → turns ≡ suc n
    → First code es (line.Repeat turns) (drop (i + 1) code) all count → Left code (in_repeat i n ∷ es) (drop (i + 1) code) all count
enter_repeat code es i turns n all count e (First.plain _ _ bs _ _ o f l a) = cc
enter_repeat code es i turns n all count e (First.repeats _ inner rest _ bs cs _ m k _ b l d a w) =
    Left.inside (in_repeat i n) es inner rest (drop (i + 1) code) bs (times_over n bs) cs all m (n * m) k count b d
    (Behind.repeat i n inner rest bs (times_over n bs) m (n * m) d b refl refl) l
    (a ∙ ap (λ t. times_over t bs ++ cs) e ∙ append_assoc bs (times_over n bs) cs)
    (w ∙ ap (λ t. t * m + k) e ∙ one_more n m k)
  where
    one_more : (n m k : ℕ) → suc n * m + k ≡ m + (n * m + k)
    one_more n m k = omega arith

pub enter_each : (code : List Instruction) (es : List Entered) (i c : ℕ) (all : List ℕ) (count : ℕ) → slice_get code i ≡ Some (line.Each c)
    → First code es (line.Each c) (drop (i + 1) code) all count → Left code (in_each i ∷ es) (drop (i + 1) code) all count
enter_each code es i c all count at (First.plain _ _ bs _ _ o f l a) = cc
enter_each code es i c all count at (First.each _ inner rest _ _ n b l d) =
    Left.inside (in_each i) es inner rest (drop (i + 1) code) [] [] all all 0 0 count count b d
    (Behind.each i c inner rest (drop_at code i (line.Each c) at ∙ ap (λ k. line.Each c ∷ k) d) b) l refl (omega arith)

pub past_each : (code : List Instruction) (es : List Entered) (i c e : ℕ) (all : List ℕ) (count : ℕ) → closing_of code i ≡ Some e
    → First code es (line.Each c) (drop (i + 1) code) all count → Left code es (drop (e + 1) code) all count
past_each code es i c e all count at (First.plain _ _ bs _ _ o f l a) = cc
past_each code es i c e all count at (First.each _ inner rest _ _ n b l d) =
    subst (λ k. Left code es k all count) (sym (after_closing code inner rest i e [] 0 b d at)) l

pub past_select : (code : List Instruction) (es : List Entered) (i e : ℕ) (all : List ℕ) (count : ℕ) → closing_of code i ≡ Some e
    → First code es line.Select (drop (i + 1) code) all count → Left code es (drop (e + 1) code) all count
past_select code es i e all count at (First.plain _ _ bs _ _ o f l a) = cc
past_select code es i e all count at (First.select inner rest _ _ n b l d) =
    subst (λ k. Left code es k all count) (sym (after_closing code inner rest i e [] 0 b d at)) l

-- a scope is entered, and one less is left
pub enter_scope : (code : List Instruction) (es : List Entered) (i row : ℕ) (supervisor : Bool) (all : List ℕ) (count : ℕ)
    → First code es (line.Scope supervisor) (drop (i + 1) code) all count → (n : ℕ) × (count ≡ suc n)
    × Left code (in_scope i row ∷ es) (drop (i + 1) code) all n
enter_scope code es i row supervisor all count (First.plain _ _ bs _ _ o f l a) = cc
enter_scope code es i row supervisor all count (First.scope _ inner rest _ bs cs _ m n _ b l d a w) = (
  m + n,
  omega (arith, w),
  Left.inside (in_scope i row) es inner rest (drop (i + 1) code) bs [] cs all m 0 n (m + n) b d
      (Behind.scope i row inner rest bs m d b) l a (omega arith),
)

-- ---- at the end of what was entered

not_plain : {A : Type 0} → is_end line.End ≡ false → A
not_plain e = cc

pub end_again : (code : List Instruction) (es more : List Entered) (lines : List Instruction) (head left n : ℕ) (all : List ℕ) (count : ℕ)
    → left ≡ suc n → es ≡ in_repeat head left ∷ more → First code es line.End lines all count
    → Left code (in_repeat head n ∷ more) (drop (head + 1) code) all count
end_again code es more lines head left n all count e is (First.plain _ _ bs _ _ o f l a) = not_plain f
end_again code es more lines head left n all count e is (First.ends x rest _ again cs _ v k _ d h l a w) =
    let same : x ≡ in_repeat head left = cc in
    let around : rest ≡ more = cc in
    of_repeat (subst (λ y. Behind code y lines again v) same h) (subst (λ r. Left code r lines cs k) around l)
  where
    one_more : (n m k : ℕ) → suc n * m + k ≡ m + (n * m + k)
    one_more n m k = omega arith

    of_repeat : Behind code (in_repeat head left) lines again v → Left code more lines cs k
        → Left code (in_repeat head n ∷ more) (drop (head + 1) code) all count
    of_repeat (Behind.repeat _ _ body _ bs _ m _ d b f g) l =
        Left.inside (in_repeat head n) more body lines (drop (head + 1) code) bs (times_over n bs) cs all m (n * m) k count b d
        (Behind.repeat head n body lines bs (times_over n bs) m (n * m) d b refl refl) l
        (a ∙ ap (λ js. js ++ cs) (f ∙ ap (λ t. times_over t bs) e) ∙ append_assoc bs (times_over n bs) cs)
        (w ∙ ap (λ t. t + k) (g ∙ ap (λ t. t * m) e) ∙ one_more n m k)

pub end_last : (code : List Instruction) (es more : List Entered) (lines : List Instruction) (head : ℕ) (all : List ℕ) (count : ℕ)
    → es ≡ in_repeat head 0 ∷ more → First code es line.End lines all count → Left code more lines all count
end_last code es more lines head all count is (First.plain _ _ bs _ _ o f l a) = not_plain f
end_last code es more lines head all count is (First.ends x rest _ again cs _ v k _ d h l a w) =
    let same : x ≡ in_repeat head 0 = cc in
    let around : rest ≡ more = cc in
    of_repeat (subst (λ y. Behind code y lines again v) same h) (subst (λ r. Left code r lines cs k) around l)
  where
    none : (m k : ℕ) → 0 * m + k ≡ k
    none m k = omega arith

    of_repeat : Behind code (in_repeat head 0) lines again v → Left code more lines cs k → Left code more lines all count
    of_repeat (Behind.repeat _ _ body _ bs _ m _ d b f g) l =
        subst (λ t. Left code more lines all t) (sym (w ∙ ap (λ t. t + k) g ∙ none m k))
        (subst (λ js. Left code more lines js k) (sym (a ∙ ap (λ js. js ++ cs) f)) l)

pub end_each : (code : List Instruction) (es more : List Entered) (lines : List Instruction) (head : ℕ) (all : List ℕ) (count : ℕ)
    → es ≡ in_each head ∷ more → First code es line.End lines all count → Left code more (drop head code) all count
end_each code es more lines head all count is (First.plain _ _ bs _ _ o f l a) = not_plain f
end_each code es more lines head all count is (First.ends x rest _ again cs _ v k _ d h l a w) =
    let same : x ≡ in_each head = cc in
    let around : rest ≡ more = cc in
    of_each again v a w (subst (λ y. Behind code y lines again v) same h) (subst (λ r. Left code r lines cs k) around l)
  where
    of_each : (again : List ℕ) (v : ℕ) → all ≡ again ++ cs → count ≡ v + k → Behind code (in_each head) lines again v
        → Left code more lines cs k → Left code more (drop head code) all count
    of_each _ _ a w (Behind.each _ c body _ d b) l =
        let pre = line.Each c ∷ (body ++ line.End ∷ []) in
        let lines_are : pre ++ lines ≡ drop head code = ap (λ r. line.Each c ∷ r) (append_assoc body (line.End ∷ []) lines) ∙ sym d in
        subst (λ r. Left code more r all count) lines_are
        (subst (λ t. Left code more (pre ++ lines) all t) (sym w)
        (subst (λ js. Left code more (pre ++ lines) js (0 + k)) (sym a)
        (left_front code more pre lines [] cs 0 k (Balanced.each c body [] (body ++ line.End ∷ []) [] 0 b Balanced.none refl) l)))

pub end_scope : (code : List Instruction) (es more : List Entered) (lines : List Instruction) (head row e : ℕ) (all : List ℕ) (count : ℕ)
    → es ≡ in_scope head row ∷ more → closing_of code head ≡ Some e → First code es line.End lines all count
    → Left code more (drop (e + 1) code) all count
end_scope code es more lines head row e all count is at (First.plain _ _ bs _ _ o f l a) = not_plain f
end_scope code es more lines head row e all count is at (First.ends x rest _ again cs _ v k _ d h l a w) =
    let same : x ≡ in_scope head row = cc in
    let around : rest ≡ more = cc in
    of_scope again v a w (subst (λ y. Behind code y lines again v) same h) (subst (λ r. Left code r lines cs k) around l)
  where
    none : (k : ℕ) → 0 + k ≡ k
    none k = omega arith

    of_scope : (again : List ℕ) (v : ℕ) → all ≡ again ++ cs → count ≡ v + k → Behind code (in_scope head row) lines again v
        → Left code more lines cs k → Left code more (drop (e + 1) code) all count
    of_scope _ _ a w (Behind.scope _ _ body _ bs m d b) l =
        subst (λ r. Left code more r all count) (sym (after_closing code body lines head e bs m b d at))
        (subst (λ t. Left code more lines all t) (sym (w ∙ none k)) (subst (λ js. Left code more lines js k) (sym a) l))
