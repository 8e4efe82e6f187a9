-- What the lines launch that a coroutine has still to run, and how many scopes they enter, by what it has entered and not left.
use Rattle.std.proofs.Common.{◌≡◌, ℕ, ◌+◌, ◌*◌, Bool, false, List, [], ◌∷◌, ◌++◌, refl, ap, sym, ◌∙◌, subst, arith, append_assoc, drop}
use Rattle.std.proofs.lemmas.List.{append-nil}
use Rattle.script_grammar.specs.declared.instructions.Instruction.{Instruction}
use Rattle.script_grammar.specs.declared.instructions.Instruction.TheVariants as line
use Rattle.script_grammar.specs.Blocks.{launch_of, listed, opens_lines, is_end}
use Rattle.script_grammar.specs.Tags.{times_over}
use Rattle.script_grammar.proofs.BalancedLines.{Balanced, Balanced-append}
use Rattle.script_meaning.specs.Configs.{Entered, in_repeat, in_each, in_scope}

-- behind the end of what was entered come these lines, and before them its turns that are left: so much is launched, so many scopes are
-- entered
pub data Behind (code : List Instruction) : Entered → List Instruction → List ℕ → ℕ → Type 0 where
  repeat : (head left : ℕ) (body rest : List Instruction) (bs again : List ℕ) (n scopes : ℕ)
      → drop (head + 1) code ≡ body ++ line.End ∷ rest → Balanced body bs n → again ≡ times_over left bs → scopes ≡ left * n
      → Behind code (in_repeat head left) rest again scopes
  each : (head c : ℕ) (body rest : List Instruction) → drop head code ≡ line.Each c ∷ (body ++ line.End ∷ rest) → Balanced body [] 0
      → Behind code (in_each head) rest [] 0
  scope : (head row : ℕ) (body rest : List Instruction) (bs : List ℕ) (n : ℕ) → drop (head + 1) code ≡ body ++ line.End ∷ rest
      → Balanced body bs n
      → Behind code (in_scope head row) rest [] 0

-- from these lines on, this much is left: up to the end of the innermost that was entered, its turns, and then on outside
pub data Left (code : List Instruction) : List Entered → List Instruction → List ℕ → ℕ → Type 0 where
  outside : (lines : List Instruction) (bs : List ℕ) (n : ℕ) → Balanced lines bs n → Left code [] lines bs n
  inside : (e : Entered) (es : List Entered) (seg rest lines : List Instruction) (bs again cs all : List ℕ) (m v n count : ℕ)
      → Balanced seg bs m → lines ≡ seg ++ line.End ∷ rest → Behind code e rest again v → Left code es rest cs n
      → all ≡ bs ++ (again ++ cs) → count ≡ m + (v + n)
      → Left code (e ∷ es) lines all count

-- lines that close what they open, before the others
pub left_front : (code : List Instruction) (es : List Entered) (pre lines : List Instruction) (js bs : List ℕ) (m n : ℕ) → Balanced pre js m
    → Left code es lines bs n → Left code es (pre ++ lines) (js ++ bs) (m + n)
left_front code _ pre _ js _ m _ b (Left.outside lines bs n c) =
    Left.outside (pre ++ lines) (js ++ bs) (m + n) (Balanced-append pre lines js bs m n b c)
left_front code _ pre _ js _ m _ b (Left.inside e es seg rest lines bs again cs all k v n count c is h l a w) =
    Left.inside e es (pre ++ seg) rest (pre ++ lines) (js ++ bs) again cs (js
    ++ all) (m + k) v n (m + count) (Balanced-append pre seg js bs m k b c)
    (ap (λ x. pre ++ x) is ∙ sym (append_assoc pre seg (line.End ∷ rest))) h l (ap (λ x. js ++ x) a
    ∙ sym (append_assoc js bs (again ++ cs))) (omega (arith, w))

-- ---- by the first line that is left

-- the line x, and what is left behind it
pub data First (code : List Instruction) (es : List Entered) : Instruction → List Instruction → List ℕ → ℕ → Type 0 where
  plain : (x : Instruction) (lines : List Instruction) (bs all : List ℕ) (n : ℕ) → opens_lines x ≡ false → is_end x ≡ false
      → Left code es lines bs n → all ≡ listed (launch_of x) ++ bs
      → First code es x lines all n
  repeats : (turns : ℕ) (inner rest lines : List Instruction) (bs cs all : List ℕ) (m n count : ℕ)
      → Balanced inner bs m → Left code es rest cs n → lines ≡ inner ++ line.End ∷ rest → all ≡ times_over turns bs ++ cs
      → count ≡ turns * m + n
      → First code es (line.Repeat turns) lines all count
  each : (c : ℕ) (inner rest lines : List Instruction) (cs : List ℕ) (n : ℕ)
      → Balanced inner [] 0 → Left code es rest cs n → lines ≡ inner ++ line.End ∷ rest
      → First code es (line.Each c) lines cs n
  scope : (supervisor : Bool) (inner rest lines : List Instruction) (bs cs all : List ℕ) (m n count : ℕ)
      → Balanced inner bs m → Left code es rest cs n → lines ≡ inner ++ line.End ∷ rest → all ≡ bs ++ cs → count ≡ 1 + (m + n)
      → First code es (line.Scope supervisor) lines all count
  select : (inner rest lines : List Instruction) (cs : List ℕ) (n : ℕ)
      → Balanced inner [] 0 → Left code es rest cs n → lines ≡ inner ++ line.End ∷ rest
      → First code es line.Select lines cs n
  ends : (e : Entered) (rest : List Entered) (lines : List Instruction) (again cs all : List ℕ) (v n count : ℕ)
      → es ≡ e ∷ rest → Behind code e lines again v → Left code rest lines cs n → all ≡ again ++ cs → count ≡ v + n
      → First code es line.End lines all count

behind : (lines inner rest more : List Instruction) → lines ≡ inner ++ line.End ∷ rest → lines ++ more ≡ inner ++ line.End ∷ (rest ++ more)
behind lines inner rest more e = ap (λ l. l ++ more) e ∙ append_assoc inner (line.End ∷ rest) more

joined : (all js bs cs : List ℕ) → all ≡ js ++ bs → all ++ cs ≡ js ++ (bs ++ cs)
joined all js bs cs e = ap (λ l. l ++ cs) e ∙ append_assoc js bs cs

-- lines that close what they open and are not none, before what is left
first_of : (code : List Instruction) (es : List Entered) (x : Instruction) (seg lines rest : List Instruction) (bs cs : List ℕ) (m n : ℕ)
    → ((pre : List Instruction) (js : List ℕ) (k : ℕ) → Balanced pre js k → Left code es (pre ++ rest) (js ++ cs) (k + n))
    → Balanced (x ∷ seg) bs m → lines ≡ seg ++ rest → First code es x lines (bs ++ cs) (m + n)
first_of code es x _ lines rest _ cs _ n more (Balanced.line _ seg bs all m o e b is) at =
    First.plain x lines (bs ++ cs) (all ++ cs) (m + n) o e (subst (λ l. Left code es l (bs ++ cs) (m + n)) (sym at) (more seg bs m b))
    (joined all (listed (launch_of x)) bs cs is)
first_of code es _ _ lines rest _ cs _ n more (Balanced.repeats turns inner next seg bs ds all m k count b r e is w) at =
    First.repeats turns inner (next ++ rest) lines bs (ds ++ cs) (all ++ cs) m (k + n) (count + n) b (more next ds k r) (at
    ∙ behind seg inner next rest e) (joined all (times_over turns bs) ds cs is) (omega (arith, w))
first_of code es _ _ lines rest _ cs _ n more (Balanced.each c inner next seg ds k b r e) at =
    First.each c inner (next ++ rest) lines (ds ++ cs) (k + n) b (more next ds k r) (at ∙ behind seg inner next rest e)
first_of code es _ _ lines rest _ cs _ n more (Balanced.scope supervisor inner next seg bs ds all m k count b r e is w) at =
    First.scope supervisor inner (next ++ rest) lines bs (ds ++ cs) (all ++ cs) m (k + n) (count + n) b (more next ds k r) (at
    ∙ behind seg inner next rest e) (joined all bs ds cs is) (omega (arith, w))
first_of code es _ _ lines rest _ cs _ n more (Balanced.select inner next seg ds k b r e) at =
    First.select inner (next ++ rest) lines (ds ++ cs) (k + n) b (more next ds k r) (at ∙ behind seg inner next rest e)

nothing_more : (n : ℕ) → n + 0 ≡ n
nothing_more n = omega arith

pub first_line : (code : List Instruction) (es : List Entered) (x : Instruction) (lines : List Instruction) (all : List ℕ) (count : ℕ)
    → Left code es (x ∷ lines) all count → First code es x lines all count
first_line code _ x lines _ _ (Left.outside _ bs n b) =
    subst (λ l. First code [] x lines l n) (append-nil bs)
    (subst (λ k. First code [] x lines (bs ++ []) k) (nothing_more n)
    (first_of code [] x lines lines [] bs [] n 0 (λ pre js k c. left_front code [] pre [] js [] k 0 c (Left.outside [] [] 0 Balanced.none))
    b (sym (append-nil lines))))
first_line code _ x lines _ _ (Left.inside e es seg rest _ bs again cs all m v n count b is h l a w) = by_seg seg bs m b is a w
  where
    behind_end : Left code (e ∷ es) (line.End ∷ rest) (again ++ cs) (v + n)
    behind_end = Left.inside e es [] rest (line.End ∷ rest) [] again cs (again
        ++ cs) 0 v n (v + n) Balanced.none refl h l refl (omega arith)

    of_line : (y : Instruction) (seg : List Instruction) (bs : List ℕ) (m : ℕ) → x ∷ lines ≡ (y ∷ seg) ++ line.End ∷ rest → all ≡ bs
        ++ (again ++ cs) → count ≡ m + (v + n) → Balanced (y ∷ seg) bs m → First code (e ∷ es) x lines all count
    of_line y seg bs m is a w c =
        let first : x ≡ y = cc in
        let rest_is : lines ≡ seg ++ line.End ∷ rest = cc in
        subst (λ z. First code (e ∷ es) z lines all count) (sym first)
        (subst (λ k. First code (e ∷ es) y lines k count) (sym a)
        (subst (λ k. First code (e ∷ es) y lines (bs ++ (again ++ cs)) k) (sym w)
        (first_of code (e ∷ es) y seg lines (line.End ∷ rest) bs (again
        ++ cs) m (v + n) (λ pre js k d. left_front code (e ∷ es) pre (line.End ∷ rest) js (again ++ cs) k (v + n) d behind_end) c
        rest_is)))

    by_seg : (seg : List Instruction) (bs : List ℕ) (m : ℕ) → Balanced seg bs m → x ∷ lines ≡ seg ++ line.End ∷ rest → all ≡ bs
        ++ (again ++ cs) → count ≡ m + (v + n) → First code (e ∷ es) x lines all count
    by_seg _ _ _ Balanced.none is a w =
        let first : x ≡ line.End = cc in
        let rest_is : lines ≡ rest = cc in
        subst (λ y. First code (e ∷ es) y lines all count) (sym first)
        (subst (λ k. First code (e ∷ es) line.End k all count) (sym rest_is)
        (First.ends e es rest again cs all v n count refl h l a (omega (arith, w))))
    by_seg _ bs m (Balanced.line y seg ds some k o f c j) is a w = of_line y seg bs m is a w (Balanced.line y seg ds some k o f c j)
    by_seg _ bs m (Balanced.repeats t inner next seg ds es2 some k r u c d f j y) is a w =
        of_line (line.Repeat t) seg bs m is a w (Balanced.repeats t inner next seg ds es2 some k r u c d f j y)
    by_seg _ bs m (Balanced.each t inner next seg ds k c d f) is a w =
        of_line (line.Each t) seg bs m is a w (Balanced.each t inner next seg ds k c d f)
    by_seg _ bs m (Balanced.scope t inner next seg ds es2 some k r u c d f j y) is a w =
        of_line (line.Scope t) seg bs m is a w (Balanced.scope t inner next seg ds es2 some k r u c d f j y)
    by_seg _ bs m (Balanced.select inner next seg ds k c d f) is a w =
        of_line line.Select seg bs m is a w (Balanced.select inner next seg ds k c d f)
