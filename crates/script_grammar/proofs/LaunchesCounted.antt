-- What lines launch counts as much as the launches, each as often as the lines round it run.
use Rattle.std.proofs.Common.{◌≡◌, ℕ, zero, suc, ◌+◌, ◌*◌, List, [], ◌∷◌, ◌++◌, refl, ap, sym, ◌∙◌, arith, map}
use Rattle.script_grammar.specs.declared.instructions.Instruction.{Instruction}
use Rattle.script_grammar.specs.declared.instructions.Instruction.TheVariants.{Send, TrySend, Receive, TryReceive, Close, CancelChannel, Yield, Launch, Start, Join, Await, Cancel, Fail, SetResult, Repeat, Each, Scope, Select, OnSend, OnReceive, End}
use Rattle.script_grammar.specs.Programs.{Program}
use Rattle.script_grammar.specs.Blocks.{without_end, product}
use Rattle.script_grammar.specs.Tags.{times_over, closed_all, launched_from, launched, launches_from, sizes_of, size_of}

-- what these instances count
abbrev pub total : (ℕ → ℕ) → List ℕ → ℕ
total count [] = 0
total count (b ∷ bs) = count b + total count bs

pub sizes_of-total : (p : Program) (bs : List ℕ) → sizes_of p bs ≡ total (size_of p) bs
sizes_of-total p [] = refl
sizes_of-total p (b ∷ bs) = ap (λ n. size_of p b + n) (sizes_of-total p bs)

pub total-append : (count : ℕ → ℕ) (js ks : List ℕ) → total count (js ++ ks) ≡ total count js + total count ks
total-append count [] ks = omega arith
total-append count (j ∷ js) ks = omega (arith, total-append count js ks)

total-times : (count : ℕ → ℕ) (n : ℕ) (js : List ℕ) → total count (times_over n js) ≡ n * total count js
total-times count zero js = omega arith
total-times count (suc n) js = omega (arith, total-append count js (times_over n js), total-times count n js)

-- ---- lines that are open

abbrev turns_of : List (ℕ × List ℕ) → List ℕ
turns_of outer = map (λ o. o.0) outer

-- what was launched so far counts so much, where the lines that are open run so often
abbrev worth : (ℕ → ℕ) → List (ℕ × List ℕ) → List ℕ → ℕ
worth count [] js = total count js
worth count (o ∷ outer) js = product (turns_of (o ∷ outer)) * total count js + worth count outer o.1

spread : (p a b : ℕ) → p * (a + b) ≡ p * a + p * b
spread p a b = omega arith

grouped : (p n t : ℕ) → p * (n * t) ≡ n * p * t
grouped p n t = omega arith

once : (n : ℕ) → 1 * n ≡ n
once n = omega arith

worth-append : (count : ℕ → ℕ) (outer : List (ℕ × List ℕ)) (js ks : List ℕ)
    → worth count outer (js ++ ks) ≡ worth count outer js + product (turns_of outer) * total count ks
worth-append count [] js ks = omega (arith, total-append count js ks, once (total count ks))
worth-append count (o ∷ outer) js ks =
    let p = product (turns_of (o ∷ outer)) in
    omega (arith, ap (λ t. p * t) (total-append count js ks), spread p (total count js) (total count ks))

worth-closed : (count : ℕ → ℕ) (o : ℕ × List ℕ) (outer : List (ℕ × List ℕ)) (js : List ℕ)
    → worth count outer (o.1 ++ times_over o.0 js) ≡ worth count (o ∷ outer) js
worth-closed count o outer js =
    let p = product (turns_of outer) in
    omega (
      arith,
      worth-append count outer o.1 (times_over o.0 js),
      ap (λ t. p * t) (total-times count o.0 js),
      grouped p o.0 (total count js),
    )

all_closed : (count : ℕ → ℕ) (outer : List (ℕ × List ℕ)) (js : List ℕ) → total count (closed_all outer js) ≡ worth count outer js
all_closed count [] js = refl
all_closed count (o ∷ outer) js = all_closed count outer (o.1 ++ times_over o.0 js) ∙ worth-closed count o outer js

none : (p n : ℕ) → n ≡ p * 0 + n
none p n = omega arith

opened_worth : (count : ℕ → ℕ) (turns : ℕ) (outer : List (ℕ × List ℕ)) (js : List ℕ)
    → worth count ((turns, js) ∷ outer) [] ≡ worth count outer js
opened_worth count turns outer js = sym (none (product (turns_of ((turns, js) ∷ outer))) (worth count outer js))

-- lines that launch nothing
plain : (p n rest : ℕ) → n + rest ≡ n + (p * 0 + rest)
plain p n rest = omega arith

single : (count : ℕ → ℕ) (b : ℕ) → total count (b ∷ []) ≡ count b
single count b = omega arith

-- how much is launched in all
pub total-launched_from : (count : ℕ → ℕ) (outer : List (ℕ × List ℕ)) (js : List ℕ) (code : List Instruction)
    → total count (launched_from outer js code) ≡ worth count outer js + launches_from count (turns_of outer) code
total-launched_from count outer js [] = omega (arith, all_closed count outer js)
total-launched_from count outer js (Send c v ∷ code) = total-launched_from count outer js code
    ∙ plain (product (turns_of outer)) (worth count outer js) (launches_from count (turns_of outer) code)
total-launched_from count outer js (TrySend c v ∷ code) = total-launched_from count outer js code
    ∙ plain (product (turns_of outer)) (worth count outer js) (launches_from count (turns_of outer) code)
total-launched_from count outer js (Receive c ∷ code) = total-launched_from count outer js code
    ∙ plain (product (turns_of outer)) (worth count outer js) (launches_from count (turns_of outer) code)
total-launched_from count outer js (TryReceive c ∷ code) = total-launched_from count outer js code
    ∙ plain (product (turns_of outer)) (worth count outer js) (launches_from count (turns_of outer) code)
total-launched_from count outer js (Close c ∷ code) = total-launched_from count outer js code
    ∙ plain (product (turns_of outer)) (worth count outer js) (launches_from count (turns_of outer) code)
total-launched_from count outer js (CancelChannel c ∷ code) = total-launched_from count outer js code
    ∙ plain (product (turns_of outer)) (worth count outer js) (launches_from count (turns_of outer) code)
total-launched_from count outer js (Yield ∷ code) = total-launched_from count outer js code
    ∙ plain (product (turns_of outer)) (worth count outer js) (launches_from count (turns_of outer) code)
total-launched_from count outer js (Launch p how job ∷ code) =
    let n = product (turns_of outer) in
    omega (
      arith,
      total-launched_from count outer (js ++ p ∷ []) code,
      worth-append count outer js (p ∷ []),
      ap (λ t. n * t) (single count p),
    )
total-launched_from count outer js (Start j ∷ code) = total-launched_from count outer js code
    ∙ plain (product (turns_of outer)) (worth count outer js) (launches_from count (turns_of outer) code)
total-launched_from count outer js (Join j ∷ code) = total-launched_from count outer js code
    ∙ plain (product (turns_of outer)) (worth count outer js) (launches_from count (turns_of outer) code)
total-launched_from count outer js (Await j ∷ code) = total-launched_from count outer js code
    ∙ plain (product (turns_of outer)) (worth count outer js) (launches_from count (turns_of outer) code)
total-launched_from count outer js (Cancel j ∷ code) = total-launched_from count outer js code
    ∙ plain (product (turns_of outer)) (worth count outer js) (launches_from count (turns_of outer) code)
total-launched_from count outer js (Fail k ∷ code) = total-launched_from count outer js code
    ∙ plain (product (turns_of outer)) (worth count outer js) (launches_from count (turns_of outer) code)
total-launched_from count outer js (SetResult v ∷ code) = total-launched_from count outer js code
    ∙ plain (product (turns_of outer)) (worth count outer js) (launches_from count (turns_of outer) code)
total-launched_from count outer js (Repeat k ∷ code) = total-launched_from count ((k, js) ∷ outer) [] code
    ∙ ap (λ n. n + launches_from count (k ∷ turns_of outer) code) (opened_worth count k outer js)
    ∙ plain (product (turns_of outer)) (worth count outer js) (launches_from count (k ∷ turns_of outer) code)
total-launched_from count outer js (Each c ∷ code) = total-launched_from count ((without_end, js) ∷ outer) [] code
    ∙ ap (λ n. n + launches_from count (without_end ∷ turns_of outer) code) (opened_worth count without_end outer js)
    ∙ plain (product (turns_of outer)) (worth count outer js) (launches_from count (without_end ∷ turns_of outer) code)
total-launched_from count outer js (Scope supervisor ∷ code) = total-launched_from count ((1, js) ∷ outer) [] code
    ∙ ap (λ n. n + launches_from count (1 ∷ turns_of outer) code) (opened_worth count 1 outer js)
    ∙ plain (product (turns_of outer)) (worth count outer js) (launches_from count (1 ∷ turns_of outer) code)
total-launched_from count outer js (Select ∷ code) = total-launched_from count ((1, js) ∷ outer) [] code
    ∙ ap (λ n. n + launches_from count (1 ∷ turns_of outer) code) (opened_worth count 1 outer js)
    ∙ plain (product (turns_of outer)) (worth count outer js) (launches_from count (1 ∷ turns_of outer) code)
total-launched_from count outer js (OnSend c v ∷ code) = total-launched_from count outer js code
    ∙ plain (product (turns_of outer)) (worth count outer js) (launches_from count (turns_of outer) code)
total-launched_from count outer js (OnReceive c ∷ code) = total-launched_from count outer js code
    ∙ plain (product (turns_of outer)) (worth count outer js) (launches_from count (turns_of outer) code)
total-launched_from count [] js (End ∷ code) = total-launched_from count [] js code
    ∙ plain (product []) (total count js) (launches_from count [] code)
total-launched_from count (o ∷ outer) js (End ∷ code) = total-launched_from count outer (o.1 ++ times_over o.0 js) code
    ∙ ap (λ n. n + launches_from count (turns_of outer) code) (worth-closed count o outer js)
    ∙ plain (product (turns_of (o ∷ outer))) (worth count (o ∷ outer) js) (launches_from count (turns_of outer) code)

pub total-launched : (count : ℕ → ℕ) (code : List Instruction) → total count (launched code) ≡ launches_from count [] code
total-launched count code = total-launched_from count [] [] code ∙ nothing_before (launches_from count [] code)
  where
    nothing_before : (n : ℕ) → 0 + n ≡ n
    nothing_before n = omega arith

pub sizes_of-launched : (p : Program) (code : List Instruction) → sizes_of p (launched code) ≡ launches_from (size_of p) [] code
sizes_of-launched p code = sizes_of-total p (launched code) ∙ total-launched (size_of p) code
