-- How many names of Jobs are given before a line; inside an each or a select none is given.
use Rattle.std.specs.Prelude.{◌≡◌, ◌≢◌, ℕ, zero, suc, ◌+◌, ◌-◌, ◌*◌, ◌<◌, ◌≤◌, nat_lt, nat_le, true, List, [], ◌∷◌, ◌++◌, length, Option, Some, None, slice_get, get_or, refl}
use Rattle.std.proofs.Common.{sym, ap, ◌∙◌, subst, arith}
use Rattle.std.proofs.lemmas.Nat.{mul-le}
use Rattle.std.proofs.lemmas.Option.{slice_get_within}
use Rattle.script_grammar.specs.declared.instructions.Launching.{Launching}
use Rattle.script_grammar.specs.declared.instructions.Instruction.{Instruction}
use Rattle.script_grammar.specs.declared.instructions.Instruction.TheVariants as line
use Rattle.script_grammar.specs.Programs.{Program}
use Rattle.script_grammar.specs.Blocks.{Open, with_line, stands, fits, job_given, job_used, opens_lines, turns, product, own_weight}
use Rattle.script_grammar.specs.WellFormed.{is_within, few_clauses, IsProgram}
use Rattle.script_grammar.specs.Nesting.{closing_of}
use Rattle.script_grammar.specs.Declarations.{is_below, is_next_job, jobs_after_name, knows_jobs}
use Rattle.script_grammar.specs.Tags.{code_of}
use Rattle.script_grammar.proofs.Truths.{both_true, le-from_true, lt-from_true}
use Rattle.script_meaning.specs.Inside.{heads_at, heads_after}
use Rattle.script_meaning.proofs.OpenLines.{LineKind, line_kind, line_at, heads_next, heads_open, heads_other, end_closes_first, closed_at}
use Rattle.script_meaning.proofs.LinesPlaced.{AreTurns, Matches, PlacedAt, placed_at}

-- ---- how many names are given

-- after so many of these lines, which follow on n names
abbrev pub names_from : ℕ → List Instruction → ℕ → ℕ
names_from n code zero = n
names_from n [] (suc i) = n
names_from n (x ∷ code) (suc i) = names_from (jobs_after_name n (job_given x)) code i

-- before this line
abbrev pub names_at : List Instruction → ℕ → ℕ
names_at code i = names_from 0 code i

names_step : (n : ℕ) (code : List Instruction) (i : ℕ) (x : Instruction) → slice_get code i ≡ Some x
    → names_from n code (suc i) ≡ jobs_after_name (names_from n code i) (job_given x)
names_step n [] i x at = cc
names_step n (y ∷ code) zero x at = let same : y ≡ x = cc in ap (λ l. jobs_after_name n (job_given l)) same
names_step n (y ∷ code) (suc i) x at = names_step (jobs_after_name n (job_given y)) code i x at

pub names_next : (code : List Instruction) (i : ℕ) (x : Instruction) → slice_get code i ≡ Some x
    → names_at code (i + 1) ≡ jobs_after_name (names_at code i) (job_given x)
names_next code i x at = let up : i + 1 ≡ suc i = omega arith in ap (names_at code) up ∙ names_step 0 code i x at

pub names_none : (code : List Instruction) (i : ℕ) (x : Instruction) → slice_get code i ≡ Some x → job_given x ≡ None
    → names_at code (i + 1) ≡ names_at code i
names_none code i x at n = names_next code i x at ∙ ap (jobs_after_name (names_at code i)) n

-- a line uses a name that was given, and gives the next
knows_from : (n : ℕ) (code : List Instruction) (i : ℕ) (x : Instruction) → knows_jobs n code ≡ true → slice_get code i ≡ Some x
    → (is_below (names_from n code i) (job_used x) ≡ true) × (is_next_job (names_from n code i) (job_given x) ≡ true)
knows_from n [] i x k at = cc
knows_from n (y ∷ code) zero x k at =
    let same : y ≡ x = cc in
    let two = both_true (is_below n (job_used y)) _ k in
    let more = both_true (is_next_job n (job_given y)) _ two.1 in
    (ap (λ l. is_below n (job_used l)) (sym same) ∙ two.0, ap (λ l. is_next_job n (job_given l)) (sym same) ∙ more.0)
knows_from n (y ∷ code) (suc i) x k at =
    let two = both_true (is_below n (job_used y)) _ k in
    let more = both_true (is_next_job n (job_given y)) _ two.1 in
    knows_from (jobs_after_name n (job_given y)) code i x more.1 at

pub knows_at : (code : List Instruction) (i : ℕ) (x : Instruction) → knows_jobs 0 code ≡ true → slice_get code i ≡ Some x
    → (is_below (names_at code i) (job_used x) ≡ true) × (is_next_job (names_at code i) (job_given x) ≡ true)
knows_at code i x k at = knows_from 0 code i x k at

-- ---- past a line and what it opens

-- up to its end the line stays open, and if none is given inside there are as many names
record Between (code : List Instruction) (i j : ℕ) : Type 0 where
  within : List ℕ
  open_still : heads_at code j ≡ within ++ i ∷ heads_at code i
  names : names_at code j ≡ names_at code (i + 1)

-- none of the lines inside gives a name
abbrev pub GivesNone : List Instruction → ℕ → Type 0
GivesNone code i = (j : ℕ) (x : Instruction) (ds hs : List ℕ) → slice_get code j ≡ Some x → heads_at code j ≡ ds ++ i ∷ hs
    → job_given x ≡ None

between_next : (code : List Instruction) (i e j : ℕ) (x : Instruction) → closing_of code i ≡ Some e → GivesNone code i
    → slice_get code j ≡ Some x → j ≢ e → Between code i j → Between code i (j + 1)
between_next code i e j x c none at n b = by_kind (line_kind x)
  where
    same : names_at code (j + 1) ≡ names_at code (i + 1)
    same = names_none code j x at (none j x b.within (heads_at code i) at b.open_still) ∙ b.names

    at_end : (ds : List ℕ) → x ≡ line.End → heads_at code j ≡ ds ++ i ∷ heads_at code i → Between code i (j + 1)
    at_end [] f o =
        let closes = end_closes_first code j i (heads_at code i) (at ∙ ap (λ l. Some l) f) o in
        absurd (n (let both_ways : Some j ≡ Some e = sym closes ∙ c in cc))
    at_end (d ∷ ds) f o =
        record {
          within = ds;
          open_still = heads_next code j x at ∙ ap (heads_after j (heads_at code j)) f ∙ ap (λ l. heads_after j l line.End) o;
          names = same;
        }

    by_kind : LineKind x → Between code i (j + 1)
    by_kind (LineKind.opens o f) =
        record {
          within = j ∷ b.within;
          open_still = heads_next code j x at ∙ heads_open j (heads_at code j) x o
              ∙ ap (λ l. j ∷ l) b.open_still;
          names = same;
        }
    by_kind (LineKind.closes f) = at_end b.within f b.open_still
    by_kind (LineKind.other o f) = record {
      within = b.within;
      open_still = heads_next code j x at ∙ heads_other j (heads_at code j) x o f
          ∙ b.open_still;
      names = same;
    }

between : (code : List Instruction) (i e d : ℕ) (l : Instruction) → slice_get code i ≡ Some l → opens_lines l ≡ true
    → closing_of code i ≡ Some e → e < length code → GivesNone code i → i + 1 + d ≤ e → Between code i (i + 1 + d)
between code i e zero l at o c lt none le =
    let here : i + 1 ≡ i + 1 + 0 = omega arith in
    subst (Between code i) here (record {
      within = [];
      open_still = heads_next code i l at
          ∙ heads_open i (heads_at code i) l o;
      names = refl;
    })
between code i e (suc d) l at o c lt none le =
    let before : i + 1 + d ≤ e = omega (arith, le) in
    let short : i + 1 + d < length code = omega (arith, le, lt) in
    let other : i + 1 + d ≢ e = λ f. omega (arith, le, f) in
    let up : i + 1 + d + 1 ≡ i + 1 + suc d = omega arith in
    let x = line_at code (i + 1 + d) short in
    subst (Between code i) up (between_next code i e (i + 1 + d) x.0 c none x.1 other (between code i e d l at o c lt none before))

-- behind its end there are as many names as before the line
pub names_past : (code : List Instruction) (i e : ℕ) (l : Instruction) → slice_get code i ≡ Some l → opens_lines l ≡ true
    → job_given l ≡ None → closing_of code i ≡ Some e → GivesNone code i → names_at code (e + 1) ≡ names_at code i
names_past code i e l at o n c none =
    let closed = closed_at code i e l at o c in
    let short = slice_get_within code e line.End closed.is_end in
    let sum : i + 1 + (e - (i + 1)) ≡ e = omega (arith, closed.behind) in
    let low : i + 1 + (e - (i + 1)) ≤ e = omega (arith, sum) in
    let b = between code i e (e - (i + 1)) l at o c short none low in
    names_none code e line.End closed.is_end refl ∙ ap (names_at code) (sym sum) ∙ b.names ∙ names_none code i l at n

-- ---- inside an each or a select

-- the product is at least as large as each of its numbers
some_product : (code : List Instruction) (nest heads : List ℕ) → AreTurns code nest heads → 1 ≤ product nest
some_product code [] [] m = omega arith
some_product code (n ∷ nest) (h ∷ heads) m = mul-le 1 1 n (product nest) m.0.3 (some_product code nest heads m.1)
some_product code [] (h ∷ heads) m = absurd m
some_product code (n ∷ nest) [] m = absurd m

each_product : (code : List Instruction) (nest heads ds hs : List ℕ) (h c : ℕ) → AreTurns code nest heads → heads ≡ ds ++ h ∷ hs
    → slice_get code h ≡ Some (line.Each c) → 16001 ≤ product nest
each_product code [] heads [] hs h c m e at = absurd (subst (AreTurns code []) e m)
each_product code [] heads (d ∷ ds) hs h c m e at = absurd (subst (AreTurns code []) e m)
each_product code (n ∷ nest) heads [] hs h c m e at =
    let t = (subst (AreTurns code (n ∷ nest)) e m).0 in
    let rest = (subst (AreTurns code (n ∷ nest)) e m).1 in
    let same : t.0 ≡ line.Each c = let both_ways : Some t.0 ≡ Some (line.Each c) = sym t.1 ∙ at in cc in
    let is : 16001 ≡ n = let both_ways : Some 16001 ≡ Some n = sym (ap turns same) ∙ t.2 in cc in
    let at_least : 16001 ≤ n = omega (arith, is) in
    mul-le 16001 1 n (product nest) at_least (some_product code nest hs rest)
each_product code (n ∷ nest) heads (d ∷ ds) hs h c m e at =
    let t = (subst (AreTurns code (n ∷ nest)) e m).0 in
    let rest = (subst (AreTurns code (n ∷ nest)) e m).1 in
    let more = each_product code nest (ds ++ h ∷ hs) ds hs h c rest refl at in
    mul-le 1 16001 n (product nest) t.3 more

no_select : (code : List Instruction) (nest heads ds hs : List ℕ) (h : ℕ) → AreTurns code nest heads → heads ≡ ds ++ h ∷ hs
    → slice_get code h ≡ Some line.Select → ⊥
no_select code [] heads [] hs h m e at = absurd (subst (AreTurns code []) e m)
no_select code [] heads (d ∷ ds) hs h m e at = absurd (subst (AreTurns code []) e m)
no_select code (n ∷ nest) heads [] hs h m e at =
    let t = (subst (AreTurns code (n ∷ nest)) e m).0 in
    let same : t.0 ≡ line.Select = let both_ways : Some t.0 ≡ Some line.Select = sym t.1 ∙ at in cc in
    let is : None ≡ Some n = sym (ap turns same) ∙ t.2 in
    cc
no_select code (n ∷ nest) heads (d ∷ ds) hs h m e at = no_select code nest (ds
    ++ h ∷ hs) ds hs h (subst (AreTurns code (n ∷ nest)) e m).1 refl at

-- in a select stand clauses and its end
in_select : (cs nest : List ℕ) (x : Instruction) → stands (Some cs) nest x ≡ true → job_given x ≡ None
in_select cs nest (line.OnSend c v) s = refl
in_select cs nest (line.OnReceive c) s = refl
in_select cs nest line.End s = refl
in_select cs nest other s = cc

-- a line that gives a name is a launch
pub data GivesOrNot (x : Instruction) : Type 0 where
  none : job_given x ≡ None → GivesOrNot x
  launch : (b : ℕ) (how : Launching) (job : Option ℕ) → x ≡ line.Launch b how job → GivesOrNot x

pub gives_or_not : (x : Instruction) → GivesOrNot x
gives_or_not (line.Launch b how job) = GivesOrNot.launch b how job refl
gives_or_not (line.Send c v) = GivesOrNot.none refl
gives_or_not other = GivesOrNot.none refl

-- a launch inside an each would weigh more than a block may
too_heavy : (p q w all : ℕ) → 16001 ≤ p → 1 ≤ q → all ≡ w + p * q → all ≤ 16000 → ⊥
too_heavy p q w all a b e le =
    let at_least = mul-le 16001 1 p q a b in
    summed (p * q) at_least e
  where
    summed : (m : ℕ) → 16001 * 1 ≤ m → all ≡ w + m → ⊥
    summed m h f = omega (arith, h, f, le)

launch_weighs : (n : ℕ) (blocks : List (List ℕ)) (weights : List ℕ) (o : Open) (b : ℕ) (how : Launching) (job : Option ℕ)
    → ((j : ℕ) → j < length blocks → 1 ≤ get_or weights j 0) → fits n blocks o (line.Launch b how job) ≡ true
    → 1 ≤ own_weight weights (line.Launch b how job)
launch_weighs n blocks weights o b how job some e = some b (lt-from_true b (length blocks) (both_true (nat_lt b (length blocks)) _ e).0)

within_weight : (o : Open) → is_within o ≡ true → o.weight ≤ 16000
within_weight o e = let two = both_true (nat_le (length o.nest) 8) _ e
    in le-from_true o.weight 16000 (both_true (few_clauses o.clauses) (nat_le o.weight 16000) two.1).1

-- no line gives a name inside an each
pub each_gives_none : (p : Program) (k i c : ℕ) → IsProgram p → slice_get (code_of p k) i ≡ Some (line.Each c) → GivesNone (code_of p k) i
each_gives_none p k i c ok at j x ds hs there o = by_clauses w.before.clauses refl w.stands w.matches
  where
    w : PlacedAt (code_of p k) j x
    w = placed_at p k j x ok there

    by_clauses : (cs : Option (List ℕ)) → w.before.clauses ≡ cs → stands cs w.before.nest x ≡ true
        → Matches (code_of p k) cs w.before.nest (heads_at (code_of p k) j) → job_given x ≡ None
    by_clauses (Some cs) f s m = in_select cs w.before.nest x s
    by_clauses None f s m = by_line (gives_or_not x)
      where
        by_line : GivesOrNot x → job_given x ≡ None
        by_line (GivesOrNot.none e) = e
        by_line (GivesOrNot.launch b how job e) =
            let often = each_product (code_of p k) w.before.nest (heads_at (code_of p k) j) ds hs i c m o at in
            let heavy : 1 ≤ own_weight w.weights x =
            subst (λ l. 1 ≤ own_weight w.weights l) (sym e) (launch_weighs w.channels w.blocks w.weights w.before b how job w.weighs
            (ap (fits w.channels w.blocks w.before) (sym e) ∙ w.fits)) in
            absurd (too_heavy (product w.before.nest) (own_weight w.weights x) w.before.weight (with_line w.weights x w.job w.before).weight
            often heavy refl (within_weight (with_line w.weights x w.job w.before) w.within))

-- nor inside a select
pub select_gives_none : (p : Program) (k i : ℕ) → IsProgram p → slice_get (code_of p k) i ≡ Some line.Select → GivesNone (code_of p k) i
select_gives_none p k i ok at j x ds hs there o = by_clauses w.before.clauses w.stands w.matches
  where
    w : PlacedAt (code_of p k) j x
    w = placed_at p k j x ok there

    by_clauses : (cs : Option (List ℕ)) → stands cs w.before.nest x ≡ true
        → Matches (code_of p k) cs w.before.nest (heads_at (code_of p k) j) → job_given x ≡ None
    by_clauses (Some cs) s m = in_select cs w.before.nest x s
    by_clauses None s m = absurd (no_select (code_of p k) w.before.nest (heads_at (code_of p k) j) ds hs i m o at)
