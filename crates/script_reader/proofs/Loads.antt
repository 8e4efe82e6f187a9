-- The load of a script, with one line more.
use Rattle.std.proofs.Common.{◌≡◌, ℕ, ◌+◌, ◌*◌, ◌<◌, ◌≤◌, List, [], ◌∷◌, ◌++◌, length, Bool, true, false, nat_lt, refl, ap, sym, ◌∙◌, arith, subst, ap₂, append-nil, get_or, Option, Some, None, Result, Ok, Err, if◌then◌else◌}
use Rattle.std.specs.Prelude.{option_map}
use Rattle.std.specs.List.{list_all}
use Rattle.std.proofs.lemmas.List.{get_or_append_left}
use Rattle.script_grammar.specs.declared.fault.FaultKind.{FaultKind}
use Rattle.script_grammar.specs.declared.fault.FaultKind.TheVariants.{TooDeep, TooMany}
use Rattle.script_grammar.specs.declared.instructions.Instruction.{Instruction}
use Rattle.script_grammar.specs.Programs.{places_in}
use Rattle.script_grammar.specs.Blocks.{Open, with_line, nest_after, clauses_after, product, own_weight, is_main}
use Rattle.script_grammar.specs.Reads.{Read, spawn_is, line_is, end_is, after, load, main_weight, closed_block, closed_weight, closed_main, open_main, spawned_weight}
use Rattle.script_grammar.specs.Grammar.{Within, IsWithin, FewClauses}
use Rattle.script_grammar.specs.Places.{at_most}
use Rattle.script_grammar.specs.Forms.{limited, deep, light, clause_count}
use Rattle.script_grammar.specs.Faults.{◌>>=◌}
use Rattle.script_grammar.proofs.Truths.{both_true, lt-from_true}
use Rattle.script_grammar.proofs.PlacesRead.{at_most_again}
use Rattle.script_grammar.proofs.BlocksPrinted.{closed_main-push, spawned_weight-append}
use Rattle.script_grammar.proofs.TextsRead.{deep_again, light_again}
use Rattle.std.proofs.lemmas.Bool.{lt-leb}

-- ---- limits

over : (kind : FaultKind) (limit n : ℕ) → limit < n → at_most kind limit n ≡ Err kind
over kind limit n h = ap (λ b. if◌then◌else◌ {A = Result (Unit {0}) FaultKind} b (Ok tt) (Err kind)) (lt-leb n limit h)

-- where the open block is within its limits, the limits of all are looked at
within_block : (s : Read) → IsWithin s.current → limited s ≡
    (at_most TooMany 256 (length s.channels) >>= λ u. at_most TooMany 4194304 (places_in s.channels) >>=
    λ u. at_most TooMany 16000 (load s) >>= λ u. Ok s)
within_block s h =
    ap (λ (r : Result (Unit {0}) FaultKind). r >>= λ u. light s.current >>= λ u. at_most TooMany 256 (length s.channels) >>=
    λ u. at_most TooMany 4194304 (places_in s.channels) >>= λ u. at_most TooMany 16000 (load s) >>= λ u. Ok s) (deep_again s.current h)
    ∙ ap (λ (r : Result (Unit {0}) FaultKind). r >>= λ u. at_most TooMany 256 (length s.channels) >>=
    λ u. at_most TooMany 4194304 (places_in s.channels) >>= λ u. at_most TooMany 16000 (load s) >>= λ u. Ok s) (light_again s.current h)

-- too many places in all
pub limited-places : (s : Read) → IsWithin s.current → length s.channels ≤ 256 → 4194304 < places_in s.channels → limited s ≡ Err TooMany
limited-places s h channels many =
    within_block s h
    ∙ ap (λ (r : Result (Unit {0}) FaultKind). r >>= λ u. at_most TooMany 4194304 (places_in s.channels) >>=
    λ u. at_most TooMany 16000 (load s) >>= λ u. Ok s) (at_most_again TooMany 256 (length s.channels) channels)
    ∙ ap (λ (r : Result (Unit {0}) FaultKind). r >>= λ u. at_most TooMany 16000 (load s) >>= λ u. Ok s)
    (over TooMany 4194304 (places_in s.channels) many)

-- too great a load
pub limited-load : (s : Read) → IsWithin s.current → length s.channels ≤ 256 → places_in s.channels ≤ 4194304 → 16000 < load s
    → limited s ≡ Err TooMany
limited-load s h channels places many =
    within_block s h
    ∙ ap (λ (r : Result (Unit {0}) FaultKind). r >>= λ u. at_most TooMany 4194304 (places_in s.channels) >>=
    λ u. at_most TooMany 16000 (load s) >>= λ u. Ok s) (at_most_again TooMany 256 (length s.channels) channels)
    ∙ ap (λ (r : Result (Unit {0}) FaultKind). r >>= λ u. at_most TooMany 16000 (load s) >>= λ u. Ok s)
    (at_most_again TooMany 4194304 (places_in s.channels) places)
    ∙ ap (λ (r : Result (Unit {0}) FaultKind). r >>= λ u. Ok s) (over TooMany 16000 (load s) many)

-- ---- the load

pub spawned_weight-more : (weights : List ℕ) (w : ℕ) (spawns : List (ℕ × ℕ)) → list_all (λ s. nat_lt s.0 (length weights)) spawns ≡ true
    → spawned_weight (weights ++ w ∷ []) spawns ≡ spawned_weight weights spawns
spawned_weight-more weights w [] known = refl
spawned_weight-more weights w (s ∷ spawns) known =
    let two = both_true (nat_lt s.0 (length weights)) (list_all (λ s. nat_lt s.0 (length weights)) spawns) known in
    let here = get_or_append_left weights (w ∷ []) 0 s.0 (lt-from_true s.0 (length weights) two.0) in
    omega (arith, spawned_weight-more weights w spawns two.1, ap (λ v. s.1 * v) here)

pub load-spawn : (s : Read) (i n : ℕ) → load (after (spawn_is i n) s) ≡ load s + n * get_or s.weights i 0
load-spawn s i n = omega (arith, spawned_weight-append s.weights s.spawns ((i, n) ∷ []))

main_weight-plus : (name : List ℕ) (v w : ℕ) → main_weight name (v + w) ≡ main_weight name v + main_weight name w
main_weight-plus name v w = by_test (is_main name)
  where
    by_test : (b : Bool) → (if b then v + w else 0) ≡ (if b then v else 0) + (if b then w else 0)
    by_test true = refl
    by_test false = omega arith

pub load-line : (s : Read) (b : Open) (x : Instruction) (job : Option (List ℕ)) → s.current ≡ Some b
    → load (after (line_is x job) s) ≡ load s + main_weight b.name (product b.nest * own_weight s.weights x)
load-line s b x job is =
    omega (
      arith,
      ap open_main is,
      ap (λ o. open_main (option_map (with_line s.weights x job) o)) is,
      main_weight-plus b.name b.weight (product b.nest * own_weight s.weights x),
    )

pub load-end : (s : Read) → length s.weights ≡ length s.blocks → list_all (λ t. nat_lt t.0 (length s.weights)) s.spawns ≡ true
    → load (after end_is s) ≡ load s
load-end s same known = by_open s.current refl
  where
    by_open : (o : Option Open) → s.current ≡ o → load (after end_is s) ≡ load s
    by_open None e =
        let blocks : s.blocks ++ closed_block s.current ≡ s.blocks = ap (λ o. s.blocks ++ closed_block o) e ∙ append-nil s.blocks in
        let weights : s.weights ++ closed_weight s.current ≡ s.weights = ap (λ o. s.weights ++ closed_weight o) e ∙ append-nil s.weights in
        omega (arith, ap open_main e, ap₂ closed_main blocks weights, ap (λ w. spawned_weight w s.spawns) weights)
    by_open (Some b) e =
        let blocks : s.blocks ++ closed_block s.current ≡ s.blocks ++ closed_block (Some b) = ap (λ o. s.blocks ++ closed_block o) e in
        let weights : s.weights ++ closed_weight s.current ≡ s.weights ++ b.weight ∷ [] = ap (λ o. s.weights ++ closed_weight o) e in
        omega (
          arith,
          ap open_main e,
          ap₂ closed_main blocks weights,
          ap (λ w. spawned_weight w s.spawns) weights,
          closed_main-push s.blocks s.weights (record { name = b.name; jobs = b.jobs; code = b.code }) b.weight same,
          spawned_weight-more s.weights b.weight s.spawns known,
        )

few : (o : Option (List ℕ)) → clause_count o ≤ 7 → FewClauses o
few None h = tt
few (Some cs) h = h

-- a line with which the load is too great
pub limited-line : (s : Read) (b : Open) (x : Instruction) (job : Option (List ℕ)) → s.current ≡ Some b → Within s
    → length (nest_after b.clauses b.nest x) ≤ 8 → clause_count (clauses_after b.clauses x) ≤ 7
    → b.weight + product b.nest * own_weight s.weights x ≤ 16000
    → 16000 < load s + main_weight b.name (product b.nest * own_weight s.weights x) → limited (after (line_is x job) s) ≡ Err TooMany
limited-line s b x job is h deep_ clauses weight many =
    let t = after (line_is x job) s in
    let within : IsWithin (Some (with_line s.weights x job b)) = (deep_, few (clauses_after b.clauses x) clauses, weight) in
    limited-load t (subst (λ o. IsWithin (option_map (with_line s.weights x job) o)) (sym is) within) h.channels h.places
    (omega (arith, many, load-line s b x job is))

-- and one with which too much is open, or the select has too many clauses, or the block too great a weight
fault-deep : (s : Read) (kind : FaultKind) → deep s.current ≡ Err kind → limited s ≡ Err kind
fault-deep s kind e =
    ap (λ (r : Result (Unit {0}) FaultKind). r >>= λ u. light s.current >>= λ u. at_most TooMany 256 (length s.channels) >>=
    λ u. at_most TooMany 4194304 (places_in s.channels) >>= λ u. at_most TooMany 16000 (load s) >>= λ u. Ok s) e

fault-light : (s : Read) (kind : FaultKind) → deep s.current ≡ Ok tt → light s.current ≡ Err kind → limited s ≡ Err kind
fault-light s kind d e =
    ap (λ (r : Result (Unit {0}) FaultKind). r >>= λ u. light s.current >>= λ u. at_most TooMany 256 (length s.channels) >>=
    λ u. at_most TooMany 4194304 (places_in s.channels) >>= λ u. at_most TooMany 16000 (load s) >>= λ u. Ok s) d
    ∙ ap (λ (r : Result (Unit {0}) FaultKind). r >>= λ u. at_most TooMany 256 (length s.channels) >>=
    λ u. at_most TooMany 4194304 (places_in s.channels) >>= λ u. at_most TooMany 16000 (load s) >>= λ u. Ok s) e

pub limited-deep : (s : Read) (b : Open) (x : Instruction) (job : Option (List ℕ)) → s.current ≡ Some b
    → 8 < length (nest_after b.clauses b.nest x) → limited (after (line_is x job) s) ≡ Err TooDeep
limited-deep s b x job is h =
    fault-deep (after (line_is x job) s) TooDeep
    (ap (λ o. deep (option_map (with_line s.weights x job) o)) is ∙ over TooDeep 8 (length (nest_after b.clauses b.nest x)) h)

pub limited-clauses : (s : Read) (b : Open) (x : Instruction) (job : Option (List ℕ)) → s.current ≡ Some b
    → length (nest_after b.clauses b.nest x) ≤ 8 → 7 < clause_count (clauses_after b.clauses x)
    → limited (after (line_is x job) s) ≡ Err TooMany
limited-clauses s b x job is h many =
    fault-light (after (line_is x job) s) TooMany
    (ap (λ o. deep (option_map (with_line s.weights x job) o)) is ∙ at_most_again TooDeep 8 (length (nest_after b.clauses b.nest x)) h)
    (ap (λ o. light (option_map (with_line s.weights x job) o)) is
    ∙ ap (λ (r : Result (Unit {0}) FaultKind). r >>= λ u. at_most TooMany 16000 (with_line s.weights x job b).weight)
    (over TooMany 7 (clause_count (clauses_after b.clauses x)) many))

pub limited-weight : (s : Read) (b : Open) (x : Instruction) (job : Option (List ℕ)) → s.current ≡ Some b
    → length (nest_after b.clauses b.nest x) ≤ 8 → clause_count (clauses_after b.clauses x) ≤ 7
    → 16000 < b.weight + product b.nest * own_weight s.weights x → limited (after (line_is x job) s) ≡ Err TooMany
limited-weight s b x job is h few_ many =
    fault-light (after (line_is x job) s) TooMany
    (ap (λ o. deep (option_map (with_line s.weights x job) o)) is ∙ at_most_again TooDeep 8 (length (nest_after b.clauses b.nest x)) h)
    (ap (λ o. light (option_map (with_line s.weights x job) o)) is
    ∙ ap (λ (r : Result (Unit {0}) FaultKind). r >>= λ u. at_most TooMany 16000 (with_line s.weights x job b).weight)
    (at_most_again TooMany 7 (clause_count (clauses_after b.clauses x)) few_)
    ∙ over TooMany 16000 (b.weight + product b.nest * own_weight s.weights x) many)
