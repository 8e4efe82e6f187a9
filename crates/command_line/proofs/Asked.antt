-- The command that words are, by the matches that were found.
use Rattle.std.specs.Prelude.{◌≡◌, ◌<◌, ◌≤◌, ℕ, Bool, true, false, List, [], ◌∷◌, length, map, string_bytes, String, Option, Some, None, option_map, option_and_then, if◌then◌else◌, refl}
use Rattle.std.specs.Global.{Global}
use Rattle.std.specs.Str.{bytes_eq}
use Rattle.std.proofs.Common.{ap, sym, subst, ◌∙◌, arith, get_or}
use Rattle.clap.specs.Words.{App, Row, first_of}
use Rattle.program_input.specs.Words.{matches_by}
use lib.Chars.{codes}
use Rattle.command_line.specs.declared.words.Command.{Command}
use Rattle.command_line.specs.declared.words.Command.TheVariants.{Run, Check, Sum}
use Rattle.command_line.specs.Commands.{run_by, run_line, check_line, sum_by, sum_line, command_of, size_of, workers_of}

-- without matches there is none
pub none_asked : {M : Type 0} (rows : M → List Row) (by : List Row → Option Command) (line asked : App) (words : List (List ℕ))
    (found : Option M) → line ≡ asked → option_map rows found ≡ matches_by line words → found ≡ None
    → None ≡ option_and_then by (matches_by asked words)
none_asked rows by line asked words found same e none = subst (λ x. None ≡ option_and_then by (matches_by x words)) same
    (ap (option_and_then by) (ap (option_map rows) (sym none) ∙ e))

-- with matches it is what they say
pub some_asked : {M : Type 0} (rows : M → List Row) (by : List Row → Option Command) (line asked : App) (words : List (List ℕ))
    (found : Option M) (m : M) (command : Option Command) → line ≡ asked → option_map rows found ≡ matches_by line words
    → found ≡ Some m → by (rows m) ≡ command → command ≡ option_and_then by (matches_by asked words)
some_asked rows by line asked words found m command same e some is =
    subst (λ x. command ≡ option_and_then by (matches_by x words)) same
    (sym is ∙ ap (option_and_then by) (ap (option_map rows) (sym some) ∙ e))

-- a run has its number of workers
pub run_says : (rows : List Row) (workers given : Option ℕ) → workers ≡ workers_of (first_of (codes "workers") rows) → workers ≡ given
    → run_by rows ≡ option_map (λ n. Run n) given
run_says rows workers given is at = ap (option_map (λ n. Run n)) (sym is ∙ at)

-- a sum has a size
pub sum_no_size : (rows : List Row) (size : Option ℕ) → size ≡ size_of (first_of (codes "size") rows) → size ≡ None → sum_by rows ≡ None
sum_no_size rows size is none =
    ap (option_and_then (λ n. option_map (λ w. Sum n w) (workers_of (first_of (codes "workers") rows)))) (sym is ∙ none)

-- and its number of workers
pub sum_says : (rows : List Row) (size workers : Option ℕ) (n : ℕ) (given : Option ℕ) → size ≡ size_of (first_of (codes "size") rows)
    → size ≡ Some n → workers ≡ workers_of (first_of (codes "workers") rows) → workers ≡ given
    → sum_by rows ≡ option_map (λ w. Sum n w) given
sum_says rows size workers n given is at workers_is workers_at =
    ap (option_and_then (λ k. option_map (λ w. Sum k w) (workers_of (first_of (codes "workers") rows)))) (sym is ∙ at)
    ∙ ap (option_map (λ w. Sum n w)) (sym workers_is ∙ workers_at)

-- ---- which command line the first word asks for

-- true is not false
never : {A : Type 0} → true ≡ false → A
never e = absurd (let no_way : ⊥ = cc in no_way)

-- of a test that holds it is the first
if_true : {A : Type 0} (b : Bool) (x y : A) → b ≡ true → (if b then x else y) ≡ x
if_true true x y e = refl
if_true false x y e = never (sym e)

-- and else the second
if_false : {A : Type 0} (b : Bool) (x y : A) → b ≡ false → (if b then x else y) ≡ y
if_false true x y e = never e
if_false false x y e = refl

-- what a test says of a text, it says of the first word with these bytes
tested : (w s : String Global) (bytes word : List ℕ) (b : Bool) → s ≡ w → bytes ≡ string_bytes s → b ≡ bytes_eq bytes word
    → bytes_eq (string_bytes w) word ≡ b
tested w s bytes word b e is t = ap (λ x. bytes_eq x word) (ap string_bytes (sym e) ∙ sym is) ∙ sym t

-- without a word it is none
pub no_words : (ws : List (String Global)) → length ws < 1 → None ≡ command_of (map string_bytes ws)
no_words [] few = refl
no_words (w ∷ ws) few = absurd (omega (arith, few))

-- the first word is run
pub as_run : (ws : List (String Global)) (s : String Global) (a : List ℕ) → 1 ≤ length ws → s ≡ get_or ws 0 s → a ≡ string_bytes s
    → true ≡ bytes_eq a (codes "run")
    → command_of (map string_bytes ws) ≡ option_and_then run_by (matches_by run_line (map string_bytes ws))
as_run [] s a some e is t = absurd (omega (arith, some))
as_run (w ∷ ws) s a some e is t = if_true _ _ _ (tested w s a _ _ e is t)

-- it is check
pub as_check : (ws : List (String Global)) (s : String Global) (a b : List ℕ) → 1 ≤ length ws → s ≡ get_or ws 0 s → a ≡ string_bytes s
    → false ≡ bytes_eq a (codes "run") → b ≡ string_bytes s → true ≡ bytes_eq b (codes "check")
    → command_of (map string_bytes ws) ≡ option_map (λ rows. Check) (matches_by check_line (map string_bytes ws))
as_check [] s a b some e is t is_b t_b = absurd (omega (arith, some))
as_check (w ∷ ws) s a b some e is t is_b t_b = if_false _ _ _ (tested w s a _ _ e is t) ∙ if_true _ _ _ (tested w s b _ _ e is_b t_b)

-- it is sum
pub as_sum : (ws : List (String Global)) (s : String Global) (a b d : List ℕ) → 1 ≤ length ws → s ≡ get_or ws 0 s → a ≡ string_bytes s
    → false ≡ bytes_eq a (codes "run") → b ≡ string_bytes s → false ≡ bytes_eq b (codes "check") → d ≡ string_bytes s
    → true ≡ bytes_eq d (codes "sum")
    → command_of (map string_bytes ws) ≡ option_and_then sum_by (matches_by sum_line (map string_bytes ws))
as_sum [] s a b d some e is t is_b t_b is_d t_d = absurd (omega (arith, some))
as_sum (w ∷ ws) s a b d some e is t is_b t_b is_d t_d = if_false _ _ _ (tested w s a _ _ e is t)
    ∙ if_false _ _ _ (tested w s b _ _ e is_b t_b) ∙ if_true _ _ _ (tested w s d _ _ e is_d t_d)

-- any other word asks for none
pub as_none : (ws : List (String Global)) (s : String Global) (a b d : List ℕ) → 1 ≤ length ws → s ≡ get_or ws 0 s → a ≡ string_bytes s
    → false ≡ bytes_eq a (codes "run") → b ≡ string_bytes s → false ≡ bytes_eq b (codes "check") → d ≡ string_bytes s
    → false ≡ bytes_eq d (codes "sum") → None ≡ command_of (map string_bytes ws)
as_none [] s a b d some e is t is_b t_b is_d t_d = absurd (omega (arith, some))
as_none (w ∷ ws) s a b d some e is t is_b t_b is_d t_d = sym (if_false _ _ _ (tested w s a _ _ e is t)
    ∙ if_false _ _ _ (tested w s b _ _ e is_b t_b) ∙ if_false _ _ _ (tested w s d _ _ e is_d t_d))
