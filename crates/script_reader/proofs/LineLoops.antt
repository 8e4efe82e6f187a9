-- The loop over the lines of a text, and the text's end.
use Rattle.std.proofs.Common.{◌≡◌, ℕ, ◌+◌, ◌≤◌, List, [], ◌∷◌, refl, ap, sym, ◌∙◌, arith, Result, Ok, Err, Bool, true, false, if◌then◌else◌, Option, Some, None, length}
use Rattle.std.specs.List.{slice_split}
use denote.Ref.{Bor}
use Rattle.script_grammar.specs.declared.fault.FaultKind.{FaultKind}
use Rattle.script_grammar.specs.declared.fault.FaultKind.TheVariants as kinds
use Rattle.script_grammar.specs.declared.fault.ScriptFault.{ScriptFault}
use Rattle.script_grammar.specs.Words.{is_line_feed, all_plain, words_of, lines_of, without_last_feed}
use Rattle.script_grammar.specs.Reads.{Read}
use Rattle.script_grammar.specs.Faults.{◌>>>◌, in_line}
use Rattle.script_grammar.specs.Forms.{step}
use Rattle.script_grammar.specs.Texts.{line_at, lines_from}
use Rattle.script_grammar.proofs.PlacesSpelled.{ok_is}
use Rattle.script_grammar.proofs.TextsRead.{step_found}
use Rattle.script_reader.specs.Parts.{parts}
use Rattle.script_reader.specs.Answers.{Unless}
use Rattle.script_reader.specs.Holding.{cost}
use Rattle.script_reader.proofs.Lengths.{text_length, text_length-slice_split, text_length-words_of, length-without_last_feed}
use Rattle.script_reader.proofs.Kept.{cost-after}

pub unless_still : (k : FaultKind) (P Q : Type 0) → (P → Q) → Unless k P → Unless k Q
unless_still kinds.Memory P Q f p = tt
unless_still other P Q f p = f p

-- ---- one line

lines_cons_ok : (n : ℕ) (s t : Read) (line : List ℕ) (more : List (List ℕ)) → line_at s line ≡ Ok t
    → lines_from n s (line ∷ more) ≡ lines_from (n + 1) t more
unfolding lines_from
lines_cons_ok n s t line more ok = ap (λ (r : Result Read FaultKind). in_line n r >>> λ u. lines_from (n + 1) u more) ok

lines_cons_err : (n : ℕ) (s : Read) (k : FaultKind) (line : List ℕ) (more : List (List ℕ)) → line_at s line ≡ Err k
    → lines_from n s (line ∷ more) ≡ Err (record { line = n; kind = k })
unfolding lines_from
lines_cons_err n s k line more bad = ap (λ (r : Result Read FaultKind). in_line n r >>> λ u. lines_from (n + 1) u more) bad

lines_nil : (n : ℕ) (s : Read) → lines_from n s [] ≡ Ok s
unfolding lines_from
lines_nil n s = refl

pub lines_fail : (n : ℕ) (s : Read) (k : FaultKind) (rest line : List ℕ) (more : Option (Bor (List ℕ))) (all : Result Read ScriptFault)
    → lines_from n s (slice_split is_line_feed rest) ≡ all → parts is_line_feed line more ≡ slice_split is_line_feed rest
    → line_at s line ≡ Err k → all ≡ Err (record { line = n; kind = k })
lines_fail n s k rest line None all inv is bad = sym inv ∙ ap (lines_from n s) (sym is) ∙ lines_cons_err n s k line [] bad
lines_fail n s k rest line (Some next) all inv is bad = sym inv ∙ ap (lines_from n s) (sym is)
    ∙ lines_cons_err n s k line (slice_split is_line_feed next.now) bad

pub lines_end : (n : ℕ) (s t : Read) (rest line : List ℕ) (all : Result Read ScriptFault)
    → lines_from n s (slice_split is_line_feed rest) ≡ all → parts is_line_feed line None ≡ slice_split is_line_feed rest
    → line_at s line ≡ Ok t → all ≡ Ok t
lines_end n s t rest line all inv is ok = sym inv ∙ ap (lines_from n s) (sym is) ∙ lines_cons_ok n s t line [] ok ∙ lines_nil (n + 1) t

pub lines_more : (n : ℕ) (s t : Read) (rest line : List ℕ) (next : Bor (List ℕ)) (all : Result Read ScriptFault)
    → lines_from n s (slice_split is_line_feed rest) ≡ all → parts is_line_feed line (Some next) ≡ slice_split is_line_feed rest
    → line_at s line ≡ Ok t → lines_from (n + 1) t (slice_split is_line_feed next.now) ≡ all
lines_more n s t rest line next all inv is ok = sym (lines_cons_ok n s t line (slice_split is_line_feed next.now) ok)
    ∙ ap (lines_from n s) is ∙ inv

-- ---- how many lines there are

length-text_length : (ls : List (List ℕ)) → length ls ≤ text_length ls
length-text_length [] = omega arith
length-text_length (l ∷ ls) = omega (arith, length-text_length ls)

pub few_lines : (bytes : List ℕ) → length (lines_of bytes) ≤ length bytes + 1
few_lines bytes = omega (
  arith,
  length-text_length (lines_of bytes),
  text_length-slice_split is_line_feed (without_last_feed bytes),
  length-without_last_feed bytes,
)

pub counted_more : (n : ℕ) (rest line : List ℕ) (next : Bor (List ℕ)) (all : ℕ) → n + length (slice_split is_line_feed rest) ≡ all + 1
    → parts is_line_feed line (Some next) ≡ slice_split is_line_feed rest → n + 1 + length (slice_split is_line_feed next.now) ≡ all + 1
counted_more n rest line next all count is = omega (arith, count, ap length is)

-- ---- how many blocks there are

step_cost : (s t : Read) (words : List (List ℕ)) → step s words ≡ Ok t → cost t ≤ cost s + text_length words
unfolding step
step_cost s t [] ok = let same : s ≡ t = ok_is s t (Ok s) refl ok in omega (arith, ap cost same)
step_cost s t (w ∷ ws) ok = let f = step_found s t w ws ok in omega (arith, cost-after s (w ∷ ws) f.0 f.1, ap cost f.3)

pub line_cost : (s t : Read) (line : List ℕ) → line_at s line ≡ Ok t → cost t ≤ cost s + length line + 1
unfolding line_at
line_cost s t line ok = by_test (all_plain line) ok
  where
    by_test : (b : Bool) → (if b then step s (words_of line) else Err kinds.NotAscii) ≡ Ok t → cost t ≤ cost s + length line + 1
    by_test true e = omega (arith, step_cost s t (words_of line) e, text_length-words_of line)
    by_test false e = cc
