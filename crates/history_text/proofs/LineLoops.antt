-- The loop over the lines of a history.
use Rattle.std.proofs.Common.{◌≡◌, ℕ, ◌+◌, ◌==◌, List, [], ◌∷◌, ◌++◌, ap, sym, refl, ◌∙◌, Result, Ok, Err, Option, Some, None, true}
use Rattle.std.specs.List.{slice_split}
use denote.Ref.{Bor}
use Rattle.report_reader.specs.Words.{parts}
use Rattle.report_reader.specs.Reports.{or_none}
use Rattle.history_text.specs.declared.line.Line.{Line}
use Rattle.history_text.specs.declared.lines.NoLines.{NoLines}
use Rattle.history_text.specs.declared.lines.NoLines.TheVariants.{AtLine, Memory}
use Rattle.history_text.specs.Inputs.{FaultIs, LeavesAt, LeavesLine}
use Rattle.history_text.specs.Lines.{line_of, lines_from}

-- what is read where this line is first
cons : (names : List (List ℕ)) (n : ℕ) (before : List Line) (o : Option Line) (line : List ℕ) (more : List (List ℕ))
    → line_of names line ≡ o
    → lines_from names n before (line ∷ more) ≡ or_none o (Err n) (λ l. lines_from names (n + 1) (before ++ l ∷ []) more)
unfolding lines_from
cons names n before o line more is =
    ap (λ (r : Option Line). or_none r (Err n) (λ l. lines_from names (n + 1) (before ++ l ∷ []) more)) is

-- what is read behind a line that was read
behind : (names : List (List ℕ)) (n : ℕ) (before new : List Line) (o : Option Line) (more : List (List ℕ)) → LeavesLine true before new o
    → or_none o (Err n) (λ l. lines_from names (n + 1) (before ++ l ∷ []) more) ≡ lines_from names (n + 1) new more
behind names n before new None more h = absurd h
behind names n before new (Some l) more h = ap (λ ls. lines_from names (n + 1) ls more) (sym h)

all_read : (names : List (List ℕ)) (n : ℕ) (lines : List Line) → lines_from names n lines [] ≡ Ok lines
unfolding lines_from
all_read names n lines = refl

pub lines_more : (names : List (List ℕ)) (n : ℕ) (before new : List Line) (rest line : List ℕ) (next : Bor (List ℕ))
    (all : Result (List Line) ℕ) → lines_from names n before (slice_split (λ b. b == 10) rest) ≡ all
    → parts 10 line (Some next) ≡ slice_split (λ b. b == 10) rest → LeavesLine true before new (line_of names line)
    → lines_from names (n + 1) new (slice_split (λ b. b == 10) next.now) ≡ all
lines_more names n before new rest line next all inv is ok =
    sym (behind names n before new (line_of names line) _ ok) ∙ sym (cons names n before (line_of names line) line _ refl)
    ∙ ap (lines_from names n before) is ∙ inv

pub lines_end : (names : List (List ℕ)) (n : ℕ) (before new : List Line) (rest line : List ℕ) (all : Result (List Line) ℕ)
    → lines_from names n before (slice_split (λ b. b == 10) rest) ≡ all → parts 10 line None ≡ slice_split (λ b. b == 10) rest
    → LeavesLine true before new (line_of names line) → all ≡ Ok new
lines_end names n before new rest line all inv is ok =
    sym inv ∙ ap (lines_from names n before) (sym is) ∙ cons names n before (line_of names line) line [] refl
    ∙ behind names n before new (line_of names line) [] ok ∙ all_read names (n + 1) new

fails : (names : List (List ℕ)) (n : ℕ) (before : List Line) (rest line : List ℕ) (more : Option (Bor (List ℕ)))
    (all : Result (List Line) ℕ) → lines_from names n before (slice_split (λ b. b == 10) rest) ≡ all
    → parts 10 line more ≡ slice_split (λ b. b == 10) rest → line_of names line ≡ None → all ≡ Err n
fails names n before rest line None all inv is bad =
    sym inv ∙ ap (lines_from names n before) (sym is) ∙ cons names n before None line [] bad
fails names n before rest line (Some next) all inv is bad =
    sym inv ∙ ap (lines_from names n before) (sym is) ∙ cons names n before None line (slice_split (λ b. b == 10) next.now) bad

pub line_fails : (names : List (List ℕ)) (fault : NoLines) (n : ℕ) (before new : List Line) (rest line : List ℕ)
    (more : Option (Bor (List ℕ))) (all : Result (List Line) ℕ) → lines_from names n before (slice_split (λ b. b == 10) rest) ≡ all
    → parts 10 line more ≡ slice_split (λ b. b == 10) rest → LeavesAt n (Err fault) before new (line_of names line)
    → FaultIs fault all
line_fails names Memory n before new rest line more all inv is bad = tt
line_fails names (AtLine m) n before new rest line more all inv is bad =
    fails names n before rest line more all inv is bad.0 ∙ ap Err (sym bad.1)
