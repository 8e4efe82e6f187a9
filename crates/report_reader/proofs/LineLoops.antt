-- The loop over the lines of a text.
use Rattle.std.proofs.Common.{◌≡◌, ℕ, ◌+◌, ◌==◌, List, [], ◌∷◌, ap, sym, ◌∙◌, Result, Ok, Err, Option, Some, None, Bool, if◌then◌else◌}
use Rattle.std.specs.List.{slice_split}
use denote.Ref.{Bor}
use Rattle.report_reader.specs.Words.{parts}
use Rattle.report_reader.specs.declared.line.NoReport.{NoReport}
use Rattle.report_reader.specs.declared.line.NoReport.TheVariants.{AtLine, Memory}
use Rattle.report_reader.specs.Reading.{Gives, LeavesAt}
use Rattle.report_reader.specs.Reports.{Line, Read, has_jobs, lines_from, read_line, or_none}

lines_cons : (n : ℕ) (s : Read) (o : Option Read) (line : List ℕ) (more : List (List ℕ)) → read_line s line ≡ o
    → lines_from n s (line ∷ more) ≡ or_none o (Err n) (λ next. lines_from (n + 1) next more)
unfolding lines_from
lines_cons n s o line more is = ap (λ (r : Option Read). or_none r (Err n) (λ next. lines_from (n + 1) next more)) is

pub lines_fail : (n : ℕ) (s : Read) (rest line : List ℕ) (more : Option (Bor (List ℕ))) (all : Result (List Line) ℕ)
    → lines_from n s (slice_split (λ b. b == 10) rest) ≡ all → parts 10 line more ≡ slice_split (λ b. b == 10) rest
    → read_line s line ≡ None → all ≡ Err n
lines_fail n s rest line None all inv is bad = sym inv ∙ ap (lines_from n s) (sym is) ∙ lines_cons n s None line [] bad
lines_fail n s rest line (Some next) all inv is bad = sym inv ∙ ap (lines_from n s) (sym is)
    ∙ lines_cons n s None line (slice_split (λ b. b == 10) next.now) bad

pub lines_end : (n : ℕ) (s t : Read) (rest line : List ℕ) (all : Result (List Line) ℕ)
    → lines_from n s (slice_split (λ b. b == 10) rest) ≡ all → parts 10 line None ≡ slice_split (λ b. b == 10) rest
    → read_line s line ≡ Some t → all ≡ lines_from (n + 1) t []
lines_end n s t rest line all inv is ok = sym inv ∙ ap (lines_from n s) (sym is) ∙ lines_cons n s (Some t) line [] ok

pub lines_more : (n : ℕ) (s t : Read) (rest line : List ℕ) (next : Bor (List ℕ)) (all : Result (List Line) ℕ)
    → lines_from n s (slice_split (λ b. b == 10) rest) ≡ all → parts 10 line (Some next) ≡ slice_split (λ b. b == 10) rest
    → read_line s line ≡ Some t → lines_from (n + 1) t (slice_split (λ b. b == 10) next.now) ≡ all
lines_more n s t rest line next all inv is ok = sym (lines_cons n s (Some t) line (slice_split (λ b. b == 10) next.now) ok)
    ∙ ap (lines_from n s) is ∙ inv

pub line_fails : (fault : NoReport) (n : ℕ) (s t : Read) (rest line : List ℕ) (more : Option (Bor (List ℕ))) (all : Result (List Line) ℕ)
    → lines_from n s (slice_split (λ b. b == 10) rest) ≡ all → parts 10 line more ≡ slice_split (λ b. b == 10) rest
    → LeavesAt n (Err fault) t (read_line s line) → Gives (Err fault) all
line_fails Memory n s t rest line more all inv is bad = tt
line_fails (AtLine m) n s t rest line more all inv is bad = lines_fail n s rest line more all inv is bad.0 ∙ ap Err (sym bad.1)

pub lines_done : (n : ℕ) (s : Read) (b : Bool) → has_jobs s.section ≡ b → lines_from n s [] ≡ (if b then Ok s.lines else Err n)
unfolding lines_from
lines_done n s b is = ap (λ (t : Bool). if t then Ok s.lines else Err n) is
