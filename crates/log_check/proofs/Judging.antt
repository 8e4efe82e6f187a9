-- What is said of a part of an input is said of the whole.
use Rattle.std.specs.Prelude.{◌≡◌, ℕ, List, Option, Result, Ok, Err, IfOk, map}
use Rattle.std.proofs.Common.{ap, subst, sym, ◌∙◌}
use Rattle.co_base.specs.declared.names.Memory.{Memory}
use Rattle.job_model.specs.declared.acts.End.{End}
use Rattle.note_book.specs.declared.notes.Notes.{Notes}
use Rattle.note_book.specs.Books.{notes_of}
use Rattle.script_grammar.specs.Grammar.{Spells}
use Rattle.script_grammar.specs.Programs.{Program}
use Rattle.history_text.specs.declared.line.Line.{Line}
use Rattle.log_check.specs.declared.parts.Subject.{Subject}
use Rattle.log_check.specs.declared.parts.Subject.TheVariants as subject
use Rattle.log_check.specs.declared.verdict.Judged.{Judged}
use Rattle.log_check.specs.declared.verdict.LogVerdict.{LogVerdict}
use Rattle.log_check.specs.declared.verdict.LogVerdict.TheVariants as of_log
use Rattle.log_check.specs.declared.verdict.Logged.{Logged}
use Rattle.log_check.specs.declared.verdict.Logged.TheVariants as logged
use Rattle.log_check.specs.declared.verdict.ScriptVerdict.{ScriptVerdict}
use Rattle.log_check.specs.declared.verdict.ScriptVerdict.TheVariants as of_script
use Rattle.log_check.specs.Logs.{books_in}
use Rattle.log_check.specs.Parts.{AreParts, word_of}
use Rattle.log_check.specs.Verdicts.{HasLines, IsLinesVerdict, IsLogVerdict, IsLogged, IsLoggedBy, IsScriptVerdict, IsVerdictBy, IsVerdictOn}

-- the books that were compared are those of the lines
pub books_same : (left right : List Notes) (ls rs : List Notes) (count n : ℕ) (lines : List Line) → map notes_of ls ≡ map notes_of rs
    → ls ≡ left → rs ≡ right → map notes_of right ≡ books_in count lines → count ≡ n → map notes_of left ≡ books_in n lines
books_same left right ls rs count n lines same left_is right_is are counted =
    sym (ap (map notes_of) left_is) ∙ same ∙ ap (map notes_of) right_is ∙ are ∙ ap (λ k. books_in k lines) counted

by_lines : (v : LogVerdict) (p : Program) (text : List ℕ) (lines : List Line) → HasLines p text (Ok lines) → IsLinesVerdict v p lines
    → IsLogVerdict v p text
by_lines (of_log.NoItem n) p text lines has is = absurd is
by_lines (of_log.NotShown n) p text lines has is = tt
by_lines other p text lines has is = (lines, has, is)

-- what is said of the lines of a text is said of the text
pub of_lines : {H : Type 0} (r : Result (LogVerdict × H) Memory) (p : Program) (text : List ℕ) (lines : List Line) → HasLines p text (Ok lines)
    → IfOk r (λ v. IsLinesVerdict v.0 p lines) → IfOk r (λ v. IsLogVerdict v.0 p text)
of_lines (Ok v) p text lines has is = by_lines v.0 p text lines has is
of_lines (Err e) p text lines has is = tt

by_text : (v : ScriptVerdict) (s : Subject) (p : Program) (script text : List ℕ) → Spells script p → IsVerdictBy v s p text
    → IsVerdictOn v s script text
by_text (of_script.Fault fault) s p script text spelled is = absurd is
by_text other s p script text spelled is = (p, spelled, is)

-- what is said by a program is said by the text that spells it
pub of_text : (r : Result Judged Memory) (s : Subject) (p : Program) (script text : List ℕ) → Spells script p
    → IfOk r (λ v. IsVerdictBy v.verdict s p text) → IfOk r (λ v. IsVerdictOn v.verdict s script text)
of_text (Ok v) s p script text spelled is = by_text v.verdict s p script text spelled is
of_text (Err e) s p script text spelled is = tt

-- what is said of the parts of an input is said of it
pub of_parts : (v : ScriptVerdict) (s : Subject) (script text input : List ℕ) → AreParts (word_of s) script text input
    → IsVerdictOn v s script text → IsScriptVerdict v input
of_parts (of_script.Log v) subject.Log script text input parts is =
    record { script = script; text = text; parts = parts; program = is.0; spelled = is.1; says = is.2 }
of_parts (of_script.Log v) subject.Report script text input parts is = absurd is.2
of_parts (of_script.Report v) subject.Log script text input parts is = absurd is.2
of_parts (of_script.Report v) subject.Report script text input parts is =
    record { script = script; text = text; parts = parts; program = is.0; spelled = is.1; says = is.2 }
of_parts (of_script.Fault fault) s script text input parts is =
    (word_of s, record { script = script; text = text; parts = parts; faulty = is })

-- a log that stands is one that was made
pub stands_made : (v : LogVerdict) (root : Option End) (p : Program) (slice text : List ℕ) → v ≡ of_log.Stands root → slice ≡ text
    → IsLogVerdict v p slice → IsLogVerdict (of_log.Stands root) p text
stands_made v root p slice text is same stands =
    subst (λ t. IsLogVerdict (of_log.Stands root) p t) same (subst (λ w. IsLogVerdict w p slice) is stands)

by_spelled : (l : Logged) (p : Program) (bytes : List ℕ) → Spells bytes p → IsLoggedBy l p → IsLogged l bytes
by_spelled (logged.Log text root) p bytes spelled is = (p, spelled, is)
by_spelled logged.NotShown p bytes spelled is = tt
by_spelled (logged.Fault fault) p bytes spelled is = absurd is

-- a log that stands by a program stands by the text that spells it
pub of_spelled : (r : Result Logged Memory) (p : Program) (bytes : List ℕ) → Spells bytes p → IfOk r (λ l. IsLoggedBy l p)
    → IfOk r (λ l. IsLogged l bytes)
of_spelled (Ok l) p bytes spelled is = by_spelled l p bytes spelled is
of_spelled (Err e) p bytes spelled is = tt
