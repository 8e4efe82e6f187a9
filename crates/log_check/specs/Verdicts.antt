-- What each verdict says.
use Rattle.std.specs.Prelude.{◌≡◌, ℕ, List, Option, Result, Ok, Err}
use lib.Chars.{codes}
use Rattle.job_model.specs.declared.acts.End.{End}
use Rattle.script_grammar.specs.declared.fault.ScriptFault.{ScriptFault}
use Rattle.script_grammar.specs.Faulty.{FirstFault}
use Rattle.script_grammar.specs.Grammar.{Spells}
use Rattle.script_grammar.specs.Programs.{Program}
use Rattle.script_grammar.specs.Tags.{coroutine_count}
use Rattle.script_meaning.specs.Shapes.{floor_shape, job_shape}
use Rattle.engine_one.specs.Orders.{MadeInOrder}
use Rattle.run_report.specs.Elements.{report_text}
use Rattle.run_claims.specs.Runs.{RunsTo}
use Rattle.history_text.specs.declared.line.Line.{Line}
use Rattle.history_text.specs.Lines.{history_of}
use Rattle.history_check.specs.declared.verdict.Verdict.TheVariants as of_history
use Rattle.history_check.specs.Histories.{IsAllowed}
use Rattle.history_check.specs.Verdicts.{IsVerdict}
use Rattle.log_check.specs.declared.verdict.LogVerdict.{LogVerdict}
use Rattle.log_check.specs.declared.verdict.LogVerdict.TheVariants as of_log
use Rattle.log_check.specs.declared.verdict.Logged.{Logged}
use Rattle.log_check.specs.declared.verdict.Logged.TheVariants as logged
use Rattle.log_check.specs.declared.verdict.ReportVerdict.{ReportVerdict}
use Rattle.log_check.specs.declared.verdict.ReportVerdict.TheVariants as of_report
use Rattle.log_check.specs.declared.verdict.ScriptVerdict.{ScriptVerdict}
use Rattle.log_check.specs.declared.verdict.ScriptVerdict.TheVariants as of_script
use Rattle.log_check.specs.declared.parts.Subject.{Subject}
use Rattle.log_check.specs.declared.parts.Subject.TheVariants as subject
use Rattle.log_check.specs.Logs.{AreOf, books_in, names_in}
use Rattle.log_check.specs.Parts.{AreParts, word_of}

-- ---- a log

-- the lines, each of a coroutine of the script: each act on a channel and on a Job may come where it comes, and each line says what
-- holds at its moment; and each coroutine noted its lines in a run that came to rest, which was made by turns in this order
pub record LinesStand (root : Option End) (p : Program) (lines : List Line) : Type 0 where
  pub of_script : AreOf (coroutine_count p) lines
  pub allowed : IsAllowed (floor_shape p) (job_shape p) lines
  pub run : RunsTo root p
  pub books_are : run.books ≡ books_in (coroutine_count p) lines
  pub order : List ℕ
  pub made : MadeInOrder p order run.books run.channels run.jobs

-- what is said of lines
abbrev pub IsLinesVerdict : LogVerdict → Program → List Line → Type 0
IsLinesVerdict (of_log.Stands root) p lines = LinesStand root p lines
IsLinesVerdict (of_log.MayNotCome n) p lines = IsVerdict (floor_shape p) (job_shape p) lines (of_history.MayNotCome n)
IsLinesVerdict (of_log.NotSo n) p lines = IsVerdict (floor_shape p) (job_shape p) lines (of_history.NotSo n)
IsLinesVerdict (of_log.NoItem n) p lines = ⊥
IsLinesVerdict (of_log.NotShown n) p lines = Unit {0}

-- these are the lines of a text
abbrev pub HasLines : Program → List ℕ → Result (List Line) ℕ → Type 0
HasLines p text lines = history_of (names_in p) text ≡ lines

-- the same of the lines that a text has
abbrev pub ByLines : LogVerdict → Program → List ℕ → Type 0
ByLines v p text = (lines : List Line) × HasLines p text (Ok lines) × IsLinesVerdict v p lines

-- what is said of a text
abbrev pub IsLogVerdict : LogVerdict → Program → List ℕ → Type 0
IsLogVerdict (of_log.Stands root) p text = ByLines (of_log.Stands root) p text
IsLogVerdict (of_log.MayNotCome n) p text = ByLines (of_log.MayNotCome n) p text
IsLogVerdict (of_log.NotSo n) p text = ByLines (of_log.NotSo n) p text
IsLogVerdict (of_log.NoItem n) p text = HasLines p text (Err n)
IsLogVerdict (of_log.NotShown n) p text = Unit {0}

-- ---- a report

-- the text is the report of a run that came to rest, which was made by turns in this order
pub record ReportStands (root : Option End) (p : Program) (text : List ℕ) : Type 0 where
  pub run : RunsTo root p
  pub is_report : text ≡ report_text p run.books
  pub order : List ℕ
  pub made : MadeInOrder p order run.books run.channels run.jobs

abbrev pub IsReportVerdict : ReportVerdict → Program → List ℕ → Type 0
IsReportVerdict (of_report.Stands root) p text = ReportStands root p text
IsReportVerdict (of_report.NotFound n) p text = Unit {0}

-- ---- an input

-- what is said of a text that is judged so by a program
abbrev pub IsVerdictBy : ScriptVerdict → Subject → Program → List ℕ → Type 0
IsVerdictBy (of_script.Log v) subject.Log p text = IsLogVerdict v p text
IsVerdictBy (of_script.Log v) subject.Report p text = ⊥
IsVerdictBy (of_script.Report v) subject.Log p text = ⊥
IsVerdictBy (of_script.Report v) subject.Report p text = IsReportVerdict v p text
IsVerdictBy (of_script.Fault fault) s p text = ⊥

-- the same by the text of a script
abbrev pub ByScript : ScriptVerdict → Subject → List ℕ → List ℕ → Type 0
ByScript v s script text = (program : Program) × Spells script program × IsVerdictBy v s program text

abbrev pub IsVerdictOn : ScriptVerdict → Subject → List ℕ → List ℕ → Type 0
IsVerdictOn (of_script.Log v) s script text = ByScript (of_script.Log v) s script text
IsVerdictOn (of_script.Report v) s script text = ByScript (of_script.Report v) s script text
IsVerdictOn (of_script.Fault fault) s script text = FirstFault script fault

-- the input is a script, a line that says what is judged, and a text of which this is so
pub record IsSaidOf (word input : List ℕ) (Says : Program → List ℕ → Type 0) : Type 0 where
  pub script : List ℕ
  pub text : List ℕ
  pub parts : AreParts word script text input
  pub program : Program
  pub spelled : Spells script program
  pub says : Says program text

-- the input is no script, with this fault, a line that says what is judged, and a text
pub record IsNoScript (fault : ScriptFault) (word input : List ℕ) : Type 0 where
  pub script : List ℕ
  pub text : List ℕ
  pub parts : AreParts word script text input
  pub faulty : FirstFault script fault

abbrev pub IsScriptVerdict : ScriptVerdict → List ℕ → Type 0
IsScriptVerdict (of_script.Log v) input = IsSaidOf (word_of subject.Log) input (IsLogVerdict v)
IsScriptVerdict (of_script.Report v) input = IsSaidOf (word_of subject.Report) input (IsReportVerdict v)
IsScriptVerdict (of_script.Fault fault) input = (word : List ℕ) × IsNoScript fault word input

-- ---- a log that is made

-- the text stands by a program
abbrev pub IsLoggedBy : Logged → Program → Type 0
IsLoggedBy (logged.Log text root) p = IsLogVerdict (of_log.Stands root) p text.items
IsLoggedBy logged.NotShown p = Unit {0}
IsLoggedBy (logged.Fault fault) p = ⊥

-- the text stands by the program that the bytes spell; or they have this fault
abbrev pub IsLogged : Logged → List ℕ → Type 0
IsLogged (logged.Log text root) bytes = (program : Program) × Spells bytes program × IsLogVerdict (of_log.Stands root) program text.items
IsLogged logged.NotShown bytes = Unit {0}
IsLogged (logged.Fault fault) bytes = FirstFault bytes fault
