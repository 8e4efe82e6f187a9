-- The line of what is said.
use Rattle.std.specs.Prelude.{◌≡◌, ℕ, List, [], ◌++◌, Option, Some, None}
use Rattle.std.specs.Fmt.{decimal}
use lib.Chars.{codes}
use Rattle.script_grammar.specs.declared.fault.FaultKind.{FaultKind}
use Rattle.script_grammar.specs.declared.fault.FaultKind.TheVariants.{NotAscii, UnknownWord, BadNumber, BadName, Duplicate, Undeclared, NoMain, NoEnd, Extra, TooDeep, TooMany, Recursive, Memory}
use Rattle.script_grammar.specs.declared.fault.ScriptFault.{ScriptFault}
use Rattle.job_model.specs.declared.acts.End.{End}
use Rattle.job_model.specs.declared.acts.End.TheVariants as ends
use Rattle.log_check.specs.declared.verdict.LogVerdict.{LogVerdict}
use Rattle.log_check.specs.declared.verdict.LogVerdict.TheVariants as of_log
use Rattle.log_check.specs.declared.verdict.ReportVerdict.TheVariants as of_report
use Rattle.log_check.specs.declared.verdict.ScriptVerdict.{ScriptVerdict}
use Rattle.log_check.specs.declared.verdict.ScriptVerdict.TheVariants as of_script
use Rattle.judge_run.specs.declared.outcome.Said.{Said}
use Rattle.judge_run.specs.declared.outcome.Said.TheVariants as said

abbrev pub kind_text : FaultKind → List ℕ
kind_text NotAscii = codes "NotAscii"
kind_text UnknownWord = codes "UnknownWord"
kind_text BadNumber = codes "BadNumber"
kind_text BadName = codes "BadName"
kind_text Duplicate = codes "Duplicate"
kind_text Undeclared = codes "Undeclared"
kind_text NoMain = codes "NoMain"
kind_text NoEnd = codes "NoEnd"
kind_text Extra = codes "Extra"
kind_text TooDeep = codes "TooDeep"
kind_text TooMany = codes "TooMany"
kind_text Recursive = codes "Recursive"
kind_text Memory = codes "Memory"

-- the number of the faulty line, and what is wrong with it
abbrev pub fault_text : ScriptFault → List ℕ
fault_text fault = codes "line " ++ decimal fault.line ++ codes ": " ++ kind_text fault.kind ++ codes "\n"

-- a log or a report stands, and how the root's Job ended, if it did
abbrev pub stands_text : Option End → List ℕ
stands_text None = codes "stands unfinished\n"
stands_text (Some (ends.Completed v)) = codes "stands completed\n"
stands_text (Some (ends.Cancelled cause)) = codes "stands cancelled\n"

abbrev pub log_text : LogVerdict → List ℕ
log_text (of_log.Stands root) = stands_text root
log_text (of_log.MayNotCome n) = codes "line " ++ decimal n ++ codes ": may not come\n"
log_text (of_log.NotSo n) = codes "line " ++ decimal n ++ codes ": not so\n"
log_text (of_log.NoItem n) = codes "line " ++ decimal n ++ codes ": no item\n"
log_text (of_log.NotShown n) = codes "line " ++ decimal n ++ codes ": not shown\n"

abbrev pub script_text : ScriptVerdict → List ℕ
script_text (of_script.Log v) = log_text v
script_text (of_script.Report (of_report.Stands root)) = stands_text root
script_text (of_script.Report (of_report.NotFound n)) = codes "not found: line " ++ decimal n ++ codes "\n"
script_text (of_script.Fault fault) = fault_text fault

-- the line, with its line feed; a log has none but its own
abbrev pub said_text : Said → List ℕ
said_text said.Legal = codes "legal\n"
said_text (said.MayNotCome n) = codes "line " ++ decimal n ++ codes ": may not come\n"
said_text (said.NotSo n) = codes "line " ++ decimal n ++ codes ": not so\n"
said_text (said.NoItem n) = codes "line " ++ decimal n ++ codes ": no item\n"
said_text (said.Fault fault) = fault_text fault
said_text (said.OfScript v) = script_text v
said_text (said.Logged root) = []
said_text said.NotLogged = codes "no log\n"
said_text (said.NoScript fault) = fault_text fault

-- the text begins with the line of what is said; of the rest nothing is promised
pub record HasLine (said : Said) (text : List ℕ) : Type 0 where
  pub hint : List ℕ
  pub text_is : text ≡ said_text said ++ hint
