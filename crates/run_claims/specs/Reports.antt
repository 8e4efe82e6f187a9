-- A text that reports a run.
use Rattle.std.specs.Prelude.{◌≡◌, ℕ, List, Option}
use Rattle.job_model.specs.declared.acts.End.{End}
use Rattle.script_grammar.specs.Programs.{Program}
use Rattle.script_grammar.specs.Grammar.{Spells}
use Rattle.run_report.specs.Elements.{report_text}
use Rattle.run_claims.specs.Runs.{RunsTo}

-- the input is a script, and the text the report of a run of it, whose root has ended so, if it has
pub record Reports (root : Option End) (input text : List ℕ) : Type 0 where
  pub program : Program
  pub spelled : Spells input program
  pub run : RunsTo root program
  pub is_report : text ≡ report_text program run.books
