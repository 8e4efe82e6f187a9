-- What a text says of an input.
use Rattle.std.specs.Prelude.{◌≡◌, ◌≢◌, ℕ, ◌<◌, ◌≤◌, List, length, map, Option, Some, None, refl}
use Rattle.std.proofs.Common.{arith, subst, sym, map-id}
use Rattle.script_grammar.specs.declared.fault.FaultKind.TheVariants.{NotAscii, UnknownWord, BadNumber, BadName, Duplicate, Undeclared, NoMain, NoEnd, Extra, TooDeep, TooMany, Recursive, Memory}
use Rattle.script_grammar.specs.declared.fault.FaultKind.{FaultKind}
use Rattle.script_grammar.specs.declared.fault.ScriptFault.{ScriptFault}
use Rattle.script_grammar.specs.Programs.{Program}
use Rattle.script_grammar.specs.Grammar.{Spells}
use Rattle.script_grammar.specs.Faulty.{FirstFault}
use Rattle.script_reader.specs.Answers.{Unless}
use Rattle.run_report.specs.Faults.{fault_text}
use Rattle.run_report.specs.Elements.{report_text}
use Rattle.run_report.specs.Summaries.{summary_text}
use Rattle.script_grammar.specs.Generated.{generated}
use Rattle.channel_model.specs.declared.acts.Entry.{Entry}
use Rattle.job_model.specs.declared.acts.End.{End}
use Rattle.job_model.specs.declared.acts.End.TheVariants as ends
use Rattle.job_model.specs.declared.acts.JobEntry.{JobEntry}
use Rattle.note_book.specs.declared.book.Item.{Item}
use Rattle.run_laws.specs.Ends.{IsRunInOneOrder}
use Rattle.run_claims.specs.Runs.{RunsTo}
use Rattle.run_claims.proofs.RunsAtRest.{ran}
use Rattle.command_line.specs.Statuses.{Refuses, ReportsRun, Serves, Stream, SumsUp, ending_of}
use Rattle.command_line.specs.Preparing.{Asks, GaveScript, text_of}
use Rattle.command_line.specs.declared.words.Command.{Command}
use Rattle.command_line.specs.declared.words.Command.TheVariants.{Run, Check, Sum}

-- ---- no script

-- more bytes than a script may have are refused, and spell none
pub too_long-refused : (input : List ℕ) → length input ≡ 1048577 → FirstFault input (record { line = 1; kind = TooMany })
too_long-refused input e = let long : 1048576 < length input = omega (arith, e) in FirstFault.too_long long

pub too_long-unspelled : (input : List ℕ) → length input ≡ 1048577 → (p : Program) → Spells input p → ⊥
too_long-unspelled input e p s = let k : length input ≤ 1048576 = s.short in omega (arith, k, e)

-- the fact that is told unless memory ran out
told : (kind : FaultKind) (P : Type 0) → kind ≢ Memory → Unless kind P → P
told NotAscii P n h = h
told UnknownWord P n h = h
told BadNumber P n h = h
told BadName P n h = h
told Duplicate P n h = h
told Undeclared P n h = h
told NoMain P n h = h
told NoEnd P n h = h
told Extra P n h = h
told TooDeep P n h = h
told TooMany P n h = h
told Recursive P n h = h
told Memory P n h = absurd (n refl)

pub refused : (fault : ScriptFault) (input text : List ℕ) → fault.kind ≢ Memory → Unless fault.kind (FirstFault input fault)
    → ((p : Program) → Spells input p → fault.kind ≡ Memory) → text ≡ fault_text fault → Refuses input text
refused fault input text known read spelled is = record {
  fault = fault;
  refused = told fault.kind (FirstFault input fault) known read;
  no_script = λ p s. known (spelled p s);
  is_line = is;
}

-- ---- a report

-- the report of a run answers its script
reported : (p : Program) (source source' : Stream) (root : Option End) (text : List ℕ) (gave : GaveScript source source' p)
    (run : RunsTo root p) → text ≡ report_text p run.books → ReportsRun (ending_of root) gave.input text
reported p source source' root text gave run is =
    record { root = root; ending = refl; reports = record { program = p; spelled = gave.spelled; run = run; is_report = is } }

-- the summary of a run of the generated script is one of its size
summed : (p : Program) (size : ℕ) (root : Option End) (text : List ℕ) → p ≡ generated size → (run : RunsTo root p)
    → text ≡ summary_text p run.books → SumsUp size (ending_of root) text
summed p size root text e =
    subst (λ q. (run : RunsTo root q) → text ≡ summary_text q run.books → SumsUp size (ending_of root) text) (sym e)
    (λ run is. record { root = root; ending = refl; run = run; is_summary = is })

pub answered : (command : Command) (p : Program) (books : List (List Item)) (channels : List Entry) (jobs : List JobEntry)
    (root : Option End) (made : List ℕ) (source source' : Stream) → IsRunInOneOrder p books channels jobs root
    → made ≡ text_of command p books → Asks command source source' p → Serves command (ending_of root) source source' (λ text. made ≡ text)
answered (Run workers) p books channels jobs None made source source' of is asks =
    record {
      input = asks.input;
      given = asks.given;
      all = asks.all;
      text = made;
      answers = reported p source source' None made asks (ran p books channels jobs None of) is;
      taken = refl;
    }
answered (Run workers) p books channels jobs (Some (ends.Completed v)) made source source' of is asks =
    record {
      input = asks.input;
      given = asks.given;
      all = asks.all;
      text = made;
      answers = reported p source source' (Some (ends.Completed v)) made asks
          (ran p books channels jobs (Some (ends.Completed v)) of) is;
      taken = refl;
    }
answered (Run workers) p books channels jobs (Some (ends.Cancelled cause)) made source source' of is asks =
    record {
      input = asks.input;
      given = asks.given;
      all = asks.all;
      text = made;
      answers = reported p source source' (Some (ends.Cancelled cause)) made asks
          (ran p books channels jobs (Some (ends.Cancelled cause)) of) is;
      taken = refl;
    }
answered Check p books channels jobs root made source source' of is asks = absurd asks
answered (Sum size workers) p books channels jobs None made source source' of is asks =
    record {
      unread = asks.1;
      text = made;
      answers = summed p size None made asks.0 (ran p books channels jobs None of) is;
      taken = refl;
    }
answered (Sum size workers) p books channels jobs (Some (ends.Completed v)) made source source' of is asks =
    record {
      unread = asks.1;
      text = made;
      answers = summed p size (Some (ends.Completed v)) made asks.0 (ran p books channels jobs (Some (ends.Completed v)) of) is;
      taken = refl;
    }
answered (Sum size workers) p books channels jobs (Some (ends.Cancelled cause)) made source source' of is asks =
    record {
      unread = asks.1;
      text = made;
      answers = summed p size (Some (ends.Cancelled cause)) made asks.0
          (ran p books channels jobs (Some (ends.Cancelled cause)) of) is;
      taken = refl;
    }

-- a run whose books are seen as their notes
pub tallied_rest : (p : Program) (books : List (List Item)) (channels : List Entry) (jobs : List JobEntry) (root : Option End)
    → IsRunInOneOrder p (map (λ notes. notes) books) channels jobs root → IsRunInOneOrder p books channels jobs root
tallied_rest p books channels jobs root h = subst (λ all. IsRunInOneOrder p all channels jobs root) (map-id books) h
