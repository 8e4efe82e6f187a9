-- What the answer of a reader says of the text.
use Rattle.std.proofs.Common.{◌≡◌, List, ℕ, refl, sym, ◌∙◌, Result, Ok, Err}
use Rattle.std.specs.Prelude.{IfOk, IfErr, MatchResult}
use Rattle.script_grammar.specs.declared.fault.FaultKind.{FaultKind}
use Rattle.script_grammar.specs.declared.fault.FaultKind.TheVariants as kinds
use Rattle.script_grammar.specs.declared.fault.ScriptFault.{ScriptFault}
use Rattle.script_grammar.specs.Programs.{Program}
use Rattle.script_grammar.specs.Grammar.{Spells}
use Rattle.script_grammar.specs.Texts.{reading_of}
use Rattle.script_grammar.specs.Faulty.{FirstFault}
use Rattle.script_grammar.proofs.TextsRead.{read-from_Spells, Spells-from_read, first_fault}
use Rattle.script_reader.specs.declared.script.Script.{Script}
use Rattle.script_reader.specs.Answers.{Unless, GivesAt}
use Rattle.script_reader.specs.Scripts.{program_of}
use Rattle.script_reader.proofs.LineLoops.{unless_still}

pub same_ok : {A E : Type 0} (x y : A) (r : Result A E) → r ≡ Ok x → r ≡ Ok y → x ≡ y
same_ok x y (Ok z) e f = let a : z ≡ x = cc in let b : z ≡ y = cc in sym a ∙ b
same_ok x y (Err k) e f = cc

pub not_both : {A E : Type 0} (x : A) (k : E) (r : Result A E) → r ≡ Ok x → r ≡ Err k → ⊥
not_both x k (Ok y) e f = cc
not_both x k (Err j) e f = cc

pub only_memory : (kind : FaultKind) (P : Type 0) → (P → ⊥) → Unless kind P → kind ≡ kinds.Memory
only_memory kinds.Memory P never u = refl
only_memory other P never u = absurd (never u)

pub spelled : (r : Result Script ScriptFault) (bytes : List ℕ) → GivesAt program_of r (reading_of bytes)
    → IfOk r (λ script. Spells bytes (program_of script))
spelled (Ok script) bytes exact = Spells-from_read bytes (program_of script) exact
spelled (Err fault) bytes exact = tt

pub complete : (r : Result Script ScriptFault) (bytes : List ℕ) (p : Program) → GivesAt program_of r (reading_of bytes) → Spells bytes p
    → MatchResult r (λ script. program_of script ≡ p) (λ fault. fault.kind ≡ kinds.Memory)
complete (Ok script) bytes p exact is = same_ok (program_of script) p (reading_of bytes) exact (read-from_Spells bytes p is)
complete (Err fault) bytes p exact is = only_memory fault.kind (reading_of bytes ≡ Err fault)
    (λ bad. not_both p fault (reading_of bytes) (read-from_Spells bytes p is) bad) exact

pub refused : (r : Result Script ScriptFault) (bytes : List ℕ) → GivesAt program_of r (reading_of bytes)
    → IfErr r (λ fault. Unless fault.kind (FirstFault bytes fault))
refused (Ok script) bytes exact = tt
refused (Err fault) bytes exact = unless_still fault.kind (reading_of bytes ≡ Err fault) (FirstFault bytes fault)
    (λ bad. first_fault bytes fault bad) exact
