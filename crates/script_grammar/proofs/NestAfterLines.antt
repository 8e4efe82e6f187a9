-- What is open after a line, and how often its lines run, where the lines of a select run so many times.
use Rattle.std.proofs.Common.{◌≡◌, ℕ, List, ◌∷◌, true, Option, Some, None, refl}
use Rattle.script_grammar.specs.declared.instructions.Instruction.{Instruction}
use Rattle.script_grammar.specs.declared.instructions.Instruction.TheVariants.{Select, OnSend, OnReceive, End}
use Rattle.script_grammar.specs.Blocks.{stands, nest_after, clauses_after}
use Rattle.script_grammar.specs.Tags.{nest_with}

-- how often the lines run that are open, those of a select so many times
abbrev pub open_nest : ℕ → Option (List ℕ) → List ℕ → List ℕ
open_nest turns None nest = nest
open_nest turns (Some cs) nest = turns ∷ nest

-- after one line more
abbrev pub nest_then : ℕ → List ℕ → Instruction → List ℕ
nest_then turns nest Select = turns ∷ nest
nest_then turns nest other = nest_with nest other

pub open_nest-line : (turns : ℕ) (o : Option (List ℕ)) (nest : List ℕ) (x : Instruction) → stands o nest x ≡ true
    → open_nest turns (clauses_after o x) (nest_after o nest x) ≡ nest_then turns (open_nest turns o nest) x
open_nest-line turns None nest (OnSend c v) e = cc
open_nest-line turns None nest (OnReceive c) e = cc
open_nest-line turns None nest other e = refl
open_nest-line turns (Some cs) nest (OnSend c v) e = refl
open_nest-line turns (Some cs) nest (OnReceive c) e = refl
open_nest-line turns (Some cs) nest End e = refl
open_nest-line turns (Some cs) nest other e = cc

-- the lines of a select run once
pub nest_then-once : (nest : List ℕ) (x : Instruction) → nest_then 1 nest x ≡ nest_with nest x
nest_then-once nest Select = refl
nest_then-once nest other = refl
