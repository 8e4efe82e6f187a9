-- Where the note passes that a declared channel has no place left, it passes for each clause of a select.
use Rattle.std.specs.Prelude.{◌≡◌, ℕ, suc, zero, ◌+◌, ◌<◌, Bool, true, List, [], ◌∷◌, drop}
use Rattle.std.specs.List.{list_all}
use Rattle.note_book.specs.declared.book.Item.{Item}
use Rattle.script_grammar.specs.declared.instructions.Instruction.{Instruction}
use Rattle.script_grammar.specs.declared.instructions.Instruction.TheVariants as line
use Rattle.script_grammar.specs.Declarations.{names_channel}
use Rattle.script_grammar.specs.Programs.{Program}
use Rattle.script_grammar.specs.Tags.{code_of}
use Rattle.script_grammar.specs.WellFormed.{IsProgram}
use Rattle.script_grammar.proofs.Layouts.{channels_known}
use Rattle.script_grammar.proofs.Truths.{lt-from_true}
use Rattle.script_meaning.specs.Shapes.{base_of}
use Rattle.script_meaning.specs.Configs.{Config}
use Rattle.script_meaning.specs.Lines.{clauses_in, clauses_at}
use Rattle.script_meaning.proofs.GroupNotes.{spent_note, AllSpentPass, both}

-- ---- the channels of lines

dropped : (n : ℕ) (test : Instruction → Bool) (code : List Instruction) → list_all test code ≡ true → list_all test (drop n code) ≡ true
dropped zero test code h = h
dropped (suc n) test [] h = h
dropped (suc n) test (x ∷ code) h = dropped n test code (both (test x) (list_all test code) h).1

-- that no place was left passes for a declared channel
abbrev pub SpentBelow : (Item → Bool) → ℕ → Type 0
SpentBelow T base = (c : ℕ) → c < base → T (spent_note c) ≡ true

clauses_pass : (T : Item → Bool) (base : ℕ) (x : Config) (code : List Instruction) → SpentBelow T base
    → list_all (names_channel base) code ≡ true → AllSpentPass T (clauses_in x code)
unfolding AllSpentPass
clauses_pass T base x [] s h = tt
clauses_pass T base x (line.OnSend c o ∷ code) s h = let two = both (names_channel base (line.OnSend c o)) _ h
    in (s c (lt-from_true c base two.0), clauses_pass T base x code s two.1)
clauses_pass T base x (line.OnReceive c ∷ code) s h = let two = both (names_channel base (line.OnReceive c)) _ h
    in (s c (lt-from_true c base two.0), clauses_pass T base x code s two.1)
clauses_pass T base x (line.Send c o ∷ code) s h = tt
clauses_pass T base x other s h = tt

pub clauses_spent : (T : Item → Bool) (p : Program) (k : ℕ) (x : Config) → IsProgram p → SpentBelow T (base_of p)
    → AllSpentPass T (clauses_at p k x)
clauses_spent T p k x ok s = clauses_pass T (base_of p) x (drop (x.line + 1) (code_of p k)) s
    (dropped (x.line + 1) (names_channel (base_of p)) (code_of p k) (channels_known p k ok))
