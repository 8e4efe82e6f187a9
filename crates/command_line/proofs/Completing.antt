-- A call that nothing disturbs comes to its end.
use Rattle.std.specs.Prelude.{◌≡◌, ℕ, ◌≤◌, ◌==◌, ◌||◌, true, List, ◌++◌, length, Option, Some, None, refl}
use Rattle.std.proofs.Common.{ap, arith, sym, subst, ◌∙◌, append-nil}
use Rattle.std.proofs.lemmas.List.{length-append}
use Rattle.std.proofs.lemmas.Option.{same_Some}
use Rattle.co_base.specs.Streams.{Gave, IsDrained}
use Rattle.script_grammar.specs.Programs.{Program}
use Rattle.script_grammar.specs.Grammar.{Spells}
use Rattle.command_line.specs.declared.words.Command.{Command}
use Rattle.command_line.specs.declared.words.Command.TheVariants.{Run, Check, Sum}
use Rattle.command_line.specs.declared.status.Status.{Status}
use Rattle.command_line.specs.declared.status.Status.TheVariants as status
use Rattle.command_line.specs.Commands.{reads}
use Rattle.command_line.specs.Statuses.{Completes, IsUndisturbed, Means, Needs, Refuses, SpellsAny, SpellsNone, Stream, ends_whole, number_of}

-- what was given of bytes that are told, and drained, is all
all_given : (old new : Option (List ℕ)) (bytes input : List ℕ) → old ≡ Some bytes → Gave old new input → IsDrained new → input ≡ bytes
all_given None new bytes input e given none = cc
all_given (Some old) None bytes input e given none = absurd given
all_given (Some old) (Some new) bytes input e given none =
    sym (append-nil input) ∙ ap (λ rest. input ++ rest) (sym none) ∙ sym given ∙ same_Some old bytes e

-- what was given is no longer than what is there
no_longer : (old new : Option (List ℕ)) (bytes input : List ℕ) → old ≡ Some bytes → Gave old new input → length input ≤ length bytes
no_longer None new bytes input e given = cc
no_longer (Some old) None bytes input e given = absurd given
no_longer (Some old) (Some new) bytes input e given =
    omega (arith, ap length given, length-append input new, ap length (same_Some old bytes e))

-- a script is not refused
not_refused : (source source' : Stream) (input text : List ℕ) → Gave source.bytes source'.bytes input
    → (length input ≤ 1048576 → IsDrained source'.bytes) → Refuses input text → SpellsAny source → ⊥
not_refused source source' input text given all refuses spells =
    let bytes = spells.0 in
    let short : length bytes ≤ 1048576 = spells.3.short in
    let few = no_longer source.bytes source'.bytes bytes input spells.2 given in
    let same = all_given source.bytes source'.bytes bytes input spells.2 given (all (omega (arith, short, few))) in
    refuses.no_script spells.1 (subst (λ b. Spells b spells.1) (sym same) spells.3)

-- what is no script is not read as one
not_read : (source source' : Stream) (input : List ℕ) (p : Program) → Gave source.bytes source'.bytes input
    → (length input ≤ 1048576 → IsDrained source'.bytes) → Spells input p → SpellsNone source → ⊥
not_read source source' input p given all spelled none =
    let same = all_given source.bytes source'.bytes none.0 input none.1 given (all spelled.short) in
    none.2 p (subst (λ b. Spells b p) same spelled)

whole : (s : Status) (command : Command) (source source' sink sink' : Stream) → Means s (Some command) source source' sink sink'
    → IsUndisturbed source source' sink sink' → Needs command source
    → (ends_whole command (number_of s) || number_of s == 7) ≡ true
whole status.Completed (Run workers) source source' sink sink' m u n = refl
whole status.Completed Check source source' sink sink' m u n = refl
whole status.Completed (Sum size workers) source source' sink sink' m u n = refl
whole status.Cancelled Check source source' sink sink' m u n = absurd m.answers
whole status.Cancelled other source source' sink sink' m u n = refl
whole status.Refused command source source' sink sink' m u n = cc
whole status.NoScript (Run workers) source source' sink sink' m u n =
    absurd (not_refused source source' m.input m.text m.given m.all m.answers n)
whole status.NoScript Check source source' sink sink' m u n = absurd (not_refused source source' m.input m.text m.given m.all m.answers n)
whole status.NoScript (Sum size workers) source source' sink sink' m u n = absurd m.answers
whole status.Unfinished (Run workers) source source' sink sink' m u n = refl
whole status.Unfinished Check source source' sink sink' m u n = absurd m.answers
whole status.Unfinished (Sum size workers) source source' sink sink' m u n = refl
whole status.ReadFault command source source' sink sink' m u n = absurd (u.reading m.1)
whole status.WriteFault command source source' sink sink' m u n = absurd (u.writing m.rose)
whole status.NoMemory (Run workers) source source' sink sink' m u n = refl
whole status.NoMemory Check source source' sink sink' m u n = refl
whole status.NoMemory (Sum size workers) source source' sink sink' m u n = refl

no_script : (s : Status) (command : Command) (source source' sink sink' : Stream) → Means s (Some command) source source' sink sink'
    → reads command ≡ true → IsUndisturbed source source' sink sink' → SpellsNone source
    → (number_of s == 3 || number_of s == 7) ≡ true
no_script s (Sum size workers) source source' sink sink' m r u n = cc
no_script status.Completed (Run workers) source source' sink sink' m r u n =
    absurd (not_read source source' m.input m.answers.reports.program m.given m.all m.answers.reports.spelled n)
no_script status.Completed Check source source' sink sink' m r u n =
    absurd (not_read source source' m.input m.answers.program m.given m.all m.answers.spelled n)
no_script status.Cancelled (Run workers) source source' sink sink' m r u n =
    absurd (not_read source source' m.input m.answers.reports.program m.given m.all m.answers.reports.spelled n)
no_script status.Cancelled Check source source' sink sink' m r u n = absurd m.answers
no_script status.Refused command source source' sink sink' m r u n = cc
no_script status.NoScript command source source' sink sink' m r u n = refl
no_script status.Unfinished (Run workers) source source' sink sink' m r u n =
    absurd (not_read source source' m.input m.answers.reports.program m.given m.all m.answers.reports.spelled n)
no_script status.Unfinished Check source source' sink sink' m r u n = absurd m.answers
no_script status.ReadFault command source source' sink sink' m r u n = absurd (u.reading m.1)
no_script status.WriteFault command source source' sink sink' m r u n = absurd (u.writing m.rose)
no_script status.NoMemory command source source' sink sink' m r u n = refl

pub completes : (s : Status) (asked : Option Command) (source source' sink sink' : Stream) → Means s asked source source' sink sink'
    → Completes (number_of s) asked source source' sink sink'
completes s asked source source' sink sink' m = record {
  whole = λ command e u n. whole s command source source' sink sink' (subst (λ a. Means s a source source' sink sink') e m) u n;
  no_script = λ command e r u n. no_script s command source source' sink sink' (subst (λ a. Means s a source source' sink sink') e m) r u n;
}
