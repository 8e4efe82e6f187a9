-- A text that is cut at a line.
use Rattle.std.specs.Prelude.{◌≡◌, ◌==◌, ℕ, List, ◌∷◌, ◌++◌, Some}
use Rattle.std.specs.List.{join_with_byte, slice_split}
use Rattle.std.proofs.Common.{ap, sym, ◌∙◌}
use Rattle.std.proofs.lemmas.List.Splits.{join_with_byte-slice_split}
use denote.Ref.{Bor}
use Rattle.report_reader.specs.Words.{parts}
use Rattle.log_check.specs.Parts.{AreParts}
use Rattle.history_text.proofs.Parts.{joined}

-- the line at which a text is cut, what stands before it, and what stands behind it
pub cut_here : (word script line rest bytes : List ℕ) (next : Bor (List ℕ)) → line ≡ word
    → parts 10 line (Some next) ≡ slice_split (λ b. b == 10) rest → bytes ≡ script ++ rest → AreParts word script next.now bytes
cut_here word script line rest bytes next same is are =
    are
    ∙ ap (λ l. script ++ l) (sym (join_with_byte-slice_split 10 rest) ∙ ap (join_with_byte 10) (sym is) ∙ joined line next.now)
    ∙ ap (λ l. script ++ (l ++ 10 ∷ next.now)) same
