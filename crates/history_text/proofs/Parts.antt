-- What was read of the parts of a text is read of the whole.
use Rattle.std.specs.Prelude.{◌≡◌, ◌<◌, ◌==◌, ℕ, List, [], ◌∷◌, ◌++◌, Option, Some, None, IfSome, length, option_map, refl}
use Rattle.std.specs.List.{join_with_byte, slice_split}
use Rattle.std.proofs.Common.{ap, arith, sym, subst, ◌∙◌}
use Rattle.std.proofs.lemmas.List.Splits.{join_with_byte-slice_split, length-slice_split}
use denote.Ref.{Bor}
use Rattle.job_model.specs.Trees.{Shape}
use Rattle.report_reader.specs.Words.{parts, words_of}
use Rattle.history_text.specs.declared.input.Input.{Input}
use Rattle.history_text.specs.declared.job_numbers.JobNumbers.{JobNumbers}
use Rattle.history_text.specs.declared.input.NoInput.{NoInput}
use Rattle.history_text.specs.declared.input.NoInput.TheVariants as no_input
use Rattle.history_text.specs.Inputs.{IsCut}
use Rattle.history_text.specs.Numbers.{shape_by, shape_of}
use Rattle.history_text.specs.Readings.{IsRead, IsReadAs, IsRefused, IsRefusedAs}

some_parts : (line : List ℕ) (more : List (List ℕ)) → 0 < length more → join_with_byte 10 (line ∷ more) ≡ line
    ++ 10 ∷ join_with_byte 10 more
some_parts line [] some = absurd (omega (arith, some))
some_parts line (part ∷ more) some = refl

pub joined : (line text : List ℕ) → join_with_byte 10 (line ∷ slice_split (λ b. b == 10) text) ≡ line ++ 10 ∷ text
joined line text =
    some_parts line (slice_split (λ b. b == 10) text) (omega (arith, length-slice_split (λ b. b == 10) text))
    ∙ ap (λ l. line ++ 10 ∷ l) (join_with_byte-slice_split 10 text)

-- the numbers that the words of a line are
pub marked : (o : Option JobNumbers) (words : List (List ℕ)) (line : List ℕ) → option_map shape_of o ≡ shape_by words
    → words ≡ words_of line
    → IfSome o (λ numbers. shape_by (words_of line) ≡ Some (shape_of numbers))
marked None words line e is = tt
marked (Some numbers) words line e is = ap shape_by (sym is) ∙ sym e

-- the text of which all of this was read
pub read_of : (input : Input) (jobs : Shape) (header text bytes : List ℕ) → IsCut jobs header text bytes → shape_of input.numbers ≡ jobs
    → IsReadAs input header text → IsRead input bytes
read_of input jobs header text bytes cut is h =
    record { header = header; text = text; cut = subst (λ j. IsCut j header text bytes) (sym is) cut; has = h }

-- why neither part was read
pub refused_as : (why : NoInput) (jobs : Shape) (header text bytes : List ℕ) → IsCut jobs header text bytes → IsRefusedAs why header text
    → IsRefused why bytes
refused_as (no_input.Fault fault) jobs header text bytes cut h =
    record { jobs = jobs; header = header; text = text; cut = cut; faulty = h }
refused_as (no_input.NoItem n) jobs header text bytes cut h =
    (h.0, jobs, record { header = header; text = text; cut = cut; has = h.1 })
refused_as other jobs header text bytes cut h = tt

-- the line at which a text is cut, what stands before it, and what stands behind it
pub cut_here : (jobs : Shape) (header line : List ℕ) (rest bytes : List ℕ) (next : Bor (List ℕ)) → shape_by (words_of line) ≡ Some jobs
    → parts 10 line (Some next) ≡ slice_split (λ b. b == 10) rest → bytes ≡ header ++ rest → IsCut jobs header next.now bytes
cut_here jobs header line rest bytes next mark is are = record {
  line = line;
  mark = mark;
  bytes_are = are ∙ ap (λ l. header ++ l)
      (sym (join_with_byte-slice_split 10 rest) ∙ ap (join_with_byte 10) (sym is) ∙ joined line next.now);
}
