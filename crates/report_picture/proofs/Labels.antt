-- What stands behind the first word of a line.
use Rattle.std.proofs.Common.{◌≡◌, ℕ, List, Option, Some, None, ap, sym, ◌∙◌}
use Rattle.std.proofs.lemmas.List.Splits.{join_with_byte-slice_split}
use denote.Ref.{Bor}
use Rattle.report_reader.specs.Words.{parts, words_of}
use Rattle.report_picture.specs.Elements.{behind_first, label_of, rest_of}

pub labelled : (line first : List ℕ) (rest : Option (Bor (List ℕ))) → parts 32 first rest ≡ words_of line → rest_of rest ≡ label_of line
labelled line first None cut = ap behind_first cut
labelled line first (Some rest) cut = sym (join_with_byte-slice_split 32 rest.now) ∙ ap behind_first cut
