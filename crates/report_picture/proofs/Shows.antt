-- What a picture shows, by what its parts show.
use Rattle.std.proofs.Common.{◌≡◌, ◌∙◌, ℕ, List, Bool, true, false, ◌||◌, refl, map, filter, subst, ap, sym}
use Rattle.report_reader.specs.Reports.{Line as Told}
use Rattle.report_reader.specs.Reading.{told}
use Rattle.report_picture.specs.declared.columns.Wanted.{Wanted}
use Rattle.report_picture.specs.declared.picture.Drawn.{Drawn}
use Rattle.report_picture.specs.declared.picture.Picture.{Picture}
use Rattle.report_picture.specs.Pictures.{StandBeside, StandInColumns, StandInOrder, is_drawn, is_element, is_within, lines_in, tags_of}
use Rattle.report_picture.specs.Order.{AreOrdered, StandBelow, StandFrom}
use Rattle.report_picture.specs.Shown.{Shows}

pub shown : (found : Bool) (wanted : Wanted) (lines : List Told) (picture : Picture) (tags : List ℕ) (whole slice : List Drawn)
    → tags ≡ tags_of wanted lines → slice ≡ whole → map (λ c. c.tag) picture.columns.items ≡ tags → StandBeside 0 picture.columns.items
    → lines_in whole ≡ filter (is_drawn wanted tags) lines → StandInColumns tags whole → StandInOrder whole
    → AreOrdered found wanted tags lines whole → picture.lines.items ≡ filter (is_within wanted) slice
    → map (λ e. told e.line) picture.lost.items ≡ filter is_element lines → Shows found wanted lines picture
shown found wanted lines picture tags whole slice are is columns beside once in_columns in_order ordered part fates = record {
  columns = columns ∙ are;
  beside = beside;
  whole = whole;
  once = once ∙ ap (λ t. filter (is_drawn wanted t) lines) are;
  in_columns = subst (λ t. StandInColumns t whole) are in_columns;
  in_order = in_order;
  ordered = subst (λ t. AreOrdered found wanted t lines whole) are ordered;
  part = part ∙ ap (filter (is_within wanted)) is;
  fates = fates;
}

pub are_arranged : (found as_told : Bool) (wanted : Wanted) (tags : List ℕ) (lines : List Told) (ds : List Drawn)
    → (as_told || found) ≡ true → (as_told ≡ true → (found ≡ false) × StandFrom 0 ds) → (found ≡ true → StandBelow wanted tags lines ds)
    → AreOrdered found wanted tags lines ds
are_arranged true as_told wanted tags lines ds any told allowed = allowed refl
are_arranged false true wanted tags lines ds any told allowed = (told refl).1
are_arranged false false wanted tags lines ds any told allowed = let e : false ≡ true = any in cc

pub are_told : (found : Bool) (wanted : Wanted) (tags : List ℕ) (lines : List Told) (ds : List Drawn) → found ≡ false → StandFrom 0 ds
    → AreOrdered found wanted tags lines ds
are_told found wanted tags lines ds is stand = subst (λ f. AreOrdered f wanted tags lines ds) (sym is) stand
