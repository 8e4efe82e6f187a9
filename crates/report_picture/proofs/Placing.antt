-- Lines that stand in columns and in order, with one line more.
use Rattle.std.proofs.Common.{◌≡◌, ◌<◌, ◌≤◌, ◌-◌, ◌+◌, ℕ, suc, List, [], ◌∷◌, ◌++◌, length, IfSome, Some, Bool, true, filter, ap, sym, subst, arith, slice_get, get_or, take, drop, append_assoc, ◌∙◌}
use Rattle.std.proofs.lemmas.List.{take_all}
use Rattle.std.proofs.lemmas.List.Elements.{filter-append}
use Rattle.report_picture.specs.declared.picture.Drawn.{Drawn}
use Rattle.report_picture.specs.Order.{StandFrom}
use Rattle.report_picture.specs.Pictures.{EndsAbove, StandInColumns, StandInOrder, column_of, is_target}
use Rattle.report_reader.specs.declared.line.Line.{Line}
use Rattle.report_reader.specs.Reports.{Line as Told}
use Rattle.report_reader.specs.Reading.{told, told_lines}

pub columns_more : (tags : List ℕ) (ds : List Drawn) (d : Drawn) → StandInColumns tags ds → column_of tags d.line.said ≡ Some d.column
    → is_target tags d.target ≡ true → StandInColumns tags (ds ++ d ∷ [])
columns_more tags [] d stand is target = ((is, target), tt)
columns_more tags (x ∷ ds) d stand is target = (stand.0, columns_more tags ds d stand.1 is target)

pub order_more : (ds : List Drawn) (d : Drawn) → StandInOrder ds → EndsAbove d.column d.row ds → StandInOrder (ds ++ d ∷ [])
order_more [] d stand above = (tt, tt)
order_more (x ∷ []) d stand above = (λ same. above (sym same), (tt, tt))
order_more (x ∷ (y ∷ ds)) d stand above = (stand.0, order_more (y ∷ ds) d stand.1 above)

last_more : (d e : Drawn) (ds : List Drawn) → slice_get (d ∷ (e ∷ ds)) (length (d ∷ (e ∷ ds)) - 1) ≡
    slice_get (e ∷ ds) (length (e ∷ ds) - 1)
last_more d e ds =
    let at : length (d ∷ (e ∷ ds)) - 1 ≡ suc (length (e ∷ ds) - 1) = omega arith in
    ap (slice_get (d ∷ (e ∷ ds))) at

pub last_above : (column row : ℕ) (ds : List Drawn) → IfSome (slice_get ds (length ds - 1)) (λ d. d.column ≡ column → d.row < row)
    → EndsAbove column row ds
last_above column row [] h = tt
last_above column row (d ∷ []) h = h
last_above column row (d ∷ (e ∷ ds)) h =
    last_above column row (e ∷ ds) (subst (λ o. IfSome o (λ (x : Drawn). x.column ≡ column → x.row < row)) (last_more d e ds) h)

pub filter_more : (p : Told → Bool) (x : Told) (xs : List Told) → filter p (x ∷ xs) ≡ filter p (x ∷ []) ++ filter p xs
filter_more p x xs = filter-append p (x ∷ []) xs

pub part_more : (p : Drawn → Bool) (x : Drawn) (xs : List Drawn) → filter p (x ∷ xs) ≡ filter p (x ∷ []) ++ filter p xs
part_more p x xs = filter-append p (x ∷ []) xs

rows_from : (n : ℕ) (ds : List Drawn) (d : Drawn) → StandFrom n ds → d.row ≡ n + length ds → StandFrom n (ds ++ d ∷ [])
rows_from n [] d stand is = (omega (arith, is), tt)
rows_from n (x ∷ ds) d stand is = (stand.0, rows_from (n + 1) ds d stand.1 (omega (arith, is)))

pub rows_more : (ds : List Drawn) (d : Drawn) → StandFrom 0 ds → d.row ≡ length ds → StandFrom 0 (ds ++ d ∷ [])
rows_more ds d stand is = rows_from 0 ds d stand (omega (arith, is))

above_from : (column n : ℕ) (ds : List Drawn) → StandFrom n ds → EndsAbove column (n + length ds) ds
above_from column n [] stand = tt
above_from column n (d ∷ []) stand = λ same. omega (arith, stand.0)
above_from column n (d ∷ (e ∷ ds)) stand =
    subst (λ row. EndsAbove column row (e ∷ ds)) (omega arith) (above_from column (n + 1) (e ∷ ds) stand.1)

pub told_above : (column : ℕ) (ds : List Drawn) → StandFrom 0 ds → EndsAbove column (length ds) ds
told_above column ds stand = subst (λ row. EndsAbove column row ds) (omega arith) (above_from column 0 ds stand)

-- the first of a list, and the others
pub split_off : {A : Type 0} (xs : List A) (d : A) → 1 ≤ length xs → xs ≡ get_or xs 0 d ∷ take (length xs - 1) (drop 1 xs)
split_off [] d some = absurd (omega arith)
split_off (x ∷ xs) d some = ap (λ l. x ∷ l) (sym (take_all (length (x ∷ xs) - 1) xs (omega arith)))

-- what is kept of all lines, once one line more was gone through
kept_more : (p : Told → Bool) (kept kept' : List Told) (x : Told) (xs all : List Told) → kept' ≡ kept ++ filter p (x ∷ [])
    → kept ++ filter p (x ∷ xs) ≡ all → kept' ++ filter p xs ≡ all
kept_more p kept kept' x xs all more so_far =
    ap (λ l. l ++ filter p xs) more
    ∙ append_assoc kept (filter p (x ∷ [])) (filter p xs)
    ∙ ap (λ l. kept ++ l) (sym (filter_more p x xs)) ∙ so_far

pub kept_rest : (p : Told → Bool) (kept kept' : List Told) (rest : List Line) (d : Line) (all : List Told) → 1 ≤ length rest
    → kept' ≡ kept ++ filter p (told (get_or rest 0 d) ∷ []) → kept ++ filter p (told_lines rest) ≡ all
    → kept' ++ filter p (told_lines (take (length rest - 1) (drop 1 rest))) ≡ all
kept_rest p kept kept' rest d all some more so_far =
    kept_more p kept kept' (told (get_or rest 0 d)) (told_lines (take (length rest - 1) (drop 1 rest))) all more
    (ap (λ r. kept ++ filter p (told_lines r)) (sym (split_off rest d some)) ∙ so_far)

-- ---- a line was added

pub columns_pushed : (tags : List ℕ) (ds ds' : List Drawn) (d : Drawn) (line : Line) (column : ℕ) → ds' ≡ ds ++ d ∷ [] → d.line ≡ line
    → d.column ≡ column → column_of tags line.said ≡ Some column → is_target tags d.target ≡ true → StandInColumns tags ds
    → StandInColumns tags ds'
columns_pushed tags ds ds' d line column more is at here target stand =
    subst (StandInColumns tags) (sym more)
    (columns_more tags ds d stand (ap (λ l. column_of tags l.said) is ∙ here ∙ ap (λ n. Some n) (sym at)) target)

pub order_pushed : (ds ds' slice : List Drawn) (d : Drawn) (column row : ℕ) → ds' ≡ ds ++ d ∷ [] → slice ≡ ds → d.column ≡ column
    → d.row ≡ row → EndsAbove column row slice → StandInOrder ds → StandInOrder ds'
order_pushed ds ds' slice d column row more lent at in_row above stand =
    let above_column : EndsAbove d.column row slice = subst (λ k. EndsAbove k row slice) (sym at) above in
    let above_line : EndsAbove d.column d.row slice = subst (λ r. EndsAbove d.column r slice) (sym in_row) above_column in
    subst StandInOrder (sym more) (order_more ds d stand (subst (EndsAbove d.column d.row) lent above_line))

pub rows_pushed : (as_told : Bool) (ds ds' slice : List Drawn) (d : Drawn) (row : ℕ) → ds' ≡ ds ++ d ∷ [] → slice ≡ ds → d.row ≡ row
    → (as_told ≡ true → row ≡ length slice) → (as_told ≡ true → StandFrom 0 ds) → as_told ≡ true → StandFrom 0 ds'
rows_pushed as_told ds ds' slice d row more lent in_row is stand told =
    subst (StandFrom 0) (sym more) (rows_more ds d (stand told) (in_row ∙ is told ∙ ap (λ xs. length xs) lent))
