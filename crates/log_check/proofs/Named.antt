-- The names of the channels of a run.
use Rattle.std.specs.Prelude.{◌≡◌, ℕ, ◌+◌, ◌<◌, List, [], ◌∷◌, ◌++◌, get_or, length, map, refl, string_bytes, take}
use Rattle.std.specs.List.{range_with_len}
use Rattle.std.proofs.Common.{ap, append_assoc, arith, sym, ◌∙◌, length-append}
use Rattle.std.proofs.lemmas.List.{length-map, map-append, map_more}
use Rattle.std.proofs.lemmas.List.FromFn.{length-map-range_with_len}
use Rattle.run_report.proofs.Lines.{range_with_len-more}
use Rattle.script_grammar.specs.Programs.{Declared, channel_names}
use Rattle.script_reader.specs.declared.script.Channel.{Channel}
use Rattle.script_reader.specs.Programs.{declared_of}
use Rattle.log_check.specs.Logs.{row_name}

-- one row more
pub one_row_more : (before new : List (List ℕ)) (name : List ℕ) (n : ℕ) → before ≡ map row_name (range_with_len 0 n)
    → new ≡ before ++ name ∷ [] → name ≡ row_name n → new ≡ map row_name (range_with_len 0 (n + 1))
one_row_more before new name n is more named =
    more ∙ ap (λ l. l ++ name ∷ []) is ∙ ap (λ x. map row_name (range_with_len 0 n) ++ x ∷ []) named
    ∙ sym (map-append row_name (range_with_len 0 n) (n ∷ [])) ∙ sym (ap (map row_name) (range_with_len-more n))

-- the name of the next element stands behind those of the elements before it
pub one_name_more : {A : Type 0} (name_of : A → List ℕ) (front before new : List (List ℕ)) (xs : List A) (i : ℕ) (x : A) (name : List ℕ)
    → before ≡ front ++ map name_of (take i xs) → new ≡ before ++ name ∷ [] → name ≡ name_of x → x ≡ get_or xs i x → i < length xs
    → new ≡ front ++ map name_of (take (i + 1) xs)
one_name_more name_of front before new xs i x name is more named here within =
    more ∙ (λ j. is j ++ (named ∙ ap name_of here) j ∷ [])
    ∙ append_assoc front (map name_of (take i xs)) (name_of (get_or xs i x) ∷ [])
    ∙ ap (λ l. front ++ l) (sym (map_more name_of xs i x within))

names_declared : (xs : List Channel) → map (λ (c : Channel). string_bytes c.name) xs ≡ channel_names (map declared_of xs)
names_declared [] = refl
names_declared (x ∷ xs) = ap (λ l. string_bytes x.name ∷ l) (names_declared xs)

-- the names of the declared channels, and those of the rows
pub all_named : (names : List (List ℕ)) (xs : List Channel) (rows : List (List ℕ)) (declared : List Declared) (n : ℕ)
    → names ≡ map (λ (c : Channel). string_bytes c.name) xs ++ rows → rows ≡ map row_name (range_with_len 0 n)
    → map declared_of xs ≡ declared → names ≡ channel_names declared ++ map row_name (range_with_len 0 n)
all_named names xs rows declared n is rows_are declared_are =
    is ∙ ap (λ l. map (λ (c : Channel). string_bytes c.name) xs ++ l) rows_are
    ∙ ap (λ l. l ++ map row_name (range_with_len 0 n)) (names_declared xs ∙ ap channel_names declared_are)

-- how many names there are
pub names_counted : (declared : List Declared) (n : ℕ) → length (channel_names declared ++ map row_name (range_with_len 0 n))
    ≡ length declared + n
names_counted declared n = omega (
  arith,
  length-append (channel_names declared) (map row_name (range_with_len 0 n)),
  length-map declared (λ (c : Declared). c.name),
  length-map-range_with_len row_name 0 n,
)
