-- Pieces that are added one after the other.
use Rattle.std.proofs.Common.{◌≡◌, ℕ, ◌+◌, List, [], ◌∷◌, ◌++◌, map, string_bytes, refl, sym, ap, subst, ◌∙◌}
use Rattle.std.specs.Fmt.{decimal}
use Rattle.std.specs.List.{flat_map, range_with_len}
use Rattle.std.proofs.lemmas.List.{append-nil, append_assoc}
use lib.Chars.{codes}
use Rattle.note_book.specs.declared.book.Item.{Item}
use Rattle.note_book.specs.declared.notes.Notes.{Notes}
use Rattle.note_book.specs.Books.{notes_of}
use Rattle.script_grammar.specs.Programs.{Declared}
use Rattle.run_report.specs.declared.gathered.Gathered.{Gathered}
use Rattle.run_report.specs.Gatherings.{Adds, GoesOn}
use Rattle.run_report.specs.Texts.{book_text, books_text, item_text}
use Rattle.run_report.proofs.Lines.{flat_map-range_more}

-- ---- pieces

-- one piece, and then another
pub adds : (a b c : Gathered) (x y : List ℕ) → Adds a b x → Adds b c y → Adds a c (x ++ y)
adds a b c x y p q = record {
  held = λ h. p.held (q.held h);
  behind = λ h. q.behind h ∙ ap (λ l. l ++ y) (p.behind (q.held h)) ∙ append_assoc (string_bytes a.text) x y;
}

-- nothing is added
pub adds_nothing : (a : Gathered) → Adds a a []
adds_nothing a = record { held = λ h. h; behind = λ h. sym (append-nil (string_bytes a.text)) }

-- nothing was added yet
pub nothing_added_yet : (a : Gathered) (all : List ℕ) → GoesOn a a all all
nothing_added_yet a all = record { held = λ h. h; behind = λ h. refl }

-- a piece of the rest is added
pub goes_on : (a b c : Gathered) (x rest all : List ℕ) → GoesOn a b (x ++ rest) all → Adds b c x → GoesOn a c rest all
goes_on a b c x rest all p q = record {
  held = λ h. p.held (q.held h);
  behind = λ h. ap (λ l. l ++ rest) (q.behind h) ∙ append_assoc (string_bytes b.text) x rest ∙ p.behind (q.held h);
}

-- all is added where nothing is left
pub all_added : (a b : Gathered) (all : List ℕ) → GoesOn a b [] all → Adds a b all
all_added a b all p = record { held = p.held; behind = λ h. sym (append-nil (string_bytes b.text)) ∙ p.behind h }

-- ---- lines

-- the line of one item more
pub one_item : (channels : List Declared) (tag : ℕ) (a b c : Gathered) (i : Item) (rest : List Item) (all : List ℕ)
    → GoesOn a b (book_text channels tag (i ∷ rest)) all
    → Adds b c (decimal tag ++ codes " " ++ item_text channels i ++ codes "\n")
    → GoesOn a c (book_text channels tag rest) all
one_item channels tag a b c i rest all p q =
    goes_on a b c (decimal tag ++ codes " " ++ item_text channels i ++ codes "\n") (book_text channels tag rest) all p q

-- the lines of one book more
pub one_book : (channels : List Declared) (tag : ℕ) (a b c : Gathered) (book : Notes) (items : List Item) (rest more : List Notes)
    (all : List ℕ)
    → book ∷ more ≡ rest
    → items ≡ notes_of book
    → Adds b c (book_text channels tag items)
    → GoesOn a b (books_text channels tag (map notes_of rest)) all
    → GoesOn a c (books_text channels (tag + 1) (map notes_of more)) all
one_book channels tag a b c book items rest more all r e q p =
    goes_on a b c (book_text channels tag (notes_of book)) (books_text channels (tag + 1) (map notes_of more)) all
    (subst (λ l. GoesOn a b (books_text channels tag (map notes_of l)) all) (sym r) p)
    (subst (λ l. Adds b c (book_text channels tag l)) e q)

-- the line of one row more
pub one_row : (f : ℕ → List ℕ) (a b c : Gathered) (n : ℕ) → Adds a b (flat_map f (range_with_len 0 n)) → Adds b c (f n)
    → Adds a c (flat_map f (range_with_len 0 (n + 1)))
one_row f a b c n p q =
    subst (λ l. Adds a c l) (sym (flat_map-range_more f n)) (adds a b c (flat_map f (range_with_len 0 n)) (f n) p q)
