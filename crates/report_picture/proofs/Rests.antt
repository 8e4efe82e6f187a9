-- Texts of what is left of a list that is gone through.
use Rattle.std.proofs.Common.{◌≡◌, ◌≤◌, ◌-◌, ◌+◌, ℕ, List, [], ◌∷◌, ◌++◌, length, ap, sym, subst, arith, get_or, take, drop}
use Rattle.std.proofs.lemmas.List.{take_all}
use Rattle.std.specs.Fmt.{decimal}
use lib.Chars.{codes}
use Rattle.gathered.specs.declared.text.Text.{Text}
use Rattle.gathered.specs.Texts.{Adds, GoesOn}
use Rattle.gathered.proofs.Adding.{adds_same, goes_on}
use Rattle.picture_parts.specs.Names.{name_of}
use Rattle.report_picture.specs.declared.picture.Column.{Column}
use Rattle.report_picture.specs.Elements.{head_node, head_nodes, job_node, node_text, nodes_text}

-- the text of the next element is added, and that of the others is left
pub text_added : {A : Type 0} {a b c : Text} {all : List ℕ} (texts : List A → List ℕ) (text : A → List ℕ) (rest : List A) (d : A)
    → ((x : A) (xs : List A) → texts (x ∷ xs) ≡ text x ++ texts xs) → 1 ≤ length rest → GoesOn a b (texts rest) all
    → Adds b c (text (get_or rest 0 d)) → GoesOn a c (texts (take (length rest - 1) (drop 1 rest))) all
text_added texts text [] d steps some so_far added = absurd (omega arith)
text_added {A} {a} {b} {c} {all} texts text (x ∷ rest) d steps some so_far added =
    subst (λ l. GoesOn a c (texts l) all) (sym (take_all (length (x ∷ rest) - 1) rest (omega arith)))
    (goes_on {x = text x} (texts rest) (subst (λ l. GoesOn a b l all) (steps x rest) so_far) added)

-- both lines of the head of the next column are added
pub heads_added : {a b c e : Text} {all : List ℕ} (names : List (List ℕ)) (top : ℕ) (rest : List Column) (d : Column) (name : List ℕ)
    → 1 ≤ length rest → GoesOn a b (nodes_text (head_nodes names top rest)) all → name ≡ name_of names (get_or rest 0 d).tag
    → Adds b c (node_text (head_node (get_or rest 0 d).left top (name ++ (codes " " ++ decimal (get_or rest 0 d).tag))))
    → Adds c e (node_text (head_node (get_or rest 0 d).left (top + 16) (codes "Job" ++ (codes " " ++ decimal (get_or rest 0 d).tag))))
    → GoesOn a e (nodes_text (head_nodes names top (take (length rest - 1) (drop 1 rest)))) all
heads_added names top [] d name some so_far is first second = absurd (omega arith)
heads_added {a} {b} {c} {e} {all} names top (x ∷ rest) d name some so_far is first second =
    let more = nodes_text (head_nodes names top rest) in
    subst (λ l. GoesOn a e (nodes_text (head_nodes names top l)) all) (sym (take_all (length (x ∷ rest) - 1) rest (omega arith)))
    (goes_on more
    (goes_on (node_text (job_node top x) ++ more) so_far
    (adds_same (ap (λ l. node_text (head_node x.left top (l ++ (codes " " ++ decimal x.tag)))) is) first)) second)
