-- The text of a picture is a well-formed document.
use Rattle.std.proofs.Common.{◌≡◌, ℕ, List, Option, None, Some, [], ◌∷◌, ◌++◌, refl, sym, subst, append_assoc, append-nil, map, ap, ◌∙◌, Result, Ok, Err, IfOk, Vec, Global}
use Rattle.std.specs.declared.alloc.AllocError.{AllocError}
use lib.Chars.{codes}
use Rattle.gathered.specs.declared.text.Text.{Text as Written}
use Rattle.gathered.specs.Texts.{Adds}
use Rattle.gathered.proofs.Adding.{adds, adds_same}
use Rattle.report_picture.specs.declared.picture.Mark.{Mark}
use Rattle.report_picture.specs.declared.picture.Mark.TheVariants.{Box, Path, Text}
use Rattle.report_picture.specs.declared.picture.Column.{Column}
use Rattle.report_picture.specs.declared.picture.Drawn.{Drawn}
use Rattle.report_picture.specs.declared.picture.Spot.{Spot}
use Rattle.report_picture.specs.declared.picture.Lost.{Lost}
use Rattle.report_picture.specs.declared.picture.Picture.{Picture}
use Rattle.report_picture.specs.Elements.{Node, attributes_text, document_attributes, escaped, fate_nodes, fate_nodes_of, head_nodes, line_node, mark_node, names_in, node_text, nodes_text, picture_nodes, style_node, svg_text, title_text}
use Rattle.report_picture.specs.WellFormed.{IsName, Attributes, no_more, attribute, Content, no_content, words_then, element_then, IsDocument}

-- ---- names

abbrev AreNamed : List (List ℕ × List ℕ) → Type 0
AreNamed [] = Unit {0}
AreNamed (a ∷ attributes) = IsName a.0 × AreNamed attributes

record IsNamed (node : Node) : Type 0 where
  by_name : IsName node.name
  all : AreNamed node.attributes

abbrev AllNamed : List Node → Type 0
AllNamed [] = Unit {0}
AllNamed (node ∷ nodes) = IsNamed node × AllNamed nodes

named-append : (xs ys : List Node) → AllNamed xs → AllNamed ys → AllNamed (xs ++ ys)
named-append [] ys p q = q
named-append (x ∷ xs) ys p q = (p.0, named-append xs ys p.1 q)

named_mark : (m : Mark) → IsNamed (mark_node m)
named_mark (Box x y width height look title) = record { by_name = refl; all = (refl, (refl, (refl, (refl, (refl, tt))))) }
named_mark (Path way look title) = record { by_name = refl; all = (refl, (refl, tt)) }
named_mark (Text x y look words title) = record { by_name = refl; all = (refl, (refl, (refl, tt))) }

named_marks : (marks : List Mark) → AllNamed (map mark_node marks)
named_marks [] = tt
named_marks (m ∷ marks) = (named_mark m, named_marks marks)

named_lines : (p : Picture) (lines : List Drawn) → AllNamed (map (line_node p) lines)
named_lines p [] = tt
named_lines p (d ∷ lines) = (record { by_name = refl; all = (refl, (refl, (refl, tt))) }, named_lines p lines)

named_heads : (names : List (List ℕ)) (top : ℕ) (columns : List Column) → AllNamed (head_nodes names top columns)
named_heads names top [] = tt
named_heads names top (c ∷ columns) = (
  record { by_name = refl; all = (refl, (refl, (refl, tt))) },
  (record { by_name = refl; all = (refl, (refl, (refl, tt))) }, named_heads names top columns),
)

named_fate : (at : Option Spot) (line : List ℕ) → AllNamed (fate_nodes_of at line)
named_fate None line = tt
named_fate (Some spot) line = (record { by_name = refl; all = (refl, (refl, (refl, tt))) }, tt)

named_fates : (lost : List Lost) → AllNamed (fate_nodes lost)
named_fates [] = tt
named_fates (one ∷ lost) =
    named-append (fate_nodes_of one.at one.line.text.now) (fate_nodes lost) (named_fate one.at one.line.text.now) (named_fates lost)

named : (p : Picture) → AllNamed (picture_nodes p)
named p = (
  record { by_name = refl; all = tt },
  named-append (map mark_node p.marks.items) _ (named_marks p.marks.items)
      (named-append (fate_nodes p.lost.items) _ (named_fates p.lost.items)
      (named-append (head_nodes (names_in p) p.top p.columns.items) _ (named_heads (names_in p) p.top p.columns.items)
      (named_lines p p.lines.items))),
)

-- ---- elements

attributed : (attributes : List (List ℕ × List ℕ)) → AreNamed attributes → Attributes (attributes_text attributes)
attributed [] names = no_more
attributed (a ∷ attributes) names = attribute a.0 a.1 (attributes_text attributes) names.0 (attributed attributes names.1)

plain : (words : List ℕ) → Content (escaped words)
plain words = subst Content (append-nil (escaped words)) (words_then words [] no_content)

regroup_title : (o e a b c r : List ℕ) → o ++ e ++ a ++ b ++ c ++ r ≡ o ++ e ++ (a ++ b ++ c) ++ r
regroup_title o e a b c r = simp append_assoc

titled : (title words : List ℕ) → Content (title_text title ++ escaped words)
titled [] words = plain words
titled (b ∷ title) words =
    subst Content (regroup_title (codes "<title>") (escaped (b ∷ title)) (codes "</") (codes "title") (codes ">") (escaped words))
    (element_then (codes "title") [] (escaped (b ∷ title)) (escaped words) refl no_more (plain (b ∷ title)) (plain words))

regroup_node : (o name a g t e c g' l n : List ℕ) → o ++ name ++ a ++ g ++ (t ++ e) ++ c ++ name ++ g' ++ (l ++ n) ≡ o ++ name ++ a
    ++ (g ++ t ++ e ++ c ++ name ++ (g' ++ l)) ++ n
regroup_node o name a g t e c g' l n = simp append_assoc

contents : (nodes : List Node) → AllNamed nodes → Content (nodes_text nodes)
contents [] names = no_content
contents (node ∷ nodes) names =
    subst Content
    (regroup_node (codes "<") node.name (attributes_text node.attributes) (codes ">") (title_text node.title) (escaped node.text)
    (codes "</") (codes ">") (codes "\n") (nodes_text nodes))
    (element_then node.name (attributes_text node.attributes) (title_text node.title ++ escaped node.text) (codes "\n"
    ++ nodes_text nodes) names.0.by_name
    (attributed node.attributes names.0.all) (titled node.title node.text)
    (words_then (codes "\n") (nodes_text nodes) (contents nodes names.1)))

-- ---- the document

regroup_whole : (o a g l n c s e : List ℕ) → o ++ a ++ (g ++ l) ++ n ++ (c ++ s ++ e) ≡ o ++ a ++ g ++ (l ++ n) ++ c ++ s ++ e
regroup_whole o a g l n c s e = simp append_assoc

pub is_document : (p : Picture) → IsDocument (codes "svg") (svg_text p)
is_document p = record {
  attributes = attributes_text (document_attributes p.width p.height);
  inner = codes "\n" ++ nodes_text (picture_nodes p);
  is_name = refl;
  well_attributed = attributed (document_attributes p.width p.height) (refl, (refl, (refl, tt)));
  well_formed = words_then (codes "\n") (nodes_text (picture_nodes p)) (contents (picture_nodes p) (named p));
  is_whole = regroup_whole (codes "<svg") (attributes_text (document_attributes p.width p.height)) (codes ">") (codes "\n")
      (nodes_text (picture_nodes p)) (codes "</") (codes "svg") (codes ">\n");
}

-- ---- the document from its parts

regroup_two : (a b c : List ℕ) → a ++ (b ++ c) ≡ a ++ b ++ c
regroup_two a b c = simp append_assoc

pub nodes_append : (xs ys : List Node) → nodes_text (xs ++ ys) ≡ nodes_text xs ++ nodes_text ys
nodes_append [] ys = refl
nodes_append (x ∷ xs) ys = ap (λ t. node_text x ++ t) (nodes_append xs ys) ∙ regroup_two (node_text x) (nodes_text xs) (nodes_text ys)

-- the texts of the marks, the fates, the heads and the lines of a picture
abbrev marks_text : Picture → List ℕ
marks_text p = nodes_text (map mark_node p.marks.items)

abbrev fates_text : Picture → List ℕ
fates_text p = nodes_text (fate_nodes p.lost.items)

abbrev heads_text : Picture → List ℕ
heads_text p = nodes_text (head_nodes (names_in p) p.top p.columns.items)

abbrev texts_of_lines : Picture → List ℕ
texts_of_lines p = nodes_text (map (line_node p) p.lines.items)

-- what stands in the document, in its parts
parts_append : (p : Picture)
    → nodes_text (picture_nodes p) ≡ node_text style_node ++ (marks_text p ++ (fates_text p ++ (heads_text p ++ texts_of_lines p)))
parts_append p =
    ap (λ t. node_text style_node ++ t)
    (nodes_append (map mark_node p.marks.items) _
    ∙ ap (λ t. marks_text p ++ t)
    (nodes_append (fate_nodes p.lost.items) _
    ∙ ap (λ t. fates_text p ++ t) (nodes_append (head_nodes (names_in p) p.top p.columns.items) (map (line_node p) p.lines.items))))

regroup_parts : (h s m f t l e : List ℕ) → h ++ s ++ m ++ f ++ t ++ l ++ e ≡ h ++ (s ++ (m ++ (f ++ (t ++ l)))) ++ e
regroup_parts h s m f t l e = simp append_assoc

-- the opening of the document
abbrev opening : Picture → List ℕ
opening p = codes "<svg" ++ attributes_text (document_attributes p.width p.height) ++ codes ">\n"

-- the whole text, from its parts
pub whole : (p : Picture)
    → opening p ++ node_text style_node ++ marks_text p ++ fates_text p ++ heads_text p ++ texts_of_lines p ++ codes "</svg>\n"
    ≡ svg_text p
whole p =
    regroup_parts (opening p) (node_text style_node) (marks_text p) (fates_text p) (heads_text p) (texts_of_lines p) (codes "</svg>\n")
    ∙ ap (λ n. opening p ++ n ++ codes "</svg>\n") (sym (parts_append p))

-- a text that memory held is a well-formed document
pub all_documents : (result : Result (Vec ℕ Global) AllocError) (p : Picture) → IfOk result (λ bytes. bytes.items ≡ svg_text p)
    → IfOk result (λ bytes. IsDocument (codes "svg") bytes.items)
all_documents (Ok bytes) p is = subst (IsDocument (codes "svg")) (sym is) (is_document p)
all_documents (Err e) p is = tt

-- ---- texts that are added one after another

regroup_text : (t g b c d e : List ℕ) → t ++ g ++ b ++ (c ++ d ++ e) ≡ t ++ (g ++ b ++ c ++ d ++ e)
regroup_text t g b c d e = simp append_assoc

-- the element of a text from its attributes, its title and its words
pub adds_text : {a b c d e : Written} {t g w : List ℕ} → Adds a b t → Adds b c g → Adds c d w → Adds d e (codes "</text>\n")
    → Adds a e (t ++ (g ++ w ++ codes "</" ++ codes "text" ++ codes ">\n"))
adds_text {a} {b} {c} {d} {e} {t} {g} {w} begins titled words ends =
    adds_same (regroup_text t g w (codes "</") (codes "text") (codes ">\n")) (adds (adds (adds begins titled) words) ends)
