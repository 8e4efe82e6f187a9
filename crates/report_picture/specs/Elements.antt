-- A picture as a text: the elements of an SVG document.
use Rattle.std.specs.Prelude.{ℕ, ◌+◌, ◌*◌, ◌-◌, List, [], ◌∷◌, ◌++◌, ◌==◌, Option, Some, None, if◌then◌else◌, map, slice_get}
use Rattle.std.specs.List.{join_with_byte}
use denote.Ref.{Bor}
use Rattle.std.specs.Fmt.{decimal}
use lib.Chars.{codes}
pub use Rattle.picture_parts.specs.Markup.{attribute_text, escaped, fate_label, rest_text, title_text}
use Rattle.picture_parts.specs.Names.{heading, with_source}
use Rattle.report_reader.specs.Words.{words_of}
use Rattle.report_picture.specs.declared.looks.Look.{Look}
use Rattle.report_picture.specs.declared.looks.Look.TheVariants.{Paper, Life, Past, Tick, Wait, Brings, Joins, Cancels, Lost, Foot, Hangs, Label}
use Rattle.report_picture.specs.declared.looks.Shade.{Shade}
use Rattle.report_picture.specs.declared.looks.Shade.TheVariants as shades
use Rattle.report_picture.specs.declared.looks.State.{State}
use Rattle.report_picture.specs.declared.looks.State.TheVariants.{New, Active, Completing, Cancelling, Completed, Cancelled, Failed}
use Rattle.report_picture.specs.declared.picture.Route.{Route}
use Rattle.report_picture.specs.declared.picture.Route.TheVariants.{Down, Bent, Cross}
use Rattle.report_picture.specs.declared.picture.Title.{Title}
use Rattle.report_picture.specs.declared.picture.Mark.{Mark}
use Rattle.report_picture.specs.declared.picture.Mark.TheVariants.{Box, Path, Text}
use Rattle.report_picture.specs.declared.picture.Column.{Column}
use Rattle.report_picture.specs.declared.picture.Drawn.{Drawn}
use Rattle.report_picture.specs.declared.picture.Spot.{Spot}
use Rattle.report_picture.specs.declared.picture.Lost.{Lost as Fate}
use Rattle.report_picture.specs.declared.picture.Picture.{Picture}

-- ---- elements

-- an element: its name, its attributes, its title if that is not empty, and its text
pub record Node : Type 0 where
  pub name : List ℕ
  pub attributes : List (List ℕ × List ℕ)
  pub title : List ℕ
  pub text : List ℕ

abbrev pub attributes_text : List (List ℕ × List ℕ) → List ℕ
attributes_text [] = []
attributes_text (a ∷ attributes) = attribute_text a.0 a.1 ++ attributes_text attributes

-- the text of an element, and a line feed
abbrev pub node_text : Node → List ℕ
node_text node = codes "<" ++ node.name ++ attributes_text node.attributes ++ rest_text node.name node.title node.text

-- ---- marks

-- a state, by a name of the style
abbrev pub state_word : State → List ℕ
state_word New = codes "new"
state_word Active = codes "active"
state_word Completing = codes "completing"
state_word Cancelling = codes "cancelling"
state_word Completed = codes "completed"
state_word Cancelled = codes "cancelled"
state_word Failed = codes "failed"

-- the colour and the dash of a channel, by a name of the style
abbrev pub shade_word : Shade → List ℕ
shade_word shades.Blue = codes "a"
shade_word shades.Green = codes "b"
shade_word shades.Purple = codes "c"
shade_word shades.Black = codes "d"
shade_word shades.DashedBlue = codes "e"
shade_word shades.DashedGreen = codes "f"
shade_word shades.DashedPurple = codes "g"
shade_word shades.DashedBlack = codes "h"

-- how a mark looks, by a name of the style
abbrev pub look_word : Look → List ℕ
look_word Paper = codes "paper"
look_word (Life state) = state_word state
look_word Past = codes "past"
look_word Tick = codes "tick"
look_word Wait = codes "wait"
look_word (Brings shade) = shade_word shade
look_word Joins = codes "joins"
look_word Cancels = codes "cancels"
look_word Lost = codes "lost"
look_word Foot = codes "foot"
look_word Hangs = codes "hangs"
look_word Label = codes "label"

-- the data of a path
abbrev pub way_text : Route → List ℕ
way_text (Down x from to) = codes "M" ++ decimal x ++ codes " " ++ decimal from ++ codes "V" ++ decimal to
way_text (Bent x level lane to_y to_x) =
    codes "M" ++ decimal x ++ codes " " ++ decimal level ++ codes "H" ++ decimal lane ++ codes "V" ++ decimal to_y ++ codes "H"
    ++ decimal to_x ++ codes "l-6-3m6 3l-6 3"
way_text (Cross x y) = codes "M" ++ decimal x ++ codes " " ++ decimal y ++ codes "m-4-4l8 8m-8 0l8-8"

abbrev pub text_node : ℕ → ℕ → List ℕ → List ℕ → List ℕ → Node
text_node x y look text title = record {
  name = codes "text";
  attributes = (codes "x", decimal x) ∷ ((codes "y", decimal y) ∷ ((codes "class", look) ∷ []));
  title = title;
  text = text;
}

abbrev pub box_node : ℕ → ℕ → ℕ → ℕ → Look → List ℕ → Node
box_node x y width height look title = record {
  name = codes "rect";
  attributes =
      (codes "x", decimal x) ∷ ((codes "y", decimal y) ∷ ((codes "width", decimal width)
      ∷ ((codes "height", decimal height) ∷ ((codes "class", look_word look) ∷ []))));
  title = title;
  text = [];
}

abbrev pub path_node : Route → Look → List ℕ → Node
path_node way look title = record {
  name = codes "path";
  attributes = (codes "d", way_text way) ∷ ((codes "class", look_word look) ∷ []);
  title = title;
  text = [];
}

-- what a reader is shown that points at a mark
abbrev pub title_of : Title → List ℕ
title_of title = with_source title.line.now title.source.now

-- the element of a mark
abbrev pub mark_node : Mark → Node
mark_node (Box x y width height look title) = box_node x y width height look (title_of title)
mark_node (Path way look title) = path_node way look (title_of title)
mark_node (Text x y look text title) = text_node x y (look_word look) text.items (title_of title)

-- ---- lines

-- where the middle of a row is from the top, by where the heads begin
abbrev pub row_y : ℕ → ℕ → ℕ
row_y top row = top + 40 + 17 * row

-- what a slice points to, if there is one
abbrev pub rest_of : Option (Bor (List ℕ)) → List ℕ
rest_of None = []
rest_of (Some rest) = rest.now

-- words with a blank between them, without the first
abbrev pub behind_first : List (List ℕ) → List ℕ
behind_first [] = []
behind_first (word ∷ words) = join_with_byte 32 words

-- what stands behind the first word of a line
abbrev pub label_of : List ℕ → List ℕ
label_of line = behind_first (words_of line)

abbrev pub left_or : Option Column → ℕ
left_or None = 0
left_or (Some column) = column.text

-- where the texts of a column begin from the left
abbrev pub left_of : List Column → ℕ → ℕ
left_of columns column = left_or (slice_get columns column)

-- the element of a line of a book: it is next to the bar of its column, in its row below the first one drawn, and its title is the whole
-- line, and below it that of the script
abbrev pub line_node : Picture → Drawn → Node
line_node picture drawn =
    text_node (left_of picture.columns.items drawn.column) (row_y picture.top (drawn.row - picture.first) + 4) (codes "line")
    (label_of drawn.line.text.now) (with_source drawn.line.text.now drawn.source.now)

-- ---- fates

abbrev pub fate_node : Spot → List ℕ → Node
fate_node spot line = text_node spot.x spot.y (codes "fate") (fate_label line) line

-- the element that labels the end of an element that was not received, if the picture has that end
abbrev pub fate_nodes_of : Option Spot → List ℕ → List Node
fate_nodes_of None line = []
fate_nodes_of (Some spot) line = fate_node spot line ∷ []

abbrev pub fate_nodes : List Fate → List Node
fate_nodes [] = []
fate_nodes (lost ∷ more) = fate_nodes_of lost.at lost.line.text.now ++ fate_nodes more

-- ---- columns

-- a line of the head of a column
abbrev pub head_node : ℕ → ℕ → List ℕ → Node
head_node left y text = text_node left y (codes "head") text []

abbrev pub coroutine_node : List (List ℕ) → ℕ → Column → Node
coroutine_node names top column = head_node column.left top (heading names column.tag)

-- the Job of a row
abbrev pub job_heading : ℕ → List ℕ
job_heading row = codes "Job " ++ decimal row

abbrev pub job_node : ℕ → Column → Node
job_node top column = head_node column.left (top + 16) (job_heading column.tag)

-- each column is headed by its coroutine, and the Job that this runs as
abbrev pub head_nodes : List (List ℕ) → ℕ → List Column → List Node
head_nodes names top [] = []
head_nodes names top (column ∷ columns) = coroutine_node names top column ∷ (job_node top column ∷ head_nodes names top columns)

-- ---- the picture

abbrev pub nodes_text : List Node → List ℕ
nodes_text [] = []
nodes_text (node ∷ nodes) = node_text node ++ nodes_text nodes

-- how marks look
abbrev pub style : List ℕ
style =
    codes "text{font:11px monospace}.line,.label,.fate{stroke:#fff;stroke-width:3px;paint-order:stroke}.label,.fate{fill:#444}"
    ++ codes ".head,.foot,.hangs{font-weight:bold}.hangs{fill:#d55e00}.paper{fill:#fff}.new{fill:#fff;stroke:#000}.active{fill:#56b4e9}"
    ++ codes ".completing{fill:#0072b2}.cancelling{fill:#e69f00}.completed{fill:#009e73}.cancelled{fill:#cc79a7}.failed{fill:#000}"
    ++ codes ".past{fill:#999}.tick{fill:#000;stroke:#fff;stroke-width:0.5}"
    ++ codes ".wait{fill:none;stroke:#000;stroke-width:10;stroke-dasharray:1.5 3.5}"
    ++ codes ".a,.b,.c,.d,.e,.f,.g,.h,.cancels{fill:none;stroke-width:1.5}.a,.e{stroke:#0072b2}.b,.f{stroke:#009e73}.c,.g{stroke:#cc79a7}"
    ++ codes ".d,.h{stroke:#000}.e,.f,.g,.h{stroke-dasharray:6 3}.cancels{stroke:#d55e00;stroke-dasharray:3 2}"
    ++ codes ".joins{fill:none;stroke:#999;stroke-width:0.8}.lost{fill:none;stroke:#000;stroke-width:2}"

abbrev pub style_node : Node
style_node = record { name = codes "style"; attributes = []; title = []; text = style }

-- the attributes of the document
abbrev pub document_attributes : ℕ → ℕ → List (List ℕ × List ℕ)
document_attributes width height =
    (codes "xmlns", codes "http://www.w3.org/2000/svg") ∷ ((codes "width", decimal width) ∷ ((codes "height", decimal height) ∷ []))

-- the names of the coroutines of a picture
abbrev pub names_in : Picture → List (List ℕ)
names_in picture = map (λ n. n.items) picture.names.now

-- the elements of a picture: its marks, the ends of elements, the heads of its columns, and its lines; no mark looks like one of these
abbrev pub picture_nodes : Picture → List Node
picture_nodes picture =
    style_node ∷ (map mark_node picture.marks.items
    ++ (fate_nodes picture.lost.items
    ++ (head_nodes (names_in picture) picture.top picture.columns.items ++ map (line_node picture) picture.lines.items)))

-- a picture as a text
abbrev pub svg_text : Picture → List ℕ
svg_text picture =
    codes "<svg" ++ attributes_text (document_attributes picture.width picture.height) ++ codes ">\n"
    ++ nodes_text (picture_nodes picture) ++ codes "</svg>\n"
