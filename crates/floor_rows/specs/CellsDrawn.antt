-- The cells to which a pass came.
use Rattle.std.specs.Prelude.{ℕ, ◌<◌, List}
use Rattle.std.specs.List.{All}
use Rattle.counted_cells.specs.declared.counted.Counted.{Counted}
use Rattle.counted_cells.specs.declared.pass.CountedPass.{CountedPass}
use Rattle.counted_cells.specs.Seen.{now_in}
use Rattle.counted_cells.specs.Passes.{seen_by, IsOf}
use Rattle.counted_cells.specs.Answers.{HasCome}

-- the pass drew this cell and came to it
abbrev pub Came : Counted → CountedPass → ℕ → Type 0
Came counted pass i = (i < counted.cells) × HasCome pass.number i (now_in (seen_by pass))

abbrev pub AllCame : Counted → CountedPass → List ℕ → Type 0
AllCame counted pass places = All (Came counted pass) places

-- a pass of these cells that waited in all of those
abbrev pub Waited : Counted → CountedPass → List ℕ → List ℕ → Type 0
Waited counted pass sends receives = IsOf counted pass × AllCame counted pass sends × AllCame counted pass receives
