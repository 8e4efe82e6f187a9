-- Columns that stand beside one another, with one column more.
use Rattle.std.proofs.Common.{◌≡◌, ◌<◌, ℕ, List, [], ◌∷◌, ◌++◌, refl}
use Rattle.report_picture.specs.declared.picture.Column.{Column}
use Rattle.report_picture.specs.Pictures.{StandBeside, last_text}

pub beside_more : (edge : ℕ) (cs : List Column) (c : Column) → StandBeside edge cs → last_text edge cs < c.left → c.left < c.text
    → StandBeside edge (cs ++ c ∷ [])
beside_more edge [] c stand right texts = ((right, texts), tt)
beside_more edge (x ∷ cs) c stand right texts = (stand.0, beside_more x.text cs c stand.1 right texts)

pub last_of_more : (edge : ℕ) (cs : List Column) (c : Column) → last_text edge (cs ++ c ∷ []) ≡ c.text
last_of_more edge [] c = refl
last_of_more edge (x ∷ cs) c = last_of_more x.text cs c
