use Rattle.std.proofs.Common.{◌≡◌, ◌++◌, ℕ, List, OnOk, string_bytes, append_assoc, subst}
use Rattle.std.specs.Fmt.{decimal}
use lib.Chars.{codes}
use Rattle.run_report.proofs.elements.push_line.Goals as goal

-- nine pieces, from the right and from the left
grouped : (a b c d e f g h i : List ℕ) → a ++ (b ++ (c ++ (d ++ (e ++ (f ++ (g ++ (h ++ i))))))) ≡ a ++ b ++ c ++ d ++ e ++ f ++ g ++ h ++ i
grouped a b c d e f g h i = simp append_assoc

pub returns : goal.returns
returns c =
    subst (λ (l : List ℕ). OnOk c.write.result (string_bytes c.write.new.self ≡ string_bytes c.args.out.now ++ l))
    (grouped (codes "element ") c.args.name.now (codes " ") (decimal c.args.place) (codes " ") (decimal c.args.value) (codes " ")
    c.args.word.now (codes "\n")) c.write.ensures.bytes
