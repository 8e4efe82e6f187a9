use Rattle.std.specs.Prelude.{◌≡◌, ℕ, take}
use Rattle.std.proofs.Common.{ap, ◌∙◌}
use Rattle.std.proofs.lemmas.List.{take_min}
use Rattle.jisthrom_c.proofs.front_of.Goals as goal

pub returns : goal.returns
returns c =
    let e : take c.min-read.result c.args.script.now ≡ take 1048577 c.args.script.now =
    ap (λ (n : ℕ). take n c.args.script.now) c.min-read.ensures ∙ take_min 1048577 c.args.script.now in
    c.split_at.ensures.front ∙ e
