use Rattle.std.proofs.Common.{◌≡◌, ◌++◌, ◌∷◌, [], rules, sym, length, subst}
use Rattle.script_reader.specs.Launching.{AreNested}
use Rattle.script_reader.proofs.Launchings.{nested-append}
use Rattle.script_reader.proofs.launches.pass_line.Goals as goal

pub returns-in-Some-clause-nested : goal.returns-in-Some-clause-nested
returns-in-Some-clause-nested c =
    let pushed : c.push.new.self.items ≡ c.args.blocks.now.items ++ c.in-Some.block ∷ [] = search rules in
    subst (λ l. AreNested c.args.outer.now.items (length l)) (sym pushed)
    (nested-append c.args.outer.now.items c.args.blocks.now.items (c.in-Some.block ∷ []) c.requires)
