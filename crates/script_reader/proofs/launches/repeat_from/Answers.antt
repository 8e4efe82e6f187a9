use Rattle.std.proofs.Common.{◌≡◌, ◌++◌, ap, ◌∙◌, rules, take, drop}
use Rattle.script_reader.proofs.Launchings.{repeat-nothing, repeat-more}
use Rattle.script_reader.proofs.launches.repeat_from.Goals as goal

pub returns-then-from-len : goal.returns-then-from-len
returns-then-from-len c = repeat-nothing c.args.from c.args.turns c.args.blocks.now.items (search rules)

pub loop-turn-preserved : goal.loop-turn-preserved
loop-turn-preserved c =
    let part = drop c.args.from c.args.blocks.now.items in
    let pushed : c.extend_from_slice.new.self.items ≡ c.loop-turn.blocks.items ++ c.deref.result.now = search rules in
    record {
      part = c.loop-turn.invariant.part;
      copies = pushed
          ∙ ap (λ l. c.loop-turn.blocks.items ++ l) (c.deref.ensures.value ∙ c.loop-turn.invariant.part)
          ∙ repeat-more c.loop-turn._turn (take c.args.from c.args.blocks.now.items) part c.loop-turn.blocks.items
          c.loop-turn.invariant.copies;
    }
