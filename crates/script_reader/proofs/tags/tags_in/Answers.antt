use Rattle.std.proofs.Common.{Some, ◌≡◌, ◌∷◌, ◌++◌, [], map, reverse, rules, ap, ◌∙◌}
use Rattle.std.proofs.lemmas.List.{reverse-append}
use Rattle.script_grammar.specs.Tags.{spawned_by, tags_for}
use Rattle.script_reader.specs.Programs.{block_of, spawn_of}
use Rattle.script_reader.specs.TagTables.{launched_in}
use Rattle.script_reader.proofs.Stacks.{first_below, Stands-start, Stands-next, nearer}
use Rattle.script_reader.proofs.tags.tags_in.Goals as goal

pub push_launched-requires-in-Some-clause-declared : goal.push_launched-requires-in-Some-clause-declared
push_launched-requires-in-Some-clause-declared c =
    let popped : c.loop-block.stack.items ≡ c.pop.new.self.items ++ c.in-Some.block ∷ [] = search rules in
    let top : reverse c.loop-block.stack.items ≡ c.in-Some.block ∷ reverse c.pop.new.self.items = ap reverse popped
    ∙ reverse-append c.pop.new.self.items (c.in-Some.block ∷ []) in
    first_below c.args.coroutines.now _ c.loop-block.tags.items (reverse c.loop-block.stack.items) (reverse c.pop.new.self.items)
    c.in-Some.block top c.loop-block.invariant.stands

pub loop-block-init : goal.loop-block-init
loop-block-init c =
    let bs = map block_of c.args.coroutines.now in
    let empty : c.new-stack.result.items ≡ [] = search rules in
    let start : c.push.new.self.items ≡ c.args.main ∷ [] = search rules in
    record {
      lists = c.in_ok-push_launched.ensures.lists;
      stands = Stands-start bs (spawned_by (map spawn_of c.args.spawns.now)) c.args.main (reverse c.push_launched.new.stack.items)
          (reverse c.push_spawned.new.stack.items) c.push.new.self.items c.requires.back c.requires.spawns
          (c.in_ok-push_launched.ensures.pushed ∙ ap (λ l. launched_in bs c.args.main ++ reverse l) empty)
          c.in_ok-push_spawned.ensures
          start;
    }

pub loop-block-preserved : goal.loop-block-preserved
loop-block-preserved c =
    let bs = map block_of c.args.coroutines.now in
    let all = tags_for bs (spawned_by (map spawn_of c.args.spawns.now)) (Some c.args.main) in
    let popped : c.loop-block.stack.items ≡ c.pop.new.self.items ++ c.in-Some.block ∷ [] = search rules in
    let top : reverse c.loop-block.stack.items ≡ c.in-Some.block ∷ reverse c.pop.new.self.items = ap reverse popped
    ∙ reverse-append c.pop.new.self.items (c.in-Some.block ∷ []) in
    let pushed : c.push-in-Some.new.self.items ≡ c.loop-block.tags.items ++ c.in-Some.block ∷ [] = search rules in
    record {
      lists = c.in_ok-push_launched-2.ensures.lists;
      stands = Stands-next bs all c.in-Some.block c.loop-block.tags.items c.push-in-Some.new.self.items (reverse c.loop-block.stack.items)
          (reverse c.pop.new.self.items) (reverse c.push_launched-in-Some.new.stack.items) c.requires.back top
          c.in_ok-push_launched-2.ensures.pushed pushed c.loop-block.invariant.stands;
    }

pub loop-block-smaller : goal.loop-block-smaller
loop-block-smaller c =
    let bs = map block_of c.args.coroutines.now in
    let pushed : c.push-in-Some.new.self.items ≡ c.loop-block.tags.items ++ c.in-Some.block ∷ [] = search rules in
    nearer bs (tags_for bs (spawned_by (map spawn_of c.args.spawns.now)) (Some c.args.main)) c.loop-block.tags.items
    c.push-in-Some.new.self.items (reverse c.push_launched-in-Some.new.stack.items) c.in-Some.block c.requires.few pushed
    (loop-block-preserved c).stands
