use Rattle.std.proofs.Common.{◌≡◌, ◌+◌, ◌-◌, ◌≤◌, ◌∷◌, ◌++◌, [], arith, ap, sym, ◌∙◌, length, get_or, take, drop, map, rules}
use Rattle.std.proofs.lemmas.List.{length-map}
use Rattle.script_grammar.specs.Tags.{launches_from, layouts_from, layouts}
use Rattle.script_grammar.proofs.Layouts.{next_layout}
use Rattle.script_reader.specs.Programs.{block_of}
use Rattle.script_reader.proofs.Sized.{split_off, size-next, size-light, size-step, size-end}
use Rattle.script_reader.proofs.sizes.all_sizes.Goals as goal

pub block_size-requires : goal.block_size-requires
block_size-requires c =
    let item = c.coroutine-item.result in
    let rest = c.loop-rest.rest.now in
    let more = take (length rest - 1) (drop 1 rest) in
    let inv = c.loop-rest.invariant in
    let parts : rest ≡ item ∷ more = split_off rest item c.in-len1-up.len_at_least ∙ ap (λ x. x ∷ more) (sym c.coroutine-item.is) in
    let is : layouts_from inv.0 (block_of item ∷ map block_of more) ≡ layouts (map block_of c.args.coroutines.now) =
    ap (λ l. layouts_from inv.0 (map block_of l)) (sym parts) ∙ inv.2 in
    let light = size-light (map block_of c.args.coroutines.now) inv.0 (block_of item) (map block_of more) is
    (λ k h. c.requires k (omega (arith, h, length-map c.args.coroutines.now block_of))) in
    let size = size-next inv.0 (block_of item) c.deref.result.now (c.deref.ensures.value ∙ inv.1) in
    let within : 1 + launches_from (λ j. get_or c.deref.result.now j 0) [] c.deref-in-len1-up.result.now ≤ 16000 =
    omega (arith, light, size, ap (launches_from (λ j. get_or c.deref.result.now j 0) []) c.deref-in-len1-up.ensures.value) in
    within

pub loop-rest-preserved : goal.loop-rest-preserved
loop-rest-preserved c =
    let item = c.coroutine-item.result in
    let rest = c.loop-rest.rest.now in
    let more = take (length rest - 1) (drop 1 rest) in
    let inv = c.loop-rest.invariant in
    let parts : rest ≡ item ∷ more = split_off rest item c.in-len1-up.len_at_least ∙ ap (λ x. x ∷ more) (sym c.coroutine-item.is) in
    let is : layouts_from inv.0 (block_of item ∷ map block_of more) ≡ layouts (map block_of c.args.coroutines.now) =
    ap (λ l. layouts_from inv.0 (map block_of l)) (sym parts) ∙ inv.2 in
    let size : c.in_ok-size.size ≡ length (next_layout inv.0 (block_of item)) =
    c.in_ok-size.ensures
    ∙ ap (λ code. 1 + launches_from (λ j. get_or c.deref.result.now j 0) [] code) c.deref-in-len1-up.ensures.value
    ∙ size-next inv.0 (block_of item) c.deref.result.now (c.deref.ensures.value ∙ inv.1) in
    let pushed : c.push.new.self.items ≡ c.loop-rest.sizes.items ++ c.in_ok-size.size ∷ [] = search rules in
    let step = size-step (map block_of c.args.coroutines.now) inv.0 (block_of item) (map block_of more) c.loop-rest.sizes.items
    c.in_ok-size.size is inv.1 size in
    (step.0, pushed ∙ step.1, step.2)

pub returns : goal.returns
returns c =
    let inv = c.loop-rest.invariant in
    size-end (map block_of c.args.coroutines.now) inv.0 (map block_of c.loop-rest.rest.now) c.loop-rest.sizes.items inv.2 inv.1
    (omega (arith, length-map c.loop-rest.rest.now block_of, c.in_default.len_below))
