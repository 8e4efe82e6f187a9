use Rattle.std.proofs.Common.{Ok, ap, map, subst, ◌∙◌}
use Rattle.note_book.specs.Books.{notes_of}
use Rattle.script_reader.specs.Scripts.{program_of}
use Rattle.gathered.proofs.Adding.{adds, adds_same, whole_text}
use Rattle.run_claims.proofs.RunsAtRest.{ran}
use Rattle.end_search.specs.Blocks.{AreWaits, named_text}
use Rattle.end_search.proofs.MoreBlocks.{shown_kind}
use Rattle.end_search.proofs.blocks.told_of_run.Goals as goal

pub returns : goal.returns
returns c =
    let p = program_of c.args.shown.script.now in
    let lines = c.as_bytes.ensures.value ∙ c.requires.ends in
    let head = adds_same (c.as_slice-2.ensures.value ∙ c.in_ok-head.ensures) c.add.ensures.added in
    let waits = adds head (adds_same c.as_slice-3.ensures.value c.add-2.ensures.added) in
    let named = adds waits (adds_same (c.as_slice-4.ensures.value ∙ c.in_ok-named.ensures ∙ ap (named_text p) lines) c.add-3.ensures.added)
    in
    let refused = adds named (adds_same (c.as_bytes-2.ensures.value ∙ c.requires.refused) c.add-4.ensures.added) in
    let ends = adds refused (adds_same (c.as_bytes-3.ensures.value ∙ c.requires.ends) c.add-5.ensures.added) in
    let order = adds ends (adds_same (c.as_bytes-4.ensures.value ∙ c.in_ok-order.ensures) c.add-6.ensures.added) in
    record {
      root = c.args.run.now.done.end;
      run = ran p (map notes_of c.args.run.now.done.books.items) _ _ _ c.requires.rest;
      order = c.args.order.now;
      made = c.requires.made;
      suits = c.requires.suits;
      kind =
          shown_kind c.args.shown.wanted _ _ _ _ c.requires.refused c.requires.ends c.requires.kind;
      waits = c.in_ok-waits.waits.items;
      are_waits =
          subst (λ r. AreWaits p r c.in_ok-waits.waits.items)
          (c.as_slice.ensures.value ∙ c.in_ok-told.ensures) c.in_ok-waits.ensures;
      is_text = whole_text (Ok c.in_ok-whole.field-0) c.new-block.ensures.bytes order c.in_ok-whole.ensures.bytes
          c.in_ok-whole.ensures.whole;
    }
