use Rattle.std.proofs.Common.{◌≡◌, ap, sym, ◌∙◌, None, rules}
use lib.Chars.{codes}
use Rattle.script_grammar.specs.Tags.{block_named}
use Rattle.script_grammar.specs.Places.{place_from}
use Rattle.script_reader.specs.Reading.{view}
use Rattle.script_reader.proofs.NameTexts.{names_of_blocks}
use Rattle.script_reader.proofs.Finished.{place-named, finish_no_main}
use Rattle.script_reader.proofs.finish.main_of.Goals as goal

pub returns-in-None : goal.returns-in-None
returns-in-None c =
    let s = view c.args.reading.now in
    let out : s.current ≡ None = search rules in
    let none : block_named (codes "main") 0 s.blocks ≡ None = sym (place-named (codes "main") 0 s.blocks)
    ∙ ap (place_from 0 (codes "main")) (names_of_blocks c.args.reading.now.coroutines.items.items) ∙ sym c.in-None.ensures in
    finish_no_main s out none

pub returns-in-Some : goal.returns-in-Some
returns-in-Some c =
    let s = view c.args.reading.now in
    let out : s.current ≡ None = search rules in (
      out,
      sym (place-named (codes "main") 0 s.blocks) ∙ ap (place_from 0 (codes "main"))
          (names_of_blocks c.args.reading.now.coroutines.items.items) ∙ sym c.in-Some.ensures,
    )
