use Rattle.std.proofs.Common.{◌≡◌, ◌-◌, ◌++◌, ◌∷◌, ap, sym, ◌∙◌, map, length, take, drop, nat_le}
use Rattle.std.specs.List.{list_all}
use Rattle.script_grammar.specs.Programs.{channel_names, block_names}
use Rattle.script_grammar.specs.Canonical.{deep_block, deep_blocks}
use Rattle.script_grammar.proofs.Truths.{both_true}
use Rattle.script_reader.specs.Programs.{declared_of, block_of}
use Rattle.script_printer.specs.Printing.{text_of}
use Rattle.script_reader.proofs.Sized.{split_off}
use Rattle.script_printer.proofs.Spacing.{text_of-more}
use Rattle.script_printer.proofs.printer.push_blocks.Goals as goal

pub loop-rest-preserved : goal.loop-rest-preserved
loop-rest-preserved c =
    let item = c.coroutine-item.result in
    let rest = c.loop-rest.rest.now in
    let more = take (length rest - 1) (drop 1 rest) in
    let parts : rest ≡ item ∷ more = split_off rest item c.in-len1-up.len_at_least ∙ ap (λ x. x ∷ more) (sym c.coroutine-item.is) in
    let channels = channel_names (map declared_of c.args.channels.now) in
    let blocks = block_names (map block_of c.args.coroutines.now) in
    record {
      short = (both_true (nat_le (length item.code.items) 1048577) _ (ap (list_all (λ d. nat_le (length d.code.items) 1048577)) (sym parts)
          ∙ c.loop-rest.invariant.short)).1;
      same =
          text_of-more c.loop-rest.out.items c.push_block.new.out.items (deep_block channels blocks (block_of item))
          (deep_blocks channels blocks (map block_of more)) c.in_ok-push_block.ensures
          ∙ ap (λ cs. c.loop-rest.out.items ++ text_of (deep_blocks channels blocks (map block_of cs))) (sym parts)
          ∙ c.loop-rest.invariant.same;
    }
