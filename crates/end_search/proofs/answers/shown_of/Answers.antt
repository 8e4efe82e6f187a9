use Rattle.script_reader.specs.Scripts.{program_of}
use Rattle.end_search.proofs.MoreBlocks.{none_yet}
use Rattle.end_search.proofs.answers.shown_of.Goals as goal

pub push_blocks-requires : goal.push_blocks-requires
push_blocks-requires g c = none_yet (program_of c.args.shown.script.now) c.args.shown.wanted c.new-text.result.items c.new-text.ensures.items

pub returns : goal.returns
returns g c = record {
  count = c.in_ok-count-2.count;
  blocks = c.push_usual.new.out.items;
  are_blocks = c.in_ok-count-2.ensures.blocks;
  fits = c.verdict_of-verdict.ensures;
  rest = c.as_str.result.now;
  is_text = c.in_ok-push_last.ensures;
}
