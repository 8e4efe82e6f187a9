use Rattle.std.proofs.Common.{◌≡◌, [], length}
use Rattle.script_grammar.specs.Tags.{launched}
use Rattle.script_reader.specs.Launching.{launched_with, AreNested}
use Rattle.script_reader.proofs.launches.launched.Given as goal

abbrev pub invariant-lines : goal.invariant-lines
invariant-lines l = record {
  nested : AreNested l.outer.items (length l.blocks.items);
  same : launched_with l.outer.items l.blocks.items l.rest ≡ launched l.code;
}

abbrev pub decreases-lines : goal.decreases-lines
decreases-lines l = length l.rest

abbrev pub invariant-ends : goal.invariant-ends
invariant-ends l = record {
  nested : AreNested l.outer.items (length l.blocks.items);
  same : launched_with l.outer.items l.blocks.items [] ≡ launched l.code;
}

abbrev pub decreases-ends : goal.decreases-ends
decreases-ends l = length l.outer.items
