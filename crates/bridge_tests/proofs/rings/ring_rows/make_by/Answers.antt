use Rattle.std.proofs.Common.{arith}
use Rattle.bridge_tests.proofs.ThreeKept.{main_kept, other_kept, main_tag, other_tag}
use Rattle.bridge_tests.proofs.rings.ring_rows.make_by.Goals as goal

pub make-requires-clause-tag : goal.make-requires-clause-tag
make-requires-clause-tag g = (main_tag g.args.ring.now g.args.three.now.main g.requires.three.0, omega arith)

pub make-requires-in-One-clause-tag : goal.make-requires-in-One-clause-tag
make-requires-in-One-clause-tag g = (other_tag 1 g.args.ring.now g.args.three.now.one g.requires.three.1, omega arith)

pub make-requires-in-Two-clause-tag : goal.make-requires-in-Two-clause-tag
make-requires-in-Two-clause-tag g = (other_tag 2 g.args.ring.now g.args.three.now.two g.requires.three.2, omega arith)

pub returns-in-Main : goal.returns-in-Main
returns-in-Main g = record {
  three = (
    main_kept g.args.ring.now g.args.three.now.main g.make.new.pass g.requires.three.0 g.make.ensures.of g.make.ensures.same,
    g.requires.three.1,
    g.requires.three.2,
  );
}

pub returns-in-One : goal.returns-in-One
returns-in-One g = record {
  three = (
    g.requires.three.0,
    other_kept 1 g.args.ring.now g.args.three.now.one g.make-in-One.new.pass g.requires.three.1
        g.make-in-One.ensures.of g.make-in-One.ensures.same,
    g.requires.three.2,
  );
}

pub returns-in-Two : goal.returns-in-Two
returns-in-Two g = record {
  three = (
    g.requires.three.0,
    g.requires.three.1,
    other_kept 2 g.args.ring.now g.args.three.now.two g.make-in-Two.new.pass
        g.requires.three.2 g.make-in-Two.ensures.of g.make-in-Two.ensures.same,
  );
}
