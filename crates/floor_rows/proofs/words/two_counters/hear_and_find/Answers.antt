use Rattle.std.proofs.Common.{◌≡◌, ◌++◌, length, arith, refl, ◌∙◌}
use Rattle.joined_words.specs.Parts.{entries_in}
use Rattle.joined_words.specs.Joints.{first_of}
use Rattle.floor_rows.proofs.TwoCounters.{prefix_length, key_met}
use Rattle.floor_rows.proofs.words.two_counters.hear_and_find.Goals as goal

pub load_in-requires-clause-seat : goal.load_in-requires-clause-seat
load_in-requires-clause-seat c = (
  c.hear.ensures.same.0.0 ∙ c.requires.seat.0,
  key_met c.hear.ensures.whole ∙ c.requires.seat.1,
)

pub returns : goal.returns
returns c =
    let a = prefix_length (entries_in first_of c.args.other.now.me.0.seen) (entries_in first_of c.hear.new.seat.me.0.seen)
    c.hear.ensures.heard in
    let l = c.load_in.ensures.loaded in
    let b = prefix_length (entries_in first_of c.hear.new.seat.me.0.seen)
    (entries_in first_of c.hear.new.seat.me.0.seen ++ l.others) (l.others, refl) in
    let e : c.load_in.result ≡ length (entries_in first_of c.hear.new.seat.me.0.seen ++ l.others) = l.found refl in
    omega arith
