use Rattle.std.proofs.Common.{ap, refl, subst, ◌∙◌, ◌<◌, arith, length, get_or, take, add-one, take_all}
use Rattle.std.specs.List.{All}
use Rattle.std.proofs.lemmas.List.Elements.{All-weaker, All-nil}
use Rattle.engine_many.specs.Parts.{sight_of, tag_of}
use Rattle.run_laws.specs.LastRounds.{KnowsAllOf, HasRested}
use Rattle.run_laws.proofs.Hearing.{saw_then, known_same, rested_same, known_more, known_told, within_same, within_itself}
use Rattle.engine_many.proofs.Changed.{map_changed, all_changed, all_up_to}
use Rattle.engine_many.proofs.meetings.hear_all.Goals as goal

pub loop-other-preserved : goal.loop-other-preserved
loop-other-preserved g c =
    let at = sight_of g.C.ChannelFloor.view g.J.JobFloor.view in
    let i = c.loop-other.invariant in
    let xs = c.loop-other.others in
    let n = c.loop-other.other-index in
    let lt : n < length xs = omega arith in
    let d = c.other-item.result in
    let x = get_or xs n d in
    let y = c.hear.new.other in
    let root = c.hear.new.self in
    let more = c.hear.ensures.more in
    let same = c.hear.ensures.other in
    record {
      root = saw_then _ _ _ i.root more;
      tags = map_changed tag_of xs n d y (ap (λ f. f.tag) same.frame) ∙ i.tags;
      heard = rw add-one (all_up_to (λ z. KnowsAllOf (at root) (at z)) xs n y lt
          (All-weaker (λ z. KnowsAllOf (at c.loop-other.root) (at z)) (λ z. KnowsAllOf (at root) (at z))
          (λ z k. known_more _ _ (at z) more.within k) (take n xs) i.heard)
          (known_told (at root) (at y) (within_same (at root) (at x) (at y) same c.hear.ensures.heard)));
      known = λ first all. all_changed (λ z. KnowsAllOf first (at z)) xs n d y lt (known_same first (at x) (at y) same)
          (i.known first all);
      rested = λ p first all. all_changed (λ z. HasRested p first (at z)) xs n d y lt
          (rested_same p first (at x) (at y) same) (i.rested p first all);
    }

pub returns-clause-heard : goal.returns-clause-heard
returns-clause-heard g c =
    let at = sight_of g.C.ChannelFloor.view g.J.JobFloor.view in
    subst (All (λ z. KnowsAllOf (at c.loop-other.root) (at z))) (take_all c.loop-other.other-index c.loop-other.others (omega arith))
    c.loop-other.invariant.heard

pub loop-other-init : goal.loop-other-init
loop-other-init g c =
    let at = sight_of g.C.ChannelFloor.view g.J.JobFloor.view in
    record {
      root = record { frame = refl; within = within_itself (at c.args.root.now); same = record { calls = refl; jobs = refl } };
      tags = refl;
      heard = All-nil (λ z. KnowsAllOf (at c.args.root.now) (at z));
      known = λ first all. all;
      rested = λ p first all. all;
    }

pub returns-clause-known : goal.returns-clause-known
returns-clause-known g c = λ first all. c.loop-other.invariant.known first all

pub returns-clause-rested : goal.returns-clause-rested
returns-clause-rested g c = λ p first all. c.loop-other.invariant.rested p first all

pub returns-clause-root : goal.returns-clause-root
returns-clause-root g c = c.loop-other.invariant.root
