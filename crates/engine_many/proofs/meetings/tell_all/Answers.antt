use Rattle.std.proofs.Common.{ap, refl, subst, ◌∙◌, ◌<◌, arith, length, get_or, add-one, take_all}
use Rattle.std.specs.List.{All}
use Rattle.std.proofs.lemmas.List.Elements.{All-nil}
use Rattle.engine_many.specs.Parts.{sight_of, tag_of}
use Rattle.run_laws.specs.Sights.{IsWithin}
use Rattle.run_laws.specs.LastRounds.{KnowsAllOf, HasRested}
use Rattle.run_laws.proofs.Hearing.{seen_then, within_from, known_still, rested_still}
use Rattle.engine_many.proofs.Changed.{map_changed, all_changed, all_up_to}
use Rattle.engine_many.proofs.meetings.tell_all.Goals as goal

pub loop-other-preserved : goal.loop-other-preserved
loop-other-preserved g c =
    let at = sight_of g.C.ChannelFloor.view g.J.JobFloor.view in
    let i = c.loop-other.invariant in
    let xs = c.loop-other.others in
    let n = c.loop-other.other-index in
    let lt : n < length xs = omega arith in
    let d = c.other-item.result in
    let x = get_or xs n d in
    let y = c.hear.new.self in
    let more = c.hear.ensures.more in
    record {
      root = seen_then _ _ _ i.root c.hear.ensures.other;
      tags = map_changed tag_of xs n d y (ap (λ f. f.tag) more.frame) ∙ i.tags;
      told = rw add-one (all_up_to (λ z. IsWithin (at c.args.root.now) (at z)) xs n y lt i.told
          (within_from (at y) (at c.args.root.now) _ i.root c.hear.ensures.heard));
      known = λ first all. all_changed (λ z. KnowsAllOf first (at z)) xs n d y lt (known_still first (at x) (at y) more)
          (i.known first all);
      rested = λ p first all. all_changed (λ z. HasRested p first (at z)) xs n d y lt
          (rested_still p first (at x) (at y) more) (i.rested p first all);
    }

pub returns-clause-told : goal.returns-clause-told
returns-clause-told g c =
    let at = sight_of g.C.ChannelFloor.view g.J.JobFloor.view in
    subst (All (λ z. IsWithin (at c.args.root.now) (at z))) (take_all c.loop-other.other-index c.loop-other.others (omega arith))
    c.loop-other.invariant.told

pub loop-other-init : goal.loop-other-init
loop-other-init g c =
    let at = sight_of g.C.ChannelFloor.view g.J.JobFloor.view in
    record {
      root = record { frame = refl; channels = refl; jobs = refl };
      tags = refl;
      told = All-nil (λ z. IsWithin (at c.args.root.now) (at z));
      known = λ first all. all;
      rested = λ p first all. all;
    }

pub returns-clause-known : goal.returns-clause-known
returns-clause-known g c = λ first all. c.loop-other.invariant.known first all

pub returns-clause-rested : goal.returns-clause-rested
returns-clause-rested g c = λ p first all. c.loop-other.invariant.rested p first all

pub returns-clause-root : goal.returns-clause-root
returns-clause-root g c = c.loop-other.invariant.root
