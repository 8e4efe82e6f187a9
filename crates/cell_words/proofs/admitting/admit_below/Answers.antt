use Rattle.std.proofs.Common.{sym, ap, ◌∙◌}
use Rattle.channel_model.specs.declared.acts.Kind.{Kind}
use Rattle.channel_model.specs.Channels.{is_full, suspends}
use Rattle.channel_model.specs.Histories.{replay}
use Rattle.cell_words.specs.Hubs.{shape_of, seen_by}
use Rattle.cell_words.proofs.LooksAtCells.{hub_legal, sees_then}
use Rattle.cell_words.proofs.WalksToAdmit.{walked_none, all_passed, sees_self, nothing_now, nothing_seen, admits_seen, never_keeps, never_waits, keeps_none}
use Rattle.cell_words.proofs.admitting.admit_below.Goals as goal

pub returns-in-Rendezvous-clause-admitted : goal.returns-in-Rendezvous-clause-admitted
returns-in-Rendezvous-clause-admitted c = let u = seen_by c.args.pass.now in let shape = shape_of c.args.hub.now in
    nothing_now shape c.args.c c.args.mark u u (sees_self u)
    (never_keeps shape c.args.c c.args.mark (replay u.seen)
    (λ n. ap (λ (k : Kind). is_full k n) (sym c.kind_of.ensures ∙ c.in-Rendezvous.is)))

pub returns-in-Signal-clause-admitted : goal.returns-in-Signal-clause-admitted
returns-in-Signal-clause-admitted c = let u = seen_by c.args.pass.now in let shape = shape_of c.args.hub.now in
    nothing_now shape c.args.c c.args.mark u u (sees_self u)
    (never_keeps shape c.args.c c.args.mark (replay u.seen)
    (λ n. ap (λ (k : Kind). is_full k n) (sym c.kind_of.ensures ∙ c.in-Signal.is)))

pub returns-in-Unlimited-clause-admitted : goal.returns-in-Unlimited-clause-admitted
returns-in-Unlimited-clause-admitted c = let u = seen_by c.args.pass.now in let shape = shape_of c.args.hub.now in
    nothing_now shape c.args.c c.args.mark u u (sees_self u)
    (never_waits shape c.args.c c.args.mark u.seen (hub_legal c.args.hub.now c.args.pass.now c.requires.own.0)
    (ap (λ (k : Kind). suspends k) (sym c.kind_of.ensures ∙ c.in-Unlimited.is)))

pub returns-in-Conflated-clause-admitted : goal.returns-in-Conflated-clause-admitted
returns-in-Conflated-clause-admitted c = let u = seen_by c.args.pass.now in let shape = shape_of c.args.hub.now in
    nothing_now shape c.args.c c.args.mark u u (sees_self u)
    (never_waits shape c.args.c c.args.mark u.seen (hub_legal c.args.hub.now c.args.pass.now c.requires.own.0)
    (ap (λ (k : Kind). suspends k) (sym c.kind_of.ensures ∙ c.in-Conflated.is)))

pub returns-in-DropOldest-clause-admitted : goal.returns-in-DropOldest-clause-admitted
returns-in-DropOldest-clause-admitted c = let u = seen_by c.args.pass.now in let shape = shape_of c.args.hub.now in
    nothing_now shape c.args.c c.args.mark u u (sees_self u)
    (never_waits shape c.args.c c.args.mark u.seen (hub_legal c.args.hub.now c.args.pass.now c.requires.own.0)
    (ap (λ (k : Kind). suspends k) (sym c.kind_of.ensures ∙ c.in-DropOldest.is)))

pub returns-in-DropLatest-clause-admitted : goal.returns-in-DropLatest-clause-admitted
returns-in-DropLatest-clause-admitted c = let u = seen_by c.args.pass.now in let shape = shape_of c.args.hub.now in
    nothing_now shape c.args.c c.args.mark u u (sees_self u)
    (never_waits shape c.args.c c.args.mark u.seen (hub_legal c.args.hub.now c.args.pass.now c.requires.own.0)
    (ap (λ (k : Kind). suspends k) (sym c.kind_of.ensures ∙ c.in-DropLatest.is)))

pub returns-then-most-eq0-clause-admitted : goal.returns-then-most-eq0-clause-admitted
returns-then-most-eq0-clause-admitted c = let u = seen_by c.args.pass.now in let shape = shape_of c.args.hub.now in
    nothing_now shape c.args.c c.args.mark u u (sees_self u)
    (never_keeps shape c.args.c c.args.mark (replay u.seen)
    (keeps_none shape c.args.c _ (sym c.kind_of.ensures ∙ c.in-Buffered.is) c.if-most-eq0.true))

pub loop-low-init : goal.loop-low-init
loop-low-init c = record {
  own = c.receives_from-from.ensures.own;
  sees = sees_self (seen_by c.receives_from-from.new.pass);
  low =
      c.receives_from-from.ensures.low;
}

pub admit_from-requires-clause-kind : goal.admit_from-requires-clause-kind
admit_from-requires-clause-kind c = sym c.kind_of.ensures ∙ c.in-Buffered.is

pub returns-in-Done-clause-admitted : goal.returns-in-Done-clause-admitted
returns-in-Done-clause-admitted c =
    let u = seen_by c.args.pass.now in
    let e = seen_by c.receives_from-from.new.pass in
    let v = seen_by c.loop-low.pass in
    let t = c.in-Done.ensures.search in (
      admits_seen _ _ _ _ u v (seen_by c.admit_from.new.pass) (sees_then u e v c.receives_from-from.ensures.sees c.loop-low.invariant.sees)
          t.0,
      t.1,
    )

pub returns-in-Nothing-clause-admitted : goal.returns-in-Nothing-clause-admitted
returns-in-Nothing-clause-admitted c =
    let u = seen_by c.args.pass.now in
    let e = seen_by c.receives_from-from.new.pass in
    let v = seen_by c.loop-low.pass in
    nothing_seen (shape_of c.args.hub.now) c.args.c c.args.mark u v (seen_by c.admit_from.new.pass)
    (sees_then u e v c.receives_from-from.ensures.sees c.loop-low.invariant.sees) c.in-Nothing.ensures.search

pub loop-low-preserved : goal.loop-low-preserved
loop-low-preserved c =
    let t = c.in-Passed.ensures.search in
    record {
      own = c.admit_from.ensures.own;
      sees = sees_then (seen_by c.receives_from-from.new.pass) (seen_by c.loop-low.pass)
          (seen_by c.admit_from.new.pass) c.loop-low.invariant.sees t.0;
      low = t.1;
    }

pub returns-clause-admitted : goal.returns-clause-admitted
returns-clause-admitted c =
    let u = seen_by c.args.pass.now in
    let e = seen_by c.receives_from-from.new.pass in
    let v = seen_by c.loop-low.pass in
    let i = c.loop-low.invariant in
    let shape = shape_of c.args.hub.now in
    let l = hub_legal c.args.hub.now c.loop-low.pass i.own.0 in
    nothing_now shape c.args.c c.args.mark u v (sees_then u e v c.receives_from-from.ensures.sees i.sees)
    (all_passed shape c.args.c c.loop-low.low c.loop-low.low 0 c.args.mark v.seen l
    (walked_none shape c.args.c c.loop-low.low v.seen l i.low) c.loop-low-test.false)
