use Rattle.std.proofs.Common.{◌+◌, sym, ap, subst, arith}
use Rattle.channel_model.specs.declared.acts.Kind.{Kind}
use Rattle.channel_model.specs.Channels.{kind_at, suspends}
use Rattle.cell_words.specs.Hubs.{shape_of, seen_by}
use Rattle.cell_words.proofs.KeptBehind.{waits_keeps}
use Rattle.cell_words.proofs.LooksAtCells.{hub_legal, sees_then, below_seen}
use Rattle.cell_words.proofs.RunsOfKeptPlaces.{run_seen, run_made, admit_kept, walked_start}
use Rattle.cell_words.proofs.WalksToAdmit.{Walked, walked_seen, walked_kept, all_passed, all_given, within_places, sees_self, nothing_now, admits_seen, passed_low, room_by, full_by, search_told, search_seen}
use Rattle.cell_words.proofs.WalksCount.{less_than}
use Rattle.cell_words.specs.Seen.{Seen, Sees}
use Rattle.word_rules.specs.Words.{WereKept}
use Rattle.cell_words.specs.Answers.{Admits}
use Rattle.cell_words.proofs.admitting.admit_from.Goals as goal

pub loop-place-init : goal.loop-place-init
loop-place-init c =
    let h = c.kept_run-run.ensures in
    let f = c.first_not_kept-first.ensures in
    let shape = shape_of c.args.hub.now in
    let v = seen_by c.kept_run-run.new.pass in
    let l = hub_legal c.args.hub.now c.kept_run-run.new.pass h.own.0 in
    let few = f.few in
    record {
      own = h.own;
      sees = sees_self v;
      walked = walked_start shape c.args.c c.args.low _ _ (waits_keeps (kind_at shape c.args.c)
          (ap (λ (k : Kind). suspends k) c.requires.kind)) v.seen l
          (below_seen shape 0 c.args.low c.args.c (seen_by c.args.pass.now) v h.sees l c.requires.low) h.kept c.first_not_kept-first.result
          f.least f.run;
      least = f.least;
      few = omega arith;
      run = h.kept;
    }

pub stands_at-requires-clause-at : goal.stands_at-requires-clause-at
stands_at-requires-clause-at c =
    let i = c.loop-place.invariant in
    let w = within_places (shape_of c.args.hub.now) c.args.c c.loop-place.place (seen_by c.loop-place.pass).seen
    (hub_legal c.args.hub.now c.loop-place.pass i.own.0) i.walked.given in
    let least = i.least in
    (c.requires.channel, omega arith)

pub stands_at-requires-clause-given : goal.stands_at-requires-clause-given
stands_at-requires-clause-given c =
    let i = c.loop-place.invariant in
    let few = i.walked.few in
    let given = i.walked.given in
    let some = c.requires.some in
    let is = c.if-count-most.true in
    omega arith

pub returns-then-stands_at-clause-search : goal.returns-then-stands_at-clause-search
returns-then-stands_at-clause-search c =
    let i = c.loop-place.invariant in
    let shape = shape_of c.args.hub.now in
    let u = seen_by c.args.pass.now in
    let v = seen_by c.loop-place.pass in
    let w = seen_by c.stands_at.new.pass in
    let few = i.walked.few in
    let some = c.requires.some in
    let is = c.if-count-most.true in
    search_told shape c.args.who c.args.c c.args.low c.loop-place.place c.loop-place.count c.args.mark u v w
    (sees_then u (seen_by c.kept_run-run.new.pass) v c.kept_run-run.ensures.sees i.sees) c.stands_at.ensures.sees
    (hub_legal c.args.hub.now c.loop-place.pass i.own.0) (hub_legal c.args.hub.now c.stands_at.new.pass c.stands_at.ensures.own.0)
    i.walked (omega arith)
    (full_by shape c.args.c c.args.most c.loop-place.count c.requires.kind c.if-count-most.true)
    (rw c.if-stands_at.true at c.stands_at.ensures.stands)

pub returns-then-count-most-clause-search : goal.returns-then-count-most-clause-search
returns-then-count-most-clause-search c =
    let i = c.loop-place.invariant in
    let shape = shape_of c.args.hub.now in
    let u = seen_by c.args.pass.now in
    let v = seen_by c.loop-place.pass in
    let w = seen_by c.stands_at.new.pass in
    let l = hub_legal c.args.hub.now c.stands_at.new.pass c.stands_at.ensures.own.0 in
    let walked = walked_seen shape c.args.c c.args.low c.loop-place.place c.loop-place.count (ap (λ (k : Kind). suspends k) c.requires.kind)
    v w c.stands_at.ensures.sees (hub_legal c.args.hub.now c.loop-place.pass i.own.0) l i.walked in
    let few = i.walked.few in
    let given = walked.given in
    let some = c.requires.some in
    let is = c.if-count-most.true in (
      sees_then u v w (sees_then u (seen_by c.kept_run-run.new.pass) v c.kept_run-run.ensures.sees i.sees) c.stands_at.ensures.sees,
      passed_low shape c.args.c c.args.low w.seen l walked.below (omega arith) (rw c.if-stands_at.false at c.stands_at.ensures.stands),
    )

pub admit_here-requires-clause-at : goal.admit_here-requires-clause-at
admit_here-requires-clause-at c =
    let i = c.loop-place.invariant in (
      c.requires.channel,
      within_places (shape_of c.args.hub.now) c.args.c c.loop-place.place (seen_by c.loop-place.pass).seen
          (hub_legal c.args.hub.now c.loop-place.pass i.own.0) i.walked.given,
    )

pub admit_here-requires-clause-given : goal.admit_here-requires-clause-given
admit_here-requires-clause-given c = c.loop-place.invariant.walked.given

pub admit_here-requires-clause-room : goal.admit_here-requires-clause-room
admit_here-requires-clause-room c =
    let i = c.loop-place.invariant in
    room_by (shape_of c.args.hub.now) c.args.c c.args.most c.loop-place.count _ c.requires.kind i.walked.upper i.few c.if-count-most.false

pub raise_run-requires-clause-run : goal.raise_run-requires-clause-run
raise_run-requires-clause-run c =
    let t = c.in-Done.ensures.here in
    run_made (shape_of c.args.hub.now) c.args.c _ _ _ (seen_by c.loop-place.pass) (seen_by c.admit_here.new.pass) t.made
    (hub_legal c.args.hub.now c.admit_here.new.pass c.admit_here.ensures.own.0) c.loop-place.invariant.run

pub raise_run-requires-clause-kept : goal.raise_run-requires-clause-kept
raise_run-requires-clause-kept c =
    admit_kept (shape_of c.args.hub.now) c.args.who c.args.c c.loop-place.place _ (seen_by c.loop-place.pass)
    (seen_by c.admit_here.new.pass) (hub_legal c.args.hub.now c.admit_here.new.pass c.admit_here.ensures.own.0) c.in-Done.ensures.here

pub returns-in-Done-clause-search : goal.returns-in-Done-clause-search
returns-in-Done-clause-search c =
    let u = seen_by c.args.pass.now in
    let e = seen_by c.kept_run-run.new.pass in
    let v = seen_by c.loop-place.pass in (
      subst (λ (z : Seen). Admits c.args.who c.args.c c.loop-place.place c.in-Done.owner u z) (sym c.raise_run.ensures.same)
          (admits_seen _ _ _ _ u v (seen_by c.admit_here.new.pass) (sees_then u e v c.kept_run-run.ensures.sees c.loop-place.invariant.sees)
          c.in-Done.ensures.here),
      c.loop-place-test.true,
    )

pub returns-in-End-clause-search : goal.returns-in-End-clause-search
returns-in-End-clause-search c =
    let i = c.loop-place.invariant in
    let shape = shape_of c.args.hub.now in
    let u = seen_by c.args.pass.now in
    let v = seen_by c.loop-place.pass in
    let w = seen_by c.admit_here.new.pass in
    let t = c.in-End.ensures.here in
    let l = hub_legal c.args.hub.now c.admit_here.new.pass c.admit_here.ensures.own.0 in
    nothing_now shape c.args.c c.args.mark u w (sees_then u v w
    (sees_then u (seen_by c.kept_run-run.new.pass) v c.kept_run-run.ensures.sees i.sees) t.0)
    (all_given shape c.args.c c.args.low c.loop-place.place c.loop-place.count c.args.mark w.seen l
    (walked_seen shape c.args.c c.args.low c.loop-place.place c.loop-place.count (ap (λ (k : Kind). suspends k) c.requires.kind) v w t.0
    (hub_legal c.args.hub.now c.loop-place.pass i.own.0) l i.walked) t.1)

pub loop-place-preserved : goal.loop-place-preserved
loop-place-preserved c =
    let i = c.loop-place.invariant in
    let shape = shape_of c.args.hub.now in
    let u = seen_by c.kept_run-run.new.pass in
    let v = seen_by c.loop-place.pass in
    let w = seen_by c.admit_here.new.pass in
    let lv = hub_legal c.args.hub.now c.loop-place.pass i.own.0 in
    let l = hub_legal c.args.hub.now c.admit_here.new.pass c.admit_here.ensures.own.0 in
    let more = less_than c.loop-place.count c.args.most i.few c.if-count-most.false in
    let least = i.least in
    let t = c.in-Kept.ensures.here in
    let same = sym c.raise_run-run.ensures.same in
    record {
      own = c.raise_run-run.ensures.own;
      sees = subst (λ (z : Seen). Sees u z) same (sees_then u v w i.sees t.0);
      walked = subst (λ (z : Seen). Walked c.args.c c.args.low (c.loop-place.place + 1) (c.loop-place.count + 1) z.seen) same
          (walked_kept c.args.c c.args.low c.loop-place.place c.loop-place.count w.seen i.least
          (walked_seen shape c.args.c c.args.low c.loop-place.place c.loop-place.count (ap (λ (k : Kind). suspends k) c.requires.kind)
          v w t.0 lv l i.walked) t.1);
      least = omega arith;
      few = more;
      run = subst (λ (z : Seen). WereKept z.seen c.args.c c.raise_run-run.result.from c.raise_run-run.result.to) same
          c.raise_run-run.ensures.kept;
    }

pub admit_past-requires-clause-at : goal.admit_past-requires-clause-at
admit_past-requires-clause-at c =
    let i = c.loop-place.invariant in
    let w = within_places (shape_of c.args.hub.now) c.args.c c.loop-place.place (seen_by c.loop-place.pass).seen
    (hub_legal c.args.hub.now c.loop-place.pass i.own.0) i.walked.given in
    let least = i.least in
    (c.requires.channel, omega arith)

pub admit_past-requires-clause-given : goal.admit_past-requires-clause-given
admit_past-requires-clause-given c =
    let least = c.loop-place.invariant.least in
    let given = c.in-Gone.ensures.here.1 in
    omega arith

pub admit_past-requires-clause-low : goal.admit_past-requires-clause-low
admit_past-requires-clause-low c =
    let i = c.loop-place.invariant in
    below_seen (shape_of c.args.hub.now) 0 c.args.low c.args.c (seen_by c.loop-place.pass) (seen_by c.admit_here.new.pass)
    c.in-Gone.ensures.here.0 (hub_legal c.args.hub.now c.admit_here.new.pass c.admit_here.ensures.own.0) i.walked.below

pub returns-in-Gone-clause-search : goal.returns-in-Gone-clause-search
returns-in-Gone-clause-search c =
    let u = seen_by c.args.pass.now in
    let e = seen_by c.kept_run-run.new.pass in
    let v = seen_by c.loop-place.pass in
    let w = seen_by c.admit_here.new.pass in
    search_seen (shape_of c.args.hub.now) c.args.who c.args.c c.args.low c.args.mark u w (seen_by c.admit_past.new.pass)
    (sees_then u v w (sees_then u e v c.kept_run-run.ensures.sees c.loop-place.invariant.sees) c.in-Gone.ensures.here.0)
    c.admit_past.result c.admit_past.ensures.search

pub raise_run-requires-clause-at : goal.raise_run-requires-clause-at
raise_run-requires-clause-at c =
    let i = c.loop-place.invariant in (
      c.requires.channel,
      within_places (shape_of c.args.hub.now) c.args.c c.loop-place.place (seen_by c.loop-place.pass).seen
          (hub_legal c.args.hub.now c.loop-place.pass i.own.0) i.walked.given,
    )

pub raise_run-run-requires-clause-at : goal.raise_run-run-requires-clause-at
raise_run-run-requires-clause-at c =
    let i = c.loop-place.invariant in (
      c.requires.channel,
      within_places (shape_of c.args.hub.now) c.args.c c.loop-place.place (seen_by c.loop-place.pass).seen
          (hub_legal c.args.hub.now c.loop-place.pass i.own.0) i.walked.given,
    )

pub raise_run-run-requires-clause-run : goal.raise_run-run-requires-clause-run
raise_run-run-requires-clause-run c =
    run_seen (shape_of c.args.hub.now) c.args.c _ _ (seen_by c.loop-place.pass) (seen_by c.admit_here.new.pass) c.in-Kept.ensures.here.0
    (hub_legal c.args.hub.now c.admit_here.new.pass c.admit_here.ensures.own.0) c.loop-place.invariant.run

pub returns-clause-search : goal.returns-clause-search
returns-clause-search c =
    let i = c.loop-place.invariant in
    nothing_now (shape_of c.args.hub.now) c.args.c c.args.mark (seen_by c.args.pass.now) (seen_by c.loop-place.pass)
    (sees_then (seen_by c.args.pass.now) (seen_by c.kept_run-run.new.pass) (seen_by c.loop-place.pass) c.kept_run-run.ensures.sees
    i.sees)
    (all_passed (shape_of c.args.hub.now) c.args.c c.args.low c.loop-place.place c.loop-place.count c.args.mark
    (seen_by c.loop-place.pass).seen (hub_legal c.args.hub.now c.loop-place.pass i.own.0) i.walked c.loop-place-test.false)

pub admit_here-requires-clause-kind : goal.admit_here-requires-clause-kind
admit_here-requires-clause-kind c = ap (λ (k : Kind). suspends k) c.requires.kind
