use Rattle.std.proofs.Common.{◌≡◌, sym, subst, All, ◌∙◌, map-id, length, ap, arith, ◌∷◌, [], length-append}
use Rattle.std.proofs.lemmas.Iterator.Adapters.{YieldsList-from_vec}
use Rattle.std.proofs.lemmas.Iterator.Consumers.{YieldsList-end, YieldsList-turn}
use Rattle.std.proofs.lemmas.List.Elements.{All-nil}
use Rattle.engine_many.specs.Parts.{sight_of, tag_of, tags_of}
use Rattle.run_laws.specs.Sights.{IsWithin}
use Rattle.run_laws.specs.LastRounds.{KnowsAllOf, HasRested}
use Rattle.run_laws.proofs.Lists.{tags_push}
use Rattle.run_laws.proofs.Meeting.{poll_rested, poll_known}
use Rattle.engine_many.proofs.polling.poll_all.Goals as goal

pub push_reserved-requires : goal.push_reserved-requires
push_reserved-requires g c =
    let began = c.into_iter-task-iterator.ensures.into_iter_gives in
    let turn = YieldsList-turn (YieldsList-from_vec c.args.tasks.items began.0 (c.into_iter-task-iterator.result.rest.ok.0
    ∙ ap length began.0)) c.loop-task.yielded c.loop-task.task-iterator c.loop-task.yielded_by c.next.result c.next.new.self
    c.in-Some.task c.in-Some.is c.next.ensures.steps in
    omega (arith, turn.0, c.loop-task.invariant.count, c.loop-task.invariant.room)

pub loop-task-preserved : goal.loop-task-preserved
loop-task-preserved g c =
    let i = c.loop-task.invariant in
    record {
      count = omega (arith, c.push_reserved.ensures.len, i.count, length-append c.loop-task.yielded (c.in-Some.task ∷ []));
      room = omega (arith, c.push_reserved.ensures.capacity, i.room);
      tags = rw c.push_reserved.ensures.items (tags_push tag_of c.loop-task.yielded c.loop-task.polled.items c.in-Some.task
          c.in_ok-task.task
          i.tags c.in_ok-task.ensures.tag);
      rested = λ e first all. rw c.push_reserved.ensures.items
          (poll_rested (sight_of g.C.ChannelFloor.view g.J.JobFloor.view) g.N.ScriptName.program c.loop-task.yielded
          c.loop-task.polled.items c.in-Some.task c.in_ok-task.task c.loop-task.moved c.in_ok-task.did i.rested c.in_ok-task.ensures.did
          c.in_ok-task.ensures.keeps e first all);
      known = λ e first all. rw c.push_reserved.ensures.items (poll_known (sight_of g.C.ChannelFloor.view g.J.JobFloor.view)
          g.N.ScriptName.program c.loop-task.yielded c.loop-task.polled.items c.in-Some.task c.in_ok-task.task c.loop-task.moved
          c.in_ok-task.did i.known c.in_ok-task.ensures.did e first all);
    }

pub returns-clause-rested : goal.returns-clause-rested
returns-clause-rested g c = λ e met.
    let began = c.into_iter-task-iterator.ensures.into_iter_gives in
    let end = YieldsList-end (YieldsList-from_vec c.args.tasks.items began.0 (c.into_iter-task-iterator.result.rest.ok.0
    ∙ ap length began.0)) c.loop-task.yielded c.loop-task.task-iterator c.loop-task.yielded_by c.next.result c.next.new.self
    c.in-None.is c.next.ensures.steps in
    let all : c.args.tasks.items ≡ c.loop-task.yielded = sym end.0 ∙ map-id c.loop-task.yielded in
    record {
      first = met.first;
      rested = c.loop-task.invariant.rested e met.first (subst
          (All (λ x. IsWithin met.first (sight_of g.C.ChannelFloor.view g.J.JobFloor.view x))) all met.seen);
      known = c.loop-task.invariant.known e met.first (subst
          (All (λ x. KnowsAllOf met.first (sight_of g.C.ChannelFloor.view g.J.JobFloor.view x))) all met.known);
    }

pub loop-task-init : goal.loop-task-init
loop-task-init g c =
    let at = sight_of g.C.ChannelFloor.view g.J.JobFloor.view in
    record {
      count = c.in_ok-polled.ensures.len;
      room = omega (arith, c.in_ok-polled.ensures.capacity, c.len.ensures, c.args.tasks.ok.0);
      tags = ap tags_of c.in_ok-polled.ensures.items;
      rested = λ e first all. rw c.in_ok-polled.ensures.items (All-nil (λ x. HasRested g.N.ScriptName.program first (at x)));
      known = λ e first all. rw c.in_ok-polled.ensures.items (All-nil (λ x. KnowsAllOf first (at x)));
    }

pub returns-clause-tags : goal.returns-clause-tags
returns-clause-tags g c =
    let began = c.into_iter-task-iterator.ensures.into_iter_gives in
    let end = YieldsList-end (YieldsList-from_vec c.args.tasks.items began.0 (c.into_iter-task-iterator.result.rest.ok.0
    ∙ ap length began.0)) c.loop-task.yielded c.loop-task.task-iterator c.loop-task.yielded_by c.next.result c.next.new.self
    c.in-None.is c.next.ensures.steps in
    let all : c.args.tasks.items ≡ c.loop-task.yielded = sym end.0 ∙ map-id c.loop-task.yielded in
    c.loop-task.invariant.tags ∙ ap tags_of (sym all)
