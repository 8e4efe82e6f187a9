use Rattle.std.proofs.Common.{refl, sym}
use Rattle.job_model.proofs.Spans.{prefix_self, added_looked, added_made, added_then}
use Rattle.job_tree.specs.Endings.{EndAnswer}
use Rattle.job_tree.proofs.Looks.{may_later, looked_self}
use Rattle.job_tree.proofs.Climbs.{linked_parent}
use Rattle.job_tree.proofs.Endings.{may_tell, may_tell_later, caller_still, added_same, added_end, added_as, added_on_look, appended_end, appended_word, was_not_now, owed_at, finish_as, idle_as, prefix_as, appended_none, added_linked}
use Rattle.job_tree.proofs.caller.JobCaller.finish_one.Goals as goal

pub returns-in-Err-clause-answer : goal.returns-in-Err-clause-answer
returns-in-Err-clause-answer g c =
    EndAnswer.no_memory c.in-Err.memory
    (record {
      prepared = c.ready.ensures.prepares;
      who = refl {a = c.args.self.now.who};
      items = c.ready.ensures.items;
      added =
          added_looked _ _ _ _ (looked_self _ _);
    })

pub returns-in-Err-room-clause-answer : goal.returns-in-Err-room-clause-answer
returns-in-Err-room-clause-answer g c =
    EndAnswer.no_memory c.in-Err-room.memory
    (record {
      prepared = c.ready.ensures.prepares;
      who = refl {a = c.args.self.now.who};
      items = c.ready.ensures.items;
      added =
          added_same _ _ _ c.in-Err-room.ensures.err;
    })

pub returns-in_default-finish-clause-answer : goal.returns-in_default-finish-clause-answer
returns-in_default-finish-clause-answer g c =
    let k = was_not_now _ _ _ _ _ _ c.in_default-room.ensures.ok c.in_default-finish.not-Now
    (finish_as _ _ _ _ c.left.ensures.jobs c.finish.ensures.answer) in
    EndAnswer.not_now
    (record {
      ready = _;
      prepared = c.ready.ensures.prepares;
      left = c.left.ensures.left;
      who = refl {a = c.args.self.now.who};
      items = c.ready.ensures.items;
      added = k.added;
    })
    k.why

pub returns-then-row-eq0-clause-answer : goal.returns-then-row-eq0-clause-answer
returns-then-row-eq0-clause-answer g c =
    let h = c.ended.ensures.ended in
    let finished = added_end _ _ _ _ _ _ c.in_default-room.ensures.ok c.in-Now.ensures.answer in
    let looked = c.ended.ensures.looked c.args.self.now.who (caller_still _ _ _ finished.same c.requires.can.caller) in
    let noted = appended_end _ _ c.ready.ensures.items c.note.ensures.items h.appended in
    EndAnswer.root c.if-row-eq0.true
    (record {
      end = _;
      ready = _;
      ended = _;
      done = _;
      between = _;
      after = _;
      prepared = c.ready.ensures.prepares;
      finished = finished;
      does_it = h.does_it;
      looked = added_looked _ _ _ _ looked;
      no_jobs = h.no_jobs;
      word = added_as _ _ c.left-then-row-eq0.ensures.jobs (added_looked _ _ _ _ (looked_self _ _));
      left = c.left-then-row-eq0.ensures.left;
      who = refl {a = c.args.self.now.who};
      appended = appended_none _ _ _ noted;
    })

pub gone-told-requires-clause-can : goal.gone-told-requires-clause-can
gone-told-requires-clause-can g c =
    let k = added_end _ _ _ _ _ _ c.in_default-room.ensures.ok c.in-Now.ensures.answer in
    let looked = c.ended.ensures.looked c.args.self.now.who (caller_still _ _ _ k.same c.requires.can.caller) in
    let all = added_on_look _ _ _ _ _ k looked in
    may_later _ _ _ _ all.same all.longer (g.met.F.JobFloor.legal c.ended.new.jobs) c.requires.can

pub gone-told-requires-clause-untold : goal.gone-told-requires-clause-untold
gone-told-requires-clause-untold g c =
    let k = added_end _ _ _ _ _ _ c.in_default-room.ensures.ok c.in-Now.ensures.answer in
    let looked = c.ended.ensures.looked c.args.self.now.who (caller_still _ _ _ k.same c.requires.can.caller) in
    may_tell_later _ _ _ _ (g.met.F.JobFloor.legal c.ended.new.jobs) looked
    (may_tell _ _ _ _ _ (g.met.F.JobFloor.legal c.finish.new.self) c.in-Now.ensures.answer c.if-row-eq0.false)

pub returns-in-Waits-clause-answer : goal.returns-in-Waits-clause-answer
returns-in-Waits-clause-answer g c =
    let h = c.ended.ensures.ended in
    let k = c.in-Waits.ensures.answer in
    let finished = added_end _ _ _ _ _ _ c.in_default-room.ensures.ok c.in-Now.ensures.answer in
    let looked = c.ended.ensures.looked c.args.self.now.who (caller_still _ _ _ finished.same c.requires.can.caller) in
    let noted = appended_end _ _ c.ready.ensures.items c.note.ensures.items h.appended in
    EndAnswer.waits c.if-row-eq0.false
    (record {
      end = _;
      ready = _;
      ended = _;
      done = _;
      between = _;
      after = _;
      prepared = c.ready.ensures.prepares;
      finished = finished;
      does_it = h.does_it;
      looked = added_looked _ _ _ _ looked;
      no_jobs = h.no_jobs;
      word = added_as _ _ c.left-in-Waits.ensures.jobs (added_made _ _ _ _ _ k.made);
      left = c.left-in-Waits.ensures.left;
      who = refl {a = c.args.self.now.who};
      appended = appended_word _ _ _ _ noted c.note-2.ensures.items;
    })
    (idle_as _ c.left-in-Waits.ensures.jobs (sym k.owes))

pub returns-in-Owes-clause-answer : goal.returns-in-Owes-clause-answer
returns-in-Owes-clause-answer g c =
    let h = c.ended.ensures.ended in
    let k = c.in-Owes.ensures.answer in
    let link = c.link-parent.ensures.answer in
    let same = c.left-in-Owes.ensures.jobs in
    let finished = added_end _ _ _ _ _ _ c.in_default-room.ensures.ok c.in-Now.ensures.answer in
    let looked = c.ended.ensures.looked c.args.self.now.who (caller_still _ _ _ finished.same c.requires.can.caller) in
    let noted = appended_end _ _ c.ready.ensures.items c.note.ensures.items h.appended in
    let upto = added_then _ _ _ _ _ _ _ _ (added_on_look _ _ _ _ _ finished looked) (added_made _ _ _ _ _ k.made) in
    EndAnswer.owes c.link-parent.result.parent c.if-row-eq0.false
    (record {
      end = _;
      ready = _;
      ended = _;
      done = _;
      between = _;
      after = _;
      prepared = c.ready.ensures.prepares;
      finished = finished;
      does_it = h.does_it;
      looked = added_looked _ _ _ _ looked;
      no_jobs = h.no_jobs;
      word = added_as _ _ same (added_linked _ _ _ _ _ k.made link.0);
      left = c.left-in-Owes.ensures.left;
      who = refl {a = c.args.self.now.who};
      appended = appended_word _ _ _ _ noted c.note-2.ensures.items;
    })
    (linked_parent _ _ _ _ (g.F.JobFloor.view c.link-parent.new.self) (g.F.JobFloor.view c.left-in-Owes.new.jobs)
    (g.met.F.JobFloor.legal c.left-in-Owes.new.jobs) link (prefix_as _ same (prefix_self _)))
    (owed_at _ _ (g.F.JobFloor.view c.gone-told.new.self) _ upto.longer (prefix_as _ same link.0.longer) (sym k.owes))
