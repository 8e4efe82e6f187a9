use Rattle.std.proofs.Common.{◌≢◌, ◌+◌, ◌∙◌, ◌≤◌, ap, sym, subst, arith, length}
use Rattle.cell_calls.specs.HubFloors.{hub_floor}
use Rattle.job_words.specs.Forests.{seen_by}
use Rattle.job_words.specs.Passes.{floor_seen}
use Rattle.script_grammar.specs.Tags.{coroutine_count}
use Rattle.script_reader.specs.Scripts.{program_of}
use Rattle.word_seats.specs.Seats.{hub_anchor}
use Rattle.word_seats.proofs.NewSeats.{counted}
use Rattle.run_laws.specs.Sights.{CountUp}
use Rattle.run_laws.proofs.Lists.{some_coroutine}
use Rattle.engine_many.specs.Parts.{tag_of, tags_of}
use Rattle.engine_many.specs.WordRuns.{IsFreshHub}
use Rattle.engine_many.proofs.NewTasks.{on_its_channels, on_its_jobs, knows_tags, nobody_on_hub, nobody_on_hub_still, nobody_beside, nobody_beside_more, untouched, spare, count_push}
use Rattle.engine_many.proofs.seating.seat_tasks.Goals as goal

pub split_beside-root_jobs-requires-clause-new : goal.split_beside-root_jobs-requires-clause-new
split_beside-root_jobs-requires-clause-new g c = c.requires.nobody_on_jobs 0 (omega arith)

pub loop-tag-init : goal.loop-tag-init
loop-tag-init g c =
    let old = hub_anchor c.args.root.hub.now c.args.root.pass in
    let new = hub_anchor c.split_beside-root_jobs.new.self.hub.now c.split_beside-root_jobs.new.self.pass in
    let gives = c.split_beside-root_jobs.ensures.gives in
    record {
      channels = subst (IsFreshHub g.N.ScriptName.program) (sym c.split_beside-root_jobs.ensures.same) c.requires.channels;
      nobody = nobody_on_hub_still 0 old new gives 1 c.requires.nobody;
      nobody_on_jobs = nobody_beside_more 0 old new gives c.requires.nobody_on_jobs;
      count = ap (λ l. 1 + length l) c.in_ok-tasks.ensures.items;
      tags = subst (λ l. CountUp 1 (tags_of l)) (sym c.in_ok-tasks.ensures.items) tt;
    }

pub split_beside-jobs-requires-clause-new : goal.split_beside-jobs-requires-clause-new
split_beside-jobs-requires-clause-new g c = nobody_beside c.loop-tag.tag (hub_anchor c.loop-tag.root.hub.now c.loop-tag.root.pass)
    (hub_anchor c.split-channels.new.self.hub.now c.split-channels.new.self.pass) c.split-channels.ensures.gives c.loop-tag.tag
    c.loop-tag.invariant.nobody_on_jobs c.loop-tag.tag (omega arith)

pub child-requires-clause-tag : goal.child-requires-clause-tag
child-requires-clause-tag g c = omega (arith, c.coroutines-count.ensures)

pub child-requires-clause-untouched : goal.child-requires-clause-untouched
child-requires-clause-untouched g c =
    let i = c.loop-tag.invariant in
    let some : c.loop-tag.tag ≢ 0 = omega arith in
    untouched g.N.ScriptName.program (program_of c.args.script.now) c.loop-tag.tag (hub_floor c.loop-tag.root.hub.now c.loop-tag.root.pass)
    (hub_floor c.split-channels.result.hub.now c.split-channels.result.pass) (floor_seen (seen_by c.split_beside-jobs.result.pass))
    c.requires.script some i.channels c.split-channels.ensures.seat (c.split_beside-jobs.ensures.shape ∙ c.requires.rows)
    c.split_beside-jobs.ensures.seat c.split_beside-jobs.result.pass.claimed.root

pub loop-tag-preserved : goal.loop-tag-preserved
loop-tag-preserved g c =
    let i = c.loop-tag.invariant in
    let tag = c.in_ok-task.ensures.tag ∙ sym i.count in
    let old = hub_anchor c.loop-tag.root.hub.now c.loop-tag.root.pass in
    let mid = hub_anchor c.split-channels.new.self.hub.now c.split-channels.new.self.pass in
    let new = hub_anchor c.split_beside-jobs.new.self.hub.now c.split_beside-jobs.new.self.pass in
    record {
      channels = subst (IsFreshHub g.N.ScriptName.program) (sym (c.split_beside-jobs.ensures.same ∙ c.split-channels.ensures.same))
          i.channels;
      nobody = nobody_on_hub_still c.loop-tag.tag mid new c.split_beside-jobs.ensures.gives (c.loop-tag.tag + 1)
          (nobody_on_hub c.loop-tag.tag old mid c.split-channels.ensures.gives i.nobody);
      nobody_on_jobs = nobody_beside_more c.loop-tag.tag mid new c.split_beside-jobs.ensures.gives
          (nobody_beside c.loop-tag.tag old mid c.split-channels.ensures.gives c.loop-tag.tag i.nobody_on_jobs);
      count = counted c.loop-tag.tasks.items c.push.new.self.items c.loop-tag.tag c.in_ok-task.task c.in_ok-push.ensures.items i.count;
      tags = subst (λ l. CountUp 1 (tags_of l)) (sym c.in_ok-push.ensures.items)
          (count_push tag_of 1 c.loop-tag.tasks.items c.in_ok-task.task i.tags tag);
    }

pub split-aside-requires : goal.split-aside-requires
split-aside-requires g c =
    let some = some_coroutine (program_of c.args.script.now) c.args.script.now.well_formed in
    let below : c.loop-tag.tag ≤ c.coroutines-count.result = omega (arith, some, c.coroutines-count.ensures) in
    c.loop-tag.invariant.nobody c.coroutines-count.result below

pub split_beside-aside_jobs-requires-clause-new : goal.split_beside-aside_jobs-requires-clause-new
split_beside-aside_jobs-requires-clause-new g c =
    let some = some_coroutine (program_of c.args.script.now) c.args.script.now.well_formed in
    let below : c.loop-tag.tag ≤ c.coroutines-count.result = omega (arith, some, c.coroutines-count.ensures) in
    nobody_beside c.coroutines-count.result (hub_anchor c.loop-tag.root.hub.now c.loop-tag.root.pass)
    (hub_anchor c.split-aside.new.self.hub.now c.split-aside.new.self.pass) c.split-aside.ensures.gives c.loop-tag.tag
    c.loop-tag.invariant.nobody_on_jobs c.coroutines-count.result below

pub root-requires-clause-channels : goal.root-requires-clause-channels
root-requires-clause-channels g c = on_its_channels g.N.ScriptName.program (program_of c.args.script.now)
    (hub_floor c.loop-tag.root.hub.now c.loop-tag.root.pass)
    (hub_floor c.split_beside-aside_jobs.new.self.hub.now c.split_beside-aside_jobs.new.self.pass)
    c.requires.script (c.split_beside-aside_jobs.ensures.same ∙ c.split-aside.ensures.same) c.loop-tag.invariant.channels

pub root-requires-clause-jobs : goal.root-requires-clause-jobs
root-requires-clause-jobs g c = on_its_jobs g.N.ScriptName.program (program_of c.args.script.now)
    (floor_seen (seen_by c.split_beside-root_jobs.result.pass)) c.requires.script
    (c.split_beside-root_jobs.ensures.shape ∙ c.requires.rows) c.split_beside-root_jobs.ensures.seat
    c.split_beside-root_jobs.result.pass.claimed.root

pub root-requires-clause-tags : goal.root-requires-clause-tags
root-requires-clause-tags g c =
    let i = c.loop-tag.invariant in
    let n = c.coroutines-count.result in
    let some = some_coroutine (program_of c.args.script.now) c.args.script.now.well_formed in
    let below : c.loop-tag.tag ≤ c.coroutines-count.result = omega (arith, some, c.coroutines-count.ensures) in
    let old = hub_anchor c.loop-tag.root.hub.now c.loop-tag.root.pass in
    let mid = hub_anchor c.split-aside.new.self.hub.now c.split-aside.new.self.pass in
    let new = hub_anchor c.split_beside-aside_jobs.new.self.hub.now c.split_beside-aside_jobs.new.self.pass in
    knows_tags g.N.ScriptName.program (program_of c.args.script.now) n new c.requires.script c.coroutines-count.ensures
    (nobody_on_hub_still n mid new c.split_beside-aside_jobs.ensures.gives (n + 1)
    (nobody_on_hub n old mid c.split-aside.ensures.gives (λ k le. i.nobody k (omega (arith, below, le)))))
    (nobody_beside_more n mid new c.split_beside-aside_jobs.ensures.gives
    (nobody_beside n old mid c.split-aside.ensures.gives n (λ k le. i.nobody_on_jobs k (omega (arith, below, le)))))

pub returns-clause-count : goal.returns-clause-count
returns-clause-count g c =
    let i = c.loop-tag.invariant.count in
    let some = some_coroutine (program_of c.args.script.now) c.args.script.now.well_formed in
    let all = ap coroutine_count c.requires.script in
    let inserted = ap length c.in_ok-insert.ensures.items in
    omega (arith, i, some, all, inserted, c.coroutines-count.ensures)

pub returns-clause-tags : goal.returns-clause-tags
returns-clause-tags g c = subst (λ l. CountUp 0 (tags_of l)) (sym c.in_ok-insert.ensures.items)
    (c.in_ok-first.ensures.tag, c.loop-tag.invariant.tags)

pub returns-clause-aside : goal.returns-clause-aside
returns-clause-aside g c = spare g.N.ScriptName.program (program_of c.args.script.now) c.coroutines-count.result
    (hub_floor c.loop-tag.root.hub.now c.loop-tag.root.pass) (hub_floor c.split-aside.result.hub.now c.split-aside.result.pass)
    (floor_seen (seen_by c.split_beside-aside_jobs.result.pass)) c.requires.script
    c.coroutines-count.ensures c.split-aside.ensures.seat c.split_beside-aside_jobs.ensures.seat

pub split-channels-requires : goal.split-channels-requires
split-channels-requires g c = c.loop-tag.invariant.nobody c.loop-tag.tag (omega arith)

pub split_beside-root_jobs-requires-clause-forest : goal.split_beside-root_jobs-requires-clause-forest
split_beside-root_jobs-requires-clause-forest g c = c.requires.forest

pub split_beside-jobs-requires-clause-forest : goal.split_beside-jobs-requires-clause-forest
split_beside-jobs-requires-clause-forest g c = c.requires.forest

pub split_beside-aside_jobs-requires-clause-forest : goal.split_beside-aside_jobs-requires-clause-forest
split_beside-aside_jobs-requires-clause-forest g c = c.requires.forest

pub child-requires-clause-child : goal.child-requires-clause-child
child-requires-clause-child g c = let some : c.loop-tag.tag ≢ 0 = omega arith in some
