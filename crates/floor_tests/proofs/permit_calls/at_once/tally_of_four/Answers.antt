use Rattle.std.proofs.Common.{ap, ◌∙◌}
use Rattle.worded.specs.Views.{has_tag}
use Rattle.channel_model.specs.Histories.{acts_of}
use Rattle.floor_tests.proofs.KnownAtFirst.{may_first, pass_fresh, four_work}
use Rattle.floor_tests.proofs.permit_calls.at_once.tally_of_four.Goals as goal

pub split-a-requires-clause-of : goal.split-a-requires-clause-of
split-a-requires-clause-of g c = c.in_ok-hub.ensures.own.0

pub split-a-requires-clause-new : goal.split-a-requires-clause-new
split-a-requires-clause-new g c =
    (c.in_ok-hub.ensures.gives.0, ap (has_tag 1) c.in_ok-hub.ensures.gives.1)

pub split-b-requires-clause-of : goal.split-b-requires-clause-of
split-b-requires-clause-of g c = c.split-a.ensures.of

pub split-b-requires-clause-new : goal.split-b-requires-clause-new
split-b-requires-clause-new g c =
    (c.split-a.ensures.gives.0, ap (has_tag 2) c.split-a.ensures.gives.1 ∙ ap (has_tag 2) c.in_ok-hub.ensures.gives.1)

pub split-c-requires-clause-of : goal.split-c-requires-clause-of
split-c-requires-clause-of g c = c.split-b.ensures.of

pub split-c-requires-clause-new : goal.split-c-requires-clause-new
split-c-requires-clause-new g c = (
  c.split-b.ensures.gives.0,
  ap (has_tag 3) c.split-b.ensures.gives.1 ∙ ap (has_tag 3) c.split-a.ensures.gives.1
      ∙ ap (has_tag 3) c.in_ok-hub.ensures.gives.1,
)

pub split-d-requires-clause-of : goal.split-d-requires-clause-of
split-d-requires-clause-of g c = c.split-c.ensures.of

pub split-d-requires-clause-new : goal.split-d-requires-clause-new
split-d-requires-clause-new g c = (
  c.split-c.ensures.gives.0,
  ap (has_tag 4) c.split-c.ensures.gives.1 ∙ ap (has_tag 4) c.split-b.ensures.gives.1
      ∙ ap (has_tag 4) c.split-a.ensures.gives.1 ∙ ap (has_tag 4) c.in_ok-hub.ensures.gives.1,
)

pub new_worker-requires-clause-all : goal.new_worker-requires-clause-all
new_worker-requires-clause-all g c = c.in_ok-hub.ensures.shape

pub new_worker-requires-clause-own : goal.new_worker-requires-clause-own
new_worker-requires-clause-own g c = c.split-a.ensures.own

pub new_worker-requires-clause-none : goal.new_worker-requires-clause-none
new_worker-requires-clause-none g c = c.split-a.ensures.none

pub new_worker-requires-2-clause-all : goal.new_worker-requires-2-clause-all
new_worker-requires-2-clause-all g c = c.in_ok-hub.ensures.shape

pub new_worker-requires-2-clause-own : goal.new_worker-requires-2-clause-own
new_worker-requires-2-clause-own g c = c.split-b.ensures.own

pub new_worker-requires-2-clause-none : goal.new_worker-requires-2-clause-none
new_worker-requires-2-clause-none g c = c.split-b.ensures.none

pub new_worker-requires-3-clause-all : goal.new_worker-requires-3-clause-all
new_worker-requires-3-clause-all g c = c.in_ok-hub.ensures.shape

pub new_worker-requires-3-clause-own : goal.new_worker-requires-3-clause-own
new_worker-requires-3-clause-own g c = c.split-c.ensures.own

pub new_worker-requires-3-clause-none : goal.new_worker-requires-3-clause-none
new_worker-requires-3-clause-none g c = c.split-c.ensures.none

pub new_worker-requires-4-clause-all : goal.new_worker-requires-4-clause-all
new_worker-requires-4-clause-all g c = c.in_ok-hub.ensures.shape

pub new_worker-requires-4-clause-own : goal.new_worker-requires-4-clause-own
new_worker-requires-4-clause-own g c = c.split-d.ensures.own

pub new_worker-requires-4-clause-none : goal.new_worker-requires-4-clause-none
new_worker-requires-4-clause-none g c = c.split-d.ensures.none

pub tally_on-requires-clause-may : goal.tally_on-requires-clause-may
tally_on-requires-clause-may g c κs within =
    let of = c.in_ok-hub.ensures in
    let n = c.requires.number in
    may_first _ _ _ _ c.requires.first
    (pass_fresh 1048576 c.args.p.now.n 0 c.in_ok-hub.hub c.split-d.new.pass of.shape n.some n.few
    (ap (has_tag 0) (c.split-d.ensures.tags ∙ c.split-c.ensures.tags ∙ c.split-b.ensures.tags ∙ c.split-a.ensures.tags) ∙ of.own.1)
    (ap (acts_of 0) (c.split-d.ensures.same ∙ c.split-c.ensures.same ∙ c.split-b.ensures.same ∙ c.split-a.ensures.same ∙ of.seen)))

pub tally_on-requires-clause-workers : goal.tally_on-requires-clause-workers
tally_on-requires-clause-workers g c κs within =
    let n = c.args.p.now.n in
    let h = c.requires.number in
    four_work n c.in_ok-hub.hub c.new_worker.result c.new_worker-2.result c.new_worker-3.result c.new_worker-4.result
    (c.new_worker.ensures.worker n h) (c.new_worker-2.ensures.worker n h) (c.new_worker-3.ensures.worker n h)
    (c.new_worker-4.ensures.worker n h)
