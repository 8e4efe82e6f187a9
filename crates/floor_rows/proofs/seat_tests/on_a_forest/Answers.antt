use Rattle.std.specs.Prelude.{◌≡◌, true, List, [], is_some, refl}
use Rattle.std.proofs.Common.{sym, ap, ◌∙◌, subst}
use Rattle.job_model.specs.declared.acts.JobEntry.{JobEntry}
use Rattle.job_model.specs.Histories.{replay, replay_from}
use Rattle.job_model.specs.Floors.{MayCall}
use Rattle.floor_rows.proofs.seat_tests.on_a_forest.Goals as goal

-- the root is attached from the beginning
root_attached : is_some (replay [] 0) ≡ true
unfolding replay_from
root_attached = refl

pub child_seen-requires-clause-main : goal.child_seen-requires-clause-main
child_seen-requires-clause-main g c = subst (MayCall 0 0) (sym c.split-child.ensures.same) (record {
  caller = c.requires.own.1;
  attached = ap (λ (l : List JobEntry). is_some (replay l 0)) c.requires.fresh.seen ∙ root_attached;
})
