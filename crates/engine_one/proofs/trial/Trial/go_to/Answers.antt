use Rattle.engine_one.proofs.trial.Trial.go_to.Goals.{then-not-starts_with+in_ok-restart, else-not-starts_with, then-i-passed+in_ok-_polled, else-i-passed}
use Rattle.engine_one.proofs.trial.Trial.go_to.Goals as goal

pub loop-i-init : goal.loop-i-init
loop-i-init g c = elim c.if-not-starts_with.branch [
  | then-not-starts_with+in_ok-restart w ↦ rw w.self-is w.in_ok-restart.ensures
  | else-not-starts_with w ↦ rw w.self-is c.requires
]

pub loop-i-preserved : goal.loop-i-preserved
loop-i-preserved g c = elim c.if-i-passed.branch [
  | then-i-passed+in_ok-_polled w ↦ rw w.self-is w.in_ok-_polled.ensures
  | else-i-passed w ↦ rw w.self-is c.loop-i.invariant
]
