use Rattle.std.specs.Prelude.{ℕ}
use Rattle.std.proofs.Common.{ap, ◌∙◌, arith}
use Rattle.worded.specs.Views.{has_tag}
use Rattle.channel_model.specs.Histories.{acts_of}
use Rattle.cell_words.specs.Hubs.{seen_by}
use Rattle.permits.proofs.FillsGo.{uses_fresh}
use Rattle.floor_tests.proofs.KnownAtFirst.{pass_fresh, nothing_made}
use Rattle.bridge_tests.proofs.permits_wake.new_mutex.Goals as goal

pub returns-clause-fill : goal.returns-clause-fill
returns-clause-fill c =
    let of = c.in_ok-hub.ensures in
    pass_fresh 16 1 0 c.in_ok-hub.hub c.split-two.new.pass of.shape (omega arith) (omega arith)
    (ap (has_tag 0) (c.split-two.ensures.tags ∙ c.split-one.ensures.tags) ∙ of.own.1)
    (ap (acts_of 0) (c.split-two.ensures.same ∙ c.split-one.ensures.same ∙ of.seen))

pub returns-clause-one : goal.returns-clause-one
returns-clause-one c = (
  c.split-one.ensures.own.0,
  uses_fresh 0 1 1 _ (pass_fresh 16 1 1 c.in_ok-hub.hub c.split-one.result c.in_ok-hub.ensures.shape (omega arith) (omega arith)
      c.split-one.ensures.own.1 (nothing_made 1 (seen_by c.split-one.result).seen c.split-one.ensures.none)),
)

pub returns-clause-two : goal.returns-clause-two
returns-clause-two c = (
  c.split-two.ensures.own.0,
  uses_fresh 0 1 2 _ (pass_fresh 16 1 2 c.in_ok-hub.hub c.split-two.result c.in_ok-hub.ensures.shape (omega arith) (omega arith)
      c.split-two.ensures.own.1 (nothing_made 2 (seen_by c.split-two.result).seen c.split-two.ensures.none)),
)
