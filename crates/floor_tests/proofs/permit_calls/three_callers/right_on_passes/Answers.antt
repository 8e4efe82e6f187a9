use Rattle.std.proofs.Common.{ap, ◌∙◌, arith}
use Rattle.worded.specs.Views.{has_tag}
use Rattle.channel_model.specs.Histories.{acts_of}
use Rattle.cell_words.specs.Hubs.{seen_by}
use Rattle.permits.proofs.FillsGo.{uses_fresh}
use Rattle.floor_tests.proofs.KnownAtFirst.{pass_fresh, nothing_made}
use Rattle.floor_tests.proofs.permit_calls.three_callers.right_on_passes.Goals as goal

pub right_by-requires : goal.right_by-requires
right_by-requires c =
    let hub = c.in_ok-hub.hub in
    let of = c.in_ok-hub.ensures in
    record {
      fresh = record {
        of_a = c.split-c.ensures.of;
        of_b = c.split-b.ensures.own.0;
        of_c = c.split-c.ensures.own.0;
        a = pass_fresh 8 1 0 hub c.split-c.new.pass of.shape (omega arith) (omega arith)
            (ap (has_tag 0) (c.split-c.ensures.tags ∙ c.split-b.ensures.tags) ∙ of.own.1)
            (ap (acts_of 0) (c.split-c.ensures.same ∙ c.split-b.ensures.same ∙ of.seen));
        b = uses_fresh 0 1 1 _ (pass_fresh 8 1 1 hub c.split-b.result of.shape (omega arith) (omega arith) c.split-b.ensures.own.1
            (nothing_made 1 (seen_by c.split-b.result).seen c.split-b.ensures.none));
        c = uses_fresh 0 1 2 _ (pass_fresh 8 1 2 hub c.split-c.result of.shape (omega arith) (omega arith) c.split-c.ensures.own.1
            (nothing_made 2 (seen_by c.split-c.result).seen c.split-c.ensures.none));
      };
    }
