use Rattle.std.specs.Prelude.{ℕ}
use Rattle.std.proofs.Common.{ap, ◌∙◌, sym, subst}
use Rattle.worded.specs.Views.{has_tag}
use Rattle.channel_model.specs.Histories.{acts_of}
use Rattle.cell_words.specs.Hubs.{seen_by}
use Rattle.cell_calls.specs.HubFloors.{hub_floor}
use Rattle.permits.specs.Parts.{MayFill}
use Rattle.permits.proofs.FillsGo.{uses_fresh}
use Rattle.library_examples.proofs.FreshPasses.{pass_fresh, nothing_made}
use Rattle.library_examples.proofs.three_passes.new_passes.Goals as goal

pub fill_by-requires-clause-may : goal.fill_by-requires-clause-may
fill_by-requires-clause-may c =
    let of = c.in_ok-hub.ensures in
    subst (λ (d : ℕ). MayFill d c.args.permits.now.n 0 (hub_floor c.in_ok-hub.hub c.split-c.new.pass)) (sym c.requires.first)
    (pass_fresh 16 c.args.permits.now.n 0 c.in_ok-hub.hub c.split-c.new.pass of.shape c.requires.some c.requires.few
    (ap (has_tag 0) (c.split-c.ensures.tags ∙ c.split-b.ensures.tags ∙ c.split-a.ensures.tags) ∙ of.own.1)
    (ap (acts_of 0) (c.split-c.ensures.same ∙ c.split-b.ensures.same ∙ c.split-a.ensures.same ∙ of.seen)))

pub returns : goal.returns
returns c =
    let n = c.args.permits.now.n in
    let hub = c.in_ok-hub.hub in
    let s = c.in_ok-hub.ensures.shape in
    let some = c.requires.some in
    let few = c.requires.few in
    record {
      uses = record {
        of_a = c.split-a.ensures.own.0;
        of_b = c.split-b.ensures.own.0;
        of_c = c.split-c.ensures.own.0;
        a = uses_fresh 0 n 1 _ (pass_fresh 16 n 1 hub c.split-a.result s some few c.split-a.ensures.own.1
            (nothing_made 1 (seen_by c.split-a.result).seen c.split-a.ensures.none));
        b = uses_fresh 0 n 2 _ (pass_fresh 16 n 2 hub c.split-b.result s some few c.split-b.ensures.own.1
            (nothing_made 2 (seen_by c.split-b.result).seen c.split-b.ensures.none));
        c = uses_fresh 0 n 3 _ (pass_fresh 16 n 3 hub c.split-c.result s some few c.split-c.ensures.own.1
            (nothing_made 3 (seen_by c.split-c.result).seen c.split-c.ensures.none));
      };
    }
