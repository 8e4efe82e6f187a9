use Rattle.permits.proofs.FillsGo.{uses_fresh}
use Rattle.cell_words.specs.Hubs.{seen_by}
use Rattle.floor_tests.proofs.KnownAtFirst.{pass_fresh, nothing_made}
use Rattle.floor_tests.proofs.permit_calls.at_once.new_worker.Goals as goal

pub returns : goal.returns
returns c = record {
  worker = λ n h. record {
    of = c.requires.own.0;
    uses = uses_fresh 0 n c.args.who _ (pass_fresh 1048576 n c.args.who c.args.hub.now c.args.pass c.requires.all h.some h.few c.requires.own.1
        (nothing_made c.args.who (seen_by c.args.pass).seen c.requires.none));
  };
}
