use Rattle.script_reader.specs.Scripts.{program_of}
use Rattle.log_check.proofs.Judging.{stands_made}
use Rattle.log_check.proofs.made.judged.Goals as goal

pub returns-in-Stands : goal.returns-in-Stands
returns-in-Stands g c =
    stands_made c.in_ok-v.v c.in-Stands.root (program_of c.args.script.now) c.as_slice.result.now c.args.text.items c.in-Stands.is
    c.as_slice.ensures.value c.in_ok-v.ensures
