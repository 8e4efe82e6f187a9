use Rattle.command_line.proofs.Answering.{too_long-refused, too_long-unspelled}
use Rattle.command_line.proofs.input.too_long.Goals as goal

pub returns : goal.returns
returns c = λ input e. record {
  fault = _;
  refused = too_long-refused input e;
  no_script = too_long-unspelled input e;
  is_line =
      c.in_ok-line.ensures;
}
