use Rattle.std.specs.Prelude.{◌^◌}
use Rattle.std.proofs.Common.{ap, ◌∙◌}
use Rattle.std.specs.Int.Bits.{bit_or}
use Rattle.parcel_channel.proofs.TagBits.{one_bit}
use Rattle.parcel_channel.proofs.numbers.with_tag.Goals as goal

pub returns : goal.returns
returns c =
    ap (λ n. bit_or c.args.set n) (one_bit c.bit_of-bit.result c.bit_of-bit.ensures.few ∙ ap (λ n. 2 ^ n) c.bit_of-bit.ensures.bit)
