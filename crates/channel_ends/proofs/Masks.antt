-- The bit of a tag.
use Rattle.std.specs.Prelude.{◌≡◌, ℕ, ◌*◌, ◌%◌, ◌^◌, ◌<◌}
use Rattle.ring_channel.proofs.Bits as bits

pub one_bit : (t : ℕ) → t < 64 → 1 * 2 ^ t % 2 ^ 64 ≡ 2 ^ t
one_bit t lt = bits.one_bit t lt
