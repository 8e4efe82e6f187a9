-- A pass after the word of a counter was loaded.
use Rattle.std.specs.Prelude.{◌≡◌, ℕ, ◌+◌, ◌*◌, ◌%◌, Bool, true, false, [], refl}
use Rattle.std.proofs.Common.{◌∙◌, ap, sym, subst, arith}
use Rattle.worded.specs.Exchanges.{Loaded}
use Rattle.ring_channel.specs.Rings.{Legal, maker}
use Rattle.ring_channel.specs.Tables.{bit, Fits, FitsIn}
use Rattle.ring_channel.specs.Seen.{Sat, first_tag, own_tag, now_in, IsIdle, IsSeated, SameTags}
use Rattle.ring_channel.specs.Answers.{Adds}
use Rattle.ring_channel.proofs.NobodyHolds.{idle_none}
use Rattle.ring_channel.proofs.StoreTells.{adds_sees, sees_of, fits_now, seated_loaded}

odd_tail : (m p : ℕ) → m ≡ 2 * p + 1 → m % 2 ≡ 1
odd_tail m p e = omega (arith, e)

pub open_if : (m p : ℕ) (b : Bool) → m ≡ 2 * p + bit b → (m % 2 ≡ 1 → ⊥) → b ≡ false
open_if m p true e even = absurd (even (odd_tail m p e))
open_if m p false e even = refl

module _ {T : Type 0} where
  -- the seat of a pass of a ring of k slots, after it read the word
  pub record CounterRead (k word m : ℕ) (a r : Sat T) : Type 0 where
    pub key : r.0.key ≡ k
    pub seated : IsSeated r.0.key r
    pub idle : IsIdle r.0.key r.0
    pub adds : Adds (own_tag a.0) [] a.0 r.0
    pub same : (own_tag r.0 ≡ own_tag a.0) × SameTags a.0 r.0
    pub found : FitsIn (now_in k r.0) word m

  pub counter_read : (n k word m : ℕ) (a r : Sat T) → n ≡ k → a.0.key ≡ k → IsSeated a.0.key a → IsIdle a.0.key a.0
      → Loaded (Legal n) (Fits n) maker word m a.0 r.0 → CounterRead k word m a r
  counter_read n k word m a r many key seat idle l = record {
    key = now.key ∙ many;
    seated = subst (λ z. IsSeated z r) (sym now.key) now;
    idle = subst (λ z. IsIdle z r.0) (sym now.key) (idle_none n (own_tag a.0) a.0 r.0 (subst (λ z. IsIdle z a.0) is idle) adds);
    adds = adds;
    same = (ap first_tag adds.tags, (adds.tags, adds.giving));
    found = subst (λ z. FitsIn (now_in z r.0) word m) many (fits_now n word m a.0 r.0 l);
  }
    where
      is : a.0.key ≡ n
      is = key ∙ sym many

      seat_n : IsSeated n a
      seat_n = subst (λ z. IsSeated z a) is seat

      now : IsSeated n r
      now = seated_loaded n word m a r seat_n l

      adds : Adds (own_tag a.0) [] a.0 r.0
      adds = adds_sees (own_tag a.0) a.0 r.0 seat_n.own (sees_of n word m a.0 r.0 seat_n.idle l)
