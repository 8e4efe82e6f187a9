-- Who looks at the slot of the place that one who waits waits for: what it may do, and what it has seen.
use Rattle.std.specs.Prelude.{◌≡◌, ℕ, ◌+◌, ◌*◌, ◌%◌, ◌<◌, ◌≤◌, Bool, false}
use Rattle.std.proofs.Common.{sym, ap, ◌∙◌, subst}
use Rattle.ring_channel.specs.declared.act.RingSide.{RingSide}
use Rattle.ring_channel.specs.declared.act.WaitStep.TheVariants.{NothingThere}
use Rattle.ring_channel.specs.Seen.{Sat, now_in, IsSeated}
use Rattle.ring_channel.specs.Served.{MayGo}
use Rattle.ring_channel.specs.Answers.{AtMoment}
use Rattle.ring_channel.specs.Looks.{Does, MadeIf, seen_if}
use Rattle.ring_channel.proofs.MayGoOn.{came_by, front, least, loaded_else}
use Rattle.ring_channel.proofs.WaitsTold.{does_if, seated_does}

module _ {T : Type 0} where
  -- the stamp was looked at of the slot of the place p, which `low` tells to be too low: the seat after it
  pub record SlotLooked (n p found : ℕ) (low : Bool) (d : RingSide) (a r : Sat T) : Type 0 where
    pub did : Does n d (seen_if low NothingThere) a r
    pub seat : IsSeated n r
    pub came : low ≡ false → least d p ≤ found → AtMoment n (λ s. MayGo n s d) a.0 r.0

  -- the step tells it in its own words: of the ring's key, and of the front that the seat had seen
  pub slot_looked : (low : ℕ → ℕ → Bool) (n slots p found : ℕ) (d : RingSide) (a r : Sat T) → 0 < n → slots ≡ n → IsSeated n a
      → p ≡ front (now_in n a.0) d
      → MadeIf (low found (2 * front (now_in a.0.key a.0) d)) a.0.key (32 + p % slots) found d NothingThere a r
      → SlotLooked n p found (low found (2 * p)) d a r
  slot_looked low n slots p found d a r pos same seat is told = record {
    did = did;
    seat = seated_does n d (seen_if b NothingThere) a r seat did;
    came = λ high le. came_by n found p d a r pos (loaded_else b n (32 + p % n) found d NothingThere a r high made) is le;
  }
    where
      b : Bool
      b = low found (2 * p)

      here : p ≡ front (now_in a.0.key a.0) d
      here = is ∙ ap (λ k. front (now_in k a.0) d) (sym seat.key)

      made : MadeIf b n (32 + p % n) found d NothingThere a r
      made = subst (λ k. MadeIf b n (32 + p % k) found d NothingThere a r) same
          (subst (λ k. MadeIf b k (32 + p % slots) found d NothingThere a r) seat.key
          (subst (λ q. MadeIf (low found (2 * q)) a.0.key (32 + p % slots) found d NothingThere a r) (sym here) told))

      did : Does n d (seen_if b NothingThere) a r
      did = does_if b n (32 + p % n) found d NothingThere a r seat made
