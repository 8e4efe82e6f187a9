-- A clause of a select has another channel and another number than those before it.
use Rattle.std.specs.Prelude.{◌≡◌, ℕ, ◌+◌, ◌<◌, ◌≤◌, ◌==◌, ◌||◌, zero, suc, Bool, true, false, List, [], ◌∷◌, length, take, Option, Some, None, slice_get, refl}
use Rattle.std.specs.List.{list_any}
use Rattle.std.proofs.Common.{ap, ◌∙◌, arith}
use Rattle.std.proofs.lemmas.Bool.Decides.{nat_tests}
use Rattle.co_base.specs.declared.names.WaitId.{WaitId}
use Rattle.channel_model.specs.Channels.{Wait}
use Rattle.channel_model.specs.Needs.{JoinsWait, began_by_select}
use Rattle.channel_model.specs.Registers.{MayRegister}
use Rattle.call_meaning.specs.Seen.{SeenOnChannels, state_in}
use Rattle.call_meaning.specs.ChannelCalls.{Call, channel_of}
use Rattle.select_calls.specs.Parts.{HasClauses, numbered, MayPlaceAt}
use Rattle.select_calls.proofs.ClausesAt.{length_take}

-- what stands before a place of a list
pub taken_at : {A : Type 0} (xs : List A) (n i : ℕ) (x : A) → slice_get (take n xs) i ≡ Some x → (i < n) × (slice_get xs i ≡ Some x)
taken_at xs zero i x e = cc
taken_at [] (suc n) i x e = cc
taken_at (y ∷ xs) (suc n) zero x e = (omega arith, e)
taken_at (y ∷ xs) (suc n) (suc i) x e = let h = taken_at xs n i x e in (omega (arith, h.0), h.1)

none_first : (c d : ℕ) (b : Bool) → (c ≡ d → ⊥) → b ≡ false → ((c == d) || b) ≡ false
none_first c d b n e = grind (arith, nat_tests)

pub no_channel : (m c : ℕ) (xs : List Call) → ((i : ℕ) (x : Call) → slice_get xs i ≡ Some x → channel_of x ≡ c → ⊥)
    → list_any (λ (y : ℕ × ℕ). y.1 == c) (numbered m xs) ≡ false
no_channel m c [] f = refl
no_channel m c (x ∷ xs) f = none_first (channel_of x) c _ (f 0 x refl) (no_channel (m + 1) c xs (λ i y e. f (suc i) y e))

pub no_number : (m k : ℕ) (xs : List Call) → m + length xs ≤ k → list_any (λ (y : ℕ × ℕ). y.0 == k) (numbered m xs) ≡ false
no_number m k [] le = refl
no_number m k (x ∷ xs) le = none_first m k _ (λ e. absurd (omega (arith, le, e))) (no_number (m + 1) k xs (omega (arith, le)))

by_select : (m : ℕ) (xs : List Call) → 0 < m → 0 < length xs → began_by_select (numbered m xs) ≡ true
by_select m [] lt some = absurd (omega (arith, some))
by_select m (x ∷ xs) lt some = grind (arith, nat_tests)

joins : (who n c : ℕ) (cs : List (ℕ × ℕ)) (x : Option Wait) → HasClauses who cs x → began_by_select cs ≡ true
    → list_any (λ (y : ℕ × ℕ). y.1 == c) cs ≡ false → list_any (λ (y : ℕ × ℕ). y.0 == n) cs ≡ false → 1 ≤ n → n ≤ 7 → JoinsWait who n c x
joins who n c cs None h a b d lo hi = absurd h
joins who n c cs (Some x) h a b d lo hi = record {
  own = h.0;
  select = ap began_by_select h.1 ∙ a;
  unsettled = h.2;
  other_channel = ap (list_any (λ (y : ℕ × ℕ). y.1 == c)) h.1 ∙ b;
  other_clause = ap (list_any (λ (y : ℕ × ℕ). y.0 == n)) h.1 ∙ d;
  low = lo;
  high = hi;
}

pub may_register : {calls : List Call} {n : ℕ} {main : Option WaitId} {seen : SeenOnChannels} {call : Call} → MayPlaceAt calls n main seen
    → slice_get calls n ≡ Some call → MayRegister seen.who (n + 1) (channel_of call) main seen.floor
may_register {calls} {n} {main = None} {seen} {call} m e = (omega arith, let f = m.may.few in let t = m.there in omega (arith, f, t))
may_register {calls} {n} {main = Some w} {seen} {call} m e =
    let some : 0 < n = m.begun w refl in
    let long : length (take n calls) ≡ n = length_take calls n call e in
    joins seen.who (n + 1) (channel_of call) (numbered 1 (take n calls)) ((state_in seen).waits w) m.placed
    (by_select 1 (take n calls) (omega arith) (omega (arith, some, long)))
    (no_channel 1 (channel_of call) (take n calls) (λ i x f g. let t = taken_at calls n i x f
    in let same : i ≡ n = m.may.apart i n x call t.1 e g in absurd (omega (arith, t.0, same))))
    (no_number 1 (n + 1) (take n calls) (omega (arith, long))) (omega arith) (let f = m.may.few in let t = m.there in omega (arith, f, t))
