-- Who calls, and who waits: what several steps come to.
use Rattle.std.specs.Prelude.{◌≡◌, ℕ, ◌%◌, Bool, true, false, List, [], ◌∷◌, ◌++◌, Option, Some, None, refl}
use Rattle.std.proofs.Common.{sym, arith, eqb, eq-eqb}
use mathlib.Core.List.{IsPrefix}
use Rattle.ring_channel.specs.declared.act.RingSide.{RingSide}
use Rattle.ring_channel.specs.declared.act.WaitStep.{WaitStep}
use Rattle.ring_channel.specs.declared.act.WaitStep.TheVariants.{Stand, Leave, Call, NoneWaits, NothingThere, GoesOn}
use Rattle.ring_channel.specs.declared.answers.Called.{Called}
use Rattle.ring_channel.specs.declared.answers.Called.TheVariants.{Nobody, One, All}
use Rattle.ring_channel.specs.Seen.{Sat}
use Rattle.ring_channel.specs.Looks.{seen_if, last_of, CallSteps, Does, Looked, LooksOn, Named, NamesAll, MayName, Waited}
use Rattle.ring_channel.specs.Answers.{AtMoment}
use Rattle.ring_channel.specs.Served.{MayGo}
use Rattle.ring_channel.proofs.WaitsTold.{does_then, moment_later, moment_until}

even_of : (t : ℕ) → (t % 2 ≡ 1 → ⊥) → t % 2 ≡ 0
even_of t ne = omega (arith, ne)

pub even_tail : (t : ℕ) → (t % 2 ≡ 1 → ⊥) → eqb (t % 2) 0 ≡ true
even_tail t ne = eq-eqb (t % 2) 0 (even_of t ne)

module _ {T : Type 0} where
  does_on : (n : ℕ) (d : RingSide) (ws : List WaitStep) (a r : Sat T) → Does n d ws a r → IsPrefix a.0.seen r.0.seen
  does_on n d ws a r x = (x.adds.rest, sym x.adds.now)

  -- a look at the tail, a load, and a look at a slot
  pub looked_by : (n : ℕ) (d : RingSide) (b c : Bool) (a e f r : Sat T) → b ≡ true → Does n d (seen_if b GoesOn) a e → Does n d [] e f
      → Does n d (seen_if c NothingThere) f r → (c ≡ false → AtMoment n (λ s. MayGo n s d) f.0 r.0) → Looked n d a r c
  looked_by n d true true a e f r is x y z go = does_then n d (GoesOn ∷ []) (NothingThere ∷ []) a f r
      (does_then n d (GoesOn ∷ []) [] a e f x y) z
  looked_by n d true false a e f r is x y z go = let first = does_then n d (GoesOn ∷ []) [] a e f x y in (
    true,
    does_then n d (GoesOn ∷ []) [] a f r first z,
    moment_later n (λ s. MayGo n s d) a.0 f.0 r.0 (does_on n d (GoesOn ∷ []) a f first) (go refl),
  )
  looked_by n d false c a e f r is x y z go = cc

  pub looked_at : (n : ℕ) (d : RingSide) (b c : Bool) (a e r : Sat T) → b ≡ true → Does n d (seen_if b GoesOn) a e
      → Does n d (seen_if c NothingThere) e r → (c ≡ false → AtMoment n (λ s. MayGo n s d) e.0 r.0) → Looked n d a r c
  looked_at n d true true a e r is x z go = does_then n d (GoesOn ∷ []) (NothingThere ∷ []) a e r x z
  looked_at n d true false a e r is x z go = (
    true,
    does_then n d (GoesOn ∷ []) [] a e r x z,
    moment_later n (λ s. MayGo n s d) a.0 e.0 r.0 (does_on n d (GoesOn ∷ []) a e x) (go refl),
  )
  looked_at n d false c a e r is x z go = cc

  names_later : (n : ℕ) (d : RingSide) (called : Called) (a b c : Sat T) → IsPrefix a.0.seen b.0.seen → NamesAll n d called b.0 c.0
      → NamesAll n d called a.0 c.0
  names_later n d (All m) a b c h k = moment_later n (λ s. (s.lines d).mask ≡ m) a.0 b.0 c.0 h k
  names_later n d other a b c h k = tt

  -- nothing was done before
  pub named_then : (n : ℕ) (d : RingSide) (called : Called) (a b c : Sat T) → Does n d [] a b → Named n d b c called → Named n d a c called
  named_then n d called a b c x y = (
    does_then n d [] (last_of called ∷ []) a b c x y.0,
    names_later n d called a b c (does_on n d [] a b x) y.1,
  )

  pub may_name_then : (n : ℕ) (d : RingSide) (called : Option Called) (a b c : Sat T) → Does n d [] a b → MayName n d b c called
      → MayName n d a c called
  may_name_then n d None a b c x y = does_then n d [] [] a b c x y
  may_name_then n d (Some called) a b c x y = named_then n d called a b c x y

  pub nobody_seen : (n : ℕ) (d : RingSide) (b : Bool) (a r : Sat T) → b ≡ true → Does n d (seen_if b NoneWaits) a r → Named n d a r Nobody
  nobody_seen n d true a r is x = (x, tt)
  nobody_seen n d false a r is x = cc

  pub one_called : (n : ℕ) (d : RingSide) (b : Bool) (t : ℕ) (a r : Sat T) → b ≡ true → Does n d (seen_if b (Call t)) a r
      → Named n d a r (One t)
  one_called n d true t a r is x = (x, tt)
  one_called n d false t a r is x = cc

  -- who saw somebody, or lost the exchange, made no entry
  pub no_step : (n : ℕ) (d : RingSide) (b : Bool) (w : WaitStep) (a r : Sat T) → b ≡ false → Does n d (seen_if b w) a r → Does n d [] a r
  no_step n d true w a r is x = cc
  no_step n d false w a r is x = x

  pub none_waits : (n : ℕ) (d : RingSide) (b : Bool) (a r : Sat T) → b ≡ true → Does n d (seen_if b NoneWaits) a r → LooksOn n d a r Nobody
  none_waits n d true a r is x = record { steps = NoneWaits ∷ []; how = CallSteps.nobody_waits; does = x; all = tt }
  none_waits n d false a r is x = cc

  -- somebody waits, it waits no more itself, and there is nothing for others
  pub left_nothing : (n : ℕ) (d : RingSide) (a b e r : Sat T) (c : Bool) → c ≡ true → Does n d [] a b → Does n d (Leave ∷ []) b e
      → Looked n d e r c → LooksOn n d a r Nobody
  left_nothing n d a b e r true is x y z = record {
    steps = Leave ∷ GoesOn ∷ NothingThere ∷ [];
    how = CallSteps.nothing_there;
    does = does_then n d [] (Leave ∷ GoesOn ∷ NothingThere ∷ []) a b r x
        (does_then n d (Leave ∷ []) (GoesOn ∷ NothingThere ∷ []) b e r y z);
    all = tt;
  }
  left_nothing n d a b e r false is x y z = cc

  -- somebody waits, it waits no more itself, and calls
  pub left_calls : (n : ℕ) (d : RingSide) (called : Called) (a b e f r : Sat T) (c : Bool) → c ≡ false → Does n d [] a b
      → Does n d (Leave ∷ []) b e → Looked n d e f c → Named n d f r called → LooksOn n d a r called
  left_calls n d called a b e f r true is x y z k = cc
  left_calls n d called a b e f r false is x y z k =
      let last : List WaitStep = last_of called ∷ [] in
      let all = does_then n d (Leave ∷ seen_if z.0 GoesOn) last a f r (does_then n d [] (Leave ∷ seen_if z.0 GoesOn) a b f x
      (does_then n d (Leave ∷ []) (seen_if z.0 GoesOn) b e f y z.1)) k.0 in
      record {
        steps = Leave ∷ seen_if z.0 GoesOn ++ last;
        how = CallSteps.it_calls z.0 called;
        does = all;
        all = names_later n d called a f r
            (does_on n d _ a f (does_then n d [] (Leave ∷ seen_if z.0 GoesOn) a b f x
            (does_then n d (Leave ∷ []) (seen_if z.0 GoesOn) b e f y z.1))) k.1;
      }

  pub waits_now : (n : ℕ) (d : RingSide) (a b r : Sat T) (c : Bool) → c ≡ true → Does n d (Stand ∷ []) a b → Looked n d b r c
      → Waited n d a r true
  waits_now n d a b r true is x y = does_then n d (Stand ∷ []) (GoesOn ∷ NothingThere ∷ []) a b r x y
  waits_now n d a b r false is x y = cc

  pub waits_not : (n : ℕ) (d : RingSide) (a b e r : Sat T) (c : Bool) → c ≡ false → Does n d (Stand ∷ []) a b → Looked n d b e c
      → Does n d (Leave ∷ []) e r → Waited n d a r false
  waits_not n d a b e r true is x y z = cc
  waits_not n d a b e r false is x y z = record {
    stood = b;
    stands = x;
    may_go = moment_until n (λ s. MayGo n s d) b.0 e.0 r.0 (does_on n d (Leave ∷ []) e r z) y.2;
    seen = y.0;
    leaves = does_then n d (seen_if y.0 GoesOn) (Leave ∷ []) b e r y.1 z;
  }
