-- Names of waits, and the change of one wait.
use Rattle.std.specs.Prelude.{◌≡◌, ℕ, ◌==◌, Bool, true, false, ◌&&◌, Option, None, refl, if◌then◌else◌}
use Rattle.std.proofs.Common.{sym, ap, ◌∙◌, subst, arith}
use Rattle.std.proofs.lemmas.Bool.{eqb-true}
use Rattle.std.proofs.lemmas.Bool.Decides.{nat_tests}
use Rattle.co_base.specs.declared.names.WaitId.{WaitId}
use Rattle.channel_model.specs.Channels.{Wait, same_wait}
use Rattle.channel_model.specs.Effects.{put_wait}

pub same_wait-eq : (w v : WaitId) → same_wait w v ≡ true → w ≡ v
same_wait-eq w v e = both (w.channel == v.channel) (w.place == v.place) refl refl e
  where
    at_channel : ℕ → WaitId
    at_channel n = record { channel = n; place = w.place }

    at_place : ℕ → WaitId
    at_place n = record { channel = v.channel; place = n }

    both : (a b : Bool) → (w.channel == v.channel) ≡ a → (w.place == v.place) ≡ b → (a && b) ≡ true → w ≡ v
    both true true p q e = ap at_channel (eqb-true w.channel v.channel p) ∙ ap at_place (eqb-true w.place v.place q)
    both true false p q e = cc
    both false b p q e = cc

pub same_wait-refl : (w : WaitId) → same_wait w w ≡ true
same_wait-refl w = grind (arith, nat_tests)

pub at_wait : (w : WaitId) (x : Option Wait) (waits : WaitId → Option Wait) → put_wait w x waits w ≡ x
at_wait w x waits = ap (λ b. if b then x else waits w) (same_wait-refl w)

-- whatever P says of a wait that is changed at w alone
pub one_change : (P : Option Wait → Type 0) (waits : WaitId → Option Wait) (w v : WaitId) (f : Option Wait → Option Wait)
    → (P (waits v) → P (f (waits v))) → P (waits v) → P (put_wait w (f (waits w)) waits v)
one_change P waits w v f k h = by_test (same_wait w v) refl
  where
    by_test : (b : Bool) → same_wait w v ≡ b → P (if b then f (waits w) else waits v)
    by_test true e = subst (λ u. P (f (waits u))) (sym (same_wait-eq w v e)) (k h)
    by_test false e = h

-- a wait that did not begin does not begin by a change of another
pub put_none : (waits : WaitId → Option Wait) (w v : WaitId) (f : Option Wait → Option Wait) → f None ≡ None → waits v ≡ None
    → put_wait w (f (waits w)) waits v ≡ None
put_none waits w v f k e = by_test (same_wait w v) refl
  where
    by_test : (b : Bool) → same_wait w v ≡ b → (if b then f (waits w) else waits v) ≡ None
    by_test true t = ap f (ap waits (same_wait-eq w v t) ∙ e) ∙ k
    by_test false t = e
