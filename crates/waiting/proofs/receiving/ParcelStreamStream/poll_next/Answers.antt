use Rattle.std.specs.Prelude.{◌≡◌, ◌<◌, Bool, false, refl}
use Rattle.std.proofs.Common.{sym, subst}
use Rattle.waiting.specs.declared.streams.ParcelStream.{ParcelStream}
use Rattle.waiting.specs.Streams.{IsOverBy}
use Rattle.waiting.proofs.receiving.ParcelStreamStream.poll_next.Goals as goal

-- a stream that had not ended is over if it saw the close
over_now : {T : Type 0} (b : Bool) (old new : ParcelStream T) → b ≡ false → IsOverBy false old new → IsOverBy b old new
over_now b old new e h = subst (λ x. IsOverBy x old new) (sym e) h

pub returns-in-Closed-clause-polled : goal.returns-in-Closed-clause-polled
returns-in-Closed-clause-polled g c =
    (over_now _ _ _ c.if-self.false (c.in-Closed._v, c.in-Closed.ensures.step, refl), refl)

pub returns-in-Value-clause-polled : goal.returns-in-Value-clause-polled
returns-in-Value-clause-polled g c = (c.in-Value.ensures.step, refl, c.if-self.false)

pub returns-in-Fault-clause-polled : goal.returns-in-Fault-clause-polled
returns-in-Fault-clause-polled g c = (c.in-Fault.ensures.step, refl, refl)

pub returns-in-Value-clause-still : goal.returns-in-Value-clause-still
returns-in-Value-clause-still g c = (refl, c.step.ensures.same)

pub returns-in-Closed-clause-still : goal.returns-in-Closed-clause-still
returns-in-Closed-clause-still g c = (refl, c.step.ensures.same)

pub returns-in-Fault-clause-still : goal.returns-in-Fault-clause-still
returns-in-Fault-clause-still g c = (refl, c.step.ensures.same)

pub returns-in-Waits-clause-still : goal.returns-in-Waits-clause-still
returns-in-Waits-clause-still g c = (refl, c.step.ensures.same)

pub invariant_of-self : goal.invariant_of-self
invariant_of-self g c = record {
  of = c.step.ensures.of;
  low = subst (λ t. t < 63) (sym c.step.ensures.same.0) c.args.self.now.low;
  held =
      tt;
}

pub invariant_of-self-in-Closed : goal.invariant_of-self-in-Closed
invariant_of-self-in-Closed g c = record {
  of = c.step.ensures.of;
  low =
      subst (λ t. t < 63) (sym c.step.ensures.same.0) c.args.self.now.low;
  held = tt;
}

pub invariant_of-self-in-Fault : goal.invariant_of-self-in-Fault
invariant_of-self-in-Fault g c = record {
  of = c.step.ensures.of;
  low = subst (λ t. t < 63) (sym c.step.ensures.same.0) c.args.self.now.low;
  held = tt;
}

pub invariant_of-self-in-Waits : goal.invariant_of-self-in-Waits
invariant_of-self-in-Waits g c = record {
  of = c.step.ensures.of;
  low = subst (λ t. t < 63) (sym c.step.ensures.same.0) c.args.self.now.low;
  held = c.in-Waits.ensures.held;
}
