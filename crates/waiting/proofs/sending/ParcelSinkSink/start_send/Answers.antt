use Rattle.std.specs.Prelude.{◌<◌, refl}
use Rattle.std.proofs.Common.{inl, sym, subst}
use Rattle.waiting.specs.Stands.{HoldsAt}
use Rattle.waiting.proofs.sending.ParcelSinkSink.start_send.Goals as goal

pub returns-in-Sent-clause-started : goal.returns-in-Sent-clause-started
returns-in-Sent-clause-started g c = inl
    (record { to = c.in-Sent.to; admitted = c.in-Sent.admitted; answer = c.in-Sent.ensures.answer }, c.requires.ready.1)

pub returns-in-Sent-clause-still : goal.returns-in-Sent-clause-still
returns-in-Sent-clause-still g c = (refl, c.send.ensures.same)

pub returns-in-Waits-clause-still : goal.returns-in-Waits-clause-still
returns-in-Waits-clause-still g c = (refl, c.send.ensures.same)

pub returns-in-Closed-clause-started : goal.returns-in-Closed-clause-started
returns-in-Closed-clause-started g c = (c.in-Closed.ensures.answer, c.requires.ready.1)

pub returns-in-Closed-clause-still : goal.returns-in-Closed-clause-still
returns-in-Closed-clause-still g c = (refl, c.send.ensures.same)

pub returns-in-Spent-clause-started : goal.returns-in-Spent-clause-started
returns-in-Spent-clause-started g c = (c.in-Spent.ensures.answer, c.requires.ready.1)

pub returns-in-Spent-clause-still : goal.returns-in-Spent-clause-still
returns-in-Spent-clause-still g c = (refl, c.send.ensures.same)

pub returns-in-NoParcel-clause-started : goal.returns-in-NoParcel-clause-started
returns-in-NoParcel-clause-started g c = (c.in-NoParcel.ensures.answer, c.requires.ready.1)

pub returns-in-NoParcel-clause-still : goal.returns-in-NoParcel-clause-still
returns-in-NoParcel-clause-still g c = (refl, c.send.ensures.same)

pub returns-in-Lost-clause-started : goal.returns-in-Lost-clause-started
returns-in-Lost-clause-started g c = (c.in-Lost.ensures.answer, c.requires.ready.1)

pub returns-in-Lost-clause-still : goal.returns-in-Lost-clause-still
returns-in-Lost-clause-still g c = (refl, c.send.ensures.same)

pub invariant_of-self : goal.invariant_of-self
invariant_of-self g c = record {
  of = c.send.ensures.of;
  low = subst (λ t. t < 63) (sym c.send.ensures.same.0) c.args.self.now.low;
  held = subst (HoldsAt c.args.self.now.hub.now c.send.new.pass) (sym c.requires.ready.1) tt;
}

pub invariant_of-self-in-Lost : goal.invariant_of-self-in-Lost
invariant_of-self-in-Lost g c = record {
  of = c.send.ensures.of;
  low = subst (λ t. t < 63) (sym c.send.ensures.same.0) c.args.self.now.low;
  held = subst (HoldsAt c.args.self.now.hub.now c.send.new.pass) (sym c.requires.ready.1) tt;
}
