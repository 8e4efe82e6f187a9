use Rattle.std.specs.Prelude.{◌<◌, refl}
use Rattle.std.proofs.Common.{sym, subst}
use Rattle.waiting.specs.declared.sinks.Flushed.TheVariants as flushed
use Rattle.waiting.specs.Stands.{HoldsAt}
use Rattle.waiting.specs.Sinks.{FlushStep}
use Rattle.waiting.proofs.sinks.ParcelSink.flush.Goals as goal

pub flush_at-requires-clause-wait : goal.flush_at-requires-clause-wait
flush_at-requires-clause-wait g c =
    let s = c.args.self.now in (subst (HoldsAt s.hub.now s.pass) c.in-Some.is s.held).0

pub flush_at-requires-clause-holds : goal.flush_at-requires-clause-holds
flush_at-requires-clause-holds g c =
    let s = c.args.self.now in (subst (HoldsAt s.hub.now s.pass) c.in-Some.is s.held).1

pub returns-in-None-clause-still : goal.returns-in-None-clause-still
returns-in-None-clause-still g c = (refl, (refl, (refl, refl), refl))

pub returns-in-None-clause-flushed : goal.returns-in-None-clause-flushed
returns-in-None-clause-flushed g c =
    let s = c.args.self.now in
    (subst (λ w. FlushStep w s.hub.now s.pass s.pass flushed.Done) (sym c.in-None.is) (refl, refl), c.in-None.is)

pub returns-in-Done-clause-still : goal.returns-in-Done-clause-still
returns-in-Done-clause-still g c = (refl, c.flush_at.ensures.same)

pub returns-in-Done-clause-flushed : goal.returns-in-Done-clause-flushed
returns-in-Done-clause-flushed g c =
    let s = c.args.self.now in
    (subst (λ w. FlushStep w s.hub.now s.pass c.flush_at.new.pass flushed.Done) (sym c.in-Some.is) c.in-Done.ensures.step, refl)

pub returns-in-Waits-clause-still : goal.returns-in-Waits-clause-still
returns-in-Waits-clause-still g c = (refl, c.flush_at.ensures.same)

pub returns-in-Waits-clause-flushed : goal.returns-in-Waits-clause-flushed
returns-in-Waits-clause-flushed g c =
    let s = c.args.self.now in
    (subst (λ w. FlushStep w s.hub.now s.pass c.flush_at.new.pass flushed.Waits) (sym c.in-Some.is) c.in-Waits.ensures.step, refl)

pub returns-in-Failed-clause-still : goal.returns-in-Failed-clause-still
returns-in-Failed-clause-still g c = (refl, c.flush_at.ensures.same)

pub returns-in-Failed-clause-flushed : goal.returns-in-Failed-clause-flushed
returns-in-Failed-clause-flushed g c =
    let s = c.args.self.now in (
      subst (λ w. FlushStep w s.hub.now s.pass c.flush_at.new.pass (flushed.Failed c.in-Failed.fault)) (sym c.in-Some.is)
          c.in-Failed.ensures.step,
      refl,
    )

pub invariant_of-self : goal.invariant_of-self
invariant_of-self g c = record {
  of = c.flush_at.ensures.of;
  low = subst (λ t. t < 63) (sym c.flush_at.ensures.same.0) c.args.self.now.low;
  held = tt;
}

pub invariant_of-self-in-Failed : goal.invariant_of-self-in-Failed
invariant_of-self-in-Failed g c = record {
  of = c.flush_at.ensures.of;
  low = subst (λ t. t < 63) (sym c.flush_at.ensures.same.0) c.args.self.now.low;
  held = tt;
}

pub invariant_of-self-in-Waits : goal.invariant_of-self-in-Waits
invariant_of-self-in-Waits g c = record {
  of = c.flush_at.ensures.of;
  low = subst (λ t. t < 63) (sym c.flush_at.ensures.same.0) c.args.self.now.low;
  held = subst (HoldsAt c.args.self.now.hub.now c.flush_at.new.pass) (sym c.in-Some.is)
      ((subst (HoldsAt c.args.self.now.hub.now c.args.self.now.pass) c.in-Some.is c.args.self.now.held).0, c.in-Waits.ensures.step.holds);
}
