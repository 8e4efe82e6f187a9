-- A fact of legality has one proof.
use Rattle.std.specs.Prelude.{ℕ, ◌==◌, ◌+◌, Bool, true, false, List, [], ◌∷◌, Option, Some, None, MatchBool}
use Rattle.std.specs.Coded.{×_prop, Unit-prop}
use Rattle.std.proofs.Props.{props}
use Rattle.channel_model.specs.declared.acts.Act.{Act}
use Rattle.channel_model.specs.declared.acts.Act.TheVariants.{Hand, Offer, Await, Take, Admit, Drop, Spurn, Drain, WakeClosed, Withdraw, Settle}
use Rattle.channel_model.specs.declared.acts.Entry.{Entry}
use Rattle.channel_model.specs.declared.acts.Settled.{Settled}
use Rattle.channel_model.specs.declared.acts.Settled.TheVariants as settled
use Rattle.channel_model.specs.declared.standing.Standing.{Standing}
use Rattle.channel_model.specs.declared.standing.Receiver.{Receiver}
use Rattle.channel_model.specs.declared.acts.Kind.{Kind}
use Rattle.channel_model.specs.declared.standing.Resolution.{Resolution}
use Rattle.co_base.specs.declared.names.WaitId.{WaitId}
use Rattle.channel_model.specs.Channels.{Shape, State, Wait, same_wait, start}
use Rattle.channel_model.specs.Effects.{after}
use Rattle.channel_model.specs.Outcomes.{IsOutcome}
use Rattle.channel_model.specs.Needs.{Needs, IsFirstOffer, IsOfferAt, IsFirstReceiver, MayBeAdmitted, MayName, JoinsWait, MaySettle, IsOpenOf}
use Rattle.channel_model.specs.Histories.{LegalFrom, Legal}

IsFirstReceiver-prop : (p : ℕ) (rs : List Receiver) → IsProp (IsFirstReceiver p rs)
IsFirstReceiver-prop p [] = hlevel props
IsFirstReceiver-prop p (r ∷ rs) = hlevel props

IsFirstOffer-prop : (p v : ℕ) (os : List Standing) → IsProp (IsFirstOffer p v os)
IsFirstOffer-prop p v [] = hlevel props
IsFirstOffer-prop p v (o ∷ os) = hlevel props

MatchBool-prop : (b : Bool) {P Q : Type 0} → IsProp P → IsProp Q → IsProp (MatchBool b P Q)
MatchBool-prop true p q = p
MatchBool-prop false p q = q

IsOfferAt-prop : (p v : ℕ) (os : List Standing) → IsProp (IsOfferAt p v os)
IsOfferAt-prop p v [] = hlevel props
IsOfferAt-prop p v (o ∷ os) = MatchBool-prop (o.place == p) (hlevel props) (IsOfferAt-prop p v os)

MayBeAdmitted-prop : (kind : Kind) (p n : ℕ) (os : List Standing) → IsProp (MayBeAdmitted kind p n os)
MayBeAdmitted-prop kind p n [] = hlevel props
MayBeAdmitted-prop kind p n (o ∷ os) = MatchBool-prop (o.place == p) (hlevel props) (MayBeAdmitted-prop kind p (n + 1) os)

JoinsWait-prop : (who k c : ℕ) (x : Option Wait) → IsProp (JoinsWait who k c x)
JoinsWait-prop who k c None = hlevel props
JoinsWait-prop who k c (Some x) = hlevel props

MayName-prop : (who k c p : ℕ) (w : WaitId) (s : State) → IsProp (MayName who k c p w s)
MayName-prop who k c p w s = MatchBool-prop (same_wait w (record { channel = c; place = p })) (hlevel props)
    (JoinsWait-prop who k c (s.waits w))

IsOutcome-prop : (outcome : Settled) (how : Option Resolution) → IsProp (IsOutcome outcome how)
IsOutcome-prop outcome None = hlevel props
IsOutcome-prop (settled.Value k v) (Some how) = hlevel props
IsOutcome-prop other (Some how) = hlevel props

IsOpenOf-prop : (who : ℕ) (x : Option Wait) → IsProp (IsOpenOf who x)
IsOpenOf-prop who None = hlevel props
IsOpenOf-prop who (Some x) = hlevel props

MaySettle-prop : (who : ℕ) (outcome : Settled) (x : Option Wait) → IsProp (MaySettle who outcome x)
MaySettle-prop who outcome None = hlevel props
MaySettle-prop who outcome (Some x) = hlevel (props, IsOutcome-prop)

Needs-prop : (shape : Shape) (s : State) (who : ℕ) (act : Act) → IsProp (Needs shape s who act)
Needs-prop shape s who (Hand c p v) = hlevel (props, IsFirstReceiver-prop)
Needs-prop shape s who (Offer c p v w k) = hlevel (props, MayName-prop)
Needs-prop shape s who (Await c p w k) = hlevel (props, MayName-prop)
Needs-prop shape s who (Take c p v) = hlevel (props, IsFirstOffer-prop)
Needs-prop shape s who (Admit c p) = hlevel (props, MayBeAdmitted-prop)
Needs-prop shape s who (Drop c p v) = hlevel (props, IsFirstOffer-prop)
Needs-prop shape s who (Spurn c p v) = hlevel (props, IsOfferAt-prop)
Needs-prop shape s who (Drain c p v) = hlevel (props, IsFirstOffer-prop)
Needs-prop shape s who (WakeClosed c p) = hlevel (props, IsFirstReceiver-prop)
Needs-prop shape s who (Withdraw w why) = IsOpenOf-prop who (s.waits w)
Needs-prop shape s who (Settle w outcome) = MaySettle-prop who outcome (s.waits w)
Needs-prop shape s who other = hlevel props

pub LegalFrom-prop : (shape : Shape) (s : State) (es : List Entry) → IsProp (LegalFrom shape s es)
unfolding LegalFrom
LegalFrom-prop shape s [] = Unit-prop
LegalFrom-prop shape s (e ∷ es) = ×_prop (Needs-prop shape s e.who e.act) (LegalFrom-prop shape (after s e.who e.act) es)

pub Legal-prop : (shape : Shape) (es : List Entry) → IsProp (Legal shape es)
Legal-prop shape es = LegalFrom-prop shape start es
