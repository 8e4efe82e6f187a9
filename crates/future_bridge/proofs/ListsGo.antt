-- What a future that sends a list may give.
use Rattle.std.specs.Prelude.{◌≡◌, ℕ, zero, suc, ◌<◌, ◌≤◌, ◌+◌, List, [], ◌∷◌, ◌++◌, length, drop, Option, Some, None, Result, Ok, Err, IsSomeAnd, refl}
use Rattle.std.proofs.Common.{sym, ap, ◌∙◌, subst, append_assoc, arith, get_or}
use Rattle.std.proofs.lemmas.List.{at_drop_more}
use Rattle.futures.specs.declared.task.Poll.TheVariants.{Ready, Pending}
use Rattle.channel_model.specs.declared.acts.Act.{Act}
use Rattle.channel_model.specs.declared.acts.Act.TheVariants.{Settle}
use Rattle.channel_model.specs.declared.acts.Settled.TheVariants as settled
use Rattle.channel_model.specs.Channels.{Shape}
use Rattle.channel_model.specs.Histories.{replay}
use Rattle.channel_model.specs.Floors.{Floor, Added, AtStep}
use Rattle.channel_model.specs.Answers.{IsSpentForOffers}
use Rattle.channel_model.proofs.Spans.{prefix_self, nothing_more, added_then, moment_within}
use Rattle.cell_words.specs.declared.hub.Hub.{Hub}
use Rattle.cell_words.specs.declared.pass.Pass.{Pass}
use Rattle.cell_words.specs.Hubs.{IsOwn}
use Rattle.cell_calls.specs.HubFloors.{hub_floor}
use Rattle.future_bridge.specs.declared.sending.SendSink.{SendSink}
use Rattle.future_bridge.specs.declared.sending.SinkFault.{SinkFault}
use Rattle.future_bridge.specs.declared.sending.SinkFault.TheVariants as fault
use Rattle.future_bridge.specs.Gains.{wait_at}
use Rattle.future_bridge.specs.Sends.{offer_acts, SendsOne, SendsNone, SendsEach, Acted}
use Rattle.future_bridge.specs.Sinks.{SinkStands, SameSink, sink_floor, ActedBy, EndsSent, EndsVoided, PolledSinkSo, SentOrWaits, StartedSo}
use Rattle.future_bridge.specs.Lists.{SendsFrom, StopsAt, IsVoided, WentSo, SendsList}

abbrev Waits : Type 0
Waits = Option (ℕ × ℕ)

-- ---- acts

-- the offer that waits ended, and nothing was sent then
from_none : (c : ℕ) (wait : Waits) (e : List Act) → EndsSent c wait e → SendsFrom c wait [] e
from_none c None e h = subst (λ l. SendsFrom c None [] l) (sym h) (SendsFrom.none [] [] SendsEach.none)
from_none c (Some x) e h = subst (λ l. SendsFrom c (Some x) [] l) (sym h.1) (SendsFrom.first x h.0 [] [] SendsEach.none)

-- the same, and then these were sent
from_each : (c : ℕ) (wait : Waits) (e : List Act) (vs : List ℕ) (acts : List Act) → EndsSent c wait e → SendsEach c vs acts
    → SendsFrom c wait vs (e ++ acts)
from_each c None e vs acts h k = subst (λ l. SendsFrom c None vs (l ++ acts)) (sym h) (SendsFrom.none vs acts k)
from_each c (Some x) e vs acts h k = subst (λ l. SendsFrom c (Some x) vs (l ++ acts)) (sym h.1) (SendsFrom.first x h.0 vs acts k)

-- one was sent, or its offer waits, and then these were
each_more : (c v : ℕ) (wait : Waits) (s : List Act) (vs : List ℕ) (acts : List Act) → SentOrWaits c v wait s → SendsFrom c wait vs acts
    → SendsEach c (v ∷ vs) (s ++ acts)
each_more c v _ s vs acts g (SendsFrom.none _ _ k) = SendsEach.one v vs s acts (s ++ acts) g k refl
each_more c v _ s vs _ g (SendsFrom.first x k _ acts h) =
    let ends : List Act = offer_acts c v x.0 g.1.0 ++ Settle (wait_at c x.0) (settled.Sent k) ∷ [] in
    let is : s ++ Settle (wait_at c x.0) (settled.Sent k) ∷ acts ≡ ends ++ acts =
    ap (λ l. l ++ Settle (wait_at c x.0) (settled.Sent k) ∷ acts) g.1.1
    ∙ sym (append_assoc (offer_acts c v x.0 g.1.0) (Settle (wait_at c x.0) (settled.Sent k) ∷ []) acts) in
    SendsEach.one v vs ends acts (s ++ Settle (wait_at c x.0) (settled.Sent k) ∷ acts) (SendsOne.offers x.0 k g.1.0 ends refl) h is

from_more : (c v : ℕ) (wait wait' : Waits) (e s : List Act) (vs : List ℕ) (acts : List Act) → EndsSent c wait e → SentOrWaits c v wait' s
    → SendsFrom c wait' vs acts → SendsFrom c wait (v ∷ vs) (e ++ (s ++ acts))
from_more c v wait wait' e s vs acts a g h = from_each c wait e (v ∷ vs) (s ++ acts) a (each_more c v wait' s vs acts g h)

stops_more : (c v u : ℕ) (wait wait' : Waits) (e s : List Act) (vs : List ℕ) (acts : List Act) → EndsSent c wait e → SentOrWaits c v wait' s
    → StopsAt c u wait' vs acts → StopsAt c u wait (v ∷ vs) (e ++ (s ++ acts))
stops_more c v u wait wait' e s vs acts a g h = record {
  done = v ∷ h.done;
  later = h.later;
  parts = ap (λ l. v ∷ l) h.parts;
  sends = from_more c v wait wait' e s h.done acts a g h.sends;
}

-- the first of the list was not sent
stops_first : (c v : ℕ) (wait : Waits) (e : List Act) (vs : List ℕ) → EndsSent c wait e → StopsAt c v wait (v ∷ vs) e
stops_first c v wait e vs a = record { done = []; later = vs; parts = refl; sends = from_none c wait e a }

voided_more : (c v u : ℕ) (wait wait' : Waits) (e s : List Act) (vs : List ℕ) (acts : List Act) → EndsSent c wait e
    → SentOrWaits c v wait' s → IsVoided c u wait' vs acts → IsVoided c u wait (v ∷ vs) (e ++ (s ++ acts))
voided_more c v u wait _ e s vs _ a g (IsVoided.waiting x _ is) =
    let same : v ≡ u = sym g.0 ∙ is in
    let none : SendsNone c v (s ++ Settle (wait_at c x.0) settled.Cancelled ∷ []) =
    record { place = x.0; admits = g.1.0; is = ap (λ l. l ++ Settle (wait_at c x.0) settled.Cancelled ∷ []) g.1.1 } in
    subst (λ z. IsVoided c z wait (v ∷ vs) (e ++ (s ++ Settle (wait_at c x.0) settled.Cancelled ∷ []))) same
    (IsVoided.listed wait (v ∷ vs) e (s ++ Settle (wait_at c x.0) settled.Cancelled ∷ []) (e
    ++ (s ++ Settle (wait_at c x.0) settled.Cancelled ∷ [])) (stops_first c v wait e vs a) none refl)
voided_more c v u wait wait' e s vs all a g (IsVoided.listed _ _ acts group _ h n is) =
    IsVoided.listed wait (v ∷ vs) (e ++ (s ++ acts)) group (e ++ (s ++ all)) (stops_more c v u wait wait' e s vs acts a g h) n
    (ap (λ l. e ++ (s ++ l)) is ∙ ap (λ l. e ++ l) (sym (append_assoc s acts group)) ∙ sym (append_assoc e (s ++ acts) group))

-- ---- how it went, seen from before

-- nothing was done before
went_earlier : (c who : ℕ) (wait : Waits) (vs : List ℕ) (a b d : Floor) (acts : List Act) (r : Result (Unit {0}) SinkFault)
    → Added who [] a b → WentSo c wait vs b d acts r → WentSo c wait vs a d acts r
went_earlier c who wait vs a b d acts (Ok done) m h = h
went_earlier c who wait vs a b d acts (Err (fault.Closed v x)) m h = h
went_earlier c who wait vs a b d acts (Err (fault.Spent v)) m h = (
  h.0,
  moment_within a b d d (IsSpentForOffers a.shape c) m.longer
      (subst (λ (s : Shape). AtStep b d (IsSpentForOffers s c)) m.same.shape h.1) (prefix_self d.seen),
)
went_earlier c who wait vs a b d acts (Err (fault.Cancelled v)) m h = h

-- an offer ended, and one was sent, or its offer waits
went_more : (c who v : ℕ) (wait wait' : Waits) (e s : List Act) (vs : List ℕ) (a b d : Floor) (acts : List Act)
    (r : Result (Unit {0}) SinkFault) → EndsSent c wait e → SentOrWaits c v wait' s → Added who (e ++ s) a b → WentSo c wait' vs b d acts r
    → WentSo c wait (v ∷ vs) a d (e ++ (s ++ acts)) r
went_more c who v wait wait' e s vs a b d acts (Ok done) x g m h = from_more c v wait wait' e s vs acts x g h
went_more c who v wait wait' e s vs a b d acts (Err (fault.Closed u y)) x g m h = (stops_more c v u wait wait' e s vs acts x g h.0, h.1)
went_more c who v wait wait' e s vs a b d acts (Err (fault.Spent u)) x g m h = (
  stops_more c v u wait wait' e s vs acts x g h.0,
  moment_within a b d d (IsSpentForOffers a.shape c) m.longer
      (subst (λ (z : Shape). AtStep b d (IsSpentForOffers z c)) m.same.shape h.1) (prefix_self d.seen),
)
went_more c who v wait wait' e s vs a b d acts (Err (fault.Cancelled u)) x g m h = voided_more c v u wait wait' e s vs acts x g h

-- ---- in the words of sinks

abbrev pub SinkGives : SendSink → List ℕ → Pass → Result (Unit {0}) SinkFault → Type 0
SinkGives s vs p r = SendsList s.hub.now s.pass s.who s.c s.wait vs p r

-- what is said of the sink afterwards, of its hub and its channel as they were before
carried : (old new : SendSink) (vs : List ℕ) (p : Pass) (r : Result (Unit {0}) SinkFault) → SameSink old new → SinkGives new vs p r
    → SendsList old.hub.now new.pass old.who old.c new.wait vs p r
carried old new vs p r s h =
    subst (λ (x : ℕ). SendsList old.hub.now new.pass old.who x new.wait vs p r) s.channel
    (subst (λ (x : ℕ). SendsList old.hub.now new.pass x new.c new.wait vs p r) s.who
    (subst (λ (x : Hub). SendsList x new.pass new.who new.c new.wait vs p r) s.hub h))

acted : (old new : SendSink) (P : List Act → Type 0) → SameSink old new → ActedBy old P new
    → Acted old.who P (hub_floor old.hub.now old.pass) (hub_floor old.hub.now new.pass)
acted old new P s h = subst (λ (x : Hub). Acted old.who P (hub_floor old.hub.now old.pass) (hub_floor x new.pass)) s.hub h

own_later : (old new : SendSink) → SameSink old new → SinkStands new → IsOwn old.hub.now new.pass old.who
own_later old new s h = subst (λ (x : ℕ). IsOwn old.hub.now new.pass x) s.who (subst (λ (x : Hub). IsOwn x new.pass new.who) s.hub h.own)

pub waiting_gives : (old new : SendSink) (vs : List ℕ) (p : Pass) (r : Result (Unit {0}) SinkFault) → SameSink old new
    → PolledSinkSo old new Pending → SinkGives new vs p r → SinkGives old vs p r
waiting_gives old new vs p r s m h' =
    let h = subst (λ (x : Waits). SendsList old.hub.now new.pass old.who old.c x vs p r) m.0 (carried old new vs p r s h') in
    let k = acted old new (λ acts. acts ≡ []) s m.1 in
    let none : Added old.who [] (hub_floor old.hub.now old.pass) (hub_floor old.hub.now new.pass) =
    subst (λ l. Added old.who l (hub_floor old.hub.now old.pass) (hub_floor old.hub.now new.pass)) k.are k.added in
    record {
      own = h.own;
      giving = h.giving ∙ s.giving;
      acts = h.acts;
      added = added_then old.who [] h.acts (hub_floor old.hub.now old.pass) (hub_floor old.hub.now new.pass) (hub_floor old.hub.now p) none
          h.added;
      went = went_earlier old.c old.who old.wait vs (hub_floor old.hub.now old.pass) (hub_floor old.hub.now new.pass)
          (hub_floor old.hub.now p) h.acts r none h.went;
    }

-- two calls, one after the other
same_then : (old mid new : SendSink) → SameSink old mid → SameSink mid new → SameSink old new
same_then old mid new s t = record {
  hub = t.hub ∙ s.hub;
  who = t.who ∙ s.who;
  channel = t.channel ∙ s.channel;
  giving = t.giving
      ∙ s.giving;
}

-- the second call, of the hub and the channel as they were before the first
acted_next : (old mid new : SendSink) (P : List Act → Type 0) → SameSink old mid → SameSink mid new
    → Acted mid.who P (sink_floor mid) (sink_floor new) → Acted old.who P (hub_floor old.hub.now mid.pass) (hub_floor old.hub.now new.pass)
acted_next old mid new P s t h =
    subst (λ (x : Hub). Acted old.who P (hub_floor old.hub.now mid.pass) (hub_floor x new.pass)) (t.hub ∙ s.hub)
    (subst (λ (x : Hub). Acted old.who P (hub_floor x mid.pass) (hub_floor new.hub.now new.pass)) s.hub
    (subst (λ (x : ℕ). Acted x P (hub_floor mid.hub.now mid.pass) (hub_floor new.hub.now new.pass)) s.who h))

-- one more was sent, or its offer waits
pub started_gives : (old mid new : SendSink) (v : ℕ) (vs : List ℕ) (p : Pass) (r : Result (Unit {0}) SinkFault) → SameSink old mid
    → SameSink mid new → PolledSinkSo old mid (Ready (Ok tt)) → StartedSo mid new v (Ok tt) → SinkGives new vs p r
    → SinkGives old (v ∷ vs) p r
started_gives old mid new v vs p r s t m n h' =
    let h = carried old new vs p r (same_then old mid new s t) h' in
    let a = acted old mid (EndsSent old.c old.wait) s m.1 in
    let b = acted_next old mid new (SentOrWaits mid.c v new.wait) s t n.0 in
    let sent : SentOrWaits old.c v new.wait b.acts = subst (λ (x : ℕ). SentOrWaits x v new.wait b.acts) s.channel b.are in
    let both = added_then old.who a.acts b.acts (hub_floor old.hub.now old.pass) (hub_floor old.hub.now mid.pass)
    (hub_floor old.hub.now new.pass) a.added b.added in
    record {
      own = h.own;
      giving = h.giving ∙ (t.giving ∙ s.giving);
      acts = a.acts ++ (b.acts ++ h.acts);
      added = subst (λ l. Added old.who l (hub_floor old.hub.now old.pass) (hub_floor old.hub.now p)) (append_assoc a.acts b.acts h.acts)
          (added_then old.who (a.acts ++ b.acts) h.acts (hub_floor old.hub.now old.pass) (hub_floor old.hub.now new.pass)
          (hub_floor old.hub.now p) both h.added);
      went = went_more old.c old.who v old.wait new.wait a.acts b.acts vs (hub_floor old.hub.now old.pass) (hub_floor old.hub.now new.pass)
          (hub_floor old.hub.now p) h.acts r a.are sent both h.went;
    }

-- all was sent
pub ended_gives : (old new : SendSink) → SinkStands new → SameSink old new → PolledSinkSo old new (Ready (Ok tt))
    → SinkGives old [] new.pass (Ok tt)
ended_gives old new st s m =
    let a = acted old new (EndsSent old.c old.wait) s m.1 in
    record { own = own_later old new s st; giving = s.giving; acts = a.acts; added = a.added; went = from_none old.c old.wait a.acts a.are }

-- the offer that waited was removed with its channel
pub voided_gives : (old new : SendSink) (vs : List ℕ) (f : SinkFault) → SinkStands new → SameSink old new
    → PolledSinkSo old new (Ready (Err f)) → SinkGives old vs new.pass (Err f)
voided_gives old new vs (fault.Cancelled v) st s m =
    let a = acted old new (EndsVoided old.c v old.wait) s m.1 in
    record { own = own_later old new s st; giving = s.giving; acts = a.acts; added = a.added; went = by_wait old.wait a.acts a.are }
  where
    by_wait : (wait : Waits) (acts : List Act) → EndsVoided old.c v wait acts → IsVoided old.c v wait vs acts
    by_wait None acts h = absurd h
    by_wait (Some x) acts h = subst (λ l. IsVoided old.c v (Some x) vs l) (sym h.1) (IsVoided.waiting x vs h.0)
voided_gives old new vs other st s m = absurd m

-- the next of the list was not sent
pub refused_gives : (old mid new : SendSink) (v : ℕ) (vs : List ℕ) (f : SinkFault) → SinkStands new → SameSink old mid → SameSink mid new
    → PolledSinkSo old mid (Ready (Ok tt)) → StartedSo mid new v (Err f) → SinkGives old (v ∷ vs) new.pass (Err f)
refused_gives old mid new v vs (fault.Closed u x) st s t m n =
    let a = acted old mid (EndsSent old.c old.wait) s m.1 in
    let b = acted_next old mid new (λ acts. acts ≡ []) s t n.2 in
    let seen : ((replay (hub_floor old.hub.now new.pass).seen).channels old.c).closed ≡ Some x =
    subst (λ (y : ℕ). ((replay (hub_floor old.hub.now new.pass).seen).channels y).closed ≡ Some x) s.channel n.3 in
    record {
      own = own_later old new (same_then old mid new s t) st;
      giving = t.giving ∙ s.giving;
      acts = a.acts;
      added = subst (λ l. Added old.who l (hub_floor old.hub.now old.pass) (hub_floor old.hub.now new.pass)) (ap (λ l. a.acts ++ l) b.are
          ∙ nothing_more a.acts)
          (added_then old.who a.acts b.acts (hub_floor old.hub.now old.pass) (hub_floor old.hub.now mid.pass)
          (hub_floor old.hub.now new.pass) a.added b.added);
      went = (subst (λ (z : ℕ). StopsAt old.c z old.wait (v ∷ vs) a.acts) (sym n.0) (stops_first old.c v old.wait a.acts vs a.are), seen);
    }
refused_gives old mid new v vs (fault.Spent u) st s t m n =
    let a = acted old mid (EndsSent old.c old.wait) s m.1 in
    let b = acted_next old mid new (λ acts. acts ≡ []) s t n.2 in
    record {
      own = own_later old new (same_then old mid new s t) st;
      giving = t.giving ∙ s.giving;
      acts = a.acts;
      added = subst (λ l. Added old.who l (hub_floor old.hub.now old.pass) (hub_floor old.hub.now new.pass)) (ap (λ l. a.acts ++ l) b.are
          ∙ nothing_more a.acts)
          (added_then old.who a.acts b.acts (hub_floor old.hub.now old.pass) (hub_floor old.hub.now mid.pass)
          (hub_floor old.hub.now new.pass) a.added b.added);
      went = (
        subst (λ (z : ℕ). StopsAt old.c z old.wait (v ∷ vs) a.acts) (sym n.0) (stops_first old.c v old.wait a.acts vs a.are),
        moment_within (hub_floor old.hub.now old.pass) (hub_floor old.hub.now mid.pass) (hub_floor old.hub.now new.pass)
            (hub_floor old.hub.now new.pass) (IsSpentForOffers (hub_floor old.hub.now old.pass).shape old.c) a.added.longer (spent_here n.3)
            (prefix_self (hub_floor old.hub.now new.pass).seen),
      );
    }
  where
    spent_here : AtStep (sink_floor mid) (sink_floor new) (IsSpentForOffers (sink_floor mid).shape mid.c)
        → AtStep (hub_floor old.hub.now mid.pass) (hub_floor old.hub.now new.pass)
        (IsSpentForOffers (hub_floor old.hub.now old.pass).shape old.c)
    spent_here h =
        let k = subst (λ (x : ℕ). AtStep (sink_floor mid) (sink_floor new) (IsSpentForOffers (sink_floor mid).shape x)) s.channel h in
        let q = subst (λ (x : Hub). AtStep (sink_floor mid) (sink_floor new) (IsSpentForOffers (hub_floor x mid.pass).shape old.c)) s.hub k
        in
        record { moment = q.moment; after = q.after; before = q.before; holds = q.holds }
refused_gives old mid new v vs (fault.Cancelled u) st s t m n =
    let a = acted old mid (EndsSent old.c old.wait) s m.1 in
    let b = acted_next old mid new (SendsNone mid.c v) s t n.2 in
    let none : SendsNone old.c v b.acts = subst (λ (x : ℕ). SendsNone x v b.acts) s.channel b.are in
    record {
      own = own_later old new (same_then old mid new s t) st;
      giving = t.giving ∙ s.giving;
      acts = a.acts ++ b.acts;
      added = added_then old.who a.acts b.acts (hub_floor old.hub.now old.pass) (hub_floor old.hub.now mid.pass)
          (hub_floor old.hub.now new.pass) a.added b.added;
      went = subst (λ (z : ℕ). IsVoided old.c z old.wait (v ∷ vs) (a.acts ++ b.acts)) (sym n.0)
          (IsVoided.listed old.wait (v ∷ vs) a.acts b.acts (a.acts ++ b.acts) (stops_first old.c v old.wait a.acts vs a.are) none refl);
    }

-- ---- what its future gives

abbrev pub Sends : Option SendSink → List ℕ → Pass → Result (Unit {0}) SinkFault → Type 0
Sends m vs p r = IsSomeAnd m (λ s. SendsList s.hub.now s.pass s.who s.c s.wait vs p r)

sends : (m : Option SendSink) (old : SendSink) (all vs : List ℕ) (p : Pass) (r : Result (Unit {0}) SinkFault) → m ≡ Some old → all ≡ vs
    → SinkGives old vs p r → Sends m all p r
sends m old all vs p r was e h = subst (λ (x : Option SendSink). Sends x all p r) (sym was)
    (subst (λ (l : List ℕ). SinkGives old l p r) (sym e) h)

pub still_sends : (m : Option SendSink) (old new : SendSink) (vs : List ℕ) → m ≡ Some old → SameSink old new → PolledSinkSo old new Pending
    → (x : Pass × Result (Unit {0}) SinkFault) → SinkGives new vs x.0 x.1 → Sends m vs x.0 x.1
still_sends m old new vs was s k x h = sends m old vs vs x.0 x.1 was refl (waiting_gives old new vs x.0 x.1 s k h)

pub sends_on : (m : Option SendSink) (old mid new : SendSink) (v : ℕ) (vs all : List ℕ) → m ≡ Some old → all ≡ v ∷ vs → SameSink old mid
    → SameSink mid new → PolledSinkSo old mid (Ready (Ok tt)) → StartedSo mid new v (Ok tt)
    → (x : Pass × Result (Unit {0}) SinkFault) → SinkGives new vs x.0 x.1 → Sends m all x.0 x.1
sends_on m old mid new v vs all was e s t k n x h = sends m old all (v ∷ vs) x.0 x.1 was e
    (started_gives old mid new v vs x.0 x.1 s t k n h)

pub sends_no_more : (m : Option SendSink) (old new : SendSink) (all : List ℕ) → m ≡ Some old → all ≡ [] → SinkStands new → SameSink old new
    → PolledSinkSo old new (Ready (Ok tt)) → Sends m all new.pass (Ok tt)
sends_no_more m old new all was e st s k = sends m old all [] new.pass (Ok tt) was e (ended_gives old new st s k)

pub sends_voided : (m : Option SendSink) (old new : SendSink) (vs : List ℕ) (f : SinkFault) → m ≡ Some old → SinkStands new
    → SameSink old new → PolledSinkSo old new (Ready (Err f)) → Sends m vs new.pass (Err f)
sends_voided m old new vs f was st s k = sends m old vs vs new.pass (Err f) was refl (voided_gives old new vs f st s k)

pub sends_refused : (m : Option SendSink) (old mid new : SendSink) (v : ℕ) (vs all : List ℕ) (f : SinkFault) → m ≡ Some old → all ≡ v ∷ vs
    → SinkStands new → SameSink old mid → SameSink mid new → PolledSinkSo old mid (Ready (Ok tt)) → StartedSo mid new v (Err f)
    → Sends m all new.pass (Err f)
sends_refused m old mid new v vs all f was e st s t k n =
    sends m old all (v ∷ vs) new.pass (Err f) was e (refused_gives old mid new v vs f st s t k n)

-- ---- the list

pub all_dropped : (l : List ℕ) (i : ℕ) → length l ≤ i → drop i l ≡ []
all_dropped [] zero h = refl
all_dropped [] (suc i) h = refl
all_dropped (x ∷ l) zero h = absurd (omega (arith, h))
all_dropped (x ∷ l) (suc i) h = all_dropped l i (omega (arith, h))

pub the_next : (l : List ℕ) (i z : ℕ) → i < length l → drop i l ≡ get_or l i z ∷ drop (i + 1) l
the_next l i z h = at_drop_more (λ k. k) l i z h
