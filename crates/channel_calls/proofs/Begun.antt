-- A send or a receive that waits has begun a wait that stands.
use Rattle.std.specs.Prelude.{◌≡◌, ℕ, List, [], ◌∷◌, ◌++◌, None, refl}
use Rattle.std.proofs.Common.{sym, ap, ◌∙◌, subst, arith}
use Rattle.channel_model.specs.declared.acts.Act.{Act}
use Rattle.channel_model.specs.declared.acts.Act.TheVariants.{Offer, Await}
use Rattle.channel_model.specs.declared.acts.Entry.{Entry}
use Rattle.channel_model.specs.Channels.{Shape, State}
use Rattle.channel_model.specs.Effects.{after, name_clause, put_wait}
use Rattle.channel_model.specs.Needs.{Needs}
use Rattle.channel_model.specs.Histories.{replay, Legal}
use Rattle.channel_model.specs.Floors.{Floor, Made, Added}
use Rattle.channel_model.specs.Answers.{IsUnsettledOf, state_of_wait}
use Rattle.channel_model.proofs.Histories.{replay_push, Legal-last}
use Rattle.channel_model.proofs.Placed.{replay_placed}
use Rattle.channel_model.proofs.Spans.{prefix_self}
use Rattle.channel_model.proofs.Waits.{at_wait}
use Rattle.channel_model.specs.PlainOffers.{OffersPlainly}
use Rattle.channel_model.proofs.PlainOffers.{offered_plain}
use Rattle.call_meaning.specs.ChannelCalls.{wait_at}
use Rattle.channel_calls.specs.Calls.{IsLeftWaiting}
use Rattle.call_meaning.specs.Seen.{SeenOnChannels}

-- a legal history that ends with this entry: the history before it is legal, and the entry might come
last_legal : (shape : Shape) (es all : List Entry) (e : Entry) → all ≡ es ++ e ∷ [] → Legal shape all → Legal shape es
    × Needs shape (replay es) e.who e.act
last_legal shape es all e is l = Legal-last shape es e (subst (Legal shape) is l)

-- the wait that has begun
begun : (who c p : ℕ) (before seen : List Entry) (shape : Shape) (act : Act) → Legal shape before → p ≡ ((replay before).channels c).next
    → seen ≡ before ++ record { who = who; act = act } ∷ []
    → (after (replay before) who act).waits (wait_at c p) ≡
    put_wait (wait_at c p) (name_clause who 0 c ((replay before).waits (wait_at c p))) (replay before).waits (wait_at c p)
    → (replay seen).waits (wait_at c p) ≡ name_clause who 0 c None
begun who c p before seen shape act l is last e =
    let none : (replay before).waits (wait_at c p) ≡ None = replay_placed shape before l (wait_at c p) (omega (arith, is)) in
    ap (λ es. (replay es).waits (wait_at c p)) last
    ∙ ap (λ (s : State). s.waits (wait_at c p)) (replay_push before (record { who = who; act = act }))
    ∙ e
    ∙ at_wait (wait_at c p) _ (replay before).waits
    ∙ ap (name_clause who 0 c) none

left_waiting : {c p : ℕ} {acts : List Act} {a d : SeenOnChannels} → Added a.who acts a.floor d.floor → d.who ≡ a.who
    → (replay d.floor.seen).waits (wait_at c p) ≡ name_clause a.who 0 c None → IsLeftWaiting (wait_at c p) acts a d
left_waiting {c} {p} {acts} {a} {d} added w is = record {
  stood = record {
    moment = d.floor.seen;
    after = added.longer;
    before = prefix_self d.floor.seen;
    mine = added.mine;
    holds = ap state_of_wait is;
  };
  holds = subst (λ n. IsUnsettledOf n ((replay d.floor.seen).waits (wait_at c p))) (sym w)
      (subst (IsUnsettledOf a.who) (sym is) (refl, refl));
}

-- a plain offer that was just made is one
pub offer_plain : (who c p v : ℕ) (b d : Floor) → Legal d.shape d.seen → Made who (Offer c p v (wait_at c p) 0) b d
    → OffersPlainly who (wait_at c p) (replay d.seen)
offer_plain who c p v b d l m =
    let last : Entry = record { who = who; act = Offer c p v (wait_at c p) 0 } in
    let r = last_legal d.shape m.before d.seen last m.last l in
    let is : p ≡ ((replay m.before).channels c).next = r.1.1.first in
    subst (λ es. OffersPlainly who (wait_at c p) (replay es)) (sym m.last)
    (subst (OffersPlainly who (wait_at c p)) (sym (replay_push m.before last)) (offered_plain d.shape who c p v m.before r.0 r.1))

pub receiver_waits : {c p : ℕ} {acts : List Act} {a d : SeenOnChannels} {b : Floor} → Legal d.floor.shape d.floor.seen
    → Made a.who (Await c p (wait_at c p) 0) b d.floor → Added a.who acts a.floor d.floor → d.who ≡ a.who
    → IsLeftWaiting (wait_at c p) acts a d
receiver_waits {c} {p} {a = a} {d = d} l m added w =
    let act : Act = Await c p (wait_at c p) 0 in
    let r = last_legal d.floor.shape m.before d.floor.seen (record { who = a.who; act = act }) m.last l in
    left_waiting added w (begun a.who c p m.before d.floor.seen d.floor.shape act r.0 r.1.1.first m.last refl)
