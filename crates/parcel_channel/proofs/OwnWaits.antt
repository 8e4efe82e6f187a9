-- An own wait: a receive that waits, and an offer of a number from its placing to the look at it.
use Rattle.std.specs.Prelude.{◌≡◌, ◌⊎◌, ℕ, Bool, true, false, List, [], ◌∷◌, ◌++◌, Option, Some, None, is_some, refl}
use Rattle.std.specs.List.{list_all}
use Rattle.std.proofs.Common.{inl, inr, sym, ap, ◌∙◌, subst, arith}
use Rattle.co_base.specs.declared.names.WaitId.{WaitId}
use Rattle.channel_model.specs.declared.acts.Act.{Act}
use Rattle.channel_model.specs.declared.acts.Act.TheVariants.{Offer, Await, Admit}
use Rattle.channel_model.specs.declared.acts.Entry.{Entry}
use Rattle.channel_model.specs.declared.acts.Settled.{Settled}
use Rattle.channel_model.specs.declared.acts.Settled.TheVariants as end
use Rattle.channel_model.specs.declared.standing.Resolution.{Resolution}
use Rattle.channel_model.specs.declared.standing.Resolution.TheVariants as resolved
use Rattle.channel_model.specs.Channels.{Shape, State, Wait}
use Rattle.channel_model.specs.Effects.{name_clause}
use Rattle.channel_model.specs.Needs.{Needs}
use Rattle.channel_model.proofs.Placed.{replay_placed}
use Rattle.channel_model.proofs.Waits.{at_wait}
use Rattle.channel_model.specs.Histories.{replay, acts_of, Legal}
use Rattle.channel_model.specs.Floors.{Floor, Looked, Made}
use Rattle.channel_model.specs.Answers.{IsOwnWait, IsUnsettledOf, IsReadyWait, outcome_at, outcome_of_some}
use Rattle.channel_model.specs.PlainOffers.{EndsPlainly, IsPlainOffer, OffersPlainly}
use Rattle.channel_model.proofs.Histories.{replay_push, Legal-last}
use Rattle.channel_model.proofs.Spans.{nothing_more}
use Rattle.channel_model.proofs.PlainOffers.{is_quiet, plain_lasts, offered_plain}
use Rattle.word_rules.specs.declared.wait_word.WaitWord.{WaitWord}
use Rattle.word_rules.specs.Words.{parts_word, word_of_wait}
use Rattle.parcel_channel.specs.Numbers.{is_admit, Admits, WaitsStill, is_sent}

-- ---- it was placed, and admits were made

-- a legal history that ends with this entry
last_legal : (shape : Shape) (es all : List Entry) (e : Entry) → all ≡ es ++ e ∷ [] → Legal shape all → Legal shape es
    × Needs shape (replay es) e.who e.act
last_legal shape es all e is l = Legal-last shape es e (subst (Legal shape) is l)

pub offer_plain : (who c p v : ℕ) (b d : Floor) → Legal d.shape d.seen → Made who (Offer c p v (record { channel = c; place = p }) 0) b d
    → OffersPlainly who (record { channel = c; place = p }) (replay d.seen)
offer_plain who c p v b d l m =
    let w : WaitId = record { channel = c; place = p } in
    let last : Entry = record { who = who; act = Offer c p v w 0 } in
    let r = last_legal d.shape m.before d.seen last m.last l in
    subst (λ es. OffersPlainly who w (replay es)) (sym m.last)
    (subst (OffersPlainly who w) (sym (replay_push m.before last)) (offered_plain d.shape who c p v m.before r.0 r.1))

-- a receive that waits has begun a wait
pub await_own : (who c p : ℕ) (b d : Floor) → Legal d.shape d.seen → Made who (Await c p (record { channel = c; place = p }) 0) b d
    → IsUnsettledOf who ((replay d.seen).waits (record { channel = c; place = p }))
await_own who c p b d l m =
    let w : WaitId = record { channel = c; place = p } in
    let act : Act = Await c p w 0 in
    let r = last_legal d.shape m.before d.seen (record { who = who; act = act }) m.last l in
    let is : p ≡ ((replay m.before).channels c).next = r.1.1.first in
    let none : (replay m.before).waits w ≡ None = replay_placed d.shape m.before r.0 w (omega (arith, is)) in
    let begun : (replay d.seen).waits w ≡ name_clause who 0 c None =
    ap (λ es. (replay es).waits w) m.last
    ∙ ap (λ (s : State). s.waits w) (replay_push m.before (record { who = who; act = act }))
    ∙ at_wait w (name_clause who 0 c ((replay m.before).waits w)) (replay m.before).waits
    ∙ ap (name_clause who 0 c) none in
    subst (IsUnsettledOf who) (sym begun) (refl, refl)

quiet : (acts : List Act) → list_all is_admit acts ≡ true → list_all is_quiet acts ≡ true
quiet [] h = refl
quiet (Admit c p ∷ acts) h = quiet acts h
quiet (other ∷ acts) h = cc

pub plain_admits : (who : ℕ) (w : WaitId) (a b : Floor) → Legal b.shape b.seen → OffersPlainly who w (replay a.seen) → Admits who a b
    → OffersPlainly who w (replay b.seen)
plain_admits who w a b l h m = plain_lasts b.shape who w m.acts a.seen b.seen l m.added.longer m.added.mine (quiet m.acts m.admits) h

pub plain_looked : (who : ℕ) (w : WaitId) (a b : Floor) → Legal b.shape b.seen → OffersPlainly who w (replay a.seen) → Looked who a b
    → OffersPlainly who w (replay b.seen)
plain_looked who w a b l h look = plain_lasts b.shape who w [] a.seen b.seen l look.longer (look.mine
    ∙ sym (nothing_more (acts_of who a.seen))) refl h

pub plain_own : (who c : ℕ) (b : Bool) (y : Option Wait) → IsPlainOffer who c b y → IsOwnWait who y
plain_own who c b None h = h
plain_own who c b (Some x) h = h.0

-- ---- what its word says

-- it was neither admitted nor received
pub waits_still : (who c : ℕ) (b : Bool) (y : Option Wait) (word : WaitWord) → IsPlainOffer who c b y → word ≡ word_of_wait y
    → is_sent word.by ≡ false → WaitsStill who y
waits_still who c b None word h is e = h
waits_still who c b (Some x) word h is e = (h.0, h.1, by_how x.resolved x.settled h.3 (ap (λ (z : WaitWord). is_sent z.by) (sym is) ∙ e))
  where
    by_how : (how : Option Resolution) (o : Option Settled) → EndsPlainly b how → is_sent (parts_word how o).by ≡ false → (how ≡ None)
        ⊎ (how ≡ Some resolved.Voided)
    by_how None o g q = inl refl
    by_how (Some (resolved.Handed k v)) o g q = absurd g
    by_how (Some (resolved.Taken k)) None g q = cc
    by_how (Some (resolved.Taken k)) (Some z) g q = cc
    by_how (Some (resolved.Admitted k)) None g q = cc
    by_how (Some (resolved.Admitted k)) (Some z) g q = cc
    by_how (Some (resolved.Closed k v)) o g q = absurd g
    by_how (Some (resolved.Withdrawn why)) o g q = absurd g
    by_how (Some resolved.Voided) o g q = inr refl

-- it may be settled
pub sent_ready : (who c : ℕ) (b : Bool) (y : Option Wait) (word : WaitWord) → IsPlainOffer who c b y → word ≡ word_of_wait y
    → is_sent word.by ≡ true → IsReadyWait who y
sent_ready who c b None word h is e = h
sent_ready who c b (Some x) word h is e = (h.0, by_how x.resolved x.settled (ap (λ (z : WaitWord). is_sent z.by) (sym is) ∙ e), h.1)
  where
    by_how : (how : Option Resolution) (o : Option Settled) → is_sent (parts_word how o).by ≡ true → is_some how ≡ true
    by_how None o q = cc
    by_how (Some how) o q = refl

-- and ends as sent
pub sent_end : (who c : ℕ) (b : Bool) (y : Option Wait) (word : WaitWord) (outcome : Settled) → IsPlainOffer who c b y
    → word ≡ word_of_wait y → is_sent word.by ≡ true → outcome_at false y ≡ Some outcome → (k : ℕ) × (outcome ≡ end.Sent k)
sent_end who c b None word outcome h is e o = absurd h
sent_end who c b (Some x) word outcome h is e o = by_how x.resolved x.settled h.3 (ap (λ (z : WaitWord). is_sent z.by) (sym is) ∙ e) o
  where
    by_how : (how : Option Resolution) (z : Option Settled) → EndsPlainly b how → is_sent (parts_word how z).by ≡ true
        → outcome_of_some false how ≡ Some outcome → (k : ℕ) × (outcome ≡ end.Sent k)
    by_how None z g q r = cc
    by_how (Some (resolved.Handed k v)) z g q r = absurd g
    by_how (Some (resolved.Taken k)) z g q r = (k, (let s : end.Sent k ≡ outcome = cc in sym s))
    by_how (Some (resolved.Admitted k)) z g q r = (k, (let s : end.Sent k ≡ outcome = cc in sym s))
    by_how (Some (resolved.Closed k v)) z g q r = absurd g
    by_how (Some (resolved.Withdrawn why)) z g q r = absurd g
    by_how (Some resolved.Voided) None g q r = cc
    by_how (Some resolved.Voided) (Some y) g q r = cc
