-- A wait that a call began is its caller's, and stays so until that settles it.
use Rattle.std.specs.Prelude.{◌≡◌, ℕ, Bool, List, [], ◌∷◌, ◌++◌, Option, Some, None, refl}
use Rattle.std.proofs.Common.{sym, ap, ◌∙◌, subst, arith}
use Rattle.co_base.specs.declared.names.WaitId.{WaitId}
use Rattle.channel_model.specs.declared.acts.Act.{Act}
use Rattle.channel_model.specs.declared.acts.Act.TheVariants.{Offer, Await, Admit}
use Rattle.channel_model.specs.declared.acts.Entry.{Entry}
use Rattle.channel_model.specs.declared.floor.Got.{Got}
use Rattle.channel_model.specs.declared.floor.Got.TheVariants as got
use Rattle.channel_model.specs.declared.floor.Offered.{Offered}
use Rattle.channel_model.specs.declared.floor.Offered.TheVariants as offered
use Rattle.channel_model.specs.declared.floor.WaitState.TheVariants as state
use Rattle.channel_model.specs.Channels.{Shape, State, Wait}
use Rattle.channel_model.specs.Effects.{name_clause}
use Rattle.channel_model.specs.Needs.{Needs}
use Rattle.channel_model.specs.Histories.{replay, acts_of, Legal}
use Rattle.channel_model.specs.Floors.{Floor, Looked, Made}
use Rattle.channel_model.specs.Answers.{OfferAnswer, GotAnswer, AdmitAnswer, LookAnswer, IsOwnWait, IsUnsettledOf, IsReadyWait}
use Rattle.channel_model.specs.PlainOffers.{IsPlainOffer, OffersPlainly}
use Rattle.channel_model.proofs.Histories.{replay_push, Legal-last, Legal-prefix}
use Rattle.channel_model.proofs.Waits.{at_wait}
use Rattle.channel_model.proofs.Placed.{replay_placed}
use Rattle.channel_model.proofs.PlainOffers.{plain_lasts, offered_plain}
use Rattle.channel_model.proofs.Others.{others_keep, unsettled_stays, ready_stays, between}
use Rattle.channel_model.proofs.Spans.{nothing_more, added_made}
use Rattle.cell_words.specs.declared.pass.Pass.{Pass}
use Rattle.word_rules.specs.Cells.{spot}
use Rattle.cell_calls.proofs.OwnCells.{ready_told}
use Rattle.word_bench.specs.Waits.{BeginsOffer, BeginsWait}
use Rattle.cell_words.specs.Hubs.{seen_by}

-- ---- it was begun

last_legal : (shape : Shape) (es all : List Entry) (e : Entry) → all ≡ es ++ e ∷ [] → Legal shape all → Legal shape es
    × Needs shape (replay es) e.who e.act
last_legal shape es all e is l = Legal-last shape es e (subst (Legal shape) is l)

offer_plain : (who c p v : ℕ) (a b : Floor) → Legal b.shape b.seen → Made who (Offer c p v (spot c p) 0) a b
    → OffersPlainly who (spot c p) (replay b.seen)
offer_plain who c p v a b l m =
    let last : Entry = record { who = who; act = Offer c p v (spot c p) 0 } in
    let r = last_legal b.shape m.before b.seen last m.last l in
    subst (λ es. OffersPlainly who (spot c p) (replay es)) (sym m.last)
    (subst (OffersPlainly who (spot c p)) (sym (replay_push m.before last)) (offered_plain b.shape who c p v m.before r.0 r.1))

await_held : (who c p : ℕ) (a b : Floor) → Legal b.shape b.seen → Made who (Await c p (spot c p) 0) a b
    → IsUnsettledOf who ((replay b.seen).waits (spot c p))
await_held who c p a b l m =
    let w : WaitId = spot c p in
    let act : Act = Await c p w 0 in
    let r = last_legal b.shape m.before b.seen (record { who = who; act = act }) m.last l in
    let is : p ≡ ((replay m.before).channels c).next = r.1.1.first in
    let none : (replay m.before).waits w ≡ None = replay_placed b.shape m.before r.0 w (omega (arith, is)) in
    let begun : (replay b.seen).waits w ≡ name_clause who 0 c None =
    ap (λ es. (replay es).waits w) m.last
    ∙ ap (λ (s : State). s.waits w) (replay_push m.before (record { who = who; act = act }))
    ∙ at_wait w (name_clause who 0 c ((replay m.before).waits w)) (replay m.before).waits
    ∙ ap (name_clause who 0 c) none in
    subst (IsUnsettledOf who) (sym begun) (refl, refl)

module _ (who c : ℕ) (a b : Floor) (pass : Pass) (seen : b.seen ≡ (seen_by pass).seen) (l : Legal b.shape b.seen) where
  pub offer_begins : (v : ℕ) (r : Offered) → OfferAnswer who c v a b r → BeginsOffer who c pass r
  offer_begins v (offered.Held p) h = subst (λ es. OffersPlainly who (spot c p) (replay es)) seen (offer_plain who c p v a b l h.0)
  offer_begins v other h = tt

  pub wait_begins : (r : Got) → GotAnswer who c a b r → BeginsWait who c pass r
  wait_begins (got.Waiting p) h = subst (λ es. IsUnsettledOf who ((replay es).waits (spot c p))) seen (await_held who c p a b l h)
  wait_begins other h = tt

-- ---- an offer goes on to wait

pub plain_looked : (who : ℕ) (w : WaitId) (a b : Floor) → Legal b.shape b.seen → Looked who a b → OffersPlainly who w (replay a.seen)
    → OffersPlainly who w (replay b.seen)
plain_looked who w a b l look h = plain_lasts b.shape who w [] a.seen b.seen l look.longer (look.mine
    ∙ sym (nothing_more (acts_of who a.seen))) refl h

pub plain_admit : (who c mark : ℕ) (w : WaitId) (a b : Floor) (r : Option (ℕ × ℕ)) → Legal b.shape b.seen → AdmitAnswer who c mark a b r
    → OffersPlainly who w (replay a.seen) → OffersPlainly who w (replay b.seen)
plain_admit who c mark w a b (Some x) l h plain =
    let added = added_made who (Admit c x.0) a b h.made in
    plain_lasts b.shape who w (Admit c x.0 ∷ []) a.seen b.seen l added.longer added.mine refl plain
plain_admit who c mark w a b None l h plain = plain_looked who w a b l h.0 plain

pub plain_holds : (who c : ℕ) (voided : Bool) (x : Option Wait) → IsPlainOffer who c voided x → IsUnsettledOf who x
plain_holds who c voided None h = h
plain_holds who c voided (Some x) h = (h.0, h.1)

-- ---- a look

pub wait_own : (who : ℕ) (x : Option Wait) → IsUnsettledOf who x → IsOwnWait who x
wait_own who None h = absurd h
wait_own who (Some x) h = h.0

pub wait_looked : (who : ℕ) (w : WaitId) (a b : Floor) → Legal b.shape b.seen → Looked who a b → IsUnsettledOf who ((replay a.seen).waits w)
    → IsUnsettledOf who ((replay b.seen).waits w)
wait_looked who w a b l look h = others_keep b.shape who (IsUnsettledOf who) (unsettled_stays who) w a.seen b.seen l look.longer look.mine h

pub ready_looked : (who : ℕ) (w : WaitId) (a b : Floor) → Legal b.shape b.seen → IsUnsettledOf who ((replay a.seen).waits w)
    → LookAnswer who w a b state.Resolved → IsReadyWait who ((replay b.seen).waits w)
ready_looked who w a b l h look =
    let m = look.1 in
    let t = between who a.seen m.moment b.seen m.after m.before look.0.mine in
    let earlier : Legal b.shape m.moment = Legal-prefix b.shape m.moment m.before.0 (rw m.before.1 l) in
    let held : IsUnsettledOf who ((replay m.moment).waits w) =
    others_keep b.shape who (IsUnsettledOf who) (unsettled_stays who) w a.seen m.moment earlier m.after t.0 h in
    others_keep b.shape who (IsReadyWait who) (ready_stays who) w m.moment b.seen l m.before t.1
    (ready_told who ((replay m.moment).waits w) state.Resolved (wait_own who ((replay m.moment).waits w) held) m.holds refl)
