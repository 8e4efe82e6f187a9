-- What becomes of an own offer that stands.
use Rattle.std.specs.Prelude.{◌≡◌, ℕ, Bool, true, false, List, [], ◌∷◌, ◌++◌, map, Option, Some, None, is_some, Result, Ok, Err, refl}
use Rattle.co_base.proofs.Orders.{order_then}
use Rattle.std.specs.List.{list_all}
use mathlib.Core.List.{IsPrefix}
use Rattle.std.proofs.Common.{sym, ap, ◌∙◌, subst, arith}
use Rattle.co_base.specs.declared.names.WaitId.{WaitId}
use Rattle.co_base.specs.declared.names.Memory.{Memory}
use Rattle.channel_model.specs.declared.acts.Act.TheVariants.{Admit, Close, Offer, Settle}
use Rattle.channel_model.specs.declared.acts.Entry.{Entry}
use Rattle.channel_model.specs.declared.acts.Settled.TheVariants as settled
use Rattle.channel_model.specs.declared.standing.Resolution.{Resolution}
use Rattle.channel_model.specs.declared.floor.WaitState.TheVariants as state
use Rattle.channel_model.specs.Channels.{Shape, State, Wait}
use Rattle.channel_model.specs.Histories.{replay, acts_of, Legal}
use Rattle.channel_model.specs.Floors.{Floor, HasRoom, Looked, Made, AtStep}
use Rattle.channel_model.specs.Answers.{LookAnswer, SettleAnswer, ClosedWith, IsOwn, IsOwnWait, IsReady, IsReadyWait, IsUnsettledOf, IsSeenVoided, IsFullAt, state_of_wait, state_of_parts}
use Rattle.channel_model.specs.PlainOffers.{IsPlainOffer, OffersPlainly}
use Rattle.channel_model.proofs.Histories.{Legal-prefix, Legal-last}
use Rattle.channel_model.proofs.Spans.{nothing_more, prefix_then, added_made}
use Rattle.channel_model.proofs.Others.{others_keep, between, ready_stays}
use Rattle.channel_model.proofs.Lasts.{closed_lasts, voided_closed}
use Rattle.channel_model.proofs.PlainOffers.{is_quiet, plain_lasts, ends_sent, ends_unclosed, ends_delivered, ends_voided}
use Rattle.note_book.specs.Items.{channel_acts_in}
use Rattle.call_meaning.specs.Telling.{Told, on_channels, NextIs, NoneToAdmit, WasFull, TakenBack, items_in, made}
use Rattle.call_meaning.specs.ChannelCalls.{Waits, sends, wait_at, Admits, PlainCall}
use Rattle.call_meaning.specs.Calls.{ToldOnChannels}
use Rattle.call_meaning.proofs.ChannelsHeard.{told_then}
use Rattle.channel_calls.specs.declared.caller.SendAnswer.{SendAnswer}
use Rattle.channel_calls.specs.declared.caller.SendAnswer.TheVariants as send
use Rattle.channel_calls.specs.Groups.{settle_group}
use Rattle.channel_calls.specs.Calls.{Tells, Goes, GoesSomehow, IsLeftWaiting, IsSeenWaiting, WasPlacedFull, IsSent, IsUnsent, AdmittedAnswer, SentAnswer}
use Rattle.channel_calls.specs.Parts.{OwnOfferAnswer, HeldAnswer}
use Rattle.channel_calls.proofs.EndsTold.{end_is_told}
use Rattle.channel_calls.proofs.OwnClause.{plain_sent}
use Rattle.channel_calls.proofs.PlacedFull.{placed_in_full}
use Rattle.channel_calls.proofs.Untold.{told_looked, part_stopped, part_then}
use Rattle.call_meaning.specs.Seen.{SeenOnChannels, state_in}
use Rattle.channel_calls.proofs.Roomed.{IsRoomed, roomed}
use Rattle.channel_model.specs.declared.acts.Act.{Act}

unsettled : (who c : ℕ) (b : Bool) (x : Option Wait) → IsPlainOffer who c b x → IsUnsettledOf who x
unsettled who c b None h = h
unsettled who c b (Some x) h = (h.0, h.1)

owned : (who c : ℕ) (b : Bool) (x : Option Wait) → IsPlainOffer who c b x → IsOwnWait who x
owned who c b None h = h
owned who c b (Some x) h = h.0

pub own_offer : (who n : ℕ) (w : WaitId) (a b : Floor) → HasRoom n a b → OffersPlainly who w (replay a.seen) → IsOwn who w b
own_offer who n w a b r h = owned who w.channel _ _ (subst (λ es. OffersPlainly who w (replay es)) (sym r.seen) h).wait

-- the offer at a moment of a look
at_moment : (who n : ℕ) (w : WaitId) (a b d : Floor) (P : State → Type 0) → Legal d.shape d.seen → HasRoom n a b
    → OffersPlainly who w (replay a.seen) → Looked who b d → (m : AtStep b d P) → OffersPlainly who w (replay m.moment)
at_moment who n w a b d P l r h look m =
    let t = between who b.seen m.moment d.seen m.after m.before look.mine in
    plain_lasts d.shape who w [] b.seen m.moment (Legal-prefix d.shape m.moment m.before.0 (rw m.before.1 l)) m.after (t.0
    ∙ sym (nothing_more _)) refl (subst (λ es. OffersPlainly who w (replay es)) (sym r.seen) h)

-- and after it
after_look : (who n : ℕ) (w : WaitId) (a b d : Floor) → Legal d.shape d.seen → HasRoom n a b → OffersPlainly who w (replay a.seen)
    → Looked who b d → OffersPlainly who w (replay d.seen)
after_look who n w a b d l r h look = plain_lasts d.shape who w [] b.seen d.seen l look.longer (look.mine
    ∙ sym (nothing_more _)) refl (subst (λ es. OffersPlainly who w (replay es)) (sym r.seen) h)

-- ---- it is not settled

open_parts : (r : Option Resolution) → state_of_parts r None ≡ state.Settled → ⊥
open_parts None e = cc
open_parts (Some r) e = cc

not_settled : (who c : ℕ) (b : Bool) (x : Option Wait) → IsPlainOffer who c b x → state_of_wait x ≡ Some state.Settled → ⊥
not_settled who c b None h e = h
not_settled who c b (Some x) h e = (let k : state_of_parts x.resolved x.settled ≡ state.Settled = cc
    in open_parts x.resolved (ap (state_of_parts x.resolved) (sym h.1) ∙ k))

pub never_settled : (who n : ℕ) (w : WaitId) (a b d : Floor) → Legal d.shape d.seen → HasRoom n a b → OffersPlainly who w (replay a.seen)
    → LookAnswer who w b d state.Settled → ⊥
never_settled who n w a b d l r h look = not_settled who w.channel _ _ (at_moment who n w a b d _ l r h look.0 look.1).wait look.1.holds

-- it may be settled
some_resolved : (r : Option Resolution) → state_of_parts r None ≡ state.Resolved → is_some r ≡ true
some_resolved None e = cc
some_resolved (Some r) e = refl

ready_of : (who c : ℕ) (b : Bool) (x : Option Wait) → IsPlainOffer who c b x → state_of_wait x ≡ Some state.Resolved → IsReadyWait who x
ready_of who c b None h e = h
ready_of who c b (Some x) h e = (let k : state_of_parts x.resolved x.settled ≡ state.Resolved = cc
    in (h.0, some_resolved x.resolved (ap (state_of_parts x.resolved) (sym h.1) ∙ k), h.1))

pub ready_now : (who n : ℕ) (w : WaitId) (a b d : Floor) → Legal d.shape d.seen → HasRoom n a b → OffersPlainly who w (replay a.seen)
    → LookAnswer who w b d state.Resolved → IsReady who w d
ready_now who n w a b d l r h look =
    let m = look.1 in
    let t = between who b.seen m.moment d.seen m.after m.before look.0.mine in
    others_keep d.shape who (IsReadyWait who) (ready_stays who) w m.moment d.seen l m.before t.1
    (ready_of who w.channel _ _ (at_moment who n w a b d _ l r h look.0 m).wait m.holds)

-- ---- the ends that do not come

pub never_value : {who n k v : ℕ} {w : WaitId} {a b d e : Floor} → Legal d.shape d.seen → HasRoom n a b
    → OffersPlainly who w (replay a.seen) → LookAnswer who w b d state.Resolved → SettleAnswer who w false d e (settled.Value k v) → ⊥
never_value {who} {n} {k} {v} {w} {a} {b} {d} {e} l r h look s =
    ends_sent who w.channel k v _ _ (after_look who n w a b d l r h look.0).wait s.1

pub never_closed : {who n k v : ℕ} {w : WaitId} {a b d e : Floor} → Legal d.shape d.seen → HasRoom n a b
    → OffersPlainly who w (replay a.seen) → LookAnswer who w b d state.Resolved → SettleAnswer who w false d e (settled.Closed k v) → ⊥
never_closed {who} {n} {k} {v} {w} {a} {b} {d} {e} l r h look s =
    ends_unclosed who w.channel k v _ _ (after_look who n w a b d l r h look.0).wait s.1

pub never_undelivered : {who n v : ℕ} {w : WaitId} {a b d e : Floor} → Legal d.shape d.seen → HasRoom n a b
    → OffersPlainly who w (replay a.seen) → LookAnswer who w b d state.Resolved → SettleAnswer who w false d e (settled.Undelivered v) → ⊥
never_undelivered {who} {n} {v} {w} {a} {b} {d} {e} l r h look s =
    ends_delivered who w.channel v _ _ (after_look who n w a b d l r h look.0).wait s.1

-- the channel was voided, and so it was closed
voided_then : (who n : ℕ) (w : WaitId) (a b d e : Floor) → Legal d.shape d.seen → HasRoom n a b → OffersPlainly who w (replay a.seen)
    → LookAnswer who w b d state.Resolved → SettleAnswer who w false d e settled.Cancelled → IsSeenVoided w.channel d
voided_then who n w a b d e l r h look s = ends_voided who w.channel _ _ (after_look who n w a b d l r h look.0).wait s.1

pub never_open : {who who' n v : ℕ} {w : WaitId} {a b d e f : Floor} → Legal d.shape d.seen → Legal f.shape f.seen → HasRoom n a b
    → OffersPlainly who w (replay a.seen) → LookAnswer who w b d state.Resolved → SettleAnswer who w false d e settled.Cancelled
    → who' ≡ who → Made who' (Close w.channel v) e f → ⊥
never_open {who} {who'} {n} {v} {w} {a} {b} {d} {e} {f} l lf r h look s is m' =
    let m : Made who (Close w.channel v) e f = subst (λ x. Made x (Close w.channel v) e f) is m' in
    let last : Entry = record { who = who; act = Close w.channel v } in
    let t = Legal-last f.shape m.before last (subst (Legal f.shape) m.last lf) in
    let closed = voided_closed w.channel d l (voided_then who n w a b d e l r h look s) in
    let p = prefix_then d.seen e.seen m.before (added_made who (Settle w settled.Cancelled) d e s.0).longer m.longer in
    let before : Floor = record { shape = f.shape; seen = m.before; spare = 0; alone = true; callers = λ x. true; order = [] } in
    let k : is_some ((replay m.before).channels w.channel).closed ≡ true = closed_lasts w.channel d before t.0 p closed in
    let none : is_some ((replay m.before).channels w.channel).closed ≡ false = ap is_some t.1.1 in
    cc

-- ---- the ends that come

-- a look behind the room that was made
looked_roomed : (who n : ℕ) (a b d : Floor) → HasRoom n a b → Looked who b d → Looked who a d
looked_roomed who n a b d r h = record {
  same = record {
    shape = h.same.shape ∙ r.same.shape;
    alone = h.same.alone ∙ r.same.alone;
    callers = h.same.callers ∙ r.same.callers;
    order = order_then _ _ _ r.same.order h.same.order;
  };
  longer = subst (λ es. IsPrefix es d.seen) r.seen h.longer;
  mine = h.mine ∙ ap (acts_of who) r.seen;
  alone = λ e. h.alone (r.same.alone ∙ e) ∙ r.seen;
  spare = omega (arith, r.kept, h.spare);
}

pub still_waits : (d : SeenOnChannels) {n : ℕ} {w : WaitId} {a b : SeenOnChannels} → Legal d.floor.shape d.floor.seen → IsRoomed n a b
    → OffersPlainly a.who w (state_in a) → LookAnswer a.who w b.floor d.floor state.Standing → d.who ≡ a.who → d.items ≡ b.items
    → OwnOfferAnswer w a d (Ok (send.Waits w))
still_waits d {n} {w} {a} {b} l r h look e f =
    let m = look.1 in
    let plain = after_look a.who n w a.floor b.floor d.floor l r.room h look.0 in (
      refl,
      e,
      f ∙ r.items,
      (
        looked_roomed a.who n a.floor b.floor d.floor r.room look.0,
        record { moment = m.moment; after = subst (λ es. IsPrefix es m.moment) r.room.seen m.after; before = m.before; holds = m.holds },
      ),
      subst (λ x. IsUnsettledOf x ((state_in d).waits w)) (sym e) (unsettled a.who w.channel _ _ plain.wait),
    )

pub sent_settled : {k n : ℕ} {w : WaitId} {a b e : SeenOnChannels} {d : Floor} → Legal d.shape d.seen → IsRoomed n a b
    → OffersPlainly a.who w (state_in a) → LookAnswer a.who w b.floor d state.Resolved
    → SettleAnswer a.who w false d e.floor (settled.Sent k)
    → e.who ≡ a.who → e.items ≡ b.items ++ settle_group w (settled.Sent k) → OwnOfferAnswer w a e (Ok send.Sent)
sent_settled {k} {n} {w} {a} {b} {e} {d} legal r h look s same g =
    let who : ℕ = a.who in
    let plain = after_look who n w a.floor b.floor d legal r.room h look.0 in
    let zero : k ≡ 0 = plain_sent d.shape d.seen who w.channel k _ w legal plain.wait s.1 in
    let ready : SeenOnChannels = record b { who = who } in
    let seen : SeenOnChannels = record { who = who; floor = d; items = b.items } in
    let first : ToldOnChannels ready seen [] = told_looked look.0 refl refl in
    let second : ToldOnChannels seen e (made (Settle w (settled.Sent k)) ∷ []) = end_is_told false (settled.Sent k) s same g in
    subst (λ m. ToldOnChannels a e (made (Settle w (settled.Sent m)) ∷ [])) zero (roomed r (told_then first second))

pub offer_voided : {v n : ℕ} {w : WaitId} {a b f : SeenOnChannels} {d e : Floor} → IsRoomed n a b
    → LookAnswer a.who w b.floor d state.Resolved
    → SettleAnswer a.who w false d e settled.Cancelled → ClosedWith f.who w.channel v e f.floor → f.who ≡ a.who
    → f.items ≡ b.items ++ settle_group w settled.Cancelled → OwnOfferAnswer w a f (Ok (send.Closed v))
offer_voided {v} {n} {w} {a} {b} {f} {d} {e} r look s m' same g =
    let who : ℕ = a.who in
    let m : ClosedWith who w.channel v e f.floor = subst (λ x. ClosedWith x w.channel v e f.floor) same m' in
    let told : List Told = on_channels (TakenBack w) ∷ made (Settle w settled.Cancelled) ∷ [] in
    let ready : SeenOnChannels = record b { who = who } in
    let seen : SeenOnChannels = record { who = who; floor = d; items = b.items } in
    let ended : SeenOnChannels = record { who = who; floor = e; items = f.items } in
    let first : ToldOnChannels ready seen [] = told_looked look.0 refl refl in
    let second : ToldOnChannels seen ended told = end_is_told false settled.Cancelled s refl g in
    let third : ToldOnChannels ended f [] = told_looked m.looked same refl in
    (roomed r (told_then first (told_then second third)), m.is_closed)

-- ---- after the admits

-- what admitting makes
acts_admitted : (c mark : ℕ) (places : List ℕ) → channel_acts_in
    (items_in (on_channels (NextIs c mark) ∷ (map (λ q. made (Admit c q)) places ++ on_channels (NoneToAdmit c mark) ∷ []))) ≡
    map (λ q. Admit c q) places
unfolding items_in
acts_admitted c mark [] = refl
acts_admitted c mark (q ∷ qs) = ap (λ l. Admit c q ∷ l) (acts_admitted c mark qs)

admits_quiet : (c : ℕ) (places : List ℕ) → list_all is_quiet (map (λ q. Admit c q) places) ≡ true
admits_quiet c [] = refl
admits_quiet c (q ∷ qs) = admits_quiet c qs

told_acts : (c : ℕ) (told : List Told) → (h : Admits c told) → channel_acts_in (items_in told) ≡ map (λ q. Admit c q) h.places
told_acts c told h = ap (λ l. channel_acts_in (items_in l)) h.all ∙ acts_admitted c h.mark h.places

-- the own offer after the admits
pub plain_admits : (w : WaitId) {a b : SeenOnChannels} → Legal b.floor.shape b.floor.seen → OffersPlainly a.who w (state_in a)
    → AdmittedAnswer w.channel a b (Ok tt) → OffersPlainly b.who w (state_in b)
plain_admits w {a} {b} l h m =
    let quiet = ap (list_all is_quiet) (told_acts w.channel m.told m.goes) ∙ admits_quiet w.channel m.goes.places in
    let acts : List Act = channel_acts_in (items_in m.told) in
    let added = m.left.added in
    subst (λ x. OffersPlainly x w (state_in b)) (sym m.left.who)
    (plain_lasts b.floor.shape a.who w acts a.floor.seen b.floor.seen l added.longer added.mine quiet h)

-- and a look at it
pub held_then : (w : WaitId) {a b : SeenOnChannels} (d : SeenOnChannels) (result : Result SendAnswer Memory)
    → AdmittedAnswer w.channel a b (Ok tt)
    → OwnOfferAnswer w b d result → HeldAnswer w a d result
held_then w d (Ok send.Sent) h m =
    let end : List Told = made (Settle w (settled.Sent 0)) ∷ [] in
    record { told = h.told ++ end; goes = record { admits = h.told; goes = h.goes; all = refl }; left = told_then h.left m }
held_then w {a} {b} d (Ok (send.Waits v)) h m =
    let none : ToldOnChannels b d [] = told_looked m.3.0 m.1 m.2 in (
      m.0,
      record { told = h.told; goes = h.goes; left = subst (ToldOnChannels a d) (nothing_more h.told) (told_then h.left none) },
      record { between = b; before = h.left; look = m.3; who = m.1; items = m.2; holds = m.4 },
    )
held_then w d (Ok (send.Closed x)) h m =
    let end : List Told = on_channels (TakenBack w) ∷ made (Settle w settled.Cancelled) ∷ [] in (
      record { told = h.told ++ end; goes = record { admits = h.told; goes = h.goes; all = refl }; left = told_then h.left m.0 },
      m.1,
    )
held_then w d (Ok send.Spent) h m = m
held_then w d (Err memory) h m =
    part_stopped (Admits w.channel) h.told [] (subst (Admits w.channel) (sym (nothing_more h.told)) h.goes) h.left m

-- a wait that a look found is left
pub left_seen : {w : WaitId} {told : List Told} {a d : SeenOnChannels} → IsSeenWaiting w told a d
    → IsLeftWaiting w (channel_acts_in (items_in told)) a d
left_seen {w} {told} {a} {d} h =
    let who : ℕ = a.who in
    let b : Floor = h.between.floor in
    let look : LookAnswer who w b d.floor state.Standing = subst (λ n. LookAnswer n w b d.floor state.Standing) h.before.who h.look in
    let m = look.1 in
    record {
      stood = record {
        moment = m.moment;
        after = prefix_then a.floor.seen b.seen m.moment h.before.added.longer m.after;
        before = m.before;
        mine = (between who b.seen m.moment d.floor.seen m.after m.before look.0.mine).0 ∙ h.before.added.mine;
        holds = m.holds;
      };
      holds = h.holds;
    }

-- ---- with the offer before

-- an own offer was placed in a full channel
pub record IsOffered (c v q : ℕ) (a b : SeenOnChannels) : Type 0 where
  pub n : ℕ
  pub ready : Floor
  pub room : HasRoom n a.floor ready
  pub made_it : Made a.who (Offer c q v (wait_at c q) 0) ready b.floor
  pub told : ToldOnChannels a b (on_channels (WasFull c) ∷ made (Offer c q v (wait_at c q) 0) ∷ [])

abbrev first : ℕ → ℕ → ℕ → List Told
first c v q = on_channels (WasFull c) ∷ made (Offer c q v (wait_at c q) 0) ∷ []

seen_offered : {c v q : ℕ} {a b d : SeenOnChannels} (told : List Told) → IsOffered c v q a b → IsSeenWaiting (wait_at c q) told b d
    → IsSeenWaiting (wait_at c q) (first c v q ++ told) a d
seen_offered told o m = record {
  between = m.between;
  before = told_then o.told m.before;
  look = m.look;
  who = m.who;
  items = m.items;
  holds = m.holds;
}

-- it was placed in a full channel
placed_so : {c v q : ℕ} {a b d : SeenOnChannels} (told : List Told) → Legal d.floor.shape d.floor.seen → IsOffered c v q a b → Admits c told
    → IsSeenWaiting (wait_at c q) told b d → WasPlacedFull c v q a d
placed_so {c} {v} {q} {a} {b} {d} told l o h m =
    let made_it : Made a.who (Offer c q v (wait_at c q) 0) o.ready b.floor = o.made_it in
    let longer = prefix_then b.floor.seen m.between.floor.seen d.floor.seen m.before.added.longer m.look.0.longer in
    let full = placed_in_full c v q l made_it h m.before o.told.who m.look in
    record {
      before = made_it.before;
      begins = subst (λ es. IsPrefix es made_it.before) o.room.seen made_it.longer;
      placed = subst (λ es. IsPrefix es d.floor.seen) made_it.last longer;
      full = subst (λ (s : Shape). IsFullAt s c (replay made_it.before)) o.told.added.same.shape full;
    }

pub held_sends : {c v q : ℕ} {a b : SeenOnChannels} (d : SeenOnChannels) (result : Result SendAnswer Memory)
    → Legal d.floor.shape d.floor.seen
    → IsOffered c v q a b → HeldAnswer (wait_at c q) b d result → SentAnswer c v a d result
held_sends {c} {v} {q} d (Ok send.Sent) l o m = record {
  told = first c v q ++ m.told;
  goes = IsSent.offered q m.goes.admits (first c v q ++ m.told) m.goes.goes (ap (λ l. first c v q ++ l) m.goes.all);
  left = told_then o.told m.left;
}
held_sends {c} {v} {q} {a} {b} d (Ok (send.Waits u)) l o m =
    let t : Tells (Goes (sends c v) (Waits (wait_at c q))) a d = record {
      told = first c v q ++ m.1.told;
      goes = PlainCall.offers c v q m.1.told m.1.goes;
      left = told_then o.told m.1.left;
    } in
    subst (λ w. SentAnswer c v a d (Ok (send.Waits w))) (sym m.0) (t, seen_offered m.1.told o m.2, placed_so m.1.told l o m.1.goes m.2)
held_sends {c} {v} {q} d (Ok (send.Closed x)) l o m = (
  record {
    told = first c v q ++ m.0.told;
    goes = IsUnsent.voided q m.0.goes.admits (first c v q ++ m.0.told) m.0.goes.goes (ap (λ l. first c v q ++ l) m.0.goes.all);
    left = told_then o.told m.0.left;
  },
  m.1,
)
held_sends d (Ok send.Spent) l o m = absurd m
held_sends {c} {v} {q} d (Err memory) l o m =
    part_then (Admits c) (GoesSomehow (sends c v)) (first c v q) (λ all h. (Waits (wait_at c q), PlainCall.offers c v q all h)) o.told m
