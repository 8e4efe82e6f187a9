-- What the placing of a clause tells and leaves, by the floor's answer.
use Rattle.std.specs.Prelude.{◌≡◌, ℕ, ◌==◌, Bool, true, false, List, [], ◌∷◌, ◌++◌, Option, Some, None, Ok, refl, if◌then◌else◌}
use Rattle.std.specs.List.{list_any}
use Rattle.std.proofs.Common.{sym, ap, ◌∙◌, subst, arith}
use Rattle.std.proofs.lemmas.Bool.Decides.{nat_tests}
use Rattle.std.proofs.lemmas.Bool.{or_left, or_right}
use Rattle.co_base.specs.declared.names.WaitId.{WaitId}
use Rattle.channel_model.specs.declared.acts.Act.{Act}
use Rattle.channel_model.specs.declared.acts.Act.TheVariants.{Offer, Await}
use Rattle.channel_model.specs.declared.acts.ChannelNote.TheVariants.{SendClosed, ReceiveClosed, Partner, Spent, MainResolved}
use Rattle.channel_model.specs.declared.floor.Registered.TheVariants as registered
use Rattle.channel_model.specs.declared.standing.Receiver.{Receiver}
use Rattle.channel_model.specs.declared.standing.Standing.{Standing as StandingOffer}
use Rattle.channel_model.specs.Channels.{Shape, State, Channel}
use Rattle.channel_model.specs.Effects.{after, put_wait, put_channel, name_clause}
use Rattle.channel_model.specs.Needs.{Needs}
use Rattle.channel_model.specs.Histories.{replay, Legal}
use Rattle.channel_model.specs.Floors.{Floor, Looked, Made, AtStep}
use Rattle.channel_model.specs.Answers.{ClosedWith, IsSpentForOffers, IsSpentForReceives, IsDrainedAndClosed, state_of_wait}
use Rattle.channel_model.specs.Registers.{main_at, IsMainResolved, StandsReceiver, StandsOffer, RegisterOfferAnswer, RegisterReceiveAnswer}
use Rattle.channel_model.proofs.Histories.{replay_push, Legal-last, Legal-prefix}
use Rattle.channel_model.proofs.Placed.{Placed, replay_placed}
use Rattle.channel_model.proofs.Waits.{at_wait}
use Rattle.channel_model.proofs.Spans.{prefix_self}
use Rattle.note_book.specs.declared.book.Item.{Item}
use Rattle.note_book.specs.declared.book.Item.TheVariants as item
use Rattle.call_meaning.specs.Telling.{ReceiverAt, OfferAt, SpentForOffers, SpentForReceives, on_channels, heard}
use Rattle.call_meaning.specs.Facts.{ActHolds, ChannelNoteHolds, IsClosedWith, IsDrained}
use Rattle.call_meaning.specs.Seen.{SeenOnChannels, state_in}
use Rattle.call_meaning.specs.ChannelCalls.{Call, sends, receives, Done, Closed, Refused, Stops, spent}
use Rattle.call_meaning.proofs.ChannelsHeard.{told_made, told_met, told_met_after, moment_before}
use Rattle.channel_calls.proofs.Roomed.{IsRoomed, roomed}
use Rattle.channel_calls.specs.Groups.{made_note}
use Rattle.channel_calls.specs.Calls.{Tells}
use Rattle.select_calls.specs.declared.placing.Placed.TheVariants as placing
use Rattle.select_calls.specs.Parts.{HasClauses, HasPlaced, ResolvedAfter, NotesResolved, PlacedAnswer}
use Rattle.select_calls.proofs.OwnClauses.{others_keep_clauses, begun_has, joined_has}
use Rattle.select_calls.proofs.StillMoments.{still}
use Rattle.channel_calls.proofs.ReceivesTold.{closed_as}

-- ---- an act that names a clause

-- the act gives the wait clause k at channel c, of which it takes this place, and changes no other channel
record Names (who k c place : ℕ) (w : WaitId) (act : Act) : Type 0 where
  waits : (s : State) → (after s who act).waits ≡ put_wait w (name_clause who k c (s.waits w)) s.waits
  others : (s : State) (x : ℕ) → (x ≡ c → ⊥) → (after s who act).channels x ≡ s.channels x
  first : (shape : Shape) (s : State) → Needs shape s who act → place ≡ (s.channels c).next

other_channel : (c x : ℕ) (ch : Channel) (channels : ℕ → Channel) → (x ≡ c → ⊥) → put_channel c ch channels x ≡ channels x
other_channel c x ch channels n = by_test (c == x) refl
  where
    by_test : (b : Bool) → (c == x) ≡ b → (if b then ch else channels x) ≡ channels x
    by_test true e = absurd (n (grind (arith, nat_tests)))
    by_test false e = refl

offer_names : (who k c place v : ℕ) (w : WaitId) → Names who k c place w (Offer c place v w k)
offer_names who k c place v w = record {
  waits = λ s. refl;
  others = λ s x n. other_channel c x _ s.channels n;
  first =
      λ shape s m. m.1.first;
}

await_names : (who k c place : ℕ) (w : WaitId) → Names who k c place w (Await c place w k)
await_names who k c place w = record {
  waits = λ s. refl;
  others = λ s x n. other_channel c x _ s.channels n;
  first =
      λ shape s m. m.1.first;
}

module _ {k c place n : ℕ} {w : WaitId} {act : Act} {a b : SeenOnChannels} {d : Floor} (h : IsRoomed n a b) (l : Legal d.shape d.seen)
    (names : Names a.who k c place w act) (m : Made a.who act b.floor d) where
  before_legal : Legal d.shape m.before × Needs d.shape (replay m.before) a.who act
  before_legal = Legal-last d.shape m.before (record { who = a.who; act = act }) (subst (Legal d.shape) m.last l)

  now_waits : (replay d.seen).waits w ≡ name_clause a.who k c ((replay m.before).waits w)
  now_waits =
      ap (λ es. (replay es).waits w) m.last
      ∙ ap (λ (s : State). s.waits w) (replay_push m.before (record { who = a.who; act = act }))
      ∙ ap (λ f. f w) (names.waits (replay m.before))
      ∙ at_wait w _ (replay m.before).waits

  none_before : w ≡ record { channel = c; place = place } → (replay m.before).waits w ≡ None
  none_before e =
      let at : place ≡ ((replay m.before).channels c).next = names.first d.shape (replay m.before) before_legal.1 in
      ap (replay m.before).waits e ∙ replay_placed d.shape m.before before_legal.0 (record { channel = c; place = place })
      (omega (arith, at))

  begins_at : w ≡ record { channel = c; place = place } → (replay d.seen).waits w ≡ name_clause a.who k c None
  begins_at e = now_waits ∙ ap (name_clause a.who k c) (none_before e)

  has_now : (main : Option WaitId) (cs : List (ℕ × ℕ)) → w ≡ main_at c place main → HasPlaced main cs a
      → HasClauses a.who (cs ++ (k, c) ∷ []) ((replay d.seen).waits w)
  has_now None cs e f = subst (λ x. HasClauses a.who (cs ++ (k, c) ∷ []) x) (sym (begins_at e))
      (subst (λ xs. HasClauses a.who (xs ++ (k, c) ∷ []) (name_clause a.who k c None)) (sym f) (begun_has a.who k c))
  has_now (Some u) cs e f =
      let at_b : HasClauses a.who cs ((state_in b).waits w) =
      subst (λ es. HasClauses a.who cs ((replay es).waits w)) (sym h.room.seen)
      (subst (λ x. HasClauses a.who cs ((state_in a).waits x)) (sym e) f) in
      let placed_b : Placed (state_in b) = replay_placed d.shape b.floor.seen
      (Legal-prefix d.shape b.floor.seen m.longer.0 (subst (Legal d.shape) (sym m.longer.1) before_legal.0)) in
      let at_before = others_keep_clauses d.shape a.who cs w b.floor.seen m.before before_legal.0 placed_b m.longer m.mine at_b in
      subst (HasClauses a.who (cs ++ (k, c) ∷ [])) (sym now_waits) (joined_has a.who k c cs ((replay m.before).waits w) at_before)

  other_channels : a.floor.alone ≡ true → (x : ℕ) → (x ≡ c → ⊥) → (replay d.seen).channels x ≡ (state_in a).channels x
  other_channels alone x ne =
      let same : m.before ≡ a.floor.seen = m.alone (h.room.same.alone ∙ alone) ∙ h.room.seen in
      ap (λ es. (replay es).channels x) m.last
      ∙ ap (λ (s : State). s.channels x) (replay_push m.before (record { who = a.who; act = act }))
      ∙ names.others (replay m.before) x ne
      ∙ ap (λ es. (replay es).channels x) same

-- what a caller sees behind a call of its floor, with this in its book
abbrev pub behind : SeenOnChannels → Floor → List Item → SeenOnChannels
behind a d l = record { who = a.who; floor = d; items = l }

-- what is placed is not settled when others did something
held_on : {n : ℕ} {a b : SeenOnChannels} {d : Floor} (l : List Item) (main : Option WaitId) → Legal d.shape d.seen → IsRoomed n a b
    → Looked a.who b.floor d → (cs : List (ℕ × ℕ)) → HasPlaced main cs a → HasPlaced main cs (behind a d l)
held_on l None legal h m cs f = f
held_on {n} {a} {b} {d} l (Some w) legal h m cs f =
    let legal_b : Legal d.shape b.floor.seen = Legal-prefix d.shape b.floor.seen m.longer.0 (subst (Legal d.shape) (sym m.longer.1) legal)
    in
    let at_b : HasClauses a.who cs ((state_in b).waits w) = subst (λ es. HasClauses a.who cs ((replay es).waits w)) (sym h.room.seen) f in
    others_keep_clauses d.shape a.who cs w b.floor.seen d.seen legal (replay_placed d.shape b.floor.seen legal_b) m.longer m.mine at_b

none_stands : {A : Type 0} (place : ℕ) (rs : List Receiver) → rs ≡ [] → list_any (λ r. r.place == place) rs ≡ true → A
none_stands place rs e f = let no_way : false ≡ true = ap (list_any (λ (r : Receiver). r.place == place)) (sym e) ∙ f in cc

none_queued : {A : Type 0} (place : ℕ) (os : List StandingOffer) → os ≡ [] → list_any (λ o. o.place == place) os ≡ true → A
none_queued place os e f = let no_way : false ≡ true = ap (list_any (λ (o : StandingOffer). o.place == place)) (sym e) ∙ f in cc

not_both : {A : Type 0} {x : Option ℕ} {v : ℕ} → x ≡ None → x ≡ Some v → A
not_both e f = let no_way : None ≡ Some _ = sym e ∙ f in cc

-- ---- a clause that sends

now_closed : (c x : ℕ) {who : ℕ} {b d : Floor} → ClosedWith who c x b d → AtStep b d (IsClosedWith c x)
now_closed c x {who} {b} {d} o = record { moment = d.seen; after = o.looked.longer; before = prefix_self d.seen; holds = o.is_closed }

-- what the others left is so at this moment too
blocked_still : {n : ℕ} {a b : SeenOnChannels} {d : Floor} (P : State → Type 0) → IsRoomed n a b → Looked a.who b.floor d
    → AtStep b.floor d P
    → a.floor.alone ≡ true → P (state_in a)
blocked_still {n} {a} {b} {d} P h o m alone =
    let s = still a.who n a.floor b.floor d P h.room o m alone in
    subst (λ es. P (replay es)) s.0 s.1

module _ (c v k : ℕ) (main : Option WaitId) {n : ℕ} {a b : SeenOnChannels} {d : Floor} {l : List Item} (h : IsRoomed n a b)
    (legal : Legal d.shape d.seen) where
  pub send_stands : {place : ℕ} {w : WaitId} → w ≡ main_at c place main
      → RegisterOfferAnswer a.who main k c v b.floor d (registered.Stands place) → l ≡ b.items ++ made_note (Offer c place v w k) ∷ []
      → PlacedAnswer (sends c v) main k a (behind a d l) (Ok (placing.Stands w))
  send_stands {place} {w} is o f =
      let act : Act = Offer c place v w k in
      let m : Made a.who act b.floor d = subst (λ u. Made a.who (Offer c place v u k) b.floor d) (sym is) o in
      let names : Names a.who k c place w act = offer_names a.who k c place v w in
      record {
        place = place;
        wait = is;
        told = roomed h (told_made act m (moment_before a.who act b.floor d (ActHolds act) m tt) refl f);
        clauses = λ cs g. has_now h legal names m main cs is g;
        begins = λ none. ap state_of_wait (begins_at h legal names m (is ∙ ap (main_at c place) none));
        others = other_channels h legal names m;
      }

  pub send_partner : (place : ℕ) → RegisterOfferAnswer a.who main k c v b.floor d (registered.Partner place)
      → l ≡ b.items ++ item.Channel (Partner c place) ∷ [] → PlacedAnswer (sends c v) main k a (behind a d l) (Ok placing.Changed)
  send_partner place o f = (
    (
      record {
        told = on_channels (ReceiverAt c place) ∷ heard (Partner c place) ∷ [];
        goes = Stops.receiver c v place;
        left = roomed h (told_met_after (ReceiverAt c place) (Partner c place) refl o.0 o.1 (or_left _ _ o.1.holds) refl f);
      },
      held_on l main legal h o.0,
    ),
    λ alone x. none_stands place _ x.nobody (blocked_still (StandsReceiver c place) h o.0 o.1 alone),
  )

  pub send_closed : {x : ℕ} → RegisterOfferAnswer a.who main k c v b.floor d (registered.Closed x)
      → l ≡ b.items ++ item.Channel (SendClosed c v x) ∷ [] → PlacedAnswer (sends c v) main k a (behind a d l) (Ok placing.Changed)
  send_closed {x} o f = (
    (
      record {
        told = heard (SendClosed c v x) ∷ [];
        goes = Stops.closed (sends c v) (heard (SendClosed c v x)) Done (Refused.send c v x);
        left = roomed h (told_met (SendClosed c v x) refl o.looked (now_closed c x o) refl f);
      },
      held_on l main legal h o.looked,
    ),
    λ alone y. not_both y.not_closed (blocked_still (IsClosedWith c x) h o.looked (now_closed c x o) alone),
  )

  pub send_spent : RegisterOfferAnswer a.who main k c v b.floor d registered.Spent → l ≡ b.items ++ item.Channel (Spent c) ∷ []
      → PlacedAnswer (sends c v) main k a (behind a d l) (Ok placing.Spent)
  send_spent o f =
      let m : IsSpentForOffers b.floor.shape c (replay o.1.moment) = o.1.holds in (
        record {
          told = spent (sends c v);
          goes = Stops.no_place (sends c v) (spent (sends c v)) refl;
          left = roomed h
              (told_met_after (SpentForOffers c) (Spent c) refl o.0 o.1 (record { is_open = m.not_closed; spent = m.spent }) refl f);
        },
        held_on l main legal h o.0,
      )

-- the select's wait was resolved
pub resolved : (call : Call) (k : ℕ) (main : Option WaitId) {n : ℕ} {a b : SeenOnChannels} {d : Floor} {l : List Item} → IsRoomed n a b
    → Legal d.shape d.seen → Looked a.who b.floor d → IsMainResolved main d → NotesResolved main b.items l
    → PlacedAnswer call main k a (behind a d l) (Ok placing.Resolved)
resolved call k main {n} {a} {b} {d} {l} h legal o is f = (by_main main is f, held_on l main legal h o)
  where
    by_main : (u : Option WaitId) → IsMainResolved u d → NotesResolved u b.items l → Tells (ResolvedAfter u) a (behind a d l)
    by_main None r g = absurd r
    by_main (Some w) r g =
        let at : AtStep b.floor d (ChannelNoteHolds b.floor.shape (MainResolved w)) =
        record { moment = d.seen; after = o.longer; before = prefix_self d.seen; holds = r } in
        record { told = heard (MainResolved w) ∷ []; goes = refl; left = roomed h (told_met (MainResolved w) refl o at refl g) }

-- ---- a clause that receives

module _ (c k : ℕ) (main : Option WaitId) {n : ℕ} {a b : SeenOnChannels} {d : Floor} {l : List Item} (h : IsRoomed n a b)
    (legal : Legal d.shape d.seen) where
  pub receive_stands : {place : ℕ} {w : WaitId} → w ≡ main_at c place main
      → RegisterReceiveAnswer a.who main k c b.floor d (registered.Stands place) → l ≡ b.items ++ made_note (Await c place w k) ∷ []
      → PlacedAnswer (receives c) main k a (behind a d l) (Ok (placing.Stands w))
  receive_stands {place} {w} is o f =
      let act : Act = Await c place w k in
      let m : Made a.who act b.floor d = subst (λ u. Made a.who (Await c place u k) b.floor d) (sym is) o in
      let names : Names a.who k c place w act = await_names a.who k c place w in
      record {
        place = place;
        wait = is;
        told = roomed h (told_made act m (moment_before a.who act b.floor d (ActHolds act) m tt) refl f);
        clauses = λ cs g. has_now h legal names m main cs is g;
        begins = λ none. ap state_of_wait (begins_at h legal names m (is ∙ ap (main_at c place) none));
        others = other_channels h legal names m;
      }

  pub receive_partner : (place : ℕ) → RegisterReceiveAnswer a.who main k c b.floor d (registered.Partner place)
      → l ≡ b.items ++ item.Channel (Partner c place) ∷ [] → PlacedAnswer (receives c) main k a (behind a d l) (Ok placing.Changed)
  receive_partner place o f = (
    (
      record {
        told = on_channels (OfferAt c place) ∷ heard (Partner c place) ∷ [];
        goes = Stops.offer c place;
        left = roomed h (told_met_after (OfferAt c place) (Partner c place) refl o.0 o.1 (or_right _ _ o.1.holds) refl f);
      },
      held_on l main legal h o.0,
    ),
    λ alone x. none_queued place _ x.nothing (blocked_still (StandsOffer c place) h o.0 o.1 alone),
  )

  pub receive_closed : {x : ℕ} → RegisterReceiveAnswer a.who main k c b.floor d (registered.Closed x)
      → l ≡ b.items ++ item.Channel (ReceiveClosed c x) ∷ [] → PlacedAnswer (receives c) main k a (behind a d l) (Ok placing.Changed)
  receive_closed {x} o f =
      let m : AtStep b.floor d (IsDrainedAndClosed c) = o.1 in
      let drained : IsDrained c x (replay m.moment) = record {
        is_closed = closed_as d.shape c x m.moment d.seen m.before.0 m.before.1 legal m.holds.is_closed o.0.is_closed;
        nothing = m.holds.nothing;
      } in (
        (
          record {
            told = heard (ReceiveClosed c x) ∷ [];
            goes = Stops.closed (receives c) (heard (ReceiveClosed c x)) (Closed x) (Refused.receive c x);
            left = roomed h
                (told_met (ReceiveClosed c x) refl o.0.looked (record
                { moment = m.moment; after = m.after; before = m.before; holds = drained }) refl f);
          },
          held_on l main legal h o.0.looked,
        ),
        λ alone y. not_both y.not_closed (blocked_still (IsClosedWith c x) h o.0.looked (now_closed c x o.0) alone),
      )

  pub receive_spent : RegisterReceiveAnswer a.who main k c b.floor d registered.Spent → l ≡ b.items ++ item.Channel (Spent c) ∷ []
      → PlacedAnswer (receives c) main k a (behind a d l) (Ok placing.Spent)
  receive_spent o f =
      let m : IsSpentForReceives b.floor.shape c (replay o.1.moment) = o.1.holds in (
        record {
          told = spent (receives c);
          goes = Stops.no_place (receives c) (spent (receives c)) refl;
          left = roomed h
              (told_met_after (SpentForReceives c) (Spent c) refl o.0 o.1 (record { is_open = m.not_closed; spent = m.spent }) refl f);
        },
        held_on l main legal h o.0,
      )
