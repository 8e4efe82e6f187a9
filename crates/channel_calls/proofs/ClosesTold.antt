-- What closing and cancelling a channel tell.
use Rattle.std.specs.Prelude.{◌≡◌, ℕ, Bool, true, false, List, [], ◌∷◌, ◌++◌, is_some, Ok, Err, refl}
use Rattle.std.proofs.Common.{sym, ap, subst, append_assoc}
use Rattle.co_base.specs.declared.names.Memory.{Memory}
use Rattle.channel_model.specs.declared.acts.Act.{Act}
use Rattle.channel_model.specs.declared.acts.Act.TheVariants.{Close, Void, Drain, WakeClosed}
use Rattle.channel_model.specs.declared.acts.ChannelNote.TheVariants.{AlreadyClosed}
use Rattle.channel_model.specs.Histories.{replay, Legal}
use Rattle.channel_model.specs.Floors.{Floor, HasRoom, Looked, Made, AtStep}
use Rattle.channel_model.specs.Answers.{IsSeenClosed, IsSeenVoided, StandsNobody, StandsNothing, ClosedWith}
use Rattle.channel_model.proofs.Spans.{prefix_self, added_made}
use Rattle.channel_model.proofs.Lasts.{closed_lasts, voided_lasts, close_made, void_made}
use Rattle.note_book.specs.declared.book.Item.TheVariants as item
use Rattle.call_meaning.specs.Telling.{Told, on_channels, NoReceiver, NothingQueued, IsVoided, made, heard}
use Rattle.call_meaning.specs.Facts.{ActHolds, ChannelNoteHolds}
use Rattle.call_meaning.specs.ChannelCalls.{Wakes, Drains, Closes, CancelsChannel}
use Rattle.call_meaning.specs.Calls.{ToldOnChannels}
use Rattle.call_meaning.proofs.Prefixes.{prefix_on}
use Rattle.call_meaning.proofs.ChannelsHeard.{told_then, told_made, told_met, told_now, moment_before}
use Rattle.channel_calls.specs.Groups.{made_note}
use Rattle.channel_calls.specs.Calls.{ToldPart, IsUntouched, ClosesBy, ClosedAnswer, CancelsBy, CancelledChannelAnswer}
use Rattle.channel_calls.specs.Parts.{WokenAnswer, ClosesOnce, ClosedOnceAnswer, void_told, VoidedOnceAnswer, DrainedAnswer}
use Rattle.channel_calls.proofs.AnswersGo.{closes_goes, cancels_goes}
use Rattle.channel_calls.proofs.Repeated.{Repeats, all_made, repeated_until, still_repeated}
use Rattle.channel_calls.proofs.Untold.{told_looked, part_none, part_stopped, part_then}
use Rattle.call_meaning.specs.Seen.{SeenOnChannels}
use Rattle.channel_calls.proofs.Roomed.{IsRoomed, roomed}

-- ---- what stays so

pub closed_roomed : (n c : ℕ) (a b : Floor) → HasRoom n a b → IsSeenClosed c a → IsSeenClosed c b
closed_roomed n c a b h e = subst (λ es. is_some ((replay es).channels c).closed ≡ true) (sym h.seen) e

pub closed_made : (who n c : ℕ) (act : Act) (a b d : Floor) → Legal d.shape d.seen → HasRoom n a b → Made who act b d → IsSeenClosed c a
    → IsSeenClosed c d
closed_made who n c act a b d l h m e = closed_lasts c b d l (added_made who act b d m).longer (closed_roomed n c a b h e)

pub voided_roomed : (n c : ℕ) (a b : Floor) → HasRoom n a b → IsSeenVoided c a → IsSeenVoided c b
voided_roomed n c a b h e = subst (λ es. ((replay es).channels c).voided ≡ true) (sym h.seen) e

pub voided_made : (who n c : ℕ) (act : Act) (a b d : Floor) → Legal d.shape d.seen → HasRoom n a b → Made who act b d → IsSeenVoided c a
    → IsSeenVoided c d
voided_made who n c act a b d l h m e = voided_lasts c b d l (added_made who act b d m).longer (voided_roomed n c a b h e)

-- ---- the parts of a close

pub closed_once : {c v n : ℕ} {a b d : SeenOnChannels} → IsRoomed n a b → Made a.who (Close c v) b.floor d.floor → d.who ≡ a.who
    → d.items ≡ b.items ++ made_note (Close c v) ∷ [] → ClosedOnceAnswer c v a d (Ok true)
closed_once {c} {v} {a = a} {b = b} {d = d} h m w f =
    let at = moment_before a.who (Close c v) b.floor d.floor (ActHolds (Close c v)) m tt in (
      record { told = made (Close c v) ∷ []; goes = ClosesOnce.now; left = roomed h (told_made (Close c v) m at w f) },
      close_made a.who c v b.floor d.floor m,
    )

pub closed_before : {c v x n : ℕ} {a b d : SeenOnChannels} → IsRoomed n a b → ClosedWith a.who c x b.floor d.floor → d.who ≡ a.who
    → d.items ≡ b.items ++ item.Channel (AlreadyClosed c x) ∷ [] → ClosedOnceAnswer c v a d (Ok false)
closed_before {c} {v} {x} {a = a} {b = b} {d = d} h m w f =
    let at : AtStep b.floor d.floor (ChannelNoteHolds b.floor.shape (AlreadyClosed c x)) =
    record { moment = d.floor.seen; after = m.looked.longer; before = prefix_self d.floor.seen; holds = m.is_closed } in (
      record {
        told = heard (AlreadyClosed c x) ∷ [];
        goes = ClosesOnce.before x;
        left = roomed h (told_met (AlreadyClosed c x) refl m.looked at w f);
      },
      ap is_some m.is_closed,
    )

pub woken_all : {c n : ℕ} {a b d e : SeenOnChannels} → (h : Repeats (λ q. WakeClosed c q) a b) → IsRoomed n b d
    → Looked b.who d.floor e.floor
    → AtStep d.floor e.floor (StandsNobody c) → e.who ≡ b.who → e.items ≡ d.items → WokenAnswer c a e (Ok tt)
woken_all {c} h r look at w g = record {
  told = all_made (λ q. WakeClosed c q) h.of ++ on_channels (NoReceiver c) ∷ [];
  goes = record { places = h.of; all = refl };
  left = repeated_until (λ q. WakeClosed c q) (NoReceiver c) h r look at w g;
}

-- nobody was to be woken
none_woken : (c : ℕ) → Wakes c (on_channels (NoReceiver c) ∷ [])
none_woken c = record { places = []; all = refl }

-- ---- close

closes_by : (c v : ℕ) (first : Bool) (xs wakes : List Told) → ClosesOnce c v first xs → Wakes c wakes → ClosesBy c v first (xs ++ wakes)
closes_by c v _ _ wakes ClosesOnce.now h = record { closes = Closes.now wakes h; by_this_call = refl }
closes_by c v _ _ wakes (ClosesOnce.before u) h = record { closes = Closes.before u wakes h; by_this_call = refl }

pub closed_all : {c v : ℕ} {first : Bool} {a b d : SeenOnChannels} → Legal d.floor.shape d.floor.seen → ClosedOnceAnswer c v a b (Ok first)
    → WokenAnswer c b d (Ok tt) → ClosedAnswer c v a d (Ok first)
closed_all {c} {v} {first} {b = b} {d = d} l h m = (
  record {
    told = h.0.told ++ m.told;
    goes = closes_by c v first h.0.told m.told h.0.goes m.goes;
    left = told_then h.0.left m.left;
  },
  closed_lasts c b.floor d.floor l m.left.added.longer h.1,
)

-- ---- the parts of a cancel

pub voided_now : {c n : ℕ} {a b d : SeenOnChannels} → IsRoomed n a b → Made a.who (Void c) b.floor d.floor → d.who ≡ a.who
    → d.items ≡ b.items ++ made_note (Void c) ∷ [] → VoidedOnceAnswer c a d (Ok true)
voided_now {c} {a = a} {b = b} {d = d} h m w f =
    let at = moment_before a.who (Void c) b.floor d.floor (ActHolds (Void c)) m tt in
    (roomed h (told_made (Void c) m at w f), void_made a.who c b.floor d.floor m)

pub voided_before : (c : ℕ) {n : ℕ} {a b d : SeenOnChannels} → IsRoomed n a b → Looked a.who b.floor d.floor → IsSeenVoided c d.floor
    → d.who ≡ a.who
    → d.items ≡ b.items → VoidedOnceAnswer c a d (Ok false)
voided_before c h m v w f = (roomed h (told_looked m w f), v)

-- an act that removes an element of a voided channel
abbrev pub drain_of : ℕ → ℕ × ℕ → Act
drain_of c d = Drain c d.0 d.1

pub drained_all : {c n : ℕ} {a b d e : SeenOnChannels} → Legal e.floor.shape e.floor.seen → (h : Repeats (drain_of c) a b) → IsRoomed n b d
    → Looked b.who d.floor e.floor → AtStep d.floor e.floor (StandsNothing c) → e.who ≡ b.who → e.items ≡ d.items → IsSeenVoided c b.floor
    → DrainedAnswer c a e (Ok tt)
drained_all {c} {n} {a} {b} {d} {e} l h r look at w g v =
    let acts : List Told = all_made (drain_of c) h.of in
    let none : List Told = on_channels (NothingQueued c) ∷ [] in
    let voided : IsSeenVoided c e.floor = voided_lasts c d.floor e.floor l look.longer (voided_roomed n c b.floor d.floor r.room v) in
    let first : ToldOnChannels a e (acts ++ none) = repeated_until (drain_of c) (NothingQueued c) h r look at w g in
    record {
      told = acts ++ on_channels (NothingQueued c) ∷ on_channels (IsVoided c) ∷ [];
      goes = record { drained = h.of; all = refl };
      left = subst (ToldOnChannels a e) (append_assoc acts none (on_channels (IsVoided c) ∷ []))
          (told_then first (told_now (IsVoided c) e voided));
    }

-- nothing was to be removed
none_drained : (c : ℕ) → Drains c (on_channels (NothingQueued c) ∷ on_channels (IsVoided c) ∷ [])
none_drained c = record { drained = []; all = refl }

-- ---- cancel

cancels_by : (c : ℕ) (closed first : Bool) (xs drains : List Told) → ClosesBy c 0 closed xs → Drains c drains
    → CancelsBy c first (xs ++ (void_told c first ++ drains))
cancels_by c closed true xs drains h m = record { cancels = CancelsChannel.now xs drains _ h.closes m refl; by_this_call = refl }
cancels_by c closed false xs drains h m = record { cancels = CancelsChannel.before xs drains _ h.closes m refl; by_this_call = refl }

pub cancelled_all : {c : ℕ} {closed first : Bool} {a b d e : SeenOnChannels} → Legal e.floor.shape e.floor.seen
    → ClosedAnswer c 0 a b (Ok closed)
    → VoidedOnceAnswer c b d (Ok first) → DrainedAnswer c d e (Ok tt) → CancelledChannelAnswer c a e (Ok first)
cancelled_all {c} {closed} {first} {d = d} {e = e} legal h v m = (
  record {
    told = h.0.told ++ (void_told c first ++ m.told);
    goes = cancels_by c closed first h.0.told m.told h.0.goes m.goes;
    left = told_then h.0.left (told_then v.0 m.left);
  },
  voided_lasts c d.floor e.floor legal m.left.added.longer v.1,
)

-- ---- no memory was found

module _ {c : ℕ} {a b d : SeenOnChannels} (m : Memory) where
  pub wakes_stopped : (h : Repeats (λ q. WakeClosed c q) a b) → IsUntouched b d → WokenAnswer c a d (Err m)
  wakes_stopped h u = still_repeated (λ q. WakeClosed c q) (Wakes c) (on_channels (NoReceiver c) ∷ []) h
      (record { places = h.of; all = refl }) u

  pub drains_stopped : (h : Repeats (drain_of c) a b) → IsUntouched b d → DrainedAnswer c a d (Err m)
  drains_stopped h u =
      still_repeated (drain_of c) (Drains c) (on_channels (NothingQueued c) ∷ on_channels (IsVoided c) ∷ []) h
      (record { drained = h.of; all = refl }) u

  -- the channel was closed
  pub close_stopped : {v : ℕ} {first : Bool} → ClosedOnceAnswer c v a b (Ok first) → WokenAnswer c b d (Err m)
      → ClosedAnswer c v a d (Err m)
  close_stopped {v} {first} h s =
      part_then (Wakes c) (Closes c v) h.0.told
      (λ all r. closes_goes c v first (h.0.told ++ all) (closes_by c v first h.0.told all h.0.goes r)) h.0.left s

  -- and not voided
  pub void_stopped : {closed : Bool} → ClosedAnswer c 0 a b (Ok closed) → IsUntouched b d → CancelledChannelAnswer c a d (Err m)
  void_stopped {closed} h u =
      let all = CancelsChannel.before h.0.told _ _ (closes_goes c 0 closed h.0.told h.0.goes) (none_drained c) refl in
      part_stopped (CancelsChannel c) h.0.told _ all h.0.left u

-- nothing was told
pub close_untold : {c v : ℕ} {a b : SeenOnChannels} → IsUntouched a b → ToldPart (Closes c v) a b
close_untold {c} {v} h = part_none (Closes c v) _ (Closes.before 0 _ (none_woken c)) h

-- the close stopped
pub cancel_untold : {c : ℕ} {a b : SeenOnChannels} (m : Memory) → ClosedAnswer c 0 a b (Err m) → CancelledChannelAnswer c a b (Err m)
cancel_untold {c} m h = record {
  told = h.told;
  goes = prefix_on (Closes c 0) (CancelsChannel c) _ (λ all r. CancelsChannel.before all _ _ r (none_drained c) refl) h.told h.goes;
  left = h.left;
}

-- it was closed and voided
pub cancel_stopped : {c : ℕ} {closed : Bool} (first : Bool) {a b d e : SeenOnChannels} (m : Memory) → ClosedAnswer c 0 a b (Ok closed)
    → VoidedOnceAnswer c b d (Ok first) → DrainedAnswer c d e (Err m) → CancelledChannelAnswer c a e (Err m)
cancel_stopped {c} {closed} first m h v s =
    part_then (Drains c) (CancelsChannel c) (h.0.told ++ void_told c first)
    (λ all r.
    subst (CancelsChannel c) (sym (append_assoc h.0.told (void_told c first) all))
    (cancels_goes c first _ (cancels_by c closed first h.0.told all h.0.goes r)))
    (told_then h.0.left v.0) s
