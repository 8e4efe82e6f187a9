-- How a done channel is closed, and its receiver told.
use Rattle.std.specs.Prelude.{◌≡◌, ℕ, ◌+◌, ◌<◌, true, List, [], ◌∷◌, ◌++◌, length, is_some, refl}
use Rattle.std.proofs.Common.{sym, ap, ◌∙◌, subst, append_assoc, arith, length-append}
use Rattle.channel_model.specs.declared.acts.Act.{Act}
use Rattle.channel_model.specs.declared.acts.Act.TheVariants.{Close, WakeClosed}
use Rattle.channel_model.specs.declared.acts.ChannelNote.TheVariants.{AlreadyClosed}
use Rattle.channel_model.specs.declared.acts.ChannelNote.TheVariants as of_channel
use Rattle.channel_model.specs.declared.acts.Entry.{Entry}
use Rattle.channel_model.specs.Channels.{Shape, places_at}
use Rattle.channel_model.specs.Histories.{replay, Legal}
use Rattle.channel_model.specs.Floors.{Floor, Looked, Made, AtStep}
use Rattle.channel_model.specs.Answers.{ClosedWith, IsSeenClosed}
use Rattle.channel_model.proofs.Lasts.{closed_lasts, close_made}
use Rattle.channel_model.proofs.Spans.{nothing_more, prefix_self}
use Rattle.job_model.specs.declared.acts.End.{End}
use Rattle.job_model.specs.Done.{done_channel}
use Rattle.job_model.specs.Floors.{Floor as JobFloor}
use Rattle.note_book.specs.declared.book.Item.{Item}
use Rattle.note_book.specs.declared.book.Item.TheVariants as item
use Rattle.note_book.specs.Items.{job_acts_in}
use Rattle.call_meaning.specs.Telling.{Told, on_channels, NoReceiver, items_in, made, heard}
use Rattle.call_meaning.specs.Facts.{ActHolds}
use Rattle.call_meaning.specs.Seen.{SeenOnChannels}
use Rattle.call_meaning.specs.ChannelCalls.{Wakes, Closes}
use Rattle.call_meaning.specs.JobCalls.{value_of}
use Rattle.call_meaning.specs.Calls.{ToldOnChannels}
use Rattle.call_meaning.specs.Orders.{HasHeard, IsToldOfJobs}
use Rattle.scope_builders.specs.Dones.{IsTold, ClosesFirst, ClosedFirst, WokenLast, EndsDone}
use Rattle.call_meaning.proofs.ChannelsHeard.{told_made, moment_before, told_met, told_then, told_now}
use Rattle.channel_calls.proofs.Untold.{told_seen}
use Rattle.scope_builders.proofs.OnePlace.{nobody_left}

-- ---- the close

pub closed_now : {c v : ℕ} {a b : SeenOnChannels} → Made a.who (Close c v) a.floor b.floor → b.who ≡ a.who
    → b.items ≡ a.items ++ item.Channel (of_channel.Made (Close c v)) ∷ [] → ClosedFirst c v a b
unfolding items_in
closed_now {c} {v} {a} {b} h w e = record {
  who = w;
  told = made (Close c v);
  first = ClosesFirst.now;
  is_told = λ book. told_made (Close c v) h (moment_before a.who (Close c v) a.floor b.floor (ActHolds (Close c v)) h tt) refl refl;
  noted = e;
  closed = close_made a.who c v a.floor b.floor h;
}

pub closed_before : {c v u : ℕ} {a b : SeenOnChannels} → ClosedWith a.who c u a.floor b.floor → b.who ≡ a.who
    → b.items ≡ a.items ++ item.Channel (AlreadyClosed c u) ∷ [] → ClosedFirst c v a b
unfolding items_in
closed_before {c} {v} {u} {a} {b} h w e = record {
  who = w;
  told = heard (AlreadyClosed c u);
  first = ClosesFirst.before u;
  is_told = λ book.
      told_met (AlreadyClosed c u) refl h.looked
      (record { moment = b.floor.seen; after = h.looked.longer; before = prefix_self b.floor.seen; holds = h.is_closed }) refl refl;
  noted = e;
  closed = ap is_some h.is_closed;
}

-- ---- the receiver

pub woken : {c place : ℕ} {a b : SeenOnChannels} {s s' : ℕ} → Legal b.floor.shape b.floor.seen → places_at a.floor.shape c ≡ 1
    → Made a.who (WakeClosed c place) a.floor b.floor → b.who ≡ a.who
    → b.items ≡ a.items ++ item.Channel (of_channel.Made (WakeClosed c place)) ∷ [] → s ≡ s' + 1 → WokenLast c a b s s'
unfolding items_in
woken {c} {place} {a} {b} l one h w e room =
    let act : Act = WakeClosed c place in
    let shape : Shape = b.floor.shape in
    let one' : places_at shape c ≡ 1 = ap (λ (x : Shape). places_at x c) h.same.shape ∙ one in
    let left = nobody_left shape a.who c place h.before (subst (Legal shape) h.last l) one' in
    let nobody : ((replay b.floor.seen).channels c).receivers ≡ [] =
    ap (λ (xs : List Entry). ((replay xs).channels c).receivers) h.last ∙ left in
    record {
      who = w;
      told = made act ∷ on_channels (NoReceiver c) ∷ [];
      wakes = record { places = place ∷ []; all = refl };
      is_told = λ book. told_then (told_made act h (moment_before a.who act a.floor b.floor (ActHolds act) h tt) refl refl)
          (told_now (NoReceiver c) _ nobody);
      noted = e;
      few = omega arith;
      room = room;
    }

pub none_stood : {c : ℕ} {a b : SeenOnChannels} {s s' : ℕ} → Looked a.who a.floor b.floor
    → AtStep a.floor b.floor (λ x. (x.channels c).receivers ≡ []) → b.who ≡ a.who → b.items ≡ a.items → s ≡ s' → WokenLast c a b s s'
unfolding items_in
none_stood {c} {a} h m w e room = record {
  who = w;
  told = on_channels (NoReceiver c) ∷ [];
  wakes = record { places = []; all = refl };
  is_told = λ book. told_seen (NoReceiver c) h m refl (nothing_more book);
  noted = e ∙ sym (nothing_more a.items);
  few = omega arith;
  room = omega arith;
}

-- ---- both

-- the first note, and then those of the wakes
closes_both : (c v : ℕ) (first : Told) (wakes : List Told) → ClosesFirst c v first → Wakes c wakes → Closes c v (first ∷ wakes)
closes_both c v _ wakes ClosesFirst.now w = Closes.now wakes w
closes_both c v _ wakes (ClosesFirst.before u) w = Closes.before u wakes w

one_note : (c v : ℕ) (first : Told) → ClosesFirst c v first → length (items_in (first ∷ [])) ≡ 1
unfolding items_in
one_note c v _ ClosesFirst.now = refl
one_note c v _ (ClosesFirst.before u) = refl

first_then : (c v : ℕ) (first : Told) (wakes : List Told) → ClosesFirst c v first → items_in (first ∷ [])
    ++ items_in wakes ≡ items_in (first ∷ wakes)
unfolding items_in
first_then c v _ wakes ClosesFirst.now = refl
first_then c v _ wakes (ClosesFirst.before u) = refl

told_whole : (who c v : ℕ) (a b d : Floor) (first : Told) (wakes : List Told) → ClosesFirst c v first → IsTold who a b (first ∷ [])
    → IsTold who b d wakes → IsTold who a d (first ∷ wakes)
told_whole who c v a b d first wakes f h k book =
    let i : List Item = book ++ items_in (first ∷ []) in
    let old : SeenOnChannels = record { who = who; floor = a; items = book } in
    let new : List Item → SeenOnChannels = λ items. record { who = who; floor = d; items = items } in
    let is : i ++ items_in wakes ≡ book ++ items_in (first ∷ wakes) =
    append_assoc book (items_in (first ∷ [])) (items_in wakes) ∙ ap (λ (l : List Item). book ++ l) (first_then c v first wakes f) in
    subst (λ (l : List Item). ToldOnChannels old (new l) (first ∷ wakes)) is (told_then (h book) (k i))

pub both_told : {c v : ℕ} {a b d : SeenOnChannels} {s s' : ℕ} → (h : ClosedFirst c v a b) → (w : WokenLast c b d s s')
    → IsTold a.who a.floor d.floor (h.told ∷ w.told)
both_told {c} {v} {a} {b} {d} h w =
    let wakes : IsTold a.who b.floor d.floor w.told = subst (λ n. IsTold n b.floor d.floor w.told) h.who w.is_told in
    told_whole a.who c v a.floor b.floor d.floor h.told w.told h.first h.is_told wakes

-- the channel stays closed
pub closed_still : {c v : ℕ} {a b d : SeenOnChannels} {s s' : ℕ} → Legal d.floor.shape d.floor.seen → ClosedFirst c v a b
    → WokenLast c b d s s'
    → IsSeenClosed c d.floor
closed_still {c} {b = b} {d = d} l h w = closed_lasts c b.floor d.floor l (w.is_told []).added.longer h.closed

pub both_closed : {c v : ℕ} {a b d : SeenOnChannels} {s s' : ℕ} → (h : ClosedFirst c v a b) → (w : WokenLast c b d s s')
    → Closes c v (h.told ∷ w.told)
both_closed {c} {v} h w = closes_both c v h.told w.told h.first w.wakes

-- a done channel was closed, between two hearings
pub ends_done : {base rows row : ℕ} {end : End} {c v who : ℕ} {a b d e : Floor} {j k : JobFloor} {told : List Told} → row < rows
    → c ≡ done_channel base row → v ≡ value_of end → Closes c v told → IsToldOfJobs who a b j → IsTold who b d told → IsSeenClosed c d
    → e ≡ d → (j.joint ≡ true → HasHeard e k) → EndsDone who base rows row end a j e k (items_in told)
ends_done {end = end} {c = c} {who = who} {b = b} {e = e} {told = told} lt ec ev closes first is closed same heard =
    let by_value : Closes c (value_of end) told = subst (λ n. Closes c n told) ev closes in
    let closed_then : IsSeenClosed c e = subst (λ (x : Floor). IsSeenClosed c x) (sym same) closed in
    EndsDone.closes told (items_in told) b lt (subst (λ n. Closes n (value_of end) told) ec by_value) refl first
    (subst (λ (x : Floor). IsTold who b x told) (sym same) is)
    (subst (λ n. IsSeenClosed n e) ec closed_then) heard

-- its notes
pub ends_noted : {c v : ℕ} {a b d : SeenOnChannels} {s s' : ℕ} → (h : ClosedFirst c v a b) → (w : WokenLast c b d s s')
    → d.items ≡ a.items ++ items_in (h.told ∷ w.told)
ends_noted {c} {v} {a} h w =
    w.noted ∙ ap (λ (l : List Item). l ++ items_in w.told) h.noted ∙ append_assoc a.items (items_in (h.told ∷ [])) (items_in w.told)
    ∙ ap (λ (l : List Item). a.items ++ l) (first_then c v h.told w.told h.first)

pub ends_length : {c v : ℕ} {a b d : SeenOnChannels} {s s' : ℕ} → (h : ClosedFirst c v a b) → (w : WokenLast c b d s s')
    → length (items_in (h.told ∷ w.told)) ≡ length (items_in w.told) + 1
ends_length {c} {v} h w =
    ap length (sym (first_then c v h.told w.told h.first)) ∙ length-append (items_in (h.told ∷ [])) (items_in w.told)
    ∙ ap (λ n. n + length (items_in w.told)) (one_note c v h.told h.first) ∙ turned (length (items_in w.told))
  where
    turned : (n : ℕ) → 1 + n ≡ n + 1
    turned n = omega arith

-- no act on a Job
pub ends_no_jobs : {c v : ℕ} {a b d : SeenOnChannels} {s s' : ℕ} → (h : ClosedFirst c v a b) → (w : WokenLast c b d s s')
    → job_acts_in (items_in (h.told ∷ w.told)) ≡ []
ends_no_jobs h w = (both_told h w []).no_jobs
