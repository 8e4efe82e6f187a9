-- What a receive on a done channel tells, by the floor's answer; and that it leaves the done channels as they were.
use Rattle.std.specs.Prelude.{◌≡◌, ℕ, ◌+◌, ◌==◌, ◌<◌, Bool, true, false, List, [], ◌∷◌, ◌++◌, is_some, Result, Ok, Err, refl, if◌then◌else◌}
use Rattle.std.proofs.Common.{sym, ap, ◌∙◌, subst, arith}
use Rattle.std.proofs.lemmas.Bool.{eqb-true}
use Rattle.std.proofs.lemmas.Option.{get_or_from_slice_get}
use Rattle.co_base.specs.declared.names.WaitId.{WaitId}
use Rattle.co_base.specs.declared.names.Memory.{Memory}
use Rattle.channel_model.specs.declared.acts.Act.{Act}
use Rattle.channel_model.specs.declared.acts.Act.TheVariants.{Await}
use Rattle.channel_model.specs.declared.acts.ChannelNote.TheVariants.{ReceiveClosed, Spent}
use Rattle.channel_model.specs.declared.acts.ChannelNote.TheVariants as of_channel
use Rattle.channel_model.specs.declared.acts.Entry.{Entry}
use Rattle.channel_model.specs.declared.standing.Receiver.{Receiver}
use Rattle.channel_model.specs.declared.floor.Got.TheVariants as got
use Rattle.channel_model.specs.declared.acts.Kind.{Kind}
use Rattle.channel_model.specs.declared.acts.Kind.TheVariants.{Signal}
use Rattle.channel_model.specs.Channels.{State, Channel, kind_at}
use Rattle.channel_model.specs.Effects.{after, place_receiver, is_open}
use Rattle.channel_model.specs.Histories.{replay, Legal}
use Rattle.channel_model.specs.Floors.{Floor, MayCall, AtStep, Added}
use Rattle.channel_model.specs.Answers.{GotAnswer, IsSpentForReceives, IsDrainedAndClosed}
use Rattle.channel_model.proofs.Histories.{replay_push}
use Rattle.channel_model.proofs.Spans.{nothing_more}
use Rattle.job_model.specs.Done.{done_channel}
use Rattle.job_model.specs.declared.acts.JobEntry.{JobEntry}
use Rattle.job_model.specs.Trees.{Shape as JobShape}
use Rattle.job_model.specs.Histories.{replay as replay_jobs}
use Rattle.job_model.specs.Laws.{has_ended}
use Rattle.job_model.specs.Floors.{Floor as JobFloor, Looked as LookedAtJobs}
use Rattle.job_model.proofs.Spans.{added_looked}
use Rattle.note_book.specs.declared.book.Item.{Item}
use Rattle.note_book.specs.declared.book.Item.TheVariants as item
use Rattle.note_book.specs.Items.{channel_acts_in}
use Rattle.call_meaning.specs.Telling.{Told, SpentForReceives, items_in, made, heard}
use Rattle.call_meaning.specs.Facts.{ActHolds, IsDrained}
use Rattle.call_meaning.specs.Seen.{SeenOnChannels, SeenOnBoth, channels_of}
use Rattle.call_meaning.specs.Calls.{ToldOnChannels}
use Rattle.call_meaning.specs.ChannelCalls.{Closed, Waits, receives, wait_at, spent, Refused, PlainCall}
use Rattle.call_meaning.proofs.ChannelsHeard.{told_made, told_met, told_met_after, moment_before}
use Rattle.call_meaning.specs.Orders.{HeardIfJoint}
use Rattle.call_meaning.proofs.JobTellings.{both_channels}
use Rattle.channel_calls.specs.Calls.{IsLeftWaiting}
use Rattle.channel_calls.proofs.Begun.{receiver_waits}
use Rattle.channel_calls.proofs.ReceivesTold.{closed_as}
use Rattle.scope_builders.specs.declared.builder.Joined.{Joined}
use Rattle.scope_builders.specs.declared.builder.Joined.TheVariants as joined
use Rattle.call_meaning.specs.Endings.{ClosesAtOnce}
use Rattle.scope_builders.specs.Dones.{SignalAnswer, KeepsDones}
use Rattle.scope_builders.specs.Calls.{MayBuild, TellsBoth, ReceivesDone, IsNothing, DoneAnswer}
use Rattle.channel_calls.proofs.Roomed.{IsRoomed, roomed, untouched}
use Rattle.channel_calls.proofs.Untold.{untouched_told}

-- ---- by the floor's answer

-- no memory
pub nothing_told : {a b : SeenOnChannels} → b.floor ≡ a.floor → b.who ≡ a.who → b.items ≡ a.items → ToldOnChannels a b []
nothing_told e w f = untouched_told (untouched e w f)

module _ {c n : ℕ} {a b d : SeenOnChannels} (h : IsRoomed n a b) where
  pub waits_told : {place : ℕ} → Legal d.floor.shape d.floor.seen → GotAnswer a.who c b.floor d.floor (got.Waiting place) → d.who ≡ a.who
      → d.items ≡ b.items ++ item.Channel (of_channel.Made (Await c place (wait_at c place) 0)) ∷ []
      → SignalAnswer c a d (Ok (joined.Waits (wait_at c place)))
  unfolding items_in
  waits_told {place} l o w f =
      let act : Act = Await c place (wait_at c place) 0 in
      let at = moment_before a.who act b.floor d.floor (ActHolds act) o tt in
      let left : ToldOnChannels a d (made act ∷ []) = roomed h (told_made act o at w f) in
      record { place = place; named = refl; left = left; waits = receiver_waits l o left.added w }

  pub closed_told : {x : ℕ} → Legal d.floor.shape d.floor.seen → GotAnswer a.who c b.floor d.floor (got.Closed x) → d.who ≡ a.who
      → d.items ≡ b.items ++ item.Channel (ReceiveClosed c x) ∷ [] → SignalAnswer c a d (Ok (joined.Closed x))
  closed_told {x} l o w f =
      let m : AtStep b.floor d.floor (IsDrainedAndClosed c) = o.1 in
      let is = closed_as d.floor.shape c x m.moment d.floor.seen m.before.0 m.before.1 l m.holds.is_closed o.0.is_closed in
      let drained : IsDrained c x (replay m.moment) = record { is_closed = is; nothing = m.holds.nothing } in
      roomed h (told_met (ReceiveClosed c x) refl o.0.looked
      (record { moment = m.moment; after = m.after; before = m.before; holds = drained }) w f)

  pub spent_told : GotAnswer a.who c b.floor d.floor got.Spent → d.who ≡ a.who → d.items ≡ b.items ++ item.Channel (Spent c) ∷ []
      → SignalAnswer c a d (Ok joined.Spent)
  spent_told o w f =
      let m : IsSpentForReceives b.floor.shape c (replay o.1.moment) = o.1.holds in
      roomed h (told_met_after (SpentForReceives c) (Spent c) refl o.0 o.1 (record { is_open = m.not_closed; spent = m.spent }) w f)

-- ---- the done channels

-- a receiver that comes closes no channel
await_closes_none : (s : State) (who c p d : ℕ) → ((after s who (Await c p (wait_at c p) 0)).channels d).closed ≡ (s.channels d).closed
await_closes_none s who c p d = by_test (c == d) refl
  where
    placed : (b : Bool) (r : Receiver) (ch : Channel) → (place_receiver b r ch).closed ≡ ch.closed
    placed true r ch = refl
    placed false r ch = refl

    by_test : (b : Bool) → (c == d) ≡ b
        → (if b then place_receiver (is_open (s.waits (wait_at c p)))
        (record { place = p; party = record { wait = wait_at c p; clause = 0 } }) (s.channels c) else s.channels d).closed ≡
        (s.channels d).closed
    by_test true e = placed (is_open (s.waits (wait_at c p))) _ (s.channels c) ∙ ap (λ n. (s.channels n).closed) (eqb-true c d e)
    by_test false e = refl

-- only what was closed before is closed now
still_kept : {base : ℕ} {a b : SeenOnBoth} {group : List Item} → LookedAtJobs a.who [] a.jobs b.jobs → ClosesAtOnce base group
    → (a.channels.alone ≡ true → (d : ℕ) → ((replay b.channels.seen).channels d).closed ≡ ((replay a.channels.seen).channels d).closed)
    → KeepsDones base a b group
still_kept {base} {a} {b} jobs quiet same = record {
  only = λ ca ja o r k is.
      let row = subst (λ (s : JobShape). r < s.rows) jobs.same.shape k in
      ap (λ (es : List JobEntry). has_ended (replay_jobs es r)) (jobs.alone ja)
      ∙ o r row (sym (ap is_some (same ca (done_channel base r))) ∙ is);
  at_once = λ ca ja o. quiet;
}

none_closed : (who : ℕ) (c c' : Floor) → Added who [] c c' → c.alone ≡ true → (d : ℕ)
    → ((replay c'.seen).channels d).closed ≡ ((replay c.seen).channels d).closed
none_closed who c c' h alone d = ap (λ (es : List Entry). ((replay es).channels d).closed) (h.alone alone ∙ nothing_more c.seen)

await_closed : (who n p : ℕ) (c c' : Floor) → Added who (Await n p (wait_at n p) 0 ∷ []) c c' → c.alone ≡ true → (d : ℕ)
    → ((replay c'.seen).channels d).closed ≡ ((replay c.seen).channels d).closed
await_closed who n p c c' h alone d =
    ap (λ (es : List Entry). ((replay es).channels d).closed) (h.alone alone)
    ∙ ap (λ (s : State). (s.channels d).closed) (replay_push c.seen (record { who = who; act = Await n p (wait_at n p) 0 }))
    ∙ await_closes_none (replay c.seen) who n p d

-- ---- in the words of a coroutine

-- the answer by another name of the channels
pub signal_as : (n : ℕ) (a : SeenOnChannels) (who : ℕ) (items : List Item) (r : Result Joined Memory) {b c : Floor} → c ≡ b
    → SignalAnswer n a (record { who = who; floor = b; items = items }) r
    → SignalAnswer n a (record { who = who; floor = c; items = items }) r
signal_as n a who items r e h =
    subst (λ (x : Floor). SignalAnswer n a (record { who = who; floor = x; items = items }) r) (sym e) h

-- the Jobs heard of the channels, and no entry was made
pub record HaveHeard (who : ℕ) (channels : Floor) (old new : JobFloor) : Type 0 where
  pub looked : LookedAtJobs who [] old new
  pub heard : HeardIfJoint channels new

tells_one : {base : ℕ} {P : List Told → Type 0} {told : List Told} {a b : SeenOnBoth} → HaveHeard a.who b.channels a.jobs b.jobs → P told
    → ClosesAtOnce base (items_in told)
    → (a.channels.alone ≡ true → (d : ℕ) → ((replay b.channels.seen).channels d).closed ≡ ((replay a.channels.seen).channels d).closed)
    → ToldOnChannels (channels_of a) (channels_of b) told → TellsBoth base P a b
tells_one {told = told} {a = a} {b = b} jobs goes quiet same h = record {
  told = told;
  goes = goes;
  noted = both_channels (added_looked a.who [] a.jobs b.jobs jobs.looked) jobs.heard h;
  dones = still_kept jobs.looked quiet same;
}

done_at : (base row : ℕ) (a b : SeenOnBoth) (r : Result Joined Memory) → HaveHeard a.who b.channels a.jobs b.jobs
    → SignalAnswer (done_channel base row) (channels_of a) (channels_of b) r → DoneAnswer base (ReceivesDone base row) IsNothing a b r
unfolding items_in
done_at base row a b (Ok (joined.Closed v)) jobs h =
    let n = done_channel base row in
    let goes = PlainCall.refused (receives n) (heard (ReceiveClosed n v)) (Closed v) (Refused.receive n v) in
    tells_one jobs goes (tt, tt) (none_closed a.who a.channels b.channels h.added) h
done_at base row a b (Ok (joined.Waits w)) jobs h =
    let n = done_channel base row in
    let act : Act = Await n h.place (wait_at n h.place) 0 in
    let left = λ (x : WaitId). IsLeftWaiting x (act ∷ []) (channels_of a) (channels_of b) in
    subst (λ (x : WaitId). (t : TellsBoth base (ReceivesDone base row (Waits x)) a b)
    × IsLeftWaiting x (channel_acts_in (items_in t.told)) (channels_of a) (channels_of b)) (sym h.named) (
      record {
        told = made act ∷ [];
        goes = PlainCall.awaits n h.place;
        noted = both_channels (added_looked a.who [] a.jobs b.jobs jobs.looked) jobs.heard h.left;
        dones = still_kept jobs.looked (tt, tt) (await_closed a.who n h.place a.channels b.channels h.left.added);
      },
      subst left h.named h.waits,
    )
done_at base row a b (Ok joined.Cancelled) jobs h = h
done_at base row a b (Ok joined.Spent) jobs h =
    let n = done_channel base row in
    let goes = PlainCall.no_place (receives n) (spent (receives n)) refl in
    tells_one jobs goes (tt, tt) (none_closed a.who a.channels b.channels h.added) h
done_at base row a b (Err m) jobs h = record {
  told = [];
  goes = record { rest = []; all = refl };
  noted = both_channels (added_looked a.who [] a.jobs b.jobs jobs.looked) jobs.heard h;
  dones = still_kept jobs.looked tt (none_closed a.who a.channels b.channels h.added);
}

pub done_answer : (base row n : ℕ) (a b : SeenOnBoth) (r : Result Joined Memory) → n ≡ done_channel base row
    → HaveHeard a.who b.channels a.jobs b.jobs
    → SignalAnswer n (channels_of a) (channels_of b) r → DoneAnswer base (ReceivesDone base row) IsNothing a b r
done_answer base row n a b r e jobs h =
    done_at base row a b r jobs (subst (λ m. SignalAnswer m (channels_of a) (channels_of b) r) e h)

-- ---- what the call needs

pub short_done : (row : ℕ) {base : ℕ} {a : SeenOnBoth} → MayBuild base a → row < a.jobs.shape.rows → base + row < 65536
short_done row m lt = omega (arith, m.done, m.few, lt)

pub call_done : (row : ℕ) {base n : ℕ} {a : SeenOnBoth} → n ≡ done_channel base row → MayBuild base a → row < a.jobs.shape.rows
    → MayCall a.who n a.channels
call_done row e m lt = record { caller = m.of_channels; channel = omega (arith, m.done, e, lt) }

pub signal_done : (row : ℕ) {base n : ℕ} {a : SeenOnBoth} → n ≡ done_channel base row → MayBuild base a → row < a.jobs.shape.rows
    → kind_at a.channels.shape n ≡ Signal
signal_done row {base} {a = a} e m lt =
    let got = get_or_from_slice_get a.channels.shape (done_channel base row) (Signal, 1) (Signal, 0) (m.signals row lt) in
    ap (kind_at a.channels.shape) e ∙ ap (λ (x : Kind × ℕ). x.0) got
