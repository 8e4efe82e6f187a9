-- Where nobody else makes entries, only the done channels of ended Jobs are closed, and each Finish is closed at once.
use Rattle.std.specs.Prelude.{◌≡◌, ℕ, ◌+◌, ◌==◌, ◌<◌, Bool, true, false, ◌||◌, List, [], ◌∷◌, ◌++◌, map, Option, Some, None, is_some, refl}
use Rattle.std.specs.List.{list_any}
use Rattle.std.proofs.Common.{sym, ap, ◌∙◌, subst, arith}
use Rattle.std.proofs.lemmas.Bool.Decides.{nat_tests}
use Rattle.std.proofs.lemmas.Bool.{or_left}
use Rattle.channel_model.specs.declared.acts.Act.{Act}
use Rattle.channel_model.specs.declared.acts.Act.TheVariants.{Close, WakeClosed}
use Rattle.channel_model.specs.declared.acts.ChannelNote.TheVariants as of_channel
use Rattle.channel_model.specs.declared.acts.Entry.{Entry}
use Rattle.channel_model.specs.Histories.{replay as replay_channels}
use Rattle.channel_model.specs.Floors.{Added as AddedToChannels, entries_by as channel_entries}
use Rattle.channel_model.proofs.Spans.{nothing_more}
use Rattle.job_model.specs.declared.acts.End.{End}
use Rattle.job_model.specs.declared.acts.JobAct.{JobAct}
use Rattle.job_model.specs.declared.acts.JobAct.TheVariants.{Finish}
use Rattle.job_model.specs.Trees.{Shape}
use Rattle.job_model.specs.Acts.{finishes}
use Rattle.job_model.specs.Done.{done_channel}
use Rattle.job_model.specs.Histories.{replay, Legal}
use Rattle.job_model.specs.Laws.{has_ended}
use Rattle.job_model.specs.Floors.{Added, entries_by}
use Rattle.note_book.specs.declared.book.Item.{Item}
use Rattle.note_book.specs.declared.book.Item.TheVariants as item
use Rattle.note_book.specs.Items.{channel_acts_in}
use Rattle.call_meaning.specs.Telling.{Told, on_channels, NoReceiver, items_in, made, did}
use Rattle.call_meaning.specs.Seen.{SeenOnBoth}
use Rattle.call_meaning.specs.ChannelCalls.{Wakes, Closes}
use Rattle.call_meaning.specs.JobCalls.{value_of}
use Rattle.call_meaning.proofs.JobTellings.{items_in-append}
use Rattle.channel_model.specs.Answers.{IsSeenClosed}
use Rattle.call_meaning.specs.Endings.{finish_of, IsClosedNext, ClosesAtOnce}
use Rattle.scope_builders.specs.Dones.{KeepsDones}
use Rattle.scope_builders.proofs.Ended.{ended_after, live_till_now, closed_woken, closed_else}

-- ---- notes

abbrev wake_note : ℕ → ℕ → Item
wake_note c q = item.Channel (of_channel.Made (WakeClosed c q))

wake_items : (c : ℕ) (places : List ℕ) → items_in (map (λ q. made (WakeClosed c q)) places) ≡ map (wake_note c) places
unfolding items_in
wake_items c [] = refl
wake_items c (q ∷ qs) = ap (λ (l : List Item). wake_note c q ∷ l) (wake_items c qs)

wakes_items : (c : ℕ) (wakes : List Told) → (w : Wakes c wakes) → items_in wakes ≡ map (wake_note c) w.places
unfolding items_in
wakes_items c wakes w =
    ap items_in w.all ∙ items_in-append (map (λ q. made (WakeClosed c q)) w.places) (on_channels (NoReceiver c) ∷ [])
    ∙ nothing_more (items_in (map (λ q. made (WakeClosed c q)) w.places)) ∙ wake_items c w.places

note_acts : (c : ℕ) (places : List ℕ) → channel_acts_in (map (wake_note c) places) ≡ map (λ q. WakeClosed c q) places
note_acts c [] = refl
note_acts c (q ∷ qs) = ap (λ (l : List Act). WakeClosed c q ∷ l) (note_acts c qs)

wakes_acts : (c : ℕ) (wakes : List Told) → (w : Wakes c wakes) → channel_acts_in (items_in wakes) ≡ map (λ q. WakeClosed c q) w.places
wakes_acts c wakes w = ap channel_acts_in (wakes_items c wakes w) ∙ note_acts c w.places

-- ---- what is closed

-- a close closes no other channel
closes_none_else : (who c v d : ℕ) (told : List Told) (xs ys : List Entry) → Closes c v told → ys ≡ xs
    ++ channel_entries who (channel_acts_in (items_in told)) → (c == d) ≡ false
    → ((replay_channels ys).channels d).closed ≡ ((replay_channels xs).channels d).closed
unfolding items_in
closes_none_else who c v d _ xs ys (Closes.now wakes w) e apart =
    closed_else who c v d w.places xs ys (e ∙ ap (λ (l : List Act). xs ++ channel_entries who (Close c v ∷ l)) (wakes_acts c wakes w)) apart
closes_none_else who c v d _ xs ys (Closes.before u wakes w) e apart =
    closed_woken who c d w.places xs ys (e ∙ ap (λ (l : List Act). xs ++ channel_entries who l) (wakes_acts c wakes w))

-- the first note is the Close, unless the channel had been closed
close_cases : (P : Type 0) (who c v : ℕ) (told : List Told) (xs ys : List Entry) → Closes c v told → ys ≡ xs
    ++ channel_entries who (channel_acts_in (items_in told)) → is_some ((replay_channels ys).channels c).closed ≡ true
    → ((wakes : List Told) → Wakes c wakes → told ≡ made (Close c v) ∷ wakes → P)
    → (is_some ((replay_channels xs).channels c).closed ≡ true → P) → P
unfolding items_in
close_cases P who c v _ xs ys (Closes.now wakes w) e closed now before = now wakes w refl
close_cases P who c v _ xs ys (Closes.before u wakes w) e closed now before =
    before (sym (ap is_some (closed_woken who c c w.places xs ys (e
    ∙ ap (λ (l : List Act). xs ++ channel_entries who l) (wakes_acts c wakes w)))) ∙ closed)

shifted : (base row r : ℕ) → ((base + row) == (base + r)) ≡ (r == row)
shifted base row r = grind (arith, nat_tests)

or_first : (a b c : Bool) → b ≡ true → (a || (b || c)) ≡ true
or_first true b c e = refl
or_first false true c e = refl
or_first false false c e = cc

-- ---- one end

-- only done channels of ended Jobs are closed
one_keeps : (who base row : ℕ) (end : End) (told : List JobAct) (closes : List Told) (a b : SeenOnBoth) → Legal b.jobs.shape b.jobs.seen
    → b.jobs.seen ≡ a.jobs.seen ++ entries_by who (Finish row end ∷ told) → Closes (done_channel base row) (value_of end) closes
    → b.channels.seen ≡ a.channels.seen ++ channel_entries who (channel_acts_in (items_in closes))
    → (r : ℕ) → (IsSeenClosed (done_channel base r) a.channels → has_ended (replay a.jobs.seen r) ≡ true)
    → IsSeenClosed (done_channel base r) b.channels → has_ended (replay b.jobs.seen r) ≡ true
one_keeps who base row end told closes a b l e g f r had closed = by_test (r == row) refl
  where
    after : has_ended (replay b.jobs.seen r) ≡ (has_ended (replay a.jobs.seen r) || list_any (finishes r) (Finish row end ∷ told))
    after = ended_after b.jobs.shape who (Finish row end ∷ told) a.jobs.seen b.jobs.seen r l e

    by_test : (t : Bool) → (r == row) ≡ t → has_ended (replay b.jobs.seen r) ≡ true
    by_test true k = after ∙ or_first (has_ended (replay a.jobs.seen r)) (r == row) (list_any (finishes r) told) k
    by_test false k =
        let apart = shifted base row r ∙ k in
        let same = closes_none_else who (done_channel base row) (value_of end) (done_channel base r) closes a.channels.seen b.channels.seen
        g f apart in
        after ∙ or_left (has_ended (replay a.jobs.seen r)) (list_any (finishes r) (Finish row end ∷ told))
        (had (sym (ap is_some same) ∙ closed))

wakes_quiet : (base c : ℕ) (places : List ℕ) (more : List Item) → ClosesAtOnce base more
    → ClosesAtOnce base (map (wake_note c) places ++ more)
wakes_quiet base c [] more h = h
wakes_quiet base c (q ∷ qs) more h = (tt, wakes_quiet base c qs more h)

-- the Close comes right after the Finish
one_at_once : (who base row : ℕ) (end : End) (told : List JobAct) (closes : List Told) (a b : SeenOnBoth) → Legal b.jobs.shape b.jobs.seen
    → b.jobs.seen ≡ a.jobs.seen ++ entries_by who (Finish row end ∷ told) → Closes (done_channel base row) (value_of end) closes
    → b.channels.seen ≡ a.channels.seen ++ channel_entries who (channel_acts_in (items_in closes))
    → IsSeenClosed (done_channel base row) b.channels → (IsSeenClosed (done_channel base row) a.channels
    → has_ended (replay a.jobs.seen row) ≡ true)
    → ClosesAtOnce base (items_in (map did told)) → ClosesAtOnce base (items_in (did (Finish row end) ∷ (closes ++ map did told)))
unfolding items_in
one_at_once who base row end told closes a b l e g f closed had quiet =
    let c : ℕ = done_channel base row in
    let last : List Item = items_in (map did told) in
    close_cases _ who c (value_of end) closes a.channels.seen b.channels.seen g f closed
    (λ wakes w is.
    let items = items_in-append wakes (map did told) ∙ ap (λ (x : List Item). x ++ last) (wakes_items c wakes w) in
    subst (λ (x : List Told). ClosesAtOnce base (items_in (did (Finish row end) ∷ (x ++ map did told)))) (sym is)
    (refl, (tt, subst (ClosesAtOnce base) (sym items) (wakes_quiet base c w.places last quiet))))
    (λ was. absurd (let k : true ≡ false = sym (had was) ∙ live_till_now b.jobs.shape who row end told a.jobs.seen b.jobs.seen l e in cc))

pub one_kept : (base row : ℕ) (end : End) (told : List JobAct) (closes : List Told) {who : ℕ} {a b : SeenOnBoth}
    → Legal b.jobs.shape b.jobs.seen
    → row < a.jobs.shape.rows → Added who (Finish row end ∷ told) [] a.jobs b.jobs → Closes (done_channel base row) (value_of end) closes
    → AddedToChannels who (channel_acts_in (items_in closes)) a.channels b.channels → IsSeenClosed (done_channel base row) b.channels
    → ClosesAtOnce base (items_in (map did told)) → KeepsDones base a b (items_in (did (Finish row end) ∷ (closes ++ map did told)))
one_kept base row end told closes {who} {a} {b} l lt h g added closed quiet = record {
  only = λ ca ja o r k is.
      one_keeps who base row end told closes a b l (h.alone ja) g (added.alone ca) r
      (o r (subst (λ (s : Shape). r < s.rows) h.same.shape k)) is;
  at_once = λ ca ja o. one_at_once who base row end told closes a b l (h.alone ja) g (added.alone ca) closed (o row lt) quiet;
}

-- ---- calls that end no Job and close no channel

pub quiet_kept : (base : ℕ) (group : List Item) {who : ℕ} {acts : List JobAct} {rows : List ℕ} {a b : SeenOnBoth}
    → Legal b.jobs.shape b.jobs.seen
    → Added who acts rows a.jobs b.jobs → AddedToChannels who [] a.channels b.channels → ClosesAtOnce base group → KeepsDones base a b group
quiet_kept base group {who} {acts} {rows} {a} {b} l h added quiet = record {
  only = λ ca ja o r k is.
      let row = subst (λ (s : Shape). r < s.rows) h.same.shape k in
      let closed = λ (xs : List Entry). is_some ((replay_channels xs).channels (done_channel base r)).closed in
      let was = ap closed (sym (added.alone ca ∙ nothing_more a.channels.seen)) ∙ is in
      ended_after b.jobs.shape who acts a.jobs.seen b.jobs.seen r l (h.alone ja)
      ∙ or_left (has_ended (replay a.jobs.seen r)) (list_any (finishes r) acts) (o r row was);
  at_once = λ ca ja o. quiet;
}

-- ---- one call behind another

next_more : (base : ℕ) (o : Option (ℕ × End)) (xs ys : List Item) → IsClosedNext base o xs → IsClosedNext base o (xs ++ ys)
next_more base None xs ys h = tt
next_more base (Some x) [] ys h = absurd h
next_more base (Some x) (i ∷ xs) ys h = h

pub at_once_then : (base : ℕ) (xs ys : List Item) → ClosesAtOnce base xs → ClosesAtOnce base ys → ClosesAtOnce base (xs ++ ys)
at_once_then base [] ys h k = k
at_once_then base (i ∷ xs) ys h k = (next_more base (finish_of i) xs ys h.0, at_once_then base xs ys h.1 k)

pub kept_then : {base : ℕ} {a b c : SeenOnBoth} {g h : List Item} → b.channels.alone ≡ a.channels.alone → b.jobs.alone ≡ a.jobs.alone
    → KeepsDones base a b g → KeepsDones base b c h → KeepsDones base a c (g ++ h)
kept_then {base} {g = g} {h = h} e f m k = record {
  only = λ ca ja o. k.only (e ∙ ca) (f ∙ ja) (m.only ca ja o);
  at_once = λ ca ja o. at_once_then base g h (m.at_once ca ja o) (k.at_once (e ∙ ca) (f ∙ ja) (m.only ca ja o));
}
