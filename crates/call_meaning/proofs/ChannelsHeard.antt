-- From what a floor of channels answers to what is told of the call: for any history of Jobs that the caller has at hand.
use Rattle.std.specs.Prelude.{◌≡◌, ℕ, List, [], ◌∷◌, ◌++◌, refl}
use Rattle.co_base.proofs.Orders.{order_same}
use mathlib.Core.List.{IsPrefix}
use Rattle.std.proofs.Common.{sym, ap, ◌∙◌, subst, append_assoc}
use Rattle.channel_model.specs.declared.acts.Act.{Act}
use Rattle.channel_model.specs.declared.acts.ChannelNote.{ChannelNote}
use Rattle.channel_model.specs.declared.acts.Entry.{Entry}
use Rattle.channel_model.specs.Channels.{Shape, State}
use Rattle.channel_model.specs.Histories.{replay, acts_of}
use Rattle.channel_model.specs.Floors.{Floor, HasRoom, Looked, Made, AtStep, AtMoment, Added}
use Rattle.channel_model.proofs.Others.{between}
use Rattle.channel_model.proofs.Spans.{nothing_more, prefix_self, prefix_append, added_none, added_room, added_looked, added_made, added_then}
use Rattle.job_model.specs.declared.acts.JobEntry.{JobEntry}
use Rattle.job_model.specs.Histories.{acts_of as job_acts_of}
use Rattle.job_model.proofs.Spans as jobs
use Rattle.note_book.specs.declared.book.Item.TheVariants as item
use Rattle.note_book.specs.Items.{channel_act, channel_acts_in, job_acts_in}
use Rattle.note_book.proofs.Appended.{channel_acts_in-append, job_acts_in-append}
use Rattle.call_meaning.specs.Telling.{Told, note, on_channels, on_jobs, ChannelFact, items_in, made, heard}
use Rattle.call_meaning.specs.Facts.{ActHolds, ChannelNoteHolds, ChannelFactHolds}
use Rattle.call_meaning.specs.Stories.{Moment, IsBy, IsTrue, story_of}
use Rattle.call_meaning.specs.Seen.{SeenOnChannels}
use Rattle.call_meaning.specs.Calls.{ToldOnChannels}
use Rattle.call_meaning.specs.Calls.{IsOfChannels}
use Rattle.call_meaning.proofs.PointsOfMoments.{all_then}
use Rattle.call_meaning.proofs.Tellings.{true_then}

-- ---- moments that differ by the history of channels alone

abbrev seen_with : List Entry → List JobEntry → Moment
seen_with channels jobs = record { channels = channels; jobs = jobs }

by_channels : (j : List JobEntry) (xs ys : List Entry) → IsPrefix xs ys → IsBy (seen_with xs j) (seen_with ys j)
by_channels j xs ys p = record { channels = p; jobs = jobs.prefix_self j }

pub items_in-append : (xs ys : List Told) → items_in (xs ++ ys) ≡ items_in xs ++ items_in ys
unfolding items_in
items_in-append [] ys = refl
items_in-append (note i ∷ xs) ys = ap (λ l. i ∷ l) (items_in-append xs ys)
items_in-append (on_channels fact ∷ xs) ys = items_in-append xs ys
items_in-append (on_jobs fact ∷ xs) ys = items_in-append xs ys

-- ---- one call after another

-- the same caller by another name
by_who : (who : ℕ) {a b : SeenOnChannels} {told : List Told} → a.who ≡ who → ToldOnChannels a b told
    → ToldOnChannels (record a { who = who }) b told
by_who who {a} {b} {told} e h = subst (λ n. ToldOnChannels (record a { who = n }) b told) e h

pub told_then : {a b c : SeenOnChannels} {xs ys : List Told} → ToldOnChannels a b xs → ToldOnChannels b c ys → ToldOnChannels a c (xs ++ ys)
told_then {a} {b} {c} {xs} {ys} h n =
    let who : ℕ = a.who in
    let m : ToldOnChannels (record b { who = who }) c ys = by_who who h.who n in
    record {
      who = m.who;
      appended = m.appended ∙ ap (λ l. l ++ items_in ys) h.appended ∙ append_assoc a.items (items_in xs) (items_in ys)
          ∙ ap (λ l. a.items ++ l) (sym (items_in-append xs ys));
      added = subst (λ l. Added who l a.floor c.floor)
          (sym (ap channel_acts_in (items_in-append xs ys) ∙ channel_acts_in-append (items_in xs) (items_in ys)))
          (added_then who (channel_acts_in (items_in xs)) (channel_acts_in (items_in ys)) a.floor b.floor c.floor h.added m.added);
      no_jobs = ap job_acts_in (items_in-append xs ys) ∙ job_acts_in-append (items_in xs) (items_in ys)
          ∙ ap (λ l. l ++ job_acts_in (items_in ys)) h.no_jobs ∙ m.no_jobs;
      of_channels = all_then IsOfChannels xs ys h.of_channels m.of_channels;
      was_so = λ book jobs e f.
          let mine : acts_of who b.floor.seen ≡ channel_acts_in (book ++ items_in xs) =
          h.added.mine ∙ ap (λ l. l ++ channel_acts_in (items_in xs)) e ∙ sym (channel_acts_in-append book (items_in xs)) in
          let theirs : job_acts_of who jobs ≡ job_acts_in (book ++ items_in xs) =
          f ∙ sym (nothing_more (job_acts_in book)) ∙ ap (λ l. job_acts_in book ++ l) (sym h.no_jobs)
          ∙ sym (job_acts_in-append book (items_in xs)) in
          let at : Floor → Moment = λ floor. seen_with floor.seen jobs in
          let IsTold : Shape → Type 0 = λ shape. IsTrue (story_of shape who (at c.floor)) (book ++ items_in xs) (at b.floor) ys in
          let second : IsTold a.floor.shape = subst IsTold h.added.same.shape (m.was_so (book ++ items_in xs) jobs mine theirs) in
          true_then a.floor.shape who (at b.floor) (at c.floor) book (at a.floor) xs ys
          (by_channels jobs a.floor.seen b.floor.seen h.added.longer) (by_channels jobs b.floor.seen c.floor.seen m.added.longer)
          (h.was_so book jobs e f) second;
    }

-- nothing was told
pub told_nothing : {n : ℕ} {a b : SeenOnChannels} → HasRoom n a.floor b.floor → b.who ≡ a.who → b.items ≡ a.items → ToldOnChannels a b []
unfolding IsTrue items_in
told_nothing {n} {a} {b} h w e = record {
  who = w;
  appended = e ∙ sym (nothing_more a.items);
  added = added_room a.who n a.floor b.floor h;
  no_jobs = refl;
  of_channels = tt;
  was_so = λ book jobs f g. tt;
}

-- room was made before
pub told_roomed : {n : ℕ} {a b c : SeenOnChannels} {told : List Told} → HasRoom n a.floor b.floor → b.who ≡ a.who → b.items ≡ a.items
    → ToldOnChannels b c told → ToldOnChannels a c told
told_roomed h w e t = told_then (told_nothing h w e) t

-- ---- a call that made an act

-- at a moment at which it had made none, what its act says was so
pub told_made : (act : Act) {a b : SeenOnChannels} → Made a.who act a.floor b.floor → AtMoment a.who [] a.floor b.floor (ActHolds act)
    → b.who ≡ a.who → b.items ≡ a.items ++ item.Channel (ChannelNote.Made act) ∷ [] → ToldOnChannels a b (made act ∷ [])
unfolding IsTrue items_in
told_made act {a} {b} h m w e = record {
  who = w;
  appended = e;
  added = added_made a.who act a.floor b.floor h;
  no_jobs = refl;
  of_channels = (tt, tt);
  was_so = λ book jobs f g. (
    seen_with m.moment jobs,
    record {
      not_before = by_channels jobs a.floor.seen m.moment m.after;
      not_after = by_channels jobs m.moment b.floor.seen m.before;
      channel_acts = m.mine ∙ nothing_more (acts_of a.who a.floor.seen) ∙ f;
      job_acts = g;
      holds = m.holds;
    },
    tt,
  );
}

-- besides, this was so at that moment
pub told_made_after : (fact : ChannelFact) (act : Act) {a b : SeenOnChannels} → Made a.who act a.floor b.floor
    → ((s : State) → ActHolds act s) → AtMoment a.who [] a.floor b.floor (ChannelFactHolds a.floor.shape fact)
    → b.who ≡ a.who → b.items ≡ a.items ++ item.Channel (ChannelNote.Made act) ∷ []
    → ToldOnChannels a b (on_channels fact ∷ made act ∷ [])
unfolding IsTrue items_in
told_made_after fact act {a} {b} h free m w e = record {
  who = w;
  appended = e;
  added = added_made a.who act a.floor b.floor h;
  no_jobs = refl;
  of_channels = (tt, (tt, tt));
  was_so = λ book jobs f g.
      let at : Moment = seen_with m.moment jobs in
      let later = by_channels jobs m.moment b.floor.seen m.before in
      let mine : acts_of a.who m.moment ≡ channel_acts_in book = m.mine ∙ nothing_more (acts_of a.who a.floor.seen) ∙ f in (
        at,
        record {
          not_before = by_channels jobs a.floor.seen m.moment m.after;
          not_after = later;
          channel_acts = mine;
          job_acts = g;
          holds =
              m.holds;
        },
        (
          at,
          record {
            not_before = by_channels jobs m.moment m.moment (prefix_self m.moment);
            not_after = later;
            channel_acts = mine;
            job_acts = g;
            holds = free (replay m.moment);
          },
          tt,
        ),
      );
}

-- the moment before the call
pub moment_before : (who : ℕ) (act : Act) (a b : Floor) (P : State → Type 0) → Made who act a b → P (replay a.seen)
    → AtMoment who [] a b P
moment_before who act a b P h p = record {
  moment = a.seen;
  after = prefix_self a.seen;
  before = subst (λ l. IsPrefix a.seen l) (sym h.last) (prefix_append a.seen h.before (record { who = who; act = act } ∷ []) h.longer);
  mine = sym (nothing_more (acts_of who a.seen));
  holds = p;
}

-- ---- a call that made none

added_heard : (who : ℕ) (n : ChannelNote) (a b : Floor) → channel_act n ≡ [] → Looked who a b → Added who (channel_act n ++ []) a b
added_heard who n a b none h = subst (λ l. Added who l a b) (sym (nothing_more (channel_act n) ∙ none)) (added_looked who a b h)

-- at a moment of it what its note says was so
pub told_met : (n : ChannelNote) {a b : SeenOnChannels} → channel_act n ≡ [] → Looked a.who a.floor b.floor
    → AtStep a.floor b.floor (ChannelNoteHolds a.floor.shape n) → b.who ≡ a.who → b.items ≡ a.items ++ item.Channel n ∷ []
    → ToldOnChannels a b (heard n ∷ [])
unfolding IsTrue items_in
told_met n {a} {b} none h m w e = record {
  who = w;
  appended = e;
  added = added_heard a.who n a.floor b.floor none h;
  no_jobs = refl;
  of_channels = (tt, tt);
  was_so = λ book jobs f g. (
    seen_with m.moment jobs,
    record {
      not_before = by_channels jobs a.floor.seen m.moment m.after;
      not_after = by_channels jobs m.moment b.floor.seen m.before;
      channel_acts = (between a.who a.floor.seen m.moment b.floor.seen m.after m.before h.mine).0 ∙ f;
      job_acts = g;
      holds = m.holds;
    },
    tt,
  );
}

-- and this besides
pub told_met_after : (fact : ChannelFact) (n : ChannelNote) {a b : SeenOnChannels} → channel_act n ≡ [] → Looked a.who a.floor b.floor
    → (m : AtStep a.floor b.floor (ChannelFactHolds a.floor.shape fact)) → ChannelNoteHolds a.floor.shape n (replay m.moment)
    → b.who ≡ a.who → b.items ≡ a.items ++ item.Channel n ∷ [] → ToldOnChannels a b (on_channels fact ∷ heard n ∷ [])
unfolding IsTrue items_in
told_met_after fact n {a} {b} none h m holds w e = record {
  who = w;
  appended = e;
  added = added_heard a.who n a.floor b.floor none h;
  no_jobs = refl;
  of_channels = (tt, (tt, tt));
  was_so = λ book jobs f g.
      let at : Moment = seen_with m.moment jobs in
      let later = by_channels jobs m.moment b.floor.seen m.before in
      let mine : acts_of a.who m.moment ≡ channel_acts_in book =
      (between a.who a.floor.seen m.moment b.floor.seen m.after m.before h.mine).0 ∙ f in (
        at,
        record {
          not_before = by_channels jobs a.floor.seen m.moment m.after;
          not_after = later;
          channel_acts = mine;
          job_acts = g;
          holds =
              m.holds;
        },
        (
          at,
          record {
            not_before = by_channels jobs m.moment m.moment (prefix_self m.moment);
            not_after = later;
            channel_acts = mine;
            job_acts = g;
            holds = holds;
          },
          tt,
        ),
      );
}

-- ---- what is so when a call returns

pub told_now : (fact : ChannelFact) (b : SeenOnChannels) → ChannelFactHolds b.floor.shape fact (replay b.floor.seen)
    → ToldOnChannels b b (on_channels fact ∷ [])
unfolding IsTrue items_in
told_now fact b h = record {
  who = refl;
  appended = sym (nothing_more b.items);
  added = added_none b.who b.floor b.floor (record { shape = refl; alone = refl; callers = refl; order = order_same _ }) refl;
  no_jobs = refl;
  of_channels = (tt, tt);
  was_so = λ book jobs f g. (
    seen_with b.floor.seen jobs,
    record {
      not_before = by_channels jobs b.floor.seen b.floor.seen (prefix_self b.floor.seen);
      not_after = by_channels jobs b.floor.seen b.floor.seen (prefix_self b.floor.seen);
      channel_acts = f;
      job_acts = g;
      holds = h;
    },
    tt,
  );
}
