-- What is told of a call that made nothing, and of one that found no memory.
use Rattle.std.specs.Prelude.{◌≡◌, List, [], ◌∷◌, ◌++◌, refl}
use Rattle.co_base.proofs.Orders.{order_same}
use Rattle.std.proofs.Common.{sym, ◌∙◌, subst}
use Rattle.channel_model.specs.Floors.{Floor, Looked, AtStep, Added}
use Rattle.channel_model.proofs.Others.{between}
use Rattle.channel_model.proofs.Spans.{nothing_more, added_none, added_looked}
use Rattle.job_model.proofs.Spans as jobs
use Rattle.call_meaning.specs.Telling.{Told, ChannelFact, on_channels, items_in}
use Rattle.call_meaning.specs.Facts.{ChannelFactHolds}
use Rattle.call_meaning.specs.Stories.{IsTrue}
use Rattle.call_meaning.specs.Calls.{ToldOnChannels}
use Rattle.call_meaning.proofs.ChannelsHeard.{told_then}
use Rattle.call_meaning.proofs.Prefixes.{prefix_first, prefix_of, prefix_behind}
use Rattle.channel_calls.specs.Calls.{ToldPart, IsUntouched}
use Rattle.call_meaning.specs.Seen.{SeenOnChannels}

-- ---- a call that made nothing

pub told_none : (a : SeenOnChannels) → ToldOnChannels a a []
unfolding IsTrue items_in
told_none a = record {
  who = refl;
  appended = sym (nothing_more a.items);
  added = added_none a.who a.floor a.floor (record { shape = refl; alone = refl; callers = refl; order = order_same _ }) refl;
  no_jobs = refl;
  of_channels = tt;
  was_so = λ book jobs f g. tt;
}

pub told_looked : {a b : SeenOnChannels} → Looked a.who a.floor b.floor → b.who ≡ a.who → b.items ≡ a.items → ToldOnChannels a b []
unfolding IsTrue items_in
told_looked {a} {b} h w e = record {
  who = w;
  appended = e ∙ sym (nothing_more a.items);
  added = added_looked a.who a.floor b.floor h;
  no_jobs = refl;
  of_channels = tt;
  was_so = λ book jobs f g. tt;
}

-- at a moment of it this was so
pub told_seen : (fact : ChannelFact) {a b : SeenOnChannels} → Looked a.who a.floor b.floor
    → AtStep a.floor b.floor (ChannelFactHolds a.floor.shape fact) → b.who ≡ a.who → b.items ≡ a.items
    → ToldOnChannels a b (on_channels fact ∷ [])
unfolding IsTrue items_in
told_seen fact {a} {b} h m w e = record {
  who = w;
  appended = e ∙ sym (nothing_more a.items);
  added = added_looked a.who a.floor b.floor h;
  no_jobs = refl;
  of_channels = (tt, tt);
  was_so = λ book known f g. (
    record { channels = m.moment; jobs = known },
    record {
      not_before = record { channels = m.after; jobs = jobs.prefix_self known };
      not_after = record { channels = m.before; jobs = jobs.prefix_self known };
      channel_acts = (between a.who a.floor.seen m.moment b.floor.seen m.after m.before h.mine).0 ∙ f;
      job_acts = g;
      holds = m.holds;
    },
    tt,
  );
}

-- ---- a call that found no memory

-- nothing was told
pub untouched_told : {a b : SeenOnChannels} → IsUntouched a b → ToldOnChannels a b []
unfolding IsTrue items_in
untouched_told {a} {b} h =
    let none = added_none a.who a.floor a.floor (record { shape = refl; alone = refl; callers = refl; order = order_same _ }) refl in
    record {
      who = h.who;
      appended = h.book ∙ sym (nothing_more a.items);
      added = subst (λ (x : Floor). Added a.who [] a.floor x) (sym h.floor) none;
      no_jobs = refl;
      of_channels = tt;
      was_so = λ book jobs f g. tt;
    }

still_told : {a b d : SeenOnChannels} {told : List Told} → ToldOnChannels a b told → IsUntouched b d → ToldOnChannels a d told
still_told {a} {b} {d} {told} h u = subst (ToldOnChannels a d) (nothing_more told) (told_then h (untouched_told u))

pub part_none : (P : List Told → Type 0) (all : List Told) → P all → {a b : SeenOnChannels} → IsUntouched a b → ToldPart P a b
part_none P all p h = record { told = []; goes = prefix_first P [] all p; left = untouched_told h }

-- in the words of another description
pub part_of : (P Q : List Told → Type 0) → ((all : List Told) → P all → Q all) → {a b : SeenOnChannels} → ToldPart P a b → ToldPart Q a b
part_of P Q f h = record { told = h.told; goes = prefix_of P Q f h.told h.goes; left = h.left }

-- the second of two calls found none, with nothing made
pub part_stopped : (P : List Told → Type 0) (told rest : List Told) → P (told ++ rest) → {a b d : SeenOnChannels} → ToldOnChannels a b told
    → IsUntouched b d → ToldPart P a d
part_stopped P told rest p h m = record { told = told; goes = prefix_first P told rest p; left = still_told h m }

-- or after a part of what it may tell
pub part_then : (P Q : List Told → Type 0) (first : List Told) → ((all : List Told) → P all → Q (first ++ all)) → {a b d : SeenOnChannels}
    → ToldOnChannels a b first → ToldPart P b d → ToldPart Q a d
part_then P Q first f h m = record { told = first ++ m.told; goes = prefix_behind P Q first f m.told m.goes; left = told_then h m.left }
