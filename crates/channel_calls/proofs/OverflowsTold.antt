-- What follows a Put tells: the drops, and then whether the element itself was removed.
use Rattle.std.specs.Prelude.{◌≡◌, ℕ, ◌==◌, Bool, true, false, ◌&&◌, List, [], ◌∷◌, ◌++◌, map, Ok, Err, Result, refl}
use Rattle.std.specs.List.{list_all, list_any}
use Rattle.std.proofs.Common.{sym, ap, ◌∙◌, subst}
use Rattle.co_base.specs.declared.names.Memory.{Memory}
use Rattle.channel_model.specs.declared.acts.Act.{Act}
use Rattle.channel_model.specs.declared.acts.Act.TheVariants.{Spurn}
use Rattle.channel_model.specs.declared.acts.Entry.{Entry}
use Rattle.channel_model.specs.declared.acts.Kind.{Kind}
use Rattle.channel_model.specs.declared.acts.Kind.TheVariants.{Rendezvous, Buffered, Unlimited, Conflated, DropOldest, DropLatest, Signal}
use Rattle.channel_model.specs.Channels.{Shape, kind_at, spurns}
use Rattle.channel_model.specs.Histories.{replay, acts_of, Legal}
use Rattle.channel_model.specs.Floors.{Floor, HasRoom, Looked, Made, AtStep}
use Rattle.channel_model.specs.Answers.{HasPut, is_put_at}
use Rattle.channel_model.specs.Answers as floor
use Rattle.channel_model.specs.Puts.{follows_put, after_put}
use Rattle.channel_model.proofs.Histories.{Legal-last}
use Rattle.channel_model.proofs.Placed.{same_number}
use Rattle.channel_model.proofs.Puts.{put_lasts}
use Rattle.note_book.specs.Items.{channel_acts_in}
use Rattle.note_book.proofs.Appended.{channel_acts_in-append}
use Rattle.call_meaning.specs.Telling.{Told, on_channels, FitsUpTo, StandsWithRoom, items_in, made}
use Rattle.call_meaning.specs.Facts.{ActHolds}
use Rattle.call_meaning.specs.ChannelCalls.{Spurns}
use Rattle.call_meaning.proofs.ChannelsHeard.{items_in-append, told_then, told_made, moment_before}
use Rattle.call_meaning.proofs.Prefixes.{prefix_on}
use Rattle.channel_calls.specs.Groups.{made_note}
use Rattle.channel_calls.specs.Calls.{Tells, IsUntouched, FollowsPut, AfterPutAnswer}
use Rattle.channel_calls.specs.Parts.{DropsAfterPut, SpurnsAfterPut, DroppedAnswer, SpurnedAnswer}
use Rattle.channel_calls.proofs.DropsTold.{drop_of}
use Rattle.channel_calls.proofs.Untold.{told_seen, part_stopped}
use Rattle.call_meaning.specs.Seen.{SeenOnChannels}
use Rattle.channel_calls.proofs.Roomed.{IsRoomed, roomed}

-- ---- the element itself

spurning : (kind : Kind) (c place v n : ℕ) → spurns kind n ≡ true → after_put kind c place (Spurn c place v ∷ []) ≡ true
spurning (DropLatest k) c place v n e = ap (λ b. b && (place == place)) (same_number c) ∙ same_number place
spurning other c place v n e = cc

-- the removal of what a call put follows its Put
spurn_follows : (who c v place : ℕ) (a b : Floor) → Legal b.shape b.seen → Made who (Spurn c place v) a b
    → after_put (kind_at b.shape c) c place (Spurn c place v ∷ []) ≡ true
spurn_follows who c v place a b l m =
    let last : Entry = record { who = who; act = Spurn c place v } in
    let needs = (Legal-last b.shape m.before last (subst (Legal b.shape) m.last l)).1 in
    spurning (kind_at b.shape c) c place v ((replay m.before).stood c place) needs.1

-- the own Put still stands among the acts
pub put_roomed : (who c place n : ℕ) (a b : Floor) → HasRoom n a b → HasPut who c place a → HasPut who c place b
put_roomed who c place n a b r put = subst (λ es. list_any (is_put_at c place) (acts_of who es) ≡ true) (sym r.seen) put

-- it was removed
pub spurned_gone : {c place v n : ℕ} {a b d : SeenOnChannels} → IsRoomed n a b → Legal d.floor.shape d.floor.seen
    → Made a.who (Spurn c place v) b.floor d.floor → d.who ≡ a.who → d.items ≡ b.items ++ made_note (Spurn c place v) ∷ []
    → SpurnedAnswer c place a d (Ok tt)
unfolding items_in
spurned_gone {c} {place} {v} {a = a} {b = b} {d = d} h l m w f =
    let act : Act = Spurn c place v in
    let at = moment_before a.who act b.floor d.floor (ActHolds act) m tt in
    let follows = spurn_follows a.who c v place b.floor d.floor l m in
    let same = m.same.shape ∙ h.room.same.shape in
    record {
      told = made act ∷ [];
      goes = record {
        spurns = Spurns.gone v;
        acts = subst (λ (s : Shape). after_put (kind_at s c) c place (act ∷ []) ≡ true) same follows;
      };
      left = roomed h (told_made act m at w f);
    }

nothing_follows : (kind : Kind) (c place : ℕ) → after_put kind c place [] ≡ true
nothing_follows (DropLatest k) c place = refl
nothing_follows other c place = refl

none_after : (kind : Kind) (c place : ℕ) → SpurnsAfterPut kind c place (on_channels (StandsWithRoom c place) ∷ [])
unfolding items_in
none_after kind c place = record { spurns = Spurns.stays; acts = nothing_follows kind c place }

-- or it was not one too many
pub spurned_stays : {c place n : ℕ} {a b d : SeenOnChannels} → IsRoomed n a b → Looked a.who b.floor d.floor
    → AtStep b.floor d.floor (floor.StandsWithRoom b.floor.shape c place) → d.who ≡ a.who → d.items ≡ b.items
    → SpurnedAnswer c place a d (Ok tt)
spurned_stays {c} {place} {a = a} h look at w f = record {
  told = on_channels (StandsWithRoom c place) ∷ [];
  goes = none_after (kind_at a.floor.shape c) c place;
  left = roomed h
      (told_seen (StandsWithRoom c place) look (record { moment = at.moment; after = at.after; before = at.before; holds = at.holds }) w f);
}

-- ---- both

all_append : (f : Act → Bool) (xs ys : List Act) → list_all f xs ≡ true → list_all f ys ≡ true → list_all f (xs ++ ys) ≡ true
all_append f [] ys h k = k
all_append f (x ∷ xs) ys h k = by_test (f x) h (λ t. all_append f xs ys t k)
  where
    by_test : (b : Bool) → (b && list_all f xs) ≡ true → (list_all f xs ≡ true → list_all f (xs ++ ys) ≡ true)
        → (b && list_all f (xs ++ ys)) ≡ true
    by_test true h rest = rest h
    by_test false h rest = cc

latest_joined : (k c place : ℕ) (ds : List (ℕ × ℕ)) (ys : List Act) → after_put (DropLatest k) c place (map (drop_of c) ds) ≡ true
    → after_put (DropLatest k) c place ys ≡ true → after_put (DropLatest k) c place (map (drop_of c) ds ++ ys) ≡ true
latest_joined k c place [] ys h e = e
latest_joined k c place (d ∷ []) ys h e = cc
latest_joined k c place (d ∷ x ∷ ds) ys h e = cc

joined : (kind : Kind) (c place : ℕ) (ds : List (ℕ × ℕ)) (ys : List Act) → after_put kind c place (map (drop_of c) ds) ≡ true
    → after_put kind c place ys ≡ true → after_put kind c place (map (drop_of c) ds ++ ys) ≡ true
joined (DropLatest k) c place ds ys h e = latest_joined k c place ds ys h e
joined Rendezvous c place ds ys h e = all_append (follows_put Rendezvous c place) (map (drop_of c) ds) ys h e
joined (Buffered k) c place ds ys h e = all_append (follows_put (Buffered k) c place) (map (drop_of c) ds) ys h e
joined Unlimited c place ds ys h e = all_append (follows_put Unlimited c place) (map (drop_of c) ds) ys h e
joined Conflated c place ds ys h e = all_append (follows_put Conflated c place) (map (drop_of c) ds) ys h e
joined (DropOldest k) c place ds ys h e = all_append (follows_put (DropOldest k) c place) (map (drop_of c) ds) ys h e
joined Signal c place ds ys h e = all_append (follows_put Signal c place) (map (drop_of c) ds) ys h e

drops_alone : (c place : ℕ) (ds : List (ℕ × ℕ)) → channel_acts_in
    (items_in (map (λ (d : ℕ × ℕ). made (drop_of c d)) ds ++ on_channels (FitsUpTo c place) ∷ [])) ≡ map (drop_of c) ds
unfolding items_in
drops_alone c place [] = refl
drops_alone c place (d ∷ ds) = ap (λ l. drop_of c d ∷ l) (drops_alone c place ds)

acts_joined : (kind : Kind) (c place : ℕ) (told more : List Told) → DropsAfterPut kind c place told → SpurnsAfterPut kind c place more
    → after_put kind c place (channel_acts_in (items_in (told ++ more))) ≡ true
acts_joined kind c place told more d s =
    let ds = d.drops.dropped in
    let mine : channel_acts_in (items_in told) ≡ map (drop_of c) ds = ap (λ l. channel_acts_in (items_in l)) d.drops.all
    ∙ drops_alone c place ds in
    let both : channel_acts_in (items_in (told ++ more)) ≡ map (drop_of c) ds ++ channel_acts_in (items_in more) =
    ap channel_acts_in (items_in-append told more) ∙ channel_acts_in-append (items_in told) (items_in more)
    ∙ ap (λ l. l ++ channel_acts_in (items_in more)) mine in
    ap (after_put kind c place) both ∙ joined kind c place ds (channel_acts_in (items_in more)) (ap (after_put kind c place) (sym mine)
    ∙ d.acts) s.acts

both_follow : (kind : Kind) (c place : ℕ) (told more : List Told) → DropsAfterPut kind c place told → SpurnsAfterPut kind c place more
    → FollowsPut kind c place (told ++ more)
both_follow kind c place told more d s =
    record {
      overflows = record { drops = told; spurns = more; dropped = d.drops; spurned = s.spurns; all = refl };
      acts =
          acts_joined kind c place told more d s;
    }

-- the own Put stands among the acts after the drops
pub put_after : {c place : ℕ} {a b : SeenOnChannels} → DroppedAnswer c place a b (Ok tt) → HasPut a.who c place a.floor
    → HasPut b.who c place b.floor
put_after {c} {place} {a} {b} t put =
    subst (λ x. HasPut x c place b.floor) (sym t.left.who) (put_lasts a.who c place _ a.floor b.floor t.left.added put)

pub followed : {c place : ℕ} {a b d : SeenOnChannels} → DroppedAnswer c place a b (Ok tt) → SpurnedAnswer c place b d (Ok tt)
    → AfterPutAnswer c place a d (Ok tt)
followed {c} {place} {a} {b} {d} t s' =
    let kind = kind_at a.floor.shape c in
    let s : Tells (SpurnsAfterPut kind c place) b d =
    subst (λ (x : Shape). Tells (SpurnsAfterPut (kind_at x c) c place) b d) t.left.added.same.shape s' in
    record { told = t.told ++ s.told; goes = both_follow kind c place t.told s.told t.goes s.goes; left = told_then t.left s.left }

-- no memory was found for the second
pub spurn_stopped : {c place : ℕ} {a b d : SeenOnChannels} (m : Memory) → DroppedAnswer c place a b (Ok tt) → IsUntouched b d
    → AfterPutAnswer c place a d (Err m)
spurn_stopped {c} {place} {a} m t u =
    let kind = kind_at a.floor.shape c in
    let end : List Told = on_channels (StandsWithRoom c place) ∷ [] in
    part_stopped (FollowsPut kind c place) t.told end (both_follow kind c place t.told end t.goes (none_after kind c place)) t.left u

-- or for the drops
pub drop_stopped : {c place : ℕ} {a b : SeenOnChannels} (m n : Memory) → DroppedAnswer c place a b (Err m)
    → AfterPutAnswer c place a b (Err n)
drop_stopped {c} {place} {a} m n t =
    let kind = kind_at a.floor.shape c in
    let end : List Told = on_channels (StandsWithRoom c place) ∷ [] in
    let both = λ (all : List Told) (d : DropsAfterPut kind c place all). both_follow kind c place all end d (none_after kind c place) in
    record { told = t.told; goes = prefix_on (DropsAfterPut kind c place) (FollowsPut kind c place) end both t.told t.goes; left = t.left }

-- what the second call comes to
pub spurned_then : {c place : ℕ} {a b : SeenOnChannels} (d : SeenOnChannels) (r : Result (Unit {0}) Memory)
    → DroppedAnswer c place a b (Ok tt)
    → SpurnedAnswer c place b d r → AfterPutAnswer c place a d r
spurned_then d (Ok done) t s = followed t s
spurned_then d (Err m) t s = spurn_stopped m t s
