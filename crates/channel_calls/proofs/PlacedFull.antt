-- A send that waits was placed in a full channel.
use Rattle.std.specs.Prelude.{◌≡◌, ℕ, ◌<◌, ◌≤◌, Bool, List, [], ◌∷◌, ◌++◌, map, Option, Some, None, ◌⊎◌}
use mathlib.Core.List.{IsPrefix}
use Rattle.std.proofs.Common.{sym, ◌∙◌, subst, arith, ⊎_elim}
use Rattle.channel_model.specs.declared.acts.Act.TheVariants.{Admit, Offer}
use Rattle.channel_model.specs.declared.acts.Entry.{Entry}
use Rattle.channel_model.specs.declared.floor.WaitState.TheVariants as state
use Rattle.channel_model.specs.Channels.{Shape, Wait}
use Rattle.channel_model.specs.Histories.{replay, acts_of, Legal}
use Rattle.channel_model.specs.Floors.{Floor, Made}
use Rattle.channel_model.specs.Answers.{LookAnswer, IsFullAt, IsAdmittedBelow}
use Rattle.channel_model.specs.PlainOffers.{IsPlainOffer, OffersPlainly, plain_offer}
use Rattle.channel_model.proofs.Histories.{Legal-prefix}
use Rattle.channel_model.proofs.Marks.{next_grows}
use Rattle.channel_model.proofs.Placed.{replay_placed}
use Rattle.channel_model.proofs.PlacedFull.{placed_full_before}
use Rattle.channel_model.proofs.Spans.{prefix_then}
use Rattle.job_model.specs.Histories.{replay as replay_jobs}
use Rattle.note_book.specs.declared.book.Item.{Item}
use Rattle.call_meaning.specs.Telling.{Told, on_channels, NextIs, NoneToAdmit, made}
use Rattle.call_meaning.specs.Facts.{ToldHolds}
use Rattle.call_meaning.specs.Stories.{Moment, IsBy, IsTrue, story_of, with_told}
use Rattle.call_meaning.specs.ChannelCalls.{wait_at, Admits}
use Rattle.call_meaning.specs.Calls.{ToldOnChannels}
use Rattle.call_meaning.proofs.Tellings.{by_then}
use Rattle.channel_calls.specs.Groups.{made_note}
use Rattle.channel_calls.proofs.Begun.{offer_plain}
use Rattle.channel_calls.proofs.HeardMoments.{noted_acts, no_jobs_noted}
use Rattle.call_meaning.specs.Seen.{SeenOnChannels}

-- ---- the last of what was told

last_holds : (shape : Shape) (k : ℕ) (now : Moment) (items : List Item) (earlier : Moment) (xs : List Told) (x : Told)
    → IsTrue (story_of shape k now) items earlier (xs ++ x ∷ [])
    → (at : Moment) × IsBy earlier at × IsBy at now × ToldHolds shape x (replay at.channels) (replay_jobs at.jobs)
unfolding IsTrue
last_holds shape k now items earlier [] x (at, so, rest) = (at, so.not_before, so.not_after, so.holds)
last_holds shape k now items earlier (y ∷ ys) x (at, so, rest) =
    let r = last_holds shape k now (with_told y items) at ys x rest in
    (r.0, by_then earlier at r.0 so.not_before r.1, r.2, r.3)

-- the mark, and then that nobody below it was to be admitted
admitted_after : (shape : Shape) (k c mark : ℕ) (now : Moment) (items : List Item) (earlier : Moment) (xs : List Told)
    → IsTrue (story_of shape k now) items earlier (on_channels (NextIs c mark) ∷ (xs ++ on_channels (NoneToAdmit c mark) ∷ []))
    → (at : Moment) × (then_at : Moment) × IsBy earlier at × IsBy at then_at × IsBy then_at now
    × (((replay at.channels).channels c).next ≡ mark) × IsAdmittedBelow shape c mark (replay then_at.channels)
unfolding IsTrue
admitted_after shape k c mark now items earlier xs (at, so, rest) =
    let r = last_holds shape k now items at xs (on_channels (NoneToAdmit c mark)) rest in
    (at, r.0, so.not_before, r.1, r.2, so.holds, r.3)

-- ---- the own offer was given its place

none_plain : (who c : ℕ) (b : Bool) (x : Option Wait) → x ≡ None → IsPlainOffer who c b x → ⊥
none_plain who c b None e h = h
none_plain who c b (Some x) e h = cc

place_given : (shape : Shape) (who c q : ℕ) (es : List Entry) → Legal shape es → OffersPlainly who (wait_at c q) (replay es)
    → q < ((replay es).channels c).next
place_given shape who c q es l h = ⊎_elim (λ lt. lt) (λ le. absurd
    (none_plain who c _ _ (replay_placed shape es l (wait_at c q) le) h.wait)) (apart q ((replay es).channels c).next)
  where
    apart : (m n : ℕ) → (m < n) ⊎ (n ≤ m)
    apart m n = grind arith

-- ---- the placing

pub placed_in_full : (c v q : ℕ) {who : ℕ} {z : Floor} {old new : SeenOnChannels} {d : Floor} {told : List Told} → Legal d.shape d.seen
    → (m : Made who (Offer c q v (wait_at c q) 0) z old.floor) → Admits c told → ToldOnChannels old new told → old.who ≡ who
    → LookAnswer new.who (wait_at c q) new.floor d state.Standing → IsFullAt old.floor.shape c (replay m.before)
placed_in_full c v q {who} {z} {old} {new} {d} {told} l m h told_by same look_by =
    let b : Floor = old.floor in
    let between : Floor = new.floor in
    let t : ToldOnChannels (record old { who = who }) new told =
    subst (λ n. ToldOnChannels (record old { who = n }) new told) same told_by in
    let look : LookAnswer who (wait_at c q) between d state.Standing =
    subst (λ n. LookAnswer n (wait_at c q) between d state.Standing) (t.who) look_by in
    let shape : d.shape ≡ b.shape = look.0.same.shape ∙ t.added.same.shape in
    let legal : Legal b.shape d.seen = subst (λ (s : Shape). Legal s d.seen) shape l in
    let to_end : IsPrefix b.seen d.seen = prefix_then b.seen between.seen d.seen t.added.longer look.0.longer in
    let legal_b : Legal b.shape b.seen = Legal-prefix b.shape b.seen to_end.0 (subst (Legal b.shape) (sym to_end.1) legal) in
    let book : List Item = map made_note (acts_of who b.seen) in
    let all = t.was_so book [] (sym (noted_acts (acts_of who b.seen))) (no_jobs_noted who (acts_of who b.seen)) in
    let now : Moment = record { channels = between.seen; jobs = [] } in
    let first : Moment = record { channels = b.seen; jobs = [] } in
    let r = admitted_after b.shape who c h.mark now book first (map (λ p. made (Admit c p)) h.places)
    (subst (IsTrue (story_of b.shape who now) book first) h.all all) in
    let at : List Entry = r.0.channels in
    let late : List Entry = r.1.channels in
    let stood = look.1 in
    let late_end : IsPrefix late d.seen = prefix_then late between.seen d.seen r.4.channels look.0.longer in
    let at_end : IsPrefix at d.seen = prefix_then at late d.seen r.3.channels late_end in
    let legal_at : Legal b.shape at = Legal-prefix b.shape at at_end.0 (subst (Legal b.shape) (sym at_end.1) legal) in
    let plain : OffersPlainly who (wait_at c q) (replay b.seen) = offer_plain who c q v z b legal_b m in
    let given : q < ((replay b.seen).channels c).next = place_given b.shape who c q b.seen legal_b plain in
    let grows : ((replay b.seen).channels c).next ≤ ((replay at).channels c).next = next_grows b.shape b.seen at c legal_at r.2.channels in
    let mark : ((replay at).channels c).next ≡ h.mark = r.5 in
    let lt : q < h.mark = omega (arith, given, grows, mark) in
    let legal_stood : Legal b.shape stood.moment = Legal-prefix b.shape stood.moment stood.before.0
    (subst (Legal b.shape) (sym stood.before.1) legal) in
    let late_stood : IsPrefix late stood.moment = prefix_then late between.seen stood.moment r.4.channels stood.after in
    let begins : IsPrefix (m.before ++ plain_offer who c q v ∷ []) late =
    subst (λ es. IsPrefix es late) m.last (prefix_then b.seen at late r.2.channels r.3.channels) in
    placed_full_before b.shape m.before late stood.moment who c q v h.mark legal_stood begins late_stood lt r.6 stood.holds
