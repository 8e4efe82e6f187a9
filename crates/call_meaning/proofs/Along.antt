-- What is told along an order: later, after what was told before, and by a caller of two floors of which each hears the other.
use Rattle.std.specs.Prelude.{◌≡◌, ℕ, zero, suc, ◌+◌, ◌≤◌, List, [], ◌∷◌, ◌++◌, length, take, refl}
use Rattle.std.proofs.Common.{ap, sym, ◌∙◌, subst, append_assoc, arith, length-append}
use Rattle.std.proofs.lemmas.List.{append-nil, take-append-le, nil_from_length}
use Rattle.std.proofs.Math.Seq.{take-append_seam}
use mathlib.Core.List.{IsPrefix}
use Rattle.co_base.specs.Orders.{Side, channel_entries_in, job_entries_in}
use Rattle.co_base.proofs.Orders.{order_same, order_then}
use Rattle.channel_model.specs.declared.acts.Act.{Act}
use Rattle.channel_model.specs.Channels.{Shape}
use Rattle.channel_model.specs.Histories.{replay, acts_of}
use Rattle.channel_model.specs.Floors.{Floor as ChannelFloor, Added as AddedToChannels}
use Rattle.channel_model.proofs.Histories.{acts_of-append}
use Rattle.job_model.specs.declared.acts.JobAct.{JobAct}
use Rattle.job_model.specs.Histories.{replay as replay_jobs, acts_of as job_acts_of}
use Rattle.job_model.specs.Floors.{Floor, Added}
use Rattle.job_model.proofs.Histories.{acts_of-append as job_acts_of-append}
use Rattle.note_book.specs.declared.book.Item.{Item}
use Rattle.note_book.specs.Items.{channel_acts_in, job_acts_in}
use Rattle.note_book.proofs.Appended.{channel_acts_in-append, job_acts_in-append}
use Rattle.call_meaning.specs.Telling.{Told, note, items_in}
use Rattle.call_meaning.specs.Facts.{ToldHolds}
use Rattle.call_meaning.specs.Stories.{Moment, IsBy, Story, IsTrue, with_told, story_of}
use Rattle.call_meaning.specs.Orders.{IsTrueAlong, HasHeard, HasTold, IsAt, WasSoAlong}
use Rattle.call_meaning.specs.Calls.{seen_by, IsOfChannels, IsOfJobs, AreAll}
use Rattle.call_meaning.proofs.OrderCounts.{fewer_channel_entries, fewer_job_entries}
use Rattle.call_meaning.proofs.PointsOfMoments.{points_of_channels, points_of_jobs}

-- ---- later

-- what was true along an order is true along one that goes on, with the histories
pub along_later : (shape : Shape) (k : ℕ) (now later : Moment) (order longer : List Side) (items : List Item) (before : List Side)
    (told : List Told) → channel_entries_in order ≤ length now.channels → job_entries_in order ≤ length now.jobs
    → IsBy now later → IsPrefix order longer
    → IsTrueAlong (story_of shape k now) order items before told → IsTrueAlong (story_of shape k later) longer items before told
unfolding IsTrueAlong
along_later shape k now later order longer items before [] w v b p t = tt
along_later shape k now later order longer items before (x ∷ told) w v b p (at, so, rest) =
    let few : channel_entries_in at ≤ length now.channels
    = (let less = fewer_channel_entries at order so.not_after in omega (arith, less, w)) in
    let few_jobs : job_entries_in at ≤ length now.jobs
    = (let less = fewer_job_entries at order so.not_after in omega (arith, less, v)) in
    let calls : take (channel_entries_in at) later.channels ≡ take (channel_entries_in at) now.channels
    = ap (λ l. take (channel_entries_in at) l) (sym b.channels.1)
    ∙ take-append-le (channel_entries_in at) now.channels b.channels.0 few in
    let jobs : take (job_entries_in at) later.jobs ≡ take (job_entries_in at) now.jobs
    = ap (λ l. take (job_entries_in at) l) (sym b.jobs.1) ∙ take-append-le (job_entries_in at) now.jobs b.jobs.0 few_jobs in (
      at,
      record {
        not_before = so.not_before;
        not_after = order_then at order longer so.not_after p;
        channel_acts = ap (acts_of k) calls ∙ so.channel_acts;
        job_acts = ap (job_acts_of k) jobs ∙ so.job_acts;
        holds = subst (λ l. ToldHolds shape x (replay l) (replay_jobs (take (job_entries_in at) later.jobs))) (sym calls)
            (subst (λ l. ToldHolds shape x (replay (take (channel_entries_in at) now.channels)) (replay_jobs l)) (sym jobs) so.holds);
      },
      along_later shape k now later order longer (with_told x items) at told w v b p rest,
    )

-- ---- one after another

-- with an earlier bound
along_sooner : (s : Story) (order : List Side) (items : List Item) (earliest earlier : List Side) (told : List Told)
    → IsPrefix earliest earlier → IsTrueAlong s order items earlier told → IsTrueAlong s order items earliest told
unfolding IsTrueAlong
along_sooner s order items earliest earlier [] b t = tt
along_sooner s order items earliest earlier (x ∷ told) b (at, so, rest) = (
  at,
  record {
    not_before = order_then earliest earlier at b so.not_before;
    not_after = so.not_after;
    channel_acts = so.channel_acts;
    job_acts = so.job_acts;
    holds = so.holds;
  },
  rest,
)

items_then : (x : Told) (items : List Item) (told : List Told) → with_told x items ++ items_in told ≡ items ++ items_in (x ∷ told)
unfolding items_in
items_then (note i) items told = append_assoc items (i ∷ []) (items_in told)
items_then other items told = refl

pub along_then : (s : Story) (order between : List Side) (items : List Item) (earlier : List Side) (xs ys : List Told)
    → IsPrefix earlier between → IsPrefix between order
    → IsTrueAlong s between items earlier xs → IsTrueAlong s order (items ++ items_in xs) between ys
    → IsTrueAlong s order items earlier (xs ++ ys)
unfolding IsTrueAlong items_in
along_then s order between items earlier [] ys b c t v =
    along_sooner s order items earlier between ys b (subst (λ l. IsTrueAlong s order l between ys) (append-nil items) v)
along_then s order between items earlier (x ∷ xs) ys b c (at, so, rest) v = (
  at,
  record {
    not_before = so.not_before;
    not_after = order_then at between order so.not_after c;
    channel_acts = so.channel_acts;
    job_acts = so.job_acts;
    holds = so.holds;
  },
  along_then s order between (with_told x items) at xs ys so.not_after c rest
      (subst (λ l. IsTrueAlong s order l between ys) (sym (items_then x items xs)) v),
)

-- ---- own acts between two points

whole_taken : {A : Type 0} (n : ℕ) (xs : List A) → n ≡ length xs → take n xs ≡ xs
whole_taken n xs e = ap (λ m. take m xs) e ∙ ap (λ l. take (length xs) l) (sym (append-nil xs)) ∙ take-append_seam xs []

pub take_front : {A : Type 0} (m n : ℕ) (xs : List A) → m ≤ n → IsPrefix (take m xs) (take n xs)
take_front zero n xs h = (take n xs, refl)
take_front (suc m) zero xs h = let none : ⊥ = omega (arith, h) in absurd none
take_front (suc m) (suc n) [] h = ([], refl)
take_front (suc m) (suc n) (x ∷ xs) h =
    let less : m ≤ n = omega (arith, h) in
    let r = take_front m n xs less in
    (r.0, ap (λ l. x ∷ l) r.1)

pub take_prefix : {A : Type 0} (n : ℕ) (xs : List A) → IsPrefix (take n xs) xs
take_prefix zero xs = (xs, refl)
take_prefix (suc n) [] = ([], refl)
take_prefix (suc n) (x ∷ xs) = let r = take_prefix n xs in (r.0, ap (λ l. x ∷ l) r.1)

module _ {E A : Type 0} (part : ℕ → List E → List A) (splits : (k : ℕ) (xs ys : List E) → part k (xs ++ ys) ≡ part k xs ++ part k ys) where
  -- what is of k in a beginning is the first of what is of k
  part_begins : (k : ℕ) (xs ys : List E) → IsPrefix xs ys → IsPrefix (part k xs) (part k ys)
  part_begins k xs ys (r, e) = (part k r, sym (splits k xs r) ∙ ap (part k) e)

  -- between two that have the same of k there is no more of k
  same_between : (k : ℕ) (xs ys zs : List E) (of : List A) → IsPrefix xs ys → IsPrefix ys zs → part k xs ≡ of → part k zs ≡ of
      → part k ys ≡ of
  same_between k xs ys zs of p q first last =
      let a = part_begins k xs ys p in
      let b = part_begins k ys zs q in
      let la = length-append (part k xs) a.0 in
      let lb = length-append (part k ys) b.0 in
      let ea : length (part k xs ++ a.0) ≡ length (part k ys) = ap length a.1 in
      let eb : length (part k ys ++ b.0) ≡ length (part k zs) = ap length b.1 in
      let ef : length (part k xs) ≡ length of = ap length first in
      let el : length (part k zs) ≡ length of = ap length last in
      let none : a.0 ≡ [] = nil_from_length a.0 (omega (arith, la, lb, ea, eb, ef, el)) in
      sym a.1 ∙ ap (λ l. part k xs ++ l) none ∙ append-nil (part k xs) ∙ first

  -- the same at each number between two, of a history that went on meanwhile
  same_taken : (k m n : ℕ) (old new : List E) (of : List A) → IsPrefix old new → m ≤ length old → m ≤ n → part k (take m old) ≡ of
      → part k new ≡ of → part k (take n new) ≡ of
  same_taken k m n old new of (r, e) few le first last =
      let front : take m new ≡ take m old = ap (λ l. take m l) (sym e) ∙ take-append-le m old r few in
      same_between k (take m new) (take n new) new of (take_front m n new le) (take_prefix n new) (ap (part k) front ∙ first) last

-- ---- a caller of two floors

-- what was known at a point stays so
pub at_later : (who : ℕ) (c c' : ChannelFloor) (j j' : Floor) (items : List Item) (p : List Side) → IsPrefix c.order c'.order
    → IsPrefix c.seen c'.seen → IsPrefix j.order j'.order → IsPrefix j.seen j'.seen → IsAt who c j items p → IsAt who c' j' items p
at_later who c c' j j' items p co cs jo js at =
    let lc = length-append c.seen cs.0 in
    let ec : length (c.seen ++ cs.0) ≡ length c'.seen = ap length cs.1 in
    let lj = length-append j.seen js.0 in
    let ej : length (j.seen ++ js.0) ≡ length j'.seen = ap length js.1 in
    let fc = at.few_channels in
    let fj = at.few_jobs in
    let calls : take (channel_entries_in p) c'.seen ≡ take (channel_entries_in p) c.seen
    = ap (λ l. take (channel_entries_in p) l) (sym cs.1) ∙ take-append-le (channel_entries_in p) c.seen cs.0 fc in
    let jobs : take (job_entries_in p) j'.seen ≡ take (job_entries_in p) j.seen
    = ap (λ l. take (job_entries_in p) l) (sym js.1) ∙ take-append-le (job_entries_in p) j.seen js.0 fj in
    record {
      channels = order_then p c.order c'.order at.channels co;
      jobs = order_then p j.order j'.order at.jobs jo;
      few_channels = omega (arith, lc, ec, fc);
      few_jobs = omega (arith, lj, ej, fj);
      channel_acts = ap (acts_of who) calls ∙ at.channel_acts;
      job_acts = ap (job_acts_of who) jobs ∙ at.job_acts;
    }

-- a call on channels, which the floor of Jobs then heard
pub channels_along : (who : ℕ) (c c' : ChannelFloor) (j j' : Floor) (rows : List ℕ) (book : List Item) (told : List Told) (p : List Side)
    → AddedToChannels who (channel_acts_in (items_in told)) c c' → Added who [] rows j j' → HasHeard c' j'
    → job_acts_in (items_in told) ≡ [] → AreAll IsOfChannels told
    → acts_of who c.seen ≡ channel_acts_in book → job_acts_of who j.seen ≡ job_acts_in book → IsAt who c j book p
    → IsTrue (story_of c.shape who (record { channels = c'.seen; jobs = j.seen })) book (seen_by c j) told
    → WasSoAlong c.shape who book c' j' told p
channels_along who c c' j j' rows book told p added same heard quiet all e f at so =
    let from : IsPrefix p c'.order = order_then p c.order c'.order at.channels added.same.order in
    let calls = heard.channels in
    let counted = heard.jobs in
    let fewer = fewer_job_entries c'.order j'.order heard.order in
    let own : job_acts_of who j'.seen ≡ job_acts_in book = same.mine ∙ append-nil (job_acts_of who j.seen) ∙ f in
    let meanwhile : (q : List Side) → IsPrefix p q → job_acts_of who (take (job_entries_in q) j'.seen) ≡ job_acts_in book
    = λ q a. same_taken job_acts_of job_acts_of-append who (job_entries_in p) (job_entries_in q) j.seen j'.seen (job_acts_in book)
    same.longer at.few_jobs (fewer_job_entries p q a) at.job_acts own in
    record {
      to = c'.order;
      not_before = from;
      at = record {
        channels = order_same c'.order;
        jobs = heard.order;
        few_channels = omega (arith, calls);
        few_jobs = omega (arith, fewer, counted);
        channel_acts = ap (acts_of who) (whole_taken (channel_entries_in c'.order) c'.seen calls) ∙ added.mine
            ∙ ap (λ (l : List Act). l ++ channel_acts_in (items_in told)) e ∙ sym (channel_acts_in-append book (items_in told));
        job_acts = meanwhile c'.order from ∙ sym (job_acts_in-append book (items_in told)
            ∙ ap (λ (l : List JobAct). job_acts_in book ++ l) quiet ∙ append-nil (job_acts_in book));
      };
      is_true = points_of_channels c.shape who c'.seen j'.seen c'.order j.seen book told (seen_by c j) p calls from at.few_channels
          (λ q a b. meanwhile q a) all so;
    }

-- a call on Jobs, of which the floor of channels was then told
pub jobs_along : (who : ℕ) (c c' : ChannelFloor) (j j' : Floor) (rows : List ℕ) (book : List Item) (told : List Told) (p : List Side)
    → AddedToChannels who [] c c' → Added who (job_acts_in (items_in told)) rows j j' → HasTold c' j'
    → channel_acts_in (items_in told) ≡ [] → AreAll IsOfJobs told
    → acts_of who c.seen ≡ channel_acts_in book → job_acts_of who j.seen ≡ job_acts_in book → IsAt who c j book p
    → IsTrue (story_of c.shape who (record { channels = c.seen; jobs = j'.seen })) book (seen_by c j) told
    → WasSoAlong c.shape who book c' j' told p
jobs_along who c c' j j' rows book told p same added heard quiet all e f at so =
    let from : IsPrefix p j'.order = order_then p j.order j'.order at.jobs added.same.order in
    let calls = heard.channels in
    let counted = heard.jobs in
    let fewer = fewer_channel_entries j'.order c'.order heard.order in
    let own : acts_of who c'.seen ≡ channel_acts_in book = same.mine ∙ append-nil (acts_of who c.seen) ∙ e in
    let meanwhile : (q : List Side) → IsPrefix p q → acts_of who (take (channel_entries_in q) c'.seen) ≡ channel_acts_in book
    = λ q a. same_taken acts_of acts_of-append who (channel_entries_in p) (channel_entries_in q) c.seen c'.seen (channel_acts_in book)
    same.longer at.few_channels (fewer_channel_entries p q a) at.channel_acts own in
    record {
      to = j'.order;
      not_before = from;
      at = record {
        channels = heard.order;
        jobs = order_same j'.order;
        few_channels = omega (arith, fewer, calls);
        few_jobs = omega (arith, counted);
        channel_acts = meanwhile j'.order from ∙ sym (channel_acts_in-append book (items_in told)
            ∙ ap (λ (l : List Act). channel_acts_in book ++ l) quiet ∙ append-nil (channel_acts_in book));
        job_acts = ap (job_acts_of who) (whole_taken (job_entries_in j'.order) j'.seen counted) ∙ added.mine
            ∙ ap (λ (l : List JobAct). l ++ job_acts_in (items_in told)) f ∙ sym (job_acts_in-append book (items_in told));
      };
      is_true = points_of_jobs c.shape who c'.seen j'.seen j'.order c.seen book told (seen_by c j) p counted from at.few_jobs
          (λ q a b. meanwhile q a) all so;
    }

-- one call after another
pub along_after : (shape : Shape) (who : ℕ) (c c' : ChannelFloor) (j j' : Floor) (book : List Item) (xs ys : List Told) (p : List Side)
    → items_in (xs ++ ys) ≡ items_in xs ++ items_in ys
    → IsPrefix c.seen c'.seen → IsPrefix j.seen j'.seen → (h : WasSoAlong shape who book c j xs p)
    → WasSoAlong shape who (book ++ items_in xs) c' j' ys h.to → WasSoAlong shape who book c' j' (xs ++ ys) p
along_after shape who c c' j j' book xs ys p split cs js h n =
    let both : (book ++ items_in xs) ++ items_in ys ≡ book ++ items_in (xs ++ ys)
    = append_assoc book (items_in xs) (items_in ys) ∙ ap (λ (l : List Item). book ++ l) (sym split) in
    record {
      to = n.to;
      not_before = order_then p h.to n.to h.not_before n.not_before;
      at = subst (λ (l : List Item). IsAt who c' j' l n.to) both n.at;
      is_true = along_then (story_of shape who (seen_by c' j')) n.to h.to book p xs ys h.not_before n.not_before
          (along_later shape who (seen_by c j) (seen_by c' j') h.to h.to book p xs h.at.few_channels h.at.few_jobs
          (record { channels = cs; jobs = js }) (order_same h.to) h.is_true)
          n.is_true;
    }
