-- The order of both histories begins with the root, and goes on with each turn.
use Rattle.std.proofs.Common.{◌≡◌, ◌≢◌, ℕ, ◌<◌, Bool, true, false, List, [], length, set, Option, Some, None, refl, sym, subst, arith, slice_get}
use Rattle.std.specs.Prelude.{◌==◌}
use Rattle.std.proofs.lemmas.Bool.{eqb-true}
use Rattle.std.proofs.lemmas.Bool.Decides.{nat_tests}
use Rattle.channel_model.specs.Floors.{Floor}
use Rattle.job_model.specs.Floors.{Floor as JobFloor}
use Rattle.note_book.specs.declared.book.Item.{Item}
use Rattle.call_meaning.specs.Telling.{items_in}
use Rattle.call_meaning.specs.Calls.{seen_by}
use Rattle.script_grammar.specs.Programs.{Program}
use Rattle.script_meaning.specs.Configs.{Config}
use Rattle.script_meaning.specs.Polls.{Polled}
use Rattle.co_base.specs.Orders.{Side}
use Rattle.run_laws.specs.Orders.{RunsAlong}
use Rattle.call_meaning.proofs.OrderCounts.{sides_of, order_after}
use Rattle.run_laws.proofs.AlongLater.{runs_along_later}
use Rattle.run_laws.proofs.PolledAlong.{fresh_along, begun_order, begun_along, polled_order, polled_along}
use Rattle.run_laws.proofs.Places.{slice_get-set_same, slice_get-set_other}
use Rattle.poll_states.specs.Frames.{Frame, frame_of, config_of, items_of}
use Rattle.poll_states.specs.Steps.{BegunTo}
use Rattle.engine_one.specs.Coroutines.{Scene, FrameStands, RunsAlongAt, HaveOneOrder}
use Rattle.engine_one.specs.Starting.{IsMadeAt, AllMade}

-- one frame was replaced, and the others told no more
set_along : (p : Program) (s : Scene) (order : List Side) (frames : List Frame) (k : ℕ) (g : Frame) → k < length frames
    → RunsAlongAt p s order k (Some g) → ((j : ℕ) → k ≢ j → RunsAlongAt p s order j (slice_get frames j))
    → (j : ℕ) → RunsAlongAt p s order j (slice_get (set frames k g) j)
set_along p s order frames k g lt here others j = by_test (k == j) refl
  where
    by_test : (t : Bool) → (k == j) ≡ t → RunsAlongAt p s order j (slice_get (set frames k g) j)
    by_test true e =
        let there : RunsAlongAt p s order k (slice_get (set frames k g) k) =
        subst (RunsAlongAt p s order k) (sym (slice_get-set_same frames k g lt)) here in
        subst (λ n. RunsAlongAt p s order n (slice_get (set frames k g) n)) (eqb-true k j e) there
    by_test false e =
        let n : k ≢ j = λ q. grind (arith, nat_tests) in
        subst (RunsAlongAt p s order j) (sym (slice_get-set_other frames k j g n)) (others j n)

-- a turn of k
pub turned_order : (p : Program) (a b : Scene) (frames : List Frame) (k : ℕ) (f g : Frame) → a.channels.alone ≡ true
    → a.jobs.alone ≡ true → k < length frames → slice_get frames k ≡ Some f → FrameStands p a k f
    → Polled p a.channels b.channels a.jobs b.jobs (frame_of f) (frame_of g) → HaveOneOrder p a frames → HaveOneOrder p b (set frames k g)
turned_order p a b frames k f g alone jobs_alone lt at was polled h = record {
  order = after;
  whole = polled_order p a.channels b.channels a.jobs b.jobs (frame_of f) (frame_of g) h.order alone jobs_alone h.whole polled;
  along = set_along p b after frames k g lt here (λ j n. kept j (slice_get frames j) (h.along j));
}
  where
    after : List Side
    after = order_after h.order polled.told

    own : RunsAlong p k (seen_by a.channels a.jobs) h.order (items_of f) (config_of f)
    own = subst (RunsAlongAt p a h.order k) at (h.along k)

    here : RunsAlong p k (seen_by b.channels b.jobs) after (items_of g) (config_of g)
    here = subst (λ n. RunsAlong p n (seen_by b.channels b.jobs) after (items_of g) (config_of g)) was.tag
        (polled_along p a.channels b.channels a.jobs b.jobs (frame_of f) (frame_of g) h.order alone jobs_alone was.stands.on h.whole
        (subst (λ n. RunsAlong p n (seen_by a.channels a.jobs) h.order (items_of f) (config_of f)) (sym was.tag) own) polled)

    kept : (j : ℕ) (o : Option Frame) → RunsAlongAt p a h.order j o → RunsAlongAt p b after j o
    kept j None r = tt
    kept j (Some x) r = runs_along_later p j (seen_by a.channels a.jobs) (seen_by b.channels b.jobs) h.order after (items_of x)
        (config_of x)
        h.whole (record { channels = polled.channels.longer; jobs = polled.jobs.longer }) (sides_of (items_in polled.told), refl) r

-- the root began, and the others are as they were made
pub begun_one_order : (p : Program) (c : Floor) (j j' : JobFloor) (frames : List Frame) (f g : Frame) → c.seen ≡ [] → j.seen ≡ []
    → j.alone ≡ true → 0 < length frames → AllMade frames → f.tag ≡ 0 → BegunTo p c c j j' f g
    → HaveOneOrder p (record { channels = c; jobs = j' }) (set frames 0 g)
begun_one_order p c j j' frames f g none no_jobs alone some all tag begun = record {
  order = after;
  whole = begun_order p c j j' (frame_of f) (frame_of g) none no_jobs alone begun.stands.on begun.begun;
  along = set_along p s after frames 0 g some here (λ k n. fresh_at k n (slice_get frames k) (all k));
}
  where
    s : Scene
    s = record { channels = c; jobs = j' }

    after : List Side
    after = order_after [] begun.begun.told

    here : RunsAlong p 0 (seen_by c j') after (items_of g) (config_of g)
    here = subst (λ n. RunsAlong p n (seen_by c j') after (items_of g) (config_of g)) tag
        (begun_along p c j j' (frame_of f) (frame_of g) none no_jobs alone begun.stands.on begun.begun)

    fresh_at : (k : ℕ) → 0 ≢ k → (o : Option Frame) → IsMadeAt k o → RunsAlongAt p s after k o
    fresh_at k n None made = tt
    fresh_at k n (Some x) made =
        subst (λ (b : List Item). RunsAlong p k (seen_by c j') after b (config_of x)) (sym made.book)
        (subst (λ (y : Config). RunsAlong p k (seen_by c j') after [] y) (sym made.config)
        (fresh_along p k (seen_by c j') after (λ e. n (sym e))))
