-- Floors into which those of all were ended have all tags.
use Rattle.std.specs.Prelude.{◌≡◌, ℕ, suc, ◌+◌, ◌<◌, ◌≤◌, Bool, true, false, ◌||◌, List, [], ◌∷◌, length, refl}
use Rattle.std.specs.List.{All}
use Rattle.std.proofs.Common.{sym, ap, ◌∙◌, subst, arith, true≢false}
use Rattle.std.proofs.lemmas.List.Elements.{All-head, All-tail, All-cons}
use Rattle.std.proofs.lemmas.Bool.{or_right}
use mathlib.Core.Logic.{dite}
use native.Mathlib.Decide.{ℕ_discrete, dec_le}
use Rattle.channel_model.specs.Floors.{Floor as ChannelFloor, Looked}
use Rattle.channel_model.proofs.Spans.{prefix_then}
use Rattle.co_base.proofs.Orders.{order_then}
use Rattle.job_model.specs.Floors.{Floor}
use Rattle.shared_floors.specs.Meetings.{EndedOnChannels, EndedOnJobs}
use Rattle.worded.specs.Views.{has_tag}
use Rattle.script_grammar.specs.Programs.{Program}
use Rattle.script_grammar.specs.Tags.{coroutine_count}
use Rattle.word_seats.specs.Seats.{may_act}
use Rattle.word_seats.proofs.Given.{ungiven}
use Rattle.run_laws.specs.Sights.{Sight, Keeps, KnowsTags, CountUp}
use Rattle.run_laws.specs.LastRounds.{tags_seen}
use Rattle.run_laws.specs.Ends.{IsBroughtTo, NoOthers, IsSpare}
use Rattle.run_laws.proofs.Hearing.{within_itself}
use Rattle.engine_many.specs.Endings.{MayBothCall, AreWhole}

-- who heard something before an end has heard it at the end
pub ended_heard : (a h c b : ChannelFloor) {who : ℕ} → Looked who a h → ((k : ℕ) → a.callers k ≡ true → Looked k a h)
    → EndedOnChannels h c b → EndedOnChannels a c b
ended_heard a h c b here looked ended = record {
  shape = ended.shape ∙ here.same.shape;
  callers = λ k. ended.callers k ∙ ap (λ (f : ℕ → Bool). f k || b.callers k) here.same.callers;
  longer = prefix_then a.seen h.seen c.seen here.longer ended.longer;
  heard = ended.heard;
  order = order_then a.order h.order c.order here.same.order ended.order;
  heard_order = ended.heard_order;
  mine = λ k own. ended.mine k (ap (λ (f : ℕ → Bool). f k) here.same.callers ∙ own) ∙ (looked k own).mine;
  theirs = ended.theirs;
}

-- the floors that were kept aside have come there
pub aside_there : (p : Program) (c c' b : ChannelFloor) (j j' i : Floor) → EndedOnChannels c c' b → EndedOnJobs j j' i → IsSpare p b i
    → MayBothCall c' j' (coroutine_count p)
aside_there p c c' b j j' i calls jobs spare = (
  calls.callers (coroutine_count p) ∙ or_right (c.callers (coroutine_count p)) (b.callers (coroutine_count p)) spare.caller,
  jobs.callers (coroutine_count p) ∙ or_right (j.callers (coroutine_count p)) (i.callers (coroutine_count p)) spare.job_caller,
)

module _ {X : Type 0} (at : X → Sight) where
  -- and those of each coroutine
  all_call : (p : Program) (c : ChannelFloor) (j : Floor) (from : ℕ) (xs : List X) → CountUp from (tags_seen at xs)
      → All (λ x. IsBroughtTo p c j (at x)) xs → (k : ℕ) → from ≤ k → k < from + length xs → MayBothCall c j k
  all_call p c j from [] up all k le lt = absurd (omega (arith, le, lt))
  all_call p c j from (x ∷ xs) up all k le lt = dite (ℕ_discrete from k)
      (λ e. let h = All-head (λ z. IsBroughtTo p c j (at z)) x xs all in let is = up.0 ∙ e in
      (ap c.callers (sym is) ∙ h.caller, ap j.callers (sym is) ∙ h.job_caller))
      (λ ne. all_call p c j (suc from) xs up.1 (All-tail (λ z. IsBroughtTo p c j (at z)) x xs all) k
      (let next : suc from ≤ k = omega (arith, le, ne) in next)
      (let last : k < suc from + length xs = omega (arith, lt) in last))

  pub are_whole : (p : Program) (root : X) (others : List X) (c : ChannelFloor) (j : Floor) (may_call may_act : ℕ → Bool)
      → length (root ∷ others) ≡ coroutine_count p → CountUp 0 (tags_seen at (root ∷ others)) → IsBroughtTo p c j (at root)
      → All (λ x. IsBroughtTo p c j (at x)) others → MayBothCall c j (coroutine_count p) → KnowsTags p 0 may_call may_act → NoOthers p c j
      → AreWhole p c j may_call may_act
  are_whole p root others c j may_call may_act count up here there aside knows none = record {
    shape = here.shape ∙ here.keeps.stands.channels;
    job_shape = here.job_shape ∙ here.keeps.stands.jobs;
    callers = λ k le. dite (ℕ_discrete (coroutine_count p) k) (λ e. subst (MayBothCall c j) e aside)
        (λ ne. all_call p c j 0 (root ∷ others) up (All-cons (λ x. IsBroughtTo p c j (at x)) root others here there) k
        (let z : 0 ≤ k = omega arith in z) (let lt : k < 0 + length (root ∷ others) = omega (arith, le, ne, count) in lt));
    others = λ k lt. knows refl k lt;
    none = none;
  }

-- a pass that has the tags up to n gave out no other, where nobody may act under one past n
pub gave_these : (n : ℕ) (chief : Bool) (given tags : List ℕ) → ((k : ℕ) → k ≤ n → has_tag k tags ≡ true)
    → ((k : ℕ) → n < k → may_act chief given k ≡ false) → (k : ℕ) → has_tag k given ≡ true → has_tag k tags ≡ true
gave_these n chief given tags has none k e = dite (dec_le k n) (has k)
    (λ no. absurd (true≢false (sym e ∙ (ungiven chief given k (none k (let lt : n < k = omega (arith, no) in lt))).1)))

pub gives_out : (n : ℕ) (chief : Bool) (given : List ℕ) → ((k : ℕ) → n < k → may_act chief given k ≡ false) → chief ≡ true
gives_out n chief given none = (ungiven chief given (suc n) (none (suc n) (let lt : n < suc n = omega arith in lt))).0

-- what a coroutine has seen and done is at its own floors
pub brought_itself : (p : Program) (s : Sight) → Keeps p s → IsBroughtTo p s.channels s.jobs s
brought_itself p s k = record {
  keeps = k;
  shape = refl;
  job_shape = refl;
  caller = k.stands.of_channels;
  job_caller = k.stands.of_jobs;
  seen = within_itself s;
  same = record { calls = refl; jobs = refl };
  kept = λ r t e. e;
  claims = λ r. refl;
}
