-- The points up to which coroutines told their stories are beginnings of one another, and an order of both whole histories goes on from the
-- longest.
use Rattle.std.specs.Prelude.{◌≡◌, ℕ, zero, suc, ◌-◌, ◌≤◌, ◌⊎◌, true, List, [], ◌∷◌, ◌++◌, length, replicate, refl}
use Rattle.std.specs.List.{All}
use Rattle.std.proofs.Common.{ap, sym, ◌∙◌, inl, inr, arith}
use Rattle.std.proofs.lemmas.List.{append-nil}
use Rattle.std.proofs.lemmas.List.Elements.{All-head, All-tail, All-cons, All-nil, All-weaker}
use mathlib.Core.List.{IsPrefix}
use Rattle.co_base.specs.Orders.{Side, OfChannels, OfJobs, channel_entries_in, job_entries_in}
use Rattle.co_base.proofs.Orders.{order_same, order_then}
use Rattle.channel_model.specs.Floors.{Floor as ChannelFloor}
use Rattle.job_model.specs.Floors.{Floor}
use Rattle.call_meaning.specs.Calls.{seen_by}
use Rattle.call_meaning.proofs.OrderCounts.{channel_entries_in-append, job_entries_in-append}
use Rattle.script_grammar.specs.Programs.{Program}
use Rattle.run_laws.specs.Orders.{RunsAlong, StandsAlong}
use Rattle.run_laws.specs.Sights.{Sight}
use Rattle.run_laws.specs.Ends.{IsBroughtTo, HaveOneOrder}
use Rattle.run_laws.proofs.AlongLater.{runs_along_after}
use Rattle.call_meaning.proofs.PointsOfMoments.{longer_list}

-- ---- beginnings of one list

same_head : {A : Type 0} (x y z : A) (xs ys zs : List A) → x ∷ xs ≡ z ∷ zs → y ∷ ys ≡ z ∷ zs → x ≡ y
same_head x y z xs ys zs e f = cc

pub same_tail : {A : Type 0} (x z : A) (xs zs : List A) → x ∷ xs ≡ z ∷ zs → xs ≡ zs
same_tail x z xs zs e = cc

-- of two of them the one goes on to the other
pub one_goes_on : {A : Type 0} (xs ys zs : List A) → IsPrefix xs zs → IsPrefix ys zs → IsPrefix xs ys ⊎ IsPrefix ys xs
one_goes_on [] ys zs p q = inl (ys, refl)
one_goes_on (x ∷ xs) [] zs p q = inr (x ∷ xs, refl)
one_goes_on (x ∷ xs) (y ∷ ys) [] (a, e) q = cc
one_goes_on (x ∷ xs) (y ∷ ys) (z ∷ zs) (a, e) (b, f) =
    by_rest (one_goes_on xs ys zs (a, same_tail x z (xs ++ a) zs e) (b, same_tail y z (ys ++ b) zs f))
  where
    same : x ≡ y
    same = same_head x y z (xs ++ a) (ys ++ b) zs e f

    by_rest : IsPrefix xs ys ⊎ IsPrefix ys xs → IsPrefix (x ∷ xs) (y ∷ ys) ⊎ IsPrefix (y ∷ ys) (x ∷ xs)
    by_rest (inl (r, g)) = inl (r, ap (λ h. h ∷ xs ++ r) same ∙ ap (λ l. y ∷ l) g)
    by_rest (inr (r, g)) = inr (r, ap (λ h. h ∷ ys ++ r) (sym same) ∙ ap (λ l. x ∷ l) g)

-- ---- an order that goes on to both lengths

all_channels : (n : ℕ) → channel_entries_in (replicate n OfChannels) ≡ n
all_channels zero = refl
all_channels (suc n) = ap suc (all_channels n)

no_jobs : (n : ℕ) → job_entries_in (replicate n OfChannels) ≡ 0
no_jobs zero = refl
no_jobs (suc n) = no_jobs n

all_jobs : (n : ℕ) → job_entries_in (replicate n OfJobs) ≡ n
all_jobs zero = refl
all_jobs (suc n) = ap suc (all_jobs n)

no_channels : (n : ℕ) → channel_entries_in (replicate n OfJobs) ≡ 0
no_channels zero = refl
no_channels (suc n) = no_channels n

pub record GoesOnTo (m n : ℕ) (point : List Side) : Type 0 where
  pub order : List Side
  pub longer : IsPrefix point order
  pub channels : channel_entries_in order ≡ m
  pub jobs : job_entries_in order ≡ n

pub goes_on_to : (m n : ℕ) (point : List Side) → channel_entries_in point ≤ m → job_entries_in point ≤ n → GoesOnTo m n point
goes_on_to m n point few few_jobs =
    let a = m - channel_entries_in point in
    let b = n - job_entries_in point in
    let rest = replicate a OfChannels ++ replicate b OfJobs in
    let calls = channel_entries_in-append point rest in
    let calls_rest = channel_entries_in-append (replicate a OfChannels) (replicate b OfJobs) in
    let jobs = job_entries_in-append point rest in
    let jobs_rest = job_entries_in-append (replicate a OfChannels) (replicate b OfJobs) in
    let c1 = all_channels a in
    let c2 = no_channels b in
    let j1 = no_jobs a in
    let j2 = all_jobs b in
    record {
      order = point ++ rest;
      longer = (rest, refl);
      channels = omega (arith, few, calls, calls_rest, c1, c2);
      jobs = omega (arith, few_jobs, jobs, jobs_rest, j1, j2);
    }

-- ---- the longest point

-- a point that is a beginning of this order, and counts no more entries than there are
pub record IsPointIn (order : List Side) (m n : ℕ) (point : List Side) : Type 0 where
  pub known : IsPrefix point order
  pub few_channels : channel_entries_in point ≤ m
  pub few_jobs : job_entries_in point ≤ n

module _ (p : Program) (c : ChannelFloor) (j : Floor) where
  -- the coroutine of s told its story along the order up to this point of what these floors have seen
  abbrev pub AlongTo : List Side → Sight → Type 0
  AlongTo point s = RunsAlong p s.frame.tag (seen_by c j) point s.frame.book s.frame.config

  abbrev pub IsPoint : List Side → Type 0
  IsPoint point = IsPointIn c.order (length c.seen) (length j.seen) point

  pub further : (point longer : List Side) (s : Sight) → IsPoint point → IsPrefix point longer → AlongTo point s → AlongTo longer s
  further point longer s at pre r =
      runs_along_after p s.frame.tag (seen_by c j) (seen_by c j) point longer s.frame.book s.frame.config at.few_channels at.few_jobs
      (record { channels = ([], append-nil c.seen); jobs = ([], append-nil j.seen) }) pre r

  pub all_further : (point longer : List Side) (sights : List Sight) → IsPoint point → IsPrefix point longer
      → All (AlongTo point) sights → All (AlongTo longer) sights
  all_further point longer sights at pre r =
      All-weaker (AlongTo point) (AlongTo longer) (λ s a. further point longer s at pre a) sights r

  -- all of these told their stories up to one point
  pub record Longest (sights : List Sight) : Type 0 where
    pub point : List Side
    pub at : IsPoint point
    pub all : All (AlongTo point) sights

  -- the point of one that was brought to these floors
  point_of : (s : Sight) → IsBroughtTo p c j s → (a : StandsAlong p s.channels s.jobs s.frame) → IsPoint a.point × AlongTo a.point s
  point_of s b a = (
    record {
      known = order_then a.point s.channels.order c.order a.at.channels b.seen.order;
      few_channels = let few = a.at.few_channels in let more = longer_list s.channels.seen c.seen b.seen.channels
          in omega (arith, few, more);
      few_jobs = let few = a.at.few_jobs in let more = longer_list s.jobs.seen j.seen b.seen.jobs in omega (arith, few, more);
    },
    runs_along_after p s.frame.tag (seen_by s.channels s.jobs) (seen_by c j) a.point a.point s.frame.book s.frame.config a.at.few_channels
        a.at.few_jobs (record { channels = b.seen.channels; jobs = b.seen.jobs }) (order_same a.point) a.runs,
  )

  -- with the point of one more
  with_one : (s : Sight) (sights : List Sight) → IsBroughtTo p c j s → s.jobs.joint ≡ true → Longest sights → Longest (s ∷ sights)
  with_one s sights b joint rest = by_length (one_goes_on mine.point rest.point c.order here.0.known rest.at.known)
    where
      mine : StandsAlong p s.channels s.jobs s.frame
      mine = b.keeps.along joint

      here : IsPoint mine.point × AlongTo mine.point s
      here = point_of s b mine

      by_length : IsPrefix mine.point rest.point ⊎ IsPrefix rest.point mine.point → Longest (s ∷ sights)
      by_length (inl pre) = record {
        point = rest.point;
        at = rest.at;
        all = All-cons (AlongTo rest.point) s sights (further mine.point rest.point s here.0 pre here.1) rest.all;
      }
      by_length (inr pre) = record {
        point = mine.point;
        at = here.0;
        all = All-cons (AlongTo mine.point) s sights here.1 (all_further rest.point mine.point sights rest.at pre rest.all);
      }

  -- each point is a beginning of the others, or they of it
  pub longest : (sights : List Sight) → All (IsBroughtTo p c j) sights → All (λ s. s.jobs.joint ≡ true) sights → Longest sights
  longest [] b joint = record {
    point = [];
    at = record { known = (c.order, refl); few_channels = omega arith; few_jobs = omega arith };
    all = All-nil (AlongTo []);
  }
  longest (s ∷ sights) b joint =
      with_one s sights (All-head (IsBroughtTo p c j) s sights b) (All-head (λ x. x.jobs.joint ≡ true) s sights joint)
      (longest sights (All-tail (IsBroughtTo p c j) s sights b) (All-tail (λ x. x.jobs.joint ≡ true) s sights joint))

  -- an order of both whole histories goes on from the longest
  pub along_whole : (sights : List Sight) → All (IsBroughtTo p c j) sights → All (λ s. s.jobs.joint ≡ true) sights
      → HaveOneOrder p c j sights
  along_whole sights b joint =
      let one = longest sights b joint in
      let on = goes_on_to (length c.seen) (length j.seen) one.point one.at.few_channels one.at.few_jobs in
      record {
        order = on.order;
        whole = record { channels = on.channels; jobs = on.jobs };
        runs = all_further one.point on.order sights one.at on.longer one.all;
      }
