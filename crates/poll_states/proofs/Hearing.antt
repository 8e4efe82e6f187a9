-- What one floor has heard of the other, of which nothing changed meanwhile.
use Rattle.std.specs.Prelude.{◌≡◌, ℕ, Bool, true, []}
use Rattle.std.proofs.Common.{sym, ap, ◌∙◌, subst}
use Rattle.channel_model.specs.Floors.{Floor as ChannelFloor}
use Rattle.job_model.specs.Histories.{replay}
use Rattle.job_model.specs.Cancels.{IsAllCancelled}
use Rattle.job_model.specs.Floors.{Floor, Looked}
use Rattle.call_meaning.specs.Orders.{HasHeard, IsToldOfJobs}
use Rattle.call_meaning.specs.Seen.{SeenOnBoth, jobs_of}
use Rattle.call_meaning.specs.Calls.{ToldOnJobs}
use Rattle.call_meaning.proofs.HeardCalls.{told_as}
use Rattle.scope_builders.specs.Calls.{start_told, CancelledAll}
use Rattle.poll_states.specs.Heard.{HasHeardOf}
use Rattle.poll_states.specs.Named.{HasStarted, HasCancelled}

pub heard_of : {who : ℕ} {c c' : ChannelFloor} {j j' : Floor} → c' ≡ c → Looked who [] j j' → (j.joint ≡ true → HasHeard c' j')
    → HasHeardOf who c j j'
heard_of {who} {c} {c'} {j} {j'} same look heard = record {
  looked = look;
  heard = λ e. subst (λ (z : ChannelFloor). HasHeard z j') same (heard (sym look.same.joint ∙ e));
}

-- what was told of Jobs whose call left the channels as they were
pub told_first : {who : ℕ} {c c' d : ChannelFloor} {j : Floor} → c' ≡ c → c.callers who ≡ true
    → (c'.callers who ≡ true → IsToldOfJobs who c' d j) → IsToldOfJobs who c d j
told_first {who} {c} {c'} {d} {j} same may told = subst (λ (z : ChannelFloor). IsToldOfJobs who z d j) same
    (told (ap (λ (z : ChannelFloor). z.callers who) same ∙ may))

-- ---- calls on Jobs that a line names, of which the channels were told

heard_after : (a b d : SeenOnBoth) → b.who ≡ a.who → b.channels ≡ a.channels → a.channels.callers a.who ≡ true
    → (b.channels.callers b.who ≡ true → IsToldOfJobs b.who b.channels d.channels b.jobs) → d.jobs ≡ b.jobs
    → IsToldOfJobs a.who a.channels d.channels d.jobs
heard_after a b d w same may told f =
    subst (λ (j : Floor). IsToldOfJobs a.who a.channels d.channels j) (sym f) (told_first same may
    (subst (λ (n : ℕ). b.channels.callers n ≡ true → IsToldOfJobs n b.channels d.channels b.jobs) w told))

pub started_heard : {row : ℕ} {a : SeenOnBoth} (b d : SeenOnBoth) (now : Bool) → b.channels ≡ a.channels
    → a.channels.callers a.who ≡ true → ToldOnJobs [] (jobs_of a) (jobs_of b) (start_told now row)
    → (b.channels.callers b.who ≡ true → IsToldOfJobs b.who b.channels d.channels b.jobs) → d.who ≡ b.who → d.jobs ≡ b.jobs
    → d.items ≡ b.items → HasStarted row a d
started_heard {a = a} b d now same may h told w f e = record {
  heard = heard_after a b d h.who same may told f;
  now = now;
  noted = told_as w f e h;
}

pub cancelled_heard : {row : ℕ} {a : SeenOnBoth} (b d : SeenOnBoth) (count : ℕ) → b.channels ≡ a.channels
    → a.channels.callers a.who ≡ true → CancelledAll row (jobs_of a) (jobs_of b) count
    → (b.channels.callers b.who ≡ true → IsToldOfJobs b.who b.channels d.channels b.jobs) → d.who ≡ b.who → d.jobs ≡ b.jobs
    → d.items ≡ b.items → HasCancelled row a d
cancelled_heard {row} {a} b d count same may h told w f e = record {
  heard = heard_after a b d h.noted.who same may told f;
  count = count;
  all = record {
    newly = h.newly;
    told = h.told;
    group = h.group;
    noted = told_as w f e h.noted;
    counted = h.counted;
    all = subst (λ (x : Floor). IsAllCancelled (replay x.seen) row) (sym f) h.all;
  };
}
