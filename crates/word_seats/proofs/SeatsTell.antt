-- What the meetings and ends of passes come to for seats.
use Rattle.std.specs.Prelude.{◌≡◌, ℕ, Bool, false, List, refl}
use Rattle.std.proofs.Common.{ap}
use Rattle.worded.specs.Views.{has_tag}
use Rattle.cell_words.specs.declared.hub.Hub.{Hub}
use Rattle.cell_words.specs.declared.pass.Pass.{Pass}
use Rattle.cell_words.specs.Seen.{Seen, NothingUngiven}
use Rattle.cell_words.specs.Hubs.{seen_by, shape_of}
use Rattle.cell_words.specs.Meetings.{MeetAnswer, EndAnswer}
use Rattle.cell_calls.specs.HubFloors.{hub_floor}
use Rattle.job_words.specs.Passes.{Seen as JobsSeen, floor_seen}
use Rattle.job_words.specs.Meetings.{MeetAnswer as JobsMet, EndAnswer as JobsEnded, NothingUngiven as NoJobsUngiven}
use Rattle.shared_floors.specs.Meetings.{MetOnChannels, EndedOnChannels, NoCallsOfOthers, MetOnJobs, EndedOnJobs, NoJobsOfOthers, NoRowsOfOthers}
use Rattle.word_seats.specs.Seats.{may_act}
use Rattle.word_seats.proofs.Given.{ungiven}

-- ---- channels

pub met_on_channels : (h g : Hub) (a b a' b' : Pass) → MeetAnswer (seen_by a) (seen_by b) (seen_by a') → seen_by b' ≡ seen_by b
    → MetOnChannels (hub_floor h a) (hub_floor h a') (hub_floor g b) (hub_floor g b')
met_on_channels h g a b a' b' m same = record {
  same = record { shape = refl; alone = refl; callers = ap {B = ℕ → Bool} (λ (tags : List ℕ). λ t. has_tag t tags) m.tags; order = m.order };
  other = ap (λ (v : Seen). record {
    shape = shape_of g;
    seen = v.seen;
    spare = 4294967296;
    alone = false;
    callers =
        λ t. has_tag t v.tags;
    order = v.order;
  }) same;
  longer = m.goes_on;
  heard = m.told;
  heard_order = m.told_order;
  mine = m.own;
}

pub ended_on_channels : (h g : Hub) (a b a' : Pass) → EndAnswer (seen_by a) (seen_by b) (seen_by a')
    → EndedOnChannels (hub_floor h a) (hub_floor h a') (hub_floor g b)
ended_on_channels h g a b a' m = record {
  shape = refl;
  callers = m.callers;
  longer = m.goes_on;
  heard = m.told;
  order = m.order;
  heard_order = m.told_order;
  mine = m.own;
  theirs = m.taken;
}

pub no_calls : (h : Hub) (p : Pass) → NothingUngiven (seen_by p)
    → NoCallsOfOthers (may_act (seen_by p).chief (seen_by p).given) (hub_floor h p)
no_calls h p none k e = let two = ungiven (seen_by p).chief (seen_by p).given k e in none two.0 k two.1

-- ---- Jobs

pub met_on_jobs : (a b a' b' : JobsSeen) → JobsMet (floor_seen a) (floor_seen b) (floor_seen a') → b' ≡ b
    → MetOnJobs (floor_seen a) (floor_seen a') (floor_seen b) (floor_seen b')
met_on_jobs a b a' b' m same = record {
  same = m.same;
  other = ap floor_seen same;
  longer = m.goes_on.longer;
  heard = m.told.longer;
  heard_order = m.told.order;
  mine = λ k own. (m.own k own).acts;
  kept = m.goes_on.claims;
  heard_claims = m.told.claims;
  my_claims = λ k own r. (m.own k own).rows r;
}

pub ended_on_jobs : (a b a' : JobsSeen) → JobsEnded (floor_seen a) (floor_seen b) (floor_seen a')
    → EndedOnJobs (floor_seen a) (floor_seen a') (floor_seen b)
ended_on_jobs a b a' m = record {
  shape = m.shape;
  callers = m.callers;
  longer = m.goes_on.longer;
  heard = m.told.longer;
  order = m.goes_on.order;
  heard_order = m.told.order;
  joint = m.joint;
  mine = λ k own. (m.own k own).acts;
  theirs = λ k own. (m.taken k own).acts;
  kept = m.goes_on.claims;
  heard_claims = m.told.claims;
  my_claims = λ k own r. (m.own k own).rows r;
  their_claims = λ k own r. (m.taken k own).rows r;
}

pub no_jobs : (v : JobsSeen) → NoJobsUngiven v → NoJobsOfOthers (may_act v.chief v.given) (floor_seen v)
no_jobs v none k e = let two = ungiven v.chief v.given k e in (none two.0 k two.1).acts

pub no_rows : (v : JobsSeen) → NoJobsUngiven v → NoRowsOfOthers (may_act v.chief v.given) (floor_seen v)
no_rows v none r k e other = let two = ungiven v.chief v.given k e in (none two.0 k two.1).rows r other
