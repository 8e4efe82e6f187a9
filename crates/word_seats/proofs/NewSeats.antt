-- Seats that are split off, one by one.
use Rattle.std.specs.Prelude.{◌≡◌, ℕ, ◌+◌, ◌/◌, ◌%◌, ◌==◌, ◌<◌, Bool, true, false, List, [], ◌∷◌, ◌++◌, length, if◌then◌else◌, refl}
use Rattle.std.proofs.Common.{ap, sym, ◌∙◌, arith, length-append, ne_eqb}
use Rattle.joined_words.proofs.PartsOfLists.{tag_place}
use Rattle.std.proofs.lemmas.Bool.{eqb-true}
use Rattle.channel_model.specs.Histories.{acts_of}
use Rattle.job_model.specs.Floors.{Floor}
use Rattle.worded.specs.Views.{has_tag}
use Rattle.joined_words.specs.Parts.{tag_in, tags_in}
use Rattle.job_words.specs.Passes.{floor_seen}
use Rattle.cell_words.specs.declared.hub.Hub.{Hub}
use Rattle.cell_words.specs.declared.pass.Pass.{Pass}
use Rattle.cell_words.specs.Hubs.{shape_of, seen_by as channels_seen_by, GivesTags}
use Rattle.cell_calls.specs.HubFloors.{hub_floor}
use Rattle.job_words.specs.declared.forest.Forest.{Forest}
use Rattle.job_words.specs.declared.pass.JobPass.{JobPass}
use Rattle.job_words.specs.Meetings.{NothingOf}
use Rattle.job_words.specs.Forests.{seen_by, GivesTags as GivesJobTags}
use Rattle.word_seats.specs.Seats.{may_act, hub_anchor, hub_may_act, may_act_beside, forest_anchor, forest_may_act, NobodyFrom, IsNewFloor, IsNewJobFloor, IsNewBeside}
use Rattle.word_seats.proofs.Given.{ungiven}

-- the one tag of a new seat
pub one_tag : (tag k : ℕ) → has_tag k (tag ∷ []) ≡ (k == tag)
one_tag tag k = by_test (k == tag)
  where
    by_test : (b : Bool) → (if b then true else false) ≡ b
    by_test true = refl
    by_test false = refl

-- a tag of the one part is none of the other
pub other_tag : (place other t : ℕ) (ts : List ℕ) → other < 2 → (other ≡ place → ⊥) → tags_in place (tag_in other t ∷ ts) ≡ tags_in place ts
other_tag place other t ts lt ne = ap (λ (b : Bool). if b then tag_in other t / 2 ∷ tags_in place ts else tags_in place ts)
    (ne_eqb (tag_in other t % 2) place (λ e. ne (sym (tag_place other t lt) ∙ e)))

-- where nobody acts from a tag on, and that tag is given out, nobody acts above it
pub nobody_more : (chief : Bool) (given : List ℕ) (tag : ℕ) → NobodyFrom tag (may_act chief given)
    → NobodyFrom (tag + 1) (may_act chief (tag ∷ given))
nobody_more chief given tag none k le =
    let two = ungiven chief given k (none k (omega (arith, le))) in
    ap (λ (b : Bool). may_act b (tag ∷ given) k) two.0 ∙ by_test (k == tag) refl two.1
  where
    by_test : (b : Bool) → (k == tag) ≡ b → has_tag k given ≡ false → (if b then true else has_tag k given) ≡ false
    by_test true e free = absurd (let i : k ≡ tag = eqb-true k tag e in omega (arith, i, le))
    by_test false e free = free

-- ---- one seat that is split off

pub same_floor : (h : Hub) (old new : Pass) → (channels_seen_by new).seen ≡ (channels_seen_by old).seen
    → (channels_seen_by new).tags ≡ (channels_seen_by old).tags → (channels_seen_by new).order ≡ (channels_seen_by old).order
    → hub_floor h new ≡ hub_floor h old
same_floor h old new seen tags order i = record {
  shape = shape_of h;
  seen = seen i;
  spare = 4294967296;
  alone = false;
  callers = λ t. has_tag t (tags i);
  order = order i;
}

pub hub_gives : (h : Hub) (old new : Pass) (tag : ℕ) → hub_may_act (hub_anchor h old) tag ≡ false
    → GivesTags (tag ∷ (channels_seen_by old).given) new
    → (channels_seen_by new).given_all ≡ tag_in 0 tag ∷ (channels_seen_by old).given_all
    → hub_anchor h new ≡
    record (hub_anchor h old) { given = tag ∷ (hub_anchor h old).given; given_all = tag_in 0 tag ∷ (hub_anchor h old).given_all }
hub_gives h old new tag none gives all =
    let chief = gives.0 ∙ sym (ungiven (channels_seen_by old).chief (channels_seen_by old).given tag none).0 in
    λ i. record { hub = h; chief = chief i; given = gives.1 i; given_all = all i }

-- the tag is one of the Jobs
pub hub_gives_beside : (h : Hub) (old new : Pass) (tag : ℕ) → may_act_beside (hub_anchor h old) tag ≡ false
    → GivesTags (channels_seen_by old).given new
    → (channels_seen_by new).given_all ≡ tag_in 1 tag ∷ (channels_seen_by old).given_all
    → hub_anchor h new ≡ record (hub_anchor h old) { given_all = tag_in 1 tag ∷ (hub_anchor h old).given_all }
hub_gives_beside h old new tag none gives all =
    let chief = gives.0 ∙ sym (ungiven (channels_seen_by old).chief (tags_in 1 (channels_seen_by old).given_all) tag none).0 in
    λ i. record { hub = h; chief = chief i; given = gives.1 i; given_all = all i }

pub new_beside : (new : JobPass) (tag : ℕ) → (seen_by new).tags ≡ tag ∷ [] → NothingOf tag (floor_seen (seen_by new))
    → IsNewBeside tag (floor_seen (seen_by new))
new_beside new tag tags none = record {
  callers = λ k. ap (has_tag k) tags ∙ one_tag tag k;
  none = none.acts;
  unclaimed = none.rows;
}

pub new_floor : (h : Hub) (old new : Pass) (tag : ℕ) → (channels_seen_by new).tags ≡ tag ∷ []
    → (channels_seen_by new).seen ≡ (channels_seen_by old).seen → acts_of tag (channels_seen_by new).seen ≡ []
    → IsNewFloor tag (hub_floor h old) (hub_floor h new)
new_floor h old new tag tags seen none = record {
  shape = refl;
  seen = seen;
  callers = λ k. ap (has_tag k) tags ∙ one_tag tag k;
  none = none;
}

pub forest_gives : (f : Forest) (old new : JobPass) (tag : ℕ) → forest_may_act (forest_anchor f old) tag ≡ false
    → GivesJobTags (tag ∷ (seen_by old).given) new → forest_anchor f new ≡
    record (forest_anchor f old) { given = tag ∷ (forest_anchor f old).given }
forest_gives f old new tag none gives =
    let chief = gives.0 ∙ sym (ungiven (seen_by old).chief (seen_by old).given tag none).0 in
    λ i. record { forest = f; chief = chief i; given = gives.1 i }

pub new_job_floor : (old new : Floor) (tag : ℕ) → new ≡ record old { callers = λ t. has_tag t (tag ∷ []) } → NothingOf tag new
    → IsNewJobFloor tag old new
new_job_floor old new tag sees none = record {
  shape = ap (λ (f : Floor). f.shape) sees;
  seen = ap (λ (f : Floor). f.seen) sees;
  claims = λ r. ap (λ (f : Floor). f.claims r) sees;
  callers = λ k. ap (λ (f : Floor). f.callers k) sees ∙ one_tag tag k;
  none = none.acts;
  unclaimed = none.rows;
}

-- ---- one seat more

pub counted : {S : Type 0} (old new : List S) (tag : ℕ) (seat : S) → new ≡ old ++ seat ∷ [] → 1 + length old ≡ tag → 1 + length new ≡ tag + 1
counted {S = S} old new tag seat e count =
    let n = length-append old (seat ∷ []) in
    let m = ap (λ (l : List S). length l) e in
    omega (arith, n, m, count)
