-- Seats that are split off before a run begins: those of its coroutines, and one more.
use Rattle.std.specs.Prelude.{◌≡◌, ◌≢◌, ℕ, suc, ◌+◌, ◌==◌, ◌≤◌, Bool, true, false, List, [], ◌∷◌, ◌++◌, length, Some, None, map, if◌then◌else◌, refl}
use Rattle.std.proofs.Common.{ap, sym, ◌∙◌, subst, arith}
use Rattle.std.proofs.lemmas.Bool.{eq-eqb}
use Rattle.std.proofs.Common.{ne_eqb}
use Rattle.std.proofs.lemmas.Bool.Decides.{nat_tests}
use Rattle.channel_model.specs.Floors.{Floor as ChannelFloor}
use mathlib.Core.Logic.{dite}
use native.Mathlib.Decide.{ℕ_discrete}
use Rattle.job_model.specs.Trees.{Shape, is_among}
use Rattle.job_model.specs.Floors.{Floor, is_claimed_by}
use Rattle.worded.specs.Views.{has_tag}
use Rattle.script_grammar.specs.Programs.{Program}
use Rattle.script_grammar.specs.Tags.{coroutine_count}
use Rattle.script_meaning.specs.Shapes.{job_shape}
use Rattle.poll_states.specs.Steps.{IsOnItsChannels, IsOnItsJobs}
use Rattle.word_seats.specs.declared.hub_seat.HubSeatAnchor.{HubSeatAnchor}
use Rattle.word_seats.specs.Seats.{may_act, hub_may_act, may_act_beside, NobodyFrom, IsNewFloor, IsNewBeside}
use Rattle.word_seats.proofs.NewSeats.{nobody_more, one_tag, other_tag}
use Rattle.joined_words.specs.Parts.{tag_in, tags_in}
use Rattle.joined_words.proofs.PartsOfLists.{tags_one}
use Rattle.run_laws.specs.Sights.{KnowsTags, CountUp}
use Rattle.run_laws.specs.Starts.{IsUntouched}
use Rattle.run_laws.specs.Ends.{IsSpare}
use Rattle.run_laws.proofs.FreshTasks.{no_calls_yet, claims_yet}
use Rattle.script_meaning.specs.Polls.{own_rows}
use Rattle.engine_many.specs.WordRuns.{IsFreshHub}

-- ---- who may act

not_zero : (k : ℕ) → 1 ≤ k → (k == 0) ≡ false
not_zero k le = grind (arith, nat_tests)

-- where only tag 0 was given out
pub nobody_first : (chief : Bool) (given : List ℕ) → chief ≡ true → given ≡ 0 ∷ [] → NobodyFrom 1 (may_act chief given)
nobody_first chief given c e k le = ap (λ (b : Bool). may_act b given k) c ∙ ap (has_tag k) e ∙ one_tag 0 k ∙ not_zero k le

-- where none was given out
pub nobody_at_all : (chief : Bool) (given : List ℕ) → chief ≡ true → given ≡ [] → NobodyFrom 0 (may_act chief given)
nobody_at_all chief given c e k le = ap (λ (b : Bool). may_act b given k) c ∙ ap (has_tag k) e

-- one tag more was given out
pub nobody_on_hub : (tag : ℕ) (old new : HubSeatAnchor)
    → new ≡ record old { given = tag ∷ old.given; given_all = tag_in 0 tag ∷ old.given_all } → NobodyFrom tag (hub_may_act old)
    → NobodyFrom (tag + 1) (hub_may_act new)
nobody_on_hub tag old new e none = subst (λ (a : HubSeatAnchor). NobodyFrom (tag + 1) (hub_may_act a)) (sym e)
    (nobody_more old.chief old.given tag none)

-- of the channels, or of the Jobs
pub nobody_beside : (tag : ℕ) (old new : HubSeatAnchor)
    → new ≡ record old { given = tag ∷ old.given; given_all = tag_in 0 tag ∷ old.given_all } → (n : ℕ) → NobodyFrom n (may_act_beside old)
    → NobodyFrom n (may_act_beside new)
nobody_beside tag old new e n none = subst (λ (a : HubSeatAnchor). NobodyFrom n (may_act_beside a)) (sym e)
    (λ k le. ap (λ (l : List ℕ). may_act old.chief l k) (other_tag 1 0 tag old.given_all (omega arith) (λ z. omega (arith, z))) ∙ none k le)

pub nobody_beside_more : (tag : ℕ) (old new : HubSeatAnchor) → new ≡ record old { given_all = tag_in 1 tag ∷ old.given_all }
    → NobodyFrom tag (may_act_beside old) → NobodyFrom (tag + 1) (may_act_beside new)
nobody_beside_more tag old new e none = subst (λ (a : HubSeatAnchor). NobodyFrom (tag + 1) (may_act_beside a)) (sym e)
    (λ k le. ap (λ (l : List ℕ). may_act old.chief l k) (tags_one 1 tag old.given_all (omega arith))
    ∙ nobody_more old.chief (tags_in 1 old.given_all) tag none k le)

-- a tag of the Jobs changes nothing of the channels
pub nobody_on_hub_still : (tag : ℕ) (old new : HubSeatAnchor) → new ≡ record old { given_all = tag_in 1 tag ∷ old.given_all } → (n : ℕ)
    → NobodyFrom n (hub_may_act old) → NobodyFrom n (hub_may_act new)
nobody_on_hub_still tag old new e n none = subst (λ (a : HubSeatAnchor). NobodyFrom n (hub_may_act a)) (sym e) none

-- ---- the root

pub on_its_channels : (p q : Program) (main c : ChannelFloor) → q ≡ p → c ≡ main → IsFreshHub p main → IsOnItsChannels q c
on_its_channels p q main c e same fresh =
    subst (λ (z : Program). IsOnItsChannels z c) (sym e)
    (record {
      channels = ap (λ (f : ChannelFloor). f.shape) same ∙ fresh.shape;
      of_channels = ap (λ (f : ChannelFloor). f.callers 0) same
          ∙ fresh.caller;
      no_channel_acts = no_calls_yet 0 c (ap (λ (f : ChannelFloor). f.seen) same ∙ fresh.seen);
    })

-- a floor on which the root's row alone is claimed
first_floor : Shape → Floor
first_floor size =
    record {
      shape = size;
      seen = [];
      spare = 0;
      alone = false;
      callers = λ k. false;
      order = [];
      joint = false;
      claims = λ r. if r == 0 then Some 0 else None;
    }

root_claims : (size : Shape) (j : Floor) → j.claims 0 ≡ Some 0 → ((r : ℕ) → r ≢ 0 → is_claimed_by 0 (j.claims r) ≡ false) → (r : ℕ)
    → is_claimed_by 0 (j.claims r) ≡ is_among r (own_rows 0 [])
unfolding first_floor
root_claims size j root none r = dite (ℕ_discrete r 0)
    (λ e. ap (λ (n : ℕ). is_claimed_by 0 (j.claims n)) e ∙ ap (is_claimed_by 0) root
    ∙ sym (ap (λ (b : Bool). is_claimed_by 0 (if b then Some 0 else None)) (eq-eqb r 0 e)))
    (λ ne. none r ne ∙ sym (ap (λ (b : Bool). is_claimed_by 0 (if b then Some 0 else None)) (ne_eqb r 0 ne)))
    ∙ claims_yet size (first_floor size) 0 r (record { shape = refl; seen = refl; claims = λ q. refl })

pub on_its_jobs : (p q : Program) (j : Floor) → q ≡ p → j.shape ≡ job_shape p → IsNewBeside 0 j → j.claims 0 ≡ Some 0 → IsOnItsJobs q j
on_its_jobs p q j e shape new root =
    subst (λ (z : Program). IsOnItsJobs z j) (sym e)
    (record {
      jobs = shape;
      of_jobs = new.callers 0;
      no_job_acts = new.none;
      claims = root_claims (job_shape p) j root new.unclaimed;
    })

-- the seat of the root gave out the tags of all coroutines, and the one behind them
pub knows_tags : (p q : Program) (n : ℕ) (hub : HubSeatAnchor) → q ≡ p → n ≡ coroutine_count q → NobodyFrom (n + 1) (hub_may_act hub)
    → NobodyFrom (n + 1) (may_act_beside hub) → KnowsTags p 0 (hub_may_act hub) (may_act_beside hub)
knows_tags p q n hub e count none none_of_jobs _ k lt =
    let m : n ≡ coroutine_count p = count ∙ ap coroutine_count e in
    let le : n + 1 ≤ k = omega (arith, lt, m) in
    (none k le, none_of_jobs k le)

-- ---- others

pub untouched : (p q : Program) (tag : ℕ) (main c : ChannelFloor) (j : Floor) → q ≡ p → tag ≢ 0 → IsFreshHub p main
    → IsNewFloor tag main c → j.shape ≡ job_shape p → IsNewBeside tag j → j.claims 0 ≡ Some 0 → IsUntouched q tag c j
untouched p q tag main c j e some fresh new shape new_jobs root = subst (λ (z : Program). IsUntouched z tag c j) (sym e) (record {
  channels = new.shape ∙ fresh.shape;
  jobs = shape;
  of_channels = new.callers tag ∙ eq-eqb tag tag refl;
  of_jobs = new_jobs.callers tag ∙ eq-eqb tag tag refl;
  no_channel_acts = new.none;
  no_job_acts = new_jobs.none;
  no_claims = λ r. dite (ℕ_discrete r 0)
      (λ z. ap (λ (n : ℕ). is_claimed_by tag (j.claims n)) z ∙ ap (is_claimed_by tag) root
      ∙ ne_eqb tag 0 some) (λ ne. new_jobs.unclaimed r ne);
})

pub spare : (p q : Program) (n : ℕ) (main c : ChannelFloor) (j : Floor) → q ≡ p → n ≡ coroutine_count q → IsNewFloor n main c
    → IsNewBeside n j → IsSpare p c j
spare p q n main c j e count new new_jobs = of_count (count ∙ ap coroutine_count e)
  where
    of_count : n ≡ coroutine_count p → IsSpare p c j
    of_count m = record {
      caller = ap c.callers (sym m) ∙ new.callers n ∙ eq-eqb n n refl;
      job_caller = ap j.callers (sym m) ∙ new_jobs.callers n ∙ eq-eqb n n refl;
      calls = (subst (λ (k : ℕ). IsNewFloor k main c) m new).none;
      jobs = (subst (λ (k : ℕ). IsNewBeside k j) m new_jobs).none;
      claims = (subst (λ (k : ℕ). IsNewBeside k j) m new_jobs).unclaimed;
    }

-- ---- tags that count up

-- one more at the end
pub count_push : {X : Type 0} (tag : X → ℕ) (k : ℕ) (xs : List X) (x : X) → CountUp k (map tag xs) → tag x ≡ k + length xs
    → CountUp k (map tag (xs ++ x ∷ []))
count_push tag k [] x h e = (e ∙ (let z : k + 0 ≡ k = omega arith in z), tt)
count_push tag k (y ∷ ys) x h e = (
  h.0,
  count_push tag (suc k) ys x h.1 (e
      ∙ (let z : k + suc (length ys) ≡ suc k + length ys = omega arith in z)),
)
