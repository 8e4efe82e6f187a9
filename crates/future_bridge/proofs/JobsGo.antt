-- What a future of a Job may give.
use Rattle.std.specs.Prelude.{◌≡◌, ℕ, true, false, [], ◌∷◌, Option, Some, None, Result, Ok, Err, IsSomeAnd}
use Rattle.std.proofs.Common.{sym, ap, ◌∙◌, subst, inl, inr}
use Rattle.channel_model.specs.declared.acts.Kind.{Kind}
use Rattle.channel_model.specs.declared.acts.Kind.TheVariants.{Signal}
use Rattle.channel_model.specs.Channels.{kind_at, is_signal}
use Rattle.channel_model.specs.declared.acts.Act.TheVariants.{Await, Settle}
use Rattle.channel_model.specs.declared.acts.Settled.TheVariants as settled
use Rattle.channel_model.specs.Floors.{Floor, Added}
use Rattle.channel_model.proofs.Spans.{added_then}
use Rattle.job_words.specs.declared.pass.JobPass.{JobPass}
use Rattle.job_words.specs.Forests.{IsOwn as IsOwnOfJobs, SameGiving as SameGivingOfJobs}
use Rattle.cell_words.specs.declared.pass.Pass.{Pass}
use Rattle.cell_words.specs.Hubs.{shape_of, IsOwn, SameGiving}
use Rattle.cell_calls.specs.HubFloors.{hub_floor}
use Rattle.future_bridge.specs.declared.receiving.Spent.{Spent}
use Rattle.future_bridge.specs.declared.jobs.JobWait.{JobWait}
use Rattle.future_bridge.specs.declared.steps.Step.TheVariants as step
use Rattle.future_bridge.specs.Gains.{Gained, wait_at, EndsBy, SpentBy, WaitsBy, Stepped}
use Rattle.future_bridge.specs.Jobs.{JobStands, JobEnds, EndsWithResult, AwaitsBy, StartsFirst}
use Rattle.future_bridge.proofs.GainsGo.{gained_then}
use Rattle.future_bridge.proofs.StreamsGo.{ends_as_earlier, no_place_earlier}

-- no element comes on a signal
pub no_item : (k : Kind) → k ≡ Signal → is_signal k ≡ false → ⊥
no_item k e f = let same : true ≡ false = sym (ap is_signal e) ∙ f in cc

-- of a future that has a state
pub done_kind : (m : Option JobWait) (s : JobWait) → m ≡ Some s → IsSomeAnd m JobStands → kind_at (shape_of s.hub.now) s.done ≡ Signal
done_kind m s e h = (subst (λ (x : Option JobWait). IsSomeAnd x JobStands) e h).kind

-- what may come of a state, as a future gives it
abbrev pub StateGives : JobWait → Pass → JobPass → Result ℕ Spent → Type 0
StateGives s p j r = JobEnds s.hub.now s.pass s.forest.now s.jobs s.who s.row s.done s.wait p j r

abbrev pub Gives : Option JobWait → Pass → JobPass → Result ℕ Spent → Type 0
Gives m p j r = IsSomeAnd m (λ s. StateGives s p j r)

gives : (m : Option JobWait) (s : JobWait) (p : Pass) (j : JobPass) (r : Result ℕ Spent) → m ≡ Some s → StateGives s p j r → Gives m p j r
gives m s p j r was h = subst (λ (x : Option JobWait). Gives x p j r) (sym was) h

-- a pass of Jobs after the start of a poll
pub record Begun (s : JobWait) (j : JobPass) : Type 0 where
  pub own : IsOwnOfJobs s.forest.now j s.who
  pub giving : SameGivingOfJobs s.jobs j
  pub starts : StartsFirst s.wait s.who s.row s.jobs j

-- the poll was the last
pub gives_end : (m : Option JobWait) (s : JobWait) (p : Pass) (j : JobPass) (r : Result ℕ Spent) → m ≡ Some s → IsOwn s.hub.now p s.who
    → SameGiving s.pass p → Begun s j
    → Gained s.who s.done [] (hub_floor s.hub.now s.pass) (hub_floor s.hub.now p)
    → EndsWithResult s.done (hub_floor s.hub.now s.pass) (hub_floor s.hub.now p) r
    → AwaitsBy s.wait s.who s.done (hub_floor s.hub.now s.pass) (hub_floor s.hub.now p) r → Gives m p j r
gives_end m s p j r was own giving b g e w =
    gives m s p j r was
    (record { own = own; giving = giving; jobs_own = b.own; jobs_giving = b.giving; starts = b.starts; gained = g; ends = e; awaits = w })

earlier : (who c : ℕ) (a b d : Floor) (r : Result ℕ Spent) → Gained who c [] a b → EndsWithResult c b d r → EndsWithResult c a d r
earlier who c a b d (Ok v) g h = ends_as_earlier who c v [] a b d g h
earlier who c a b d (Err spent) g h = no_place_earlier who c [] a b d g h

-- the acts of the poll that was the last
pub awaits_end : (wait : Option ℕ) (who c v : ℕ) (a b : Floor) → EndsBy wait who c v a b → AwaitsBy wait who c a b (Ok v)
awaits_end None who c v a b h = inl h
awaits_end (Some p) who c v a b h = h

pub awaits_spent : (wait : Option ℕ) (who c : ℕ) (spent : Spent) (a b : Floor) → SpentBy wait who a b → AwaitsBy wait who c a b (Err spent)
awaits_spent None who c spent a b h = h
awaits_spent (Some p) who c spent a b h = h

-- the acts of a poll that left it waiting, and of all after it
awaits_still : (wait : Option ℕ) (who c place : ℕ) (a b d : Floor) (r : Result ℕ Spent) → WaitsBy wait who c place a b
    → AwaitsBy (Some place) who c b d r → AwaitsBy wait who c a d r
awaits_still None who c place a b d (Ok v) h k =
    inr (
      place,
      k.0,
      added_then who (Await c place (wait_at c place) 0 ∷ []) (Settle (wait_at c place) (settled.Closed k.0 v) ∷ []) a b d h
          k.1,
    )
awaits_still None who c place a b d (Err spent) h k = absurd k
awaits_still (Some own) who c place a b d (Ok v) h k =
    let settles : Added who (Settle (wait_at c place) (settled.Closed k.0 v) ∷ []) a d =
    added_then who [] (Settle (wait_at c place) (settled.Closed k.0 v) ∷ []) a b d h.1 k.1 in
    (k.0, subst (λ (p : ℕ). Added who (Settle (wait_at c p) (settled.Closed k.0 v) ∷ []) a d) h.0 settles)
awaits_still (Some own) who c place a b d (Err spent) h k = k

-- what it may give after a poll that left it waiting, it might give before
pub gives_still : (m : Option JobWait) (s : JobWait) (q : Pass) (k : JobPass) (place : ℕ) → m ≡ Some s → SameGiving s.pass q → Begun s k
    → Stepped s.wait s.who s.done (hub_floor s.hub.now s.pass) (hub_floor s.hub.now q) (step.Waits place)
    → (x : Pass × JobPass × Result ℕ Spent) → JobEnds s.hub.now q s.forest.now k s.who s.row s.done (Some place) x.0 x.1 x.2
    → Gives m x.0 x.1 x.2
gives_still m s q k place was giving b t x h =
    gives m s x.0 x.1 x.2 was
    (record {
      own = h.own;
      giving = h.giving ∙ giving;
      jobs_own = h.jobs_own;
      jobs_giving = h.jobs_giving ∙ b.giving;
      starts = subst (λ (j : JobPass). StartsFirst s.wait s.who s.row s.jobs j) (sym h.starts) b.starts;
      gained = gained_then s.who s.done [] [] (hub_floor s.hub.now s.pass) (hub_floor s.hub.now q) (hub_floor s.hub.now x.0) t.0 h.gained;
      ends = earlier s.who s.done (hub_floor s.hub.now s.pass) (hub_floor s.hub.now q) (hub_floor s.hub.now x.0) x.2 t.0 h.ends;
      awaits = awaits_still s.wait s.who s.done place (hub_floor s.hub.now s.pass) (hub_floor s.hub.now q) (hub_floor s.hub.now x.0) x.2 t.2
          h.awaits;
    })
