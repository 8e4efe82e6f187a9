-- How a wait was resolved stays so, and how it ended.
use Rattle.std.specs.Prelude.{◌≡◌, ℕ, Bool, true, false, List, [], ◌∷◌, Option, Some, None, refl, if◌then◌else◌}
use Rattle.std.proofs.Common.{sym, ◌∙◌, subst}
use Rattle.co_base.specs.declared.names.WaitId.{WaitId}
use Rattle.channel_model.specs.declared.acts.Act.{Act}
use Rattle.channel_model.specs.declared.acts.Act.TheVariants.{Hand, Offer, Await, Take, Admit, Drop, Drain, WakeClosed, Withdraw, Settle}
use Rattle.channel_model.specs.declared.acts.Settled.{Settled}
use Rattle.channel_model.specs.declared.standing.Party.{Party}
use Rattle.channel_model.specs.declared.standing.Standing.{Standing}
use Rattle.channel_model.specs.declared.standing.Receiver.{Receiver}
use Rattle.channel_model.specs.declared.standing.Resolution.{Resolution}
use Rattle.channel_model.specs.Channels.{Shape, State, Wait, same_wait}
use Rattle.channel_model.specs.Effects.{after, resolve, resolve_first, resolve_holder, resolve_offer, remove_first, with_queue, resolved_wait, name_clause, settled_wait, holder_at}
use Rattle.channel_model.specs.Needs.{Needs, IsOpenOf, MaySettle}
use Rattle.channel_model.specs.Laws.{AllStandOpen, IsStandingAt, HolderStands, OffersStand, ReceiversStand, IsResolvedAs, IsSettledAs}
use Rattle.channel_model.proofs.Waits.{same_wait-eq, one_change}
use Rattle.channel_model.proofs.Others.{Stays}
use Rattle.channel_model.proofs.Resolutions.{always_keeps, holder_at_stands}
use Rattle.channel_model.proofs.Sound.{Lasts}

-- ---- resolved

standing_not : (c : ℕ) (how : Resolution) (x : Option Wait) → IsStandingAt c x → IsResolvedAs how x → ⊥
standing_not c how None h k = h
standing_not c how (Some x) h k = let e : Some how ≡ None = sym k ∙ h.0 in cc

open_not : (who : ℕ) (how : Resolution) (x : Option Wait) → IsOpenOf who x → IsResolvedAs how x → ⊥
open_not who how None h k = h
open_not who how (Some x) h k = let e : Some how ≡ None = sym k ∙ h.1 in cc

-- another wait is resolved
resolve_other : (how : Resolution) (w u : WaitId) (by : Resolution) (s : State) → (IsResolvedAs how (s.waits u) → ⊥)
    → IsResolvedAs how (s.waits w) → IsResolvedAs how ((resolve u by s).waits w)
resolve_other how w u by s ne h = by_test (same_wait u w) refl
  where
    by_test : (b : Bool) → same_wait u w ≡ b → IsResolvedAs how (if b then resolved_wait by (s.waits u) else s.waits w)
    by_test true e = absurd (ne (subst (λ (z : WaitId). IsResolvedAs how (s.waits z)) (sym (same_wait-eq u w e)) h))
    by_test false e = h

first_other : (how : Resolution) (w : WaitId) (c : ℕ) (rs : List Receiver) (by : ℕ → Resolution) (s : State) → ReceiversStand s.waits c rs
    → IsResolvedAs how (s.waits w) → IsResolvedAs how ((resolve_first rs by s).waits w)
unfolding ReceiversStand
first_other how w c [] by s stand h = h
first_other how w c (r ∷ rs) by s stand h = resolve_other how w r.party.wait (by r.party.clause) s
    (standing_not c how (s.waits r.party.wait) stand.0) h

holder_other : (how : Resolution) (w : WaitId) (c : ℕ) (p : Option Party) (by : ℕ → Resolution) (s : State) → HolderStands s.waits c p
    → IsResolvedAs how (s.waits w) → IsResolvedAs how ((resolve_holder p by s).waits w)
holder_other how w c None by s stand h = h
holder_other how w c (Some p) by s stand h = resolve_other how w p.wait (by p.clause) s (standing_not c how (s.waits p.wait) stand) h

offer_other : (how : Resolution) (w : WaitId) (c : ℕ) (q : List Standing) (by : ℕ → Resolution) (s : State) → OffersStand s.waits c q
    → IsResolvedAs how (s.waits w) → IsResolvedAs how ((resolve_offer c q by s).waits w)
unfolding OffersStand
offer_other how w c [] by s stand h = h
offer_other how w c (o ∷ os) by s stand h = holder_other how w c o.holder by (with_queue c os s) stand.0 h

removed_other : (how : Resolution) (w : WaitId) (c : ℕ) (q : List Standing) (s : State) → IsResolvedAs how (s.waits w)
    → IsResolvedAs how ((remove_first c q s).waits w)
removed_other how w c [] s h = h
removed_other how w c (o ∷ os) s h = h

as_named : (how : Resolution) (n k c : ℕ) (x : Option Wait) → IsResolvedAs how x → IsResolvedAs how (name_clause n k c x)
as_named how n k c None h = absurd h
as_named how n k c (Some x) h = h

as_settled : (how : Resolution) (outcome : Settled) (x : Option Wait) → IsResolvedAs how x → IsResolvedAs how (settled_wait outcome x)
as_settled how outcome None h = h
as_settled how outcome (Some x) h = h

pub resolved_step : (shape : Shape) (how : Resolution) (w : WaitId) (s : State) (who : ℕ) (act : Act) → AllStandOpen s
    → Needs shape s who act → IsResolvedAs how (s.waits w) → IsResolvedAs how ((after s who act).waits w)
resolved_step shape how w s who (Hand c p v) stand n h = first_other how w c (s.channels c).receivers _ s (stand c).receivers h
resolved_step shape how w s who (Offer c p v u k) stand n h =
    one_change (IsResolvedAs how) s.waits u w (name_clause who k c) (as_named how who k c (s.waits w)) h
resolved_step shape how w s who (Await c p u k) stand n h =
    one_change (IsResolvedAs how) s.waits u w (name_clause who k c) (as_named how who k c (s.waits w)) h
resolved_step shape how w s who (Take c p v) stand n h = offer_other how w c (s.channels c).queue _ s (stand c).offers h
resolved_step shape how w s who (Admit c p) stand n h =
    holder_other how w c (holder_at p (s.channels c).queue) _ _ (holder_at_stands s.waits c p (s.channels c).queue (stand c).offers) h
resolved_step shape how w s who (Drop c p v) stand n h = removed_other how w c (s.channels c).queue s h
resolved_step shape how w s who (Drain c p v) stand n h = offer_other how w c (s.channels c).queue _ s (stand c).offers h
resolved_step shape how w s who (WakeClosed c p) stand n h = first_other how w c (s.channels c).receivers _ s (stand c).receivers h
resolved_step shape how w s who (Withdraw u why) stand n h = resolve_other how w u _ s (open_not who how (s.waits u) n) h
resolved_step shape how w s who (Settle u outcome) stand n h =
    one_change (IsResolvedAs how) s.waits u w (settled_wait outcome) (as_settled how outcome (s.waits w)) h
resolved_step shape how w s who other stand n h = h

pub resolved_lasts : (shape : Shape) (how : Resolution) (w : WaitId) → Lasts shape (λ s. IsResolvedAs how (s.waits w))
resolved_lasts shape how w = record { step = λ s who act h n p. resolved_step shape how w s who act h.stand n p }

-- ---- ended

ended_resolved : (outcome : Settled) (how : Resolution) (x : Option Wait) → IsSettledAs outcome x
    → IsSettledAs outcome (resolved_wait how x)
ended_resolved outcome how None h = h
ended_resolved outcome how (Some x) h = h

ended_named : (outcome : Settled) (n k c : ℕ) (x : Option Wait) → IsSettledAs outcome x → IsSettledAs outcome (name_clause n k c x)
ended_named outcome n k c None h = absurd h
ended_named outcome n k c (Some x) h = h

ended_settled : (outcome other : Settled) (n : ℕ) (x : Option Wait) → MaySettle n other x → IsSettledAs outcome x
    → IsSettledAs outcome (settled_wait other x)
ended_settled outcome other n None m h = h
ended_settled outcome other n (Some x) m h = let e : Some outcome ≡ None = sym h ∙ m.1 in cc

pub ended_stays : (outcome : Settled) (who : ℕ) → Stays who (IsSettledAs outcome)
ended_stays outcome who = record {
  resolved = ended_resolved outcome;
  named = ended_named outcome;
  settled = λ n other x apart m h. ended_settled outcome other n x m h;
}

pub ended_lasts : (shape : Shape) (outcome : Settled) (w : WaitId) → Lasts shape (λ s. IsSettledAs outcome (s.waits w))
ended_lasts shape outcome w = record {
  step = λ s who act h n p. always_keeps shape (IsSettledAs outcome) (ended_stays outcome) who w s act
      n p;
}
