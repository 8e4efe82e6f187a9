-- Others leave the clauses of a caller's wait, which may still have one more.
use Rattle.std.proofs.Common.{◌≡◌, ◌≢◌, ℕ, ◌≤◌, Bool, true, false, List, [], ◌∷◌, if◌then◌else◌, Option, Some, None, MatchBool, sym, refl, ◌∙◌, subst, arith}
use Rattle.co_base.specs.declared.names.WaitId.{WaitId}
use Rattle.channel_model.specs.declared.acts.Act.{Act}
use Rattle.channel_model.specs.declared.acts.Act.TheVariants.{Hand, Offer, Await, Take, Admit, Drop, Drain, WakeClosed, Withdraw, Settle}
use Rattle.channel_model.specs.declared.acts.Settled.{Settled}
use Rattle.channel_model.specs.declared.standing.Party.{Party}
use Rattle.channel_model.specs.declared.standing.Standing.{Standing}
use Rattle.channel_model.specs.declared.standing.Receiver.{Receiver}
use Rattle.channel_model.specs.declared.standing.Resolution.{Resolution}
use Rattle.channel_model.specs.Channels.{Shape, State, Wait, same_wait, places_at}
use Rattle.channel_model.specs.Effects.{after, resolve, resolve_first, resolve_holder, resolve_offer, remove_first, with_queue, put_wait, resolved_wait, name_clause, settled_wait, holder_at}
use Rattle.channel_model.specs.Needs.{Needs, HasPlace, MayName, JoinsWait, MaySettle}
use Rattle.channel_model.proofs.Waits.{same_wait-eq, one_change}
use Rattle.channel_model.proofs.Placed.{Placed}
use Rattle.channel_model.proofs.Firsts.{at_place}

join_resolved : (who k c : ℕ) (how : Resolution) (x : Option Wait) → JoinsWait who k c x → JoinsWait who k c (resolved_wait how x)
join_resolved who k c how None h = h
join_resolved who k c how (Some x) h = record {
  own = h.own;
  select = h.select;
  unsettled = h.unsettled;
  other_channel = h.other_channel;
  other_clause = h.other_clause;
  low = h.low;
  high = h.high;
}

join_resolve : (who k c : ℕ) (w u : WaitId) (how : Resolution) (s : State) → JoinsWait who k c (s.waits w)
    → JoinsWait who k c ((resolve u how s).waits w)
join_resolve who k c w u how s h = one_change (JoinsWait who k c) s.waits u w (resolved_wait how) (join_resolved who k c how (s.waits w)) h

join_first : (who k c : ℕ) (w : WaitId) (rs : List Receiver) (how : ℕ → Resolution) (s : State) → JoinsWait who k c (s.waits w)
    → JoinsWait who k c ((resolve_first rs how s).waits w)
join_first who k c w [] how s h = h
join_first who k c w (r ∷ rs) how s h = join_resolve who k c w r.party.wait (how r.party.clause) s h

join_holder : (who k c : ℕ) (w : WaitId) (p : Option Party) (how : ℕ → Resolution) (s : State) → JoinsWait who k c (s.waits w)
    → JoinsWait who k c ((resolve_holder p how s).waits w)
join_holder who k c w None how s h = h
join_holder who k c w (Some p) how s h = join_resolve who k c w p.wait (how p.clause) s h

join_offer : (who k c : ℕ) (w : WaitId) (d : ℕ) (q : List Standing) (how : ℕ → Resolution) (s : State) → JoinsWait who k c (s.waits w)
    → JoinsWait who k c ((resolve_offer d q how s).waits w)
join_offer who k c w d [] how s h = h
join_offer who k c w d (o ∷ os) how s h = join_holder who k c w o.holder how (with_queue d os s) h

join_removed : (who k c : ℕ) (w : WaitId) (d : ℕ) (q : List Standing) (s : State) → JoinsWait who k c (s.waits w)
    → JoinsWait who k c ((remove_first d q s).waits w)
join_removed who k c w d [] s h = h
join_removed who k c w d (o ∷ os) s h = h

pub not_absent : (who k c : ℕ) (x : Option Wait) → x ≡ None → JoinsWait who k c x → ⊥
not_absent who k c None e h = h
not_absent who k c (Some x) e h = cc

not_both : (who k c n j d : ℕ) (x : Option Wait) → n ≢ who → JoinsWait n j d x → JoinsWait who k c x → ⊥
not_both who k c n j d None ne m h = h
not_both who k c n j d (Some x) ne m h = ne (sym m.own ∙ h.own)

-- another names no wait of who
join_named : (who k c n j d p places : ℕ) (w u : WaitId) (s : State) → n ≢ who → Placed s → HasPlace places p (s.channels d)
    → MayName n j d p u s → JoinsWait who k c (s.waits w) → JoinsWait who k c (put_wait u (name_clause n j d (s.waits u)) s.waits w)
join_named who k c n j d p places w u s ne pl place may h = by_test (same_wait u w) refl
  where
    at_u : u ≡ w → JoinsWait who k c (s.waits u)
    at_u is = subst (λ (z : WaitId). JoinsWait who k c (s.waits z)) (sym is) h

    named : (b : Bool) → same_wait u (at_place d p) ≡ b → MatchBool b (j ≤ 7) (JoinsWait n j d (s.waits u)) → JoinsWait who k c (s.waits u)
        → ⊥
    named true e m g = not_absent who k c (s.waits u) (pl u
        (subst (λ (z : WaitId). (s.channels z.channel).next ≤ z.place) (sym (same_wait-eq u (at_place d p) e)) (let f = place.first
        in omega arith))) g
    named false e m g = not_both who k c n j d (s.waits u) ne m g

    by_test : (b : Bool) → same_wait u w ≡ b → JoinsWait who k c (if b then name_clause n j d (s.waits u) else s.waits w)
    by_test true e = absurd (named (same_wait u (at_place d p)) refl may (at_u (same_wait-eq u w e)))
    by_test false e = h

not_settles : (who k c n : ℕ) (outcome : Settled) (x : Option Wait) → n ≢ who → MaySettle n outcome x → JoinsWait who k c x → ⊥
not_settles who k c n outcome None ne m h = h
not_settles who k c n outcome (Some x) ne m h = ne (sym m.0 ∙ h.own)

join_settled : (who k c n : ℕ) (outcome : Settled) (w u : WaitId) (s : State) → n ≢ who → MaySettle n outcome (s.waits u)
    → JoinsWait who k c (s.waits w) → JoinsWait who k c (put_wait u (settled_wait outcome (s.waits u)) s.waits w)
join_settled who k c n outcome w u s ne m h = by_test (same_wait u w) refl
  where
    by_test : (b : Bool) → same_wait u w ≡ b → JoinsWait who k c (if b then settled_wait outcome (s.waits u) else s.waits w)
    by_test true e = absurd (not_settles who k c n outcome (s.waits u) ne m
        (subst (λ (z : WaitId). JoinsWait who k c (s.waits z)) (sym (same_wait-eq u w e)) h))
    by_test false e = h

pub join_step : (shape : Shape) (who k c n : ℕ) (w : WaitId) (s : State) (act : Act) → n ≢ who → Placed s → Needs shape s n act
    → JoinsWait who k c (s.waits w) → JoinsWait who k c ((after s n act).waits w)
join_step shape who k c n w s (Hand d p v) ne pl m h = join_first who k c w _ _ s h
join_step shape who k c n w s (Offer d p v u j) ne pl m h = join_named who k c n j d p (places_at shape d) w u s ne pl m.1 m.4 h
join_step shape who k c n w s (Await d p u j) ne pl m h = join_named who k c n j d p (places_at shape d) w u s ne pl m.1 m.3 h
join_step shape who k c n w s (Take d p v) ne pl m h = join_offer who k c w d _ _ s h
join_step shape who k c n w s (Admit d p) ne pl m h = join_holder who k c w (holder_at p (s.channels d).queue) _ _ h
join_step shape who k c n w s (Drop d p v) ne pl m h = join_removed who k c w d _ s h
join_step shape who k c n w s (Drain d p v) ne pl m h = join_offer who k c w d _ _ s h
join_step shape who k c n w s (WakeClosed d p) ne pl m h = join_first who k c w _ _ s h
join_step shape who k c n w s (Withdraw u why) ne pl m h = join_resolve who k c w u _ s h
join_step shape who k c n w s (Settle u outcome) ne pl m h = join_settled who k c n outcome w u s ne m h
join_step shape who k c n w s other ne pl m h = h
