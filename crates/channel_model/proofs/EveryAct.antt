-- Facts of one channel, and of one wait, that every act keeps.
use Rattle.std.specs.Prelude.{◌≡◌, ℕ, ◌≤◌, ◌==◌, Bool, true, false, List, [], ◌∷◌, Option, Some, None, is_some, refl, if◌then◌else◌, MatchBool}
use Rattle.std.proofs.Common.{sym, subst, arith}
use Rattle.std.proofs.lemmas.Bool.{eqb-true}
use Rattle.co_base.specs.declared.names.WaitId.{WaitId}
use Rattle.channel_model.specs.declared.acts.Act.{Act}
use Rattle.channel_model.specs.declared.acts.Act.TheVariants.{Hand, Put, Offer, Await, Take, Admit, Drop, Spurn, Close, Void, Drain, WakeClosed, Withdraw, Settle}
use Rattle.channel_model.specs.declared.acts.Settled.{Settled}
use Rattle.channel_model.specs.declared.standing.Party.{Party}
use Rattle.channel_model.specs.declared.standing.Standing.{Standing}
use Rattle.channel_model.specs.declared.standing.Receiver.{Receiver}
use Rattle.channel_model.specs.declared.standing.Resolution.{Resolution}
use Rattle.channel_model.specs.Channels.{Shape, State, Channel, Wait, same_wait, places_at, kind_at, suspends}
use Rattle.channel_model.specs.Effects.{after, resolve, resolve_first, resolve_holder, resolve_offer, remove_first, with_queue, without, put_channel, put_wait, resolved_wait, name_clause, settled_wait, admitted, spurned, holder_at, is_open, place_offer, place_receiver}
use Rattle.channel_model.specs.Needs.{Needs, HasPlace, MayName, JoinsWait, MaySettle}
use Rattle.channel_model.proofs.Waits.{same_wait-eq, one_change}
use Rattle.channel_model.proofs.Placed.{Placed}

-- ---- channels

-- a fact of a channel that every act keeps
pub record ChannelKeeps (shape : Shape) (P : ℕ → Channel → Type 0) : Type 0 where
  pub without : (w : WaitId) (d : ℕ) (ch : Channel) → P d ch → P d (without w ch)
  pub rest : (d : ℕ) (o : Standing) (os : List Standing) (ch : Channel) → ch.queue ≡ o ∷ os → P d ch → P d (record ch { queue = os })
  pub admit : (d p : ℕ) (ch : Channel) → P d ch → P d (record ch { queue = admitted p ch.queue })
  pub spurn : (d p : ℕ) (ch : Channel) → P d ch → P d (record ch { queue = spurned p ch.queue })
  pub put : (d p v : ℕ) (ch : Channel) → HasPlace (places_at shape d) p ch → ch.receivers ≡ []
      → P d ch → P d (place_offer true (record { place = p; value = v; holder = None }) ch)
  pub offer : (d p : ℕ) (b : Bool) (o : Standing) (ch : Channel) → HasPlace (places_at shape d) p ch → ch.receivers ≡ []
      → suspends (kind_at shape d) ≡ true → o.place ≡ p
      → P d ch → P d (place_offer b o ch)
  pub await : (d p : ℕ) (b : Bool) (r : Receiver) (ch : Channel) → HasPlace (places_at shape d) p ch → ch.queue ≡ [] → r.place ≡ p
      → P d ch → P d (place_receiver b r ch)
  pub close : (d v : ℕ) (ch : Channel) → ch.closed ≡ None → P d ch → P d (record ch { closed = Some v })
  pub void : (d : ℕ) (ch : Channel) → is_some ch.closed ≡ true → P d ch → P d (record ch { voided = true })

module _ (shape : Shape) (P : ℕ → Channel → Type 0) (k : ChannelKeeps shape P) where
  first_keeps : (rs : List Receiver) (how : ℕ → Resolution) (s : State) (d : ℕ) → P d (s.channels d)
      → P d ((resolve_first rs how s).channels d)
  first_keeps [] how s d h = h
  first_keeps (r ∷ rs) how s d h = k.without r.party.wait d (s.channels d) h

  holder_keeps : (p : Option Party) (how : ℕ → Resolution) (s : State) (d : ℕ) → P d (s.channels d)
      → P d ((resolve_holder p how s).channels d)
  holder_keeps None how s d h = h
  holder_keeps (Some p) how s d h = k.without p.wait d (s.channels d) h

  put_keeps : (c : ℕ) (ch : Channel) (s : State) (d : ℕ) → (P c (s.channels c) → P c ch) → P d (s.channels d)
      → P d (put_channel c ch s.channels d)
  put_keeps c ch s d f h = by_test (c == d) refl
    where
      by_test : (b : Bool) → (c == d) ≡ b → P d (if b then ch else s.channels d)
      by_test true e = let same = eqb-true c d e in subst (λ n. P n ch) same (f (subst (λ n. P n (s.channels n)) (sym same) h))
      by_test false e = h

  rest_keeps : (c : ℕ) (o : Standing) (os : List Standing) (s : State) (d : ℕ) → (s.channels c).queue ≡ o ∷ os → P d (s.channels d)
      → P d ((with_queue c os s).channels d)
  rest_keeps c o os s d e h = put_keeps c _ s d (k.rest c o os (s.channels c) e) h

  offer_keeps : (c : ℕ) (q : List Standing) (how : ℕ → Resolution) (s : State) (d : ℕ) → (s.channels c).queue ≡ q → P d (s.channels d)
      → P d ((resolve_offer c q how s).channels d)
  offer_keeps c [] how s d e h = h
  offer_keeps c (o ∷ os) how s d e h = holder_keeps o.holder how (with_queue c os s) d (rest_keeps c o os s d e h)

  removed_keeps : (c : ℕ) (q : List Standing) (s : State) (d : ℕ) → (s.channels c).queue ≡ q → P d (s.channels d)
      → P d ((remove_first c q s).channels d)
  removed_keeps c [] s d e h = h
  removed_keeps c (o ∷ os) s d e h = rest_keeps c o os s d e h

  pub after_keeps : (s : State) (who : ℕ) (act : Act) (d : ℕ) → Needs shape s who act → P d (s.channels d)
      → P d ((after s who act).channels d)
  after_keeps s who (Hand c p v) d n h = first_keeps (s.channels c).receivers _ s d h
  after_keeps s who (Put c p v) d n h = put_keeps c _ s d (k.put c p v (s.channels c) n.1 n.2) h
  after_keeps s who (Offer c p v w j) d n h = put_keeps c _ s d (k.offer c p (is_open (s.waits w)) _ (s.channels c) n.1 n.2 n.3 refl) h
  after_keeps s who (Await c p w j) d n h = put_keeps c _ s d (k.await c p (is_open (s.waits w)) _ (s.channels c) n.1 n.2 refl) h
  after_keeps s who (Take c p v) d n h = offer_keeps c (s.channels c).queue _ s d refl h
  after_keeps s who (Admit c p) d n h = holder_keeps (holder_at p (s.channels c).queue) _ (with_queue c (admitted p (s.channels c).queue) s)
      d (put_keeps c _ s d (k.admit c p (s.channels c)) h)
  after_keeps s who (Drop c p v) d n h = removed_keeps c (s.channels c).queue s d refl h
  after_keeps s who (Spurn c p v) d n h = put_keeps c _ s d (k.spurn c p (s.channels c)) h
  after_keeps s who (Close c v) d n h = put_keeps c _ s d (k.close c v (s.channels c) n.1) h
  after_keeps s who (Void c) d n h = put_keeps c _ s d (k.void c (s.channels c) n.1) h
  after_keeps s who (Drain c p v) d n h = offer_keeps c (s.channels c).queue _ s d refl h
  after_keeps s who (WakeClosed c p) d n h = first_keeps (s.channels c).receivers _ s d h
  after_keeps s who (Withdraw w why) d n h = k.without w d (s.channels d) h
  after_keeps s who (Settle w outcome) d n h = h

-- ---- waits

-- a fact of a wait that every act keeps, and that holds of each that begins
pub record WaitKeeps (P : Option Wait → Type 0) : Type 0 where
  pub resolved : (how : Resolution) (x : Option Wait) → P x → P (resolved_wait how x)
  pub begun : (who k c : ℕ) → k ≤ 7 → P (name_clause who k c None)
  pub joined : (who k c : ℕ) (x : Option Wait) → JoinsWait who k c x → P x → P (name_clause who k c x)
  pub settled : (who : ℕ) (outcome : Settled) (x : Option Wait) → MaySettle who outcome x → P x → P (settled_wait outcome x)

module _ (P : Option Wait → Type 0) (k : WaitKeeps P) where
  resolve_waits : (v w : WaitId) (how : Resolution) (s : State) → P (s.waits v) → P ((resolve w how s).waits v)
  resolve_waits v w how s h = one_change P s.waits w v (resolved_wait how) (k.resolved how (s.waits v)) h

  first_waits : (v : WaitId) (rs : List Receiver) (how : ℕ → Resolution) (s : State) → P (s.waits v) → P ((resolve_first rs how s).waits v)
  first_waits v [] how s h = h
  first_waits v (r ∷ rs) how s h = resolve_waits v r.party.wait (how r.party.clause) s h

  holder_waits : (v : WaitId) (p : Option Party) (how : ℕ → Resolution) (s : State) → P (s.waits v) → P ((resolve_holder p how s).waits v)
  holder_waits v None how s h = h
  holder_waits v (Some p) how s h = resolve_waits v p.wait (how p.clause) s h

  offer_waits : (v : WaitId) (c : ℕ) (q : List Standing) (how : ℕ → Resolution) (s : State) → P (s.waits v)
      → P ((resolve_offer c q how s).waits v)
  offer_waits v c [] how s h = h
  offer_waits v c (o ∷ os) how s h = holder_waits v o.holder how _ h

  removed_waits : (v : WaitId) (c : ℕ) (q : List Standing) (s : State) → P (s.waits v) → P ((remove_first c q s).waits v)
  removed_waits v c [] s h = h
  removed_waits v c (o ∷ os) s h = h

  named_waits : (who j c p places : ℕ) (w v : WaitId) (s : State) → Placed s → HasPlace places p (s.channels c) → MayName who j c p w s
      → P (s.waits v) → P (put_wait w (name_clause who j c (s.waits w)) s.waits v)
  named_waits who j c p places w v s placed place may h = by_test (same_wait w v) refl
    where
      named : (b : Bool) → same_wait w (record { channel = c; place = p }) ≡ b → MatchBool b (j ≤ 7) (JoinsWait who j c (s.waits w))
          → P (s.waits w) → P (name_clause who j c (s.waits w))
      named true e m h =
          let none : s.waits w ≡ None = placed w (subst (λ (u : WaitId). (s.channels u.channel).next ≤ u.place) (sym (same_wait-eq w _ e))
          (let f = place.first in omega arith)) in
          subst (λ x. P (name_clause who j c x)) (sym none) (k.begun who j c m)
      named false e m h = k.joined who j c (s.waits w) m h

      by_test : (b : Bool) → same_wait w v ≡ b → P (if b then name_clause who j c (s.waits w) else s.waits v)
      by_test true e = named (same_wait w (record { channel = c; place = p })) refl may
          (subst (λ u. P (s.waits u)) (sym (same_wait-eq w v e)) h)
      by_test false e = h

  settled_waits : (who : ℕ) (outcome : Settled) (w v : WaitId) (s : State) → MaySettle who outcome (s.waits w) → P (s.waits v)
      → P (put_wait w (settled_wait outcome (s.waits w)) s.waits v)
  settled_waits who outcome w v s m h = by_test (same_wait w v) refl
    where
      by_test : (b : Bool) → same_wait w v ≡ b → P (if b then settled_wait outcome (s.waits w) else s.waits v)
      by_test true e = k.settled who outcome (s.waits w) m (subst (λ u. P (s.waits u)) (sym (same_wait-eq w v e)) h)
      by_test false e = h

  pub after_waits : (shape : Shape) (s : State) (who : ℕ) (act : Act) (v : WaitId) → Placed s → Needs shape s who act → P (s.waits v)
      → P ((after s who act).waits v)
  after_waits shape s who (Hand c p x) v placed n h = first_waits v (s.channels c).receivers _ s h
  after_waits shape s who (Offer c p x w j) v placed n h = named_waits who j c p (places_at shape c) w v s placed n.1 n.4 h
  after_waits shape s who (Await c p w j) v placed n h = named_waits who j c p (places_at shape c) w v s placed n.1 n.3 h
  after_waits shape s who (Take c p x) v placed n h = offer_waits v c (s.channels c).queue _ s h
  after_waits shape s who (Admit c p) v placed n h = holder_waits v (holder_at p (s.channels c).queue) _
      (with_queue c (admitted p (s.channels c).queue) s) h
  after_waits shape s who (Drop c p x) v placed n h = removed_waits v c (s.channels c).queue s h
  after_waits shape s who (Drain c p x) v placed n h = offer_waits v c (s.channels c).queue _ s h
  after_waits shape s who (WakeClosed c p) v placed n h = first_waits v (s.channels c).receivers _ s h
  after_waits shape s who (Withdraw w why) v placed n h = resolve_waits v w _ s h
  after_waits shape s who (Settle w outcome) v placed n h = settled_waits who outcome w v s n h
  after_waits shape s who other v placed n h = h
