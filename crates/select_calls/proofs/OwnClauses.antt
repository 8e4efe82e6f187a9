-- The clauses of a caller's wait: others leave them, and its own act adds one.
use Rattle.std.specs.Prelude.{◌≡◌, ◌≢◌, ℕ, ◌≤◌, ◌==◌, Bool, true, false, List, [], ◌∷◌, ◌++◌, Option, Some, None, MatchBool, refl, if◌then◌else◌}
use mathlib.Core.List.{IsPrefix}
use Rattle.std.proofs.Common.{sym, ap, ◌∙◌, subst, arith}
use Rattle.std.proofs.lemmas.Bool.Decides.{nat_tests}
use Rattle.co_base.specs.declared.names.WaitId.{WaitId}
use Rattle.channel_model.specs.declared.acts.Act.{Act}
use Rattle.channel_model.specs.declared.acts.Act.TheVariants.{Hand, Offer, Await, Take, Admit, Drop, Drain, WakeClosed, Withdraw, Settle}
use Rattle.channel_model.specs.declared.acts.Entry.{Entry}
use Rattle.channel_model.specs.declared.acts.Settled.{Settled}
use Rattle.channel_model.specs.declared.standing.Party.{Party}
use Rattle.channel_model.specs.declared.standing.Standing.{Standing}
use Rattle.channel_model.specs.declared.standing.Receiver.{Receiver}
use Rattle.channel_model.specs.declared.standing.Resolution.{Resolution}
use Rattle.channel_model.specs.Channels.{Shape, State, Wait, same_wait, start}
use Rattle.channel_model.specs.Effects.{after, resolve, resolve_first, resolve_holder, resolve_offer, remove_first, put_wait, resolved_wait, name_clause, settled_wait, holder_at}
use Rattle.channel_model.specs.Needs.{Needs, HasPlace, JoinsWait, MayName, MaySettle}
use Rattle.channel_model.specs.Histories.{replay, replay_from, Legal, LegalFrom, acts_of}
use Rattle.channel_model.proofs.Histories.{replay_from-append, LegalFrom-parts, acts_of-append}
use Rattle.channel_model.proofs.Placed.{Placed, placed_after}
use Rattle.channel_model.proofs.Waits.{same_wait-eq, one_change}
use Rattle.select_calls.specs.Parts.{HasClauses}
use Rattle.channel_model.proofs.Others.{nothing_left}

module _ (who : ℕ) (cs : List (ℕ × ℕ)) where
  resolved_has : (how : Resolution) (x : Option Wait) → HasClauses who cs x → HasClauses who cs (resolved_wait how x)
  resolved_has how None h = h
  resolved_has how (Some x) h = h

  settled_has : (n : ℕ) (outcome : Settled) (x : Option Wait) → n ≢ who → MaySettle n outcome x → HasClauses who cs x
      → HasClauses who cs (settled_wait outcome x)
  settled_has n outcome None apart m h = h
  settled_has n outcome (Some x) apart m h = absurd (apart (sym m.0 ∙ h.0))

  joined_never : {A : Type 0} (n k c : ℕ) (x : Option Wait) → n ≢ who → JoinsWait n k c x → HasClauses who cs x → A
  joined_never n k c None apart m h = absurd m
  joined_never n k c (Some x) apart m h = absurd (apart (sym m.own ∙ h.0))

  resolve_has : (w v : WaitId) (how : Resolution) (s : State) → HasClauses who cs (s.waits w)
      → HasClauses who cs ((resolve v how s).waits w)
  resolve_has w v how s h = one_change (HasClauses who cs) s.waits v w (resolved_wait how) (resolved_has how (s.waits w)) h

  first_has : (w : WaitId) (rs : List Receiver) (how : ℕ → Resolution) (s : State) → HasClauses who cs (s.waits w)
      → HasClauses who cs ((resolve_first rs how s).waits w)
  first_has w [] how s h = h
  first_has w (r ∷ rs) how s h = resolve_has w r.party.wait (how r.party.clause) s h

  holder_has : (w : WaitId) (p : Option Party) (how : ℕ → Resolution) (s : State) → HasClauses who cs (s.waits w)
      → HasClauses who cs ((resolve_holder p how s).waits w)
  holder_has w None how s h = h
  holder_has w (Some p) how s h = resolve_has w p.wait (how p.clause) s h

  removed_has : (w : WaitId) (c : ℕ) (q : List Standing) (s : State) → HasClauses who cs (s.waits w)
      → HasClauses who cs ((remove_first c q s).waits w)
  removed_has w c [] s h = h
  removed_has w c (o ∷ os) s h = h

  offer_has : (w : WaitId) (c : ℕ) (q : List Standing) (how : ℕ → Resolution) (s : State) → HasClauses who cs (s.waits w)
      → HasClauses who cs ((resolve_offer c q how s).waits w)
  offer_has w c [] how s h = h
  offer_has w c (o ∷ os) how s h = holder_has w o.holder how _ h

  -- another names no wait of who: a wait that begins has a place that was not given out
  named_has : (n k c p places : ℕ) (u w : WaitId) (s : State) → Placed s → n ≢ who → HasPlace places p (s.channels c) → MayName n k c p u s
      → HasClauses who cs (s.waits w)
      → HasClauses who cs (put_wait u (name_clause n k c (s.waits u)) s.waits w)
  named_has n k c p places u w s placed apart place may h = by_test (same_wait u w) refl
    where
      named : {A : Type 0} (b : Bool) → same_wait u (record { channel = c; place = p }) ≡ b
          → MatchBool b (k ≤ 7) (JoinsWait n k c (s.waits u)) → HasClauses who cs (s.waits u) → A
      named true e m f =
          let none : s.waits u ≡ None = placed u (subst (λ (v : WaitId). (s.channels v.channel).next ≤ v.place) (sym (same_wait-eq u _ e))
          (let g = place.first in omega arith)) in
          let no_way : ⊥ = subst (HasClauses who cs) none f in absurd no_way
      named false e m f = joined_never n k c (s.waits u) apart m f

      by_test : (b : Bool) → same_wait u w ≡ b → HasClauses who cs (if b then name_clause n k c (s.waits u) else s.waits w)
      by_test true e = named (same_wait u (record { channel = c; place = p })) refl may
          (subst (λ v. HasClauses who cs (s.waits v)) (sym (same_wait-eq u w e)) h)
      by_test false e = h

  settle_has : (n : ℕ) (outcome : Settled) (u w : WaitId) (s : State) → n ≢ who → MaySettle n outcome (s.waits u)
      → HasClauses who cs (s.waits w) → HasClauses who cs (put_wait u (settled_wait outcome (s.waits u)) s.waits w)
  settle_has n outcome u w s apart m h = by_test (same_wait u w) refl
    where
      by_test : (b : Bool) → same_wait u w ≡ b → HasClauses who cs (if b then settled_wait outcome (s.waits u) else s.waits w)
      by_test true e = settled_has n outcome (s.waits u) apart m (subst (λ v. HasClauses who cs (s.waits v)) (sym (same_wait-eq u w e)) h)
      by_test false e = h

  other_has : (shape : Shape) (n : ℕ) (w : WaitId) (s : State) (act : Act) → Placed s → n ≢ who → Needs shape s n act
      → HasClauses who cs (s.waits w) → HasClauses who cs ((after s n act).waits w)
  other_has shape n w s (Hand c p x) placed apart m h = first_has w _ _ s h
  other_has shape n w s (Offer c p x u k) placed apart m h = named_has n k c p _ u w s placed apart m.1 m.4 h
  other_has shape n w s (Await c p u k) placed apart m h = named_has n k c p _ u w s placed apart m.1 m.3 h
  other_has shape n w s (Take c p x) placed apart m h = offer_has w c _ _ s h
  other_has shape n w s (Admit c p) placed apart m h = holder_has w (holder_at p (s.channels c).queue) _ _ h
  other_has shape n w s (Drop c p x) placed apart m h = removed_has w c (s.channels c).queue s h
  other_has shape n w s (Drain c p x) placed apart m h = offer_has w c _ _ s h
  other_has shape n w s (WakeClosed c p) placed apart m h = first_has w _ _ s h
  other_has shape n w s (Withdraw u why) placed apart m h = resolve_has w u _ s h
  other_has shape n w s (Settle u outcome) placed apart m h = settle_has n outcome u w s apart m h
  other_has shape n w s other placed apart m h = h

  -- entries of others alone
  none_own : (e : Entry) (es : List Entry) (b : Bool) → (e.who == who) ≡ b → (if b then e.act ∷ acts_of who es else acts_of who es) ≡ []
      → (e.who ≢ who) × (acts_of who es ≡ [])
  none_own e es true k h = cc
  none_own e es false k h = (λ q. grind (arith, nat_tests), h)

  others_from : (shape : Shape) (w : WaitId) (s : State) (es : List Entry) → LegalFrom shape s es → Placed s → acts_of who es ≡ []
      → HasClauses who cs (s.waits w) → HasClauses who cs ((replay_from s es).waits w)
  unfolding LegalFrom replay_from acts_of
  others_from shape w s [] l placed n h = h
  others_from shape w s (e ∷ es) l placed n h =
      let m = none_own e es (e.who == who) refl n in
      others_from shape w (after s e.who e.act) es l.1 (placed_after shape s e.who e.act l.0 placed) m.1
      (other_has shape e.who w s e.act placed m.0 l.0 h)

-- between two moments with no act of who
pub others_keep_clauses : (shape : Shape) (who : ℕ) (cs : List (ℕ × ℕ)) (w : WaitId) (xs ys : List Entry) → Legal shape ys
    → Placed (replay xs) → IsPrefix xs ys → acts_of who ys ≡ acts_of who xs
    → HasClauses who cs ((replay xs).waits w) → HasClauses who cs ((replay ys).waits w)
others_keep_clauses shape who cs w xs ys l placed p e h =
    let l' : Legal shape (xs ++ p.0) = rw p.1 l in
    let parts = LegalFrom-parts shape start xs p.0 l' in
    let n : acts_of who p.0 ≡ [] = nothing_left (acts_of who xs) (acts_of who p.0) (sym (acts_of-append who xs p.0) ∙ ap (acts_of who) p.1
    ∙ e) in
    let r = others_from who cs shape w (replay xs) p.0 parts.1 placed n h in
    subst (λ es. HasClauses who cs ((replay es).waits w)) p.1
    (subst (λ s. HasClauses who cs (s.waits w)) (sym (replay_from-append start xs p.0)) r)

-- ---- one more clause

-- a wait that begins
pub begun_has : (who k c : ℕ) → HasClauses who ((k, c) ∷ []) (name_clause who k c None)
begun_has who k c = (refl, refl, refl)

-- one that gets a clause more
pub joined_has : (who k c : ℕ) (cs : List (ℕ × ℕ)) (x : Option Wait) → HasClauses who cs x
    → HasClauses who (cs ++ (k, c) ∷ []) (name_clause who k c x)
joined_has who k c cs None h = absurd h
joined_has who k c cs (Some x) h = (h.0, ap (λ l. l ++ (k, c) ∷ []) h.1, h.2)
