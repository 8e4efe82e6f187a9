-- Which waits of a caller are unsettled follows from its own acts.
use Rattle.script_grammar.proofs.Truths.{both_true}
use Rattle.std.specs.Prelude.{◌≡◌, ◌≢◌, ℕ, ◌≤◌, ◌==◌, Bool, true, false, ◌&&◌, List, [], ◌∷◌, Option, Some, None, MatchBool, is_none, refl, if◌then◌else◌}
use Rattle.std.proofs.Common.{sym, ap, ◌∙◌, subst, arith}
use Rattle.std.proofs.lemmas.Bool.{eqb-true, and_from}
use Rattle.co_base.specs.declared.names.WaitId.{WaitId}
use Rattle.channel_model.specs.declared.acts.Act.{Act}
use Rattle.channel_model.specs.declared.acts.Act.TheVariants.{Hand, Offer, Await, Take, Admit, Drop, Drain, WakeClosed, Withdraw, Settle}
use Rattle.channel_model.specs.declared.acts.Entry.{Entry}
use Rattle.channel_model.specs.declared.acts.Settled.{Settled}
use Rattle.channel_model.specs.declared.standing.Party.{Party}
use Rattle.channel_model.specs.declared.standing.Standing.{Standing}
use Rattle.channel_model.specs.declared.standing.Receiver.{Receiver}
use Rattle.channel_model.specs.declared.standing.Resolution.{Resolution}
use Rattle.channel_model.specs.Answers.{IsUnsettledOf}
use Rattle.channel_model.specs.Channels.{Shape, State, Wait, same_wait, start}
use Rattle.channel_model.specs.Effects.{after, resolve, resolve_first, resolve_holder, resolve_offer, remove_first, with_queue, put_wait, resolved_wait, name_clause, settled_wait, admitted, holder_at}
use Rattle.channel_model.specs.Needs.{Needs, HasPlace, MayName, JoinsWait, MaySettle}
use Rattle.channel_model.specs.Histories.{replay, replay_from, acts_of, Legal, LegalFrom}
use Rattle.channel_model.proofs.Waits.{same_wait-eq}
use Rattle.channel_model.proofs.Placed.{Placed, same_number, placed_after, start_placed}

-- ---- the waits of the state

-- the wait is who's, and not settled
abbrev pub is_unsettled_of : ℕ → Option Wait → Bool
is_unsettled_of who None = false
is_unsettled_of who (Some x) = (x.owner == who) && is_none x.settled

none_is : (o : Option Settled) → is_none o ≡ true → o ≡ None
none_is None h = refl
none_is (Some outcome) h = cc

pub unsettled_by_test : (who : ℕ) (x : Option Wait) → is_unsettled_of who x ≡ true → IsUnsettledOf who x
unsettled_by_test who None h = cc
unsettled_by_test who (Some x) h = let p = both_true (x.owner == who) (is_none x.settled) h
    in (eqb-true x.owner who p.0, none_is x.settled p.1)

pub unsettled_passes : (who : ℕ) (x : Option Wait) → IsUnsettledOf who x → is_unsettled_of who x ≡ true
unsettled_passes who None h = absurd h
unsettled_passes who (Some x) h = and_from (x.owner == who) (is_none x.settled) (subst (λ n. (n == who) ≡ true) (sym h.0) (same_number who))
    (ap is_none h.1)

-- ---- what an act of the owner leaves

-- whether the wait is unsettled after this act of its owner, where it was so before or not
abbrev pub unsettled_by : WaitId → Act → Bool → Bool
unsettled_by w (Offer c p v u n) b = if same_wait u w then true else b
unsettled_by w (Await c p u n) b = if same_wait u w then true else b
unsettled_by w (Settle u outcome) b = if same_wait u w then false else b
unsettled_by w other b = b

unfoldable pub unsettled_after : WaitId → Bool → List Act → Bool
unsettled_after w b [] = b
unsettled_after w b (a ∷ acts) = unsettled_after w (unsettled_by w a b) acts

-- ---- changes of one wait

same_there : (who : ℕ) (waits : WaitId → Option Wait) (w v : WaitId) (f : Option Wait → Option Wait)
    → ((x : Option Wait) → is_unsettled_of who (f x) ≡ is_unsettled_of who x)
    → is_unsettled_of who (put_wait w (f (waits w)) waits v) ≡ is_unsettled_of who (waits v)
same_there who waits w v f k = by_test (same_wait w v) refl
  where
    by_test : (b : Bool) → same_wait w v ≡ b → is_unsettled_of who (if b then f (waits w) else waits v) ≡ is_unsettled_of who (waits v)
    by_test true e = k (waits w) ∙ ap (λ u. is_unsettled_of who (waits u)) (same_wait-eq w v e)
    by_test false e = refl

resolved_same : (who : ℕ) (how : Resolution) (x : Option Wait) → is_unsettled_of who (resolved_wait how x) ≡ is_unsettled_of who x
resolved_same who how None = refl
resolved_same who how (Some x) = refl

by_resolve : (who : ℕ) (w v : WaitId) (how : Resolution) (s : State)
    → is_unsettled_of who ((resolve w how s).waits v) ≡ is_unsettled_of who (s.waits v)
by_resolve who w v how s = same_there who s.waits w v (resolved_wait how) (resolved_same who how)

by_first : (who : ℕ) (v : WaitId) (rs : List Receiver) (how : ℕ → Resolution) (s : State)
    → is_unsettled_of who ((resolve_first rs how s).waits v) ≡ is_unsettled_of who (s.waits v)
by_first who v [] how s = refl
by_first who v (r ∷ rs) how s = by_resolve who r.party.wait v (how r.party.clause) s

by_holder : (who : ℕ) (v : WaitId) (p : Option Party) (how : ℕ → Resolution) (s : State)
    → is_unsettled_of who ((resolve_holder p how s).waits v) ≡ is_unsettled_of who (s.waits v)
by_holder who v None how s = refl
by_holder who v (Some p) how s = by_resolve who p.wait v (how p.clause) s

by_offer : (who : ℕ) (v : WaitId) (c : ℕ) (os : List Standing) (how : ℕ → Resolution) (s : State)
    → is_unsettled_of who ((resolve_offer c os how s).waits v) ≡ is_unsettled_of who (s.waits v)
by_offer who v c [] how s = refl
by_offer who v c (o ∷ os) how s = by_holder who v o.holder how (with_queue c os s)

by_removal : (who : ℕ) (v : WaitId) (c : ℕ) (os : List Standing) (s : State)
    → is_unsettled_of who ((remove_first c os s).waits v) ≡ is_unsettled_of who (s.waits v)
by_removal who v c [] s = refl
by_removal who v c (o ∷ os) s = refl

not_other : (n who : ℕ) (b : Bool) → n ≢ who → ((n == who) && b) ≡ false
not_other n who b apart = by_test (n == who) refl
  where
    by_test : (t : Bool) → (n == who) ≡ t → (t && b) ≡ false
    by_test true e = absurd (apart (eqb-true n who e))
    by_test false e = refl

-- ---- clauses that are named

named_by_other : (n who k c : ℕ) (x : Option Wait) → n ≢ who → is_unsettled_of who (name_clause n k c x) ≡ is_unsettled_of who x
named_by_other n who k c None apart = not_other n who true apart
named_by_other n who k c (Some x) apart = refl

-- an earlier wait that gets a clause more is unsettled
joined : (who k c : ℕ) (x : Option Wait) → JoinsWait who k c x → is_unsettled_of who (name_clause who k c x) ≡ true
joined who k c None h = absurd h
joined who k c (Some x) h = and_from (x.owner == who) (is_none x.settled) (subst (λ n. (n == who) ≡ true) (sym h.own) (same_number who))
    (ap is_none h.unsettled)

begun : (who k c : ℕ) (x : Option Wait) → x ≡ None → is_unsettled_of who (name_clause who k c x) ≡ true
begun who k c None e = ap (λ b. b && true) (same_number who)
begun who k c (Some x) e = cc

named_by_own : (who k c p places : ℕ) (w : WaitId) (s : State) → Placed s → HasPlace places p (s.channels c) → MayName who k c p w s
    → is_unsettled_of who (name_clause who k c (s.waits w)) ≡ true
named_by_own who k c p places w s placed has may = by_test (same_wait w (record { channel = c; place = p })) refl may
  where
    by_test : (b : Bool) → same_wait w (record { channel = c; place = p }) ≡ b → MatchBool b (k ≤ 7) (JoinsWait who k c (s.waits w))
        → is_unsettled_of who (name_clause who k c (s.waits w)) ≡ true
    by_test true e m =
        let q : w ≡ record { channel = c; place = p } = same_wait-eq w _ e in
        let first : p ≡ (s.channels c).next = has.first in
        begun who k c (s.waits w) (subst (λ (u : WaitId). s.waits u ≡ None) (sym q)
        (placed (record { channel = c; place = p }) (omega (arith, first))))
    by_test false e m = joined who k c (s.waits w) m

own_named : (who k c p places : ℕ) (w v : WaitId) (s : State) → Placed s → HasPlace places p (s.channels c) → MayName who k c p w s
    → is_unsettled_of who (put_wait w (name_clause who k c (s.waits w)) s.waits v) ≡
    (if same_wait w v then true else is_unsettled_of who (s.waits v))
own_named who k c p places w v s placed has may = by_test (same_wait w v)
  where
    by_test : (b : Bool) → is_unsettled_of who (if b then name_clause who k c (s.waits w) else s.waits v) ≡
        (if b then true else is_unsettled_of who (s.waits v))
    by_test true = named_by_own who k c p places w s placed has may
    by_test false = refl

-- ---- waits that are settled

settled_by_own : (who : ℕ) (outcome : Settled) (x : Option Wait) → is_unsettled_of who (settled_wait outcome x) ≡ false
settled_by_own who outcome None = refl
settled_by_own who outcome (Some x) = elim (x.owner == who) as (λ b. (b && false) ≡ false) [ true ↦ refl | false ↦ refl ]

own_settled : (who : ℕ) (outcome : Settled) (w v : WaitId) (s : State)
    → is_unsettled_of who (put_wait w (settled_wait outcome (s.waits w)) s.waits v) ≡
    (if same_wait w v then false else is_unsettled_of who (s.waits v))
own_settled who outcome w v s = by_test (same_wait w v)
  where
    by_test : (b : Bool) → is_unsettled_of who (if b then settled_wait outcome (s.waits w) else s.waits v) ≡
        (if b then false else is_unsettled_of who (s.waits v))
    by_test true = settled_by_own who outcome (s.waits w)
    by_test false = refl

not_mine : (n who : ℕ) (outcome : Settled) (x : Option Wait) → n ≢ who → MaySettle n outcome x → is_unsettled_of who x ≡ false
not_mine n who outcome None apart m = refl
not_mine n who outcome (Some x) apart m = not_other x.owner who (is_none x.settled) (λ e. apart (sym m.0 ∙ e))

settled_by_other : (n who : ℕ) (outcome : Settled) (w v : WaitId) (s : State) → n ≢ who → MaySettle n outcome (s.waits w)
    → is_unsettled_of who (put_wait w (settled_wait outcome (s.waits w)) s.waits v) ≡ is_unsettled_of who (s.waits v)
settled_by_other n who outcome w v s apart m = by_test (same_wait w v) refl
  where
    by_test : (b : Bool) → same_wait w v ≡ b → is_unsettled_of who (if b then settled_wait outcome (s.waits w) else s.waits v) ≡
        is_unsettled_of who (s.waits v)
    by_test true e = settled_by_own who outcome (s.waits w) ∙ sym (not_mine n who outcome (s.waits w) apart m)
        ∙ ap (λ u. is_unsettled_of who (s.waits u)) (same_wait-eq w v e)
    by_test false e = refl

-- ---- one act

own_act : (shape : Shape) (s : State) (who : ℕ) (act : Act) (v : WaitId) → Placed s → Needs shape s who act
    → is_unsettled_of who ((after s who act).waits v) ≡ unsettled_by v act (is_unsettled_of who (s.waits v))
own_act shape s who (Hand c p x) v h n = by_first who v (s.channels c).receivers _ s
own_act shape s who (Offer c p x w k) v h n = own_named who k c p _ w v s h n.1 n.4
own_act shape s who (Await c p w k) v h n = own_named who k c p _ w v s h n.1 n.3
own_act shape s who (Take c p x) v h n = by_offer who v c (s.channels c).queue _ s
own_act shape s who (Admit c p) v h n = by_holder who v (holder_at p (s.channels c).queue) _
    (with_queue c (admitted p (s.channels c).queue) s)
own_act shape s who (Drop c p x) v h n = by_removal who v c (s.channels c).queue s
own_act shape s who (Drain c p x) v h n = by_offer who v c (s.channels c).queue _ s
own_act shape s who (WakeClosed c p) v h n = by_first who v (s.channels c).receivers _ s
own_act shape s who (Withdraw w why) v h n = by_resolve who w v _ s
own_act shape s who (Settle w outcome) v h n = own_settled who outcome w v s
own_act shape s who other v h n = refl

other_act : (shape : Shape) (s : State) (m who : ℕ) (act : Act) (v : WaitId) → m ≢ who → Needs shape s m act
    → is_unsettled_of who ((after s m act).waits v) ≡ is_unsettled_of who (s.waits v)
other_act shape s m who (Hand c p x) v apart n = by_first who v (s.channels c).receivers _ s
other_act shape s m who (Offer c p x w k) v apart n = same_there who s.waits w v (name_clause m k c) (λ y. named_by_other m who k c y apart)
other_act shape s m who (Await c p w k) v apart n = same_there who s.waits w v (name_clause m k c) (λ y. named_by_other m who k c y apart)
other_act shape s m who (Take c p x) v apart n = by_offer who v c (s.channels c).queue _ s
other_act shape s m who (Admit c p) v apart n = by_holder who v (holder_at p (s.channels c).queue) _
    (with_queue c (admitted p (s.channels c).queue) s)
other_act shape s m who (Drop c p x) v apart n = by_removal who v c (s.channels c).queue s
other_act shape s m who (Drain c p x) v apart n = by_offer who v c (s.channels c).queue _ s
other_act shape s m who (WakeClosed c p) v apart n = by_first who v (s.channels c).receivers _ s
other_act shape s m who (Withdraw w why) v apart n = by_resolve who w v _ s
other_act shape s m who (Settle w outcome) v apart n = settled_by_other m who outcome w v s apart n
other_act shape s m who other v apart n = refl

-- ---- histories

unsettled_from : (shape : Shape) (who : ℕ) (v : WaitId) (s : State) (es : List Entry) → Placed s → LegalFrom shape s es
    → is_unsettled_of who ((replay_from s es).waits v) ≡ unsettled_after v (is_unsettled_of who (s.waits v)) (acts_of who es)
unfolding LegalFrom replay_from acts_of unsettled_after
unsettled_from shape who v s [] h l = refl
unsettled_from shape who v s (e ∷ es) h l = unsettled_from shape who v (after s e.who e.act) es (placed_after shape s e.who e.act l.0 h) l.1
    ∙ by_test (e.who == who) refl
  where
    by_test : (b : Bool) → (e.who == who) ≡ b → unsettled_after v (is_unsettled_of who ((after s e.who e.act).waits v)) (acts_of who es) ≡
        unsettled_after v (is_unsettled_of who (s.waits v)) (if b then e.act ∷ acts_of who es else acts_of who es)
    by_test true q =
        let m : e.who ≡ who = eqb-true e.who who q in
        ap (λ t. unsettled_after v t (acts_of who es)) (subst
        (λ n. is_unsettled_of n ((after s e.who e.act).waits v) ≡ unsettled_by v e.act (is_unsettled_of n (s.waits v))) m
        (own_act shape s e.who e.act v h l.0))
    by_test false q = ap (λ t. unsettled_after v t (acts_of who es)) (other_act shape s e.who who e.act v (λ m. apart m) l.0)
      where
        apart : e.who ≡ who → ⊥
        apart m = let t : (who == who) ≡ false = ap (λ n. n == who) (sym m) ∙ q in let u = same_number who in cc

-- after a legal history a wait of who is unsettled exactly where who's acts say so
pub replay_unsettled : (shape : Shape) (who : ℕ) (v : WaitId) (es : List Entry) → Legal shape es
    → is_unsettled_of who ((replay es).waits v) ≡ unsettled_after v false (acts_of who es)
replay_unsettled shape who v es l = unsettled_from shape who v start es start_placed l
