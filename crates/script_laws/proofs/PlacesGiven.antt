-- Who gave out the places of a channel; and a wait of one clause that was resolved as closed has its channel closed.
use Rattle.script_grammar.proofs.Truths.{both_true}
use Rattle.std.specs.Prelude.{◌≡◌, ℕ, ◌≤◌, ◌==◌, ◌⊎◌, Bool, true, false, not, ◌||◌, List, [], ◌∷◌, Option, Some, None, is_some, MatchBool, refl}
use Rattle.std.specs.List.{list_any, list_all}
use Rattle.std.proofs.Common.{sym, ap, ◌∙◌, subst, inl, inr, ⊎_elim, arith}
use Rattle.std.proofs.lemmas.Bool.{eqb-true, eq-eqb, not-true, or_right, or_cases, and_from, both_ways, or_left, cond_both, cond-true}
use Rattle.std.proofs.lemmas.Option.{same_Some}
use Rattle.co_base.specs.declared.names.WaitId.{WaitId}
use Rattle.channel_model.specs.declared.acts.Act.{Act}
use Rattle.channel_model.specs.declared.acts.Act.TheVariants.{Hand, Put, Offer, Await, Take, Admit, Drop, Spurn, Close, Void, Drain, WakeClosed, Withdraw, Settle}
use Rattle.channel_model.specs.declared.acts.Entry.{Entry}
use Rattle.channel_model.specs.declared.acts.Settled.{Settled}
use Rattle.channel_model.specs.declared.acts.Settled.TheVariants as settled
use Rattle.channel_model.specs.declared.standing.Party.{Party}
use Rattle.channel_model.specs.declared.standing.Standing.{Standing}
use Rattle.channel_model.specs.declared.standing.Receiver.{Receiver}
use Rattle.channel_model.specs.declared.standing.Resolution.{Resolution}
use Rattle.channel_model.specs.declared.standing.Resolution.TheVariants as resolved
use Rattle.channel_model.specs.Channels.{Shape, State, Channel, Wait, start, same_wait}
use Rattle.channel_model.specs.Needs.{Needs, HasPlace, MayName, JoinsWait, MaySettle, began_by_select}
use Rattle.channel_model.specs.Outcomes.{IsOutcome}
use Rattle.channel_model.specs.Laws.{IsStandingAt, ReceiversStand}
use Rattle.channel_model.proofs.Waits.{same_wait-eq}
use Rattle.channel_model.proofs.Placed.{Placed}
use Rattle.channel_model.proofs.Sound.{Sound, sound_start, sound_step, closed_keeps}
use Rattle.channel_model.proofs.EveryAct.{after_keeps}
use Rattle.channel_model.specs.Effects.{resolved_wait, name_clause, settled_wait, put_wait, after, resolve, resolve_first, resolve_holder, resolve_offer, remove_first, with_queue, put_channel, admitted, holder_at}
use Rattle.channel_model.specs.Histories.{replay, replay_from, LegalFrom, Legal, acts_of}
use Rattle.script_laws.proofs.DonePlacesAsked.{places_on, ends_closed}

-- ---- a place is given out by an act on the channel

NextOr : ℕ → Act → State → State → Type 0
NextOr c act s t = ((t.channels c).next ≡ (s.channels c).next) ⊎ (places_on c act ≡ true)

put_next : (c d : ℕ) (ch : Channel) (s : State) → ch.next ≡ (s.channels d).next → (put_channel d ch s.channels c).next ≡ (s.channels c).next
put_next c d ch s e = cond_both (d == c) ch (s.channels c) (λ x. x.next ≡ (s.channels c).next)
    (λ f. e ∙ ap (λ n. (s.channels n).next) (eqb-true d c f)) (λ f. refl)

put_or : (c d : ℕ) (ch : Channel) (s : State) → ((put_channel d ch s.channels c).next ≡ (s.channels c).next) ⊎ ((d == c) ≡ true)
put_or c d ch s = cond_both (d == c) ch (s.channels c) (λ x. (x.next ≡ (s.channels c).next) ⊎ ((d == c) ≡ true)) inr (λ f. inl refl)

first_next : (c : ℕ) (rs : List Receiver) (how : ℕ → Resolution) (s : State)
    → ((resolve_first rs how s).channels c).next ≡ (s.channels c).next
first_next c [] how s = refl
first_next c (r ∷ rs) how s = refl

holder_next : (c : ℕ) (o : Option Party) (how : ℕ → Resolution) (s : State)
    → ((resolve_holder o how s).channels c).next ≡ (s.channels c).next
holder_next c None how s = refl
holder_next c (Some x) how s = refl

queue_next : (c d : ℕ) (os : List Standing) (s : State) → ((with_queue d os s).channels c).next ≡ (s.channels c).next
queue_next c d os s = put_next c d (record (s.channels d) { queue = os }) s refl

offer_next : (c d : ℕ) (q : List Standing) (how : ℕ → Resolution) (s : State)
    → ((resolve_offer d q how s).channels c).next ≡ (s.channels c).next
offer_next c d [] how s = refl
offer_next c d (o ∷ os) how s = holder_next c o.holder how (with_queue d os s) ∙ queue_next c d os s

removed_next : (c d : ℕ) (q : List Standing) (s : State) → ((remove_first d q s).channels c).next ≡ (s.channels c).next
removed_next c d [] s = refl
removed_next c d (o ∷ os) s = queue_next c d os s

act_next : (c : ℕ) (s : State) (who : ℕ) (act : Act) → NextOr c act s (after s who act)
unfolding NextOr
act_next c s who (Hand d p v) = inl (first_next c (s.channels d).receivers _ s)
act_next c s who (Put d p v) = put_or c d _ s
act_next c s who (Offer d p v w k) = put_or c d _ s
act_next c s who (Await d p w k) = put_or c d _ s
act_next c s who (Take d p v) = inl (offer_next c d (s.channels d).queue _ s)
act_next c s who (Admit d p) = inl (holder_next c (holder_at p (s.channels d).queue) _ (with_queue d (admitted p (s.channels d).queue) s)
    ∙ queue_next c d (admitted p (s.channels d).queue) s)
act_next c s who (Drop d p v) = inl (removed_next c d (s.channels d).queue s)
act_next c s who (Spurn d p v) = inl (queue_next c d _ s)
act_next c s who (Close d v) = inl (put_next c d _ s refl)
act_next c s who (Void d) = inl (put_next c d _ s refl)
act_next c s who (Drain d p v) = inl (offer_next c d (s.channels d).queue _ s)
act_next c s who (WakeClosed d p) = inl (first_next c (s.channels d).receivers _ s)
act_next c s who other = inl refl

own_act : (test : Act → Bool) (e : Entry) (es : List Entry) → test e.act ≡ true → list_any test (acts_of e.who (e ∷ es)) ≡ true
unfolding acts_of
own_act test e es h = ap (list_any test) (cond-true (e.who == e.who) (e.act ∷ acts_of e.who es) _ (eq-eqb e.who e.who refl))
    ∙ or_left (test e.act) _ h

later_act : (test : Act → Bool) (u : ℕ) (e : Entry) (es : List Entry) → list_any test (acts_of u es) ≡ true
    → list_any test (acts_of u (e ∷ es)) ≡ true
unfolding acts_of
later_act test u e es h = cond_both (e.who == u) (e.act ∷ acts_of u es) (acts_of u es) (λ l. list_any test l ≡ true)
    (λ f. or_right (test e.act) _ h) (λ f. h)

given_from : (c : ℕ) (s : State) (es : List Entry) → (((replay_from s es).channels c).next ≡ (s.channels c).next)
    ⊎ ((u : ℕ) × (list_any (places_on c) (acts_of u es) ≡ true))
unfolding replay_from NextOr
given_from c s [] = inl refl
given_from c s (e ∷ es) =
    ⊎_elim
    (λ same. ⊎_elim
    (λ now. inl (same ∙ now))
    (λ here. inr (e.who, own_act (places_on c) e es here))
    (act_next c s e.who e.act))
    (λ some. inr (some.0, later_act (places_on c) some.0 e es some.1))
    (given_from c (after s e.who e.act) es)

-- where a place of a channel was given out, somebody made that act
pub given_by : (c : ℕ) (history : List Entry) → 1 ≤ ((replay history).channels c).next → (u : ℕ)
    × (list_any (places_on c) (acts_of u history) ≡ true)
given_by c history h =
    ⊎_elim
    (λ none. let same : ((replay history).channels c).next ≡ 0 = none in absurd (omega (arith, h, same)))
    (λ some. some)
    (given_from c start history)

-- ---- a wait of one clause

-- a clause on this channel that the act names has the number 0
abbrev pub plain_at : ℕ → Act → Bool
plain_at c (Offer d q v w n) = not (d == c) || (n == 0)
plain_at c (Await d q w n) = not (d == c) || (n == 0)
plain_at c other = true

-- its clause is on this channel, and where it was resolved as closed the channel is closed
OneClause : ℕ → Bool → Option Wait → Type 0
OneClause c flag None = Unit {0}
OneClause c flag (Some x) = (x.clauses ≡ (0, c) ∷ []) × ((j u : ℕ) → x.resolved ≡ Some (resolved.Closed j u) → flag ≡ true)

same_clause : (c : ℕ) (flag now : Bool) (o : Option Wait) → (flag ≡ true → now ≡ true) → OneClause c flag o → OneClause c now o
unfolding OneClause
same_clause c flag now None f h = tt
same_clause c flag now (Some x) f h = (h.0, λ j u e. f (h.1 j u e))

abbrev is_closing : Resolution → Bool
is_closing (resolved.Closed j u) = true
is_closing other = false

how_closes : (how : Resolution) (j u : ℕ) → Some how ≡ Some (resolved.Closed j u) → is_closing how ≡ true
how_closes how j u e = let same : how ≡ resolved.Closed j u = same_Some _ _ e in ap is_closing same

resolved_clause : (c : ℕ) (flag now : Bool) (how : Resolution) (o : Option Wait) → (flag ≡ true → now ≡ true)
    → (is_closing how ≡ true → (x : Wait) → o ≡ Some x → x.clauses ≡ (0, c) ∷ [] → now ≡ true) → OneClause c flag o
    → OneClause c now (resolved_wait how o)
unfolding OneClause
resolved_clause c flag now how None f g h = tt
resolved_clause c flag now how (Some x) f g h = (h.0, λ j u e. g (how_closes how j u e) x refl h.0)

resolve_clause : (c : ℕ) (flag now : Bool) (how : Resolution) (w v : WaitId) (s : State) → (flag ≡ true → now ≡ true)
    → (is_closing how ≡ true → (x : Wait) → s.waits w ≡ Some x → x.clauses ≡ (0, c) ∷ [] → now ≡ true)
    → ((u : WaitId) → u.channel ≡ c → OneClause c flag (s.waits u)) → v.channel ≡ c → OneClause c now ((resolve w how s).waits v)
resolve_clause c flag now how w v s f g h e = cond_both (same_wait w v) (resolved_wait how (s.waits w)) (s.waits v) (OneClause c now)
    (λ t. resolved_clause c flag now how (s.waits w) f g (h w (ap (λ (u : WaitId). u.channel) (same_wait-eq w v t) ∙ e)))
    (λ t. same_clause c flag now (s.waits v) f (h v e))

not_closing : (c : ℕ) (now : Bool) (how : Resolution) (o : Option Wait) → is_closing how ≡ false → is_closing how ≡ true → (x : Wait)
    → o ≡ Some x → x.clauses ≡ (0, c) ∷ [] → now ≡ true
not_closing c now how o e f = absurd (both_ways (is_closing how) e f)

Ones : ℕ → State → Type 0
Ones c s = (v : WaitId) → v.channel ≡ c → OneClause c (is_some (s.channels c).closed) (s.waits v)

first_clause : (c d : ℕ) (now : Bool) (rs : List Receiver) (how : ℕ → Resolution) (s : State) (v : WaitId)
    → (is_some (s.channels c).closed ≡ true → now ≡ true) → ((k : ℕ) → is_closing (how k) ≡ false) → Ones c s → v.channel ≡ c
    → OneClause c now ((resolve_first rs how s).waits v)
unfolding Ones
first_clause c d now [] how s v f n h e = same_clause c (is_some (s.channels c).closed) now (s.waits v) f (h v e)
first_clause c d now (r ∷ rs) how s v f n h e = resolve_clause c (is_some (s.channels c).closed) now (how r.party.clause) r.party.wait v s f
    (not_closing c now (how r.party.clause) (s.waits r.party.wait) (n r.party.clause)) h e

holder_clause : (c : ℕ) (now : Bool) (o : Option Party) (how : ℕ → Resolution) (s : State) (v : WaitId) (flag : Bool)
    → (flag ≡ true → now ≡ true) → ((k : ℕ) → is_closing (how k) ≡ false) → ((u : WaitId) → u.channel ≡ c → OneClause c flag (s.waits u))
    → v.channel ≡ c → OneClause c now ((resolve_holder o how s).waits v)
holder_clause c now None how s v flag f n h e = same_clause c flag now (s.waits v) f (h v e)
holder_clause c now (Some p) how s v flag f n h e = resolve_clause c flag now (how p.clause) p.wait v s f
    (not_closing c now (how p.clause) (s.waits p.wait) (n p.clause)) h e

offer_clause : (c d : ℕ) (now : Bool) (q : List Standing) (how : ℕ → Resolution) (s : State) (v : WaitId)
    → (is_some (s.channels c).closed ≡ true → now ≡ true) → ((k : ℕ) → is_closing (how k) ≡ false) → Ones c s → v.channel ≡ c
    → OneClause c now ((resolve_offer d q how s).waits v)
unfolding Ones
offer_clause c d now [] how s v f n h e = same_clause c (is_some (s.channels c).closed) now (s.waits v) f (h v e)
offer_clause c d now (o ∷ os) how s v f n h e = holder_clause c now o.holder how (with_queue d os s) v (is_some (s.channels c).closed) f n h
    e

removed_clause : (c d : ℕ) (now : Bool) (q : List Standing) (s : State) (v : WaitId) → (is_some (s.channels c).closed ≡ true → now ≡ true)
    → Ones c s → v.channel ≡ c → OneClause c now ((remove_first d q s).waits v)
unfolding Ones
removed_clause c d now [] s v f h e = same_clause c (is_some (s.channels c).closed) now (s.waits v) f (h v e)
removed_clause c d now (o ∷ os) s v f h e = same_clause c (is_some (s.channels c).closed) now (s.waits v) f (h v e)

-- the first receiver is told of the close of its channel
woken_clause : (c d : ℕ) (now : Bool) (rs : List Receiver) (how : ℕ → Resolution) (s : State) (v : WaitId)
    → (is_some (s.channels c).closed ≡ true → now ≡ true) → ReceiversStand s.waits d rs → is_some (s.channels d).closed ≡ true → Ones c s
    → v.channel ≡ c → OneClause c now ((resolve_first rs how s).waits v)
unfolding Ones ReceiversStand
woken_clause c d now [] how s v f stand shut h e = same_clause c (is_some (s.channels c).closed) now (s.waits v) f (h v e)
woken_clause c d now (r ∷ rs) how s v f stand shut h e =
    resolve_clause c (is_some (s.channels c).closed) now (how r.party.clause) r.party.wait v s f
    (λ closing x is one. f (subst (λ n. is_some (s.channels n).closed ≡ true) (there x one (subst (IsStandingAt d) is stand.0)) shut)) h
    e
  where
    there : (x : Wait) → x.clauses ≡ (0, c) ∷ [] → IsStandingAt d (Some x) → d ≡ c
    there x one at = sym (eqb-true c d (⊎_elim (λ g. g) (λ g. cc)
        (or_cases (c == d) false (sym (ap (λ l. list_any (λ (y : ℕ × ℕ). y.1 == d) l) one) ∙ at.1))))

-- a clause is named
named_clause : (c : ℕ) (now : Bool) (s : State) (who k d p places : ℕ) (w v : WaitId) → (is_some (s.channels c).closed ≡ true → now ≡ true)
    → Placed s → HasPlace places p (s.channels d) → MayName who k d p w s → (not (d == c) || (k == 0)) ≡ true → Ones c s → v.channel ≡ c
    → OneClause c now (put_wait w (name_clause who k d (s.waits w)) s.waits v)
unfolding Ones OneClause
named_clause c now s who k d p places w v f placed place may plain h e =
    cond_both (same_wait w v) (name_clause who k d (s.waits w)) (s.waits v) (OneClause c now)
    (λ t. let at = ap (λ (u : WaitId). u.channel) (same_wait-eq w v t) ∙ e
    in on_c at (same_wait w (record { channel = d; place = p })) refl may (h w at))
    (λ t. same_clause c (is_some (s.channels c).closed) now (s.waits v) f (h v e))
  where
    on_c : w.channel ≡ c → (b : Bool) → same_wait w (record { channel = d; place = p }) ≡ b
        → MatchBool b (k ≤ 7) (JoinsWait who k d (s.waits w)) → OneClause c (is_some (s.channels c).closed) (s.waits w)
        → OneClause c now (name_clause who k d (s.waits w))
    on_c at true t m one =
        let is : w ≡ record { channel = d; place = p } = same_wait-eq w (record { channel = d; place = p }) t in
        let d_is : d ≡ c = sym (ap (λ (u : WaitId). u.channel) is) ∙ at in
        let fresh : s.waits w ≡ None = placed w (subst (λ (u : WaitId). (s.channels u.channel).next ≤ u.place) (sym is)
        (let first = place.first in omega (arith, first))) in
        let none : (k == 0) ≡ true = ⊎_elim (λ g. absurd (both_ways (d == c) (not-true (d == c) g) (eq-eqb d c d_is))) (λ g. g)
        (or_cases _ _ plain) in
        subst (λ o. OneClause c now (name_clause who k d o)) (sym fresh) (
          ap (λ n. (n, d) ∷ []) (eqb-true k 0 none)
              ∙ ap (λ n. (0, n) ∷ []) d_is,
          λ j u r. cc,
        )
    on_c at false t m one = of_wait (s.waits w) m one
      where
        of_wait : (o : Option Wait) → JoinsWait who k d o → OneClause c (is_some (s.channels c).closed) o
            → OneClause c now (name_clause who k d o)
        of_wait None m one = absurd m
        of_wait (Some x) m one = absurd (let select : began_by_select ((0, c) ∷ []) ≡ true = ap began_by_select (sym one.0) ∙ m.select
            in cc)

settled_clause : (c : ℕ) (flag now : Bool) (outcome : Settled) (o : Option Wait) → (flag ≡ true → now ≡ true) → OneClause c flag o
    → OneClause c now (settled_wait outcome o)
unfolding OneClause
settled_clause c flag now outcome None f h = tt
settled_clause c flag now outcome (Some x) f h = (h.0, λ j u e. f (h.1 j u e))

-- a close lasts
closed_step : (shape : Shape) (s : State) (who : ℕ) (act : Act) (c : ℕ) → Needs shape s who act → is_some (s.channels c).closed ≡ true
    → is_some ((after s who act).channels c).closed ≡ true
closed_step shape s who act c n e = of_value (s.channels c).closed refl e
  where
    of_value : (o : Option ℕ) → (s.channels c).closed ≡ o → is_some o ≡ true → is_some ((after s who act).channels c).closed ≡ true
    of_value None f g = cc
    of_value (Some v) f g = ap is_some (after_keeps shape (λ d ch. ch.closed ≡ Some v) (closed_keeps shape v) s who act c n f)

ones_step : (shape : Shape) (c : ℕ) (s : State) (who : ℕ) (act : Act) → Sound shape s → Needs shape s who act → plain_at c act ≡ true
    → Ones c s → Ones c (after s who act)
unfolding Ones
ones_step shape c s who (Hand d p v) good n plain h = λ w e. first_clause c d _ (s.channels d).receivers _ s w
    (closed_step shape s who (Hand d p v) c n) (λ k. refl) h e
ones_step shape c s who (Offer d p v u k) good n plain h =
    λ w e. named_clause c _ s who k d p _ u w (closed_step shape s who (Offer d p v u k) c n) good.placed n.1 n.4 plain h e
ones_step shape c s who (Await d p u k) good n plain h =
    λ w e. named_clause c _ s who k d p _ u w (closed_step shape s who (Await d p u k) c n) good.placed n.1 n.3 plain h e
ones_step shape c s who (Take d p v) good n plain h = λ w e. offer_clause c d _ (s.channels d).queue _ s w
    (closed_step shape s who (Take d p v) c n) (λ k. refl) h e
ones_step shape c s who (Admit d p) good n plain h = λ w e. holder_clause c _ (holder_at p (s.channels d).queue) _
    (with_queue d (admitted p (s.channels d).queue) s) w (is_some (s.channels c).closed) (closed_step shape s who (Admit d p) c n)
    (λ k. refl) h e
ones_step shape c s who (Drop d p v) good n plain h = λ w e. removed_clause c d _ (s.channels d).queue s w
    (closed_step shape s who (Drop d p v) c n) h e
ones_step shape c s who (Drain d p v) good n plain h = λ w e. offer_clause c d _ (s.channels d).queue _ s w
    (closed_step shape s who (Drain d p v) c n) (λ k. refl) h e
ones_step shape c s who (WakeClosed d p) good n plain h =
    λ w e. woken_clause c d _ (s.channels d).receivers _ s w (closed_step shape s who (WakeClosed d p) c n) (good.stand d).receivers n.1 h e
ones_step shape c s who (Withdraw u why) good n plain h =
    λ w e. resolve_clause c (is_some (s.channels c).closed) _ (resolved.Withdrawn why) u w s (closed_step shape s who (Withdraw u why) c n)
    (not_closing c _ (resolved.Withdrawn why) (s.waits u) refl) h e
ones_step shape c s who (Settle u outcome) good n plain h =
    λ w e. cond_both (same_wait u w) (settled_wait outcome (s.waits u)) (s.waits w) (OneClause c (is_some (s.channels c).closed))
    (λ t. settled_clause c (is_some (s.channels c).closed) (is_some (s.channels c).closed) outcome (s.waits u) (λ f. f)
    (h u (ap (λ (z : WaitId). z.channel) (same_wait-eq u w t) ∙ e))) (λ t. h w e)
ones_step shape c s who other good n plain h = λ w e. same_clause c (is_some (s.channels c).closed) _ (s.waits w)
    (closed_step shape s who other c n) (h w e)

start_ones : (c : ℕ) → Ones c start
unfolding Ones OneClause
start_ones c = λ v e. tt

-- a wait that ends as closed has its channel closed
settles_there : (c : ℕ) (s : State) (who : ℕ) (act : Act) (shape : Shape) → Needs shape s who act → Ones c s → ends_closed c act ≡ true
    → is_some (s.channels c).closed ≡ true
unfolding Ones OneClause
settles_there c s who (Settle w (settled.Closed n v)) shape need h e = of_wait (s.waits w) need (h w (eqb-true w.channel c e))
  where
    of_wait : (o : Option Wait) → MaySettle who (settled.Closed n v) o → OneClause c (is_some (s.channels c).closed) o
        → is_some (s.channels c).closed ≡ true
    of_wait None m one = absurd m
    of_wait (Some x) m one = by_how x.resolved refl m.2
      where
        by_how : (r : Option Resolution) → x.resolved ≡ r → IsOutcome (settled.Closed n v) r → is_some (s.channels c).closed ≡ true
        by_how None f o = absurd o
        by_how (Some how) f o = one.1 n v (f ∙ ap (λ (z : Resolution). Some z) o)
settles_there c s who other shape need h e = cc

closed_from : (shape : Shape) (c : ℕ) (s : State) (es : List Entry) → LegalFrom shape s es → is_some (s.channels c).closed ≡ true
    → is_some ((replay_from s es).channels c).closed ≡ true
unfolding LegalFrom replay_from
closed_from shape c s [] l h = h
closed_from shape c s (e ∷ es) l h = closed_from shape c (after s e.who e.act) es l.1 (closed_step shape s e.who e.act c l.0 h)

ended_from : (shape : Shape) (c k : ℕ) (s : State) (es : List Entry) → Sound shape s → LegalFrom shape s es → Ones c s
    → list_all (λ (e : Entry). plain_at c e.act) es ≡ true → list_any (ends_closed c) (acts_of k es) ≡ true
    → is_some ((replay_from s es).channels c).closed ≡ true
unfolding LegalFrom replay_from acts_of
ended_from shape c k s [] good l h plain e = cc
ended_from shape c k s (x ∷ es) good l h plain e =
    let two = both_true (plain_at c x.act) (list_all (λ (e : Entry). plain_at c e.act) es) plain in
    let more : list_any (ends_closed c) (acts_of k es) ≡ true → is_some ((replay_from (after s x.who x.act) es).channels c).closed ≡ true =
    ended_from shape c k (after s x.who x.act) es (sound_step shape s x.who x.act l.0 good) l.1
    (ones_step shape c s x.who x.act good l.0 two.0 h) two.1 in
    cond_both (x.who == k) (x.act ∷ acts_of k es) (acts_of k es)
    (λ acts. list_any (ends_closed c) acts ≡ true → is_some ((replay_from (after s x.who x.act) es).channels c).closed ≡ true)
    (λ own f. ⊎_elim (λ g. later (settles_there c s x.who x.act shape l.0 h g)) more (or_cases _ _ f)) (λ other. more) e
  where
    later : is_some (s.channels c).closed ≡ true → is_some ((replay_from (after s x.who x.act) es).channels c).closed ≡ true
    later f = closed_from shape c (after s x.who x.act) es l.1 (closed_step shape s x.who x.act c l.0 f)

-- where a coroutine's wait at a channel of single clauses ended as closed, the channel is closed
pub ended_closed : (shape : Shape) (c k : ℕ) (history : List Entry) → Legal shape history
    → list_all (λ (e : Entry). plain_at c e.act) history ≡ true → list_any (ends_closed c) (acts_of k history) ≡ true
    → is_some ((replay history).channels c).closed ≡ true
ended_closed shape c k history l plain e = ended_from shape c k start history (sound_start shape) l (start_ones c) plain e

-- ---- acts of all, and of each

own_all : (test : Act → Bool) (e : Entry) (es : List Entry) → list_all test (acts_of e.who (e ∷ es)) ≡ true → test e.act ≡ true
unfolding acts_of
own_all test e es h = (both_true (test e.act) (list_all test (acts_of e.who es))
    (sym (ap (list_all test) (cond-true (e.who == e.who) (e.act ∷ acts_of e.who es) (acts_of e.who es) (eq-eqb e.who e.who refl))) ∙ h)).0

later_all : (test : Act → Bool) (u : ℕ) (e : Entry) (es : List Entry) → list_all test (acts_of u (e ∷ es)) ≡ true
    → list_all test (acts_of u es) ≡ true
unfolding acts_of
later_all test u e es h = cond_both (e.who == u) (e.act ∷ acts_of u es) (acts_of u es)
    (λ l. list_all test l ≡ true → list_all test (acts_of u es) ≡ true) (λ f g. (both_true (test e.act) _ g).1) (λ f g. g) h

pub all_from_each : (test : Act → Bool) (es : List Entry) → ((u : ℕ) → list_all test (acts_of u es) ≡ true)
    → list_all (λ (e : Entry). test e.act) es ≡ true
all_from_each test [] h = refl
all_from_each test (e ∷ es) h = and_from (test e.act) (list_all (λ (e : Entry). test e.act) es) (own_all test e es (h e.who))
    (all_from_each test es (λ u. later_all test u e es (h u)))
