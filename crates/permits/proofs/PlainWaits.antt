-- A wait on the channel, of one who uses permits there, is that of a plain receiver: it holds no offer, and is neither taken nor kept.
use Rattle.std.specs.Prelude.{◌≡◌, ◌⊎◌, ℕ, ◌+◌, ◌≤◌, ◌==◌, Bool, true, false, not, ◌||◌, cond, List, [], ◌∷◌, ◌++◌, filter, Option, Some, None, refl, if◌then◌else◌, MatchBool}
use Rattle.std.specs.List.{list_all}
use Rattle.std.proofs.Common.{sym, ap, ◌∙◌, subst, arith, inl, inr, ⊎_elim}
use Rattle.std.proofs.lemmas.Bool.{eqb-true, true≢false}
use Rattle.co_base.specs.declared.names.WaitId.{WaitId}
use Rattle.channel_model.specs.declared.acts.Act.{Act}
use Rattle.channel_model.specs.declared.acts.Act.TheVariants.{Hand, Put, Offer, Await, Take, Admit, Drop, Spurn, Close, Void, Drain, WakeClosed, Withdraw, Settle}
use Rattle.channel_model.specs.declared.acts.Entry.{Entry}
use Rattle.channel_model.specs.declared.acts.Settled.{Settled}
use Rattle.channel_model.specs.declared.acts.Settled.TheVariants as settled
use Rattle.channel_model.specs.declared.standing.Party.{Party}
use Rattle.channel_model.specs.declared.standing.Standing.{Standing}
use Rattle.channel_model.specs.declared.standing.Receiver.{Receiver}
use Rattle.channel_model.specs.declared.standing.Resolution.{Resolution}
use Rattle.channel_model.specs.declared.standing.Resolution.TheVariants as resolved
use Rattle.channel_model.specs.Answers.{IsOwnWait, IsReadyWait, outcome_at, outcome_of_some}
use Rattle.channel_model.specs.Channels.{Shape, State, Channel, Wait, start, same_wait, places_at}
use Rattle.channel_model.specs.Effects.{after, resolve, resolve_first, resolve_holder, resolve_offer, remove_first, with_queue, put_channel, put_wait, resolved_wait, name_clause, settled_wait, admitted, holder_at, is_open, is_held_by, place_offer, place_receiver, is_elsewhere, spurned}
use Rattle.channel_model.specs.Needs.{Needs, HasPlace, MayName, JoinsWait, began_by_select}
use Rattle.channel_model.specs.Histories.{replay, replay_from, Legal, LegalFrom, acts_of}
use Rattle.channel_model.specs.Laws.{how_many, IsStandingAt, HolderStands, OffersStand, AllStandOpen}
use Rattle.channel_model.proofs.Waits.{same_wait-eq, same_wait-refl}
use Rattle.channel_model.proofs.Placed.{Placed, placed_after, start_placed, same_number}
use Rattle.channel_model.proofs.OpenWaits.{after_open, start_open}
use Rattle.channel_model.proofs.Apart.{filtered_less, how_many_push, admitted_less}
use Rattle.channel_model.proofs.Elements.{all_first, all_rest}
use Rattle.permits.specs.Parts.{is_permit_act}
use Rattle.permits.proofs.PartsGo.{one_true, one_false}

-- such a wait ends as handed an element, as closed, or as withdrawn
abbrev AwaitEnds : Option Resolution → Type 0
AwaitEnds None = Unit {0}
AwaitEnds (Some (resolved.Handed k v)) = Unit {0}
AwaitEnds (Some (resolved.Taken k)) = ⊥
AwaitEnds (Some (resolved.Admitted k)) = ⊥
AwaitEnds (Some (resolved.Closed k v)) = Unit {0}
AwaitEnds (Some (resolved.Withdrawn why)) = Unit {0}
AwaitEnds (Some resolved.Voided) = ⊥

-- where the wait is who's, it is such a one, with one plain clause
abbrev IsReceiver : ℕ → ℕ → Option Wait → Type 0
IsReceiver who c None = Unit {0}
IsReceiver who c (Some x) = x.owner ≡ who → (x.clauses ≡ (0, c) ∷ []) × AwaitEnds x.resolved

-- how many offers the wait holds at a channel
abbrev holds_at : WaitId → Channel → ℕ
holds_at w ch = how_many (λ (o : Standing). is_held_by w o.holder) ch.queue

record Receives (who : ℕ) (w : WaitId) (s : State) : Type 0 where
  ends : IsReceiver who w.channel (s.waits w)
  none : IsOwnWait who (s.waits w) → (d : ℕ) → holds_at w (s.channels d) ≡ 0

zero_still : (n m : ℕ) → n ≡ 0 → m ≤ n → m ≡ 0
zero_still n m e le = omega arith

-- ---- parts of the effects

-- the wait may be resolved so
abbrev MayEnd : ℕ → WaitId → WaitId → Resolution → State → Type 0
MayEnd who w v how s = v ≡ w → IsOwnWait who (s.waits w) → AwaitEnds (Some how)

own_resolved : (who : ℕ) (how : Resolution) (x : Option Wait) → IsOwnWait who (resolved_wait how x) → IsOwnWait who x
own_resolved who how None h = h
own_resolved who how (Some x) h = h

resolved_ends : (who c : ℕ) (how : Resolution) (x : Option Wait) → (IsOwnWait who x → AwaitEnds (Some how)) → IsReceiver who c x
    → IsReceiver who c (resolved_wait how x)
resolved_ends who c how None f h = h
resolved_ends who c how (Some x) f h = λ o. ((h o).0, f o)

resolve_receives : (who : ℕ) (w v : WaitId) (how : Resolution) (s : State) → MayEnd who w v how s → Receives who w s
    → Receives who w (resolve v how s)
resolve_receives who w v how s f h = record {
  ends = by_test (same_wait v w) refl;
  none = λ o d. zero_still _ _ (h.none (own (same_wait v w) refl o) d)
      (filtered_less (λ (x : Standing). is_held_by w x.holder) (λ (x : Standing). not (is_held_by v x.holder)) (s.channels d).queue);
}
  where
    by_test : (b : Bool) → same_wait v w ≡ b → IsReceiver who w.channel (if b then resolved_wait how (s.waits v) else s.waits w)
    by_test true t =
        let e : v ≡ w = same_wait-eq v w t in
        subst (λ u. IsReceiver who w.channel (resolved_wait how (s.waits u))) (sym e)
        (resolved_ends who w.channel how (s.waits w) (f e) h.ends)
    by_test false t = h.ends

    own : (b : Bool) → same_wait v w ≡ b → IsOwnWait who (if b then resolved_wait how (s.waits v) else s.waits w)
        → IsOwnWait who (s.waits w)
    own true t o = let e : v ≡ w = same_wait-eq v w t in own_resolved who how (s.waits w)
        (subst (λ u. IsOwnWait who (resolved_wait how (s.waits u))) e o)
    own false t o = o

-- a channel is put that holds no more offers of the wait
put_receives : (who : ℕ) (w : WaitId) (c : ℕ) (ch : Channel) (s : State) → holds_at w ch ≤ holds_at w (s.channels c) → Receives who w s
    → Receives who w (record s { channels = put_channel c ch s.channels })
put_receives who w c ch s le h = record { ends = h.ends; none = λ o d. by_test d (c == d) (h.none o d) (h.none o c) }
  where
    by_test : (d : ℕ) (b : Bool) → holds_at w (s.channels d) ≡ 0 → holds_at w (s.channels c) ≡ 0
        → holds_at w (if b then ch else s.channels d) ≡ 0
    by_test d true e f = zero_still _ _ f le
    by_test d false e f = e

first_receives : (who : ℕ) (w : WaitId) (rs : List Receiver) (how : ℕ → Resolution) (s : State) → ((k : ℕ) → AwaitEnds (Some (how k)))
    → Receives who w s → Receives who w (resolve_first rs how s)
first_receives who w [] how s f h = h
first_receives who w (r ∷ rs) how s f h = resolve_receives who w r.party.wait (how r.party.clause) s (λ e o. f r.party.clause) h

holder_receives : (who : ℕ) (w : WaitId) (p : Option Party) (how : ℕ → Resolution) (s : State)
    → ((x : Party) → p ≡ Some x → x.wait ≡ w → IsOwnWait who (s.waits w) → ⊥) → Receives who w s → Receives who w (resolve_holder p how s)
holder_receives who w None how s f h = h
holder_receives who w (Some p) how s f h = resolve_receives who w p.wait (how p.clause) s (λ e o. absurd (f p refl e o)) h

-- an offer that is held counts
held_counts : (w : WaitId) (o : Standing) (os : List Standing) (p : Party) → o.holder ≡ Some p → p.wait ≡ w
    → how_many (λ (x : Standing). is_held_by w x.holder) (o ∷ os) ≡ 0 → ⊥
held_counts w o os p e is z =
    let a : is_held_by w o.holder ≡ true = ap (is_held_by w) e ∙ ap (same_wait w) is ∙ same_wait-refl w in
    let b = one_true (is_held_by w o.holder) a in
    let y : cond (is_held_by w o.holder) 1 0 + how_many (λ (x : Standing). is_held_by w x.holder) os ≡ 0 = z in
    omega (arith, b, y)

offer_receives : (who : ℕ) (w : WaitId) (c : ℕ) (q : List Standing) (how : ℕ → Resolution) (s : State) → (s.channels c).queue ≡ q
    → Receives who w s → Receives who w (resolve_offer c q how s)
offer_receives who w c [] how s e h = h
offer_receives who w c (o ∷ os) how s e h =
    let f = put_receives who w c (record (s.channels c) { queue = os }) s
    (let k : holds_at w (s.channels c) ≡ how_many (λ (x : Standing). is_held_by w x.holder) (o ∷ os) =
    ap (how_many (λ (x : Standing). is_held_by w x.holder)) e in omega arith) h in
    holder_receives who w o.holder how (with_queue c os s)
    (λ p is at own. held_counts w o os p is at (ap (how_many (λ (x : Standing). is_held_by w x.holder)) (sym e) ∙ h.none own c)) f

removed_receives : (who : ℕ) (w : WaitId) (c : ℕ) (q : List Standing) (s : State) → (s.channels c).queue ≡ q → Receives who w s
    → Receives who w (remove_first c q s)
removed_receives who w c [] s e h = h
removed_receives who w c (o ∷ os) s e h = put_receives who w c (record (s.channels c) { queue = os }) s
    (let k : holds_at w (s.channels c) ≡ how_many (λ (x : Standing). is_held_by w x.holder) (o ∷ os) =
    ap (how_many (λ (x : Standing). is_held_by w x.holder)) e in omega arith) h

fewer_held : (w : WaitId) (test : Standing → Bool) (os : List Standing)
    → how_many (λ (o : Standing). is_held_by w o.holder) (filter test os) ≤ how_many (λ (o : Standing). is_held_by w o.holder) os
fewer_held w test [] = omega arith
fewer_held w test (o ∷ os) = by_test (test o) (fewer_held w test os)
  where
    by_test : (b : Bool) → how_many (λ (x : Standing). is_held_by w x.holder) (filter test os) ≤ how_many
        (λ (x : Standing). is_held_by w x.holder) os → how_many (λ (x : Standing). is_held_by w x.holder)
        (if b then o ∷ filter test os else filter test os) ≤ how_many (λ (x : Standing). is_held_by w x.holder) (o ∷ os)
    by_test true h = omega arith
    by_test false h = omega arith

-- the holder at a place counts
holder_counts : (w : WaitId) (p : ℕ) (os : List Standing) (x : Party) → holder_at p os ≡ Some x → x.wait ≡ w
    → how_many (λ (o : Standing). is_held_by w o.holder) os ≡ 0 → ⊥
holder_counts w p [] x e is z = cc
holder_counts w p (o ∷ os) x e is z = by_test (o.place == p) e (λ f. holder_counts w p os x f is (let k = z in omega arith))
  where
    by_test : (b : Bool) → (if b then o.holder else holder_at p os) ≡ Some x → (holder_at p os ≡ Some x → ⊥) → ⊥
    by_test true f more = held_counts w o os x f is z
    by_test false f more = more f

-- ---- a clause is named

absent_none : (waits : WaitId → Option Wait) (w : WaitId) (d : ℕ) (os : List Standing) → waits w ≡ None → OffersStand waits d os
    → how_many (λ (o : Standing). is_held_by w o.holder) os ≡ 0
unfolding OffersStand
absent_none waits w d [] e h = refl
absent_none waits w d (o ∷ os) e h = by_holder o.holder h.0 (absent_none waits w d os e h.1)
  where
    gone : (x : Option Wait) → x ≡ None → IsStandingAt d x → ⊥
    gone None e k = k
    gone (Some x) e k = cc

    by_wait : (p : Party) (b : Bool) → same_wait w p.wait ≡ b → IsStandingAt d (waits p.wait)
        → how_many (λ (x : Standing). is_held_by w x.holder) os ≡ 0 → cond b 1 0 + how_many (λ (x : Standing). is_held_by w x.holder) os ≡ 0
    by_wait p true t k z = absurd (gone (waits w) e (subst (λ u. IsStandingAt d (waits u)) (sym (same_wait-eq w p.wait t)) k))
    by_wait p false t k z = omega (arith, z)

    by_holder : (p : Option Party) → HolderStands waits d p → how_many (λ (x : Standing). is_held_by w x.holder) os ≡ 0
        → cond (is_held_by w p) 1 0 + how_many (λ (x : Standing). is_held_by w x.holder) os ≡ 0
    by_holder None k z = omega (arith, z)
    by_holder (Some p) k z = by_wait p (same_wait w p.wait) refl k z

offer_holds : (b : Bool) (w : WaitId) (o : Standing) (ch : Channel) → is_held_by w o.holder ≡ false
    → holds_at w (place_offer b o ch) ≤ holds_at w ch
offer_holds true w o ch e =
    let k = how_many_push (λ (x : Standing). is_held_by w x.holder) ch.queue o in
    let z = one_false (is_held_by w o.holder) e in
    omega (arith, k, z)
offer_holds false w o ch e = omega arith

receiver_holds : (b : Bool) (w : WaitId) (r : Receiver) (ch : Channel) → holds_at w (place_receiver b r ch) ≤ holds_at w ch
receiver_holds true w r ch = omega arith
receiver_holds false w r ch = omega arith

other_way : (v w : WaitId) → same_wait v w ≡ false → same_wait w v ≡ false
other_way v w e = by_test (same_wait w v) refl
  where
    by_test : (b : Bool) → same_wait w v ≡ b → b ≡ false
    by_test true t = absurd (true≢false (sym (ap (λ u. same_wait v u) (sym (sym (same_wait-eq w v t))) ∙ same_wait-refl v) ∙ e))
    by_test false t = refl

-- a wait begins, or a select's wait is joined
named_how : (n k d p places : ℕ) (v : WaitId) (s : State) → Placed s → HasPlace places p (s.channels d) → MayName n k d p v s
    → ((v ≡ record { channel = d; place = p }) × (s.waits v ≡ None)) ⊎ JoinsWait n k d (s.waits v)
named_how n k d p places v s l place may = by_test (same_wait v (record { channel = d; place = p })) refl may
  where
    by_test : (b : Bool) → same_wait v (record { channel = d; place = p }) ≡ b → MatchBool b (k ≤ 7) (JoinsWait n k d (s.waits v))
        → ((v ≡ record { channel = d; place = p }) × (s.waits v ≡ None)) ⊎ JoinsWait n k d (s.waits v)
    by_test true e m =
        let is : v ≡ record { channel = d; place = p } = same_wait-eq v _ e in
        inl (is, l v (subst (λ (u : WaitId). (s.channels u.channel).next ≤ u.place) (sym is) (let f = place.first in omega arith)))
    by_test false e m = inr m

abbrev named_state : ℕ → ℕ → ℕ → WaitId → Channel → State → State
named_state n k d v ch s = record {
  channels = put_channel d ch s.channels;
  waits = put_wait v (name_clause n k d (s.waits v)) s.waits;
  stood = s.stood;
}

-- the other wait is named
named_apart : (who n k d : ℕ) (v w : WaitId) (ch : Channel) (s : State) → same_wait v w ≡ false → holds_at w ch ≤ holds_at w (s.channels d)
    → Receives who w s → Receives who w (named_state n k d v ch s)
named_apart who n k d v w ch s t le h =
    let f = put_receives who w d ch s le h in
    let is : put_wait v (name_clause n k d (s.waits v)) s.waits w ≡ s.waits w =
    ap (λ b. if b then name_clause n k d (s.waits v) else s.waits w) t in
    record { ends = subst (IsReceiver who w.channel) (sym is) f.ends; none = λ o e. f.none (subst (IsOwnWait who) is o) e }

-- this one is named, where one's own acts do so by a plain receive alone
named_this : (who n k d p places : ℕ) (v w : WaitId) (ch : Channel) (s : State) → v ≡ w → Placed s → AllStandOpen s
    → HasPlace places p (s.channels d) → MayName n k d p v s
    → (n ≡ who → d ≡ w.channel → (k ≡ 0) × (holds_at w ch ≤ holds_at w (s.channels d)))
    → Receives who w s → Receives who w (named_state n k d v ch s)
named_this who n k d p places v w ch s e l st place may plain h =
    ⊎_elim (λ b. begins b.0 b.1) (λ j. joins j) (named_how n k d p places v s l place may)
  where
    is : put_wait v (name_clause n k d (s.waits v)) s.waits w ≡ name_clause n k d (s.waits w)
    is = ap (λ b. if b then name_clause n k d (s.waits v) else s.waits w) (ap (same_wait v) (sym e) ∙ same_wait-refl v)
        ∙ ap (λ u. name_clause n k d (s.waits u)) e

    begins : v ≡ record { channel = d; place = p } → s.waits v ≡ None → Receives who w (named_state n k d v ch s)
    begins at none =
        let here : d ≡ w.channel = ap (λ (u : WaitId). u.channel) (sym at ∙ e) in
        let gone : s.waits w ≡ None = ap s.waits (sym e) ∙ none in
        let now : put_wait v (name_clause n k d (s.waits v)) s.waits w ≡ name_clause n k d None = is ∙ ap (name_clause n k d) gone in
        record {
          ends = subst (IsReceiver who w.channel) (sym now) (λ o. (
            let q = plain o here in ap (λ j. (j, d) ∷ []) q.0
                ∙ ap (λ c. (0, c) ∷ []) here,
            tt,
          ));
          none = λ o c. (
              let own : n ≡ who = subst (IsOwnWait who) now o in
              by_test c (d == c) (absent_none s.waits w c (s.channels c).queue gone (st c).offers)
              (zero_still _ _ (absent_none s.waits w d (s.channels d).queue gone (st d).offers) (plain own here).1)
              );
        }
      where
        by_test : (c : ℕ) (b : Bool) → holds_at w (s.channels c) ≡ 0 → holds_at w ch ≡ 0 → holds_at w (if b then ch else s.channels c) ≡ 0
        by_test c true f g = g
        by_test c false f g = f

    not_select : (x : Wait) → x.clauses ≡ (0, w.channel) ∷ [] → began_by_select x.clauses ≡ true → ⊥
    not_select x f g = let q : began_by_select ((0, w.channel) ∷ []) ≡ true = ap began_by_select (sym f) ∙ g in cc

    joins : JoinsWait n k d (s.waits v) → Receives who w (named_state n k d v ch s)
    joins j = by_wait (s.waits w) refl (subst (λ u. JoinsWait n k d (s.waits u)) e j) h.ends
      where
        by_wait : (x : Option Wait) → s.waits w ≡ x → JoinsWait n k d x → IsReceiver who w.channel x
            → Receives who w (named_state n k d v ch s)
        by_wait None f m r = absurd m
        by_wait (Some x) f m r =
            let now : put_wait v (name_clause n k d (s.waits v)) s.waits w ≡ Some (record x { clauses = x.clauses ++ (k, d) ∷ [] }) = is
            ∙ ap (name_clause n k d) f in
            record {
              ends = subst (IsReceiver who w.channel) (sym now) (λ o. absurd (not_select x (r o).0 m.select));
              none = λ o c. absurd (not_select x (r (subst (IsOwnWait who) now o)).0 m.select);
            }

named_receives : (who n k d p places : ℕ) (v w : WaitId) (ch : Channel) (s : State) → Placed s → AllStandOpen s
    → HasPlace places p (s.channels d) → MayName n k d p v s → (same_wait v w ≡ false → holds_at w ch ≤ holds_at w (s.channels d))
    → (n ≡ who → d ≡ w.channel → (k ≡ 0) × (holds_at w ch ≤ holds_at w (s.channels d))) → Receives who w s
    → Receives who w (named_state n k d v ch s)
named_receives who n k d p places v w ch s l st place may other plain h = by_test (same_wait v w) refl
  where
    by_test : (b : Bool) → same_wait v w ≡ b → Receives who w (named_state n k d v ch s)
    by_test true t = named_this who n k d p places v w ch s (same_wait-eq v w t) l st place may plain h
    by_test false t = named_apart who n k d v w ch s t (other t) h

-- ---- the acts

settled_ends : (who c : ℕ) (outcome : Settled) (x : Option Wait) → IsReceiver who c x → IsReceiver who c (settled_wait outcome x)
settled_ends who c outcome None h = h
settled_ends who c outcome (Some x) h = h

own_settled : (who : ℕ) (outcome : Settled) (x : Option Wait) → IsOwnWait who (settled_wait outcome x) → IsOwnWait who x
own_settled who outcome None h = h
own_settled who outcome (Some x) h = h

settle_receives : (who : ℕ) (outcome : Settled) (v w : WaitId) (s : State) → Receives who w s
    → Receives who w (record s { waits = put_wait v (settled_wait outcome (s.waits v)) s.waits })
settle_receives who outcome v w s h = record { ends = by_test (same_wait v w) refl; none = λ o. h.none (own (same_wait v w) refl o) }
  where
    by_test : (b : Bool) → same_wait v w ≡ b → IsReceiver who w.channel (if b then settled_wait outcome (s.waits v) else s.waits w)
    by_test true t = subst (λ u. IsReceiver who w.channel (settled_wait outcome (s.waits u))) (sym (same_wait-eq v w t))
        (settled_ends who w.channel outcome (s.waits w) h.ends)
    by_test false t = h.ends

    own : (b : Bool) → same_wait v w ≡ b → IsOwnWait who (if b then settled_wait outcome (s.waits v) else s.waits w)
        → IsOwnWait who (s.waits w)
    own true t o = own_settled who outcome (s.waits w) (subst (λ u. IsOwnWait who (settled_wait outcome (s.waits u))) (same_wait-eq v w t)
        o)
    own false t o = o

not_true : (b : Bool) → b ≡ true → not b ≡ true → ⊥
not_true true e f = cc
not_true false e f = cc

plain_clause : (b : Bool) (k : ℕ) → b ≡ true → (not b || (k == 0)) ≡ true → k ≡ 0
plain_clause true k e f = eqb-true k 0 f
plain_clause false k e f = cc

same_as : (c d : ℕ) → d ≡ c → (d == c) ≡ true
same_as c d e = ap (λ x. x == c) e ∙ same_number c

-- how many stood at the placings is nothing to it
stood_receives : (who : ℕ) (w : WaitId) (channels : ℕ → Channel) (waits : WaitId → Option Wait) (stood stood' : ℕ → ℕ → ℕ)
    → Receives who w (record { channels = channels; waits = waits; stood = stood })
    → Receives who w (record { channels = channels; waits = waits; stood = stood' })
stood_receives who w channels waits stood stood' h = record { ends = h.ends; none = h.none }

after_receives : (shape : Shape) (who n : ℕ) (w : WaitId) (s : State) (act : Act) → Placed s → AllStandOpen s → Needs shape s n act
    → (n ≡ who → is_permit_act w.channel act ≡ true) → Receives who w s → Receives who w (after s n act)
after_receives shape who n w s (Hand d p v) l st m f h =
    first_receives who w (s.channels d).receivers (λ k. resolved.Handed k v) s (λ k. tt) h
after_receives shape who n w s (Put d p v) l st m f h =
    stood_receives who w _ _ _ _ (put_receives who w d _ s
    (offer_holds true w (record { place = p; value = v; holder = None }) (s.channels d) refl) h)
after_receives shape who n w s (Offer d p x v k) l st m f h =
    stood_receives who w _ _ _ _ (named_receives who n k d p (places_at shape d) v w _ s l st m.1 m.4
    (λ t. offer_holds (is_open (s.waits v)) w (record { place = p; value = x; holder = Some (record { wait = v; clause = k }) })
    (s.channels d) (other_way v w t))
    (λ own here. absurd (not_true (d == w.channel) (same_as w.channel d here) (f own)))
    h)
after_receives shape who n w s (Await d p v k) l st m f h =
    named_receives who n k d p (places_at shape d) v w _ s l st m.1 m.3
    (λ t. receiver_holds (is_open (s.waits v)) w (record { place = p; party = record { wait = v; clause = k } }) (s.channels d))
    (λ own here. (
      plain_clause (d == w.channel) k (same_as w.channel d here) (f own),
      receiver_holds (is_open (s.waits v)) w (record { place = p; party = record { wait = v; clause = k } }) (s.channels d),
    ))
    h
after_receives shape who n w s (Take d p v) l st m f h = offer_receives who w d (s.channels d).queue resolved.Taken s refl h
after_receives shape who n w s (Admit d p) l st m f h =
    let g = put_receives who w d (record (s.channels d) { queue = admitted p (s.channels d).queue }) s
    (admitted_less w p (s.channels d).queue) h in
    holder_receives who w (holder_at p (s.channels d).queue) resolved.Admitted _
    (λ x e is own. holder_counts w p (s.channels d).queue x e is (h.none own d)) g
after_receives shape who n w s (Drop d p v) l st m f h = removed_receives who w d (s.channels d).queue s refl h
after_receives shape who n w s (Spurn d p v) l st m f h =
    put_receives who w d (record (s.channels d) { queue = spurned p (s.channels d).queue }) s
    (let k = fewer_held w (is_elsewhere p) (s.channels d).queue in omega arith) h
after_receives shape who n w s (Close d v) l st m f h = put_receives who w d _ s (omega arith) h
after_receives shape who n w s (Void d) l st m f h = put_receives who w d _ s (omega arith) h
after_receives shape who n w s (Drain d p v) l st m f h = offer_receives who w d (s.channels d).queue (λ k. resolved.Voided) s refl h
after_receives shape who n w s (WakeClosed d p) l st m f h = first_receives who w (s.channels d).receivers _ s (λ k. tt) h
after_receives shape who n w s (Withdraw v why) l st m f h = resolve_receives who w v (resolved.Withdrawn why) s (λ e o. tt) h
after_receives shape who n w s (Settle v outcome) l st m f h = settle_receives who outcome v w s h

from_receives : (shape : Shape) (who : ℕ) (w : WaitId) (s : State) (es : List Entry) → LegalFrom shape s es
    → list_all (is_permit_act w.channel) (acts_of who es) ≡ true → Placed s → AllStandOpen s → Receives who w s
    → Receives who w (replay_from s es)
unfolding LegalFrom replay_from acts_of
from_receives shape who w s [] k q l st h = h
from_receives shape who w s (e ∷ es) k q l st h =
    let r = parts (e.who == who) refl q in
    from_receives shape who w (after s e.who e.act) es k.1 r.1 (placed_after shape s e.who e.act k.0 l) (after_open s e.who e.act st)
    (after_receives shape who e.who w s e.act l st k.0 r.0 h)
  where
    parts : (b : Bool) → (e.who == who) ≡ b → list_all (is_permit_act w.channel) (if b then e.act ∷ acts_of who es else acts_of who es) ≡
        true → (e.who ≡ who → is_permit_act w.channel e.act ≡ true) × (list_all (is_permit_act w.channel) (acts_of who es) ≡ true)
    parts true t z = (
      λ o. all_first (is_permit_act w.channel) e.act (acts_of who es) z,
      all_rest (is_permit_act w.channel) e.act (acts_of who es) z,
    )
    parts false t z = (λ o. absurd (true≢false (sym (same_as who e.who o) ∙ t)), z)

own_receives : (shape : Shape) (who : ℕ) (w : WaitId) (es : List Entry) → Legal shape es
    → list_all (is_permit_act w.channel) (acts_of who es) ≡ true → Receives who w (replay es)
own_receives shape who w es l q = from_receives shape who w start es l q start_placed start_open
    (record { ends = tt; none = λ o. absurd o })

-- ---- how it ends

-- for a Job that was not cancelled: handed, closed or withdrawn
not_sent : (how : Option Resolution) (k : ℕ) → AwaitEnds how → outcome_of_some false how ≡ Some (settled.Sent k) → ⊥
not_sent None k h e = cc
not_sent (Some (resolved.Handed j v)) k h e = cc
not_sent (Some (resolved.Taken j)) k h e = h
not_sent (Some (resolved.Admitted j)) k h e = h
not_sent (Some (resolved.Closed j v)) k h e = cc
not_sent (Some (resolved.Withdrawn why)) k h e = cc
not_sent (Some resolved.Voided) k h e = h

pub never_sent : (shape : Shape) (who : ℕ) (w : WaitId) (k : ℕ) (es : List Entry) → Legal shape es
    → list_all (is_permit_act w.channel) (acts_of who es) ≡ true → IsReadyWait who ((replay es).waits w)
    → outcome_at false ((replay es).waits w) ≡ Some (settled.Sent k) → ⊥
never_sent shape who w k es l q ready e = by_wait ((replay es).waits w) (own_receives shape who w es l q).ends ready e
  where
    by_wait : (x : Option Wait) → IsReceiver who w.channel x → IsReadyWait who x → outcome_at false x ≡ Some (settled.Sent k) → ⊥
    by_wait None r m f = m
    by_wait (Some x) r m f = not_sent x.resolved k (r m.0).1 f

-- nobody who was not cancelled gives an element up
delivered : (how : Option Resolution) (v : ℕ) → outcome_of_some false how ≡ Some (settled.Undelivered v) → ⊥
delivered None v e = cc
delivered (Some (resolved.Handed j u)) v e = cc
delivered (Some (resolved.Taken j)) v e = cc
delivered (Some (resolved.Admitted j)) v e = cc
delivered (Some (resolved.Closed j u)) v e = cc
delivered (Some (resolved.Withdrawn why)) v e = cc
delivered (Some resolved.Voided) v e = cc

pub never_undelivered : (x : Option Wait) (v : ℕ) → outcome_at false x ≡ Some (settled.Undelivered v) → ⊥
never_undelivered None v e = cc
never_undelivered (Some x) v e = delivered x.resolved v e
