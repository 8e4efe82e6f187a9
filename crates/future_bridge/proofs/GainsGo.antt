-- What one step of a receive gained, by the answers of the hub.
use Rattle.std.specs.Prelude.{◌≡◌, ◌⊎◌, ℕ, ◌==◌, ◌&&◌, Bool, true, false, List, [], ◌∷◌, ◌++◌, map, Option, Some, None, is_some, refl, if◌then◌else◌}
use Rattle.co_base.proofs.Orders.{order_same}
use mathlib.Core.List.{IsPrefix}
use Rattle.std.proofs.Common.{sym, ap, ◌∙◌, subst, append_assoc, ⊎_elim}
use Rattle.channel_model.specs.declared.acts.Act.{Act}
use Rattle.channel_model.specs.declared.acts.Act.TheVariants.{Await, Take, Admit, Settle}
use Rattle.channel_model.specs.declared.acts.Entry.{Entry}
use Rattle.channel_model.specs.declared.acts.Settled.{Settled}
use Rattle.channel_model.specs.declared.acts.Settled.TheVariants as settled
use Rattle.channel_model.specs.declared.standing.Resolution.{Resolution}
use Rattle.channel_model.specs.declared.floor.Got.TheVariants as got
use Rattle.channel_model.specs.declared.floor.WaitState.TheVariants as state
use Rattle.channel_model.specs.declared.acts.Kind.{Kind}
use Rattle.channel_model.specs.declared.acts.Kind.TheVariants as kinds
use Rattle.channel_model.specs.Channels.{Shape, Wait, kind_at, is_signal}
use Rattle.channel_model.specs.Histories.{replay, acts_of, Legal}
use Rattle.channel_model.specs.Floors.{Floor, Looked, Made}
use Rattle.channel_model.specs.Answers.{GotAnswer, TakenFrom, LookAnswer, SettleAnswer, IsUnsettledOf, IsReadyWait, IsReady, IsOwnWait, state_of_wait, state_of_parts}
use Rattle.channel_model.specs.ClauseSides.{AllAllowed, EndsAtClause}
use Rattle.channel_model.proofs.Histories.{Legal-prefix}
use Rattle.channel_model.proofs.Placed.{same_number}
use Rattle.channel_model.proofs.Spans.{nothing_more, added_none, added_looked, added_made, added_then}
use Rattle.channel_model.proofs.Others.{others_keep, between, unsettled_stays, ready_stays}
use Rattle.channel_model.proofs.Later.{closed_later}
use Rattle.channel_model.proofs.ResolvedAtClauses.{begun_at_clause, ends_at_clause}
use Rattle.call_meaning.specs.Seen.{SeenOnChannels}
use Rattle.channel_calls.specs.Calls.{IsLeftWaiting}
use Rattle.channel_calls.proofs.Begun.{receiver_waits}
use Rattle.scope_builders.proofs.NothingReceived.{never_taken}
use Rattle.future_bridge.specs.declared.steps.Step.TheVariants as step
use Rattle.future_bridge.specs.Gains.{received_by, received, is_receiving, all_receiving, Gained, wait_at, AwaitsLast, Stepped, AdmitsBelow, AdmitsAll}
use Rattle.future_bridge.proofs.DrainedWaits.{closed_drained}

-- ---- spans

pub received_append : (c : ℕ) (xs ys : List Act) → received c (xs ++ ys) ≡ received c xs ++ received c ys
unfolding received
received_append c [] ys = refl
received_append c (x ∷ xs) ys = ap (λ l. received_by c x ++ l) (received_append c xs ys)
    ∙ sym (append_assoc (received_by c x) (received c xs) (received c ys))

received_one : (c : ℕ) (act : Act) → received c (act ∷ []) ≡ received_by c act
unfolding received
received_one c act = nothing_more (received_by c act)

received_none : (c : ℕ) → received c [] ≡ []
unfolding received
received_none c = refl

receiving_append : (c : ℕ) (xs ys : List Act) → all_receiving c xs ≡ true → all_receiving c ys ≡ true → all_receiving c (xs ++ ys) ≡ true
unfolding all_receiving
receiving_append c [] ys h k = k
receiving_append c (x ∷ xs) ys h k = both (is_receiving c x) (all_receiving c xs) h (λ t. receiving_append c xs ys t k)
  where
    both : (a b : Bool) {d : Bool} → (a && b) ≡ true → (b ≡ true → d ≡ true) → (a && d) ≡ true
    both true b e f = f e
    both false b e f = e

receiving_one : (c : ℕ) (act : Act) → is_receiving c act ≡ true → all_receiving c (act ∷ []) ≡ true
unfolding all_receiving
receiving_one c act h = ap (λ b. b && true) h

receiving_none : (c : ℕ) → all_receiving c [] ≡ true
unfolding all_receiving
receiving_none c = refl

pub gained_then : (who c : ℕ) (vs ws : List ℕ) (a b d : Floor) → Gained who c vs a b → Gained who c ws b d → Gained who c (vs ++ ws) a d
gained_then who c vs ws a b d h k = record {
  acts = h.acts ++ k.acts;
  added = added_then who h.acts k.acts a b d h.added k.added;
  gets = received_append c h.acts k.acts ∙ ap (λ l. l ++ received c k.acts) h.gets ∙ ap (λ l. vs ++ l) k.gets;
  only = receiving_append c h.acts k.acts h.only k.only;
}

pub gained_none : (who c : ℕ) (a : Floor) → Gained who c [] a a
gained_none who c a = record {
  acts = [];
  added = added_none who a a (record { shape = refl; alone = refl; callers = refl; order = order_same _ }) refl;
  gets = received_none c;
  only = receiving_none c;
}

pub gained_looked : (who c : ℕ) (a d : Floor) → Looked who a d → Gained who c [] a d
gained_looked who c a d h = record { acts = []; added = added_looked who a d h; gets = received_none c; only = receiving_none c }

pub gained_made : (who c : ℕ) (act : Act) (vs : List ℕ) (a d : Floor) → Made who act a d → received_by c act ≡ vs
    → is_receiving c act ≡ true → Gained who c vs a d
gained_made who c act vs a d h e o = record {
  acts = act ∷ [];
  added = added_made who act a d h;
  gets = received_one c act ∙ e;
  only = receiving_one c act o;
}

admits_nothing : (c : ℕ) (places : List ℕ) → received c (map (λ q. Admit c q) places) ≡ []
unfolding received
admits_nothing c [] = refl
admits_nothing c (q ∷ qs) = admits_nothing c qs

admits_only : (c : ℕ) (places : List ℕ) → all_receiving c (map (λ q. Admit c q) places) ≡ true
unfolding all_receiving
admits_only c [] = refl
admits_only c (q ∷ qs) = ap (λ b. b && all_receiving c (map (λ p. Admit c p) qs)) (same_number c) ∙ admits_only c qs

pub gained_admits : (who c mark : ℕ) (a d : Floor) → AdmitsBelow who c mark a d → Gained who c [] a d
gained_admits who c mark a d h = record {
  acts = map (λ q. Admit c q) h.places;
  added = h.added;
  gets = admits_nothing c h.places;
  only = admits_only c h.places;
}

here : (c : ℕ) (x : List ℕ) → (if c == c then x else []) ≡ x
here c x = ap (λ b. if b then x else []) (same_number c)

-- ---- a receive

-- nothing is taken from a signal
no_signal : (who c p v : ℕ) (a b : Floor) → Legal b.shape b.seen → Made who (Take c p v) a b → is_signal (kind_at b.shape c) ≡ false
no_signal who c p v a b l m = by_kind (kind_at b.shape c) refl
  where
    by_kind : (k : Kind) → kind_at b.shape c ≡ k → is_signal k ≡ false
    by_kind kinds.Signal e = absurd (never_taken who c p v a b (ap (λ (s : Shape). kind_at s c) (sym m.same.shape) ∙ e) l m)
    by_kind other e = refl

pub taken_gains : (who c p v : ℕ) (t : _) (a b d : Floor) → Legal b.shape b.seen → TakenFrom who c p v t a b → AdmitsAll who c b d
    → Stepped None who c a d (step.Item v)
taken_gains who c p v t a b d l h k = (
  gained_then who c (v ∷ []) [] a b d (gained_made who c (Take c p v) (v ∷ []) a b h.made (here c (v ∷ [])) (same_number c))
      (gained_admits who c k.mark b d k.below),
  (p, b, added_made who (Take c p v) a b h.made, k),
  ap (λ (s : Shape). is_signal (kind_at s c)) k.below.added.same.shape ∙ no_signal who c p v a b l h.made,
)

-- what a tag sees of a floor, with an empty book
abbrev at_floor : ℕ → Floor → SeenOnChannels
at_floor who floor = record { who = who; floor = floor; items = [] }

pub waiting_gains : (who c p : ℕ) (a d : Floor) → Legal d.shape d.seen → GotAnswer who c a d (got.Waiting p)
    → Stepped None who c a d (step.Waits p)
waiting_gains who c p a d l m =
    let w = wait_at c p in
    let added = added_made who (Await c p w 0) a d m in
    let left : IsLeftWaiting w (Await c p w 0 ∷ []) (at_floor who a) (at_floor who d) = receiver_waits l m added refl in (
      gained_made who c (Await c p w 0) [] a d m refl (same_number c),
      record {
        last = record { earlier = acts_of who a.seen; last = added.mine; holds = left.holds };
        stood = record { moment = left.stood.moment; after = left.stood.after; before = left.stood.before; holds = left.stood.holds };
      },
      added,
    )

pub closed_gains : (who c x : ℕ) (a d : Floor) → GotAnswer who c a d (got.Closed x) → Stepped None who c a d (step.Ended x)
closed_gains who c x a d m =
    (gained_looked who c a d m.0.looked, record { closed = m.0.is_closed; drained = m.1 }, added_looked who a d m.0.looked)

pub spent_gains : (who c : ℕ) (a d : Floor) → GotAnswer who c a d got.Spent → Stepped None who c a d step.Spent
spent_gains who c a d m = (gained_looked who c a d m.0, m.1, added_looked who a d m.0)

-- ---- a look

pub unsettled_own : (who : ℕ) (x : Option Wait) → IsUnsettledOf who x → IsOwnWait who x
unsettled_own who None h = h
unsettled_own who (Some x) h = h.0

still_last : (who c p : ℕ) (a d : Floor) → Legal d.shape d.seen → Looked who a d → AwaitsLast who c p a → AwaitsLast who c p d
still_last who c p a d l h k = record {
  earlier = k.earlier;
  last = h.mine ∙ k.last;
  holds = others_keep d.shape who (IsUnsettledOf who) (unsettled_stays who) (wait_at c p) a.seen d.seen l h.longer h.mine k.holds;
}

pub standing_gains : (who c p : ℕ) (a d : Floor) → Legal d.shape d.seen → AwaitsLast who c p a
    → LookAnswer who (wait_at c p) a d state.Standing → Stepped (Some p) who c a d (step.Waits p)
standing_gains who c p a d l k m =
    (gained_looked who c a d m.0, record { last = still_last who c p a d l m.0 k; stood = m.1 }, (refl, added_looked who a d m.0))

-- at the moment of the look it did not end
at_moment : (who c p : ℕ) (a d : Floor) (how : _) → Legal d.shape d.seen → AwaitsLast who c p a → (m : LookAnswer who (wait_at c p) a d how)
    → IsUnsettledOf who ((replay m.1.moment).waits (wait_at c p))
at_moment who c p a d how l k m =
    let mine = (between who a.seen m.1.moment d.seen m.1.after m.1.before m.0.mine).0 in
    others_keep d.shape who (IsUnsettledOf who) (unsettled_stays who) (wait_at c p) a.seen m.1.moment
    (earlier_legal d.shape m.1.moment d.seen m.1.before l) m.1.after mine k.holds
  where
    earlier_legal : (shape : Shape) (xs ys : List Entry) → IsPrefix xs ys → Legal shape ys → Legal shape xs
    earlier_legal shape xs ys q h = Legal-prefix shape xs q.0 (subst (Legal shape) (sym q.1) h)

pub never_settled : (who c p : ℕ) (a d : Floor) → Legal d.shape d.seen → AwaitsLast who c p a
    → LookAnswer who (wait_at c p) a d state.Settled → ⊥
never_settled who c p a d l k m = by_wait ((replay m.1.moment).waits (wait_at c p)) (at_moment who c p a d state.Settled l k m) m.1.holds
  where
    by_parts : (how : Option Resolution) (end : Option Settled) → end ≡ None → state_of_parts how end ≡ state.Settled → ⊥
    by_parts None None e f = cc
    by_parts (Some how) None e f = cc
    by_parts how (Some outcome) e f = cc

    by_wait : (x : Option Wait) → IsUnsettledOf who x → state_of_wait x ≡ Some state.Settled → ⊥
    by_wait None h f = h
    by_wait (Some x) h f = by_parts x.resolved x.settled h.1 (let e : state_of_parts x.resolved x.settled ≡ state.Settled = cc in e)

pub ready_now : (who c p : ℕ) (a d : Floor) → Legal d.shape d.seen → AwaitsLast who c p a → LookAnswer who (wait_at c p) a d state.Resolved
    → IsReady who (wait_at c p) d
ready_now who c p a d l k m =
    let apart = between who a.seen m.1.moment d.seen m.1.after m.1.before m.0.mine in
    others_keep d.shape who (IsReadyWait who) (ready_stays who) (wait_at c p) m.1.moment d.seen l m.1.before apart.1
    (by_wait ((replay m.1.moment).waits (wait_at c p)) (at_moment who c p a d state.Resolved l k m) m.1.holds)
  where
    by_parts : (how : Option Resolution) (end : Option Settled) → end ≡ None → state_of_parts how end ≡ state.Resolved → is_some how ≡ true
    by_parts None None e f = cc
    by_parts (Some how) None e f = refl
    by_parts how (Some outcome) e f = cc

    by_wait : (x : Option Wait) → IsUnsettledOf who x → state_of_wait x ≡ Some state.Resolved → IsReadyWait who x
    by_wait None h f = h
    by_wait (Some x) h f = (
      h.0,
      by_parts x.resolved x.settled h.1 (let e : state_of_parts x.resolved x.settled ≡ state.Resolved = cc in e),
      h.1,
    )

-- ---- the end of the wait

-- it has one clause, a receive here
abbrev ReceivesAt : ℕ → Bool → ℕ → ℕ → Type 0
ReceivesAt c side n d = (side ≡ false) × (d ≡ c)

ends_so : (who c p : ℕ) (a d e : Floor) (outcome : Settled) → Legal d.shape d.seen → AwaitsLast who c p a
    → LookAnswer who (wait_at c p) a d state.Resolved → SettleAnswer who (wait_at c p) false d e outcome
    → EndsAtClause d.shape (ReceivesAt c) ⊥ outcome
unfolding AllAllowed
ends_so who c p a d e outcome l k m s =
    let last = still_last who c p a d l m.0 k in
    ends_at_clause d.shape (ReceivesAt c) ⊥ ((replay d.seen).waits (wait_at c p)) outcome
    (begun_at_clause d.shape (ReceivesAt c) ⊥ who (wait_at c p) d.seen last.earlier (Await c p (wait_at c p) 0) [] l last.last
    (refl, refl) ((λ z. (refl, refl)), tt)) s.1

pub never_sent : (who c p n : ℕ) (a d e : Floor) → Legal d.shape d.seen → AwaitsLast who c p a
    → LookAnswer who (wait_at c p) a d state.Resolved → SettleAnswer who (wait_at c p) false d e (settled.Sent n) → ⊥
never_sent who c p n a d e l k m s = let h = ends_so who c p a d e (settled.Sent n) l k m s in (let q : true ≡ false = h.1.0 in cc)

pub never_cancelled : (who c p : ℕ) (a d e : Floor) → Legal d.shape d.seen → AwaitsLast who c p a
    → LookAnswer who (wait_at c p) a d state.Resolved → SettleAnswer who (wait_at c p) false d e settled.Cancelled → ⊥
never_cancelled who c p a d e l k m s = ⊎_elim (λ h. h) (λ h. let q : true ≡ false = h.2.0
    in cc) (ends_so who c p a d e settled.Cancelled l k m s)

pub never_undelivered : (who c p v : ℕ) (a d e : Floor) → Legal d.shape d.seen → AwaitsLast who c p a
    → LookAnswer who (wait_at c p) a d state.Resolved → SettleAnswer who (wait_at c p) false d e (settled.Undelivered v) → ⊥
never_undelivered who c p v a d e l k m s = ends_so who c p a d e (settled.Undelivered v) l k m s

pub value_gains : (who c p n v : ℕ) (a d e : Floor) → Legal d.shape d.seen → AwaitsLast who c p a
    → LookAnswer who (wait_at c p) a d state.Resolved → SettleAnswer who (wait_at c p) false d e (settled.Value n v)
    → Stepped (Some p) who c a e (step.Item v)
value_gains who c p n v a d e l k m s =
    let h = ends_so who c p a d e (settled.Value n v) l k m s in (
      gained_then who c [] (v ∷ []) a d e (gained_looked who c a d m.0)
          (gained_made who c (Settle (wait_at c p) (settled.Value n v)) (v ∷ []) d e s.0 (here c (v ∷ [])) (same_number c)),
      (
        n,
        added_then who [] (Settle (wait_at c p) (settled.Value n v) ∷ []) a d e (added_looked who a d m.0)
            (added_made who (Settle (wait_at c p) (settled.Value n v)) d e s.0),
      ),
      ap (λ (z : Shape). is_signal (kind_at z c)) s.0.same.shape ∙ ap (λ (i : ℕ). is_signal (kind_at d.shape i)) (sym h.1.1) ∙ h.2,
    )

pub over_gains : (who c p n v : ℕ) (a d e : Floor) → Legal d.shape d.seen → Legal e.shape e.seen → AwaitsLast who c p a
    → LookAnswer who (wait_at c p) a d state.Resolved → SettleAnswer who (wait_at c p) false d e (settled.Closed n v)
    → Stepped (Some p) who c a e (step.Ended v)
over_gains who c p n v a d e l l' k m s =
    let last = still_last who c p a d l m.0 k in
    let done = closed_drained d.shape d.seen who c p n v last.earlier [] l last.last s.1 in
    let more = (added_made who (Settle (wait_at c p) (settled.Closed n v)) d e s.0).longer in
    let later : ((replay (d.seen ++ more.0)).channels c).closed ≡ Some v =
    closed_later e.shape d.seen more.0 c v (subst (Legal e.shape) (sym more.1) l') done.0 in (
      gained_then who c [] [] a d e (gained_looked who c a d m.0)
          (gained_made who c (Settle (wait_at c p) (settled.Closed n v)) [] d e s.0 (here c []) (same_number c)),
      record {
        closed = subst (λ es. ((replay es).channels c).closed ≡ Some v) more.1 later;
        drained = record {
          moment = d.seen;
          after = m.0.longer;
          before = more;
          holds =
              record { is_closed = ap is_some done.0; nothing = done.1 };
        };
      },
      (
        n,
        added_then who [] (Settle (wait_at c p) (settled.Closed n v) ∷ []) a d e (added_looked who a d m.0)
            (added_made who (Settle (wait_at c p) (settled.Closed n v)) d e s.0),
      ),
    )
