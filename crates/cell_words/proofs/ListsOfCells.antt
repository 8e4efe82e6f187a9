-- Each entry keeps the lists what the cells and the waits give.
use Rattle.std.proofs.Common.{◌≡◌, ◌⊎◌, ℕ, ◌<◌, ◌==◌, Bool, true, false, true≢false, not, List, filter, if◌then◌else◌, Option, Some, None, sym, refl, ap, ◌∙◌, subst, ⊎_elim, inl, inr, eq-eqb}
use Rattle.std.specs.List.{list_any}
use Rattle.std.proofs.lemmas.Bool.{eqb-true}
use Rattle.co_base.specs.declared.names.WaitId.{WaitId}
use Rattle.channel_model.specs.declared.standing.Party.{Party}
use Rattle.channel_model.specs.declared.standing.Standing.{Standing}
use Rattle.channel_model.specs.declared.standing.Receiver.{Receiver}
use Rattle.channel_model.specs.declared.standing.Resolution.{Resolution}
use Rattle.channel_model.specs.declared.standing.Resolution.TheVariants as resolved
use Rattle.channel_model.specs.Channels.{State, Channel, Wait, same_wait}
use Rattle.channel_model.specs.Effects.{resolve, is_held_by, put_channel, put_wait, resolved_wait}
use Rattle.channel_model.proofs.Waits.{same_wait-eq, same_wait-refl, one_change}
use Rattle.word_rules.specs.Cells.{Cell, free, receiver, offer, buffered, emptied, closed_by, voided_by, Cells, spot, set_cell, offer_after, offer_by, offer_of, standing, receiver_by, receiver_of, awaiting, Board, gather, is_used, end_cell}
use Rattle.cell_words.proofs.GatheredLists.{gather_same, gather_filter, keep}

abbrev pub board : State → Cells → Board
board s f = record { state = s; cells = f }

-- the wait is that of who, and has this clause
abbrev pub IsNamed : ℕ → ℕ → Option Wait → Type 0
IsNamed who k None = ⊥
IsNamed who k (Some x) = (x.owner ≡ who) × (list_any (λ y. y.0 == k) x.clauses ≡ true)

abbrev pub CellNamed : (WaitId → Option Wait) → Cell → Type 0
CellNamed waits free = Unit {0}
CellNamed waits (receiver who w k) = IsNamed who k (waits w)
CellNamed waits (offer v who w k) = IsNamed who k (waits w)
CellNamed waits (buffered v) = Unit {0}
CellNamed waits other = Unit {0}

abbrev pub NamesAt : WaitId → ℕ → Cell → Type 0
NamesAt w k free = ⊥
NamesAt w k (receiver who u j) = (u ≡ w) × (j ≡ k)
NamesAt w k (offer v who u j) = (u ≡ w) × (j ≡ k)
NamesAt w k (buffered v) = ⊥
NamesAt w k other = ⊥

abbrev pub AdmittedAmong : List (ℕ × ℕ) → Option Resolution → Type 0
AdmittedAmong clauses None = Unit {0}
AdmittedAmong clauses (Some (resolved.Handed j x)) = Unit {0}
AdmittedAmong clauses (Some (resolved.Taken j)) = Unit {0}
AdmittedAmong clauses (Some (resolved.Admitted j)) = list_any (λ y. y.0 == j) clauses ≡ true
AdmittedAmong clauses (Some (resolved.Closed j x)) = Unit {0}
AdmittedAmong clauses (Some (resolved.Withdrawn why)) = Unit {0}
AdmittedAmong clauses (Some resolved.Voided) = Unit {0}

-- a wait that was admitted was so at a clause of it
abbrev pub IsAtOwnClause : Option Wait → Type 0
IsAtOwnClause None = Unit {0}
IsAtOwnClause (Some x) = AdmittedAmong x.clauses x.resolved

-- the lists are what the cells and the waits give
pub record Tied (b : Board) : Type 0 where
  pub queues : (c : ℕ) → (b.state.channels c).queue ≡ gather (λ p. standing b.state.waits p (b.cells c p)) (b.state.channels c).next
  pub lines : (c : ℕ) → (b.state.channels c).receivers ≡ gather (λ p. awaiting b.state.waits p (b.cells c p)) (b.state.channels c).next
  pub used : (c p : ℕ) → p < (b.state.channels c).next → is_used (b.cells c p) ≡ true
  pub ending : (c : ℕ) → b.cells c (b.state.channels c).next ≡ end_cell (b.state.channels c).closed (b.state.channels c).voided
  pub unused : (c p : ℕ) → (b.state.channels c).next < p → b.cells c p ≡ free
  pub named : (c p : ℕ) → CellNamed b.state.waits (b.cells c p)
  pub apart : (c p d q : ℕ) (w : WaitId) (k : ℕ) → NamesAt w k (b.cells c p) → NamesAt w k (b.cells d q) → spot c p ≡ spot d q
  pub at_own_clause : (w : WaitId) → IsAtOwnClause (b.state.waits w)

-- ---- cells

pub spots_apart : (c p d q : ℕ) → (c ≡ d → p ≡ q → ⊥) → same_wait (spot c p) (spot d q) ≡ false
spots_apart c p d q ne = go (same_wait (spot c p) (spot d q)) refl
  where
    go : (b : Bool) → same_wait (spot c p) (spot d q) ≡ b → b ≡ false
    go true e = let k = same_wait-eq (spot c p) (spot d q) e
        in absurd (ne (ap (λ (w : WaitId). w.channel) k) (ap (λ (w : WaitId). w.place) k))
    go false e = refl

pub cell_here : (f : Cells) (c p : ℕ) (x : Cell) → set_cell f c p x c p ≡ x
cell_here f c p x = ap (λ (b : Bool). if b then x else f c p) (same_wait-refl (spot c p))

pub cell_else : (f : Cells) (c p : ℕ) (x : Cell) (d q : ℕ) → (c ≡ d → p ≡ q → ⊥) → set_cell f c p x d q ≡ f d q
cell_else f c p x d q ne = ap (λ (b : Bool). if b then x else f d q) (spots_apart c p d q ne)

-- what holds of the new cell and of all others
pub by_spot : (P : ℕ → ℕ → Cell → Type 0) (f : Cells) (c p : ℕ) (x : Cell) → P c p x → (d q : ℕ) → ((c ≡ d → p ≡ q → ⊥) → P d q (f d q))
    → P d q (set_cell f c p x d q)
by_spot P f c p x here d q there = go (same_wait (spot c p) (spot d q)) refl
  where
    go : (b : Bool) → same_wait (spot c p) (spot d q) ≡ b → P d q (if b then x else f d q)
    go true e = let k = same_wait-eq (spot c p) (spot d q) e in subst (λ (w : WaitId). P w.channel w.place x) k here
    go false e =
        there (λ m n. true≢false (sym (subst (λ (w : WaitId). same_wait (spot c p) w ≡ true) (λ i. spot (m i) (n i))
        (same_wait-refl (spot c p))) ∙ e))

pub set_same : (f : Cells) (c p : ℕ) (x : Cell) → x ≡ f c p → set_cell f c p x ≡ f
set_same f c p x is = λ i d q. by_spot (λ d q y. y ≡ f d q) f c p x is d q (λ ne. refl) i

-- ---- a wait is resolved

abbrev pub not_held : WaitId → Standing → Bool
not_held w o = not (is_held_by w o.holder)

abbrev pub not_mine : WaitId → Receiver → Bool
not_mine w r = not (same_wait w r.party.wait)

-- a resolution other than an admittance
abbrev pub Final : Resolution → Type 0
Final (resolved.Admitted j) = ⊥
Final other = Unit {0}

final_none : (p v k : ℕ) (how : Resolution) → Final how → offer_after p v k how ≡ None
final_none p v k (resolved.Admitted j) h = absurd h
final_none p v k other h = refl

open_gone : (w u : WaitId) (p v k : ℕ) (y : Option Wait) (x : Wait) → y ≡ Some x → x.resolved ≡ None → same_wait w u ≡ true
    → keep (not_held w) (offer_of p v u k y) ≡ None
open_gone w u p v k y x was still_open e =
    ap (λ (z : Option Wait). keep (not_held w) (offer_of p v u k z)) was
    ∙ ap (λ (z : Option Resolution). keep (not_held w) (offer_by p v u k z)) still_open
    ∙ ap (λ (b : Bool). if not b then Some (record { place = p; value = v; holder = Some (record { wait = u; clause = k }) }) else None) e

kept_after : (w : WaitId) (p v k : ℕ) (how : Resolution) → keep (not_held w) (offer_after p v k how) ≡ offer_after p v k how
kept_after w p v k (resolved.Admitted j) = go (j == k)
  where
    go : (b : Bool) → keep (not_held w) (if b then Some (record { place = p; value = v; holder = None }) else None) ≡
        (if b then Some (record { place = p; value = v; holder = None }) else None)
    go true = refl
    go false = refl
kept_after w p v k other = refl

kept_by : (w u : WaitId) (p v k : ℕ) (y : Option Resolution) → same_wait w u ≡ false
    → keep (not_held w) (offer_by p v u k y) ≡ offer_by p v u k y
kept_by w u p v k None e = ap (λ (b : Bool). if not b then Some
    (record { place = p; value = v; holder = Some (record { wait = u; clause = k }) }) else None) e
kept_by w u p v k (Some how) e = kept_after w p v k how

kept : (w u : WaitId) (p v k : ℕ) (y : Option Wait) → same_wait w u ≡ false → keep (not_held w) (offer_of p v u k y) ≡ offer_of p v u k y
kept w u p v k None e = refl
kept w u p v k (Some x) e = kept_by w u p v k x.resolved e

line_gone : (w u : WaitId) (p k : ℕ) (y : Option Wait) (x : Wait) → y ≡ Some x → x.resolved ≡ None → same_wait w u ≡ true
    → keep (not_mine w) (receiver_of p u k y) ≡ None
line_gone w u p k y x was still_open e =
    ap (λ (z : Option Wait). keep (not_mine w) (receiver_of p u k z)) was
    ∙ ap (λ (z : Option Resolution). keep (not_mine w) (receiver_by p u k z)) still_open
    ∙ ap (λ (b : Bool). if not b then Some (record { place = p; party = record { wait = u; clause = k } }) else None) e

line_kept_by : (w u : WaitId) (p k : ℕ) (y : Option Resolution) → same_wait w u ≡ false
    → keep (not_mine w) (receiver_by p u k y) ≡ receiver_by p u k y
line_kept_by w u p k None e = ap (λ (b : Bool). if not b then Some (record { place = p; party = record { wait = u; clause = k } }) else
    None) e
line_kept_by w u p k (Some how) e = refl

line_kept : (w u : WaitId) (p k : ℕ) (y : Option Wait) → same_wait w u ≡ false
    → keep (not_mine w) (receiver_of p u k y) ≡ receiver_of p u k y
line_kept w u p k None e = refl
line_kept w u p k (Some x) e = line_kept_by w u p k x.resolved e

module _ (waits : WaitId → Option Wait) (w : WaitId) (how : Resolution) (x : Wait) (was : waits w ≡ Some x) (still_open : x.resolved ≡ None)
  where
    resolve_offer_point : (p v k : ℕ) (u : WaitId) → (w ≡ u → offer_after p v k how ≡ None) → (t : Bool) → same_wait w u ≡ t
        → keep (not_held w) (offer_of p v u k (waits u)) ≡ offer_of p v u k (if t then resolved_wait how (waits w) else waits u)
    resolve_offer_point p v k u fin true e =
        open_gone w u p v k (waits u) x (ap waits (sym (same_wait-eq w u e)) ∙ was) still_open e
        ∙ sym (ap (λ (z : Option Wait). offer_of p v u k (resolved_wait how z)) was ∙ fin (same_wait-eq w u e))
    resolve_offer_point p v k u fin false e = kept w u p v k (waits u) e

    resolve_line_point : (p k : ℕ) (u : WaitId) (t : Bool) → same_wait w u ≡ t
        → keep (not_mine w) (receiver_of p u k (waits u)) ≡ receiver_of p u k (if t then resolved_wait how (waits w) else waits u)
    resolve_line_point p k u true e =
        line_gone w u p k (waits u) x (ap waits (sym (same_wait-eq w u e)) ∙ was) still_open e
        ∙ sym (ap (λ (z : Option Wait). receiver_of p u k (resolved_wait how z)) was)
    resolve_line_point p k u false e = line_kept w u p k (waits u) e

    -- a cell, where the wait is not admitted at it
    pub resolve_point : (p : ℕ) (y : Cell) → ((v k : ℕ) → NamesAt w k y → offer_after p v k how ≡ None)
        → keep (not_held w) (standing waits p y) ≡ standing (put_wait w (resolved_wait how (waits w)) waits) p y
    resolve_point p free fin = refl
    resolve_point p (receiver who u k) fin = refl
    resolve_point p (offer v who u k) fin = resolve_offer_point p v k u (λ is. fin v k (sym is, refl)) (same_wait w u) refl
    resolve_point p (buffered v) fin = refl
    resolve_point p other fin = refl

    pub resolve_dot : (p : ℕ) (y : Cell) → keep (not_mine w) (awaiting waits p y) ≡
        awaiting (put_wait w (resolved_wait how (waits w)) waits) p y
    resolve_dot p free = refl
    resolve_dot p (receiver who u k) = resolve_line_point p k u (same_wait w u) refl
    resolve_dot p (offer v who u k) = refl
    resolve_dot p other = refl

pub named_resolved : (who k : ℕ) (how : Resolution) (y : Option Wait) → IsNamed who k y → IsNamed who k (resolved_wait how y)
named_resolved who k how None h = h
named_resolved who k how (Some x) h = h

own_resolved : (how : Resolution) → Final how → (y : Option Wait) → IsAtOwnClause y → IsAtOwnClause (resolved_wait how y)
own_resolved how fin None h = h
own_resolved (resolved.Admitted j) fin (Some x) h = absurd fin
own_resolved other fin (Some x) h = tt

-- what a change of waits leaves of the names in cells
pub cell_named : (waits waits' : WaitId → Option Wait) → ((who k : ℕ) (u : WaitId) → IsNamed who k (waits u) → IsNamed who k (waits' u))
    → (y : Cell) → CellNamed waits y → CellNamed waits' y
cell_named waits waits' f free h = tt
cell_named waits waits' f (receiver who u k) h = f who k u h
cell_named waits waits' f (offer v who u k) h = f who k u h
cell_named waits waits' f (buffered v) h = tt
cell_named waits waits' f other h = tt

-- the waits and the cells keep the lists, where the wait w is taken out of all
pub ties_resolve : (b : Board) (w : WaitId) (how : Resolution) (x : Wait) → Final how → b.state.waits w ≡ Some x → x.resolved ≡ None
    → Tied b → Tied (board (resolve w how b.state) b.cells)
ties_resolve b w how x fin was still_open t = record {
  queues = λ c. ap (filter (not_held w)) (t.queues c) ∙ gather_filter (not_held w) _ (b.state.channels c).next
      ∙ gather_same _ _ (b.state.channels c).next (λ p lt. resolve_point b.state.waits w how x was still_open p (b.cells c p)
      (λ v k m. final_none p v k how fin));
  lines = λ c. ap (filter (not_mine w)) (t.lines c) ∙ gather_filter (not_mine w) _ (b.state.channels c).next
      ∙ gather_same _ _ (b.state.channels c).next (λ p lt. resolve_dot b.state.waits w how x was still_open p (b.cells c p));
  used = t.used;
  ending = t.ending;
  unused = t.unused;
  named = λ c p. cell_named b.state.waits (put_wait w (resolved_wait how (b.state.waits w)) b.state.waits)
      (λ who k u h. one_change (IsNamed who k) b.state.waits w u (resolved_wait how) (named_resolved who k how (b.state.waits u)) h)
      (b.cells c p) (t.named c p);
  apart = t.apart;
  at_own_clause = λ u. one_change IsAtOwnClause b.state.waits w u (resolved_wait how) (own_resolved how fin (b.state.waits u))
      (t.at_own_clause u);
}

-- ---- who stands, and by which cell

pub record IsReceiver (waits : WaitId → Option Wait) (p : ℕ) (y : Cell) (r : Receiver) : Type 0 where
  pub who : ℕ
  pub cell : y ≡ receiver who r.party.wait r.party.clause
  pub place : r.place ≡ p
  pub wait : Wait
  pub was : waits r.party.wait ≡ Some wait
  pub still_open : wait.resolved ≡ None

pub awaiting_is : (waits : WaitId → Option Wait) (p : ℕ) (y : Cell) (r : Receiver) → awaiting waits p y ≡ Some r → IsReceiver waits p y r
awaiting_is waits p free r e = cc
awaiting_is waits p (offer v who u k) r e = cc
awaiting_is waits p (buffered v) r e = cc
awaiting_is waits p (emptied v) r e = cc
awaiting_is waits p (closed_by v) r e = cc
awaiting_is waits p (voided_by v) r e = cc
awaiting_is waits p (receiver who u k) r e = go (waits u) refl e
  where
    by_how : (x : Wait) (how : Option Resolution) → waits u ≡ Some x → x.resolved ≡ how → receiver_by p u k how ≡ Some r
        → IsReceiver waits p (receiver who u k) r
    by_how x None was still_open e = let same : record { place = p; party = record { wait = u; clause = k } } ≡ r = cc in
        subst (λ (z : Receiver). IsReceiver waits p (receiver who u k) z) same
        (record { who = who; cell = refl; place = refl; wait = x; was = was; still_open = still_open })
    by_how x (Some how) was still_open e = cc

    go : (y : Option Wait) → waits u ≡ y → receiver_of p u k y ≡ Some r → IsReceiver waits p (receiver who u k) r
    go None is e = cc
    go (Some x) is e = by_how x x.resolved is refl e

-- an offer that stands is held by an still_open wait, or kept without one
pub data IsOffer (waits : WaitId → Option Wait) (p : ℕ) (y : Cell) (o : Standing) : Type 0 where
  held : (who : ℕ) (h : Party) (x : Wait) → y ≡ offer o.value who h.wait h.clause → o.place ≡ p → o.holder ≡ Some h → waits h.wait ≡ Some x
      → x.resolved ≡ None → IsOffer waits p y o
  kept_here : awaiting waits p y ≡ None → o.place ≡ p → o.holder ≡ None → IsOffer waits p y o

pub standing_is : (waits : WaitId → Option Wait) (p : ℕ) (y : Cell) (o : Standing) → standing waits p y ≡ Some o → IsOffer waits p y o
standing_is waits p free o e = cc
standing_is waits p (receiver who u k) o e = cc
standing_is waits p (emptied v) o e = cc
standing_is waits p (closed_by v) o e = cc
standing_is waits p (voided_by v) o e = cc
standing_is waits p (buffered v) o e = let same : record { place = p; value = v; holder = None } ≡ o = cc
    in subst (λ (z : Standing). IsOffer waits p (buffered v) z) same (kept_here refl refl refl)
standing_is waits p (offer v who u k) o e = go (waits u) refl e
  where
    here : (b : Bool) → (if b then Some (record { place = p; value = v; holder = None }) else None) ≡ Some o
        → IsOffer waits p (offer v who u k) o
    here true e = let same : record { place = p; value = v; holder = None } ≡ o = cc
        in subst (λ (z : Standing). IsOffer waits p (offer v who u k) z) same (kept_here refl refl refl)
    here false e = cc

    by_how : (how : Resolution) → offer_after p v k how ≡ Some o → IsOffer waits p (offer v who u k) o
    by_how (resolved.Admitted j) e = here (j == k) e
    by_how other e = cc

    by_state : (x : Wait) (how : Option Resolution) → waits u ≡ Some x → x.resolved ≡ how → offer_by p v u k how ≡ Some o
        → IsOffer waits p (offer v who u k) o
    by_state x None was still_open e = let same : record { place = p; value = v; holder = Some (record { wait = u; clause = k }) } ≡ o =
        cc in
        subst (λ (z : Standing). IsOffer waits p (offer v who u k) z) same
        (held who (record { wait = u; clause = k }) x refl refl refl was still_open)
    by_state x (Some how) was still_open e = by_how how e

    go : (y : Option Wait) → waits u ≡ y → offer_of p v u k y ≡ Some o → IsOffer waits p (offer v who u k) o
    go None is e = cc
    go (Some x) is e = by_state x x.resolved is refl e

-- ---- one channel and one cell change

-- what holds of the new channel and of all others
pub by_channel : (P : ℕ → Channel → Type 0) (c : ℕ) (ch : Channel) (channels : ℕ → Channel) → P c ch
    → ((d : ℕ) → (c ≡ d → ⊥) → P d (channels d)) → (d : ℕ) → P d (put_channel c ch channels d)
by_channel P c ch channels here there d = go (c == d) refl
  where
    go : (t : Bool) → (c == d) ≡ t → P d (if t then ch else channels d)
    go true e = subst (λ (n : ℕ). P n ch) (eqb-true c d e) here
    go false e = there d (λ m. true≢false (sym (eq-eqb c d m) ∙ e))

-- a channel's lists are what its cells and the waits give
pub record ChannelTied (waits : WaitId → Option Wait) (cells : ℕ → Cell) (ch : Channel) : Type 0 where
  pub queue : ch.queue ≡ gather (λ p. standing waits p (cells p)) ch.next
  pub line : ch.receivers ≡ gather (λ p. awaiting waits p (cells p)) ch.next
  pub used : (p : ℕ) → p < ch.next → is_used (cells p) ≡ true
  pub ending : cells ch.next ≡ end_cell ch.closed ch.voided
  pub unused : (p : ℕ) → ch.next < p → cells p ≡ free

-- what the change of the waits leaves of who stands
pub record Unmoved (b : Board) (waits' : WaitId → Option Wait) : Type 0 where
  pub stand : (d q : ℕ) → standing waits' q (b.cells d q) ≡ standing b.state.waits q (b.cells d q)
  pub await : (d q : ℕ) → awaiting waits' q (b.cells d q) ≡ awaiting b.state.waits q (b.cells d q)
  pub named : (who k : ℕ) (u : WaitId) → IsNamed who k (b.state.waits u) → IsNamed who k (waits' u)
  pub own : (u : WaitId) → IsAtOwnClause (waits' u)

pub ties_change : (b : Board) (c p : ℕ) (y : Cell) (ch : Channel) (waits' : WaitId → Option Wait) → Tied b → Unmoved b waits'
    → ChannelTied waits' (set_cell b.cells c p y c) ch
    → CellNamed waits' y → ((w : WaitId) (k : ℕ) → NamesAt w k y → (d q : ℕ) → NamesAt w k (b.cells d q) → ⊥)
    → Tied (board (record { channels = put_channel c ch b.state.channels; waits = waits'; stood = b.state.stood }) (set_cell b.cells c p y))
ties_change b c p y ch waits' t m h named fresh = record {
  queues = λ d. (all d).queue;
  lines = λ d. (all d).line;
  used = λ d. (all d).used;
  ending = λ d. (all d).ending;
  unused = λ d. (all d).unused;
  named = λ d q. by_spot (λ d q z. CellNamed waits' z) b.cells c p y named d q
      (λ ne. cell_named b.state.waits waits' m.named (b.cells d q) (t.named d q));
  apart = λ c1 p1 c2 p2 w k m1 m2. two c1 p1 c2 p2 w k (which w k c1 p1 m1) (which w k c2 p2 m2);
  at_own_clause = m.own;
}
  where
    cells' : Cells
    cells' = set_cell b.cells c p y

    all : (d : ℕ) → ChannelTied waits' (cells' d) (put_channel c ch b.state.channels d)
    all = by_channel (λ d x. ChannelTied waits' (cells' d) x) c ch b.state.channels h (λ d ne.
        let same : (q : ℕ) → cells' d q ≡ b.cells d q = λ q. cell_else b.cells c p y d q (λ e _. ne e) in record {
          queue = t.queues d ∙ gather_same _ _ (b.state.channels d).next (λ q lt. sym (ap (standing waits' q) (same q) ∙ m.stand d q));
          line = t.lines d ∙ gather_same _ _ (b.state.channels d).next (λ q lt. sym (ap (awaiting waits' q) (same q) ∙ m.await d q));
          used = λ q lt. ap is_used (same q) ∙ t.used d q lt;
          ending = same _ ∙ t.ending d;
          unused = λ q lt. same q ∙ t.unused d q lt;
        })

    Which : WaitId → ℕ → ℕ → ℕ → Type 0
    Which w k d q = ((spot c p ≡ spot d q) × NamesAt w k y) ⊎ NamesAt w k (b.cells d q)

    which : (w : WaitId) (k d q : ℕ) → NamesAt w k (cells' d q) → Which w k d q
    which w k d q = by_spot (λ d q z. NamesAt w k z → Which w k d q) b.cells c p y (λ n. inl (refl, n)) d q (λ ne n. inr n)

    two : (c1 p1 c2 p2 : ℕ) (w : WaitId) (k : ℕ) → Which w k c1 p1 → Which w k c2 p2 → spot c1 p1 ≡ spot c2 p2
    two c1 p1 c2 p2 w k h1 h2 = ⊎_elim
        (λ (x : (spot c p ≡ spot c1 p1) × NamesAt w k y). ⊎_elim (λ (z : (spot c p ≡ spot c2 p2) × NamesAt w k y). sym x.0
        ∙ z.0) (λ z. absurd (fresh w k x.1 c2 p2 z)) h2)
        (λ x. ⊎_elim (λ (z : (spot c p ≡ spot c2 p2) × NamesAt w k y). absurd (fresh w k z.1 c1 p1 x)) (λ z. t.apart c1 p1 c2 p2 w k x z)
        h2)
        h1

-- how many stood at the placings is nothing to it
pub ties_stood : (channels : ℕ → Channel) (waits : WaitId → Option Wait) (stood stood' : ℕ → ℕ → ℕ) (cells : Cells)
    → Tied (board (record { channels = channels; waits = waits; stood = stood }) cells)
    → Tied (board (record { channels = channels; waits = waits; stood = stood' }) cells)
ties_stood channels waits stood stood' cells t = record {
  queues = t.queues;
  lines = t.lines;
  used = t.used;
  ending = t.ending;
  unused = t.unused;
  named = t.named;
  apart = t.apart;
  at_own_clause = t.at_own_clause;
}

-- waits alone change, and nobody's standing
pub ties_waits : (b : Board) (waits' : WaitId → Option Wait) → Tied b → Unmoved b waits'
    → Tied (board (record { channels = b.state.channels; waits = waits'; stood = b.state.stood }) b.cells)
ties_waits b waits' t m = record {
  queues = λ d. t.queues d ∙ gather_same _ _ (b.state.channels d).next (λ q lt. sym (m.stand d q));
  lines = λ d. t.lines d ∙ gather_same _ _ (b.state.channels d).next (λ q lt. sym (m.await d q));
  used = t.used;
  ending = t.ending;
  unused = t.unused;
  named = λ d q. cell_named b.state.waits waits' m.named (b.cells d q) (t.named d q);
  apart = t.apart;
  at_own_clause = m.own;
}
