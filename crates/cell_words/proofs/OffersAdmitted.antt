-- A held offer that is admitted keeps the tie of lists and cells.
use Rattle.std.proofs.Common.{◌≡◌, ℕ, zero, suc, ◌+◌, ◌<◌, ◌≤◌, ◌==◌, eqb, Bool, true, false, List, [], ◌∷◌, ◌++◌, filter, if◌then◌else◌, Option, Some, None, is_some, sym, refl, ap, ◌∙◌, subst, arith, eq-eqb, ne_eqb, MatchBool}
use Rattle.std.proofs.lemmas.Bool.{eqb-true}
use mathlib.Core.Logic.{dite}
use native.Mathlib.Decide.{ℕ_discrete}
use Rattle.co_base.specs.declared.names.WaitId.{WaitId}
use Rattle.channel_model.specs.declared.acts.Kind.{Kind}
use Rattle.channel_model.specs.declared.standing.Party.{Party}
use Rattle.channel_model.specs.declared.standing.Standing.{Standing}
use Rattle.channel_model.specs.declared.standing.Resolution.TheVariants as resolved
use Rattle.channel_model.specs.Channels.{Wait, same_wait, is_full}
use Rattle.channel_model.specs.Effects.{resolve, resolve_holder, with_queue, put_wait, resolved_wait, admitted, holder_at}
use Rattle.channel_model.specs.Needs.{MayBeAdmitted}
use Rattle.channel_model.proofs.Waits.{at_wait, one_change}
use Rattle.word_rules.specs.Cells.{free, offer, spot, offer_after, offer_of, offer_by, standing, awaiting, Board, add_some, gather, is_used, end_cell}
use Rattle.cell_words.proofs.GatheredLists.{gather_same, gather_filter, gather_in, keep}
use Rattle.cell_words.proofs.ListsOfCells.{board, IsNamed, CellNamed, NamesAt, IsAtOwnClause, Tied, by_channel, not_held, not_mine, resolve_point, resolve_dot, named_resolved, cell_named, IsOffer, held, kept_here, standing_is}
use Rattle.cell_words.proofs.OffersRemoved.{offer_place}

abbrev freed : Option Standing → Option Standing
freed None = None
freed (Some o) = Some (record o { holder = None })

abbrev free_at : ℕ → (ℕ → Option Standing) → ℕ → Option Standing
free_at p f q = if eqb q p then freed (f q) else f q

-- ---- what is admitted in a list

admitted_push : (p : ℕ) (os : List Standing) (o : Standing) → (o.place ≡ p → ⊥) → admitted p (os ++ o ∷ []) ≡ admitted p os ++ o ∷ []
admitted_push p [] o ne = ap (λ (b : Bool). if b then record o { holder = None } ∷ [] else o ∷ []) (ne_eqb o.place p ne)
admitted_push p (x ∷ os) o ne = go (x.place == p) (admitted_push p os o ne)
  where
    go : (b : Bool) → admitted p (os ++ o ∷ []) ≡ admitted p os ++ o ∷ []
        → (if b then record x { holder = None } ∷ (os ++ o ∷ []) else x ∷ admitted p (os ++ o ∷ [])) ≡
        (if b then record x { holder = None } ∷ os else x ∷ admitted p os) ++ o ∷ []
    go true ih = refl
    go false ih = ap (λ (l : List Standing). x ∷ l) ih

abbrev pub PlacesBelow : ℕ → List Standing → Type 0
PlacesBelow n [] = Unit {0}
PlacesBelow n (o ∷ os) = (o.place < n) × PlacesBelow n os

below_push : (n : ℕ) (os : List Standing) (o : Standing) → PlacesBelow n os → o.place < n → PlacesBelow n (os ++ o ∷ [])
below_push n [] o h lt = (lt, tt)
below_push n (x ∷ os) o h lt = (h.0, below_push n os o h.1 lt)

below_more : (n m : ℕ) (os : List Standing) → n ≤ m → PlacesBelow n os → PlacesBelow m os
below_more n m [] le h = tt
below_more n m (o ∷ os) le h = (omega (arith, h.0), below_more n m os le h.1)

admitted_last : (p : ℕ) (os : List Standing) (o : Standing) → PlacesBelow p os → o.place ≡ p → admitted p (os ++ o ∷ []) ≡ os
    ++ record o { holder = None } ∷ []
admitted_last p [] o h is = ap (λ (b : Bool). if b then record o { holder = None } ∷ [] else o ∷ []) (eq-eqb o.place p is)
admitted_last p (x ∷ os) o h is = ap (λ (b : Bool). if b then record x { holder = None } ∷ (os ++ o ∷ []) else x ∷ admitted p (os
    ++ o ∷ [])) (ne_eqb x.place p (λ e. let l = h.0 in omega arith)) ∙ ap (λ (l : List Standing). x ∷ l) (admitted_last p os o h.1 is)

admitted_none : (p : ℕ) (os : List Standing) → PlacesBelow p os → admitted p os ≡ os
admitted_none p [] h = refl
admitted_none p (x ∷ os) h = ap (λ (b : Bool). if b then record x { holder = None } ∷ os else x ∷ admitted p os)
    (ne_eqb x.place p (λ e. let l = h.0 in omega arith)) ∙ ap (λ (l : List Standing). x ∷ l) (admitted_none p os h.1)

module _ (f : ℕ → Option Standing) (at : (q : ℕ) (o : Standing) → f q ≡ Some o → o.place ≡ q) where
  pub gather_below : (n : ℕ) → PlacesBelow n (gather f n)
  gather_below zero = tt
  gather_below (suc n) = go (below_more n (suc n) (gather f n) (omega arith) (gather_below n)) (f n) refl
    where
      go : PlacesBelow (suc n) (gather f n) → (o : Option Standing) → f n ≡ o → PlacesBelow (suc n) (add_some o (gather f n))
      go h None e = h
      go h (Some o) e = below_push (suc n) (gather f n) o h (let k = at n o e in omega arith)

  -- to admit the offer at p frees what f gives there
  admitted_gather : (p n : ℕ) → admitted p (gather f n) ≡ gather (free_at p f) n
  admitted_gather p zero = refl
  admitted_gather p (suc n) = go (admitted_gather p n) (f n) refl
    where
      go : admitted p (gather f n) ≡ gather (free_at p f) n → (o : Option Standing) → f n ≡ o
          → admitted p (add_some o (gather f n)) ≡ add_some (if eqb n p then freed o else o) (gather (free_at p f) n)
      go ih None e = ih ∙ sym (ap (λ (o : Option Standing). add_some o (gather (free_at p f) n)) (none (eqb n p)))
        where
          none : (b : Bool) → (if b then freed None else None) ≡ None
          none true = refl
          none false = refl
      go ih (Some o) e = dite (ℕ_discrete n p)
          (λ (is : n ≡ p). admitted_last p (gather f n) o (subst (λ (z : ℕ). PlacesBelow z (gather f n)) is (gather_below n)) (at n o e
          ∙ is)
          ∙ ap (λ (l : List Standing). l ++ record o { holder = None } ∷ [])
          (sym (admitted_none p (gather f n) (subst (λ (z : ℕ). PlacesBelow z (gather f n)) is (gather_below n))) ∙ ih)
          ∙ ap (λ (b : Bool). add_some (if b then freed (Some o) else Some o) (gather (free_at p f) n)) (sym (eq-eqb n p is)))
          (λ ne. admitted_push p (gather f n) o (λ m. ne (sym (at n o e) ∙ m)) ∙ ap (λ (l : List Standing). l ++ o ∷ []) ih
          ∙ ap (λ (b : Bool). add_some (if b then freed (Some o) else Some o) (gather (free_at p f) n)) (sym (ne_eqb n p ne)))

-- ---- the offer that is admitted

pub record HeldAt (p : ℕ) (os : List Standing) : Type 0 where
  pub before : List Standing
  pub it : Standing
  pub rest : List Standing
  pub all : os ≡ before ++ it ∷ rest
  pub place : it.place ≡ p
  pub holder : Party
  pub holds : it.holder ≡ Some holder
  pub found : holder_at p os ≡ Some holder

some_party : (h : Option Party) → is_some h ≡ true → (p : Party) × (h ≡ Some p)
some_party None e = cc
some_party (Some p) e = (p, refl)

pub held_at : (kind : Kind) (p n : ℕ) (os : List Standing) → MayBeAdmitted kind p n os → HeldAt p os
held_at kind p n [] m = absurd m
held_at kind p n (o ∷ os) m = go (λ k. held_at kind p (n + 1) os k) (o.place == p) refl m
  where
    go : (MayBeAdmitted kind p (n + 1) os → HeldAt p os) → (b : Bool) → (o.place == p) ≡ b
        → MatchBool b ((is_some o.holder ≡ true) × (is_full kind n ≡ false)) (MayBeAdmitted kind p (n + 1) os) → HeldAt p (o ∷ os)
    go ih true e m = let h = some_party o.holder m.0 in record {
      before = [];
      it = o;
      rest = os;
      all = refl;
      place = eqb-true o.place p e;
      holder = h.0;
      holds = h.1;
      found =
          ap (λ (b : Bool). if b then o.holder else holder_at p os) e ∙ h.1;
    }
    go ih false e m = let h = ih m in record {
      before = o ∷ h.before;
      it = h.it;
      rest = h.rest;
      all =
          ap (λ (l : List Standing). o ∷ l) h.all;
      place = h.place;
      holder = h.holder;
      holds = h.holds;
      found =
          ap (λ (b : Bool). if b then o.holder else holder_at p os) e ∙ h.found;
    }

other_clause : (p v j k : ℕ) → (j ≡ k → ⊥) → offer_after p v k (resolved.Admitted j) ≡ None
other_clause p v j k ne = ap (λ (b : Bool). if b then Some (record { place = p; value = v; holder = None }) else None) (ne_eqb j k ne)

this_clause : (p v k : ℕ) → offer_after p v k (resolved.Admitted k) ≡ Some (record { place = p; value = v; holder = None })
this_clause p v k = ap (λ (b : Bool). if b then Some (record { place = p; value = v; holder = None }) else None) (eq-eqb k k refl)

module _ (b : Board) (c p who : ℕ) (o : Standing) (h : Party) (x : Wait) (t : Tied b)
    (cell : b.cells c p ≡ offer o.value who h.wait h.clause) (place : o.place ≡ p) (holds : o.holder ≡ Some h)
    (was : b.state.waits h.wait ≡ Some x) (still_open : x.resolved ≡ None) where
  names_here : NamesAt h.wait h.clause (b.cells c p)
  names_here = subst (NamesAt h.wait h.clause) (sym cell) (refl, refl)

  -- every other cell of the wait has another clause
  elsewhere : (d q : ℕ) → (spot c p ≡ spot d q → ⊥) → keep (not_held h.wait) (standing b.state.waits q (b.cells d q)) ≡
      standing (put_wait h.wait (resolved_wait (resolved.Admitted h.clause) (b.state.waits h.wait)) b.state.waits) q (b.cells d q)
  elsewhere d q ne = resolve_point b.state.waits h.wait (resolved.Admitted h.clause) x was still_open q (b.cells d q)
      (λ v k m. other_clause q v h.clause k (λ is. ne (t.apart c p d q h.wait h.clause names_here
      (subst (λ (z : ℕ). NamesAt h.wait z (b.cells d q)) (sym is) m))))

  stands : standing b.state.waits p (b.cells c p) ≡ Some (record { place = p; value = o.value; holder = Some h })
  stands = ap (standing b.state.waits p) cell ∙ ap (offer_of p o.value h.wait h.clause) was
      ∙ ap (offer_by p o.value h.wait h.clause) still_open

  here : keep (not_held h.wait) (freed (standing b.state.waits p (b.cells c p))) ≡
      standing (put_wait h.wait (resolved_wait (resolved.Admitted h.clause) (b.state.waits h.wait)) b.state.waits) p (b.cells c p)
  here = ap (λ (z : Option Standing). keep (not_held h.wait) (freed z)) stands
      ∙ sym (ap (standing (put_wait h.wait (resolved_wait (resolved.Admitted h.clause) (b.state.waits h.wait)) b.state.waits) p) cell
      ∙ ap (offer_of p o.value h.wait h.clause) (at_wait h.wait (resolved_wait (resolved.Admitted h.clause) (b.state.waits h.wait))
      b.state.waits)
      ∙ ap (λ (z : Option Wait). offer_of p o.value h.wait h.clause (resolved_wait (resolved.Admitted h.clause) z)) was
      ∙ this_clause p o.value h.clause)

  at_place : (d q : ℕ) (o : Standing) → standing b.state.waits q (b.cells d q) ≡ Some o → o.place ≡ q
  at_place d q o e = offer_place b.state.waits q (b.cells d q) o (standing_is b.state.waits q (b.cells d q) o e)

  point : (q : ℕ) → keep (not_held h.wait) (free_at p (λ q. standing b.state.waits q (b.cells c q)) q) ≡
      standing (put_wait h.wait (resolved_wait (resolved.Admitted h.clause) (b.state.waits h.wait)) b.state.waits) q (b.cells c q)
  point q = dite (ℕ_discrete q p)
      (λ (is : q ≡ p). ap (λ (t : Bool). keep (not_held h.wait)
      (if t then freed (standing b.state.waits q (b.cells c q)) else standing b.state.waits q (b.cells c q))) (eq-eqb q p is)
      ∙ subst (λ (z : ℕ). keep (not_held h.wait) (freed (standing b.state.waits z (b.cells c z))) ≡
      standing (put_wait h.wait (resolved_wait (resolved.Admitted h.clause) (b.state.waits h.wait)) b.state.waits) z (b.cells c z))
      (sym is) here)
      (λ ne. ap (λ (t : Bool). keep (not_held h.wait) (if t then freed (standing b.state.waits q (b.cells c q)) else standing b.state.waits
      q (b.cells c q))) (ne_eqb q p ne)
      ∙ elsewhere c q (λ is. ne (sym (ap (λ (w : WaitId). w.place) is))))

  own : (u : WaitId) → IsAtOwnClause (put_wait h.wait (resolved_wait (resolved.Admitted h.clause) (b.state.waits h.wait)) b.state.waits u)
  own u = go (same_wait h.wait u)
    where
      among : (y : Option Wait) → IsNamed who h.clause y → IsAtOwnClause (resolved_wait (resolved.Admitted h.clause) y)
      among None n = tt
      among (Some x) n = n.1

      go : (t : Bool) → IsAtOwnClause (if t then resolved_wait (resolved.Admitted h.clause) (b.state.waits h.wait) else b.state.waits u)
      go true = among (b.state.waits h.wait) (subst (CellNamed b.state.waits) cell (t.named c p))
      go false = t.at_own_clause u

  admits : Tied (board (resolve h.wait (resolved.Admitted h.clause) (with_queue c (admitted p (b.state.channels c).queue) b.state)) b.cells)
  admits = record {
    queues = by_channel (λ d ch. filter (not_held h.wait) ch.queue ≡
        gather (λ q. standing (put_wait h.wait (resolved_wait (resolved.Admitted h.clause) (b.state.waits h.wait)) b.state.waits) q
        (b.cells d q)) ch.next) c (record (b.state.channels c) { queue = admitted p (b.state.channels c).queue }) b.state.channels
        (ap (λ (l : List Standing). filter (not_held h.wait) (admitted p l)) (t.queues c)
        ∙ ap (filter (not_held h.wait)) (admitted_gather (λ q. standing b.state.waits q (b.cells c q)) (at_place c) p
        (b.state.channels c).next)
        ∙ gather_filter (not_held h.wait) _ (b.state.channels c).next ∙ gather_same _ _ (b.state.channels c).next (λ q lt. point q))
        (λ d ne. ap (filter (not_held h.wait)) (t.queues d) ∙ gather_filter (not_held h.wait) _ (b.state.channels d).next
        ∙ gather_same _ _ (b.state.channels d).next (λ q lt. elsewhere d q (λ is. ne (ap (λ (w : WaitId). w.channel) is))));
    lines = by_channel (λ d ch. filter (not_mine h.wait) ch.receivers ≡
        gather (λ q. awaiting (put_wait h.wait (resolved_wait (resolved.Admitted h.clause) (b.state.waits h.wait)) b.state.waits) q
        (b.cells d q)) ch.next) c (record (b.state.channels c) { queue = admitted p (b.state.channels c).queue }) b.state.channels (line c)
        (λ d ne. line d);
    used = by_channel (λ d ch. (q : ℕ) → q < ch.next → is_used (b.cells d q) ≡ true) c
        (record (b.state.channels c) { queue = admitted p (b.state.channels c).queue }) b.state.channels (t.used c) (λ d ne. t.used d);
    ending = by_channel (λ d ch. b.cells d ch.next ≡ end_cell ch.closed ch.voided) c
        (record (b.state.channels c) { queue = admitted p (b.state.channels c).queue }) b.state.channels (t.ending c) (λ d ne. t.ending d);
    unused = by_channel (λ d ch. (q : ℕ) → ch.next < q → b.cells d q ≡ free) c
        (record (b.state.channels c) { queue = admitted p (b.state.channels c).queue }) b.state.channels (t.unused c) (λ d ne. t.unused d);
    named = λ d q. cell_named b.state.waits (put_wait h.wait (resolved_wait (resolved.Admitted h.clause) (b.state.waits h.wait))
        b.state.waits) (λ n k u m. one_change (IsNamed n k) b.state.waits h.wait u (resolved_wait (resolved.Admitted h.clause))
        (named_resolved n k (resolved.Admitted h.clause) (b.state.waits u)) m) (b.cells d q) (t.named d q);
    apart = t.apart;
    at_own_clause = own;
  }
    where
      line : (d : ℕ) → filter (not_mine h.wait) (b.state.channels d).receivers ≡
          gather (λ q. awaiting (put_wait h.wait (resolved_wait (resolved.Admitted h.clause) (b.state.waits h.wait)) b.state.waits) q
          (b.cells d q)) (b.state.channels d).next
      line d = ap (filter (not_mine h.wait)) (t.lines d) ∙ gather_filter (not_mine h.wait) _ (b.state.channels d).next
          ∙ gather_same _ _ (b.state.channels d).next (λ q lt. resolve_dot b.state.waits h.wait (resolved.Admitted h.clause) x was
          still_open q (b.cells d q))

pub ties_admit : (b : Board) (kind : Kind) (c p : ℕ) → MayBeAdmitted kind p 0 (b.state.channels c).queue → Tied b
    → Tied (board (resolve_holder (holder_at p (b.state.channels c).queue) resolved.Admitted
    (with_queue c (admitted p (b.state.channels c).queue) b.state)) b.cells)
ties_admit b kind c p m t =
    let s = held_at kind p 0 (b.state.channels c).queue m in
    let g = gather_in _ (b.state.channels c).next s.before s.it s.rest (sym (t.queues c) ∙ s.all) in
    subst (λ (z : Option Party). Tied (board (resolve_holder z resolved.Admitted
    (with_queue c (admitted p (b.state.channels c).queue) b.state)) b.cells)) (sym s.found)
    (go s g.0 g.2 (standing_is b.state.waits g.0 (b.cells c g.0) s.it g.2))
  where
    go : (s : HeldAt p (b.state.channels c).queue) (q : ℕ) → standing b.state.waits q (b.cells c q) ≡ Some s.it
        → IsOffer b.state.waits q (b.cells c q) s.it
        → Tied (board (resolve s.holder.wait (resolved.Admitted s.holder.clause)
        (with_queue c (admitted p (b.state.channels c).queue) b.state)) b.cells)
    go s q e (held who h x cell place holder was still_open) =
        let at : q ≡ p = sym place ∙ s.place in
        let same : Some h ≡ Some s.holder = sym holder ∙ s.holds in
        let is : h ≡ s.holder = cc in
        subst (λ (z : Party). Tied (board (resolve z.wait (resolved.Admitted z.clause)
        (with_queue c (admitted p (b.state.channels c).queue) b.state)) b.cells)) is
        (admits b c p who s.it h x t (subst (λ (z : ℕ). b.cells c z ≡ offer s.it.value who h.wait h.clause) at cell) s.place holder was
        still_open)
    go s q e (kept_here line place holder) = let f : Some s.holder ≡ None = sym s.holds ∙ holder in cc
