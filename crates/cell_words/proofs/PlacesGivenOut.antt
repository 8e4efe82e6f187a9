-- A place that is given out keeps the tie of lists and cells.
use Rattle.std.proofs.Common.{◌≡◌, ℕ, ◌+◌, ◌≤◌, ◌==◌, Bool, true, false, ◌||◌, List, [], ◌∷◌, ◌++◌, if◌then◌else◌, Option, Some, None, sym, refl, ap, ◌∙◌, subst, arith, eq-eqb, MatchBool}
use Rattle.std.specs.List.{list_any}
use Rattle.std.proofs.lemmas.Bool.{eqb-true, or_right}
use Rattle.std.proofs.lemmas.List.Folds.{list_any-append}
use mathlib.Core.Logic.{dite}
use native.Mathlib.Decide.{ℕ_discrete}
use Rattle.co_base.specs.declared.names.WaitId.{WaitId}
use Rattle.channel_model.specs.declared.acts.Settled.{Settled}
use Rattle.channel_model.specs.declared.standing.Resolution.{Resolution}
use Rattle.channel_model.specs.declared.standing.Resolution.TheVariants as resolved
use Rattle.channel_model.specs.Channels.{Channel, Wait, same_wait}
use Rattle.channel_model.specs.Effects.{put_channel, put_wait, name_clause, settled_wait, is_open, place_offer, place_receiver}
use Rattle.channel_model.specs.Needs.{HasPlace, MayName, JoinsWait}
use Rattle.channel_model.proofs.Waits.{same_wait-eq, at_wait, one_change}
use Rattle.channel_model.proofs.Placed.{Placed}
use Rattle.word_rules.specs.Cells.{Cell, free, receiver, offer, buffered, spot, set_cell, offer_by, offer_of, standing, receiver_by, receiver_of, awaiting, Board, add_some, is_used, end_cell}
use Rattle.cell_words.proofs.GatheredLists.{gather_push}
use Rattle.cell_words.proofs.ListsOfCells.{board, IsNamed, CellNamed, NamesAt, AdmittedAmong, IsAtOwnClause, Tied, ChannelTied, Unmoved, ties_change, ties_waits, cell_here, cell_else}

-- ---- a change of a wait that moves nobody

pub record Quiet (f : Option Wait → Option Wait) : Type 0 where
  pub stand : (who j p v : ℕ) (u : WaitId) (y : Option Wait) → IsNamed who j y → offer_of p v u j (f y) ≡ offer_of p v u j y
  pub await : (who j p : ℕ) (u : WaitId) (y : Option Wait) → IsNamed who j y → receiver_of p u j (f y) ≡ receiver_of p u j y
  pub named : (who j : ℕ) (y : Option Wait) → IsNamed who j y → IsNamed who j (f y)
  pub own : (y : Option Wait) → IsAtOwnClause y → IsAtOwnClause (f y)

module _ (waits : WaitId → Option Wait) (w : WaitId) (f : Option Wait → Option Wait) (q : Quiet f) where
  quiet_offer : (who j p v : ℕ) (u : WaitId) → IsNamed who j (waits u) → (t : Bool) → same_wait w u ≡ t
      → offer_of p v u j (if t then f (waits w) else waits u) ≡ offer_of p v u j (waits u)
  quiet_offer who j p v u h true e = let is : w ≡ u = same_wait-eq w u e in ap (λ (z : WaitId). offer_of p v u j (f (waits z))) is
      ∙ q.stand who j p v u (waits u) h
  quiet_offer who j p v u h false e = refl

  quiet_receiver : (who j p : ℕ) (u : WaitId) → IsNamed who j (waits u) → (t : Bool) → same_wait w u ≡ t
      → receiver_of p u j (if t then f (waits w) else waits u) ≡ receiver_of p u j (waits u)
  quiet_receiver who j p u h true e = let is : w ≡ u = same_wait-eq w u e in ap (λ (z : WaitId). receiver_of p u j (f (waits z))) is
      ∙ q.await who j p u (waits u) h
  quiet_receiver who j p u h false e = refl

  quiet_standing : (p : ℕ) (y : Cell) → CellNamed waits y → standing (put_wait w (f (waits w)) waits) p y ≡ standing waits p y
  quiet_standing p free h = refl
  quiet_standing p (receiver who u k) h = refl
  quiet_standing p (offer v who u k) h = quiet_offer who k p v u h (same_wait w u) refl
  quiet_standing p (buffered v) h = refl
  quiet_standing p other h = refl

  quiet_awaiting : (p : ℕ) (y : Cell) → CellNamed waits y → awaiting (put_wait w (f (waits w)) waits) p y ≡ awaiting waits p y
  quiet_awaiting p free h = refl
  quiet_awaiting p (receiver who u k) h = quiet_receiver who k p u h (same_wait w u) refl
  quiet_awaiting p (offer v who u k) h = refl
  quiet_awaiting p other h = refl

pub unmoved : (b : Board) (w : WaitId) (f : Option Wait → Option Wait) → Quiet f → Tied b
    → Unmoved b (put_wait w (f (b.state.waits w)) b.state.waits)
unmoved b w f q t = record {
  stand = λ d p. quiet_standing b.state.waits w f q p (b.cells d p) (t.named d p);
  await = λ d p. quiet_awaiting b.state.waits w f q p (b.cells d p) (t.named d p);
  named = λ who k u h. one_change (IsNamed who k) b.state.waits w u f (q.named who k (b.state.waits u)) h;
  own = λ u. one_change IsAtOwnClause b.state.waits w u f (q.own (b.state.waits u)) (t.at_own_clause u);
}

any_more : (j : ℕ) (y : ℕ × ℕ) (xs : List (ℕ × ℕ)) → list_any (λ (z : ℕ × ℕ). z.0 == j) xs ≡ true
    → list_any (λ (z : ℕ × ℕ). z.0 == j) (xs ++ y ∷ []) ≡ true
any_more j y xs e = list_any-append (λ (z : ℕ × ℕ). z.0 == j) xs (y ∷ []) ∙ ap (λ b. b || ((y.0 == j) || false)) e

here : (k : ℕ) → ((k == k) || false) ≡ true
here k = ap (λ (b : Bool). b || false) (eq-eqb k k refl)

any_last : (k c : ℕ) (xs : List (ℕ × ℕ)) → list_any (λ (z : ℕ × ℕ). z.0 == k) (xs ++ (k, c) ∷ []) ≡ true
any_last k c xs = list_any-append (λ (z : ℕ × ℕ). z.0 == k) xs ((k, c) ∷ []) ∙ ap (λ b. list_any (λ (z : ℕ × ℕ). z.0 == k) xs || b) (here k)
    ∙ or_right (list_any (λ (z : ℕ × ℕ). z.0 == k) xs) true refl

among_more : (y : ℕ × ℕ) (xs : List (ℕ × ℕ)) (how : Option Resolution) → AdmittedAmong xs how → AdmittedAmong (xs ++ y ∷ []) how
among_more y xs None h = tt
among_more y xs (Some (resolved.Handed j x)) h = tt
among_more y xs (Some (resolved.Taken j)) h = tt
among_more y xs (Some (resolved.Admitted j)) h = any_more j y xs h
among_more y xs (Some (resolved.Closed j x)) h = tt
among_more y xs (Some (resolved.Withdrawn why)) h = tt
among_more y xs (Some resolved.Voided) h = tt

naming_stand : (n k c who j p v : ℕ) (u : WaitId) (y : Option Wait) → IsNamed who j y
    → offer_of p v u j (name_clause n k c y) ≡ offer_of p v u j y
naming_stand n k c who j p v u None h = absurd h
naming_stand n k c who j p v u (Some x) h = refl

naming_await : (n k c who j p : ℕ) (u : WaitId) (y : Option Wait) → IsNamed who j y
    → receiver_of p u j (name_clause n k c y) ≡ receiver_of p u j y
naming_await n k c who j p u None h = absurd h
naming_await n k c who j p u (Some x) h = refl

naming_named : (n k c who j : ℕ) (y : Option Wait) → IsNamed who j y → IsNamed who j (name_clause n k c y)
naming_named n k c who j None h = absurd h
naming_named n k c who j (Some x) h = (h.0, any_more j (k, c) x.clauses h.1)

naming_own : (n k c : ℕ) (y : Option Wait) → IsAtOwnClause y → IsAtOwnClause (name_clause n k c y)
naming_own n k c None h = tt
naming_own n k c (Some x) h = among_more (k, c) x.clauses x.resolved h

pub naming_quiet : (n k c : ℕ) → Quiet (name_clause n k c)
naming_quiet n k c = record { stand = naming_stand n k c; await = naming_await n k c; named = naming_named n k c; own = naming_own n k c }

settled_stand : (outcome : Settled) → (who j p v : ℕ) (u : WaitId) (y : Option Wait) → IsNamed who j y
    → offer_of p v u j (settled_wait outcome y) ≡ offer_of p v u j y
settled_stand outcome who j p v u None h = refl
settled_stand outcome who j p v u (Some x) h = refl

settled_await : (outcome : Settled) → (who j p : ℕ) (u : WaitId) (y : Option Wait) → IsNamed who j y
    → receiver_of p u j (settled_wait outcome y) ≡ receiver_of p u j y
settled_await outcome who j p u None h = refl
settled_await outcome who j p u (Some x) h = refl

settled_named : (outcome : Settled) → (who j : ℕ) (y : Option Wait) → IsNamed who j y → IsNamed who j (settled_wait outcome y)
settled_named outcome who j None h = h
settled_named outcome who j (Some x) h = h

settled_own : (outcome : Settled) → (y : Option Wait) → IsAtOwnClause y → IsAtOwnClause (settled_wait outcome y)
settled_own outcome None h = h
settled_own outcome (Some x) h = h

pub settled_quiet : (outcome : Settled) → Quiet (settled_wait outcome)
settled_quiet outcome = record {
  stand = settled_stand outcome;
  await = settled_await outcome;
  named = settled_named outcome;
  own =
      settled_own outcome;
}

pub ties_settle : (b : Board) (w : WaitId) (outcome : Settled) → Tied b
    → Tied (board (record {
      channels = b.state.channels;
      waits = put_wait w (settled_wait outcome (b.state.waits w)) b.state.waits;
      stood =
          b.state.stood;
    }) b.cells)
ties_settle b w outcome t = ties_waits b _ t (unmoved b w (settled_wait outcome) (settled_quiet outcome) t)

same_unmoved : (b : Board) → Tied b → Unmoved b b.state.waits
same_unmoved b t = record { stand = λ d q. refl; await = λ d q. refl; named = λ who k u h. h; own = t.at_own_clause }

-- ---- the next place is given out

-- the cells of the channel, with the new one
pub placed_tied : (b : Board) (c : ℕ) (y : Cell) (ch : Channel) (waits' : WaitId → Option Wait) → Tied b → Unmoved b waits'
    → is_used y ≡ true → (b.state.channels c).closed ≡ None
    → ch.next ≡ (b.state.channels c).next + 1 → ch.queue ≡ add_some (standing waits' (b.state.channels c).next y) (b.state.channels c).queue
    → ch.receivers ≡ add_some (awaiting waits' (b.state.channels c).next y) (b.state.channels c).receivers
    → ch.closed ≡ None → ChannelTied waits' (set_cell b.cells c (b.state.channels c).next y c) ch
placed_tied b c y ch waits' t m used still_open next queue line closed = record {
  queue = queue ∙ ap (add_some (standing waits' n y)) (t.queues c)
      ∙ sym (gather_push (λ q. standing waits' q (cells' q)) _ n ch.next (standing waits' n y) next
      (λ q lt. ap (standing waits' q) (else_at q (λ e. omega arith)) ∙ m.stand c q) (ap (standing waits' n) (cell_here b.cells c n y)));
  line = line ∙ ap (add_some (awaiting waits' n y)) (t.lines c)
      ∙ sym (gather_push (λ q. awaiting waits' q (cells' q)) _ n ch.next (awaiting waits' n y) next
      (λ q lt. ap (awaiting waits' q) (else_at q (λ e. omega arith)) ∙ m.await c q) (ap (awaiting waits' n) (cell_here b.cells c n y)));
  used = λ q lt. dite (ℕ_discrete n q) (λ (e : n ≡ q). subst (λ (z : ℕ). is_used (cells' z) ≡ true) e (ap is_used (cell_here b.cells c n y)
      ∙ used)) (λ ne. ap is_used (else_at q ne) ∙ t.used c q (omega arith));
  ending = else_at ch.next (λ e. omega arith) ∙ t.unused c ch.next (omega arith) ∙ sym (ap (λ (z : Option ℕ). end_cell z ch.voided) closed);
  unused = λ q lt. else_at q (λ e. omega arith) ∙ t.unused c q (omega arith);
}
  where
    n : ℕ
    n = (b.state.channels c).next

    cells' : ℕ → Cell
    cells' = set_cell b.cells c n y c

    else_at : (q : ℕ) → (n ≡ q → ⊥) → cells' q ≡ b.cells c q
    else_at q ne = cell_else b.cells c n y c q (λ _ e. ne e)

pub ties_put : (b : Board) (c p v places : ℕ) → HasPlace places p (b.state.channels c) → Tied b
    → Tied (board
    (record {
      channels = put_channel c (place_offer true (record { place = p; value = v; holder = None }) (b.state.channels c))
          b.state.channels;
      waits = b.state.waits;
      stood = b.state.stood;
    }) (set_cell b.cells c p (buffered v)))
ties_put b c p v places h t =
    subst (λ (z : ℕ). Tied
    (board (record {
      channels = put_channel c (place_offer true (record { place = z; value = v; holder = None }) (b.state.channels c))
          b.state.channels;
      waits = b.state.waits;
      stood = b.state.stood;
    }) (set_cell b.cells c z (buffered v)))) (sym h.first)
    (ties_change b c (b.state.channels c).next (buffered v) _ b.state.waits t (same_unmoved b t)
    (placed_tied b c (buffered v) _ b.state.waits t (same_unmoved b t) refl h.open_now refl refl refl h.open_now)
    tt (λ w k z. absurd z))

-- a wait may be named by a clause that it does not have yet
unnamed : (b : Board) (who k c p : ℕ) (w : WaitId) → p ≡ (b.state.channels c).next → Placed b.state → MayName who k c p w b.state → (n : ℕ)
    → IsNamed n k (b.state.waits w) → ⊥
unnamed b who k c p w at h may n named = go (same_wait w (spot c p)) refl may
  where
    absent : (x : Option Wait) → x ≡ None → IsNamed n k x → ⊥
    absent None e h = h
    absent (Some x) e h = cc

    joining : (x : Option Wait) → JoinsWait who k c x → IsNamed n k x → ⊥
    joining None m h = m
    joining (Some x) m h = let e = m.other_clause in let f = h.1 in cc

    go : (t : Bool) → same_wait w (spot c p) ≡ t → MatchBool t (k ≤ 7) (JoinsWait who k c (b.state.waits w)) → ⊥
    go true e m =
        absent (b.state.waits w) (h w (subst (λ (u : WaitId). (b.state.channels u.channel).next ≤ u.place)
        (sym (same_wait-eq w (spot c p) e)) (omega arith))) named
    go false e m = joining (b.state.waits w) m named

-- the wait that is named is who's then
pub names_own : (b : Board) (who k c p : ℕ) (w : WaitId) → p ≡ (b.state.channels c).next → Placed b.state → MayName who k c p w b.state
    → IsNamed who k (name_clause who k c (b.state.waits w))
names_own b who k c p w at h may = go (same_wait w (spot c p)) refl may
  where
    absent : (x : Option Wait) → x ≡ None → IsNamed who k (name_clause who k c x)
    absent None e = (refl, here k)
    absent (Some x) e = cc

    joining : (x : Option Wait) → JoinsWait who k c x → IsNamed who k (name_clause who k c x)
    joining None m = absurd m
    joining (Some x) m = (m.own, any_last k c x.clauses)

    go : (t : Bool) → same_wait w (spot c p) ≡ t → MatchBool t (k ≤ 7) (JoinsWait who k c (b.state.waits w))
        → IsNamed who k (name_clause who k c (b.state.waits w))
    go true e m =
        absent (b.state.waits w) (h w (subst (λ (u : WaitId). (b.state.channels u.channel).next ≤ u.place)
        (sym (same_wait-eq w (spot c p) e)) (omega arith)))
    go false e m = joining (b.state.waits w) m

-- where a clause is placed with a wait that was resolved, nothing stands there
resolved_offer : (n k c p v : ℕ) (w : WaitId) (x : Option Wait) → is_open x ≡ false → IsAtOwnClause x → ((m : ℕ) → IsNamed m k x → ⊥)
    → offer_of p v w k (name_clause n k c x) ≡ None
resolved_offer n k c p v w None e h un = cc
resolved_offer n k c p v w (Some x) e h un = by_how x.resolved e h
  where
    ne : (j : ℕ) → list_any (λ (y : ℕ × ℕ). y.0 == j) x.clauses ≡ true → (j == k) ≡ false
    ne j h = go (j == k) refl
      where
        go : (t : Bool) → (j == k) ≡ t → t ≡ false
        go true e = absurd (un x.owner (refl, subst (λ (z : ℕ). list_any (λ (y : ℕ × ℕ). y.0 == z) x.clauses ≡ true) (eqb-true j k e) h))
        go false e = refl

    by_how : (how : Option Resolution) → is_open (Some (record x { resolved = how })) ≡ false → AdmittedAmong x.clauses how
        → offer_by p v w k how ≡ None
    by_how None e h = cc
    by_how (Some (resolved.Handed j y)) e h = refl
    by_how (Some (resolved.Taken j)) e h = refl
    by_how (Some (resolved.Admitted j)) e h = ap (λ (t : Bool). if t then Some (record { place = p; value = v; holder = None }) else None)
        (ne j h)
    by_how (Some (resolved.Closed j y)) e h = refl
    by_how (Some (resolved.Withdrawn why)) e h = refl
    by_how (Some resolved.Voided) e h = refl

open_offer : (n k c p v : ℕ) (w : WaitId) (x : Option Wait) → is_open x ≡ true
    → offer_of p v w k (name_clause n k c x) ≡ Some (record { place = p; value = v; holder = Some (record { wait = w; clause = k }) })
open_offer n k c p v w None e = refl
open_offer n k c p v w (Some x) e = by_how x.resolved e
  where
    by_how : (how : Option Resolution) → is_open (Some (record x { resolved = how })) ≡ true
        → offer_by p v w k how ≡ Some (record { place = p; value = v; holder = Some (record { wait = w; clause = k }) })
    by_how None e = refl
    by_how (Some how) e = cc

open_receiver : (n k c p : ℕ) (w : WaitId) (x : Option Wait) → is_open x ≡ true
    → receiver_of p w k (name_clause n k c x) ≡ Some (record { place = p; party = record { wait = w; clause = k } })
open_receiver n k c p w None e = refl
open_receiver n k c p w (Some x) e = by_how x.resolved e
  where
    by_how : (how : Option Resolution) → is_open (Some (record x { resolved = how })) ≡ true
        → receiver_by p w k how ≡ Some (record { place = p; party = record { wait = w; clause = k } })
    by_how None e = refl
    by_how (Some how) e = cc

resolved_receiver : (n k c p : ℕ) (w : WaitId) (x : Option Wait) → is_open x ≡ false → receiver_of p w k (name_clause n k c x) ≡ None
resolved_receiver n k c p w None e = cc
resolved_receiver n k c p w (Some x) e = by_how x.resolved e
  where
    by_how : (how : Option Resolution) → is_open (Some (record x { resolved = how })) ≡ false → receiver_by p w k how ≡ None
    by_how None e = cc
    by_how (Some how) e = refl

module _ (b : Board) (who c k places : ℕ) (w : WaitId) (h : HasPlace places (b.state.channels c).next (b.state.channels c))
    (pl : Placed b.state) (may : MayName who k c (b.state.channels c).next w b.state) (t : Tied b) where
  abbrev n : ℕ
  n = (b.state.channels c).next

  abbrev waits' : WaitId → Option Wait
  waits' = put_wait w (name_clause who k c (b.state.waits w)) b.state.waits

  moved : Unmoved b (put_wait w (name_clause who k c (b.state.waits w)) b.state.waits)
  moved = unmoved b w (name_clause who k c) (naming_quiet who k c) t

  fresh : (d q : ℕ) (u : WaitId) (j : ℕ) → (w ≡ u) × (k ≡ j) → NamesAt u j (b.cells d q) → ⊥
  fresh d q u j same m = by_cell (b.cells d q) (t.named d q)
      (subst (λ (z : WaitId × ℕ). NamesAt z.0 z.1 (b.cells d q)) (λ i. (sym same.0 i, sym same.1 i)) m)
    where
      names_it : (m : ℕ) (v : WaitId) (i : ℕ) → (v ≡ w) × (i ≡ k) → IsNamed m i (b.state.waits v) → ⊥
      names_it m v i e h = unnamed b who k c (b.state.channels c).next w refl pl may m
          (subst (λ (z : WaitId × ℕ). IsNamed m z.1 (b.state.waits z.0)) (λ i. (e.0 i, e.1 i)) h)

      by_cell : (y : Cell) → CellNamed b.state.waits y → NamesAt w k y → ⊥
      by_cell free h m = m
      by_cell (receiver n v i) h m = names_it n v i m h
      by_cell (offer x n v i) h m = names_it n v i m h
      by_cell (buffered v) h m = m
      by_cell other h m = m

  own_name : IsNamed who k (put_wait w (name_clause who k c (b.state.waits w)) b.state.waits w)
  own_name = subst (IsNamed who k) (sym (at_wait w (name_clause who k c (b.state.waits w)) b.state.waits))
      (names_own b who k c (b.state.channels c).next w refl pl may)

  offer_here : (v : ℕ) → standing (put_wait w (name_clause who k c (b.state.waits w)) b.state.waits) (b.state.channels c).next
      (offer v who w k) ≡ offer_of (b.state.channels c).next v w k (name_clause who k c (b.state.waits w))
  offer_here v = ap (offer_of (b.state.channels c).next v w k) (at_wait w (name_clause who k c (b.state.waits w)) b.state.waits)

  receiver_here : awaiting (put_wait w (name_clause who k c (b.state.waits w)) b.state.waits) (b.state.channels c).next (receiver who w k) ≡
      receiver_of (b.state.channels c).next w k (name_clause who k c (b.state.waits w))
  receiver_here = ap (receiver_of (b.state.channels c).next w k) (at_wait w (name_clause who k c (b.state.waits w)) b.state.waits)

  offer_tied : (v : ℕ) (e : Bool) → is_open (b.state.waits w) ≡ e
      → ChannelTied (put_wait w (name_clause who k c (b.state.waits w)) b.state.waits)
      (set_cell b.cells c (b.state.channels c).next (offer v who w k) c)
      (place_offer e (record { place = (b.state.channels c).next; value = v; holder = Some (record { wait = w; clause = k }) })
      (b.state.channels c))
  offer_tied v true e = placed_tied b c (offer v who w k) _ _ t moved refl h.open_now refl
      (ap (λ o. add_some o (b.state.channels c).queue) (sym (offer_here v
      ∙ open_offer who k c (b.state.channels c).next v w (b.state.waits w) e))) refl h.open_now
  offer_tied v false e = placed_tied b c (offer v who w k) _ _ t moved refl h.open_now refl
      (ap (λ o. add_some o (b.state.channels c).queue) (sym (offer_here v
      ∙ resolved_offer who k c (b.state.channels c).next v w (b.state.waits w) e (t.at_own_clause w)
      (unnamed b who k c (b.state.channels c).next w refl pl may)))) refl h.open_now

  receiver_tied : (e : Bool) → is_open (b.state.waits w) ≡ e
      → ChannelTied (put_wait w (name_clause who k c (b.state.waits w)) b.state.waits)
      (set_cell b.cells c (b.state.channels c).next (receiver who w k) c)
      (place_receiver e (record { place = (b.state.channels c).next; party = record { wait = w; clause = k } }) (b.state.channels c))
  receiver_tied true e = placed_tied b c (receiver who w k) _ _ t moved refl h.open_now refl refl
      (ap (λ o. add_some o (b.state.channels c).receivers) (sym (receiver_here
      ∙ open_receiver who k c (b.state.channels c).next w (b.state.waits w) e))) h.open_now
  receiver_tied false e = placed_tied b c (receiver who w k) _ _ t moved refl h.open_now refl refl
      (ap (λ o. add_some o (b.state.channels c).receivers) (sym (receiver_here
      ∙ resolved_receiver who k c (b.state.channels c).next w (b.state.waits w) e))) h.open_now

  offer_at_next : (v : ℕ)
      → Tied (board
      (record {
        channels = put_channel c (place_offer (is_open (b.state.waits w))
            (record { place = (b.state.channels c).next; value = v; holder = Some (record { wait = w; clause = k }) }) (b.state.channels c))
            b.state.channels;
        waits = put_wait w (name_clause who k c (b.state.waits w)) b.state.waits;
        stood = b.state.stood;
      })
      (set_cell b.cells c (b.state.channels c).next (offer v who w k)))
  offer_at_next v = ties_change b c (b.state.channels c).next (offer v who w k) _ _ t moved (offer_tied v (is_open (b.state.waits w)) refl)
      own_name (λ u j m d q. fresh d q u j m)

  receiver_at_next : Tied
      (board (record {
        channels = put_channel c (place_receiver (is_open (b.state.waits w))
            (record { place = (b.state.channels c).next; party = record { wait = w; clause = k } }) (b.state.channels c)) b.state.channels;
        waits = put_wait w (name_clause who k c (b.state.waits w)) b.state.waits;
        stood = b.state.stood;
      })
      (set_cell b.cells c (b.state.channels c).next (receiver who w k)))
  receiver_at_next = ties_change b c (b.state.channels c).next (receiver who w k) _ _ t moved
      (receiver_tied (is_open (b.state.waits w)) refl) own_name (λ u j m d q. fresh d q u j m)

pub ties_offer : (b : Board) (who c p v k places : ℕ) (w : WaitId) → HasPlace places p (b.state.channels c) → Placed b.state
    → MayName who k c p w b.state → Tied b
    → Tied (board
    (record {
      channels = put_channel c (place_offer (is_open (b.state.waits w))
          (record { place = p; value = v; holder = Some (record { wait = w; clause = k }) }) (b.state.channels c)) b.state.channels;
      waits =
          put_wait w (name_clause who k c (b.state.waits w)) b.state.waits;
      stood = b.state.stood;
    }) (set_cell b.cells c p (offer v who w k)))
ties_offer b who c p v k places w h pl may t = subst
    (λ (z : ℕ). HasPlace places z (b.state.channels c) → MayName who k c z w b.state
    → Tied (board
    (record {
      channels = put_channel c (place_offer (is_open (b.state.waits w))
          (record { place = z; value = v; holder = Some (record { wait = w; clause = k }) }) (b.state.channels c)) b.state.channels;
      waits =
          put_wait w (name_clause who k c (b.state.waits w)) b.state.waits;
      stood = b.state.stood;
    })
    (set_cell b.cells c z (offer v who w k))))
    (sym h.first) (λ h' may'. offer_at_next b who c k places w h' pl may' t v) h may

pub ties_await : (b : Board) (who c p k places : ℕ) (w : WaitId) → HasPlace places p (b.state.channels c) → Placed b.state
    → MayName who k c p w b.state → Tied b
    → Tied (board
    (record {
      channels = put_channel c (place_receiver (is_open (b.state.waits w))
          (record { place = p; party = record { wait = w; clause = k } }) (b.state.channels c)) b.state.channels;
      waits =
          put_wait w (name_clause who k c (b.state.waits w)) b.state.waits;
      stood = b.state.stood;
    })
    (set_cell b.cells c p (receiver who w k)))
ties_await b who c p k places w h pl may t = subst
    (λ (z : ℕ). HasPlace places z (b.state.channels c) → MayName who k c z w b.state
    → Tied (board
    (record {
      channels = put_channel c (place_receiver (is_open (b.state.waits w))
          (record { place = z; party = record { wait = w; clause = k } }) (b.state.channels c)) b.state.channels;
      waits =
          put_wait w (name_clause who k c (b.state.waits w)) b.state.waits;
      stood = b.state.stood;
    })
    (set_cell b.cells c z (receiver who w k))))
    (sym h.first) (λ h' may'. receiver_at_next b who c k places w h' pl may' t) h may
