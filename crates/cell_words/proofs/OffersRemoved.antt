-- Who is served, told or removed keeps the tie of lists and cells.
use Rattle.std.proofs.Common.{◌≡◌, ℕ, ◌<◌, eqb, Bool, true, not, cond, List, [], ◌∷◌, filter, if◌then◌else◌, Option, Some, None, sym, refl, ap, ◌∙◌, subst, arith, eq-eqb, ne_eqb}
use mathlib.Core.Logic.{dite}
use native.Mathlib.Decide.{ℕ_discrete}
use Rattle.co_base.specs.declared.names.WaitId.{WaitId}
use Rattle.channel_model.specs.declared.standing.Party.{Party}
use Rattle.channel_model.specs.declared.standing.Standing.{Standing}
use Rattle.channel_model.specs.declared.standing.Receiver.{Receiver}
use Rattle.channel_model.specs.declared.standing.Resolution.{Resolution}
use Rattle.channel_model.specs.Channels.{State, Channel, Wait, same_wait}
use Rattle.channel_model.specs.Effects.{resolve, resolve_first, resolve_holder, resolve_offer, remove_first, with_queue, without, is_held_by, put_channel, put_wait, resolved_wait}
use Rattle.channel_model.specs.Needs.{IsFirstOffer, IsOpenOf}
use Rattle.channel_model.proofs.Waits.{same_wait-refl}
use Rattle.word_rules.specs.Cells.{Cell, emptied, Cells, set_cell, standing, awaiting, emptied_unless, emptied_if, Board, gather, is_used, end_cell}
use Rattle.cell_words.proofs.GatheredLists.{gather_same, gather_first, gather_head}
use Rattle.cell_words.proofs.ListsOfCells.{board, NamesAt, CellNamed, Tied, ties_change, ties_resolve, Final, IsReceiver, awaiting_is, IsOffer, held, kept_here, standing_is, cell_here, cell_else, set_same, by_channel}

-- ---- receivers

-- the place of the first receiver, and its cell
pub record FirstInLine (b : Board) (c : ℕ) (r : Receiver) : Type 0 where
  pub place : ℕ
  pub given : place < (b.state.channels c).next
  pub is : IsReceiver b.state.waits place (b.cells c place) r
  pub before : (q : ℕ) → q < place → awaiting b.state.waits q (b.cells c q) ≡ None

pub first_in_line : (b : Board) (c : ℕ) (r : Receiver) (rs : List Receiver) → Tied b → (b.state.channels c).receivers ≡ r ∷ rs
    → FirstInLine b c r
first_in_line b c r rs t e = let h = gather_head _ (b.state.channels c).next r rs (sym (t.lines c) ∙ e) in
    record { place = h.0; given = h.1; is = awaiting_is b.state.waits h.0 (b.cells c h.0) r h.2; before = h.3 }

pub ties_first : (b : Board) (c : ℕ) (how : ℕ → Resolution) → ((k : ℕ) → Final (how k)) → Tied b → (rs : List Receiver)
    → (b.state.channels c).receivers ≡ rs → Tied (board (resolve_first rs how b.state) b.cells)
ties_first b c how fin t [] e = t
ties_first b c how fin t (r ∷ rs) e = let f = first_in_line b c r rs t e
    in ties_resolve b r.party.wait (how r.party.clause) f.is.wait (fin r.party.clause) f.is.was f.is.still_open t

pub ties_withdraw : (b : Board) (who : ℕ) (w : WaitId) (how : Resolution) → Final how → IsOpenOf who (b.state.waits w) → Tied b
    → Tied (board (resolve w how b.state) b.cells)
ties_withdraw b who w how fin h t = go (b.state.waits w) refl h
  where
    go : (y : Option Wait) → b.state.waits w ≡ y → IsOpenOf who y → Tied (board (resolve w how b.state) b.cells)
    go None e h = absurd h
    go (Some x) e h = ties_resolve b w how x fin e h.1 t

-- ---- offers

-- the place of the first offer, and its cell
pub record FirstInQueue (b : Board) (c : ℕ) (o : Standing) (os : List Standing) : Type 0 where
  pub place : ℕ
  pub given : place < (b.state.channels c).next
  pub here : standing b.state.waits place (b.cells c place) ≡ Some o
  pub is : IsOffer b.state.waits place (b.cells c place) o
  pub before : (q : ℕ) → q < place → standing b.state.waits q (b.cells c q) ≡ None
  pub rest : os ≡ gather (λ q. if eqb q place then None else standing b.state.waits q (b.cells c q)) (b.state.channels c).next

abbrev tail_of : List Standing → List Standing
tail_of [] = []
tail_of (x ∷ xs) = xs

pub first_in_queue : (b : Board) (c : ℕ) (o : Standing) (os : List Standing) → Tied b → (b.state.channels c).queue ≡ o ∷ os
    → FirstInQueue b c o os
first_in_queue b c o os t e = let h = gather_head _ (b.state.channels c).next o os (sym (t.queues c) ∙ e) in
    let all : o ∷ os ≡ o ∷ gather (λ q. if eqb q h.0 then None else standing b.state.waits q (b.cells c q)) (b.state.channels c).next =
    sym e ∙ t.queues c ∙ gather_first _ (b.state.channels c).next h.0 o h.1 h.3 h.2 in
    record {
      place = h.0;
      given = h.1;
      here = h.2;
      is = standing_is b.state.waits h.0 (b.cells c h.0) o h.2;
      before = h.3;
      rest =
          ap tail_of all;
    }

pub offer_place : (waits : WaitId → Option Wait) (p : ℕ) (y : Cell) (o : Standing) → IsOffer waits p y o → o.place ≡ p
offer_place waits p y o (held who h x cell place holder was still_open) = place
offer_place waits p y o (kept_here line place holder) = place

-- an offer without a holder is removed, and its cell emptied
pub ties_empty : (b : Board) (c v : ℕ) (o : Standing) (os : List Standing) (f : FirstInQueue b c o os)
    → awaiting b.state.waits f.place (b.cells c f.place) ≡ None → Tied b
    → Tied (board (with_queue c os b.state) (set_cell b.cells c f.place (emptied v)))
ties_empty b c v o os f line t = ties_change b c f.place (emptied v) (record (b.state.channels c) { queue = os }) b.state.waits t
    (record { stand = λ d q. refl; await = λ d q. refl; named = λ who k u h. h; own = t.at_own_clause })
    (record {
      queue = f.rest ∙ gather_same _ _ (b.state.channels c).next (λ q lt. sym (by_place q));
      line = t.lines c ∙ gather_same _ _ (b.state.channels c).next (λ q lt. sym (line_place q));
      used = λ q lt. dite (ℕ_discrete f.place q) (λ (e : f.place ≡ q). subst (λ (z : ℕ). is_used (cells' z) ≡ true) e
          (ap is_used (cell_here b.cells c f.place (emptied v)))) (λ ne. ap is_used (else_at q ne) ∙ t.used c q lt);
      ending = else_at (b.state.channels c).next (λ e. let g = f.given in omega arith) ∙ t.ending c;
      unused = λ q lt. else_at q (λ e. let g = f.given in omega arith) ∙ t.unused c q lt;
    })
    tt (λ w k m d q z. m)
  where
    cells' : ℕ → Cell
    cells' = set_cell b.cells c f.place (emptied v) c

    else_at : (q : ℕ) → (f.place ≡ q → ⊥) → cells' q ≡ b.cells c q
    else_at q ne = cell_else b.cells c f.place (emptied v) c q (λ _ e. ne e)

    by_place : (q : ℕ) → standing b.state.waits q (cells' q) ≡ (if eqb q f.place then None else standing b.state.waits q (b.cells c q))
    by_place q = dite (ℕ_discrete f.place q)
        (λ (e : f.place ≡ q). subst (λ (z : ℕ). standing b.state.waits z (cells' z) ≡
        (if eqb z f.place then None else standing b.state.waits z (b.cells c z))) e
        (ap (standing b.state.waits f.place) (cell_here b.cells c f.place (emptied v))
        ∙ sym (ap (λ (t : Bool). if t then None else standing b.state.waits f.place (b.cells c f.place))
        (eq-eqb f.place f.place refl))))
        (λ ne. ap (standing b.state.waits q) (else_at q ne) ∙ sym
        (ap (λ (t : Bool). if t then None else standing b.state.waits q (b.cells c q)) (ne_eqb q f.place (λ e. ne (sym e)))))

    line_place : (q : ℕ) → awaiting b.state.waits q (cells' q) ≡ awaiting b.state.waits q (b.cells c q)
    line_place q = dite (ℕ_discrete f.place q)
        (λ (e : f.place ≡ q). subst (λ (z : ℕ). awaiting b.state.waits z (cells' z) ≡ awaiting b.state.waits z (b.cells c z)) e
        (ap (awaiting b.state.waits f.place) (cell_here b.cells c f.place (emptied v)) ∙ sym line))
        (λ ne. ap (awaiting b.state.waits q) (else_at q ne))

-- to take the first offer out by its wait removes it
filter_first : (w : WaitId) (o : Standing) (os q : List Standing) → q ≡ o ∷ os → is_held_by w o.holder ≡ true
    → filter (λ (x : Standing). not (is_held_by w x.holder)) os ≡ filter (λ (x : Standing). not (is_held_by w x.holder)) q
filter_first w o os q e h = sym (ap (filter (λ (x : Standing). not (is_held_by w x.holder))) e
    ∙ ap (λ (t : Bool). cond (not t) (o ∷ filter (λ (x : Standing). not (is_held_by w x.holder)) os)
    (filter (λ (x : Standing). not (is_held_by w x.holder)) os)) h)

pub resolve_removed : (s : State) (c : ℕ) (o : Standing) (os : List Standing) (w : WaitId) (how : Resolution)
    → (s.channels c).queue ≡ o ∷ os → is_held_by w o.holder ≡ true → resolve w how (with_queue c os s) ≡ resolve w how s
resolve_removed s c o os w how e h = λ i. record {
  channels = λ d. same d i;
  waits = put_wait w (resolved_wait how (s.waits w)) s.waits;
  stood = s.stood;
}
  where
    same : (d : ℕ) → without w (put_channel c (record (s.channels c) { queue = os }) s.channels d) ≡ without w (s.channels d)
    same = by_channel (λ d ch. without w ch ≡ without w (s.channels d)) c (record (s.channels c) { queue = os }) s.channels
        (ap (λ (l : List Standing). record (s.channels c) {
          queue = l;
          receivers =
              filter (λ r. not (same_wait w r.party.wait)) (s.channels c).receivers;
        }) (filter_first w o os (s.channels c).queue e h))
        (λ d ne. refl)

-- the first offer is removed, and its holder resolved
pub ties_take : (b : Board) (c p v : ℕ) (how : ℕ → Resolution) → ((k : ℕ) → Final (how k)) → IsFirstOffer p v (b.state.channels c).queue
    → Tied b
    → Tied (board (resolve_offer c (b.state.channels c).queue how b.state)
    (set_cell b.cells c p (emptied_if (standing b.state.waits p (b.cells c p)) (b.cells c p))))
ties_take b c p v how fin first t = go (b.state.channels c).queue refl first
  where
    y : Cell
    y = emptied_if (standing b.state.waits p (b.cells c p)) (b.cells c p)

    by_offer : (o : Standing) (os : List Standing) → (b.state.channels c).queue ≡ o ∷ os → (f : FirstInQueue b c o os) → f.place ≡ p
        → IsOffer b.state.waits f.place (b.cells c f.place) o
        → Tied (board (resolve_holder o.holder how (with_queue c os b.state)) (set_cell b.cells c p y))
    by_offer o os e f at (held who h x cell place holder was still_open) =
        let by : is_held_by h.wait o.holder ≡ true = ap (is_held_by h.wait) holder ∙ same_wait-refl h.wait in
        let y_is : y ≡ b.cells c p = ap (λ (z : Option Standing). emptied_if z (b.cells c p))
        (subst (λ (z : ℕ). standing b.state.waits z (b.cells c z) ≡ Some o) at f.here)
        ∙ ap (λ (z : Option Party). emptied_unless z o.value (b.cells c p)) holder in
        subst (λ (z : Option Party × Cells). Tied (board (resolve_holder z.0 how (with_queue c os b.state)) z.1))
        (λ i. (sym holder i, sym (set_same b.cells c p y y_is) i))
        (subst (λ (s : State). Tied (board s b.cells)) (sym (resolve_removed b.state c o os h.wait (how h.clause) e by))
        (ties_resolve b h.wait (how h.clause) x (fin h.clause) was still_open t))
    by_offer o os e f at (kept_here line place holder) =
        let y_is : y ≡ emptied o.value = ap (λ (z : Option Standing). emptied_if z (b.cells c p))
        (subst (λ (z : ℕ). standing b.state.waits z (b.cells c z) ≡ Some o) at f.here)
        ∙ ap (λ (z : Option Party). emptied_unless z o.value (b.cells c p)) holder in
        subst (λ (z : Option Party × (ℕ × Cell)). Tied (board (resolve_holder z.0 how (with_queue c os b.state))
        (set_cell b.cells c z.1.0 z.1.1))) (λ i. (sym holder i, (at i, sym y_is i)))
        (ties_empty b c o.value o os f line t)

    go : (q : List Standing) → (b.state.channels c).queue ≡ q → IsFirstOffer p v q
        → Tied (board (resolve_offer c q how b.state) (set_cell b.cells c p y))
    go [] e h = absurd h
    go (o ∷ os) e h = let f = first_in_queue b c o os t e
        in by_offer o os e f (sym (offer_place b.state.waits f.place (b.cells c f.place) o f.is) ∙ h.0) f.is

-- the same where no offer of the channel is held
pub ties_drop : (b : Board) (c p v : ℕ) → IsFirstOffer p v (b.state.channels c).queue
    → ((o : Standing) (os : List Standing) → (b.state.channels c).queue ≡ o ∷ os → o.holder ≡ None) → Tied b
    → Tied (board (remove_first c (b.state.channels c).queue b.state)
    (set_cell b.cells c p (emptied_if (standing b.state.waits p (b.cells c p)) (b.cells c p))))
ties_drop b c p v first none t = go (b.state.channels c).queue refl first
  where
    y : Cell
    y = emptied_if (standing b.state.waits p (b.cells c p)) (b.cells c p)

    by_offer : (o : Standing) (os : List Standing) → o.holder ≡ None → (f : FirstInQueue b c o os) → f.place ≡ p
        → IsOffer b.state.waits f.place (b.cells c f.place) o → Tied (board (with_queue c os b.state) (set_cell b.cells c p y))
    by_offer o os un f at (held who h x cell place holder was still_open) = let e : Some h ≡ None = sym holder ∙ un in cc
    by_offer o os un f at (kept_here line place holder) =
        let y_is : y ≡ emptied o.value = ap (λ (z : Option Standing). emptied_if z (b.cells c p))
        (subst (λ (z : ℕ). standing b.state.waits z (b.cells c z) ≡ Some o) at f.here)
        ∙ ap (λ (z : Option Party). emptied_unless z o.value (b.cells c p)) holder in
        subst (λ (z : ℕ × Cell). Tied (board (with_queue c os b.state) (set_cell b.cells c z.0 z.1))) (λ i. (at i, sym y_is i))
        (ties_empty b c o.value o os f line t)

    go : (q : List Standing) → (b.state.channels c).queue ≡ q → IsFirstOffer p v q
        → Tied (board (remove_first c q b.state) (set_cell b.cells c p y))
    go [] e h = absurd h
    go (o ∷ os) e h = let f = first_in_queue b c o os t e
        in by_offer o os (none o os e) f (sym (offer_place b.state.waits f.place (b.cells c f.place) o f.is) ∙ h.0) f.is

-- ---- the end of a channel

-- the cell of the next place, which nobody was given
pub ties_end : (b : Board) (c : ℕ) (y : Cell) (ch : Channel) → ch.next ≡ (b.state.channels c).next → ch.queue ≡ (b.state.channels c).queue
    → ch.receivers ≡ (b.state.channels c).receivers → y ≡ end_cell ch.closed ch.voided
    → CellNamed b.state.waits y → ((w : WaitId) (k : ℕ) → NamesAt w k y → ⊥) → Tied b
    → Tied (board (record { channels = put_channel c ch b.state.channels; waits = b.state.waits; stood = b.state.stood })
    (set_cell b.cells c (b.state.channels c).next y))
ties_end b c y ch next queue line is named none t = ties_change b c (b.state.channels c).next y ch b.state.waits t
    (record { stand = λ d q. refl; await = λ d q. refl; named = λ who k u h. h; own = t.at_own_clause })
    (record {
      queue = queue ∙ t.queues c ∙ ap (gather (λ q. standing b.state.waits q (b.cells c q))) (sym next)
          ∙ gather_same _ _ ch.next (λ q lt. ap (standing b.state.waits q) (sym (else_at q (λ e. omega arith))));
      line = line ∙ t.lines c ∙ ap (gather (λ q. awaiting b.state.waits q (b.cells c q))) (sym next)
          ∙ gather_same _ _ ch.next (λ q lt. ap (awaiting b.state.waits q) (sym (else_at q (λ e. omega arith))));
      used = λ q lt. ap is_used (else_at q (λ e. omega arith)) ∙ t.used c q (omega arith);
      ending = ap cells' next ∙ cell_here b.cells c (b.state.channels c).next y ∙ is;
      unused = λ q lt. else_at q (λ e. omega arith) ∙ t.unused c q (omega arith);
    })
    named (λ w k m d q z. none w k m)
  where
    cells' : ℕ → Cell
    cells' = set_cell b.cells c (b.state.channels c).next y c

    else_at : (q : ℕ) → ((b.state.channels c).next ≡ q → ⊥) → cells' q ≡ b.cells c q
    else_at q ne = cell_else b.cells c (b.state.channels c).next y c q (λ _ e. ne e)
