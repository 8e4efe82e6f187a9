-- An offer that nobody waits with is removed from among the others: it stands in its cell, which is emptied.
use Rattle.std.proofs.Common.{◌≡◌, ℕ, zero, suc, ◌<◌, ◌==◌, Bool, true, false, not, List, [], ◌∷◌, ◌++◌, if◌then◌else◌, MatchBool, Option, Some, None, is_none, sym, refl, ap, ◌∙◌, subst, arith, eq-eqb}
use Rattle.std.specs.List.{list_all}
use Rattle.std.proofs.lemmas.Bool.{eqb-true}
use mathlib.Core.Logic.{dite}
use native.Mathlib.Decide.{ℕ_discrete}
use Rattle.co_base.specs.declared.names.WaitId.{WaitId}
use Rattle.channel_model.specs.declared.standing.Party.{Party}
use Rattle.channel_model.specs.declared.standing.Standing.{Standing}
use Rattle.channel_model.specs.Channels.{Wait}
use Rattle.channel_model.specs.Effects.{with_queue, is_elsewhere, spurned}
use Rattle.channel_model.specs.Needs.{IsOfferAt}
use Rattle.channel_model.proofs.Elements.{all_first, all_rest}
use Rattle.channel_model.proofs.GoneForGood.{elsewhere}
use Rattle.word_rules.specs.Cells.{Cell, emptied, set_cell, standing, awaiting, emptied_unless, emptied_if, Board, add_some, gather, is_used}
use Rattle.cell_words.proofs.GatheredLists.{gather_same, gather_in, gather_all, all_gather, gather_filter, keep}
use Rattle.cell_words.proofs.ListsOfCells.{board, Tied, ties_change, IsOffer, held, kept_here, standing_is, cell_here, cell_else}
use Rattle.cell_words.proofs.OffersRemoved.{offer_place}

-- ---- an offer of a list, by its place

record FoundAt (p v : ℕ) (os : List Standing) : Type 0 where
  before : List Standing
  it : Standing
  rest : List Standing
  all : os ≡ before ++ it ∷ rest
  place : it.place ≡ p
  value : it.value ≡ v

found_at : (p v : ℕ) (os : List Standing) → IsOfferAt p v os → FoundAt p v os
found_at p v [] h = absurd h
found_at p v (o ∷ os) h = by_test (o.place == p) refl h (λ k. found_at p v os k)
  where
    by_test : (b : Bool) → (o.place == p) ≡ b → MatchBool b (o.value ≡ v) (IsOfferAt p v os) → (IsOfferAt p v os → FoundAt p v os)
        → FoundAt p v (o ∷ os)
    by_test true e h rest = record { before = []; it = o; rest = os; all = refl; place = eqb-true o.place p e; value = h }
    by_test false e h rest = let f = rest h in record {
      before = o ∷ f.before;
      it = f.it;
      rest = f.rest;
      all =
          ap (λ (l : List Standing). o ∷ l) f.all;
      place = f.place;
      value = f.value;
    }

offer_push : (p v : ℕ) (os : List Standing) (x : Standing) → IsOfferAt p v os → IsOfferAt p v (os ++ x ∷ [])
offer_push p v [] x h = absurd h
offer_push p v (o ∷ os) x h = by_test (o.place == p) h (λ k. offer_push p v os x k)
  where
    by_test : (b : Bool) → MatchBool b (o.value ≡ v) (IsOfferAt p v os) → (IsOfferAt p v os → IsOfferAt p v (os ++ x ∷ []))
        → MatchBool b (o.value ≡ v) (IsOfferAt p v (os ++ x ∷ []))
    by_test true h rest = h
    by_test false h rest = rest h

offer_last : (p : ℕ) (os : List Standing) (o : Standing) → list_all (is_elsewhere p) os ≡ true → o.place ≡ p
    → IsOfferAt p o.value (os ++ o ∷ [])
offer_last p [] o h e = subst (λ (b : Bool). MatchBool b (o.value ≡ o.value) ⊥) (sym (eq-eqb o.place p e)) refl
offer_last p (x ∷ os) o h e = by_test (x.place == p) (all_first (is_elsewhere p) x os h)
    (offer_last p os o (all_rest (is_elsewhere p) x os h) e)
  where
    by_test : (b : Bool) → not b ≡ true → IsOfferAt p o.value (os ++ o ∷ [])
        → MatchBool b (x.value ≡ o.value) (IsOfferAt p o.value (os ++ o ∷ []))
    by_test true h rest = cc
    by_test false h rest = rest

-- ---- the same of a list that is gathered by place

module _ (f : ℕ → Option Standing) (at : (q : ℕ) (o : Standing) → f q ≡ Some o → o.place ≡ q) where
  -- where none stands at a place, or no place is so high
  pub none_gathered : (p n : ℕ) → ((q : ℕ) → q < n → q ≡ p → f q ≡ None) → list_all (is_elsewhere p) (gather f n) ≡ true
  none_gathered p n none = all_gather (is_elsewhere p) f n
      (λ q x lt e. elsewhere x p (λ is. let g : Some x ≡ None = sym e ∙ none q lt (sym (at q x e) ∙ is) in cc))

  pub offer_gathered : (p n : ℕ) (o : Standing) → p < n → f p ≡ Some o → IsOfferAt p o.value (gather f n)
  offer_gathered p zero o lt e = absurd (omega arith)
  offer_gathered p (suc n) o lt e = dite (ℕ_discrete n p) last (λ ne. more (f n) (offer_gathered p n o (omega arith) e))
    where
      last : n ≡ p → IsOfferAt p o.value (add_some (f n) (gather f n))
      last is = subst (λ (x : Option Standing). IsOfferAt p o.value (add_some x (gather f n))) (sym (ap f is ∙ e))
          (offer_last p (gather f n) o (none_gathered p n (λ q lt k. absurd (omega arith))) (at p o e))

      more : (x : Option Standing) → IsOfferAt p o.value (gather f n) → IsOfferAt p o.value (add_some x (gather f n))
      more None h = h
      more (Some x) h = offer_push p o.value (gather f n) x h

-- ---- it is removed

pub none_holder : (h : Option Party) → is_none h ≡ true → h ≡ None
none_holder None e = refl
none_holder (Some p) e = cc

-- nobody awaits an element in a cell where one is kept
none_awaits : (waits : WaitId → Option Wait) (p : ℕ) (y : Cell) (o : Standing) → o.holder ≡ None → IsOffer waits p y o
    → awaiting waits p y ≡ None
none_awaits waits p y o none (held who h x cell place holder was still_open) = let e : Some h ≡ None = sym holder ∙ none in cc
none_awaits waits p y o none (kept_here line place holder) = line

module _ (b : Board) (c p : ℕ) (o : Standing) (lt : p < (b.state.channels c).next) (at : o.place ≡ p)
    (here : standing b.state.waits p (b.cells c p) ≡ Some o) (line : awaiting b.state.waits p (b.cells c p) ≡ None) (t : Tied b) where
  abbrev cells' : ℕ → Cell
  cells' = set_cell b.cells c p (emptied o.value) c

  else_at : (q : ℕ) → (p ≡ q → ⊥) → cells' q ≡ b.cells c q
  else_at q ne = cell_else b.cells c p (emptied o.value) c q (λ _ e. ne e)

  abbrev stands : ℕ → Option Standing
  stands q = standing b.state.waits q (b.cells c q)

  gone_here : keep (is_elsewhere p) (Some o) ≡ None
  gone_here = ap (λ (k : Bool). if not k then Some o else None) (eq-eqb o.place p at)

  stays_there : (q : ℕ) → (p ≡ q → ⊥) → (x : Option Standing) → stands q ≡ x → x ≡ keep (is_elsewhere p) x
  stays_there q ne None e = refl
  stays_there q ne (Some x) e = sym (ap (λ (k : Bool). if k then Some x else None)
      (elsewhere x p (λ is. ne (sym is ∙ offer_place b.state.waits q (b.cells c q) x (standing_is b.state.waits q (b.cells c q) x e)))))

  by_place : (q : ℕ) → standing b.state.waits q (cells' q) ≡ keep (is_elsewhere p) (stands q)
  by_place q = dite (ℕ_discrete p q)
      (λ (e : p ≡ q). subst (λ (z : ℕ). standing b.state.waits z (cells' z) ≡ keep (is_elsewhere p) (stands z)) e
      (ap (standing b.state.waits p) (cell_here b.cells c p (emptied o.value)) ∙ sym (ap (keep (is_elsewhere p)) here ∙ gone_here)))
      (λ ne. ap (standing b.state.waits q) (else_at q ne) ∙ stays_there q ne (stands q) refl)

  line_place : (q : ℕ) → awaiting b.state.waits q (cells' q) ≡ awaiting b.state.waits q (b.cells c q)
  line_place q = dite (ℕ_discrete p q)
      (λ (e : p ≡ q). subst (λ (z : ℕ). awaiting b.state.waits z (cells' z) ≡ awaiting b.state.waits z (b.cells c z)) e
      (ap (awaiting b.state.waits p) (cell_here b.cells c p (emptied o.value)) ∙ sym line))
      (λ ne. ap (awaiting b.state.waits q) (else_at q ne))

  ties_out : Tied (board (with_queue c (spurned p (b.state.channels c).queue) b.state) (set_cell b.cells c p (emptied o.value)))
  ties_out = ties_change b c p (emptied o.value) (record (b.state.channels c) { queue = spurned p (b.state.channels c).queue })
      b.state.waits t (record { stand = λ d q. refl; await = λ d q. refl; named = λ who k u h. h; own = t.at_own_clause })
      (record {
        queue = ap (spurned p) (t.queues c) ∙ gather_filter (is_elsewhere p) stands (b.state.channels c).next
            ∙ gather_same _ _ (b.state.channels c).next (λ q lt'. sym (by_place q));
        line = t.lines c ∙ gather_same _ _ (b.state.channels c).next (λ q lt'. sym (line_place q));
        used = λ q lt'. dite (ℕ_discrete p q) (λ (e : p ≡ q). subst (λ (z : ℕ). is_used (cells' z) ≡ true) e
            (ap is_used (cell_here b.cells c p (emptied o.value)))) (λ ne. ap is_used (else_at q ne) ∙ t.used c q lt');
        ending = else_at (b.state.channels c).next (λ e. omega arith) ∙ t.ending c;
        unused = λ q lt'. else_at q (λ e. omega arith) ∙ t.unused c q lt';
      })
      tt (λ w k m d q z. m)

pub ties_spurn : (b : Board) (c p v : ℕ) → IsOfferAt p v (b.state.channels c).queue
    → list_all (λ (o : Standing). is_none o.holder) (b.state.channels c).queue ≡ true → Tied b
    → Tied (board (with_queue c (spurned p (b.state.channels c).queue) b.state)
    (set_cell b.cells c p (emptied_if (standing b.state.waits p (b.cells c p)) (b.cells c p))))
ties_spurn b c p v at free t =
    let f = found_at p v (b.state.channels c).queue at in
    let g = gather_in _ (b.state.channels c).next f.before f.it f.rest (sym (t.queues c) ∙ f.all) in
    let is = standing_is b.state.waits g.0 (b.cells c g.0) f.it g.2 in
    let same : g.0 ≡ p = sym (offer_place b.state.waits g.0 (b.cells c g.0) f.it is) ∙ f.place in
    let none : f.it.holder ≡ None = none_holder f.it.holder
    (gather_all (λ (o : Standing). is_none o.holder) (λ q. standing b.state.waits q (b.cells c q)) (b.state.channels c).next
    (subst (λ (l : List Standing). list_all (λ (o : Standing). is_none o.holder) l ≡ true) (t.queues c) free) g.0 f.it g.1 g.2) in
    let here : standing b.state.waits p (b.cells c p) ≡ Some f.it =
    subst (λ (z : ℕ). standing b.state.waits z (b.cells c z) ≡ Some f.it) same g.2 in
    let line : awaiting b.state.waits p (b.cells c p) ≡ None =
    subst (λ (z : ℕ). awaiting b.state.waits z (b.cells c z) ≡ None) same (none_awaits b.state.waits g.0 (b.cells c g.0) f.it none is)
    in
    let y_is : emptied_if (standing b.state.waits p (b.cells c p)) (b.cells c p) ≡ emptied f.it.value =
    ap (λ (z : Option Standing). emptied_if z (b.cells c p)) here
    ∙ ap (λ (z : Option Party). emptied_unless z f.it.value (b.cells c p)) none in
    subst (λ (y : Cell). Tied (board (with_queue c (spurned p (b.state.channels c).queue) b.state) (set_cell b.cells c p y))) (sym y_is)
    (ties_out b c p f.it (subst (λ (z : ℕ). z < (b.state.channels c).next) same g.1) f.place here line t)
