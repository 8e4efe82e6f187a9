-- The own cell of a wait names its coroutine, until it is emptied; and then the wait was resolved.
use Rattle.std.proofs.Common.{is_some, ◌≡◌, ℕ, ◌≤◌, Bool, true, false, List, [], ◌∷◌, if◌then◌else◌, Option, Some, None, MatchBool, sym, refl, ap, ◌∙◌, subst, arith}
use Rattle.co_base.specs.declared.names.WaitId.{WaitId}
use Rattle.channel_model.specs.declared.acts.Act.{Act}
use Rattle.channel_model.specs.declared.acts.Act.TheVariants.{Hand, Put, Offer, Await, Take, Admit, Drop, Spurn, Close, Void, Drain, WakeClosed, Withdraw, Settle}
use Rattle.channel_model.specs.declared.acts.Entry.{Entry}
use Rattle.channel_model.specs.declared.acts.Settled.{Settled}
use Rattle.channel_model.specs.declared.standing.Party.{Party}
use Rattle.channel_model.specs.declared.standing.Standing.{Standing}
use Rattle.channel_model.specs.declared.standing.Receiver.{Receiver}
use Rattle.channel_model.specs.declared.standing.Resolution.{Resolution}
use Rattle.channel_model.specs.Channels.{Shape, State, Wait, same_wait, places_at}
use Rattle.channel_model.specs.Effects.{resolve_first, resolve_holder, resolve_offer, remove_first, with_queue, put_wait, resolved_wait, name_clause, settled_wait, holder_at}
use Rattle.channel_model.specs.Needs.{Needs, HasPlace, MayName, JoinsWait}
use Rattle.channel_model.specs.Histories.{replay, Legal}
use Rattle.channel_model.proofs.Waits.{same_wait-eq}
use Rattle.channel_model.proofs.Placed.{Placed}
use Rattle.word_rules.specs.Cells.{Cell, free, receiver, offer, buffered, emptied, closed_by, voided_by, Cells, spot, set_cell, standing, offer_of, offer_by, offer_after, emptied_if, emptied_unless, Board, step_board, blank, board_from, cell_of}
use Rattle.cell_words.proofs.ListsOfCells.{by_spot, cell_here}
use Rattle.channel_model.proofs.Sound.{Sound}
use Rattle.cell_words.proofs.CellsGiveLists.{BoardLasts, board_lasts, board_state}

-- the coroutine and the resolution of a wait, its name and its own cell
abbrev pub IsHome : ℕ → Option Resolution → WaitId → Cell → Type 0
IsHome owner how w free = ⊥
IsHome owner how w (receiver who u k) = (who ≡ owner) × (u ≡ w)
IsHome owner how w (offer v who u k) = (who ≡ owner) × (u ≡ w)
IsHome owner how w (buffered v) = ⊥
IsHome owner how w (emptied v) = is_some how ≡ true
IsHome owner how w (closed_by v) = ⊥
IsHome owner how w (voided_by v) = ⊥

abbrev pub HomeOf : WaitId → Option Wait → Cell → Type 0
HomeOf w None y = Unit {0}
HomeOf w (Some x) y = IsHome x.owner x.resolved w y

-- each wait that began has its own cell
pub record AtHome (b : Board) : Type 0 where
  pub home : (w : WaitId) → HomeOf w (b.state.waits w) (b.cells w.channel w.place)

-- a change of a wait that keeps its owner, and begins none
pub record KeepsOwner (x y : Option Wait) : Type 0 where
  pub keeps : (w : WaitId) (c : Cell) → HomeOf w x c → HomeOf w y c

same_owner : (x : Option Wait) → KeepsOwner x x
same_owner x = record { keeps = λ w c h. h }

home_resolved : (owner : ℕ) (how : Option Resolution) (by : Resolution) (w : WaitId) (c : Cell) → IsHome owner how w c
    → IsHome owner (Some by) w c
home_resolved owner how by w free h = h
home_resolved owner how by w (receiver who u k) h = h
home_resolved owner how by w (offer v who u k) h = h
home_resolved owner how by w (buffered v) h = h
home_resolved owner how by w (emptied v) h = refl
home_resolved owner how by w (closed_by v) h = h
home_resolved owner how by w (voided_by v) h = h

resolved_owner : (how : Resolution) (x : Option Wait) → KeepsOwner x (resolved_wait how x)
resolved_owner how None = record { keeps = λ w c h. h }
resolved_owner how (Some x) = record { keeps = λ w c h. home_resolved x.owner x.resolved how w c h }

settled_owner : (outcome : Settled) (x : Option Wait) → KeepsOwner x (settled_wait outcome x)
settled_owner outcome None = record { keeps = λ w c h. h }
settled_owner outcome (Some x) = record { keeps = λ w c h. h }

one_owner : (waits : WaitId → Option Wait) (u w : WaitId) (f : Option Wait → Option Wait) → ((x : Option Wait) → KeepsOwner x (f x))
    → KeepsOwner (waits w) (put_wait u (f (waits u)) waits w)
one_owner waits u w f k = go (same_wait u w) refl
  where
    go : (b : Bool) → same_wait u w ≡ b → KeepsOwner (waits w) (if b then f (waits u) else waits w)
    go true e = subst (λ (z : WaitId). KeepsOwner (waits z) (f (waits u))) (same_wait-eq u w e) (k (waits u))
    go false e = same_owner (waits w)

first_owner : (s : State) (rs : List Receiver) (how : ℕ → Resolution) (w : WaitId)
    → KeepsOwner (s.waits w) ((resolve_first rs how s).waits w)
first_owner s [] how w = same_owner (s.waits w)
first_owner s (r ∷ rs) how w = one_owner s.waits r.party.wait w (resolved_wait (how r.party.clause)) (resolved_owner (how r.party.clause))

holder_owner : (s : State) (p : Option Party) (how : ℕ → Resolution) (w : WaitId)
    → KeepsOwner (s.waits w) ((resolve_holder p how s).waits w)
holder_owner s None how w = same_owner (s.waits w)
holder_owner s (Some p) how w = one_owner s.waits p.wait w (resolved_wait (how p.clause)) (resolved_owner (how p.clause))

offer_owner : (s : State) (c : ℕ) (q : List Standing) (how : ℕ → Resolution) (w : WaitId)
    → KeepsOwner (s.waits w) ((resolve_offer c q how s).waits w)
offer_owner s c [] how w = same_owner (s.waits w)
offer_owner s c (o ∷ os) how w = holder_owner (with_queue c os s) o.holder how w

removed_owner : (s : State) (c : ℕ) (q : List Standing) (w : WaitId) → KeepsOwner (s.waits w) ((remove_first c q s).waits w)
removed_owner s c [] w = same_owner (s.waits w)
removed_owner s c (o ∷ os) w = same_owner (s.waits w)

-- an offer's cell is emptied only where its wait was admitted
emptied_offer : (r v who k : ℕ) (u w : WaitId) (owner : ℕ) (how : Option Resolution) → IsHome owner how w (offer v who u k)
    → IsHome owner how w (emptied_if (offer_by r v u k how) (offer v who u k))
emptied_offer r v who k u w owner None h = h
emptied_offer r v who k u w owner (Some how) h = by_offer (offer_after r v k how)
  where
    by_holder : (p : Option Party) (y : ℕ) → IsHome owner (Some how) w (emptied_unless p y (offer v who u k))
    by_holder None y = refl
    by_holder (Some p) y = h

    by_offer : (o : Option Standing) → IsHome owner (Some how) w (emptied_if o (offer v who u k))
    by_offer None = h
    by_offer (Some o) = by_holder o.holder o.value

emptied_of : (waits : WaitId → Option Wait) (r : ℕ) (w : WaitId) (y : Cell) (x : Option Wait) → waits w ≡ x → HomeOf w x y
    → HomeOf w x (emptied_if (standing waits r y) y)
emptied_of waits r w y None e h = tt
emptied_of waits r w free (Some x) e h = h
emptied_of waits r w (receiver who u k) (Some x) e h = h
emptied_of waits r w (offer v who u k) (Some x) e h =
    subst (λ (z : Option Wait). IsHome x.owner x.resolved w (emptied_if (offer_of r v u k z) (offer v who u k))) (sym (ap waits h.1 ∙ e))
    (emptied_offer r v who k u w x.owner x.resolved h)
emptied_of waits r w (buffered v) (Some x) e h = absurd h
emptied_of waits r w (emptied v) (Some x) e h = h
emptied_of waits r w (closed_by v) (Some x) e h = h
emptied_of waits r w (voided_by v) (Some x) e h = h

none_home : (w : WaitId) (x : Option Wait) (y : Cell) → x ≡ None → HomeOf w x y
none_home w None y e = tt
none_home w (Some x) y e = cc

module _ (b : Board) (s : Placed b.state) (h : AtHome b) where
  -- cells stay
  still : (waits' : WaitId → Option Wait) → ((w : WaitId) → KeepsOwner (b.state.waits w) (waits' w)) → (w : WaitId)
      → HomeOf w (waits' w) (b.cells w.channel w.place)
  still waits' k w = (k w).keeps w (b.cells w.channel w.place) (h.home w)

  removed : (waits' : WaitId → Option Wait) → ((w : WaitId) → KeepsOwner (b.state.waits w) (waits' w)) → (d r : ℕ) (w : WaitId)
      → HomeOf w (waits' w) (set_cell b.cells d r (emptied_if (standing b.state.waits r (b.cells d r)) (b.cells d r)) w.channel w.place)
  removed waits' k d r w =
      let emptied_if_here : Cells = set_cell b.cells d r (emptied_if (standing b.state.waits r (b.cells d r)) (b.cells d r)) in
      (k w).keeps w (emptied_if_here w.channel w.place)
      (by_spot (λ x z y. HomeOf w (b.state.waits w) (b.cells x z)
      → HomeOf w (b.state.waits w) y) b.cells d r _ (λ g. emptied_of b.state.waits r w (b.cells d r) (b.state.waits w) refl g) w.channel
      w.place (λ ne g. g) (h.home w))

  -- the next cell of a channel is no wait's home
  fresh_cell : (waits' : WaitId → Option Wait) → ((w : WaitId) → KeepsOwner (b.state.waits w) (waits' w))
      → ((w : WaitId) → b.state.waits w ≡ None → waits' w ≡ None) → (d r : ℕ) (y : Cell) → r ≡ (b.state.channels d).next → (w : WaitId)
      → HomeOf w (waits' w) (set_cell b.cells d r y w.channel w.place)
  fresh_cell waits' k none d r y at w = by_spot (λ x z y. spot x z ≡ w → HomeOf w (waits' w) y) b.cells d r y
      (λ e. none_home w (waits' w) y (none w (s w (subst (λ (u : WaitId). (b.state.channels u.channel).next ≤ u.place) e (omega arith)))))
      w.channel w.place (λ ne e. still waits' k w) refl

  named : (who k c p places : ℕ) (u : WaitId) (y : Cell) → HasPlace places p (b.state.channels c) → MayName who k c p u b.state
      → ((w : WaitId) → w ≡ u → IsHome who None w y) → (w : WaitId)
      → HomeOf w (put_wait u (name_clause who k c (b.state.waits u)) b.state.waits w) (set_cell b.cells c p y w.channel w.place)
  named who k c p places u y place may here w = by_wait (same_wait u w) refl
    where
      absent_at : (z : WaitId) → spot c p ≡ z → b.state.waits z ≡ None
      absent_at z e = s z (subst (λ (u : WaitId). (b.state.channels u.channel).next ≤ u.place) e (let f = place.first in omega arith))

      other : (z : WaitId) → HomeOf z (b.state.waits z) (set_cell b.cells c p y z.channel z.place)
      other z = by_spot (λ x q y. spot x q ≡ z → HomeOf z (b.state.waits z) y) b.cells c p y
          (λ e. none_home z (b.state.waits z) y (absent_at z e)) z.channel z.place (λ ne e. h.home z) refl

      -- the wait begins here, or has another home
      at_u : (x : Option Wait) → b.state.waits u ≡ x → (t : Bool) → same_wait u (spot c p) ≡ t → MatchBool t (k ≤ 7) (JoinsWait who k c x)
          → HomeOf u (name_clause who k c x) (set_cell b.cells c p y u.channel u.place)
      at_u None e true f m = subst (λ (z : WaitId). IsHome who None u (set_cell b.cells c p y z.channel z.place))
          (sym (same_wait-eq u (spot c p) f)) (subst (IsHome who None u) (sym (cell_here b.cells c p y)) (here u refl))
      at_u None e false f m = absurd m
      at_u (Some x) e t f m = subst (λ (z : Option Wait). HomeOf u z (set_cell b.cells c p y u.channel u.place)) e (other u)

      by_wait : (t : Bool) → same_wait u w ≡ t → HomeOf w (if t then name_clause who k c (b.state.waits u) else b.state.waits w)
          (set_cell b.cells c p y w.channel w.place)
      by_wait true e = subst (λ (z : WaitId). HomeOf z (name_clause who k c (b.state.waits u)) (set_cell b.cells c p y z.channel z.place))
          (same_wait-eq u w e) (at_u (b.state.waits u) refl (same_wait u (spot c p)) refl may)
      by_wait false e = other w

home_step : (shape : Shape) (b : Board) (e : Entry) → Sound shape b.state → Needs shape b.state e.who e.act → AtHome b
    → AtHome (step_board b e)
home_step shape b e s n h = go e.who e.act n
  where
    go : (who : ℕ) (act : Act) → Needs shape b.state who act → AtHome (step_board b (record { who = who; act = act }))
    go who (Hand d r v) n = record { home = still b s.placed h _ (first_owner b.state (b.state.channels d).receivers _) }
    go who (Put d r v) n = record {
      home = fresh_cell b s.placed h b.state.waits (λ w. same_owner (b.state.waits w)) (λ w e. e) d r _
          n.1.first;
    }
    go who (Offer d r v u k) n = record {
      home = named b s.placed h who k d r (places_at shape d) u (offer v who u k) n.1 n.4
          (λ w e. (refl, sym e));
    }
    go who (Await d r u k) n = record {
      home = named b s.placed h who k d r (places_at shape d) u (receiver who u k) n.1 n.3
          (λ w e. (refl, sym e));
    }
    go who (Take d r v) n = record { home = removed b s.placed h _ (offer_owner b.state d (b.state.channels d).queue _) d r }
    go who (Admit d r) n = record { home = still b s.placed h _ (holder_owner _ (holder_at r (b.state.channels d).queue) _) }
    go who (Drop d r v) n = record { home = removed b s.placed h _ (removed_owner b.state d (b.state.channels d).queue) d r }
    go who (Spurn d r v) n = record { home = removed b s.placed h b.state.waits (λ w. same_owner (b.state.waits w)) d r }
    go who (Close d v) n = record {
      home = fresh_cell b s.placed h b.state.waits (λ w. same_owner (b.state.waits w)) (λ w e. e) d
          (b.state.channels d).next _ refl;
    }
    go who (Void d) n = record {
      home = fresh_cell b s.placed h b.state.waits (λ w. same_owner (b.state.waits w)) (λ w e. e) d
          (b.state.channels d).next _ refl;
    }
    go who (Drain d r v) n = record { home = removed b s.placed h _ (offer_owner b.state d (b.state.channels d).queue _) d r }
    go who (WakeClosed d r) n = record { home = still b s.placed h _ (first_owner b.state (b.state.channels d).receivers _) }
    go who (Withdraw w why) n = record {
      home = still b s.placed h _
          (λ u. one_owner b.state.waits w u (resolved_wait _) (resolved_owner _));
    }
    go who (Settle w outcome) n = record {
      home = still b s.placed h _
          (λ u. one_owner b.state.waits w u (settled_wait outcome) (settled_owner outcome));
    }

pub home_lasts : (shape : Shape) → BoardLasts shape AtHome
home_lasts shape = record { step = λ b e s t n h. home_step shape b e s n h }

pub home_blank : AtHome blank
home_blank = record { home = λ w. tt }

pub at_home : (shape : Shape) (log : List Entry) → Legal shape log → (w : WaitId)
    → HomeOf w ((replay log).waits w) (cell_of log w.channel w.place)
unfolding board_from
at_home shape log l w = subst (λ (s : State). HomeOf w (s.waits w) (cell_of log w.channel w.place)) (board_state blank log)
    ((board_lasts shape AtHome (home_lasts shape) [] log l home_blank).home w)
