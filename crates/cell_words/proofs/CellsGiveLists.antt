-- What every legal history leaves of lists and cells.
use Rattle.std.proofs.Common.{◌≡◌, ℕ, Bool, true, false, List, [], ◌∷◌, ◌++◌, Option, Some, None, sym, refl, ap, subst, arith, is_some, is_none}
use Rattle.std.specs.List.{list_all}
use Rattle.channel_model.specs.declared.acts.Act.{Act}
use Rattle.channel_model.specs.declared.acts.Act.TheVariants.{Hand, Put, Offer, Await, Take, Admit, Drop, Spurn, Close, Void, Drain, WakeClosed, Withdraw, Settle}
use Rattle.channel_model.specs.declared.acts.Entry.{Entry}
use Rattle.channel_model.specs.declared.standing.Standing.{Standing}
use Rattle.channel_model.specs.declared.standing.Resolution.TheVariants as resolved
use Rattle.channel_model.specs.Channels.{Shape, State, start, kind_at, places_at, drops}
use Rattle.channel_model.specs.Effects.{close_value}
use Rattle.channel_model.specs.Needs.{Needs}
use Rattle.channel_model.specs.Histories.{replay_from, Legal, LegalFrom}
use Rattle.channel_model.proofs.Histories.{LegalFrom-parts}
use Rattle.word_rules.specs.Cells.{closed_by, voided_by, Board, step_board, blank, board_from, board_of, end_cell}
use Rattle.cell_words.proofs.ListsOfCells.{Tied, ties_stood}
use Rattle.cell_words.proofs.PlacesGivenOut.{ties_put, ties_offer, ties_await, ties_settle}
use Rattle.cell_words.proofs.OffersAdmitted.{ties_admit}
use Rattle.channel_model.proofs.Elements.{all_first}
use Rattle.channel_model.proofs.Sound.{Sound, sound_step, sound_start, sound}
use Rattle.cell_words.proofs.OffersRemoved.{ties_first, ties_withdraw, ties_take, ties_drop, ties_end}
use Rattle.cell_words.proofs.OffersSpurned.{ties_spurn, none_holder}
use Rattle.channel_model.proofs.PlacedFull.{drops_not, spurns_not}

close_end : (v : Option ℕ) → is_some v ≡ true → voided_by (close_value v) ≡ end_cell v true
close_end None e = cc
close_end (Some v) e = refl

open_end : (x : Option ℕ) (v : ℕ) (voided : Bool) → voided ≡ false → closed_by v ≡ end_cell (Some v) voided
open_end x v voided e = ap (λ (t : Bool). end_cell (Some v) t) (sym e)

none_held : (shape : Shape) (s : State) → Sound shape s → (c n : ℕ) → drops (kind_at shape c) n ≡ true → (o : Standing) (os : List Standing)
    → (s.channels c).queue ≡ o ∷ os → o.holder ≡ None
none_held shape s h c n e o os is = none_holder o.holder (all_first (λ (o : Standing). is_none o.holder) o os
    (subst (λ (l : List Standing). list_all (λ (o : Standing). is_none o.holder) l ≡ true) is
    ((h.channels c).kept (drops_not (kind_at shape c) n e))))

pub ties_step : (shape : Shape) (b : Board) (e : Entry) → Sound shape b.state → Needs shape b.state e.who e.act → Tied b
    → Tied (step_board b e)
ties_step shape b e h n t = go e.who e.act n
  where
    go : (who : ℕ) (act : Act) → Needs shape b.state who act → Tied (step_board b (record { who = who; act = act }))
    go who (Hand c p v) n = ties_first b c _ (λ k. tt) t (b.state.channels c).receivers refl
    go who (Put c p v) n = ties_stood _ _ _ _ _ (ties_put b c p v (places_at shape c) n.1 t)
    go who (Offer c p v w k) n = ties_stood _ _ _ _ _ (ties_offer b who c p v k (places_at shape c) w n.1 h.placed n.4 t)
    go who (Await c p w k) n = ties_await b who c p k (places_at shape c) w n.1 h.placed n.3 t
    go who (Take c p v) n = ties_take b c p v resolved.Taken (λ k. tt) n.1 t
    go who (Admit c p) n = ties_admit b (kind_at shape c) c p n.1 t
    go who (Drop c p v) n = ties_drop b c p v n.2 (none_held shape b.state h c _ n.1) t
    go who (Spurn c p v) n = ties_spurn b c p v n.2 ((h.channels c).kept (spurns_not (kind_at shape c) (b.state.stood c p) n.1)) t
    go who (Close c v) n = ties_end b c (closed_by v) (record (b.state.channels c) { closed = Some v }) refl refl refl
        (open_end (b.state.channels c).closed v (b.state.channels c).voided ((h.channels c).voided n.1)) tt (λ w k m. m) t
    go who (Void c) n = ties_end b c (voided_by (close_value (b.state.channels c).closed)) (record (b.state.channels c) { voided = true })
        refl refl refl (close_end (b.state.channels c).closed n.1) tt (λ w k m. m) t
    go who (Drain c p v) n = ties_take b c p v (λ k. resolved.Voided) (λ k. tt) n.2 t
    go who (WakeClosed c p) n = ties_first b c _ (λ k. tt) t (b.state.channels c).receivers refl
    go who (Withdraw w why) n = ties_withdraw b who w (resolved.Withdrawn why) tt n t
    go who (Settle w outcome) n = ties_settle b w outcome t

tied_blank : Tied blank
tied_blank = record {
  queues = λ c. refl;
  lines = λ c. refl;
  used = λ c p lt. absurd (omega arith);
  ending = λ c. refl;
  unused = λ c p lt. refl;
  named = λ c p. tt;
  apart = λ c p d q w k m n. absurd m;
  at_own_clause = λ w. tt;
}

-- a fact of boards that every legal entry keeps
pub record BoardLasts (shape : Shape) (P : Board → Type 0) : Type 0 where
  pub step : (b : Board) (e : Entry) → Sound shape b.state → Tied b → Needs shape b.state e.who e.act → P b → P (step_board b e)

pub board_state : (b : Board) (es : List Entry) → (board_from b es).state ≡ replay_from b.state es
unfolding board_from replay_from
board_state b [] = refl
board_state b (e ∷ es) = board_state (step_board b e) es

pub board_append : (b : Board) (xs ys : List Entry) → board_from b (xs ++ ys) ≡ board_from (board_from b xs) ys
unfolding board_from
board_append b [] ys = refl
board_append b (x ∷ xs) ys = board_append (step_board b x) xs ys

pub board_push : (xs : List Entry) (e : Entry) → board_of (xs ++ e ∷ []) ≡ step_board (board_of xs) e
unfolding board_from
board_push xs e = board_append blank xs (e ∷ [])

module _ (shape : Shape) where
  tied_from : (b : Board) (es : List Entry) → LegalFrom shape b.state es → Sound shape b.state → Tied b → Tied (board_from b es)
  unfolding LegalFrom board_from
  tied_from b [] l h t = t
  tied_from b (e ∷ es) l h t = tied_from (step_board b e) es l.1 (sound_step shape b.state e.who e.act l.0 h) (ties_step shape b e h l.0 t)

  pub tied : (es : List Entry) → Legal shape es → Tied (board_of es)
  tied es l = tied_from blank es l (sound_start shape) tied_blank

  lasts_from : (P : Board → Type 0) → BoardLasts shape P → (b : Board) (es : List Entry) → LegalFrom shape b.state es → Sound shape b.state
      → Tied b → P b → P (board_from b es)
  unfolding LegalFrom board_from
  lasts_from P k b [] l h t p = p
  lasts_from P k b (e ∷ es) l h t p = lasts_from P k (step_board b e) es l.1 (sound_step shape b.state e.who e.act l.0 h)
      (ties_step shape b e h l.0 t) (k.step b e h t l.0 p)

  -- it holds of all that a history goes on to
  pub board_lasts : (P : Board → Type 0) → BoardLasts shape P → (xs ys : List Entry) → Legal shape (xs ++ ys) → P (board_of xs)
      → P (board_of (xs ++ ys))
  board_lasts P k xs ys l p = let parts = LegalFrom-parts shape start xs ys l in let at = board_state blank xs in
      subst P (sym (board_append blank xs ys)) (lasts_from P k (board_of xs) ys
      (subst (λ (s : State). LegalFrom shape s ys) (sym at) parts.1) (subst (Sound shape) (sym at) (sound shape xs parts.0))
      (tied xs parts.0) p)
