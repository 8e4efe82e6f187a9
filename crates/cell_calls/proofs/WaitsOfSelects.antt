-- What the floor says of a select's wait, in words of the cells.
use Rattle.std.proofs.Common.{◌≡◌, ◌≢◌, ℕ, suc, ◌<◌, ◌≤◌, true, false, List, length, Option, Some, None, is_some, sym, refl, ap, ◌∙◌, subst, arith}
use Rattle.std.proofs.lemmas.List.{get_or_past}
use mathlib.Core.Logic.{dite}
use native.Mathlib.Decide.{dec_le}
use Rattle.worded.specs.Views.{has_tag}
use Rattle.co_base.specs.declared.names.WaitId.{WaitId}
use Rattle.channel_model.specs.declared.acts.Kind.{Kind}
use Rattle.channel_model.specs.declared.acts.Kind.TheVariants.{Signal}
use Rattle.channel_model.specs.declared.acts.Entry.{Entry}
use Rattle.channel_model.specs.declared.acts.Settled.{Settled}
use Rattle.channel_model.specs.declared.floor.WaitState.{WaitState}
use Rattle.channel_model.specs.declared.floor.WaitState.TheVariants as state
use Rattle.channel_model.specs.declared.standing.Resolution.{Resolution}
use Rattle.channel_model.specs.Channels.{Shape, Wait, places_at}
use Rattle.channel_model.specs.Needs.{JoinsWait}
use Rattle.channel_model.specs.Histories.{replay, Legal}
use Rattle.channel_model.specs.Answers.{IsOwnWait, IsResolvedWait, state_of_parts, state_of_wait}
use Rattle.channel_model.specs.Registers.{MayRegister}
use Rattle.channel_model.proofs.Sound.{sound, EndsResolved}
use Rattle.cell_words.specs.declared.hub.Hub.{Hub}
use Rattle.cell_words.specs.declared.pass.Pass.{Pass}
use Rattle.word_rules.specs.Words.{IsCell}
use Rattle.cell_words.specs.Hubs.{shape_of, seen_by}
use Rattle.cell_words.specs.Seen.{Seen, Sees}
use Rattle.cell_words.specs.Clauses.{MayPlace}
use Rattle.cell_words.proofs.ClausesPlaced.{may_seen}
use Rattle.cell_calls.specs.HubFloors.{hub_floor}
use Rattle.cell_calls.specs.Registrations.{IsOwnMain, MainAnswer}
use Rattle.cell_calls.proofs.CallsTell.{wait_place}

-- ---- where it began

no_places : (shape : Shape) (c : ℕ) → length shape ≤ c → places_at shape c ≡ 0
no_places shape c le = ap (λ (x : Kind × ℕ). x.1) (get_or_past shape c (Signal, 0) le)

began : (who : ℕ) (x : Option Wait) → IsOwnWait who x → x ≡ None → ⊥
began who None h e = h
began who (Some x) h e = cc

-- a wait began at a channel of the hub
wait_channel : (shape : Shape) (log : List Entry) (who : ℕ) (w : WaitId) → Legal shape log → IsOwnWait who ((replay log).waits w)
    → w.channel < length shape
wait_channel shape log who w l own = let s = sound shape log l in dite (dec_le (suc w.channel) (length shape)) (λ lt. lt)
    (λ no. let none = no_places shape w.channel (omega arith) in let t = (s.channels w.channel).within
    in absurd (began who ((replay log).waits w) own (s.placed w (omega arith))))

joins_own : (who k c : ℕ) (x : Option Wait) → JoinsWait who k c x → IsOwnWait who x
joins_own who k c None h = h
joins_own who k c (Some x) h = h.own

main_cell : (shape : Shape) (log : List Entry) (who : ℕ) (w : WaitId) → Legal shape log → IsOwnWait who ((replay log).waits w)
    → IsCell shape w.channel w.place
main_cell shape log who w l own = (wait_channel shape log who w l own, wait_place shape log who w l own)

module _ (hub : Hub) (pass : Pass) (who k c : ℕ) (l : Legal (shape_of hub) (seen_by pass).seen) where
  pub own_main : (main : Option WaitId) → MayRegister who k c main (hub_floor hub pass)
      → IsOwnMain (shape_of hub) who main (seen_by pass).seen
  own_main None h = tt
  own_main (Some w) h = let own = joins_own who k c ((replay (seen_by pass).seen).waits w) h
      in (main_cell (shape_of hub) (seen_by pass).seen who w l own, own)

  pub may_place : (main : Option WaitId) → MayRegister who k c main (hub_floor hub pass)
      → MayPlace (shape_of hub) who k c main (seen_by pass).seen
  may_place None h = h
  may_place (Some w) h = let own = joins_own who k c ((replay (seen_by pass).seen).waits w) h
      in (main_cell (shape_of hub) (seen_by pass).seen who w l own, h)

  -- and still, after some looks
  pub may_place_later : (main : Option WaitId) (x : Seen) → has_tag who (seen_by pass).tags ≡ true → Sees (seen_by pass) x
      → Legal (shape_of hub) x.seen → MayRegister who k c main (hub_floor hub pass) → MayPlace (shape_of hub) who k c main x.seen
  may_place_later main x tag s lx h = may_seen (shape_of hub) who k c main (seen_by pass) x tag s lx (may_place main h)

-- ---- whether it was resolved

-- a wait that does not stand was resolved
not_standing : (x : Option Wait) (s : WaitState) → EndsResolved x → state_of_wait x ≡ Some s → s ≢ state.Standing → IsResolvedWait x
not_standing None s q e ne = cc
not_standing (Some x) s q e ne = by_parts x.resolved x.settled refl refl (let f : Some (state_of_parts x.resolved x.settled) ≡ Some s = e
    in cc)
  where
    by_parts : (how : Option Resolution) (outcome : Option Settled) → x.resolved ≡ how → x.settled ≡ outcome
        → state_of_parts how outcome ≡ s → is_some x.resolved ≡ true
    by_parts None None r t h = absurd (ne (sym h))
    by_parts None (Some o) r t h = let f : None ≡ Some o = sym (q r) ∙ t in cc
    by_parts (Some how) outcome r t h = ap is_some r

module _ (hub : Hub) (pass : Pass) (w : WaitId) (main : Option WaitId) (is : main ≡ Some w) (s : WaitState)
    (told : state_of_wait ((replay (seen_by pass).seen).waits w) ≡ Some s) where
  pub main_stands : s ≡ state.Standing → MainAnswer main (hub_floor hub pass) false
  main_stands e = subst (λ (z : Option WaitId). MainAnswer z (hub_floor hub pass) false) (sym is) (told ∙ ap (λ (z : WaitState). Some z) e)

  pub main_resolved : Legal (shape_of hub) (seen_by pass).seen → s ≢ state.Standing → MainAnswer main (hub_floor hub pass) true
  main_resolved l ne = subst (λ (z : Option WaitId). MainAnswer z (hub_floor hub pass) true) (sym is)
      (not_standing ((replay (seen_by pass).seen).waits w) s ((sound (shape_of hub) (seen_by pass).seen l).ended w) told ne)

-- no wait stands
pub no_main : (hub : Hub) (pass : Pass) (main : Option WaitId) → main ≡ None → MainAnswer main (hub_floor hub pass) false
no_main hub pass main is = subst (λ (z : Option WaitId). MainAnswer z (hub_floor hub pass) false) (sym is) tt
