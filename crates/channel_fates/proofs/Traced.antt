-- What the acts of a legal history say of the state that they leave.
use Rattle.std.specs.Prelude.{ℕ, List, [], ◌∷◌, ◌++◌}
use Rattle.std.proofs.Common.{sym, subst, append_assoc}
use Rattle.channel_model.specs.declared.acts.Act.{Act}
use Rattle.channel_model.specs.declared.acts.Entry.{Entry}
use Rattle.channel_model.specs.Channels.{Shape, State, start}
use Rattle.channel_model.specs.Effects.{after}
use Rattle.channel_model.specs.Needs.{Needs}
use Rattle.channel_model.specs.Histories.{replay, replay_from, acts_in, Legal, LegalFrom}
use Rattle.channel_model.proofs.Spans.{nothing_more}
use Rattle.channel_fates.proofs.ChosenOnce.{Told, told_after, start_told, ChosenOnce, chosen_after, start_chosen}
use Rattle.channel_fates.proofs.Endings.{Ended, ended_after, start_ended, KindsKept, kinds_after, start_kinds}
use Rattle.channel_fates.proofs.KeptUntilRemoved.{KeptUntil, kept_after, start_kept}
use Rattle.channel_fates.proofs.HeldWhileOpen.{OffersHeld, held_after, start_held}
use Rattle.channel_fates.proofs.OwnPlaces.{OwnPlaces, own_places_after, start_own_places}

pub record Traced (shape : Shape) (acts : List Act) (s : State) : Type 0 where
  pub told : Told acts s
  pub chosen : ChosenOnce acts s
  pub ended : Ended acts s
  pub kinds : KindsKept shape acts
  pub kept : KeptUntil acts s
  pub held : OffersHeld acts s
  pub own : OwnPlaces acts s

traced_after : (shape : Shape) (acts : List Act) (s : State) (who : ℕ) (act : Act) → Needs shape s who act → Traced shape acts s
    → Traced shape (acts ++ act ∷ []) (after s who act)
traced_after shape acts s who act n h = record {
  told = told_after shape acts s who act n h.told;
  chosen = chosen_after shape acts s who act n h.told h.chosen;
  ended = ended_after shape acts s who act n h.told h.ended;
  kinds = kinds_after shape acts s who act n h.kinds;
  kept = kept_after shape acts s who act n h.told.counted h.kept;
  held = held_after shape acts s who act n h.told h.kinds h.held;
  own = own_places_after shape acts s who act n h.told h.own;
}

from_traced : (shape : Shape) (acts : List Act) (s : State) (es : List Entry) → LegalFrom shape s es → Traced shape acts s
    → Traced shape (acts ++ acts_in es) (replay_from s es)
unfolding LegalFrom replay_from
from_traced shape acts s [] l h = subst (λ xs. Traced shape xs s) (sym (nothing_more acts)) h
from_traced shape acts s (e ∷ es) l h =
    subst (λ xs. Traced shape xs (replay_from (after s e.who e.act) es)) (append_assoc acts (e.act ∷ []) (acts_in es))
    (from_traced shape (acts ++ e.act ∷ []) (after s e.who e.act) es l.1 (traced_after shape acts s e.who e.act l.0 h))

pub replay_traced : (shape : Shape) (history : List Entry) → Legal shape history → Traced shape (acts_in history) (replay history)
replay_traced shape history l = from_traced shape [] start history l
    (record {
      told = start_told;
      chosen = start_chosen;
      ended = start_ended;
      kinds = start_kinds shape;
      kept = start_kept;
      held =
          start_held;
      own = start_own_places;
    })
