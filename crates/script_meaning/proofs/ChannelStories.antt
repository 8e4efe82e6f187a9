-- What was told and true, as far as it is of channels.
use Rattle.std.proofs.lemmas.List.{append-nil}
use Rattle.std.proofs.Common.{◌≡◌, ℕ, Bool, true, false, List, [], ◌∷◌, ◌++◌, refl, ap, sym, ◌∙◌, subst, if◌then◌else◌}
use Rattle.std.specs.Prelude.{◌==◌}
use Rattle.channel_model.specs.declared.acts.Act.{Act}
use Rattle.channel_model.specs.declared.acts.Entry.{Entry}
use Rattle.channel_model.specs.declared.acts.ChannelNote.TheVariants as of_channel
use Rattle.channel_model.specs.Effects.{after}
use Rattle.channel_model.specs.Channels.{Shape, State, start}
use Rattle.channel_model.specs.Histories.{replay, replay_from, acts_of}
use Rattle.note_book.specs.declared.book.Item.{Item}
use Rattle.note_book.specs.declared.book.Item.TheVariants as item
use Rattle.note_book.specs.Items.{channel_act, channel_acts_in}
use Rattle.note_book.proofs.Appended.{channel_acts_in-append}
use Rattle.call_meaning.specs.Telling.{Told, note, on_channels, on_jobs, items_in}
use Rattle.call_meaning.specs.Facts.{ChannelFactHolds}
use Rattle.call_meaning.specs.Stories.{Moment, Story, IsSo, IsTrue, with_told}
use Rattle.script_meaning.proofs.Debts.{add, part, state_after}
use Rattle.script_meaning.proofs.Payments.{act_list, acts_told, AllSo}
use Rattle.script_meaning.proofs.ActsFollowed.{call_told, act_in_note}

abbrev pub step : State → Entry → State
step s e = after s e.who e.act

abbrev pub who_did : Entry → ℕ
who_did e = e.who

abbrev pub deed : Entry → Act
deed e = e.act

abbrev pub FactHolds : Shape → Told → State → Type 0
FactHolds shape (on_channels fact) s = ChannelFactHolds shape fact s
FactHolds shape other s = Unit {0}

-- what a told thing says of the channels
abbrev pub CallHolds : Shape → Told → List Entry → Type 0
CallHolds shape t history = FactHolds shape t (replay history)

pub same_state : (s : State) (es : List Entry) → state_after step s es ≡ replay_from s es
unfolding replay_from
same_state s [] = refl
same_state s (e ∷ es) = same_state (step s e) es

pub same_part : (k : ℕ) (es : List Entry) → part who_did deed k es ≡ acts_of k es
unfolding part acts_of
same_part k [] = refl
same_part k (e ∷ es) = by_test (same_part k es) (e.who == k)
  where
    by_test : part who_did deed k es ≡ acts_of k es → (b : Bool)
        → add b e.act (part who_did deed k es) ≡ (if b then e.act ∷ acts_of k es else acts_of k es)
    by_test h true = ap (λ l. e.act ∷ l) h
    by_test h false = h

pub act_of_note : (n : _) → channel_act n ≡ act_list (act_in_note n)
act_of_note (of_channel.Made act) = refl
act_of_note other = refl

told_acts : (t : Told) (items : List Item) → channel_acts_in (with_told t items) ≡ channel_acts_in items ++ act_list (call_told t)
told_acts (note (item.Job n)) items = channel_acts_in-append items (item.Job n ∷ [])
told_acts (note (item.Channel n)) items = channel_acts_in-append items (item.Channel n ∷ [])
    ∙ ap (λ l. channel_acts_in items ++ l) (append-nil (channel_act n) ∙ act_of_note n)
told_acts other items = sym (append-nil (channel_acts_in items))

holds_there : (s : Story) (items : List Item) (earlier at : Moment) (t : Told) → IsSo s items earlier t at → CallHolds s.shape t at.channels
holds_there s items earlier at (on_channels fact) h = h.holds
holds_there s items earlier at other h = tt

abbrev pub CallsSo : Shape → ℕ → List Entry → List Act → List Told → Type 0
CallsSo shape k history done told = AllSo step start who_did deed k call_told (CallHolds shape) history done told

pub true_so : (s : Story) (items : List Item) (earlier : Moment) (told : List Told) → IsTrue s items earlier told
    → CallsSo s.shape s.tag s.now.channels (channel_acts_in items) told
unfolding IsTrue AllSo
true_so s items earlier [] h = tt
true_so s items earlier (t ∷ told) h = (
  record {
    at = h.0.channels;
    more = h.1.not_after.channels.0;
    parts = h.1.not_after.channels.1;
    acts = same_part s.tag h.0.channels
        ∙ h.1.channel_acts;
    holds = holds_there s items earlier h.0 t h.1;
  },
  subst (λ d. CallsSo s.shape s.tag s.now.channels d told) (told_acts t items) (true_so s (with_told t items) h.0 told h.2),
)

pub told_parts : (shape : Shape) (k : ℕ) (told : List Told)
    → channel_acts_in (items_in told) ≡ acts_told step start who_did deed k call_told (CallHolds shape) told
unfolding acts_told items_in
told_parts shape k [] = refl
told_parts shape k (note (item.Job n) ∷ told) = told_parts shape k told
told_parts shape k (note (item.Channel n) ∷ told) = ap (λ l. l ++ channel_acts_in (items_in told)) (act_of_note n)
    ∙ ap (λ l. act_list (act_in_note n) ++ l) (told_parts shape k told)
told_parts shape k (on_channels fact ∷ told) = told_parts shape k told
told_parts shape k (on_jobs fact ∷ told) = told_parts shape k told
