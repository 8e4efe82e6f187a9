-- Where each wait that was resolved is settled, an element is held exactly where it stands in the queue of its channel.
use Rattle.std.specs.Prelude.{◌≡◌, ◌↔◌, ℕ, Bool, true, false, ◌&&◌, ◌||◌, is_none, is_some, List, Option, Some, None, refl}
use Rattle.std.specs.List.{list_any}
use Rattle.std.proofs.Common.{ap, sym, ◌∙◌}
use Rattle.co_base.specs.declared.names.WaitId.{WaitId}
use Rattle.channel_model.specs.declared.acts.Act.{Act}
use Rattle.channel_model.specs.declared.acts.Entry.{Entry}
use Rattle.channel_model.specs.declared.acts.Fate.TheVariants as fate
use Rattle.channel_model.specs.declared.acts.Settled.{Settled}
use Rattle.channel_model.specs.Channels.{Shape, Wait}
use Rattle.channel_model.specs.Answers.{IsResolvedWait, IsSettledWait}
use Rattle.channel_model.specs.Fates.{element_at, fate_at, hands, wait_at, of_wait}
use Rattle.channel_model.specs.Histories.{replay, acts_in, Legal}
use Rattle.channel_fates.specs.OneFate.{stands_in, is_unsettled}
use Rattle.channel_fates.proofs.Endings.{handed_resolved}
use Rattle.channel_fates.proofs.HeldFates.{replay_held}
use Rattle.channel_fates.proofs.Traced.{replay_traced}

settled_none : (o : Option Settled) → is_some o ≡ true → is_none o ≡ false
settled_none None e = cc
settled_none (Some outcome) e = refl

is_settled : (o : Option Wait) → IsSettledWait o → is_unsettled o ≡ false
is_settled None h = absurd h
is_settled (Some x) h = settled_none x.settled h

or_only : (a b : Bool) → b ≡ false → (a || b) ≡ true → a ≡ true
or_only true b e h = refl
or_only false b e h = sym e ∙ h

pub held_stands : (shape : Shape) (history : List Entry) (c p v : ℕ) → Legal shape history
    → ((w : WaitId) → IsResolvedWait ((replay history).waits w) → IsSettledWait ((replay history).waits w))
    → element_at c p (acts_in history) ≡ Some v
    → (fate_at c p (acts_in history) ≡ fate.Held) ↔ (stands_in p v ((replay history).channels c).queue ≡ true)
held_stands shape history c p v legal settled e =
    let both = replay_held shape history c p v legal e in
    (λ f. or_only here there none (both.0 f), λ s. both.1 (ap (λ b. b || there) s))
  where
    acts : List Act
    acts = acts_in history

    here : Bool
    here = stands_in p v ((replay history).channels c).queue

    there : Bool
    there = list_any (hands c p) acts && of_wait (λ w. is_unsettled ((replay history).waits w)) (wait_at c p acts)

    by_wait : list_any (hands c p) acts ≡ true → (o : Option WaitId) → wait_at c p acts ≡ o
        → of_wait (λ w. is_unsettled ((replay history).waits w)) o ≡ false
    by_wait h None q = refl
    by_wait h (Some w) q = is_settled ((replay history).waits w)
        (settled w (handed_resolved ((replay history).waits w) ((replay_traced shape history legal).ended.handed c p w h q)))

    by_hand : (b : Bool) → list_any (hands c p) acts ≡ b → (b
        && of_wait (λ w. is_unsettled ((replay history).waits w)) (wait_at c p acts)) ≡ false
    by_hand true h = by_wait h (wait_at c p acts) refl
    by_hand false h = refl

    none : there ≡ false
    none = by_hand (list_any (hands c p) acts) refl
