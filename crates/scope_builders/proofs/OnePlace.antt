-- At most one receiver stands at a channel of one place.
use Rattle.std.specs.Prelude.{◌≡◌, ℕ, ◌+◌, ◌≤◌, not, List, [], ◌∷◌, ◌++◌, length, filter, refl, if◌then◌else◌}
use Rattle.std.proofs.Common.{ap, ◌∙◌, arith}
use Rattle.channel_model.specs.declared.acts.Act.TheVariants.{WakeClosed}
use Rattle.channel_model.specs.declared.acts.Entry.{Entry}
use Rattle.channel_model.specs.declared.standing.Receiver.{Receiver}
use Rattle.channel_model.specs.declared.standing.Resolution.TheVariants as resolved
use Rattle.channel_model.specs.Channels.{Shape, State, same_wait, places_at}
use Rattle.channel_model.specs.Effects.{after, resolve_first, close_value}
use Rattle.channel_model.specs.Needs.{IsFirstReceiver}
use Rattle.channel_model.specs.Histories.{replay, Legal}
use Rattle.channel_model.specs.Laws.{Ascends}
use Rattle.channel_model.proofs.Histories.{replay_push, Legal-last}
use Rattle.channel_model.proofs.InOrder.{replay_in_order}
use Rattle.channel_model.proofs.Sound.{sound}
use Rattle.channel_model.proofs.Waits.{same_wait-refl}

-- numbers that ascend are no more than there is room for
ascends_few : {X : Type 0} (number : X → ℕ) (p n : ℕ) (xs : List X) → Ascends number p n xs → p + length xs ≤ n
ascends_few number p n [] h = omega arith
ascends_few number p n (x ∷ xs) h = let k = h.0 in let l = ascends_few number (number x + 1) n xs h.1 in omega arith

one_receiver : (shape : Shape) (c : ℕ) (xs : List Entry) → Legal shape xs → places_at shape c ≡ 1
    → length ((replay xs).channels c).receivers ≤ 1
one_receiver shape c xs l one =
    let few = ascends_few (λ (r : Receiver). r.place) 0 ((replay xs).channels c).next ((replay xs).channels c).receivers
    (replay_in_order shape xs c l).receivers in
    let given = ((sound shape xs l).channels c).within in
    omega arith

gone : (r : Receiver) (rs : List Receiver) → length (r ∷ rs) ≤ 1
    → filter (λ (x : Receiver). not (same_wait r.party.wait x.party.wait)) (r ∷ rs) ≡ []
gone r [] few = ap (λ b. if not b then r ∷ [] else []) (same_wait-refl r.party.wait)
gone r (x ∷ xs) few = absurd (omega arith)

nobody_after : (s : State) (who c p : ℕ) (rs : List Receiver) → (s.channels c).receivers ≡ rs → IsFirstReceiver p rs → length rs ≤ 1
    → ((after s who (WakeClosed c p)).channels c).receivers ≡ []
nobody_after s who c p [] e f few = absurd f
nobody_after s who c p (r ∷ rs) e f few =
    ap (λ (l : List Receiver). ((resolve_first l (λ k. resolved.Closed k (close_value (s.channels c).closed)) s).channels c).receivers) e
    ∙ ap (filter (λ (x : Receiver). not (same_wait r.party.wait x.party.wait))) e
    ∙ gone r rs few

-- once the receiver of a channel of one place was told, none stands there
pub nobody_left : (shape : Shape) (who c p : ℕ) (xs : List Entry) → Legal shape (xs ++ record { who = who; act = WakeClosed c p } ∷ [])
    → places_at shape c ≡ 1 → ((replay (xs ++ record { who = who; act = WakeClosed c p } ∷ [])).channels c).receivers ≡ []
nobody_left shape who c p xs l one =
    let parts = Legal-last shape xs (record { who = who; act = WakeClosed c p }) l in
    ap (λ (s : State). (s.channels c).receivers) (replay_push xs (record { who = who; act = WakeClosed c p }))
    ∙ nobody_after (replay xs) who c p ((replay xs).channels c).receivers refl parts.1.2 (one_receiver shape c xs parts.0 one)
