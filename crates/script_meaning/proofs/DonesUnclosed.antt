-- Calls that close no done channel leave the done channels as they are.
use Rattle.std.specs.Prelude.{◌≡◌, ℕ, ◌==◌, ◌≤◌, nat_le, Bool, true, false, not, List, [], ◌∷◌, Option, Some, None, refl, if◌then◌else◌}
use Rattle.std.specs.List.{list_all}
use Rattle.std.proofs.Common.{ap, ◌∙◌, arith}
use Rattle.std.proofs.lemmas.Bool.{eqb-true, and_parts}
use Rattle.std.proofs.lemmas.Bool.Decides.{nat_tests}
use Rattle.channel_model.specs.declared.acts.Act.{Act}
use Rattle.channel_model.specs.declared.acts.Act.TheVariants.{Hand, Put, Offer, Await, Take, Admit, Drop, Spurn, Close, Void, Drain, WakeClosed}
use Rattle.channel_model.specs.declared.standing.Party.{Party}
use Rattle.channel_model.specs.declared.standing.Standing.{Standing}
use Rattle.channel_model.specs.declared.standing.Receiver.{Receiver}
use Rattle.channel_model.specs.declared.standing.Resolution.{Resolution}
use Rattle.channel_model.specs.Channels.{State, Channel, start}
use Rattle.channel_model.specs.Effects.{after, put_channel, resolve_first, resolve_holder, resolve_offer, remove_first, with_queue, place_offer, place_receiver}
use Rattle.channel_model.specs.Histories.{replay, replay_from}
use Rattle.channel_model.specs.Floors.{Floor, Added, entries_by}
use Rattle.channel_model.proofs.Histories.{replay_from-append}
use Rattle.script_meaning.proofs.GentleNotes.{leaves_dones}

put_closed : (c d : ℕ) (x : Channel) (s : State) → x.closed ≡ (s.channels c).closed
    → (put_channel c x s.channels d).closed ≡ (s.channels d).closed
put_closed c d x s e = by_test (c == d) refl
  where
    by_test : (b : Bool) → (c == d) ≡ b → (if b then x else s.channels d).closed ≡ (s.channels d).closed
    by_test true k = e ∙ ap (λ n. (s.channels n).closed) (eqb-true c d k)
    by_test false k = refl

first_closed : (rs : List Receiver) (how : ℕ → Resolution) (s : State) (d : ℕ)
    → ((resolve_first rs how s).channels d).closed ≡ (s.channels d).closed
first_closed [] how s d = refl
first_closed (r ∷ rs) how s d = refl

holder_closed : (p : Option Party) (how : ℕ → Resolution) (s : State) (d : ℕ)
    → ((resolve_holder p how s).channels d).closed ≡ (s.channels d).closed
holder_closed None how s d = refl
holder_closed (Some p) how s d = refl

queue_closed : (c d : ℕ) (queue : List Standing) (s : State) → ((with_queue c queue s).channels d).closed ≡ (s.channels d).closed
queue_closed c d queue s = put_closed c d (record (s.channels c) { queue = queue }) s refl

removed_closed : (c d : ℕ) (queue : List Standing) (s : State) → ((remove_first c queue s).channels d).closed ≡ (s.channels d).closed
removed_closed c d [] s = refl
removed_closed c d (o ∷ os) s = queue_closed c d os s

offer_closed : (c d : ℕ) (queue : List Standing) (how : ℕ → Resolution) (s : State)
    → ((resolve_offer c queue how s).channels d).closed ≡ (s.channels d).closed
offer_closed c d [] how s = refl
offer_closed c d (o ∷ os) how s = holder_closed o.holder how (with_queue c os s) d ∙ queue_closed c d os s

placed_offer_closed : (b : Bool) (o : Standing) (ch : Channel) → (place_offer b o ch).closed ≡ ch.closed
placed_offer_closed true o ch = refl
placed_offer_closed false o ch = refl

placed_receiver_closed : (b : Bool) (r : Receiver) (ch : Channel) → (place_receiver b r ch).closed ≡ ch.closed
placed_receiver_closed true r ch = refl
placed_receiver_closed false r ch = refl

-- another channel is put
other_closed : (c d : ℕ) (x : Channel) (s : State) → (c == d) ≡ false → (put_channel c x s.channels d).closed ≡ (s.channels d).closed
other_closed c d x s e = ap (λ b. (if b then x else s.channels d).closed) e

apart : (base c d : ℕ) → not (nat_le base c) ≡ true → base ≤ d → (c == d) ≡ false
apart base c d e le = grind (arith, nat_tests)

closed_same : (base : ℕ) (s : State) (who : ℕ) (act : Act) (d : ℕ) → base ≤ d → leaves_dones base act ≡ true
    → ((after s who act).channels d).closed ≡ (s.channels d).closed
closed_same base s who (Hand c p v) d le e = first_closed (s.channels c).receivers _ s d
closed_same base s who (Put c p v) d le e = put_closed c d _ s
    (placed_offer_closed true (record { place = p; value = v; holder = None }) (s.channels c))
closed_same base s who (Offer c p v w k) d le e = put_closed c d _ s (placed_offer_closed _ _ (s.channels c))
closed_same base s who (Await c p w k) d le e = put_closed c d _ s (placed_receiver_closed _ _ (s.channels c))
closed_same base s who (Take c p v) d le e = offer_closed c d (s.channels c).queue _ s
closed_same base s who (Admit c p) d le e = holder_closed _ _ (with_queue c _ s) d ∙ queue_closed c d _ s
closed_same base s who (Drop c p v) d le e = removed_closed c d (s.channels c).queue s
closed_same base s who (Spurn c p v) d le e = queue_closed c d _ s
closed_same base s who (Close c v) d le e = other_closed c d _ s (apart base c d e le)
closed_same base s who (Void c) d le e = put_closed c d (record (s.channels c) { voided = true }) s refl
closed_same base s who (Drain c p v) d le e = offer_closed c d (s.channels c).queue _ s
closed_same base s who (WakeClosed c p) d le e = first_closed (s.channels c).receivers _ s d
closed_same base s who other d le e = refl

none_closed : (base who d : ℕ) (s : State) (acts : List Act) → base ≤ d → list_all (leaves_dones base) acts ≡ true
    → ((replay_from s (entries_by who acts)).channels d).closed ≡ (s.channels d).closed
unfolding replay_from
none_closed base who d s [] le h = refl
none_closed base who d s (act ∷ acts) le h =
    let two = and_parts (leaves_dones base act) (list_all (leaves_dones base) acts) h in
    none_closed base who d (after s who act) acts le two.1 ∙ closed_same base s who act d le two.0

-- where nobody else calls, a done channel is closed after such calls where it was closed before
pub added_closes : (base who : ℕ) (acts : List Act) (a b : Floor) → Added who acts a b → list_all (leaves_dones base) acts ≡ true
    → a.alone ≡ true → (d : ℕ) → base ≤ d → ((replay b.seen).channels d).closed ≡ ((replay a.seen).channels d).closed
added_closes base who acts a b h e alone d le =
    ap (λ es. ((replay es).channels d).closed) (h.alone alone)
    ∙ ap (λ (s : State). (s.channels d).closed) (replay_from-append start a.seen (entries_by who acts))
    ∙ none_closed base who d (replay a.seen) acts le e
