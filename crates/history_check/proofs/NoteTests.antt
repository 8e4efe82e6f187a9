-- Whether a send would wait, by a snapshot of its channel.
use Rattle.std.specs.Prelude.{◌≡◌, ℕ, ◌&&◌, Bool, true, false, List, [], ◌∷◌, length, Option, Some, None, is_none, slice_get, slice_index_or, refl}
use Rattle.std.specs.Bool.{Decides}
use Rattle.std.proofs.Common.{ap}
use Rattle.std.proofs.lemmas.Bool.Decides.{Decides-at}
use Rattle.channel_model.specs.Answers.{IsFullToTry}
use Rattle.channel_model.specs.Channels.{Shape, State, is_full, kind_at, suspends}
use Rattle.channel_model.specs.declared.acts.Kind.TheVariants.{Signal}
use Rattle.one_thread_floor.specs.declared.list_snapshot.Snapshot.{Snapshot}
use Rattle.one_thread_floor.specs.ListSnapshots.{Shows}
use Rattle.history_check.specs.Steps.{shows_full}

both : {P Q R : Type 0} (a b : Bool) → Decides a P → Decides b Q → (P → Q → R) → (R → P) → (R → Q) → Decides (a && b) R
both true true h k f g j = (λ e. f (h.0 refl) (k.0 refl), λ r. refl)
both true false h k f g j = (λ e. cc, λ r. k.1 (j r))
both false b h k f g j = (λ e. cc, λ r. h.1 (g r))

as_it_is : (b : Bool) → Decides b (b ≡ true)
as_it_is b = (λ e. e, λ e. e)

none_is : {A : Type 0} (o : Option A) → Decides (is_none o) (o ≡ None)
none_is None = (λ e. refl, λ e. refl)
none_is (Some x) = (λ e. cc, λ e. cc)

nobody_is : {A : Type 0} (xs : List A) → Decides (is_none (slice_get xs 0)) (xs ≡ [])
nobody_is [] = (λ e. refl, λ e. refl)
nobody_is (x ∷ xs) = (λ e. cc, λ e. cc)

pub full_note : (shape : Shape) (b : Bool) (shown : Snapshot) (s : State) (c : ℕ) → Shows shown (s.channels c)
    → b ≡ shows_full (slice_index_or shape c (Signal, 0)).0 shown → Decides b (IsFullToTry shape c s)
full_note shape b shown s c h e =
    let kind = kind_at shape c in
    let ch = s.channels c in
    let not_closed : Decides (is_none shown.closed) (ch.closed ≡ None) = Decides-at _ _ (ap is_none h.is_closed) (none_is ch.closed) in
    let nobody : Decides (is_none shown.first_receiver) (ch.receivers ≡ []) =
    Decides-at _ _ (ap is_none h.first_receiver) (nobody_is ch.receivers) in
    let full : Decides (is_full kind shown.queued) (is_full kind (length ch.queue) ≡ true) =
    Decides-at _ _ (ap (is_full kind) h.queued) (as_it_is (is_full kind (length ch.queue))) in
    let crowded : Decides (is_none shown.first_receiver && is_full kind shown.queued)
    ((ch.receivers ≡ []) × (is_full kind (length ch.queue) ≡ true)) = both _ _ nobody full (λ p q. (p, q)) (λ r. r.0) (λ r. r.1) in
    let waits : Decides (is_none shown.closed && (is_none shown.first_receiver && is_full kind shown.queued))
    ((ch.closed ≡ None) × (ch.receivers ≡ []) × (is_full kind (length ch.queue) ≡ true)) =
    both _ _ not_closed crowded (λ p q. (p, q.0, q.1)) (λ r. r.0) (λ r. (r.1, r.2)) in
    Decides-at _ _ e (both _ _ (as_it_is (suspends kind)) waits
    (λ p q. record { may_wait = p; not_closed = q.0; nobody = q.1; full = q.2 })
    (λ r. r.may_wait) (λ r. (r.not_closed, r.nobody, r.full)))
