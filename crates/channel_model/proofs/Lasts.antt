-- That a close or a void was seen lasts, and comes with the act.
use Rattle.std.specs.Prelude.{◌≡◌, ℕ, true, Option, Some, None, is_some, refl, if◌then◌else◌}
use mathlib.Core.List.{IsPrefix}
use Rattle.std.proofs.Common.{ap, ◌∙◌}
use Rattle.channel_model.specs.declared.acts.Act.TheVariants.{Close, Void}
use Rattle.channel_model.specs.declared.acts.Entry.{Entry}
use Rattle.channel_model.specs.Channels.{State}
use Rattle.channel_model.specs.Effects.{after}
use Rattle.channel_model.specs.Histories.{replay, Legal}
use Rattle.channel_model.specs.Floors.{Floor, Made}
use Rattle.channel_model.specs.Answers.{IsSeenClosed, IsSeenVoided}
use Rattle.channel_model.proofs.Histories.{replay_push}
use Rattle.channel_model.proofs.Placed.{same_number}
use Rattle.channel_model.proofs.Sound.{channel_lasts, closed_keeps, voided_keeps, sound}

some_lasts : (x y : Option ℕ) → ((v : ℕ) → x ≡ Some v → y ≡ Some v) → is_some x ≡ true → is_some y ≡ true
some_lasts None y h e = cc
some_lasts (Some v) y h e = ap is_some (h v refl)

pub closed_lasts : (c : ℕ) (a b : Floor) → Legal b.shape b.seen → IsPrefix a.seen b.seen → IsSeenClosed c a → IsSeenClosed c b
closed_lasts c a b l p h = some_lasts _ _ (λ v. channel_lasts b.shape (λ d ch. ch.closed ≡ Some v) (closed_keeps b.shape v) c a.seen b.seen
    p l) h

pub voided_lasts : (c : ℕ) (a b : Floor) → Legal b.shape b.seen → IsPrefix a.seen b.seen → IsSeenVoided c a → IsSeenVoided c b
voided_lasts c a b l p h = channel_lasts b.shape (λ d ch. ch.voided ≡ true) (voided_keeps b.shape) c a.seen b.seen p l h

-- right after the act
pub close_made : (who c v : ℕ) (a b : Floor) → Made who (Close c v) a b → IsSeenClosed c b
close_made who c v a b m =
    let last : Entry = record { who = who; act = Close c v } in
    let at : ((after (replay m.before) who (Close c v)).channels c).closed ≡ Some v =
    ap (λ b. (if b then record ((replay m.before).channels c) { closed = Some v } else (replay m.before).channels c).closed)
    (same_number c) in
    ap (λ es. is_some ((replay es).channels c).closed) m.last
    ∙ ap (λ (s : State). is_some (s.channels c).closed) (replay_push m.before last) ∙ ap is_some at

pub void_made : (who c : ℕ) (a b : Floor) → Made who (Void c) a b → IsSeenVoided c b
void_made who c a b m =
    let last : Entry = record { who = who; act = Void c } in
    let at : ((after (replay m.before) who (Void c)).channels c).voided ≡ true =
    ap (λ b. (if b then record ((replay m.before).channels c) { voided = true } else (replay m.before).channels c).voided)
    (same_number c) in
    ap (λ es. ((replay es).channels c).voided) m.last ∙ ap (λ (s : State). (s.channels c).voided) (replay_push m.before last) ∙ at

-- a channel that was seen voided was seen closed
pub voided_closed : (c : ℕ) (a : Floor) → Legal a.shape a.seen → IsSeenVoided c a → IsSeenClosed c a
voided_closed c a l h = by_closed ((replay a.seen).channels c).closed refl
  where
    by_closed : (x : Option ℕ) → ((replay a.seen).channels c).closed ≡ x → is_some ((replay a.seen).channels c).closed ≡ true
    by_closed None e = let k = ((sound a.shape a.seen l).channels c).voided e in cc
    by_closed (Some v) e = ap is_some e
