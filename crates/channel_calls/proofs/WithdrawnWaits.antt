-- A wait that was withdrawn may be settled, and ends as cancelled, whyever it was withdrawn.
use Rattle.std.specs.Prelude.{◌≡◌, ℕ, Bool, [], ◌∷◌, ◌++◌, Option, Some, None, refl, List}
use Rattle.std.proofs.Common.{sym, ap, ◌∙◌, subst}
use Rattle.co_base.specs.declared.names.WaitId.{WaitId}
use Rattle.channel_model.specs.declared.acts.Act.{Act}
use Rattle.channel_model.specs.declared.acts.Act.TheVariants.{Withdraw, Settle}
use Rattle.channel_model.specs.declared.acts.Settled.{Settled}
use Rattle.channel_model.specs.declared.acts.Settled.TheVariants as settled
use Rattle.channel_model.specs.declared.acts.Why.{Why}
use Rattle.channel_model.specs.declared.standing.Resolution.TheVariants as resolved
use Rattle.channel_model.specs.declared.floor.Withdrawn.TheVariants as withdraws
use Rattle.channel_model.specs.Channels.{State, Wait}
use Rattle.channel_model.specs.Effects.{resolved_wait}
use Rattle.channel_model.specs.Histories.{replay, Legal}
use Rattle.channel_model.specs.Floors.{Floor, HasRoom, Made}
use Rattle.channel_model.specs.Answers.{SettleAnswer, WithdrawAnswer, IsReady, IsReadyWait, outcome_at, IsUnsettledOf}
use Rattle.channel_model.proofs.Histories.{replay_push, Legal-last}
use Rattle.channel_model.proofs.Waits.{at_wait}
use Rattle.channel_model.proofs.Others.{others_keep, unsettled_stays}
use Rattle.call_meaning.specs.Telling.{made}
use Rattle.call_meaning.specs.Facts.{ActHolds}
use Rattle.call_meaning.specs.Calls.{ToldOnChannels}
use Rattle.call_meaning.proofs.ChannelsHeard.{told_then, told_made, moment_before}
use Rattle.channel_calls.specs.Groups.{made_note, settle_group}
use Rattle.channel_calls.proofs.Roomed.{holds_roomed, IsRoomed, roomed, HoldsAt}
use Rattle.call_meaning.specs.Seen.{SeenOnChannels}
use Rattle.note_book.specs.declared.book.Item.{Item}

-- a settled wait tells its end
pub settle_told : {w : WaitId} {outcome : Settled} {a b : SeenOnChannels} → Made a.who (Settle w outcome) a.floor b.floor → b.who ≡ a.who
    → b.items ≡ a.items ++ settle_group w outcome → ToldOnChannels a b (made (Settle w outcome) ∷ [])
settle_told {w} {outcome} {a} {b} h e f =
    told_made (Settle w outcome) h (moment_before a.who (Settle w outcome) a.floor b.floor (ActHolds (Settle w outcome)) h tt) e f

withdrawn_ready : (who : ℕ) (why : Why) (x : Option Wait) → IsUnsettledOf who x → IsReadyWait who (resolved_wait (resolved.Withdrawn why) x)
withdrawn_ready who why None h = h
withdrawn_ready who why (Some x) h = (h.0, refl, h.1)

withdrawn_outcome : (who : ℕ) (why : Why) (cancelled : Bool) (x : Option Wait) (outcome : Settled) → IsUnsettledOf who x
    → outcome_at cancelled (resolved_wait (resolved.Withdrawn why) x) ≡ Some outcome → outcome ≡ settled.Cancelled
withdrawn_outcome who why cancelled None outcome h e = absurd h
withdrawn_outcome who why cancelled (Some x) outcome h e = let k : Some settled.Cancelled ≡ Some outcome = e in cc

withdrawn_at : (who : ℕ) (w : WaitId) (why : Why) (b c : Floor) → (m : Made who (Withdraw w why) b c)
    → (replay c.seen).waits w ≡ resolved_wait (resolved.Withdrawn why) ((replay m.before).waits w)
withdrawn_at who w why b c m =
    ap (λ es. (replay es).waits w) m.last
    ∙ ap (λ (s : State). s.waits w) (replay_push m.before (record { who = who; act = Withdraw w why }))
    ∙ at_wait w _ (replay m.before).waits

held_before : (who : ℕ) (w : WaitId) (act : Act) (b c : Floor) → Legal c.shape c.seen → HoldsAt who w b → (m : Made who act b c)
    → IsUnsettledOf who ((replay m.before).waits w)
held_before who w act b c l h m =
    let r = Legal-last c.shape m.before (record { who = who; act = act }) (subst (Legal c.shape) m.last l) in
    others_keep c.shape who (IsUnsettledOf who) (unsettled_stays who) w b.seen m.before r.0 m.longer m.mine h

-- it may be settled
pub ready_withdrawn : (t : ℕ) {who n : ℕ} {w : WaitId} {why : Why} {a b c : Floor} → Legal c.shape c.seen → HasRoom n a b → HoldsAt who w a
    → WithdrawAnswer who w why b c (withdraws.Done t) → IsReady who w c
ready_withdrawn t {who} {n} {w} {why} {a} {b} {c} l h k m =
    subst (IsReadyWait who) (sym (withdrawn_at who w why b c m.0))
    (withdrawn_ready who why _ (held_before who w (Withdraw w why) b c l (holds_roomed who n w a b h k) m.0))

-- and ends as cancelled
pub withdrawn_end : (who : ℕ) (w : WaitId) (why : Why) (cancelled : Bool) (b c d : Floor) (outcome : Settled) → Legal c.shape c.seen
    → HoldsAt who w b → Made who (Withdraw w why) b c → SettleAnswer who w cancelled c d outcome → outcome ≡ settled.Cancelled
withdrawn_end who w why cancelled b c d outcome l holds m s =
    let held = held_before who w (Withdraw w why) b c l holds m in
    let is = ap (outcome_at cancelled) (sym (withdrawn_at who w why b c m)) ∙ s.1 in
    withdrawn_outcome who why cancelled ((replay m.before).waits w) outcome held is

-- both acts are told
pub withdrawn_told : (cancelled : Bool) {n : ℕ} {w : WaitId} {why : Why} {a b d : SeenOnChannels} {c : Floor} {noted : List Item}
    {outcome : Settled}
    → Legal c.shape c.seen → IsRoomed n a b → HoldsAt a.who w a.floor → Made a.who (Withdraw w why) b.floor c
    → SettleAnswer a.who w cancelled c d.floor outcome → d.who ≡ a.who → noted ≡ b.items ++ made_note (Withdraw w why) ∷ []
    → d.items ≡ noted ++ settle_group w outcome → ToldOnChannels a d (made (Withdraw w why) ∷ made (Settle w settled.Cancelled) ∷ [])
withdrawn_told cancelled {n} {w} {why} {a} {b} {d} {c} {noted} {outcome} legal h holds m s e f g =
    let who : ℕ = a.who in
    let act : Act = Withdraw w why in
    let ready : SeenOnChannels = record b { who = who } in
    let between : SeenOnChannels = record { who = who; floor = c; items = noted } in
    let first : ToldOnChannels ready between (made act ∷ []) =
    told_made act m (moment_before who act b.floor c (ActHolds act) m tt) refl f in
    let second : ToldOnChannels between d (made (Settle w outcome) ∷ []) = settle_told s.0 e g in
    let is = withdrawn_end who w why cancelled b.floor c d.floor outcome legal (holds_roomed who n w a.floor b.floor h.room holds) m s in
    subst (λ o. ToldOnChannels a d (made act ∷ made (Settle w o) ∷ [])) is (roomed h (told_then first second))
