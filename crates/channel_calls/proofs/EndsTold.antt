-- What the end of a wait tells: as it was resolved, or taken back.
use Rattle.std.specs.Prelude.{◌≡◌, ℕ, Bool, true, false, List, [], ◌∷◌, ◌++◌, Option, Some, None, Ok, Err, refl}
use Rattle.std.proofs.Common.{sym, ap, ◌∙◌, subst}
use Rattle.co_base.specs.declared.names.Memory.{Memory}
use Rattle.co_base.specs.declared.names.WaitId.{WaitId}
use Rattle.channel_model.specs.declared.acts.Act.TheVariants.{Withdraw, Settle}
use Rattle.channel_model.specs.declared.acts.ChannelNote.TheVariants.{Late}
use Rattle.channel_model.specs.declared.acts.Settled.{Settled}
use Rattle.channel_model.specs.declared.acts.Settled.TheVariants as settled
use Rattle.channel_model.specs.declared.acts.Why.TheVariants as why
use Rattle.channel_model.specs.declared.standing.Resolution.{Resolution}
use Rattle.channel_model.specs.declared.standing.Resolution.TheVariants as resolved
use Rattle.channel_model.specs.Channels.{Wait}
use Rattle.channel_model.specs.Outcomes.{outcome_of}
use Rattle.channel_model.specs.Histories.{replay, Legal}
use Rattle.channel_model.specs.Floors.{Floor, HasRoom, AtStep}
use Rattle.channel_model.specs.Answers.{SettleAnswer, WithdrawAnswer, IsReady, IsReadyWait, IsResolvedWait, outcome_at, outcome_of_some, IsUnsettledOf}
use Rattle.channel_model.specs.declared.floor.Withdrawn.TheVariants as withdraws
use Rattle.channel_model.proofs.Spans.{prefix_self}
use Rattle.channel_model.proofs.Others.{others_keep, unsettled_stays}
use Rattle.note_book.specs.declared.book.Item.TheVariants as item
use Rattle.call_meaning.specs.Telling.{Told, TakenBack, made, heard}
use Rattle.call_meaning.specs.Facts.{IsWithdrawnOrVoided, is_withdrawn_or_voided, ChannelNoteHolds}
use Rattle.call_meaning.specs.Calls.{ToldOnChannels}
use Rattle.call_meaning.specs.ChannelCalls.{Admits, is_given_up}
use Rattle.call_meaning.proofs.ChannelsHeard.{told_then, told_made_after, told_met, moment_before}
use Rattle.channel_calls.specs.Groups.{made_note, settle_group}
use Rattle.channel_calls.specs.Calls.{ToldPart, IsUntouched, DispatchedAnswer, CancelledAnswer, AdmittedAnswer, TakesBack, TakesBackSomehow, end_told}
use Rattle.channel_calls.specs.Parts.{EndsCancelled, EndedCancelledAnswer}
use Rattle.channel_calls.proofs.AdmitsTold.{none_admitted}
use Rattle.channel_calls.proofs.Untold.{part_none, part_then}
use Rattle.channel_calls.proofs.Roomed.{holds_roomed, IsRoomed, roomed, HoldsAt}
use Rattle.channel_calls.proofs.WithdrawnWaits.{settle_told, withdrawn_end, withdrawn_told}
use Rattle.call_meaning.specs.Seen.{SeenOnChannels}
use Rattle.channel_model.specs.declared.acts.Act.{Act}
use Rattle.note_book.specs.declared.book.Item.{Item}

-- ---- a wait that is settled

-- a wait that ends as cancelled though its Job was not had been withdrawn or voided
back_resolution : (how : Resolution) → outcome_of how false ≡ settled.Cancelled → is_withdrawn_or_voided (Some how) ≡ true
back_resolution (resolved.Withdrawn why) e = refl
back_resolution resolved.Voided e = refl
back_resolution other e = cc

back_how : (how : Option Resolution) → outcome_of_some false how ≡ Some settled.Cancelled → is_withdrawn_or_voided how ≡ true
back_how None e = cc
back_how (Some how) e = let k : outcome_of how false ≡ settled.Cancelled = cc in back_resolution how k

back_wait : (x : Option Wait) → outcome_at false x ≡ Some settled.Cancelled → IsWithdrawnOrVoided x
back_wait None e = cc
back_wait (Some x) e = back_how x.resolved e

pub end_is_told : {w : WaitId} (cancelled : Bool) (outcome : Settled) {a b : SeenOnChannels}
    → SettleAnswer a.who w cancelled a.floor b.floor outcome
    → b.who ≡ a.who → b.items ≡ a.items ++ settle_group w outcome → ToldOnChannels a b (end_told w cancelled outcome)
end_is_told {w} false settled.Cancelled {a} {b} s e f =
    let act : Act = Settle w settled.Cancelled in
    let at = moment_before a.who act a.floor b.floor (λ t. IsWithdrawnOrVoided (t.waits w)) s.0
    (back_wait ((replay a.floor.seen).waits w) s.1) in
    told_made_after (TakenBack w) act s.0 (λ t. tt) at e f
end_is_told false other s e f = settle_told s.0 e f
end_is_told true outcome s e f = settle_told s.0 e f

pub dispatched : (cancelled : Bool) {n : ℕ} {w : WaitId} {a b d : SeenOnChannels} {outcome : Settled} → IsRoomed n a b
    → SettleAnswer a.who w cancelled b.floor d.floor outcome → d.who ≡ a.who → d.items ≡ b.items ++ settle_group w outcome
    → DispatchedAnswer w cancelled a d (Ok outcome)
dispatched cancelled {w = w} {a = a} {b = b} {d = d} {outcome = outcome} h s e f =
    let told : ToldOnChannels (record b { who = a.who }) d (end_told w cancelled outcome) = end_is_told cancelled outcome s e f in
    (roomed h told, ap (λ es. outcome_at cancelled ((replay es).waits w)) (sym h.room.seen) ∙ s.1)

-- ---- a wait that was withdrawn

pub withdrawn_now : (t : ℕ) {n : ℕ} {w : WaitId} {a b d : SeenOnChannels} {c : Floor} {noted : List Item} {outcome : Settled}
    → Legal c.shape c.seen → IsRoomed n a b → HoldsAt a.who w a.floor → WithdrawAnswer a.who w why.Cancelled b.floor c (withdraws.Done t)
    → SettleAnswer a.who w true c d.floor outcome → d.who ≡ a.who → noted ≡ b.items ++ made_note (Withdraw w why.Cancelled) ∷ []
    → d.items ≡ noted ++ settle_group w outcome → EndedCancelledAnswer w a d (Ok outcome)
withdrawn_now t {n} {w} {a} {b} {d} {c} {noted} {outcome} legal h holds m s e f g =
    let told : List Told = made (Withdraw w why.Cancelled) ∷ made (Settle w settled.Cancelled) ∷ [] in
    let still = holds_roomed a.who n w a.floor b.floor h.room holds in
    let is = withdrawn_end a.who w why.Cancelled true b.floor c d.floor outcome legal still m.0 s in
    record {
      told = told;
      goes = subst (λ o. EndsCancelled w o told) (sym is) EndsCancelled.withdrawn;
      left = withdrawn_told true legal h holds m.0 s e f g;
    }

-- ---- a wait that had been resolved

resolved_ready : (who : ℕ) (x : Option Wait) → IsUnsettledOf who x → IsResolvedWait x → IsReadyWait who x
resolved_ready who None h k = h
resolved_ready who (Some x) h k = (h.0, k, h.1)

cancelled_outcome : (how : Resolution) → is_given_up (outcome_of how true) ≡ true
cancelled_outcome (resolved.Handed k v) = refl
cancelled_outcome other = refl

some_cancelled : (how : Option Resolution) (outcome : Settled) → outcome_of_some true how ≡ Some outcome → is_given_up outcome ≡ true
some_cancelled None outcome e = cc
some_cancelled (Some how) outcome e = let k : outcome_of how true ≡ outcome = cc in ap is_given_up (sym k) ∙ cancelled_outcome how

wait_cancelled : (x : Option Wait) (outcome : Settled) → outcome_at true x ≡ Some outcome → is_given_up outcome ≡ true
wait_cancelled None outcome e = cc
wait_cancelled (Some x) outcome e = some_cancelled x.resolved outcome e

-- it may be settled
pub ready_late : (who n : ℕ) (w : WaitId) (a b c : Floor) → Legal c.shape c.seen → HasRoom n a b → HoldsAt who w a
    → WithdrawAnswer who w why.Cancelled b c withdraws.Late → IsReady who w c
ready_late who n w a b c l h k m =
    resolved_ready who _ (others_keep c.shape who (IsUnsettledOf who) (unsettled_stays who) w b.seen c.seen l m.0.longer m.0.mine
    (holds_roomed who n w a b h k)) m.1

-- and ends as it was resolved
pub late_now : {n : ℕ} {w : WaitId} {a b d : SeenOnChannels} {c : Floor} {noted : List Item} {outcome : Settled} → IsRoomed n a b
    → WithdrawAnswer a.who w why.Cancelled b.floor c withdraws.Late → SettleAnswer a.who w true c d.floor outcome → d.who ≡ a.who
    → noted ≡ b.items ++ item.Channel (Late w) ∷ [] → d.items ≡ noted ++ settle_group w outcome → EndedCancelledAnswer w a d (Ok outcome)
late_now {n} {w} {a} {b} {d} {c} {noted} {outcome} h m s e f g =
    let ready : SeenOnChannels = record b { who = a.who } in
    let between : SeenOnChannels = record { who = a.who; floor = c; items = noted } in
    let at : AtStep b.floor c (ChannelNoteHolds b.floor.shape (Late w)) =
    record { moment = c.seen; after = m.0.longer; before = prefix_self c.seen; holds = m.1 } in
    let first : ToldOnChannels ready between (heard (Late w) ∷ []) = told_met (Late w) refl m.0 at refl f in
    let second : ToldOnChannels between d (made (Settle w outcome) ∷ []) = settle_told s.0 e g in
    record {
      told = heard (Late w) ∷ made (Settle w outcome) ∷ [];
      goes = EndsCancelled.late outcome (wait_cancelled ((replay c.seen).waits w) outcome s.1);
      left = roomed h (told_then first second);
    }

-- ---- with the admits that follow

takes_back : (w : WaitId) (outcome : Settled) (ends admits : List Told) → EndsCancelled w outcome ends → Admits w.channel admits
    → TakesBack w outcome (ends ++ admits)
takes_back w _ _ admits EndsCancelled.withdrawn h = TakesBack.withdrawn admits h
takes_back w _ _ admits (EndsCancelled.late outcome e) h = TakesBack.late outcome admits e h

pub taken_back : {w : WaitId} {outcome : Settled} {a b d : SeenOnChannels} → EndedCancelledAnswer w a b (Ok outcome)
    → AdmittedAnswer w.channel b d (Ok tt) → CancelledAnswer w a d (Ok outcome)
taken_back {w} {outcome} h m = record {
  told = h.told ++ m.told;
  goes = takes_back w outcome h.told m.told h.goes m.goes;
  left = told_then h.left m.left;
}

-- ---- no memory was found

-- nothing was told
pub end_untold : {w : WaitId} {a b : SeenOnChannels} → IsUntouched a b → ToldPart (TakesBackSomehow w) a b
end_untold {w} h = part_none (TakesBackSomehow w) _ (settled.Cancelled, TakesBack.withdrawn _ (none_admitted w.channel)) h

-- the wait ended
pub end_stopped : {w : WaitId} {outcome : Settled} {a b d : SeenOnChannels} (m : Memory) → EndedCancelledAnswer w a b (Ok outcome)
    → AdmittedAnswer w.channel b d (Err m) → CancelledAnswer w a d (Err m)
end_stopped {w} {outcome} m h s =
    part_then (Admits w.channel) (TakesBackSomehow w) h.told (λ all r. (outcome, takes_back w outcome h.told all h.goes r)) h.left s
