-- A wait that was withdrawn or voided stays so.
use mathlib.Core.List.{IsPrefix}
use Rattle.std.specs.Prelude.{◌≡◌, ℕ, true, List, [], ◌∷◌, ◌++◌, Option, Some, None, refl}
use Rattle.std.proofs.Common.{sym, ap, ◌∙◌, subst, append_assoc}
use Rattle.co_base.specs.declared.names.WaitId.{WaitId}
use Rattle.channel_model.specs.declared.acts.Act.{Act}
use Rattle.channel_model.specs.declared.acts.Act.TheVariants.{Withdraw}
use Rattle.channel_model.specs.declared.acts.Entry.{Entry}
use Rattle.channel_model.specs.declared.acts.Why.{Why}
use Rattle.channel_model.specs.declared.standing.Resolution.{Resolution}
use Rattle.channel_model.specs.declared.standing.Resolution.TheVariants as resolved
use Rattle.channel_model.specs.Channels.{Shape, State, Wait}
use Rattle.channel_model.specs.Effects.{after, resolved_wait}
use Rattle.channel_model.specs.Needs.{Needs, IsOpenOf}
use Rattle.channel_model.specs.Histories.{replay, acts_of, Legal}
use Rattle.channel_model.specs.Laws.{IsResolvedAs}
use Rattle.channel_model.proofs.Histories.{replay_push}
use Rattle.channel_model.proofs.Waits.{at_wait}
use Rattle.channel_model.proofs.Sound.{lasts}
use Rattle.channel_model.proofs.ResolvedAs.{resolved_lasts}
use Rattle.call_meaning.specs.Facts.{is_withdrawn_or_voided, IsWithdrawnOrVoided}
use Rattle.script_meaning.proofs.Debts.{find}
use Rattle.script_meaning.proofs.ChannelStories.{who_did, deed, same_part}
use Rattle.script_laws.proofs.ChannelDebts.{needs_there}

-- ---- as it was resolved

resolved_back : (how : Resolution) (x : Option Wait) → is_withdrawn_or_voided (Some how) ≡ true → IsResolvedAs how x → IsWithdrawnOrVoided x
resolved_back how None b h = absurd h
resolved_back how (Some x) b h = ap is_withdrawn_or_voided h ∙ b

-- in a longer history
pub back_later : (shape : Shape) (xs ys : List Entry) (v : WaitId) → Legal shape ys → IsPrefix xs ys
    → IsWithdrawnOrVoided ((replay xs).waits v)
    → IsWithdrawnOrVoided ((replay ys).waits v)
back_later shape xs ys v l p h = by_wait ((replay xs).waits v) refl h
  where
    by_how : (x : Wait) (how : Option Resolution) → (replay xs).waits v ≡ Some x → x.resolved ≡ how → is_withdrawn_or_voided how ≡ true
        → IsWithdrawnOrVoided ((replay ys).waits v)
    by_how x None e q b = cc
    by_how x (Some how) e q b = resolved_back how ((replay ys).waits v) b
        (lasts shape (λ s. IsResolvedAs how (s.waits v)) (resolved_lasts shape how v) xs ys p l (subst (IsResolvedAs how) (sym e) q))

    by_wait : (o : Option Wait) → (replay xs).waits v ≡ o → IsWithdrawnOrVoided o → IsWithdrawnOrVoided ((replay ys).waits v)
    by_wait None e b = absurd b
    by_wait (Some x) e b = by_how x x.resolved e refl b

-- ---- a wait that its owner withdraws

withdrawn_back : (who : ℕ) (why : Why) (x : Option Wait) → IsOpenOf who x → IsWithdrawnOrVoided (resolved_wait (resolved.Withdrawn why) x)
withdrawn_back who why None h = absurd h
withdrawn_back who why (Some x) h = refl

act_withdraws : (s : State) (who : ℕ) (act : Act) (w : WaitId) (why : Why) (shape : Shape) → act ≡ Withdraw w why → Needs shape s who act
    → IsWithdrawnOrVoided ((after s who act).waits w)
act_withdraws s who act w why shape e n =
    let needs : IsOpenOf who (s.waits w) = subst (Needs shape s who) e n in
    subst (λ a. IsWithdrawnOrVoided ((after s who a).waits w)) (sym e)
    (subst IsWithdrawnOrVoided (sym (at_wait w (resolved_wait (resolved.Withdrawn why) (s.waits w)) s.waits))
    (withdrawn_back who why (s.waits w) needs))

-- where its withdrawal is among the acts of a caller, a wait was taken back
pub withdrawn_wait : (shape : Shape) (who : ℕ) (es : List Entry) (us vs : List Act) (w : WaitId) (why : Why) → Legal shape es
    → acts_of who es ≡ us ++ Withdraw w why ∷ vs → IsWithdrawnOrVoided ((replay es).waits w)
withdrawn_wait shape who es us vs w why l e =
    let f = find who_did deed who es us vs (Withdraw w why) (same_part who es ∙ e) in
    let now : IsWithdrawnOrVoided ((after (replay f.before) f.entry.who f.entry.act).waits w) =
    act_withdraws (replay f.before) f.entry.who f.entry.act w why shape f.is (needs_there shape es f.before f.entry f.rest l f.parts) in
    back_later shape (f.before ++ f.entry ∷ []) es w l (
      f.rest,
      append_assoc f.before (f.entry ∷ []) f.rest
          ∙ sym f.parts,
    ) (subst (λ (s : State). IsWithdrawnOrVoided (s.waits w)) (sym (replay_push f.before f.entry)) now)
