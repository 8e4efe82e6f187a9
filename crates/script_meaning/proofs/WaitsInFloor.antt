-- Each wait has the number of a channel of the floor.
use Rattle.std.specs.Prelude.{◌≡◌, ℕ, ◌<◌, ◌≤◌, Bool, true, false, List, [], ◌∷◌, length, ◌⊎◌, Option, Some, None, MatchBool, refl}
use Rattle.std.proofs.Common.{sym, subst, inl, inr, ⊎_elim}
use Rattle.std.proofs.lemmas.Option.{same_Some}
use Rattle.co_base.specs.declared.names.WaitId.{WaitId}
use Rattle.channel_model.specs.declared.acts.Act.{Act}
use Rattle.channel_model.specs.declared.acts.Act.TheVariants.{Hand, Offer, Await}
use Rattle.channel_model.specs.declared.acts.Entry.{Entry}
use Rattle.channel_model.specs.Channels.{Shape, State, Wait, same_wait, start}
use Rattle.channel_model.specs.Answers.{IsOwnWait, IsUnsettledOf}
use Rattle.channel_model.specs.Effects.{after, resolved_wait, name_clause, settled_wait}
use Rattle.channel_model.specs.Needs.{Needs, MayName, JoinsWait}
use Rattle.channel_model.specs.Histories.{replay, replay_from, Legal, LegalFrom}
use Rattle.channel_model.proofs.Waits.{same_wait-eq}
use Rattle.channel_model.proofs.OwnWaits.{ComesFrom, begins, act_from}

of_comes : (who : ℕ) → ComesFrom who (IsOwnWait who)
of_comes who = record {
  resolved = λ how x h. elim x as (λ y. IsOwnWait who (resolved_wait how y) → IsOwnWait who y) [ None ↦ λ k. k | Some y ↦ λ k. k ] h;
  named = λ n k c x h. elim x as (λ y. IsOwnWait who (name_clause n k c y) → IsOwnWait who y
      ⊎ (n ≡ who)) [ None ↦ λ f. inr f | Some y ↦ λ f. inl f ] h;
  settled = λ outcome x h. elim x as (λ y. IsOwnWait who (settled_wait outcome y) → IsOwnWait who y) [ None ↦ λ k. k | Some y ↦ λ k. k ] h;
}

abbrev pub AllInFloor : Shape → State → Type 0
AllInFloor shape s = (who : ℕ) (v : WaitId) → IsOwnWait who (s.waits v) → v.channel < length shape

named_there : (shape : Shape) (n k c p : ℕ) (w : WaitId) (s : State) → AllInFloor shape s → c < length shape → MayName n k c p w s
    → w.channel < length shape
named_there shape n k c p w s h lt may = by_test (same_wait w (record { channel = c; place = p })) refl may
  where
    joined : (x : Option Wait) → s.waits w ≡ x → JoinsWait n k c x → w.channel < length shape
    joined None e j = absurd j
    joined (Some x) e j = h n w (subst (IsOwnWait n) (sym e) j.own)

    by_test : (b : Bool) → same_wait w (record { channel = c; place = p }) ≡ b → MatchBool b (k ≤ 7) (JoinsWait n k c (s.waits w))
        → w.channel < length shape
    by_test true e m = subst (λ (u : WaitId). u.channel < length shape) (sym (same_wait-eq w (record { channel = c; place = p }) e)) lt
    by_test false e m = joined (s.waits w) refl m

begun_there : (shape : Shape) (n : ℕ) (v : WaitId) (s : State) (act : Act) → AllInFloor shape s → Needs shape s n act → begins act ≡ Some v
    → v.channel < length shape
begun_there shape n v s (Offer c p x w k) h needs e = subst (λ (u : WaitId). u.channel < length shape) (same_Some w v e)
    (named_there shape n k c p w s h needs.0 needs.4)
begun_there shape n v s (Await c p w k) h needs e = subst (λ (u : WaitId). u.channel < length shape) (same_Some w v e)
    (named_there shape n k c p w s h needs.0 needs.3)
begun_there shape n v s (Hand c p x) h needs e = cc
begun_there shape n v s other h needs e = cc

floor_step : (shape : Shape) (s : State) (n : ℕ) (act : Act) → Needs shape s n act → AllInFloor shape s → AllInFloor shape (after s n act)
floor_step shape s n act needs h = λ who v is. ⊎_elim (λ before. h who v before) (λ own. begun_there shape n v s act h needs own.1)
    (act_from who (IsOwnWait who) (of_comes who) n v s act is)

floor_from : (shape : Shape) (s : State) (es : List Entry) → LegalFrom shape s es → AllInFloor shape s → AllInFloor shape (replay_from s es)
unfolding LegalFrom replay_from
floor_from shape s [] l h = h
floor_from shape s (e ∷ es) l h = floor_from shape (after s e.who e.act) es l.1 (floor_step shape s e.who e.act l.0 h)

pub all_in_floor : (shape : Shape) (es : List Entry) → Legal shape es → AllInFloor shape (replay es)
all_in_floor shape es l = floor_from shape start es l (λ who v is. absurd is)

unsettled_is_of : (who : ℕ) (x : Option Wait) → IsUnsettledOf who x → IsOwnWait who x
unsettled_is_of who None h = h
unsettled_is_of who (Some x) h = h.0

pub unsettled_in_floor : (shape : Shape) (es : List Entry) (who : ℕ) (v : WaitId) → Legal shape es → IsUnsettledOf who ((replay es).waits v)
    → v.channel < length shape
unsettled_in_floor shape es who v l h = all_in_floor shape es l who v (unsettled_is_of who ((replay es).waits v) h)
