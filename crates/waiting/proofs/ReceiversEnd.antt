-- The wait of a receiver that nobody takes back ends with a value, or with a close.
use Rattle.std.specs.Prelude.{◌≡◌, ℕ, Bool, true, false, List, [], ◌∷◌, ◌++◌, Option, Some, None, refl}
use Rattle.std.proofs.Common.{sym, ap, ◌∙◌, subst, ⊎_elim}
use mathlib.Core.List.{IsPrefix}
use Rattle.co_base.specs.declared.names.WaitId.{WaitId}
use Rattle.channel_model.specs.declared.acts.Act.{Act}
use Rattle.channel_model.specs.declared.acts.Act.TheVariants.{Await, Settle}
use Rattle.channel_model.specs.declared.acts.Entry.{Entry}
use Rattle.channel_model.specs.declared.acts.Settled.{Settled}
use Rattle.channel_model.specs.declared.acts.Settled.TheVariants as end
use Rattle.channel_model.specs.declared.floor.Got.TheVariants as got
use Rattle.channel_model.specs.Channels.{Shape}
use Rattle.channel_model.specs.Histories.{replay, acts_of, Legal}
use Rattle.channel_model.specs.Floors.{Floor, Looked}
use Rattle.channel_model.specs.Answers.{GotAnswer, SettleAnswer}
use Rattle.channel_model.specs.ClauseSides.{AllAllowed, EndsAtClause}
use Rattle.channel_model.proofs.Histories.{Legal-prefix}
use Rattle.channel_model.proofs.Spans.{prefix_then, added_made}
use Rattle.channel_model.proofs.ResolvedAtClauses.{begun_at_clause, ends_at_clause}
use Rattle.parcel_channel.specs.declared.hub.ParcelHub.{ParcelHub}
use Rattle.parcel_channel.specs.declared.hub.ParcelPass.{ParcelPass}
use Rattle.parcel_channel.specs.declared.answers.ParcelSettled.{ParcelSettled}
use Rattle.parcel_channel.specs.declared.answers.ParcelSettled.TheVariants as settled
use Rattle.parcel_channel.specs.Seen.{Seen}
use Rattle.parcel_channel.specs.Numbers.{HoldsWait, Cancels}
use Rattle.waiting.specs.Stands.{last_or, AwaitsOn, AwaitsAt, HoldsAt}
use Rattle.waiting.specs.Waits.{EndsAsleep, IsReceived}

-- ---- the last act

last_push : (before : Option Act) (acts : List Act) (act : Act) → last_or before (acts ++ act ∷ []) ≡ Some act
unfolding last_or
last_push before [] act = refl
last_push before (x ∷ xs) act = last_push (Some x) xs act

last_split : (x act : Act) (xs : List Act) → last_or (Some x) xs ≡ Some act → (earlier : List Act) × (x ∷ xs ≡ earlier ++ act ∷ [])
unfolding last_or
last_split x act [] e = let same : x ≡ act = cc in ([], ap (λ (a : Act). a ∷ []) same)
last_split x act (y ∷ ys) e = let h = last_split y act ys e in (x ∷ h.0, ap (λ (l : List Act). x ∷ l) h.1)

nothing_last : (act : Act) → last_or None [] ≡ Some act → ⊥
unfolding last_or
nothing_last act e = cc

last_parts : (act : Act) (acts : List Act) → last_or None acts ≡ Some act → (earlier : List Act) × (acts ≡ earlier ++ act ∷ [])
unfolding last_or
last_parts act [] e = absurd (nothing_last act e)
last_parts act (x ∷ xs) e = last_split x act xs e

-- ---- a receiver that was placed, and stands

pub awaits_begun : (who : ℕ) (w : WaitId) (a d : Floor) → GotAnswer who 0 a d (got.Waiting w.place) → w.channel ≡ 0 → HoldsWait who w d
    → AwaitsOn who w d
awaits_begun who w a d m e h =
    let act = Await 0 w.place (record { channel = 0; place = w.place }) 0 in
    let last : last_or None (acts_of who d.seen) ≡ Some act = ap (λ (l : List Act). last_or None l) (added_made who act a d m).mine
    ∙ last_push None (acts_of who a.seen) act in (
      (
        e,
        subst (λ (c : ℕ). last_or None (acts_of who d.seen) ≡ Some (Await c w.place (record { channel = c; place = w.place }) 0)) (sym e)
            last,
      ),
      h,
    )

pub awaits_still : (who : ℕ) (w : WaitId) (a d : Floor) → Looked who a d → HoldsWait who w d → AwaitsOn who w a → AwaitsOn who w d
awaits_still who w a d l h k = ((k.0.0, ap (λ (acts : List Act). last_or None acts) l.mine ∙ k.0.1), h)

-- ---- how it ends

-- it has no clause but a receive
abbrev Receives : Bool → ℕ → ℕ → Type 0
Receives side n c = side ≡ false

ends_so : (shape : Shape) (who : ℕ) (w : WaitId) (d e : Floor) (outcome : Settled) → Legal shape d.seen
    → last_or None (acts_of who d.seen) ≡ Some (Await w.channel w.place w 0) → SettleAnswer who w false d e outcome
    → EndsAtClause shape Receives ⊥ outcome
unfolding AllAllowed
ends_so shape who w d e outcome l k s =
    let parts = last_parts (Await w.channel w.place w 0) (acts_of who d.seen) k in
    ends_at_clause shape Receives ⊥ ((replay d.seen).waits w) outcome
    (begun_at_clause shape Receives ⊥ who w d.seen parts.0 (Await w.channel w.place w 0) [] l parts.1 (refl, refl) ((λ z. refl), tt)) s.1

earlier_legal : (shape : Shape) (xs ys : List Entry) → IsPrefix xs ys → Legal shape ys → Legal shape xs
earlier_legal shape xs ys q h = Legal-prefix shape xs q.0 (subst (Legal shape) (sym q.1) h)

settled_longer : (who : ℕ) (w : WaitId) (d e : Floor) (outcome : Settled) → SettleAnswer who w false d e outcome → IsPrefix d.seen e.seen
settled_longer who w d e outcome s = (added_made who (Settle w outcome) d e s.0).longer

never_sent : (shape : Shape) (who n : ℕ) (w : WaitId) (a d e : Floor) → Legal shape e.seen → AwaitsOn who w a → Looked who a d
    → SettleAnswer who w false d e (end.Sent n) → ⊥
never_sent shape who n w a d e l k m s =
    let legal = earlier_legal shape d.seen e.seen (settled_longer who w d e (end.Sent n) s) l in
    let h = ends_so shape who w d e (end.Sent n) legal (ap (λ (acts : List Act). last_or None acts) m.mine ∙ k.0.1) s in
    let q : true ≡ false = h.1 in cc

never_undelivered : (shape : Shape) (who v : ℕ) (w : WaitId) (a d e : Floor) → Legal shape e.seen → AwaitsOn who w a → Looked who a d
    → SettleAnswer who w false d e (end.Undelivered v) → ⊥
never_undelivered shape who v w a d e l k m s =
    let legal = earlier_legal shape d.seen e.seen (settled_longer who w d e (end.Undelivered v) s) l in
    ends_so shape who w d e (end.Undelivered v) legal (ap (λ (acts : List Act). last_or None acts) m.mine ∙ k.0.1) s

never_cancelled : (shape : Shape) (who : ℕ) (w : WaitId) (a d e : Floor) → Legal shape e.seen → AwaitsOn who w a → Looked who a d
    → Cancels who w false d e → ⊥
never_cancelled shape who w a d e l k m s =
    let longer = prefix_then d.seen s.mid.seen e.seen (settled_longer who w d s.mid end.Cancelled s.settled) s.looked.longer in
    let legal = earlier_legal shape d.seen e.seen longer l in
    ⊎_elim (λ h. h) (λ h. let q : true ≡ false = h.2 in cc)
    (ends_so shape who w d s.mid end.Cancelled legal (ap (λ (acts : List Act). last_or None acts) m.mine ∙ k.0.1) s.settled)

module _ {T : Type 0} where
  pub awaits_holds : (hub : ParcelHub T) (pass : ParcelPass T) (wait : Option WaitId) → AwaitsAt hub pass wait → HoldsAt hub pass wait
  awaits_holds hub pass None h = h
  awaits_holds hub pass (Some w) h = (h.0.0, h.1)

  pub received_so : (shape : Shape) (parcels who : ℕ) (w : WaitId) (v u : Seen T) (a e : Floor) (s : ParcelSettled T) → Legal shape e.seen
      → AwaitsOn who w a → EndsAsleep parcels who w v u a e s → IsReceived s
  received_so shape parcels who w v u a e settled.Sent l k h =
      let s = h.settled.0 in never_sent shape who s.0 w a h.ready e l k h.looked s.1
  received_so shape parcels who w v u a e (settled.Cancelled (Some x)) l k h =
      let s = h.settled.1 in never_cancelled shape who w a h.ready e l k h.looked s.0
  received_so shape parcels who w v u a e (settled.Cancelled None) l k h =
      let s = h.settled.0 in never_cancelled shape who w a h.ready e l k h.looked s.0
  received_so shape parcels who w v u a e (settled.Undelivered x) l k h =
      never_undelivered shape who h.settled.0 w a h.ready e l k h.looked h.settled.1
  received_so shape parcels who w v u a e other l k h = tt
