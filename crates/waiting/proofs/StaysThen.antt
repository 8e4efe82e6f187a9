-- A pass that does nothing but look.
use Rattle.std.specs.Prelude.{◌≡◌, ℕ, Bool, false, refl}
use Rattle.co_base.proofs.Orders.{order_same}
use Rattle.std.proofs.Common.{subst, ◌∙◌, arith}
use Rattle.co_base.specs.declared.names.WaitId.{WaitId}
use Rattle.channel_model.specs.Floors.{Floor, Looked}
use Rattle.channel_model.proofs.Spans.{prefix_self, prefix_then, setting_then}
use Rattle.parcel_channel.specs.declared.hub.ParcelHub.{ParcelHub}
use Rattle.parcel_channel.specs.declared.hub.ParcelPass.{ParcelPass}
use Rattle.channel_model.specs.Answers.{IsReady}
use Rattle.parcel_channel.specs.declared.answers.ParcelSettled.{ParcelSettled}
use Rattle.parcel_channel.specs.Seen.{Seen}
use Rattle.parcel_channel.specs.Hubs.{seen_by, floor_by, SettleParcel}
use Rattle.parcel_channel.specs.Numbers.{HoldsWait}
use Rattle.waiting.specs.Waits.{Stays, EndsAsleep}

looked_self : (who : ℕ) (a : Floor) → Looked who a a
looked_self who a = record {
  same = record { shape = refl; alone = refl; callers = refl; order = order_same _ };
  longer = prefix_self a.seen;
  mine = refl;
  alone = λ e. refl;
  spare = omega arith;
}

pub looked_then : (who : ℕ) (a b c : Floor) → Looked who a b → Looked who b c → Looked who a c
looked_then who a b c h k = record {
  same = setting_then a b c h.same k.same;
  longer = prefix_then a.seen b.seen c.seen h.longer k.longer;
  mine = k.mine ∙ h.mine;
  alone = λ e. k.alone (h.same.alone ∙ e) ∙ h.alone e;
  spare = omega (arith, h.spare, k.spare);
}

module _ {T : Type 0} where
  pub stays_self : (hub : ParcelHub T) (wait : WaitId) (p : ParcelPass T) → HoldsWait p.tag wait (floor_by hub p) → Stays hub wait p p
  stays_self hub wait p h = record {
    same = (refl, (refl, refl), refl);
    values = refl;
    looked = looked_self p.tag (floor_by hub p);
    holds =
        h;
  }

  pub stays_then : (hub : ParcelHub T) (wait : WaitId) (p q r : ParcelPass T) → Stays hub wait p q → Stays hub wait q r → Stays hub wait p r
  stays_then hub wait p q r h k = record {
    same = (k.same.0 ∙ h.same.0, (k.same.1.0 ∙ h.same.1.0, k.same.1.1 ∙ h.same.1.1), k.same.2 ∙ h.same.2);
    values = k.values ∙ h.values;
    looked = looked_then p.tag (floor_by hub p) (floor_by hub q) (floor_by hub r) h.looked
        (subst (λ t. Looked t (floor_by hub q) (floor_by hub r)) h.same.0 k.looked);
    holds = k.holds;
  }

  pub settle_as : (hub : ParcelHub T) (wait : WaitId) (cancelled : Bool) (p q r : ParcelPass T) (old new : Floor) (s : ParcelSettled T)
      → q.tag ≡ p.tag → seen_by q ≡ seen_by p → SettleParcel hub.parcels q.tag wait cancelled (seen_by q) (seen_by r) old new s
      → SettleParcel hub.parcels p.tag wait cancelled (seen_by p) (seen_by r) old new s
  settle_as hub wait cancelled p q r old new s tags values k =
      subst (λ (v : Seen T). SettleParcel hub.parcels p.tag wait cancelled v (seen_by r) old new s) values
      (subst (λ t. SettleParcel hub.parcels t wait cancelled (seen_by q) (seen_by r) old new s) tags k)

  pub ends_asleep : (hub : ParcelHub T) (wait : WaitId) (p q r : ParcelPass T) (s : ParcelSettled T) → Stays hub wait p q
      → IsReady q.tag wait (floor_by hub q)
      → SettleParcel hub.parcels q.tag wait false (seen_by q) (seen_by r) (floor_by hub q) (floor_by hub r) s
      → EndsAsleep hub.parcels p.tag wait (seen_by p) (seen_by r) (floor_by hub p) (floor_by hub r) s
  ends_asleep hub wait p q r s h ready k = record {
    ready = floor_by hub q;
    looked = h.looked;
    resolved = subst (λ t. IsReady t wait (floor_by hub q)) h.same.0 ready;
    settled = settle_as hub wait false p q r (floor_by hub q) (floor_by hub r) s h.same.0 h.values k;
  }
