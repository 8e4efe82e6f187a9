-- What a send answers, and one that never waits, by what its number came to.
use Rattle.std.specs.Prelude.{◌≡◌, ℕ, Some, None, Ok}
use Rattle.std.proofs.Common.{sym, subst}
use Rattle.channel_model.specs.Floors.{Floor}
use Rattle.parcel_channel.specs.declared.answers.ParcelSent.{ParcelSent}
use Rattle.parcel_channel.specs.declared.answers.ParcelSent.TheVariants as sent
use Rattle.parcel_channel.specs.declared.answers.ParcelOffered.{ParcelOffered}
use Rattle.parcel_channel.specs.declared.answers.ParcelOffered.TheVariants as offered
use Rattle.parcel_channel.specs.Seen.{Seen}
use Rattle.parcel_channel.specs.Answers.{PutAnswer}
use Rattle.parcel_channel.specs.Hubs.{NumberSent, NumberTried, SendAnswer, TrySendAnswer}
use Rattle.parcel_channel.proofs.OneMoveEach.{put_move}

module _ {T : Type 0} where
  pub number_by : (t who k : ℕ) (u w : Seen T) (f old new : Floor) (r : ParcelSent T) → t ≡ who → f ≡ old → NumberSent t k u w f new r
      → NumberSent who k u w old new r
  number_by t who k u w f old new r is same h = subst (λ (a : Floor). NumberSent who k u w a new r) same
      (subst (λ (a : ℕ). NumberSent a k u w f new r) is h)

  pub send_told : (parcels who k : ℕ) (x : T) (v u w : Seen T) (old new : Floor) (r : ParcelSent T) → PutAnswer parcels who x v u (Ok k)
      → NumberSent who k u w old new r → SendAnswer parcels who x v w old new r
  send_told parcels who k x v u w old new (sent.Sent (Some t) set) put h =
      (k, subst (λ (s : Seen T). PutAnswer parcels who x v s (Ok k)) (sym h.2) put, h.0, h.1)
  send_told parcels who k x v u w old new (sent.Sent None set) put h =
      (k, subst (λ (s : Seen T). PutAnswer parcels who x v s (Ok k)) (sym h.1) put, h.0)
  send_told parcels who k x v u w old new (sent.Waits wait set) put h =
      (k, subst (λ (s : Seen T). PutAnswer parcels who x v s (Ok k)) (sym h.2) put, h.0, h.1, h.3)
  send_told parcels who k x v u w old new (sent.NoParcel y) put h = absurd h
  send_told parcels who k x v u w old new sent.Lost put h = (k, u, put, h.0, h.1)
  send_told parcels who k x v u w old new other put h = (k, u, put, h.0, h.1, h.2 x (put_move parcels who k x v u put))

  pub tried_by : (t who k : ℕ) (u w : Seen T) (f old new : Floor) (r : ParcelOffered T) → t ≡ who → f ≡ old → NumberTried t k u w f new r
      → NumberTried who k u w old new r
  tried_by t who k u w f old new r is same h = subst (λ (a : Floor). NumberTried who k u w a new r) same
      (subst (λ (a : ℕ). NumberTried a k u w f new r) is h)

  pub tried_told : (parcels who k : ℕ) (x : T) (v u w : Seen T) (old new : Floor) (r : ParcelOffered T) → PutAnswer parcels who x v u (Ok k)
      → NumberTried who k u w old new r → TrySendAnswer parcels who x v w old new r
  tried_told parcels who k x v u w old new (offered.Sent (Some t)) put h =
      (k, h.0, subst (λ (s : Seen T). PutAnswer parcels who x v s (Ok k)) (sym h.2) put, h.1)
  tried_told parcels who k x v u w old new (offered.Sent None) put h =
      (k, h.0, subst (λ (s : Seen T). PutAnswer parcels who x v s (Ok k)) (sym h.2) put, h.1)
  tried_told parcels who k x v u w old new (offered.NoParcel y) put h = absurd h
  tried_told parcels who k x v u w old new offered.Lost put h = (k, u, put, h.0, h.1)
  tried_told parcels who k x v u w old new other put h = (k, u, put, h.0, h.1, h.2 x (put_move parcels who k x v u put))
