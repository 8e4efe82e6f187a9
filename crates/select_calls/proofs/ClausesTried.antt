-- What a send or a receive told that was tried as a clause.
use Rattle.std.specs.Prelude.{◌≡◌, ℕ, true, [], ◌∷◌, Ok, refl}
use Rattle.std.proofs.Common.{◌∙◌}
use Rattle.channel_model.specs.declared.acts.ChannelNote.TheVariants.{Full, Empty}
use Rattle.channel_model.specs.Floors.{AtStep}
use Rattle.channel_model.proofs.Spans.{nothing_more}
use Rattle.call_meaning.specs.Telling.{items_in}
use Rattle.call_meaning.specs.ChannelCalls.{sends, receives, blocked, spent}
use Rattle.call_meaning.specs.Seen.{SeenOnChannels}
use Rattle.call_meaning.specs.Calls.{ToldOnChannels}
use Rattle.channel_calls.specs.declared.caller.TriedAs.TheVariants as tried_as
use Rattle.channel_calls.specs.declared.caller.TrySendAnswer.TheVariants as try_send
use Rattle.channel_calls.specs.declared.caller.TryReceiveAnswer.TheVariants as try_receive
use Rattle.channel_calls.specs.Calls.{SendTriedAs, ReceiveTriedAs}
use Rattle.channel_calls.proofs.HeardMoments.{heard_at}
use Rattle.select_calls.specs.declared.clause.Outcome.TheVariants as outcome
use Rattle.select_calls.specs.declared.tries.Tried.TheVariants as tried
use Rattle.select_calls.specs.Selects.{Meets}
use Rattle.select_calls.specs.Parts.{BlockedAt, TriedAnswer}
use Rattle.select_calls.proofs.StillMoments.{still_so}

module _ {c : ℕ} {a d : SeenOnChannels} where
  -- ---- a send

  pub sent : {v : ℕ} → SendTriedAs tried_as.Clause c v a d (Ok try_send.Sent) → TriedAnswer (sends c v) a d (Ok (tried.Ready outcome.Sent))
  sent {v} t = record { told = t.told; goes = Meets.sent c v t.told t.goes; left = t.left }

  full_same : {v : ℕ} → ToldOnChannels a d (blocked (sends c v) ∷ []) → a.floor.alone ≡ true → d.floor.seen ≡ a.floor.seen
  unfolding items_in
  full_same t alone = t.added.alone alone ∙ nothing_more a.floor.seen

  pub full : {v : ℕ} → SendTriedAs tried_as.Clause c v a d (Ok try_send.Full) → TriedAnswer (sends c v) a d (Ok tried.Blocked)
  full {v} t =
      let at : AtStep a.floor d.floor (BlockedAt a.floor.shape (sends c v)) = heard_at (Full c v) t in (
        t,
        at.holds.may_wait,
        λ alone. let same = full_same t alone
            in (same, still_so a.floor d.floor (BlockedAt a.floor.shape (sends c v)) at same),
      )

  pub send_closed : {v x : ℕ} → SendTriedAs tried_as.Clause c v a d (Ok (try_send.Closed x))
      → TriedAnswer (sends c v) a d (Ok (tried.Ready (outcome.Closed x)))
  send_closed {v} {x} t = record { told = _; goes = Meets.send_closed c v x; left = t }

  pub no_place : (v : ℕ) → SendTriedAs tried_as.Clause c v a d (Ok try_send.Spent) → TriedAnswer (sends c v) a d (Ok tried.Spent)
  no_place v t = record { told = spent (sends c v); goes = refl; left = t }

  -- ---- a receive

  pub received : {v : ℕ} → ReceiveTriedAs tried_as.Clause c a d (Ok (try_receive.Value v))
      → TriedAnswer (receives c) a d (Ok (tried.Ready (outcome.Value v)))
  received {v} t = record { told = t.told; goes = Meets.received c v t.told t.goes; left = t.left }

  empty_same : ToldOnChannels a d (blocked (receives c) ∷ []) → a.floor.alone ≡ true → d.floor.seen ≡ a.floor.seen
  unfolding items_in
  empty_same t alone = t.added.alone alone ∙ nothing_more a.floor.seen

  pub empty : ReceiveTriedAs tried_as.Clause c a d (Ok try_receive.Empty) → TriedAnswer (receives c) a d (Ok tried.Blocked)
  empty t =
      let at : AtStep a.floor d.floor (BlockedAt a.floor.shape (receives c)) = heard_at (Empty c) t in
      (t, tt, λ alone. let same = empty_same t alone in (same, still_so a.floor d.floor (BlockedAt a.floor.shape (receives c)) at same))

  pub receive_closed : {x : ℕ} → ReceiveTriedAs tried_as.Clause c a d (Ok (try_receive.Closed x))
      → TriedAnswer (receives c) a d (Ok (tried.Ready (outcome.Closed x)))
  receive_closed {x} t = record { told = _; goes = Meets.receive_closed c x; left = t }
