-- Who waits goes on waiting, and has its answer.
use Rattle.std.specs.Prelude.{◌≡◌, ℕ, ◌+◌, Option, Result}
use Rattle.std.proofs.Common.{subst}
use Rattle.ring_channel.specs.Seen.{Seen}
use Rattle.ring_channel.specs.Outcomes.Tried.{first, again}
use Rattle.ring_bridge.specs.declared.sinks.RingSinkFault.{RingSinkFault}
use Rattle.ring_bridge.specs.Waits.{NotYetReceived, NotYetSent, ReceivedOrOver, SentOrNot, WaitedToReceive, WaitedToSend, SleptToReceive, SleptToSend}

module _ {T : Type 0} where
  pub none_received : (n who : ℕ) (v : Seen T) → WaitedToReceive n who v v
  none_received n who v = record { times = 0; waited = first v }

  pub received_more : (n who now : ℕ) (v u w : Seen T) → now ≡ who → WaitedToReceive n who v u → NotYetReceived n now u w
      → WaitedToReceive n who v w
  received_more n who now v u w is h k = record {
    times = h.times + 1;
    waited = again h.times v u w h.waited (subst (λ t. NotYetReceived n t u w) is k);
  }

  pub slept_to_receive : (n who now : ℕ) (v u w : Seen T) (r : Option (ℕ × T)) → now ≡ who → WaitedToReceive n who v u
      → ReceivedOrOver n now u w r → SleptToReceive n who v w r
  slept_to_receive n who now v u w r is h k =
      record { last = u; waited = h; answer = subst (λ t. ReceivedOrOver n t u w r) is k }

  pub none_sent : (n places who : ℕ) (x : T) (v : Seen T) → WaitedToSend n places who x v v
  none_sent n places who x v = record { times = 0; waited = first v }

  pub sent_more : (n places who now : ℕ) (x y : T) (v u w : Seen T) → now ≡ who → y ≡ x → WaitedToSend n places who x v u
      → NotYetSent n places now y u w → WaitedToSend n places who x v w
  sent_more n places who now x y v u w is same h k = record {
    times = h.times + 1;
    waited = again h.times v u w h.waited
        (subst (λ z. NotYetSent n places who z u w) same (subst (λ t. NotYetSent n places t y u w) is k));
  }

  pub slept_to_send : (n places who now : ℕ) (x y : T) (v u w : Seen T) (r : Result ℕ (RingSinkFault T)) → now ≡ who → y ≡ x
      → WaitedToSend n places who x v u → SentOrNot n places now y u w r → SleptToSend n places who x v w r
  slept_to_send n places who now x y v u w r is same h k = record {
    last = u;
    waited = h;
    answer = subst (λ z. SentOrNot n places who z u w r) same (subst (λ t. SentOrNot n places t y u w r) is k);
  }
