use Rattle.std.proofs.Common.{◌<◌, [], ◌∷◌, length, ap, ◌∙◌, sym, subst, arith}
use Rattle.std.specs.List.{All}
use Rattle.std.proofs.lemmas.List.Elements.{All-nil, All-cons}
use Rattle.worded.specs.Views.{has_tag}
use Rattle.channel_model.specs.Channels.{Shape, kind_at, is_signal}
use Rattle.cell_words.specs.Hubs.{IsOwn}
use Rattle.floor_rows.specs.declared.on_passes.Caller.{Caller}
use Rattle.floor_rows.proofs.on_passes.four_threads_lose_no_call_and_no_element.Goals as goal

-- what holds of each of four holds of all
all_four : {X : Type 0} (P : X → Type 0) (a b c d : X) → P a → P b → P c → P d → All P (a ∷ b ∷ c ∷ d ∷ [])
all_four P a b c d p q r s =
    All-cons P a (b ∷ c ∷ d ∷ []) p (All-cons P b (c ∷ d ∷ []) q (All-cons P c (d ∷ []) r (All-cons P d [] s (All-nil P))))

pub split-first-requires-clause-of : goal.split-first-requires-clause-of
split-first-requires-clause-of g c = c.in_ok-hub.ensures.own.0

pub split-first-requires-clause-new : goal.split-first-requires-clause-new
split-first-requires-clause-new g c = let e = c.in_ok-hub.ensures.gives in (e.0, ap (has_tag 1) e.1)

pub split-second-requires-clause-of : goal.split-second-requires-clause-of
split-second-requires-clause-of g c = c.split-first.ensures.of

pub split-second-requires-clause-new : goal.split-second-requires-clause-new
split-second-requires-clause-new g c =
    let a = c.split-first.ensures.gives in
    (a.0, ap (has_tag 2) a.1 ∙ ap (has_tag 2) c.in_ok-hub.ensures.gives.1)

pub split-third-requires-clause-of : goal.split-third-requires-clause-of
split-third-requires-clause-of g c = c.split-second.ensures.of

pub split-third-requires-clause-new : goal.split-third-requires-clause-new
split-third-requires-clause-new g c =
    let b = c.split-second.ensures.gives in
    (b.0, ap (has_tag 3) b.1 ∙ ap (has_tag 3) c.split-first.ensures.gives.1 ∙ ap (has_tag 3) c.in_ok-hub.ensures.gives.1)

pub split-fourth-requires-clause-of : goal.split-fourth-requires-clause-of
split-fourth-requires-clause-of g c = c.split-third.ensures.of

pub split-fourth-requires-clause-new : goal.split-fourth-requires-clause-new
split-fourth-requires-clause-new g c =
    let d = c.split-third.ensures.gives in (
      d.0,
      ap (has_tag 4) d.1 ∙ ap (has_tag 4) c.split-second.ensures.gives.1 ∙ ap (has_tag 4) c.split-first.ensures.gives.1
          ∙ ap (has_tag 4) c.in_ok-hub.ensures.gives.1,
    )

pub at_once-requires-clause-own : goal.at_once-requires-clause-own
at_once-requires-clause-own g c κs =
    let P = λ (x : Caller). IsOwn c.in_ok-hub.hub x.pass x.who in
    all_four P c.caller_of-a.result c.caller_of-b.result c.caller_of-c.result c.caller_of-d.result c.caller_of-a.ensures.own
    c.caller_of-b.ensures.own c.caller_of-c.ensures.own c.caller_of-d.ensures.own

pub at_once-requires-clause-channel : goal.at_once-requires-clause-channel
at_once-requires-clause-channel g c κs =
    subst (λ (s : Shape). 0 < length s) (sym c.in_ok-hub.ensures.shape) (omega arith)

pub at_once-requires-clause-kind : goal.at_once-requires-clause-kind
at_once-requires-clause-kind g c κs = ap (λ (s : Shape). is_signal (kind_at s 0)) c.in_ok-hub.ensures.shape

pub end-requires-clause-main : goal.end-requires-clause-main
end-requires-clause-main g c = c.split-fourth.ensures.of

pub end-requires-clause-channel : goal.end-requires-clause-channel
end-requires-clause-channel g c = subst (λ (s : Shape). 0 < length s) (sym c.in_ok-hub.ensures.shape) (omega arith)

pub end-requires-2-clause-main : goal.end-requires-2-clause-main
end-requires-2-clause-main g c = c.end.ensures.main

pub end-requires-2-clause-channel : goal.end-requires-2-clause-channel
end-requires-2-clause-channel g c = subst (λ (s : Shape). 0 < length s) (sym c.in_ok-hub.ensures.shape) (omega arith)

pub end-requires-3-clause-main : goal.end-requires-3-clause-main
end-requires-3-clause-main g c = c.end-2.ensures.main

pub end-requires-3-clause-channel : goal.end-requires-3-clause-channel
end-requires-3-clause-channel g c = subst (λ (s : Shape). 0 < length s) (sym c.in_ok-hub.ensures.shape) (omega arith)

pub end-requires-4-clause-main : goal.end-requires-4-clause-main
end-requires-4-clause-main g c = c.end-3.ensures.main

pub end-requires-4-clause-channel : goal.end-requires-4-clause-channel
end-requires-4-clause-channel g c = subst (λ (s : Shape). 0 < length s) (sym c.in_ok-hub.ensures.shape) (omega arith)
