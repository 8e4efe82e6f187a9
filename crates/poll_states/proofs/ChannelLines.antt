-- The lines of a coroutine that call channels.
use Rattle.std.specs.Prelude.{◌≡◌, ℕ, ◌<◌, nat_lt, length, Bool, true, false, ◌&&◌, not, List, [], ◌∷◌, Option, Some, None, is_some, unwrap_or, refl, Ok}
use Rattle.std.proofs.Common.{sym, ap, ◌∙◌, subst, arith}
use Rattle.std.proofs.lemmas.Bool.Decides.{nat_tests}
use Rattle.co_base.specs.declared.names.WaitId.{WaitId}
use Rattle.channel_model.specs.declared.acts.Act.{Act}
use Rattle.channel_model.specs.declared.acts.ChannelNote.TheVariants.{TrySendClosed, TryReceiveClosed}
use Rattle.channel_model.specs.Floors.{Floor as ChannelFloor}
use Rattle.job_model.specs.Histories.{Legal}
use Rattle.job_model.specs.Floors.{Floor}
use Rattle.call_meaning.specs.Telling.{Told, heard}
use Rattle.call_meaning.specs.ChannelCalls.{Call, sends, receives, Answer as AnswerMeant, Done, Got, Closed, NoPlace, AtOnce, Refused, TryRefused, blocked, spent, wait_at, Closes, CancelsChannel, PlainCall, TryCall}
use Rattle.call_meaning.specs.Seen.{SeenOnChannels}
use Rattle.call_meaning.specs.Calls.{ToldOnChannels}
use Rattle.channel_calls.specs.declared.caller.SendAnswer.{SendAnswer}
use Rattle.channel_calls.specs.declared.caller.SendAnswer.TheVariants as send
use Rattle.channel_calls.specs.declared.caller.TrySendAnswer.{TrySendAnswer}
use Rattle.channel_calls.specs.declared.caller.TrySendAnswer.TheVariants as try_send
use Rattle.channel_calls.specs.declared.caller.ReceiveAnswer.{ReceiveAnswer}
use Rattle.channel_calls.specs.declared.caller.ReceiveAnswer.TheVariants as receive
use Rattle.channel_calls.specs.declared.caller.TryReceiveAnswer.{TryReceiveAnswer}
use Rattle.channel_calls.specs.declared.caller.TryReceiveAnswer.TheVariants as try_receive
use Rattle.channel_calls.specs.Calls.{IsLeftWaiting, SentAnswer, TrySentAnswer, ReceivedAnswer, TryReceivedAnswer, ClosedAnswer, CancelledChannelAnswer, ToldPart, GoesSomehow, GoesAtOnceSomehow}
use Rattle.channel_calls.proofs.OwnOffers.{left_seen}
use Rattle.channel_calls.proofs.Untold.{part_of}
use Rattle.channel_calls.proofs.AnswersGo.{sent_goes, unsent_goes, closes_goes, cancels_goes}
use Rattle.script_grammar.specs.declared.instructions.Operand.{Operand}
use Rattle.script_grammar.specs.declared.instructions.Instruction.{Instruction}
use Rattle.script_grammar.specs.declared.instructions.Instruction.TheVariants as line
use Rattle.script_grammar.specs.Programs.{Program, shape_of}
use Rattle.script_grammar.specs.Blocks.{channel_of, is_clause}
use Rattle.script_grammar.specs.Declarations.{is_below}
use Rattle.script_grammar.specs.WellFormed.{IsProgram}
use Rattle.script_grammar.proofs.Declarations.{line-within, length-shape_of}
use Rattle.script_meaning.specs.Shapes.{base_of}
use Rattle.script_meaning.specs.Configs.{Config, IsAt, next, operand}
use Rattle.script_meaning.specs.WaitEnds.{past}
use Rattle.script_meaning.proofs.LinesPlaced.{opened_closed}
use Rattle.script_meaning.specs.Lines.{LineCalls, After}
use Rattle.script_meaning.specs.Moves.{Move}
use Rattle.script_meaning.specs.Polls.{HasStood}
use Rattle.poll_states.specs.declared.answers.Answer.{Answer}
use Rattle.poll_states.specs.declared.answers.Answer.TheVariants as came
use Rattle.poll_states.specs.Frames.{Frame, config_of, items_of, channels_at, at_poll}
use Rattle.poll_states.specs.Calls.{does_call, channel_in, element_of, answer_of_send, answer_of_try_send, answer_of_receive, answer_of_try_receive, meant, is_done, is_closed, IsSendEnd, CallTellsSomehow, LeftWaiting, Made, after_call}
use Rattle.poll_states.specs.Steps.{Stepped}
use Rattle.script_meaning.specs.Laws.{wait_of}
use Rattle.poll_states.proofs.Mild.{AllMild, plain_mild, try_mild, closes_mild, cancels_channel_mild}
use Rattle.poll_states.specs.Heard.{HasHeardOf}
use Rattle.poll_states.proofs.Stepping.{as_frame_on_channels, no_wait, mild_step, channels_noted}

-- the channel of a line is declared
pub line_low : (p : Program) (k : ℕ) (x : Config) (i : Instruction) (c : ℕ) → IsProgram p → IsAt p k x i → channel_of i ≡ Some c
    → c < base_of p
line_low p k x i c ok at of =
    let low : is_below (length (shape_of p)) (Some c) ≡ true = ap (is_below (length (shape_of p))) (sym of)
    ∙ line-within p ok k x.line i at.line_is in
    let lt : c < length (shape_of p) = lower low in
    subst (λ m. c < m) (length-shape_of p) lt
  where
    lower : nat_lt c (length (shape_of p)) ≡ true → c < length (shape_of p)
    lower e = grind (arith, nat_tests)

pub line_channel : (p : Program) (k : ℕ) (x : Config) (i : Instruction) (c : ℕ) → IsProgram p → IsAt p k x i → channel_of i ≡ Some c
    → c < length (shape_of p)
line_channel p k x i c ok at of = subst (λ m. c < m) (sym (length-shape_of p)) (line_low p k x i c ok at of)

-- ---- what a line calls

left_waiting : {acts : List Act} (w : WaitId) (a b : SeenOnChannels) → IsLeftWaiting w acts a b → HasStood a.floor b.floor w
left_waiting w a b h = record { moment = h.stood.moment; after = h.stood.after; before = h.stood.before; holds = h.stood.holds }

pub same_wait_stood : (c c' : ChannelFloor) (v w : WaitId) → HasStood c c' v → Some v ≡ Some w → HasStood c c' w
same_wait_stood c c' v w h e = let same : v ≡ w = cc in subst (HasStood c c') same h

-- a call that leaves the coroutine here
pub called : (p : Program) (c c' : ChannelFloor) (j j' : Floor) (f g : Frame) (i : Instruction) (told : List Told) (a : AnswerMeant)
    (y : Config)
    → HasHeardOf f.tag c' j j' → Legal j'.shape j'.seen → IsAt p f.tag (config_of f) i → LineCalls p f.tag (config_of f) i told a
    → After p f.tag (config_of f) i a y
    → ToldOnChannels (channels_at c f) (channels_at c' g) told
    → AllMild (base_of p) told → g.tag ≡ f.tag → config_of g ≡ y → ((w : WaitId) → wait_of y.stage ≡ Some w → HasStood c c' w)
    → Stepped p (at_poll c j f) (at_poll c' j' g)
called p c c' j j' f g i told a y hear l at call after noted mild t config stood =
    mild_step p c c' j j' f g told y l (Move.calls (config_of f) y i told a at call after)
    (channels_noted c c' j j' f g told hear noted) mild t config
    (λ w e. stood w (sym (ap (λ (x : Config). wait_of x.stage) config) ∙ e))

pub no_more_wait : {A : Type 0} (w : WaitId) → None ≡ Some w → A
no_more_wait w e = absurd (let u : ⊥ = cc in u)

-- ---- what a call told

pub sent_made : (o : Operand) (n v : ℕ) (old new : SeenOnChannels) (answer : SendAnswer) (a : Answer) → a ≡ answer_of_send answer
    → SentAnswer n v old new (Ok answer) → Made v (line.Send n o) old new a
sent_made o n v old new answer a e h = subst (Made v (line.Send n o) old new) (sym e) (by_answer answer h)
  where
    by_answer : (answer : SendAnswer) → SentAnswer n v old new (Ok answer) → Made v (line.Send n o) old new (answer_of_send answer)
    by_answer send.Sent m = record { told = m.told; goes = ((refl, refl), sent_goes n v m.told m.goes); left = m.left; stood = tt }
    by_answer (send.Waits w) m = record {
      told = m.0.told;
      goes = ((refl, refl), m.0.goes);
      left = m.0.left;
      stood =
          left_waiting w old new (left_seen m.1);
    }
    by_answer (send.Closed x) m = record {
      told = m.0.told;
      goes = ((refl, refl), unsent_goes n v x m.0.told m.0.goes);
      left = m.0.left;
      stood = tt;
    }
    by_answer send.Spent m = record { told = m.told; goes = ((refl, refl), m.goes); left = m.left; stood = tt }

pub tried_to_send_made : (o : Operand) (n v : ℕ) (old new : SeenOnChannels) (answer : TrySendAnswer) (a : Answer)
    → a ≡ answer_of_try_send answer → TrySentAnswer n v old new (Ok answer) → Made v (line.TrySend n o) old new a
tried_to_send_made o n v old new answer a e h = subst (Made v (line.TrySend n o) old new) (sym e) (by_answer answer h)
  where
    by_answer : (answer : TrySendAnswer) → TrySentAnswer n v old new (Ok answer)
        → Made v (line.TrySend n o) old new (answer_of_try_send answer)
    by_answer try_send.Sent m = record {
      told = m.told;
      goes = ((refl, refl), TryCall.at_once (sends n v) m.told Done m.goes);
      left =
          m.left;
      stood = tt;
    }
    by_answer try_send.Full m = record {
      told = blocked (sends n v) ∷ [];
      goes = ((refl, refl), TryCall.blocks (sends n v));
      left = m;
      stood = tt;
    }
    by_answer (try_send.Closed x) m = record {
      told = heard (TrySendClosed n v x) ∷ [];
      goes =
          ((refl, refl), TryCall.refused (sends n v) _ (TryRefused.send n v x));
      left = m;
      stood = tt;
    }
    by_answer try_send.Spent m = record { told = spent (sends n v); goes = ((refl, refl), TryCall.no_place n v); left = m; stood = tt }

pub tried_to_receive_made : (n v : ℕ) (old new : SeenOnChannels) (answer : TryReceiveAnswer) (a : Answer) → a ≡ answer_of_try_receive answer
    → TryReceivedAnswer n old new (Ok answer) → Made v (line.TryReceive n) old new a
tried_to_receive_made n v old new answer a e h = subst (Made v (line.TryReceive n) old new) (sym e) (by_answer answer h)
  where
    by_answer : (answer : TryReceiveAnswer) → TryReceivedAnswer n old new (Ok answer)
        → Made v (line.TryReceive n) old new (answer_of_try_receive answer)
    by_answer (try_receive.Value x) m = record {
      told = m.told;
      goes = (refl, TryCall.at_once (receives n) m.told (Got x) m.goes);
      left =
          m.left;
      stood = tt;
    }
    by_answer try_receive.Empty m = record {
      told = blocked (receives n) ∷ [];
      goes = (refl, TryCall.blocks (receives n));
      left = m;
      stood =
          tt;
    }
    by_answer (try_receive.Closed x) m = record {
      told = heard (TryReceiveClosed n x) ∷ [];
      goes =
          (refl, TryCall.refused (receives n) _ (TryRefused.receive n x));
      left = m;
      stood = tt;
    }

-- what a receive told
pub received_made : (n v : ℕ) (old new : SeenOnChannels) (answer : ReceiveAnswer) (a : Answer) → a ≡ answer_of_receive answer
    → ReceivedAnswer n old new (Ok answer) → Made v (line.Receive n) old new a
received_made n v old new answer a e h = subst (Made v (line.Receive n) old new) (sym e) (by_answer answer h)
  where
    by_answer : (answer : ReceiveAnswer) → ReceivedAnswer n old new (Ok answer)
        → Made v (line.Receive n) old new (answer_of_receive answer)
    by_answer (receive.Value x) m = record { told = m.told; goes = (refl, m.goes); left = m.left; stood = tt }
    by_answer (receive.Waits w) m = record {
      told = m.0.told;
      goes = (refl, m.0.goes);
      left = m.0.left;
      stood = left_waiting w old new m.1;
    }
    by_answer (receive.Closed x) m = record { told = m.told; goes = (refl, m.goes); left = m.left; stood = tt }
    by_answer receive.Spent m = record { told = m.told; goes = (refl, m.goes); left = m.left; stood = tt }

-- an each receives so too
pub each_made : (n v : ℕ) (old new : SeenOnChannels) (answer : ReceiveAnswer) (a : Answer) → a ≡ answer_of_receive answer
    → ReceivedAnswer n old new (Ok answer) → Made v (line.Each n) old new a
each_made n v old new answer a e h =
    let m = received_made n v old new answer a e h in
    record { told = m.told; goes = m.goes; left = m.left; stood = m.stood }

pub closed_made : (n v : ℕ) (old new : SeenOnChannels) (first : Bool) → ClosedAnswer n 0 old new (Ok first)
    → Made v (line.Close n) old new came.Done
closed_made n v old new first m = record {
  told = m.0.told;
  goes = (refl, closes_goes n 0 first m.0.told m.0.goes);
  left = m.0.left;
  stood =
      tt;
}

pub cancelled_made : (n v : ℕ) (old new : SeenOnChannels) (first : Bool) → CancelledChannelAnswer n old new (Ok first)
    → Made v (line.CancelChannel n) old new came.Done
cancelled_made n v old new first m = record {
  told = m.0.told;
  goes = (refl, cancels_goes n first m.0.told m.0.goes);
  left = m.0.left;
  stood = tt;
}

-- ---- a call that found no memory

-- a call is answered in one of these ways, at once or in the end
abbrev AnsweredAtOnce : Call → AnswerMeant → Type 0
AnsweredAtOnce (sends c v) a = (b : Answer) × IsSendEnd b × (meant b ≡ a)
AnsweredAtOnce (receives c) a = (b : Answer) × (is_closed b ≡ false) × (meant b ≡ a)

abbrev Answered : Call → AnswerMeant → Type 0
Answered (sends c v) a = (b : Answer) × IsSendEnd b × (meant b ≡ a)
Answered (receives c) a = (b : Answer) × (is_done b ≡ false) × (meant b ≡ a)

tried : (call : Call) (told : List Told) (a : AnswerMeant) → AtOnce call told a → AnsweredAtOnce call a
tried _ _ _ (AtOnce.takes c v q admits h) = (came.Got v, refl, refl)
tried _ _ _ other = (came.Done, (refl, refl), refl)

found : (call : Call) (told : List Told) (a : AnswerMeant) → AtOnce call told a → Answered call a
found _ _ _ (AtOnce.takes c v q admits h) = (came.Got v, refl, refl)
found _ _ _ other = (came.Done, (refl, refl), refl)

turned_away : (call : Call) (told : Told) (a : AnswerMeant) → Refused call told a → Answered call a
turned_away _ _ _ (Refused.send c v u) = (came.Done, (refl, refl), refl)
turned_away _ _ _ (Refused.receive c u) = (came.Closed u, refl, refl)

without_place : (call : Call) → Answered call NoPlace
without_place (sends c v) = (came.NoPlace, (refl, refl), refl)
without_place (receives c) = (came.NoPlace, refl, refl)

answered : (call : Call) (told : List Told) (a : AnswerMeant) → PlainCall call told a → Answered call a
answered _ _ _ (PlainCall.at_once call group a h) = found call group a h
answered _ _ _ (PlainCall.refused call told a h) = turned_away call told a h
answered _ _ _ (PlainCall.no_place call all e) = without_place call
answered _ _ _ (PlainCall.offers c v q admits h) = (came.Waits (wait_at c q), (refl, refl), refl)
answered _ _ _ (PlainCall.offer_ends c v q admits settles all h ends e) = (came.Done, (refl, refl), refl)
answered _ _ _ (PlainCall.awaits c q) = (came.Waits (wait_at c q), refl, refl)

pub send_part : (o : Operand) (n v : ℕ) {a b : SeenOnChannels} → ToldPart (GoesSomehow (sends n v)) a b
    → ToldPart (CallTellsSomehow v (line.Send n o)) a b
send_part o n v h = part_of (GoesSomehow (sends n v)) (CallTellsSomehow v (line.Send n o)) (λ told g.
    let e = answered (sends n v) told g.0 g.1 in
    (e.0, (e.1, subst (PlainCall (sends n v) told) (sym e.2) g.1))) h

pub try_send_part : (o : Operand) (n v : ℕ) {a b : SeenOnChannels} → ToldPart (GoesAtOnceSomehow (sends n v)) a b
    → ToldPart (CallTellsSomehow v (line.TrySend n o)) a b
try_send_part o n v h = part_of (GoesAtOnceSomehow (sends n v)) (CallTellsSomehow v (line.TrySend n o)) (λ told g.
    let e = tried (sends n v) told g.0 g.1 in
    (e.0, (e.1, subst (TryCall (sends n v) told) (sym e.2) (TryCall.at_once (sends n v) told g.0 g.1)))) h

received_somehow : (n : ℕ) (told : List Told) → GoesSomehow (receives n) told
    → (b : Answer) × ((is_done b ≡ false) × PlainCall (receives n) told (meant b))
received_somehow n told g =
    let e = answered (receives n) told g.0 g.1 in
    (e.0, (e.1, subst (PlainCall (receives n) told) (sym e.2) g.1))

pub receive_part : (n v : ℕ) {a b : SeenOnChannels} → ToldPart (GoesSomehow (receives n)) a b
    → ToldPart (CallTellsSomehow v (line.Receive n)) a b
receive_part n v h = part_of (GoesSomehow (receives n)) (CallTellsSomehow v (line.Receive n)) (λ told g. received_somehow n told g) h

pub each_part : (n v : ℕ) {a b : SeenOnChannels} → ToldPart (GoesSomehow (receives n)) a b → ToldPart (CallTellsSomehow v (line.Each n)) a b
each_part n v h = part_of (GoesSomehow (receives n)) (CallTellsSomehow v (line.Each n)) (λ told g. received_somehow n told g) h

pub try_receive_part : (n v : ℕ) {a b : SeenOnChannels} → ToldPart (GoesAtOnceSomehow (receives n)) a b
    → ToldPart (CallTellsSomehow v (line.TryReceive n)) a b
try_receive_part n v h = part_of (GoesAtOnceSomehow (receives n)) (CallTellsSomehow v (line.TryReceive n)) (λ told g.
    let e = tried (receives n) told g.0 g.1 in
    (e.0, (e.1, subst (TryCall (receives n) told) (sym e.2) (TryCall.at_once (receives n) told g.0 g.1)))) h

pub close_part : (n v : ℕ) {a b : SeenOnChannels} → ToldPart (Closes n 0) a b → ToldPart (CallTellsSomehow v (line.Close n)) a b
close_part n v h = part_of (Closes n 0) (CallTellsSomehow v (line.Close n)) (λ told g. (came.Done, (refl, g))) h

pub cancel_part : (n v : ℕ) {a b : SeenOnChannels} → ToldPart (CancelsChannel n) a b
    → ToldPart (CallTellsSomehow v (line.CancelChannel n)) a b
cancel_part n v h = part_of (CancelsChannel n) (CallTellsSomehow v (line.CancelChannel n)) (λ told g. (came.Done, (refl, g))) h

-- ---- the move of a line that calls

pub call_channel : (i : Instruction) → does_call i ≡ true → channel_of i ≡ Some (channel_in i)
call_channel i h = by_channel (channel_of i) h
  where
    by_channel : (o : Option ℕ) → (is_some o && not (is_clause i)) ≡ true → o ≡ Some (unwrap_or o 0)
    by_channel None e = cc
    by_channel (Some n) e = refl

never : {A : Type 0} → true ≡ false → A
never e = absurd (let u : ⊥ = cc in u)

-- a coroutine goes on from this line where its call came to this; where it waits, that wait stood
abbrev GoesOn : Program → ℕ → Config → Instruction → ChannelFloor → ChannelFloor → Answer → Type 0
GoesOn p k x i c c' a = After p k x i (meant a) (after_call p k x i a)
    × ((w : WaitId) → wait_of (after_call p k x i a).stage ≡ Some w → HasStood c c' w)

goes_waiting : (p : Program) (k : ℕ) (x : Config) (i : Instruction) (c c' : ChannelFloor) (w : WaitId) → HasStood c c' w
    → GoesOn p k x i c c' (came.Waits w)
goes_waiting p k x i c c' w h = (After.waits i w, λ u e. same_wait_stood c c' w u h e)

goes_spent : (p : Program) (k : ℕ) (x : Config) (i : Instruction) (c c' : ChannelFloor) → GoesOn p k x i c c' came.NoPlace
goes_spent p k x i c c' = (After.no_place i, λ w e. no_more_wait w e)

send_goes : (p : Program) (k : ℕ) (x : Config) (n : ℕ) (o : Operand) (c c' : ChannelFloor) (a : Answer) → IsSendEnd a → LeftWaiting a c c'
    → GoesOn p k x (line.Send n o) c c' a
send_goes p k x n o c c' came.Done e h = (After.sent n o, λ w q. no_more_wait w q)
send_goes p k x n o c c' (came.Got v) e h = never e.0
send_goes p k x n o c c' (came.Closed v) e h = never e.1
send_goes p k x n o c c' (came.Waits w) e h = goes_waiting p k x _ c c' w h
send_goes p k x n o c c' came.NoPlace e h = goes_spent p k x _ c c'

try_send_goes : (p : Program) (k : ℕ) (x : Config) (n : ℕ) (o : Operand) (c c' : ChannelFloor) (a : Answer) → IsSendEnd a
    → LeftWaiting a c c'
    → GoesOn p k x (line.TrySend n o) c c' a
try_send_goes p k x n o c c' came.Done e h = (After.tried_to_send n o, λ w q. no_more_wait w q)
try_send_goes p k x n o c c' (came.Got v) e h = never e.0
try_send_goes p k x n o c c' (came.Closed v) e h = never e.1
try_send_goes p k x n o c c' (came.Waits w) e h = goes_waiting p k x _ c c' w h
try_send_goes p k x n o c c' came.NoPlace e h = goes_spent p k x _ c c'

receive_goes : (p : Program) (k : ℕ) (x : Config) (n : ℕ) (c c' : ChannelFloor) (a : Answer) → is_done a ≡ false → LeftWaiting a c c'
    → GoesOn p k x (line.Receive n) c c' a
receive_goes p k x n c c' came.Done e h = never e
receive_goes p k x n c c' (came.Got v) e h = (After.got n v, λ w q. no_more_wait w q)
receive_goes p k x n c c' (came.Closed v) e h = (After.no_more n v, λ w q. no_more_wait w q)
receive_goes p k x n c c' (came.Waits w) e h = goes_waiting p k x _ c c' w h
receive_goes p k x n c c' came.NoPlace e h = goes_spent p k x _ c c'

try_receive_goes : (p : Program) (k : ℕ) (x : Config) (n : ℕ) (c c' : ChannelFloor) (a : Answer) → is_closed a ≡ false → LeftWaiting a c c'
    → GoesOn p k x (line.TryReceive n) c c' a
try_receive_goes p k x n c c' came.Done e h = (After.tried_to_get n, λ w q. no_more_wait w q)
try_receive_goes p k x n c c' (came.Got v) e h = (After.tried_and_got n v, λ w q. no_more_wait w q)
try_receive_goes p k x n c c' (came.Closed v) e h = never e
try_receive_goes p k x n c c' (came.Waits w) e h = goes_waiting p k x _ c c' w h
try_receive_goes p k x n c c' came.NoPlace e h = goes_spent p k x _ c c'

-- a turn of an each begins, or the last one is done
each_goes : (p : Program) (k : ℕ) (x : Config) (n : ℕ) (c c' : ChannelFloor) (a : Answer) → IsProgram p → IsAt p k x (line.Each n)
    → is_done a ≡ false → LeftWaiting a c c' → GoesOn p k x (line.Each n) c c' a
each_goes p k x n c c' came.Done ok at e h = never e
each_goes p k x n c c' (came.Got v) ok at e h = (After.got_one_more n v, λ w q. no_more_wait w q)
each_goes p k x n c c' (came.Closed v) ok at e h =
    let closed = opened_closed p k x.line (line.Each n) ok at.line_is refl in
    subst (λ (o : Option ℕ). After p k x (line.Each n) (Closed v) (past o x)
    × ((w : WaitId) → wait_of (past o x).stage ≡ Some w → HasStood c c' w)) (sym closed.1)
    (After.got_all n v closed.0 closed.1, λ w q. no_more_wait w q)
each_goes p k x n c c' (came.Waits w) ok at e h = goes_waiting p k x _ c c' w h
each_goes p k x n c c' came.NoPlace ok at e h = goes_spent p k x _ c c'

pub has_called : (p : Program) (c : ChannelFloor) (j j' : Floor) (f : Frame) (b : SeenOnChannels) (g : Frame) (i : Instruction) (v : ℕ)
    (a : Answer) → HasHeardOf f.tag b.floor j j' → IsProgram p → Legal j'.shape j'.seen → IsAt p f.tag (config_of f) i
    → v ≡ element_of (config_of f) i
    → Made v i (channels_at c f) b a → b.who ≡ f.tag → g.tag ≡ f.tag → config_of g ≡ after_call p f.tag (config_of f) i a
    → items_of g ≡ b.items → Stepped p (at_poll c j f) (at_poll b.floor j' g)
has_called p c j j' f b g i v a hear ok l at is made who t config items =
    by_call i at is (as_frame_on_channels (λ (z : SeenOnChannels). Made v i (channels_at c f) z a) c' b.who b.items g (who ∙ sym t) items
    made) config
  where
    c' : ChannelFloor
    c' = b.floor

    x : Config
    x = config_of f

    by_call : (i : Instruction) → IsAt p f.tag x i → v ≡ element_of x i → Made v i (channels_at c f) (channels_at c' g) a
        → config_of g ≡ after_call p f.tag x i a → Stepped p (at_poll c j f) (at_poll c' j' g)
    by_call (line.Send n o) at is m e =
        let plain : PlainCall (sends n (operand x o)) m.told (meant a) =
        subst (λ u. PlainCall (sends n u) m.told (meant a)) is m.goes.1 in
        let on = send_goes p f.tag x n o c c' a m.goes.0 m.stood in
        called p c c' j j' f g (line.Send n o) m.told (meant a) (after_call p f.tag x (line.Send n o) a) hear l at
        (LineCalls.send n o m.told (meant a) plain) on.0 m.left
        (plain_mild (base_of p) (sends n (operand x o)) m.told (meant a) (line_low p f.tag x (line.Send n o) n ok at refl) plain) t e
        on.1
    by_call (line.TrySend n o) at is m e =
        let tries : TryCall (sends n (operand x o)) m.told (meant a) =
        subst (λ u. TryCall (sends n u) m.told (meant a)) is m.goes.1 in
        let on = try_send_goes p f.tag x n o c c' a m.goes.0 m.stood in
        called p c c' j j' f g (line.TrySend n o) m.told (meant a) (after_call p f.tag x (line.TrySend n o) a) hear l at
        (LineCalls.trysend n o m.told (meant a) tries) on.0 m.left
        (try_mild (base_of p) (sends n (operand x o)) m.told (meant a) (line_low p f.tag x (line.TrySend n o) n ok at refl) tries) t e
        on.1
    by_call (line.Receive n) at is m e =
        let on = receive_goes p f.tag x n c c' a m.goes.0 m.stood in
        called p c c' j j' f g (line.Receive n) m.told (meant a) (after_call p f.tag x (line.Receive n) a) hear l at
        (LineCalls.receive n m.told (meant a) m.goes.1) on.0 m.left
        (plain_mild (base_of p) (receives n) m.told (meant a) (line_low p f.tag x (line.Receive n) n ok at refl) m.goes.1) t e on.1
    by_call (line.TryReceive n) at is m e =
        let on = try_receive_goes p f.tag x n c c' a m.goes.0 m.stood in
        called p c c' j j' f g (line.TryReceive n) m.told (meant a) (after_call p f.tag x (line.TryReceive n) a) hear l at
        (LineCalls.tryreceive n m.told (meant a) m.goes.1) on.0 m.left
        (try_mild (base_of p) (receives n) m.told (meant a) (line_low p f.tag x (line.TryReceive n) n ok at refl) m.goes.1) t e on.1
    by_call (line.Each n) at is m e =
        let on = each_goes p f.tag x n c c' a ok at m.goes.0 m.stood in
        called p c c' j j' f g (line.Each n) m.told (meant a) (after_call p f.tag x (line.Each n) a) hear l at
        (LineCalls.each n m.told (meant a) m.goes.1) on.0 m.left
        (plain_mild (base_of p) (receives n) m.told (meant a) (line_low p f.tag x (line.Each n) n ok at refl) m.goes.1) t e on.1
    by_call (line.Close n) at is m e =
        let goes : config_of g ≡ next x = e ∙ ap (after_call p f.tag x (line.Close n)) m.goes.0 in
        mild_step p c c' j j' f g m.told (next x) l (Move.closes x n m.told at m.goes.1)
        (channels_noted c c' j j' f g m.told hear m.left)
        (closes_mild (base_of p) n 0 m.told (line_low p f.tag x (line.Close n) n ok at refl) m.goes.1) t goes
        (λ w q. no_wait g _ w goes refl q)
    by_call (line.CancelChannel n) at is m e =
        let goes : config_of g ≡ next x = e ∙ ap (after_call p f.tag x (line.CancelChannel n)) m.goes.0 in
        mild_step p c c' j j' f g m.told (next x) l (Move.cancels_channel x n m.told at m.goes.1)
        (channels_noted c c' j j' f g m.told hear m.left)
        (cancels_channel_mild (base_of p) n m.told (line_low p f.tag x (line.CancelChannel n) n ok at refl) m.goes.1) t goes
        (λ w q. no_wait g _ w goes refl q)
    by_call other at is m e = absurd m.goes
