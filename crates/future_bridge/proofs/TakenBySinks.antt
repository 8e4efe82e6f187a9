-- What a sink was sent, its coroutine gave to the channel.
use Rattle.std.specs.Prelude.{◌≡◌, ℕ, ◌==◌, List, [], ◌∷◌, ◌++◌, map, Option, Some, None, Result, Ok, Err, refl, if◌then◌else◌}
use Rattle.std.proofs.Common.{sym, ap, ◌∙◌, subst, append_assoc}
use Rattle.futures.specs.declared.task.Poll.{Poll}
use Rattle.futures.specs.declared.task.Poll.TheVariants.{Ready, Pending}
use Rattle.futures.specs.Sent.{UnlessFailed}
use Rattle.channel_model.specs.declared.acts.Act.{Act}
use Rattle.channel_model.specs.declared.acts.Act.TheVariants.{Hand, Put, Offer, Admit, Drop, Settle}
use Rattle.channel_model.specs.declared.acts.Settled.TheVariants as settled
use Rattle.channel_model.specs.Histories.{acts_of}
use Rattle.channel_model.specs.Floors.{Floor}
use Rattle.channel_model.proofs.Placed.{same_number}
use Rattle.channel_model.proofs.Spans.{nothing_more}
use Rattle.future_bridge.specs.declared.sending.SendSink.{SendSink}
use Rattle.future_bridge.specs.declared.sending.Flush.TheVariants as flush
use Rattle.future_bridge.specs.declared.send_steps.SendStep.TheVariants as step
use Rattle.future_bridge.specs.Gains.{wait_at}
use Rattle.future_bridge.specs.Sends.{offer_acts, spurn_acts, given_by, given, SendsOne, Acted, OfferedSo}
use Rattle.future_bridge.specs.Sinks.{SameSink, sink_floor, ActedBy, EndsSent, FlushedSo, SinkTook}

-- ---- what acts gave

given_append : (c : ℕ) (xs ys : List Act) → given c (xs ++ ys) ≡ given c xs ++ given c ys
unfolding given
given_append c [] ys = refl
given_append c (x ∷ xs) ys = ap (λ l. given_by c x ++ l) (given_append c xs ys)
    ∙ sym (append_assoc (given_by c x) (given c xs) (given c ys))

here : (c v : ℕ) (rest : List ℕ) → (if c == c then v ∷ [] else []) ++ rest ≡ v ∷ rest
here c v rest = ap (λ b. (if b then v ∷ [] else []) ++ rest) (same_number c)

none_by_drops : (c : ℕ) (ds : List (ℕ × ℕ)) → given c (map (λ (d : ℕ × ℕ). Drop c d.0 d.1) ds) ≡ []
unfolding given
none_by_drops c [] = refl
none_by_drops c (d ∷ ds) = none_by_drops c ds

none_by_spurn : (c q : ℕ) (spurned : Option ℕ) → given c (spurn_acts c q spurned) ≡ []
unfolding given
none_by_spurn c q None = refl
none_by_spurn c q (Some v) = refl

none_by_admits : (c : ℕ) (qs : List ℕ) → given c (map (λ (q : ℕ). Admit c q) qs) ≡ []
unfolding given
none_by_admits c [] = refl
none_by_admits c (q ∷ qs) = none_by_admits c qs

none_by_settle : (c : ℕ) (w : _) (o : _) → given c (Settle w o ∷ []) ≡ []
unfolding given
none_by_settle c w o = refl

one_first : (c q v : ℕ) (rest : List Act) → given c rest ≡ [] → given c (Put c q v ∷ rest) ≡ v ∷ []
unfolding given
one_first c q v rest e = here c v (given c rest) ∙ ap (λ l. v ∷ l) e

one_handed : (c q v : ℕ) → given c (Hand c q v ∷ []) ≡ v ∷ []
unfolding given
one_handed c q v = here c v []

one_offered : (c q v : ℕ) (rest : List Act) → given c rest ≡ [] → given c (Offer c q v (wait_at c q) 0 ∷ rest) ≡ v ∷ []
unfolding given
one_offered c q v rest e = here c v (given c rest) ∙ ap (λ l. v ∷ l) e

given_none : (c : ℕ) → given c [] ≡ []
unfolding given
given_none c = refl

one_sent : (c v : ℕ) (acts : List Act) → SendsOne c v acts → given c acts ≡ v ∷ []
one_sent c v _ (SendsOne.hands q) = one_handed c q v
one_sent c v _ (SendsOne.puts q dropped spurned) =
    let drops : List Act = map (λ (d : ℕ × ℕ). Drop c d.0 d.1) dropped in
    one_first c q v (drops ++ spurn_acts c q spurned)
    (given_append c drops (spurn_acts c q spurned) ∙ ap (λ l. l ++ given c (spurn_acts c q spurned)) (none_by_drops c dropped)
    ∙ none_by_spurn c q spurned)
one_sent c v all (SendsOne.offers q k admits _ is) =
    let settle : List Act = Settle (wait_at c q) (settled.Sent k) ∷ [] in
    ap (given c) is
    ∙ one_offered c q v (map (λ (p : ℕ). Admit c p) admits ++ settle)
    (given_append c (map (λ (p : ℕ). Admit c p) admits) settle ∙ ap (λ l. l ++ given c settle) (none_by_admits c admits)
    ∙ none_by_settle c (wait_at c q) (settled.Sent k))

none_ended : (c : ℕ) (wait : Option (ℕ × ℕ)) (acts : List Act) → EndsSent c wait acts → given c acts ≡ []
none_ended c None acts h = ap (given c) h ∙ given_none c
none_ended c (Some x) acts h = ap (given c) h.1 ∙ none_by_settle c (wait_at c x.0) (settled.Sent h.0)

-- ---- what a sink took

more_given : (who c : ℕ) (P : List Act → Type 0) (ys : List ℕ) (a d : Floor) → Acted who P a d
    → ((acts : List Act) → P acts → given c acts ≡ ys)
    → (xs : List ℕ) → given c (acts_of who a.seen) ≡ xs → given c (acts_of who d.seen) ≡ xs ++ ys
more_given who c P ys a d h gave xs was =
    ap (given c) h.added.mine
    ∙ given_append c (acts_of who a.seen) h.acts
    ∙ ap (λ l. l ++ given c h.acts) was
    ∙ ap (λ l. xs ++ l) (gave h.acts h.are)

same_taken : (old new : SendSink) (P : List Act → Type 0) → SameSink old new → ActedBy old P new
    → ((acts : List Act) → P acts → given old.c acts ≡ []) → (xs : List ℕ) → SinkTook old xs → SinkTook new xs
same_taken old new P s h gave xs was =
    subst (λ (c : ℕ). given c (acts_of new.who (sink_floor new).seen) ≡ xs) (sym s.channel)
    (subst (λ (who : ℕ). given old.c (acts_of who (sink_floor new).seen) ≡ xs) (sym s.who)
    (more_given old.who old.c P [] (sink_floor old) (sink_floor new) h gave xs was ∙ nothing_more xs))

-- after a flush that left its offer waiting
pub waits_taken : (old new : SendSink) → SameSink old new → FlushedSo old new flush.Waits → (xs : List ℕ) → SinkTook old xs
    → SinkTook new xs
waits_taken old new s h = same_taken old new (λ acts. acts ≡ []) s h.1 (λ acts e. ap (given old.c) e ∙ given_none old.c)

-- after one that was done
pub flushed_taken : (old new : SendSink) → SameSink old new → FlushedSo old new flush.Done → (xs : List ℕ) → SinkTook old xs
    → SinkTook new xs
flushed_taken old new s h = same_taken old new (EndsSent old.c old.wait) s h.1 (λ acts e. none_ended old.c old.wait acts e)

-- after the next was sent
pub sent_given : (who c v : ℕ) (a d : Floor) → OfferedSo who c v a d step.Sent → (xs : List ℕ) → given c (acts_of who a.seen) ≡ xs
    → given c (acts_of who d.seen) ≡ xs ++ v ∷ []
sent_given who c v a d h = more_given who c (SendsOne c v) (v ∷ []) a d h.0 (λ acts e. one_sent c v acts e)

-- or its offer waits
pub waits_given : (who c v q : ℕ) (a d : Floor) → OfferedSo who c v a d (step.Waits q) → (xs : List ℕ) → given c (acts_of who a.seen) ≡ xs
    → given c (acts_of who d.seen) ≡ xs ++ v ∷ []
waits_given who c v q a d h =
    more_given who c (λ acts. (admits : List ℕ) × (acts ≡ offer_acts c v q admits)) (v ∷ []) a d h.0
    (λ acts e. ap (given c) e.1 ∙ one_offered c q v (map (λ (p : ℕ). Admit c p) e.0) (none_by_admits c e.0))

pub unless_failed : {T E : Type 0} (r : Poll (Result T E)) (P : Type 0) → P → UnlessFailed r P
unless_failed (Ready (Ok x)) P h = h
unless_failed (Ready (Err e)) P h = tt
unless_failed Pending P h = h
