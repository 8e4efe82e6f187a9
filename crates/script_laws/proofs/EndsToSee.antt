-- Where a coroutine has to see how a Job ended, the done channel of that Job is closed.
use Rattle.std.specs.Prelude.{◌≡◌, ℕ, Bool, true, false, List, [], ◌∷◌, ◌++◌, Some, None, is_some, slice_get, refl}
use Rattle.std.proofs.Common.{sym, ap, ◌∙◌, subst, append_assoc}
use Rattle.co_base.specs.declared.names.WaitId.{WaitId}
use Rattle.channel_model.specs.declared.acts.Act.{Act}
use Rattle.channel_model.specs.declared.acts.Act.TheVariants.{Await, Settle}
use Rattle.channel_model.specs.declared.acts.Settled.{Settled}
use Rattle.channel_model.specs.declared.acts.Settled.TheVariants as settled
use Rattle.channel_model.specs.declared.acts.ChannelNote.TheVariants.{ReceiveClosed}
use Rattle.channel_model.specs.Histories.{replay, acts_of, Legal}
use Rattle.channel_model.proofs.Sound.{channel_lasts, closed_keeps}
use Rattle.channel_model.proofs.ClosedWaits.{closed_by_wait}
use Rattle.job_model.specs.declared.acts.End.{End}
use Rattle.job_model.specs.Done.{done_channel}
use Rattle.note_book.specs.declared.book.Item.{Item}
use Rattle.note_book.specs.Items.{channel_acts_in}
use Rattle.note_book.proofs.Appended.{channel_acts_in-append}
use Rattle.call_meaning.specs.Telling.{Told, on_channels, on_jobs, IsResolved, MayRun, items_in, made, heard}
use Rattle.call_meaning.specs.ChannelCalls.{Call, receives, Answer, Closed, Waits, LooksAgain, PlainCall, AtOnce, Refused, wait_at}
use Rattle.call_meaning.specs.Stories.{Moment, Story, IsSo, IsTrue, with_told, beginning}
use Rattle.call_meaning.proofs.ChannelsHeard.{items_in-append}
use Rattle.script_grammar.specs.declared.instructions.Instruction.{Instruction}
use Rattle.script_grammar.specs.declared.instructions.Instruction.TheVariants as line
use Rattle.script_grammar.specs.Programs.{Program}
use Rattle.script_meaning.specs.declared.stage.Stage.{Stage}
use Rattle.script_meaning.specs.declared.stage.Stage.TheVariants.{Fresh, Running, Waiting, SeesJob, Unwinding, Leaving, SeesScope, Ended}
use Rattle.script_meaning.specs.Shapes.{floor_shape, base_of}
use Rattle.script_meaning.specs.Configs.{Config, InScope, fresh, at_stage, past_launch, innermost, scope_in, LineIs, Names}
use Rattle.script_meaning.specs.Lines.{StartsAndReceives, LineCalls, After, AfterAwait, Resumed, AtScopeEnd, AfterScope}
use Rattle.script_meaning.specs.Moves.{Move}
use Rattle.script_meaning.specs.Books.{story, Spawns, Begins, Reaches, Runs}
use Rattle.script_meaning.specs.Polls.{HasToSee}

-- ---- what was told of a channel

-- a receive on the channel placed this wait
pub record AwaitsOn (told : List Told) (w : WaitId) (c : ℕ) : Type 0 where
  pub before : List Told
  pub place : ℕ
  pub behind : List Told
  pub told_is : told ≡ before ++ made (Await c place (wait_at c place) 0) ∷ behind
  pub wait : w ≡ wait_at c place

-- a receive met the channel closed, or its wait ended so
pub data ToldClosed (told : List Told) (c : ℕ) : Type 0 where
  met : (before : List Told) (u : ℕ) (behind : List Told) → told ≡ before ++ heard (ReceiveClosed c u) ∷ behind → ToldClosed told c
  ended : (before : List Told) (place : ℕ) (between : List Told) (n v : ℕ) (behind : List Told)
      → told ≡ before ++ made (Await c place (wait_at c place) 0) ∷ (between
      ++ made (Settle (wait_at c place) (settled.Closed n v)) ∷ behind)
      → ToldClosed told c

awaits_behind : (before group all : List Told) (w : WaitId) (c : ℕ) → all ≡ before ++ group → AwaitsOn group w c → AwaitsOn all w c
awaits_behind before group all w c e h = record {
  before = before ++ h.before;
  place = h.place;
  behind = h.behind;
  told_is = e ∙ ap (λ l. before ++ l) h.told_is
      ∙ sym (append_assoc before h.before (made (Await c h.place (wait_at c h.place) 0) ∷ h.behind));
  wait = h.wait;
}

closed_behind : (before group all : List Told) (c : ℕ) → all ≡ before ++ group → ToldClosed group c → ToldClosed all c
closed_behind before group all c e (ToldClosed.met b u behind q) =
    ToldClosed.met (before ++ b) u behind (e ∙ ap (λ l. before ++ l) q ∙ sym (append_assoc before b (heard (ReceiveClosed c u) ∷ behind)))
closed_behind before group all c e (ToldClosed.ended b place between n v behind q) =
    ToldClosed.ended (before ++ b) place between n v behind
    (e ∙ ap (λ l. before ++ l) q
    ∙ sym (append_assoc before b (made (Await c place (wait_at c place) 0) ∷ (between
    ++ made (Settle (wait_at c place) (settled.Closed n v)) ∷ behind))))

-- its wait ended as closed, after some more was told
ends_closed : (told more all : List Told) (w : WaitId) (c n v : ℕ) → all ≡ told ++ (more ++ made (Settle w (settled.Closed n v)) ∷ [])
    → AwaitsOn told w c → ToldClosed all c
ends_closed told more all w c n v e h =
    ToldClosed.ended h.before h.place (h.behind ++ more) n v []
    (e ∙ ap (λ l. l ++ (more ++ made (Settle w (settled.Closed n v)) ∷ [])) h.told_is
    ∙ append_assoc h.before (made (Await c h.place (wait_at c h.place) 0) ∷ h.behind) (more ++ made (Settle w (settled.Closed n v)) ∷ [])
    ∙ ap (λ l. h.before ++ made (Await c h.place (wait_at c h.place) 0) ∷ l)
    (sym (append_assoc h.behind more (made (Settle w (settled.Closed n v)) ∷ []))
    ∙ ap (λ u. (h.behind ++ more) ++ made (Settle u (settled.Closed n v)) ∷ []) h.wait))

-- ---- receives

receive_waits : (call : Call) (c : ℕ) (group : List Told) (a : Answer) (w : WaitId) → PlainCall call group a → call ≡ receives c
    → a ≡ Waits w → AwaitsOn group w c
receive_waits _ c _ _ w (PlainCall.awaits d q) e f =
    let same : d ≡ c = cc in
    let is : wait_at d q ≡ w = cc in
    subst (λ n. AwaitsOn (made (Await d q (wait_at d q) 0) ∷ []) w n) same
    (record { before = []; place = q; behind = []; told_is = refl; wait = sym is })
receive_waits _ c _ _ w (PlainCall.at_once _ _ _ (AtOnce.hands d v q)) e f = cc
receive_waits _ c _ _ w (PlainCall.at_once _ _ _ other) e f = cc
receive_waits _ c _ _ w (PlainCall.refused _ _ _ (Refused.send d v u)) e f = cc
receive_waits _ c _ _ w (PlainCall.refused _ _ _ other) e f = cc
receive_waits _ c _ _ w other e f = cc

receive_closed : (call : Call) (c : ℕ) (group : List Told) (a : Answer) (v : ℕ) → PlainCall call group a → call ≡ receives c → a ≡ Closed v
    → ToldClosed group c
receive_closed _ c _ _ v (PlainCall.at_once _ _ _ (AtOnce.hands d u q)) e f = cc
receive_closed _ c _ _ v (PlainCall.at_once _ _ _ other) e f = cc
receive_closed _ c _ _ v (PlainCall.refused _ _ _ (Refused.send d x u)) e f = cc
receive_closed _ c _ _ v (PlainCall.refused _ _ _ (Refused.receive d u)) e f =
    let same : d ≡ c = cc in
    subst (λ n. ToldClosed (heard (ReceiveClosed d u) ∷ []) n) same (ToldClosed.met [] u [] refl)
receive_closed _ c _ _ v other e f = cc

-- ---- where a coroutine waits for an end, or has to see one

pub record Sees (p : Program) (k : ℕ) (told : List Told) (x : Config) : Type 0 where
  pub waits : (w : WaitId) → x.stage ≡ Waiting w → (job row : ℕ) → LineIs p k x (line.Await job) → Names x job row
      → AwaitsOn told w (done_channel (base_of p) row)
  pub leaves : (w : WaitId) → x.stage ≡ Leaving w → (s : InScope) → scope_in x.entered ≡ Some s
      → AwaitsOn told w (done_channel (base_of p) s.row)
  pub job : x.stage ≡ SeesJob → (job row : ℕ) → LineIs p k x (line.Await job) → Names x job row
      → ToldClosed told (done_channel (base_of p) row)
  pub scope : x.stage ≡ SeesScope → (s : InScope) → scope_in x.entered ≡ Some s → ToldClosed told (done_channel (base_of p) s.row)

abbrev pub asks_end : Stage → Bool
asks_end (Waiting w) = true
asks_end SeesJob = true
asks_end (Leaving w) = true
asks_end SeesScope = true
asks_end other = false

apart : {A : Type 0} (s t : Stage) (x : Config) → x.stage ≡ s → x.stage ≡ t → asks_end s ≡ false → asks_end t ≡ true → A
apart s t x e f a b = absurd (let both_ways : true ≡ false = sym b ∙ ap asks_end (sym f ∙ e) ∙ a in let no_way : ⊥ = cc in no_way)

-- nothing is asked there
asks_none : (p : Program) (k : ℕ) (told : List Told) (x : Config) (s : Stage) → x.stage ≡ s → asks_end s ≡ false → Sees p k told x
asks_none p k told x s e a = record {
  waits = λ w f job row l n. apart s (Waiting w) x e f a refl;
  leaves = λ w f t i. apart s (Leaving w) x e f a refl;
  job = λ f job row l n. apart s SeesJob x e f a refl;
  scope = λ f t i. apart s SeesScope x e f a refl;
}

-- it waits at its line
waits_so : (p : Program) (k : ℕ) (told : List Told) (x : Config) (w : WaitId)
    → ((job row : ℕ) → LineIs p k x (line.Await job) → Names x job row → AwaitsOn told w (done_channel (base_of p) row))
    → Sees p k told (at_stage (Waiting w) x)
waits_so p k told x w h = record {
  waits = λ v f job row l n. let same : w ≡ v = (let both_ways : Waiting w ≡ Waiting v = f in cc)
      in subst (λ u. AwaitsOn told u (done_channel (base_of p) row)) same (h job row l n);
  leaves = λ v f s i. cc;
  job = λ f job row l n. cc;
  scope = λ f s i. cc;
}

leaves_so : (p : Program) (k : ℕ) (told : List Told) (x : Config) (w : WaitId) (s : InScope) → scope_in x.entered ≡ Some s
    → AwaitsOn told w (done_channel (base_of p) s.row) → Sees p k told (at_stage (Leaving w) x)
leaves_so p k told x w s e h = record {
  waits = λ v f job row l n. cc;
  leaves = λ v f t i.
      let same : w ≡ v = (let both_ways : Leaving w ≡ Leaving v = f in cc) in
      let scope : s ≡ t = (let both_ways : Some s ≡ Some t = sym e ∙ i in cc) in
      subst (λ (z : InScope). AwaitsOn told v (done_channel (base_of p) z.row)) scope
      (subst (λ u. AwaitsOn told u (done_channel (base_of p) s.row)) same h);
  job = λ f job row l n. cc;
  scope = λ f t i. cc;
}

sees_job_so : (p : Program) (k : ℕ) (told : List Told) (x : Config)
    → ((job row : ℕ) → LineIs p k x (line.Await job) → Names x job row → ToldClosed told (done_channel (base_of p) row))
    → Sees p k told (at_stage SeesJob x)
sees_job_so p k told x h = record {
  waits = λ v f job row l n. cc;
  leaves = λ v f s i. cc;
  job = λ f job row l n. h job row l n;
  scope = λ f s i. cc;
}

sees_scope_so : (p : Program) (k : ℕ) (told : List Told) (x : Config)
    → ((s : InScope) → scope_in x.entered ≡ Some s → ToldClosed told (done_channel (base_of p) s.row))
    → Sees p k told (at_stage SeesScope x)
sees_scope_so p k told x h = record {
  waits = λ v f job row l n. cc;
  leaves = λ v f s i. cc;
  job = λ f job row l n. cc;
  scope = λ f s i. h s i;
}

-- ---- lines

same_name : (x : Config) (job row other : ℕ) → Names x job row → Names x job other → row ≡ other
same_name x job row other a b = let both_ways : Some row ≡ Some other = sym a ∙ b in cc

-- the call of an await
await_waits : (p : Program) (k : ℕ) (x : Config) (i : Instruction) (group : List Told) (a : Answer) (w : WaitId) (job row : ℕ)
    → LineCalls p k x i group a → i ≡ line.Await job → a ≡ Waits w → Names x job row → AwaitsOn group w (done_channel (base_of p) row)
await_waits p k x _ _ _ w job row (LineCalls.await j r group a m (StartsAndReceives.both starts told all b s call q)) e f n =
    let same : j ≡ job = (let both_ways : line.Await j ≡ line.Await job = e in cc) in
    let rows : r ≡ row = same_name x j r row m (ap (λ z. slice_get x.rows z) same ∙ n) in
    subst (λ z. AwaitsOn all w (done_channel (base_of p) z)) rows
    (awaits_behind starts told all w (done_channel (base_of p) r) q
    (receive_waits (receives (done_channel (base_of p) r)) (done_channel (base_of p) r) told b w call refl f))
await_waits p k x _ _ _ w job row other e f n = cc

await_closed : (p : Program) (k : ℕ) (x : Config) (i : Instruction) (group : List Told) (a : Answer) (v job row : ℕ)
    → LineCalls p k x i group a → i ≡ line.Await job → a ≡ Closed v → Names x job row → ToldClosed group (done_channel (base_of p) row)
await_closed p k x _ _ _ v job row (LineCalls.await j r group a m (StartsAndReceives.both starts told all b s call q)) e f n =
    let same : j ≡ job = (let both_ways : line.Await j ≡ line.Await job = e in cc) in
    let rows : r ≡ row = same_name x j r row m (ap (λ z. slice_get x.rows z) same ∙ n) in
    subst (λ z. ToldClosed all (done_channel (base_of p) z)) rows
    (closed_behind starts told all (done_channel (base_of p) r) q
    (receive_closed (receives (done_channel (base_of p) r)) (done_channel (base_of p) r) told b v call refl f))
await_closed p k x _ _ _ v job row other e f n = cc

same_line : (p : Program) (k : ℕ) (x : Config) (i j : Instruction) → LineIs p k x i → LineIs p k x j → i ≡ j
same_line p k x i j a b = let both_ways : Some i ≡ Some j = sym a ∙ b in cc

-- after a call, by what the line of an await has told
after_sees : (p : Program) (k : ℕ) (all : List Told) (x : Config) (i : Instruction) (a : Answer) (y : Config) → LineIs p k x i
    → ((w : WaitId) (job row : ℕ) → i ≡ line.Await job → a ≡ Waits w → Names x job row → AwaitsOn all w (done_channel (base_of p) row))
    → ((v job row : ℕ) → i ≡ line.Await job → a ≡ Closed v → Names x job row → ToldClosed all (done_channel (base_of p) row))
    → (a ≡ LooksAgain → x.stage ≡ Running)
    → After p k x i a y → Sees p k all y
after_sees p k all x _ _ _ at w c r (After.waits i u) =
    waits_so p k all x u (λ job row l n. w u job row (same_line p k x i (line.Await job) at l) refl n)
after_sees p k all x _ _ y at w c r (After.no_place i) = asks_none p k all y (Unwinding (Some k)) refl refl
after_sees p k all x _ _ _ at w c r After.looks_again = asks_none p k all x Running (r refl) refl
after_sees p k all x _ _ _ at w c r (After.awaited job v) =
    sees_job_so p k all x (λ j row l n. c v j row (same_line p k x (line.Await job) (line.Await j) at l) refl n)
after_sees p k all x _ _ y at w c r other = asks_none p k all y Running refl refl

no_wait_then : {A : Type 0} (outcome : Settled) (a : Answer) (w : WaitId) → Resumed outcome a → a ≡ Waits w → A
no_wait_then _ _ w (Resumed.value n v) e = cc
no_wait_then _ _ w (Resumed.sent n) e = cc
no_wait_then _ _ w (Resumed.closed n v) e = cc

-- a wait with this answer ended as closed
closed_outcome : (outcome : Settled) (a : Answer) (v : ℕ) → Resumed outcome a → a ≡ Closed v → (n : ℕ)
    × ((u : ℕ) × (outcome ≡ settled.Closed n u))
closed_outcome _ _ v (Resumed.closed n u) e = (n, (u, refl))
closed_outcome _ _ v other e = cc

no_select : {A : Type 0} (outcome : Settled) (a : Answer) → Resumed outcome a → a ≡ LooksAgain → A
no_select _ _ (Resumed.value n v) e = cc
no_select _ _ (Resumed.sent n) e = cc
no_select _ _ (Resumed.closed n v) e = cc

-- after a wait, a select does not look again
resumed_sees : (p : Program) (k : ℕ) (all : List Told) (x : Config) (i : Instruction) (outcome : Settled) (a : Answer) (y : Config)
    → LineIs p k x i → Resumed outcome a
    → ((v job row : ℕ) → i ≡ line.Await job → a ≡ Closed v → Names x job row → ToldClosed all (done_channel (base_of p) row))
    → After p k x i a y → Sees p k all y
resumed_sees p k all x i outcome a y at m c f =
    after_sees p k all x i a y at (λ w job row l e n. no_wait_then outcome a w m e) c (λ e. no_select outcome a m e) f

after_await_sees : (p : Program) (k : ℕ) (all : List Told) (x : Config) (end : End) (y : Config) → AfterAwait x end y → Sees p k all y
after_await_sees p k all x _ y (AfterAwait.completed v) = asks_none p k all y Running refl refl
after_await_sees p k all x _ y AfterAwait.cancelled = asks_none p k all y (Unwinding None) refl refl
after_await_sees p k all x _ y (AfterAwait.failed f) = asks_none p k all y (Unwinding (Some f)) refl refl

after_scope_sees : (p : Program) (k : ℕ) (all : List Told) (x : Config) (s : InScope) (end : End) (y : Config) → AfterScope p k x s end y
    → Sees p k all y
after_scope_sees p k all x s _ y (AfterScope.completed v e f) = asks_none p k all y Running refl refl
after_scope_sees p k all x s _ y AfterScope.cancelled = asks_none p k all y (Unwinding None) refl refl
after_scope_sees p k all x s _ y (AfterScope.failed f) = asks_none p k all y (Unwinding (Some f)) refl refl

-- at the end of a scope
scope_end_sees : (p : Program) (k : ℕ) (told first group all most : List Told) (x : Config) (s : InScope) (a : Answer) (y : Config)
    → scope_in x.entered ≡ Some s → all ≡ first ++ group → most ≡ told ++ all
    → PlainCall (receives (done_channel (base_of p) s.row)) group a → AtScopeEnd k x s a y → Sees p k most y
scope_end_sees p k told first group all most x s _ _ e q r call (AtScopeEnd.waits w) =
    leaves_so p k most x w s e (awaits_behind told all most w (done_channel (base_of p) s.row) r
    (awaits_behind first group all w (done_channel (base_of p) s.row) q
    (receive_waits _ (done_channel (base_of p) s.row) group (Waits w) w call refl refl)))
scope_end_sees p k told first group all most x s _ _ e q r call (AtScopeEnd.closed v) =
    sees_scope_so p k most x (λ t i.
    let same : s ≡ t = (let both_ways : Some s ≡ Some t = sym e ∙ i in cc) in
    subst (λ (z : InScope). ToldClosed most (done_channel (base_of p) z.row)) same
    (closed_behind told all most (done_channel (base_of p) s.row) r
    (closed_behind first group all (done_channel (base_of p) s.row) q
    (receive_closed _ (done_channel (base_of p) s.row) group (Closed v) v call refl refl))))
scope_end_sees p k told first group all most x s _ y e q r call AtScopeEnd.no_place = asks_none p k most y (Unwinding (Some k)) refl refl

-- ---- moves

move_sees : (p : Program) (k : ℕ) (told : List Told) (x : Config) (group all : List Told) (y : Config) → all ≡ told ++ group
    → Sees p k told x → Move p k x group y → Sees p k all y
move_sees p k told _ _ all y r h (Move.never_runs x s) = asks_none p k all y (Unwinding None) refl refl
move_sees p k told _ _ all _ r h (Move.calls x y i group a at c f) =
    after_sees p k all x i a y at.line_is
    (λ w job row e q n. awaits_behind told group all w (done_channel (base_of p) row) r (await_waits p k x i group a w job row c e q n))
    (λ v job row e q n. closed_behind told group all (done_channel (base_of p) row) r (await_closed p k x i group a v job row c e q n))
    (λ e. at.stage) f
move_sees p k told _ _ all _ r h (Move.resumes x y w i outcome a s at m f) =
    resumed_sees p k all x i outcome a y at m
    (λ v job row e q n.
    let o = closed_outcome outcome a v m q in
    let looks : List Told = on_channels (IsResolved w) ∷ on_jobs (MayRun (innermost k x)) ∷ [] in
    let is : all ≡ told ++ (looks ++ made (Settle w (settled.Closed o.0 o.1.0)) ∷ []) = r
    ∙ ap (λ z. told ++ (on_channels (IsResolved w) ∷ on_jobs (MayRun (innermost k x)) ∷ made (Settle w z) ∷ [])) o.1.1 in
    ends_closed told looks all w (done_channel (base_of p) row) o.0 o.1.0 is
    (h.waits w s job row (at ∙ ap (λ l. Some l) e) n)) f
move_sees p k told _ _ all y r h (Move.cancelled x w s) = asks_none p k all y (Unwinding None) refl refl
move_sees p k told _ _ all y r h (Move.gives_up x w group s g) = asks_none p k all y (Unwinding None) refl refl
move_sees p k told _ _ all _ r h (Move.sees_job x y job row end s at n f) = after_await_sees p k all x end y f
move_sees p k told _ _ all y r h (Move.stops_at_yield x at) = asks_none p k all y (Unwinding None) refl refl
move_sees p k told _ _ all y r h (Move.stops_at_join x job at) = asks_none p k all y (Unwinding None) refl refl
move_sees p k told _ _ all y r h (Move.launch_refused x block how job group at g) = asks_none p k all y (Unwinding (Some k)) refl refl
move_sees p k told _ _ all y r h (Move.enter_refused x supervisor group at g) = asks_none p k all y (Unwinding (Some k)) refl refl
move_sees p k told _ _ all y r h (Move.fails x v at) = asks_none p k all y (Unwinding (Some k)) refl refl
move_sees p k told _ _ all _ r h (Move.ends_scope x y s end group told_there a at e b c f j) =
    scope_end_sees p k told end group told_there all x s a y (ap scope_in e) j r c f
move_sees p k told _ _ all _ r h (Move.scope_ended x w n v s) =
    sees_scope_so p k all x (λ t i. ends_closed told [] all w (done_channel (base_of p) t.row) n v r (h.leaves w s t i))
move_sees p k told _ _ all _ r h (Move.sees_scope x y s end t e f) = after_scope_sees p k all x s end y f
move_sees p k told _ _ all _ r h (Move.breaks_scope x y s failure break group told_there a t e b c f j) =
    scope_end_sees p k told break group told_there all x s a y e j r c f
move_sees p k told _ _ all y r h (Move.breaks x failure group t e b) = asks_none p k all y Ended refl refl
move_sees p k told _ _ all y r h (Move.ends x group t e b) = asks_none p k all y Ended refl refl
move_sees p k told _ _ all y r h other = asks_none p k all y Running refl refl

spawns_see : (p : Program) (told : List Told) (blocks : List ℕ) (x : Config) (group : List Told) (y : Config) → x.stage ≡ Fresh
    → Spawns p blocks x group y → Sees p 0 told y
spawns_see p told _ _ _ _ s (Spawns.done x) = asks_none p 0 told x Fresh s refl
spawns_see p told _ _ _ _ s (Spawns.attaches block blocks x y now more f) = spawns_see p told blocks (past_launch p block None x) more y s f
spawns_see p told _ _ _ y s (Spawns.refused block blocks x group g) = asks_none p 0 told y (Unwinding (Some 0)) refl refl

begins_see : (p : Program) (k : ℕ) (group : List Told) (x : Config) → Begins p k group x → Sees p k group x
begins_see p _ _ _ (Begins.root group x s) = spawns_see p group _ (fresh 0) group x refl s
begins_see p _ _ _ (Begins.child k n) = asks_none p k [] (fresh k) Fresh refl refl

pub reach_sees : (p : Program) (k : ℕ) (told : List Told) (x : Config) → Reaches p k told x → Sees p k told x
reach_sees p k _ _ (Reaches.begins group x b) = begins_see p k group x b
reach_sees p k _ _ (Reaches.goes_on before group all x y r m e) = move_sees p k before x group all y e (reach_sees p k before x r) m

-- ---- what was so

told_then : (s : Story) (items : List Item) (earlier : Moment) (before : List Told) (t : Told) (behind : List Told)
    → IsTrue s items earlier (before ++ t ∷ behind) → (at : Moment) × ((i : List Item) × ((e : Moment) × IsSo s i e t at))
unfolding IsTrue
told_then s items earlier [] t behind h = (h.0, (items, (earlier, h.1)))
told_then s items earlier (x ∷ before) t behind h = told_then s (with_told x items) h.0 before t behind h.2

acts_then : (xs ys : List Told) → channel_acts_in (items_in (xs ++ ys)) ≡ channel_acts_in (items_in xs) ++ channel_acts_in (items_in ys)
acts_then xs ys = ap channel_acts_in (items_in-append xs ys) ∙ channel_acts_in-append (items_in xs) (items_in ys)

act_first : (a : Act) (more : List Told) → channel_acts_in (items_in (made a ∷ more)) ≡ a ∷ channel_acts_in (items_in more)
unfolding items_in
act_first a more = refl

told_closed : (p : Program) (k : ℕ) (now : Moment) (told : List Told) (c : ℕ) → Legal (floor_shape p) now.channels
    → acts_of k now.channels ≡ channel_acts_in (items_in told) → IsTrue (story p k now) [] beginning told → ToldClosed told c
    → is_some ((replay now.channels).channels c).closed ≡ true
told_closed p k now told c l acts true_so (ToldClosed.met before u behind e) =
    let so = told_then (story p k now) [] beginning before (heard (ReceiveClosed c u)) behind
    (subst (IsTrue (story p k now) [] beginning) e true_so) in
    ap is_some (channel_lasts (floor_shape p) (λ d ch. ch.closed ≡ Some u) (closed_keeps (floor_shape p) u) c so.0.channels now.channels
    so.1.1.1.not_after.channels l so.1.1.1.holds.is_closed)
told_closed p k now told c l acts true_so (ToldClosed.ended before place between n v behind e) =
    let w : WaitId = wait_at c place in
    closed_by_wait (floor_shape p) now.channels k c place n v (channel_acts_in (items_in before)) (channel_acts_in (items_in between))
    (channel_acts_in (items_in behind)) l
    (acts ∙ ap (λ t. channel_acts_in (items_in t)) e ∙ acts_then before _
    ∙ ap (λ t. channel_acts_in (items_in before) ++ t) (act_first (Await c place w 0) (between
    ++ made (Settle w (settled.Closed n v)) ∷ behind)
    ∙ ap (λ t. Await c place w 0 ∷ t) (acts_then between _
    ∙ ap (λ t. channel_acts_in (items_in between) ++ t) (act_first (Settle w (settled.Closed n v)) behind))))

-- the done channel of the Job whose end it has to see is closed
pub seen_closed : (p : Program) (k : ℕ) (now : Moment) (book : List Item) (x : Config) (row : ℕ) → Legal (floor_shape p) now.channels
    → acts_of k now.channels ≡ channel_acts_in book → Runs p k now book x → HasToSee p k x row
    → is_some ((replay now.channels).channels (done_channel (base_of p) row)).closed ≡ true
seen_closed p k now book _ _ l acts runs (HasToSee.job job row s at n) =
    told_closed p k now runs.told _ l (acts ∙ ap channel_acts_in (sym runs.written)) runs.is_true
    ((reach_sees p k runs.told _ runs.reaches).job s job row at n)
seen_closed p k now book _ _ l acts runs (HasToSee.scope s at e) =
    told_closed p k now runs.told _ l (acts ∙ ap channel_acts_in (sym runs.written)) runs.is_true
    ((reach_sees p k runs.told _ runs.reaches).scope at s e)
