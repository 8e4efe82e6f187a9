-- A coroutine whose one line is a receive, and whose book is an Await and a Settle with a value, told between the two that its wait was
-- resolved, and then that its Job might run.
use Rattle.std.specs.Prelude.{◌≡◌, ◌⊎◌, ℕ, Bool, true, false, length, List, [], ◌∷◌, ◌++◌, None, Some, refl, slice_get}
use Rattle.std.proofs.Common.{ap, arith, sym, ◌∙◌, subst, append_assoc, inl, inr, ⊎_elim}
use Rattle.std.proofs.lemmas.Bool.{false≢true}
use Rattle.std.proofs.lemmas.List.{append-nil}
use mathlib.Core.List.{IsPrefix}
use Rattle.co_base.specs.declared.names.WaitId.{WaitId}
use Rattle.channel_model.specs.declared.acts.Act.TheVariants.{Await, Settle}
use Rattle.channel_model.specs.declared.acts.Settled.{Settled}
use Rattle.channel_model.specs.declared.acts.Settled.TheVariants.{Value, Cancelled}
use Rattle.note_book.specs.declared.book.Item.{Item}
use Rattle.call_meaning.specs.Telling.{Told, on_channels, on_jobs, IsResolved, TakenBack, MayRun, made, saw, items_in}
use Rattle.call_meaning.specs.ChannelCalls.{Call, receives, Answer, AtOnce, Refused, PlainCall, spent, wait_at}
use Rattle.script_grammar.specs.declared.instructions.Instruction.{Instruction}
use Rattle.script_grammar.specs.declared.instructions.Instruction.TheVariants as line
use Rattle.script_grammar.specs.Tags.{code_of, layouts_from}
use Rattle.script_meaning.specs.declared.stage.Stage.{Stage}
use Rattle.script_meaning.specs.declared.stage.Stage.TheVariants as stage
use Rattle.script_meaning.specs.Configs.{Config, fresh, at_stage, scope_in, row_or, innermost, LineIs}
use Rattle.script_meaning.specs.Lines.{LineCalls, After}
use Rattle.script_meaning.specs.Moves.{Move}
use Rattle.script_meaning.specs.Books.{Begins, Reaches}
use Rattle.script_meaning.proofs.BooksGoOn.{items_in-append}
use Rattle.script_laws.proofs.MovesFrom.{From, begins_at, stage_of, stage_is}
use Rattle.run_laws.proofs.Prefixes.{prefix_then}
use Rattle.order_laws.specs.StaleAnswers.{noted}
use Rattle.order_laws.specs.LateReceives.{program, wait, after_wait, book_of_receiver}
use Rattle.run_laws.proofs.OneOrder.{same_tail}

-- ---- its first move

-- it told that its Job may run and is at its line, or that it saw it Cancelling
from_fresh : (x y : Config) (g : List Told) → Move program 1 x g y → x.stage ≡ stage.Fresh
    → ((g ≡ on_jobs (MayRun 1) ∷ []) × (y ≡ at_stage stage.Running x)) ⊎ (g ≡ saw 1 ∷ [])
from_fresh _ _ _ (Move.runs x s) f = inl (refl, refl)
from_fresh _ _ _ (Move.never_runs x s) f = inr refl
from_fresh x y g other f = absurd (let q : stage_of (begins_at other) ≡ stage.Fresh = sym (stage_is (begins_at other)) ∙ f in cc)

-- ---- its line

code_is : code_of program 1 ≡ line.Receive 0 ∷ []
unfolding layouts_from
code_is = refl

first_line : (x : Config) (i : Instruction) → x.line ≡ 0 → LineIs program 1 x i → i ≡ line.Receive 0
first_line x i l is =
    let at : slice_get (line.Receive 0 ∷ []) x.line ≡ Some i = subst (λ code. slice_get code x.line ≡ Some i) code_is is in
    let k : Some (line.Receive 0) ≡ Some i = subst (λ n. slice_get (line.Receive 0 ∷ []) n ≡ Some i) l at in
    cc

not_over : (x : Config) → x.line ≡ 0 → x.line ≡ length (code_of program 1) → ⊥
not_over x l e =
    let k : 0 ≡ 1 = sym l ∙ e ∙ ap (λ (code : List Instruction). length code) code_is in
    let no : ⊥ = omega (arith, k) in
    no

-- it waits, and told no more than the Await
abbrev Awaits : Config → List Told → Config → Type 0
Awaits x g y = (place : ℕ) × (g ≡ made (Await 0 place (wait_at 0 place) 0) ∷ []) × (y ≡ at_stage (stage.Waiting (wait_at 0 place)) x)

no_spent : (call : Call) (all : List Told) → call ≡ receives 0 → all ≡ spent call → IsPrefix (items_in all) book_of_receiver → ⊥
unfolding items_in
no_spent call all e is p =
    let q : IsPrefix (items_in (spent (receives 0))) book_of_receiver =
    subst (λ l. IsPrefix (items_in l) book_of_receiver) (is ∙ ap spent e) p in
    first_differs q.0 q.1
  where
    first_differs : (rest : List Item) → items_in (spent (receives 0)) ++ rest ≡ book_of_receiver → ⊥
    first_differs rest k = cc

plainly : (x y : Config) (call : Call) (g : List Told) (a : Answer) → call ≡ receives 0 → PlainCall call g a
    → After program 1 x (line.Receive 0) a y → IsPrefix (items_in g) book_of_receiver → Awaits x g y
unfolding items_in
plainly x y _ _ _ e (PlainCall.at_once _ _ _ (AtOnce.hands c v q)) z (rest, p) = cc
plainly x y _ _ _ e (PlainCall.at_once _ _ _ (AtOnce.puts c v q more d)) z (rest, p) = cc
plainly x y _ _ _ e (PlainCall.at_once _ _ _ (AtOnce.takes c v q admits d)) z (rest, p) = cc
plainly x y _ _ _ e (PlainCall.refused _ _ _ (Refused.send c v u)) z (rest, p) = cc
plainly x y _ _ _ e (PlainCall.refused _ _ _ (Refused.receive c u)) z (rest, p) = cc
plainly x y _ _ _ e (PlainCall.no_place call all is) z p = absurd (no_spent call all e is p)
plainly x _ _ _ _ e (PlainCall.awaits c q) (After.waits _ _) p =
    let same : c ≡ 0 = cc in
    subst (λ n. Awaits x (made (Await n q (wait_at n q) 0) ∷ []) (at_stage (stage.Waiting (wait_at n q)) x)) (sym same) (q, refl, refl)
plainly x y _ _ _ e other z p = cc

called : (x y : Config) (i : Instruction) (g : List Told) (a : Answer) → i ≡ line.Receive 0 → LineCalls program 1 x i g a
    → After program 1 x i a y → IsPrefix (items_in g) book_of_receiver → Awaits x g y
called x y _ _ _ e (LineCalls.receive c g a h) z p =
    let same : c ≡ 0 = cc in
    plainly x y (receives c) g a (ap receives same) h (subst (λ n. After program 1 x (line.Receive n) a y) same z) p
called x y _ _ _ e other z p = cc

-- a line that receives
abbrev is_receive : Instruction → Bool
is_receive (line.Receive c) = true
is_receive other = false

abbrev is_running : Stage → Bool
is_running stage.Running = true
is_running other = false

-- from there it may move at a receive
abbrev may_receive : {x : Config} → From program 1 x → Bool
may_receive (From.a_line i at) = is_receive i
may_receive (From.a_stage s e) = is_running s

not_there : (x : Config) (f : From program 1 x) → may_receive f ≡ false → x.stage ≡ stage.Running → x.line ≡ 0 → ⊥
not_there x (From.a_line i at) e f l = false≢true (sym e ∙ ap is_receive (first_line x i l at.line_is))
not_there x (From.a_stage s is) e f l = false≢true (sym e ∙ ap is_running (sym is ∙ f))

from_line : (x y : Config) (g : List Told) → Move program 1 x g y → x.stage ≡ stage.Running → x.line ≡ 0
    → IsPrefix (items_in g) book_of_receiver → Awaits x g y
from_line _ _ _ (Move.calls x y i g a s h z) f l p = called x y i g a (first_line x i l s.line_is) h z p
from_line _ _ _ (Move.ends x g s e h) f l p = absurd (not_over x l e)
from_line x y g other f l p = absurd (not_there x (begins_at other) refl f l)

-- ---- its wait

-- what it told behind the Await, and before the rest
abbrev Resumes : List Told → Type 0
Resumes g = g ≡ on_channels (IsResolved wait) ∷ on_jobs (MayRun 1) ∷ made (Settle wait (Value 0 5)) ∷ []

abbrev settles_then : List Item
settles_then = noted (Settle wait (Value 0 5)) ∷ after_wait

resumed : (v : WaitId) (x : Config) (w : WaitId) (outcome : Settled) → x.stage ≡ stage.Waiting w → x.stage ≡ stage.Waiting v
    → scope_in x.entered ≡ None
    → IsPrefix (items_in (on_channels (IsResolved w) ∷ on_jobs (MayRun (innermost 1 x)) ∷ made (Settle w outcome) ∷ [])) settles_then
    → Resumes (on_channels (IsResolved w) ∷ on_jobs (MayRun (innermost 1 x)) ∷ made (Settle w outcome) ∷ [])
unfolding items_in
resumed v x w outcome s f n (rest, p) =
    let of_wait : w ≡ wait = cc in
    let as_value : outcome ≡ Value 0 5 = cc in
    let own : innermost 1 x ≡ 1 = ap (row_or 1) n in
    ap (λ u. on_channels (IsResolved u) ∷ on_jobs (MayRun (innermost 1 x)) ∷ made (Settle u outcome) ∷ []) of_wait
    ∙ ap (λ r. on_channels (IsResolved wait) ∷ on_jobs (MayRun r) ∷ made (Settle wait outcome) ∷ []) own
    ∙ ap (λ o. on_channels (IsResolved wait) ∷ on_jobs (MayRun 1) ∷ made (Settle wait o) ∷ []) as_value

not_cancelled : (w : WaitId) → IsPrefix (items_in (on_channels (TakenBack w) ∷ made (Settle w Cancelled) ∷ [])) settles_then → ⊥
unfolding items_in
not_cancelled w (rest, p) = cc

not_seen : (row : ℕ) (g : List Told) → IsPrefix (items_in (saw row ∷ g)) settles_then → ⊥
unfolding items_in
not_seen row g (rest, p) = cc

from_wait : (v : WaitId) (x y : Config) (g : List Told) → Move program 1 x g y → x.stage ≡ stage.Waiting v → scope_in x.entered ≡ None
    → IsPrefix (items_in g) settles_then → Resumes g
from_wait v _ _ _ (Move.resumes x y w i outcome a s l r z) f n p = resumed v x w outcome s f n p
from_wait v _ _ _ (Move.cancelled x w s) f n p = absurd (not_cancelled w p)
from_wait v _ _ _ (Move.gives_up x w g s h) f n p = absurd (not_seen (innermost 1 x) g p)
from_wait v x y g other f n p = absurd (let q : stage_of (begins_at other) ≡ stage.Waiting v = sym (stage_is (begins_at other)) ∙ f in cc)

-- ---- all that it told

-- behind an Await it told that its wait was resolved, then that its Job might run, and the Settle
pub record ToldBehind (told : List Told) : Type 0 where
  pub before : List Told
  pub after : List Told
  pub items : items_in before ≡ noted (Await 0 0 wait 0) ∷ []
  pub told_is : told ≡ before ++ on_channels (IsResolved wait) ∷ on_jobs (MayRun 1) ∷ made (Settle wait (Value 0 5)) ∷ after

-- how far it is
data IsFar (told : List Told) (x : Config) : Type 0 where
  not_begun : told ≡ [] → x ≡ fresh 1 → IsFar told x
  at_its_line : items_in told ≡ [] → x ≡ at_stage stage.Running (fresh 1) → IsFar told x
  in_its_wait : (v : WaitId) → items_in told ≡ noted (Await 0 0 wait 0) ∷ [] → x ≡ at_stage (stage.Waiting v) (fresh 1) → IsFar told x
  further : ToldBehind told → IsFar told x

no_saw : (g : List Told) → g ≡ saw 1 ∷ [] → IsPrefix (items_in g) book_of_receiver → ⊥
unfolding items_in
no_saw g e p = let q : IsPrefix (items_in (saw 1 ∷ [])) book_of_receiver = subst (λ l. IsPrefix (items_in l) book_of_receiver) e p in
    first_differs q.0 q.1
  where
    first_differs : (rest : List Item) → items_in (saw 1 ∷ []) ++ rest ≡ book_of_receiver → ⊥
    first_differs rest k = cc

-- the Await is that of the book
place_is : (place : ℕ) → IsPrefix (items_in (made (Await 0 place (wait_at 0 place) 0) ∷ [])) book_of_receiver → place ≡ 0
unfolding items_in
place_is place (rest, p) = cc

none_noted : items_in (on_jobs (MayRun 1) ∷ []) ≡ []
unfolding items_in
none_noted = refl

await_noted : items_in (made (Await 0 0 wait 0) ∷ []) ≡ noted (Await 0 0 wait 0) ∷ []
unfolding items_in
await_noted = refl

past_await : (items : List Item) → IsPrefix (noted (Await 0 0 wait 0) ∷ items) book_of_receiver → IsPrefix items settles_then
past_await items (rest, p) = (rest, same_tail (noted (Await 0 0 wait 0)) (noted (Await 0 0 wait 0)) (items ++ rest) settles_then p)

further_on : (before g all : List Told) → all ≡ before ++ g → ToldBehind before → ToldBehind all
further_on before g all e h = record {
  before = h.before;
  after = h.after ++ g;
  items = h.items;
  told_is = e
      ∙ ap (λ l. l ++ g) h.told_is
      ∙ append_assoc h.before (on_channels (IsResolved wait) ∷ on_jobs (MayRun 1) ∷ made (Settle wait (Value 0 5)) ∷ h.after) g;
}

one_move : (before g all : List Told) (x y : Config) → all ≡ before ++ g → IsPrefix (items_in all) book_of_receiver → Move program 1 x g y
    → IsFar before x → IsFar all y
one_move before g all x y e p m (IsFar.not_begun t s) =
    let is : all ≡ g = e ∙ ap (λ l. l ++ g) t in
    ⊎_elim
    (λ (h : (g ≡ on_jobs (MayRun 1) ∷ []) × (y ≡ at_stage stage.Running x)).
    IsFar.at_its_line (ap items_in (is ∙ h.0) ∙ none_noted) (h.1 ∙ ap (at_stage stage.Running) s))
    (λ (h : g ≡ saw 1 ∷ []). absurd (no_saw all (is ∙ h) p))
    (from_fresh x y g m (ap (λ (c : Config). c.stage) s))
one_move before g all x y e p m (IsFar.at_its_line i s) =
    let noted_now : items_in all ≡ items_in g = ap items_in e ∙ items_in-append before g ∙ ap (λ l. l ++ items_in g) i in
    let q : IsPrefix (items_in g) book_of_receiver = subst (λ l. IsPrefix l book_of_receiver) noted_now p in
    let h = from_line x y g m (ap (λ (c : Config). c.stage) s) (ap (λ (c : Config). c.line) s) q in
    let first : h.0 ≡ 0 = place_is h.0 (subst (λ l. IsPrefix (items_in l) book_of_receiver) h.1 q) in
    IsFar.in_its_wait (wait_at 0 h.0)
    (noted_now ∙ ap items_in h.1 ∙ ap (λ n. items_in (made (Await 0 n (wait_at 0 n) 0) ∷ [])) first ∙ await_noted)
    (h.2 ∙ ap (at_stage (stage.Waiting (wait_at 0 h.0))) s)
one_move before g all x y e p m (IsFar.in_its_wait v i s) =
    let noted_now : items_in all ≡ noted (Await 0 0 wait 0) ∷ items_in g = ap items_in e ∙ items_in-append before g
    ∙ ap (λ l. l ++ items_in g) i in
    let q = past_await (items_in g) (subst (λ l. IsPrefix l book_of_receiver) noted_now p) in
    let h = from_wait v x y g m (ap (λ (c : Config). c.stage) s) (ap (λ (c : Config). scope_in c.entered) s) q in
    IsFar.further (record { before = before; after = []; items = i; told_is = e ∙ ap (λ l. before ++ l) h })
one_move before g all x y e p m (IsFar.further h) = IsFar.further (further_on before g all e h)

begun : (k : ℕ) (g : List Told) (x : Config) → k ≡ 1 → Begins program k g x → IsFar g x
begun _ _ _ e (Begins.root g x s) = cc
begun _ _ _ e (Begins.child k n) = IsFar.not_begun refl (ap fresh e)

is_far : (told : List Told) (x : Config) → Reaches program 1 told x → IsPrefix (items_in told) book_of_receiver → IsFar told x
is_far _ _ (Reaches.begins g x h) p = begun 1 g x refl h
is_far _ _ (Reaches.goes_on before g all x y r m e) p =
    one_move before g all x y e p m (is_far before x r (prefix_then (items_in before) (items_in all) book_of_receiver
    (items_in g, sym (ap items_in e ∙ items_in-append before g)) p))

nothing_noted : items_in [] ≡ book_of_receiver → ⊥
unfolding items_in
nothing_noted e = cc

empty_noted : [] ≡ book_of_receiver → ⊥
empty_noted e = cc

one_noted : noted (Await 0 0 wait 0) ∷ [] ≡ book_of_receiver → ⊥
one_noted e = cc

pub told_behind : (told : List Told) (x : Config) → Reaches program 1 told x → items_in told ≡ book_of_receiver → ToldBehind told
told_behind told x r written = by_far (is_far told x r ([], append-nil (items_in told) ∙ written))
  where
    by_far : IsFar told x → ToldBehind told
    by_far (IsFar.not_begun t s) = absurd (nothing_noted (sym (ap items_in t) ∙ written))
    by_far (IsFar.at_its_line i s) = absurd (empty_noted (sym i ∙ written))
    by_far (IsFar.in_its_wait v i s) = absurd (one_noted (sym i ∙ written))
    by_far (IsFar.further h) = h
