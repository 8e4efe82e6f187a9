-- Each move leaves fewer moves, but for a received element, which may raise what an each has left, and a select that looks again.
use Rattle.std.specs.Prelude.{◌≡◌, ℕ, zero, suc, ◌+◌, ◌-◌, ◌*◌, ◌<◌, ◌≤◌, ◌⊎◌, Bool, true, false, cond, List, [], ◌∷◌, ◌++◌, length, Option, Some, None, slice_get, refl}
use Rattle.std.proofs.Common.{sym, ap, ◌∙◌, subst, inl, inr, ⊎_elim, arith}
use Rattle.std.proofs.Math.Nat.{mul-le-mul_right, le-mul_of_pos_right, suc-mul}
use Rattle.std.proofs.lemmas.Option.{slice_get_within}
use Rattle.co_base.specs.declared.names.WaitId.{WaitId}
use Rattle.channel_model.specs.declared.acts.Act.{Act}
use Rattle.channel_model.specs.declared.acts.Act.TheVariants.{Await, Take}
use Rattle.channel_model.proofs.LeftOnFloors.{is_receipt, receipts_in, receipts_in-append}
use Rattle.note_book.specs.Items.{channel_acts_in}
use Rattle.note_book.proofs.Appended.{channel_acts_in-append}
use Rattle.call_meaning.specs.Telling.{Told, items_in, made}
use Rattle.call_meaning.specs.ChannelCalls.{Call, receives, Answer, Got, Waits, LooksAgain, PlainCall, SelectCall, AtOnce, Refused}
use Rattle.call_meaning.proofs.ChannelsHeard.{items_in-append}
use Rattle.script_grammar.specs.declared.instructions.Instruction.{Instruction}
use Rattle.script_grammar.specs.declared.instructions.Instruction.TheVariants as line
use Rattle.script_grammar.specs.Programs.{Program, Block}
use Rattle.script_grammar.specs.Blocks.{opens_lines}
use Rattle.script_grammar.specs.Nesting.{closing_of}
use Rattle.script_grammar.specs.Tags.{code_of, code_at, code_of_block, block_of_tag}
use Rattle.script_grammar.specs.WellFormed.{IsProgram}
use Rattle.script_meaning.specs.declared.stage.Stage.{Stage}
use Rattle.script_meaning.specs.declared.stage.Stage.TheVariants.{Fresh, Running, Waiting, SeesJob, Unwinding, Leaving, SeesScope, Ended}
use Rattle.script_meaning.specs.Configs.{Config, Entered, in_repeat, in_each, in_scope, InScope, at_stage, outside, scope_in, LineIs, IsAt}
use Rattle.script_meaning.specs.Lines.{clauses_at, LineCalls, After, AfterAwait, Resumed, AtScopeEnd, AfterScope}
use Rattle.script_meaning.specs.Moves.{Move}
use Rattle.script_meaning.specs.Polls.{is_seeing, MovesOnce}
use Rattle.script_meaning.specs.Inside.{Fits}
use Rattle.script_meaning.specs.MovesLeft.{lines_in, weight_with, line_weight, entered_weights, each_weight, wait_weight, rank, moves_left, most_moves, LooksAgainAt}
use Rattle.script_meaning.proofs.OpenLines.{closed_at}
use Rattle.script_meaning.proofs.LinesPlaced.{repeat_turns}
use Rattle.script_meaning.proofs.InsideCode.{scope_closes, move_fits}

-- ---- what lines weigh

some_weight : (n : ℕ) → 1 ≤ weight_with n
unfolding weight_with
some_weight zero = omega arith
some_weight (suc n) = omega (arith, some_weight n)

weight_less : (d m : ℕ) → weight_with m ≤ weight_with (d + m)
unfolding weight_with
weight_less zero m = let same : 0 + m ≡ m = omega arith in omega (arith, ap weight_with same)
weight_less (suc d) m =
    let same : suc d + m ≡ suc (d + m) = omega arith in
    let step : weight_with (suc d + m) ≡ 1000002 * weight_with (d + m) = ap weight_with same in
    omega (arith, step, weight_less d m)

weight_step : (n : ℕ) → weight_with (suc n) ≡ 1000002 * weight_with n
unfolding weight_with
weight_step n = refl

pub weighs : (p : Program) (i : ℕ) → 1 ≤ line_weight p i
weighs p i = some_weight (lines_in p.blocks - i)

-- a line weighs at least what a later one does
no_more : (p : Program) (i j : ℕ) → i ≤ j → line_weight p j ≤ line_weight p i
no_more p i j h =
    let apart : lines_in p.blocks - i ≡ (lines_in p.blocks - i - (lines_in p.blocks - j)) + (lines_in p.blocks - j) = omega (arith, h) in
    let less = weight_less (lines_in p.blocks - i - (lines_in p.blocks - j)) (lines_in p.blocks - j) in
    omega (arith, less, ap weight_with apart)

-- and a line of the code far more
much_less : (p : Program) (i j : ℕ) → i < lines_in p.blocks → i < j → 1000002 * line_weight p j ≤ line_weight p i
much_less p i j within h =
    let one_less : lines_in p.blocks - i ≡ suc (lines_in p.blocks - (i + 1)) = omega (arith, within) in
    let step : line_weight p i ≡ 1000002 * line_weight p (i + 1) = ap weight_with one_less ∙ weight_step (lines_in p.blocks - (i + 1)) in
    let later : i + 1 ≤ j = omega (arith, h) in
    omega (arith, step, no_more p (i + 1) j later)

block_lines : (bs : List Block) (j : ℕ) → length (code_of_block (slice_get bs j)) ≤ lines_in bs
block_lines [] zero = omega arith
block_lines [] (suc j) = omega arith
block_lines (b ∷ bs) zero = omega arith
block_lines (b ∷ bs) (suc j) = omega (arith, block_lines bs j)

code_lines : (p : Program) (k : ℕ) → length (code_of p k) ≤ lines_in p.blocks
code_lines p k = by_tag (block_of_tag p k)
  where
    by_tag : (o : Option ℕ) → length (code_at p o) ≤ lines_in p.blocks
    by_tag None = omega arith
    by_tag (Some n) = block_lines p.blocks n

-- a line behind one of the code weighs far less
pub line_less : (p : Program) (k i j : ℕ) (l : Instruction) → slice_get (code_of p k) i ≡ Some l → i < j
    → 1000002 * line_weight p j ≤ line_weight p i
line_less p k i j l at h =
    let within = slice_get_within (code_of p k) i l at in
    let all = code_lines p k in
    much_less p i j (omega (arith, within, all)) h

past_less : (p : Program) (k i e : ℕ) (l : Instruction) → slice_get (code_of p k) i ≡ Some l → opens_lines l ≡ true
    → closing_of (code_of p k) i ≡ Some e → 1000002 * line_weight p (e + 1) ≤ line_weight p i
past_less p k i e l at o c = let b = (closed_at (code_of p k) i e l at o c).behind in line_less p k i (e + 1) l at (omega (arith, b))

-- ---- elements that were received

abbrev pub receipts : List Told → ℕ
receipts told = receipts_in (channel_acts_in (items_in told))

pub receipts-append : (xs ys : List Told) → receipts (xs ++ ys) ≡ receipts xs + receipts ys
receipts-append xs ys =
    ap (λ l. receipts_in (channel_acts_in l)) (items_in-append xs ys) ∙ ap receipts_in (channel_acts_in-append (items_in xs) (items_in ys))
    ∙ receipts_in-append (channel_acts_in (items_in xs)) (channel_acts_in (items_in ys))

one_receipt : (a : Act) (more : List Told) → is_receipt a ≡ true → 1 ≤ receipts (made a ∷ more)
unfolding items_in
one_receipt a more e = let one : cond (is_receipt a) 1 0 ≡ 1 = ap {B = ℕ} (λ b. cond b 1 0) e in omega (arith, one)

-- a receive that waits or has got an element made a receipt
abbrev pub has_receipt : Answer → Bool
has_receipt (Got v) = true
has_receipt (Waits w) = true
has_receipt other = false

plain_receipt : (call : Call) (c : ℕ) (group : List Told) (a : Answer) → PlainCall call group a → call ≡ receives c → has_receipt a ≡ true
    → 1 ≤ receipts group
plain_receipt _ c _ _ (PlainCall.at_once call group a at) e h = at_once call group a at e
  where
    at_once : (call : Call) (group : List Told) (a : Answer) → AtOnce call group a → call ≡ receives c → 1 ≤ receipts group
    at_once _ _ _ (AtOnce.hands d v q) e = cc
    at_once _ _ _ (AtOnce.puts d v q more f) e = cc
    at_once _ _ _ (AtOnce.takes d v q admits f) e = one_receipt (Take d q v) admits refl
plain_receipt _ c _ _ (PlainCall.refused call told a r) e h = absurd (no_receipt call told a r h)
  where
    no_receipt : (call : Call) (told : Told) (a : Answer) → Refused call told a → has_receipt a ≡ true → ⊥
    no_receipt _ _ _ (Refused.send d v u) h = cc
    no_receipt _ _ _ (Refused.receive d u) h = cc
plain_receipt _ c _ _ (PlainCall.awaits d q) e h = one_receipt (Await d q (record { channel = d; place = q }) 0) [] refl
plain_receipt _ c _ _ other e h = cc

-- ---- what a move leaves

-- fewer moves are left, or as many more at most as the elements allow that were received
abbrev pub FallsBy : Program → ℕ → Config → List Told → Config → Type 0
FallsBy p k x told y = moves_left p k y < moves_left p k x + most_moves p * receipts told

less_more : (a b c : ℕ) → a < b → a < b + c
less_more a b c h = omega (arith, h)

fewer : (p : Program) (k : ℕ) (x : Config) (told : List Told) (y : Config) → moves_left p k y < moves_left p k x → FallsBy p k x told y
fewer p k x told y h = less_more (moves_left p k y) (moves_left p k x) (most_moves p * receipts told) h

paid : (p : Program) (k : ℕ) (x : Config) (told : List Told) (y : Config) → 1 ≤ receipts told
    → moves_left p k y < moves_left p k x + most_moves p → FallsBy p k x told y
paid p k x told y r h = by_product (most_moves p * receipts told) (le-mul_of_pos_right {m = receipts told} (most_moves p) r)
  where
    by_product : (m : ℕ) → most_moves p ≤ m → moves_left p k y < moves_left p k x + m
    by_product m le = omega (arith, le, h)

-- what is left at its stage
left_at : (p : Program) (k : ℕ) (x : Config) (s : Stage) → x.stage ≡ s
    → moves_left p k x ≡ 8 * (line_weight p x.line + entered_weights p x.entered + wait_weight p s x.line (slice_get (code_of p k) x.line))
    + rank s
left_at p k x s e =
    ap (λ t. 8 * (line_weight p x.line + entered_weights p x.entered + wait_weight p t x.line (slice_get (code_of p k) x.line)) + rank t) e

-- to run a line that weighs less, with what was entered then
run_lower : (p : Program) (k : ℕ) (x : Config) (i : ℕ) (es : List Entered) (y : Config)
    → line_weight p i + entered_weights p es < line_weight p x.line + entered_weights p x.entered → y.stage ≡ Running → y.line ≡ i
    → y.entered ≡ es → moves_left p k y < moves_left p k x
run_lower p k x i es y h s l e =
    let is = left_at p k y Running s in
    let at = ap (line_weight p) l in
    let within = ap (entered_weights p) e in
    omega (arith, h, is, at, within)

next_lower : (p : Program) (k : ℕ) (x : Config) (l : Instruction) (y : Config) → LineIs p k x l → y.stage ≡ Running → y.line ≡ x.line + 1
    → y.entered ≡ x.entered → moves_left p k y < moves_left p k x
next_lower p k x l y at s i e =
    let behind : x.line < x.line + 1 = omega arith in
    run_lower p k x (x.line + 1) x.entered y (omega (arith, line_less p k x.line (x.line + 1) l at behind, weighs p (x.line + 1))) s i e

past_lower : (p : Program) (k : ℕ) (x : Config) (l : Instruction) (e : ℕ) (y : Config) → LineIs p k x l → opens_lines l ≡ true
    → closing_of (code_of p k) x.line ≡ Some e → y.stage ≡ Running → y.line ≡ e + 1 → y.entered ≡ x.entered
    → moves_left p k y < moves_left p k x
past_lower p k x l e y at o c s i f = run_lower p k x (e + 1) x.entered y (omega (arith, past_less p k x.line e l at o c, weighs p (e + 1)))
    s i f

-- to another stage at the same line
stage_lower : (p : Program) (k : ℕ) (x : Config) (s t : Stage) → x.stage ≡ s
    → wait_weight p t x.line (slice_get (code_of p k) x.line) ≤ wait_weight p s x.line (slice_get (code_of p k) x.line) → rank t < rank s
    → moves_left p k (at_stage t x) < moves_left p k x
stage_lower p k x s t e w r = let is = left_at p k x s e in omega (arith, is, w, r)

scope_lighter : (p : Program) (es : List Entered) (s : InScope) → scope_in es ≡ Some s
    → entered_weights p s.around + 1 ≤ entered_weights p es
scope_lighter p [] s e = cc
scope_lighter p (in_repeat head left ∷ es) s e = let r = scope_lighter p es s e in omega (arith, r)
scope_lighter p (in_each head ∷ es) s e = let r = scope_lighter p es s e in omega (arith, r)
scope_lighter p (in_scope head row ∷ es) s e =
    let is : record { head = head; row = row; around = es } ≡ s = cc in
    let same : entered_weights p es ≡ entered_weights p s.around = ap (λ (t : InScope). entered_weights p t.around) is in
    omega (arith, same)

-- out of a scope to any stage
outside_lower : (p : Program) (k : ℕ) (x : Config) (s : InScope) (failure : Option ℕ) → scope_in x.entered ≡ Some s
    → moves_left p k (at_stage (Unwinding failure) (outside s x)) < moves_left p k x
outside_lower p k x s failure e =
    let less = scope_lighter p x.entered s e in
    omega (arith, less)

-- ---- calls

-- what an each has left where it waits, or has got an element
each_paid : (p : Program) (k : ℕ) (x : Config) (c : ℕ) (group : List Told) (a : Answer) (y : Config) (i : Instruction) → x.stage ≡ Running
    → LineIs p k x (line.Each c) → (has_receipt a ≡ true → 1 ≤ receipts group) → i ≡ line.Each c → After p k x i a y → FallsBy p k x group y
each_paid p k x c group _ y _ s at r e (After.waits i w) =
    let is = left_at p k x Running s in
    let once : each_weight p x.line (slice_get (code_of p k) x.line) ≡ line_weight p x.line = ap (each_weight p x.line) at in
    let zero_le : 0 ≤ x.line = omega arith in
    let most = no_more p 0 x.line zero_le in
    paid p k x group (at_stage (Waiting w) x) (r refl) (omega (arith, is, once, most))
each_paid p k x c group _ y _ s at r e (After.no_place i) =
    fewer p k x group y (stage_lower p k x Running (Unwinding (Some k)) s (omega arith) (omega arith))
each_paid p k x c group _ y _ s at r e (After.sent d o) = cc
each_paid p k x c group _ y _ s at r e (After.tried_to_send d o) = cc
each_paid p k x c group _ y _ s at r e (After.got d v) = cc
each_paid p k x c group _ y _ s at r e (After.no_more d v) = cc
each_paid p k x c group _ y _ s at r e (After.tried_and_got d v) = cc
each_paid p k x c group _ y _ s at r e (After.tried_to_get d) = cc
each_paid p k x c group _ y _ s at r e (After.got_one_more d v) =
    let is = left_at p k x Running s in
    let behind : x.line < x.line + 1 = omega arith in
    let zero_le : 0 ≤ x.line = omega arith in
    let less = line_less p k x.line (x.line + 1) (line.Each c) at behind in
    let most = no_more p 0 x.line zero_le in
    paid p k x group y (r refl) (omega (arith, is, less, most, weighs p (x.line + 1)))
each_paid p k x c group _ y _ s at r e (After.got_all d v n f) =
    fewer p k x group y (past_lower p k x (line.Each c) n y at refl f refl refl refl)
each_paid p k x c group _ y _ s at r e (After.chose_send n f) = cc
each_paid p k x c group _ y _ s at r e other = cc

abbrev pub is_each : Instruction → Bool
is_each (line.Each c) = true
is_each other = false

not_each : (p : Program) (n : ℕ) (i : Instruction) → is_each i ≡ false → each_weight p n (Some i) ≡ 0
not_each p n (line.Each c) e = cc
not_each p n other e = refl

-- another line goes on, but for a select that looks again
call_lower : (p : Program) (k : ℕ) (x : Config) (i : Instruction) (a : Answer) (y : Config) → x.stage ≡ Running → LineIs p k x i
    → is_each i ≡ false → After p k x i a y → (moves_left p k y < moves_left p k x) ⊎ ((i ≡ line.Select) × (a ≡ LooksAgain) × (y ≡ x))
call_lower p k x _ _ y s at n (After.waits i w) =
    let none : each_weight p x.line (slice_get (code_of p k) x.line) ≡ 0 = ap (each_weight p x.line) at ∙ not_each p x.line i n in
    inl (stage_lower p k x Running (Waiting w) s (omega (arith, none)) (omega arith))
call_lower p k x _ _ y s at n (After.no_place i) = inl (stage_lower p k x Running (Unwinding (Some k)) s (omega arith) (omega arith))
call_lower p k x _ _ y s at n (After.got_one_more c v) = cc
call_lower p k x _ _ y s at n (After.got_all c v e f) = cc
call_lower p k x _ _ y s at n (After.chose_send e f) = inl (past_lower p k x _ e y at refl f refl refl refl)
call_lower p k x _ _ y s at n (After.chose_got e v f) = inl (past_lower p k x _ e y at refl f refl refl refl)
call_lower p k x _ _ y s at n (After.chose_closed e v f) = inl (past_lower p k x _ e y at refl f refl refl refl)
call_lower p k x _ _ y s at n After.looks_again = inr (refl, refl, refl)
call_lower p k x _ _ y s at n (After.awaited job v) = inl (stage_lower p k x Running SeesJob s (omega arith) (omega arith))
call_lower p k x _ _ y s at n other = inl (next_lower p k x _ y at refl refl refl)

-- after a wait
resumed_lower : (p : Program) (k : ℕ) (x : Config) (w : WaitId) (i : Instruction) (outcome : _) (a : Answer) (y : Config)
    → x.stage ≡ Waiting w → LineIs p k x i → Resumed outcome a → After p k x i a y → moves_left p k y < moves_left p k x
resumed_lower p k x w _ _ _ y s at (Resumed.value n _) (After.got c v) = next_lower p k x _ y at refl refl refl
resumed_lower p k x w _ _ _ y s at (Resumed.value n _) (After.tried_and_got c v) = next_lower p k x _ y at refl refl refl
resumed_lower p k x w _ _ _ y s at (Resumed.value n _) (After.got_one_more c v) =
    let is = left_at p k x (Waiting w) s in
    let once : each_weight p x.line (slice_get (code_of p k) x.line) ≡ line_weight p x.line = ap (each_weight p x.line) at in
    let behind : x.line < x.line + 1 = omega arith in
    let less = line_less p k x.line (x.line + 1) (line.Each c) at behind in
    omega (arith, is, once, less, weighs p (x.line + 1))
resumed_lower p k x w _ _ _ y s at (Resumed.value n _) (After.chose_got e v f) = past_lower p k x _ e y at refl f refl refl refl
resumed_lower p k x w _ _ _ y s at (Resumed.sent n) (After.sent c o) = next_lower p k x _ y at refl refl refl
resumed_lower p k x w _ _ _ y s at (Resumed.sent n) (After.tried_to_send c o) = next_lower p k x _ y at refl refl refl
resumed_lower p k x w _ _ _ y s at (Resumed.sent n) (After.tried_to_get c) = next_lower p k x _ y at refl refl refl
resumed_lower p k x w _ _ _ y s at (Resumed.sent n) (After.chose_send e f) = past_lower p k x _ e y at refl f refl refl refl
resumed_lower p k x w _ _ _ y s at (Resumed.closed n _) (After.no_more c v) = next_lower p k x _ y at refl refl refl
resumed_lower p k x w _ _ _ y s at (Resumed.closed n _) (After.got_all c v e f) = past_lower p k x _ e y at refl f refl refl refl
resumed_lower p k x w _ _ _ y s at (Resumed.closed n _) (After.chose_closed e v f) = past_lower p k x _ e y at refl f refl refl refl
resumed_lower p k x w _ _ _ y s at (Resumed.closed n _) (After.joined job v) = next_lower p k x _ y at refl refl refl
resumed_lower p k x w _ _ _ y s at (Resumed.closed n _) (After.awaited job v) =
    stage_lower p k x (Waiting w) SeesJob s (omega arith) (omega arith)

-- ---- scopes

await_lower : (p : Program) (k : ℕ) (x : Config) (job : ℕ) (end : _) (y : Config) → x.stage ≡ SeesJob → LineIs p k x (line.Await job)
    → AfterAwait x end y → moves_left p k y < moves_left p k x
await_lower p k x job _ y s at (AfterAwait.completed v) = next_lower p k x _ y at refl refl refl
await_lower p k x job _ y s at AfterAwait.cancelled = stage_lower p k x SeesJob (Unwinding None) s (omega arith) (omega arith)
await_lower p k x job _ y s at (AfterAwait.failed f) = stage_lower p k x SeesJob (Unwinding (Some f)) s (omega arith) (omega arith)

scope_end_lower : (p : Program) (k : ℕ) (x : Config) (s : InScope) (stage : Stage) (a : Answer) (y : Config) → x.stage ≡ stage
    → 3 ≤ rank stage → scope_in x.entered ≡ Some s → AtScopeEnd k x s a y → moves_left p k y < moves_left p k x
scope_end_lower p k x s stage _ _ e r f (AtScopeEnd.waits w) = stage_lower p k x stage (Leaving w) e (omega arith) (omega (arith, r))
scope_end_lower p k x s stage _ _ e r f (AtScopeEnd.closed v) = stage_lower p k x stage SeesScope e (omega arith) (omega (arith, r))
scope_end_lower p k x s stage _ _ e r f AtScopeEnd.no_place = outside_lower p k x s (Some k) f

after_scope_lower : (p : Program) (k : ℕ) (x : Config) (s : InScope) (end : _) (y : Config) → IsProgram p → Fits p k x
    → scope_in x.entered ≡ Some s → AfterScope p k x s end y → moves_left p k y < moves_left p k x
after_scope_lower p k x s _ y ok h f (AfterScope.completed v e c) =
    let closed = scope_closes p k x s ok h f in
    let same : closed.0 ≡ e = let both_ways : Some closed.0 ≡ Some e = sym closed.1 ∙ c in cc in
    let later : x.line ≤ e + 1 = omega (arith, closed.2, same) in
    run_lower p k x (e + 1) s.around y (omega (arith, no_more p x.line (e + 1) later, scope_lighter p x.entered s f)) refl refl refl
after_scope_lower p k x s _ _ ok h f AfterScope.cancelled = outside_lower p k x s None f
after_scope_lower p k x s _ _ ok h f (AfterScope.failed v) = outside_lower p k x s (Some v) f

-- ---- loops

times_less : (n w : ℕ) → n ≤ 1000000 → n * w ≤ 1000000 * w
times_less n w h = mul-le-mul_right w h

once_more : (n w : ℕ) → (n + 1) * w ≡ n * w + w
once_more n w = let same : n + 1 ≡ suc n = omega arith in ap (λ m. m * w) same ∙ suc-mul n w

repeat_lower : (p : Program) (k : ℕ) (x : Config) (n : ℕ) (y : Config) → IsProgram p → IsAt p k x (line.Repeat (n + 1)) → y.stage ≡ Running
    → y.line ≡ x.line + 1 → y.entered ≡ in_repeat x.line n ∷ x.entered → moves_left p k y < moves_left p k x
repeat_lower p k x n y ok at s l e =
    let turns = repeat_turns p k x.line (n + 1) ok at.line_is in
    let behind : x.line < x.line + 1 = omega arith in
    let less = line_less p k x.line (x.line + 1) _ at.line_is behind in
    let few : n ≤ 1000000 = omega (arith, turns.1) in
    let times = times_less n (line_weight p (x.line + 1)) few in
    run_lower p k x (x.line + 1) (in_repeat x.line n ∷ x.entered) y
    (summed (n * line_weight p (x.line + 1)) (line_weight p (x.line + 1)) (line_weight p x.line) (entered_weights p x.entered) less
    times (weighs p (x.line + 1))) s l e
  where
    summed : (t q w es : ℕ) → 1000002 * q ≤ w → t ≤ 1000000 * q → 1 ≤ q → q + (t + es) < w + es
    summed t q w es less times some = omega (arith, less, times, some)

again_lower : (p : Program) (k : ℕ) (x : Config) (head n : ℕ) (es : List Entered) (y : Config) → x.entered ≡ in_repeat head (n + 1) ∷ es
    → y.stage ≡ Running → y.line ≡ head + 1 → y.entered ≡ in_repeat head n ∷ es → moves_left p k y < moves_left p k x
again_lower p k x head n es y e s l f =
    run_lower p k x (head + 1) (in_repeat head n ∷ es) y
    (summed (n * line_weight p (head + 1)) ((n + 1) * line_weight p (head + 1)) (line_weight p (head + 1)) (line_weight p x.line)
    (entered_weights p es) (entered_weights p x.entered)
    (once_more n (line_weight p (head + 1))) (weighs p x.line) (ap (entered_weights p) e)) s l f
  where
    summed : (t t' q w es all : ℕ) → t' ≡ t + q → 1 ≤ w → all ≡ t' + es → q + (t + es) < w + all
    summed t t' q w es all e some f = omega (arith, e, some, f)

on_lower : (p : Program) (k : ℕ) (x : Config) (e : Entered) (es : List Entered) (y : Config) → IsAt p k x line.End → x.entered ≡ e ∷ es
    → y.stage ≡ Running → y.line ≡ x.line + 1 → y.entered ≡ es → moves_left p k y < moves_left p k x
on_lower p k x e es y at f s l g =
    let behind : x.line < x.line + 1 = omega arith in
    let less = line_less p k x.line (x.line + 1) _ at.line_is behind in
    run_lower p k x (x.line + 1) es y (omega (arith, less, weighs p (x.line + 1), ap (entered_weights p) f)) s l g

head_lower : (p : Program) (k : ℕ) (x : Config) (head : ℕ) (es : List Entered) (y : Config) → x.entered ≡ in_each head ∷ es
    → y.stage ≡ Running → y.line ≡ head → y.entered ≡ es → moves_left p k y < moves_left p k x
head_lower p k x head es y f s l g = run_lower p k x head es y (omega (arith, weighs p x.line, ap (entered_weights p) f)) s l g

enters_lower : (p : Program) (k : ℕ) (x : Config) (l : Instruction) (row : ℕ) (y : Config) → LineIs p k x l → y.stage ≡ Running
    → y.line ≡ x.line + 1 → y.entered ≡ in_scope x.line row ∷ x.entered → moves_left p k y < moves_left p k x
enters_lower p k x l row y at s i e =
    let behind : x.line < x.line + 1 = omega arith in
    let less = line_less p k x.line (x.line + 1) l at behind in
    run_lower p k x (x.line + 1) (in_scope x.line row ∷ x.entered) y (omega (arith, less, weighs p (x.line + 1))) s i e

-- ---- moves

-- calls of a line
calls_fall : (p : Program) (k : ℕ) (x : Config) (i : Instruction) (group : List Told) (a : Answer) (y : Config) → IsAt p k x i
    → LineCalls p k x i group a → After p k x i a y → FallsBy p k x group y ⊎ LooksAgainAt p k x group y
calls_fall p k x i group a y at c f = by_call i group a c refl at f
  where
    other : (i : Instruction) (group : List Told) (a : Answer) → IsAt p k x i → is_each i ≡ false
        → (i ≡ line.Select → a ≡ LooksAgain → SelectCall (clauses_at p k x) group LooksAgain) → After p k x i a y → FallsBy p k x group y
        ⊎ LooksAgainAt p k x group y
    other i group a at n call f =
        ⊎_elim
        (λ (less : moves_left p k y < moves_left p k x). inl (fewer p k x group y less))
        (λ (again : (i ≡ line.Select) × (a ≡ LooksAgain) × (y ≡ x)).
        inr (record {
          at = record { stage = at.stage; line_is = at.line_is ∙ ap (λ l. Some l) again.0 };
          call = call again.0 again.1;
          same =
              again.2;
        }))
        (call_lower p k x i a y at.stage at.line_is n f)

    by_call : (i : Instruction) (group : List Told) (a : Answer) → LineCalls p k x i group a → x ≡ x → IsAt p k x i → After p k x i a y
        → FallsBy p k x group y ⊎ LooksAgainAt p k x group y
    by_call _ _ _ (LineCalls.send c o group a call) e at f = other _ group a at refl (λ q r. cc) f
    by_call _ _ _ (LineCalls.receive c group a call) e at f = other _ group a at refl (λ q r. cc) f
    by_call _ _ _ (LineCalls.each c group a call) e at f =
        inl (each_paid p k x c group a y _ at.stage at.line_is (λ r. plain_receipt (receives c) c group a call refl r) refl f)
    by_call _ _ _ (LineCalls.trysend c o group a call) e at f = other _ group a at refl (λ q r. cc) f
    by_call _ _ _ (LineCalls.tryreceive c group a call) e at f = other _ group a at refl (λ q r. cc) f
    by_call _ _ _ (LineCalls.select group a call) e at f =
        other _ group a at refl (λ q r. subst (SelectCall (clauses_at p k x) group) r call) f
    by_call _ _ _ (LineCalls.join job row group a n call) e at f = other _ _ a at refl (λ q r. cc) f
    by_call _ _ _ (LineCalls.await job row group a n call) e at f = other _ group a at refl (λ q r. cc) f

-- each move leaves fewer moves, but for elements that were received, and a select that looks again
pub move_falls : (p : Program) (k : ℕ) (x : Config) (group : List Told) (y : Config) → IsProgram p → Fits p k x → Move p k x group y
    → FallsBy p k x group y ⊎ LooksAgainAt p k x group y
move_falls p k _ told y ok h (Move.runs x s) = inl (fewer p k x told y (stage_lower p k x Fresh Running s (omega arith) (omega arith)))
move_falls p k _ told y ok h (Move.never_runs x s) = inl
    (fewer p k x told y (stage_lower p k x Fresh (Unwinding None) s (omega arith) (omega arith)))
move_falls p k _ told _ ok h (Move.calls x y i group a at c f) = calls_fall p k x i group a y at c f
move_falls p k _ told _ ok h (Move.resumes x y w i outcome a s at m f) =
    inl (fewer p k x told y (resumed_lower p k x w i outcome a y s at m f))
move_falls p k _ told y ok h (Move.cancelled x w s) = inl
    (fewer p k x told y (stage_lower p k x (Waiting w) (Unwinding None) s (omega arith) (omega arith)))
move_falls p k _ told y ok h (Move.gives_up x w group s g) =
    inl (fewer p k x told y (stage_lower p k x (Waiting w) (Unwinding None) s (omega arith) (omega arith)))
move_falls p k _ told _ ok h (Move.sees_job x y job row end s at n f) = inl (fewer p k x told y (await_lower p k x job end y s at f))
move_falls p k _ told y ok h (Move.closes x c group at g) = inl (fewer p k x told y (next_lower p k x _ y at.line_is refl refl refl))
move_falls p k _ told y ok h (Move.cancels_channel x c group at g) =
    inl (fewer p k x told y (next_lower p k x _ y at.line_is refl refl refl))
move_falls p k _ told y ok h (Move.yields x at) = inl (fewer p k x told y (next_lower p k x _ y at.line_is refl refl refl))
move_falls p k _ told y ok h (Move.stops_at_yield x at) =
    inl (fewer p k x told y (stage_lower p k x Running (Unwinding None) at.stage (omega arith) (omega arith)))
move_falls p k _ told y ok h (Move.stops_at_join x job at) =
    inl (fewer p k x told y (stage_lower p k x Running (Unwinding None) at.stage (omega arith) (omega arith)))
move_falls p k _ told y ok h (Move.launches x block how job now at) =
    inl (fewer p k x told y (next_lower p k x _ y at.line_is refl refl refl))
move_falls p k _ told y ok h (Move.launch_refused x block how job group at g) =
    inl (fewer p k x told y (stage_lower p k x Running (Unwinding (Some k)) at.stage (omega arith) (omega arith)))
move_falls p k _ told y ok h (Move.enters x supervisor row now at) =
    inl (fewer p k x told y (enters_lower p k x _ row y at.line_is refl refl refl))
move_falls p k _ told y ok h (Move.enter_refused x supervisor group at g) =
    inl (fewer p k x told y (stage_lower p k x Running (Unwinding (Some k)) at.stage (omega arith) (omega arith)))
move_falls p k _ told y ok h (Move.starts x job row group at n g) =
    inl (fewer p k x told y (next_lower p k x _ y at.line_is refl refl refl))
move_falls p k _ told y ok h (Move.cancels x job row newly group at n g) =
    inl (fewer p k x told y (next_lower p k x _ y at.line_is refl refl refl))
move_falls p k _ told y ok h (Move.fails x v at) = inl (fewer p k x told y
    (stage_lower p k x Running (Unwinding (Some k)) at.stage (omega arith) (omega arith)))
move_falls p k _ told y ok h (Move.results x o at) = inl (fewer p k x told y (next_lower p k x _ y at.line_is refl refl refl))
move_falls p k _ told y ok h (Move.repeats x n at) = inl (fewer p k x told y (repeat_lower p k x n y ok at refl refl refl))
move_falls p k _ told y ok h (Move.turns_again x head n es at e) = inl (fewer p k x told y (again_lower p k x head n es y e refl refl refl))
move_falls p k _ told y ok h (Move.turns_no_more x head es at e) = inl (fewer p k x told y (on_lower p k x _ es y at e refl refl refl))
move_falls p k _ told y ok h (Move.receives_again x head es at e) = inl (fewer p k x told y (head_lower p k x head es y e refl refl refl))
move_falls p k _ told _ ok h (Move.ends_scope x y s end group all a at e b c f j) =
    inl (fewer p k x told y (scope_end_lower p k x s Running a y at.stage (omega arith) (ap scope_in e) f))
move_falls p k _ told y ok h (Move.scope_ended x w n v s) =
    inl (fewer p k x told y (stage_lower p k x (Leaving w) SeesScope s (omega arith) (omega arith)))
move_falls p k _ told _ ok h (Move.sees_scope x y s end t e f) = inl (fewer p k x told y (after_scope_lower p k x s end y ok h e f))
move_falls p k _ told _ ok h (Move.breaks_scope x y s failure break group all a t e b c f j) =
    inl (fewer p k x told y (scope_end_lower p k x s (Unwinding failure) a y t (omega arith) e f))
move_falls p k _ told y ok h (Move.breaks x failure group t e b) =
    inl (fewer p k x told y (stage_lower p k x (Unwinding failure) Ended t (omega arith) (omega arith)))
move_falls p k _ told y ok h (Move.ends x group t e b) =
    inl (fewer p k x told y (stage_lower p k x Running Ended t (omega arith) (omega arith)))

-- ---- turns

-- a select that looks again is at its line
again_runs : {A : Type 0} (p : Program) (k : ℕ) (x : Config) (told : List Told) (y : Config) (s : Stage) → LooksAgainAt p k x told y
    → x.stage ≡ s → (s ≡ Running → ⊥) → A
again_runs p k x told y s h e n = absurd (n (sym e ∙ h.at.stage))

falls_then : (p : Program) (k : ℕ) (x y z : Config) (group more all : List Told) → all ≡ group ++ more → FallsBy p k x group y
    → FallsBy p k y more z → FallsBy p k x all z
falls_then p k x y z group more all e f g =
    let sum : receipts all ≡ receipts group + receipts more = ap receipts e ∙ receipts-append group more in
    summed (most_moves p) (receipts group) (receipts more) (receipts all) (moves_left p k x) (moves_left p k y) (moves_left p k z) sum f g
  where
    summed : (m r s t a b c : ℕ) → t ≡ r + s → b < a + m * r → c < b + m * s → c < a + m * t
    summed m r s t a b c e f g = let product : m * t ≡ m * r + m * s = ap (λ n. m * n) e ∙ mul_sum m r s in omega (arith, product, f, g)
      where
        mul_sum : (m r s : ℕ) → m * (r + s) ≡ m * r + m * s
        mul_sum m r s = omega arith

pub once_falls : (p : Program) (k : ℕ) (x : Config) (told : List Told) (y : Config) → IsProgram p → Fits p k x → MovesOnce p k x told y
    → FallsBy p k x told y ⊎ LooksAgainAt p k x told y
once_falls p k _ _ _ ok h (MovesOnce.once x y group m) = move_falls p k x group y ok h m
once_falls p k _ told _ ok h (MovesOnce.first x y z group more all s m t n e) =
    ⊎_elim
    (λ (f : FallsBy p k x group y).
    ⊎_elim
    (λ (g : FallsBy p k y more z). inl (falls_then p k x y z group more all e f g))
    (λ (again : LooksAgainAt p k y more z). inl (looked again f))
    (once_falls p k y more z ok (move_fits p k x group y h m) n))
    (λ (again : LooksAgainAt p k x group y). again_runs p k x group y Fresh again s (λ q. cc))
    (move_falls p k x group y ok h m)
  where
    looked : LooksAgainAt p k y more z → FallsBy p k x group y → FallsBy p k x all z
    looked again f =
        let sum : receipts all ≡ receipts group + receipts more = ap receipts e ∙ receipts-append group more in
        let same : moves_left p k z ≡ moves_left p k y = ap (moves_left p k) again.same in
        summed (most_moves p) (receipts group) (receipts more) (receipts all) (moves_left p k x) (moves_left p k y) (moves_left p k z) sum f
        same
      where
        summed : (m r s t a b c : ℕ) → t ≡ r + s → b < a + m * r → c ≡ b → c < a + m * t
        summed m r s t a b c e f g = let product : m * t ≡ m * r + m * s = ap (λ n. m * n) e ∙ mul_sum m r s in omega (arith, product, f, g)
          where
            mul_sum : (m r s : ℕ) → m * (r + s) ≡ m * r + m * s
            mul_sum m r s = omega arith
once_falls p k _ told _ ok h (MovesOnce.then_sees x y z group more all m s n e) =
    ⊎_elim
    (λ (f : FallsBy p k x group y).
    ⊎_elim
    (λ (g : FallsBy p k y more z). inl (falls_then p k x y z group more all e f g))
    (λ (again : LooksAgainAt p k y more z). let both_ways : false ≡ true = sym (ap is_seeing again.at.stage) ∙ s
    in absurd (let no_way : ⊥ = cc in no_way))
    (move_falls p k y more z ok (move_fits p k x group y h m) n))
    (λ (again : LooksAgainAt p k x group y). let both_ways : false ≡ true = sym (ap is_seeing again.at.stage)
    ∙ sym (ap (λ (q : Config). is_seeing q.stage) again.same) ∙ s in absurd (let no_way : ⊥ = cc in no_way))
    (move_falls p k x group y ok h m)
