-- Which moves ask for a place of a done channel, and what is told there.
use Rattle.std.specs.Prelude.{◌≡◌, ℕ, ◌+◌, ◌≤◌, ◌==◌, nat_le, ◌⊎◌, Bool, true, false, ◌||◌, ◌&&◌, List, [], ◌∷◌, ◌++◌, length, drop, Option, Some, slice_get, refl}
use Rattle.std.specs.List.{list_any}
use Rattle.std.proofs.Common.{ap, ◌∙◌, inl, inr, arith}
use Rattle.std.proofs.lemmas.Bool.{and_parts, or_from, or_parts}
use Rattle.std.proofs.lemmas.Bool.Decides.{nat_tests}
use Rattle.std.proofs.lemmas.List.Folds.{list_any-append}
use Rattle.channel_model.specs.declared.acts.Act.{Act}
use Rattle.channel_model.specs.declared.acts.Act.TheVariants.{Hand, Put, Offer, Await, Settle}
use Rattle.channel_model.specs.declared.acts.Settled.TheVariants as settled
use Rattle.channel_model.specs.declared.acts.ChannelNote.TheVariants as of_channel
use Rattle.job_model.specs.declared.acts.JobAct.{JobAct}
use Rattle.job_model.specs.declared.acts.JobAct.TheVariants.{Attach}
use Rattle.job_model.specs.Acts.{attaches}
use Rattle.job_model.specs.Done.{done_channel}
use Rattle.note_book.specs.declared.book.Item.{Item}
use Rattle.note_book.specs.declared.book.Item.TheVariants as item
use Rattle.note_book.specs.Items.{job_acts_in, channel_acts_in}
use Rattle.note_book.proofs.Appended.{job_acts_in-append, channel_acts_in-append}
use Rattle.call_meaning.specs.Telling.{Told, on_jobs, MayRun, items_in}
use Rattle.call_meaning.specs.ChannelCalls.{receives, Answer, PlainCall}
use Rattle.script_grammar.specs.declared.instructions.Instruction.{Instruction}
use Rattle.script_grammar.specs.declared.instructions.Instruction.TheVariants as line
use Rattle.script_grammar.specs.Programs.{Program}
use Rattle.script_grammar.specs.WellFormed.{IsProgram}
use Rattle.script_grammar.specs.Declarations.{names_channel}
use Rattle.script_grammar.specs.Tags.{code_of}
use Rattle.script_grammar.proofs.Layouts.{test_at, channels_known}
use Rattle.script_meaning.specs.declared.stage.Stage.TheVariants.{Running, Unwinding}
use Rattle.script_meaning.specs.Shapes.{base_of}
use Rattle.script_meaning.specs.Configs.{Config, InScope, scope_in, innermost, IsAt, Names}
use Rattle.script_meaning.specs.Lines.{LineCalls, StartsAndReceives, After, AtScopeEnd}
use Rattle.script_meaning.specs.Moves.{Move}
use Rattle.script_meaning.proofs.BooksGoOn.{items_in-append}
use Rattle.script_meaning.proofs.TagsGiven.{launches_row}
use Rattle.script_laws.proofs.ClosedChannels.{or_more}
use Rattle.script_laws.proofs.RowsEntered.{enters_row}
use Rattle.script_laws.proofs.DoneAsked.{gives_place, item_asks, asks_in, plain_none, try_none, select_none, closes_none, cancels_channel_none, gives_up_none, starts_none, refusal_none, passes_none, ends_none, breaks_off_none, below_low, clauses_low, all_drop}

-- ---- what is told

-- a place of this channel was given
abbrev pub places_on : ℕ → Act → Bool
places_on c (Hand d q v) = d == c
places_on c (Put d q v) = d == c
places_on c (Offer d q v w n) = d == c
places_on c (Await d q w n) = d == c
places_on c other = false

-- a wait that has its name from this channel ended as closed
abbrev pub ends_closed : ℕ → Act → Bool
ends_closed c (Settle w (settled.Closed n v)) = w.channel == c
ends_closed c other = false

abbrev pub placed_in : ℕ → List Told → Bool
placed_in c told = list_any (places_on c) (channel_acts_in (items_in told))

abbrev pub closed_in : ℕ → List Told → Bool
closed_in c told = list_any (ends_closed c) (channel_acts_in (items_in told))

abbrev pub entered_in : ℕ → List Told → Bool
entered_in row told = list_any (enters_row row) (job_acts_in (items_in told))

abbrev pub attached_in : ℕ → List Told → Bool
attached_in row told = list_any (attaches row) (job_acts_in (items_in told))

pub placed_then : (c : ℕ) (xs ys : List Told) → placed_in c (xs ++ ys) ≡ (placed_in c xs || placed_in c ys)
placed_then c xs ys =
    ap (λ l. list_any (places_on c) (channel_acts_in l)) (items_in-append xs ys)
    ∙ ap (list_any (places_on c)) (channel_acts_in-append (items_in xs) (items_in ys))
    ∙ list_any-append (places_on c) (channel_acts_in (items_in xs)) (channel_acts_in (items_in ys))

pub closed_then : (c : ℕ) (xs ys : List Told) → closed_in c (xs ++ ys) ≡ (closed_in c xs || closed_in c ys)
closed_then c xs ys =
    ap (λ l. list_any (ends_closed c) (channel_acts_in l)) (items_in-append xs ys)
    ∙ ap (list_any (ends_closed c)) (channel_acts_in-append (items_in xs) (items_in ys))
    ∙ list_any-append (ends_closed c) (channel_acts_in (items_in xs)) (channel_acts_in (items_in ys))

pub entered_then : (r : ℕ) (xs ys : List Told) → entered_in r (xs ++ ys) ≡ (entered_in r xs || entered_in r ys)
entered_then r xs ys =
    ap (λ l. list_any (enters_row r) (job_acts_in l)) (items_in-append xs ys)
    ∙ ap (list_any (enters_row r)) (job_acts_in-append (items_in xs) (items_in ys))
    ∙ list_any-append (enters_row r) (job_acts_in (items_in xs)) (job_acts_in (items_in ys))

pub attached_then : (r : ℕ) (xs ys : List Told) → attached_in r (xs ++ ys) ≡ (attached_in r xs || attached_in r ys)
attached_then r xs ys =
    ap (λ l. list_any (attaches r) (job_acts_in l)) (items_in-append xs ys)
    ∙ ap (list_any (attaches r)) (job_acts_in-append (items_in xs) (items_in ys))
    ∙ list_any-append (attaches r) (job_acts_in (items_in xs)) (job_acts_in (items_in ys))

-- where some act passes a test, some act passes one that it implies
any_more : (f g : JobAct → Bool) → ((act : JobAct) → f act ≡ true → g act ≡ true) → (acts : List JobAct) → list_any f acts ≡ true
    → list_any g acts ≡ true
any_more f g k [] e = cc
any_more f g k (act ∷ acts) e = or_more _ _ _ _ e (k act) (any_more f g k acts)

pub launched_attached : (r : ℕ) (acts : List JobAct) → list_any (launches_row r) acts ≡ true → list_any (attaches r) acts ≡ true
launched_attached r = any_more (launches_row r) (attaches r) one
  where
    one : (act : JobAct) → launches_row r act ≡ true → attaches r act ≡ true
    one (Attach p q kind tag cancelled) e = (and_parts (r == q) _ e).0
    one other e = cc

pub entered_attached : (r : ℕ) (acts : List JobAct) → list_any (enters_row r) acts ≡ true → list_any (attaches r) acts ≡ true
entered_attached r = any_more (enters_row r) (attaches r) one
  where
    one : (act : JobAct) → enters_row r act ≡ true → attaches r act ≡ true
    one (Attach p q kind tag cancelled) e = (and_parts (r == q) _ e).0
    one other e = cc

-- a place of a done channel is one that is asked for
act_place : (base c : ℕ) (act : Act) → base ≤ c → gives_place base act ≡ false → places_on c act ≡ false
act_place base c (Hand d q v) le e = other base c d le e
  where
    other : (base c d : ℕ) → base ≤ c → nat_le base d ≡ false → (d == c) ≡ false
    other base c d le e = grind (arith, nat_tests)
act_place base c (Put d q v) le e = grind (arith, nat_tests)
act_place base c (Offer d q v w n) le e = grind (arith, nat_tests)
act_place base c (Await d q w n) le e = grind (arith, nat_tests)
act_place base c other le e = refl

pub not_asked : (base c : ℕ) (items : List Item) → base ≤ c → list_any (item_asks base) items ≡ false
    → list_any (places_on c) (channel_acts_in items) ≡ false
not_asked base c [] le e = refl
not_asked base c (item.Channel (of_channel.Made act) ∷ items) le e =
    let two = or_parts (gives_place base act) (list_any (item_asks base) items) e in
    or_from (places_on c act) (list_any (places_on c) (channel_acts_in items)) (act_place base c act le two.0)
    (not_asked base c items le two.1)
not_asked base c (item.Channel (of_channel.Spent d) ∷ items) le e =
    not_asked base c items le (or_parts (nat_le base d) (list_any (item_asks base) items) e).1
not_asked base c (other ∷ items) le e = not_asked base c items le e

-- ---- which moves ask

abbrev pub is_join : Instruction → Bool
is_join (line.Join job) = true
is_join (line.Await job) = true
is_join other = false

-- a receive on the done channel of this row, with this answer, leads from x to y: at a join or an await, or out of a scope
pub data Receives (p : Program) (k : ℕ) (x : Config) (row : ℕ) (a : Answer) (y : Config) : Type 0 where
  at_line : (i : Instruction) (job : ℕ) → IsAt p k x i → is_join i ≡ true → Names x job row → After p k x i a y → Receives p k x row a y
  at_end : (s : InScope) → row ≡ s.row → scope_in x.entered ≡ Some s → AtScopeEnd k x s a y → (x.stage ≡ Running)
      ⊎ ((failure : Option ℕ) × (x.stage ≡ Unwinding failure)) → Receives p k x row a y

pub data MoveAsks (p : Program) (k : ℕ) (x : Config) (group : List Told) (y : Config) : Type 0 where
  none : asks_in (base_of p) group ≡ false → MoveAsks p k x group y
  asks : (row : ℕ) (first call : List Told) (a : Answer) → asks_in (base_of p) first ≡ false → group ≡ first ++ call
      → PlainCall (receives (done_channel (base_of p) row)) call a → Receives p k x row a y
      → MoveAsks p k x group y

-- a line names a declared channel
pub declared : (p : Program) (k i : ℕ) (l : Instruction) → IsProgram p → slice_get (code_of p k) i ≡ Some l
    → names_channel (length p.channels) l ≡ true
declared p k i l ok at = test_at (names_channel (length p.channels)) (code_of p k) i l (channels_known p k ok) at

line_asks : (p : Program) (k : ℕ) (x : Config) (i : Instruction) (group : List Told) (a : Answer) (y : Config) → IsProgram p → IsAt p k x i
    → LineCalls p k x i group a → After p k x i a y → MoveAsks p k x group y
unfolding items_in
line_asks p k x _ _ _ y ok at (LineCalls.send c o g a h) f =
    MoveAsks.none (plain_none (base_of p) _ g a (below_low (base_of p) c (declared p k x.line (line.Send c o) ok at.line_is)) h)
line_asks p k x _ _ _ y ok at (LineCalls.receive c g a h) f =
    MoveAsks.none (plain_none (base_of p) _ g a (below_low (base_of p) c (declared p k x.line (line.Receive c) ok at.line_is)) h)
line_asks p k x _ _ _ y ok at (LineCalls.each c g a h) f =
    MoveAsks.none (plain_none (base_of p) _ g a (below_low (base_of p) c (declared p k x.line (line.Each c) ok at.line_is)) h)
line_asks p k x _ _ _ y ok at (LineCalls.trysend c o g a h) f =
    MoveAsks.none (try_none (base_of p) _ g a (below_low (base_of p) c (declared p k x.line (line.TrySend c o) ok at.line_is)) h)
line_asks p k x _ _ _ y ok at (LineCalls.tryreceive c g a h) f =
    MoveAsks.none (try_none (base_of p) _ g a (below_low (base_of p) c (declared p k x.line (line.TryReceive c) ok at.line_is)) h)
line_asks p k x _ _ _ y ok at (LineCalls.select g a h) f =
    MoveAsks.none (select_none (base_of p) _ g a (clauses_low x (base_of p) (drop (x.line + 1) (code_of p k))
    (all_drop (base_of p) (x.line + 1) (code_of p k) (channels_known p k ok))) h)
line_asks p k x _ _ _ y ok at (LineCalls.join job row _ _ n (StartsAndReceives.both starts call all a s c e)) f =
    MoveAsks.asks row (on_jobs (MayRun (innermost k x)) ∷ starts) call a (starts_none (base_of p) row starts s)
    (ap (λ l. on_jobs (MayRun (innermost k x)) ∷ l) e) c (Receives.at_line (line.Join job) job at refl n f)
line_asks p k x _ _ _ y ok at (LineCalls.await job row _ _ n (StartsAndReceives.both starts call all a s c e)) f =
    MoveAsks.asks row starts call a (starts_none (base_of p) row starts s) e c (Receives.at_line (line.Await job) job at refl n f)

pub move_asks : (p : Program) (k : ℕ) (x : Config) (group : List Told) (y : Config) → IsProgram p → Move p k x group y
    → MoveAsks p k x group y
unfolding items_in
move_asks p k _ _ _ ok (Move.calls x y i group a at c f) = line_asks p k x i group a y ok at c f
move_asks p k _ _ _ ok (Move.gives_up x w group s g) = MoveAsks.none (gives_up_none (base_of p) w group g)
move_asks p k _ _ _ ok (Move.closes x c group at g) = MoveAsks.none (closes_none (base_of p) c 0 group g)
move_asks p k _ _ _ ok (Move.cancels_channel x c group at g) = MoveAsks.none (cancels_channel_none (base_of p) c group g)
move_asks p k _ _ _ ok (Move.launch_refused x block how job group at g) =
    MoveAsks.none (refusal_none (base_of p) (innermost k x) false group g)
move_asks p k _ _ _ ok (Move.enter_refused x supervisor group at g) = MoveAsks.none (refusal_none (base_of p) (innermost k x) true group g)
move_asks p k _ _ _ ok (Move.starts x job row group at n g) = MoveAsks.none (starts_none (base_of p) row group g)
move_asks p k _ _ _ ok (Move.cancels x job row newly group at n g) = MoveAsks.none (passes_none (base_of p) row _ newly group g)
move_asks p k _ _ _ ok (Move.ends_scope x y s end call all a at is g c f parts) =
    MoveAsks.asks s.row end call a (ends_none (base_of p) (base_of p) s.row 0 end g) parts c
    (Receives.at_end s refl (ap scope_in is) f (inl at.stage))
move_asks p k _ _ _ ok (Move.breaks_scope x y s failure break call all a at is g c f parts) =
    MoveAsks.asks s.row break call a (breaks_off_none (base_of p) (base_of p) k s.row failure break g) parts c
    (Receives.at_end s refl is f (inr (failure, at)))
move_asks p k _ _ _ ok (Move.breaks x failure group s is g) = MoveAsks.none (breaks_off_none (base_of p) (base_of p) k k failure group g)
move_asks p k _ _ _ ok (Move.ends x group s is g) = MoveAsks.none (ends_none (base_of p) (base_of p) k x.result group g)
move_asks p k _ _ _ ok other = MoveAsks.none refl
