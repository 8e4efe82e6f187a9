-- How the wait of a coroutine ends: as its line allows.
use Rattle.std.specs.Prelude.{◌+◌, get_or, replicate, length, is_some, zero, suc}
use Rattle.std.proofs.Common.{◌≡◌, ℕ, Bool, true, false, List, ◌∷◌, ◌++◌, refl, ap, sym, ◌∙◌, subst, ⊎_elim, Option, Some, None}
use Rattle.std.proofs.lemmas.List.{get_or-append-add, length-map}
use Rattle.co_base.specs.declared.names.WaitId.{WaitId}
use Rattle.channel_model.specs.declared.acts.Kind.{Kind}
use Rattle.channel_model.specs.declared.acts.Kind.TheVariants.{Signal}
use Rattle.channel_model.specs.declared.acts.Act.{Act}
use Rattle.channel_model.specs.declared.acts.ChannelNote.TheVariants as of_channel
use Rattle.channel_model.specs.declared.acts.Entry.{Entry}
use Rattle.channel_model.specs.declared.acts.Settled.{Settled}
use Rattle.channel_model.specs.declared.acts.Settled.TheVariants as settled
use Rattle.channel_model.specs.Channels.{Shape, kind_at, is_signal}
use Rattle.channel_model.specs.Answers.{outcome_at}
use Rattle.channel_model.specs.Histories.{replay, acts_of, Legal}
use Rattle.channel_model.specs.ClauseSides.{EndsAtClause}
use Rattle.channel_model.proofs.ResolvedAtClauses.{begun_at_clause, ends_at_clause}
use Rattle.job_model.specs.Done.{done_channel}
use Rattle.note_book.specs.declared.book.Item.TheVariants as item
use Rattle.note_book.specs.Items.{channel_acts_in}
use Rattle.note_book.proofs.Appended.{channel_acts_in-append}
use Rattle.call_meaning.specs.Telling.{Told, items_in, made}
use Rattle.call_meaning.specs.ChannelCalls.{Done, Got, Closed}
use Rattle.script_grammar.specs.declared.instructions.Instruction.{Instruction}
use Rattle.script_grammar.specs.declared.instructions.Instruction.TheVariants as line
use Rattle.script_grammar.specs.Programs.{Program, Declared, shape_of}
use Rattle.script_grammar.specs.Blocks.{opens_lines}
use Rattle.script_grammar.specs.Nesting.{closing_of}
use Rattle.script_grammar.specs.Tags.{code_of, job_count}
use Rattle.script_meaning.specs.declared.stage.Stage.TheVariants.{Waiting, Leaving}
use Rattle.script_meaning.specs.Shapes.{floor_shape, base_of}
use Rattle.script_meaning.specs.Configs.{Config, LineIs, received}
use Rattle.script_meaning.specs.Lines.{After, Resumed}
use Rattle.script_meaning.specs.Books.{Reaches}
use Rattle.script_meaning.specs.Laws.{wait_of}
use Rattle.script_meaning.specs.WaitEnds.{ClauseOf, ScopeClause, past, after_wait, after_value, after_sent, after_closed, WaitEnds}
use Rattle.script_meaning.proofs.BooksGoOn.{items_in-append}
use Rattle.script_meaning.proofs.WaitsPlaced.{Placing, acts_allowed, resumed_none, reach_places, reach_leaves}
use Rattle.script_grammar.proofs.Layouts.{some_block}

-- ---- done channels

signals_only : (n c : ℕ) → is_signal (get_or (replicate {A = Kind × ℕ} n (Signal, 1)) c (Signal, 0)).0 ≡ true
signals_only zero c = refl
signals_only (suc n) zero = refl
signals_only (suc n) (suc c) = signals_only n c

done_is_signal : (p : Program) (row : ℕ) → is_signal (kind_at (floor_shape p) (done_channel (base_of p) row)) ≡ true
done_is_signal p row =
    let at : length (shape_of p) ≡ base_of p = length-map p.channels (λ (d : Declared). (d.kind, d.places)) in
    ap (λ (e : Kind × ℕ). is_signal e.0) (get_or-append-at (shape_of p) (replicate (job_count p) (Signal, 1)) (base_of p) row at)
    ∙ signals_only (job_count p) row
  where
    get_or-append-at : (xs ys : Shape) (n row : ℕ) → length xs ≡ n → get_or (xs ++ ys) (n + row) (Signal, 0) ≡ get_or ys row (Signal, 0)
    get_or-append-at xs ys n row e = subst (λ m. get_or (xs ++ ys) (m + row) (Signal, 0) ≡ get_or ys row (Signal, 0)) e
        (get_or-append-add xs ys row (Signal, 0))

-- ---- how a wait is seen to end

-- the acts of what was told round one that was made
acts_round : (before behind : List Told) (act : Act) → channel_acts_in (items_in (before ++ made act ∷ behind)) ≡
    channel_acts_in (items_in before) ++ act ∷ channel_acts_in (items_in behind)
unfolding items_in
acts_round before behind act = ap channel_acts_in (items_in-append before (made act ∷ behind))
    ∙ channel_acts_in-append (items_in before) (item.Channel (of_channel.Made act) ∷ items_in behind)

-- a wait that was told to begin ends at one of the clauses that it was told to have
ends_as_placed : (shape : Shape) (IsClause : Bool → ℕ → ℕ
    → Type 0) (k : ℕ) (w : WaitId) (told : List Told) (now : List Entry) (outcome : Settled) → Placing IsClause w told → Legal shape now
    → acts_of k now ≡ channel_acts_in (items_in told) → outcome_at false ((replay now).waits w) ≡ Some outcome
    → EndsAtClause shape IsClause ⊥ outcome
unfolding items_in
ends_as_placed shape IsClause k w told now outcome h l acts e =
    ends_at_clause shape IsClause ⊥ ((replay now).waits w) outcome
    (begun_at_clause shape IsClause ⊥ k w now (channel_acts_in (items_in h.before)) h.first (channel_acts_in (items_in h.behind)) l
    (acts ∙ ap (λ t. channel_acts_in (items_in t)) h.is ∙ acts_round h.before h.behind h.first) h.begins
    (acts_allowed IsClause w (made h.first ∷ h.behind) h.allowed))
    e

-- ---- at a line

contrary : {A : Type 0} (b : Bool) → b ≡ true → b ≡ false → A
contrary true p q = absurd (let u : ⊥ = cc in u)
contrary false p q = absurd (let u : ⊥ = cc in u)

module _ (p : Program) (k : ℕ) (x : Config) where
  abbrev IsClosed : Instruction → Type 0
  IsClosed i = opens_lines i ≡ true → is_some (closing_of (code_of p k) x.line) ≡ true

  by_value : (i : Instruction) (n c v : ℕ) → IsClosed i → is_signal (kind_at (floor_shape p) c) ≡ false → ClauseOf p k x i false n c
      → After p k x i (Got v) (after_value p k x v i)
  by_value _ _ _ v o s (ClauseOf.receive c) = After.got c v
  by_value _ _ _ v o s (ClauseOf.each c) = After.got_one_more c v
  by_value _ _ _ v o s (ClauseOf.join job row n) = contrary _ (done_is_signal p row) s
  by_value _ _ _ v o s (ClauseOf.await job row n) = contrary _ (done_is_signal p row) s
  by_value _ _ _ v o s (ClauseOf.select_receive n c h) =
      let e = some_block (closing_of (code_of p k) x.line) (o refl) in
      subst (λ m. After p k x line.Select (Got v) (past m (received v x))) (sym e.1) (After.chose_got e.0 v e.1)

  by_sent : (i : Instruction) (n c : ℕ) → IsClosed i → ClauseOf p k x i true n c → After p k x i Done (after_sent p k x i)
  by_sent _ _ _ o (ClauseOf.send c operand) = After.sent c operand
  by_sent _ _ _ o (ClauseOf.select_send n c v h) =
      let e = some_block (closing_of (code_of p k) x.line) (o refl) in
      subst (λ m. After p k x line.Select Done (past m x)) (sym e.1) (After.chose_send e.0 e.1)

  by_closed : (i : Instruction) (n c v : ℕ) → IsClosed i → ClauseOf p k x i false n c → After p k x i (Closed v) (after_closed p k x i)
  by_closed _ _ _ v o (ClauseOf.receive c) = After.no_more c v
  by_closed _ _ _ v o (ClauseOf.each c) =
      let e = some_block (closing_of (code_of p k) x.line) (o refl) in
      subst (λ m. After p k x (line.Each c) (Closed v) (past m x)) (sym e.1) (After.got_all c v e.0 e.1)
  by_closed _ _ _ v o (ClauseOf.join job row n) = After.joined job v
  by_closed _ _ _ v o (ClauseOf.await job row n) = After.awaited job v
  by_closed _ _ _ v o (ClauseOf.select_receive n c h) =
      let e = some_block (closing_of (code_of p k) x.line) (o refl) in
      subst (λ m. After p k x line.Select (Closed v) (past m x)) (sym e.1) (After.chose_closed e.0 v e.1)

  ends_by_line : (i : Instruction) (outcome : Settled) → IsClosed i → EndsAtClause (floor_shape p) (ClauseOf p k x i) ⊥ outcome
      → WaitEnds p k x i outcome
  ends_by_line i (settled.Value n v) o h = WaitEnds.answered (settled.Value n v) (Got v) (Resumed.value n v) (by_value i n h.0 v o h.2 h.1)
  ends_by_line i (settled.Sent n) o h = WaitEnds.answered (settled.Sent n) Done (Resumed.sent n) (by_sent i n h.0 o h.1)
  ends_by_line i (settled.Closed n v) o h = WaitEnds.answered (settled.Closed n v) (Closed v) (Resumed.closed n v)
      (by_closed i n h.0 v o h.1)
  ends_by_line i settled.Cancelled o h = WaitEnds.taken_back
  ends_by_line i (settled.Undelivered v) o h = absurd h

same_some : (i j : Instruction) (o : Option Instruction) → o ≡ Some i → o ≡ Some j → i ≡ j
same_some i j o e f = let k : Some i ≡ Some j = sym e ∙ f in cc

-- the wait ends with an answer of the line at which x is, or it was taken back
pub wait_ends : (p : Program) (k : ℕ) (told : List Told) (x : Config) (w : WaitId) (i : Instruction) (now : List Entry) (outcome : Settled)
    → Reaches p k told x → x.stage ≡ Waiting w → LineIs p k x i → (opens_lines i ≡ true → is_some (closing_of (code_of p k) x.line) ≡ true)
    → Legal (floor_shape p) now → acts_of k now ≡ channel_acts_in (items_in told) → outcome_at false ((replay now).waits w) ≡ Some outcome
    → WaitEnds p k x i outcome
wait_ends p k told x w i now outcome r s at closed l acts e =
    let h = reach_places p k told x w r s in
    let placing = subst (λ j. Placing (ClauseOf p k x j) w told) (same_some h.line i _ h.is at) h.placing in
    ends_by_line p k x i outcome closed (ends_as_placed (floor_shape p) (ClauseOf p k x i) k w told now outcome placing l acts e)

-- behind it there is no wait
pub after_wait_none : (p : Program) (k : ℕ) (x : Config) (i : Instruction) (outcome : Settled) → WaitEnds p k x i outcome
    → wait_of (after_wait p k x i outcome).stage ≡ None
after_wait_none p k x i _ (WaitEnds.answered outcome a r f) = resumed_none p k x i outcome a (after_wait p k x i outcome) r f
after_wait_none p k x i _ WaitEnds.taken_back = refl

-- ---- at the end of a scope

scope_ends : (p : Program) (x : Config) (outcome : Settled) → EndsAtClause (floor_shape p) (ScopeClause p x) ⊥ outcome → (v : ℕ)
    × (outcome ≡ settled.Closed 0 v)
scope_ends p x (settled.Value n v) h = by_clause n h.0 h.1 h.2
  where
    by_clause : {A : Type 0} (n c : ℕ) → ScopeClause p x false n c → is_signal (kind_at (floor_shape p) c) ≡ false → A
    by_clause _ _ (ScopeClause.receive s i) f = contrary _ (done_is_signal p s.row) f
scope_ends p x (settled.Sent n) h = by_clause true n h.0 h.1 refl
  where
    by_clause : {A : Type 0} (side : Bool) (n c : ℕ) → ScopeClause p x side n c → side ≡ true → A
    by_clause _ _ _ (ScopeClause.receive s i) f = absurd (let u : ⊥ = cc in u)
scope_ends p x (settled.Closed n v) h = (v, ap (λ m. settled.Closed m v) (by_clause false n h.0 h.1))
  where
    by_clause : (side : Bool) (n c : ℕ) → ScopeClause p x side n c → n ≡ 0
    by_clause _ _ _ (ScopeClause.receive s i) = refl
scope_ends p x settled.Cancelled h = ⊎_elim (λ u. absurd u) (λ u. by_clause true u.0 u.1 u.2 refl) h
  where
    by_clause : {A : Type 0} (side : Bool) (n c : ℕ) → ScopeClause p x side n c → side ≡ true → A
    by_clause _ _ _ (ScopeClause.receive s i) f = absurd (let u : ⊥ = cc in u)
scope_ends p x (settled.Undelivered v) h = absurd h

-- the wait ends as the done channel was closed
pub scope_wait_ends : (p : Program) (k : ℕ) (told : List Told) (x : Config) (w : WaitId) (now : List Entry) (outcome : Settled)
    → Reaches p k told x → x.stage ≡ Leaving w
    → Legal (floor_shape p) now → acts_of k now ≡ channel_acts_in (items_in told) → outcome_at false ((replay now).waits w) ≡ Some outcome
    → (v : ℕ) × (outcome ≡ settled.Closed 0 v)
scope_wait_ends p k told x w now outcome r s l acts e =
    scope_ends p x outcome (ends_as_placed (floor_shape p) (ScopeClause p x) k w told now outcome (reach_leaves p k told x w r s) l acts e)
