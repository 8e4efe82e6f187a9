-- Where a coroutine waits, its line began the wait, and gave it clauses of this line alone.
use Rattle.std.specs.Prelude.{map, ◌+◌, suc, zero, drop, slice_get}
use Rattle.std.proofs.Common.{◌≡◌, ℕ, Bool, true, false, List, [], ◌∷◌, ◌++◌, refl, ap, sym, ◌∙◌, subst, append_assoc, arith, Option, Some, None}
use Rattle.co_base.specs.declared.names.WaitId.{WaitId}
use Rattle.channel_model.specs.declared.acts.Act.{Act}
use Rattle.channel_model.specs.declared.acts.Act.TheVariants.{Offer, Await, Admit}
use Rattle.channel_model.specs.ClauseSides.{BeginsAt, Allows, AllAllowed}
use Rattle.note_book.specs.declared.book.Item.TheVariants as item
use Rattle.note_book.specs.Items.{channel_acts_in}
use Rattle.call_meaning.specs.Telling.{Told, note, on_channels, on_jobs, WasFull, items_in, made}
use Rattle.call_meaning.specs.ChannelCalls.{Call, sends, receives, Answer, Waits, LooksAgain, PlainCall, TryCall, SelectCall, Admits, AtOnce, Refused, blocked, spent, Begins as BeginsPlaces, Places, PlacesFirst, AdmitsIn, Stops, placed, wait_at, offer_told}
use Rattle.job_model.specs.Done.{done_channel}
use Rattle.script_grammar.specs.declared.instructions.Operand.{Operand}
use Rattle.script_grammar.specs.declared.instructions.Operand.TheVariants.{Number, It, Sum}
use Rattle.script_grammar.specs.declared.instructions.Instruction.{Instruction}
use Rattle.script_grammar.specs.declared.instructions.Instruction.TheVariants as line
use Rattle.script_grammar.specs.Programs.{Program}
use Rattle.script_grammar.specs.Tags.{code_of, spawned}
use Rattle.script_meaning.specs.declared.stage.Stage.{Stage}
use Rattle.script_meaning.specs.declared.stage.Stage.TheVariants.{Waiting, Leaving}
use Rattle.script_meaning.specs.Shapes.{base_of}
use Rattle.script_meaning.specs.Configs.{Config, InScope, at_stage, scope_in, operand, LineIs}
use Rattle.script_meaning.specs.Lines.{clauses_in, clauses_at, StartsAndReceives, LineCalls, After, AfterAwait, Resumed, AtScopeEnd, AfterScope}
use Rattle.script_meaning.specs.Moves.{Move}
use Rattle.script_meaning.specs.Books.{Spawns, Begins, Reaches}
use Rattle.script_meaning.specs.Laws.{wait_of}
use Rattle.script_meaning.specs.WaitEnds.{ClauseOf, ScopeClause}
use Rattle.script_meaning.proofs.ActsFollowed.{call_told, act_in_note}
use Rattle.script_meaning.proofs.ChannelStories.{act_of_note}
use Rattle.script_meaning.proofs.Payments.{act_list}

-- ---- clauses that are told

abbrev pub AllowsMaybe : (Bool → ℕ → ℕ → Type 0) → WaitId → Option Act → Type 0
AllowsMaybe IsClause w None = Unit {0}
AllowsMaybe IsClause w (Some act) = Allows IsClause ⊥ w act

-- each clause that is given to the wait is one of these, and the wait is not withdrawn
unfoldable pub IsAllowed : (Bool → ℕ → ℕ → Type 0) → WaitId → List Told → Type 0
IsAllowed IsClause w [] = Unit {0}
IsAllowed IsClause w (t ∷ ts) = AllowsMaybe IsClause w (call_told t) × IsAllowed IsClause w ts

-- the wait was begun, and was given these clauses alone
pub record Placing (IsClause : Bool → ℕ → ℕ → Type 0) (w : WaitId) (told : List Told) : Type 0 where
  pub before : List Told
  pub first : Act
  pub behind : List Told
  pub is : told ≡ before ++ made first ∷ behind
  pub begins : BeginsAt w first
  pub allowed : IsAllowed IsClause w (made first ∷ behind)

module _ (IsClause : Bool → ℕ → ℕ → Type 0) (w : WaitId) where
  allowed_then : (xs ys : List Told) → IsAllowed IsClause w xs → IsAllowed IsClause w ys → IsAllowed IsClause w (xs ++ ys)
  unfolding IsAllowed
  allowed_then [] ys h k = k
  allowed_then (x ∷ xs) ys h k = (h.0, allowed_then xs ys h.1 k)

  same : (xs ys : List Told) → xs ≡ ys → IsAllowed IsClause w ys → IsAllowed IsClause w xs
  same xs ys e h = subst (IsAllowed IsClause w) (sym e) h

  nothing : IsAllowed IsClause w []
  unfolding IsAllowed
  nothing = tt

  cons : (t : Told) (ts : List Told) → AllowsMaybe IsClause w (call_told t) → IsAllowed IsClause w ts → IsAllowed IsClause w (t ∷ ts)
  unfolding IsAllowed
  cons t ts h k = (h, k)

  one : (t : Told) → AllowsMaybe IsClause w (call_told t) → IsAllowed IsClause w (t ∷ [])
  one t h = cons t [] h nothing

  mapped : {A : Type 0} (f : A → Told) (xs : List A) → ((x : A) → AllowsMaybe IsClause w (call_told (f x)))
      → IsAllowed IsClause w (map f xs)
  mapped f [] h = nothing
  mapped f (x ∷ xs) h = cons (f x) (map f xs) (h x) (mapped f xs h)

  -- ---- groups that give it no clause

  of_admits : (c : ℕ) (g : List Told) → Admits c g → IsAllowed IsClause w g
  of_admits c g h =
      same g _ h.all (cons _ _ tt (allowed_then (map (λ q. made (Admit c q)) h.places) _ (mapped (λ q. made (Admit c q)) h.places (λ q. tt))
      (one _ tt)))

  of_admits_in : (calls : List Call) (g : List Told) → AdmitsIn calls g → IsAllowed IsClause w g
  of_admits_in _ _ AdmitsIn.none = nothing
  of_admits_in _ _ (AdmitsIn.offered c v calls admits more all a h e) =
      same all _ e (allowed_then admits more (of_admits c admits a) (of_admits_in calls more h))
  of_admits_in _ _ (AdmitsIn.awaited c calls all h) = of_admits_in calls all h

  of_refused : (call : Call) (t : Told) (a : Answer) → Refused call t a → AllowsMaybe IsClause w (call_told t)
  of_refused _ _ _ (Refused.send c v u) = tt
  of_refused _ _ _ (Refused.receive c u) = tt

  of_spent : (call : Call) → IsAllowed IsClause w (spent call)
  of_spent (sends c v) = cons _ _ tt (one _ tt)
  of_spent (receives c) = cons _ _ tt (one _ tt)

  of_stops : (call : Call) (g : List Told) (a : Answer) → Stops call g a → IsAllowed IsClause w g
  of_stops _ _ _ (Stops.closed call t a h) = one t (of_refused call t a h)
  of_stops _ _ _ (Stops.no_place call all e) = same all _ e (of_spent call)
  of_stops _ _ _ other = cons _ _ tt (one _ tt)

  -- ---- the acts

  acts_then : (act : Option Act) (acts : List Act) → AllowsMaybe IsClause w act → AllAllowed IsClause ⊥ w acts
      → AllAllowed IsClause ⊥ w (act_list act ++ acts)
  unfolding AllAllowed
  acts_then None acts h k = k
  acts_then (Some act) acts h k = (h, k)

  pub acts_allowed : (told : List Told) → IsAllowed IsClause w told → AllAllowed IsClause ⊥ w (channel_acts_in (items_in told))
  unfolding IsAllowed AllAllowed items_in
  acts_allowed [] h = tt
  acts_allowed (note (item.Channel n) ∷ told) h = subst (λ l. AllAllowed IsClause ⊥ w (l ++ channel_acts_in (items_in told)))
      (sym (act_of_note n)) (acts_then (act_in_note n) (channel_acts_in (items_in told)) h.0 (acts_allowed told h.1))
  acts_allowed (note (item.Job n) ∷ told) h = acts_allowed told h.1
  acts_allowed (on_channels fact ∷ told) h = acts_allowed told h.1
  acts_allowed (on_jobs fact ∷ told) h = acts_allowed told h.1

  -- ---- groups that begin it

  placing_behind : (first g all : List Told) → all ≡ first ++ g → Placing IsClause w g → Placing IsClause w all
  placing_behind first g all e h = record {
    before = first ++ h.before;
    first = h.first;
    behind = h.behind;
    is = e ∙ ap (λ l. first ++ l) h.is ∙ sym (append_assoc first h.before (made h.first ∷ h.behind));
    begins = h.begins;
    allowed = h.allowed;
  }

  placing_then : (g more all : List Told) → all ≡ g ++ more → IsAllowed IsClause w more → Placing IsClause w g → Placing IsClause w all
  placing_then g more all e k h = record {
    before = h.before;
    first = h.first;
    behind = h.behind ++ more;
    is = e ∙ ap (λ l. l ++ more) h.is ∙ append_assoc h.before (made h.first ∷ h.behind) more;
    begins = h.begins;
    allowed = allowed_then (made h.first ∷ h.behind) more h.allowed k;
  }

-- ---- calls

-- the clause of this number is one that the call makes
abbrev pub IsOfCall : (Bool → ℕ → ℕ → Type 0) → ℕ → Call → Type 0
IsOfCall IsClause n (sends c v) = IsClause true n c
IsOfCall IsClause n (receives c) = IsClause false n c

once_not : {A : Type 0} (call : Call) (g : List Told) (a : Answer) (w : WaitId) → AtOnce call g a → a ≡ Waits w → A
once_not _ _ _ w (AtOnce.hands c v q) e = absurd (let u : ⊥ = cc in u)
once_not _ _ _ w (AtOnce.puts c v q more d) e = absurd (let u : ⊥ = cc in u)
once_not _ _ _ w (AtOnce.takes c v q admits d) e = absurd (let u : ⊥ = cc in u)

refused_not : {A : Type 0} (call : Call) (t : Told) (a : Answer) (w : WaitId) → Refused call t a → a ≡ Waits w → A
refused_not _ _ _ w (Refused.send c v u) e = absurd (let n : ⊥ = cc in n)
refused_not _ _ _ w (Refused.receive c u) e = absurd (let n : ⊥ = cc in n)

stops_not : {A : Type 0} (call : Call) (g : List Told) (a : Answer) (w : WaitId) → Stops call g a → a ≡ Waits w → A
stops_not _ _ _ w (Stops.receiver c v q) e = absurd (let u : ⊥ = cc in u)
stops_not _ _ _ w other e = absurd (let u : ⊥ = cc in u)

module _ (IsClause : Bool → ℕ → ℕ → Type 0) where
  plain_places : (call : Call) (g : List Told) (a : Answer) (w : WaitId) → PlainCall call g a → a ≡ Waits w → IsOfCall IsClause 0 call
      → Placing IsClause w g
  plain_places _ _ _ w (PlainCall.at_once call g a h) e f = once_not call g a w h e
  plain_places _ _ _ w (PlainCall.refused call t a h) e f = refused_not call t a w h e
  plain_places _ _ _ w (PlainCall.offers c v q admits h) e f =
      let same_w : wait_at c q ≡ w = cc in
      subst (λ u. Placing IsClause u (offer_told c v q admits)) same_w
      (record {
        before = on_channels (WasFull c) ∷ [];
        first = Offer c q v (wait_at c q) 0;
        behind = admits;
        is = refl;
        begins =
            (refl, refl);
        allowed = cons IsClause (wait_at c q) _ admits (λ t. f) (of_admits IsClause (wait_at c q) c admits h);
      })
  plain_places _ _ _ w (PlainCall.awaits c q) e f =
      let same_w : wait_at c q ≡ w = cc in
      subst (λ u. Placing IsClause u (made (Await c q (wait_at c q) 0) ∷ [])) same_w
      (record {
        before = [];
        first = Await c q (wait_at c q) 0;
        behind = [];
        is = refl;
        begins = (refl, refl);
        allowed =
            one IsClause (wait_at c q) _ (λ t. f);
      })
  plain_places _ _ _ w other e f = absurd (let u : ⊥ = cc in u)

  try_not : {A : Type 0} (call : Call) (g : List Told) (a : Answer) (w : WaitId) → TryCall call g a → a ≡ Waits w → A
  try_not _ _ _ w (TryCall.at_once call g a h) e = once_not call g a w h e
  try_not _ _ _ w other e = absurd (let u : ⊥ = cc in u)

  -- ---- selects

  -- the clauses of these calls, numbered from n on
  abbrev AreClauses : ℕ → List Call → Type 0
  AreClauses n calls = (j : ℕ) (call : Call) → slice_get calls j ≡ Some call → IsOfCall IsClause (n + j) call

  placed_one : (w : WaitId) (n q : ℕ) (call : Call) → IsOfCall IsClause n call → AllowsMaybe IsClause w (call_told (placed w n q call))
  placed_one w n q (sends c v) f = λ t. f
  placed_one w n q (receives c) f = λ t. f

  rest_clauses : (n : ℕ) (call : Call) (calls : List Call) → AreClauses n (call ∷ calls) → AreClauses (n + 1) calls
  rest_clauses n call calls h j other e = subst (λ m. IsOfCall IsClause m other) (let m : n + suc j ≡ (n + 1) + j = omega arith
      in m) (h (suc j) other e)

  first_clause : (n : ℕ) (call : Call) (calls : List Call) → AreClauses n (call ∷ calls) → IsOfCall IsClause n call
  first_clause n call calls h = subst (λ m. IsOfCall IsClause m call) (let m : n + 0 ≡ n = omega arith in m) (h 0 call refl)

  of_places : (w : WaitId) (n : ℕ) (calls : List Call) (g : List Told) → Places w n calls g → AreClauses n calls → IsAllowed IsClause w g
  of_places w _ _ _ (Places.none n) h = nothing IsClause w
  of_places w _ _ _ (Places.one n q call calls more p) h =
      cons IsClause w _ more (placed_one w n q call (first_clause n call calls h))
      (of_places w (n + 1) calls more p (rest_clauses n call calls h))

  first_places : (w : WaitId) (g : List Told) → BeginsPlaces w g → IsAllowed IsClause w g → Placing IsClause w g
  first_places _ _ (BeginsPlaces.send c v q more) h = record
      { before = []; first = Offer c q v (wait_at c q) 1; behind = more; is = refl; begins = (refl, refl); allowed = h }
  first_places _ _ (BeginsPlaces.receive c q more) h = record
      { before = []; first = Await c q (wait_at c q) 1; behind = more; is = refl; begins = (refl, refl); allowed = h }

  of_first : (w : WaitId) (calls : List Call) (g : List Told) → PlacesFirst w calls g → AreClauses 1 calls → Placing IsClause w g
  of_first w calls g p h = first_places w g p.begins (of_places w 1 calls g p.places h)

  there : (before later : List Call) (j : ℕ) (call : Call) → slice_get before j ≡ Some call → slice_get (before ++ later) j ≡ Some call
  there [] later j call e = absurd (let u : ⊥ = cc in u)
  there (b ∷ before) later zero call e = e
  there (b ∷ before) later (suc j) call e = there before later j call e

  some_clauses : (calls before later : List Call) → calls ≡ before ++ later → AreClauses 1 calls → AreClauses 1 before
  some_clauses calls before later e h j call f = h j call (ap (λ l. slice_get l j) e ∙ there before later j call f)

  behind_passed : (calls : List Call) (g all : List Told) (w : WaitId) → all ≡ map blocked calls ++ g → Placing IsClause w g
      → Placing IsClause w all
  behind_passed calls g all w e h = placing_behind IsClause w (map blocked calls) g all e h

  select_places : (calls : List Call) (g : List Told) (a : Answer) (w : WaitId) → SelectCall calls g a → a ≡ Waits w → AreClauses 1 calls
      → Placing IsClause w g
  select_places calls _ _ w (SelectCall.chooses before later call group all a f h e) q k = once_not call group a w h q
  select_places calls _ _ w (SelectCall.meets_close before later call t all a f h e) q k = refused_not call t a w h q
  select_places calls _ _ w (SelectCall.no_place before later c v all f e) q k = absurd (let u : ⊥ = cc in u)
  select_places calls _ _ w (SelectCall.waits u group admits all h d e) q k =
      let same_w : u ≡ w = cc in
      subst (λ v. Placing IsClause v all) same_w (behind_passed calls (group
      ++ admits) all u e (placing_then IsClause u group admits _ refl (of_admits_in IsClause u calls admits d)
      (of_first u calls group h k)))
  select_places calls _ _ w (SelectCall.resolved u before later call group admits all f h d e) q k =
      let same_w : u ≡ w = cc in
      subst (λ v. Placing IsClause v all) same_w
      (behind_passed calls _ all u e (placing_then IsClause u group _ _ refl
      (cons IsClause u _ admits tt (of_admits_in IsClause u before admits d))
      (of_first u before group h (some_clauses calls before (call ∷ later) f k))))
  select_places calls _ _ w (SelectCall.stops_at_first later call stop all a f h e) q k = stops_not call stop a w h q
  select_places calls _ _ w (SelectCall.stops u before later call group stop admits all a f h s d e) q k = stops_not call stop a w s q
  select_places calls _ _ w (SelectCall.stops_late u before later call group stop admits all a f h s d e) q k =
      let same_w : u ≡ w = cc in
      subst (λ v. Placing IsClause v all) same_w
      (behind_passed calls _ all u e
      (placing_then IsClause u (group ++ stop) _ _ refl (cons IsClause u _ admits tt (of_admits_in IsClause u before admits d))
      (placing_then IsClause u group stop _ refl (of_stops IsClause u call stop a s)
      (of_first u before group h (some_clauses calls before _ f k)))))

  starts_places : (p : Program) (row : ℕ) (g : List Told) (a : Answer) (w : WaitId) → StartsAndReceives p row g a → a ≡ Waits w
      → IsClause false 0 (done_channel (base_of p) row) → Placing IsClause w g
  starts_places p row _ _ w (StartsAndReceives.both starts group all a s c e) q k =
      placing_behind IsClause w starts group all e (plain_places _ group a w c q k)

-- ---- lines

-- x is at another stage
clause_elsewhere : (s : Stage) (x : Config) (code : List Instruction) → clauses_in (at_stage s x) code ≡ clauses_in x code
clause_elsewhere s x [] = refl
clause_elsewhere s x (line.OnSend c o ∷ code) = ap (λ v. sends c v ∷ clauses_in (at_stage s x) code) (same_operand s x o)
    ∙ ap (λ l. sends c (operand x o) ∷ l) (clause_elsewhere s x code)
  where
    same_operand : (s : Stage) (x : Config) (o : Operand) → operand (at_stage s x) o ≡ operand x o
    same_operand s x (Number v) = refl
    same_operand s x It = refl
    same_operand s x Sum = refl
clause_elsewhere s x (line.OnReceive c ∷ code) = ap (λ l. receives c ∷ l) (clause_elsewhere s x code)
clause_elsewhere s x (line.Send c o ∷ code) = refl
clause_elsewhere s x other = refl

select_is : (p : Program) (k : ℕ) (s : Stage) (x : Config) (j : ℕ) (call : Call) → slice_get (clauses_at p k x) j ≡ Some call
    → IsOfCall (ClauseOf p k (at_stage s x) line.Select) (1 + j) call
select_is p k s x j call e = by_call call (ap (λ l. slice_get l j) (clause_elsewhere s x (drop (x.line + 1) (code_of p k))) ∙ e)
  where
    turned : 1 + j ≡ j + 1
    turned = omega arith

    by_call : (call : Call) → slice_get (clauses_at p k (at_stage s x)) j ≡ Some call
        → IsOfCall (ClauseOf p k (at_stage s x) line.Select) (1 + j) call
    by_call (sends c v) e = subst (λ m. ClauseOf p k (at_stage s x) line.Select true m c) (sym turned) (ClauseOf.select_send j c v e)
    by_call (receives c) e = subst (λ m. ClauseOf p k (at_stage s x) line.Select false m c) (sym turned) (ClauseOf.select_receive j c e)

-- the call of a line that waits, where x is at another stage afterwards
line_places : (p : Program) (k : ℕ) (s : Stage) (x : Config) (i : Instruction) (g : List Told) (a : Answer) (w : WaitId)
    → LineCalls p k x i g a → a ≡ Waits w → Placing (ClauseOf p k (at_stage s x) i) w g
line_places p k s x _ _ _ w (LineCalls.send c o g a h) e = plain_places _ _ g a w h e (ClauseOf.send c o)
line_places p k s x _ _ _ w (LineCalls.receive c g a h) e = plain_places _ _ g a w h e (ClauseOf.receive c)
line_places p k s x _ _ _ w (LineCalls.each c g a h) e = plain_places _ _ g a w h e (ClauseOf.each c)
line_places p k s x _ _ _ w (LineCalls.trysend c o g a h) e = try_not (λ side n d. Unit {0}) _ g a w h e
line_places p k s x _ _ _ w (LineCalls.tryreceive c g a h) e = try_not (λ side n d. Unit {0}) _ g a w h e
line_places p k s x _ _ _ w (LineCalls.select g a h) e =
    select_places _ (clauses_at p k x) g a w h e (λ j call f. select_is p k s x j call f)
line_places p k s x _ _ _ w (LineCalls.join job row g a n h) e =
    placing_behind _ w (_ ∷ []) g _ refl (starts_places (ClauseOf p k (at_stage s x) (line.Join job)) p row g a w h e
    (ClauseOf.join job row n))
line_places p k s x _ _ _ w (LineCalls.await job row g a n h) e = starts_places _ p row g a w h e (ClauseOf.await job row n)

-- ---- moves

-- by a call that waits, or to where there is no wait
data FromCall (x : Config) (a : Answer) (y : Config) : Type 0 where
  waits : (w : WaitId) → a ≡ Waits w → y ≡ at_stage (Waiting w) x → FromCall x a y
  none : wait_of y.stage ≡ None → FromCall x a y

after_call : (p : Program) (k : ℕ) (x : Config) (i : Instruction) (a : Answer) (y : Config) → (a ≡ LooksAgain → wait_of x.stage ≡ None)
    → After p k x i a y → FromCall x a y
after_call p k x _ _ _ n (After.waits i w) = FromCall.waits w refl refl
after_call p k x _ _ _ n After.looks_again = FromCall.none (n refl)
after_call p k x _ _ _ n other = FromCall.none refl

-- how a move came to a wait, if it did
data ComesTo (p : Program) (k : ℕ) (g : List Told) (y : Config) : Type 0 where
  none : wait_of y.stage ≡ None → ComesTo p k g y
  waits : (w : WaitId) (x : Config) (i : Instruction) → y ≡ at_stage (Waiting w) x → LineIs p k x i → LineCalls p k x i g (Waits w)
      → ComesTo p k g y
  leaves : (w : WaitId) (x : Config) (s : InScope) (first group : List Told) → y ≡ at_stage (Leaving w) x → scope_in x.entered ≡ Some s
      → g ≡ first ++ group
      → PlainCall (receives (done_channel (base_of p) s.row)) group (Waits w) → ComesTo p k g y

by_call : (p : Program) (k : ℕ) (x : Config) (i : Instruction) (g : List Told) (a : Answer) (y : Config) → LineIs p k x i
    → LineCalls p k x i g a → FromCall x a y → ComesTo p k g y
by_call p k x i g a y at h (FromCall.waits w e f) = ComesTo.waits w x i f at (subst (LineCalls p k x i g) e h)
by_call p k x i g a y at h (FromCall.none e) = ComesTo.none e

resumed_not : {A : Type 0} (outcome : _) (a : Answer) → Resumed outcome a → a ≡ LooksAgain → A
resumed_not _ _ (Resumed.value n v) e = absurd (let u : ⊥ = cc in u)
resumed_not _ _ (Resumed.sent n) e = absurd (let u : ⊥ = cc in u)
resumed_not _ _ (Resumed.closed n v) e = absurd (let u : ⊥ = cc in u)

pub resumed_waits : {A : Type 0} (outcome : _) (a : Answer) (w : WaitId) → Resumed outcome a → a ≡ Waits w → A
resumed_waits _ _ w (Resumed.value n v) e = absurd (let u : ⊥ = cc in u)
resumed_waits _ _ w (Resumed.sent n) e = absurd (let u : ⊥ = cc in u)
resumed_waits _ _ w (Resumed.closed n v) e = absurd (let u : ⊥ = cc in u)

resumed_call : (x : Config) (outcome : _) (a : Answer) (y : Config) → Resumed outcome a → FromCall x a y → wait_of y.stage ≡ None
resumed_call x outcome a y r (FromCall.waits w e f) = resumed_waits outcome a w r e
resumed_call x outcome a y r (FromCall.none e) = e

-- a line that goes on by the answer for which it waited waits no more
pub resumed_none : (p : Program) (k : ℕ) (x : Config) (i : Instruction) (outcome : _) (a : Answer) (y : Config) → Resumed outcome a
    → After p k x i a y → wait_of y.stage ≡ None
resumed_none p k x i outcome a y r f = resumed_call x outcome a y r (after_call p k x i a y (λ e. resumed_not outcome a r e) f)

by_await : (p : Program) (k : ℕ) (g : List Told) (x : Config) (end : _) (y : Config) → AfterAwait x end y → ComesTo p k g y
by_await p k g x _ _ (AfterAwait.completed v) = ComesTo.none refl
by_await p k g x _ _ AfterAwait.cancelled = ComesTo.none refl
by_await p k g x _ _ (AfterAwait.failed f) = ComesTo.none refl

by_scope : (p : Program) (k : ℕ) (g : List Told) (x : Config) (s : InScope) (end : _) (y : Config) → AfterScope p k x s end y
    → ComesTo p k g y
by_scope p k g x s _ _ (AfterScope.completed v e h) = ComesTo.none refl
by_scope p k g x s _ _ AfterScope.cancelled = ComesTo.none refl
by_scope p k g x s _ _ (AfterScope.failed f) = ComesTo.none refl

by_end : (p : Program) (k : ℕ) (x : Config) (s : InScope) (first group all : List Told) (a : Answer) (y : Config)
    → scope_in x.entered ≡ Some s → all ≡ first ++ group → PlainCall (receives (done_channel (base_of p) s.row)) group a
    → AtScopeEnd k x s a y → ComesTo p k all y
by_end p k x s first group all _ _ e q c (AtScopeEnd.waits w) = ComesTo.leaves w x s first group refl e q c
by_end p k x s first group all _ _ e q c other = ComesTo.none refl

move_comes : (p : Program) (k : ℕ) (x y : Config) (g : List Told) → Move p k x g y → ComesTo p k g y
move_comes p k _ _ _ (Move.calls x y i g a at h f) = by_call p k x i g a y at.line_is h
    (after_call p k x i a y (λ e. ap wait_of at.stage) f)
move_comes p k _ _ _ (Move.resumes x y w i outcome a s l r f) = ComesTo.none (resumed_none p k x i outcome a y r f)
move_comes p k _ _ _ (Move.sees_job x y job row end s l n f) = by_await p k _ x end y f
move_comes p k _ _ _ (Move.ends_scope x y s end g all a l e h c f q) = by_end p k x s end g all a y (ap scope_in e) q c f
move_comes p k _ _ _ (Move.sees_scope x y s end l e f) = by_scope p k _ x s end y f
move_comes p k _ _ _ (Move.breaks_scope x y s failure break g all a l e h c f q) = by_end p k x s break g all a y e q c f
move_comes p k _ _ _ other = ComesTo.none refl

-- ---- what was told

-- the line at which x is began the wait
pub record HasPlaced (p : Program) (k : ℕ) (told : List Told) (x : Config) (w : WaitId) : Type 0 where
  pub line : Instruction
  pub is : LineIs p k x line
  pub placing : Placing (ClauseOf p k x line) w told

waiting_move : (p : Program) (k : ℕ) (g : List Told) (y : Config) (w : WaitId) → ComesTo p k g y → y.stage ≡ Waiting w → HasPlaced p k g y w
waiting_move p k g y w (ComesTo.none e) s = absurd (let u : Some w ≡ None = sym (ap wait_of s) ∙ e in let v : ⊥ = cc in v)
waiting_move p k g y w (ComesTo.waits u x i e at h) s =
    let same_w : u ≡ w = (let t : Waiting u ≡ Waiting w = sym (ap (λ (z : Config). z.stage) e) ∙ s in cc) in
    subst (λ z. HasPlaced p k g z w) (sym e) (record {
      line = i;
      is = at;
      placing =
          line_places p k (Waiting u) x i g (Waits u) w h (ap (λ v. Waits v) same_w);
    })
waiting_move p k g y w (ComesTo.leaves u x c first group e i q h) s =
    absurd (let t : Leaving u ≡ Waiting w = sym (ap (λ (z : Config). z.stage) e) ∙ s in let v : ⊥ = cc in v)

leaving_move : (p : Program) (k : ℕ) (g : List Told) (y : Config) (w : WaitId) → ComesTo p k g y → y.stage ≡ Leaving w
    → Placing (ScopeClause p y) w g
leaving_move p k g y w (ComesTo.none e) s = absurd (let u : Some w ≡ None = sym (ap wait_of s) ∙ e in let v : ⊥ = cc in v)
leaving_move p k g y w (ComesTo.waits u x i e at h) s =
    absurd (let t : Waiting u ≡ Leaving w = sym (ap (λ (z : Config). z.stage) e) ∙ s in let v : ⊥ = cc in v)
leaving_move p k g y w (ComesTo.leaves u x c first group e i q h) s =
    let same_w : u ≡ w = (let t : Leaving u ≡ Leaving w = sym (ap (λ (z : Config). z.stage) e) ∙ s in cc) in
    subst (λ z. Placing (ScopeClause p z) w g) (sym e)
    (placing_behind (ScopeClause p (at_stage (Leaving u) x)) w first group g q
    (plain_places (ScopeClause p (at_stage (Leaving u) x)) _ group (Waits u) w h (ap (λ v. Waits v) same_w) (ScopeClause.receive c i)))

spawned_none : (p : Program) (blocks : List ℕ) (x : Config) (g : List Told) (y : Config) → wait_of x.stage ≡ None → Spawns p blocks x g y
    → wait_of y.stage ≡ None
spawned_none p _ _ _ _ n (Spawns.done x) = n
spawned_none p _ _ _ _ n (Spawns.attaches block blocks x y now more h) = spawned_none p blocks _ more y n h
spawned_none p _ _ _ _ n (Spawns.refused block blocks x g h) = refl

begun_none : (p : Program) (k : ℕ) (g : List Told) (x : Config) → Begins p k g x → wait_of x.stage ≡ None
begun_none p _ _ _ (Begins.root g x h) = spawned_none p (spawned p) _ g x refl h
begun_none p _ _ _ (Begins.child k n) = refl

-- the move by which a coroutine came to its wait is its last
pub reach_places : (p : Program) (k : ℕ) (told : List Told) (x : Config) (w : WaitId) → Reaches p k told x → x.stage ≡ Waiting w
    → HasPlaced p k told x w
reach_places p k _ _ w (Reaches.begins g x b) s = absurd (let u : Some w ≡ None = sym (ap wait_of s) ∙ begun_none p k g x b
    in let v : ⊥ = cc in v)
reach_places p k _ _ w (Reaches.goes_on before g all x y r m e) s =
    let h = waiting_move p k g y w (move_comes p k x y g m) s in
    record { line = h.line; is = h.is; placing = placing_behind (ClauseOf p k y h.line) w before g all e h.placing }

-- and at the end of its innermost scope, on the done channel of that
pub reach_leaves : (p : Program) (k : ℕ) (told : List Told) (x : Config) (w : WaitId) → Reaches p k told x → x.stage ≡ Leaving w
    → Placing (ScopeClause p x) w told
reach_leaves p k _ _ w (Reaches.begins g x b) s = absurd (let u : Some w ≡ None = sym (ap wait_of s) ∙ begun_none p k g x b
    in let v : ⊥ = cc in v)
reach_leaves p k _ _ w (Reaches.goes_on before g all x y r m e) s =
    placing_behind (ScopeClause p y) w before g all e (leaving_move p k g y w (move_comes p k x y g m) s)
