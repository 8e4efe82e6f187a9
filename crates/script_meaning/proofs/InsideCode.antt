-- Wherever moves lead, what a coroutine has entered are the lines that are open where it is.
use Rattle.std.specs.Prelude.{◌≡◌, ℕ, ◌+◌, ◌<◌, ◌≤◌, Bool, true, false, List, [], ◌∷◌, ◌++◌, length, map, Option, Some, None, slice_get, refl}
use Rattle.std.proofs.Common.{sym, ap, ◌∙◌, subst, append_assoc, arith}
use Rattle.std.proofs.lemmas.List.{map-append}
use Rattle.std.proofs.lemmas.Option.{slice_get_within}
use Rattle.co_base.specs.declared.names.WaitId.{WaitId}
use Rattle.job_model.specs.declared.acts.End.{End}
use Rattle.call_meaning.specs.Telling.{Told}
use Rattle.call_meaning.specs.ChannelCalls.{Answer, Waits, TryCall, AtOnce}
use Rattle.script_grammar.specs.declared.instructions.Instruction.{Instruction}
use Rattle.script_grammar.specs.declared.instructions.Instruction.TheVariants as line
use Rattle.script_grammar.specs.Programs.{Program}
use Rattle.script_grammar.specs.Blocks.{is_clause, is_end, opens_lines}
use Rattle.script_grammar.specs.Nesting.{closing_of}
use Rattle.script_grammar.specs.Tags.{code_of}
use Rattle.script_grammar.specs.WellFormed.{IsProgram}
use Rattle.script_meaning.specs.declared.stage.Stage.{Stage}
use Rattle.script_meaning.specs.declared.stage.Stage.TheVariants.{Fresh, Running, Waiting, SeesJob, Unwinding, Leaving, SeesScope, Ended}
use Rattle.script_meaning.specs.Configs.{Config, Entered, in_repeat, in_each, in_scope, InScope, fresh, at_stage, outside, past_launch, scope_in, LineIs, IsAt}
use Rattle.script_meaning.specs.Lines.{LineCalls, After, AfterAwait, AtScopeEnd, AfterScope}
use Rattle.script_meaning.specs.Moves.{Move}
use Rattle.script_meaning.specs.Books.{Spawns, Begins, Reaches}
use Rattle.script_meaning.specs.Inside.{heads_at, head_of, EntersAt, AllEnter, is_in_lines, may_wait, is_await, CallsAt, Fits}
use Rattle.script_meaning.proofs.OpenLines.{opened_at, ClosedAt, closed_at, heads_next, heads_open, heads_other, heads_end, end_closes_first, closed_later}
use Rattle.script_meaning.proofs.LinesPlaced.{placed_at, clause_in_select, end_in_open, opened_closed}
use Rattle.script_meaning.proofs.WaitsPlaced.{resumed_waits}

-- ---- what was entered

-- what was entered inside a scope, the scope, and what was entered round it
pub record ScopeSplits (es : List Entered) (s : InScope) : Type 0 where
  pub inside : List Entered
  pub all : es ≡ inside ++ in_scope s.head s.row ∷ s.around

pub scope_splits : (es : List Entered) (s : InScope) → scope_in es ≡ Some s → ScopeSplits es s
scope_splits [] s e = cc
scope_splits (in_repeat head left ∷ es) s e = let r = scope_splits es s e
    in record { inside = in_repeat head left ∷ r.inside; all = ap (λ l. in_repeat head left ∷ l) r.all }
scope_splits (in_each head ∷ es) s e = let r = scope_splits es s e
    in record { inside = in_each head ∷ r.inside; all = ap (λ l. in_each head ∷ l) r.all }
scope_splits (in_scope head row ∷ es) s e =
    let is : record { head = head; row = row; around = es } ≡ s = cc in
    record { inside = []; all = ap (λ (t : InScope). in_scope t.head t.row ∷ t.around) is }

pub all_outside : (code : List Instruction) (inside : List Entered) (e : Entered) (es : List Entered) → AllEnter code (inside ++ e ∷ es)
    → AllEnter code es
all_outside code [] e es h = h.1
all_outside code (i ∷ inside) e es h = all_outside code inside e es h.1

-- the lines that are open at the line, split at the scope
pub record ScopeOpen (p : Program) (k : ℕ) (x : Config) (s : InScope) : Type 0 where
  pub within : List ℕ
  pub open_is : heads_at (code_of p k) x.line ≡ within ++ s.head ∷ map head_of s.around
  pub around : AllEnter (code_of p k) s.around

pub scope_open : (p : Program) (k : ℕ) (x : Config) (s : InScope) → Fits p k x → scope_in x.entered ≡ Some s → ScopeOpen p k x s
scope_open p k x s h e =
    let r = scope_splits x.entered s e in
    record {
      within = h.left ++ map head_of r.inside;
      open_is = h.opens ∙ ap (λ l. h.left ++ map head_of l) r.all
          ∙ ap (λ l. h.left ++ l) (map-append head_of r.inside (in_scope s.head s.row ∷ s.around))
          ∙ sym (append_assoc h.left (map head_of r.inside) (s.head ∷ map head_of s.around));
      around = all_outside (code_of p k) r.inside (in_scope s.head s.row) s.around (subst (AllEnter (code_of p k)) r.all h.enters);
    }

-- where it has left nothing, the lines that are open are those that it entered
pub just_entered : (p : Program) (k : ℕ) (x : Config) → Fits p k x → is_in_lines x.stage ≡ true
    → heads_at (code_of p k) x.line ≡ map head_of x.entered
just_entered p k x h e = h.opens ∙ ap (λ l. l ++ map head_of x.entered) (h.none_left e)

pub at_in_lines : (p : Program) (k : ℕ) (x : Config) (l : Instruction) → IsAt p k x l → is_in_lines x.stage ≡ true
at_in_lines p k x l at = ap is_in_lines at.stage

-- ---- what a line may rely on

-- it runs no clause
pub no_clause : (p : Program) (k : ℕ) (x : Config) (l : Instruction) → IsProgram p → Fits p k x → IsAt p k x l → is_clause l ≡ false
no_clause p k x l ok h at = by_test (is_clause l) refl
  where
    not_entered : (es : List Entered) (s : ℕ) (hs : List ℕ) → AllEnter (code_of p k) es → map head_of es ≡ s ∷ hs
        → slice_get (code_of p k) s ≡ Some line.Select → ⊥
    not_entered [] s hs a e f = cc
    not_entered (in_repeat head left ∷ es) s hs a e f =
        let same : head ≡ s = cc in
        let both_ways : Some (line.Repeat a.0.0) ≡ Some line.Select = sym a.0.1 ∙ ap (slice_get (code_of p k)) same ∙ f in
        cc
    not_entered (in_each head ∷ es) s hs a e f =
        let same : head ≡ s = cc in
        let both_ways : Some (line.Each a.0.0) ≡ Some line.Select = sym a.0.1 ∙ ap (slice_get (code_of p k)) same ∙ f in
        cc
    not_entered (in_scope head row ∷ es) s hs a e f =
        let same : head ≡ s = cc in
        let both_ways : Some (line.Scope a.0.0) ≡ Some line.Select = sym a.0.1 ∙ ap (slice_get (code_of p k)) same ∙ f in
        cc

    by_test : (b : Bool) → is_clause l ≡ b → is_clause l ≡ false
    by_test false e = e
    by_test true e =
        let c = clause_in_select (code_of p k) x.line l (placed_at p k x.line l ok at.line_is) e in
        absurd (not_entered x.entered c.0 c.1 h.enters (sym (just_entered p k x h (at_in_lines p k x l at)) ∙ c.2) c.3)

-- what it entered last is what the end closes
pub end_closes : (p : Program) (k : ℕ) (x : Config) → IsProgram p → Fits p k x → IsAt p k x line.End
    → (e : Entered) × (es : List Entered) × (x.entered ≡ e ∷ es) × (closing_of (code_of p k) (head_of e) ≡ Some x.line)
end_closes p k x ok h at = by_list x.entered refl
  where
    by_list : (es : List Entered) → x.entered ≡ es → (e : Entered) × (es : List Entered) × (x.entered ≡ e ∷ es)
        × (closing_of (code_of p k) (head_of e) ≡ Some x.line)
    by_list [] e =
        let o = end_in_open (code_of p k) x.line (placed_at p k x.line line.End ok at.line_is) in
        let none : o.0 ∷ o.1 ≡ [] = sym o.2 ∙ just_entered p k x h (at_in_lines p k x line.End at) ∙ ap (map head_of) e in
        absurd (let no_way : ⊥ = cc in no_way)
    by_list (e ∷ es) f = (
      e,
      es,
      f,
      end_closes_first (code_of p k) x.line (head_of e) (map head_of es) at.line_is
          (just_entered p k x h (at_in_lines p k x line.End at) ∙ ap (map head_of) f),
    )

-- the innermost scope is closed at its line or later
pub scope_closes : (p : Program) (k : ℕ) (x : Config) (s : InScope) → IsProgram p → Fits p k x → scope_in x.entered ≡ Some s
    → (e : ℕ) × (closing_of (code_of p k) s.head ≡ Some e) × (x.line ≤ e) × ClosedAt (code_of p k) s.head e
scope_closes p k x s ok h e =
    let o = scope_open p k x s h e in
    let b = opened_at (code_of p k) x.line h.inside o.within s.head (map head_of s.around) o.open_is in
    let c = opened_closed p k s.head b.opener ok b.opener_is b.opens in
    (c.0, c.1, closed_later (code_of p k) x.line h.inside o.within s.head (map head_of s.around) c.0 o.open_is c.1, c.2)

-- ---- moves

-- at the same line, with nothing more left than before
stays_fits : (p : Program) (k : ℕ) (x : Config) (stage : Stage) → Fits p k x → (stage ≡ Fresh → ⊥)
    → CallsAt stage (slice_get (code_of p k) x.line) → (is_in_lines stage ≡ true → is_in_lines x.stage ≡ true) → Fits p k (at_stage stage x)
stays_fits p k x stage h n c i = record {
  inside = h.inside;
  begins = λ e. absurd (n e);
  calls = c;
  enters = h.enters;
  left = h.left;
  opens = h.opens;
  none_left = λ e. h.none_left (i e);
}

unwinding_fits : (p : Program) (k : ℕ) (x : Config) (failure : Option ℕ) → Fits p k x → Fits p k (at_stage (Unwinding failure) x)
unwinding_fits p k x failure h = stays_fits p k x (Unwinding failure) h (λ e. cc) tt (λ e. cc)

-- out of a scope it unwinds
outside_fits : (p : Program) (k : ℕ) (x : Config) (s : InScope) (failure : Option ℕ) → Fits p k x → scope_in x.entered ≡ Some s
    → Fits p k (at_stage (Unwinding failure) (outside s x))
outside_fits p k x s failure h e =
    let o = scope_open p k x s h e in
    record {
      inside = h.inside;
      begins = λ e. cc;
      calls = tt;
      enters = o.around;
      left = o.within ++ s.head ∷ [];
      opens = o.open_is ∙ sym (append_assoc o.within (s.head ∷ []) (map head_of s.around));
      none_left = λ e. cc;
    }

-- to run the line i with this entered, which are the lines that are open there
pub RunsAt : Program → ℕ → ℕ → List Entered → Type 0
RunsAt p k i es = (i ≤ length (code_of p k)) × AllEnter (code_of p k) es × (heads_at (code_of p k) i ≡ map head_of es)

running_fits : (p : Program) (k : ℕ) (x : Config) (i : ℕ) (es : List Entered) → RunsAt p k i es → x.stage ≡ Running → x.line ≡ i
    → x.entered ≡ es → Fits p k x
unfolding RunsAt
running_fits p k x i es r s l e = record {
  inside = omega (arith, r.0, l);
  begins = λ f. let both_ways : Running ≡ Fresh = sym s ∙ f in absurd (let no_way : ⊥ = cc in no_way);
  calls = subst (λ t. CallsAt t (slice_get (code_of p k) x.line)) (sym s) tt;
  enters = subst (AllEnter (code_of p k)) (sym e) r.1;
  left = [];
  opens = ap (heads_at (code_of p k)) l ∙ r.2 ∙ ap (map head_of) (sym e);
  none_left = λ f. refl;
}

-- the line behind one that opens nothing and closes nothing
runs_next : (p : Program) (k : ℕ) (x : Config) (l : Instruction) → Fits p k x → is_in_lines x.stage ≡ true → LineIs p k x l
    → opens_lines l ≡ false → is_end l ≡ false → RunsAt p k (x.line + 1) x.entered
unfolding RunsAt
runs_next p k x l h i at o n =
    let within = slice_get_within (code_of p k) x.line l at in (
      omega (arith, within),
      h.enters,
      heads_next (code_of p k) x.line l at ∙ heads_other x.line (heads_at (code_of p k) x.line) l o n
          ∙ just_entered p k x h i,
    )

-- the line behind one that is entered
runs_into : (p : Program) (k : ℕ) (x : Config) (l : Instruction) (e : Entered) → Fits p k x → is_in_lines x.stage ≡ true → LineIs p k x l
    → opens_lines l ≡ true → head_of e ≡ x.line → EntersAt (code_of p k) e → RunsAt p k (x.line + 1) (e ∷ x.entered)
unfolding RunsAt
runs_into p k x l e h i at o n a =
    let within = slice_get_within (code_of p k) x.line l at in (
      omega (arith, within),
      (a, h.enters),
      heads_next (code_of p k) x.line l at ∙ heads_open x.line (heads_at (code_of p k) x.line) l o
          ∙ ap (λ t. t ∷ heads_at (code_of p k) x.line) (sym n) ∙ ap (λ t. head_of e ∷ t) (just_entered p k x h i),
    )

-- the line behind the end of the line at which it is
runs_past : (p : Program) (k : ℕ) (x : Config) (l : Instruction) (e : ℕ) → Fits p k x → is_in_lines x.stage ≡ true → LineIs p k x l
    → opens_lines l ≡ true → closing_of (code_of p k) x.line ≡ Some e → RunsAt p k (e + 1) x.entered
unfolding RunsAt
runs_past p k x l e h i at o c =
    let closed = closed_at (code_of p k) x.line e l at o c in
    let within = slice_get_within (code_of p k) e line.End closed.is_end in
    (omega (arith, within), h.enters, closed.open_after ∙ just_entered p k x h i)

-- what stands at an end, out of what was entered last
pub record AtEnd (p : Program) (k : ℕ) (x : Config) (e : Entered) (es : List Entered) : Type 0 where
  pub short : x.line < length (code_of p k)
  pub entered : EntersAt (code_of p k) e
  pub around : AllEnter (code_of p k) es
  pub before : head_of e < x.line
  pub at_head : heads_at (code_of p k) (head_of e) ≡ map head_of es
  pub behind : heads_at (code_of p k) (x.line + 1) ≡ map head_of es

pub at_end : (p : Program) (k : ℕ) (x : Config) (e : Entered) (es : List Entered) → Fits p k x → IsAt p k x line.End → x.entered ≡ e ∷ es
    → AtEnd p k x e es
at_end p k x e es h at f =
    let is : heads_at (code_of p k) x.line ≡ head_of e ∷ map head_of es = just_entered p k x h (at_in_lines p k x line.End at)
    ∙ ap (map head_of) f in
    let o = opened_at (code_of p k) x.line h.inside [] (head_of e) (map head_of es) is in
    let all = subst (AllEnter (code_of p k)) f h.enters in
    record {
      short = slice_get_within (code_of p k) x.line line.End at.line_is;
      entered = all.0;
      around = all.1;
      before = o.before;
      at_head = o.round;
      behind = heads_end (code_of p k) x.line (head_of e) (map head_of es) at.line_is is;
    }

-- ---- calls

-- only these lines wait
waits_there : (p : Program) (k : ℕ) (x : Config) (i : Instruction) (group : List Told) (a : Answer) (w : WaitId) → LineCalls p k x i group a
    → a ≡ Waits w → may_wait (Some i) ≡ true
waits_there p k x _ _ _ w (LineCalls.trysend c o group a call) e = absurd (no_wait _ group a call e)
  where
    at_once : (t : _) (g : List Told) (a : Answer) → AtOnce t g a → a ≡ Waits w → ⊥
    at_once _ _ _ (AtOnce.hands c v q) e = cc
    at_once _ _ _ (AtOnce.puts c v q more d) e = cc
    at_once _ _ _ (AtOnce.takes c v q admits d) e = cc

    no_wait : (t : _) (g : List Told) (a : Answer) → TryCall t g a → a ≡ Waits w → ⊥
    no_wait _ _ _ (TryCall.at_once t g a c) e = at_once t g a c e
    no_wait _ _ _ (TryCall.refused t told r) e = cc
    no_wait _ _ _ (TryCall.blocks t) e = cc
    no_wait _ _ _ (TryCall.no_place c v) e = cc
waits_there p k x _ _ _ w (LineCalls.tryreceive c group a call) e = absurd (no_wait _ group a call e)
  where
    at_once : (t : _) (g : List Told) (a : Answer) → AtOnce t g a → a ≡ Waits w → ⊥
    at_once _ _ _ (AtOnce.hands c v q) e = cc
    at_once _ _ _ (AtOnce.puts c v q more d) e = cc
    at_once _ _ _ (AtOnce.takes c v q admits d) e = cc

    no_wait : (t : _) (g : List Told) (a : Answer) → TryCall t g a → a ≡ Waits w → ⊥
    no_wait _ _ _ (TryCall.at_once t g a c) e = at_once t g a c e
    no_wait _ _ _ (TryCall.refused t told r) e = cc
    no_wait _ _ _ (TryCall.blocks t) e = cc
    no_wait _ _ _ (TryCall.no_place c v) e = cc
waits_there p k x _ _ _ w other e = refl

pub after_fits : (p : Program) (k : ℕ) (x : Config) (i : Instruction) (a : Answer) (y : Config) → Fits p k x → is_in_lines x.stage ≡ true
    → LineIs p k x i → ((w : WaitId) → a ≡ Waits w → may_wait (Some i) ≡ true) → After p k x i a y → Fits p k y
after_fits p k x _ _ _ h s at may (After.waits i w) = stays_fits p k x (Waiting w) h (λ e. cc) (ap may_wait at ∙ may w refl) (λ e. s)
after_fits p k x _ _ _ h s at may (After.no_place i) = unwinding_fits p k x (Some k) h
after_fits p k x _ _ _ h s at may (After.got_one_more c v) =
    running_fits p k _ _ _ (runs_into p k x _ (in_each x.line) h s at refl refl (c, at)) refl refl refl
after_fits p k x _ _ _ h s at may (After.got_all c v e is) = running_fits p k _ _ _ (runs_past p k x _ e h s at refl is) refl refl refl
after_fits p k x _ _ _ h s at may (After.chose_send e is) = running_fits p k _ _ _ (runs_past p k x _ e h s at refl is) refl refl refl
after_fits p k x _ _ _ h s at may (After.chose_got e v is) = running_fits p k _ _ _ (runs_past p k x _ e h s at refl is) refl refl refl
after_fits p k x _ _ _ h s at may (After.chose_closed e v is) = running_fits p k _ _ _ (runs_past p k x _ e h s at refl is) refl refl refl
after_fits p k x _ _ _ h s at may After.looks_again = h
after_fits p k x _ _ _ h s at may (After.awaited job v) = stays_fits p k x SeesJob h (λ e. cc) (ap is_await at) (λ e. s)
after_fits p k x _ _ _ h s at may other = running_fits p k _ _ _ (runs_next p k x _ h s at refl refl) refl refl refl

after_await_fits : (p : Program) (k : ℕ) (x : Config) (job : ℕ) (end : End) (y : Config) → Fits p k x → is_in_lines x.stage ≡ true
    → LineIs p k x (line.Await job) → AfterAwait x end y → Fits p k y
after_await_fits p k x job _ _ h s at (AfterAwait.completed v) = running_fits p k _ _ _ (runs_next p k x _ h s at refl refl) refl refl refl
after_await_fits p k x job _ _ h s at AfterAwait.cancelled = unwinding_fits p k x None h
after_await_fits p k x job _ _ h s at (AfterAwait.failed f) = unwinding_fits p k x (Some f) h

scope_end_fits : (p : Program) (k : ℕ) (x : Config) (s : InScope) (a : Answer) (y : Config) → Fits p k x → scope_in x.entered ≡ Some s
    → AtScopeEnd k x s a y → Fits p k y
scope_end_fits p k x s _ _ h e (AtScopeEnd.waits w) = stays_fits p k x (Leaving w) h (λ e. cc) tt (λ e. cc)
scope_end_fits p k x s _ _ h e (AtScopeEnd.closed v) = stays_fits p k x SeesScope h (λ e. cc) tt (λ e. cc)
scope_end_fits p k x s _ _ h e AtScopeEnd.no_place = outside_fits p k x s (Some k) h e

-- past the end of a scope
runs_outside : (p : Program) (k : ℕ) (x : Config) (s : InScope) (e : ℕ) → Fits p k x → scope_in x.entered ≡ Some s
    → closing_of (code_of p k) s.head ≡ Some e → RunsAt p k (e + 1) s.around
unfolding RunsAt
runs_outside p k x s e h f c =
    let o = scope_open p k x s h f in
    let b = opened_at (code_of p k) x.line h.inside o.within s.head (map head_of s.around) o.open_is in
    let closed = closed_at (code_of p k) s.head e b.opener b.opener_is b.opens c in
    let within = slice_get_within (code_of p k) e line.End closed.is_end in
    (omega (arith, within), o.around, closed.open_after ∙ b.round)

after_scope_fits : (p : Program) (k : ℕ) (x : Config) (s : InScope) (end : End) (y : Config) → Fits p k x → scope_in x.entered ≡ Some s
    → AfterScope p k x s end y → Fits p k y
after_scope_fits p k x s _ _ h f (AfterScope.completed v e c) = running_fits p k _ _ _ (runs_outside p k x s e h f c) refl refl refl
after_scope_fits p k x s _ _ h f AfterScope.cancelled = outside_fits p k x s None h f
after_scope_fits p k x s _ _ h f (AfterScope.failed v) = outside_fits p k x s (Some v) h f

-- at the end of a repeat, back to its first line inside
runs_again : (p : Program) (k : ℕ) (x : Config) (head n : ℕ) (es : List Entered) → Fits p k x → IsAt p k x line.End
    → x.entered ≡ in_repeat head (n + 1) ∷ es → RunsAt p k (head + 1) (in_repeat head n ∷ es)
unfolding RunsAt
runs_again p k x head n es h at e =
    let a = at_end p k x (in_repeat head (n + 1)) es h at e in
    let r = a.entered in (
      omega (arith, a.before, a.short),
      ((r.0, r.1, omega (arith, r.2)), a.around),
      heads_next (code_of p k) head (line.Repeat r.0) r.1 ∙ ap (λ l. head ∷ l) a.at_head,
    )

runs_on : (p : Program) (k : ℕ) (x : Config) (e : Entered) (es : List Entered) → Fits p k x → IsAt p k x line.End → x.entered ≡ e ∷ es
    → RunsAt p k (x.line + 1) es
unfolding RunsAt
runs_on p k x e es h at f = let a = at_end p k x e es h at f in (omega (arith, a.short), a.around, a.behind)

runs_head : (p : Program) (k : ℕ) (x : Config) (e : Entered) (es : List Entered) → Fits p k x → IsAt p k x line.End → x.entered ≡ e ∷ es
    → RunsAt p k (head_of e) es
unfolding RunsAt
runs_head p k x e es h at f = let a = at_end p k x e es h at f in (omega (arith, a.before, a.short), a.around, a.at_head)

pub move_fits : (p : Program) (k : ℕ) (x : Config) (group : List Told) (y : Config) → Fits p k x → Move p k x group y → Fits p k y
move_fits p k _ _ _ h (Move.runs x s) = stays_fits p k x Running h (λ e. cc) tt (λ e. ap is_in_lines s)
move_fits p k _ _ _ h (Move.never_runs x s) = unwinding_fits p k x None h
move_fits p k _ _ _ h (Move.calls x y i group a at c f) =
    after_fits p k x i a y h (at_in_lines p k x i at) at.line_is (λ w e. waits_there p k x i group a w c e) f
move_fits p k _ _ _ h (Move.resumes x y w i outcome a s at m f) =
    after_fits p k x i a y h (ap is_in_lines s) at (λ v e. resumed_waits outcome a v m e) f
move_fits p k _ _ _ h (Move.cancelled x w s) = unwinding_fits p k x None h
move_fits p k _ _ _ h (Move.gives_up x w group s g) = unwinding_fits p k x None h
move_fits p k _ _ _ h (Move.sees_job x y job row end s at n f) = after_await_fits p k x job end y h (ap is_in_lines s) at f
move_fits p k _ _ _ h (Move.closes x c group at g) = running_fits p k _ _ _
    (runs_next p k x _ h (at_in_lines p k x _ at) at.line_is refl refl) refl refl refl
move_fits p k _ _ _ h (Move.cancels_channel x c group at g) =
    running_fits p k _ _ _ (runs_next p k x _ h (at_in_lines p k x _ at) at.line_is refl refl) refl refl refl
move_fits p k _ _ _ h (Move.yields x at) = running_fits p k _ _ _ (runs_next p k x _ h (at_in_lines p k x _ at) at.line_is refl refl) refl
    refl refl
move_fits p k _ _ _ h (Move.stops_at_yield x at) = unwinding_fits p k x None h
move_fits p k _ _ _ h (Move.stops_at_join x job at) = unwinding_fits p k x None h
move_fits p k _ _ _ h (Move.launches x block how job now at) =
    running_fits p k _ _ _ (runs_next p k x _ h (at_in_lines p k x _ at) at.line_is refl refl) refl refl refl
move_fits p k _ _ _ h (Move.launch_refused x block how job group at g) = unwinding_fits p k x (Some k) h
move_fits p k _ _ _ h (Move.enters x supervisor row now at) =
    running_fits p k _ _ _ (runs_into p k x _ (in_scope x.line row) h (at_in_lines p k x _ at) at.line_is refl refl
    (supervisor, at.line_is)) refl refl refl
move_fits p k _ _ _ h (Move.enter_refused x supervisor group at g) = unwinding_fits p k x (Some k) h
move_fits p k _ _ _ h (Move.starts x job row group at n g) =
    running_fits p k _ _ _ (runs_next p k x _ h (at_in_lines p k x _ at) at.line_is refl refl) refl refl refl
move_fits p k _ _ _ h (Move.cancels x job row newly group at n g) =
    running_fits p k _ _ _ (runs_next p k x _ h (at_in_lines p k x _ at) at.line_is refl refl) refl refl refl
move_fits p k _ _ _ h (Move.fails x v at) = unwinding_fits p k x (Some k) h
move_fits p k _ _ _ h (Move.results x o at) = running_fits p k _ _ _ (runs_next p k x _ h (at_in_lines p k x _ at) at.line_is refl refl)
    refl refl refl
move_fits p k _ _ _ h (Move.repeats x n at) = running_fits p k _ _ _
    (runs_into p k x _ (in_repeat x.line n) h (at_in_lines p k x _ at) at.line_is refl refl (n + 1, at.line_is, omega arith)) refl refl refl
move_fits p k _ _ _ h (Move.turns_again x head n es at e) = running_fits p k _ _ _ (runs_again p k x head n es h at e) refl refl refl
move_fits p k _ _ _ h (Move.turns_no_more x head es at e) = running_fits p k _ _ _ (runs_on p k x _ es h at e) refl refl refl
move_fits p k _ _ _ h (Move.receives_again x head es at e) = running_fits p k _ _ _ (runs_head p k x _ es h at e) refl refl refl
move_fits p k _ _ _ h (Move.ends_scope x y s end group all a at e b c f j) = scope_end_fits p k x s a y h (ap scope_in e) f
move_fits p k _ _ _ h (Move.scope_ended x w n v s) = stays_fits p k x SeesScope h (λ e. cc) tt (λ e. cc)
move_fits p k _ _ _ h (Move.sees_scope x y s end t e f) = after_scope_fits p k x s end y h e f
move_fits p k _ _ _ h (Move.breaks_scope x y s failure break group all a t e b c f j) = scope_end_fits p k x s a y h e f
move_fits p k _ _ _ h (Move.breaks x failure group t e b) = stays_fits p k x Ended h (λ e. cc) tt (λ e. cc)
move_fits p k _ _ _ h (Move.ends x group t e b) = stays_fits p k x Ended h (λ e. cc) tt (λ e. cc)

-- ---- beginnings

-- it has entered nothing, and is before its first line
fresh_fits : (p : Program) (k : ℕ) (x : Config) → x.stage ≡ Fresh → x.line ≡ 0 → x.entered ≡ [] → Fits p k x
fresh_fits p k x s l e = record {
  inside = omega (arith, l);
  begins = λ f. l;
  calls = subst (λ t. CallsAt t (slice_get (code_of p k) x.line)) (sym s) tt;
  enters = subst (AllEnter (code_of p k)) (sym e) tt;
  left = [];
  opens = ap (heads_at (code_of p k)) l ∙ ap (map head_of) (sym e);
  none_left = λ f. refl;
}

spawns_fit : (p : Program) (blocks : List ℕ) (x : Config) (group : List Told) (y : Config) → Fits p 0 x → Spawns p blocks x group y
    → Fits p 0 y
spawns_fit p _ _ _ _ h (Spawns.done x) = h
spawns_fit p _ _ _ _ h (Spawns.attaches block blocks x y now more s) =
    spawns_fit p blocks (past_launch p block None x) more y
    (record {
      inside = h.inside;
      begins = h.begins;
      calls = h.calls;
      enters = h.enters;
      left = h.left;
      opens = h.opens;
      none_left =
          h.none_left;
    }) s
spawns_fit p _ _ _ _ h (Spawns.refused block blocks x group g) = unwinding_fits p 0 x (Some 0) h

begins_fit : (p : Program) (k : ℕ) (group : List Told) (x : Config) → Begins p k group x → Fits p k x
begins_fit p _ _ _ (Begins.root group x s) = spawns_fit p _ (fresh 0) group x (fresh_fits p 0 (fresh 0) refl refl refl) s
begins_fit p _ _ _ (Begins.child k n) = fresh_fits p k (fresh k) refl refl refl

-- wherever moves lead
pub reach_fits : (p : Program) (k : ℕ) (told : List Told) (x : Config) → Reaches p k told x → Fits p k x
reach_fits p k _ _ (Reaches.begins group x b) = begins_fit p k group x b
reach_fits p k _ _ (Reaches.goes_on before group all x y r m e) = move_fits p k x group y (reach_fits p k before x r) m
