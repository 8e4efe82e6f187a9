-- The rows that the names of a coroutine mean, and its next tag: what a name means after a launch, and that no answer changes them.
use Rattle.std.specs.Prelude.{◌≡◌, ℕ, zero, suc, ◌⊎◌, List, [], ◌∷◌, Option, Some, None, slice_get, refl}
use Rattle.std.proofs.Common.{inl, inr}
use Rattle.job_model.specs.declared.acts.End.{End}
use Rattle.call_meaning.specs.ChannelCalls.{Answer}
use Rattle.script_grammar.specs.declared.instructions.Instruction.{Instruction}
use Rattle.script_grammar.specs.Programs.{Program}
use Rattle.script_meaning.specs.Configs.{Config, InScope, named, set_row}
use Rattle.script_meaning.specs.Lines.{After, AfterAwait, AtScopeEnd, AfterScope}

-- ---- a name means the row that was set last, or what it meant before

pub none_there : {A : Type 0} (i row : ℕ) → slice_get [] i ≡ Some row → A
none_there zero row h = absurd (let no_way : ⊥ = cc in no_way)
none_there (suc i) row h = absurd (let no_way : ⊥ = cc in no_way)

set_or_old : (n row : ℕ) (rows : List ℕ) (i r : ℕ) → slice_get (set_row n row rows) i ≡ Some r → (r ≡ row) ⊎ (slice_get rows i ≡ Some r)
unfolding set_row
set_or_old zero row [] zero r h = inl (let e : r ≡ row = cc in e)
set_or_old zero row [] (suc i) r h = none_there i r h
set_or_old zero row (q ∷ rows) zero r h = inl (let e : r ≡ row = cc in e)
set_or_old zero row (q ∷ rows) (suc i) r h = inr h
set_or_old (suc n) row [] zero r h = inl (let e : r ≡ row = cc in e)
set_or_old (suc n) row [] (suc i) r h = none_there i r h
set_or_old (suc n) row (q ∷ rows) zero r h = inr h
set_or_old (suc n) row (q ∷ rows) (suc i) r h = set_or_old n row rows i r h

pub named_or_old : (job : Option ℕ) (row : ℕ) (rows : List ℕ) (i r : ℕ) → slice_get (named job row rows) i ≡ Some r → (r ≡ row)
    ⊎ (slice_get rows i ≡ Some r)
named_or_old None row rows i r h = inr h
named_or_old (Some n) row rows i r h = set_or_old n row rows i r h

-- ---- no answer changes what the names mean, nor the next tag

abbrev pub SameNames : Config → Config → Type 0
SameNames x y = (y.rows ≡ x.rows) × (y.free ≡ x.free)

pub call_names : (p : Program) (k : ℕ) (x : Config) (i : Instruction) (a : Answer) (y : Config) → After p k x i a y → SameNames x y
call_names p k x _ _ _ (After.waits i w) = (refl, refl)
call_names p k x _ _ _ other = (refl, refl)

pub await_names : (x : Config) (end : End) (y : Config) → AfterAwait x end y → SameNames x y
await_names x _ _ (AfterAwait.completed v) = (refl, refl)
await_names x _ _ AfterAwait.cancelled = (refl, refl)
await_names x _ _ (AfterAwait.failed f) = (refl, refl)

pub scope_end_names : (k : ℕ) (x : Config) (s : InScope) (a : Answer) (y : Config) → AtScopeEnd k x s a y → SameNames x y
scope_end_names k x s _ _ (AtScopeEnd.waits w) = (refl, refl)
scope_end_names k x s _ _ (AtScopeEnd.closed v) = (refl, refl)
scope_end_names k x s _ _ AtScopeEnd.no_place = (refl, refl)

pub past_scope_names : (p : Program) (k : ℕ) (x : Config) (s : InScope) (end : End) (y : Config) → AfterScope p k x s end y → SameNames x y
past_scope_names p k x s _ _ (AfterScope.completed v e is) = (refl, refl)
past_scope_names p k x s _ _ AfterScope.cancelled = (refl, refl)
past_scope_names p k x s _ _ (AfterScope.failed f) = (refl, refl)
