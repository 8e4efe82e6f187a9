-- Turns that are left, and runs that have stopped.
use Rattle.std.specs.Prelude.{◌≡◌, ℕ, ◌+◌, ◌*◌, ◌<◌, ◌≤◌, Bool, true, false, ◌||◌, not, List, ◌∷◌, length, Result, Ok, Err, IfOk, refl}
use Rattle.std.proofs.Common.{ap, sym, ◌∙◌, arith, ⊎_elim}
use Rattle.co_base.specs.declared.names.Memory.{Memory}
use Rattle.script_grammar.specs.Programs.{Program}
use Rattle.engine_one.specs.declared.ready_tags.ReadyTags.{ReadyTags}
use Rattle.engine_one.specs.Moments.{Moment}
use Rattle.engine_one.specs.Progress.{moves_at, MovesFall, StandsStill, Advances, RoundIsCalm, turns_left, TurnsFall, LeftWhere}
use Rattle.engine_one.specs.Sharing.{SharedState, has_stopped}
use Rattle.engine_one.proofs.Marks.{marked_fit}

-- true is not false
never : {A : Type 0} → true ≡ false → A
never e = absurd (let no_way : ⊥ = cc in no_way)

-- ---- turns

-- at most 65536 tags are to be polled
pub few_tags : (ready : ReadyTags) → length ready.tags.items ≤ 65536
few_tags ready = let fit = marked_fit ready.standing.items ready.tags.items ready.marked in omega (arith, fit, ready.few, ready.standing.ok)

-- with fewer moves left there are fewer turns, whatever tags are to be polled
fewer_moves : (m n k l : ℕ) → m < n → k ≤ 65536 → m * 65537 + k < n * 65537 + l
fewer_moves m n k l less few = omega arith

-- and so with as many moves and fewer tags
fewer_tags : (m n k l : ℕ) → m ≡ n → k < l → m * 65537 + k < n * 65537 + l
fewer_tags m n k l same less = omega arith

-- a turn of the first tag leaves fewer
pub turn_falls : (p : Program) (a b : Moment) (tag : ℕ) (tags : List ℕ) → Advances p (record a { tags = tags }) b → length b.tags ≤ 65536
    → a.tags ≡ tag ∷ tags → turns_left p b < turns_left p a
turn_falls p a b tag tags on few e =
    ⊎_elim (λ (less : MovesFall p (record a { tags = tags }) b). fewer_moves (moves_at p b) (moves_at p a) _ _ less few)
    (λ (s : StandsStill p (record a { tags = tags }) b). fewer_tags (moves_at p b) (moves_at p a) _ _ s.moves
    (let one_less : length b.tags < length a.tags = omega (arith, ap length s.ready, ap length e) in one_less)) on

-- and so where that tag is passed over
pub passed_falls : (p : Program) (a : Moment) (tag : ℕ) (tags : List ℕ) → a.tags ≡ tag ∷ tags
    → turns_left p (record a { tags = tags }) < turns_left p a
passed_falls p a tag tags e = fewer_tags (moves_at p a) (moves_at p a) _ _ refl
    (let one_less : length tags < length a.tags = omega (arith, ap length e) in one_less)

-- and so does a round that is not calm
pub round_falls : (p : Program) (a b : Moment) (tags : List ℕ) (r : Result Bool Memory)
    → IfOk r (RoundIsCalm p (record a { tags = tags }) b) → length b.tags ≤ 65536 → IfOk r (TurnsFall p a b)
round_falls p a b tags (Ok true) calm few = λ go. never go
round_falls p a b tags (Ok false) less few = λ go. fewer_moves (moves_at p b) (moves_at p a) _ _ less few
round_falls p a b tags (Err m) calm few = tt

-- behind a calm round nobody can go on
pub calm_left : (p : Program) (a b : Moment) (r : Result Bool Memory) → IfOk r (RoundIsCalm p a b) → IfOk r (λ over. LeftWhere over b)
calm_left p a b (Ok true) calm = calm
calm_left p a b (Ok false) calm = tt
calm_left p a b (Err m) calm = tt

-- ---- runs that have stopped

-- with memory it goes on unless it is over
pub goes_on : (over no_memory : Bool) → no_memory ≡ false → not over ≡ not (over || no_memory)
goes_on true no_memory e = refl
goes_on false no_memory e = ap not (sym e)

-- without memory it does not
pub stops : (over : Bool) → false ≡ not (over || true)
stops true = refl
stops false = refl

-- nor where it is over
pub stopped_over : (s : SharedState) (over no_memory : Bool) → (over || no_memory) ≡ has_stopped s → over ≡ true
    → false ≡ not (has_stopped s)
stopped_over s true no_memory is e = ap not is
stopped_over s false no_memory is e = never (sym e)

-- nor where there was no memory
pub stopped_before : (s : SharedState) (over no_memory : Bool) → (over || no_memory) ≡ has_stopped s → no_memory ≡ true
    → false ≡ not (has_stopped s)
stopped_before s over true is e = stops over ∙ ap not is
stopped_before s over false is e = never (sym e)

-- what did neither has not stopped
pub not_stopped : {A : Type 0} (s : SharedState) (over no_memory : Bool) → (over || no_memory) ≡ has_stopped s → over ≡ false
    → no_memory ≡ false → has_stopped s ≡ true → A
not_stopped s true no_memory is e n stopped = never e
not_stopped s false true is e n stopped = never n
not_stopped s false false is e n stopped = never (sym stopped ∙ sym is)
