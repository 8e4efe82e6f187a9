-- The lines of a coroutine that call nothing.
use Rattle.std.specs.Prelude.{◌≡◌, ℕ, ◌+◌, ◌-◌, ◌<◌, List, [], ◌∷◌, ◌++◌, Some, None, refl}
use Rattle.std.proofs.Common.{ap, ◌∙◌, subst, arith}
use Rattle.channel_model.specs.Floors.{Floor as ChannelFloor}
use Rattle.job_model.specs.declared.acts.JobNote.TheVariants as known
use Rattle.job_model.specs.Histories.{Legal}
use Rattle.job_model.specs.Floors.{Floor}
use Rattle.note_book.specs.declared.book.Item.TheVariants as item
use Rattle.call_meaning.specs.Telling.{items_in, knew}
use Rattle.call_meaning.specs.Calls.{rows_in}
use Rattle.call_meaning.proofs.HeardCalls.{both_nothing}
use Rattle.script_grammar.specs.declared.instructions.Operand.{Operand}
use Rattle.script_grammar.specs.declared.instructions.Instruction.TheVariants as line
use Rattle.script_grammar.specs.Programs.{Program}
use Rattle.script_grammar.specs.WellFormed.{IsProgram}
use Rattle.script_meaning.specs.declared.stage.Stage.TheVariants.{Unwinding}
use Rattle.script_meaning.specs.Shapes.{base_of}
use Rattle.script_meaning.specs.Configs.{Config, Entered, IsAt, in_repeat, in_each, into, with_entered, at_line, at_stage, next, with_result, operand}
use Rattle.script_meaning.specs.Moves.{Move}
use Rattle.script_meaning.proofs.LinesPlaced.{repeat_turns}
use Rattle.poll_states.specs.Frames.{Frame, config_of, items_of, LeavesTop, ChangesTop, at_poll}
use Rattle.poll_states.specs.Steps.{Stepped}
use Rattle.script_meaning.specs.Laws.{wait_of}
use Rattle.poll_states.proofs.Mild.{fail_mild, nothing_mild}
use Rattle.poll_states.proofs.Stepping.{self_jobs, self_channels, both_failed, no_wait, mild_step}

pub result_set : (p : Program) (c : ChannelFloor) (j : Floor) (f g : Frame) (o : Operand) → Legal j.shape j.seen
    → IsAt p f.tag (config_of f) (line.SetResult o) → g.tag ≡ f.tag
    → config_of g ≡ next (with_result (operand (config_of f) o) (config_of f)) → items_of g ≡ items_of f
    → Stepped p (at_poll c j f) (at_poll c j g)
unfolding items_in rows_in
result_set p c j f g o l at t config items =
    mild_step p c c j j f g [] _ l (Move.results (config_of f) o at) (both_nothing (self_channels f.tag c) (self_jobs f.tag j) t items)
    (nothing_mild (base_of p)) t config
    (λ w e. no_wait g _ w config refl e)

pub failed_by : (p : Program) (c : ChannelFloor) (j : Floor) (f g : Frame) (v : ℕ) → Legal j.shape j.seen
    → IsAt p f.tag (config_of f) (line.Fail v) → g.tag ≡ f.tag → config_of g ≡ at_stage (Unwinding (Some f.tag)) (config_of f)
    → items_of g ≡ items_of f ++ item.Job (known.Fail v) ∷ [] → Stepped p (at_poll c j f) (at_poll c j g)
unfolding items_in rows_in
failed_by p c j f g v l at t config items =
    mild_step p c c j j f g (knew (known.Fail v) ∷ []) _ l (Move.fails (config_of f) v at)
    (both_failed v t items (self_channels f.tag c) (self_jobs f.tag j))
    (fail_mild (base_of p) v) t config (λ w e. no_wait g _ w config refl e)

-- ---- what is entered and left

-- a line that calls nothing and notes nothing
moved : (p : Program) (c : ChannelFloor) (j : Floor) (f g : Frame) (y : Config) → Legal j.shape j.seen → Move p f.tag (config_of f) [] y
    → wait_of y.stage ≡ None → g.tag ≡ f.tag → config_of g ≡ y → items_of g ≡ items_of f → Stepped p (at_poll c j f) (at_poll c j g)
unfolding items_in rows_in
moved p c j f g y l move none t config items =
    mild_step p c c j j f g [] y l move (both_nothing (self_channels f.tag c) (self_jobs f.tag j) t items) (nothing_mild (base_of p)) t
    config
    (λ w e. no_wait g y w config none e)

-- a repeat is entered, which has turns
pub has_repeated : (p : Program) (c : ChannelFloor) (j : Floor) (f m g : Frame) (turns left : ℕ) → IsProgram p → Legal j.shape j.seen
    → IsAt p f.tag (config_of f) (line.Repeat turns) → left ≡ turns - 1 → config_of m ≡ config_of f → m.tag ≡ f.tag
    → items_of m ≡ items_of f
    → g.tag ≡ m.tag → config_of g ≡ into (in_repeat m.line left) (config_of m) → items_of g ≡ items_of m
    → Stepped p (at_poll c j f) (at_poll c j g)
has_repeated p c j f m g turns left ok l at is same tag items t config i =
    let some = repeat_turns p f.tag f.line turns ok at.line_is in
    let more : turns ≡ left + 1 = omega (arith, some.0, is) in
    moved p c j f g (into (in_repeat f.line left) (config_of f)) l
    (Move.repeats (config_of f) left (subst (λ n. IsAt p f.tag (config_of f) (line.Repeat n)) more at)) refl (t ∙ tag) (config
    ∙ ap (λ (x : Config). into (in_repeat x.line left) x) same) (i ∙ items)

-- a turn of a repeat ends, and the next one begins
pub turns_again : (p : Program) (c : ChannelFloor) (j : Floor) (f m g : Frame) (head left fewer : ℕ) → Legal j.shape j.seen
    → IsAt p f.tag (config_of f) line.End → (around : List Entered) × ((config_of f).entered ≡ in_repeat head left ∷ around) → 0 < left
    → fewer ≡ left - 1
    → m.tag ≡ f.tag → ChangesTop (in_repeat head fewer) (config_of f) (config_of m) → items_of m ≡ items_of f → g.tag ≡ m.tag
    → config_of g ≡ at_line (head + 1) (config_of m) → items_of g ≡ items_of m → Stepped p (at_poll c j f) (at_poll c j g)
turns_again p c j f m g head left fewer l at top some is tag changes items t config i =
    let more : left ≡ fewer + 1 = omega (arith, some, is) in
    let above : (config_of f).entered ≡ in_repeat head (fewer + 1) ∷ top.0 = top.1 ∙ ap (λ n. in_repeat head n ∷ top.0) more in
    moved p c j f g (at_line (head + 1) (with_entered (in_repeat head fewer ∷ top.0) (config_of f))) l
    (Move.turns_again (config_of f) head fewer top.0 at above) refl (t ∙ tag)
    (config ∙ ap (at_line (head + 1)) (changes (in_repeat head left) top.0 top.1)) (i ∙ items)

-- the last one ends
pub turns_no_more : (p : Program) (c : ChannelFloor) (j : Floor) (f m g : Frame) (head left : ℕ) → Legal j.shape j.seen
    → IsAt p f.tag (config_of f) line.End → (around : List Entered) × ((config_of f).entered ≡ in_repeat head left ∷ around) → left ≡ 0
    → m.tag ≡ f.tag → LeavesTop (config_of f) (config_of m) → items_of m ≡ items_of f → g.tag ≡ m.tag → config_of g ≡ next (config_of m)
    → items_of g ≡ items_of m → Stepped p (at_poll c j f) (at_poll c j g)
turns_no_more p c j f m g head left l at top none tag leaves items t config i =
    let above : (config_of f).entered ≡ in_repeat head 0 ∷ top.0 = top.1 ∙ ap (λ n. in_repeat head n ∷ top.0) none in
    moved p c j f g (next (with_entered top.0 (config_of f))) l (Move.turns_no_more (config_of f) head top.0 at above) refl (t
    ∙ tag) (config ∙ ap next (leaves (in_repeat head left) top.0 top.1)) (i ∙ items)

-- a turn of an each ends
pub receives_again : (p : Program) (c : ChannelFloor) (j : Floor) (f m g : Frame) (head : ℕ) → Legal j.shape j.seen
    → IsAt p f.tag (config_of f) line.End → (around : List Entered) × ((config_of f).entered ≡ in_each head ∷ around)
    → m.tag ≡ f.tag → LeavesTop (config_of f) (config_of m) → items_of m ≡ items_of f → g.tag ≡ m.tag
    → config_of g ≡ at_line head (config_of m) → items_of g ≡ items_of m → Stepped p (at_poll c j f) (at_poll c j g)
receives_again p c j f m g head l at top tag leaves items t config i =
    moved p c j f g (at_line head (with_entered top.0 (config_of f))) l (Move.receives_again (config_of f) head top.0 at top.1) refl (t
    ∙ tag) (config ∙ ap (at_line head) (leaves (in_each head) top.0 top.1)) (i ∙ items)
