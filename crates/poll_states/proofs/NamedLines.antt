-- The lines of a coroutine that name a Job.
use Rattle.std.specs.Prelude.{◌≡◌, ℕ, false, [], Option, Some, slice_get, refl}
use Rattle.std.proofs.Common.{sym, ap, ◌∙◌, subst}
use Rattle.job_model.specs.Histories.{Legal}
use Rattle.script_grammar.specs.declared.instructions.Instruction.{Instruction}
use Rattle.script_grammar.specs.declared.instructions.Instruction.TheVariants as line
use Rattle.script_grammar.specs.Blocks.{job_used}
use Rattle.call_meaning.specs.Seen.{SeenOnBoth}
use Rattle.script_grammar.specs.Programs.{Program}
use Rattle.script_meaning.specs.Shapes.{base_of}
use Rattle.script_meaning.specs.Configs.{Config, IsAt, innermost}
use Rattle.poll_states.specs.declared.answers.Answer.{Answer}
use Rattle.poll_states.specs.Frames.{Frame, config_of, items_of, SeenAtPoll, at_poll, both_of, StandsAt}
use Rattle.poll_states.specs.Calls.{enters}
use Rattle.poll_states.specs.Named.{NamedTells, after_named}
use Rattle.poll_states.specs.Steps.{Stepped}
use Rattle.poll_states.proofs.LineNeeds.{all_same, jobs_same}
use Rattle.poll_states.proofs.JobLines.{has_started, has_cancelled}
use Rattle.poll_states.proofs.WaitsForEnds.{has_joined, has_awaited}

pub naming_enters : (i : Instruction) (job : ℕ) → job_used i ≡ Some job → enters i ≡ false
naming_enters (line.Each n) job e = cc
naming_enters other job e = refl

pub has_named : (p : Program) (base : ℕ) (x : SeenAtPoll) (m : SeenOnBoth) (g : Frame) (i : Instruction) (job own row : ℕ)
    (a : Option Answer) → base ≡ base_of p → Legal m.jobs.shape m.jobs.seen → StandsAt p x → IsAt p x.frame.tag (config_of x.frame) i
    → job_used i ≡ Some job → own ≡ innermost x.frame.tag (config_of x.frame) → slice_get x.frame.rows.items job ≡ Some row
    → NamedTells i base own row (both_of x) m a → m.who ≡ x.frame.tag → g.tag ≡ x.frame.tag
    → config_of g ≡ after_named p x.frame.tag (config_of x.frame) i a → items_of g ≡ m.items → Stepped p x (at_poll m.channels m.jobs g)
has_named p base x m g i job own row a e l h at uses is named_row did who t config items = by_line i at (row_of uses) did config
  where
    before : Config
    before = config_of x.frame

    some_same : {A : Type 0} {a b : A} → Some a ≡ Some b → a ≡ b
    some_same e = cc

    -- the row of the name that the line uses
    row_of : {o : Option ℕ} → o ≡ Some job → (n : ℕ) → o ≡ Some n → slice_get x.frame.rows.items n ≡ Some row
    row_of u n e = let same : job ≡ n = some_same (sym u ∙ e) in subst (λ k. slice_get x.frame.rows.items k ≡ Some row) same named_row

    by_line : (i : Instruction) → IsAt p x.frame.tag before i
        → ((n : ℕ) → job_used i ≡ Some n → slice_get x.frame.rows.items n ≡ Some row) → NamedTells i base own row (both_of x) m a
        → config_of g ≡ after_named p x.frame.tag before i a → Stepped p x (at_poll m.channels m.jobs g)
    by_line (line.Start n) at named did config =
        has_started p x.channels m.channels x.jobs m.jobs x.frame g n row did.1.now did.1.heard l at (named n refl)
        (jobs_same [] x.jobs m.jobs m.who x.frame g m.items _ did.1.noted t items) t
        (config ∙ ap (after_named p x.frame.tag before (line.Start n)) did.0)
    by_line (line.Cancel n) at named did config =
        has_cancelled p x.channels m.channels x.jobs m.jobs x.frame g n row did.1.count did.1.heard l h at (named n refl)
        (all_same row did.1.count x.jobs m.jobs m.who x.frame g m.items did.1.all t items) t
        (config ∙ ap (after_named p x.frame.tag before (line.Cancel n)) did.0)
    by_line (line.Join n) at named did config =
        has_joined p base x m g n own row did.how e h at is (named n refl) did.answer who t
        (config ∙ ap (after_named p x.frame.tag before (line.Join n)) did.answer_is) items
    by_line (line.Await n) at named did config =
        has_awaited p base x m g n row did.how e h at (named n refl) did.answer who t
        (config ∙ ap (after_named p x.frame.tag before (line.Await n)) did.answer_is) items
    by_line other at named did config = absurd did
