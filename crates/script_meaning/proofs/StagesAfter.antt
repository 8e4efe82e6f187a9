-- What is false of a stage, and of each that an answer leads to, is false after the answer.
use Rattle.std.specs.Prelude.{◌≡◌, ℕ, Bool, false, Option, Some}
use Rattle.co_base.specs.declared.names.WaitId.{WaitId}
use Rattle.call_meaning.specs.ChannelCalls.{Answer}
use Rattle.script_grammar.specs.declared.instructions.Instruction.{Instruction}
use Rattle.script_grammar.specs.Programs.{Program}
use Rattle.script_meaning.specs.declared.stage.Stage.{Stage}
use Rattle.script_meaning.specs.declared.stage.Stage.TheVariants.{Running, Waiting, SeesJob, Unwinding}
use Rattle.script_meaning.specs.Configs.{Config}
use Rattle.script_meaning.specs.Lines.{After}

pub after_stage : (test : Stage → Bool) → ((w : WaitId) → test (Waiting w) ≡ false)
    → ((failure : Option ℕ) → test (Unwinding failure) ≡ false) → test Running ≡ false → test SeesJob ≡ false
    → (p : Program) (k : ℕ) (x : Config) (i : Instruction) (a : Answer) (y : Config) → test x.stage ≡ false → After p k x i a y
    → test y.stage ≡ false
after_stage test waits unwinds runs sees p k x _ _ _ o (After.waits i w) = waits w
after_stage test waits unwinds runs sees p k x _ _ _ o (After.no_place i) = unwinds (Some k)
after_stage test waits unwinds runs sees p k x _ _ _ o After.looks_again = o
after_stage test waits unwinds runs sees p k x _ _ _ o (After.awaited job v) = sees
after_stage test waits unwinds runs sees p k x _ _ _ o other = runs
