-- A caller is the same after several calls.
use Rattle.std.proofs.Common.{refl, ◌∙◌}
use Rattle.job_tree.specs.declared.caller.JobCaller.{JobCaller}
use Rattle.job_tree.specs.Callers.{SameCaller}

pub caller_self : {F B W A : Type 0} (anchor : F → A) (a : JobCaller F B W) → SameCaller anchor a a
caller_self anchor a = record { floor = refl; book = refl; wakes = refl; who = refl; of_floor = refl }

pub caller_then : {F B W A : Type 0} (anchor : F → A) (a b c : JobCaller F B W) → SameCaller anchor a b → SameCaller anchor b c
    → SameCaller anchor a c
caller_then anchor a b c h k = record {
  floor = k.floor ∙ h.floor;
  book = k.book ∙ h.book;
  wakes = k.wakes ∙ h.wakes;
  who = k.who ∙ h.who;
  of_floor = k.of_floor ∙ h.of_floor;
}
