-- Calls of Jobs leave the setting, and what is ready for one once it was seen attached.
use Rattle.std.specs.Prelude.{◌≡◌, ℕ, ◌<◌, ◌≤◌, true, List, [], is_some, refl}
use Rattle.std.proofs.Common.{sym, ap, ◌∙◌, subst, arith}
use Rattle.co_base.proofs.Orders.{order_same}
use Rattle.job_model.specs.declared.acts.JobEntry.{JobEntry}
use Rattle.job_model.specs.declared.acts.Reason.{Reason}
use Rattle.job_model.specs.declared.floor.CancelledNow.{CancelledNow}
use Rattle.job_model.specs.declared.floor.CancelledNow.TheVariants as cancelled
use Rattle.job_model.specs.declared.floor.Finished.{Finished}
use Rattle.job_model.specs.declared.floor.Finished.TheVariants as finished
use Rattle.job_model.specs.Histories.{replay}
use Rattle.job_model.specs.Floors.{Floor, SameSetting, HasRoom, MayCall, Looked}
use Rattle.job_model.specs.Answers.{CancelAnswer, FinishAnswer}
use Rattle.job_model.proofs.Spans.{setting_then}
use Rattle.job_tree.proofs.Endings.{caller_still}
use Rattle.floor_tests.specs.Shares.{IsReady}

-- two looks leave the setting
pub looks_same : (who : ℕ) (a b d : Floor) → Looked who [] a b → Looked who [] b d → SameSetting a d
looks_same who a b d h k = setting_then a b d h.same k.same

-- and the room that there is
pub looks_room : (who : ℕ) (a b d : Floor) → Looked who [] a b → Looked who [] b d → 2 ≤ a.spare → 0 < d.spare
looks_room who a b d h k le = omega (arith, h.spare, k.spare)

-- a Cancel leaves the setting, whatever it came to
pub cancel_same : (who row : ℕ) (reason : Reason) (a d : Floor) (r : CancelledNow) → CancelAnswer who row reason a d r → SameSetting a d
cancel_same who row reason a d cancelled.Now h = h.same
cancel_same who row reason a d cancelled.Already h = h.0.same

-- and so does a Finish
pub finish_same : (who row : ℕ) (a d : Floor) (r : Finished) → FinishAnswer who row a d r → SameSetting a d
finish_same who row a d (finished.Now end) h = h.same
finish_same who row a d finished.Already h = h.0.same
finish_same who row a d finished.NotYet h = h.0.same

-- the row was seen attached, and then room was made
pub ready_there : (who row : ℕ) (a b d : Floor) → SameSetting a b → a.callers who ≡ true → is_some (replay b.seen row) ≡ true
    → HasRoom 2 b d → IsReady who row d
ready_there who row a b d same can is m = record {
  can = record {
    caller = caller_still who a d (setting_then a b d same m.same) can;
    attached = ap (λ (es : List JobEntry). is_some (replay es row)) m.seen ∙ is;
  };
  room = m.room;
}

-- the same floor has the same setting
pub same_as : (a b : Floor) → b ≡ a → SameSetting a b
same_as a b e = subst (SameSetting a) (sym e) (record { shape = refl; alone = refl; callers = refl; order = order_same _; joint = refl })

-- who may call on a row may once room was made
pub may_roomed : (who row n : ℕ) (a b : Floor) → HasRoom n a b → MayCall who row a → MayCall who row b
may_roomed who row n a b m h = record {
  caller = caller_still who a b m.same h.caller;
  attached = ap (λ (es : List JobEntry). is_some (replay es row)) m.seen ∙ h.attached;
}
