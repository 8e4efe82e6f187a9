-- What a legal history keeps of its waits and places, and that a wait is settled once and withdrawn once.
use Rattle.std.specs.Prelude.{◌≡◌, ℕ, ◌≤◌, Bool, true, false, cond, List, [], ◌∷◌, refl, if◌then◌else◌}
use Rattle.std.specs.List.{list_any}
use Rattle.std.proofs.Common.{arith}
use Rattle.co_base.specs.declared.names.WaitId.{WaitId}
use Rattle.channel_model.specs.declared.acts.Act.{Act}
use Rattle.channel_model.specs.declared.acts.Act.TheVariants.{Settle}
use Rattle.channel_model.specs.declared.acts.Entry.{Entry}
use Rattle.channel_model.specs.Channels.{Shape, State, same_wait, start}
use Rattle.channel_model.specs.Effects.{after}
use Rattle.channel_model.specs.Histories.{replay, acts_in, Legal}
use Rattle.channel_model.specs.Answers.{IsSettledWait}
use Rattle.channel_model.specs.Fates.{withdraws}
use Rattle.channel_model.specs.Laws.{how_many, settles, one_if, settlements_of, resolutions_from}
use Rattle.channel_model.proofs.OneEntry.{settlements_of_bound, resolutions_of_bound, settled_by_one}
use Rattle.channel_fates.proofs.Appended.{any_count, count_any}
use Rattle.channel_fates.proofs.Traced.{Traced, replay_traced}
use Rattle.tally_laws.specs.Kinds.{settles_wait}
use Rattle.tally_laws.proofs.Given.{Given, replay_given}
use Rattle.channel_fates.proofs.FourEntries.{withdraw_resolves}

pub record Kept (shape : Shape) (acts : List Act) (s : State) : Type 0 where
  pub traced : Traced shape acts s
  pub given : Given shape acts s
  pub settled_once : (w : WaitId) → how_many (settles_wait w) acts ≤ 1
  pub withdrawn_once : (w : WaitId) → how_many (withdraws w) acts ≤ 1
  pub settled : (w : WaitId) → list_any (settles_wait w) acts ≡ true → IsSettledWait (s.waits w)
  pub settles : (w : WaitId) → IsSettledWait (s.waits w) → list_any (settles_wait w) acts ≡ true

same_one : (b : Bool) → ◌≡◌ {A = ℕ} (cond b 1 0) (if b then 1 else 0)
same_one true = refl
same_one false = refl

settle_one : (w : WaitId) (a : Act) → ◌≡◌ {A = ℕ} (cond (settles_wait w a) 1 0) (one_if w (settles a))
settle_one w (Settle v outcome) = same_one (same_wait w v)
settle_one w other = refl

settle_counts : (w : WaitId) (es : List Entry) → how_many (settles_wait w) (acts_in es) ≡ settlements_of w es
unfolding settlements_of
settle_counts w [] = refl
settle_counts w (e ∷ es) = let k = settle_counts w es in let a = settle_one w e.act in omega arith

withdraw_counts : (w : WaitId) (s : State) (es : List Entry) → how_many (withdraws w) (acts_in es) ≤ resolutions_from w s es
unfolding resolutions_from
withdraw_counts w s [] = omega arith
withdraw_counts w s (e ∷ es) = let k = withdraw_counts w (after s e.who e.act) es in let a = withdraw_resolves w s e.act in omega arith

module _ (shape : Shape) (history : List Entry) (l : Legal shape history) where
  settled_in : (w : WaitId) → list_any (settles_wait w) (acts_in history) ≡ true → IsSettledWait ((replay history).waits w)
  settled_in w e =
      let n = any_count (settles_wait w) (acts_in history) e in
      let k = settle_counts w history in
      let b = settlements_of_bound shape history w l in
      (settled_by_one shape history w l).0 (omega arith)

  settles_in : (w : WaitId) → IsSettledWait ((replay history).waits w) → list_any (settles_wait w) (acts_in history) ≡ true
  settles_in w h =
      let n = (settled_by_one shape history w l).1 h in
      let k = settle_counts w history in
      count_any (settles_wait w) (acts_in history) (omega arith)

  pub replay_kept : Kept shape (acts_in history) (replay history)
  replay_kept = record {
    traced = replay_traced shape history l;
    given = replay_given shape history l;
    settled_once = λ w. let k = settle_counts w history in let b = settlements_of_bound shape history w l in omega arith;
    withdrawn_once = λ w. let k = withdraw_counts w start history in let b = resolutions_of_bound shape history w l in omega arith;
    settled = settled_in;
    settles = settles_in;
  }
