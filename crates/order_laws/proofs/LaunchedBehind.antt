-- The coroutine was launched before it found the channel empty, and the send came before the launch: so it was not empty.
use Rattle.std.specs.Prelude.{◌≡◌, ℕ, ◌≤◌, false, List, [], ◌∷◌, take}
use Rattle.std.proofs.Common.{ap, sym, ◌∙◌, subst, arith, ⊎_elim}
use mathlib.Core.List.{IsPrefix}
use Rattle.channel_model.specs.declared.acts.Act.TheVariants.{Put}
use Rattle.channel_model.specs.declared.acts.ChannelNote.TheVariants as heard
use Rattle.channel_model.specs.Answers.{IsEmptyToTry}
use Rattle.channel_model.specs.Histories.{replay, acts_of}
use Rattle.job_model.specs.declared.acts.JobAct.TheVariants.{Attach}
use Rattle.job_model.specs.Trees.{plain}
use Rattle.job_model.specs.Histories.{replay as replay_jobs, acts_of as job_acts_of}
use Rattle.note_book.specs.declared.book.Item.{Item}
use Rattle.note_book.specs.declared.book.Item.TheVariants as item
use Rattle.call_meaning.specs.Telling.{Told, on_jobs, MayRun, saw, items_in}
use Rattle.call_meaning.specs.Facts.{IsRunning}
use Rattle.call_meaning.specs.Stories.{Moment}
use Rattle.script_grammar.specs.Programs.{Program}
use Rattle.script_meaning.specs.Configs.{Config}
use Rattle.script_meaning.specs.Books.{story}
use Rattle.script_meaning.proofs.FirstNotes.{BeginsBy, begins_by}
use Rattle.co_base.specs.Orders.{Side, channel_entries_in, job_entries_in}
use Rattle.call_meaning.specs.Orders.{IsTrueAlong}
use Rattle.run_laws.specs.Orders.{RunsAlong}
use Rattle.call_meaning.proofs.OrderCounts.{fewer_channel_entries, fewer_job_entries}
use Rattle.order_laws.specs.StaleAnswers.{noted, job_noted}
use Rattle.order_laws.proofs.PointsNoted.{noted_at}
use Rattle.run_laws.proofs.OneOrder.{one_goes_on}

-- how far the two histories are where main has sent and has not launched, where the coroutine may run, and where it has done nothing and
-- the channel is empty
pub record TellsApart (now : Moment) : Type 0 where
  pub sent : (n : ℕ) → acts_of 0 (take n now.channels) ≡ Put 0 0 1 ∷ [] → 1 ≤ n
  pub not_launched : (n : ℕ) → job_acts_of 0 (take n now.jobs) ≡ [] → n ≡ 0
  pub running : (n : ℕ) → IsRunning (replay_jobs (take n now.jobs) 1) → 1 ≤ n
  pub nothing_came : (n : ℕ) → acts_of 1 (take n now.channels) ≡ [] → IsEmptyToTry 0 (replay (take n now.channels)) → n ≡ 0

module _ (p : Program) (now : Moment) (order : List Side) (tells : TellsApart now) (rest : List Item) where
  -- the launch does not come before what the coroutine tells first
  crossed : (launch first empty : List Side) → IsPrefix launch order → IsPrefix first order → IsPrefix first empty
      → 1 ≤ channel_entries_in launch → job_entries_in launch ≡ 0 → 1 ≤ job_entries_in first → channel_entries_in empty ≡ 0 → ⊥
  crossed launch first empty a b c sent none attached nothing =
      ⊎_elim
      (λ (p : IsPrefix launch first).
      let few = fewer_channel_entries launch first p in
      let more = fewer_channel_entries first empty c in
      let no_way : ⊥ = omega (arith, few, more, sent, nothing) in
      no_way)
      (λ (p : IsPrefix first launch).
      let few = fewer_job_entries first launch p in
      let no_way : ⊥ = omega (arith, few, attached, none) in
      no_way)
      (one_goes_on launch first order a b)

  -- where it told first that its Job might run
  begun : (launch : List Side) → IsPrefix launch order → 1 ≤ channel_entries_in launch → job_entries_in launch ≡ 0
      → (more : List Told) → items_in more ≡ item.Channel (heard.Empty 0) ∷ rest
      → IsTrueAlong (story p 1 now) order [] [] (on_jobs (MayRun 1) ∷ more) → ⊥
  unfolding IsTrueAlong
  begun launch a sent none more written (first, so, after) =
      let empty = noted_at (story p 1 now) order [] first more [] (item.Channel (heard.Empty 0)) rest written after in
      crossed launch first empty.0 a so.not_after empty.1.not_before sent none
      (tells.running (job_entries_in first) so.holds)
      (tells.nothing_came (channel_entries_in empty.0) empty.1.channel_acts empty.1.holds)

  told_first : (launch : List Side) → IsPrefix launch order → 1 ≤ channel_entries_in launch → job_entries_in launch ≡ 0
      → (told : List Told) (x : Config) → BeginsBy 1 told x → items_in told ≡ item.Channel (heard.Empty 0) ∷ rest
      → IsTrueAlong (story p 1 now) order [] [] told → ⊥
  unfolding items_in
  told_first launch a sent none told x (BeginsBy.fresh e s) written t =
      let no_items : [] ≡ item.Channel (heard.Empty 0) ∷ rest = sym (ap items_in e) ∙ written in
      cc
  told_first launch a sent none told x (BeginsBy.runs more e) written t =
      begun launch a sent none more (sym (ap items_in e) ∙ written) (subst (IsTrueAlong (story p 1 now) order [] []) e t)
  told_first launch a sent none told x (BeginsBy.sees more e) written t =
      let other : items_in (saw 1 ∷ more) ≡ item.Channel (heard.Empty 0) ∷ rest = sym (ap items_in e) ∙ written in
      cc

  -- main sent, and then launched; the coroutine found the channel empty
  pub launched_behind : (of_main : List Item) (x y : Config)
      → RunsAlong p 0 now order (noted (Put 0 0 1) ∷ job_noted (Attach 0 1 plain 1 false) ∷ of_main) x
      → RunsAlong p 1 now order (item.Channel (heard.Empty 0) ∷ rest) y → ⊥
  launched_behind of_main x y main child =
      let launch = noted_at (story p 0 now) order [] [] main.told (noted (Put 0 0 1) ∷ []) (job_noted (Attach 0 1 plain 1 false)) of_main
      main.written main.is_true in
      told_first launch.0 launch.1.not_after (tells.sent (channel_entries_in launch.0) launch.1.channel_acts)
      (tells.not_launched (job_entries_in launch.0) launch.1.job_acts) child.told y
      (begins_by p 1 child.told y (λ e. cc) child.reaches) child.written child.is_true
