-- What two seats of one table know when the one has heard the other.
use Rattle.std.specs.Prelude.{◌≡◌, ℕ, suc, false, List, [], ◌∷◌, length, refl}
use Rattle.std.proofs.Common.{ap, sym, ◌∙◌, arith}
use mathlib.Core.List.{IsPrefix}
use Rattle.co_base.specs.Orders.{channel_entries_in, job_entries_in}
use Rattle.either.specs.declared.Either.{Either}
use Rattle.either.specs.declared.Either.TheVariants.{Left, Right}
use Rattle.channel_model.specs.declared.acts.Entry.{Entry}
use Rattle.channel_model.specs.Histories.{Legal}
use Rattle.call_meaning.specs.Orders.{HasHeard, HasTold}
use Rattle.worded.proofs.TagsAndPrefixes.{no_entries}
use Rattle.joined_words.specs.Parts.{entries_in, tag_in, tags_in}
use Rattle.joined_words.specs.Joints.{first_of, second_of, joint_who}
use Rattle.joined_words.specs.JointParts.{is_second}
use Rattle.joined_words.specs.Seen.{order_in}
use Rattle.joined_words.proofs.PartsOfLists.{has_tag-in, entries_of-in}
use Rattle.joined_words.proofs.OrdersGoOn.{order_of_prefix}
use Rattle.word_rules.specs.declared.layout.Layout.{Layout}
use Rattle.word_rules.specs.declared.size.ForestSize.{ForestSize}
use Rattle.word_rules.specs.declared.deed.Deed.{Deed}
use Rattle.word_rules.specs.declared.deed.Deed.TheVariants.{Act, Claim, StoreLink, StoreJob}
use Rattle.word_rules.specs.Deeds.{shape_of, history_of, doer, word_count, IsDone, Fits}
use Rattle.word_rules.specs.Orders.{sides_of}
use Rattle.word_rules.specs.Words as cells
use Rattle.cell_words.specs.declared.hub.Hub.{Hub}
use Rattle.cell_words.specs.declared.pass.Pass.{Pass}
use Rattle.cell_words.specs.Seen.{on_channels}
use Rattle.cell_calls.specs.HubFloors.{hub_floor}
use Rattle.job_words.specs.declared.pass.JobPass.{JobPass}
use Rattle.job_words.specs.Passes.{floor_seen}
use Rattle.job_words.specs.Forests.{seen_by}
use Rattle.job_words.specs.Meetings.{NothingOf}
use Rattle.job_words.proofs.PassesMeet.{nothing_of}
use Rattle.shared_floors.specs.Meetings.{NoJobsOfOthers, NoRowsOfOthers}
use Rattle.word_seats.specs.Seats.{hub_anchor, may_act_beside}
use Rattle.word_seats.proofs.Given.{ungiven}

-- ---- the order counts the entries

channels_count : (log : List (Either Entry Deed)) → channel_entries_in (order_in sides_of log) ≡ length (entries_in first_of log)
channels_count [] = refl
channels_count (Left e ∷ log) = ap suc (channels_count log)
channels_count (Right (Act e) ∷ log) = channels_count log
channels_count (Right (Claim who r) ∷ log) = channels_count log
channels_count (Right (StoreLink who r w) ∷ log) = channels_count log
channels_count (Right (StoreJob who r w) ∷ log) = channels_count log

jobs_count : (log : List (Either Entry Deed)) → job_entries_in (order_in sides_of log) ≡ length (history_of (entries_in second_of log))
unfolding history_of
jobs_count [] = refl
jobs_count (Left e ∷ log) = jobs_count log
jobs_count (Right (Act e) ∷ log) = ap suc (jobs_count log)
jobs_count (Right (Claim who r) ∷ log) = jobs_count log
jobs_count (Right (StoreLink who r w) ∷ log) = jobs_count log
jobs_count (Right (StoreJob who r w) ∷ log) = jobs_count log

pub has_heard : (h : Hub) (p : Pass) (j : JobPass) → IsPrefix p.seat.me.0.seen j.seat.me.0.seen
    → HasHeard (hub_floor h p) (floor_seen (seen_by j))
unfolding on_channels
has_heard h p j pre = record {
  order = order_of_prefix sides_of p.seat.me.0.seen j.seat.me.0.seen pre;
  channels = channels_count p.seat.me.0.seen;
  jobs = jobs_count j.seat.me.0.seen;
}

pub has_told : (h : Hub) (p : Pass) (j : JobPass) → IsPrefix j.seat.me.0.seen p.seat.me.0.seen
    → HasTold (hub_floor h p) (floor_seen (seen_by j))
unfolding on_channels
has_told h p j pre = record {
  order = order_of_prefix sides_of j.seat.me.0.seen p.seat.me.0.seen pre;
  channels = channels_count p.seat.me.0.seen;
  jobs = jobs_count j.seat.me.0.seen;
}

-- ---- tags under which nobody acts

-- a pass that gives out tags, and has seen all that the other has
pub nothing_beside : (h : Hub) (p : Pass) (j : JobPass) → IsPrefix j.seat.me.0.seen p.seat.me.0.seen → (k : ℕ)
    → may_act_beside (hub_anchor h p) k ≡ false → NothingOf k (floor_seen (seen_by j))
unfolding on_channels
nothing_beside h p j pre k free =
    let two = ungiven p.seat.me.0.chief (tags_in 1 p.seat.me.0.given) k free in
    let none = p.nobody two.0 (tag_in 1 k) (sym (has_tag-in 1 k p.seat.me.0.given (omega arith)) ∙ two.1) in
    let part = is_second (λ (layout : Layout). Legal layout.kinds) (λ (layout : Layout). cells.Fits layout.kinds) cells.maker
    (λ (layout : Layout). cells.word_count layout.kinds) (λ (size : ForestSize). IsDone (shape_of size)) Fits doer word_count in
    let v = seen_by j in
    nothing_of v.key v.tags k v.seen v.order j.done
    (entries_of-in second_of (joint_who cells.maker doer) doer 1 (omega arith) part.own part.apart k j.seat.me.0.seen
    ∙ ap (entries_in second_of) (no_entries (joint_who cells.maker doer) (tag_in 1 k) j.seat.me.0.seen p.seat.me.0.seen pre none))

pub no_jobs_beside : (h : Hub) (p : Pass) (j : JobPass) → IsPrefix j.seat.me.0.seen p.seat.me.0.seen
    → NoJobsOfOthers (may_act_beside (hub_anchor h p)) (floor_seen (seen_by j))
no_jobs_beside h p j pre k free = (nothing_beside h p j pre k free).acts

pub no_rows_beside : (h : Hub) (p : Pass) (j : JobPass) → IsPrefix j.seat.me.0.seen p.seat.me.0.seen
    → NoRowsOfOthers (may_act_beside (hub_anchor h p)) (floor_seen (seen_by j))
no_rows_beside h p j pre r k free other = (nothing_beside h p j pre k free).rows r other
