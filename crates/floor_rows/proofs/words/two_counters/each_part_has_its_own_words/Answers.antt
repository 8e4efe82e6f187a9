use Rattle.std.proofs.Common.{◌+◌, sym, ap, ◌∙◌}
use Rattle.worded.specs.Views.{has_tag}
use Rattle.joined_words.specs.Parts.{tags_in}
use Rattle.floor_rows.proofs.TwoCounters.{ten_zeros}
use Rattle.floor_rows.proofs.words.two_counters.each_part_has_its_own_words.Goals as goal

pub new_joint-requires-clause-quiet : goal.new_joint-requires-clause-quiet
new_joint-requires-clause-quiet g c i lt = ten_zeros i

pub new_joint-requires-clause-first : goal.new_joint-requires-clause-first
new_joint-requires-clause-first g c i lt is = ten_zeros (8 + i)

pub new_joint-requires-clause-second : goal.new_joint-requires-clause-second
new_joint-requires-clause-second g c i lt is = ten_zeros (9 + i)

pub split_in-right-requires-clause-seat : goal.split_in-right-requires-clause-seat
split_in-right-requires-clause-seat g c = (
  c.in_ok-table.ensures.seat.0,
  ap (λ m. m.0.key) c.in_ok-table.ensures.seat.1 ∙ sym c.in_ok-table.ensures.table.1,
)

pub split_in-right-requires-clause-new : goal.split_in-right-requires-clause-new
split_in-right-requires-clause-new g c = (
  ap (λ m. m.0.chief) c.in_ok-table.ensures.seat.1,
  ap (λ m. has_tag 0 (tags_in 1 m.0.given)) c.in_ok-table.ensures.seat.1,
)

pub count-requires-clause-seat : goal.count-requires-clause-seat
count-requires-clause-seat g c = (
  c.split_in-right.ensures.new.0 ∙ c.in_ok-table.ensures.seat.0,
  ap (λ v. v.key) c.split_in-right.ensures.whole.1 ∙ ap (λ m. m.0.key) c.in_ok-table.ensures.seat.1
      ∙ sym c.in_ok-table.ensures.table.1,
)

pub count-requires-clause-own : goal.count-requires-clause-own
count-requires-clause-own g c = ap (λ v. has_tag 0 (tags_in 1 v.tags)) c.split_in-right.ensures.whole.1

pub count-requires-2-clause-seat : goal.count-requires-2-clause-seat
count-requires-2-clause-seat g c = (
  c.split_in-right.ensures.same.0 ∙ c.in_ok-table.ensures.seat.0,
  ap (λ v. v.key) c.split_in-right.ensures.whole.0 ∙ ap (λ m. m.0.key) c.in_ok-table.ensures.seat.1
      ∙ sym c.in_ok-table.ensures.table.1,
)

pub count-requires-2-clause-own : goal.count-requires-2-clause-own
count-requires-2-clause-own g c = ap (λ v. has_tag 0 (tags_in 0 v.tags)) c.split_in-right.ensures.whole.0
    ∙ ap (λ m. has_tag 0 (tags_in 0 m.0.tags)) c.in_ok-table.ensures.seat.1
