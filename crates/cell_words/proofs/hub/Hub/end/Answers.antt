use Rattle.std.proofs.Common.{◌++◌, sym, ap, ◌∙◌}
use Rattle.cell_words.specs.Seen.{NothingOf, on_channels}
use Rattle.word_rules.specs.Words.{maker}
use Rattle.cell_words.specs.Meetings.{SameOf}
use Rattle.worded.proofs.StepsOfSeats.{laws_ended}
use Rattle.joined_words.proofs.OrdersGoOn.{order_ended, end_answer}
use Rattle.word_rules.specs.Orders.{sides_of}
use Rattle.worded.proofs.TagsNotGiven.{none_ended}
use Rattle.cell_words.proofs.ActsOfTags.{same_acts, legal_at, nothing_of}
use Rattle.cell_words.proofs.OnTheFirstPart.{key_on, words_some, some_at, idle_ended}
use Rattle.cell_words.proofs.hub.Hub.end.Goals as goal

pub end_in-requires-clause-words : goal.end_in-requires-clause-words
end_in-requires-clause-words c = some_at (ap (λ x. x.shared.table_id) c.deref.ensures) (ap (λ x. x.shared.key) c.deref.ensures)
    (words_some c.args.self.now.sized)

pub invariant_of-main : goal.invariant_of-main
unfolding on_channels
invariant_of-main c =
    let l = laws_ended legal_at maker NothingOf nothing_of
    (key_on c.args.main.now.seat.me.0 _ (c.requires.main.1 ∙ sym (ap (λ x. x.shared.key) c.deref.ensures))) c.end_in.ensures.took in
    record { legal = l.legal_seen; ungiven = l.ungiven; nobody = none_ended c.end_in.ensures.whole }

pub returns-clause-main : goal.returns-clause-main
returns-clause-main c =
    let s = c.args.self.now.table.value.shared in
    let v = c.args.main.now.seat in
    let m = c.end_in.ensures.whole in
    idle_ended s.table_id s.key v c.args.pass.seat.me.0 c.end_in.new.main (v.me.0.seen ++ m.others) c.requires.main
    c.end_in.ensures.same m.now

pub returns-clause-ended : goal.returns-clause-ended
unfolding on_channels
returns-clause-ended c =
    let v = c.args.main.now.seat.me.0 in
    let u = c.args.pass.seat.me.0 in
    let w = c.end_in.new.main.me.0 in
    end_answer SameOf same_acts (on_channels v) (on_channels u) (on_channels w) (order_ended sides_of _ _ _ v u w c.end_in.ensures.whole)
    c.end_in.ensures.took
