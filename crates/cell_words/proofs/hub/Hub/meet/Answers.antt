use Rattle.std.proofs.Common.{◌++◌, ap, sym, ◌∙◌}
use Rattle.cell_words.specs.Seen.{NothingOf, on_channels}
use Rattle.word_rules.specs.Words.{maker}
use Rattle.cell_words.specs.Meetings.{SameOf}
use Rattle.worded.proofs.StepsOfSeats.{laws_met}
use Rattle.joined_words.proofs.OrdersGoOn.{order_met, meet_answer}
use Rattle.word_rules.specs.Orders.{sides_of}
use Rattle.worded.proofs.TagsNotGiven.{none_met}
use Rattle.cell_words.proofs.ActsOfTags.{same_acts, legal_at, nothing_of}
use Rattle.cell_words.proofs.OnTheFirstPart.{key_on, heard_on, words_some, some_at, idle_after}
use Rattle.cell_words.proofs.hub.Hub.meet.Goals as goal

pub meet_in-requires-clause-words : goal.meet_in-requires-clause-words
meet_in-requires-clause-words c = some_at (ap (λ x. x.shared.table_id) c.deref.ensures) (ap (λ x. x.shared.key) c.deref.ensures)
    (words_some c.args.self.now.sized)

pub invariant_of-a : goal.invariant_of-a
unfolding on_channels
invariant_of-a c =
    let l = laws_met legal_at maker NothingOf nothing_of (key_on c.args.a.now.seat.me.0 _ (c.requires.a.1
    ∙ sym (ap (λ x. x.shared.key) c.deref.ensures))) c.meet_in.ensures.met in
    record { legal = l.legal_seen; ungiven = l.ungiven; nobody = none_met c.meet_in.ensures.whole }

pub returns-clause-a : goal.returns-clause-a
returns-clause-a c =
    let s = c.args.self.now.table.value.shared in
    let v = c.args.a.now.seat in
    let m = c.meet_in.ensures.whole in
    idle_after s.table_id s.key v c.meet_in.new.seat (v.me.0.seen ++ m.others) c.requires.a c.meet_in.ensures.same.0 m.now

pub returns-clause-met : goal.returns-clause-met
unfolding on_channels
returns-clause-met c =
    let v = c.args.a.now.seat.me.0 in
    let u = c.args.b.now.seat.me.0 in
    let w = c.meet_in.new.seat.me.0 in
    meet_answer SameOf same_acts (on_channels v) (on_channels u) (on_channels w) (heard_on v c.requires.a.2)
    (order_met sides_of _ _ _ v u.seen w c.meet_in.ensures.whole) c.meet_in.ensures.met

pub returns-clause-same : goal.returns-clause-same
returns-clause-same c = ap on_channels c.meet_in.ensures.other
