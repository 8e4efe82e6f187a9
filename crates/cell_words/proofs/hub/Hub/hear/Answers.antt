use Rattle.std.proofs.Common.{◌++◌, ap, ◌∙◌, sym}
use Rattle.worded.proofs.StepsOfSeats.{laws_met}
use Rattle.worded.proofs.TagsNotGiven.{none_met}
use Rattle.joined_words.proofs.OrdersGoOn.{order_met, sees_of_met}
use Rattle.word_rules.specs.Words.{maker}
use Rattle.word_rules.specs.Orders.{sides_of}
use Rattle.cell_words.specs.Seen.{NothingOf, on_channels}
use Rattle.cell_words.proofs.ActsOfTags.{legal_at, nothing_of}
use Rattle.cell_words.proofs.OnTheFirstPart.{key_on, heard_on, words_some, some_at, idle_after}
use Rattle.cell_words.proofs.hub.Hub.hear.Goals as goal

pub hear-requires-clause-words : goal.hear-requires-clause-words
hear-requires-clause-words c = some_at (ap (λ x. x.shared.table_id) c.deref.ensures) (ap (λ x. x.shared.key) c.deref.ensures)
    (words_some c.args.self.now.sized)

pub invariant_of-pass : goal.invariant_of-pass
unfolding on_channels
invariant_of-pass c =
    let l = laws_met legal_at maker NothingOf nothing_of (key_on c.args.pass.now.seat.me.0 _ (c.requires.of.1
    ∙ sym (ap (λ x. x.shared.key) c.deref.ensures))) c.hear.ensures.met in
    record { legal = l.legal_seen; ungiven = l.ungiven; nobody = none_met c.hear.ensures.whole }

pub returns-clause-of : goal.returns-clause-of
returns-clause-of c =
    let s = c.args.self.now.table.value.shared in
    let v = c.args.pass.now.seat in
    let m = c.hear.ensures.whole in
    idle_after s.table_id s.key v c.hear.new.seat (v.me.0.seen ++ m.others) c.requires.of c.hear.ensures.same.0 m.now

pub returns-clause-sees : goal.returns-clause-sees
unfolding on_channels
returns-clause-sees c =
    let v = c.args.pass.now.seat.me.0 in
    let w = c.hear.new.seat.me.0 in
    let o = order_met sides_of _ _ _ v c.args.other.now.me.0.seen w c.hear.ensures.whole in
    sees_of_met (on_channels v) (on_channels w) (heard_on v c.requires.of.2) (o.0, o.2) c.hear.ensures.met
