use Rattle.std.proofs.Common.{sym, ◌∙◌, ap, arith}
use Rattle.worded.specs.declared.view.View.{View}
use Rattle.worded.proofs.StepsOfSeats.{laws_met}
use Rattle.joined_words.proofs.OrdersGoOn.{order_met}
use Rattle.word_rules.specs.declared.size.ForestSize.{ForestSize}
use Rattle.word_rules.specs.declared.deed.Deed.{Deed}
use Rattle.word_rules.specs.Orders.{sides_of}
use Rattle.word_rules.specs.Deeds.{doer}
use Rattle.job_words.specs.JobParts.{jobs_in}
use Rattle.job_words.specs.Meetings.{NothingSeenOf}
use Rattle.job_words.specs.Forests.{seen_by}
use Rattle.job_words.proofs.PassesMeet.{met_looked, nothing_seen_of}
use Rattle.job_words.proofs.StepsOfATable.{wide_at, first_at, size_at, done_at, laws_of, seen_at}
use Rattle.job_words.proofs.forest.Forest.hear.Goals as goal

pub hear-requires-clause-words : goal.hear-requires-clause-words
hear-requires-clause-words c =
    ((wide_at c.args.self.now (ap (λ x. x.shared.table_id) c.deref.ensures) (ap (λ x. x.shared.key) c.deref.ensures)).0, omega arith)

pub invariant_of-pass : goal.invariant_of-pass
invariant_of-pass c =
    let f = c.args.self.now in
    let l = laws_of f (jobs_in c.hear.new.seat.me.0) (size_at f (ap (λ x. x.shared.key) c.deref.ensures))
    (laws_met done_at doer NothingSeenOf nothing_seen_of (c.requires.of.1
    ∙ sym (size_at f (ap (λ x. x.shared.key) c.deref.ensures))) c.hear.ensures.met) in
    record { shaped = l.shaped; done = l.done; legal = l.legal; claimed = l.claimed; ungiven = l.ungiven }

pub returns-clause-of : goal.returns-clause-of
returns-clause-of c = seen_at c.args.self.now c.args.pass.now.seat c.hear.new.seat _ c.requires.of c.hear.ensures.same.0
    c.hear.ensures.whole.now

pub returns-clause-looked : goal.returns-clause-looked
returns-clause-looked c who own =
    let f = c.args.self.now in
    let o = order_met sides_of _ _ _ c.args.pass.now.seat.me.0 c.args.other.now.me.0.seen c.hear.new.seat.me.0 c.hear.ensures.whole in
    met_looked c.deref.result.now.shared.key.1 who (seen_by c.args.pass.now) (jobs_in c.hear.new.seat.me.0) (c.requires.of.1
    ∙ sym (size_at f (ap (λ x. x.shared.key) c.deref.ensures)))
    c.requires.of.2 own o.0 c.hear.ensures.met

pub returns-clause-giving : goal.returns-clause-giving
returns-clause-giving c = ap (λ (x : View Deed ForestSize). (x.chief, x.given)) c.hear.ensures.met.now
