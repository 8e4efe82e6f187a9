use Rattle.std.proofs.Common.{sym, ◌∙◌, ap, arith}
use Rattle.worded.specs.declared.view.View.{View}
use Rattle.word_rules.specs.declared.size.ForestSize.{ForestSize}
use Rattle.word_rules.specs.declared.deed.Deed.{Deed}
use Rattle.word_rules.specs.Orders.{sides_of}
use Rattle.word_rules.specs.Deeds.{doer}
use Rattle.job_words.specs.JobParts.{jobs_in}
use Rattle.job_words.specs.Meetings.{NothingSeenOf}
use Rattle.job_words.specs.Forests.{seen_by}
use Rattle.worded.proofs.StepsOfSeats.{laws_met}
use Rattle.joined_words.proofs.OrdersGoOn.{order_met}
use Rattle.job_words.proofs.PassesMeet.{meet_answer, nothing_seen_of}
use Rattle.job_words.proofs.StepsOfATable.{wide_at, first_at, size_at, done_at, laws_of, seen_at, stays_at, TableSeen}
use Rattle.job_words.proofs.forest.Forest.meet.Goals as goal

pub meet_in-requires-clause-words : goal.meet_in-requires-clause-words
meet_in-requires-clause-words c =
    ((wide_at c.args.self.now (ap (λ x. x.shared.table_id) c.deref.ensures) (ap (λ x. x.shared.key) c.deref.ensures)).0, omega arith)

pub invariant_of-a : goal.invariant_of-a
invariant_of-a c =
    let f = c.args.self.now in
    let l = laws_of f (jobs_in c.meet_in.new.seat.me.0) (size_at f (ap (λ x. x.shared.key) c.deref.ensures))
    (laws_met done_at doer NothingSeenOf nothing_seen_of (c.requires.a.1
    ∙ sym (size_at f (ap (λ x. x.shared.key) c.deref.ensures))) c.meet_in.ensures.met) in
    record { shaped = l.shaped; done = l.done; legal = l.legal; claimed = l.claimed; ungiven = l.ungiven }

pub returns-clause-a : goal.returns-clause-a
returns-clause-a c = seen_at c.args.self.now c.args.a.now.seat c.meet_in.new.seat _ c.requires.a c.meet_in.ensures.same.0
    c.meet_in.ensures.whole.now

pub returns-clause-b : goal.returns-clause-b
returns-clause-b c =
    let e = c.meet_in.ensures.other in
    stays_at c.args.self.now c.args.b.now.seat c.meet_in.new.other c.requires.b c.meet_in.ensures.same.1
    (ap (λ (x : TableSeen). x.key) e) (ap (λ (x : TableSeen). x.heard_tags) e ∙ c.requires.b.0.2)

pub returns-clause-met : goal.returns-clause-met
returns-clause-met c =
    let f = c.args.self.now in
    let o = order_met sides_of _ _ _ c.args.a.now.seat.me.0 c.args.b.now.seat.me.0.seen c.meet_in.new.seat.me.0 c.meet_in.ensures.whole in
    meet_answer c.deref.result.now.shared.key.1 (seen_by c.args.a.now) (seen_by c.args.b.now) (jobs_in c.meet_in.new.seat.me.0)
    (c.requires.a.1
    ∙ sym (size_at f (ap (λ x. x.shared.key) c.deref.ensures))) c.requires.a.2 c.args.a.now.done
    (o.0, o.1)
    c.meet_in.ensures.met

pub returns-clause-giving : goal.returns-clause-giving
returns-clause-giving c = ap (λ (x : View Deed ForestSize). (x.chief, x.given)) c.meet_in.ensures.met.now

pub returns-clause-same : goal.returns-clause-same
returns-clause-same c = ap jobs_in c.meet_in.ensures.other
