use Rattle.std.proofs.Common.{sym, ◌∙◌, ap, arith}
use Rattle.worded.specs.declared.view.View.{View}
use Rattle.word_rules.specs.declared.size.ForestSize.{ForestSize}
use Rattle.word_rules.specs.declared.deed.Deed.{Deed}
use Rattle.word_rules.specs.Orders.{sides_of}
use Rattle.word_rules.specs.Deeds.{doer}
use Rattle.job_words.specs.JobParts.{jobs_in}
use Rattle.job_words.specs.Meetings.{NothingSeenOf}
use Rattle.job_words.specs.Forests.{seen_by}
use Rattle.worded.proofs.StepsOfSeats.{laws_ended}
use Rattle.joined_words.proofs.OrdersGoOn.{order_ended}
use Rattle.job_words.proofs.PassesMeet.{end_answer, nothing_seen_of}
use Rattle.job_words.proofs.StepsOfATable.{wide_at, first_at, size_at, done_at, laws_of, stays_at, TableSeen}
use Rattle.job_words.proofs.forest.Forest.end.Goals as goal

pub end_in-requires-clause-words : goal.end_in-requires-clause-words
end_in-requires-clause-words c =
    ((wide_at c.args.self.now (ap (λ x. x.shared.table_id) c.deref.ensures) (ap (λ x. x.shared.key) c.deref.ensures)).0, omega arith)

pub invariant_of-main : goal.invariant_of-main
invariant_of-main c =
    let f = c.args.self.now in
    let l = laws_of f (jobs_in c.end_in.new.main.me.0) (size_at f (ap (λ x. x.shared.key) c.deref.ensures))
    (laws_ended done_at doer NothingSeenOf nothing_seen_of (c.requires.main.1
    ∙ sym (size_at f (ap (λ x. x.shared.key) c.deref.ensures))) c.end_in.ensures.took) in
    record { shaped = l.shaped; done = l.done; legal = l.legal; claimed = l.claimed; ungiven = l.ungiven }

pub returns-clause-main : goal.returns-clause-main
returns-clause-main c =
    let n = c.end_in.ensures.whole.now in
    stays_at c.args.self.now c.args.main.now.seat c.end_in.new.main c.requires.main c.end_in.ensures.same
    (ap (λ (x : TableSeen). x.key) n) (ap (λ (x : TableSeen). x.heard_tags) n)

pub returns-clause-ended : goal.returns-clause-ended
returns-clause-ended c =
    let f = c.args.self.now in
    let o = order_ended sides_of _ _ _ c.args.main.now.seat.me.0 c.args.pass.seat.me.0 c.end_in.new.main.me.0 c.end_in.ensures.whole in
    end_answer c.deref.result.now.shared.key.1 (seen_by c.args.main.now) (seen_by c.args.pass) (jobs_in c.end_in.new.main.me.0)
    (c.requires.main.1
    ∙ sym (size_at f (ap (λ x. x.shared.key) c.deref.ensures))) c.args.main.now.done c.args.pass.done
    (o.0, o.1)
    c.end_in.ensures.took

pub returns-clause-giving : goal.returns-clause-giving
returns-clause-giving c = ap (λ (x : View Deed ForestSize). (x.chief, x.given)) c.end_in.ensures.took.now
