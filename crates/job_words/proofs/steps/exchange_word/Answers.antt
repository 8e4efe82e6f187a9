use Rattle.std.proofs.Common.{◌≡◌, ◌<◌, true, sym, ap, ◌∙◌, subst}
use Rattle.worded.specs.Views.{has_tag}
use Rattle.worded.specs.Exchanges.{MayEnter}
use Rattle.word_rules.specs.declared.size.ForestSize.{ForestSize}
use Rattle.word_rules.specs.Deeds.{shape_of, doer, word_count, IsDone, Fits}
use Rattle.job_words.specs.JobParts.{jobs_in}
use Rattle.job_words.specs.Meetings.{NothingSeenOf}
use Rattle.job_words.specs.Forests.{seen_by}
use Rattle.worded.proofs.StepsOfSeats.{laws_exchanged}
use Rattle.joined_words.proofs.OrdersGoOn.{order_exchanged}
use Rattle.joined_words.specs.Seen.{view_of}
use Rattle.word_rules.specs.Orders.{sides_of}
use Rattle.job_words.proofs.PassesMeet.{nothing_seen_of}
use Rattle.job_words.proofs.StepsOfATable.{wide_at, first_at, size_at, told_of, tags_told, done_at, laws_of, exchanged_at}
use Rattle.job_words.proofs.steps.exchange_word.Goals as goal

pub exchange_in-requires-clause-table : goal.exchange_in-requires-clause-table
exchange_in-requires-clause-table c = wide_at c.args.forest.now (ap (λ x. x.shared.table_id) c.deref.ensures)
    (ap (λ x. x.shared.key) c.deref.ensures)

pub exchange_in-requires-clause-seat : goal.exchange_in-requires-clause-seat
exchange_in-requires-clause-seat c = (
  c.requires.own.0.0.0 ∙ sym (ap (λ x. x.shared.table_id) c.deref.ensures),
  c.requires.own.0.0.1
      ∙ sym (ap (λ x. x.shared.key) c.deref.ensures),
)

pub exchange_in-requires-clause-word : goal.exchange_in-requires-clause-word
exchange_in-requires-clause-word c =
    let f = c.args.forest.now in (
      first_at f (ap (λ x. x.shared.key) c.deref.ensures),
      subst (λ (k : ForestSize). c.args.word < word_count k) (sym (size_at f (ap (λ x. x.shared.key) c.deref.ensures))) c.requires.word,
    )

pub exchange_in-requires-clause-may : goal.exchange_in-requires-clause-may
exchange_in-requires-clause-may c =
    let f = c.args.forest.now in
    subst (λ (k : ForestSize). MayEnter (IsDone (shape_of k)) (Fits k) doer (view_of (seen_by c.args.pass.now)) c.args.word c.args.old
    c.args.new
    c.args.deed.now) (sym (size_at f (ap (λ x. x.shared.key) c.deref.ensures))) c.requires.may

pub invariant_of-pass : goal.invariant_of-pass
invariant_of-pass c =
    let f = c.args.forest.now in
    let k = c.deref.result.now.shared.key.1 in
    let v = seen_by c.args.pass.now in
    let w = jobs_in c.exchange_in.new.seat.me.0 in
    let own : has_tag (doer c.args.deed.now) v.tags ≡ true = ap (λ n. has_tag n v.tags) c.requires.doer ∙ c.requires.own.1 in
    let l = laws_of f w (size_at f (ap (λ x. x.shared.key) c.deref.ensures))
    (laws_exchanged done_at doer NothingSeenOf nothing_seen_of (Fits k) k c.args.word c.args.old c.exchange_in.result
    c.args.deed.now (view_of v) (view_of w) (c.requires.own.0.1
    ∙ sym (size_at f (ap (λ x. x.shared.key) c.deref.ensures))) own c.exchange_in.ensures.told) in
    record { shaped = l.shaped; done = l.done; legal = l.legal; claimed = l.claimed; ungiven = l.ungiven }

pub returns-clause-own : goal.returns-clause-own
returns-clause-own c =
    let f = c.args.forest.now in
    let v = seen_by c.args.pass.now in
    let w = jobs_in c.exchange_in.new.seat.me.0 in
    let t = tags_told c.deref.result.now.shared.key.1 c.args.word c.args.old c.exchange_in.result c.args.deed.now v w c.requires.own.0.2
    c.exchange_in.ensures.told in (
      exchanged_at f c.args.pass.now.seat c.exchange_in.new.seat _ _ _ _ _ _ _ c.requires.own.0 c.exchange_in.ensures.same
          c.exchange_in.ensures.whole,
      ap (has_tag c.args.who) t ∙ c.requires.own.1,
    )

pub returns-clause-told : goal.returns-clause-told
returns-clause-told c =
    let f = c.args.forest.now in
    told_of c.deref.result.now.shared.key.1 c.args.who c.args.word c.args.old c.exchange_in.result c.args.deed.now (seen_by c.args.pass.now)
    (jobs_in c.exchange_in.new.seat.me.0) (c.requires.own.0.1
    ∙ sym (size_at f (ap (λ x. x.shared.key) c.deref.ensures))) c.requires.own.0.2 c.requires.own.1
    (order_exchanged sides_of _ _ _ _ _ _ _ c.args.pass.now.seat.me.0 c.exchange_in.new.seat.me.0 c.exchange_in.ensures.whole).0
    c.exchange_in.ensures.told
