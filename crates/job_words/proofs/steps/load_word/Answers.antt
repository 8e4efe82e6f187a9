use Rattle.std.proofs.Common.{◌≡◌, ◌<◌, sym, ◌∙◌, ap, subst}
use Rattle.worded.specs.Views.{has_tag}
use Rattle.word_rules.specs.declared.size.ForestSize.{ForestSize}
use Rattle.word_rules.specs.Deeds.{doer, word_count, Fits}
use Rattle.job_words.specs.JobParts.{jobs_in}
use Rattle.job_words.specs.Meetings.{NothingSeenOf}
use Rattle.job_words.specs.Forests.{seen_by}
use Rattle.worded.proofs.StepsOfSeats.{laws_loaded}
use Rattle.joined_words.proofs.OrdersGoOn.{order_loaded}
use Rattle.word_rules.specs.Orders.{sides_of}
use Rattle.job_words.proofs.PassesMeet.{nothing_seen_of}
use Rattle.job_words.proofs.StepsOfATable.{wide_at, first_at, size_at, sees_of, done_at, laws_of, seen_at}
use Rattle.job_words.proofs.steps.load_word.Goals as goal

pub load_in-requires-clause-table : goal.load_in-requires-clause-table
load_in-requires-clause-table c = wide_at c.args.forest.now (ap (λ x. x.shared.table_id) c.deref.ensures)
    (ap (λ x. x.shared.key) c.deref.ensures)

pub load_in-requires-clause-seat : goal.load_in-requires-clause-seat
load_in-requires-clause-seat c = (
  c.requires.own.0.0.0 ∙ sym (ap (λ x. x.shared.table_id) c.deref.ensures),
  c.requires.own.0.0.1
      ∙ sym (ap (λ x. x.shared.key) c.deref.ensures),
)

pub load_in-requires-clause-word : goal.load_in-requires-clause-word
load_in-requires-clause-word c =
    let f = c.args.forest.now in (
      first_at f (ap (λ x. x.shared.key) c.deref.ensures),
      subst (λ (k : ForestSize). c.args.word < word_count k) (sym (size_at f (ap (λ x. x.shared.key) c.deref.ensures))) c.requires.word,
    )

pub invariant_of-pass : goal.invariant_of-pass
invariant_of-pass c =
    let f = c.args.forest.now in
    let l = laws_of f (jobs_in c.load_in.new.seat.me.0) (size_at f (ap (λ x. x.shared.key) c.deref.ensures))
    (laws_loaded done_at doer NothingSeenOf nothing_seen_of (c.requires.own.0.1
    ∙ sym (size_at f (ap (λ x. x.shared.key) c.deref.ensures))) c.load_in.ensures.loaded) in
    record { shaped = l.shaped; done = l.done; legal = l.legal; claimed = l.claimed; ungiven = l.ungiven }

pub returns-clause-own : goal.returns-clause-own
returns-clause-own c =
    let f = c.args.forest.now in
    let v = seen_by c.args.pass.now in
    let w = jobs_in c.load_in.new.seat.me.0 in
    let t = (sees_of c.deref.result.now.shared.key.1 c.args.who c.args.word c.load_in.result v w (c.requires.own.0.1
    ∙ sym (size_at f (ap (λ x. x.shared.key) c.deref.ensures)))
    c.requires.own.0.2 c.requires.own.1
    (order_loaded sides_of _ _ _ _ _ c.args.pass.now.seat.me.0 c.load_in.new.seat.me.0 c.load_in.ensures.whole).0
    c.load_in.ensures.loaded).0.tags in (
      seen_at f c.args.pass.now.seat c.load_in.new.seat _ c.requires.own.0 c.load_in.ensures.same c.load_in.ensures.whole.now,
      ap (has_tag c.args.who) t ∙ c.requires.own.1,
    )

pub returns-clause-sees : goal.returns-clause-sees
returns-clause-sees c =
    let f = c.args.forest.now in
    (sees_of c.deref.result.now.shared.key.1 c.args.who c.args.word c.load_in.result (seen_by c.args.pass.now)
    (jobs_in c.load_in.new.seat.me.0)
    (c.requires.own.0.1 ∙ sym (size_at f (ap (λ x. x.shared.key) c.deref.ensures))) c.requires.own.0.2 c.requires.own.1
    (order_loaded sides_of _ _ _ _ _ c.args.pass.now.seat.me.0 c.load_in.new.seat.me.0 c.load_in.ensures.whole).0
    c.load_in.ensures.loaded).0

pub returns-clause-found : goal.returns-clause-found
returns-clause-found c =
    let f = c.args.forest.now in
    let k = c.deref.result.now.shared.key.1 in
    let v = seen_by c.args.pass.now in
    let w = jobs_in c.load_in.new.seat.me.0 in
    let key : v.key ≡ k = c.requires.own.0.1 ∙ sym (size_at f (ap (λ x. x.shared.key) c.deref.ensures)) in
    subst (λ (x : ForestSize). Fits x w.seen c.args.word c.load_in.result) c.requires.own.0.1
    (sees_of k c.args.who c.args.word c.load_in.result v w key c.requires.own.0.2 c.requires.own.1
    (order_loaded sides_of _ _ _ _ _ c.args.pass.now.seat.me.0 c.load_in.new.seat.me.0 c.load_in.ensures.whole).0
    c.load_in.ensures.loaded).1
