use Rattle.word_rules.specs.declared.layout.Layout.{Layout}
use Rattle.word_rules.specs.declared.size.ForestSize.{ForestSize}
use Rattle.std.proofs.Common.{◌<◌, refl, ◌++◌, ◌∷◌, [], sym, ap, ◌∙◌, subst}
use Rattle.either.specs.declared.Either.TheVariants.{Left}
use mathlib.Core.Option.{some}
use Rattle.worded.specs.Views.{IsIdleSeatOf, has_tag}
use Rattle.worded.specs.Exchanges.{Exchanged, MayEnter}
use Rattle.channel_model.specs.Histories.{Legal}
use Rattle.word_rules.specs.Words.{word_count, Fits, maker}
use Rattle.cell_words.specs.Seen.{NothingOf, on_channels}
use Rattle.worded.proofs.StepsOfSeats.{laws_exchanged}
use Rattle.joined_words.proofs.OrdersGoOn.{order_exchanged, told_of}
use Rattle.joined_words.specs.Seen.{view_of}
use Rattle.word_rules.specs.Orders.{sides_of}
use Rattle.worded.proofs.TagsNotGiven.{by_exchange, none_exchanged}
use Rattle.cell_words.proofs.ActsOfTags.{legal_at, nothing_of}
use Rattle.cell_words.proofs.OnTheFirstPart.{whole_tag, key_on, heard_on, words_few, words_at, idle_after, tags_exchanged}
use Rattle.cell_words.proofs.steps.exchange_word.Goals as goal

pub exchange_in-requires-clause-table : goal.exchange_in-requires-clause-table
exchange_in-requires-clause-table c = words_at (ap (λ x. x.shared.table_id) c.deref.ensures) (ap (λ x. x.shared.key) c.deref.ensures)
    (words_few c.args.hub.now.sized)

pub exchange_in-requires-clause-seat : goal.exchange_in-requires-clause-seat
exchange_in-requires-clause-seat c = (
  c.requires.own.0.0 ∙ sym (ap (λ x. x.shared.table_id) c.deref.ensures),
  c.requires.own.0.1
      ∙ sym (ap (λ x. x.shared.key) c.deref.ensures),
)

pub exchange_in-requires-clause-word : goal.exchange_in-requires-clause-word
exchange_in-requires-clause-word c = (
  refl,
  subst (λ (x : Layout × ForestSize). c.args.word < word_count x.0.kinds) (sym (ap (λ x. x.shared.key) c.deref.ensures))
      c.requires.word,
)

pub exchange_in-requires-clause-may : goal.exchange_in-requires-clause-may
unfolding on_channels
exchange_in-requires-clause-may c =
    subst (λ (x : Layout × ForestSize). MayEnter (Legal x.0.kinds) (Fits x.0.kinds) maker (view_of (on_channels c.args.pass.now.seat.me.0))
    c.args.word c.args.old c.args.new c.args.entry.now) (sym (ap (λ x. x.shared.key) c.deref.ensures)) c.requires.may

pub invariant_of-pass : goal.invariant_of-pass
unfolding on_channels
invariant_of-pass c =
    let k = c.deref.result.now.shared.key.0 in
    let v = c.args.pass.now.seat.me.0 in
    let l = laws_exchanged legal_at maker NothingOf nothing_of (Fits k.kinds) k c.args.word c.args.old c.exchange_in.result c.args.entry.now
    (view_of (on_channels v)) (view_of (on_channels c.exchange_in.new.seat.me.0))
    (key_on v _ (c.requires.own.0.1 ∙ sym (ap (λ x. x.shared.key) c.deref.ensures))) c.requires.may.own
    c.exchange_in.ensures.told in
    record {
      legal = l.legal_seen;
      ungiven = l.ungiven;
      nobody = none_exchanged _ _ _ _ _ _ _ v c.exchange_in.new.seat.me.0 (whole_tag c.args.entry.now.who v c.requires.may.own)
          c.exchange_in.ensures.whole;
    }

pub returns-clause-own : goal.returns-clause-own
unfolding on_channels
returns-clause-own c =
    let s = c.args.hub.now.table.value.shared in
    let v = c.args.pass.now.seat in
    let w = c.exchange_in.new.seat in
    let q = c.deref.result.now.shared.key.0 in
    let idle = c.requires.own.0 in
    let same = c.exchange_in.ensures.same in (
      by_exchange _ _ _ _ c.args.old c.exchange_in.result (Left c.args.entry.now) v.me.0 w.me.0 (IsIdleSeatOf s.table_id s.key w)
          (λ m. idle_after s.table_id s.key v w ((v.me.0.seen ++ m.others) ++ Left c.args.entry.now ∷ []) idle same m.now)
          (λ l. idle_after s.table_id s.key v w (v.me.0.seen ++ l.others) idle same l.now) c.exchange_in.ensures.whole,
      ap (has_tag c.args.who) (tags_exchanged (Legal q.kinds) (Fits q.kinds) maker c.args.word c.args.old c.exchange_in.result
          c.args.entry.now (view_of (on_channels v.me.0)) (view_of (on_channels w.me.0))
          (heard_on v.me.0 idle.2) c.exchange_in.ensures.told) ∙ c.requires.own.1,
    )

pub returns-clause-told : goal.returns-clause-told
unfolding on_channels
returns-clause-told c =
    let k = c.args.hub.now.table.value.shared.key.0 in
    let v = c.args.pass.now.seat.me.0 in
    let w = c.exchange_in.new.seat.me.0 in
    let told = subst (λ (x : Layout × ForestSize). Exchanged (Legal x.0.kinds) (Fits x.0.kinds) maker c.args.word c.args.old
    c.exchange_in.result (some c.args.entry.now) (view_of (on_channels v)) (view_of (on_channels w)))
    (ap (λ x. x.shared.key) c.deref.ensures) c.exchange_in.ensures.told in
    told_of (Legal k.kinds) (Fits k.kinds) maker c.args.word c.args.old c.exchange_in.result c.args.entry.now (on_channels v)
    (on_channels w) (heard_on v c.requires.own.0.2) (order_exchanged sides_of _ _ _ _ _ _ _ v w c.exchange_in.ensures.whole) told
