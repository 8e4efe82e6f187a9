use Rattle.word_rules.specs.declared.layout.Layout.{Layout}
use Rattle.word_rules.specs.declared.size.ForestSize.{ForestSize}
use Rattle.std.proofs.Common.{◌<◌, refl, sym, ap, ◌∙◌, subst}
use Rattle.worded.specs.Views.{has_tag}
use Rattle.worded.specs.Exchanges.{MayLift}
use Rattle.channel_model.specs.Histories.{Legal}
use Rattle.word_rules.specs.Words.{word_count, Fits, maker}
use Rattle.joined_words.specs.Seen.{view_of}
use Rattle.cell_words.specs.Seen.{Known, Seen, NothingUngiven, NobodyUngiven, on_channels}
use Rattle.cell_words.proofs.OnTheFirstPart.{words_few, words_at, idle_same}
use Rattle.cell_words.proofs.steps.lift_word.Goals as goal

pub lift_in-requires-clause-table : goal.lift_in-requires-clause-table
lift_in-requires-clause-table c = words_at (ap (λ x. x.shared.table_id) c.deref.ensures) (ap (λ x. x.shared.key) c.deref.ensures)
    (words_few c.args.hub.now.sized)

pub lift_in-requires-clause-seat : goal.lift_in-requires-clause-seat
lift_in-requires-clause-seat c = (
  c.requires.own.0.0 ∙ sym (ap (λ x. x.shared.table_id) c.deref.ensures),
  c.requires.own.0.1
      ∙ sym (ap (λ x. x.shared.key) c.deref.ensures),
)

pub lift_in-requires-clause-word : goal.lift_in-requires-clause-word
lift_in-requires-clause-word c = (
  refl,
  subst (λ (x : Layout × ForestSize). c.args.word < word_count x.0.kinds) (sym (ap (λ x. x.shared.key) c.deref.ensures))
      c.requires.word,
)

pub lift_in-requires-clause-may : goal.lift_in-requires-clause-may
unfolding on_channels
lift_in-requires-clause-may c =
    subst (λ (x : Layout × ForestSize). MayLift (Legal x.0.kinds) (Fits x.0.kinds) maker (view_of (on_channels c.args.pass.now.seat.me.0))
    c.args.word c.args.least) (sym (ap (λ x. x.shared.key) c.deref.ensures)) c.requires.may

pub invariant_of-pass : goal.invariant_of-pass
invariant_of-pass c =
    let e = ap on_channels c.lift_in.ensures.view in
    record {
      legal = subst (λ (v : Seen). Legal v.key.kinds v.seen) (sym e) c.args.pass.now.legal;
      ungiven = subst NothingUngiven (sym e) c.args.pass.now.ungiven;
      nobody = subst NobodyUngiven (sym c.lift_in.ensures.view) c.args.pass.now.nobody;
    }

pub returns-clause-own : goal.returns-clause-own
returns-clause-own c =
    let s = c.args.hub.now.table.value.shared in (
      idle_same s.table_id s.key c.args.pass.now.seat c.lift_in.new.seat c.requires.own.0 c.lift_in.ensures.same c.lift_in.ensures.view,
      ap (λ (v : Known). has_tag c.args.who (on_channels v).tags) c.lift_in.ensures.view ∙ c.requires.own.1,
    )

pub returns-clause-same : goal.returns-clause-same
returns-clause-same c = ap on_channels c.lift_in.ensures.view
