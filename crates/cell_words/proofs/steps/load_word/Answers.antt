use Rattle.word_rules.specs.declared.layout.Layout.{Layout}
use Rattle.word_rules.specs.declared.size.ForestSize.{ForestSize}
use Rattle.std.proofs.Common.{◌<◌, refl, ◌++◌, sym, ap, ◌∙◌, subst}
use Rattle.worded.specs.Views.{has_tag}
use Rattle.word_rules.specs.Words.{word_count, Fits, maker}
use Rattle.cell_words.specs.Seen.{NothingOf, on_channels}
use Rattle.worded.proofs.StepsOfSeats.{fits_of, laws_loaded}
use Rattle.joined_words.proofs.OrdersGoOn.{order_loaded, sees_of}
use Rattle.word_rules.specs.Orders.{sides_of}
use Rattle.worded.proofs.TagsNotGiven.{none_loaded}
use Rattle.cell_words.proofs.ActsOfTags.{legal_at, nothing_of}
use Rattle.cell_words.proofs.OnTheFirstPart.{key_on, heard_on, words_few, words_at, idle_after, tags_loaded}
use Rattle.cell_words.proofs.steps.load_word.Goals as goal

pub load_in-requires-clause-table : goal.load_in-requires-clause-table
load_in-requires-clause-table c = words_at (ap (λ x. x.shared.table_id) c.deref.ensures) (ap (λ x. x.shared.key) c.deref.ensures)
    (words_few c.args.hub.now.sized)

pub load_in-requires-clause-seat : goal.load_in-requires-clause-seat
load_in-requires-clause-seat c = (
  c.requires.own.0.0 ∙ sym (ap (λ x. x.shared.table_id) c.deref.ensures),
  c.requires.own.0.1
      ∙ sym (ap (λ x. x.shared.key) c.deref.ensures),
)

pub load_in-requires-clause-word : goal.load_in-requires-clause-word
load_in-requires-clause-word c = (
  refl,
  subst (λ (x : Layout × ForestSize). c.args.word < word_count x.0.kinds) (sym (ap (λ x. x.shared.key) c.deref.ensures))
      c.requires.word,
)

pub invariant_of-pass : goal.invariant_of-pass
unfolding on_channels
invariant_of-pass c =
    let v = c.args.pass.now.seat.me.0 in
    let l = laws_loaded legal_at maker NothingOf nothing_of (key_on v _ (c.requires.own.0.1 ∙ sym (ap (λ x. x.shared.key) c.deref.ensures)))
    c.load_in.ensures.loaded in
    record { legal = l.legal_seen; ungiven = l.ungiven; nobody = none_loaded c.load_in.ensures.whole }

pub returns-clause-own : goal.returns-clause-own
unfolding on_channels
returns-clause-own c =
    let s = c.args.hub.now.table.value.shared in
    let v = c.args.pass.now.seat in
    let l = c.load_in.ensures.whole in (
      idle_after s.table_id s.key v c.load_in.new.seat (v.me.0.seen ++ l.others) c.requires.own.0 c.load_in.ensures.same l.now,
      ap (has_tag c.args.who) (tags_loaded (heard_on v.me.0 c.requires.own.0.2) c.load_in.ensures.loaded) ∙ c.requires.own.1,
    )

pub returns-clause-sees : goal.returns-clause-sees
unfolding on_channels
returns-clause-sees c =
    let v = c.args.pass.now.seat.me.0 in
    let w = c.load_in.new.seat.me.0 in
    sees_of c.args.word c.load_in.result (on_channels v) (on_channels w) (heard_on v c.requires.own.0.2)
    (order_loaded sides_of _ _ _ _ _ v w c.load_in.ensures.whole) c.load_in.ensures.loaded

pub returns-clause-found : goal.returns-clause-found
unfolding on_channels
returns-clause-found c =
    let w = on_channels c.load_in.new.seat.me.0 in
    subst (λ (x : Layout × ForestSize). Fits x.0.kinds w.seen c.args.word c.load_in.result) (ap (λ x. x.shared.key) c.deref.ensures)
    (fits_of c.load_in.ensures.loaded)
