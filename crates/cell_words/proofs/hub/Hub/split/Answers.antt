use Rattle.std.proofs.Common.{◌≡◌, ℕ, Bool, true, false, if◌then◌else◌, List, [], refl, sym, ap, ◌∙◌, subst, eq-eqb}
use Rattle.channel_model.specs.Histories.{Legal, acts_of}
use Rattle.cell_words.specs.Seen.{Known, NothingOf, NobodyOf, NobodyUngiven, on_channels}
use Rattle.cell_words.proofs.ActsOfTags.{no_acts}
use Rattle.worded.proofs.TagsNotGiven.{ungiven_giver, ungiven_given}
use Rattle.worded.specs.Views.{has_tag, is_bare, with_next, EachUngiven}
use Rattle.worded.specs.declared.view.View.{View}
use Rattle.joined_words.specs.Parts.{tag_in}
use Rattle.joined_words.specs.Seen.{view_of, order_in}
use Rattle.word_rules.specs.Orders.{sides_of}
use Rattle.either.specs.declared.Either.{Either}
use Rattle.channel_model.specs.declared.acts.Entry.{Entry}
use Rattle.word_rules.specs.declared.deed.Deed.{Deed}
use Rattle.word_rules.specs.declared.layout.Layout.{Layout}
use Rattle.cell_words.proofs.OnTheFirstPart.{words_some, some_at}
use Rattle.cell_words.proofs.hub.Hub.split.Goals as goal

abbrev ChannelsView : Type 0
ChannelsView = View Entry Layout

pub split_in-seat-requires-clause-words : goal.split_in-seat-requires-clause-words
split_in-seat-requires-clause-words c = some_at (ap (λ x. x.shared.table_id) c.deref.ensures) (ap (λ x. x.shared.key) c.deref.ensures)
    (words_some c.args.self.now.sized)

pub split_in-seat-requires-clause-new : goal.split_in-seat-requires-clause-new
unfolding on_channels
split_in-seat-requires-clause-new c = c.requires.new

pub invariant_of-pass : goal.invariant_of-pass
unfolding on_channels
invariant_of-pass c =
    let v = view_of (on_channels c.args.pass.now.seat.me.0) in
    let e = c.split_in-seat.ensures.first in
    record {
      legal = subst (λ (x : ChannelsView). Legal x.key.kinds x.seen) (sym e) c.args.pass.now.legal;
      ungiven = subst (EachUngiven NothingOf) (sym e) (ungiven_giver NothingOf v c.args.tag (λ u h. h) c.args.pass.now.ungiven);
      nobody = subst NobodyUngiven (sym c.split_in-seat.ensures.whole.0)
          (ungiven_giver NobodyOf c.args.pass.now.seat.me.0 (tag_in 0 c.args.tag) (λ u h. h) c.args.pass.now.nobody);
    }

pub invariant_of-result : goal.invariant_of-result
unfolding on_channels
invariant_of-result c =
    let v = view_of (on_channels c.args.pass.now.seat.me.0) in
    let e = c.split_in-seat.ensures.new.2 in
    record {
      legal = subst (λ (x : ChannelsView). Legal x.key.kinds x.seen) (sym e) c.args.pass.now.legal;
      ungiven = subst (EachUngiven NothingOf) (sym e) (ungiven_given NothingOf (with_next v c.args.tag));
      nobody = subst NobodyUngiven (sym c.split_in-seat.ensures.whole.1)
          (ungiven_given NobodyOf (with_next c.args.pass.now.seat.me.0 (tag_in 0 c.args.tag)));
    }

pub returns-clause-none : goal.returns-clause-none
unfolding on_channels
returns-clause-none c =
    let v = view_of (on_channels c.args.pass.now.seat.me.0) in
    subst (λ (x : ChannelsView). acts_of c.args.tag x.seen ≡ []) (sym c.split_in-seat.ensures.new.2)
    (no_acts c.args.tag v.seen c.split_in-seat.ensures.none)

pub returns-clause-same : goal.returns-clause-same
unfolding on_channels
returns-clause-same c = ap (λ (x : ChannelsView). x.seen) c.split_in-seat.ensures.first

pub returns-clause-tags : goal.returns-clause-tags
unfolding on_channels
returns-clause-tags c = ap (λ (x : ChannelsView). x.tags) c.split_in-seat.ensures.first

pub returns-clause-gives : goal.returns-clause-gives
unfolding on_channels
returns-clause-gives c = (
  ap (λ (x : ChannelsView). x.chief) c.split_in-seat.ensures.first ∙ c.requires.new.0,
  ap (λ (x : ChannelsView). x.given) c.split_in-seat.ensures.first,
)

pub returns-clause-own : goal.returns-clause-own
unfolding on_channels
returns-clause-own c =
    let w = c.split_in-seat.ensures.whole.1 in (
      (
        c.split_in-seat.ensures.new.0 ∙ c.requires.of.0,
        ap (λ (x : Known). x.key) w ∙ c.requires.of.1,
        ap (λ (x : Known). x.heard_tags) w,
        ap (λ (l : List (ℕ × Either Entry Deed)). is_bare l) c.split_in-seat.ensures.new.1,
      ),
      ap (λ (x : ChannelsView). has_tag c.args.tag x.tags) c.split_in-seat.ensures.new.2
          ∙ ap (λ (b : Bool). if b then true else false) (eq-eqb c.args.tag c.args.tag refl),
    )

pub returns-clause-callers : goal.returns-clause-callers
unfolding on_channels
returns-clause-callers c = ap (λ (x : ChannelsView). x.tags) c.split_in-seat.ensures.new.2

pub returns-clause-sees : goal.returns-clause-sees
unfolding on_channels
returns-clause-sees c = ap (λ (x : ChannelsView). x.seen) c.split_in-seat.ensures.new.2

pub returns-clause-order : goal.returns-clause-order
unfolding on_channels
returns-clause-order c =
    let w = c.split_in-seat.ensures.whole in
    (ap (λ (x : Known). order_in sides_of x.seen) w.0, ap (λ (x : Known). order_in sides_of x.seen) w.1)

pub returns-clause-all : goal.returns-clause-all
unfolding on_channels
returns-clause-all c = ap (λ (x : Known). x.given) c.split_in-seat.ensures.whole.0
