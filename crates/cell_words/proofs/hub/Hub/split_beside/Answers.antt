use Rattle.std.proofs.Common.{ℕ, List, sym, ap, ◌∙◌, subst}
use Rattle.worded.specs.Views.{has_tag, is_bare}
use Rattle.worded.proofs.TagsNotGiven.{ungiven_giver}
use Rattle.joined_words.specs.Parts.{tag_in}
use Rattle.word_rules.specs.declared.deed.Deed.{Deed}
use Rattle.channel_model.specs.declared.acts.Entry.{Entry}
use Rattle.channel_model.specs.Histories.{Legal}
use Rattle.either.specs.declared.Either.{Either}
use Rattle.cell_words.specs.Seen.{Known, NothingUngiven, NobodyOf, NobodyUngiven, on_channels}
use Rattle.cell_words.proofs.OnTheFirstPart.{words_some, some_at, gave_beside}
use Rattle.cell_words.proofs.hub.Hub.split_beside.Goals as goal

pub split_in-requires-clause-words : goal.split_in-requires-clause-words
split_in-requires-clause-words c = some_at (ap (λ x. x.shared.table_id) c.deref.ensures) (ap (λ x. x.shared.key) c.deref.ensures)
    (words_some c.args.self.now.sized)

pub split_in-requires-clause-new : goal.split_in-requires-clause-new
unfolding on_channels
split_in-requires-clause-new c = c.requires.new

pub invariant_of-pass : goal.invariant_of-pass
unfolding on_channels
invariant_of-pass c =
    let p = c.args.pass.now in
    let v = p.seat.me.0 in
    let e = c.split_in.ensures.whole.0 in
    record {
      legal = subst (λ (x : Known). Legal (on_channels x).key.kinds (on_channels x).seen) (sym e) p.legal;
      ungiven = subst (λ (x : Known). NothingUngiven (on_channels x)) (sym e)
          (λ chief t not. p.ungiven chief t (ap (has_tag t) (sym (gave_beside c.args.tag v.given)) ∙ not));
      nobody = subst NobodyUngiven (sym e) (ungiven_giver NobodyOf v (tag_in 1 c.args.tag) (λ u h. h) p.nobody);
    }

pub returns-clause-of : goal.returns-clause-of
returns-clause-of c =
    let e = c.split_in.ensures.whole.0 in (
      c.split_in.ensures.same.0 ∙ c.requires.of.0,
      ap (λ (x : Known). x.key) e ∙ c.requires.of.1,
      ap (λ (x : Known). x.heard_tags) e ∙ c.requires.of.2,
      ap is_bare c.split_in.ensures.same.2 ∙ c.requires.of.3,
    )

pub returns-clause-seat : goal.returns-clause-seat
returns-clause-seat c =
    let w = c.split_in.ensures.whole.1 in (
      c.split_in.ensures.new.0 ∙ c.requires.of.0,
      ap (λ (x : Known). x.key) w ∙ c.requires.of.1,
      ap (λ (x : Known). x.heard_tags) w,
      ap (λ (l : List (ℕ × Either Entry Deed)). is_bare l) c.split_in.ensures.new.1,
    )

pub returns-clause-same : goal.returns-clause-same
unfolding on_channels
returns-clause-same c = ap (λ (x : Known). (on_channels x).seen) c.split_in.ensures.whole.0

pub returns-clause-tags : goal.returns-clause-tags
unfolding on_channels
returns-clause-tags c = ap (λ (x : Known). (on_channels x).tags) c.split_in.ensures.whole.0

pub returns-clause-gives : goal.returns-clause-gives
unfolding on_channels
returns-clause-gives c =
    let v = c.args.pass.now.seat.me.0 in
    let e = c.split_in.ensures.whole.0 in
    (ap (λ (x : Known). x.chief) e ∙ c.requires.new.0, ap (λ (x : Known). (on_channels x).given) e ∙ gave_beside c.args.tag v.given)

pub returns-clause-all : goal.returns-clause-all
unfolding on_channels
returns-clause-all c = ap (λ (x : Known). x.given) c.split_in.ensures.whole.0

pub returns-clause-order : goal.returns-clause-order
unfolding on_channels
returns-clause-order c = ap (λ (x : Known). (on_channels x).order) c.split_in.ensures.whole.0
