use Rattle.std.proofs.Common.{◌≡◌, ℕ, ◌+◌, ◌*◌, [], arith, ap, ◌∙◌, subst}
use Rattle.worded.specs.Views.{with_next, next_given, new_view}
use Rattle.worded.specs.Histories.{entries_of}
use Rattle.joined_words.specs.Parts.{view_in}
use Rattle.joined_words.proofs.PartsOfSteps.{given_in, new_in, none_seen, not_given, view_of, bare_of}
use Rattle.joined_words.proofs.seats.split_in.Goals as goal

pub overflow_add-whole : goal.overflow_add-whole
overflow_add-whole g c =
    let small = g.met.P.HistoryPart.is_part.small in
    omega (arith, small, c.place-place.ensures, c.requires.tag)

pub split-requires-clause-new : goal.split-requires-clause-new
split-requires-clause-new g c = (
  c.requires.new.0,
  not_given _ _ _ _ _ _ _ _ _ g.met.P.HistoryPart.is_part c.args.seat.now.me.0 c.args.tag (2 * c.args.tag + c.place-place.result)
      (ap (λ x. 2 * c.args.tag + x) c.place-place.ensures)
      c.requires.new.1,
)

pub returns-clause-whole : goal.returns-clause-whole
returns-clause-whole g c = subst (λ (x : ℕ). (c.split.new.seat.me.0 ≡ next_given (with_next c.args.seat.now.me.0 x))
    × (c.split.result.me.0 ≡ new_view (with_next c.args.seat.now.me.0 x))) (ap (λ x. 2 * c.args.tag + x) c.place-place.ensures) (
      c.split.ensures.first,
      view_of c.split.result.me (new_view (with_next c.args.seat.now.me.0 (2 * c.args.tag + c.place-place.result)))
          c.split.ensures.new.1,
    )

pub returns-clause-first : goal.returns-clause-first
returns-clause-first g c =
    let v = c.args.seat.now.me.0 in
    ap (view_in g.P.HistoryPart.part) (subst (λ (x : ℕ). c.split.new.seat.me.0 ≡ next_given (with_next v x))
    (ap (λ x. 2 * c.args.tag + x) c.place-place.ensures) c.split.ensures.first)
    ∙ given_in g.P.HistoryPart.part v c.args.tag g.met.P.HistoryPart.is_part.small

pub returns-clause-new : goal.returns-clause-new
returns-clause-new g c =
    let v = c.args.seat.now.me.0 in (
      c.split.ensures.new.0,
      bare_of c.split.result.me (new_view (with_next c.args.seat.now.me.0 (2 * c.args.tag + c.place-place.result))) c.split.ensures.new.1,
      ap (view_in g.P.HistoryPart.part) (subst (λ (x : ℕ). c.split.result.me.0 ≡ new_view (with_next v x))
          (ap (λ x. 2 * c.args.tag + x) c.place-place.ensures)
          (view_of c.split.result.me (new_view (with_next c.args.seat.now.me.0 (2 * c.args.tag + c.place-place.result)))
          c.split.ensures.new.1))
          ∙ new_in g.P.HistoryPart.part v c.args.tag g.met.P.HistoryPart.is_part.small,
    )

pub returns-clause-none : goal.returns-clause-none
returns-clause-none g c =
    let v = c.args.seat.now.me.0 in
    none_seen _ _ _ _ _ _ _ _ _ g.met.P.HistoryPart.is_part v c.args.tag (subst (λ (x : ℕ). entries_of g.M.HistoryRule.who x v.seen ≡ [])
    (ap (λ x. 2 * c.args.tag + x) c.place-place.ensures) c.split.ensures.none)
