use Rattle.std.proofs.Common.{◌≡◌, ℕ, Bool, true, false, if◌then◌else◌, eq-eqb, refl, List, ◌∷◌, [], sym, ap, ◌∙◌, subst, arith}
use Rattle.co_base.specs.Orders.{Side}
use Rattle.worded.specs.declared.view.View.{View}
use Rattle.worded.specs.Views.{has_tag, with_next, next_given, new_view, is_bare}
use Rattle.worded.proofs.TagsNotGiven.{ungiven_giver, ungiven_given}
use Rattle.joined_words.specs.Seen.{view_of, order_in}
use Rattle.word_rules.specs.declared.size.ForestSize.{ForestSize}
use Rattle.word_rules.specs.declared.deed.Deed.{Deed}
use Rattle.word_rules.specs.Orders.{sides_of}
use Rattle.job_words.specs.Passes.{Seen, floor_of}
use Rattle.job_words.specs.Meetings.{NothingOf, NothingSeenOf}
use Rattle.job_words.specs.Forests.{seen_by}
use Rattle.job_words.proofs.StoreStaysSound.{size_shape}
use Rattle.job_words.proofs.StepsOfATable.{wide_at, first_at, size_at, PassLaws, TableSeen, pass_laws, stays_at}
use Rattle.job_words.proofs.PassesMeet.{nothing_of}
use Rattle.job_words.proofs.forest.Forest.split.Goals as goal

own_tag : (t : ℕ) → has_tag t (t ∷ []) ≡ true
own_tag t = ap (λ (b : Bool). if b then true else false) (eq-eqb t t refl)

abbrev JobsView : Type 0
JobsView = View Deed ForestSize

-- the order that a seat of the table has seen
abbrev order_of : TableSeen → List Side
order_of x = order_in sides_of x.seen

-- what a pass knows, by its view and this order
abbrev with_order : JobsView → List Side → Seen
with_order v order =
    record {
      key = v.key;
      chief = v.chief;
      next = v.next;
      given = v.given;
      tags = v.tags;
      seen = v.seen;
      heard = v.heard;
      heard_tags = v.heard_tags;
      order = order;
      given_all = [];
    }

pub split_in-seat-requires-clause-words : goal.split_in-seat-requires-clause-words
split_in-seat-requires-clause-words c =
    ((wide_at c.args.self.now (ap (λ x. x.shared.table_id) c.deref.ensures) (ap (λ x. x.shared.key) c.deref.ensures)).0, omega arith)

pub invariant_of-pass : goal.invariant_of-pass
invariant_of-pass c =
    let f = c.args.self.now in
    let p = c.args.pass.now in
    let v = view_of (seen_by p) in
    let order = order_of c.split_in-seat.new.seat.me.0 in
    let l = subst (λ (x : JobsView). PassLaws (with_order x order)) (sym c.split_in-seat.ensures.first)
    (pass_laws f.size (with_order (next_given (with_next v c.args.tag)) order) (size_shape f.size f.small) c.requires.of.1 p.done
    (ungiven_giver NothingSeenOf v c.args.tag (λ u h. h) p.ungiven)) in
    record { shaped = l.shaped; done = l.done; legal = l.legal; claimed = l.claimed; ungiven = l.ungiven }

pub invariant_of-result : goal.invariant_of-result
invariant_of-result c =
    let f = c.args.self.now in
    let p = c.args.pass.now in
    let v = with_next (view_of (seen_by p)) c.args.tag in
    let order = order_of c.split_in-seat.result.me.0 in
    let l = subst (λ (x : JobsView). PassLaws (with_order x order)) (sym c.split_in-seat.ensures.new.2)
    (pass_laws f.size (with_order (new_view v) order) (size_shape f.size f.small) c.requires.of.1 p.done
    (ungiven_given NothingSeenOf v)) in
    record { shaped = l.shaped; done = l.done; legal = l.legal; claimed = l.claimed; ungiven = l.ungiven }

pub returns-clause-of : goal.returns-clause-of
returns-clause-of c =
    let e = c.split_in-seat.ensures.whole.0 in
    stays_at c.args.self.now c.args.pass.now.seat c.split_in-seat.new.seat c.requires.of c.split_in-seat.ensures.same
    (ap (λ (x : TableSeen). x.key) e) (ap (λ (x : TableSeen). x.heard_tags) e ∙ c.requires.of.0.2)

pub returns-clause-same : goal.returns-clause-same
returns-clause-same c =
    let e = c.split_in-seat.ensures.first in
    let o = ap order_of c.split_in-seat.ensures.whole.0 in
    λ i. floor_of (e i).key (e i).tags (e i).seen (o i)

pub returns-clause-gives : goal.returns-clause-gives
returns-clause-gives c =
    let e = c.split_in-seat.ensures.first in
    (ap (λ (x : JobsView). x.chief) e ∙ c.requires.new.0, ap (λ (x : JobsView). x.given) e)

pub returns-clause-own : goal.returns-clause-own
returns-clause-own c =
    let n = c.split_in-seat.ensures.new in
    let e = c.split_in-seat.ensures.whole.1 in
    let of = c.requires.of in (
      (
        (n.0 ∙ of.0.0, ap (λ (x : TableSeen). x.key) e ∙ of.0.1, ap (λ (x : TableSeen). x.heard_tags) e, ap is_bare n.1),
        ap (λ (x : JobsView). x.key) n.2 ∙ of.1,
        ap (λ (x : JobsView). x.heard_tags) n.2,
      ),
      ap (λ (x : JobsView). has_tag c.args.tag x.tags) n.2 ∙ own_tag c.args.tag,
    )

pub returns-clause-sees : goal.returns-clause-sees
returns-clause-sees c =
    let e = c.split_in-seat.ensures.new.2 in
    let o = ap order_of c.split_in-seat.ensures.whole.1 in
    λ i. floor_of (e i).key (e i).tags (e i).seen (o i)

pub returns-clause-none : goal.returns-clause-none
returns-clause-none c =
    let v = seen_by c.args.pass.now in
    let order = order_of c.split_in-seat.result.me.0 in
    subst (λ (x : JobsView). NothingOf c.args.tag (floor_of x.key x.tags x.seen order)) (sym c.split_in-seat.ensures.new.2)
    (nothing_of v.key (c.args.tag ∷ []) c.args.tag v.seen order c.args.pass.now.done c.split_in-seat.ensures.none)
