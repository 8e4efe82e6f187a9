use Rattle.std.proofs.Common.{ℕ, ◌+◌, ◌*◌, [], get_or, sym, ◌∙◌, ap, subst, arith, refl, length}
use Rattle.word_rules.specs.Words.{Fits, maker}
use Rattle.word_rules.specs.declared.layout.Layout.{Layout}
use Rattle.word_rules.specs.declared.size.ForestSize.{ForestSize}
use Rattle.word_rules.proofs.FirstRows.{nothing_yet}
use Rattle.joined_words.specs.Parts.{entries_in, tags_in, view_in}
use Rattle.joined_words.specs.Joints.{first_of, first_part, quiet_words}
use Rattle.joined_words.specs.Seen.{view_of}
use Rattle.cell_words.specs.Seen.{NothingOf, NobodyUngiven, on_channels, rows_beside}
use Rattle.cell_words.proofs.NewHubs.{all_free, none_legal, count_is, first_rows_fit, free_below}
use Rattle.cell_words.proofs.ActsOfTags.{legal_at, nothing_of}
use Rattle.worded.specs.Views.{has_tag, is_bare}
use Rattle.worded.proofs.StepsOfSeats.{laws_first}
use Rattle.cell_words.proofs.hub.Hub.with_rows.Goals as goal

pub new_joint-requires-clause-legal : goal.new_joint-requires-clause-legal
new_joint-requires-clause-legal c = (none_legal c.in_ok-layout.layout.kinds, nothing_yet _)

pub new_joint-requires-clause-quiet : goal.new_joint-requires-clause-quiet
new_joint-requires-clause-quiet c i h = ap (λ l. get_or l i 0) c.as_slice.ensures.value ∙ c.in_ok-words.ensures.words i
    ∙ free_below i (quiet_words + (3 * c.count_cells-cells.result + 16 * length c.args.kinds.now + 1)) _ (omega (arith, h))

pub new_joint-requires-clause-first : goal.new_joint-requires-clause-first
new_joint-requires-clause-first c i h =
    let n = count_is c.in_ok-layout.layout.kinds c.args.kinds.now c.count_cells-cells.result i c.in_ok-layout.ensures
    c.count_cells-cells.ensures h in
    subst (λ (n : ℕ). Fits c.in_ok-layout.layout.kinds [] i n)
    (sym (ap (λ l. get_or l (quiet_words + i) 0) c.as_slice.ensures.value ∙ c.in_ok-words.ensures.words (quiet_words + i)
    ∙ free_below (quiet_words + i) (quiet_words + (3 * c.count_cells-cells.result + 16 * length c.args.kinds.now + 1)) _
    (omega (arith, n))))
    (all_free c.in_ok-layout.layout.kinds i)

pub new_joint-requires-clause-second : goal.new_joint-requires-clause-second
new_joint-requires-clause-second c i h = first_rows_fit c.as_slice.result.now c.count_cells-cells.result (length c.args.kinds.now)
    c.args.size
    (λ j. ap (λ ws. get_or ws j 0) c.as_slice.ensures.value ∙ c.in_ok-words.ensures.words j) c.in_ok-layout.layout.kinds c.args.kinds.now
    c.in_ok-layout.ensures c.count_cells-cells.ensures refl i h

pub invariant_of-result-2 : goal.invariant_of-result-2
unfolding on_channels
invariant_of-result-2 c =
    let k = c.in_ok-layout.layout in
    let l = laws_first legal_at maker NothingOf nothing_of k (view_of (on_channels c.in_ok-table.seat.me.0))
    (ap (λ x. view_in first_part x.0) c.in_ok-table.ensures.seat.1) (none_legal k.kinds) in
    record {
      legal = l.legal_seen;
      ungiven = l.ungiven;
      nobody = subst NobodyUngiven (sym (ap (λ x. x.0) c.in_ok-table.ensures.seat.1)) (λ chief t not. refl);
    }

pub returns-clause-own : goal.returns-clause-own
unfolding on_channels
returns-clause-own c =
    let t = c.in_ok-table.ensures.seat in (
      (
        t.0 ∙ sym (ap (λ x. x.shared.table_id) c.in_ok-shared.ensures.ok),
        ap (λ m. m.0.key) t.1 ∙ sym c.in_ok-table.ensures.table.1 ∙ sym (ap (λ x. x.shared.key) c.in_ok-shared.ensures.ok),
        ap (λ m. m.0.heard_tags) t.1,
        ap (λ m. is_bare m.1) t.1,
      ),
      ap (λ m. has_tag 0 (tags_in 0 m.0.tags)) t.1,
    )

pub returns-clause-gives : goal.returns-clause-gives
unfolding on_channels
returns-clause-gives c = (ap (λ m. m.0.chief) c.in_ok-table.ensures.seat.1, ap (λ m. tags_in 0 m.0.given) c.in_ok-table.ensures.seat.1)

pub returns-clause-seen : goal.returns-clause-seen
unfolding on_channels
returns-clause-seen c = ap (λ m. entries_in first_of m.0.seen) c.in_ok-table.ensures.seat.1

pub returns-clause-beside : goal.returns-clause-beside
returns-clause-beside c = ap (λ m. rows_beside m.0) c.in_ok-table.ensures.seat.1

pub returns-clause-size : goal.returns-clause-size
returns-clause-size c = ap (λ x. x.shared.key.1) c.in_ok-shared.ensures.ok
    ∙ ap (λ (k : Layout × ForestSize). k.1) c.in_ok-table.ensures.table.1

pub returns-clause-shape : goal.returns-clause-shape
returns-clause-shape c = ap (λ x. x.shared.key.0.kinds) c.in_ok-shared.ensures.ok
    ∙ ap (λ (k : Layout × ForestSize). k.0.kinds) c.in_ok-table.ensures.table.1 ∙ c.in_ok-layout.ensures
