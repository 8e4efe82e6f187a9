-- The point of an order at which a coroutine noted an item of its book; and of two points, one comes first.
use Rattle.std.specs.Prelude.{◌≡◌, List, [], ◌∷◌, ◌++◌}
use Rattle.std.proofs.Common.{ap, sym, ◌∙◌, subst, append_assoc}
use Rattle.std.proofs.lemmas.List.{append-nil}
use mathlib.Core.List.{IsPrefix}
use Rattle.note_book.specs.declared.book.Item.{Item}
use Rattle.call_meaning.specs.Telling.{Told, note, items_in}
use Rattle.call_meaning.specs.Stories.{Story}
use Rattle.co_base.specs.Orders.{Side}
use Rattle.call_meaning.specs.Orders.{IsSoAlong, IsTrueAlong}
use Rattle.run_laws.proofs.Prefixes.{prefix_then}
use Rattle.run_laws.proofs.OneOrder.{same_tail}

-- ---- two points

same_first : {A : Type 0} (x y : A) (xs ys : List A) → x ∷ xs ≡ y ∷ ys → x ≡ y
same_first x y xs ys e = cc

-- ---- the point of a note

sooner : (s : Story) (order : List Side) (items : List Item) (earliest earlier : List Side) (told : Told) (point : List Side)
    → IsPrefix earliest earlier → IsSoAlong s order items earlier told point → IsSoAlong s order items earliest told point
sooner s order items earliest earlier told point p so = record {
  not_before = prefix_then earliest earlier point p so.not_before;
  not_after = so.not_after;
  channel_acts = so.channel_acts;
  job_acts = so.job_acts;
  holds = so.holds;
}

-- what was noted after these items
pub noted_at : (s : Story) (order : List Side) (items : List Item) (earlier : List Side) (told : List Told) (before : List Item) (i : Item)
    (after : List Item) → items_in told ≡ before ++ i ∷ after → IsTrueAlong s order items earlier told
    → (point : List Side) × IsSoAlong s order (items ++ before) earlier (note i) point
unfolding items_in IsTrueAlong
noted_at s order items earlier [] [] i after e t = cc
noted_at s order items earlier [] (b ∷ before) i after e t = cc
noted_at s order items earlier (note j ∷ told) [] i after e (at, so, rest) = (
  at,
  subst (λ l. IsSoAlong s order l earlier (note i) at) (sym (append-nil items))
      (subst (λ k. IsSoAlong s order items earlier (note k) at) (same_first j i (items_in told) after e) so),
)
noted_at s order items earlier (note j ∷ told) (b ∷ before) i after e (at, so, rest) =
    let r = noted_at s order (items ++ j ∷ []) at told before i after (same_tail j b (items_in told) (before ++ i ∷ after) e) rest in
    let noted : (items ++ j ∷ []) ++ before ≡ items ++ b ∷ before = append_assoc items (j ∷ []) before
    ∙ ap (λ k. items ++ k ∷ before) (same_first j b (items_in told) (before ++ i ∷ after) e) in (
      r.0,
      subst (λ l. IsSoAlong s order l earlier (note i) r.0) noted
          (sooner s order ((items ++ j ∷ []) ++ before) earlier at (note i) r.0 so.not_before r.1),
    )
noted_at s order items earlier (other ∷ told) before i after e (at, so, rest) =
    let r = noted_at s order items at told before i after e rest in
    (r.0, sooner s order (items ++ before) earlier at (note i) r.0 so.not_before r.1)

-- what was told after these
pub along_rest : (s : Story) (order : List Side) (items : List Item) (earlier : List Side) (xs ys : List Told)
    → IsTrueAlong s order items earlier (xs ++ ys) → (point : List Side) × IsTrueAlong s order (items ++ items_in xs) point ys
unfolding items_in IsTrueAlong
along_rest s order items earlier [] ys t = (earlier, subst (λ l. IsTrueAlong s order l earlier ys) (sym (append-nil items)) t)
along_rest s order items earlier (note i ∷ xs) ys (at, so, rest) =
    let r = along_rest s order (items ++ i ∷ []) at xs ys rest in
    (r.0, subst (λ l. IsTrueAlong s order l r.0 ys) (append_assoc items (i ∷ []) (items_in xs)) r.1)
along_rest s order items earlier (other ∷ xs) ys (at, so, rest) = along_rest s order items at xs ys rest
