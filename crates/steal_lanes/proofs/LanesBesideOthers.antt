-- New lanes, each beside all others.
use Rattle.std.proofs.Common.{◌≡◌, ◌≢◌, ℕ, ◌+◌, ◌-◌, zero, suc, ◌<◌, ◌≤◌, List, [], ◌∷◌, ◌++◌, length, map, take, drop, set, get_or, Some, sym, refl, ap, ◌∙◌, subst, append_assoc, append-nil, arith}
use Rattle.std.specs.Prelude.{slice_get}
use mathlib.Core.Logic.{dite}
use native.Mathlib.Decide.{ℕ_discrete}
use Rattle.std.proofs.lemmas.List.{take_more, take-map, drop-map, map-append, length-drop}
use Rattle.std.proofs.Math.Seq.{map-set_same}
use Rattle.steal_lanes.specs.Queues.{guest}
use Rattle.steal_lanes.specs.declared.other_lane.OtherLane.{OtherLane}
use Rattle.steal_lanes.specs.declared.lane.Lane.{Lane}
use Rattle.steal_lanes.specs.Lanes.{other_deque, other_view, own_deque, others_of, the_others, AllNew, IsNewLane, AllNewLanes, AddsWays, AreWays, AreLanes, IsConnected}

-- ---- ways into some lanes

all_new-append : (xs ys : List OtherLane) → AllNew xs → AllNew ys → AllNew (xs ++ ys)
all_new-append [] ys h k = k
all_new-append (x ∷ xs) ys h k = (h.0, all_new-append xs ys h.1 k)

pub ways_none : (xs : List OtherLane) → AddsWays xs xs []
ways_none xs = record { deques = sym (append-nil (map other_deque xs)); new_ways = λ h. h }

pub ways_more : (old now new : List OtherLane) (ls : List Lane) (i : ℕ) (x : Lane) (o : OtherLane) → AddsWays old now (take i ls)
    → i < length ls → x ≡ get_or ls i x → new ≡ now ++ o ∷ []
    → other_deque o ≡ own_deque x → other_view o ≡ guest → AddsWays old new (take (i + 1) ls)
ways_more old now new ls i x o a lt e is d v = record {
  deques = ap (map other_deque) is ∙ map-append other_deque now (o ∷ []) ∙ (λ j. a.deques j ++ d j ∷ [])
      ∙ append_assoc (map other_deque old) (map own_deque (take i ls)) (own_deque x ∷ [])
      ∙ ap (λ l. map other_deque old ++ l) (ap (λ (y : Lane). map own_deque (take i ls) ++ own_deque y ∷ []) e
      ∙ sym (ap (map own_deque) (take_more ls i x lt) ∙ map-append own_deque (take i ls) (get_or ls i x ∷ [])));
  new_ways = λ h. subst AllNew (sym is) (all_new-append now (o ∷ []) (a.new_ways h) (v, tt));
}

take_whole : {A : Type 0} (n : ℕ) (xs : List A) → length xs ≤ n → take n xs ≡ xs
take_whole zero [] le = refl
take_whole zero (x ∷ xs) le = absurd (omega arith)
take_whole (suc n) [] le = refl
take_whole (suc n) (x ∷ xs) le = ap (λ l. x ∷ l) (take_whole n xs (omega arith))

pub ways_all : (old now : List OtherLane) (ls : List Lane) (n : ℕ) → AddsWays old now (take n ls) → length ls ≤ n → AddsWays old now ls
ways_all old now ls n a le = subst (AddsWays old now) (take_whole n ls le) a

rest_whole : {A : Type 0} (n : ℕ) (xs : List A) → take (length xs - n) (drop n xs) ≡ drop n xs
rest_whole n xs = take_whole (length xs - n) (drop n xs) (let k = length-drop n xs in omega arith)

-- those behind and those before the i-th
pub ways_of : (none first both : List OtherLane) (ls : List Lane) (i : ℕ) → none ≡ []
    → AddsWays none first (take (length ls - (i + 1)) (drop (i + 1) ls)) → AddsWays first both (take i ls) → AreWays i both ls
ways_of none first both ls i e a b = record {
  deques = b.deques ∙ ap (λ l. l ++ map own_deque (take i ls)) (a.deques
      ∙ (λ j. map other_deque (e j) ++ map own_deque (rest_whole (i + 1) ls j)))
      ∙ (λ j. sym (drop-map own_deque (i + 1) ls) j ++ sym (take-map own_deque i ls) j);
  new = b.new_ways (a.new_ways (subst AllNew (sym e) tt));
}

-- ---- the lanes

pub new_lanes-push : (least : ℕ) (ls : List Lane) (l : Lane) → AllNewLanes least ls → IsNewLane least l → AllNewLanes least (ls ++ l ∷ [])
new_lanes-push least [] l h k = (k, tt)
new_lanes-push least (x ∷ xs) l h k = (h.0, new_lanes-push least xs l h.1 k)

new_at : (least : ℕ) (ls : List Lane) (i : ℕ) (x : Lane) → AllNewLanes least ls → i < length ls → x ≡ get_or ls i x → IsNewLane least x
new_at least [] i x h lt e = absurd (omega arith)
new_at least (l ∷ ls) zero x h lt e = subst (IsNewLane least) (sym e) h.0
new_at least (l ∷ ls) (suc i) x h lt e = new_at least ls i x h.1 (omega arith) e

new_set : (least : ℕ) (ls : List Lane) (i : ℕ) (y : Lane) → AllNewLanes least ls → IsNewLane least y → AllNewLanes least (set ls i y)
new_set least [] i y h k = tt
new_set least (l ∷ ls) zero y h k = (k, h.1)
new_set least (l ∷ ls) (suc i) y h k = (h.0, new_set least ls i y h.1 k)

get_set_same : {A : Type 0} (xs : List A) (i : ℕ) (x y : A) → slice_get (set xs i y) i ≡ Some x → x ≡ y
get_set_same [] i x y e = cc
get_set_same (z ∷ zs) zero x y e = cc
get_set_same (z ∷ zs) (suc i) x y e = get_set_same zs i x y e

get_set_other : {A : Type 0} (xs : List A) (i j : ℕ) (y : A) → j ≢ i → slice_get (set xs i y) j ≡ slice_get xs j
get_set_other [] i j y ne = refl
get_set_other (z ∷ zs) zero zero y ne = absurd (ne refl)
get_set_other (z ∷ zs) zero (suc j) y ne = refl
get_set_other (z ∷ zs) (suc i) zero y ne = refl
get_set_other (z ∷ zs) (suc i) (suc j) y ne = get_set_other zs i j y (λ e. ne (ap suc e))

-- the first lanes have their ways into the others
abbrev pub Ready : ℕ → List Lane → Type 0
Ready n ls = (j : ℕ) (l : Lane) → j < n → slice_get ls j ≡ Some l → map other_deque (others_of l) ≡ the_others j (map own_deque ls)

-- the next lane is connected
pub connected : (least i : ℕ) (ls : List Lane) (others : List OtherLane) (x y : Lane) → AllNewLanes least ls → Ready i ls → i < length ls
    → x ≡ get_or ls i x → AreWays i others ls → IsConnected others x y
    → AllNewLanes least (set ls i y) × Ready (i + 1) (set ls i y)
connected least i ls others x y h r lt e w k = (
  new_set least ls i y h (let n = new_at least ls i x h lt e
      in record { room = k.room ∙ n.room; view = k.view ∙ n.view; others = subst AllNew (sym k.ways) w.new }),
  λ j l below at. subst (λ ds. map other_deque (others_of l) ≡ the_others j ds) (sym same) (by_place j l below at),
)
  where
    same : map own_deque (set ls i y) ≡ map own_deque ls
    same = map-set_same own_deque ls i y x (k.own ∙ ap own_deque e)

    by_place : (j : ℕ) (l : Lane) → j < i + 1 → slice_get (set ls i y) j ≡ Some l
        → map other_deque (others_of l) ≡ the_others j (map own_deque ls)
    by_place j l below at = dite (ℕ_discrete j i)
        (λ is. let z : l ≡ y = get_set_same ls i l y (ap (slice_get (set ls i y)) (sym is) ∙ at)
        in ap (λ (u : Lane). map other_deque (others_of u)) z ∙ ap (map other_deque) k.ways ∙ w.deques
        ∙ ap (λ n. the_others n (map own_deque ls)) (sym is))
        (λ ne. r j l (omega arith) (sym (get_set_other ls i j y ne) ∙ at))

get_within : {A : Type 0} (xs : List A) (j : ℕ) (x : A) → slice_get xs j ≡ Some x → j < length xs
get_within [] j x e = cc
get_within (z ∷ zs) zero x e = omega arith
get_within (z ∷ zs) (suc j) x e = let k = get_within zs j x e in omega arith

-- all of them are
pub all_connected : (workers least n : ℕ) (ls : List Lane) → length ls ≡ workers → AllNewLanes least ls → Ready n ls → workers ≤ n
    → AreLanes workers least ls
all_connected workers least n ls count h r le = record {
  count = count;
  new = h;
  others =
      λ i l at. r i l (let k = get_within ls i l at in omega arith) at;
}
