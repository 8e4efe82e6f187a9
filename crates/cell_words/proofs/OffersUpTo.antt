-- How many offers stand up to a place, and when they are too many.
use Rattle.std.proofs.Common.{◌≡◌, ℕ, zero, suc, ◌+◌, ◌-◌, ◌<◌, ◌≤◌, nat_le, nat_lt, cond, Bool, true, false, List, [], ◌∷◌, ◌++◌, length, Option, Some, None, is_some, sym, refl, ap, ◌∙◌, subst, inl, inr, arith, length-append, MatchBool}
use Rattle.std.proofs.lemmas.Bool.Decides.{nat_tests}
use Rattle.std.proofs.lemmas.Bool.{le-leb, lt-leb}
use Rattle.channel_model.specs.declared.acts.Entry.{Entry}
use Rattle.channel_model.specs.declared.acts.Kind.{Kind}
use Rattle.channel_model.specs.declared.standing.Standing.{Standing}
use Rattle.channel_model.specs.Channels.{Shape, kind_at, drops}
use Rattle.channel_model.specs.Histories.{replay, Legal}
use Rattle.channel_model.specs.Laws.{NoneBelow}
use Rattle.channel_model.specs.Owing.{offers_up_to}
use Rattle.channel_model.specs.Answers.{IsTrimmed}
use Rattle.word_rules.specs.Cells.{cell_of, gather, add_some}
use Rattle.cell_words.specs.Seen.{Seen, Sees, at_channel}
use Rattle.cell_words.specs.Answers.{stands, IsOver}
use Rattle.cell_words.proofs.ListsOfCells.{standing_is}
use Rattle.cell_words.proofs.OffersRemoved.{offer_place}
use Rattle.cell_words.proofs.CellsTellFacts.{tied_now}
use Rattle.cell_words.proofs.CountsOfOffers.{count_up}
use Rattle.cell_words.proofs.KeptBehind.{over_later}

-- what a kind drops, by its other name
pub drops_as : (k kind : Kind) (much : ℕ → Bool) → k ≡ kind → ((n : ℕ) → drops k n ≡ much n) → (n : ℕ) → drops kind n ≡ much n
drops_as k kind much is h n = sym (ap (λ (z : Kind). drops z n) is) ∙ h n

up_to_push : (m : ℕ) (xs : List Standing) (x : Standing) → offers_up_to m (xs ++ x ∷ []) ≡ offers_up_to m xs + cond (nat_le x.place m) 1 0
up_to_push m [] x = omega arith
up_to_push m (y ∷ ys) x = let ih = up_to_push m ys x in omega arith

module _ (f : ℕ → Option Standing) (at : (q : ℕ) (o : Standing) → f q ≡ Some o → o.place ≡ q) (m : ℕ) where
  up_to_next : (n : ℕ) → n ≤ m → offers_up_to m (gather f n) ≡ length (gather f n) → (o : Option Standing) → f n ≡ o
      → offers_up_to m (add_some o (gather f n)) ≡ length (add_some o (gather f n))
  up_to_next n le ih None e = ih
  up_to_next n le ih (Some x) e =
      let a = up_to_push m (gather f n) x in
      let b = length-append (gather f n) (x ∷ []) in
      let one : ◌≡◌ {A = ℕ} (cond (nat_le x.place m) 1 0) 1 =
      ap {B = ℕ} (λ (t : Bool). cond t 1 0) (le-leb x.place m (let p = at n x e in omega arith)) in
      omega arith

  up_to_all : (n : ℕ) → n ≤ m + 1 → offers_up_to m (gather f n) ≡ length (gather f n)
  up_to_all zero le = refl
  up_to_all (suc n) le = up_to_next n (omega arith) (up_to_all n (omega arith)) (f n) refl

  beyond_next : (n k : ℕ) → m < n → offers_up_to m (gather f n) ≡ k → (o : Option Standing) → f n ≡ o
      → offers_up_to m (add_some o (gather f n)) ≡ k
  beyond_next n k lt ih None e = ih
  beyond_next n k lt ih (Some x) e =
      let a = up_to_push m (gather f n) x in
      let none : ◌≡◌ {A = ℕ} (cond (nat_le x.place m) 1 0) 0 =
      ap {B = ℕ} (λ (t : Bool). cond t 1 0) (lt-leb x.place m (let p = at n x e in omega arith)) in
      omega arith

  up_to_more : (d n : ℕ) → n ≡ m + 1 + d → offers_up_to m (gather f n) ≡ length (gather f (m + 1))
  up_to_more zero n e = let is : m + 1 ≡ n = omega arith
      in subst (λ (z : ℕ). offers_up_to m (gather f z) ≡ length (gather f (m + 1))) is (up_to_all (m + 1) (omega arith))
  up_to_more (suc d) n e = let is : suc (m + 1 + d) ≡ n = omega arith in
      subst (λ (z : ℕ). offers_up_to m (gather f z) ≡ length (gather f (m + 1))) is
      (beyond_next (m + 1 + d) (length (gather f (m + 1))) (omega arith) (up_to_more d (m + 1 + d) refl) (f (m + 1 + d)) refl)

  few : (n : ℕ) → length (gather f n) ≤ n
  few zero = omega arith
  few (suc n) = go (few n) (f n)
    where
      go : length (gather f n) ≤ n → (o : Option Standing) → length (add_some o (gather f n)) ≤ suc n
      go ih None = omega arith
      go ih (Some x) = let b = length-append (gather f n) (x ∷ []) in omega arith

module _ (shape : Shape) (log : List Entry) (l : Legal shape log) (c mine : ℕ) (lt : mine < (at_channel log c).next) where
  at_place : (q : ℕ) (o : Standing) → stands log c q ≡ Some o → o.place ≡ q
  at_place q o e = offer_place (replay log).waits q (cell_of log c q) o (standing_is (replay log).waits q (cell_of log c q) o e)

  up_to_is : offers_up_to mine (at_channel log c).queue ≡ length (gather (stands log c) (mine + 1))
  up_to_is = ap (offers_up_to mine) ((tied_now shape log l).queues c)
      ∙ up_to_more (stands log c) at_place mine ((at_channel log c).next - (mine + 1)) (at_channel log c).next (omega arith)

  -- a kind that drops nothing
  pub trimmed_never : ((n : ℕ) → drops (kind_at shape c) n ≡ false) → IsTrimmed shape c mine (replay log)
  trimmed_never never = never (offers_up_to mine (at_channel log c).queue)

  trimmed_by : (most : ℕ) → ((n : ℕ) → drops (kind_at shape c) n ≡ nat_lt most n) → length (gather (stands log c) (mine + 1)) ≤ most
      → IsTrimmed shape c mine (replay log)
  trimmed_by most kind le = kind (offers_up_to mine (at_channel log c).queue)
      ∙ not_less (offers_up_to mine (at_channel log c).queue) (let e = up_to_is in omega arith)
    where
      not_less : (n : ℕ) → n ≤ most → nat_lt most n ≡ false
      not_less n h = grind (arith, nat_tests)

  -- so few places that no more can stand there
  pub trimmed_few : (most : ℕ) → ((n : ℕ) → drops (kind_at shape c) n ≡ nat_lt most n) → mine < most → IsTrimmed shape c mine (replay log)
  trimmed_few most kind small = trimmed_by most kind (let n = few (stands log c) at_place mine (mine + 1) in omega arith)

  -- fewer were counted
  pub trimmed_count : (most : ℕ) → ((n : ℕ) → drops (kind_at shape c) n ≡ nat_lt most n)
      → length (gather (stands log c) (mine + 1)) < most + 1 → IsTrimmed shape c mine (replay log)
  trimmed_count most kind less = trimmed_by most kind (omega arith)

  -- so many were counted
  pub over_count : (first most : ℕ) → ((n : ℕ) → drops (kind_at shape c) n ≡ nat_lt most n)
      → most + 1 ≤ length (gather (stands log c) (mine + 1)) → IsOver shape c first log
  over_count first most kind many = inr (kind (length (at_channel log c).queue) ∙ less (length (at_channel log c).queue)
      (let e : length (at_channel log c).queue ≡ length (gather (stands log c) (at_channel log c).next) =
      ap length ((tied_now shape log l).queues c) in
      let up = count_up (stands log c) (mine + 1) ((at_channel log c).next - (mine + 1)) (at_channel log c).next (omega arith)
      in omega arith))
    where
      less : (n : ℕ) → most < n → nat_lt most n ≡ true
      less n h = grind (arith, nat_tests)

-- it stays so while the first stands
pub over_seen : (shape : Shape) (c first : ℕ) (u v : Seen) → Sees u v → Legal shape u.seen → Legal shape v.seen
    → first < (at_channel u.seen c).next → NoneBelow 0 first (at_channel u.seen c) → IsOver shape c first u.seen
    → IsOver shape c first v.seen
over_seen shape c first u v s lu l lt low over = subst (λ (es : List Entry). IsOver shape c first es) (sym s.now)
    (go (stands (u.seen ++ s.others) c first) refl)
  where
    go : (x : Option Standing) → stands (u.seen ++ s.others) c first ≡ x → IsOver shape c first (u.seen ++ s.others)
    go None e = inl e
    go (Some o) e = inr (over_later shape c first u.seen s.others lu (subst (Legal shape) s.now l) lt low over (ap is_some e))

-- what a walk has counted
pub over_told : (shape : Shape) (c first mine most : ℕ) (u v : Seen) → Sees u v → Legal shape u.seen → Legal shape v.seen → first ≤ mine
    → mine < (at_channel u.seen c).next → mine < (at_channel v.seen c).next → NoneBelow 0 first (at_channel u.seen c)
    → ((n : ℕ) → drops (kind_at shape c) n ≡ nat_lt most n) → (b : Bool)
    → MatchBool b (most + 1 ≤ length (gather (stands u.seen c) (mine + 1))) (length (gather (stands v.seen c) (mine + 1)) < most + 1)
    → MatchBool b (IsOver shape c first v.seen) (IsTrimmed shape c mine (replay v.seen))
over_told shape c first mine most u v s lu lv le lt lt' low kind true h =
    over_seen shape c first u v s lu lv (omega arith) low (over_count shape u.seen lu c mine lt first most kind h)
over_told shape c first mine most u v s lu lv le lt lt' low kind false h = trimmed_count shape v.seen lv c mine lt' most kind h
