-- Counts that look at some places, and know of the others what is decided of them.
use Rattle.std.proofs.Common.{◌≡◌, ℕ, ◌+◌, ◌-◌, ◌<◌, ◌≤◌, Bool, true, false, length, None, is_some, refl, subst, arith, MatchBool}
use Rattle.channel_model.specs.Channels.{Shape}
use Rattle.channel_model.specs.Histories.{Legal}
use Rattle.channel_model.specs.Laws.{NoneBelow}
use Rattle.word_rules.specs.Cells.{gather}
use Rattle.word_rules.specs.Words.{one_if, WereDecided}
use Rattle.cell_words.specs.Seen.{Seen, at_channel, Sees}
use Rattle.cell_words.specs.Answers.{stands, CountedPast}
use Rattle.cell_words.proofs.CountsOfOffers.{count_some, count_none, count_next, count_up, count_less}
use Rattle.cell_words.proofs.LooksAtCells.{sees_then, given_seen}
use Rattle.cell_words.proofs.WalksCount.{stood_seen, gone_seen, counted_low}
use Rattle.cell_words.proofs.WalksToAdmit.{sees_self}
use Rattle.cell_words.proofs.CountsOfDecided.{decided_seen, upper_behind, lower_behind}

fewer_later : (shape : Shape) (c place : ℕ) (v w : Seen) → Sees v w → Legal shape v.seen → Legal shape w.seen
    → place ≤ (at_channel v.seen c).next → length (gather (stands w.seen c) place) ≤ length (gather (stands v.seen c) place)
fewer_later shape c place v w s lv lw le = count_less (stands v.seen c) (stands w.seen c) place
    (λ q lt e. gone_seen shape c q v w s lv lw (omega (arith, lt, le)) e)

module _ (shape : Shape) (c low place count : ℕ) (first v w : Seen) (s : Sees first v) (r : Sees v w) (lf : Legal shape first.seen)
    (lv : Legal shape v.seen) (lw : Legal shape w.seen) (h : CountedPast shape c low place count first v) where
  -- with one place that was looked at
  pub past_one : place < (at_channel first.seen c).next → (b : Bool)
      → MatchBool b (is_some (stands v.seen c place) ≡ true) (stands w.seen c place ≡ None)
      → CountedPast shape c low (place + 1) (count + one_if b) first w
  past_one lt true st = record {
    upper = count_next (stands w.seen c) place count
        (let m = fewer_later shape c place v w r lv lw (given_seen shape place c first v s lv (omega (arith, lt))) in
        let k = h.upper in omega (arith, m, k));
    lower = λ x t lx is. count_some (stands first.seen c) place count (h.lower x (sees_then v w x r t) lx is)
        (stood_seen shape c place first v s lf lv lt st);
  }
  past_one lt false none = record {
    upper = let e = count_none (stands w.seen c) place none in
        let m = fewer_later shape c place v w r lv lw (given_seen shape place c first v s lv (omega (arith, lt))) in
        let k = h.upper in omega (arith, e, m, k);
    lower = λ x t lx is. let k = h.lower x (sees_then v w x r t) lx is in
        let m = count_up (stands first.seen c) place 1 (place + 1) refl in omega (arith, k, m);
  }

  -- with the places behind it of which it is decided
  pub past_range : low ≤ place → (to n : ℕ) → place ≤ to → to ≤ (at_channel first.seen c).next → WereDecided shape w.seen c place to n
      → CountedPast shape c low to (count + n) first w
  past_range le to n up within d = record {
    upper = subst (λ (z : ℕ). length (gather (stands w.seen c) z) ≤ count + n) at
        (upper_behind shape c low w.seen lw place count
        (let m = fewer_later shape c place v w r lv lw (given_seen shape place c first v s lv (omega (arith, up, within))) in
        let k = h.upper in omega (arith, m, k))
        (to - place) n (d (to - place) (omega (arith, up))));
    lower = λ x t lx is. subst (λ (z : ℕ). count + n ≤ length (gather (stands first.seen c) z)) at
        (lower_behind shape c low x.seen lx is (stands first.seen c) place to count le
        (λ p lt here. stood_seen shape c p first x (sees_then first w x (sees_then first v w s r) t) lf lx (omega (arith, lt, within)) here)
        (h.lower x (sees_then v w x r t) lx is) (to - place) n (omega (arith, up))
        (decided_seen shape c place to n w x t lx d (to - place) (omega (arith, up))));
  }
    where
      at : place + (to - place) ≡ to
      at = omega (arith, up)

-- a count begins where none stands below
pub past_none : (shape : Shape) (c low : ℕ) (v : Seen) → Legal shape v.seen → NoneBelow 0 low (at_channel v.seen c)
    → CountedPast shape c low low 0 v v
past_none shape c low v l none = record {
  upper = (counted_low shape c low v l none).upper;
  lower = λ x t lx is. omega arith;
}

-- so it does with the places that are known from there on
pub past_known : (shape : Shape) (c low to n : ℕ) (v w : Seen) → Sees v w → Legal shape v.seen → Legal shape w.seen
    → NoneBelow 0 low (at_channel v.seen c) → low ≤ to → to ≤ (at_channel v.seen c).next → WereDecided shape w.seen c low to n
    → CountedPast shape c low to n v w
past_known shape c low to n v w r lv lw none up within d =
    let is : 0 + n ≡ n = omega arith in
    subst (λ (z : ℕ). CountedPast shape c low to z v w) is
    (past_range shape c low low 0 v v w (sees_self v) r lv lv lw (past_none shape c low v lv none) (omega arith) to n up within d)
