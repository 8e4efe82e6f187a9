-- What a pass has seen after it took another in.
use Rattle.std.specs.Prelude.{◌≡◌, ℕ, true, ◌||◌, List, [], ◌∷◌, ◌++◌, refl}
use Rattle.std.proofs.Common.{sym, ap, ◌∙◌, subst}
use Rattle.worded.specs.Views.{has_tag}
use Rattle.worded.specs.Exchanges.{TookIn}
use Rattle.worded.proofs.StepsOfSeats as steps
use Rattle.worded.proofs.TagsHeld.{has_tag-or}
use Rattle.counted_cells.specs.declared.act.CellEntry.{CellEntry}
use Rattle.counted_cells.specs.Cells.{Legal, maker}
use Rattle.counted_cells.specs.Words.{Fits}
use Rattle.counted_cells.specs.Seen.{Seen, first_tag}
use Rattle.counted_cells.specs.Answers.{HasCome, MayGiveUp, Stays}
use Rattle.counted_cells.specs.Passes.{SameOf, EndAnswer}
use Rattle.counted_cells.proofs.OthersLeave.{come_step, whole_step}
use Rattle.counted_cells.proofs.CallsTell.{kept_apart}
use Rattle.counted_cells.proofs.StepsTell.{PassLaws}

pub end_answer : (cells : ℕ) (v u w : Seen) → TookIn (Legal cells) Fits maker v u w → EndAnswer v u w
end_answer cells v u w m = steps.end_answer SameOf (λ t xs ys e. e) m

-- the other's entries leave what the pass had done
pub end_stays : (cells who : ℕ) (v u w : Seen) → has_tag who v.tags ≡ true → TookIn (Legal cells) Fits maker v u w → Stays who v w
end_stays cells who v u w own m = record {
  come = λ i. kept_apart cells who v w m.others (HasCome who i) (λ s t act sound k ne q. come_step cells s t act who i sound k q) now
      m.is_legal (m.apart who own);
  waits = λ i. kept_apart cells who v w m.others (MayGiveUp who i)
      (λ s t act sound k ne q. whole_step cells s t act who i sound k (λ d at same. ne same) q) now m.is_legal (m.apart who own);
}
  where
    now : w.seen ≡ v.seen ++ m.others
    now = ap (λ (x : Seen). x.seen) m.now

-- the laws of the pass that took the other in
pub laws_ended : (number splits cells key : ℕ) (v u w : Seen) → PassLaws number splits v → v.key ≡ cells → key ≡ cells
    → TookIn (Legal key) Fits maker v u w → PassLaws number splits w
laws_ended number splits cells key v u w p at is m = record {
  numbered = (
    ap (λ (x : Seen). first_tag x.tags) m.now ∙ first_of v.tags u.tags p.numbered.1 ∙ p.numbered.0,
    ap (λ (x : Seen). has_tag number x.tags) m.now ∙ has_tag-or number v.tags u.tags ∙ ap (λ b. b || has_tag number u.tags) p.numbered.1,
  );
  ungiven = λ t lt. ap (λ (x : Seen). has_tag t x.given) m.now ∙ p.ungiven t lt;
  legal = subst (λ (x : ℕ × List CellEntry). Legal x.0 x.1)
      (λ i. ((is ∙ sym at ∙ sym (ap (λ (x : Seen). x.key) m.now)) i, sym (ap (λ (x : Seen). x.seen) m.now) i)) m.is_legal;
}
  where
    first_of : (xs ys : List ℕ) → has_tag number xs ≡ true → first_tag (xs ++ ys) ≡ first_tag xs
    first_of [] ys h = cc
    first_of (x ∷ xs) ys h = refl
