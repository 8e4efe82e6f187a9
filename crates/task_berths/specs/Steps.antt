-- What a step tells the seat that makes it.
use Rattle.std.specs.Prelude.{◌≡◌, ◌≢◌, ℕ, suc, ◌+◌, ◌/◌, ◌==◌, false, List, [], ◌∷◌, ◌++◌, Option, Some, None, MatchBool}
use Rattle.atomic_table.specs.Table.{Me}
use Rattle.task_berths.specs.declared.rule.BerthStep.{BerthStep}
use Rattle.task_berths.specs.declared.rule.BerthStep.TheVariants.{Take, Ask, Leave}
use Rattle.task_berths.specs.declared.rule.SeatView.{SeatView}
use Rattle.task_berths.specs.Words.{word_of}
use Rattle.task_berths.specs.Views.{has_tag, having_seen, having_taken, having_left, carrying}

-- the word t was n, as all steps before make it; the seat of a task that another has found another's number
pub record Found (t n : ℕ) (v w : SeatView) : Type 0 where
  pub others : List BerthStep
  pub now : w ≡ having_seen v (v.seen ++ others)
  pub found : n ≡ word_of t (v.seen ++ others)
  pub elsewhere : has_tag t v.held ≡ false → n ≢ 0 → n / 2 ≢ suc v.number

-- the seat whose number stood in the word was asked
pub record Asked (t n : ℕ) (v w : SeatView) : Type 0 where
  pub others : List BerthStep
  pub now : w ≡ having_seen v ((v.seen ++ others) ++ Ask t ∷ [])
  pub found : n ≡ word_of t (v.seen ++ others)

-- what a seat knows, and the slots that it carries
abbrev pub Seated : Type 0 → Type 0
Seated T = Me (Option T) SeatView

module _ {T : Type 0} where
  -- the task is at home again
  pub record Left (t n : ℕ) (m r : Seated T) : Type 0 where
    pub others : List BerthStep
    pub now : r ≡ (having_left m.0 t ((m.0.seen ++ others) ++ Leave t ∷ []), [])
    pub found : n ≡ word_of t (m.0.seen ++ others)
    pub own : n / 2 ≡ suc m.0.number

  -- the seat that has the task was asked where the word was w
  abbrev pub AskAnswer : ℕ → ℕ → ℕ → Seated T → Seated T → Type 0
  AskAnswer t w n m r = MatchBool (n == w) (Asked t n m.0 r.0 × (r.1 ≡ m.1)) (Found t n m.0 r.0 × (r.1 ≡ m.1))

  -- the seat carries the empty slot of the task to whose berth the word belongs
  abbrev pub LiftAnswer : ℕ → ℕ → Seated T → Seated T → Type 0
  LiftAnswer slots word m r = (t : ℕ) → word ≡ slots + t → r ≡ (carrying m.0 (Some t), (t, None) ∷ [])

module _ {T : Type 0} (tag_of : T → ℕ) where
  -- the task was at home, and the seat carries it
  pub record Claimed (t : ℕ) (m r : Seated T) : Type 0 where
    pub others : List BerthStep
    pub now : r.0 ≡ having_taken m.0 t ((m.0.seen ++ others) ++ Take t m.0.number ∷ [])
    pub was_home : word_of t (m.0.seen ++ others) ≡ 0
    pub task : T
    pub carried : r.1 ≡ (t, Some task) ∷ []
    pub tagged : tag_of task ≡ t

  -- the task was taken where the word was 0
  abbrev pub ClaimAnswer : ℕ → ℕ → Seated T → Seated T → Type 0
  ClaimAnswer t n m r = MatchBool (n == 0) (Claimed t m r) (Found t n m.0 r.0 × (r.1 ≡ m.1))
