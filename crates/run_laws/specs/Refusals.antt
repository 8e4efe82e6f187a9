-- What the refusals in a book say of the claims that its coroutine has seen.
use Rattle.std.specs.Prelude.{◌≡◌, ◌≢◌, ℕ, ◌+◌, ◌<◌, ◌≤◌, true, false, [], Some, is_some}
use Rattle.std.specs.List.{list_any}
use Rattle.job_model.specs.Floors.{Floor}
use Rattle.script_grammar.specs.Programs.{Program}
use Rattle.script_grammar.specs.Tags.{coroutine_count, scope_count, code_of, scopes_from, LaunchesAt}
use Rattle.script_meaning.specs.Polls.{Frame, is_no_row, is_used, is_parent_ended}
use Rattle.script_laws.specs.Owners.{scopes_claimed}

-- all rows for scopes are claimed, and t claimed fewer of them than its lines enter
pub record NoRowLeft (p : Program) (j : Floor) (t : ℕ) : Type 0 where
  pub all : (r : ℕ) → coroutine_count p ≤ r → r < coroutine_count p + scope_count p → is_some (j.claims r) ≡ true
  pub few : scopes_claimed p j t < scopes_from [] (code_of p t)

-- another claimed a row that t launches
pub record RowTaken (p : Program) (j : Floor) (t : ℕ) : Type 0 where
  pub row : ℕ
  pub other : ℕ
  pub launches : LaunchesAt p t row
  pub claimed : j.claims row ≡ Some other
  pub apart : other ≢ t

-- each refusal of an attach in the book is one by what was claimed, and no parent had ended
pub record RefusedSo (p : Program) (j : Floor) (f : Frame) : Type 0 where
  pub no_row : list_any is_no_row f.book ≡ true → NoRowLeft p j f.tag
  pub used : list_any is_used f.book ≡ true → RowTaken p j f.tag
  pub none_ended : list_any is_parent_ended f.book ≡ false
