-- Which calls fail, and what is counted.
use Rattle.std.specs.Prelude.{◌≡◌, ℕ, List, Contains}
use Rattle.co_base.specs.Streams.{one_more}
use Rattle.co_base.specs.declared.failing.FailingCalls.{FailingCalls}

-- no call was made, and the calls of these numbers are to fail
pub record MadeFor (numbers : List ℕ) (c : FailingCalls) : Type 0 where
  pub calls : c.calls ≡ 0
  pub fails : c.fails.items ≡ numbers
  pub faults : c.faults ≡ 0

-- the next call is one of those that are to fail
abbrev pub FailsNext : FailingCalls → Type 0
FailsNext c = Contains c.fails.items (one_more c.calls)

-- one more call was made
abbrev pub after_call : FailingCalls → FailingCalls
after_call c = record c { calls = one_more c.calls }

-- one more failure was counted
abbrev pub after_failure : FailingCalls → FailingCalls
after_failure c = record c { faults = one_more c.faults }
