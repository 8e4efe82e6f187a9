use Rattle.std.proofs.Common.{Some, None, ap}
use Rattle.clap.specs.Words.{found_of, is_simple_and_free, rows_of}
use Rattle.command_line.specs.declared.words.Command.TheVariants.{Sum}
use Rattle.command_line.specs.Commands.{sum_by, sum_line}
use Rattle.command_line.proofs.Asked.{none_asked, some_asked, sum_no_size, sum_says}
use Rattle.command_line.proofs.words.sum_in.Goals as goal

pub matches_of-requires : goal.matches_of-requires
matches_of-requires c = ap is_simple_and_free c.in_ok-sum_line.ensures

pub returns-in_default-clause-exact : goal.returns-in_default-clause-exact
returns-in_default-clause-exact c = none_asked (λ m. rows_of (found_of m)) sum_by _ sum_line _ _ c.in_ok-sum_line.ensures
    c.in_ok-matches.ensures c.in_default.is

pub returns-in_default-size_in-clause-exact : goal.returns-in_default-size_in-clause-exact
returns-in_default-size_in-clause-exact c = some_asked (λ m. rows_of (found_of m)) sum_by _ sum_line _ _ c.in-Some.matches None
    c.in_ok-sum_line.ensures
    c.in_ok-matches.ensures c.in-Some.is (sum_no_size (rows_of (found_of c.in-Some.matches)) _ c.size_in.ensures.value
    c.in_default-size_in.is)

pub returns-in_default-workers_in-clause-exact : goal.returns-in_default-workers_in-clause-exact
returns-in_default-workers_in-clause-exact c = some_asked (λ m. rows_of (found_of m)) sum_by _ sum_line _ _ c.in-Some.matches None
    c.in_ok-sum_line.ensures
    c.in_ok-matches.ensures c.in-Some.is (sum_says (rows_of (found_of c.in-Some.matches)) _ _ _ None c.size_in.ensures.value
    c.in-Some-size_in.is c.workers_in.ensures.value c.in_default-workers_in.is)

pub returns-clause-exact : goal.returns-clause-exact
returns-clause-exact c = some_asked (λ m. rows_of (found_of m)) sum_by _ sum_line _ _ c.in-Some.matches
    (Some (Sum c.in-Some-size_in.size c.in-Some-workers_in.workers)) c.in_ok-sum_line.ensures
    c.in_ok-matches.ensures c.in-Some.is (sum_says (rows_of (found_of c.in-Some.matches)) _ _ _ (Some _) c.size_in.ensures.value
    c.in-Some-size_in.is c.workers_in.ensures.value c.in-Some-workers_in.is)

pub returns-clause-limits : goal.returns-clause-limits
returns-clause-limits c = (
  c.in-Some-size_in.ensures.limits.0,
  c.in-Some-size_in.ensures.limits.1,
  c.in-Some-workers_in.ensures.limits.0,
  c.in-Some-workers_in.ensures.limits.1,
)
