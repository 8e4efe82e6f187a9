use Rattle.std.proofs.Common.{rules}
use Rattle.std.proofs.lemmas.List.Sorted.{IsNonDecreasingBy-from_sort_by_key}
use Rattle.report_picture.proofs.diagram.downwards.Goals as goal

pub returns-clause-downwards : goal.returns-clause-downwards
returns-clause-downwards c = IsNonDecreasingBy-from_sort_by_key (λ d. d.row) _ c.in_ok-sort_by_key.ensures.sorted (λ a r q k. search rules)
