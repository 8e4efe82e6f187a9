use Rattle.std.proofs.Common.{rules, sym, ap, ◌∙◌, List, ◌∷◌, Some, ℕ, Option}
use Rattle.atomic_table.specs.Table.{rest}
use Rattle.task_berths.proofs.steps.pick_up.Goals as goal

pub exchange-old-requires : goal.exchange-old-requires
exchange-old-requires g c = let e = c.requires.carried in
    (search rules, (Some e.0, e.1 ∙ ap (λ (l : List (ℕ × Option g.row.T.Denot)). (c.args.tag, Some e.0) ∷ rest l) (sym e.1)))
