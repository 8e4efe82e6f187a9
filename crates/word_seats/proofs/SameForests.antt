-- A pass is one of each forest of its table.
use Rattle.std.proofs.Common.{sym, ap, ◌∙◌}
use Rattle.atomic_table.specs.Seated.{TableId}
use Rattle.word_rules.specs.declared.layout.Layout.{Layout}
use Rattle.word_rules.specs.declared.size.ForestSize.{ForestSize}
use Rattle.job_words.specs.declared.forest.Forest.{Forest}
use Rattle.job_words.specs.declared.pass.JobPass.{JobPass}
use Rattle.job_words.specs.Forests.{IsOf}
use Rattle.word_seats.specs.Names.{IsNamedForest}

pub same_forest : (table : TableId) (key : Layout × ForestSize) (f g : Forest) (p : JobPass) → IsNamedForest table key f
    → IsNamedForest table key g → IsOf g p → IsOf f p
same_forest table key f g p n m of =
    let k = of.0.1 ∙ m.1 ∙ sym n.1 in
    ((of.0.0 ∙ m.0 ∙ sym n.0, k, of.0.2, of.0.3), ap (λ (x : Layout × ForestSize). x.1) k ∙ f.placed.same, of.2)
