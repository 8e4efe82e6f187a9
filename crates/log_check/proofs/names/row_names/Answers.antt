use Rattle.std.proofs.Common.{rules, [], ◌∷◌, ap, map, string_bytes, ◌∙◌}
use Rattle.std.proofs.lemmas.List.{map-append}
use Rattle.log_check.proofs.Named.{one_row_more}
use Rattle.log_check.proofs.names.row_names.Goals as goal

pub loop-row-preserved : goal.loop-row-preserved
loop-row-preserved c =
    one_row_more (map string_bytes c.loop-row.names.items) (map string_bytes c.push.new.self.items) (string_bytes c.in_ok-format.field-0)
    c.loop-row.row-counter c.loop-row.invariant
    (ap (map string_bytes) c.in_ok-push.ensures.items
    ∙ map-append string_bytes c.loop-row.names.items (c.in_ok-format.field-0 ∷ [])) (search rules)
