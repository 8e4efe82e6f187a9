-- What is known of an order goes on.
use Rattle.std.specs.Prelude.{List, ◌++◌, []}
use mathlib.Core.List.{IsPrefix}
use Rattle.std.proofs.Common.{sym, ap, ◌∙◌, append_assoc, append-nil}
use Rattle.co_base.specs.Orders.{Side}

pub order_same : (order : List Side) → IsPrefix order order
order_same order = ([], append-nil order)

pub order_then : (a b c : List Side) → IsPrefix a b → IsPrefix b c → IsPrefix a c
order_then a b c h k = (h.0 ++ k.0, sym (append_assoc a h.0 k.0) ∙ ap (λ l. l ++ k.0) h.1 ∙ k.1)
