use Rattle.std.proofs.Common.{ℕ, Bool, ap, ◌∙◌}
use Rattle.floor_rows.proofs.on_passes.look.Goals as goal

pub returns-then-is_own : goal.returns-then-is_own
returns-then-is_own c = record {
  own = (
    c.look.ensures.of,
    ap (λ (f : ℕ → Bool). f c.args.who) c.look.ensures.answer.0.same.callers
        ∙ c.is_own.ensures.own.1,
  );
}
