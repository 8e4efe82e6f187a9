use Rattle.std.proofs.Common.{ℕ, Bool, ap, ◌∙◌}
use Rattle.word_bench.proofs.channels.apart.settle_wait.Goals as goal

pub returns : goal.returns
returns c = record {
  own = (
    c.settle.ensures.of,
    ap (λ (f : ℕ → Bool). f c.args.who) c.settle.ensures.answer.0.same.callers
        ∙ c.requires.own.1,
  );
}
