use Rattle.std.proofs.Common.{sym, subst}
use Rattle.gates.specs.declared.act.GateAct.TheVariants as act
use Rattle.gates.specs.Answers.{Suits}
use Rattle.gates.proofs.WordsTell.{nobody_told}
use Rattle.gates.proofs.choice.next_act.Goals as goal

pub returns-then-word-lt65536 : goal.returns-then-word-lt65536
returns-then-word-lt65536 c = record {
  chosen = (subst (λ d. Suits d act.Give) (sym c.in-Give.is) tt, λ t. nobody_told c.args.word t c.if-word-lt65536.true);
}
