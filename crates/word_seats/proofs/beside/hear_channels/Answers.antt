use Rattle.std.proofs.Common.{sym, subst}
use Rattle.channel_model.specs.Histories.{Legal}
use Rattle.cell_words.specs.Seen.{Known, NothingUngiven, NobodyUngiven, on_channels}
use Rattle.word_seats.proofs.beside.hear_channels.Goals as goal

pub invariant_of-pass : goal.invariant_of-pass
invariant_of-pass c =
    let e = sym c.hear.ensures.other.1 in
    record {
      legal = subst (λ (v : Known). Legal (on_channels v).key.kinds (on_channels v).seen) e c.args.pass.now.legal;
      ungiven = subst (λ (v : Known). NothingUngiven (on_channels v)) e c.args.pass.now.ungiven;
      nobody = subst NobodyUngiven e c.args.pass.now.nobody;
    }
