use Rattle.std.proofs.Common.{ℕ, [], get_or, sym, subst}
use Rattle.joined_words.proofs.joint.new_joint.Goals as goal

pub new_history-requires-clause-fit : goal.new_history-requires-clause-fit
new_history-requires-clause-fit g c i lt =
    record {
      quiet = c.requires.quiet i;
      first = λ j lt' is. subst (λ (x : ℕ). g.M.HistoryRule.fits c.args.key.now.0 [] j (get_or c.args.words.now x 0)) (sym is)
          (c.requires.first j lt');
      second = λ j lt' is. subst (λ (x : ℕ). g.N.HistoryRule.fits c.args.key.now.1 [] j (get_or c.args.words.now x 0)) (sym is)
          (c.requires.second j lt');
    }
