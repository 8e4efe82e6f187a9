use Rattle.joined_words.proofs.PartsOfTables.{one_history_in}
use Rattle.joined_words.proofs.laws.a_part_has_one_history.Goals as goal

pub returns : goal.returns
returns g c key s r = one_history_in _ _ _ _ _ _ _ _ _ g.met.P.HistoryPart.is_part key s r
