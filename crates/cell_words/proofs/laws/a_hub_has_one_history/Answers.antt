use Rattle.cell_words.proofs.TableHoldsChannels.{holds_channels}
use Rattle.cell_words.proofs.laws.a_hub_has_one_history.Goals as goal

pub returns : goal.returns
returns c = holds_channels
