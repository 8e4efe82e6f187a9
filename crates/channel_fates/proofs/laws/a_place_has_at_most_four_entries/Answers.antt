use Rattle.channel_fates.proofs.FourEntries.{replay_four_entries}
use Rattle.channel_fates.proofs.laws.a_place_has_at_most_four_entries.Goals as goal

pub returns : goal.returns
returns c = replay_four_entries
