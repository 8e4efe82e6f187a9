use Rattle.job_words.proofs.WordsFollow.{words_of}
use Rattle.job_words.proofs.laws.words_follow_from_entries_and_claims.Goals as goal

pub returns : goal.returns
returns c = words_of
