use Rattle.job_words.proofs.OneCodeOneWord.{job_code_is, link_code_is}
use Rattle.job_words.proofs.laws.two_words_have_two_numbers.Goals as goal

pub returns-clause-jobs : goal.returns-clause-jobs
returns-clause-jobs c = job_code_is

pub returns-clause-links : goal.returns-clause-links
returns-clause-links c = link_code_is
