use Rattle.script_grammar.proofs.JobsCounted.{whole_load-job_count}
use Rattle.script_grammar.proofs.laws.the_load_of_a_program_is_the_number_of_its_jobs.Goals as goal

pub returns : goal.returns
returns c = whole_load-job_count
