use Rattle.script_grammar.proofs.GeneratedScript.{canonical_text-generated, Spells-generated_text, job_count-generated}
use Rattle.script_grammar.proofs.laws.the_generated_text_spells_the_generated_script.Goals as goal

pub returns-clause-canonical : goal.returns-clause-canonical
returns-clause-canonical c = canonical_text-generated

pub returns-clause-spelled : goal.returns-clause-spelled
returns-clause-spelled c = Spells-generated_text

pub returns-clause-jobs : goal.returns-clause-jobs
returns-clause-jobs c = job_count-generated
