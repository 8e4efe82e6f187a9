use Rattle.script_grammar.proofs.TextsComputed.{scripts_are, every_line_read, canonical_text-every_line, nested_are}
use Rattle.script_grammar.proofs.examples.these_texts_are_scripts.Goals as goal

pub returns-clause-scripts : goal.returns-clause-scripts
returns-clause-scripts c = scripts_are

pub returns-clause-read : goal.returns-clause-read
returns-clause-read c = every_line_read

pub returns-clause-printed : goal.returns-clause-printed
returns-clause-printed c = canonical_text-every_line

pub returns-clause-tags : goal.returns-clause-tags
returns-clause-tags c = nested_are
