use Rattle.script_grammar.proofs.LaunchedTags.{launched_once}
use Rattle.script_grammar.proofs.laws.no_tag_is_launched_twice.Goals as goal

pub returns : goal.returns
returns c = launched_once
