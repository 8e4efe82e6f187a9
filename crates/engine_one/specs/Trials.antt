-- A run that a search begins again and again.
use Rattle.script_grammar.specs.Programs.{Program}
use Rattle.engine_one.specs.declared.trial.Trial.{Trial}
use Rattle.engine_one.specs.Moments.{list_moment, RunStands}

-- its coroutines stand there
abbrev pub TrialStands : {B : Type 0} → Program → Trial B → Type 0
TrialStands p trial = RunStands p (list_moment trial.run)
