-- What a call sees of a pass of a forest.
use Rattle.job_model.specs.Floors.{Floor}
use Rattle.job_words.specs.declared.pass.JobPass.{JobPass}
use Rattle.job_words.specs.Passes.{floor_seen}
use Rattle.job_words.specs.Forests.{seen_by}

-- the floor as the pass has seen it
abbrev pub pass_floor : JobPass → Floor
pass_floor pass = floor_seen (seen_by pass)
