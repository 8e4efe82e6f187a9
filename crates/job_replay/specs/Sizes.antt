-- How many rows there are.
use Rattle.job_model.specs.Trees.{Shape}
use Rattle.job_replay.specs.declared.job_row.JobSize.{JobSize}

-- the numbers of coroutines and of rows
abbrev pub shape_of : JobSize → Shape
shape_of size = record { coroutines = size.coroutines; rows = size.rows }
