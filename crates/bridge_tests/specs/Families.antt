-- Two coroutines with their done channels.
use Rattle.std.specs.Prelude.{◌≡◌, ◌∷◌, []}
use Rattle.channel_model.specs.declared.acts.Kind.TheVariants.{Signal}
use Rattle.cell_words.specs.declared.hub.Hub.{Hub}
use Rattle.cell_words.specs.declared.pass.Pass.{Pass}
use Rattle.cell_words.specs.Hubs.{shape_of, IsOwn}
use Rattle.job_words.specs.declared.forest.Forest.{Forest}
use Rattle.job_words.specs.declared.pass.JobPass.{JobPass}
use Rattle.job_words.specs.Forests.{IsOwn as IsOwnOfJobs}

-- two done channels of one place, a forest of two coroutines, and the passes of the root and of the other
abbrev pub IsFamily : Hub → Forest → Pass → JobPass → Pass → JobPass → Type 0
IsFamily hub forest root root_jobs child child_jobs =
    (shape_of hub ≡ (Signal, 1) ∷ (Signal, 1) ∷ [])
    × (forest.size.coroutines ≡ 2)
    × IsOwn hub root 0
    × IsOwnOfJobs forest root_jobs 0
    × IsOwn hub child 1
    × IsOwnOfJobs forest child_jobs 1
