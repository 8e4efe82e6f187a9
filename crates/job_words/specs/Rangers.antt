-- What is seen of a ranger.
use Rattle.job_model.specs.Floors.{Floor}
use Rattle.job_words.specs.declared.ranger.Ranger.{Ranger}
use Rattle.job_words.specs.declared.ranger.RangerAnchor.{RangerAnchor}
use Rattle.job_words.specs.Passes.{floor_seen}
use Rattle.job_words.specs.Forests.{seen_by}

-- what its callers have seen
abbrev pub ranger_floor : Ranger → Floor
ranger_floor r = floor_seen (seen_by r.pass.now)

-- what its calls do not change
abbrev pub ranger_anchor : Ranger → RangerAnchor
ranger_anchor r =
    record {
      forest = r.forest.now;
      name = r.pass.ghost_name;
      chief = (seen_by r.pass.now).chief;
      given = (seen_by r.pass.now).given;
    }
