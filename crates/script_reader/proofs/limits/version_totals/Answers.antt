use Rattle.script_reader.proofs.limits.version_totals.Goals as goal

pub returns : goal.returns
returns c =
    let h = c.requires in
    let same = c.same_totals.ensures in
    record {
      within = record {
        channels = h.kept.within.channels;
        places = h.kept.within.places;
        current = h.kept.within.current;
        load =
            h.kept.within.load;
      };
      places = same.places;
      weight = same.weight;
      load = same.load;
    }
