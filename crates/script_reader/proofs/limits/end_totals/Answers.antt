use Rattle.std.proofs.Common.{arith, refl, sym, ◌∙◌}
use Rattle.script_reader.specs.Reading.{view}
use Rattle.script_reader.proofs.Loads.{load-end}
use Rattle.script_reader.proofs.limits.end_totals.Goals as goal

pub returns : goal.returns
returns c =
    let h = c.requires in
    let load = load-end (view c.args.reading.now) h.kept.weights h.kept.spawns in
    record {
      within = record {
        channels = h.kept.within.channels;
        places = h.kept.within.places;
        current = tt;
        load =
            omega (arith, load, h.kept.within.load);
      };
      places = h.places;
      weight = refl;
      load = h.load ∙ sym load;
    }
