use Rattle.std.proofs.Common.{arith, ◌++◌, ◌∷◌, [], ◌≡◌, ◌+◌, length-append}
use Rattle.std.proofs.lemmas.List.{length-map}
use Rattle.script_grammar.specs.Programs.{places_in}
use Rattle.script_grammar.specs.Reads.{channel_is, after}
use Rattle.script_grammar.proofs.SpelledIsProgram.{places_in-push}
use Rattle.script_reader.specs.Programs.{declared_of}
use Rattle.script_reader.specs.Reading.{view}
use Rattle.script_reader.proofs.Loads.{limited-places}
use Rattle.script_reader.proofs.limits.channel_totals.Goals as goal

pub returns-then-all-gt-MOST_PLACES : goal.returns-then-all-gt-MOST_PLACES
returns-then-all-gt-MOST_PLACES c = λ d is.
    let s = view c.args.reading.now in
    let h = c.requires in
    limited-places (after (channel_is d) s) h.kept.within.current
    (omega (
      arith,
      length-append s.channels (d ∷ []),
      length-map c.args.reading.now.channels.items.items declared_of,
      c.if-len-ge-MOST_CHANNELS.false,
      c.len.ensures,
    ))
    (omega (arith, places_in-push s.channels d, is, h.places, c.if-all-gt-MOST_PLACES.true, c.from.ensures, c.from-2.ensures))

pub returns : goal.returns
returns c = λ d is.
    let s = view c.args.reading.now in
    let h = c.requires in
    let places : c.from.result + c.from-2.result ≡ places_in (s.channels ++ d ∷ []) =
    omega (arith, places_in-push s.channels d, is, h.places, c.from.ensures, c.from-2.ensures) in
    record {
      within = record {
        channels = omega (
          arith,
          length-append s.channels (d ∷ []),
          length-map c.args.reading.now.channels.items.items declared_of,
          c.if-len-ge-MOST_CHANNELS.false,
          c.len.ensures,
        );
        places = omega (arith, places, c.if-all-gt-MOST_PLACES.false);
        current = h.kept.within.current;
        load = h.kept.within.load;
      };
      places = places;
      weight = c.same_totals-old.ensures.weight;
      load = c.same_totals-old.ensures.load;
    }
