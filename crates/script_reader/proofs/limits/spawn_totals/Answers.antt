use Rattle.std.proofs.Common.{arith, ◌≡◌, ◌+◌, ◌*◌, ap, get_or, ◌∙◌}
use Rattle.script_grammar.specs.Reads.{spawn_is, after, load}
use Rattle.script_reader.specs.Reading.{view}
use Rattle.script_reader.proofs.Loads.{limited-load, load-spawn}
use Rattle.script_reader.proofs.limits.spawn_totals.Goals as goal

pub returns-then-load-from : goal.returns-then-load-from
returns-then-load-from c =
    let s = view c.args.reading.now in
    let h = c.requires in
    let each : c.from-2.result * c.from-3.result ≡ c.args.count * get_or s.weights c.args.block 0 =
    ap (λ n. n * c.from-3.result) c.from-2.ensures ∙ ap (λ w. c.args.count * w) (c.from-3.ensures ∙ c.weight_of.ensures) in
    limited-load (after (spawn_is c.args.block c.args.count) s) h.kept.within.current h.kept.within.channels h.kept.within.places
    (omega (arith, load-spawn s c.args.block c.args.count, each, h.load, c.from.ensures, c.from-4.ensures, c.if-load-from.true))

pub returns : goal.returns
returns c =
    let s = view c.args.reading.now in
    let h = c.requires in
    let t = after (spawn_is c.args.block c.args.count) s in
    let each : c.from-2.result * c.from-3.result ≡ c.args.count * get_or s.weights c.args.block 0 =
    ap (λ n. n * c.from-3.result) c.from-2.ensures ∙ ap (λ w. c.args.count * w) (c.from-3.ensures ∙ c.weight_of.ensures) in
    let load : c.from.result + c.from-2.result * c.from-3.result ≡ load t =
    omega (arith, load-spawn s c.args.block c.args.count, each, h.load, c.from.ensures) in
    record {
      within = record {
        channels = h.kept.within.channels;
        places = h.kept.within.places;
        current = h.kept.within.current;
        load =
            omega (arith, load, c.from-4.ensures, c.if-load-from.false);
      };
      places = c.same_totals-old.ensures.places;
      weight = c.same_totals-old.ensures.weight;
      load = load;
    }
