use Rattle.std.proofs.Common.{◌≡◌, Result, Ok, Err, OnOk, ap, sym, ◌∙◌, Option}
use Rattle.std.specs.Prelude.{option_map}
use Rattle.script_grammar.specs.Blocks.{Open, with_line}
use Rattle.script_grammar.specs.Reads.{Read, line_is, after}
use Rattle.script_reader.specs.Limits.{open_weight}
use Rattle.script_reader.specs.Reading.{view, said, name_in}
use Rattle.script_reader.proofs.enter.enter.Goals as goal

on_ok : {A E : Type 0} (r : Result A E) (P Q : Type 0) → (P → Q) → OnOk r P → OnOk r Q
on_ok (Ok x) P Q f p = f p
on_ok (Err e) P Q f p = tt

pub returns-in-Line : goal.returns-in-Line
returns-in-Line c =
    let s = view c.args.reading.now in
    let job = name_in c.in-Line.job in
    let is : said c.args.form ≡ line_is c.in-Line.line job = ap said c.in-Line.is in
    let weight : c.args.weight ≡ open_weight (option_map (with_line s.weights c.in-Line.line job) s.current) = c.requires.weight
    ∙ ap (λ f. open_weight (after f s).current) is in
    record {
      view = on_ok c.enter_open.result _ _
          (λ h. ap (λ (o : Option Open). let t : Read = record
          { version = s.version; channels = s.channels; blocks = s.blocks; spawns = s.spawns; weights = s.weights; current = o }
          in t) (h s.weights weight)
          ∙ ap (λ f. after f s) (sym is))
          c.enter_open.ensures;
    }
