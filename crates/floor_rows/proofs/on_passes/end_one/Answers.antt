use Rattle.std.proofs.Common.{◌≡◌, Bool, true, false, ap, ◌∙◌, refl}
use Rattle.std.specs.Prelude.{◌||◌}
use Rattle.worded.specs.Views.{has_tag}
use Rattle.cell_words.specs.Hubs.{seen_by}
use Rattle.floor_rows.proofs.on_passes.end_one.Goals as goal

or_true : (b : Bool) → (b || true) ≡ true
or_true true = refl
or_true false = refl

pub returns : goal.returns
returns c =
    let old = has_tag c.args.who (seen_by c.args.main.now).tags in
    record {
      own = (
        c.end.ensures.main,
        c.end.ensures.ended.callers c.args.who ∙ ap (λ (b : Bool). old || b) c.requires.own.1
            ∙ or_true old,
      );
    }
