use Rattle.std.proofs.Common.{subst, sym, ap, arith, length, length-append, ◌∷◌, []}
use Rattle.engine_one.specs.Starting.{AllMade}
use Rattle.engine_one.proofs.Beginnings.{made_more}
use Rattle.engine_one.proofs.start.frames_of.Goals as goal

pub loop-tag-preserved : goal.loop-tag-preserved
loop-tag-preserved g c =
    let i = c.loop-tag.invariant in
    let f = c.in_ok-new.field-0 in
    let made = c.in_ok-new.ensures in
    record {
      count = omega (arith, i.count, ap length c.in_ok-push.ensures.items, length-append c.loop-tag.frames.items (f ∷ []));
      made = subst AllMade (sym c.in_ok-push.ensures.items) (made_more c.loop-tag.frames.items c.loop-tag.tag f i.count i.made
          (record { tag = made.tag; config = made.config; book = made.book }));
    }
