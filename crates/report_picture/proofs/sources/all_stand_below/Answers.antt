use Rattle.report_picture.proofs.Below.{goes_on, none_placed, one_above}
use Rattle.report_picture.proofs.sources.all_stand_below.Goals as goal

pub returns-in_default-places : goal.returns-in_default-places
returns-in_default-places c =
    none_placed c.args.wanted _ _ _ _ _ _ c.in-len1-up.len_at_least c.in_default-places.len_below c.loop-rest.invariant

pub returns-then-not-stands_below : goal.returns-then-not-stands_below
returns-then-not-stands_below c =
    one_above c.args.wanted _ _ _ _ _ _ _ _ _ c.in-len1-up.len_at_least c.in-len1-up-places.len_at_least c.stands_below.ensures
    c.if-not-stands_below.true c.loop-rest.invariant

pub loop-rest-preserved : goal.loop-rest-preserved
loop-rest-preserved c =
    goes_on c.args.wanted _ _ _ _ _ _ _ _ _ c.in-len1-up.len_at_least c.in-len1-up-places.len_at_least c.stands_below.ensures
    c.if-not-stands_below.false c.loop-rest.invariant
