use Rattle.std.proofs.Common.{◌≡◌, ◌++◌, nat_le, true, length, map}
use Rattle.std.specs.List.{list_all}
use Rattle.script_reader.specs.Closings.{closing_places}
use Rattle.script_reader.proofs.closings.all_closings.Given as goal

abbrev pub invariant-loop-rest : goal.invariant-loop-rest
invariant-loop-rest l = record {
  few : list_all (λ c. nat_le (length c.code.items) 1048577) l.rest ≡ true;
  same : map (λ places. places.items) l.all.items ++ map (λ c. closing_places c.code.items) l.rest ≡
      map (λ c. closing_places c.code.items) l.coroutines;
}

abbrev pub decreases-loop-rest : goal.decreases-loop-rest
decreases-loop-rest l = length l.rest
