-- What follows from the facts of a call that succeeded.
use Rattle.std.proofs.Common.{Result, Ok, Err, OnOk}

pub both_on_ok : {A E P Q R : Type 0} (r : Result A E) → (P → Q → R) → OnOk r P → OnOk r Q → OnOk r R
both_on_ok (Ok x) f p q = f p q
both_on_ok (Err e) f p q = tt
