-- A call that writes nothing, and one that writes an explanation.
use Rattle.std.proofs.Common.{List, ℕ, Bool, true, refl, Result, Ok, Err, Vec}
use Rattle.std.specs.Global.{Global}
use Rattle.co_base.specs.Streams.{Gave, IsDrained}
use Rattle.explain_run.specs.declared.outcome.Outcome.{Outcome}
use Rattle.explain_run.specs.declared.outcome.Outcome.TheVariants as outcomes
use Rattle.explain_run.specs.Outcomes.{Answers, Fails, IsMade, IsMadeOf, IsWritten, Means, Stream}

pub fails_means : (o : Outcome) (asked : Bool) (source source' sink : Stream) → Fails o asked source source'
    → Means o asked source source' sink sink
fails_means outcomes.Explained asked source source' sink f = absurd f
fails_means outcomes.WriteFault asked source source' sink f = absurd f
fails_means outcomes.Refused asked source source' sink f = (f, refl)
fails_means other asked source source' sink f = (f, refl)

pub written_means : (o : Outcome) (asked : Bool) (source source' sink sink' : Stream) (text : List ℕ)
    → Answers asked source source' text → IsWritten o text sink sink' → Means o asked source source' sink sink'
written_means outcomes.Explained asked source source' sink sink' text a w = record { text = text; answers = a; taken = w }
written_means outcomes.WriteFault asked source source' sink sink' text a w =
    record { rose = w.0; text = text; answers = a; part = w.1 }
written_means outcomes.Refused asked source source' sink sink' text a w = absurd w
written_means other asked source source' sink sink' text a w = absurd w

-- what was made of the input that the source gave
pub made_of : (r : Result (Vec ℕ Global) Outcome) (source source' : Stream) (input : List ℕ) → Gave source.bytes source'.bytes input
    → IsDrained source'.bytes → IsMadeOf input r → IsMade r true source source'
made_of (Ok text) source source' input given drained m =
    (refl, record { input = input; given = given; drained = drained; is = m })
made_of (Err (outcomes.Unexplained fault)) source source' input given drained m =
    (refl, record { input = input; given = given; drained = drained; is = m })
made_of (Err outcomes.Explained) source source' input given drained m = absurd m
made_of (Err outcomes.NoMemory) source source' input given drained m = absurd m
made_of (Err outcomes.WriteFault) source source' input given drained m = absurd m
made_of (Err outcomes.Refused) source source' input given drained m = absurd m
made_of (Err outcomes.TooLong) source source' input given drained m = absurd m
made_of (Err outcomes.ReadFault) source source' input given drained m = absurd m
