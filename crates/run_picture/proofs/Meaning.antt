-- A call that writes nothing, and one that writes a picture.
use Rattle.std.proofs.Common.{◌≡◌, List, ℕ, refl, sym, subst, Option, Some, Result, Ok, Err}
use Rattle.co_base.specs.Streams.{Gave, IsDrained}
use Rattle.run_picture.specs.declared.words.Asked.{Asked}
use Rattle.run_picture.specs.declared.top.Answer.{Answer}
use Rattle.run_picture.specs.declared.outcome.Outcome.{Outcome}
use Rattle.run_picture.specs.declared.outcome.Outcome.TheVariants as outcomes
use Rattle.run_picture.specs.Outcomes.{Answers, Fails, IsMade, IsMadeOf, IsWritten, Means, Stream}

pub fails_means : (o : Outcome) (asked : Option Asked) (source source' sink : Stream) → Fails o asked source source'
    → Means o asked source source' sink sink
fails_means (outcomes.Drawn shown) asked source source' sink f = absurd f
fails_means outcomes.WriteFault asked source source' sink f = absurd f
fails_means outcomes.Refused asked source source' sink f = (f, refl)
fails_means other asked source source' sink f = (f, refl)

pub written_means : (o : Outcome) (asked : Option Asked) (source source' sink sink' : Stream) (answer : Answer)
    → Answers asked answer.shown source source' answer.text.items → IsWritten o answer sink sink' → Means o asked source source' sink sink'
written_means (outcomes.Drawn shown) asked source source' sink sink' answer a w =
    record { text = answer.text.items; answers = subst (λ s. Answers asked s source source' answer.text.items) (sym w.0) a; taken = w.1 }
written_means outcomes.WriteFault asked source source' sink sink' answer a w =
    record { rose = w.0; shown = answer.shown; text = answer.text.items; answers = a; part = w.1 }
written_means outcomes.Refused asked source source' sink sink' answer a w = absurd w
written_means other asked source source' sink sink' answer a w = absurd w

-- what was made of the input that the source gave
pub made_of : (r : Result Answer Outcome) (what : Asked) (source source' : Stream) (input : List ℕ) → Gave source.bytes source'.bytes input
    → IsDrained source'.bytes → IsMadeOf what input r → IsMade r (Some what) source source'
made_of (Ok answer) what source source' input given drained m =
    record { what = what; is_asked = refl; input = input; given = given; drained = drained; pictures = m }
made_of (Err (outcomes.NoReport line)) what source source' input given drained m =
    record { input = input; given = given; drained = drained; is = m }
made_of (Err (outcomes.NotOfScript line)) what source source' input given drained m =
    record { input = input; given = given; drained = drained; is = m }
made_of (Err (outcomes.NoScript fault)) what source source' input given drained m =
    record { input = input; given = given; drained = drained; is = m }
made_of (Err outcomes.NoMemory) what source source' input given drained m = tt
made_of (Err (outcomes.Drawn shown)) what source source' input given drained m = absurd m
made_of (Err outcomes.WriteFault) what source source' input given drained m = absurd m
made_of (Err outcomes.Refused) what source source' input given drained m = absurd m
made_of (Err outcomes.TooLong) what source source' input given drained m = absurd m
made_of (Err outcomes.ReadFault) what source source' input given drained m = absurd m

-- what was made for these words
pub made_for : (r : Result Answer Outcome) (asked asked' : Option Asked) (source source' : Stream) → asked ≡ asked'
    → IsMade r asked source source' → IsMade r asked' source source'
made_for r asked asked' source source' is m = subst (λ a. IsMade r a source source') is m
