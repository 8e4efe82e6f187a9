-- A call that writes nothing, and one that writes an answer.
use Rattle.std.proofs.Common.{◌≡◌, List, ℕ, ap, refl, sym, subst, Option, Some, Result, Ok, Err}
use Rattle.co_base.specs.Streams.{Gave, IsDrained}
use Rattle.script_reader.specs.Scripts.{program_of}
use Rattle.history_text.specs.declared.input.Input.{Input}
use Rattle.history_text.specs.Numbers.{shape_of}
use Rattle.history_text.specs.Readings.{IsRead}
use Rattle.history_check.specs.declared.verdict.Verdict.{Verdict}
use Rattle.history_check.specs.declared.verdict.Verdict.TheVariants as verdict
use Rattle.judge_run.specs.declared.outcome.Outcome.{Outcome}
use Rattle.judge_run.specs.declared.outcome.Outcome.TheVariants as outcomes
use Rattle.judge_run.specs.declared.outcome.Said.{Said}
use Rattle.judge_run.specs.declared.top.Answer.{Answer}
use Rattle.judge_run.specs.declared.words.Asked.{Asked}
use Rattle.judge_run.specs.declared.words.Asked.TheVariants as requests
use Rattle.judge_run.specs.Texts.{HasLine}
use Rattle.judge_run.specs.Outcomes.{Answers, Fails, IsJudged, IsMade, IsMadeOf, IsOf, IsToldAs, IsWritten, Judges, Means, Says, Stream, said_of}

pub fails_means : (o : Outcome) (asked : Option Asked) (source source' sink : Stream) → Fails o asked source source'
    → Means o asked source source' sink sink
fails_means (outcomes.Told what) asked source source' sink f = absurd f
fails_means outcomes.WriteFault asked source source' sink f = absurd f
fails_means outcomes.Refused asked source source' sink f = (f, refl)
fails_means other asked source source' sink f = (f, refl)

pub written_means : (o : Outcome) (asked : Option Asked) (source source' sink sink' : Stream) (answer : Answer)
    → ((request : Asked) × (asked ≡ Some request) × Answers request answer.said source source' answer.text.items)
    → IsWritten o answer sink sink'
    → Means o asked source source' sink sink'
written_means (outcomes.Told what) asked source source' sink sink' answer a w = record {
  request = a.0;
  is_asked = a.1;
  text = answer.text.items;
  answers = subst (λ s. Answers a.0 s source source' answer.text.items) (sym w.0) a.2;
  taken = w.1;
}
written_means outcomes.WriteFault asked source source' sink sink' answer a w = record {
  request = a.0;
  is_asked = a.1;
  rose = w.0;
  what = answer.said;
  text = answer.text.items;
  answers = a.2;
  part = w.1;
}
written_means outcomes.Refused asked source source' sink sink' answer a w = absurd w
written_means other asked source source' sink sink' answer a w = absurd w

-- what was made of the input that the source gave
pub made_of : (request : Asked) (r : Result Answer Outcome) (source source' : Stream) (input : List ℕ)
    → Gave source.bytes source'.bytes input → IsDrained source'.bytes → IsMadeOf request input r → IsMade r (Some request) source source'
made_of request (Ok answer) source source' input given drained m =
    (request, refl, record { input = input; given = given; drained = drained; says = m.0; line = m.1 })
made_of request (Err outcomes.NoHistory) source source' input given drained m = ap Some m
made_of request (Err outcomes.NoMemory) source source' input given drained m = tt
made_of request (Err (outcomes.Told what)) source source' input given drained m = absurd m
made_of request (Err outcomes.WriteFault) source source' input given drained m = absurd m
made_of request (Err outcomes.Refused) source source' input given drained m = absurd m
made_of request (Err outcomes.TooLong) source source' input given drained m = absurd m
made_of request (Err outcomes.ReadFault) source source' input given drained m = absurd m

-- what was made for these words
pub made_for : (r : Result Answer Outcome) (asked asked' : Option Asked) (source source' : Stream) → asked ≡ asked'
    → IsMade r asked source source' → IsMade r asked' source source'
made_for r asked asked' source source' is m = subst (λ a. IsMade r a source source') is m

-- what is said without a verdict
pub told_of : (request : Asked) (what : Said) (r : Result Answer Outcome) (input : List ℕ)
    → ((text : List ℕ) → Says request what input text) → IsToldAs what r → IsMadeOf request input r
told_of request what (Ok answer) input says t = (
  subst (λ s. Says request s input answer.text.items) (sym t.0) (says answer.text.items),
  subst (λ s. HasLine s answer.text.items) (sym t.0) t.1,
)
told_of request what (Err outcomes.NoHistory) input says t = absurd t
told_of request what (Err outcomes.NoMemory) input says t = tt
told_of request what (Err (outcomes.Told s)) input says t = absurd t
told_of request what (Err outcomes.WriteFault) input says t = absurd t
told_of request what (Err outcomes.Refused) input says t = absurd t
told_of request what (Err outcomes.TooLong) input says t = absurd t
told_of request what (Err outcomes.ReadFault) input says t = absurd t

-- the same of an input, as it was asked for
pub judges_of : (what : Said) (r : Result Answer Outcome) (input : List ℕ) → Judges what input → IsToldAs what r
    → IsMadeOf requests.Verdict input r
judges_of what r input judges t = told_of requests.Verdict what r input (λ text. judges) t

-- a verdict is said
says_of : (v : Verdict) (input : List ℕ) → IsOf v input → Judges (said_of v) input
says_of verdict.Legal input is = is
says_of (verdict.MayNotCome n) input is = is
says_of (verdict.NotSo n) input is = is

-- what is said of an input that was read
pub judged_of : (input : Input) (bytes : List ℕ) (r : Result Answer Outcome) → IsRead input bytes → IsJudged input r
    → IsMadeOf requests.Verdict bytes r
judged_of input bytes (Ok answer) read j = (
  subst (λ s. Judges s bytes) (sym j.said_is)
      (says_of j.v bytes
      (record {
        program = program_of input.script;
        jobs = shape_of input.numbers;
        lines = input.lines.items;
        has = read;
        verdict = j.verdict;
      })),
  j.line,
)
judged_of input bytes (Err outcomes.NoHistory) read j = absurd j
judged_of input bytes (Err outcomes.NoMemory) read j = tt
judged_of input bytes (Err (outcomes.Told s)) read j = absurd j
judged_of input bytes (Err outcomes.WriteFault) read j = absurd j
judged_of input bytes (Err outcomes.Refused) read j = absurd j
judged_of input bytes (Err outcomes.TooLong) read j = absurd j
judged_of input bytes (Err outcomes.ReadFault) read j = absurd j
