-- A call that writes nothing, and one that writes a text.
use Rattle.std.proofs.Common.{◌≡◌, ◌≤◌, List, ℕ, true, length, refl, sym, subst, Option, Some, Result, Ok, Err, IfOk, IfErr, arith}
use Rattle.co_base.specs.Streams.{Gave, GaveJust, IsDrained}
use Rattle.script_grammar.specs.Programs.{Program}
use Rattle.script_grammar.specs.Grammar.{Spells}
use Rattle.run_claims.specs.Reports.{Reports}
use Rattle.run_explore.specs.declared.outcome.Ending.TheVariants as ending
use Rattle.end_search.specs.Blocks.{TellsInOrder, TellsOf, does_suit}
use Rattle.end_search.specs.declared.answers.Limit.{Limit}
use Rattle.end_search.specs.declared.answers.Report.{Report}
use Rattle.run_explore.specs.Words.{Request, in_order, report_of}
use Rattle.run_explore.specs.declared.top.Answer.{Answer}
use Rattle.run_explore.specs.declared.outcome.Outcome.{Outcome}
use Rattle.run_explore.specs.declared.outcome.Outcome.TheVariants as outcomes
use Rattle.run_explore.specs.Outcomes.{Answers, Fails, IsMade, IsMadeOf, IsWritten, Means, ShowsOrder, Stream, Tells}

pub fails_means : (o : Outcome) (asked : Option Request) (source source' sink : Stream) → Fails o asked source source'
    → Means o asked source source' sink sink
fails_means (outcomes.Written how) asked source source' sink f = absurd f
fails_means outcomes.WriteFault asked source source' sink f = absurd f
fails_means outcomes.Refused asked source source' sink f = (f, refl)
fails_means other asked source source' sink f = (f, refl)

pub written_means : (o : Outcome) (asked : Option Request) (source source' sink sink' : Stream) (answer : Answer)
    → Answers asked answer.ending source source' answer.text.items → IsWritten o answer sink sink' → Means o asked source source' sink sink'
written_means (outcomes.Written how) asked source source' sink sink' answer a w =
    record { text = answer.text.items; answers = subst (λ h. Answers asked h source source' answer.text.items) (sym w.0) a; taken = w.1 }
written_means outcomes.WriteFault asked source source' sink sink' answer a w =
    record { rose = w.0; how = answer.ending; text = answer.text.items; answers = a; part = w.1 }
written_means outcomes.Refused asked source source' sink sink' answer a w = absurd w
written_means other asked source source' sink sink' answer a w = absurd w

-- what was made of the input that the source gave
pub made_of : (r : Result Answer Outcome) (what : Request) (source source' : Stream) (input : List ℕ)
    → Gave source.bytes source'.bytes input → (length input ≤ 1048576 → IsDrained source'.bytes) → IsMadeOf what input r
    → IsMade r (Some what) source source'
made_of (Ok answer) what source source' input given all m =
    record { what = what; is_asked = refl; input = input; given = given; all = all; tells = m }
made_of (Err outcomes.NoEnd) what source source' input given all m = m
made_of (Err outcomes.NoMemory) what source source' input given all m = tt
made_of (Err (outcomes.Written how)) what source source' input given all m = absurd m
made_of (Err outcomes.WriteFault) what source source' input given all m = absurd m
made_of (Err outcomes.Refused) what source source' input given all m = absurd m
made_of (Err outcomes.ReadFault) what source source' input given all m = absurd m

-- what was made for these words
pub made_for : (r : Result Answer Outcome) (asked asked' : Option Request) (source source' : Stream) → asked ≡ asked'
    → IsMade r asked source source' → IsMade r asked' source source'
made_for r asked asked' source source' is m = subst (λ a. IsMade r a source source') is m

-- what is answered to a text that is no script
pub fault_made : (r : Result Answer Outcome) (what : Request) (input : List ℕ) → IfOk r (λ answer. answer.ending ≡ ending.NoScript)
    → IfErr r (λ outcome. outcome ≡ outcomes.NoMemory) → ((p : Program) → Spells input p → ⊥) → IsMadeOf what input r
fault_made (Ok answer) what input is none spelled = subst (λ how. Tells how what input answer.text.items) (sym is) spelled
fault_made (Err outcome) what input is none spelled = subst (λ o. IsMadeOf what input (Err o)) (sym none) tt

pub unspelled : (input : List ℕ) → length input ≡ 1048577 → (p : Program) → Spells input p → ⊥
unspelled input e p s = let k : length input ≤ 1048576 = s.short in omega (arith, k, e)

-- what is answered to more bytes than a script may have
pub long_made : (r : Result Answer Outcome) (what : Request) (source source' : Stream) → IfOk r (λ answer. answer.ending ≡ ending.NoScript)
    → IfErr r (λ outcome. outcome ≡ outcomes.NoMemory) → GaveJust 1048577 source.bytes source'.bytes → IsMade r (Some what) source source'
long_made r what source source' is none gave =
    let e = gave.1 in
    made_of r what source source' gave.0 gave.2 (λ k. absurd (omega (arith, e, k))) (fault_made r what gave.0 is none (unspelled gave.0 e))

-- the report of an end as the answer
pub end_tells : (p : Program) (number : ℕ) (limit : Limit) (report : Report) (answer : Answer) (input : List ℕ) → Spells input p
    → answer.ending ≡ ending.Ran report.root → answer.text ≡ report.text → does_suit limit.wanted report.root ≡ true → TellsOf p report
    → Tells answer.ending (report_of number limit) input answer.text.items
end_tells p number limit report answer input spelled is text suits h =
    subst (λ how. Tells how (report_of number limit) input answer.text.items) (sym is) (
      suits,
      subst (λ t. Reports report.root input t.items) (sym text)
          (record { program = p; spelled = spelled; run = h.run; is_report = h.is_report }),
    )

-- the report of the run in an order as the answer
pub order_tells : (p : Program) (order : List ℕ) (report : Report) (answer : Answer) (input : List ℕ) → Spells input p
    → answer.ending ≡ ending.Ran report.root → answer.text ≡ report.text → TellsInOrder p order report
    → Tells answer.ending (in_order order) input answer.text.items
order_tells p order report answer input spelled is text h =
    subst (λ how. Tells how (in_order order) input answer.text.items) (sym is)
    (subst (λ t. ShowsOrder order report.root input t.items) (sym text) (record {
      reports = record { program = p; spelled = spelled; run = h.tells.run; is_report = h.tells.is_report };
      made = h.made;
    }))
