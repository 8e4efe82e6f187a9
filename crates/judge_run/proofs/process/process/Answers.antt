use Rattle.std.proofs.Common.{◌≡◌, Option, map, string_bytes, option_map, ap, sym, subst, refl, ◌∙◌}
use Rattle.judge_run.specs.declared.outcome.Outcome.{Outcome}
use Rattle.judge_run.specs.declared.outcome.Outcome.TheVariants as outcomes
use Rattle.judge_run.specs.Words.{asked_of}
use Rattle.judge_run.specs.declared.words.Asked.{Asked}
use Rattle.judge_run.specs.Outcomes.{Means, Stream, asked_by}
use Rattle.judge_run.proofs.process.process.Goals as goal

-- what is asked by what is given
asked_given : {A B C : Type 0} (f : A → B) (h : Option B → C) (o o' : Option A) (given : Option B) → o ≡ o' → option_map f o ≡ given
    → h given ≡ h (option_map f o')
asked_given f h o o' given e is = ap h (sym is) ∙ ap (λ x. h (option_map f x)) e

means_asked : (o : Outcome) (a b : Option Asked) (source source' sink sink' : Stream) → a ≡ b → Means o b source source' sink sink'
    → Means o a source source' sink sink'
means_asked o a b source source' sink sink' e m = subst (λ x. Means o x source source' sink sink') (sym e) m

pub returns-in-Ok-Some : goal.returns-in-Ok-Some
returns-in-Ok-Some g c = (
  c.judge_main.result,
  c.leaving.ensures.code,
  c.leaving.ensures.message,
  means_asked c.judge_main.result _ _ _ _ _ _
      (asked_given (λ all. all.items) asked_by _ _ _ c.in-Ok-Some.field-0-is c.in-Ok-Some.ensures
      ∙ ap (λ all. asked_of (map string_bytes all)) (sym c.as_slice.ensures.value)) c.judge_main.ensures,
)

pub returns-in-Ok-None : goal.returns-in-Ok-None
returns-in-Ok-None g c = (
  outcomes.Refused,
  c.leaving-in-Ok-None.ensures.code,
  c.leaving-in-Ok-None.ensures.message,
  (
    (asked_given (λ all. all.items) asked_by _ _ _ c.in-Ok-None.field-0-is c.in-Ok-None.ensures, refl),
    refl,
  ),
)

pub returns-in-Err : goal.returns-in-Err
returns-in-Err g c = (outcomes.NoMemory, c.leaving-in-Err.ensures.code, c.leaving-in-Err.ensures.message, (tt, refl))
