use Rattle.std.proofs.Common.{◌≡◌, Bool, Option, List, String, map, string_bytes, option_map, ap, sym, subst, refl, ◌∙◌}
use Rattle.std.specs.Global.{Global}
use Rattle.explain_run.specs.declared.outcome.Outcome.{Outcome}
use Rattle.explain_run.specs.declared.outcome.Outcome.TheVariants as outcomes
use Rattle.explain_run.specs.Words.{are_asked}
use Rattle.explain_run.specs.Outcomes.{Means, Stream, asked_by}
use Rattle.explain_run.proofs.process.process.Goals as goal

-- what is asked by what is given
asked_given : {A : Type 0} (f : A → List (String Global)) (o o' : Option A) (given : Option (List (String Global))) → o ≡ o'
    → option_map f o ≡ given → asked_by given ≡ asked_by (option_map f o')
asked_given f o o' given e is = ap asked_by (sym is) ∙ ap (λ x. asked_by (option_map f x)) e

means_asked : (o : Outcome) (a b : Bool) (source source' sink sink' : Stream) → a ≡ b → Means o b source source' sink sink'
    → Means o a source source' sink sink'
means_asked o a b source source' sink sink' e m = subst (λ x. Means o x source source' sink sink') (sym e) m

pub returns-in-Ok-Some : goal.returns-in-Ok-Some
returns-in-Ok-Some g c = (
  c.explain_main.result,
  c.leaving.ensures.code,
  c.leaving.ensures.message,
  means_asked c.explain_main.result _ _ _ _ _ _
      (asked_given (λ all. all.items) _ _ _ c.in-Ok-Some.field-0-is c.in-Ok-Some.ensures
      ∙ ap (λ all. are_asked (map string_bytes all)) (sym c.as_slice.ensures.value)) c.explain_main.ensures,
)

pub returns-in-Ok-None : goal.returns-in-Ok-None
returns-in-Ok-None g c = (
  outcomes.Refused,
  c.leaving-in-Ok-None.ensures.code,
  c.leaving-in-Ok-None.ensures.message,
  ((asked_given (λ all. all.items) _ _ _ c.in-Ok-None.field-0-is c.in-Ok-None.ensures, refl), refl),
)

pub returns-in-Err : goal.returns-in-Err
returns-in-Err g c = (outcomes.NoMemory, c.leaving-in-Err.ensures.code, c.leaving-in-Err.ensures.message, (tt, refl))
