use Rattle.std.specs.Prelude.{◌≡◌, map, drop, string_bytes, Option, None, option_map, option_and_then}
use Rattle.std.proofs.Common.{ap, sym, ◌∙◌}
use Rattle.command_line.specs.Commands.{command_of}
use Rattle.command_line.specs.declared.status.Status.TheVariants as statuses
use Rattle.command_line.proofs.program.process.Goals as goal

-- where nothing is given, nothing is asked
none_asked : {A B C : Type 0} (f : A → B) (h : B → Option C) (o : Option A) (given : Option B) → o ≡ None → option_map f o ≡ given
    → option_and_then h given ≡ None
none_asked f h o given e is = ap (option_and_then h) (sym is) ∙ ap (λ x. option_and_then h (option_map f x)) e

pub returns-in-Ok-None-clause-status : goal.returns-in-Ok-None-clause-status
returns-in-Ok-None-clause-status g c = (
  statuses.Refused,
  c.leaving-in-Ok-None.ensures.code ∙ c.number.ensures,
  none_asked _ (λ all. command_of (map string_bytes (drop 1 all))) _ _ c.in-Ok-None.field-0-is c.in-Ok-None.ensures,
)

pub returns-in-Err-clause-status : goal.returns-in-Err-clause-status
returns-in-Err-clause-status g c = (statuses.NoMemory, c.leaving-in-Err.ensures.code ∙ c.number-in-Err.ensures, tt)
