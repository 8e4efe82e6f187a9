use Rattle.std.proofs.Common.{◌≡◌, List, [], ◌∷◌, map, string_bytes, subst, ap, refl, ◌∙◌}
use Rattle.report_reader.specs.Words.{texts}
use Rattle.script_grammar.specs.Programs.{channel_names}
use Rattle.script_reader.specs.declared.script.Channel.{Channel}
use Rattle.script_reader.specs.Programs.{declared_of}
use Rattle.history_text.specs.Inputs.{GivesLines}
use Rattle.history_text.specs.Lines.{history_of}
use Rattle.history_text.proofs.input.lines_of.Goals as goal

names_declared : (xs : List Channel) → map (λ (c : Channel). string_bytes c.name) xs ≡ channel_names (map declared_of xs)
names_declared [] = refl
names_declared (x ∷ xs) = ap (λ l. string_bytes x.name ∷ l) (names_declared xs)

pub returns : goal.returns
returns c =
    subst (λ names. GivesLines c.lines_in.result (history_of names c.args.text.now))
    (ap texts c.as_slice.ensures.value ∙ c.in-Ok.ensures ∙ names_declared c.channels.result.now ∙ ap channel_names c.channels.ensures)
    c.lines_in.ensures
