-- Lines written out.
use Rattle.std.specs.Prelude.{ℕ, List, [], ◌∷◌, map}
use Rattle.script_grammar.specs.Words.{indented, unlines}
use Rattle.script_grammar.specs.Lines.{Names}
use Rattle.script_grammar.specs.Programs.{channel_names, block_names}
use Rattle.std.specs.Prelude.{string_bytes}
use Rattle.script_printer.specs.declared.lines_out.NameLists.{NameLists}
use Rattle.script_reader.specs.Programs.{declared_of, block_of}

-- the text of lines, each with its depth
abbrev pub text_of : List (ℕ × List (List ℕ)) → List ℕ
text_of lines = unlines (map (λ l. indented l.0 l.1) lines)

-- the text of one line
abbrev pub line_text : ℕ → List (List ℕ) → List ℕ
line_text depth words = text_of ((depth, words) ∷ [])

-- the names that these parts of a script have
abbrev pub names_in : NameLists → Names
names_in n = record {
  channels = channel_names (map declared_of n.channels.now);
  blocks = block_names (map block_of n.coroutines.now);
  jobs = map string_bytes n.jobs.now;
}
