-- The examples of scripts, by computing.
use Rattle.std.proofs.Common.{◌≡◌, refl, Ok}
use Rattle.std.specs.Fmt.{digits}
use Rattle.script_grammar.specs.Verbs.{verb_of}
use Rattle.script_grammar.specs.Places.{kind_at}
use Rattle.script_grammar.specs.Forms.{outside, step}
use Rattle.script_grammar.specs.Texts.{reading_of, lines_from, line_at}
use Rattle.script_grammar.specs.Canonical.{canonical_text}
use Rattle.script_grammar.specs.ReadTexts.{AreRead, scripts, every_line_text, every_line, every_line_printed, tags_read, nested_text, nested_tags}
use Rattle.script_grammar.specs.Tags.{layouts_from}

pub scripts_are : AreRead scripts
unfolding reading_of lines_from line_at step outside kind_at verb_of
scripts_are = refl

pub every_line_read : reading_of every_line_text ≡ Ok every_line
unfolding reading_of lines_from line_at step outside kind_at verb_of
every_line_read = refl

pub canonical_text-every_line : canonical_text every_line ≡ every_line_printed
unfolding digits
canonical_text-every_line = refl

pub nested_are : tags_read (reading_of nested_text) ≡ nested_tags
unfolding reading_of lines_from line_at step outside kind_at verb_of layouts_from
nested_are = refl
