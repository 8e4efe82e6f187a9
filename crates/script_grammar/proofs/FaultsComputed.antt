-- The examples of faults, by computing.
use Rattle.std.proofs.Common.{refl}
use Rattle.script_grammar.specs.Verbs.{verb_of}
use Rattle.script_grammar.specs.Places.{kind_at}
use Rattle.script_grammar.specs.Forms.{outside, step}
use Rattle.script_grammar.specs.Texts.{reading_of, lines_from, line_at}
use Rattle.script_grammar.specs.FaultsByText.{AreFaulty, smallest, common, cut_off, too_large, of_rules}
use Rattle.script_grammar.specs.FaultsByLine.{HaveFaults, before_outside, channel_rows, outside_rows, before_inside, channel_call_rows, job_rows, other_rows, before_clause, select_rows}

pub channel_rows_have : HaveFaults before_outside 4 channel_rows
unfolding reading_of lines_from line_at step outside kind_at verb_of
channel_rows_have = refl

pub outside_rows_have : HaveFaults before_outside 4 outside_rows
unfolding reading_of lines_from line_at step outside kind_at verb_of
outside_rows_have = refl

pub channel_call_rows_have : HaveFaults before_inside 7 channel_call_rows
unfolding reading_of lines_from line_at step outside kind_at verb_of
channel_call_rows_have = refl

pub job_rows_have : HaveFaults before_inside 7 job_rows
unfolding reading_of lines_from line_at step outside kind_at verb_of
job_rows_have = refl

pub other_rows_have : HaveFaults before_inside 7 other_rows
unfolding reading_of lines_from line_at step outside kind_at verb_of
other_rows_have = refl

pub select_rows_have : HaveFaults before_clause 6 select_rows
unfolding reading_of lines_from line_at step outside kind_at verb_of
select_rows_have = refl

pub smallest_are : AreFaulty smallest
unfolding reading_of lines_from line_at step outside kind_at verb_of
smallest_are = refl

pub common_are : AreFaulty common
unfolding reading_of lines_from line_at step outside kind_at verb_of
common_are = refl

pub cut_off_are : AreFaulty cut_off
unfolding reading_of lines_from line_at step outside kind_at verb_of
cut_off_are = refl

pub too_large_are : AreFaulty too_large
unfolding reading_of lines_from line_at step outside kind_at verb_of
too_large_are = refl

pub of_rules_are : AreFaulty of_rules
unfolding reading_of lines_from line_at step outside kind_at verb_of
of_rules_are = refl
