use Rattle.std.proofs.Common.{◌≡◌, length}
use Rattle.report_reader.specs.Words.{texts, words_of}
use Rattle.report_reader.specs.Forms.{have_form}
use Rattle.report_reader.proofs.forms.have_form.Given as goal

abbrev pub invariant-parts : goal.invariant-parts
invariant-parts l = have_form (words_of l.form) (texts l.words) ≡ have_form (words_of l.fn.form) (texts l.fn.words)

abbrev pub decreases-parts : goal.decreases-parts
decreases-parts l = length l.form
