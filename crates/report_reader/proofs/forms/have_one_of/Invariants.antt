use Rattle.std.proofs.Common.{◌≡◌, length}
use Rattle.report_reader.specs.Words.{texts}
use Rattle.report_reader.specs.Forms.{have_one_of, forms_in}
use Rattle.report_reader.proofs.forms.have_one_of.Given as goal

abbrev pub invariant-forms : goal.invariant-forms
invariant-forms l = have_one_of (forms_in l.forms) (texts l.words) ≡ have_one_of (forms_in l.fn.forms) (texts l.words)

abbrev pub decreases-forms : goal.decreases-forms
decreases-forms l = length l.forms
