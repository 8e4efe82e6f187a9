use Rattle.std.proofs.Common.{rules, [], List, ℕ}
use denote.Ref.{Bor}
use Rattle.script_printer.proofs.Spacing.{spaced-first}
use Rattle.script_printer.proofs.lines_out.push_words.Goals as goal

pub loop-rest-init : goal.loop-rest-init
loop-rest-init c =
    let d : Bor (List ℕ) = record { ref_ptr = (0, 0); now = [] } in
    spaced-first c.args.out.now.items c.extend_from_slice.new.self.items c.args.words.now d c.in-len1-up.len_at_least (search rules)
