use Rattle.std.proofs.Common.{None, if◌then◌else◌, ◌-◌, length, get_or, take, drop, ap, ◌∙◌}
use Rattle.std.specs.Str.{bytes_eq}
use Rattle.report_reader.specs.Words.{texts}
use Rattle.history_text.specs.Numbers.{numbers_by, shape_by}
use Rattle.history_text.proofs.Placed.{first_placed, no_word}
use Rattle.history_text.proofs.numbers.shape_by.Goals as goal

pub returns-then-eq : goal.returns-then-eq
returns-then-eq c =
    let says = c.if-eq.ensures ∙ ap (bytes_eq (get_or c.args.words.now 0 no_word).now) c.as_slice.ensures in
    let rest = texts (take (length c.args.words.now - 1) (drop 1 c.args.words.now)) in
    c.numbers_by.ensures ∙ (λ i. if says i then numbers_by rest else None)
    ∙ ap (λ ws. shape_by (texts ws)) (first_placed no_word c.args.words.now 1 c.in-len1-up.len_at_least)

pub returns-else-eq : goal.returns-else-eq
returns-else-eq c =
    let says = c.if-eq.ensures ∙ ap (bytes_eq (get_or c.args.words.now 0 no_word).now) c.as_slice.ensures in
    let rest = texts (take (length c.args.words.now - 1) (drop 1 c.args.words.now)) in
    (λ i. if says i then numbers_by rest else None)
    ∙ ap (λ ws. shape_by (texts ws)) (first_placed no_word c.args.words.now 1 c.in-len1-up.len_at_least)
