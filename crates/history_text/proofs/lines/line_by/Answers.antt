use Rattle.std.proofs.Common.{◌≡◌, ◌<◌, ◌-◌, ℕ, List, [], ◌∷◌, None, length, get_or, take, drop, ap, arith, refl, ◌∙◌}
use denote.Ref.{Bor}
use Rattle.report_reader.specs.Words.{texts}
use Rattle.history_text.specs.Items.{item_by}
use Rattle.history_text.specs.JobItems.{job_item_by}
use Rattle.history_text.specs.Lines.{either_item, line_by, line_with}
use Rattle.history_text.specs.Names.{listed}
use Rattle.history_text.proofs.Placed.{first_placed, no_word}
use Rattle.history_text.proofs.lines.line_by.Goals as goal

-- less than two words are no line
few_words : (names : List (List ℕ)) (ws : List (Bor (List ℕ))) → length ws < 2 → None ≡ line_by names (texts ws)
few_words names [] lt = refl
few_words names (a ∷ []) lt = refl
few_words names (a ∷ (b ∷ more)) lt = absurd (omega (arith, lt))

pub returns-in_default : goal.returns-in_default
returns-in_default c =
    few_words (listed c.args.names.now) c.args.words.now c.in_default.len_below

pub returns-in_err-who : goal.returns-in_err-who
returns-in_err-who c =
    let words = c.args.words.now in
    let verb = (get_or words 1 no_word).now in
    let rest = texts (take (length words - 2) (drop 2 words)) in
    let item = either_item (item_by (listed c.args.names.now) verb rest) (job_item_by verb rest) in
    c.from_residual.ensures ∙ ap (λ who. line_with who item) c.in_err-who.ensures
    ∙ ap (λ ws. line_by (listed c.args.names.now) (texts ws)) (first_placed no_word c.args.words.now 2 c.in-len2-up.len_at_least)

pub returns-in_err-item : goal.returns-in_err-item
returns-in_err-item c =
    c.from_residual-in_err-item.ensures ∙ (λ i. line_with (c.in_ok-who.ensures i) (c.in_err-item.ensures i))
    ∙ ap (λ ws. line_by (listed c.args.names.now) (texts ws)) (first_placed no_word c.args.words.now 2 c.in-len2-up.len_at_least)

pub returns : goal.returns
returns c =
    (λ i. line_with (c.in_ok-who.ensures i) (c.in_ok-item.ensures i))
    ∙ ap (λ ws. line_by (listed c.args.names.now) (texts ws)) (first_placed no_word c.args.words.now 2 c.in-len2-up.len_at_least)
