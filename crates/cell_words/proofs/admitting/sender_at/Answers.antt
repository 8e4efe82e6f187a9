use Rattle.std.proofs.Common.{sym, ◌∙◌, subst}
use Rattle.cell_words.specs.Hubs.{shape_of, seen_by}
use Rattle.cell_words.specs.Answers.{SenderAt}
use Rattle.cell_words.proofs.LooksFound.{sender_used, sender_free}
use Rattle.cell_words.proofs.admitting.sender_at.Goals as goal

pub returns-then-is_used-clause-at : goal.returns-then-is_used-clause-at
returns-then-is_used-clause-at c = let h = c.load_cell-word.ensures in
    subst (SenderAt (shape_of c.args.hub.now) c.args.c c.args.place (seen_by c.args.pass.now) (seen_by c.load_cell-word.new.pass))
    (sym c.found_by_receiver.ensures) (sender_used c.args.hub.now c.load_cell-word.new.pass h.own.0 c.args.c c.args.place
    (seen_by c.args.pass.now) h.sees c.load_cell-word.result h.word (sym c.is_used.ensures ∙ c.if-is_used.true))

pub returns-clause-at : goal.returns-clause-at
returns-clause-at c = let h = c.load_cell-word.ensures in
    sender_free c.args.hub.now c.load_cell-word.new.pass h.own.0 c.args.c c.args.place (seen_by c.args.pass.now) h.sees
    c.load_cell-word.result h.word c.requires.given (sym c.is_used.ensures ∙ c.if-is_used.false)
