use Rattle.std.proofs.Common.{sym, ◌∙◌, true, false}
use Rattle.history_text.proofs.Places.{no_row, row_is}
use Rattle.history_text.proofs.names.place_of_row.Goals as goal
use Rattle.history_text.proofs.names.place_of_row.Goals.{else-place-names-via-then-place-names+else-eq, else-place-names-via-else-place-names}

pub returns-then-eq : goal.returns-then-eq
returns-then-eq c =
    sym (row_is c.args.word.now c.args.row c.args.names.now.declared.now c.args.names.now.marked.now _ true
    (c.requires.names.apart c.requires.marked) c.requires.names.rows c.requires.row c.if-place-names.true
    (sym c.if-eq.true ∙ c.eq.ensures))

pub returns-else-place-names : goal.returns-else-place-names
returns-else-place-names c = elim c.else-place-names.branch [
  | else-place-names-via-then-place-names+else-eq w ↦
      sym (row_is c.args.word.now c.args.row c.args.names.now.declared.now c.args.names.now.marked.now _ false
      (c.requires.names.apart c.requires.marked) c.requires.names.rows c.requires.row w.if-place-names.true
      (sym w.if-eq.false ∙ w.eq.ensures))
  | else-place-names-via-else-place-names w ↦
      sym (no_row c.args.word.now c.args.row c.args.names.now.declared.now c.args.names.now.marked.now
      (c.requires.names.apart c.requires.marked) c.requires.names.rows c.requires.row w.if-place-names.false)
]
