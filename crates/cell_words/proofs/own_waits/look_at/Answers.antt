use Rattle.std.proofs.Common.{sym, ap, ◌∙◌, Some}
use Rattle.channel_model.specs.declared.floor.WaitState.{WaitState}
use Rattle.cell_words.specs.Hubs.{shape_of, seen_by}
use Rattle.cell_words.proofs.LooksAtCells.{hub_legal, state_told, own_seen}
use Rattle.cell_words.proofs.own_waits.look_at.Goals as goal

pub load_wait-word-requires-clause-number : goal.load_wait-word-requires-clause-number
load_wait-word-requires-clause-number c = record { wait = c.args.w; at = c.requires.at; is = sym c.number_of-cell.ensures }

pub returns-clause-state : goal.returns-clause-state
returns-clause-state c =
    let shape = shape_of c.args.hub.now in
    let h = c.load_wait-word.ensures in
    let w = seen_by c.load_wait-word.new.pass in
    let l = hub_legal c.args.hub.now c.load_wait-word.new.pass h.own.0 in
    state_told shape w.seen c.args.who c.args.w c.load_wait-word.result l
    (own_seen shape c.args.who c.args.w (seen_by c.args.pass.now) w c.requires.own.1 h.sees l c.requires.mine)
    (h.word c.args.w c.requires.at (sym c.number_of-cell.ensures)) ∙ ap (λ (z : WaitState). Some z) (sym c.state_found.ensures)
