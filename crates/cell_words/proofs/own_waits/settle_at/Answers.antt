use Rattle.std.proofs.Common.{Bool, true, ℕ, ◌+◌, ◌*◌, Some, sym, ap, ◌∙◌, subst}
use Rattle.channel_model.specs.declared.acts.Settled.{Settled}
use Rattle.channel_model.specs.Histories.{replay}
use Rattle.channel_model.specs.Outcomes.{outcome_of}
use Rattle.channel_model.specs.declared.standing.Resolution.{Resolution}
use Rattle.word_rules.specs.declared.wait_word.WaitWord.{WaitWord}
use Rattle.word_rules.specs.Codes.{IsNarrowWait}
use Rattle.cell_words.specs.Hubs.{shape_of, seen_by}
use Rattle.cell_words.specs.Looks.{resolution_found}
use Rattle.cell_words.proofs.WordsFound.{wait_narrow}
use Rattle.cell_words.proofs.LooksAtCells.{hub_legal, sees_makes}
use Rattle.cell_words.proofs.OwnWaits.{ready_found, settles_as, settle_done, outcome_before}
use Rattle.cell_words.proofs.own_waits.settle_at.Goals as goal

pub load_wait-old-requires-clause-number : goal.load_wait-old-requires-clause-number
load_wait-old-requires-clause-number c = record { wait = c.args.w; at = c.requires.at; is = sym c.number_of-cell.ensures }

pub exchange_wait-requires-clause-number : goal.exchange_wait-requires-clause-number
exchange_wait-requires-clause-number c = record { wait = c.args.w; at = c.requires.at; is = sym c.number_of-cell.ensures }

pub exchange_wait-requires-clause-narrow : goal.exchange_wait-requires-clause-narrow
exchange_wait-requires-clause-narrow c =
    let w = c.args.w in
    let is = c.load_wait-old.ensures.word w c.requires.at (sym c.number_of-cell.ensures) in
    let n : IsNarrowWait c.load_wait-old.result = subst IsNarrowWait (sym is.0)
    (wait_narrow ((replay (seen_by c.load_wait-old.new.pass).seen).waits w) is.1) in
    (n, record { clause = n.clause; value = n.value })

pub exchange_wait-requires-clause-may : goal.exchange_wait-requires-clause-may
exchange_wait-requires-clause-may c =
    let shape = shape_of c.args.hub.now in
    let h = c.load_wait-old.ensures in
    let v = seen_by c.load_wait-old.new.pass in
    let old = c.load_wait-old.result in
    let r = ready_found c.args.hub.now c.load_wait-old.new.pass h.own.0 c.args.who c.args.w c.args.cancelled (seen_by c.args.pass.now)
    c.requires.own.1 h.sees c.requires.ready old (h.word c.args.w c.requires.at (sym c.number_of-cell.ensures)) in
    settles_as shape v c.args.who c.args.w.channel c.args.w.place (resolution_found old) c.args.cancelled h.own.1 c.requires.at.0
    c.requires.at.1 r.1.fits r.0 r.1.how _ old _ c.outcome-settled.result (ap (λ (n : ℕ). 2 * n + 1) c.number_of-cell.ensures) r.1.code
    (c.outcome-settled.ensures ∙ ap (λ (z : Resolution). outcome_of z c.args.cancelled) c.resolution_found.ensures)
    (ap (λ (b : Bool). with_end old b) c.is_cancelled_end.ensures)
  where
    with_end : WaitWord → Bool → WaitWord
    with_end w b = record { by = w.by; clause = w.clause; settled = true; cancelled = b; value = w.value }

pub returns-clause-settled : goal.returns-clause-settled
returns-clause-settled c =
    let shape = shape_of c.args.hub.now in
    let h = c.load_wait-old.ensures in
    let v = seen_by c.load_wait-old.new.pass in
    let old = c.load_wait-old.result in
    let r = ready_found c.args.hub.now c.load_wait-old.new.pass h.own.0 c.args.who c.args.w c.args.cancelled (seen_by c.args.pass.now)
    c.requires.own.1 h.sees c.requires.ready old (h.word c.args.w c.requires.at (sym c.number_of-cell.ensures)) in
    sees_makes (seen_by c.args.pass.now) v (seen_by c.exchange_wait.new.pass) _ h.sees
    (settle_done shape v c.args.who c.args.w.channel c.args.w.place (resolution_found old) c.args.cancelled h.own.1 c.requires.at.0
    c.requires.at.1 r.1.fits r.0 r.1.how _ old _ (seen_by c.exchange_wait.new.pass) c.exchange_wait.result
    (hub_legal c.args.hub.now c.exchange_wait.new.pass c.exchange_wait.ensures.own.0) (sym c.number_of-cell.ensures) r.1.code
    c.exchange_wait.ensures.told)

pub returns-clause-outcome : goal.returns-clause-outcome
returns-clause-outcome c =
    let shape = shape_of c.args.hub.now in
    let h = c.load_wait-old.ensures in
    let v = seen_by c.load_wait-old.new.pass in
    let old = c.load_wait-old.result in
    let r = ready_found c.args.hub.now c.load_wait-old.new.pass h.own.0 c.args.who c.args.w c.args.cancelled (seen_by c.args.pass.now)
    c.requires.own.1 h.sees c.requires.ready old (h.word c.args.w c.requires.at (sym c.number_of-cell.ensures)) in
    outcome_before shape c.args.who c.args.cancelled c.args.w (resolution_found old) (seen_by c.args.pass.now) v h.sees
    (hub_legal c.args.hub.now c.load_wait-old.new.pass h.own.0) c.requires.ready r.1.how
    ∙ ap (λ (z : Settled). Some z) (sym (c.outcome-settled.ensures
    ∙ ap (λ (z : Resolution). outcome_of z c.args.cancelled) c.resolution_found.ensures))
