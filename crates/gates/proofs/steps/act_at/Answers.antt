use Rattle.std.proofs.Common.{sym, ◌∙◌, subst, refl, ◌≤◌}
use Rattle.gates.specs.Seen.{now_in}
use Rattle.gates.proofs.StatesStaySound.{sound_of, held_small}
use Rattle.gates.proofs.WordsTell.{has_bit, may_turn_word}
use Rattle.gates.proofs.MayAct.{may_enter_at}
use Rattle.gates.proofs.PassesTell.{laws_loaded, laws_entered, adds_entered, beaten_loaded, laws_as, exchange_lost, exchange_made}
use Rattle.gates.proofs.steps.act_at.Goals as goal

pub held_after-held-requires-clause-room : goal.held_after-held-requires-clause-room
held_after-held-requires-clause-room c =
    let f = c.args.gate.now in
    let q = c.args.pass.now in
    held_small q.seat.me.0.key q.number q.held q.waits (now_in q.seat.me.0) (sound_of q.seat.me.0.key q.seat.me.0.seen q.legal)
    (record { claimed = q.claimed; calm = q.calm }) (subst (λ k. k ≤ 65535) (sym c.requires.of.1) f.few.1)

pub word_after-new-requires-clause-bit : goal.word_after-new-requires-clause-bit
word_after-new-requires-clause-bit c =
    let q = c.args.pass.now in
    has_bit q.seat.me.0.key (now_in q.seat.me.0) q.number c.args.act (sound_of q.seat.me.0.key q.seat.me.0.seen q.legal) c.requires.needs

pub word_after-new-requires-clause-may : goal.word_after-new-requires-clause-may
word_after-new-requires-clause-may c =
    let f = c.args.gate.now in
    let q = c.args.pass.now in
    may_turn_word q.seat.me.0.key c.args.word (now_in q.seat.me.0) q.number c.args.act c.requires.word
    (sound_of q.seat.me.0.key q.seat.me.0.seen q.legal) (subst (λ k. k ≤ 65535) (sym c.requires.of.1) f.few.1) c.requires.needs

pub exchange-found-requires-clause-may : goal.exchange-found-requires-clause-may
exchange-found-requires-clause-may c =
    let f = c.args.gate.now in
    let q = c.args.pass.now in
    may_enter_at f.table.shared.key f.permits q.number q.held c.args.word c.word_after-new.result q.waits c.args.act q.seat.me.0
    c.requires.of.1 f.sized.1 f.few.1 q.numbered.1 q.legal (record { claimed = q.claimed; calm = q.calm }) c.requires.word c.requires.needs
    c.word_after-new.ensures.turned

pub invariant_of-pass : goal.invariant_of-pass
invariant_of-pass c =
    let f = c.args.gate.now in
    let q = c.args.pass.now in
    let p = laws_loaded f.table.shared.key q.number q.splits q.held 0 c.exchange-found.result q.waits q.seat.me.0
    c.exchange-found.new.seat.me.0 (c.requires.of.1 ∙ sym f.sized.1) q.numbered q.ungiven c.requires.of.2
    (record { claimed = q.claimed; calm = q.calm })
    (exchange_lost f.table.shared.key c.args.word c.exchange-found.result _ q.seat.me.0 c.exchange-found.new.seat.me.0
    c.if-found-word.true c.exchange-found.ensures.told) in
    record { numbered = p.numbered; ungiven = p.ungiven; legal = p.legal; claimed = p.counted.claimed; calm = p.counted.calm }

pub returns-then-found-word-clause-told : goal.returns-then-found-word-clause-told
returns-then-found-word-clause-told c =
    let f = c.args.gate.now in
    let q = c.args.pass.now in
    let e = c.requires.of.1 ∙ sym f.sized.1 in
    let l = exchange_lost f.table.shared.key c.args.word c.exchange-found.result _ q.seat.me.0 c.exchange-found.new.seat.me.0
    c.if-found-word.true c.exchange-found.ensures.told in (
      beaten_loaded f.table.shared.key q.number c.args.word c.exchange-found.result q.seat.me.0 c.exchange-found.new.seat.me.0 e
          q.numbered.1
          c.requires.of.2 c.requires.word c.if-found-word.true l,
      (refl, refl),
    )

pub invariant_of-pass-2 : goal.invariant_of-pass-2
invariant_of-pass-2 c =
    let f = c.args.gate.now in
    let q = c.args.pass.now in
    let p = laws_entered f.table.shared.key q.number q.splits q.held 0 c.args.word q.waits c.args.act q.seat.me.0
    c.exchange-found.new.seat.me.0 (c.requires.of.1 ∙ sym f.sized.1) q.numbered q.ungiven c.requires.of.2
    (record { claimed = q.claimed; calm = q.calm }) c.requires.ready
    (exchange_made f.table.shared.key c.args.word c.exchange-found.result _ q.seat.me.0 c.exchange-found.new.seat.me.0
    c.if-found-word.false c.exchange-found.ensures.told) in
    let r = laws_as q.number q.splits _ _ _ _ c.exchange-found.new.seat.me.0 c.held_after-held.ensures.held c.waits_after-pass.ensures.waits
    p in
    record { numbered = r.numbered; ungiven = r.ungiven; legal = r.legal; claimed = r.counted.claimed; calm = r.counted.calm }

pub returns-clause-told : goal.returns-clause-told
returns-clause-told c =
    let f = c.args.gate.now in
    let q = c.args.pass.now in (
      adds_entered f.table.shared.key q.number 0 c.args.word c.args.act q.seat.me.0 c.exchange-found.new.seat.me.0 q.numbered.1
          c.requires.of.2
          (exchange_made f.table.shared.key c.args.word c.exchange-found.result _ q.seat.me.0 c.exchange-found.new.seat.me.0
          c.if-found-word.false c.exchange-found.ensures.told),
      (c.held_after-held.ensures.held, c.waits_after-pass.ensures.waits),
    )
