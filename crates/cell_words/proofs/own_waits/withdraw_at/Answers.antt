use Rattle.std.proofs.Common.{ℕ, ◌+◌, ◌*◌, sym, ap}
use Rattle.word_rules.specs.declared.wait_word.WaitWord.{WaitWord}
use Rattle.word_rules.specs.Codes.{packed_wait}
use Rattle.cell_words.specs.Hubs.{shape_of, seen_by}
use Rattle.cell_words.proofs.MayExchange.{may_as, withdraws}
use Rattle.cell_words.proofs.own_waits.withdraw_at.Goals as goal

pub exchange_wait-requires-clause-number : goal.exchange_wait-requires-clause-number
exchange_wait-requires-clause-number c = record { wait = c.args.w; at = c.requires.at; is = sym c.number_of-cell.ensures }

pub exchange_wait-requires-clause-may : goal.exchange_wait-requires-clause-may
exchange_wait-requires-clause-may c =
    may_as (shape_of c.args.hub.now) _ _ _ _ _ _ _ (seen_by c.args.pass.now) (ap (λ (n : ℕ). 2 * n + 1) c.number_of-cell.ensures)
    c.standing_wait.ensures.zero (ap (λ (z : WaitWord). packed_wait z) c.withdrawn_wait.ensures.word)
    (withdraws (shape_of c.args.hub.now) (seen_by c.args.pass.now) c.args.who c.args.w.channel c.args.w.place c.requires.own.1
    c.requires.at.0 c.args.why c.requires.at.1 c.requires.mine)
