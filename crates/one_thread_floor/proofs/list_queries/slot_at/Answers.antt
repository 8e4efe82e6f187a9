use Rattle.std.specs.Prelude.{IsSome}
use Rattle.std.proofs.Common.{sym, arith}
use Rattle.one_thread_floor.proofs.OneChannel.{has_wait, has_slot, wait_there, clauses_there}
use Rattle.one_thread_floor.proofs.list_queries.slot_at.Goals as goal

pub index-requires : goal.index-requires
index-requires c = omega (arith, has_wait IsSome (λ h. cc) c.args.channels.now.items c.args.w c.requires, c.args.channels.now.ok.0)

pub index-requires-2 : goal.index-requires-2
index-requires-2 c = omega (
  arith,
  has_slot IsSome (λ h. cc) c.args.channels.now.items c.args.w c.index.result.now c.index.ensures
      c.requires,
  c.index.result.now.slots.ok.0,
)

pub returns-clause-wait : goal.returns-clause-wait
returns-clause-wait c = sym (wait_there IsSome (λ h. cc) c.args.channels.now.items c.args.w c.index.result.now c.index-2.result.now
    c.requires c.index.ensures c.index-2.ensures)

pub returns-clause-clauses : goal.returns-clause-clauses
returns-clause-clauses c = sym (clauses_there IsSome (λ h. cc) c.args.channels.now.items c.args.w c.index.result.now c.index-2.result.now
    c.requires c.index.ensures c.index-2.ensures)
