use Rattle.std.proofs.Common.{◌≡◌, sym, ◌∙◌, subst, Option}
use Rattle.co_base.specs.declared.names.WaitId.{WaitId}
use Rattle.channel_model.specs.declared.floor.WaitState.TheVariants as state
use Rattle.cell_words.specs.Hubs.{shape_of, seen_by}
use Rattle.cell_words.proofs.LooksAtCells.{hub_legal}
use Rattle.cell_calls.specs.Registrations.{IsOwnMain}
use Rattle.cell_calls.proofs.WaitsOfSelects.{main_stands, main_resolved, no_main}
use Rattle.cell_calls.proofs.registering.is_resolved.Goals as goal
use Rattle.cell_words.proofs.WalksToAdmit.{sees_self}

pub returns-in-None-clause-sees : goal.returns-in-None-clause-sees
returns-in-None-clause-sees c = sees_self (seen_by c.args.pass.now)

pub returns-in-None-clause-resolved : goal.returns-in-None-clause-resolved
returns-in-None-clause-resolved c = no_main c.args.hub.now c.args.pass.now c.args.main c.in-None.is

pub look_at-requires-clause-at : goal.look_at-requires-clause-at
look_at-requires-clause-at c =
    (subst (λ (z : Option WaitId). IsOwnMain (shape_of c.args.hub.now) c.args.who z (seen_by c.args.pass.now).seen) c.in-Some.is
    c.requires.main).0

pub look_at-requires-clause-mine : goal.look_at-requires-clause-mine
look_at-requires-clause-mine c =
    (subst (λ (z : Option WaitId). IsOwnMain (shape_of c.args.hub.now) c.args.who z (seen_by c.args.pass.now).seen) c.in-Some.is
    c.requires.main).1

pub returns-in-Standing-clause-resolved : goal.returns-in-Standing-clause-resolved
returns-in-Standing-clause-resolved c = main_stands c.args.hub.now c.look_at.new.pass c.in-Some.w c.args.main c.in-Some.is c.look_at.result
    c.look_at.ensures.state c.in-Standing.is

pub returns-in-Resolved-clause-resolved : goal.returns-in-Resolved-clause-resolved
returns-in-Resolved-clause-resolved c = main_resolved c.args.hub.now c.look_at.new.pass c.in-Some.w c.args.main c.in-Some.is
    c.look_at.result c.look_at.ensures.state (hub_legal c.args.hub.now c.look_at.new.pass c.look_at.ensures.own.0)
    (λ e. let f : state.Resolved ≡ state.Standing = sym c.in-Resolved.is ∙ e in cc)

pub returns-in-Settled-clause-resolved : goal.returns-in-Settled-clause-resolved
returns-in-Settled-clause-resolved c = main_resolved c.args.hub.now c.look_at.new.pass c.in-Some.w c.args.main c.in-Some.is c.look_at.result
    c.look_at.ensures.state (hub_legal c.args.hub.now c.look_at.new.pass c.look_at.ensures.own.0)
    (λ e. let f : state.Settled ≡ state.Standing = sym c.in-Settled.is ∙ e in cc)
