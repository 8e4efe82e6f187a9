use Rattle.poll_states.proofs.polls.poll.Goals as goal

pub returns-clause-moves : goal.returns-clause-moves
returns-clause-moves g c = rw (← c.frame.view_is) c.gated_turn.ensures.moves
