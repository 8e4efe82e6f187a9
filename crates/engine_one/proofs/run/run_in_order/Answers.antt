use Rattle.script_reader.specs.Scripts.{program_of}
use Rattle.engine_one.specs.Moments.{list_moment}
use Rattle.engine_one.proofs.TurnsInOrder.{made_in_order}
use Rattle.engine_one.proofs.run.run_in_order.Goals as goal

pub returns-clause-made : goal.returns-clause-made
returns-clause-made g c =
    made_in_order g.B.NoteBook.items (program_of c.args.script.now) c.args.order.now _ _ (list_moment c.run_out.new.self) c.run_left.result
    c.in_ok-run.ensures.begins c.in_ok-poll_in_order.ensures.made c.in_ok-run_out.ensures.turns c.run_left.ensures.same
