use Rattle.std.proofs.Common.{arith}
use Rattle.script_reader.specs.Scripts.{program_of}
use Rattle.engine_one.specs.Moments.{list_moment}
use Rattle.engine_one.proofs.FewerTurns.{few_tags, turn_falls, passed_falls, round_falls, calm_left}
use Rattle.engine_one.proofs.TurnsInOrder.{no_turns, one_poll}
use Rattle.engine_one.proofs.run.Run+ListFloor+TreeFloor+B.one_turn.Goals as goal

pub returns-in_ok-_moved-in-Some-clause-turns : goal.returns-in_ok-_moved-in-Some-clause-turns
returns-in_ok-_moved-in-Some-clause-turns g c = one_poll (program_of c.args.script.now) _ _ _ c.in_ok-_moved-in-Some.ensures.poll

pub returns-else-tag-len-clause-turns : goal.returns-else-tag-len-clause-turns
returns-else-tag-len-clause-turns g c = no_turns (program_of c.args.script.now) _

pub returns-in_ok-_moved-in-Some-clause-fewer : goal.returns-in_ok-_moved-in-Some-clause-fewer
returns-in_ok-_moved-in-Some-clause-fewer g c = λ go. turn_falls (program_of c.args.script.now) (list_moment c.args.self.now)
    (list_moment c.turn.new.self) c.in-Some.tag c.take_first.new.self.tags.items c.in_ok-_moved-in-Some.ensures.advances
    (few_tags c.turn.new.self.ready) c.in-Some.ensures.tags

pub returns-else-tag-len-clause-fewer : goal.returns-else-tag-len-clause-fewer
returns-else-tag-len-clause-fewer g c = λ go. passed_falls (program_of c.args.script.now) (list_moment c.args.self.now) c.in-Some.tag
    c.take_first.new.self.tags.items c.in-Some.ensures.tags

pub returns-in-None-clause-fewer : goal.returns-in-None-clause-fewer
returns-in-None-clause-fewer g c = round_falls (program_of c.args.script.now) (list_moment c.args.self.now)
    (list_moment c.is_round_calm.new.self) c.take_first.new.self.tags.items c.is_round_calm.result c.is_round_calm.ensures.calm
    (few_tags c.is_round_calm.new.self.ready)

pub returns-in-None-clause-left : goal.returns-in-None-clause-left
returns-in-None-clause-left g c = calm_left (program_of c.args.script.now)
    (record (list_moment c.args.self.now) { tags = c.take_first.new.self.tags.items }) (list_moment c.is_round_calm.new.self)
    c.is_round_calm.result c.is_round_calm.ensures.calm

pub turn-requires-clause-within : goal.turn-requires-clause-within
turn-requires-clause-within g c = omega (arith, c.if-tag-len.true, c.len.ensures, c.args.self.now.frames.ok.0)
