use Rattle.std.proofs.Common.{sym, subst, take, get_or, arith}
use Rattle.std.proofs.lemmas.List.{take_more, take_all}
use Rattle.script_reader.specs.Scripts.{program_of}
use Rattle.engine_one.specs.Moments.{list_moment, state_of}
use Rattle.engine_one.specs.Orders.{InOrder, no_turn, one_more}
use Rattle.engine_one.proofs.run.Run+ListFloor+TreeFloor+B.poll_in_order.Goals as goal

pub loop-tag-init : goal.loop-tag-init
loop-tag-init g c = record { stand = c.requires; made = no_turn (state_of (list_moment c.args.self.now)) }

pub loop-tag-preserved : goal.loop-tag-preserved
loop-tag-preserved g c =
    let order = c.args.order.now in
    let k = c.loop-tag.tag-index in
    let begun = state_of (list_moment c.args.self.now) in
    let before = state_of (list_moment c.loop-tag.self) in
    let after = state_of (list_moment c.poll_one.new.self) in
    record {
      stand = c.in_ok-poll_one.ensures.stand;
      made = subst (λ o. InOrder (program_of c.args.script.now) o begun after) (sym (take_more order k 0 (omega arith)))
          (one_more (take k order) (get_or order k 0) begun before after c.loop-tag.invariant.made c.in_ok-poll_one.ensures.turn);
    }

pub returns-clause-made : goal.returns-clause-made
returns-clause-made g c =
    subst (λ o. InOrder (program_of c.args.script.now) o (state_of (list_moment c.args.self.now)) (state_of (list_moment c.loop-tag.self)))
    (take_all c.loop-tag.tag-index c.args.order.now (omega arith)) c.loop-tag.invariant.made
