use Rattle.std.proofs.Common.{ap, ◌∙◌}
use Rattle.cell_calls.specs.Desks.{desk_floor}
use Rattle.cell_calls.proofs.CallersStay.{stays_own}
use Rattle.parcel_channel.specs.Numbers.{AdmitsAll}
use Rattle.parcel_channel.proofs.AdmitsRepeat.{all_admits}
use Rattle.parcel_channel.proofs.CallsOnNumbers.{giving_on, answer_on}
use Rattle.parcel_channel.proofs.numbers.admit_on.Goals as goal

pub returns-clause-own : goal.returns-clause-own
returns-clause-own c =
    let d = c.admit_below.new.desk in
    let all : AdmitsAll c.args.who c.admit_below.result (desk_floor c.args.desk.now) (desk_floor d) =
    record {
      mark = c.mark-mark.result;
      marked = desk_floor c.mark-mark.new.self;
      next = c.mark-mark.ensures.answer;
      below =
          c.admit_below.ensures.admits;
    } in
    stays_own c.args.desk.now d c.args.who (c.admit_below.ensures.anchor
    ∙ c.mark-mark.ensures.anchor) (all_admits c.args.who c.admit_below.result (desk_floor c.args.desk.now) (desk_floor d)
    all).added.same.callers
    c.requires.caller

pub returns-clause-admits : goal.returns-clause-admits
returns-clause-admits c =
    let d = c.admit_below.new.desk in
    let all : AdmitsAll c.args.who c.admit_below.result (desk_floor c.args.desk.now) (desk_floor d) =
    record {
      mark = c.mark-mark.result;
      marked = desk_floor c.mark-mark.new.self;
      next = c.mark-mark.ensures.answer;
      below =
          c.admit_below.ensures.admits;
    } in
    answer_on c.args.desk.now d (c.admit_below.ensures.anchor
    ∙ c.mark-mark.ensures.anchor) (λ f. AdmitsAll c.args.who c.admit_below.result (desk_floor c.args.desk.now) f) all

pub admit_below-requires-clause-caller : goal.admit_below-requires-clause-caller
admit_below-requires-clause-caller c = ap (λ f. f c.args.who) c.mark-mark.ensures.answer.0.same.callers ∙ c.requires.caller

pub returns-clause-giving : goal.returns-clause-giving
returns-clause-giving c = giving_on c.args.desk.now c.admit_below.new.desk (c.admit_below.ensures.anchor ∙ c.mark-mark.ensures.anchor)
