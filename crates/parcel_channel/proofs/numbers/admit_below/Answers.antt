use Rattle.std.specs.Prelude.{ℕ, refl}
use Rattle.std.proofs.Common.{◌∙◌, sym, subst}
use Rattle.cell_words.proofs.LooksAtCells.{hub_legal}
use Rattle.cell_calls.specs.Desks.{desk_floor}
use Rattle.parcel_channel.specs.Numbers.{AdmitsThose}
use Rattle.parcel_channel.specs.Numbers.AdmitsThose.{nobody, another}
use Rattle.parcel_channel.proofs.AdmitsRepeat.{admits_self, admits_made, admit_less, still_carries, still_calls}
use Rattle.parcel_channel.proofs.numbers.admit_below.Goals as goal

pub loop-found-smaller : goal.loop-found-smaller
loop-found-smaller c =
    let d = c.admit.new.self in
    admit_less c.args.who c.in-Some.found.0 (desk_floor c.args.desk.now) (desk_floor c.loop-found.desk) (desk_floor d) c.loop-found.invariant.admits
    (hub_legal d.hub.now d.pass.now d.of) c.in-Some.ensures.answer.made

pub loop-found-init : goal.loop-found-init
loop-found-init c = record {
  anchor = refl;
  carries = c.requires.channel;
  caller = c.requires.caller;
  admits = admits_self c.args.who (desk_floor c.args.desk.now);
  those = nobody (desk_floor c.args.desk.now);
}

pub loop-found-preserved : goal.loop-found-preserved
loop-found-preserved c =
    let i = c.loop-found.invariant in
    let d = c.admit.new.self in
    let more = admits_made c.args.who 0 c.in-Some.found.0 (desk_floor c.args.desk.now) (desk_floor c.loop-found.desk) (desk_floor d) i.admits
    c.in-Some.ensures.answer.made in
    record {
      anchor = c.admit.ensures.anchor ∙ i.anchor;
      carries = still_carries c.loop-found.desk d c.admit.ensures.anchor i.carries;
      caller = still_calls c.args.who (desk_floor c.args.desk.now) (desk_floor d) more c.requires.caller;
      admits = more;
      those =
          subst (λ (n : ℕ). AdmitsThose c.args.who c.args.mark n (desk_floor c.args.desk.now) (desk_floor d))
          (sym c.with_tag-more.ensures)
          (another c.loop-found.set c.in-Some.found.0 c.in-Some.found.1 (desk_floor c.args.desk.now) (desk_floor c.loop-found.desk) (desk_floor d)
          i.those c.in-Some.ensures.answer);
    }

pub returns-in-None-clause-admits : goal.returns-in-None-clause-admits
returns-in-None-clause-admits c = record {
  before = desk_floor c.loop-found.desk;
  admits = c.loop-found.invariant.admits;
  those = c.loop-found.invariant.those;
  none =
      c.in-None.ensures.answer;
}
