use Rattle.std.proofs.Common.{rules, arith, ap, sym, subst, ◌∙◌, ◌%◌, ◌*◌, ◌+◌, suc, ltb}
use Rattle.std.proofs.lemmas.Bool.{ltb-true, lt-leb}
use Rattle.ring_channel.specs.declared.act.RingSide.TheVariants.{Send}
use Rattle.ring_channel.specs.declared.act.WaitStep.TheVariants.{NothingThere}
use Rattle.ring_channel.specs.Seen.{own_tag, now_in}
use Rattle.ring_channel.proofs.MayWait.{may_see_full}
use Rattle.ring_channel.proofs.SlotsLooked.{slot_looked}
use Rattle.ring_channel.proofs.StatesStaySound.{slot_of}
use Rattle.ring_channel.proofs.WaitsKeep.{May, looks}
use Rattle.ring_channel.proofs.waits.look_next.Goals as goal

pub load-requires : goal.load-requires
load-requires g c =
    let n = c.args.words.now.key in
    let m = c.args.seat.now.me in
    let p = c.args.place in
    let same = c.requires.table.2 in
    let pos = c.requires.table.0.pos in
    let near = slot_of n p pos in
    let key = c.requires.seat.key in
    let is = c.requires.place ∙ ap (λ k. (now_in k m.0).puts) (sym key) in (
      search rules,
      omega (arith, c.requires.table.0.words, near, ap (λ k. p % k) same),
      looks n _ _ (32 + p % c.args.slots) (λ i. ltb i (2 * (now_in m.0.key m.0).puts)) Send NothingThere m key
          (omega (arith, near, ap (λ k. p % k) same))
          (λ old low. subst (λ k. May n (32 + p % k) Send NothingThere m old old) (sym same)
          (may_see_full n (own_tag m.0) old p m.0 pos c.requires.seat.own c.requires.place
          (ltb-true old (2 * p) (ap (λ z. ltb old (2 * z)) is ∙ low)))),
    )

pub returns-clause-did : goal.returns-clause-did
returns-clause-did g c = (slot_looked ltb c.args.words.now.key c.args.slots c.args.place c.load.result Send c.args.seat.now.me c.load.new.seat.me
    c.requires.table.0.pos c.requires.table.2 c.requires.seat c.requires.place c.load.ensures.2).did

pub returns-clause-seat : goal.returns-clause-seat
returns-clause-seat g c = (slot_looked ltb c.args.words.now.key c.args.slots c.args.place c.load.result Send c.args.seat.now.me c.load.new.seat.me
    c.requires.table.0.pos c.requires.table.2 c.requires.seat c.requires.place c.load.ensures.2).seat

pub returns-clause-came : goal.returns-clause-came
returns-clause-came g c = λ above. (slot_looked ltb c.args.words.now.key c.args.slots c.args.place c.load.result Send c.args.seat.now.me c.load.new.seat.me
    c.requires.table.0.pos c.requires.table.2 c.requires.seat c.requires.place c.load.ensures.2).came
    (lt-leb (suc c.load.result) (2 * c.args.place) (omega (arith, above))) above
