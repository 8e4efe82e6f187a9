use Rattle.std.proofs.Common.{◌<◌, ◌∙◌, sym, subst, length, false}
use Rattle.channel_model.specs.Histories.{replay}
use Rattle.channel_model.specs.Answers.{SettleAnswer}
use Rattle.cell_words.specs.Hubs.{shape_of, seen_by}
use Rattle.cell_words.proofs.LooksAtCells.{hub_legal}
use Rattle.cell_calls.specs.HubFloors.{hub_floor}
use Rattle.cell_calls.proofs.CallsTell.{looked_of, wait_place}
use Rattle.parcel_channel.proofs.OwnWaits.{plain_looked, plain_own, waits_still, sent_ready, sent_end}
use Rattle.parcel_channel.proofs.waits.settle_offer.Goals as goal

pub wait_word_at-word-requires-clause-at : goal.wait_word_at-word-requires-clause-at
wait_word_at-word-requires-clause-at c =
    let p = c.args.pass.now in
    let shape = shape_of c.args.hub.now in (
      subst (λ n. n < length shape) (sym c.requires.wait) c.requires.channel.0,
      wait_place shape (seen_by p).seen c.args.who c.args.w (hub_legal c.args.hub.now p c.requires.own.0)
          (plain_own c.args.who c.args.w.channel _ _ c.requires.plain.wait),
    )

pub settle-requires-clause-ready : goal.settle-requires-clause-ready
settle-requires-clause-ready c =
    let hub = c.args.hub.now in
    let q = c.wait_word_at-word.new.pass in
    let look = looked_of hub c.args.who c.args.pass.now q c.requires.own.1 c.wait_word_at-word.ensures.sees in
    let plain = plain_looked c.args.who c.args.w (hub_floor hub c.args.pass.now) (hub_floor hub q)
    (hub_legal hub q c.wait_word_at-word.ensures.own.0) c.requires.plain look in
    sent_ready c.args.who c.args.w.channel _ ((replay (seen_by q).seen).waits c.args.w) c.wait_word_at-word.result plain.wait
    c.wait_word_at-word.ensures.word.0 (sym c.was_sent.ensures ∙ c.if-not-was_sent.false)

pub returns-then-not-was_sent-clause-answer : goal.returns-then-not-was_sent-clause-answer
returns-then-not-was_sent-clause-answer c =
    let hub = c.args.hub.now in
    let q = c.wait_word_at-word.new.pass in
    let look = looked_of hub c.args.who c.args.pass.now q c.requires.own.1 c.wait_word_at-word.ensures.sees in
    let plain = plain_looked c.args.who c.args.w (hub_floor hub c.args.pass.now) (hub_floor hub q)
    (hub_legal hub q c.wait_word_at-word.ensures.own.0) c.requires.plain look in (
      look,
      waits_still c.args.who c.args.w.channel _ ((replay (seen_by q).seen).waits c.args.w) c.wait_word_at-word.result plain.wait
          c.wait_word_at-word.ensures.word.0 (sym c.was_sent.ensures ∙ c.if-not-was_sent.true),
    )

pub returns-clause-answer : goal.returns-clause-answer
returns-clause-answer c =
    let hub = c.args.hub.now in
    let q = c.wait_word_at-word.new.pass in
    let look = looked_of hub c.args.who c.args.pass.now q c.requires.own.1 c.wait_word_at-word.ensures.sees in
    let plain = plain_looked c.args.who c.args.w (hub_floor hub c.args.pass.now) (hub_floor hub q)
    (hub_legal hub q c.wait_word_at-word.ensures.own.0) c.requires.plain look in
    let k = sent_end c.args.who c.args.w.channel _ ((replay (seen_by q).seen).waits c.args.w) c.wait_word_at-word.result c.settle.result
    plain.wait c.wait_word_at-word.ensures.word.0 (sym c.was_sent.ensures ∙ c.if-not-was_sent.false) c.settle.ensures.answer.1 in
    record {
      mid = hub_floor hub q;
      looked = look;
      clause = k.0;
      settled = subst (λ x. SettleAnswer c.args.who c.args.w false (hub_floor hub q) (hub_floor hub c.settle.new.pass) x) k.1
          c.settle.ensures.answer;
    }
