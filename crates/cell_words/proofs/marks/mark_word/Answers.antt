use Rattle.std.proofs.Common.{length, ap, arith}
use Rattle.channel_model.specs.Channels.{Shape}
use Rattle.cell_words.specs.Hubs.{shape_of}
use Rattle.cell_words.proofs.OneNumberOneWord.{number_within}
use Rattle.cell_words.proofs.marks.mark_word.Goals as goal
use Rattle.cell_words.proofs.OnTheFirstPart.{channels_few}

pub overflow_mul-result-2 : goal.overflow_mul-result-2
overflow_mul-result-2 c =
    let h = channels_few (shape_of c.args.hub.now) in
    let w = c.args.hub.now.sized.few in
    let n = c.len.ensures in
    let k = ap (λ (s : Shape). length s) c.args.hub.now.sized.same in
    record { fits = omega arith }

pub overflow_add-result : goal.overflow_add-result
overflow_add-result c =
    let h = channels_few (shape_of c.args.hub.now) in
    let w = c.args.hub.now.sized.few in
    let n = c.len.ensures in
    let k = ap (λ (s : Shape). length s) c.args.hub.now.sized.same in
    let t = c.args.hub.now.sized.total in
    record { fits = omega arith }

pub overflow_add-result-2 : goal.overflow_add-result-2
overflow_add-result-2 c =
    let h = channels_few (shape_of c.args.hub.now) in
    let w = c.args.hub.now.sized.few in
    let n = c.len.ensures in
    let k = ap (λ (s : Shape). length s) c.args.hub.now.sized.same in
    let t = c.args.hub.now.sized.total in
    let m = number_within (shape_of c.args.hub.now) c.args.c c.args.place c.requires.0 c.requires.1 in
    let e = c.number_of.ensures in
    record { fits = omega arith }
