use Rattle.std.proofs.Common.{ap, length, arith}
use Rattle.channel_model.specs.Channels.{Shape}
use Rattle.cell_words.proofs.OnTheFirstPart.{channels_few}
use Rattle.cell_words.proofs.hub.Hub.first_beside.Goals as goal

pub overflow_mul-result-2 : goal.overflow_mul-result-2
overflow_mul-result-2 c =
    let s = c.args.self.now.sized in
    let n = channels_few c.args.self.now.table.value.shared.key.0.kinds in
    let e = ap (λ (l : Shape). length l) s.same in
    let l = c.len.ensures in
    let f = s.few in
    record { fits = omega (arith, n, e, l, f) }

pub overflow_add-result-2 : goal.overflow_add-result-2
overflow_add-result-2 c =
    let s = c.args.self.now.sized in
    let n = channels_few c.args.self.now.table.value.shared.key.0.kinds in
    let e = ap (λ (l : Shape). length l) s.same in
    let l = c.len.ensures in
    let f = s.few in
    let t = s.total in
    record { fits = omega (arith, n, e, l, f, t) }

pub overflow_add-result-3 : goal.overflow_add-result-3
overflow_add-result-3 c =
    let s = c.args.self.now.sized in
    let n = channels_few c.args.self.now.table.value.shared.key.0.kinds in
    let e = ap (λ (l : Shape). length l) s.same in
    let l = c.len.ensures in
    let f = s.few in
    let t = s.total in
    record { fits = omega (arith, n, e, l, f, t) }
