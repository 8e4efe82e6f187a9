use Rattle.std.proofs.Common.{◌<◌, ◌≤◌, length, sym, ap, ◌∙◌, arith}
use Rattle.poll_states.specs.Frames.{config_of}
use Rattle.poll_states.proofs.LineNeeds.{set_row-inside, set_row-outside}
use Rattle.poll_states.proofs.coroutine.Coroutine.name_row.Goals as goal

pub returns-then-job-len-clause-config : goal.returns-then-job-len-clause-config
returns-then-job-len-clause-config g c =
    let f = c.args.self.now in
    let lt : c.args.job < length f.rows.items = omega (arith, f.rows.ok.0, c.len.ensures, c.if-job-len.true) in
    ap (λ l. record (config_of f) { rows = l }) (sym (set_row-inside c.args.job f.free f.rows.items lt))

pub returns-else-job-len-clause-config : goal.returns-else-job-len-clause-config
returns-else-job-len-clause-config g c =
    let f = c.args.self.now in
    let le : length f.rows.items ≤ c.args.job = omega (arith, f.rows.ok.0, c.len.ensures, c.if-job-len.false) in
    ap (λ l. record (config_of f) { rows = l }) (c.push_reserved.ensures.items ∙ sym (set_row-outside c.args.job f.free f.rows.items le))
