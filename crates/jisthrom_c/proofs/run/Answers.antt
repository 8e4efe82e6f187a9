use Rattle.std.proofs.Common.{arith, ap, ◌∙◌, map, string_bytes}
use Rattle.co_base.specs.Steady.{steady_left}
use Rattle.co_base.specs.InMemory.{bytes_held, sink_faults}
use Rattle.jisthrom_c.proofs.RunsGo.{runs_to}
use Rattle.jisthrom_c.proofs.run.Goals as goal

pub returns : goal.returns
returns c =
    let call = c.coroutine_main_alone-number in
    runs_to call.ensures.status.0 call.result (map string_bytes c.as_slice.result.now) c.args.script.now (steady_left c.in_ok-source.source)
    (steady_left call.new.source) (bytes_held c.in_ok-sink.sink) (bytes_held call.new.sink) (sink_faults c.in_ok-sink.sink)
    (sink_faults call.new.sink)
    (ap (λ l. map string_bytes l) c.as_slice.ensures.value ∙ c.in_ok-words.ensures)
    (c.in_ok-source.ensures ∙ c.front_of.ensures)
    c.in_ok-sink.ensures.held call.ensures.status.1 (omega (arith, c.if-number-gt4.false)) call.ensures.status.2
