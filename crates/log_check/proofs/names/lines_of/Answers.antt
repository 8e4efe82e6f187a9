use Rattle.std.proofs.Common.{◌≡◌, ap, arith, length, map, string_bytes, subst, ◌∙◌}
use Rattle.std.specs.List.{range_with_len}
use Rattle.std.proofs.lemmas.List.{length-map}
use Rattle.report_reader.specs.Words.{texts}
use Rattle.script_grammar.specs.Tags.{job_count}
use Rattle.script_reader.specs.Scripts.{program_of}
use Rattle.engine_base.proofs.ChannelKinds.{few_channels, length-floor_shape}
use Rattle.history_text.specs.Inputs.{GivesLines}
use Rattle.history_text.specs.Lines.{history_of}
use Rattle.log_check.specs.Logs.{names_in, row_name}
use Rattle.log_check.proofs.Named.{all_named, names_counted}
use Rattle.log_check.proofs.names.lines_of.Goals as goal

pub lines_in-requires-clause-few : goal.lines_in-requires-clause-few
lines_in-requires-clause-few c =
    let p = program_of c.args.script.now in
    let named : texts c.as_slice-2.result.now ≡ names_in p = all_named (texts c.as_slice-2.result.now) c.channels.result.now
    (map string_bytes c.as_slice.result.now) _ _ (ap texts c.as_slice-2.ensures.value ∙ c.in-Ok-all_names.ensures)
    (ap (map string_bytes) c.as_slice.ensures.value ∙ c.in-Ok.ensures
    ∙ ap (λ n. map row_name (range_with_len 0 n)) c.jobs.ensures) c.channels.ensures in
    omega (
      arith,
      length-map c.as_slice-2.result.now (λ w. w.now),
      ap length named,
      names_counted p.channels (job_count p),
      few_channels p c.args.script.now.well_formed,
      length-floor_shape p,
    )

pub returns : goal.returns
returns c =
    subst (λ names. GivesLines c.lines_in.result (history_of names c.args.text.now))
    (all_named (texts c.as_slice-2.result.now) c.channels.result.now (map string_bytes c.as_slice.result.now) _ _
    (ap texts c.as_slice-2.ensures.value ∙ c.in-Ok-all_names.ensures)
    (ap (map string_bytes) c.as_slice.ensures.value ∙ c.in-Ok.ensures
    ∙ ap (λ n. map row_name (range_with_len 0 n)) c.jobs.ensures) c.channels.ensures) c.lines_in.ensures
