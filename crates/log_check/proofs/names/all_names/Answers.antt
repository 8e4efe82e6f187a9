use Rattle.std.proofs.Common.{[], ◌∷◌, ◌++◌, ap, map, string_bytes, sym, ◌∙◌, append-nil}
use Rattle.std.proofs.lemmas.List.{map-append, take_all}
use Rattle.report_reader.specs.Words.{texts}
use Rattle.script_reader.specs.declared.script.Channel.{Channel}
use Rattle.log_check.proofs.Named.{one_name_more}
use Rattle.log_check.proofs.names.all_names.Goals as goal

pub loop-channel-preserved : goal.loop-channel-preserved
loop-channel-preserved c =
    let before = c.loop-channel in
    one_name_more (λ (x : Channel). string_bytes x.name) [] (texts before.names.items) (texts c.push.new.self.items) c.args.channels.now
    before.channel-index c.channel-item.result c.as_bytes.result.now before.invariant
    (ap texts c.in_ok-push.ensures.items ∙ map-append (λ w. w.now) before.names.items (c.as_bytes.result ∷ [])) c.as_bytes.ensures.value
    c.channel-item.is c.loop-channel-test.true

pub loop-row-init : goal.loop-row-init
loop-row-init c =
    let named = map (λ (x : Channel). string_bytes x.name) in
    c.loop-channel.invariant ∙ ap named (take_all c.loop-channel.channel-index c.args.channels.now c.loop-channel-test.false)
    ∙ sym (append-nil (named c.args.channels.now))

pub loop-row-preserved : goal.loop-row-preserved
loop-row-preserved c =
    let before = c.loop-row in
    one_name_more string_bytes (map (λ (x : Channel). string_bytes x.name) c.args.channels.now) (texts before.names.items)
    (texts c.push-in-loop-row.new.self.items) c.args.rows.now before.row-index c.row-item.result c.as_bytes-in-loop-row.result.now
    before.invariant
    (ap texts c.in_ok-push-2.ensures.items ∙ map-append (λ w. w.now) before.names.items (c.as_bytes-in-loop-row.result ∷ []))
    c.as_bytes-in-loop-row.ensures.value c.row-item.is c.loop-row-test.true

pub returns : goal.returns
returns c =
    c.loop-row.invariant
    ∙ ap (λ rows. map (λ (x : Channel). string_bytes x.name) c.args.channels.now ++ map string_bytes rows)
    (take_all c.loop-row.row-index c.args.rows.now c.loop-row-test.false)
