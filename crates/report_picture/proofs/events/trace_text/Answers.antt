use Rattle.std.proofs.Common.{codes, ◌++◌, ap, map}
use Rattle.gathered.proofs.Adding.{adds, adds_same, adds_then, whole_text}
use Rattle.report_picture.specs.Traces.{elements_text, event_text, last_text, moment_text, track_text}
use Rattle.report_picture.proofs.Fields.{last_is}
use Rattle.report_picture.proofs.JsonTexts.{all_json}
use Rattle.report_picture.proofs.events.trace_text.Goals as goal

pub returns : goal.returns
returns c =
    let text = whole_text c.whole.result c.new-text.ensures.bytes
    (adds_then (last_text ++ codes "\n") (codes "]}\n")
    (adds (adds
    (adds c.add.ensures.added
    (adds_same (ap (λ l. elements_text (map (track_text (map (λ n. n.items) c.args.trace.now.names.now)) l))
    c.as_slice.ensures.value) c.add_tracks.ensures))
    (adds_same (ap (λ l. elements_text (map moment_text l)) c.as_slice-2.ensures.value) c.add_moments.ensures))
    (adds_same (ap (λ l. elements_text (map event_text l)) c.as_slice-3.ensures.value) c.add_events.ensures))
    (adds_same (ap (λ t. t ++ codes "\n" ++ codes "]}\n") last_is) c.add-2.ensures.added))
    c.whole.ensures.bytes c.whole.ensures.whole in
    record { text = text; json = all_json c.whole.result c.args.trace.now text }
