use Rattle.std.proofs.Common.{ap, map, refl}
use Rattle.run_picture.proofs.top.traced.Goals as goal

pub returns : goal.returns
returns c = record {
  trace = c.in_ok-tracing.tracing.trace;
  named = ap (map (λ n. n.items)) c.in_ok-tracing.ensures.names;
  tells = c.in_ok-tracing.ensures.told;
  is_text = c.in_ok-text.ensures.text;
  is_json = c.in_ok-text.ensures.json;
  all = refl;
  large = refl;
}
