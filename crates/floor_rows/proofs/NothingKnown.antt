-- What is known where nothing was seen.
use Rattle.std.specs.Prelude.{◌≡◌, ℕ, ◌<◌, false, [], ◌∷◌, length}
use Rattle.std.proofs.Common.{sym, subst, arith}
use Rattle.channel_model.specs.declared.acts.Kind.{Kind}
use Rattle.channel_model.specs.Channels.{Shape, kind_at, is_signal}
use Rattle.channel_model.specs.Floors.{Floor}
use Rattle.floor_rows.specs.Known.{Knows, nothing}

pub knows_nothing : (kind : Kind) (places : ℕ) (f : Floor) → f.shape ≡ (kind, places) ∷ [] → is_signal kind ≡ false → Knows nothing f
knows_nothing kind places f e h = record {
  channel = subst (λ (s : Shape). 0 < length s) (sym e) (omega arith);
  elements = subst (λ (s : Shape). is_signal (kind_at s 0) ≡ false) (sym e) h;
  caller = λ c. cc;
  own = λ c. cc;
  closed = λ c. cc;
  voided = λ c. cc;
}

-- on another floor of the same channels
pub nothing_there : (f g : Floor) → g.shape ≡ f.shape → Knows nothing f → Knows nothing g
nothing_there f g e h = record {
  channel = subst (λ (s : Shape). 0 < length s) (sym e) h.channel;
  elements = subst (λ (s : Shape). is_signal (kind_at s 0) ≡ false) (sym e) h.elements;
  caller = λ c. cc;
  own = λ c. cc;
  closed = λ c. cc;
  voided = λ c. cc;
}
