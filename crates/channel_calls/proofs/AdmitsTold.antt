-- What admitting tells.
use Rattle.std.specs.Prelude.{◌≡◌, ℕ, [], ◌∷◌, ◌++◌, Ok, Err, Result, refl}
use Rattle.std.proofs.Common.{ap}
use Rattle.co_base.specs.declared.names.Memory.{Memory}
use Rattle.channel_model.specs.declared.acts.Act.TheVariants.{Admit}
use Rattle.channel_model.specs.Floors.{Looked, AtStep}
use Rattle.channel_model.specs.Answers.{IsAdmittedBelow, MarkAnswer}
use Rattle.call_meaning.specs.Telling.{on_channels, NextIs, NoneToAdmit}
use Rattle.call_meaning.proofs.ChannelsHeard.{told_then}
use Rattle.call_meaning.specs.ChannelCalls.{Admits}
use Rattle.channel_calls.specs.Calls.{AdmittedAnswer, IsUntouched}
use Rattle.channel_calls.specs.Parts.{AdmitsBelow, AdmittedBelowAnswer}
use Rattle.channel_calls.proofs.Repeated.{Repeats, all_made, repeated_until, still_repeated}
use Rattle.channel_calls.proofs.Untold.{told_seen, part_then}
use Rattle.call_meaning.specs.Seen.{SeenOnChannels}
use Rattle.channel_calls.proofs.Roomed.{IsRoomed}
use Rattle.call_meaning.specs.Calls.{ToldOnChannels}

pub admitted_below : {c mark n : ℕ} {a b d e : SeenOnChannels} → (h : Repeats (λ q. Admit c q) a b) → IsRoomed n b d
    → Looked b.who d.floor e.floor
    → AtStep d.floor e.floor (IsAdmittedBelow d.floor.shape c mark) → e.who ≡ b.who → e.items ≡ d.items
    → AdmittedBelowAnswer c mark a e (Ok tt)
admitted_below {c} {mark} {d = d} {e = e} h r look at w g = record {
  told = all_made (λ q. Admit c q) h.of ++ on_channels (NoneToAdmit c mark) ∷ [];
  goes = record { places = h.of; all = refl };
  left = repeated_until (λ q. Admit c q) (NoneToAdmit c mark) h r look at w g;
}

-- with the mark before
pub admitted_all : (c mark : ℕ) (a b d : SeenOnChannels) (result : Result (Unit {0}) Memory) → MarkAnswer a.who c a.floor b.floor mark
    → b.who ≡ a.who
    → b.items ≡ a.items → AdmittedBelowAnswer c mark b d result → AdmittedAnswer c a d result
admitted_all c mark a b d (Ok done) m w e h =
    let first : ToldOnChannels a b (on_channels (NextIs c mark) ∷ []) = told_seen (NextIs c mark) m.0 m.1 w e in
    record {
      told = on_channels (NextIs c mark) ∷ h.told;
      goes = record { mark = mark; places = h.goes.places; all = ap (λ l. on_channels (NextIs c mark) ∷ l) h.goes.all };
      left = told_then first h.left;
    }
admitted_all c mark a b d (Err memory) m w e h =
    let first : ToldOnChannels a b (on_channels (NextIs c mark) ∷ []) = told_seen (NextIs c mark) m.0 m.1 w e in
    part_then (AdmitsBelow c mark) (Admits c) (on_channels (NextIs c mark) ∷ [])
    (λ all r. record { mark = mark; places = r.places; all = ap (λ l. on_channels (NextIs c mark) ∷ l) r.all }) first h

-- no memory was found
pub admits_stopped : {c mark : ℕ} {a b d : SeenOnChannels} (m : Memory) → (h : Repeats (λ q. Admit c q) a b) → IsUntouched b d
    → AdmittedBelowAnswer c mark a d (Err m)
admits_stopped {c} {mark} m h u =
    still_repeated (λ q. Admit c q) (AdmitsBelow c mark) (on_channels (NoneToAdmit c mark) ∷ []) h (record { places = h.of; all = refl }) u

-- nobody was to be admitted
pub none_admitted : (c : ℕ) → Admits c (on_channels (NextIs c 0) ∷ on_channels (NoneToAdmit c 0) ∷ [])
none_admitted c = record { mark = 0; places = []; all = refl }
