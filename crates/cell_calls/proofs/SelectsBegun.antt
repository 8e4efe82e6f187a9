-- A select that began with clause 1 at channel 0 may have clause 2 at channel 1.
use Rattle.std.proofs.Common.{◌≡◌, ℕ, List, None, sym, refl, ap, ◌∙◌, subst, arith}
use Rattle.channel_model.specs.declared.acts.Act.TheVariants.{Await}
use Rattle.channel_model.specs.declared.acts.Entry.{Entry}
use Rattle.channel_model.specs.Channels.{State}
use Rattle.channel_model.specs.Effects.{name_clause}
use Rattle.channel_model.specs.Needs.{JoinsWait}
use Rattle.channel_model.specs.Histories.{replay, Legal}
use Rattle.channel_model.specs.Floors.{Floor, Made}
use Rattle.channel_model.proofs.Histories.{Legal-last, replay_push}
use Rattle.channel_model.proofs.Sound.{sound}
use Rattle.channel_model.proofs.Waits.{at_wait}
use Rattle.word_rules.specs.Cells.{spot}

pub begun_joins : (who p : ℕ) (old new : Floor) → Legal new.shape new.seen → Made who (Await 0 p (spot 0 p) 1) old new
    → JoinsWait who 2 1 ((replay new.seen).waits (spot 0 p))
begun_joins who p old new l m =
    let e : Entry = record { who = who; act = Await 0 p (spot 0 p) 1 } in
    let k = Legal-last new.shape m.before e (subst (Legal new.shape) m.last l) in
    let place = k.1.1 in
    let none : (replay m.before).waits (spot 0 p) ≡ None =
    (sound new.shape m.before k.0).placed (spot 0 p) (let f = place.first in omega arith) in
    let now : (replay new.seen).waits (spot 0 p) ≡ name_clause who 1 0 None =
    ap (λ (es : List Entry). (replay es).waits (spot 0 p)) m.last ∙ ap (λ (s : State). s.waits (spot 0 p)) (replay_push m.before e)
    ∙ at_wait (spot 0 p) (name_clause who 1 0 ((replay m.before).waits (spot 0 p))) (replay m.before).waits
    ∙ ap (name_clause who 1 0) none in
    subst (JoinsWait who 2 1) (sym now) (record {
      own = refl;
      select = refl;
      unsettled = refl;
      other_channel = refl;
      other_clause = refl;
      low = omega arith;
      high = omega arith;
    })
