-- Who has not called yet may use permits over words, and may fill.
use Rattle.std.specs.Prelude.{◌≡◌, ℕ, ◌<◌, ◌≤◌, true, List, [], ◌∷◌, length}
use Rattle.std.proofs.Common.{sym, ap, subst, arith}
use Rattle.channel_model.specs.declared.acts.Kind.TheVariants.{Unlimited}
use Rattle.channel_model.specs.declared.acts.Entry.{Entry}
use Rattle.channel_model.specs.Channels.{Shape, kind_at}
use Rattle.channel_model.specs.Histories.{acts_of}
use Rattle.channel_model.specs.Laws.{how_many}
use Rattle.worded.specs.Views.{has_tag}
use Rattle.cell_words.specs.declared.hub.Hub.{Hub}
use Rattle.cell_words.specs.declared.pass.Pass.{Pass}
use Rattle.cell_words.specs.Hubs.{shape_of, seen_by}
use Rattle.cell_calls.specs.HubFloors.{hub_floor}
use Rattle.permits.specs.Parts.{is_on, MayFill}

none_done : (who : ℕ) (es : List Entry) → acts_of who es ≡ acts_of who [] → how_many (is_on 0) (acts_of who es) ≡ 0
unfolding acts_of
none_done who es e = ap (how_many (is_on 0)) e

-- no act of a tag is what it did at the beginning
pub nothing_made : (who : ℕ) (es : List Entry) → acts_of who es ≡ [] → acts_of who es ≡ acts_of who []
unfolding acts_of
nothing_made who es e = e

pub pass_fresh : (places n who : ℕ) (hub : Hub) (pass : Pass) → shape_of hub ≡ (Unlimited, places) ∷ [] → 1 ≤ n → n ≤ 65535
    → has_tag who (seen_by pass).tags ≡ true → acts_of who (seen_by pass).seen ≡ acts_of who [] → MayFill 0 n who (hub_floor hub pass)
pass_fresh places n who hub pass s some few tag none = record {
  can = record { caller = tag; channel = subst (λ (x : Shape). 0 < length x) (sym s) (omega arith) };
  kind = ap (λ (x : Shape). kind_at x 0) s;
  some = some;
  few = few;
  none = none_done who (seen_by pass).seen none;
}
