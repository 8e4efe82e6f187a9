-- Histories: what they leave, which are legal, and what one caller made of them.
use Rattle.std.specs.Prelude.{ℕ, ◌==◌, List, [], ◌∷◌, if◌then◌else◌, map}
use Rattle.channel_model.specs.declared.acts.Act.{Act}
use Rattle.channel_model.specs.declared.acts.Entry.{Entry}
use Rattle.channel_model.specs.Channels.{Shape, State, start}
use Rattle.channel_model.specs.Effects.{after}
use Rattle.channel_model.specs.Needs.{Needs}

unfoldable pub replay_from : State → List Entry → State
replay_from s [] = s
replay_from s (e ∷ es) = replay_from (after s e.who e.act) es

-- the state after a history
abbrev pub replay : List Entry → State
replay history = replay_from start history

unfoldable pub LegalFrom : Shape → State → List Entry → Type 0
LegalFrom shape s [] = Unit {0}
LegalFrom shape s (e ∷ es) = Needs shape s e.who e.act × LegalFrom shape (after s e.who e.act) es

-- each entry of the history might come when it comes
abbrev pub Legal : Shape → List Entry → Type 0
Legal shape history = LegalFrom shape start history

-- the acts of one caller, in their order
unfoldable pub acts_of : ℕ → List Entry → List Act
acts_of who [] = []
acts_of who (e ∷ es) = if e.who == who then e.act ∷ acts_of who es else acts_of who es

-- all acts, in their order
abbrev pub acts_in : List Entry → List Act
acts_in history = map (λ e. e.act) history
