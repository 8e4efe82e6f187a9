-- Histories: what they leave, which are legal, and what one caller made of them.
use Rattle.std.specs.Prelude.{ℕ, ◌==◌, List, [], ◌∷◌, if◌then◌else◌, map}
use Rattle.job_model.specs.declared.acts.JobAct.{JobAct}
use Rattle.job_model.specs.declared.acts.JobEntry.{JobEntry}
use Rattle.job_model.specs.Trees.{Shape, Tree, start}
use Rattle.job_model.specs.Effects.{after}
use Rattle.job_model.specs.Needs.{Needs}

unfoldable pub replay_from : Tree → List JobEntry → Tree
replay_from tree [] = tree
replay_from tree (e ∷ es) = replay_from (after tree e.who e.act) es

-- the tree after a history
abbrev pub replay : List JobEntry → Tree
replay history = replay_from start history

unfoldable pub LegalFrom : Shape → Tree → List JobEntry → Type 0
LegalFrom shape tree [] = Unit {0}
LegalFrom shape tree (e ∷ es) = Needs shape tree e.who e.act × LegalFrom shape (after tree e.who e.act) es

-- each entry of the history might come when it comes
abbrev pub Legal : Shape → List JobEntry → Type 0
Legal shape history = LegalFrom shape start history

-- the acts of one caller, in their order
unfoldable pub acts_of : ℕ → List JobEntry → List JobAct
acts_of who [] = []
acts_of who (e ∷ es) = if e.who == who then e.act ∷ acts_of who es else acts_of who es

-- all acts, in their order
abbrev pub acts_in : List JobEntry → List JobAct
acts_in history = map (λ e. e.act) history
