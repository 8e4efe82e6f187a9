-- A list of elements is sent.
use Rattle.std.specs.Prelude.{◌≡◌, ℕ, List, [], ◌∷◌, ◌++◌, Option, Some, None, Result, Ok, Err}
use Rattle.channel_model.specs.declared.acts.Act.{Act}
use Rattle.channel_model.specs.declared.acts.Act.TheVariants.{Settle}
use Rattle.channel_model.specs.declared.acts.Settled.TheVariants as settled
use Rattle.channel_model.specs.Histories.{replay}
use Rattle.channel_model.specs.Floors.{Floor, Added, AtStep}
use Rattle.channel_model.specs.Answers.{IsSpentForOffers}
use Rattle.cell_words.specs.declared.hub.Hub.{Hub}
use Rattle.cell_words.specs.declared.pass.Pass.{Pass}
use Rattle.cell_words.specs.Hubs.{IsOwn, SameGiving}
use Rattle.cell_calls.specs.HubFloors.{hub_floor}
use Rattle.future_bridge.specs.declared.sending.SinkFault.{SinkFault}
use Rattle.future_bridge.specs.declared.sending.SinkFault.TheVariants as fault
use Rattle.future_bridge.specs.declared.lists.ListFault.{ListFault}
use Rattle.future_bridge.specs.declared.lists.ListFault.TheVariants as list
use Rattle.future_bridge.specs.Gains.{wait_at}
use Rattle.future_bridge.specs.Sends.{SendsNone, SendsEach}

-- first an offer ended that waits, if one does: it was received or kept; and then these elements were sent, one after the other
pub data SendsFrom (c : ℕ) : Option (ℕ × ℕ) → List ℕ → List Act → Type 0 where
  none : (vs : List ℕ) (acts : List Act) → SendsEach c vs acts → SendsFrom c None vs acts
  first : (x : ℕ × ℕ) (k : ℕ) (vs : List ℕ) (acts : List Act) → SendsEach c vs acts
      → SendsFrom c (Some x) vs (Settle (wait_at c x.0) (settled.Sent k) ∷ acts)

-- the elements up to this one were sent, and this one was not
pub record StopsAt (c v : ℕ) (wait : Option (ℕ × ℕ)) (values : List ℕ) (acts : List Act) : Type 0 where
  pub done : List ℕ
  pub later : List ℕ
  pub parts : values ≡ done ++ v ∷ later
  pub sends : SendsFrom c wait done acts

-- or its offer was removed with its channel: that which waited, or that of one of the list
pub data IsVoided (c v : ℕ) : Option (ℕ × ℕ) → List ℕ → List Act → Type 0 where
  waiting : (x : ℕ × ℕ) (values : List ℕ) → x.1 ≡ v → IsVoided c v (Some x) values (Settle (wait_at c x.0) settled.Cancelled ∷ [])
  listed : (wait : Option (ℕ × ℕ)) (values : List ℕ) (acts group all : List Act) → StopsAt c v wait values acts → SendsNone c v group
      → all ≡ acts ++ group → IsVoided c v wait values all

-- how it went, by the answer
abbrev pub WentSo : ℕ → Option (ℕ × ℕ) → List ℕ → Floor → Floor → List Act → Result (Unit {0}) SinkFault → Type 0
WentSo c wait values old new acts (Ok done) = SendsFrom c wait values acts
WentSo c wait values old new acts (Err (fault.Closed v x)) =
    StopsAt c v wait values acts × (((replay new.seen).channels c).closed ≡ Some x)
WentSo c wait values old new acts (Err (fault.Spent v)) = StopsAt c v wait values acts × AtStep old new (IsSpentForOffers old.shape c)
WentSo c wait values old new acts (Err (fault.Cancelled v)) = IsVoided c v wait values acts

-- the pass that came back gained these acts
pub record SendsList (hub : Hub) (pass : Pass) (who c : ℕ) (wait : Option (ℕ × ℕ)) (values : List ℕ) (pass' : Pass)
    (result : Result (Unit {0}) SinkFault) : Type 0 where
  pub own : IsOwn hub pass' who
  pub giving : SameGiving pass pass'
  pub acts : List Act
  pub added : Added who acts (hub_floor hub pass) (hub_floor hub pass')
  pub went : WentSo c wait values (hub_floor hub pass) (hub_floor hub pass') acts result

-- by the answer of the whole call; of a pass that is gone nothing is known
abbrev pub ListSent : Hub → Pass → ℕ → ℕ → List ℕ → Result Pass ListFault → Type 0
ListSent hub pass who c values (Ok pass') = SendsList hub pass who c None values pass' (Ok tt)
ListSent hub pass who c values (Err (list.Sink pass' f)) = SendsList hub pass who c None values pass' (Err f)
ListSent hub pass who c values (Err list.Failed) = Unit {0}
