-- What a seat knows, and what becomes of it at each step.
use Rattle.std.specs.Prelude.{ℕ, suc, ◌+◌, ◌==◌, Bool, true, false, List, [], ◌∷◌, Option, Some, None, if◌then◌else◌}
use Rattle.task_berths.specs.declared.rule.BerthStep.{BerthStep}
use Rattle.task_berths.specs.declared.rule.SeatView.{SeatView}

-- ---- the tags of the tasks that it has

-- the tag is one of these
abbrev pub has_tag : ℕ → List ℕ → Bool
has_tag t [] = false
has_tag t (u ∷ us) = if t == u then true else has_tag t us

-- all of these but the tag
abbrev pub without_tag : ℕ → List ℕ → List ℕ
without_tag t [] = []
without_tag t (u ∷ us) = if t == u then without_tag t us else u ∷ without_tag t us

-- ---- seats that come and go

-- the first seat, which has the number 0
abbrev pub first_view : SeatView
first_view =
    record {
      number = 0;
      live = true;
      chief = true;
      splits = 0;
      ends = 0;
      takes = 0;
      held = [];
      carries = None;
      seen = [];
    }

-- the seat that the first one gives out next
abbrev pub new_seat : SeatView → SeatView
new_seat v =
    record {
      number = suc v.splits;
      live = true;
      chief = false;
      splits = 0;
      ends = 0;
      takes = 0;
      held = [];
      carries = None;
      seen = v.seen;
    }

-- the first seat once it gave out one more
abbrev pub having_split : SeatView → SeatView
having_split v = record v { splits = suc v.splits }

-- a seat that has ended
abbrev pub spent_view : SeatView
spent_view =
    record {
      number = 0;
      live = false;
      chief = false;
      splits = 0;
      ends = 0;
      takes = 0;
      held = [];
      carries = None;
      seen = [];
    }

-- the first seat once it ended another
abbrev pub having_ended : SeatView → SeatView → SeatView
having_ended v w = record v { ends = suc v.ends; takes = v.takes + w.takes }

-- ---- its steps

-- it has seen these steps
abbrev pub having_seen : SeatView → List BerthStep → SeatView
having_seen v seen = record v { seen = seen }

-- it took a task, whose slot it carries
abbrev pub having_taken : SeatView → ℕ → List BerthStep → SeatView
having_taken v t seen = record v { takes = suc v.takes; held = t ∷ v.held; carries = Some t; seen = seen }

-- it carries this slot, or none
abbrev pub carrying : SeatView → Option ℕ → SeatView
carrying v slot = record v { carries = slot }

-- it left a task
abbrev pub having_left : SeatView → ℕ → List BerthStep → SeatView
having_left v t seen = record v { held = without_tag t v.held; carries = None; seen = seen }

-- ---- all seats

abbrev pub count_if : Bool → ℕ → ℕ
count_if true n = suc n
count_if false n = n

-- how many seats have not ended
abbrev pub live_count : List SeatView → ℕ
live_count [] = 0
live_count (v ∷ vs) = count_if v.live (live_count vs)

-- how many takes the seats made
abbrev pub takes_made : List SeatView → ℕ
takes_made [] = 0
takes_made (v ∷ vs) = v.takes + takes_made vs
