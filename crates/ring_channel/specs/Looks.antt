-- What the steps about those who wait add to what was seen.
use Rattle.std.specs.Prelude.{◌≡◌, ℕ, Bool, true, false, List, [], ◌∷◌, ◌++◌, MatchBool, Option, Some, None}
use Rattle.std.specs.Int.{bit_at}
use Rattle.worded.specs.Exchanges.{Loaded, Entered}
use Rattle.ring_channel.specs.declared.act.RingAct.TheVariants.{Waiting}
use Rattle.ring_channel.specs.declared.act.RingEntry.{RingEntry}
use Rattle.ring_channel.specs.declared.act.RingSide.{RingSide}
use Rattle.ring_channel.specs.declared.answers.Called.{Called}
use Rattle.ring_channel.specs.declared.answers.Called.TheVariants.{Nobody, One, All}
use Rattle.ring_channel.specs.declared.answers.Closing.{Closing}
use Rattle.ring_channel.specs.declared.act.RingSide.TheVariants.{Receive, Send}
use Rattle.ring_channel.specs.declared.act.WaitStep.{WaitStep}
use Rattle.ring_channel.specs.declared.act.WaitStep.TheVariants.{Stand, Leave, Call, CallAll, NoneWaits, NothingThere, GoesOn}
use Rattle.ring_channel.specs.Rings.{State, Legal, maker}
use Rattle.ring_channel.specs.Tables.{Fits}
use Rattle.ring_channel.specs.Seen.{Seen, Sat, own_tag, entry_of, IsIdle}
use Rattle.ring_channel.specs.Answers.{Adds, AtMoment, CloseAnswer}
use Rattle.ring_channel.specs.Served.{MayGo}

-- the step, if this holds
abbrev pub seen_if : Bool → WaitStep → List WaitStep
seen_if false w = []
seen_if true w = w ∷ []

-- the step that calls so
abbrev pub last_of : Called → WaitStep
last_of Nobody = NoneWaits
last_of (One t) = Call t
last_of (All m) = CallAll

-- How one looks for those who wait. It saw that nobody waits; or it waits no more itself, and saw that the ring is open and that there is
-- nothing for them; or it waits no more itself, and called
pub data CallSteps : Called → List WaitStep → Type 0 where
  nobody_waits : CallSteps Nobody (NoneWaits ∷ [])
  nothing_there : CallSteps Nobody (Leave ∷ GoesOn ∷ NothingThere ∷ [])
  it_calls : (seen : Bool) (called : Called) → CallSteps called (Leave ∷ seen_if seen GoesOn ++ last_of called ∷ [])

-- the other side
abbrev pub other : RingSide → RingSide
other Receive = Send
other Send = Receive

module _ {T : Type 0} where
  -- the entries of these steps on a side
  abbrev pub entries_on : ℕ → RingSide → List WaitStep → List (RingEntry T)
  entries_on who d [] = []
  entries_on who d (w ∷ ws) = entry_of who (Waiting d w) ∷ entries_on who d ws

  -- the seat made these steps on a side, in this order, and is the same otherwise
  pub record Does (n : ℕ) (d : RingSide) (steps : List WaitStep) (a r : Sat T) : Type 0 where
    pub adds : Adds (own_tag a.0) (entries_on (own_tag a.0) d steps) a.0 r.0
    pub key : r.0.key ≡ a.0.key
    pub told : r.0.heard_tags ≡ []
    pub hand : r.1 ≡ a.1
    pub idle : IsIdle n a.0 → IsIdle n r.0

  -- the pass of this tag waits no more on this side, and has nothing to do for those who wait there
  abbrev pub HasDone : State T → RingSide → ℕ → Type 0
  HasDone s d who = (bit_at (s.lines d).mask who ≡ 0) × ((s.lines d).ones who ≡ false) × ((s.lines d).ends who ≡ false)

  -- the pass of this tag was called, or it waits and has nothing to do for those who wait there
  abbrev pub HasDoneIfWaits : State T → RingSide → ℕ → Type 0
  HasDoneIfWaits s d who = bit_at (s.lines d).mask who ≡ 1 → ((s.lines d).ones who ≡ false) × ((s.lines d).ends who ≡ false)

  -- ---- what the steps tell: a seat with its slots before and after

  -- the entry was made where the word was found
  abbrev pub Made : ℕ → ℕ → ℕ → RingSide → WaitStep → Sat T → Sat T → Type 0
  Made n word found d w m r = Entered (Legal n) (Fits n) maker word found (entry_of (own_tag m.0) (Waiting d w)) m.0 r.0 × (r.1 ≡ m.1)

  -- the same, if this holds, and else the word was loaded
  abbrev pub MadeIf : Bool → ℕ → ℕ → ℕ → RingSide → WaitStep → Sat T → Sat T → Type 0
  MadeIf b n word found d w m r =
      MatchBool b (Entered (Legal n) (Fits n) maker word found (entry_of (own_tag m.0) (Waiting d w)) m.0 r.0)
      (Loaded (Legal n) (Fits n) maker word found m.0 r.0) × (r.1 ≡ m.1)

  -- at a moment the word of who waits was this
  abbrev pub Found : ℕ → RingSide → ℕ → Seen T → Seen T → Type 0
  Found n d m v w = AtMoment n (λ s. (s.lines d).mask ≡ m) v w

  -- all who waited at a moment are named
  abbrev pub NamesAll : ℕ → RingSide → Called → Seen T → Seen T → Type 0
  NamesAll n d Nobody v w = Unit {0}
  NamesAll n d (One t) v w = Unit {0}
  NamesAll n d (All m) v w = Found n d m v w

  -- it was seen that there is nothing for one who waits; or, at a moment, there was something for it, or the ring was closed
  abbrev pub Looked : ℕ → RingSide → Sat T → Sat T → Bool → Type 0
  Looked n d a r true = Does n d (GoesOn ∷ NothingThere ∷ []) a r
  Looked n d a r false = (seen : Bool) × Does n d (seen_if seen GoesOn) a r × AtMoment n (λ s. MayGo n s d) a.0 r.0

  -- it called so, or saw that nobody waits
  abbrev pub Named : ℕ → RingSide → Sat T → Sat T → Called → Type 0
  Named n d a r called = Does n d (last_of called ∷ []) a r × NamesAll n d called a.0 r.0

  -- the seat looked for those who wait, and named whom it called
  pub record LooksOn (n : ℕ) (d : RingSide) (a r : Sat T) (called : Called) : Type 0 where
    pub steps : List WaitStep
    pub how : CallSteps called steps
    pub does : Does n d steps a r
    pub all : NamesAll n d called a.0 r.0

  -- it called so, or nothing was done
  abbrev pub MayName : ℕ → RingSide → Sat T → Sat T → Option Called → Type 0
  MayName n d a r None = Does n d [] a r
  MayName n d a r (Some called) = Named n d a r called

  -- it stood, and at a moment since then there was something for it, or the ring was closed: it waits no more
  pub record Stood (n : ℕ) (d : RingSide) (a r : Sat T) : Type 0 where
    pub stood : Sat T
    pub stands : Does n d (Stand ∷ []) a stood
    pub may_go : AtMoment n (λ s. MayGo n s d) stood.0 r.0
    pub seen : Bool
    pub leaves : Does n d (seen_if seen GoesOn ++ Leave ∷ []) stood r

  -- it waits; or it waited for a moment
  abbrev pub Waited : ℕ → RingSide → Sat T → Sat T → Bool → Type 0
  Waited n d a r true = Does n d (Stand ∷ GoesOn ∷ NothingThere ∷ []) a r
  Waited n d a r false = Stood n d a r

  -- ---- answers: of a ring of n slots, by who, whose pass had seen v and now w

  -- the pass looked for those who wait on a side, and named whom it called
  pub record CallAnswer (n who : ℕ) (d : RingSide) (v w : Seen T) (called : Called) : Type 0 where
    pub steps : List WaitStep
    pub how : CallSteps called steps
    pub made : Adds who (entries_on who d steps) v w
    pub all : NamesAll n d called v w

  -- its bit was set, and at a moment since then there was something for it, or the ring was closed: it waits no more
  pub record StoodOnly (n who : ℕ) (d : RingSide) (v w : Seen T) : Type 0 where
    pub stood : Seen T
    pub stands : Adds who (entries_on who d (Stand ∷ [])) v stood
    pub may_go : AtMoment n (λ s. MayGo n s d) stood w
    pub seen : Bool
    pub leaves : Adds who (entries_on who d (seen_if seen GoesOn ++ Leave ∷ [])) stood w

  -- its bit was set, and then it saw that the ring is open and that there is nothing for it: it waits; or it waits no more
  abbrev pub WaitAnswer : ℕ → ℕ → RingSide → Seen T → Seen T → Bool → Type 0
  WaitAnswer n who d v w true = Adds who (entries_on who d (Stand ∷ GoesOn ∷ NothingThere ∷ [])) v w
  WaitAnswer n who d v w false = StoodOnly n who d v w

  -- all who waited on a side were called
  abbrev pub AllAnswer : ℕ → ℕ → RingSide → Seen T → Seen T → ℕ → Type 0
  AllAnswer n who d v w mask = Adds who (entries_on who d (CallAll ∷ [])) v w × Found n d mask v w

  -- it was closed, and then all who waited to receive were called, and then all who waited to send
  pub record ClosingAnswer (n who : ℕ) (v w : Seen T) (c : Closing) : Type 0 where
    pub after_close : Seen T
    pub after_receivers : Seen T
    pub closed : CloseAnswer n who v after_close c.closed
    pub receivers : AllAnswer n who Receive after_close after_receivers c.receivers
    pub senders : AllAnswer n who Send after_receivers w c.senders
