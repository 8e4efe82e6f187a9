-- The last round: all have heard of all, and then each is polled once.
use Rattle.std.specs.Prelude.{◌≡◌, ◌≢◌, ℕ, Bool, true, false, List, [], map}
use Rattle.std.specs.List.{All}
use Rattle.note_book.specs.declared.book.Item.{Item}
use Rattle.call_meaning.specs.Telling.{items_in}
use Rattle.script_grammar.specs.Programs.{Program}
use Rattle.script_meaning.specs.declared.turn.Turn.{Turn}
use Rattle.script_meaning.specs.declared.turn.Turn.TheVariants as turn
use Rattle.script_meaning.specs.Polls.{Polled, TurnAnswer}
use Rattle.run_laws.specs.Sights.{Sight, Keeps, IsWithin, SameOf}

-- a poll that came to nothing: it noted nothing and did not answer that it was ready
pub record Rested (p : Program) (a b : Sight) : Type 0 where
  pub polled : Polled p a.channels b.channels a.jobs b.jobs (a.frame) (b.frame)
  pub none : items_in polled.told ≡ []
  pub answer : Turn
  pub said : TurnAnswer p a.channels b.channels a.jobs b.jobs (a.frame) (b.frame) polled.told answer
  pub not_ready : answer ≢ turn.Ready

-- it did something, or it rested
abbrev pub Did : Program → Sight → Sight → Bool → Type 0
Did p a b true = Unit {0}
Did p a b false = Rested p a b

-- all entries of the coroutine of s are in what the first has seen
pub record KnowsAllOf (first s : Sight) : Type 0 where
  pub past : Sight
  pub within : IsWithin past first
  pub same : SameOf s.frame.tag past s

-- the coroutine of s had seen all that the first has, when a poll of it came to nothing; it has seen more since, and did nothing
pub record HasRested (p : Program) (first s : Sight) : Type 0 where
  pub before : Sight
  pub after : Sight
  pub knew : IsWithin first before
  pub rested : Rested p before after
  pub kept : Keeps p after
  pub frame : s.frame ≡ after.frame
  pub since : IsWithin after s
  pub same : SameOf s.frame.tag before s

-- each has seen all that some sight has, which knows all entries of each
pub record AllMet {X : Type 0} (at : X → Sight) (xs : List X) : Type 0 where
  pub first : Sight
  pub seen : All (λ x. IsWithin first (at x)) xs
  pub known : All (λ x. KnowsAllOf first (at x)) xs

-- the polls of all came to nothing, since all had met
pub record AllRested {X : Type 0} (at : X → Sight) (p : Program) (xs : List X) : Type 0 where
  pub first : Sight
  pub rested : All (λ x. HasRested p first (at x)) xs
  pub known : All (λ x. KnowsAllOf first (at x)) xs

-- the tags of those, in order
abbrev pub tags_seen : {X : Type 0} → (X → Sight) → List X → List ℕ
tags_seen at xs = map (λ x. (at x).frame.tag) xs

-- the books of those, in order
abbrev pub books_seen : {X : Type 0} → (X → Sight) → List X → List (List Item)
books_seen at xs = map (λ x. (at x).frame.book) xs
