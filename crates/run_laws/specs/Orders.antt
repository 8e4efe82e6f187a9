-- One order of the entries of both histories, along which each coroutine told its story.
use Rattle.std.specs.Prelude.{◌≡◌, ℕ, ◌<◌, List, []}
use Rattle.co_base.specs.Orders.{Side}
use Rattle.channel_model.specs.declared.acts.Entry.{Entry}
use Rattle.channel_model.specs.Floors.{Floor as ChannelFloor}
use Rattle.job_model.specs.declared.acts.JobEntry.{JobEntry}
use Rattle.job_model.specs.Floors.{Floor}
use Rattle.note_book.specs.declared.book.Item.{Item}
use Rattle.call_meaning.specs.Telling.{Told, items_in}
use Rattle.call_meaning.specs.Stories.{Moment}
use Rattle.call_meaning.specs.Orders.{IsOrderOf, IsTrueAlong, IsAt}
use Rattle.call_meaning.specs.Calls.{seen_by}
use Rattle.script_grammar.specs.Programs.{Program}
use Rattle.script_grammar.specs.Tags.{coroutine_count}
use Rattle.script_meaning.specs.Configs.{Config}
use Rattle.script_meaning.specs.Books.{story, book_at, Reaches, BooksOf}
use Rattle.script_meaning.specs.Polls.{Frame}

-- the book is what this coroutine noted of what it told, which was so at points of the order; it is now at x
pub record RunsAlong (p : Program) (k : ℕ) (now : Moment) (order : List Side) (book : List Item) (x : Config) : Type 0 where
  pub told : List Told
  pub written : items_in told ≡ book
  pub reaches : Reaches p k told x
  pub is_true : IsTrueAlong (story p k now) order [] [] told

-- both floors of the coroutine of this frame have seen all up to a point of the order, along which it told its story up to there
pub record StandsAlong (p : Program) (c : ChannelFloor) (j : Floor) (f : Frame) : Type 0 where
  pub point : List Side
  pub at : IsAt f.tag c j f.book point
  pub runs : RunsAlong p f.tag (seen_by c j) point f.book f.config

-- the two histories have one order, along which each coroutine told its story
pub record InOneOrder (p : Program) (books : List (List Item)) (channels : List Entry) (jobs : List JobEntry)
    (of : BooksOf p books channels jobs) : Type 0 where
  pub order : List Side
  pub whole : IsOrderOf (record { channels = channels; jobs = jobs }) order
  pub runs : (k : ℕ) → k < coroutine_count p
      → RunsAlong p k (record { channels = channels; jobs = jobs }) order (book_at k books) (of.ends_at k)
