-- What was seen of a hub, and what steps add.
use Rattle.std.specs.Prelude.{◌≡◌, ℕ, Bool, List, []}
use Rattle.channel_model.specs.declared.acts.Entry.{Entry}
use Rattle.channel_model.specs.Channels.{Shape, Channel}
use Rattle.channel_model.specs.Histories.{replay, acts_of}
use Rattle.co_base.specs.Orders.{Side}
use Rattle.worded.specs.Views.{EachUngiven}
use Rattle.worded.specs.Histories.{entries_of}
use Rattle.worded.specs.declared.view.View.{View}
use Rattle.either.specs.declared.Either.{Either}
use Rattle.joined_words.specs.Parts.{view_in}
use Rattle.joined_words.specs.Joints.{joint_who, first_part, second_part}
use Rattle.joined_words.specs.Seen.{SeenIn, seen_in, view_of}
use Rattle.joined_words.specs.Seen as steps
use Rattle.word_rules.specs.Orders.{sides_of}
use Rattle.word_rules.specs.declared.deed.Deed.{Deed}
use Rattle.word_rules.specs.declared.layout.Layout.{Layout}
use Rattle.word_rules.specs.declared.size.ForestSize.{ForestSize}
use Rattle.word_rules.specs.Words.{Fits, maker, word_count}
use Rattle.word_rules.specs.Deeds.{doer}

-- what a pass knows of its hub, and the order of all entries of the table that it has seen
abbrev pub Seen : Type 0
Seen = SeenIn Entry Layout Side

-- what a seat knows of the whole table, on which a forest may stand too
abbrev pub Known : Type 0
Known = View (Either Entry Deed) (Layout × ForestSize)

-- and of that, what is of the channels: the table's first part
unfoldable pub on_channels : Known → Seen
on_channels v = seen_in sides_of first_part v

-- a channel after what was seen
abbrev pub at_channel : List Entry → ℕ → Channel
at_channel log c = (replay log).channels c

-- whether a pass gives out tags, and which it has given out, of the channels and of both parts
abbrev pub tags_given : Seen → Bool × List ℕ × List ℕ
tags_given = steps.tags_given

-- nobody made an entry under the tag
abbrev pub NothingOf : ℕ → View Entry Layout → Type 0
NothingOf t v = acts_of t v.seen ≡ []

-- where a pass gives out tags, nobody made an entry under one that it has not given out
abbrev pub NothingUngiven : Seen → Type 0
NothingUngiven v = EachUngiven NothingOf (view_of v)

-- nobody made an entry, of either part, under this tag of the table
abbrev pub NobodyOf : ℕ → Known → Type 0
NobodyOf t v = entries_of (joint_who maker doer) t v.seen ≡ []

-- where a pass gives out tags, nobody made an entry under one that it has not given out, of either part
abbrev pub NobodyUngiven : Known → Type 0
NobodyUngiven = EachUngiven NobodyOf

-- what a seat knows of the rows: the table's second part
abbrev pub rows_beside : Known → View Deed ForestSize
rows_beside v = view_in (second_part (λ (layout : Layout). word_count layout.kinds)) v

-- others added to what was seen, and nothing under the tags of the pass
abbrev pub Sees : Seen → Seen → Type 0
Sees = steps.Sees maker

-- the entry was made after all that was seen, and is the last that was then seen
abbrev pub Makes : Seen → Entry → Seen → Type 0
Makes = steps.Makes maker

-- and right before it this word was old
abbrev pub Turns : Shape → ℕ → ℕ → Entry → Seen → Seen → Type 0
Turns shape = steps.Turns (Fits shape) maker

-- the entry was made where the word found is old, and else the word was seen
abbrev pub ExchangeAnswer : Shape → ℕ → ℕ → Entry → Seen → Seen → ℕ → Type 0
ExchangeAnswer shape = steps.ExchangeAnswer (Fits shape) maker
