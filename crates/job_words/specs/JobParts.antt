-- The part of a table of channels and Jobs that a forest stands on.
use Rattle.std.specs.Prelude.{◌≡◌, ℕ, ◌^◌, ◌<◌}
use Rattle.atomic_table.specs.Table.{State}
use Rattle.either.specs.declared.Either.{Either}
use Rattle.channel_model.specs.declared.acts.Entry.{Entry}
use Rattle.channel_model.specs.Histories.{Legal}
use Rattle.worded.specs.declared.view.View.{View}
use Rattle.worded.specs.Histories.{HasOneHistory}
use Rattle.joined_words.specs.Parts.{Part}
use Rattle.joined_words.specs.Seen.{seen_in}
use Rattle.joined_words.specs.Joints.{IsJointLegal, JointFits, joint_who, joint_size, second_part}
use Rattle.word_rules.specs.declared.layout.Layout.{Layout}
use Rattle.word_rules.specs.declared.size.ForestSize.{ForestSize}
use Rattle.word_rules.specs.declared.deed.Deed.{Deed}
use Rattle.word_rules.specs.Deeds.{shape_of, IsDone, Fits, doer, word_count}
use Rattle.word_rules.specs.Orders.{sides_of}
use Rattle.word_rules.specs.Words as cells
use Rattle.job_words.specs.Passes.{Seen}

-- how many words the channels have
abbrev pub channel_words : Layout → ℕ
channel_words layout = cells.word_count layout.kinds

-- the words behind those of the channels, and the deeds
abbrev pub job_part : Part (Either Entry Deed) (Layout × ForestSize) Deed ForestSize
job_part = second_part channel_words

-- what a seat knows of the Jobs, and the order of all entries that it has seen
abbrev pub jobs_in : View (Either Entry Deed) (Layout × ForestSize) → Seen
jobs_in v = seen_in sides_of job_part v

-- how many words the table has
abbrev pub table_words : Layout × ForestSize → ℕ
table_words = joint_size channel_words word_count

-- what holds of the table between any two steps: one history of entries of both
abbrev pub HasBoth : Layout × ForestSize → {S : Type 0} → State S (View (Either Entry Deed) (Layout × ForestSize)) → Type 0
HasBoth key s =
    HasOneHistory (IsJointLegal (λ layout. Legal layout.kinds) (λ size. IsDone (shape_of size)) key)
    (JointFits (λ layout. cells.Fits layout.kinds) channel_words Fits word_count key)
    (joint_who cells.maker doer)
    (table_words key) s

-- the table has the words of both, no more than a number of 64 bits can tell; a forest keeps how large it is, and where its words begin
pub record IsPlaced (words : ℕ) (key : Layout × ForestSize) (size : ForestSize) (first : ℕ) : Type 0 where
  pub wide : words ≡ table_words key
  pub few : table_words key < 2 ^ 64
  pub same : key.1 ≡ size
  pub begins : first ≡ job_part.first key
