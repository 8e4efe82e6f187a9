-- Which texts are the lines of a history.
use Rattle.std.specs.Prelude.{ℕ, ◌+◌, ◌==◌, length, if◌then◌else◌, List, [], ◌∷◌, ◌++◌, Option, Some, None, Result, Ok, Err}
use Rattle.channel_model.specs.declared.acts.ChannelNote.{ChannelNote}
use Rattle.job_model.specs.declared.acts.JobNote.{JobNote}
use Rattle.note_book.specs.declared.book.Item.{Item}
use Rattle.note_book.specs.declared.book.Item.TheVariants.{Channel, Job}
use Rattle.report_reader.specs.Reports.{or_none}
use Rattle.report_reader.specs.Words.{lines_of, words_of}
use Rattle.history_text.specs.declared.line.Line.{Line}
use Rattle.history_text.specs.Words.{tag_at}
use Rattle.history_text.specs.Items.{item_by}
use Rattle.history_text.specs.JobItems.{job_item_by}

-- the item of a channel, or else that of a Job; no words are both
abbrev pub either_item : Option ChannelNote → Option JobNote → Option Item
either_item (Some note) job = Some (Channel note)
either_item None (Some note) = Some (Job note)
either_item None None = None

abbrev pub line_with : Option ℕ → Option Item → Option Line
line_with None item = None
line_with (Some who) None = None
line_with (Some who) (Some item) = Some (record { who = who; item = item })

-- the line that these words are: a tag, and an item
abbrev pub line_by : List (List ℕ) → List (List ℕ) → Option Line
line_by names [] = None
line_by names (tag ∷ []) = None
line_by names (tag ∷ (verb ∷ words)) = line_with (tag_at tag) (either_item (item_by names verb words) (job_item_by verb words))

-- the line of a text without line feeds: one blank stands between words
abbrev pub line_of : List (List ℕ) → List ℕ → Option Line
line_of names text = line_by names (words_of text)

-- these lines, and those that are left, the first with the number n; or the number of the first that is none
unfoldable pub lines_from : List (List ℕ) → ℕ → List Line → List (List ℕ) → Result (List Line) ℕ
lines_from names n before [] = Ok before
lines_from names n before (text ∷ more) =
    or_none (line_of names text) (Err n) (λ line. lines_from names (n + 1) (before ++ line ∷ []) more)

-- the lines of a history of channels with these names and of Jobs, or the number of the first that is none
abbrev pub history_of : List (List ℕ) → List ℕ → Result (List Line) ℕ
history_of names text = if length text == 0 then Ok [] else lines_from names 1 [] (lines_of text)
