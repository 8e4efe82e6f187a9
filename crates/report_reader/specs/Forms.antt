-- The forms of the lines of a report.
use Rattle.std.specs.Prelude.{ℕ, List, [], ◌∷◌, ◌++◌, Bool, true, false, ◌==◌, ◌&&◌, Option, Some, None, option_map, if◌then◌else◌}
use Rattle.std.specs.Option.{is_some}
use Rattle.std.specs.List.{slice_split}
use Rattle.std.specs.Str.{bytes_eq}
use lib.Chars.{codes}
use Rattle.report_reader.specs.Words.{value_at, is_name, words_of}
use Rattle.report_reader.specs.declared.line.Said.{Said}
use Rattle.report_reader.specs.declared.line.Said.TheVariants.{Note, Job, Element}

-- ---- the parts of a form

-- a channel: its name, or `@` and a row for the done channel of a Job
abbrev pub is_channel : List ℕ → Bool
is_channel [] = false
is_channel (b ∷ rest) = if b == 64 then is_some (value_at rest) else is_name (b ∷ rest)

-- these are a channel and a place
abbrev pub are_channel_and_place : List (List ℕ) → Bool
are_channel_and_place [] = false
are_channel_and_place (c ∷ []) = false
are_channel_and_place (c ∷ (place ∷ [])) = is_channel c && is_some (value_at place)
are_channel_and_place (c ∷ (place ∷ (other ∷ more))) = false

-- a wait: a channel and a place, with a point between them
abbrev pub is_wait : List ℕ → Bool
is_wait word = are_channel_and_place (slice_split (λ b. b == 46) word)

-- the word may stand where this part of a form stands: C is a channel, W a wait, N a number, and any other part itself
abbrev pub stands_for : List ℕ → List ℕ → Bool
stands_for part word =
    if bytes_eq part (codes "C") then is_channel word
    else if bytes_eq part (codes "W") then is_wait word
    else if bytes_eq part (codes "N") then is_some (value_at word)
    else bytes_eq part word

-- the words have this form
abbrev pub have_form : List (List ℕ) → List (List ℕ) → Bool
have_form [] [] = true
have_form [] (word ∷ words) = false
have_form (part ∷ parts) [] = false
have_form (part ∷ parts) (word ∷ words) = stands_for part word && have_form parts words

-- the words have one of these forms
abbrev pub have_one_of : List (List ℕ) → List (List ℕ) → Bool
have_one_of [] words = false
have_one_of (form ∷ forms) words = if have_form (words_of form) words then true else have_one_of forms words

-- a list of forms, with line feeds between them
abbrev pub forms_in : List ℕ → List (List ℕ)
forms_in text = slice_split (λ b. b == 10) text

-- ---- the forms

-- what stands behind the tag in a line of a book: acts and notes on channels, then those on Jobs
abbrev pub note_forms : List ℕ
note_forms =
    codes "hand C N N\nput C N N\noffer C N N W N\nawait C N W N\ntake C N N\nadmit C N\ndrop C N N\n"
    ++ codes "spurn C N N\nclose C N\nvoid C\ndrain C N N\nwakeclosed C N\nwithdraw W cancelled\nwithdraw W revoked\nsettle W value N N\n"
    ++ codes "settle W sent N\nsettle W closed N N\nsettle W cancelled\nsettle W undelivered N\nsendclosed C N N\n"
    ++ codes "trysendclosed C N N\nreceiveclosed C N\ntryreceiveclosed C N\nalreadyclosed C N\nfull C N\nempty C\n"
    ++ codes "spent C\npartner C N\nresolved W\nlate W\n"
    ++ codes "attach N to N tag N plain\nattach N to N tag N plain cancelled\nattach N to N tag N lazy\n"
    ++ codes "attach N to N tag N lazy cancelled\nattach N to N tag N scope\nattach N to N tag N scope cancelled\n"
    ++ codes "attach N to N tag N supervisor\nattach N to N tag N supervisor cancelled\nstart N\nendbody N N\n"
    ++ codes "cancel N request\ncancel N parent\ncancel N child N\ncancel N own N\nfinish N completed N\n"
    ++ codes "finish N cancelled\nfinish N failed N\ngone N\nsaw N\nsawend N completed N\nsawend N cancelled\n"
    ++ codes "sawend N failed N\nfail N\nnorow\nused\nparentended"

-- what stands behind the row in the line of a Job: how it ended, or how far it is
abbrev pub job_forms : List ℕ
job_forms = codes "completed N\ncancelled\nfailed N\nnew\nactive\ncompleting\ncancelling"

-- what stands behind the first word in the line of an element that nobody received
abbrev pub element_forms : List ℕ
element_forms = codes "C N N held\nC N N undelivered\nC N N dropped\nC N N spurned\nC N N withdrawn"

-- ---- what a line is

abbrev pub said_of_job : List (List ℕ) → Option Said
said_of_job [] = None
said_of_job (row ∷ words) = if have_one_of (forms_in job_forms) words then option_map (λ r. Job r) (value_at row) else None

abbrev pub said_of_element : List (List ℕ) → Option Said
said_of_element words = if have_one_of (forms_in element_forms) words then Some Element else None

abbrev pub said_of_note : List ℕ → List (List ℕ) → Option Said
said_of_note tag words = if have_one_of (forms_in note_forms) words then option_map (λ t. Note t) (value_at tag) else None

abbrev pub said_of_other : List ℕ → List (List ℕ) → Option Said
said_of_other word words = if bytes_eq word (codes "element") then said_of_element words else said_of_note word words

unfoldable pub said_from : List ℕ → List (List ℕ) → Option Said
said_from word words = if bytes_eq word (codes "job") then said_of_job words else said_of_other word words

-- what a line of these words is, if it is one of a report
abbrev pub said_by : List (List ℕ) → Option Said
said_by [] = None
said_by (word ∷ words) = said_from word words

-- what a line is, if it is one of a report: one blank stands between words
abbrev pub said_of : List ℕ → Option Said
said_of line = said_by (words_of line)
