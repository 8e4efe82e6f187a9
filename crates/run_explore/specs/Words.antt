-- Which words are accepted, and what they ask for.
use Rattle.std.specs.Prelude.{ℕ, ◌<◌, ◌∷◌, ◌++◌, [], List, nat_lt, ◌==◌, Option, Some, None, option_map, option_and_then, if◌then◌else◌}
use Rattle.std.specs.List.{slice_split}
use Rattle.std.specs.Str.{bytes_eq}
use lib.Chars.{codes}
use Rattle.clap.specs.Words.{App, Row, first_of, new_app, with_rule}
use Rattle.program_input.specs.Words.{matches_by, option}
use Rattle.report_reader.specs.Words.{value_at}
use Rattle.end_search.specs.declared.answers.Limit.{Limit}
use Rattle.end_search.specs.declared.wanted.Tell.{Tell}
use Rattle.end_search.specs.declared.wanted.Tell.TheVariants as tell
use Rattle.end_search.specs.declared.wanted.Wanted.{Wanted}
use Rattle.end_search.specs.declared.wanted.Wanted.TheVariants as wanted
use Rattle.run_explore.specs.declared.words.Asked.{Asked}
use Rattle.run_explore.specs.declared.words.Asked.TheVariants as asked

-- ---- what a call asks for

-- the ends of a script, the report of the end with a number, or the report of the run in an order
pub data Request : Type 0 where
  ends : Limit → Request
  report_of : ℕ → Limit → Request
  in_order : List ℕ → Request

-- what is asked for, with the tags of an order as a list
abbrev pub request_of : Asked → Request
request_of (asked.Ends limit) = ends limit
request_of (asked.Report number limit) = report_of number limit
request_of (asked.Order order) = in_order order.items

-- ---- the command line, as clap defines it

-- run_explore [--find WHAT] [--tell WHAT] [--states N] [--report N] [--order T,T..] [--workers N]
abbrev pub explore_line : App
explore_line =
    with_rule
    (with_rule
    (with_rule (with_rule (with_rule (with_rule (new_app (codes "run_explore")) (option (codes "find"))) (option (codes "tell")))
    (option (codes "states"))) (option (codes "report"))) (option (codes "order"))) (option (codes "workers"))

-- ---- the values

-- the kind of end that a word names
abbrev pub wanted_of : List ℕ → Option Wanted
wanted_of word =
    if bytes_eq word (codes "unfinished") then Some wanted.Unfinished
    else if bytes_eq word (codes "failed") then Some wanted.Failed
    else if bytes_eq word (codes "cancelled") then Some wanted.Cancelled
    else if bytes_eq word (codes "undelivered") then Some wanted.Undelivered
    else if bytes_eq word (codes "held") then Some wanted.Held
    else if bytes_eq word (codes "refused") then Some wanted.Refused
    else if bytes_eq word (codes "other") then Some wanted.Other
    else None

-- which ends are looked for, all where nothing is said
abbrev pub find_of : Option (List ℕ) → Option (Option Wanted)
find_of None = Some None
find_of (Some word) = option_map Some (wanted_of word)

-- by what two ends are told apart, by all where nothing is said
abbrev pub tell_of : Option (List ℕ) → Option Tell
tell_of None = Some tell.All
tell_of (Some word) =
    if bytes_eq word (codes "status") then Some tell.Status
    else if bytes_eq word (codes "jobs") then Some tell.Jobs
    else if bytes_eq word (codes "all") then Some tell.All
    else None

-- a number that is not 0
abbrev pub if_some : ℕ → Option ℕ
if_some n = if nat_lt 0 n then Some n else None

abbrev pub number_at : List ℕ → Option ℕ
number_at word = option_and_then if_some (value_at word)

-- how many states are looked at, 1,000,000 where nothing is said
abbrev pub states_of : Option (List ℕ) → Option ℕ
states_of None = Some 1000000
states_of (Some word) = number_at word

-- how many workers there may be
abbrev pub if_workers : ℕ → Option ℕ
if_workers n = if nat_lt n 17 then Some n else None

abbrev pub workers_at : List ℕ → Option ℕ
workers_at word = option_and_then if_workers (number_at word)

-- how many workers look at states, one where nothing is said
abbrev pub workers_of : Option (List ℕ) → Option ℕ
workers_of None = Some 1
workers_of (Some word) = workers_at word

-- a tag has 16 bits
abbrev pub if_tag : ℕ → Option ℕ
if_tag n = if nat_lt n 65536 then Some n else None

abbrev pub tag_at : List ℕ → Option ℕ
tag_at word = option_and_then if_tag (value_at word)

-- the tags that these words are, if each is one
abbrev pub tags_at : List (List ℕ) → Option (List ℕ)
tags_at [] = Some []
tags_at (word ∷ words) = option_and_then (λ tag. option_map (λ tags. tag ∷ tags) (tags_at words)) (tag_at word)

-- the tags of a word, with commas between them
abbrev pub tags_of : List ℕ → Option (List ℕ)
tags_of word = tags_at (slice_split (λ b. b == 44) word)

-- ---- what is asked for

-- what is looked for, how far, and by how many workers
abbrev pub limit_with : Option (Option Wanted) → Option Tell → Option ℕ → Option ℕ → Option Limit
limit_with None tell states workers = None
limit_with (Some find) None states workers = None
limit_with (Some find) (Some tell) None workers = None
limit_with (Some find) (Some tell) (Some states) None = None
limit_with (Some find) (Some tell) (Some states) (Some workers) =
    Some (record { wanted = find; tell = tell; states = states; workers = workers })

abbrev pub limit_in : List Row → Option Limit
limit_in rows =
    limit_with (find_of (first_of (codes "find") rows)) (tell_of (first_of (codes "tell") rows))
    (states_of (first_of (codes "states") rows)) (workers_of (first_of (codes "workers") rows))

-- within this limit, by the values of --order and --report, of which one at most is given
abbrev pub asked_within : Limit → Option (List ℕ) → Option (List ℕ) → Option Request
asked_within limit None None = Some (ends limit)
asked_within limit None (Some number) = option_map (λ n. report_of n limit) (number_at number)
asked_within limit (Some order) None = option_map in_order (tags_of order)
asked_within limit (Some order) (Some number) = None

-- by the values of the options
abbrev pub asked_by : List Row → Option Request
asked_by rows = option_and_then (λ limit. asked_within limit (first_of (codes "order") rows) (first_of (codes "report") rows))
    (limit_in rows)

-- by the words, of which the first is the program's name
abbrev pub asked_of : List (List ℕ) → Option Request
asked_of words = option_and_then asked_by (matches_by explore_line words)
