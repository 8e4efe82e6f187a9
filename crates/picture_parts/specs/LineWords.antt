-- The words of a line, and which lines are bookkeeping of Jobs.
use Rattle.std.specs.Prelude.{ℕ, List, [], ◌∷◌, get_or, Bool, false, ◌==◌, ◌&&◌, ◌||◌}
use Rattle.std.specs.Str.{bytes_eq}
use lib.Chars.{codes}
use Rattle.report_reader.specs.Words.{words_of}

-- the word of a line with this number, counted from 0; the first is the tag of its coroutine
abbrev pub word : ℕ → List ℕ → List ℕ
word n line = get_or (words_of line) n []

-- the second word of a line is this
abbrev pub tells : List ℕ → List ℕ → Bool
tells verb line = bytes_eq (word 1 line) verb

-- the channel is the done channel of a Job
abbrev pub is_done_channel : List ℕ → Bool
is_done_channel [] = false
is_done_channel (b ∷ rest) = b == 64

-- the line tells that a Job was attached, started, ended or removed, or that its done channel was closed
abbrev pub is_bookkeeping : List ℕ → Bool
is_bookkeeping line =
    tells (codes "attach") line
    || (tells (codes "start") line
    || (tells (codes "endbody") line
    || (tells (codes "finish") line
    || (tells (codes "gone") line
    || (tells (codes "close") line && is_done_channel (word 2 line))))))
