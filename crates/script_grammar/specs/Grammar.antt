-- What the words of a line say, and what a text spells.
use Rattle.std.specs.Prelude.{◌≡◌, ℕ, ◌≤◌, ◌==◌, ◌&&◌, ◌||◌, not, nat_lt, nat_le, List, [], ◌∷◌, length, Bool, true, false, Option, Some, None}
use Rattle.std.specs.List.{list_all, list_any}
use Rattle.std.specs.Str.{bytes_eq}
use lib.Chars.{codes}
use Rattle.channel_model.specs.declared.acts.Kind.{Kind}
use Rattle.channel_model.specs.declared.acts.Kind.TheVariants.{Buffered, DropOldest, DropLatest, Signal}
use Rattle.script_grammar.specs.Programs.{Declared, Block, Program, channel_names, block_names, name_of, places_in}
use Rattle.script_grammar.specs.Words.{all_plain, lines_of, with_words}
use Rattle.script_grammar.specs.Lines.{version_words, channel_words, coroutine_words, spawn_words, line_words}
use Rattle.script_grammar.specs.Blocks.{Open, stands, fits, is_main, job_given}
use Rattle.script_grammar.specs.Reads.{Read, Form, version_is, channel_is, coroutine_is, spawn_is, line_is, end_is, start, after, names_for, load, program_so_far}

-- ---- names

abbrev pub is_lower : ℕ → Bool
is_lower b = nat_le 97 b && nat_le b 122

-- a lower-case letter, a digit or _
abbrev pub is_name_byte : ℕ → Bool
is_name_byte b = is_lower b || ((nat_le 48 b && nat_le b 57) || b == 95)

-- 1 to 16 characters: a lower-case letter, then lower-case letters, digits or _
abbrev pub is_name : List ℕ → Bool
is_name [] = false
is_name (b ∷ rest) = is_lower b && (list_all is_name_byte rest && nat_le (length rest) 15)

-- a name that none of these is
abbrev pub is_fresh : List (List ℕ) → List ℕ → Bool
is_fresh names name = is_name name && not (list_any (λ x. bytes_eq x name) names)

-- the line gives the next of the open block's Job names, which is this one, or none
abbrev pub names_job : List (List ℕ) → Option ℕ → Option (List ℕ) → Bool
names_job jobs None None = true
names_job jobs (Some j) (Some name) = (j == length jobs) && is_fresh jobs name
names_job jobs given named = false

-- ---- ranges

-- a capacity is 1 to 65,535
abbrev pub is_capacity : ℕ → Bool
is_capacity k = nat_le 1 k && nat_le k 65535

-- the capacity of a buffered channel whose line gives none
abbrev pub default_capacity : ℕ
default_capacity = 64

-- the number of places of a channel whose line gives none
abbrev pub default_places : ℕ
default_places = 16384

-- a kind that a script of this version may declare
abbrev pub is_kind : ℕ → Kind → Bool
is_kind version (Buffered k) = is_capacity k
is_kind version (DropOldest k) = is_capacity k
is_kind version (DropLatest k) = (version == 2) && is_capacity k
is_kind version Signal = false
is_kind version other = true

-- a number of places is 1 to 1,048,576
abbrev pub is_places : ℕ → Bool
is_places n = nat_le 1 n && nat_le n 1048576

-- the capacity of a buffered channel may be left out where it is the usual one
abbrev pub has_capacity : Kind → Bool → Bool
has_capacity (Buffered k) false = k == default_capacity
has_capacity kind full = true

-- another number may be left out where it is the usual one
abbrev pub has_number : ℕ → ℕ → Bool → Bool
has_number usual n false = n == usual
has_number usual n true = true

-- a channel's kind and number of places lie in their ranges, in a script of this version
abbrev pub is_declared : ℕ → Declared → Bool
is_declared version c = is_kind version c.kind && is_places c.places

-- a spawn of 1 to 16,000 instances of one of these blocks that is not main
abbrev pub is_spawn : List (List ℕ) → ℕ × ℕ → Bool
is_spawn blocks s =
    (nat_lt s.0 (length blocks) && not (is_main (name_of blocks s.0)))
    && (nat_le 1 s.1 && nat_le s.1 16000)

-- ---- lines

-- nothing is open in the block
abbrev pub IsClosed : Open → Type 0
IsClosed b = (b.nest ≡ []) × (b.clauses ≡ None)

-- the words of a whole line say this, after what the lines before it said
abbrev pub Says : Read → List (List ℕ) → Form → Type 0
Says s words version_is = (s ≡ start) × (words ≡ version_words)
Says s words (channel_is c) =
    (capacity places : Bool)
    × (s.current ≡ None)
    × (words ≡ channel_words c capacity places)
    × (is_fresh (channel_names s.channels) c.name ≡ true)
    × (is_declared s.version c ≡ true)
    × (has_capacity c.kind capacity ≡ true)
    × (has_number default_places c.places places ≡ true)
Says s words (coroutine_is p) = (s.current ≡ None) × (words ≡ coroutine_words p) × (is_fresh (block_names s.blocks) p ≡ true)
Says s words (spawn_is i n) =
    (count : Bool)
    × (s.current ≡ None)
    × (words ≡ spawn_words (name_of (block_names s.blocks) i) n count)
    × (is_spawn (block_names s.blocks) (i, n) ≡ true)
    × (has_number 1 n count ≡ true)
Says s words (line_is x job) =
    (b : Open)
    × (s.current ≡ Some b)
    × (words ≡ line_words (names_for s b job) x)
    × (stands b.clauses b.nest x ≡ true)
    × (fits (length s.channels) (block_names s.blocks) b x ≡ true)
    × (names_job b.jobs (job_given x) job ≡ true)
Says s words end_is = (b : Open) × (s.current ≡ Some b) × (words ≡ codes "end" ∷ []) × IsClosed b

-- ---- limits

-- a select that is open has few clauses
abbrev pub FewClauses : Option (List ℕ) → Type 0
FewClauses None = Unit {0}
FewClauses (Some cs) = length cs ≤ 7

-- at most 8 lines are open within one another, and the block weighs no more than a run has Jobs
abbrev pub IsWithin : Option Open → Type 0
IsWithin None = Unit {0}
IsWithin (Some b) = (length b.nest ≤ 8) × FewClauses b.clauses × (b.weight ≤ 16000)

-- the script so far is within the limits
pub record Within (s : Read) : Type 0 where
  pub channels : length s.channels ≤ 256
  pub places : places_in s.channels ≤ 4194304
  pub current : IsWithin s.current
  pub load : load s ≤ 16000

-- ---- texts

-- the words of all lines say, one after the other, what leads from s to t
abbrev pub SayAll : Read → List (List (List ℕ)) → Read → Type 0
SayAll s [] t = s ≡ t
SayAll s (words ∷ more) t = (form : Form) × Says s words form × Within (after form s) × SayAll (after form s) more t

-- one of these blocks is main
abbrev pub has_main : List Block → Bool
has_main blocks = list_any (λ b. is_main b.name) blocks

-- the text spells the program: it has at most 1,048,576 bytes, its lines say one after the other what leads to the program, no
-- block is open at the end, and there is a main
pub record Spells (bytes : List ℕ) (p : Program) : Type 0 where
  pub short : length bytes ≤ 1048576
  pub plain : list_all all_plain (lines_of bytes) ≡ true
  pub last : Read
  pub said : SayAll start (with_words (lines_of bytes)) last
  pub closed : last.current ≡ None
  pub main : has_main last.blocks ≡ true
  pub program : program_so_far last ≡ p
