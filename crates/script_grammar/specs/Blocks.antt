-- The block of a coroutine that is open: what its lines so far open and give, and what may stand next.
use Rattle.std.specs.Prelude.{ℕ, ◌+◌, ◌*◌, ◌^◌, ◌==◌, ◌&&◌, ◌||◌, not, nat_lt, nat_le, Bool, true, false, List, [], ◌∷◌, ◌++◌, length, Option, Some, None, option_map, get_or, is_some, if◌then◌else◌}
use Rattle.std.specs.Str.{bytes_eq}
use lib.Chars.{codes}
use Rattle.script_grammar.specs.declared.instructions.Operand.{Operand}
use Rattle.script_grammar.specs.declared.instructions.Operand.TheVariants.{Number, It, Sum}
use Rattle.script_grammar.specs.declared.instructions.Launching.{Launching}
use Rattle.script_grammar.specs.declared.instructions.Launching.TheVariants.{Plain, Async, Lazy}
use Rattle.script_grammar.specs.declared.instructions.Instruction.{Instruction}
use Rattle.script_grammar.specs.declared.instructions.Instruction.TheVariants.{Send, TrySend, Receive, TryReceive, Close, CancelChannel, Yield, Launch, Start, Join, Await, Cancel, Fail, SetResult, Repeat, Each, Scope, Select, OnSend, OnReceive, End}
use Rattle.script_grammar.specs.Words.{has_items}
use Rattle.script_grammar.specs.Programs.{name_of}

-- the block so far
pub record Open : Type 0 where
  pub name : List ℕ
  pub jobs : List (List ℕ)
  -- whether each of these Jobs may be awaited
  pub awaitable : List Bool
  pub code : List Instruction
  -- of each repeat, each and scope that is open, the innermost first: how often its lines run
  pub nest : List ℕ
  -- the channels of the clauses of the select that is open, if one is
  pub clauses : Option (List ℕ)
  -- 1, and what its lines so far weigh
  pub weight : ℕ

-- ---- what every line is asked

-- a clause of a select
abbrev pub is_clause : Instruction → Bool
is_clause (OnSend c v) = true
is_clause (OnReceive c) = true
is_clause other = false

-- the end of a repeat, an each, a scope or a select
abbrev pub is_end : Instruction → Bool
is_end End = true
is_end other = false

-- a line that opens lines, which its end closes
abbrev pub opens_lines : Instruction → Bool
opens_lines (Repeat turns) = true
opens_lines (Each c) = true
opens_lines (Scope supervisor) = true
opens_lines Select = true
opens_lines other = false

-- the channel that a line names
abbrev pub channel_of : Instruction → Option ℕ
channel_of (Send c v) = Some c
channel_of (TrySend c v) = Some c
channel_of (Receive c) = Some c
channel_of (TryReceive c) = Some c
channel_of (Close c) = Some c
channel_of (CancelChannel c) = Some c
channel_of (Each c) = Some c
channel_of (OnSend c v) = Some c
channel_of (OnReceive c) = Some c
channel_of other = None

-- the block that a line launches
abbrev pub launch_of : Instruction → Option ℕ
launch_of (Launch block how job) = Some block
launch_of other = None

-- the number of the Job's name that a line uses
abbrev pub job_used : Instruction → Option ℕ
job_used (Start j) = Some j
job_used (Join j) = Some j
job_used (Await j) = Some j
job_used (Cancel j) = Some j
job_used other = None

-- the number of the name that the Job of this line gets
abbrev pub job_given : Instruction → Option ℕ
job_given (Launch p how job) = job
job_given other = None

-- a Job that is launched in this way may be awaited
abbrev pub may_await : Launching → Bool
may_await Plain = false
may_await Async = true
may_await Lazy = true

-- the Job that this line launches may be awaited
abbrev pub gives_awaitable : Instruction → Bool
gives_awaitable (Launch p how job) = may_await how
gives_awaitable other = false

-- ---- what a line adds

-- what is there, as a list
abbrev pub listed : {A : Type 0} → Option A → List A
listed None = []
listed (Some x) = x ∷ []

-- the turns of an `each`: more than any limit
abbrev pub without_end : ℕ
without_end = 16001

-- how often the lines run that this line opens
abbrev pub turns : Instruction → Option ℕ
turns (Repeat n) = Some n
turns (Each c) = Some without_end
turns (Scope supervisor) = Some 1
turns other = None

-- without the innermost
abbrev pub but_first : List ℕ → List ℕ
but_first [] = []
but_first (n ∷ nest) = nest

-- an end closes the select that is open, or else the innermost line that opened others
abbrev pub after_end : Option (List ℕ) → List ℕ → List ℕ
after_end None nest = but_first nest
after_end (Some cs) nest = nest

-- what is open after a line, outside selects
abbrev pub nest_after : Option (List ℕ) → List ℕ → Instruction → List ℕ
nest_after clauses nest End = after_end clauses nest
nest_after clauses nest x = listed (turns x) ++ nest

-- the clauses of the select that is open after a line
abbrev pub clauses_after : Option (List ℕ) → Instruction → Option (List ℕ)
clauses_after clauses Select = Some []
clauses_after clauses (OnSend c v) = option_map (λ cs. cs ++ c ∷ []) clauses
clauses_after clauses (OnReceive c) = option_map (λ cs. cs ++ c ∷ []) clauses
clauses_after clauses End = None
clauses_after clauses other = clauses

-- how often lines run that stand within lines that run so often
abbrev pub product : List ℕ → ℕ
product [] = 1
product (n ∷ ns) = n * product ns

-- what a line weighs that runs once, if the blocks before this one have these weights
abbrev pub own_weight : List ℕ → Instruction → ℕ
own_weight weights (Launch p how job) = get_or weights p 0
own_weight weights (Scope supervisor) = 1
own_weight weights other = 0

-- the block with one more line, which gives this name to its Job
abbrev pub with_line : List ℕ → Instruction → Option (List ℕ) → Open → Open
with_line weights x job b = record {
  name = b.name;
  jobs = b.jobs ++ listed job;
  awaitable = if is_some job then b.awaitable ++ gives_awaitable x ∷ [] else b.awaitable;
  code = b.code ++ x ∷ [];
  nest = nest_after b.clauses b.nest x;
  clauses = clauses_after b.clauses x;
  weight = b.weight + product b.nest * own_weight weights x;
}

-- the block after its first line
abbrev pub opened : List ℕ → Open
opened name = record { name = name; jobs = []; awaitable = []; code = []; nest = []; clauses = None; weight = 1 }

-- ---- what may stand next

-- the name of the coroutine that is the root's body
abbrev pub is_main : List ℕ → Bool
is_main name = bytes_eq name (codes "main")

-- a number fits 32 bits
abbrev pub is_operand : Operand → Bool
is_operand (Number v) = nat_lt v (2 ^ 32)
is_operand It = true
is_operand Sum = true

-- one of these numbers
abbrev pub is_among : ℕ → List ℕ → Bool
is_among c [] = false
is_among c (d ∷ ds) = (d == c) || is_among c ds

-- in the select that is open no clause names this channel
abbrev pub is_new : ℕ → Option (List ℕ) → Bool
is_new c None = false
is_new c (Some cs) = not (is_among c cs)

-- in a select stand clauses and, after the first, its end; elsewhere no clause, and an end only if something is open
abbrev pub stands : Option (List ℕ) → List ℕ → Instruction → Bool
stands None nest x = not (is_clause x) && (has_items nest || not (is_end x))
stands (Some cs) nest x = is_clause x || (is_end x && has_items cs)

-- after n channels and these blocks, the numbers in a line lie in their ranges, and what it names is declared
abbrev pub fits : ℕ → List (List ℕ) → Open → Instruction → Bool
fits n blocks b (Send c v) = nat_lt c n && is_operand v
fits n blocks b (TrySend c v) = nat_lt c n && is_operand v
fits n blocks b (Receive c) = nat_lt c n
fits n blocks b (TryReceive c) = nat_lt c n
fits n blocks b (Close c) = nat_lt c n
fits n blocks b (CancelChannel c) = nat_lt c n
fits n blocks b Yield = true
fits n blocks b (Launch p how job) = nat_lt p (length blocks) && not (is_main (name_of blocks p))
fits n blocks b (Start j) = nat_lt j (length b.jobs)
fits n blocks b (Join j) = nat_lt j (length b.jobs)
fits n blocks b (Await j) = nat_lt j (length b.jobs) && get_or b.awaitable j false
fits n blocks b (Cancel j) = nat_lt j (length b.jobs)
fits n blocks b (Fail code) = nat_lt code (2 ^ 32)
fits n blocks b (SetResult v) = is_operand v
fits n blocks b (Repeat turns) = nat_le 1 turns && nat_le turns 1000000
fits n blocks b (Each c) = nat_lt c n
fits n blocks b (Scope supervisor) = true
fits n blocks b Select = true
fits n blocks b (OnSend c v) = nat_lt c n && (is_new c b.clauses && is_operand v)
fits n blocks b (OnReceive c) = nat_lt c n && is_new c b.clauses
fits n blocks b End = true
