-- The words of each line of a script, written in full or with the parts left out that may be.
use Rattle.std.specs.Prelude.{ℕ, Bool, true, false, List, [], ◌∷◌, ◌++◌, Option, Some, None}
use Rattle.std.specs.Fmt.{decimal}
use lib.Chars.{codes}
use Rattle.channel_model.specs.declared.acts.Kind.{Kind}
use Rattle.channel_model.specs.declared.acts.Kind.TheVariants.{Rendezvous, Buffered, Unlimited, Conflated, DropOldest, DropLatest, Signal}
use Rattle.script_grammar.specs.declared.instructions.Operand.{Operand}
use Rattle.script_grammar.specs.declared.instructions.Operand.TheVariants.{Number, It, Sum}
use Rattle.script_grammar.specs.declared.instructions.Launching.{Launching}
use Rattle.script_grammar.specs.declared.instructions.Launching.TheVariants.{Plain, Async, Lazy}
use Rattle.script_grammar.specs.declared.instructions.Instruction.{Instruction}
use Rattle.script_grammar.specs.declared.instructions.Instruction.TheVariants.{Send, TrySend, Receive, TryReceive, Close, CancelChannel, Yield, Launch, Start, Join, Await, Cancel, Fail, SetResult, Repeat, Each, Scope, Select, OnSend, OnReceive, End}
use Rattle.script_grammar.specs.Programs.{Declared, name_of}

-- a part of a line that may be left out
abbrev pub part : Bool → List (List ℕ) → List (List ℕ)
part false words = []
part true words = words

-- ---- outside blocks

-- the words of a kind, with its capacity or without; no line declares a channel of the kind Signal
abbrev pub kind_words : Kind → Bool → List (List ℕ)
kind_words Rendezvous full = codes "rendezvous" ∷ []
kind_words (Buffered k) full = codes "buffered" ∷ part full (decimal k ∷ [])
kind_words Unlimited full = codes "unlimited" ∷ []
kind_words Conflated full = codes "conflated" ∷ []
kind_words (DropOldest k) full = codes "dropoldest" ∷ decimal k ∷ []
kind_words (DropLatest k) full = codes "droplatest" ∷ decimal k ∷ []
kind_words Signal full = []

-- `script 2`, the first line of a script of version 2
abbrev pub version_words : List (List ℕ)
version_words = codes "script" ∷ codes "2" ∷ []

-- `channel C KIND [K] [places N]`
abbrev pub channel_words : Declared → Bool → Bool → List (List ℕ)
channel_words c capacity places =
    codes "channel" ∷ c.name ∷ (kind_words c.kind capacity ++ part places (codes "places" ∷ decimal c.places ∷ []))

-- `coroutine P`
abbrev pub coroutine_words : List ℕ → List (List ℕ)
coroutine_words p = codes "coroutine" ∷ p ∷ []

-- `spawn P [N]`
abbrev pub spawn_words : List ℕ → ℕ → Bool → List (List ℕ)
spawn_words p n count = codes "spawn" ∷ p ∷ part count (decimal n ∷ [])

-- ---- in a block

-- the names that a line of a block may use
pub record Names : Type 0 where
  pub channels : List (List ℕ)
  pub blocks : List (List ℕ)
  pub jobs : List (List ℕ)

-- the word of a value: a number, `it` or `sum`
abbrev pub operand_word : Operand → List ℕ
operand_word (Number v) = decimal v
operand_word It = codes "it"
operand_word Sum = codes "sum"

-- the first word of a line that launches
abbrev pub launch_word : Launching → List ℕ
launch_word Plain = codes "launch"
launch_word Async = codes "async"
launch_word Lazy = codes "lazy"

-- the first word of a scope, or of a supervisor scope
abbrev pub scope_word : Bool → List ℕ
scope_word false = codes "scope"
scope_word true = codes "supervisor"

-- the words that name the Job of a line that launches
abbrev pub as_words : List (List ℕ) → Option ℕ → List (List ℕ)
as_words jobs None = []
as_words jobs (Some j) = codes "as" ∷ name_of jobs j ∷ []

-- each line of a block but its last `end` has one spelling
abbrev pub line_words : Names → Instruction → List (List ℕ)
line_words n (Send c v) = codes "send" ∷ name_of n.channels c ∷ operand_word v ∷ []
line_words n (TrySend c v) = codes "trysend" ∷ name_of n.channels c ∷ operand_word v ∷ []
line_words n (Receive c) = codes "receive" ∷ name_of n.channels c ∷ []
line_words n (TryReceive c) = codes "tryreceive" ∷ name_of n.channels c ∷ []
line_words n (Close c) = codes "close" ∷ name_of n.channels c ∷ []
line_words n (CancelChannel c) = codes "cancelchannel" ∷ name_of n.channels c ∷ []
line_words n Yield = codes "yield" ∷ []
line_words n (Launch p how job) = launch_word how ∷ name_of n.blocks p ∷ as_words n.jobs job
line_words n (Start j) = codes "start" ∷ name_of n.jobs j ∷ []
line_words n (Join j) = codes "join" ∷ name_of n.jobs j ∷ []
line_words n (Await j) = codes "await" ∷ name_of n.jobs j ∷ []
line_words n (Cancel j) = codes "cancel" ∷ name_of n.jobs j ∷ []
line_words n (Fail code) = codes "fail" ∷ decimal code ∷ []
line_words n (SetResult v) = codes "result" ∷ operand_word v ∷ []
line_words n (Repeat turns) = codes "repeat" ∷ decimal turns ∷ []
line_words n (Each c) = codes "each" ∷ name_of n.channels c ∷ []
line_words n (Scope supervisor) = scope_word supervisor ∷ []
line_words n Select = codes "select" ∷ []
line_words n (OnSend c v) = codes "onsend" ∷ name_of n.channels c ∷ operand_word v ∷ []
line_words n (OnReceive c) = codes "onreceive" ∷ name_of n.channels c ∷ []
line_words n End = codes "end" ∷ []
