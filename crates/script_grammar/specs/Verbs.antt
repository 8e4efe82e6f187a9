-- First words of the lines of a block.
use Rattle.std.specs.Prelude.{ℕ, List, [], ◌∷◌, Option, Some, None, if◌then◌else◌}
use Rattle.std.specs.Str.{bytes_eq}
use lib.Chars.{codes}
use Rattle.script_grammar.specs.declared.verbs.Verb.{Verb}
use Rattle.script_grammar.specs.declared.verbs.Verb.TheVariants.{Send, TrySend, Receive, TryReceive, Close, CancelChannel, Yield, Launch, Async, Lazy, Start, Join, Await, Cancel, Fail, Result, Repeat, Each, Scope, Supervisor, Select, OnSend, OnReceive, End}

-- the word of each
abbrev pub word_of_verb : Verb → List ℕ
word_of_verb Send = codes "send"
word_of_verb TrySend = codes "trysend"
word_of_verb Receive = codes "receive"
word_of_verb TryReceive = codes "tryreceive"
word_of_verb Close = codes "close"
word_of_verb CancelChannel = codes "cancelchannel"
word_of_verb Yield = codes "yield"
word_of_verb Launch = codes "launch"
word_of_verb Async = codes "async"
word_of_verb Lazy = codes "lazy"
word_of_verb Start = codes "start"
word_of_verb Join = codes "join"
word_of_verb Await = codes "await"
word_of_verb Cancel = codes "cancel"
word_of_verb Fail = codes "fail"
word_of_verb Result = codes "result"
word_of_verb Repeat = codes "repeat"
word_of_verb Each = codes "each"
word_of_verb Scope = codes "scope"
word_of_verb Supervisor = codes "supervisor"
word_of_verb Select = codes "select"
word_of_verb OnSend = codes "onsend"
word_of_verb OnReceive = codes "onreceive"
word_of_verb End = codes "end"

abbrev pub verbs : List Verb
verbs =
    Send ∷ TrySend ∷ Receive ∷ TryReceive ∷ Close ∷ CancelChannel ∷ Yield
    ∷ Launch ∷ Async ∷ Lazy ∷ Start ∷ Join ∷ Await ∷ Cancel ∷ Fail ∷ Result
    ∷ Repeat ∷ Each ∷ Scope ∷ Supervisor ∷ Select ∷ OnSend ∷ OnReceive ∷ End ∷ []

-- the verb of this word, if it is one of these
abbrev pub among : List ℕ → List Verb → Option Verb
among word [] = None
among word (v ∷ vs) = if bytes_eq word (word_of_verb v) then Some v else among word vs

-- the verb of this word
unfoldable pub verb_of : List ℕ → Option Verb
verb_of word = among word verbs
