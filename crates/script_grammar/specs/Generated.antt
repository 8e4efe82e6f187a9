-- The script whose run adds up numbers: four coroutines send n elements each, which two hand on and three add up.
use Rattle.std.specs.Prelude.{false, ℕ, ◌+◌, ◌*◌, List, [], ◌∷◌, ◌++◌, Some, None}
use Rattle.std.specs.Fmt.{decimal}
use Rattle.std.specs.List.{concat}
use lib.Chars.{codes}
use Rattle.channel_model.specs.declared.acts.Kind.TheVariants.{Rendezvous, Buffered}
use Rattle.script_grammar.specs.declared.instructions.Operand.TheVariants.{Number, It, Sum}
use Rattle.script_grammar.specs.declared.instructions.Launching.TheVariants.{Plain, Async}
use Rattle.script_grammar.specs.declared.instructions.Instruction.{Instruction}
use Rattle.script_grammar.specs.declared.instructions.Instruction.TheVariants.{Send, Close, Launch, Join, Await, SetResult, Repeat, Each, Scope, End}
use Rattle.script_grammar.specs.Programs.{Block, Program}

-- as many places as are ever used, and some more
abbrev pub places_for : ℕ → ℕ
places_for n = 4 * n + 8

-- sends a value n times
abbrev pub sender : List ℕ → ℕ → ℕ → Block
sender name value n = record { name = name; jobs = []; code = Repeat n ∷ Send 0 (Number value) ∷ End ∷ [] }

abbrev pub mapper : Block
mapper = record { name = codes "mapper"; jobs = []; code = Each 0 ∷ Send 1 It ∷ End ∷ [] }

abbrev pub consumer : Block
consumer = record { name = codes "consumer"; jobs = []; code = Each 1 ∷ End ∷ SetResult Sum ∷ [] }

abbrev pub root_code : List Instruction
root_code =
    Launch 4 Plain (Some 0) ∷ Launch 4 Plain (Some 1)
    ∷ Launch 5 Async (Some 2) ∷ Launch 5 Async (Some 3) ∷ Launch 5 Async (Some 4)
    ∷ Scope false ∷ Launch 0 Plain None ∷ Launch 1 Plain None ∷ Launch 2 Plain None ∷ Launch 3 Plain None ∷ End
    ∷ Close 0 ∷ Join 0 ∷ Join 1 ∷ Close 1
    ∷ Await 2 ∷ Await 3 ∷ Await 4 ∷ SetResult Sum ∷ []

abbrev pub root : Block
root = record {
  name = codes "main";
  jobs = codes "m1" ∷ codes "m2" ∷ codes "c1" ∷ codes "c2" ∷ codes "c3" ∷ [];
  code = root_code;
}

-- the script
abbrev pub generated : ℕ → Program
generated n = record {
  version = 1;
  channels =
      record { name = codes "a"; kind = Buffered 64; places = places_for n }
      ∷ record { name = codes "b"; kind = Rendezvous; places = places_for n } ∷ [];
  blocks =
      sender (codes "p1") 1 n ∷ sender (codes "p2") 2 n ∷ sender (codes "p3") 3 n ∷ sender (codes "p4") 4 n
      ∷ mapper ∷ consumer ∷ root ∷ [];
  spawns = [];
}

-- the lines of a sender as they are written
abbrev pub sender_text : List ℕ → ℕ → ℕ → List (List ℕ)
sender_text name value n =
    codes "coroutine " ∷ name
    ∷ codes "\n  repeat " ∷ decimal n
    ∷ codes "\n    send a " ∷ decimal value
    ∷ codes "\n  end\nend\n" ∷ []

-- the parts of the script's text
abbrev pub text_parts : ℕ → List (List ℕ)
text_parts n =
    codes "channel a buffered 64 places " ∷ decimal (places_for n)
    ∷ codes "\nchannel b rendezvous places " ∷ decimal (places_for n)
    ∷ codes "\n"
    ∷ (sender_text (codes "p1") 1 n
    ++ (sender_text (codes "p2") 2 n
    ++ (sender_text (codes "p3") 3 n
    ++ (sender_text (codes "p4") 4 n
    ++ codes "coroutine mapper\n  each a\n    send b it\n  end\nend\n"
    ∷ codes "coroutine consumer\n  each b\n  end\n  result sum\nend\n"
    ∷ codes "coroutine main\n  launch mapper as m1\n  launch mapper as m2\n"
    ∷ codes "  async consumer as c1\n  async consumer as c2\n  async consumer as c3\n"
    ∷ codes "  scope\n    launch p1\n    launch p2\n    launch p3\n    launch p4\n  end\n"
    ∷ codes "  close a\n  join m1\n  join m2\n  close b\n  await c1\n  await c2\n  await c3\n  result sum\nend\n"
    ∷ []))))

-- the text of the script
abbrev pub generated_text : ℕ → List ℕ
generated_text n = concat (text_parts n)
