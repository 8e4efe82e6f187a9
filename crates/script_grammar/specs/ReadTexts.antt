-- Examples of scripts: texts that are read, what one of them says, and how it is written out.
use Rattle.std.specs.Prelude.{◌≡◌, ℕ, Bool, true, false, List, [], ◌∷◌, ◌++◌, length, map, replicate, Some, None, Result, Ok, Err}
use Rattle.std.specs.List.{concat}
use lib.Chars.{codes}
use Rattle.channel_model.specs.declared.acts.Kind.TheVariants.{Rendezvous, Buffered, Unlimited, Conflated, DropOldest, DropLatest}
use Rattle.script_grammar.specs.declared.fault.ScriptFault.{ScriptFault}
use Rattle.script_grammar.specs.declared.instructions.Operand.TheVariants.{Number, It, Sum}
use Rattle.script_grammar.specs.declared.instructions.Launching.TheVariants.{Plain, Async, Lazy}
use Rattle.script_grammar.specs.declared.instructions.Instruction.{Instruction}
use Rattle.script_grammar.specs.declared.instructions.Instruction.TheVariants.{Send, TrySend, Receive, TryReceive, Close, CancelChannel, Yield, Launch, Start, Join, Await, Cancel, Fail, SetResult, Repeat, Each, Scope, Select, OnSend, OnReceive, End}
use Rattle.script_grammar.specs.Programs.{Program}
use Rattle.script_grammar.specs.Texts.{reading_of}
use Rattle.script_grammar.specs.Tags.{tags_of}

abbrev pub is_read : Result Program ScriptFault → Bool
is_read (Ok p) = true
is_read (Err fault) = false

-- each of these texts is read as a script
abbrev pub AreRead : List (List ℕ) → Type 0
AreRead texts = map (λ text. is_read (reading_of text)) texts ≡ replicate (length texts) true

-- scripts at their limits, sets of names, and a script that is cut off where another ends
abbrev pub scripts : List (List ℕ)
scripts =
    concat (codes "channel a rendezvous\ncoroutine p\nsend a 5\nend\ncoroutine c\nreceive a\nend\ncoroutine main\nend\nspawn p\n"
    ∷ codes "spawn c\n"
    ∷ [])
    ∷ codes "channel a rendezvous\ncoroutine p\nsend a 5\nend\ncoroutine c\nreceive a\nend\ncoroutine main\nend"
    ∷ codes "channel a rendezvous\ncoroutine p\nsend a 5\nend\ncoroutine c\nreceive a\nend\ncoroutine main\nend\n"
    ∷ codes "channel a rendezvous\ncoroutine p\nsend a 5\nend\ncoroutine c\nreceive a\nend\ncoroutine main\nend\nspawn p"
    ∷ codes "coroutine main\nend"
    ∷ codes "coroutine w\nend\ncoroutine main\nend\nspawn w 15999"
    ∷ codes "coroutine w\nend\ncoroutine main\nrepeat 15999\nlaunch w\nend\nend"
    ∷ codes "coroutine main\nrepeat 1000000\nrepeat 1000000\nyield\nend\nend\nend"
    ∷ concat (codes "channel a rendezvous\ncoroutine main\nrepeat 1\nrepeat 1\nrepeat 1\nrepeat 1\nrepeat 1\nrepeat 1\nrepeat 1\n"
    ∷ codes "repeat 1\nselect\nonreceive a\nend\nend\nend\nend\nend\nend\nend\nend\nend\nend"
    ∷ [])
    ∷ concat (codes "channel c0 rendezvous\nchannel c1 rendezvous\nchannel c2 rendezvous\nchannel c3 rendezvous\n"
    ∷ codes "channel c4 rendezvous\nchannel c5 rendezvous\nchannel c6 rendezvous\ncoroutine main\nselect\nonreceive c0\n"
    ∷ codes "onreceive c1\nonreceive c2\nonreceive c3\nonreceive c4\nonreceive c5\nonreceive c6\nend\nend"
    ∷ [])
    ∷ concat (codes "channel a rendezvous places 1048576\nchannel b rendezvous places 1048576\n"
    ∷ codes "channel c rendezvous places 1048576\nchannel d rendezvous places 1048576\ncoroutine main\nend"
    ∷ [])
    ∷ concat (codes "channel abcdefghijklmnop rendezvous\nchannel a_1 buffered 65535\ncoroutine main\nsend a_1 4294967295\nfail 0\n"
    ∷ codes "end"
    ∷ [])
    ∷ codes "channel a rendezvous\ncoroutine a\nend\ncoroutine main\nlaunch a as a\nstart a\nend"
    ∷ codes "coroutine p\nend\ncoroutine main\nrepeat 2\nasync p as j\nend\nscope\nawait j\nend\njoin j\nend"
    ∷ codes "coroutine p\nend\ncoroutine q\nlaunch p as j\nend\ncoroutine main\nlaunch p as j\nend"
    ∷ concat (codes "channel a rendezvous\nchannel b rendezvous\ncoroutine main\nselect\nonreceive a\nonsend b 1\nend\nselect\n"
    ∷ codes "onsend a it\nend\nend"
    ∷ [])
    ∷ codes "script 2\ncoroutine main\nend"
    ∷ codes "\n# of version 2\n  script  2  # and no other\n\nchannel a droplatest 65535\ncoroutine main\nend"
    ∷ (codes "\tcoroutine  main\t# the root\r\n" ++ codes "\r\n \t\n#\n#end\n" ++ codes "end # done")
    ∷ []

-- ---- a script with every line of the language

abbrev pub every_line_text : List ℕ
every_line_text = concat (
    codes "script 2\nchannel a rendezvous\nchannel b buffered\nchannel c buffered 2 places 3\nchannel d unlimited\n"
    ∷ codes "channel e conflated places 5\nchannel f dropoldest 7\nchannel g droplatest 9 places 4\ncoroutine w\n"
    ∷ codes "yield\nfail 3\nend\n"
    ∷ codes "coroutine main\nsend a 1\ntrysend b it\nreceive a\ntryreceive b\nclose c\ncancelchannel d\n"
    ∷ codes "launch w\nlaunch w as j\nasync w as k\nlazy w as l\nstart l\njoin j\nawait k\ncancel j\nrepeat 2\n"
    ∷ codes "each e\nsend f 4294967295\nend\nend\nscope\nsupervisor\nend\nend\nselect\nonsend a sum\n"
    ∷ codes "onreceive b\nend\nresult it\nend\nspawn w\nspawn w 3\n"
    ∷ [])

abbrev pub every_line_code : List Instruction
every_line_code =
    Send 0 (Number 1) ∷ TrySend 1 It ∷ Receive 0 ∷ TryReceive 1 ∷ Close 2 ∷ CancelChannel 3
    ∷ Launch 0 Plain None ∷ Launch 0 Plain (Some 0) ∷ Launch 0 Async (Some 1) ∷ Launch 0 Lazy (Some 2)
    ∷ Start 2 ∷ Join 0 ∷ Await 1 ∷ Cancel 0
    ∷ Repeat 2 ∷ Each 4 ∷ Send 5 (Number 4294967295) ∷ End ∷ End
    ∷ Scope false ∷ Scope true ∷ End ∷ End
    ∷ Select ∷ OnSend 0 Sum ∷ OnReceive 1 ∷ End
    ∷ SetResult It ∷ []

-- what it says
abbrev pub every_line : Program
every_line = record {
  version = 2;
  channels =
      record { name = codes "a"; kind = Rendezvous; places = 16384 }
      ∷ record { name = codes "b"; kind = Buffered 64; places = 16384 }
      ∷ record { name = codes "c"; kind = Buffered 2; places = 3 }
      ∷ record { name = codes "d"; kind = Unlimited; places = 16384 }
      ∷ record { name = codes "e"; kind = Conflated; places = 5 }
      ∷ record { name = codes "f"; kind = DropOldest 7; places = 16384 }
      ∷ record { name = codes "g"; kind = DropLatest 9; places = 4 } ∷ [];
  blocks =
      record { name = codes "w"; jobs = []; code = Yield ∷ Fail 3 ∷ [] }
      ∷ record { name = codes "main"; jobs = codes "j" ∷ codes "k" ∷ codes "l" ∷ []; code = every_line_code } ∷ [];
  spawns = (0, 1) ∷ (0, 3) ∷ [];
}

-- how it is written out
abbrev pub every_line_printed : List ℕ
every_line_printed = concat (
    codes "script 2\nchannel a rendezvous places 16384\nchannel b buffered 64 places 16384\n"
    ∷ codes "channel c buffered 2 places 3\nchannel d unlimited places 16384\nchannel e conflated places 5\n"
    ∷ codes "channel f dropoldest 7 places 16384\nchannel g droplatest 9 places 4\ncoroutine w\n  yield\n  fail 3\nend\ncoroutine main\n"
    ∷ codes "  send a 1\n  trysend b it\n  receive a\n  tryreceive b\n  close c\n  cancelchannel d\n  launch w\n"
    ∷ codes "  launch w as j\n  async w as k\n  lazy w as l\n  start l\n  join j\n  await k\n  cancel j\n"
    ∷ codes "  repeat 2\n    each e\n      send f 4294967295\n    end\n  end\n  scope\n    supervisor\n    end\n"
    ∷ codes "  end\n  select\n    onsend a sum\n    onreceive b\n  end\n  result it\nend\nspawn w 1\nspawn w 3\n"
    ∷ [])

-- ---- tags

-- a coroutine that launches in a repeat within another
abbrev pub nested_text : List ℕ
nested_text = concat (
    codes "coroutine a\nend\ncoroutine b\nlaunch a\nend\n"
    ∷ codes "coroutine main\nlaunch a\nrepeat 2\nlaunch b\nrepeat 2\nlaunch a\nend\nend\nend\nspawn b\n"
    ∷ [])

abbrev pub tags_read : Result Program ScriptFault → List ℕ
tags_read (Ok p) = tags_of p
tags_read (Err fault) = []

-- the block of each of its tags: main, what is spawned, then what main launches
abbrev pub nested_tags : List ℕ
nested_tags = 2 ∷ 1 ∷ 0 ∷ 0 ∷ 1 ∷ 0 ∷ 0 ∷ 0 ∷ 1 ∷ 0 ∷ 0 ∷ 0 ∷ []
