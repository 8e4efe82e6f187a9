-- Examples of faults: texts, each with the number of its faulty line and the fault.
use Rattle.std.specs.Prelude.{◌≡◌, ℕ, List, [], ◌∷◌, ◌++◌, map, Result, Err}
use Rattle.std.specs.List.{concat}
use lib.Chars.{codes}
use Rattle.script_grammar.specs.declared.fault.FaultKind.{FaultKind}
use Rattle.script_grammar.specs.declared.fault.FaultKind.TheVariants.{NotAscii, UnknownWord, BadNumber, BadName, Duplicate, Undeclared, NoMain, NoEnd, Extra, TooDeep, TooMany, Recursive}
use Rattle.script_grammar.specs.declared.fault.ScriptFault.{ScriptFault}
use Rattle.script_grammar.specs.Programs.{Program}
use Rattle.script_grammar.specs.Texts.{reading_of}

-- a text, the number of its faulty line, and the fault
abbrev pub Example : Type 0
Example = List ℕ × ℕ × FaultKind

-- each of these texts has its fault
abbrev pub AreFaulty : List Example → Type 0
AreFaulty examples =
    map (λ (x : Example). reading_of x.0) examples
    ≡ map {B = Result Program ScriptFault} (λ (x : Example). Err (record { line = x.1; kind = x.2 })) examples

-- a short text with each fault
abbrev pub smallest : List Example
smallest =
    (127 ∷ [], 1, NotAscii)
    ∷ (codes "x", 1, UnknownWord)
    ∷ (codes "coroutine a\nfail", 2, BadNumber)
    ∷ (codes "spawn", 1, BadName)
    ∷ (codes "coroutine a\nend\ncoroutine a", 3, Duplicate)
    ∷ (codes "spawn a", 1, Undeclared)
    ∷ (codes "", 1, NoMain)
    ∷ (codes "coroutine a", 1, NoEnd)
    ∷ (codes "coroutine a b", 1, Extra)
    ∷ (codes "coroutine a\nscope\nscope\nscope\nscope\nscope\nscope\nscope\nscope\nscope", 10, TooDeep)
    ∷ (codes "coroutine a\nrepeat 16000\nscope", 3, TooMany)
    ∷ (codes "coroutine a\nlazy a", 2, Recursive)
    ∷ []

-- faults that are often made
abbrev pub common : List Example
common =
    (codes "# " ++ 195 ∷ 169 ∷ [], 1, NotAscii)
    ∷ (codes "chanel a rendezvous", 1, UnknownWord)
    ∷ (codes "channel a buffered 0", 1, BadNumber)
    ∷ (codes "channel A rendezvous", 1, BadName)
    ∷ (codes "channel a rendezvous\nchannel a rendezvous", 2, Duplicate)
    ∷ (codes "coroutine main\nsend a 1\nend", 2, Undeclared)
    ∷ (codes "coroutine p\nend\ncoroutine main\nlaunch p as j\nawait j\nend", 5, Undeclared)
    ∷ (codes "coroutine main", 1, NoEnd)
    ∷ (codes "coroutine main extra", 1, Extra)
    ∷ (codes "coroutine main\nrepeat 2\nrepeat 2\nrepeat 2\nrepeat 2\nrepeat 2\nrepeat 2\nrepeat 2\nrepeat 2\nrepeat 2", 10, TooDeep)
    ∷ (codes "coroutine w\nend\ncoroutine main\nend\nspawn w 16000", 5, TooMany)
    ∷ (codes "coroutine p\nlaunch p\nend", 2, Recursive)
    ∷ []

-- a script that is cut off
abbrev pub cut_off : List Example
cut_off =
    (codes "", 1, NoMain)
    ∷ (codes "channel a rende", 1, UnknownWord)
    ∷ (codes "channel a rendezvous", 1, NoMain)
    ∷ (codes "channel a rendezvous\n", 1, NoMain)
    ∷ (codes "channel a rendezvous\ncoroutine p\n", 2, NoEnd)
    ∷ (codes "channel a rendezvous\ncoroutine p\nsend a ", 3, BadNumber)
    ∷ (codes "channel a rendezvous\ncoroutine p\nsend a 5", 3, NoEnd)
    ∷ (codes "channel a rendezvous\ncoroutine p\nsend a 5\nend\ncoroutine c\nreceive a\nend\ncoroutine main", 8, NoEnd)
    ∷ (
      concat (codes "channel a rendezvous\ncoroutine p\nsend a 5\nend\ncoroutine c\nreceive a\nend\ncoroutine main\nend\nspaw"
          ∷ []),
      10,
      UnknownWord,
    )
    ∷ (codes "channel a rendezvous\ncoroutine p\nsend a 5\nend\ncoroutine c\nreceive a\nend\ncoroutine main\nend\nspawn", 10, BadName)
    ∷ (codes "channel a rendezvous\ncoroutine p\nsend a 5\nend\ncoroutine c\nreceive a\nend\ncoroutine main\nend\nspawn ", 10, BadName)
    ∷ []

-- counts beyond their limits, and what comes before them
abbrev pub too_large : List Example
too_large = (
  concat (codes "coroutine b0\nend\ncoroutine b1\nlaunch b0\nlaunch b0\nend\ncoroutine b2\nlaunch b1\nlaunch b1\nend\n"
      ∷ codes "coroutine b3\nlaunch b2\nlaunch b2\nend\ncoroutine b4\nlaunch b3\nlaunch b3\nend\ncoroutine b5\nlaunch b4\n"
      ∷ codes "launch b4\nend\ncoroutine b6\nlaunch b5\nlaunch b5\nend\ncoroutine b7\nlaunch b6\nlaunch b6\nend\n"
      ∷ codes "coroutine b8\nlaunch b7\nlaunch b7\nend\ncoroutine b9\nlaunch b8\nlaunch b8\nend\ncoroutine b10\nlaunch b9\n"
      ∷ codes "launch b9\nend\ncoroutine b11\nlaunch b10\nlaunch b10\nend\ncoroutine b12\nlaunch b11\nlaunch b11\nend\n"
      ∷ codes "coroutine b13\nlaunch b12\nlaunch b12\nend"
      ∷ []),
  53,
  TooMany,
)
    ∷ (codes "coroutine w\nend\ncoroutine main\nrepeat 1000000\nrepeat 1000000\nrepeat 1000000\nrepeat 1000000\nlaunch w", 8, TooMany)
    ∷ (codes "channel a rendezvous\ncoroutine w\nend\ncoroutine main\neach a\nlaunch w", 6, TooMany)
    ∷ (codes "channel a rendezvous\ncoroutine main\neach a\nscope", 4, TooMany)
    ∷ (codes "channel a rendezvous\ncoroutine main\neach a\nsupervisor", 4, TooMany)
    ∷ (codes "coroutine w\nend\nspawn w 16000\ncoroutine main", 4, TooMany)
    ∷ (codes "coroutine w\nend\ncoroutine main\nrepeat 15999\nlaunch w\nend\nlaunch w", 7, TooMany)
    ∷ (codes "coroutine w\nend\ncoroutine main\nrepeat 8000\nrepeat 2\nlaunch w", 6, TooMany)
    ∷ (
      concat (codes "channel a rendezvous places 1048576\nchannel b rendezvous places 1048576\n"
          ∷ codes "channel c rendezvous places 1048576\nchannel d rendezvous places 1048576\nchannel e rendezvous places 1"
          ∷ []),
      5,
      TooMany,
    )
    ∷ (
      concat (codes "channel c0 rendezvous\nchannel c1 rendezvous\nchannel c2 rendezvous\nchannel c3 rendezvous\n"
          ∷ codes "channel c4 rendezvous\nchannel c5 rendezvous\nchannel c6 rendezvous\nchannel c7 rendezvous\ncoroutine main\n"
          ∷ codes "select\nonreceive c0\nonreceive c1\nonreceive c2\nonreceive c3\nonreceive c4\nonreceive c5\nonreceive c6\n"
          ∷ codes "onreceive c7"
          ∷ []),
      18,
      TooMany,
    )
    ∷ (
      concat (codes "channel c0 rendezvous\nchannel c1 rendezvous\nchannel c2 rendezvous\nchannel c3 rendezvous\n"
          ∷ codes "channel c4 rendezvous\nchannel c5 rendezvous\nchannel c6 rendezvous\nchannel c7 rendezvous\ncoroutine main\n"
          ∷ codes "select\nonreceive c0\nonreceive c1\nonreceive c2\nonreceive c3\nonreceive c4\nonreceive c5\nonreceive c6\n"
          ∷ codes "onreceive c7 x"
          ∷ []),
      18,
      Extra,
    )
    ∷ (
      concat (codes "channel c0 rendezvous\nchannel c1 rendezvous\nchannel c2 rendezvous\nchannel c3 rendezvous\n"
          ∷ codes "channel c4 rendezvous\nchannel c5 rendezvous\nchannel c6 rendezvous\nchannel c7 rendezvous\ncoroutine main\n"
          ∷ codes "select\nonreceive c0\nonreceive c1\nonreceive c2\nonreceive c3\nonreceive c4\nonreceive c5\nonreceive c6\n"
          ∷ codes "onreceive c0"
          ∷ []),
      18,
      Duplicate,
    )
    ∷ (codes "coroutine main\nrepeat 4000\nrepeat 4\nrepeat 1\nrepeat 1\nrepeat 1\nrepeat 1\nrepeat 1\nrepeat 1\nscope", 10, TooDeep)
    ∷ (codes "coroutine main\nrepeat 1\nrepeat 1\nrepeat 1\nrepeat 1\nrepeat 1\nrepeat 1\nrepeat 1\nrepeat 1\neach", 10, BadName)
    ∷ []

-- where two rules meet, comments and bytes
abbrev pub of_rules : List Example
of_rules =
    (codes "coroutine p\nlaunch main\nend", 2, Undeclared)
    ∷ (codes "coroutine main\nend\ncoroutine p\nlaunch main", 4, Recursive)
    ∷ (codes "spawn main", 1, Undeclared)
    ∷ (codes "coroutine main\nend\nspawn main", 3, Recursive)
    ∷ (codes "coroutine main\nend\nspawn main x", 3, Recursive)
    ∷ (codes "coroutine p\nasync p", 2, Recursive)
    ∷ (codes "coroutine p\nlazy q", 2, Undeclared)
    ∷ (codes "coroutine p\nend\ncoroutine main\nrepeat 2\nlaunch p as j\nend\nscope\nlaunch p as j", 8, Duplicate)
    ∷ (codes "coroutine p\nend\ncoroutine q\nlaunch p as j\nend\ncoroutine main\nstart j", 7, Undeclared)
    ∷ (codes "coroutine p\nend\ncoroutine main\nlaunch p as j\nawait j", 5, Undeclared)
    ∷ (codes "coroutine main\nselect\nend", 3, UnknownWord)
    ∷ (codes "coroutine main\nselect\nend extra", 3, UnknownWord)
    ∷ (codes "coroutine main\nend\nend", 3, UnknownWord)
    ∷ (codes "script", 1, BadNumber)
    ∷ (codes "script x", 1, BadNumber)
    ∷ (codes "script 1\ncoroutine main\nend", 1, BadNumber)
    ∷ (codes "script 3\ncoroutine main\nend", 1, BadNumber)
    ∷ (codes "script 02\ncoroutine main\nend", 1, BadNumber)
    ∷ (codes "script 2 x", 1, Extra)
    ∷ (codes "script 2\nscript 2", 2, UnknownWord)
    ∷ (codes "channel a rendezvous\nscript 2", 2, UnknownWord)
    ∷ (codes "coroutine main\nscript 2", 2, UnknownWord)
    ∷ (codes "channel a droplatest 3", 1, UnknownWord)
    ∷ (codes "script 2\nchannel a droplatest", 2, BadNumber)
    ∷ (codes "script 2\nchannel a droplatest 0", 2, BadNumber)
    ∷ (codes "script 2\nchannel a droplatest 65536", 2, BadNumber)
    ∷ (codes "script 2\nchannel a droplatest places 3", 2, BadNumber)
    ∷ (codes "script 2\nchannel a droplatest 5 x", 2, Extra)
    ∷ (codes "script 2\nchannel a droplatest 5 places 0", 2, BadNumber)
    ∷ (codes "coroutine main\nend\nscript 2", 3, UnknownWord)
    ∷ (codes "coroutine p\nend\n", 2, NoMain)
    ∷ (codes "coroutine p\nend\n\n", 3, NoMain)
    ∷ (codes "coroutine main\n\n# x\n", 3, NoEnd)
    ∷ (codes "\n\n# x", 3, NoMain)
    ∷ (codes "#", 1, NoMain)
    ∷ (codes "coroutine main#x", 1, BadName)
    ∷ (codes "coroutine # main", 1, BadName)
    ∷ (codes "coroutine main" ++ 11 ∷ codes "x", 1, NotAscii)
    ∷ (codes "x" ++ 12 ∷ [], 1, NotAscii)
    ∷ (codes "coroutine main # " ++ 127 ∷ [], 1, NotAscii)
    ∷ (codes "x\n# " ++ 127 ∷ [], 1, UnknownWord)
    ∷ (codes "coroutine main\nend\n" ++ 0 ∷ [], 3, NotAscii)
    ∷ []
