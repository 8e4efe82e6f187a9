-- The last part of the text of the generated script.
use Rattle.std.specs.Prelude.{ℕ, List, [], ◌∷◌}
use lib.Chars.{codes}

-- the coroutines that hand elements on and add them up, and the root
abbrev pub others_text : List (List ℕ)
others_text =
    codes "coroutine mapper\n  each a\n    send b it\n  end\nend\n"
    ∷ codes "coroutine consumer\n  each b\n  end\n  result sum\nend\n"
    ∷ codes "coroutine main\n  launch mapper as m1\n  launch mapper as m2\n"
    ∷ codes "  async consumer as c1\n  async consumer as c2\n  async consumer as c3\n"
    ∷ codes "  scope\n    launch p1\n    launch p2\n    launch p3\n    launch p4\n  end\n"
    ∷ codes "  close a\n  join m1\n  join m2\n  close b\n  await c1\n  await c2\n  await c3\n  result sum\nend\n"
    ∷ []
