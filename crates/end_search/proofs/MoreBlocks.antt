-- One block more, and of which kind it is.
use Rattle.std.proofs.Common.{◌≡◌, ℕ, ◌+◌, List, [], ◌++◌, Option, true, ap₂, ◌∙◌, sym, subst}
use Rattle.script_grammar.specs.Programs.{Program}
use Rattle.end_search.specs.declared.wanted.Wanted.{Wanted}
use Rattle.end_search.specs.Blocks.{Blocks, IsBlock, no_block, one_more, shows_kind}

pub none_yet : (p : Program) (wanted : Option Wanted) (text : List ℕ) → text ≡ [] → Blocks p wanted 0 text
none_yet p wanted text e = subst (Blocks p wanted 0) (sym e) no_block

pub added : (p : Program) (wanted : Option Wanted) (n number : ℕ) (text block more : List ℕ) → Blocks p wanted n text → number ≡ n + 1
    → IsBlock p wanted number block → more ≡ text ++ block → Blocks p wanted number more
added p wanted n number text block more before next is more_is =
    subst (λ k. Blocks p wanted k more) (sym next)
    (subst (Blocks p wanted (n + 1)) (sym more_is) (one_more n text block before (subst (λ k. IsBlock p wanted k block) next is)))

pub shown_kind : (wanted : Option Wanted) (refused refused' lines lines' : List ℕ) → refused ≡ refused' → lines ≡ lines'
    → shows_kind wanted refused lines ≡ true → shows_kind wanted refused' lines' ≡ true
shown_kind wanted refused refused' lines lines' e f is = sym (ap₂ (shows_kind wanted) e f) ∙ is
