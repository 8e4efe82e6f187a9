-- Words and lines that are joined.
use Rattle.std.proofs.Common.{◌≡◌, ℕ, zero, suc, List, [], ◌∷◌, ◌++◌, refl, ap, ap₂, sym, ◌∙◌, arith, ◌-◌, ◌<◌, ◌≤◌, length, take, drop, map, get_or, append_assoc, append-nil}
use Rattle.std.proofs.lemmas.List.{take_all}
use denote.Ref.{Bor}
use Rattle.script_grammar.specs.Words.{texts, spaced, indented}
use Rattle.script_grammar.specs.Programs.{channel_names, block_names}
use Rattle.std.specs.Prelude.{string_bytes}
use Rattle.script_reader.specs.declared.script.Channel.{Channel}
use Rattle.script_reader.specs.declared.script.Coroutine.{Coroutine}
use Rattle.script_reader.specs.Programs.{declared_of, block_of}
use Rattle.script_printer.specs.Printing.{text_of}

-- words, each behind a space
abbrev pub spaced_behind : List (List ℕ) → List ℕ
spaced_behind [] = []
spaced_behind (w ∷ ws) = 32 ∷ (w ++ spaced_behind ws)

pub spaced-behind : (w : List ℕ) (ws : List (List ℕ)) → w ++ spaced_behind ws ≡ spaced (w ∷ ws)
spaced-behind w [] = append-nil w
spaced-behind w (v ∷ ws) = ap (λ l. w ++ 32 ∷ l) (spaced-behind v ws)

-- the text of lines behind others
pub text_of-append : (xs ys : List (ℕ × List (List ℕ))) → text_of (xs ++ ys) ≡ text_of xs ++ text_of ys
text_of-append [] ys = refl
text_of-append (x ∷ xs) ys = ap (λ l. indented x.0 x.1 ++ 10 ∷ l) (text_of-append xs ys)
    ∙ sym (append_assoc (indented x.0 x.1) (10 ∷ text_of xs) (text_of ys))

-- lines behind others, in a text that grows
pub text_of-more : (out new : List ℕ) (xs ys : List (ℕ × List (List ℕ))) → new ≡ out ++ text_of xs → new ++ text_of ys ≡ out
    ++ text_of (xs ++ ys)
text_of-more out new xs ys is = ap (λ l. l ++ text_of ys) is ∙ append_assoc out (text_of xs) (text_of ys)
    ∙ ap (λ l. out ++ l) (sym (text_of-append xs ys))

-- the first of some words, and the others behind it
pub spaced-first : (out new : List ℕ) (words : List (Bor (List ℕ))) (d : Bor (List ℕ)) → 1 ≤ length words → new ≡ out
    ++ (get_or words 0 d).now → new ++ spaced_behind (texts (take (length words - 1) (drop 1 words))) ≡ out ++ spaced (texts words)
spaced-first out new [] d some is = absurd (omega (arith, some))
spaced-first out new (w ∷ ws) d some is =
    ap₂ (λ (a : List ℕ) (b : List (Bor (List ℕ))). a ++ spaced_behind (texts b)) is (take_all (length (w ∷ ws) - 1) ws (omega arith))
    ∙ append_assoc out w.now (spaced_behind (texts ws))
    ∙ ap (λ l. out ++ l) (spaced-behind w.now (texts ws))

-- ---- names

pub channel_at : (cs : List Channel) (i : ℕ) (c : Channel) → i < length cs → c ≡ get_or cs i c
    → string_bytes c.name ≡ get_or (channel_names (map declared_of cs)) i []
channel_at [] i c h e = absurd (omega (arith, h))
channel_at (d ∷ cs) zero c h e = ap (λ (x : Channel). string_bytes x.name) e
channel_at (d ∷ cs) (suc i) c h e = channel_at cs i c (omega (arith, h)) e

pub block_at : (cs : List Coroutine) (i : ℕ) (c : Coroutine) → i < length cs → c ≡ get_or cs i c
    → string_bytes c.name ≡ get_or (block_names (map block_of cs)) i []
block_at [] i c h e = absurd (omega (arith, h))
block_at (d ∷ cs) zero c h e = ap (λ (x : Coroutine). string_bytes x.name) e
block_at (d ∷ cs) (suc i) c h e = block_at cs i c (omega (arith, h)) e
