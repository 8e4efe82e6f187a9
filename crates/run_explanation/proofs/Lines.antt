-- The loops over the lines of a text and over the words of a line, and that over the coroutines.
use Rattle.std.proofs.Common.{◌≡◌, ℕ, zero, suc, ◌+◌, ◌-◌, ◌++◌, arith, ◌==◌, List, [], ◌∷◌, refl, ap, sym, ◌∙◌, Option, Some, None, Bool, true, false, true≢false, if◌then◌else◌}
use Rattle.std.specs.List.{slice_split}
use Rattle.std.proofs.lemmas.Bool.{eqb-true}
use denote.Ref.{Bor}
use Rattle.script_grammar.specs.Programs.{Program}
use Rattle.report_reader.specs.Words.{parts, words_of}
use Rattle.run_explanation.specs.Answers.{name_of_tag}
use Rattle.run_explanation.specs.Fitting.{fits, misfit_from}
use Rattle.run_explanation.specs.Naming.{names_below}
use Rattle.run_explanation.specs.Waiting.{word_at}

lines_cons : (p : Program) (n : ℕ) (good : Bool) (line : List ℕ) (more : List (List ℕ)) → good ≡ fits p line
    → misfit_from p n (line ∷ more) ≡ (if good then misfit_from p (n + 1) more else Some n)
unfolding misfit_from
lines_cons p n good line more is = ap (λ (g : Bool). if g then misfit_from p (n + 1) more else Some n) (sym is)

nothing_left : (p : Program) (n : ℕ) → misfit_from p n [] ≡ None
unfolding misfit_from
nothing_left p n = refl

misfits : (p : Program) (n : ℕ) (rest line : List ℕ) (more : Option (Bor (List ℕ))) (all : Option ℕ)
    → misfit_from p n (slice_split (λ b. b == 10) rest) ≡ all → parts 10 line more ≡ slice_split (λ b. b == 10) rest
    → false ≡ fits p line → Some n ≡ all
misfits p n rest line None all inv is bad = sym (lines_cons p n false line [] bad) ∙ ap (misfit_from p n) is ∙ inv
misfits p n rest line (Some next) all inv is bad =
    sym (lines_cons p n false line (slice_split (λ b. b == 10) next.now) bad) ∙ ap (misfit_from p n) is ∙ inv

pub lines_misfit : (good : Bool) (p : Program) (n : ℕ) (rest line : List ℕ) (more : Option (Bor (List ℕ))) (all : Option ℕ)
    → misfit_from p n (slice_split (λ b. b == 10) rest) ≡ all → parts 10 line more ≡ slice_split (λ b. b == 10) rest
    → good ≡ fits p line → good ≡ false → Some n ≡ all
lines_misfit true p n rest line more all inv is fit bad = absurd (true≢false bad)
lines_misfit false p n rest line more all inv is fit bad = misfits p n rest line more all inv is fit

pub lines_end : (good : Bool) (p : Program) (n : ℕ) (rest line : List ℕ) (all : Option ℕ)
    → misfit_from p n (slice_split (λ b. b == 10) rest) ≡ all → parts 10 line None ≡ slice_split (λ b. b == 10) rest
    → good ≡ fits p line → good ≡ true → None ≡ all
lines_end false p n rest line all inv is fit ok = absurd (true≢false (sym ok))
lines_end true p n rest line all inv is fit ok =
    sym (lines_cons p n true line [] fit ∙ nothing_left p (n + 1)) ∙ ap (misfit_from p n) is ∙ inv

pub lines_more : (good : Bool) (p : Program) (n : ℕ) (rest line : List ℕ) (next : Bor (List ℕ)) (all : Option ℕ)
    → misfit_from p n (slice_split (λ b. b == 10) rest) ≡ all → parts 10 line (Some next) ≡ slice_split (λ b. b == 10) rest
    → good ≡ fits p line → good ≡ true → misfit_from p (n + 1) (slice_split (λ b. b == 10) next.now) ≡ all
lines_more false p n rest line next all inv is fit ok = absurd (true≢false (sym ok))
lines_more true p n rest line next all inv is fit ok =
    sym (lines_cons p n true line (slice_split (λ b. b == 10) next.now) fit) ∙ ap (misfit_from p n) is ∙ inv

-- the first word that is left is the wanted one
pub word_here : (left : ℕ) (rest word : List ℕ) (more : Option (Bor (List ℕ))) (all : List ℕ) → word_at (words_of rest) left ≡ all
    → parts 32 word more ≡ words_of rest → (left == 0) ≡ true → word ≡ all
word_here left rest word None all inv is first =
    ap (λ (ws : List (List ℕ)). word_at ws 0) is ∙ ap (word_at (words_of rest)) (sym (eqb-true left 0 first)) ∙ inv
word_here left rest word (Some next) all inv is first =
    ap (λ (ws : List (List ℕ)). word_at ws 0) is ∙ ap (word_at (words_of rest)) (sym (eqb-true left 0 first)) ∙ inv

-- there is no further word
pub no_word : (left : ℕ) (rest word : List ℕ) (all : List ℕ) → word_at (words_of rest) left ≡ all
    → parts 32 word None ≡ words_of rest → (left == 0) ≡ false → [] ≡ all
no_word zero rest word all inv is later = absurd (true≢false later)
no_word (suc n) rest word all inv is later = ap (λ (ws : List (List ℕ)). word_at ws (suc n)) is ∙ inv

-- the wanted word stands behind the first
pub word_behind : (left : ℕ) (rest word : List ℕ) (next : Bor (List ℕ)) (all : List ℕ) → word_at (words_of rest) left ≡ all
    → parts 32 word (Some next) ≡ words_of rest → (left == 0) ≡ false → word_at (words_of next.now) (left - 1) ≡ all
word_behind zero rest word next all inv is later = absurd (true≢false later)
word_behind (suc n) rest word next all inv is later =
    let down : suc n - 1 ≡ n = omega arith in
    ap (word_at (words_of next.now)) down ∙ ap (λ (ws : List (List ℕ)). word_at ws (suc n)) is ∙ inv

-- the names of the coroutines below the next one
pub names_more : (p : Program) (tag : ℕ) → names_below p (tag + 1) ≡ names_below p tag ++ name_of_tag p tag ∷ []
names_more p tag = let next : tag + 1 ≡ suc tag = omega arith in ap (names_below p) next
