-- What a parse that clap makes says of the matches that the words have.
use Rattle.std.proofs.Common.{◌≡◌, ◌≢◌, ◌&&◌, ℕ, Bool, true, false, List, [], ◌∷◌, Some, None, refl, ap, sym, ◌∙◌, ⊎_elim}
use Rattle.clap.specs.Words.{App, HasKind, Kinds, Row, fault_of, is_simple, is_simple_and_free, kind_of, matches_of}
use Rattle.clap.specs.declared.error.Error.{Error}
use Rattle.clap.specs.declared.error.kind.ErrorKind.TheVariants as kind
use Rattle.program_input.specs.Words.{matches_by, unless_faulty}

first_true : (a b : Bool) → (a && b) ≡ true → a ≡ true
first_true true b e = refl
first_true false b e = e

pub simple : (line : App) → is_simple_and_free line ≡ true → is_simple line ≡ true
simple line e = first_true _ _ e

pub matched : (line : App) (words : List (List ℕ)) (rows : List Row) → fault_of line words ≡ [] → rows ≡ matches_of line words
    → Some rows ≡ matches_by line words
matched line words rows none are = ap Some are ∙ ap (λ k. unless_faulty k (matches_of line words)) (sym none)

faulty : (kinds : Kinds) (rows : List Row) (e : Error) → HasKind kinds e → kind_of e ≢ kind.OutOfMemory → None ≡ unless_faulty kinds rows
faulty [] rows e has other = absurd (⊎_elim other (λ none. none) has)
faulty (k ∷ kinds) rows e has other = refl

pub refused : (line : App) (words : List (List ℕ)) (e : Error) → HasKind (fault_of line words) e → kind_of e ≢ kind.OutOfMemory
    → None ≡ matches_by line words
refused line words e has other = faulty (fault_of line words) (matches_of line words) e has other
