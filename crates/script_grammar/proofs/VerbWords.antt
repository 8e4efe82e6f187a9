-- A verb and its word.
use Rattle.std.proofs.Common.{◌≡◌, ℕ, List, [], ◌∷◌, refl, ap, ◌∙◌, Bool, true, false, Option, Some, if◌then◌else◌}
use Rattle.std.specs.Str.{bytes_eq}
use Rattle.std.proofs.lemmas.Slice.Eq.{bytes_eq-Decides}
use Rattle.script_grammar.specs.declared.verbs.Verb.{Verb}
use Rattle.script_grammar.specs.Verbs.{word_of_verb, among, verbs, verb_of}

tested : (b : Bool) (word : List ℕ) (x v : Verb) (rest : Option Verb) → bytes_eq word (word_of_verb x) ≡ b
    → (rest ≡ Some v → word ≡ word_of_verb v) → (if b then Some x else rest) ≡ Some v → word ≡ word_of_verb v
tested true word x v rest t more e = let same : x ≡ v = cc in (bytes_eq-Decides word (word_of_verb x)).0 t ∙ ap word_of_verb same
tested false word x v rest t more e = more e

among_found : (word : List ℕ) (vs : List Verb) (v : Verb) → among word vs ≡ Some v → word ≡ word_of_verb v
among_found word [] v e = cc
among_found word (x ∷ vs) v e = tested (bytes_eq word (word_of_verb x)) word x v (among word vs) refl (λ f. among_found word vs v f) e

-- what is read as a verb is its word
pub verb_found : (word : List ℕ) (v : Verb) → verb_of word ≡ Some v → word ≡ word_of_verb v
unfolding verb_of
verb_found word v e = among_found word verbs v e
