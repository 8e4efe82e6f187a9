-- The canonical lines of a program say it.
use Rattle.std.proofs.Common.{◌≡◌, ℕ, ◌+◌, ◌≤◌, List, [], ◌∷◌, ◌++◌, refl, ap, sym, arith, true, None, length, map, subst, length-append, append_assoc}
use Rattle.std.specs.List.{list_all}
use Rattle.std.proofs.lemmas.List.{map-append, append-nil}
use Rattle.channel_model.specs.declared.acts.Kind.{Kind}
use Rattle.channel_model.specs.declared.acts.Kind.TheVariants.{Rendezvous}
use Rattle.script_grammar.specs.Programs.{Declared, Block, channel_names, places_in}
use Rattle.script_grammar.specs.Lines.{channel_words}
use Rattle.script_grammar.specs.Reads.{Read, channel_is, after}
use Rattle.script_grammar.specs.Grammar.{is_declared, has_capacity, SayAll}
use Rattle.script_grammar.specs.WellFormed.{all_fresh}
use Rattle.script_grammar.proofs.Truths.{both_true}

pub SayAll-append : (s m t : Read) (xs ys : List (List (List ℕ))) → SayAll s xs m → SayAll m ys t → SayAll s (xs ++ ys) t
SayAll-append s m t [] ys d e = subst (λ r. SayAll r ys t) (sym d) e
SayAll-append s m t (words ∷ xs) ys d e = (d.0, d.1, d.2, SayAll-append (after d.0 s) m t xs ys d.3 e)

-- ---- channels

abbrev pub between : ℕ → List Declared → List Block → List ℕ → List (ℕ × ℕ) → Read
between version channels blocks weights spawns = record
    { version = version; channels = channels; blocks = blocks; spawns = spawns; weights = weights; current = None }

places_in-append : (xs ys : List Declared) → places_in (xs ++ ys) ≡ places_in xs + places_in ys
places_in-append [] ys = omega arith
places_in-append (x ∷ xs) ys = omega (arith, places_in-append xs ys)

pub channels_said : (version : ℕ) (done rest : List Declared) → all_fresh (channel_names done) (channel_names rest) ≡ true
    → list_all (is_declared version) rest ≡ true → length (done ++ rest) ≤ 256 → places_in (done ++ rest) ≤ 4194304
    → SayAll (between version done [] [] []) (map (λ c. channel_words c true true) rest) (between version (done ++ rest) [] [] [])
channels_said version done [] fresh declared few places = ap (λ cs. between version cs [] [] []) (sym (append-nil done))
channels_said version done (c ∷ rest) fresh declared few places =
    let two = both_true _ _ fresh in
    let more = both_true _ _ declared in
    let all : (done ++ c ∷ []) ++ rest ≡ done ++ c ∷ rest = append_assoc done (c ∷ []) rest in
    let names : channel_names done ++ c.name ∷ [] ≡ channel_names (done ++ c ∷ []) =
    sym (map-append (λ (d : Declared). d.name) done (c ∷ [])) in (
      channel_is c,
      (true, true, refl, refl, two.0, more.0, full c.kind, refl),
      record {
        channels = omega (arith, few, length-append done (c ∷ rest), length-append done (c ∷ []));
        places = omega (arith, places, places_in-append done (c ∷ rest), places_in-append done (c ∷ []));
        current = tt;
        load = omega arith;
      },
      subst (λ cs. SayAll (between version (done ++ c ∷ []) [] [] []) (map (λ c. channel_words c true true) rest)
          (between version cs [] [] [])) all
          (channels_said version (done ++ c ∷ []) rest (subst (λ ns. all_fresh ns (channel_names rest) ≡ true) names two.1) more.1
          (omega (arith, few, ap length all)) (omega (arith, places, ap places_in all))),
    )
  where
    full : (kind : Kind) → has_capacity kind true ≡ true
    full Rendezvous = refl
    full other = refl
