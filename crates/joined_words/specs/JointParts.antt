-- The two histories are parts of the one.
use Rattle.std.proofs.Common.{◌≡◌, ◌≢◌, ℕ, arith, List, [], ◌∷◌, ◌++◌, refl, sym, ap, subst}
use mathlib.Core.Option.{Option, some, none, some-injective, some-ne-none}
use Rattle.either.specs.declared.Either.{Either}
use Rattle.either.specs.declared.Either.TheVariants.{Left, Right}
use Rattle.joined_words.specs.Parts.{kept, entries_in, tag_in, IsPartOf}
use Rattle.joined_words.specs.Joints.{first_of, second_of, joint_who, IsJointLegal, joint_size, JointFits, first_part, second_part}

-- an entry of another part adds none
none_added : {E F : Type 0} (read : E → Option F) (log : List E) (e : E) → read e ≡ none
    → entries_in read (log ++ e ∷ []) ≡ entries_in read log
none_added read [] e is = ap (λ o. kept o []) is
none_added read (x ∷ xs) e is = ap (kept (read x)) (none_added read xs e is)

module _ {E K F L : Type 0} (legal : K → List E → Type 0) (fits : K → List E → ℕ → ℕ → Type 0) (who : E → ℕ) (size : K → ℕ)
    (legal' : L → List F → Type 0) (fits' : L → List F → ℕ → ℕ → Type 0) (who' : F → ℕ) (size' : L → ℕ) where
  abbrev Fit : K × L → List (Either E F) → ℕ → ℕ → Type 0
  Fit = JointFits fits size fits' size'

  first_own : (x : Either E F) (e : E) → first_of x ≡ some e → joint_who who who' x ≡ tag_in 0 (who e)
  first_own (Left x) e is = ap (λ y. tag_in 0 (who y)) (some-injective x e is)
  first_own (Right f) e is = absurd (some-ne-none e (sym is))

  first_apart : (x : Either E F) (t : ℕ) → first_of x ≡ none → joint_who who who' x ≢ tag_in 0 t
  first_apart (Left x) t is h = absurd (some-ne-none x is)
  first_apart (Right f) t is h = omega arith

  second_own : (x : Either E F) (f : F) → second_of x ≡ some f → joint_who who who' x ≡ tag_in 1 (who' f)
  second_own (Left x) f is = absurd (some-ne-none f (sym is))
  second_own (Right y) f is = ap (λ y. tag_in 1 (who' y)) (some-injective y f is)

  second_apart : (x : Either E F) (t : ℕ) → second_of x ≡ none → joint_who who who' x ≢ tag_in 1 t
  second_apart (Left x) t is h = omega arith
  second_apart (Right y) t is h = absurd (some-ne-none y is)

  -- what is of the first is not of the second
  first_only : (x : Either E F) (e : E) → first_of x ≡ some e → second_of x ≡ none
  first_only (Left x) e is = refl
  first_only (Right f) e is = absurd (some-ne-none e (sym is))

  second_only : (x : Either E F) (f : F) → second_of x ≡ some f → first_of x ≡ none
  second_only (Left x) f is = absurd (some-ne-none f (sym is))
  second_only (Right y) f is = refl

  pub is_first : IsPartOf (first_part {E = E} {K = K} {F = F} {L = L}) (IsJointLegal legal legal') Fit (joint_who who who')
      (joint_size size size') legal fits who size
  is_first = record {
    small = omega arith;
    own = first_own;
    apart = first_apart;
    within = λ k. omega arith;
    legal_in = λ k log h. h.0;
    legal_with = λ k log e f is h g.
        (g, subst (legal' k.1) (sym (none_added second_of log e (first_only e f is))) h.1);
    fits_in = λ k log i n lt h. h.first i lt refl;
    fits_of = λ k log i n lt h. record {
      quiet = λ few. absurd (let q : ⊥ = omega arith in q);
      first = λ j lt' is. subst (λ x. fits k.0 (entries_in first_of log) x n) (let q : i ≡ j = omega arith in q) h;
      second = λ j lt' is. absurd (let q : ⊥ = omega arith in q);
    };
    leaves = λ k log e f i n is off h. record {
      quiet = h.quiet;
      first = λ j lt here. absurd (off j lt here);
      second = λ j lt here. subst (λ l. fits' k.1 l j n) (sym (none_added second_of log e (first_only e f is))) (h.second j lt here);
    };
  }

  pub is_second : IsPartOf (second_part {E = E} {K = K} {F = F} {L = L} size) (IsJointLegal legal legal') Fit (joint_who who who')
      (joint_size size size') legal' fits' who' size'
  is_second = record {
    small = omega arith;
    own = second_own;
    apart = second_apart;
    within = λ k. omega arith;
    legal_in = λ k log h. h.1;
    legal_with = λ k log e f is h g.
        (subst (legal k.0) (sym (none_added first_of log e (second_only e f is))) h.0, g);
    fits_in = λ k log i n lt h. h.second i lt refl;
    fits_of = λ k log i n lt h. record {
      quiet = λ few. absurd (let q : ⊥ = omega arith in q);
      first = λ j lt' is. absurd (let q : ⊥ = omega arith in q);
      second = λ j lt' is. subst (λ x. fits' k.1 (entries_in second_of log) x n) (let q : i ≡ j = omega arith in q) h;
    };
    leaves = λ k log e f i n is off h. record {
      quiet = h.quiet;
      first = λ j lt here. subst (λ l. fits k.0 l j n) (sym (none_added first_of log e (second_only e f is))) (h.first j lt here);
      second = λ j lt here. absurd (off j lt here);
    };
  }
