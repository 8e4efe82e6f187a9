-- Children in the order in which they were attached, each of a third of the weight of the one before.
use Rattle.std.specs.Prelude.{◌≡◌, ℕ, ◌*◌, ◌==◌, ◌≤◌, Bool, true, false, ◌||◌, List, [], ◌∷◌, ◌++◌, Some, None, if◌then◌else◌, refl}
use Rattle.std.proofs.Common.{sym, ap, ◌∙◌, subst, arith}
use Rattle.std.proofs.lemmas.Bool.{eqb-true, eq-eqb, or_right}
use Rattle.job_model.specs.Trees.{is_among}
use Rattle.job_model.specs.Families.{newest, newest_after, older, older_after}
use Rattle.job_model.proofs.Rows.{same}

-- each weighs at most a third of the one before, the first of this bound
abbrev pub IsFalling : (ℕ → ℕ) → ℕ → List ℕ → Type 0
IsFalling weight bound [] = Unit {0}
IsFalling weight bound (c ∷ cs) = (1 ≤ weight c) × (3 * weight c ≤ bound) × IsFalling weight (weight c) cs

-- is the first, or stands among the rest
among_cases : (P : Type 0) (e x : ℕ) (xs : List ℕ) → is_among e (x ∷ xs) ≡ true → (e ≡ x → P) → (is_among e xs ≡ true → P) → P
among_cases P e x xs h first rest = by_test (e == x) refl h
  where
    by_test : (b : Bool) → (e == x) ≡ b → (b || is_among e xs) ≡ true → P
    by_test true k h = first (eqb-true e x k)
    by_test false k h = rest h

pub falling_light : (w : ℕ → ℕ) (m : ℕ) (cs : List ℕ) (e : ℕ) → IsFalling w m cs → is_among e cs ≡ true → (1 ≤ w e) × (3 * w e ≤ m)
falling_light w m [] e f h = cc
falling_light w m (c ∷ cs) e f h =
    among_cases _ e c cs h
    (λ k. (subst (λ x. 1 ≤ w x) (sym k) f.0, subst (λ x. 3 * w x ≤ m) (sym k) f.1))
    (λ k. let r = falling_light w (w c) cs e f.2 k in (r.0, three (w e) (w c) m r.0 r.1 f.1))
  where
    three : (a b m : ℕ) → 1 ≤ a → 3 * a ≤ b → 3 * b ≤ m → 3 * a ≤ m
    three a b m p q r = omega arith

-- ---- the newest

-- the last is the lightest
newest_light : (w : ℕ → ℕ) (c : ℕ) (ds : List ℕ) → IsFalling w (w c) ds → w (newest_after c ds) ≤ w c
newest_light w c [] f = omega arith
newest_light w c (d ∷ ds) f = let r = newest_light w d ds f.2 in let a = f.1 in omega arith

newest_alone : (w : ℕ → ℕ) (c : ℕ) (ds : List ℕ) (e : ℕ) → IsFalling w (w c) ds → is_among e (c ∷ ds) ≡ true → w e ≤ w (newest_after c ds)
    → e ≡ newest_after c ds
newest_alone w c [] e f h le = among_cases _ e c [] h (λ k. k) (λ k. cc)
newest_alone w c (d ∷ ds) e f h le =
    among_cases _ e c (d ∷ ds) h
    (λ k. absurd (too_heavy (w e) (w c) (w d) (w (newest_after d ds)) (ap w k) le (newest_light w d ds f.2) f.0 f.1))
    (λ k. newest_alone w d ds e f.2 k le)
  where
    too_heavy : (a c d n : ℕ) → a ≡ c → a ≤ n → n ≤ d → 1 ≤ d → 3 * d ≤ c → ⊥
    too_heavy a c d n p q r s t = omega arith

newest_among : (c : ℕ) (ds : List ℕ) → is_among (newest_after c ds) (c ∷ ds) ≡ true
newest_among c [] = ap (λ b. b || false) (same c)
newest_among c (d ∷ ds) = or_right (newest_after d ds == c) _ (newest_among d ds)

-- the newest child is one of them, and none is as light
pub record IsLightest (w : ℕ → ℕ) (cs : List ℕ) (c : ℕ) : Type 0 where
  pub among : is_among c cs ≡ true
  pub alone : (e : ℕ) → is_among e cs ≡ true → w e ≤ w c → e ≡ c

pub newest_lightest : (w : ℕ → ℕ) (m : ℕ) (cs : List ℕ) (c : ℕ) → IsFalling w m cs → newest cs ≡ Some c → IsLightest w cs c
newest_lightest w m [] c f h = cc
newest_lightest w m (x ∷ xs) c f h =
    let k : newest_after x xs ≡ c = cc in
    subst (IsLightest w (x ∷ xs)) k (record { among = newest_among x xs; alone = λ e a le. newest_alone w x xs e f.2 a le })

-- ---- the one before

-- d stands right before c: any other that weighs no more than d weighs no more than c
pub record IsNextTo (w : ℕ → ℕ) (cs : List ℕ) (c d : ℕ) : Type 0 where
  pub among : is_among d cs ≡ true
  pub heavier : 3 * w c ≤ w d
  pub between : (e : ℕ) → is_among e cs ≡ true → w e ≤ w d → (e == d) ≡ false → w e ≤ w c

older_next : (w : ℕ → ℕ) (b : ℕ) (cs : List ℕ) (c d : ℕ) → IsFalling w (w b) cs → older_after (Some b) c cs ≡ Some d
    → IsNextTo w (b ∷ cs) c d
older_next w b [] c d f h = cc
older_next w b (x ∷ xs) c d f h = by_test (c == x) refl h (older_next w x xs c d f.2)
  where
    light : (a b c : ℕ) → 1 ≤ a → 3 * a ≤ b → a ≤ b
    light a b c p q = omega arith

    too_heavy : (a b d x : ℕ) → a ≡ b → a ≤ d → d ≤ x → 1 ≤ x → 3 * x ≤ b → ⊥
    too_heavy a b d x p q r s t = omega arith

    at_most : (e : ℕ) → is_among e (x ∷ xs) ≡ true → w e ≤ w x
    at_most e a = among_cases _ e x xs a (λ k. subst (λ z. w z ≤ w x) (sym k) (omega arith)) (λ k. let r = falling_light w (w x) xs e f.2 k
        in light (w e) (w x) 0 r.0 r.1)

    by_test : (t : Bool) → (c == x) ≡ t → (if t then Some b else older_after (Some x) c xs) ≡ Some d
        → (older_after (Some x) c xs ≡ Some d → IsNextTo w (x ∷ xs) c d) → IsNextTo w (b ∷ x ∷ xs) c d
    by_test true k h rest =
        let is : c ≡ x = eqb-true c x k in
        let db : b ≡ d = cc in
        subst (IsNextTo w (b ∷ x ∷ xs) c) db (record {
          among = ap (λ t. t || is_among b (x ∷ xs)) (same b);
          heavier = subst (λ z. 3 * w z ≤ w b) (sym is) f.1;
          between = λ e a le apart. among_cases _ e b (x ∷ xs) a (λ m. absurd (let u : true ≡ false = sym (eq-eqb e b m) ∙ apart in cc))
              (λ m. subst (λ z. w e ≤ w z) (sym is) (at_most e m));
        })
    by_test false k h rest =
        let r = rest h in
        record {
          among = or_right (d == b) (is_among d (x ∷ xs)) r.among;
          heavier = r.heavier;
          between = λ e a le apart. among_cases _ e b (x ∷ xs) a
              (λ m. absurd (too_heavy (w e) (w b) (w d) (w x) (ap w m) le (at_most d r.among) f.0 f.1)) (λ m. r.between e m le apart);
        }

pub older_is_next : (w : ℕ → ℕ) (m : ℕ) (cs : List ℕ) (c d : ℕ) → IsFalling w m cs → older c cs ≡ Some d → IsNextTo w cs c d
older_is_next w m [] c d f h = cc
older_is_next w m (x ∷ xs) c d f h = by_test (c == x) h
  where
    by_test : (t : Bool) → (if t then None else older_after (Some x) c xs) ≡ Some d → IsNextTo w (x ∷ xs) c d
    by_test true h = cc
    by_test false h = older_next w x xs c d f.2 h

-- ---- the oldest

not_oldest : (b c : ℕ) (cs : List ℕ) → is_among c cs ≡ true → older_after (Some b) c cs ≡ None → ⊥
not_oldest b c [] a h = cc
not_oldest b c (x ∷ xs) a h = by_test (c == x) a h (not_oldest x c xs)
  where
    by_test : (t : Bool) → (t || is_among c xs) ≡ true → (if t then Some b else older_after (Some x) c xs) ≡ None
        → (is_among c xs ≡ true → older_after (Some x) c xs ≡ None → ⊥) → ⊥
    by_test true a h rest = cc
    by_test false a h rest = rest a h

-- where none stands before c, none is heavier
pub oldest_heaviest : (w : ℕ → ℕ) (m : ℕ) (cs : List ℕ) (c e : ℕ) → IsFalling w m cs → older c cs ≡ None → is_among c cs ≡ true
    → is_among e cs ≡ true → w e ≤ w c
oldest_heaviest w m [] c e f h a b = cc
oldest_heaviest w m (x ∷ xs) c e f h a b = by_test (c == x) refl h a
  where
    light : (a b : ℕ) → 1 ≤ a → 3 * a ≤ b → a ≤ b
    light a b p q = omega arith

    by_test : (t : Bool) → (c == x) ≡ t → (if t then None else older_after (Some x) c xs) ≡ None → (t || is_among c xs) ≡ true → w e ≤ w c
    by_test true k h a =
        let is : c ≡ x = eqb-true c x k in
        subst (λ z. w e ≤ w z) (sym is) (among_cases _ e x xs b (λ m. subst (λ z. w z ≤ w x) (sym m) (omega arith))
        (λ m. let r = falling_light w (w x) xs e f.2 m in light (w e) (w x) r.0 r.1))
    by_test false k h a = absurd (not_oldest x c xs a h)

-- ---- one more

pub falling_push : (w : ℕ → ℕ) (m : ℕ) (cs : List ℕ) (r : ℕ) → IsFalling w m cs → 1 ≤ w r → 3 * w r ≤ m
    → ((c : ℕ) → is_among c cs ≡ true → 3 * w r ≤ w c) → IsFalling w m (cs ++ r ∷ [])
falling_push w m [] r f one le h = (one, le, tt)
falling_push w m (c ∷ cs) r f one le h = (
  f.0,
  f.1,
  falling_push w (w c) cs r f.2 one (h c (ap (λ b. b || is_among c cs) (same c)))
      (λ e a. h e (or_right (e == c) (is_among e cs) a)),
)

-- the same weights, the same order
pub falling_same : (w v : ℕ → ℕ) (m n : ℕ) (cs : List ℕ) → m ≡ n → ((c : ℕ) → is_among c cs ≡ true → v c ≡ w c) → IsFalling w m cs
    → IsFalling v n cs
falling_same w v m n [] e h f = tt
falling_same w v m n (c ∷ cs) e h f =
    let k : v c ≡ w c = h c (ap (λ b. b || is_among c cs) (same c)) in (
      subst (λ x. 1 ≤ x) (sym k) f.0,
      at_most (w c) (v c) m n k e f.1,
      falling_same w v (w c) (v c) cs (sym k) (λ x a. h x (or_right (x == c) (is_among x cs) a)) f.2,
    )
  where
    at_most : (a b m n : ℕ) → b ≡ a → m ≡ n → 3 * a ≤ m → 3 * b ≤ n
    at_most a b m n p q r = omega arith
