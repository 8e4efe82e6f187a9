-- Acts counted at the places to which they belong.
use Rattle.std.specs.Prelude.{◌≡◌, ◌≢◌, ℕ, ◌+◌, ◌<◌, ◌≤◌, Bool, true, false, ◌&&◌, ◌||◌, cond, List, [], ◌∷◌, Option, Some, None, refl}
use Rattle.std.specs.List.{list_any}
use Rattle.std.proofs.Common.{sym, ap, ◌∙◌, arith}
use Rattle.std.proofs.Math.Bool.{or-true}
use Rattle.co_base.specs.declared.names.WaitId.{WaitId}
use Rattle.channel_model.specs.declared.acts.Act.{Act}
use Rattle.channel_model.specs.Fates.{is_at, of_wait}
use Rattle.channel_model.specs.Laws.{how_many}
use Rattle.channel_fates.proofs.Appended.{any_count, none_count}
use Rattle.channel_fates.proofs.OncePlaced.{at_both}
use Rattle.channel_fates.proofs.StandsByActs.{here}
use Rattle.tally_laws.specs.Sums.{sum_places}
use Rattle.tally_laws.proofs.Summed.{places_add, places_none, places_at_one}

-- ---- lists

pub count_same : {X : Type 0} (f g : X → Bool) → ((x : X) → f x ≡ g x) → (xs : List X) → how_many f xs ≡ how_many g xs
count_same f g h [] = refl
count_same f g h (x ∷ xs) = let k = count_same f g h xs
    in let a : ◌≡◌ {A = ℕ} (cond (f x) 1 0) (cond (g x) 1 0) = ap (λ b. cond b 1 0) (h x) in omega arith

pub count_sum : {X : Type 0} (f g h : X → Bool) → ((x : X) → cond (f x) 1 0 + cond (g x) 1 0 ≡ cond (h x) 1 0) → (xs : List X)
    → how_many f xs + how_many g xs ≡ how_many h xs
count_sum f g h k [] = refl
count_sum f g h k (x ∷ xs) = let m = count_sum f g h k xs in let a = k x in omega arith

less_by : (a b : Bool) → (a ≡ true → b ≡ true) → cond a 1 0 ≤ cond b 1 0
less_by true b h = let one : ◌≡◌ {A = ℕ} (cond b 1 0) 1 = ap (λ x. cond x 1 0) (h refl) in omega arith
less_by false b h = omega arith

pub count_less : {X : Type 0} (f g : X → Bool) → ((x : X) → f x ≡ true → g x ≡ true) → (xs : List X) → how_many f xs ≤ how_many g xs
count_less f g h [] = omega arith
count_less f g h (x ∷ xs) = let k = count_less f g h xs in let a = less_by (f x) (g x) (h x) in omega arith

pub count_never : {X : Type 0} (xs : List X) → how_many (λ x. false) xs ≡ 0
count_never [] = refl
count_never (x ∷ xs) = let k = count_never xs in omega arith

-- where at most one passes
pub any_one : {X : Type 0} (f : X → Bool) (xs : List X) → how_many f xs ≤ 1 → cond (list_any f xs) 1 0 ≡ how_many f xs
any_one f xs h = by_test (list_any f xs) refl
  where
    by_test : (b : Bool) → list_any f xs ≡ b → cond b 1 0 ≡ how_many f xs
    by_test true e = let k = any_count f xs e in omega arith
    by_test false e = let k = none_count f xs e in omega arith

pub spread : (b : Bool) (o : Option WaitId) (f : WaitId → Act → Bool) (xs : List Act) → ((w : WaitId) → how_many (f w) xs ≤ 1)
    → how_many (λ a. b && of_wait (λ w. f w a) o) xs ≡ cond (b && of_wait (λ w. list_any (f w) xs) o) 1 0
spread false o f xs h = count_never xs
spread true None f xs h = count_never xs
spread true (Some w) f xs h = sym (any_one (f w) xs (h w))

-- ---- places

-- the act is one of these: whatever it shows, they show
abbrev pub IsIn : Act → List Act → Type 0
IsIn a acts = (g : Act → Bool) → g a ≡ true → list_any g acts ≡ true

-- exactly one place of the first n channels passes, or none
abbrev pub AtOne : ℕ → (ℕ → ℕ) → (ℕ → ℕ → Bool) → Bool → Type 0
AtOne n m g true = (c : ℕ) × (p : ℕ) × (c < n) × (p < m c) × (g c p ≡ true) × ((d q : ℕ) → g d q ≡ true → (d ≡ c) × (q ≡ p))
AtOne n m g false = (c p : ℕ) → g c p ≡ false

counts_true : (b : Bool) → ◌≢◌ {A = ℕ} (cond b 1 0) 0 → b ≡ true
counts_true true h = refl
counts_true false h = absurd (h refl)

one_place : (n : ℕ) (m : ℕ → ℕ) (g : ℕ → ℕ → Bool) (b : Bool) → AtOne n m g b → sum_places n m (λ c p. cond (g c p) 1 0) ≡ cond b 1 0
one_place n m g true h = places_at_one n m (λ c p. cond (g c p) 1 0) h.0 h.1 h.2 h.3 (λ d q x. h.5 d q (counts_true (g d q) x))
    ∙ ap (λ b. cond b 1 0) h.4
one_place n m g false h = places_none n m (λ c p. cond (g c p) 1 0) (λ c p. ap (λ b. cond b 1 0) (h c p))

-- where each act that passes belongs to one place, and no other belongs to any, as many pass as belong to all places
pub by_places : (n : ℕ) (m : ℕ → ℕ) (g : Act → ℕ → ℕ → Bool) (t : Act → Bool) (xs : List Act)
    → ((a : Act) → IsIn a xs → AtOne n m (g a) (t a))
    → sum_places n m (λ c p. how_many (λ a. g a c p) xs) ≡ how_many t xs
by_places n m g t [] h = places_none n m (λ c p. 0) (λ c p. refl)
by_places n m g t (x ∷ xs) h =
    let a = one_place n m (g x) (t x) (h x (λ f e. ap (λ b. b || list_any f xs) e)) in
    let k = by_places n m g t xs (λ y i. h y (λ f e. ap (λ b. f x || b) (i f e) ∙ or-true (f x))) in
    places_add n m (λ c p. cond (g x c p) 1 0) (λ c p. how_many (λ y. g y c p) xs) ∙ both _ _ _ _ a k
  where
    both : (i j k l : ℕ) → i ≡ j → k ≡ l → i + k ≡ j + l
    both i j k l e f = omega arith

-- the place that an act names
pub at_its_place : (n : ℕ) (m : ℕ → ℕ) (d q : ℕ) → (d < n) × (q < m d) → AtOne n m (λ c p. is_at c p d q) true
at_its_place n m d q r = (d, q, r.0, r.1, here d q, λ c p e. let k = at_both c p d q e in (sym k.0, sym k.1))

-- a place that passes exactly where this one test does
pub by_one_test : (n : ℕ) (m : ℕ → ℕ) (g : ℕ → ℕ → Bool) (b : Bool) → (b ≡ true → AtOne n m g true) → (b ≡ false → AtOne n m g false)
    → AtOne n m g b
by_one_test n m g true h k = h refl
by_one_test n m g false h k = k refl
