-- Lists of other lanes, one after the other.
use Rattle.std.proofs.Common.{◌≡◌, ℕ, ◌+◌, ◌<◌, ◌≤◌, List, [], ◌∷◌, ◌++◌, length, map, set, get_or, Option, Some, None, sym, refl, ap, ◌∙◌, subst, inl, inr, ⊎_elim, append_assoc, append-nil, arith}
use Rattle.std.proofs.lemmas.List.{length-append}
use Rattle.steal_lanes.specs.declared.other_lane.OtherLane.{OtherLane}
use Rattle.steal_lanes.specs.Lanes.{other_deque, Took, TookNothing, NothingFrom, TookFrom, OthersAnswer}

-- the lanes looked at so far gave nothing; those behind are as they were
pub record LookedAt (next : ℕ) (old now : List OtherLane) : Type 0 where
  pub front : List OtherLane
  pub front_now : List OtherLane
  pub back : List OtherLane
  pub before : old ≡ front ++ back
  pub after : now ≡ front_now ++ back
  pub nothing : NothingFrom front front_now
  pub count : length front_now ≡ next

pub none_looked_at : (old : List OtherLane) → LookedAt 0 old old
none_looked_at old = record { front = []; front_now = []; back = old; before = refl; after = refl; nothing = tt; count = refl }

nothing_more : (xs ys : List OtherLane) (x y : OtherLane) → NothingFrom xs ys → TookNothing x y → NothingFrom (xs ++ x ∷ []) (ys ++ y ∷ [])
nothing_more [] [] x y n f = (f, tt)
nothing_more [] (v ∷ vs) x y n f = absurd n
nothing_more (u ∷ us) [] x y n f = absurd n
nothing_more (u ∷ us) (v ∷ vs) x y n f = (n.0, nothing_more us vs x y n.1 f)

took_behind : (t : ℕ) (xs ys back : List OtherLane) (x y : OtherLane) → NothingFrom xs ys → Took t x y
    → TookFrom t (xs ++ x ∷ back) (ys ++ y ∷ back)
took_behind t [] [] back x y n k = inl (k, refl)
took_behind t [] (v ∷ vs) back x y n k = absurd n
took_behind t (u ∷ us) [] back x y n k = absurd n
took_behind t (u ∷ us) (v ∷ vs) back x y n k = inr (n.0, took_behind t us vs back x y n.1 k)

pub same_by_nothing : (xs ys : List OtherLane) → NothingFrom xs ys → map other_deque ys ≡ map other_deque xs
same_by_nothing [] [] n = refl
same_by_nothing [] (y ∷ ys) n = absurd n
same_by_nothing (x ∷ xs) [] n = absurd n
same_by_nothing (x ∷ xs) (y ∷ ys) n = λ i. n.0.deque i ∷ same_by_nothing xs ys n.1 i

pub same_by_took : (t : ℕ) (xs ys : List OtherLane) → TookFrom t xs ys → map other_deque ys ≡ map other_deque xs
same_by_took t [] ys k = absurd k
same_by_took t (x ∷ xs) [] k = absurd k
same_by_took t (x ∷ xs) (y ∷ ys) k = ⊎_elim (λ (h : Took t x y × (ys ≡ xs)). λ i. h.0.deque i ∷ map other_deque (h.1 i))
    (λ (h : TookNothing x y × TookFrom t xs ys). λ i. h.0.deque i ∷ same_by_took t xs ys h.1 i) k

-- ---- one turn

-- what stands at the place that is looked at next
there : {A : Type 0} (fs back : List A) (x : A) → x ≡ get_or (fs ++ back) (length fs) x → length fs < length (fs ++ back) → (more : List A)
    × (back ≡ x ∷ more)
there [] [] x e lt = absurd (omega arith)
there [] (z ∷ zs) x e lt = (zs, λ i. sym e i ∷ zs)
there (f ∷ fs) back x e lt = there fs back x e (omega arith)

put_there : {A : Type 0} (fs more : List A) (x y : A) → set (fs ++ x ∷ more) (length fs) y ≡ fs ++ y ∷ more
put_there [] more x y = refl
put_there (f ∷ fs) more x y = ap (λ l. f ∷ l) (put_there fs more x y)

turn : (n : ℕ) (old now : List OtherLane) (x : OtherLane) → (k : LookedAt n old now) → x ≡ get_or now n x → n < length now
    → (more : List OtherLane) × (k.back ≡ x ∷ more)
turn n old now x k e lt =
    there k.front_now k.back x (e ∙ ap (λ (l : List OtherLane). get_or l n x) k.after
    ∙ ap (λ m. get_or (k.front_now ++ k.back) m x) (sym k.count)) (let c = k.count
    in let m : length now ≡ length (k.front_now ++ k.back) = ap length k.after in omega arith)

turned : (n : ℕ) (old now : List OtherLane) (x y : OtherLane) (k : LookedAt n old now) (more : List OtherLane) → k.back ≡ x ∷ more
    → set now n y ≡ k.front_now ++ y ∷ more
turned n old now x y k more b = ap (λ (l : List OtherLane). set l n y) (k.after ∙ ap (λ l. k.front_now ++ l) b)
    ∙ ap (λ m. set (k.front_now ++ x ∷ more) m y) (sym k.count) ∙ put_there k.front_now more x y

pub looked_next : (n : ℕ) (old now : List OtherLane) (x y : OtherLane) → LookedAt n old now → x ≡ get_or now n x → n < length now
    → TookNothing x y → LookedAt (n + 1) old (set now n y)
looked_next n old now x y k e lt f =
    let b = turn n old now x k e lt in
    record {
      front = k.front ++ x ∷ [];
      front_now = k.front_now ++ y ∷ [];
      back = b.0;
      before = k.before ∙ ap (λ l. k.front ++ l) b.1 ∙ sym (append_assoc k.front (x ∷ []) b.0);
      after = turned n old now x y k b.0 b.1 ∙ sym (append_assoc k.front_now (y ∷ []) b.0);
      nothing = nothing_more k.front k.front_now x y k.nothing f;
      count = length-append k.front_now (y ∷ []) ∙ ap (λ m. m + 1) k.count;
    }

pub took_next : (n t : ℕ) (old now : List OtherLane) (x y : OtherLane) → LookedAt n old now → x ≡ get_or now n x → n < length now
    → Took t x y → TookFrom t old (set now n y)
took_next n t old now x y k e lt f =
    let b = turn n old now x k e lt in
    subst (λ (p : List OtherLane × List OtherLane). TookFrom t p.0 p.1)
    (λ i. (sym (k.before ∙ ap (λ l. k.front ++ l) b.1) i, sym (turned n old now x y k b.0 b.1) i))
    (took_behind t k.front k.front_now b.0 x y k.nothing f)

none_left : (back : List OtherLane) → length back ≤ 0 → back ≡ []
none_left [] le = refl
none_left (b ∷ bs) le = absurd (omega arith)

pub looked_all : (n : ℕ) (old now : List OtherLane) → LookedAt n old now → length now ≤ n → NothingFrom old now
looked_all n old now k le =
    let m : length now ≡ length k.front_now + length k.back = ap length k.after ∙ length-append k.front_now k.back in
    let c = k.count in
    let none = none_left k.back (omega arith) in
    subst (λ (p : List OtherLane × List OtherLane). NothingFrom p.0 p.1)
    (λ i. (
      sym (k.before ∙ ap (λ l. k.front ++ l) none ∙ append-nil k.front) i,
      sym (k.after ∙ ap (λ l. k.front_now ++ l) none ∙ append-nil k.front_now) i,
    )) k.nothing

pub same_by_answer : (old new : List OtherLane) (r : Option ℕ) → OthersAnswer old new r → map other_deque new ≡ map other_deque old
same_by_answer old new None h = same_by_nothing old new h
same_by_answer old new (Some t) h = same_by_took t old new h
