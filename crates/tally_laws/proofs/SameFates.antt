-- The fate of an element does not depend on the order of the acts: lists of the same acts, those of a legal history, have the same.
use Rattle.std.specs.Prelude.{◌≡◌, ℕ, ◌+◌, ◌≤◌, ◌⊎◌, nat_lt, ◌==◌, Bool, true, false, not, ◌&&◌, ◌||◌, cond, is_some, List, [], ◌∷◌, Option, Some, None, refl, if◌then◌else◌}
use Rattle.std.specs.List.{list_any}
use Rattle.std.proofs.Common.{ap, sym, ◌∙◌, arith, inl, inr, ⊎_elim}
use Rattle.co_base.specs.declared.names.WaitId.{WaitId}
use Rattle.channel_model.specs.declared.acts.Act.{Act}
use Rattle.channel_model.specs.declared.acts.Act.TheVariants.{Hand, Put, Offer, Await}
use Rattle.channel_model.specs.declared.acts.Entry.{Entry}
use Rattle.channel_model.specs.Channels.{Shape}
use Rattle.channel_model.specs.Histories.{replay, acts_in, Legal}
use Rattle.channel_model.specs.Fates.{is_at, brings, places_wait, offers_at, hands, takes, admits, drops_at, spurns_at, drains, withdraws, settles_value, settles_undelivered, or_else, first_some, element_at, wait_at, is_wait, resolves_at, resolves_elsewhere, is_chosen_elsewhere, of_wait, of_offer, is_received, is_taken_back, is_undelivered_at, is_withdrawn, fate_at}
use Rattle.channel_model.specs.Laws.{how_many}
use Rattle.channel_fates.proofs.Appended.{any_count}
use Rattle.channel_fates.proofs.OncePlaced.{enters, answers, awaits, Counted}
use Rattle.channel_fates.proofs.Traced.{replay_traced}
use Rattle.tally_laws.proofs.SameMembers.{Among, SameMembers, among_any, same_any}

-- ---- the first act that has something

first_among : {A : Type 0} (f : Act → Option A) (xs : List Act) (v : A) → first_some f xs ≡ Some v → (a : Act) × Among a xs × (f a ≡ Some v)
unfolding Among
first_among f [] v e = cc
first_among f (x ∷ xs) v e = by_first (f x) refl (λ k. first_among f xs v k) e
  where
    by_first : (o : Option _) → f x ≡ o → (first_some f xs ≡ Some v → (a : Act) × Among a xs × (f a ≡ Some v))
        → or_else o (first_some f xs) ≡ Some v → (a : Act) × ((a ≡ x) ⊎ Among a xs) × (f a ≡ Some v)
    by_first None q more h = let r = more h in (r.0, inr r.1, r.2)
    by_first (Some u) q more h = (x, inl refl, q ∙ h)

-- where one act at most has something, the first that has it is that act
first_once : {A : Type 0} (f : Act → Option A) (xs : List Act) (a : Act) (v : A) → how_many (λ x. is_some (f x)) xs ≤ 1 → Among a xs
    → f a ≡ Some v → first_some f xs ≡ Some v
unfolding Among
first_once f [] a v one m e = absurd m
first_once f (x ∷ xs) a v one m e = ⊎_elim (λ q. ap (λ o. or_else o (first_some f xs)) (ap f (sym q) ∙ e))
    (λ n. later n (f x) refl (λ few. first_once f xs a v few n e)) m
  where
    later : Among a xs → (o : Option _) → f x ≡ o → (how_many (λ y. is_some (f y)) xs ≤ 1 → first_some f xs ≡ Some v)
        → first_some f (x ∷ xs) ≡ Some v
    later n None q more =
        let few : how_many (λ y. is_some (f y)) xs ≤ 1 = omega (arith, one) in
        ap (λ o. or_else o (first_some f xs)) q ∙ more few
    later n (Some u) q more =
        let here : cond (is_some (f x)) 1 0 ≡ 1 = ap {B = ℕ} (λ o. cond (is_some o) 1 0) q in
        let twice = any_count (λ y. is_some (f y)) xs (among_any (λ y. is_some (f y)) xs a n (ap is_some e)) in
        absurd (omega (arith, one, here, twice))

-- where none is first, none is there
no_first : {A : Type 0} (f : Act → Option A) (zs : List Act) → first_some f zs ≡ None → list_any (λ y. is_some (f y)) zs ≡ true → ⊥
no_first f [] h k = cc
no_first f (z ∷ zs) h k = by_head (f z) refl (λ a b. no_first f zs a b) h k
  where
    by_head : (o : Option _) → f z ≡ o → (first_some f zs ≡ None → list_any (λ y. is_some (f y)) zs ≡ true → ⊥)
        → or_else o (first_some f zs) ≡ None → (is_some o || list_any (λ y. is_some (f y)) zs) ≡ true → ⊥
    by_head None q more h k = more h k
    by_head (Some u) q more h k = cc

same_first : {A : Type 0} (f : Act → Option A) (xs ys : List Act) → SameMembers xs ys → how_many (λ x. is_some (f x)) xs ≤ 1
    → first_some f xs ≡ first_some f ys
same_first f xs ys same one = by_second (first_some f ys) refl
  where
    none_such : (v : _) → first_some f xs ≡ Some v → first_some f ys ≡ None → ⊥
    none_such v e none =
        let m = first_among f xs v e in
        no_first f ys none (among_any (λ y. is_some (f y)) ys m.0 (same.to m.0 m.1) (ap is_some m.2))

    by_both : (o : Option _) → first_some f xs ≡ o → first_some f ys ≡ None → first_some f xs ≡ None
    by_both None e none = e
    by_both (Some v) e none = absurd (none_such v e none)

    by_second : (o : Option _) → first_some f ys ≡ o → first_some f xs ≡ o
    by_second None e = by_both (first_some f xs) refl e
    by_second (Some v) e = let m = first_among f ys v e in first_once f xs m.0 v one (same.back m.0 m.1) m.2

-- ---- one act at most names a place so

some_if : {A : Type 0} (b : Bool) (x : A) → is_some (if b then Some x else None) ≡ b
some_if true x = refl
some_if false x = refl

fewer : (f g h : Act → Bool) → ((a : Act) → cond (f a) 1 0 ≤ cond (g a) 1 0 + cond (h a) 1 0) → (acts : List Act)
    → how_many f acts ≤ how_many g acts + how_many h acts
fewer f g h less [] = omega arith
fewer f g h less (a ∷ acts) = omega (arith, less a, fewer f g h less acts)

brings_less : (c p : ℕ) (a : Act) → cond (is_some (brings c p a)) 1 0 ≤ cond (answers c p a) 1 0 + cond (enters c p a) 1 0
brings_less c p (Hand d q v) = omega (arith, ap {B = ℕ} (λ b. cond b 1 0) (some_if (is_at c p d q) v))
brings_less c p (Put d q v) = omega (arith, ap {B = ℕ} (λ b. cond b 1 0) (some_if (is_at c p d q) v))
brings_less c p (Offer d q v w k) = omega (arith, ap {B = ℕ} (λ b. cond b 1 0) (some_if (is_at c p d q) v))
brings_less c p other = omega arith

places_less : (c p : ℕ) (a : Act) → cond (is_some (places_wait c p a)) 1 0 ≤ cond (awaits c p a) 1 0 + cond (enters c p a) 1 0
places_less c p (Offer d q v w k) = omega (arith, ap {B = ℕ} (λ b. cond b 1 0) (some_if (is_at c p d q) w))
places_less c p (Await d q w k) = omega (arith, ap {B = ℕ} (λ b. cond b 1 0) (some_if (is_at c p d q) w))
places_less c p other = omega arith

offers_less : (c p : ℕ) (a : Act) → cond (is_some (offers_at c p a)) 1 0 ≤ cond (awaits c p a) 1 0 + cond (enters c p a) 1 0
offers_less c p (Offer d q v w k) = omega (arith, ap {B = ℕ} (λ b. cond b 1 0) (some_if (is_at c p d q) k))
offers_less c p other = omega arith

-- ---- the words on fates

of_wait_same : (f g : WaitId → Bool) (o u : Option WaitId) → ((w : WaitId) → f w ≡ g w) → o ≡ u → of_wait f o ≡ of_wait g u
of_wait_same f g o u same e = pointwise o ∙ ap (of_wait g) e
  where
    pointwise : (o : Option WaitId) → of_wait f o ≡ of_wait g o
    pointwise None = refl
    pointwise (Some w) = same w

of_offer_same : (f g : ℕ → Bool) (o u : Option ℕ) → ((k : ℕ) → f k ≡ g k) → o ≡ u → of_offer f o ≡ of_offer g u
of_offer_same f g o u same e = pointwise o ∙ ap (of_offer g) e
  where
    pointwise : (o : Option ℕ) → of_offer f o ≡ of_offer g o
    pointwise None = refl
    pointwise (Some k) = same k

and_same : (a b c d : Bool) → a ≡ b → c ≡ d → (a && c) ≡ (b && d)
and_same a b c d e f = ap (λ x. x && c) e ∙ ap (λ x. b && x) f

or_same : (a b c d : Bool) → a ≡ b → c ≡ d → (a || c) ≡ (b || d)
or_same a b c d e f = ap (λ x. x || c) e ∙ ap (λ x. b || x) f

any_same : (f g : Act → Bool) (xs : List Act) → ((a : Act) → f a ≡ g a) → list_any f xs ≡ list_any g xs
any_same f g [] same = refl
any_same f g (x ∷ xs) same = or_same (f x) (g x) (list_any f xs) (list_any g xs) (same x) (any_same f g xs same)

-- lists that agree on all of this have the same fates
record Agree (xs ys : List Act) : Type 0 where
  any : (f : Act → Bool) → list_any f xs ≡ list_any f ys
  elements : (c p : ℕ) → element_at c p xs ≡ element_at c p ys
  waits : (c p : ℕ) → wait_at c p xs ≡ wait_at c p ys
  clauses : (c p : ℕ) → first_some (offers_at c p) xs ≡ first_some (offers_at c p) ys

module _ (xs ys : List Act) (h : Agree xs ys) (c p : ℕ) where
  ended_same : (f : WaitId → Act → Bool) → of_wait (λ w. list_any (f w) xs) (wait_at c p xs) ≡
      of_wait (λ w. list_any (f w) ys) (wait_at c p ys)
  ended_same f = of_wait_same (λ w. list_any (f w) xs) (λ w. list_any (f w) ys) (wait_at c p xs) (wait_at c p ys) (λ w. h.any (f w))
      (h.waits c p)

  handed_same : (f : WaitId → Act → Bool) → (list_any (hands c p) xs && of_wait (λ w. list_any (f w) xs) (wait_at c p xs)) ≡
      (list_any (hands c p) ys && of_wait (λ w. list_any (f w) ys) (wait_at c p ys))
  handed_same f = and_same _ _ _ _ (h.any (hands c p)) (ended_same f)

  received_same : is_received c p xs ≡ is_received c p ys
  received_same = or_same _ _ _ _ (h.any (takes c p)) (handed_same settles_value)

  not_admitted_same : not (list_any (admits c p) xs) ≡ not (list_any (admits c p) ys)
  not_admitted_same = ap not (h.any (admits c p))

  taken_back_same : is_taken_back c p xs ≡ is_taken_back c p ys
  taken_back_same = and_same _ _ _ _ not_admitted_same (ended_same withdraws)

  undelivered_same : is_undelivered_at c p xs ≡ is_undelivered_at c p ys
  undelivered_same =
      or_same _ _ _ _ (h.any (drains c p))
      (or_same _ _ _ _ (handed_same settles_undelivered)
      (of_offer_same (λ k. (k == 0) && is_taken_back c p xs) (λ k. (k == 0)
      && is_taken_back c p ys) (first_some (offers_at c p) xs) (first_some (offers_at c p) ys)
      (λ k. ap (λ b. (k == 0) && b) taken_back_same) (h.clauses c p)))

  elsewhere_same : (w : WaitId) (o : Option (ℕ × ℕ)) → resolves_elsewhere c p w xs o ≡ resolves_elsewhere c p w ys o
  elsewhere_same w None = refl
  elsewhere_same w (Some x) = ap (λ o. not (is_at c p x.0 x.1) && is_wait w o) (h.waits x.0 x.1)

  chosen_same : (w : WaitId) → is_chosen_elsewhere c p w xs ≡ is_chosen_elsewhere c p w ys
  chosen_same w =
      h.any (λ a. resolves_elsewhere c p w xs (resolves_at a))
      ∙ any_same (λ a. resolves_elsewhere c p w xs (resolves_at a)) (λ a. resolves_elsewhere c p w ys (resolves_at a)) ys
      (λ a. elsewhere_same w (resolves_at a))

  withdrawn_same : is_withdrawn c p xs ≡ is_withdrawn c p ys
  withdrawn_same = of_offer_same _ _ (first_some (offers_at c p) xs) (first_some (offers_at c p) ys)
      (λ k. ap (λ b. nat_lt 0 k && b)
      (or_same _ _ _ _ taken_back_same
      (and_same _ _ _ _ not_admitted_same (of_wait_same (λ w. is_chosen_elsewhere c p w xs) (λ w. is_chosen_elsewhere c p w ys)
      (wait_at c p xs) (wait_at c p ys) chosen_same (h.waits c p)))))
      (h.clauses c p)

  fate_same : fate_at c p xs ≡ fate_at c p ys
  fate_same = rw (received_same, undelivered_same, h.any (drops_at c p), h.any (spurns_at c p), withdrawn_same) refl

agree : (shape : Shape) (history : List Entry) (ys : List Act) → Legal shape history → SameMembers (acts_in history) ys
    → Agree (acts_in history) ys
agree shape history ys legal same = record {
  any = same_any xs ys same;
  elements = λ c p. same_first (brings c p) xs ys same (let n =
      fewer (λ a. is_some (brings c p a)) (answers c p) (enters c p) (brings_less c p) xs in let k = counted c p
      in omega (arith, n, k.receivers, k.given));
  waits = λ c p. same_first (places_wait c p) xs ys same
      (let n = fewer (λ a. is_some (places_wait c p a)) (awaits c p) (enters c p) (places_less c p) xs in let k = counted c p
      in omega (arith, n, k.given));
  clauses = λ c p. same_first (offers_at c p) xs ys same
      (let n = fewer (λ a. is_some (offers_at c p a)) (awaits c p) (enters c p) (offers_less c p) xs in let k = counted c p
      in omega (arith, n, k.given));
}
  where
    xs : List Act
    xs = acts_in history

    counted : (c p : ℕ) → Counted c p xs ((replay history).channels c)
    counted c p = (replay_traced shape history legal).told.counted c p

pub same_elements : (shape : Shape) (history : List Entry) (ys : List Act) (c p : ℕ) → Legal shape history
    → SameMembers (acts_in history) ys → element_at c p (acts_in history) ≡ element_at c p ys
same_elements shape history ys c p legal same = (agree shape history ys legal same).elements c p

pub same_fates : (shape : Shape) (history : List Entry) (ys : List Act) (c p : ℕ) → Legal shape history → SameMembers (acts_in history) ys
    → fate_at c p (acts_in history) ≡ fate_at c p ys
same_fates shape history ys c p legal same = fate_same (acts_in history) ys (agree shape history ys legal same) c p
