-- Once all passes have ended, what lies in the slots of a lap are the values that were put and not received, in their order.
use Rattle.std.specs.Prelude.{◌≡◌, ℕ, zero, suc, ◌+◌, ◌-◌, ◌*◌, ◌/◌, ◌%◌, ◌^◌, ◌==◌, ◌<◌, ◌≤◌, Bool, true, false, List, [], ◌∷◌, ◌++◌, length, take, drop, Option, Some, None, option_to_list, if◌then◌else◌, refl}
use Rattle.std.proofs.Common.{sym, ap, ◌∙◌, subst, arith, get_or, append-nil, eq-eqb, le_trans, mod-lt, div-add-mod', suc-mul, lt_of_not-le}
use Rattle.std.proofs.lemmas.Nat.{mod-mul-add}
use Rattle.std.proofs.lemmas.List.{length-drop, take_all}
use mathlib.Core.Logic.{dite}
use mathlib.Core.Option.{some, some-injective, some-ne-none}
use native.Mathlib.Decide.{dec_le}
use lib.ListN.{get_elem?}
use Rattle.atomic_table.specs.Table.{State as Table, Final, Seen as SeenOf}
use Rattle.worded.specs.Views.{has_tag}
use Rattle.worded.specs.Histories.{entries_of}
use Rattle.worded.proofs.TagsAndPrefixes.{entries_of_rest, entries_of-append}
use Rattle.ring_channel.specs.declared.act.RingEntry.{RingEntry}
use Rattle.ring_channel.specs.Rings.{Cell, free, moving, standing, leaving, is_held, State, state_of, Legal, maker}
use Rattle.ring_channel.specs.Tables.{home_of, HoldsRing}
use Rattle.ring_channel.specs.Seen.{Seen, now_in, IsIdle}
use Rattle.ring_channel.specs.Orders.{IsAt}
use Rattle.ring_channel.specs.Passes.{values_of, values_until, left_in}
use Rattle.ring_channel.proofs.Laps.{same_lap}
use Rattle.ring_channel.proofs.StatesStaySound.{HoldsAt, Sound, SlotOk, sound_of, slot_of, le_up}
use Rattle.ring_channel.proofs.StepsKeep.{head_word}
use Rattle.ring_channel.proofs.InOrder.{kept_at, few_kept}
use Rattle.ring_channel.proofs.NobodyHolds.{fresh_idle}

-- ---- numbers

upon : (a k : ℕ) → a ≤ a + k
upon a k = omega arith

in_lap : (a k n : ℕ) → k < n → a + k < a + n
in_lap a k n lt = omega (arith, lt)

below_suc : (k n : ℕ) → suc k ≤ n → k < n
below_suc k n le = omega (arith, le)

le_below : (k n : ℕ) → suc k ≤ n → k ≤ n
le_below k n le = omega (arith, le)

lap_above : (q p m n : ℕ) → q < m → m ≤ p → p < q + n → q ≤ p
lap_above q p m n lt le near = omega (arith, lt, le)

lap_on : (p a q n : ℕ) → p < a + n → a ≤ q → p < q + n
lap_on p a q n lt le = omega (arith, lt, le)

not_here : (q p m : ℕ) → p ≡ q → q < m → m ≤ p → ⊥
not_here q p m is lt le = omega (arith, is, lt, le)

rest_few : (m a k : ℕ) → m ≤ a + k → m - a ≤ k
rest_few m a k le = omega (arith, le)

-- each slot is that of a place of the lap from p on
pub each_slot : (p n k : ℕ) → 0 < n → k < n → (j : ℕ) × (j < n) × ((p + j) % n ≡ k)
each_slot p n k pos lt =
    let a : ℕ = p / n in let r : ℕ = p % n in let is : a * n + r ≡ p = div-add-mod' p n in let near : r < n = mod-lt p pos in
    dite (dec_le r k)
    (λ le. (
      k - r,
      omega (arith, lt),
      (let e : p + (k - r) ≡ a * n + k = omega (arith, is, le) in ap (λ (z : ℕ). z % n) e ∙ mod-mul-add a n k lt),
    ))
    (λ far. let gt : k < r = lt_of_not-le far in (
      k + n - r,
      omega (arith, near, gt),
      (let e : p + (k + n - r) ≡ suc a * n + k = omega (arith, is, near, suc-mul a n) in ap (λ (z : ℕ). z % n) e
          ∙ mod-mul-add (suc a) n k lt),
    ))

-- two places of a lap have two slots
pub two_slots : (p n i k : ℕ) → 0 < n → i < n → k < n → (i ≡ k → ⊥) → (p + i) % n ≡ (p + k) % n → ⊥
two_slots p n i k pos li lk ne same = dite (dec_le i k)
    (λ le. ne (omega (arith, same_lap n (p + i) (p + k) pos (omega (arith, le)) (omega (arith, lk)) (sym same))))
    (λ far. let gt : k < i = lt_of_not-le far in
    ne (omega (arith, same_lap n (p + k) (p + i) pos (omega (arith, gt)) (omega (arith, li)) same)))

-- ---- lists

no_rest : {A : Type 0} (xs ys : List A) → xs ++ ys ≡ [] → ys ≡ []
no_rest [] ys e = e
no_rest (x ∷ xs) ys e = cc

none_plus : (k : ℕ) → 0 + k ≡ k
none_plus k = omega arith

suc_plus : (a k : ℕ) → suc a + k ≡ suc (a + k)
suc_plus a k = omega arith

at_drop : {A : Type 0} (a k : ℕ) (l : List A) → get_elem? (drop a l) k ≡ get_elem? l (a + k)
at_drop zero k l = ap (get_elem? l) (sym (none_plus k))
at_drop (suc a) k [] = refl
at_drop (suc a) k (x ∷ l) = at_drop a k l ∙ ap (get_elem? (x ∷ l)) (sym (suc_plus a k))

take_more : {A : Type 0} (l : List A) (k : ℕ) (x : A) → get_elem? l k ≡ some x → take k l ++ x ∷ [] ≡ take (suc k) l
take_more [] k x e = absurd (some-ne-none x (sym e))
take_more (y ∷ l) zero x e = ap (λ z. z ∷ []) (sym (some-injective y x e))
take_more (y ∷ l) (suc k) x e = ap (λ z. y ∷ z) (take_more l k x e)

some_less : (m n : ℕ) → suc m < suc n → m < n
some_less m n lt = omega (arith, lt)

has_at : {A : Type 0} (l : List A) (p : ℕ) → p < length l → (x : A) × (get_elem? l p ≡ some x)
has_at [] p lt = absurd (omega (arith, lt))
has_at (x ∷ l) zero lt = (x, refl)
has_at (x ∷ l) (suc p) lt = has_at l p (some_less p (length l) lt)

at_word : (l : List ℕ) (i x : ℕ) → get_elem? l i ≡ some x → get_or l i 0 ≡ x
at_word [] i x e = absurd (some-ne-none x (sym e))
at_word (y ∷ l) zero x e = some-injective y x e
at_word (y ∷ l) (suc i) x e = at_word l i x e

in_no_hands : (t : ℕ) → ((u : ℕ) → (t == u) ≡ false) → ⊥
in_no_hands t h = let z : true ≡ false = sym (eq-eqb t t refl) ∙ h t in cc

module _ {T : Type 0} where
  -- ---- a slot that is in nobody's hands

  -- the value that lies in its slot
  abbrev pub rest_of : Cell T → Option T
  rest_of free = None
  rest_of (moving t x) = None
  rest_of (standing x) = Some x
  rest_of (leaving t) = None

  abbrev Unheld : Cell T → Type 0
  Unheld c = (t : ℕ) → is_held t c ≡ false

  at_home : (c : Cell T) → Unheld c → home_of c ≡ some (rest_of c)
  at_home free h = refl
  at_home (moving t x) h = absurd (in_no_hands t h)
  at_home (standing x) h = refl
  at_home (leaving t) h = absurd (in_no_hands t h)

  value_here : (p : ℕ) (x : T) (c : Cell T) → Unheld c → IsAt p x c → rest_of c ≡ Some x
  value_here p x free h k = absurd k
  value_here p x (moving t y) h k = absurd (in_no_hands t h)
  value_here p x (standing y) h k = ap (λ z. Some z) k
  value_here p x (leaving t) h k = absurd k

  -- no value lies in the slot of a place where none was put yet
  none_here : (n : ℕ) (s : State T) (p : ℕ) → Sound n s → s.puts ≤ p → p < s.takes + n → rest_of (s.cells (p % n)) ≡ None
  none_here n s p h le lt = go (s.cells (p % n)) o.holds
    where
      o : SlotOk n s (p % n)
      o = h.slots (p % n) (slot_of n p h.pos)

      q : ℕ
      q = s.at (p % n)

      go : (c : Cell T) → HoldsAt s.takes s.puts s.sent q c → rest_of c ≡ None
      go free k = refl
      go (moving t x) k = refl
      go (standing x) k = let near : p < q + n = lap_on p s.takes q n lt k.0 in
          absurd (not_here q p s.puts (same_lap n q p h.pos (lap_above q p s.puts n k.1 le near) near (sym o.lies)) k.1 le)
      go (leaving t) k = refl

  -- ---- the lap from the first place on

  pub lap_is : (n : ℕ) (s : State T) (xs : List (Option T)) → Sound n s → ((k : ℕ) → Unheld (s.cells k))
      → ((k : ℕ) → k < n → get_elem? xs k ≡ some (rest_of (s.cells k))) → (k : ℕ) → k ≤ n
      → values_until n xs s.takes k ≡ take k (drop s.takes s.sent)
  lap_is n s xs h unheld at zero le = refl
  lap_is n s xs h unheld at (suc k) le = (λ i. lap_is n s xs h unheld at k (le_below k n le) i
      ++ ap values_of (at (p % n) (slot_of n p h.pos)) i)
      ∙ dite (dec_le (length s.sent) p) past here
    where
      p : ℕ
      p = s.takes + k

      l : List T
      l = drop s.takes s.sent

      past : length s.sent ≤ p → take k l ++ option_to_list (rest_of (s.cells (p % n))) ≡ take (suc k) l
      past far = let none = none_here n s p h (subst (λ z. z ≤ p) h.long far) (in_lap s.takes k n (below_suc k n le)) in
          let few : length l ≤ k = subst (λ z. z ≤ k) (sym (length-drop s.takes s.sent)) (rest_few (length s.sent) s.takes k far) in
          ap (λ z. take k l ++ option_to_list z) none ∙ append-nil (take k l) ∙ take_all k l few
          ∙ sym (take_all (suc k) l (le_up (length l) k few))

      here : (length s.sent ≤ p → ⊥) → take k l ++ option_to_list (rest_of (s.cells (p % n))) ≡ take (suc k) l
      here near = let v = has_at s.sent p (lt_of_not-le near) in
          let kept = kept_at n s p v.0 h (upon s.takes k) v.1 in
          ap (λ z. take k l ++ option_to_list z) (value_here p v.0 (s.cells (p % n)) (unheld (p % n)) kept.1)
          ∙ take_more l k v.0 (at_drop s.takes k s.sent ∙ v.1)

  pub whole_lap : (n : ℕ) (s : State T) (xs : List (Option T)) → Sound n s → ((k : ℕ) → Unheld (s.cells k))
      → ((k : ℕ) → k < n → get_elem? xs k ≡ some (rest_of (s.cells k))) → values_until n xs s.takes n ≡ left_in s
  whole_lap n s xs h unheld at = lap_is n s xs h unheld at n (omega arith)
      ∙ take_all n (drop s.takes s.sent) (subst (λ z. z ≤ n) (sym (length-drop s.takes s.sent))
      (rest_few (length s.sent) s.takes n (subst (λ z. z ≤ s.takes + n) (sym h.long) (few_kept n s h))))

  -- one slot more of the lap
  pub lap_more : (n : ℕ) (xs : List (Option T)) (p i : ℕ) (ys : List T) (x : Option T) → ys ≡ values_until n xs p i
      → get_elem? xs ((p + i) % n) ≡ some x → ys ++ option_to_list x ≡ values_until n xs p (suc i)
  lap_more n xs p i ys x are at = λ j. are j ++ ap values_of (sym at) j

  -- ---- all passes have ended

  -- entries are made by somebody
  no_one : (es : List (RingEntry T)) → ((t : ℕ) → entries_of maker t es ≡ []) → es ≡ []
  no_one [] h = refl
  no_one (e ∷ es) h = absurd (let z : e ∷ entries_of maker e.who es ≡ [] =
      ap (λ (b : Bool). if b then e ∷ entries_of maker e.who es else entries_of maker e.who es) (sym (eq-eqb e.who e.who refl)) ∙ h e.who
      in cc)

  pub record AtEnd (n : ℕ) (v : Seen T) (ws : List ℕ) (xs : List (Option T)) : Type 0 where
    pub sound : Sound n (now_in n v)
    pub head : (x : ℕ) → get_elem? ws 16 ≡ some x → x ≡ (now_in n v).takes
    pub unheld : (k : ℕ) → Unheld ((now_in n v).cells k)
    pub rest : (k : ℕ) → k < n → get_elem? xs k ≡ some (rest_of ((now_in n v).cells k))

  pub head_few : (n : ℕ) (v : Seen T) (x : ℕ) → Sound n (now_in n v) → x ≡ (now_in n v).takes → x ≤ 2 ^ 62
  head_few n v x h is = subst (λ z. z ≤ 2 ^ 62) (sym is) (le_trans h.within h.few)

  pub at_end : (n id : ℕ) (v : Seen T) (ws : List ℕ) (xs : List (Option T)) → 0 < n → v.chief ≡ true
      → ((t : ℕ) → has_tag t v.given ≡ true → has_tag t v.tags ≡ true) → IsIdle n v → Final (SeenOf (HoldsRing n) id v) ws xs
      → AtEnd n v ws xs
  at_end n id v ws xs pos chief ended idle f = record {
    sound = sound_of n v.seen pos (subst (Legal n) (sym whole) r.one.is_legal);
    head = λ x e. sym (at_word ws 16 x e) ∙ ap (λ l. get_or l 16 0) (sym f.2) ∙ (r.one.words_fit 16 (head_word n)).head refl
        ∙ ap (λ l. (state_of n l).takes) (sym whole);
    unheld = nobody;
    rest = λ k lt. f.4 k (rest_of ((now_in n v).cells k)) (r.homes k lt
        ∙ ap (λ (c : Cell T). some (home_of c)) (ap (λ l. (state_of n l).cells k) (sym whole))
        ∙ ap some (at_home ((now_in n v).cells k) (nobody k)));
  }
    where
      s : Table (Option T) (Seen T)
      s = f.0

      r : HoldsRing n s
      r = f.1.0

      at : get_elem? s.views id ≡ some v
      at = f.1.1

      log : List (RingEntry T)
      log = r.one.log

      rest : List (RingEntry T)
      rest = (r.one.views_fit id v at).begins.0

      goes : v.seen ++ rest ≡ log
      goes = (r.one.views_fit id v at).begins.1

      -- who has no tag here has none at all
      without : (t : ℕ) → has_tag t v.tags ≡ false → entries_of maker t log ≡ []
      without t h = r.one.unowned t (((r.one.views_fit id v at).chief chief).1 t (go (has_tag t v.given) refl))
        where
          go : (b : Bool) → has_tag t v.given ≡ b → b ≡ false
          go true is = let z : true ≡ false = sym (ended t is) ∙ h in cc
          go false is = refl

      none_left : (t : ℕ) → entries_of maker t rest ≡ []
      none_left t = go (has_tag t v.tags) refl
        where
          go : (b : Bool) → has_tag t v.tags ≡ b → entries_of maker t rest ≡ []
          go true is = entries_of_rest maker t v.seen rest log (sym goes) ((r.one.views_fit id v at).owned t is).1
          go false is = no_rest (entries_of maker t v.seen) (entries_of maker t rest) (sym (entries_of-append maker t v.seen rest)
              ∙ ap (entries_of maker t) goes ∙ without t is)

      whole : v.seen ≡ log
      whole = sym (append-nil v.seen) ∙ ap (λ l. v.seen ++ l) (sym (no_one rest none_left)) ∙ goes

      nobody : (k t : ℕ) → is_held t ((now_in n v).cells k) ≡ false
      nobody k t = go (has_tag t v.tags) refl
        where
          go : (b : Bool) → has_tag t v.tags ≡ b → is_held t ((now_in n v).cells k) ≡ false
          go true is = idle t k is
          go false is = fresh_idle n v.seen t k (ap (entries_of maker t) whole ∙ without t is)
