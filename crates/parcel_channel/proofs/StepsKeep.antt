-- Each step on the table of parcels keeps what holds of it.
use Rattle.std.proofs.Common.{◌≡◌, ◌≢◌, ℕ, ◌+◌, ◌%◌, ◌^◌, ◌<◌, ◌≤◌, eqb, Bool, true, false, if◌then◌else◌, List, [], ◌∷◌, ◌++◌, length, get_or, set, sym, refl, ap, ◌∙◌, subst, arith, length-set, eq-eqb, ne_eqb, Option, Some, None, MatchBool}
use Rattle.std.specs.Prelude.{nat_lt}
use Rattle.std.proofs.lemmas.Bool.{ltb-true}
use mathlib.Core.Logic.{dite}
use mathlib.Core.Option.{none, some}
use native.Mathlib.Decide.{ℕ_discrete}
use lib.ListN.{get_elem?}
use prog.Atomic.{either}
use Rattle.atomic_table.specs.Table.{State as Table, Act, keeps, takes, gives, Valid, stepped, carried_after, Allows, Splits, Joins}
use Rattle.atomic_table.proofs.Lists.{set_here, set_else}
use Rattle.worded.specs.Exchanges.{Loaded, Entered, MayEnter, MayDraw}
use Rattle.worded.specs.Views.{has_tag, untagged, with_next, next_given, new_view, told_by}
use Rattle.worded.specs.Histories.{entries_of}
use Rattle.worded.proofs.OnTheSeats.{named_follows, unmade, given_follows, told_follows, heard_follows}
use Rattle.worded.proofs.OnTheWords.{Follows, sights, entries, others_added}
use Rattle.parcel_channel.specs.declared.parcel.ParcelAct.TheVariants.{Draw, Miss, MoveIn, MoveOut, PutBack}
use Rattle.parcel_channel.specs.declared.parcel.ParcelEntry.{ParcelEntry}
use Rattle.parcel_channel.specs.Parcels.{Parcel, drawn, inside, outside, emptied, State, put, after, state_of, Legal, maker}
use Rattle.parcel_channel.specs.Tables.{home_of, Fits, word_count, HoldsParcels}
use Rattle.parcel_channel.specs.Seen.{Seen, Sat, own_tag, entry_of, entry_drawn, Draws, MovesIn, MovedOut, MovesOut, PutsBack}
use Rattle.parcel_channel.proofs.HistoriesGoOn.{put_here, put_else, state_push}
use Rattle.parcel_channel.proofs.StatesStaySound.{sound_of}
use Rattle.parcel_channel.proofs.MayStep.{inside_of}

pub first_word : (n : ℕ) → 0 < 1 + n
first_word n = omega arith

parcel_word : (k n : ℕ) → k < n → 1 + k < 1 + n
parcel_word k n lt = omega (arith, lt)

same_number : (k j : ℕ) → 1 + k ≡ 1 + j → k ≡ j
same_number k j e = omega (arith, e)

le_self : (n : ℕ) → n ≤ n
le_self n = omega arith

whole_sum : (m : ℕ) → m + 1 < 2 ^ 64 → (m + 1) % 2 ^ 64 ≡ m + 1
whole_sum m h = omega (arith, h)

abbrev Slots : Type 0 → Type 0
Slots T = List (mathlib.Core.Option.Option (Option T))

abbrev Tables : Type 0 → Type 0
Tables T = Table (Option T) (Seen T)

abbrev number_in : {S : Type 0} → List (ℕ × S) → ℕ
number_in [] = 0
number_in (x ∷ xs) = x.0

module _ {T : Type 0} where
  abbrev Goes : ℕ → List (ParcelEntry T) → Tables T → Type 0
  Goes n log s = Follows ℕ (Legal n) Fits maker (word_count n) log s

  homes_put : (homes : Slots T) (ps : ℕ → Parcel T) (n k : ℕ) (x : Parcel T) → length homes ≡ n → k < n
      → ((j : ℕ) → j < n → get_elem? homes j ≡ some (home_of (ps j)))
      → (j : ℕ) → j < n → get_elem? (set homes k (home_of x)) j ≡ some (home_of (put k x ps j))
  homes_put homes ps n k x long lt h j lj = dite (ℕ_discrete k j)
      (λ is. subst (λ i. get_elem? (set homes k (home_of x)) i ≡ some (home_of (put k x ps i))) is
      (set_here homes k (home_of x) (subst (λ m. k < m) (sym long) lt)
      ∙ ap (λ (p : Parcel T). some (home_of p)) (sym (put_here k x ps))))
      (λ ne. set_else homes k j (home_of x) (λ e. ne (sym e)) ∙ h j lj
      ∙ ap (λ (p : Parcel T). some (home_of p)) (sym (put_else k j x ps ne)))

  -- after a step on the parcel k
  holds : (n : ℕ) (s : Tables T) (r : HoldsParcels n s) (e : ParcelEntry T) (k : ℕ) (x : Parcel T) (words : List ℕ) (views : List (Seen T))
      → Goes n (r.one.log ++ e ∷ []) (record { words = words; homes = set s.homes k (home_of x); views = views }) → k < n
      → (after (state_of r.one.log) e.who e.act).parcels ≡ put k x (state_of r.one.log).parcels
      → HoldsParcels n (record { words = words; homes = set s.homes k (home_of x); views = views })
  holds n s r e k x words views f lt turn = record {
    one = f.rule;
    many = length-set s.homes k (home_of x) ∙ r.many;
    homes = λ j lj. homes_put s.homes (state_of r.one.log).parcels n k x r.many lt r.homes j lj
        ∙ ap (λ (p : ℕ → Parcel T). some (home_of (p j))) (sym (ap (λ l. (state_of l).parcels) f.log_is
        ∙ ap (λ (z : State T). z.parcels) (state_push r.one.log e) ∙ turn));
  }

  -- after a step that leaves the slots
  holds_same : (n : ℕ) (s : Tables T) (r : HoldsParcels n s) (log : List (ParcelEntry T)) (words : List ℕ) (views : List (Seen T))
      → Goes n log (record { words = words; homes = s.homes; views = views }) → (state_of log).parcels ≡ (state_of r.one.log).parcels
      → HoldsParcels n (record { words = words; homes = s.homes; views = views })
  holds_same n s r log words views f same = record {
    one = f.rule;
    many = r.many;
    homes = λ j lj. r.homes j lj ∙ ap (λ (p : ℕ → Parcel T). some (home_of (p j))) (sym (ap (λ l. (state_of l).parcels) f.log_is ∙ same));
  }

  -- ---- a load

  loads : (n slots id word : ℕ) (m : Sat T) → word < word_count n
      → Allows (HoldsParcels n) slots id m word (λ i. i) (λ i r. Loaded (Legal n) Fits maker word i m.0 r.0 × (r.1 ≡ m.1))
  loads n slots id word m lt s r long at small = let q = sights ℕ (Legal n) Fits maker (word_count n) s.homes s r.one id word m.0 at lt in
      (q.view, keeps, tt, holds_same n s r r.one.log _ _ q.follows refl, (q.loaded, refl))

  pub loads_at : (n slots id word : ℕ) (m : Sat T) → m.0.key ≡ n → word < word_count n
      → Allows (HoldsParcels n) slots id m word (λ i. i) (λ i r. Loaded (Legal m.0.key) Fits maker word i m.0 r.0 × (r.1 ≡ m.1))
  loads_at n slots id word m is lt = subst (λ k. Allows (HoldsParcels n) slots id m word (λ i. i)
      (λ i r. Loaded (Legal k) Fits maker word i m.0 r.0 × (r.1 ≡ m.1))) (sym is) (loads n slots id word m lt)

  -- ---- a number is drawn

  draws : (n slots id : ℕ) (u : Seen T) → MayDraw (Legal n) Fits maker u 0 (entry_drawn n (own_tag u))
      → Allows (HoldsParcels n) slots id (u, []) 0 (λ i. (i + 1) % 2 ^ 64) (λ i r. Draws n i (u, []) r)
  draws n slots id u b s r long at small = subst Goal (sym (whole_sum m room)) (by_test (nat_lt m n) refl)
    where
      m : ℕ
      m = get_or s.words 0 0

      who : ℕ
      who = own_tag u

      Goal : ℕ → Type 0
      Goal k = (w : Seen T) × (a : Act (Option T)) × Valid s.homes [] a × HoldsParcels n (stepped s 0 k id [] w a)
          × Draws n m (u, []) (w, carried_after [] a)

      room : m + 1 < 2 ^ 64
      room = let k = r.one.views_fit id u at in b.room k.begins.0 m
          (others_added ℕ (Legal n) Fits maker (word_count n) r.one.log r.one.owner id u k r.one.is_legal r.one.unowned)
          (subst (λ l. Fits l 0 m) (sym k.begins.1) (r.one.words_fit 0 (first_word n)))

      counted : (state_of r.one.log).count ≤ m
      counted = subst (λ i. i ≤ m) ((r.one.words_fit 0 (first_word n)).counter refl) (le_self m)

      by_test : (c : Bool) → nat_lt m n ≡ c → Goal (m + 1)
      by_test true lt = let q = entries ℕ (Legal n) Fits maker (word_count n) (set s.homes m none) s r.one id 0 m (m + 1)
          (entry_drawn n who m) u at (first_word n) refl (b.enters m) in (
            q.view,
            takes m None,
            r.homes m (ltb-true m n lt) ∙ ap (λ (p : Parcel T). some (home_of p)) ((sound_of n r.one.log r.one.is_legal).undrawn m counted),
            holds n s r (entry_drawn n who m) m (drawn who) _ _ q.follows (ltb-true m n lt)
                (ap (λ (c : Bool). (after (state_of r.one.log) who (if c then Draw m else Miss)).parcels) lt),
            (q.entered, sym (ap (λ (c : Bool). if c then (m, None) ∷ [] else []) lt)),
          )
      by_test false ge = let q = entries ℕ (Legal n) Fits maker (word_count n) s.homes s r.one id 0 m (m + 1) (entry_drawn n who m) u at
          (first_word n) refl (b.enters m) in (
            q.view,
            keeps,
            tt,
            holds_same n s r (r.one.log ++ entry_drawn n who m ∷ []) _ _ q.follows
                (ap (λ (z : State T). z.parcels) (state_push r.one.log (entry_drawn n who m))
                ∙ ap (λ (c : Bool). (after (state_of r.one.log) who (if c then Draw m else Miss)).parcels) ge),
            (q.entered, sym (ap (λ (c : Bool). if c then (m, None) ∷ [] else []) ge)),
          )

  pub draws_at : (n slots id : ℕ) (m : Sat T) → m.0.key ≡ n → m.1 ≡ [] → MayDraw (Legal n) Fits maker m.0 0 (entry_drawn n (own_tag m.0))
      → Allows (HoldsParcels n) slots id m 0 (λ i. (i + 1) % 2 ^ 64) (λ i r. Draws m.0.key i m r)
  draws_at n slots id m is hand b = subst (λ k. Allows (HoldsParcels n) slots id m 0 (λ i. (i + 1) % 2 ^ 64) (λ i r. Draws k i m r))
      (sym is)
      (subst (λ c. Allows (HoldsParcels n) slots id (m.0, c) 0 (λ i. (i + 1) % 2 ^ 64) (λ i r. Draws n i (m.0, c) r)) (sym hand)
      (draws n slots id m.0 b))

  -- ---- what is in hand

  abbrev or_else : T → Option T → T
  or_else x None = x
  or_else x (Some y) = y

  abbrev value_in : T → List (ℕ × Option T) → T
  value_in x [] = x
  value_in x (y ∷ ys) = or_else x y.1

  -- ---- the value in hand is moved in

  moves_in : (n slots id k : ℕ) (x : T) (u : Seen T) → k < n
      → ((old : ℕ) → MayEnter (Legal n) Fits maker u (1 + k) old 1 (entry_of (own_tag u) (MoveIn k x)))
      → Allows (HoldsParcels n) slots id (u, (k, Some x) ∷ []) (1 + k) (λ i. 1) (λ i r. MovesIn n (1 + k) (u, (k, Some x) ∷ []) r)
  moves_in n slots id k x u lt b s r long at small = let m : ℕ = get_or s.words (1 + k) 0
      in let e : ParcelEntry T = entry_of (own_tag u) (MoveIn k x) in
      let q = entries ℕ (Legal n) Fits maker (word_count n) (set s.homes k (some (Some x))) s r.one id (1 + k) m 1 e u at
      (parcel_word k n lt) refl (b m) in (
        q.view,
        gives,
        tt,
        holds n s r e k (inside x) _ _ q.follows lt refl,
        (λ j y same w. (
          m,
          subst (λ (z : ℕ × T). Entered (Legal n) Fits maker (1 + k) m (entry_of (own_tag u) (MoveIn z.0 z.1)) u q.view)
              (λ i. (ap number_in same i, ap (value_in x) same i)) q.entered,
          refl,
        )),
      )

  pub moves_in_at : (n slots id k : ℕ) (x : T) (m : Sat T) → m.0.key ≡ n → m.1 ≡ (k, Some x) ∷ [] → k < n
      → ((old : ℕ) → MayEnter (Legal n) Fits maker m.0 (1 + k) old 1 (entry_of (own_tag m.0) (MoveIn k x)))
      → Allows (HoldsParcels n) slots id m (1 + k) (λ i. 1) (λ i r. MovesIn m.0.key (1 + k) m r)
  moves_in_at n slots id k x m is hand lt b = subst (λ i. Allows (HoldsParcels n) slots id m (1 + k) (λ j. 1)
      (λ j r. MovesIn i (1 + k) m r)) (sym is)
      (subst (λ c. Allows (HoldsParcels n) slots id (m.0, c) (1 + k) (λ j. 1) (λ j r. MovesIn n (1 + k) (m.0, c) r)) (sym hand)
      (moves_in n slots id k x m.0 lt b))

  -- ---- the empty slot in hand is put back

  puts_back : (n slots id k : ℕ) (u : Seen T) → k < n → ((old : ℕ)
      → MayEnter (Legal n) Fits maker u (1 + k) old 3 (entry_of (own_tag u) (PutBack k)))
      → Allows (HoldsParcels n) slots id (u, (k, None) ∷ []) (1 + k) (λ i. 3) (λ i r. PutsBack n (1 + k) (u, (k, None) ∷ []) r)
  puts_back n slots id k u lt b s r long at small = let m : ℕ = get_or s.words (1 + k) 0
      in let e : ParcelEntry T = entry_of (own_tag u) (PutBack k) in
      let q = entries ℕ (Legal n) Fits maker (word_count n) (set s.homes k (some None)) s r.one id (1 + k) m 3 e u at (parcel_word k n lt)
      refl (b m) in (
        q.view,
        gives,
        tt,
        holds n s r e k emptied _ _ q.follows lt refl,
        (λ j same w. (
          m,
          subst (λ (z : ℕ). Entered (Legal n) Fits maker (1 + k) m (entry_of (own_tag u) (PutBack z)) u q.view)
              (ap number_in same) q.entered,
          refl,
        )),
      )

  pub puts_back_at : (n slots id k : ℕ) (m : Sat T) → m.0.key ≡ n → m.1 ≡ (k, None) ∷ [] → k < n
      → ((old : ℕ) → MayEnter (Legal n) Fits maker m.0 (1 + k) old 3 (entry_of (own_tag m.0) (PutBack k)))
      → Allows (HoldsParcels n) slots id m (1 + k) (λ i. 3) (λ i r. PutsBack m.0.key (1 + k) m r)
  puts_back_at n slots id k m is hand lt b = subst (λ i. Allows (HoldsParcels n) slots id m (1 + k) (λ j. 3)
      (λ j r. PutsBack i (1 + k) m r)) (sym is)
      (subst (λ c. Allows (HoldsParcels n) slots id (m.0, c) (1 + k) (λ j. 3) (λ j r. PutsBack n (1 + k) (m.0, c) r)) (sym hand)
      (puts_back n slots id k m.0 lt b))

  -- ---- a value is moved out

  moves_out : (n slots id k : ℕ) (u : Seen T) → k < n → MayEnter (Legal n) Fits maker u (1 + k) 1 2 (entry_of (own_tag u) (MoveOut k))
      → Allows (HoldsParcels n) slots id (u, []) (1 + k) (λ i. either (eqb i 1) 2 i) (λ i r. MovesOut n (1 + k) i (u, []) r)
  moves_out n slots id k u lt b s r long at small = dite (ℕ_discrete m 1) hit miss
    where
      m : ℕ
      m = get_or s.words (1 + k) 0

      e : ParcelEntry T
      e = entry_of (own_tag u) (MoveOut k)

      Goal : Bool → Type 0
      Goal c = (w : Seen T) × (a : Act (Option T)) × Valid s.homes [] a × HoldsParcels n (stepped s (1 + k) (either c 2 m) id [] w a)
          × ((j : ℕ) → 1 + k ≡ 1 + j → MatchBool c (MovedOut n j (u, []) (w, carried_after [] a)) (Loaded (Legal n) Fits maker (1 + j) m u w
          × (carried_after [] a ≡ [])))

      hit : m ≡ 1 → Goal (eqb m 1)
      hit is = let p = inside_of ((state_of r.one.log).parcels k) (sym is ∙ (r.one.words_fit (1 + k) (parcel_word k n lt)).parcel k refl) in
          let q = entries ℕ (Legal n) Fits maker (word_count n) (set s.homes k none) s r.one id (1 + k) 1 2 e u at (parcel_word k n lt) is b
          in
          subst Goal (sym (eq-eqb m 1 is)) (
            q.view,
            takes k (Some p.0),
            r.homes k lt ∙ ap (λ (z : Parcel T). some (home_of z)) p.1,
            holds n s r e k (outside (own_tag u)) _ _ q.follows lt refl,
            (λ j w. subst (λ i. MovedOut n i (u, []) (q.view, (k, Some p.0) ∷ [])) (same_number k j w)
                (record { value = p.0; entered = q.entered; was = ap (λ l. (state_of l).parcels k) q.all ∙ p.1; hand = refl })),
          )

      miss : m ≢ 1 → Goal (eqb m 1)
      miss ne = let q = sights ℕ (Legal n) Fits maker (word_count n) s.homes s r.one id (1 + k) u at (parcel_word k n lt) in
          subst Goal (sym (ne_eqb m 1 ne)) (
            q.view,
            keeps,
            tt,
            holds_same n s r r.one.log _ _ q.follows refl,
            (λ j w. (subst (λ i. Loaded (Legal n) Fits maker (1 + i) m u q.view) (same_number k j w) q.loaded, refl)),
          )

  pub moves_out_at : (n slots id k : ℕ) (m : Sat T) → m.0.key ≡ n → m.1 ≡ [] → k < n
      → MayEnter (Legal n) Fits maker m.0 (1 + k) 1 2 (entry_of (own_tag m.0) (MoveOut k))
      → Allows (HoldsParcels n) slots id m (1 + k) (λ i. either (eqb i 1) 2 i) (λ i r. MovesOut m.0.key (1 + k) i m r)
  moves_out_at n slots id k m is hand lt b = subst (λ i. Allows (HoldsParcels n) slots id m (1 + k) (λ j. either (eqb j 1) 2 j)
      (λ j r. MovesOut i (1 + k) j m r)) (sym is)
      (subst (λ c. Allows (HoldsParcels n) slots id (m.0, c) (1 + k) (λ j. either (eqb j 1) 2 j) (λ j r. MovesOut n (1 + k) j (m.0, c) r))
      (sym hand) (moves_out n slots id k m.0 lt b))

  -- ---- seats

  pub names_at : (n slots id word t : ℕ) (m : Sat T) → Allows (HoldsParcels n) slots id m word (λ i. either (eqb i t) t i)
      (λ i r. (r.0 ≡ with_next m.0 t) × (r.1 ≡ m.1) × (m.0.chief ≡ true → has_tag t m.0.given ≡ false → entries_of maker t m.0.seen ≡ []))
  names_at n slots id word t m s r long at small = (
    with_next m.0 t,
    keeps,
    tt,
    holds_same n s r r.one.log _ _ (named_follows ℕ (Legal n) Fits maker (word_count n) s.homes s r.one id word t m.0 at) refl,
    (refl, refl, λ c h. unmade ℕ (Legal n) Fits maker (word_count n) s r.one id t m.0 at c h),
  )

  pub gives_out : (n id : ℕ) (v : Seen T) → v.chief ≡ true → has_tag v.next v.given ≡ false
      → Splits (HoldsParcels n) id v (next_given v) (new_view v)
  gives_out n id v chief new s r at = holds_same n s r r.one.log s.words _
      (given_follows ℕ (Legal n) Fits maker (word_count n) s.homes s r.one id v chief new at) refl

  pub tells : (n id : ℕ) (v : Seen T) → Splits (HoldsParcels n) id v v (untagged v.key v.seen)
  tells n id v s r at = holds_same n s r r.one.log s.words _ (told_follows ℕ (Legal n) Fits maker (word_count n) s.homes s r.one id v at)
      refl

  pub hears : (n id : ℕ) (v : Seen T) (other : ℕ) (w : Seen T) → v.heard_tags ≡ [] → w.heard_tags ≡ []
      → Joins (HoldsParcels n) id v other w (told_by v w) (untagged 0 [])
  hears n id v other w idle bare s r at apart there = holds_same n s r r.one.log s.words _
      (heard_follows ℕ (Legal n) Fits maker (word_count n) 0 s.homes s r.one id v other w idle bare at apart there) refl
