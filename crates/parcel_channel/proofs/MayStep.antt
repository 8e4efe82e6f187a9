-- Each step on parcels may come, and changes one word.
use Rattle.std.specs.Prelude.{◌≡◌, ◌≢◌, ℕ, suc, ◌+◌, ◌^◌, ◌<◌, ◌≤◌, ◌==◌, Bool, true, false, List, [], ◌∷◌, ◌++◌, nat_lt, if◌then◌else◌, refl}
use Rattle.std.proofs.Common.{sym, ap, ◌∙◌, subst, arith}
use Rattle.std.proofs.lemmas.Bool.{eqb-true, ltb-true, ltb-false}
use Rattle.worded.specs.Views.{has_tag}
use Rattle.worded.specs.Exchanges.{OthersAdded, MayEnter, MayDraw}
use Rattle.parcel_channel.specs.declared.parcel.ParcelAct.{ParcelAct}
use Rattle.parcel_channel.specs.declared.parcel.ParcelAct.TheVariants.{Draw, Miss, MoveIn, MoveOut, PutBack}
use Rattle.parcel_channel.specs.declared.parcel.ParcelEntry.{ParcelEntry}
use Rattle.parcel_channel.specs.Parcels.{Parcel, unused, drawn, inside, outside, emptied, is_drawn_by, is_inside, is_out_with, State, put, after, state_of, Needs, Legal, maker}
use Rattle.parcel_channel.specs.Tables.{parcel_code, Fits}
use Rattle.parcel_channel.specs.Seen.{Seen, now_in, entry_of, entry_drawn}
use Rattle.parcel_channel.proofs.HistoriesGoOn.{put_here, put_else, state_push, state_more, Legal_push, Legal-rest}
use Rattle.parcel_channel.proofs.StatesStaySound.{Sound, sound_of, others_keep, late_step, drawn_step, out_step, late_count, late_small}

le_self : (n : ℕ) → n ≤ n
le_self n = omega arith

has_room : (n cells m k : ℕ) → n ≡ m → m ≤ cells + k → k ≤ 65536 → cells ≤ 1048576 → n + 1 < 2 ^ 64
has_room n cells m k is le few small = omega (arith, is, le, few, small)

one_more : (n m : ℕ) → n ≡ m → n + 1 ≡ suc m
one_more n m is = omega (arith, is)

zero_not : (k : ℕ) → 1 + k ≡ 0 → ⊥
zero_not k e = omega (arith, e)

not_zero : (k : ℕ) → 0 ≡ 1 + k → ⊥
not_zero k e = omega (arith, e)

same_number : (k j : ℕ) → 1 + k ≡ 1 + j → k ≡ j
same_number k j e = omega (arith, e)

module _ {T : Type 0} where
  abbrev pub Now : ℕ → Seen T → List (ParcelEntry T) → Type 0
  Now n v others = OthersAdded (Legal n) Fits maker v others

  pub others_keep_now : (n who : ℕ) (v : Seen T) (others : List (ParcelEntry T)) (P : State T → Type 0)
      → ((s : State T) (t : ℕ) (act : ParcelAct T) → Sound n s → Needs n s t act → (t ≡ who → ⊥) → P s → P (after s t act))
      → has_tag who v.tags ≡ true → Now n v others → P (state_of v.seen) → P (state_of (v.seen ++ others))
  others_keep_now n who v others P step own h p = let r = Legal-rest n v.seen others h.is_legal in
      subst P (sym (state_more v.seen others)) (others_keep n who P step (state_of v.seen) others (sound_of n v.seen r.0) r.1
      (h.apart who own) p)

  -- the counter goes up by one
  counted_up : (log : List (ParcelEntry T)) (e : ParcelEntry T) (n : ℕ) → (state_of (log ++ e ∷ [])).count ≡ suc (state_of log).count
      → ((k : ℕ) → parcel_code ((state_of (log ++ e ∷ [])).parcels k) ≡ parcel_code ((state_of log).parcels k)) → n ≡ (state_of log).count
      → Fits (log ++ e ∷ []) 0 (n + 1) × ((j m : ℕ) → j ≢ 0 → Fits log j m → Fits (log ++ e ∷ []) j m)
  counted_up log e n up same is = (
    record { counter = λ w. one_more n (state_of log).count is ∙ sym up; parcel = λ k w. absurd (not_zero k w) },
    λ j m ne f. record { counter = λ w. absurd (ne w); parcel = λ k w. f.parcel k w ∙ sym (same k) },
  )

  -- a parcel is turned
  turned : (log : List (ParcelEntry T)) (e : ParcelEntry T) (k : ℕ) (x : Parcel T) → (state_of (log ++ e ∷ [])).count ≡ (state_of log).count
      → (state_of (log ++ e ∷ [])).parcels ≡ put k x (state_of log).parcels
      → Fits (log ++ e ∷ []) (1 + k) (parcel_code x) × ((j m : ℕ) → j ≢ 1 + k → Fits log j m → Fits (log ++ e ∷ []) j m)
  turned log e k x same turn = (
    record { counter = λ w. absurd (zero_not k w); parcel = λ q w. ap parcel_code (sym (at q w)) },
    λ j m ne f. record { counter = λ w. f.counter w ∙ sym same; parcel = λ q w. f.parcel q w ∙ sym (ap parcel_code (elsewhere q j w ne)) },
  )
    where
      at : (q : ℕ) → 1 + k ≡ 1 + q → (state_of (log ++ e ∷ [])).parcels q ≡ x
      at q w = ap (λ (h : ℕ → Parcel T). h q) turn ∙ ap (put k x (state_of log).parcels) (sym (same_number k q w))
          ∙ put_here k x (state_of log).parcels

      elsewhere : (q j : ℕ) → j ≡ 1 + q → j ≢ 1 + k → (state_of (log ++ e ∷ [])).parcels q ≡ (state_of log).parcels q
      elsewhere q j w ne = ap (λ (h : ℕ → Parcel T). h q) turn
          ∙ put_else k q x (state_of log).parcels (λ is. ne (w ∙ ap (λ n. 1 + n) (sym is)))

  -- a number that is drawn keeps its word
  drawn_word : (n who : ℕ) (log : List (ParcelEntry T)) (k j : ℕ) → Legal n log → k ≡ (state_of log).count
      → parcel_code (put k (drawn who) (state_of log).parcels j) ≡ parcel_code ((state_of log).parcels j)
  drawn_word n who log k j legal is = go (k == j) refl
    where
      go : (b : Bool) → (k == j) ≡ b → parcel_code (if b then drawn who else (state_of log).parcels j) ≡
          parcel_code ((state_of log).parcels j)
      go true e =
          sym (ap parcel_code ((sound_of n log legal).undrawn j
          (subst (λ m. (state_of log).count ≤ m) (sym is ∙ eqb-true k j e) (le_self (state_of log).count))))
      go false e = refl

  -- who has not drawn past the last may draw
  pub draws : (n who : ℕ) (v : Seen T) → n ≤ 1048576 → who < 65536 → has_tag who v.tags ≡ true → (now_in v).late who ≡ false
      → MayDraw (Legal n) Fits maker v 0 (entry_drawn n who)
  draws n who v few small own early = record {
    room = λ others m h found. let s : State T = state_of (v.seen ++ others) in
        has_room m n s.count (late_count s.late) (found.counter refl) ((sound_of n (v.seen ++ others) h.is_legal).bound) (late_small s.late)
        few;
    enters = λ m. record {
      own = own;
      steps = λ others h found. go m others h (found.counter refl) (nat_lt m n) refl;
    };
  }
    where
      Steps : List (ParcelEntry T) → ℕ → Bool → Type 0
      Steps log m b = let e : ParcelEntry T = entry_of who (if b then Draw m else Miss) in Legal n (log ++ e ∷ [])
          × Fits (log ++ e ∷ []) 0 (m + 1) × ((j i : ℕ) → j ≢ 0 → Fits log j i → Fits (log ++ e ∷ []) j i)

      go : (m : ℕ) (others : List (ParcelEntry T)) → Now n v others → m ≡ (state_of (v.seen ++ others)).count → (b : Bool) → nat_lt m n ≡ b
          → Steps (v.seen ++ others) m (nat_lt m n)
      go m others h is true lt = subst (Steps (v.seen ++ others) m) (sym lt) (let log : List (ParcelEntry T) = v.seen ++ others
          in let e : ParcelEntry T = entry_of who (Draw m) in
          let w = counted_up log e m (ap (λ (s : State T). s.count) (state_push log e))
          (λ j. ap (λ (s : State T). parcel_code (s.parcels j)) (state_push log e) ∙ drawn_word n who log m j h.is_legal is) is in
          (Legal_push n log e h.is_legal (is, ltb-true m n lt), w.0, w.1))
      go m others h is false ge = subst (Steps (v.seen ++ others) m) (sym ge) (let log : List (ParcelEntry T) = v.seen ++ others
          in let e : ParcelEntry T = entry_of who Miss in
          let w = counted_up log e m (ap (λ (s : State T). s.count) (state_push log e))
          (λ j. ap (λ (s : State T). parcel_code (s.parcels j)) (state_push log e)) is in (
            Legal_push n log e h.is_legal (
              subst (λ i. n ≤ i) is (ltb-false m n ge),
              others_keep_now n who v others (λ s. s.late who ≡ false) (λ s t act sound k ne q. late_step n s t who act ne q) own h early,
              small,
            ),
            w.0,
            w.1,
          ))

  -- a parcel's word is turned, whatever it is
  turns : (n who k old : ℕ) (x : Parcel T) (act : ParcelAct T) (v : Seen T) → has_tag who v.tags ≡ true
      → ((others : List (ParcelEntry T)) → Now n v others → old ≡ parcel_code ((state_of (v.seen ++ others)).parcels k)
      → let s : State T = state_of (v.seen ++ others) in Needs n s who act × ((after s who act).count ≡ s.count)
      × ((after s who act).parcels ≡ put k x s.parcels))
      → MayEnter (Legal n) Fits maker v (1 + k) old (parcel_code x) (entry_of who act)
  turns n who k old x act v own f = record {
    own = own;
    steps = λ others h found.
        let log : List (ParcelEntry T) = v.seen ++ others in
        let e : ParcelEntry T = entry_of who act in
        let r = f others h (found.parcel k refl) in
        let w = turned log e k x (ap (λ (s : State T). s.count) (state_push log e)
        ∙ r.1) (ap (λ (s : State T). s.parcels) (state_push log e) ∙ r.2) in
        (Legal_push n log e h.is_legal r.0, w.0, w.1);
  }

  pub moves_in : (n who k old : ℕ) (x : T) (v : Seen T) → has_tag who v.tags ≡ true → is_drawn_by who ((now_in v).parcels k) ≡ true
      → MayEnter (Legal n) Fits maker v (1 + k) old 1 (entry_of who (MoveIn k x))
  moves_in n who k old x v own h = turns n who k old (inside x) (MoveIn k x) v own (λ others since is. (
    others_keep_now n who v others (λ s. is_drawn_by who (s.parcels k) ≡ true)
        (λ s t act sound q ne p. drawn_step n s t act who k sound q ne p) own since h,
    refl,
    refl,
  ))

  code_inside : (p : Parcel T) → 1 ≡ parcel_code p → is_inside p ≡ true
  code_inside unused e = cc
  code_inside (drawn t) e = cc
  code_inside (inside v) e = refl
  code_inside (outside t) e = cc
  code_inside emptied e = cc

  pub moves_out : (n who k : ℕ) (v : Seen T) → has_tag who v.tags ≡ true
      → MayEnter (Legal n) Fits maker v (1 + k) 1 2 (entry_of who (MoveOut k))
  moves_out n who k v own = turns n who k 1 (outside who) (MoveOut k) v own
      (λ others since is. (code_inside ((state_of (v.seen ++ others)).parcels k) is, refl, refl))

  pub puts_back : (n who k old : ℕ) (v : Seen T) → has_tag who v.tags ≡ true → is_out_with who ((now_in v).parcels k) ≡ true
      → MayEnter (Legal n) Fits maker v (1 + k) old 3 (entry_of who (PutBack k))
  puts_back n who k old v own h = turns n who k old emptied (PutBack k) v own (λ others since is. (
    others_keep_now n who v others (λ s. is_out_with who (s.parcels k) ≡ true)
        (λ s t act sound q ne p. out_step n s t act who k sound q ne p) own since h,
    refl,
    refl,
  ))

  -- a word of 1 is that of a value in its slot
  pub inside_of : (p : Parcel T) → 1 ≡ parcel_code p → (x : T) × (p ≡ inside x)
  inside_of unused e = cc
  inside_of (drawn t) e = cc
  inside_of (inside v) e = (v, refl)
  inside_of (outside t) e = cc
  inside_of emptied e = cc
