-- What holds after each legal history of parcels, and what others leave.
use Rattle.std.specs.Prelude.{◌≡◌, ℕ, zero, suc, ◌+◌, ◌<◌, ◌≤◌, Bool, true, false, List, [], ◌∷◌, refl}
use Rattle.std.proofs.Common.{sym, ap, ◌∙◌, subst, arith}
use Rattle.std.proofs.lemmas.Bool.{eqb-true}
use mathlib.Core.Logic.{dite}
use native.Mathlib.Decide.{ℕ_discrete}
use Rattle.worded.specs.Histories.{entries_of}
use Rattle.parcel_channel.specs.declared.parcel.ParcelAct.{ParcelAct}
use Rattle.parcel_channel.specs.declared.parcel.ParcelAct.TheVariants.{Draw, Miss, MoveIn, MoveOut, PutBack}
use Rattle.parcel_channel.specs.declared.parcel.ParcelEntry.{ParcelEntry}
use Rattle.parcel_channel.specs.Parcels.{Parcel, unused, drawn, inside, outside, emptied, is_drawn_by, is_inside, is_out_with, is_held, State, start, put, after, state_from, state_of, Needs, LegalFrom, Legal, maker}
use Rattle.parcel_channel.proofs.HistoriesGoOn.{put_here, put_else, apart_first}

-- ---- how many tags a test holds of

abbrev pub one_if : Bool → ℕ
one_if true = 1
one_if false = 0

pub count_below : (ℕ → Bool) → ℕ → ℕ
count_below f zero = 0
count_below f (suc n) = one_if (f n) + count_below f n

count_small : (f : ℕ → Bool) (n : ℕ) → count_below f n ≤ n
unfolding count_below
count_small f zero = omega arith
count_small f (suc n) = go (f n) (count_small f n)
  where
    go : (b : Bool) → count_below f n ≤ n → one_if b + count_below f n ≤ suc n
    go true h = omega (arith, h)
    go false h = omega (arith, h)

count_same : (f : ℕ → Bool) (t n : ℕ) → n ≤ t → count_below (put t true f) n ≡ count_below f n
unfolding count_below
count_same f t zero le = refl
count_same f t (suc n) le = let e : one_if (put t true f n) ≡ one_if (f n) =
    ap one_if (put_else t n true f (λ is. absurd (omega (arith, le, is)))) in
    let h : count_below (put t true f) n ≡ count_below f n = count_same f t n (omega (arith, le)) in omega (arith, e, h)

count_put : (f : ℕ → Bool) (t n : ℕ) → f t ≡ false → t < n → count_below (put t true f) n ≡ suc (count_below f n)
unfolding count_below
count_put f t zero none lt = absurd (omega (arith, lt))
count_put f t (suc n) none lt = dite (ℕ_discrete t n)
    (λ is. let e : one_if (put t true f n) ≡ 1 = ap one_if (ap (put t true f) (sym is) ∙ put_here t true f) in
    let z : one_if (f n) ≡ 0 = ap one_if (ap f (sym is) ∙ none) in
    let h : count_below (put t true f) n ≡ count_below f n = count_same f t n (omega (arith, is)) in omega (arith, e, z, h))
    (λ ne. let e : one_if (put t true f n) ≡ one_if (f n) = ap one_if (put_else t n true f ne) in
    let h : count_below (put t true f) n ≡ suc (count_below f n) = count_put f t n none (omega (arith, lt, ne)) in omega (arith, e, h))

pub late_count : (ℕ → Bool) → ℕ
late_count f = count_below f 65536

pub late_small : (f : ℕ → Bool) → late_count f ≤ 65536
unfolding late_count
late_small f = count_small f 65536

late_put : (f : ℕ → Bool) (t : ℕ) → f t ≡ false → t < 65536 → late_count (put t true f) ≡ suc (late_count f)
unfolding late_count
late_put f t none few = count_put f t 65536 none few

drawn_within : (n i cells k : ℕ) → i ≡ n → i < cells → suc n ≤ cells + k
drawn_within n i cells k is lt = omega (arith, is, lt)

missed_within : (n cells k m : ℕ) → n ≤ cells + k → m ≡ suc k → suc n ≤ cells + m
missed_within n cells k m le is = omega (arith, le, is)

le_self : (n : ℕ) → n ≤ n
le_self n = omega arith

none_drawn : (n : ℕ) → 0 ≤ n
none_drawn n = omega arith

less : (n m : ℕ) → suc n < m → n < m
less n m h = omega (arith, h)

less_or : (n m : ℕ) → suc n ≤ m → n ≤ m
less_or n m h = omega (arith, h)

module _ {T : Type 0} where
  pub record Sound (parcels : ℕ) (s : State T) : Type 0 where
    pub early : s.count < parcels → (t : ℕ) → s.late t ≡ false
    pub bound : s.count ≤ parcels + late_count s.late
    pub undrawn : (k : ℕ) → s.count ≤ k → s.parcels k ≡ unused

  -- a parcel that is put was drawn
  sound_put : (n : ℕ) (s : State T) (k : ℕ) (x : Parcel T) → Sound n s → (s.parcels k ≡ unused → ⊥)
      → Sound n (record { count = s.count; late = s.late; parcels = put k x s.parcels })
  sound_put n s k x h ne = record {
    early = h.early;
    bound = h.bound;
    undrawn = λ j le. put_else k j x s.parcels (λ is. ne (ap s.parcels is ∙ h.undrawn j le)) ∙ h.undrawn j le;
  }

  drawn_not : (t : ℕ) (p : Parcel T) → is_drawn_by t p ≡ true → p ≡ unused → ⊥
  drawn_not t p h e = let z : true ≡ false = sym h ∙ ap (is_drawn_by t) e in cc

  inside_not : (p : Parcel T) → is_inside p ≡ true → p ≡ unused → ⊥
  inside_not p h e = let z : true ≡ false = sym h ∙ ap is_inside e in cc

  out_not : (t : ℕ) (p : Parcel T) → is_out_with t p ≡ true → p ≡ unused → ⊥
  out_not t p h e = let z : true ≡ false = sym h ∙ ap (is_out_with t) e in cc

  pub sound_step : (n : ℕ) (s : State T) (who : ℕ) (act : ParcelAct T) → Sound n s → Needs n s who act → Sound n (after s who act)
  sound_step n s who (Draw k) h q = record {
    early = λ lt t. h.early (less s.count n lt) t;
    bound = drawn_within s.count k n (late_count s.late) q.0 q.1;
    undrawn = λ j le. put_else k j (drawn who) s.parcels (λ is. absurd (omega (arith, q.0, is, le))) ∙ h.undrawn j (less_or s.count j le);
  }
  sound_step n s who Miss h q = record {
    early = λ lt t. absurd (omega (arith, q.0, lt));
    bound = missed_within s.count n (late_count s.late) (late_count (put who true s.late)) h.bound (late_put s.late who q.1 q.2);
    undrawn = λ j le. h.undrawn j (less_or s.count j le);
  }
  sound_step n s who (MoveIn k v) h q = sound_put n s k (inside v) h (drawn_not who (s.parcels k) q)
  sound_step n s who (MoveOut k) h q = sound_put n s k (outside who) h (inside_not (s.parcels k) q)
  sound_step n s who (PutBack k) h q = sound_put n s k emptied h (out_not who (s.parcels k) q)

  sound_from : (n : ℕ) (s : State T) (es : List (ParcelEntry T)) → Sound n s → LegalFrom n s es → Sound n (state_from s es)
  unfolding state_from LegalFrom
  sound_from n s [] h k = h
  sound_from n s (e ∷ es) h k = sound_from n (after s e.who e.act) es (sound_step n s e.who e.act h k.0) k.1

  pub start_sound : (n : ℕ) → Sound n start
  start_sound n = record { early = λ lt t. refl; bound = none_drawn (n + late_count (λ t. false)); undrawn = λ j le. refl }

  pub sound_of : (n : ℕ) (log : List (ParcelEntry T)) → Legal n log → Sound n (state_of log)
  sound_of n log k = sound_from n start log (start_sound n) k

  -- what each of others' entries keeps holds after all of them
  pub others_keep : (n who : ℕ) (P : State T → Type 0) → ((s : State T) (t : ℕ) (act : ParcelAct T) → Sound n s → Needs n s t act
      → (t ≡ who → ⊥) → P s → P (after s t act))
      → (s : State T) (es : List (ParcelEntry T)) → Sound n s → LegalFrom n s es → entries_of maker who es ≡ [] → P s → P (state_from s es)
  unfolding state_from LegalFrom
  others_keep n who P step s [] sound k apart h = h
  others_keep n who P step s (e ∷ es) sound k apart h = let a = apart_first who e es apart in
      others_keep n who P step (after s e.who e.act) es (sound_step n s e.who e.act sound k.0) k.1 a.1 (step s e.who e.act sound k.0 a.0 h)

  pub late_step : (n : ℕ) (s : State T) (t who : ℕ) (act : ParcelAct T) → (t ≡ who → ⊥) → s.late who ≡ false
      → (after s t act).late who ≡ false
  late_step n s t who Miss ne h = put_else t who true s.late ne ∙ h
  late_step n s t who other ne h = h

  -- ---- a parcel that somebody drew or took is left to it

  at_put : (s : State T) (i j : ℕ) (x p : Parcel T) → s.parcels i ≡ p → (s.parcels j ≡ p → ⊥) → put j x s.parcels i ≡ p
  at_put s i j x p is ne = dite (ℕ_discrete j i)
      (λ e. absurd (ne (ap s.parcels e ∙ is)))
      (λ apart. put_else j i x s.parcels apart ∙ is)

  drawn_by_not : (t who : ℕ) (p : Parcel T) → (t ≡ who → ⊥) → is_held who p ≡ true → is_drawn_by t p ≡ true → ⊥
  drawn_by_not t who unused ne h k = cc
  drawn_by_not t who (drawn u) ne h k = ne (sym (eqb-true u t k) ∙ eqb-true u who h)
  drawn_by_not t who (inside v) ne h k = cc
  drawn_by_not t who (outside u) ne h k = cc
  drawn_by_not t who emptied ne h k = cc

  out_with_not : (t who : ℕ) (p : Parcel T) → (t ≡ who → ⊥) → is_held who p ≡ true → is_out_with t p ≡ true → ⊥
  out_with_not t who unused ne h k = cc
  out_with_not t who (drawn u) ne h k = cc
  out_with_not t who (inside v) ne h k = cc
  out_with_not t who (outside u) ne h k = ne (sym (eqb-true u t k) ∙ eqb-true u who h)
  out_with_not t who emptied ne h k = cc

  inside_held : (who : ℕ) (p : Parcel T) → is_held who p ≡ true → is_inside p ≡ true → ⊥
  inside_held who unused h k = cc
  inside_held who other h k = cc

  unused_held : (who : ℕ) (p : Parcel T) → is_held who p ≡ true → p ≡ unused → ⊥
  unused_held who p h e = let z : true ≡ false = sym h ∙ ap (is_held who) e in cc

  held_step : (n : ℕ) (s : State T) (t : ℕ) (act : ParcelAct T) (who i : ℕ) (p : Parcel T) → Sound n s → Needs n s t act → (t ≡ who → ⊥)
      → is_held who p ≡ true → s.parcels i ≡ p → (after s t act).parcels i ≡ p
  held_step n s t (Draw k) who i p sound q ne h is = at_put s i k (drawn t) p is
      (λ e. unused_held who p h (sym e ∙ sound.undrawn k (subst (λ m. m ≤ k) q.0 (le_self k))))
  held_step n s t Miss who i p sound q ne h is = is
  held_step n s t (MoveIn k v) who i p sound q ne h is =
      at_put s i k (inside v) p is (λ e. drawn_by_not t who p ne h (sym (ap (is_drawn_by t) e) ∙ q))
  held_step n s t (MoveOut k) who i p sound q ne h is = at_put s i k (outside t) p is (λ e. inside_held who p h (sym (ap is_inside e) ∙ q))
  held_step n s t (PutBack k) who i p sound q ne h is = at_put s i k emptied p is
      (λ e. out_with_not t who p ne h (sym (ap (is_out_with t) e) ∙ q))

  pub drawn_step : (n : ℕ) (s : State T) (t : ℕ) (act : ParcelAct T) (who i : ℕ) → Sound n s → Needs n s t act → (t ≡ who → ⊥)
      → is_drawn_by who (s.parcels i) ≡ true → is_drawn_by who ((after s t act).parcels i) ≡ true
  drawn_step n s t act who i sound q ne h = ap (is_drawn_by who)
      (held_step n s t act who i (s.parcels i) sound q ne (drawn_held (s.parcels i) h) refl) ∙ h
    where
      drawn_held : (p : Parcel T) → is_drawn_by who p ≡ true → is_held who p ≡ true
      drawn_held unused k = cc
      drawn_held (drawn u) k = k
      drawn_held (inside v) k = cc
      drawn_held (outside u) k = cc
      drawn_held emptied k = cc

  pub out_step : (n : ℕ) (s : State T) (t : ℕ) (act : ParcelAct T) (who i : ℕ) → Sound n s → Needs n s t act → (t ≡ who → ⊥)
      → is_out_with who (s.parcels i) ≡ true → is_out_with who ((after s t act).parcels i) ≡ true
  out_step n s t act who i sound q ne h = ap (is_out_with who)
      (held_step n s t act who i (s.parcels i) sound q ne (out_held (s.parcels i) h) refl) ∙ h
    where
      out_held : (p : Parcel T) → is_out_with who p ≡ true → is_held who p ≡ true
      out_held unused k = cc
      out_held (drawn u) k = cc
      out_held (inside v) k = cc
      out_held (outside u) k = k
      out_held emptied k = cc
