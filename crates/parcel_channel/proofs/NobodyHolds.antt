-- Who holds no parcel: what others and whole calls leave.
use Rattle.std.specs.Prelude.{◌≡◌, ◌≢◌, ℕ, ◌==◌, Bool, true, false, List, [], ◌∷◌, ◌++◌, Option, Some, None, Result, Ok, Err, if◌then◌else◌, refl}
use Rattle.std.proofs.Common.{⊎_elim, sym, ap, ◌∙◌, subst, eq-eqb, ne_eqb}
use mathlib.Core.Logic.{dite}
use native.Mathlib.Decide.{ℕ_discrete}
use Rattle.worded.specs.Views.{has_tag, first_view, with_next, new_view, told_by, untagged}
use Rattle.worded.specs.Histories.{entries_of}
use Rattle.worded.specs.Exchanges.{Loaded}
use Rattle.worded.proofs.TagsAndPrefixes.{entries_of_rest, only_one, has_tag-append}
use Rattle.parcel_channel.specs.declared.parcel.ParcelAct.{ParcelAct}
use Rattle.parcel_channel.specs.declared.parcel.ParcelAct.TheVariants.{Draw, Miss, MoveIn, MoveOut, PutBack}
use Rattle.parcel_channel.specs.declared.parcel.ParcelEntry.{ParcelEntry}
use Rattle.parcel_channel.specs.Parcels.{Parcel, drawn, inside, outside, emptied, is_held, State, start, put, after, state_from, state_of, Legal, maker}
use Rattle.parcel_channel.specs.Tables.{Fits}
use Rattle.parcel_channel.specs.Seen.{Seen, now_in, entry_of, IsIdle}
use Rattle.parcel_channel.specs.Answers.{Adds, PutAnswer, TakeAnswer}
use Rattle.parcel_channel.proofs.HistoriesGoOn.{put_here, put_else, state_more, apart_first}

head_of : {A : Type 0} → A → List A → A
head_of x [] = x
head_of x (y ∷ ys) = y

tail_of : {A : Type 0} → List A → List A
tail_of [] = []
tail_of (y ∷ ys) = ys

same_head : {A : Type 0} (x y : A) (xs ys : List A) → x ∷ xs ≡ y ∷ ys → x ≡ y
unfolding head_of
same_head x y xs ys e = ap (head_of x) e

same_tail : {A : Type 0} (x y : A) (xs ys : List A) → x ∷ xs ≡ y ∷ ys → xs ≡ ys
unfolding tail_of
same_tail x y xs ys e = ap tail_of e

module _ {T : Type 0} where
  at_put : (t : ℕ) (s : State T) (j k : ℕ) (p : Parcel T) → is_held t p ≡ false → is_held t (s.parcels k) ≡ false
      → is_held t (put j p s.parcels k) ≡ false
  at_put t s j k p h q = dite (ℕ_discrete j k)
      (λ is. ap (is_held t) (ap (put j p s.parcels) (sym is) ∙ put_here j p s.parcels) ∙ h)
      (λ ne. ap (is_held t) (put_else j k p s.parcels ne) ∙ q)

  -- another's entry
  not_held_step : (s : State T) (u : ℕ) (act : ParcelAct T) (t k : ℕ) → (u ≡ t → ⊥) → is_held t (s.parcels k) ≡ false
      → is_held t ((after s u act).parcels k) ≡ false
  not_held_step s u (Draw j) t k ne h = at_put t s j k (drawn u) (ne_eqb u t ne) h
  not_held_step s u Miss t k ne h = h
  not_held_step s u (MoveIn j x) t k ne h = at_put t s j k (inside x) refl h
  not_held_step s u (MoveOut j) t k ne h = at_put t s j k (outside u) (ne_eqb u t ne) h
  not_held_step s u (PutBack j) t k ne h = at_put t s j k emptied refl h

  pub not_held_from : (s : State T) (es : List (ParcelEntry T)) (t k : ℕ) → entries_of maker t es ≡ [] → is_held t (s.parcels k) ≡ false
      → is_held t ((state_from s es).parcels k) ≡ false
  unfolding state_from
  not_held_from s [] t k apart h = h
  not_held_from s (e ∷ es) t k apart h = let a = apart_first t e es apart
      in not_held_from (after s e.who e.act) es t k a.1 (not_held_step s e.who e.act t k a.0 h)

  -- an act on one parcel, which leaves the others
  abbrev Leaves : ℕ → ParcelAct T → ℕ → Type 0
  Leaves who act m = (s : State T) (j : ℕ) → j ≢ m → (after s who act).parcels j ≡ s.parcels j

  module _ (who m : ℕ) (a b : ParcelAct T) (leaves_a : Leaves who a m) (leaves_b : Leaves who b m) (clear : (s : State T)
      → is_held who ((after s who b).parcels m) ≡ false) where
    last_act : (s : State T) (es : List (ParcelEntry T)) (k : ℕ) → entries_of maker who es ≡ entry_of who b ∷ []
        → ((j : ℕ) → j ≢ m → is_held who (s.parcels j) ≡ false) → is_held who ((state_from s es).parcels k) ≡ false
    unfolding state_from
    last_act s [] k q h = cc
    last_act s (e ∷ es) k q h = by_test (e.who == who) refl q (last_act (after s e.who e.act) es k)
      where
        by_test : (c : Bool) → (e.who == who) ≡ c → (if c then e ∷ entries_of maker who es else entries_of maker who es) ≡
            entry_of who b ∷ []
            → (entries_of maker who es ≡ entry_of who b ∷ [] → ((j : ℕ) → j ≢ m → is_held who ((after s e.who e.act).parcels j) ≡ false)
            → is_held who ((state_from (after s e.who e.act) es).parcels k) ≡ false)
            → is_held who ((state_from (after s e.who e.act) es).parcels k) ≡ false
        by_test true is r next = let same : e ≡ entry_of who b = same_head e (entry_of who b) (entries_of maker who es) [] r in
            not_held_from (after s e.who e.act) es who k (same_tail e (entry_of who b) (entries_of maker who es) [] r)
            (dite (ℕ_discrete k m)
            (λ at. subst (λ (x : ℕ × ParcelEntry T). is_held who ((after s x.1.who x.1.act).parcels x.0) ≡ false)
            (λ i. (sym at i, sym same i)) (clear s))
            (λ ne. subst (λ (x : ParcelEntry T). is_held who ((after s x.who x.act).parcels k) ≡ false) (sym same)
            (ap (is_held who) (leaves_b s k ne) ∙ h k ne)))
        by_test false is r next = next r (λ j ne. not_held_step s e.who e.act who j (λ u. let z : true ≡ false = sym (eq-eqb e.who who u)
            ∙ is in cc) (h j ne))

    two_acts : (s : State T) (es : List (ParcelEntry T)) (k : ℕ) → entries_of maker who es ≡ entry_of who a ∷ entry_of who b ∷ []
        → ((j : ℕ) → is_held who (s.parcels j) ≡ false) → is_held who ((state_from s es).parcels k) ≡ false
    unfolding state_from
    two_acts s [] k q h = cc
    two_acts s (e ∷ es) k q h = by_test (e.who == who) refl q (two_acts (after s e.who e.act) es k)
      where
        by_test : (c : Bool) → (e.who == who) ≡ c → (if c then e ∷ entries_of maker who es else entries_of maker who es) ≡
            entry_of who a ∷ entry_of who b ∷ []
            → (entries_of maker who es ≡ entry_of who a ∷ entry_of who b ∷ []
            → ((j : ℕ) → is_held who ((after s e.who e.act).parcels j) ≡ false)
            → is_held who ((state_from (after s e.who e.act) es).parcels k) ≡ false)
            → is_held who ((state_from (after s e.who e.act) es).parcels k) ≡ false
        by_test true is r next = let same : e ≡ entry_of who a =
            same_head e (entry_of who a) (entries_of maker who es) (entry_of who b ∷ []) r in
            last_act (after s e.who e.act) es k (same_tail e (entry_of who a) (entries_of maker who es) (entry_of who b ∷ []) r)
            (λ j ne. subst (λ (x : ParcelEntry T). is_held who ((after s x.who x.act).parcels j) ≡ false) (sym same)
            (ap (is_held who) (leaves_a s j ne) ∙ h j))
        by_test false is r next = next r (λ j. not_held_step s e.who e.act who j (λ u. let z : true ≡ false = sym (eq-eqb e.who who u) ∙ is
            in cc) (h j))

    idle_two : (v w : Seen T) → has_tag who v.tags ≡ true → IsIdle v → Adds who (entry_of who a ∷ entry_of who b ∷ []) v w → IsIdle w
    idle_two v w own idle x = λ t k h. subst (λ (s : State T). is_held t (s.parcels k) ≡ false)
        (sym (ap (λ l. state_of l) x.now ∙ state_more v.seen x.rest)) (
        let old : has_tag t v.tags ≡ true = sym (ap (has_tag t) x.tags) ∙ h in
        dite (ℕ_discrete t who)
        (λ is. subst (λ u. is_held u ((state_from (now_in v) x.rest).parcels k) ≡ false) (sym is)
        (two_acts (now_in v) x.rest k x.mine (λ j. idle who j own)))
        (λ ne. not_held_from (now_in v) x.rest t k (x.apart t old ne) (idle t k old)))

  -- ---- whole calls

  idle_none : (who : ℕ) (v w : Seen T) → IsIdle v → Adds who [] v w → IsIdle w
  idle_none who v w idle x = λ t k h. subst (λ (s : State T). is_held t (s.parcels k) ≡ false)
      (sym (ap (λ l. state_of l) x.now ∙ state_more v.seen x.rest)) (
      let old : has_tag t v.tags ≡ true = sym (ap (has_tag t) x.tags) ∙ h in
      not_held_from (now_in v) x.rest t k (dite (ℕ_discrete t who) (λ is. ap (λ u. entries_of maker u x.rest) is
      ∙ x.mine) (λ ne. x.apart t old ne)) (idle t k old))

  -- after a number past the last
  missed : (who : ℕ) (s : State T) (es : List (ParcelEntry T)) (k : ℕ) → entries_of maker who es ≡ entry_of who Miss ∷ []
      → is_held who (s.parcels k) ≡ false → is_held who ((state_from s es).parcels k) ≡ false
  unfolding state_from
  missed who s [] k q h = cc
  missed who s (e ∷ es) k q h = by_test (e.who == who) refl q (missed who (after s e.who e.act) es k)
    where
      by_test : (c : Bool) → (e.who == who) ≡ c → (if c then e ∷ entries_of maker who es else entries_of maker who es) ≡
          entry_of who Miss ∷ []
          → (entries_of maker who es ≡ entry_of who Miss ∷ [] → is_held who ((after s e.who e.act).parcels k) ≡ false
          → is_held who ((state_from (after s e.who e.act) es).parcels k) ≡ false)
          → is_held who ((state_from (after s e.who e.act) es).parcels k) ≡ false
      by_test true is r next = let same : e ≡ entry_of who Miss = same_head e (entry_of who Miss) (entries_of maker who es) [] r in
          not_held_from (after s e.who e.act) es who k (same_tail e (entry_of who Miss) (entries_of maker who es) [] r)
          (subst (λ (x : ParcelEntry T). is_held who ((after s x.who x.act).parcels k) ≡ false) (sym same) h)
      by_test false is r next = next r (not_held_step s e.who e.act who k (λ u. let z : true ≡ false = sym (eq-eqb e.who who u) ∙ is
          in cc) h)

  idle_missed : (who : ℕ) (v w : Seen T) → has_tag who v.tags ≡ true → IsIdle v → Adds who (entry_of who Miss ∷ []) v w → IsIdle w
  idle_missed who v w own idle x = λ t k h. subst (λ (s : State T). is_held t (s.parcels k) ≡ false)
      (sym (ap (λ l. state_of l) x.now ∙ state_more v.seen x.rest)) (
      let old : has_tag t v.tags ≡ true = sym (ap (has_tag t) x.tags) ∙ h in
      dite (ℕ_discrete t who)
      (λ is. subst (λ u. is_held u ((state_from (now_in v) x.rest).parcels k) ≡ false) (sym is)
      (missed who (now_in v) x.rest k x.mine (idle who k own)))
      (λ ne. not_held_from (now_in v) x.rest t k (x.apart t old ne) (idle t k old)))

  pub put_idle : (n who : ℕ) (x : T) (v w : Seen T) (r : Result ℕ T) → has_tag who v.tags ≡ true → IsIdle v → PutAnswer n who x v w r
      → IsIdle w
  put_idle n who x v w (Ok m) own idle h = idle_two who m (Draw m) (MoveIn m x)
      (λ s j ne. put_else m j (drawn who) s.parcels (λ e. ne (sym e))) (λ s j ne. put_else m j (inside x) s.parcels (λ e. ne (sym e)))
      (λ s. ap (is_held who) (put_here m (inside x) s.parcels)) v w own idle h.0
  put_idle n who x v w (Err y) own idle h = ⊎_elim
      (λ e. idle_none who v w idle (subst (λ l. Adds who l v w) e h.1.adds))
      (λ e. idle_missed who v w own idle (subst (λ l. Adds who l v w) e h.1.adds)) h.1.none

  pub take_idle : (who k : ℕ) (v w : Seen T) (r : Option T) → has_tag who v.tags ≡ true → IsIdle v → TakeAnswer who k v w r → IsIdle w
  take_idle who k v w (Some x) own idle h = idle_two who k (MoveOut k) (PutBack k)
      (λ s j ne. put_else k j (outside who) s.parcels (λ e. ne (sym e))) (λ s j ne. put_else k j emptied s.parcels (λ e. ne (sym e)))
      (λ s. ap (is_held who) (put_here k emptied s.parcels)) v w own idle h.0
  take_idle who k v w None own idle h = idle_none who v w idle h.0

  -- ---- passes

  -- a tag under which nobody made an entry
  pub fresh_idle : (log : List (ParcelEntry T)) (t k : ℕ) → entries_of maker t log ≡ [] → is_held t ((state_of log).parcels k) ≡ false
  fresh_idle log t k none = not_held_from start log t k none refl

  pub split_idle : (v : Seen T) (tag : ℕ) → entries_of maker tag v.seen ≡ [] → IsIdle (new_view (with_next v tag))
  split_idle v tag none = λ t k h. fresh_idle v.seen t k (ap (λ u. entries_of maker u v.seen) (only_one t tag h) ∙ none)

  pub end_idle : (n m : ℕ) (v u w : Seen T) → IsIdle v → IsIdle u → Loaded (Legal n) Fits maker 0 m (told_by v u) w → IsIdle w
  end_idle n m v u w idle_v idle_u l = λ t k h. subst (λ (x : Seen T). is_held t ((now_in x).parcels k) ≡ false) (sym l.now) (⊎_elim
      (λ (own : has_tag t v.tags ≡ true). subst (λ (s : State T). is_held t (s.parcels k) ≡ false) (sym (state_more v.seen l.others))
      (not_held_from (now_in v) l.others t k (l.added.apart t own) (idle_v t k own)))
      (λ (own : has_tag t u.tags ≡ true). let p = l.added.told
      in subst (λ log. is_held t ((state_of log).parcels k) ≡ false) p.1
      (subst (λ (s : State T). is_held t (s.parcels k) ≡ false) (sym (state_more u.seen p.0))
      (not_held_from (now_in u) p.0 t k (entries_of_rest maker t u.seen p.0 (v.seen ++ l.others) (sym p.1) (l.added.given_to t own))
      (idle_u t k own))))
      (has_tag-append t v.tags u.tags (sym (ap (λ (x : Seen T). has_tag t x.tags) l.now) ∙ h)))

  pub meet_idle : (n m key : ℕ) (v : Seen T) (seen : List (ParcelEntry T)) (w : Seen T) → IsIdle v
      → Loaded (Legal n) Fits maker 0 m (told_by v (untagged key seen)) w → IsIdle w
  meet_idle n m key v seen w idle l = end_idle n m v (untagged key seen) w idle (λ t k h. cc) l

pub first_idle : (T : Type 0) (n : ℕ) → IsIdle (first_view {E = ParcelEntry T} n)
first_idle T n = λ t k h. fresh_idle {T = T} [] t k refl
