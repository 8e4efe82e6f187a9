-- Each number is moved in at most once, and out at most as often.
use Rattle.std.specs.Prelude.{◌≡◌, ℕ, ◌+◌, ◌==◌, ◌≤◌, Bool, true, false, List, [], ◌∷◌, Option, if◌then◌else◌, refl}
use Rattle.std.proofs.Common.{sym, ap, ◌∙◌, subst, arith, ne_eqb, eq-eqb}
use mathlib.Core.Logic.{dite}
use native.Mathlib.Decide.{ℕ_discrete}
use Rattle.atomic_table.specs.Table.{State as Table}
use Rattle.parcel_channel.specs.declared.parcel.ParcelAct.{ParcelAct}
use Rattle.parcel_channel.specs.declared.parcel.ParcelAct.TheVariants.{Draw, Miss, MoveIn, MoveOut, PutBack}
use Rattle.parcel_channel.specs.declared.parcel.ParcelEntry.{ParcelEntry}
use Rattle.parcel_channel.specs.Parcels.{Parcel, unused, drawn, inside, outside, emptied, is_drawn_by, is_inside, is_out_with, State, start, put, after, state_from, state_of, Needs, LegalFrom, Legal, moves}
use Rattle.parcel_channel.specs.Tables.{HoldsParcels}
use Rattle.parcel_channel.specs.Seen.{Seen}
use Rattle.parcel_channel.specs.Moves.{is_move_in, is_move_out, how_often, IsMovedOnce, HoldsMoves}
use Rattle.parcel_channel.proofs.HistoriesGoOn.{put_here, put_else, moves-append}
use Rattle.parcel_channel.proofs.StatesStaySound.{Sound, sound_step, start_sound, one_if}

zero_plus : (x : ℕ) → 0 + x ≡ x
zero_plus x = omega arith

add_up : (a b x y z m : ℕ) → m ≡ a + b → a + x ≡ y → b + y ≡ z → m + x ≡ z
add_up a b x y z m e f g = omega (arith, e, f, g)

one_less : (m k : ℕ) → m + 0 ≡ k → k ≤ 1 → m ≤ 1
one_less m k e le = omega (arith, e, le)

fewer : (m n k j : ℕ) → m + 0 ≡ k → n + 0 ≡ j → k ≤ j → m ≤ n
fewer m n k j e f le = omega (arith, e, f, le)

le_self : (n : ℕ) → n ≤ n
le_self n = omega arith

module _ {T : Type 0} where
  -- how often the number was moved in, and out
  abbrev ins : Parcel T → ℕ
  ins unused = 0
  ins (drawn t) = 0
  ins (inside v) = 1
  ins (outside t) = 1
  ins emptied = 1

  abbrev outs : Parcel T → ℕ
  outs unused = 0
  outs (drawn t) = 0
  outs (inside v) = 0
  outs (outside t) = 1
  outs emptied = 1

  ins_small : (p : Parcel T) → ins p ≤ 1
  ins_small unused = omega arith
  ins_small other = omega arith

  outs_small : (p : Parcel T) → outs p ≤ ins p
  outs_small unused = omega arith
  outs_small other = omega arith

  drawn_ins : (t : ℕ) (p : Parcel T) → is_drawn_by t p ≡ true → (ins p ≡ 0) × (outs p ≡ 0)
  drawn_ins t unused h = cc
  drawn_ins t (drawn u) h = (refl, refl)
  drawn_ins t (inside v) h = cc
  drawn_ins t (outside u) h = cc
  drawn_ins t emptied h = cc

  inside_ins : (p : Parcel T) → is_inside p ≡ true → (ins p ≡ 1) × (outs p ≡ 0)
  inside_ins unused h = cc
  inside_ins (drawn u) h = cc
  inside_ins (inside v) h = (refl, refl)
  inside_ins (outside u) h = cc
  inside_ins emptied h = cc

  out_ins : (t : ℕ) (p : Parcel T) → is_out_with t p ≡ true → (ins p ≡ 1) × (outs p ≡ 1)
  out_ins t unused h = cc
  out_ins t (drawn u) h = cc
  out_ins t (inside v) h = cc
  out_ins t (outside u) h = (refl, refl)
  out_ins t emptied h = cc

  -- an act that counts one where it is at k
  counted : (f : Parcel T → ℕ) (s : State T) (j k : ℕ) (p : Parcel T) → 1 + f (s.parcels j) ≡ f p
      → one_if (j == k) + f (s.parcels k) ≡ f (put j p s.parcels k)
  counted f s j k p h = dite (ℕ_discrete j k)
      (λ is. subst (λ i. one_if (j == i) + f (s.parcels i) ≡ f (put j p s.parcels i)) is
      ((λ i. one_if (eq-eqb j j refl i) + f (s.parcels j)) ∙ h ∙ ap f (sym (put_here j p s.parcels))))
      (λ ne. (λ i. one_if (ne_eqb j k ne i) + f (s.parcels k)) ∙ zero_plus (f (s.parcels k)) ∙ ap f (sym (put_else j k p s.parcels ne)))

  -- an act that counts none, and leaves f of the parcel
  uncounted : (f : Parcel T → ℕ) (s : State T) (j k : ℕ) (p : Parcel T) → f (s.parcels j) ≡ f p
      → 0 + f (s.parcels k) ≡ f (put j p s.parcels k)
  uncounted f s j k p h = zero_plus (f (s.parcels k)) ∙ dite (ℕ_discrete j k)
      (λ is. ap (λ i. f (s.parcels i)) (sym is) ∙ h ∙ ap f (sym (put_here j p s.parcels)) ∙ ap (λ i. f (put j p s.parcels i)) is)
      (λ ne. ap f (sym (put_else j k p s.parcels ne)))

  ins_step : (n : ℕ) (s : State T) (who : ℕ) (act : ParcelAct T) (k : ℕ) → Sound n s → Needs n s who act
      → one_if (is_move_in k act) + ins (s.parcels k) ≡ ins ((after s who act).parcels k)
  ins_step n s who (Draw j) k sound q = uncounted ins s j k (drawn who) (ap ins (sound.undrawn j (subst (λ m. m ≤ j) q.0 (le_self j))))
  ins_step n s who Miss k sound q = zero_plus (ins (s.parcels k))
  ins_step n s who (MoveIn j v) k sound q = counted ins s j k (inside v) (ap (λ m. 1 + m) (drawn_ins who (s.parcels j) q).0)
  ins_step n s who (MoveOut j) k sound q = uncounted ins s j k (outside who) (inside_ins (s.parcels j) q).0
  ins_step n s who (PutBack j) k sound q = uncounted ins s j k emptied (out_ins who (s.parcels j) q).0

  outs_step : (n : ℕ) (s : State T) (who : ℕ) (act : ParcelAct T) (k : ℕ) → Sound n s → Needs n s who act
      → one_if (is_move_out k act) + outs (s.parcels k) ≡ outs ((after s who act).parcels k)
  outs_step n s who (Draw j) k sound q = uncounted outs s j k (drawn who) (ap outs (sound.undrawn j (subst (λ m. m ≤ j) q.0 (le_self j))))
  outs_step n s who Miss k sound q = zero_plus (outs (s.parcels k))
  outs_step n s who (MoveIn j v) k sound q = uncounted outs s j k (inside v) (drawn_ins who (s.parcels j) q).1
  outs_step n s who (MoveOut j) k sound q = counted outs s j k (outside who) (ap (λ m. 1 + m) (inside_ins (s.parcels j) q).1)
  outs_step n s who (PutBack j) k sound q = uncounted outs s j k emptied (out_ins who (s.parcels j) q).1

  first_often : (test : ParcelAct T → Bool) (e : ParcelEntry T) (es : List (ParcelEntry T))
      → how_often test (e ∷ es) ≡ one_if (test e.act) + how_often test es
  first_often test e es = by_test (test e.act)
    where
      by_test : (b : Bool) → (if b then 1 + how_often test es else how_often test es) ≡ one_if b + how_often test es
      by_test true = refl
      by_test false = sym (zero_plus (how_often test es))

  often_from : (n k : ℕ) (test : ParcelAct T → Bool) (f : Parcel T → ℕ)
      → ((s : State T) (who : ℕ) (act : ParcelAct T) → Sound n s → Needs n s who act
      → one_if (test act) + f (s.parcels k) ≡ f ((after s who act).parcels k))
      → (s : State T) (es : List (ParcelEntry T)) → Sound n s → LegalFrom n s es
      → how_often test es + f (s.parcels k) ≡ f ((state_from s es).parcels k)
  unfolding state_from LegalFrom
  often_from n k test f step s [] sound h = zero_plus (f (s.parcels k))
  often_from n k test f step s (e ∷ es) sound h = let t : State T = after s e.who e.act in
      add_up (one_if (test e.act)) (how_often test es) (f (s.parcels k)) (f (t.parcels k)) (f ((state_from t es).parcels k))
      (how_often test (e ∷ es)) (first_often test e es)
      (step s e.who e.act sound h.0) (often_from n k test f step t es (sound_step n s e.who e.act sound h.0) h.1)

  pub moved_once : (n : ℕ) (log : List (ParcelEntry T)) (k : ℕ) → Legal n log → IsMovedOnce log k
  moved_once n log k h =
      let p : Parcel T = (state_of log).parcels k in
      let a = often_from n k (is_move_in k) ins (λ s who act sound q. ins_step n s who act k sound q) start log (start_sound n) h in
      let b = often_from n k (is_move_out k) outs (λ s who act sound q. outs_step n s who act k sound q) start log (start_sound n) h in
      record {
        once = one_less (how_often (is_move_in k) log) (ins p) a (ins_small p);
        out = fewer (how_often (is_move_out k) log) (how_often (is_move_in k) log) (outs p) (ins p) b a (outs_small p);
      }

  pub holds_moves : (n : ℕ) (s : Table (Option T) (Seen T)) → HoldsParcels n s → HoldsMoves s
  holds_moves n s r = record {
    log = r.one.log;
    once = λ k. moved_once n r.one.log k r.one.is_legal;
    prefixes = λ id v at. let b = (r.one.views_fit id v at).begins in (moves b.0, sym (moves-append v.seen b.0) ∙ ap moves b.1);
  }
