-- Once all passes have ended, each slot is at home, and what lies there is known.
use Rattle.std.specs.Prelude.{◌≡◌, ℕ, ◌<◌, Bool, true, false, List, [], ◌∷◌, ◌++◌, Option, if◌then◌else◌, refl}
use Rattle.std.proofs.Common.{sym, ap, ◌∙◌, append-nil, eq-eqb}
use mathlib.Core.Option.{some}
use lib.ListN.{get_elem?}
use Rattle.atomic_table.specs.Table.{State as Table, Final, Seen as SeenOf}
use Rattle.worded.specs.Views.{has_tag}
use Rattle.worded.specs.Histories.{entries_of}
use Rattle.worded.proofs.TagsAndPrefixes.{entries_of_rest, entries_of-append}
use Rattle.parcel_channel.specs.declared.parcel.ParcelEntry.{ParcelEntry}
use Rattle.parcel_channel.specs.Parcels.{Parcel, unused, drawn, inside, outside, emptied, is_held, rest_of, state_of, maker}
use Rattle.parcel_channel.specs.Tables.{home_of, HoldsParcels}
use Rattle.parcel_channel.specs.Seen.{Seen, now_in, IsIdle}
use Rattle.parcel_channel.proofs.NobodyHolds.{fresh_idle}

no_rest : {A : Type 0} (xs ys : List A) → xs ++ ys ≡ [] → ys ≡ []
no_rest [] ys e = e
no_rest (x ∷ xs) ys e = cc

module _ {T : Type 0} where
  -- entries are made by somebody
  no_one : (es : List (ParcelEntry T)) → ((t : ℕ) → entries_of maker t es ≡ []) → es ≡ []
  no_one [] h = refl
  no_one (e ∷ es) h = absurd (let z : e ∷ entries_of maker e.who es ≡ [] =
      ap (λ (b : Bool). if b then e ∷ entries_of maker e.who es else entries_of maker e.who es) (sym (eq-eqb e.who e.who refl)) ∙ h e.who
      in cc)

  held_by : Parcel T → ℕ
  held_by unused = 0
  held_by (drawn t) = t
  held_by (inside v) = 0
  held_by (outside t) = t
  held_by emptied = 0

  -- a slot that is in nobody's hands is at home
  at_home : (p : Parcel T) → ((t : ℕ) → is_held t p ≡ false) → home_of p ≡ some (rest_of p)
  at_home unused h = refl
  at_home (drawn t) h = let z : true ≡ false = sym (eq-eqb t t refl) ∙ h t in cc
  at_home (inside v) h = refl
  at_home (outside t) h = let z : true ≡ false = sym (eq-eqb t t refl) ∙ h t in cc
  at_home emptied h = refl

  pub rest_is : (n id : ℕ) (v : Seen T) (ws : List ℕ) (xs : List (Option T)) → v.chief ≡ true
      → ((t : ℕ) → has_tag t v.given ≡ true → has_tag t v.tags ≡ true) → IsIdle v → Final (SeenOf (HoldsParcels n) id v) ws xs
      → (k : ℕ) → k < n → get_elem? xs k ≡ some (rest_of ((now_in v).parcels k))
  rest_is n id v ws xs chief ended idle f k lt = f.4 k (rest_of ((now_in v).parcels k)) (r.homes k lt
      ∙ ap (λ (p : Parcel T). some (home_of p)) (ap (λ l. (state_of l).parcels k) (sym whole))
      ∙ ap some (at_home ((now_in v).parcels k) nobody))
    where
      s : Table (Option T) (Seen T)
      s = f.0

      r : HoldsParcels n s
      r = f.1.0

      at : get_elem? s.views id ≡ some v
      at = f.1.1

      log : List (ParcelEntry T)
      log = r.one.log

      rest : List (ParcelEntry T)
      rest = (r.one.views_fit id v at).begins.0

      goes : v.seen ++ rest ≡ log
      goes = (r.one.views_fit id v at).begins.1

      -- who has no tag here has none at all
      without : (t : ℕ) → has_tag t v.tags ≡ false → entries_of maker t log ≡ []
      without t h = r.one.unowned t (((r.one.views_fit id v at).chief chief).1 t (go (has_tag t v.given) refl))
        where
          go : (b : Bool) → has_tag t v.given ≡ b → b ≡ false
          go true is = let z : true ≡ false = sym (ended t is) ∙ h in cc
          go false is = refl

      none_left : (t : ℕ) → entries_of maker t rest ≡ []
      none_left t = go (has_tag t v.tags) refl
        where
          go : (b : Bool) → has_tag t v.tags ≡ b → entries_of maker t rest ≡ []
          go true is = entries_of_rest maker t v.seen rest log (sym goes) ((r.one.views_fit id v at).owned t is).1
          go false is = no_rest (entries_of maker t v.seen) (entries_of maker t rest) (sym (entries_of-append maker t v.seen rest)
              ∙ ap (entries_of maker t) goes ∙ without t is)

      whole : v.seen ≡ log
      whole = sym (append-nil v.seen) ∙ ap (λ l. v.seen ++ l) (sym (no_one rest none_left)) ∙ goes

      nobody : (t : ℕ) → is_held t ((now_in v).parcels k) ≡ false
      nobody t = go (has_tag t v.tags) refl
        where
          go : (b : Bool) → has_tag t v.tags ≡ b → is_held t ((now_in v).parcels k) ≡ false
          go true is = idle t k is
          go false is = fresh_idle v.seen t k (ap (entries_of maker t) whole ∙ without t is)
