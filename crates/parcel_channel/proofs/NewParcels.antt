-- Parcels as they are made.
use Rattle.std.specs.Prelude.{◌≡◌, ℕ, zero, suc, ◌==◌, ◌<◌, Bool, true, false, List, [], ◌∷◌, length, replicate, None, if◌then◌else◌, refl}
use Rattle.std.proofs.Common.{get_or, sym, ap, ◌∙◌, subst, arith, eq-eqb, ne_eqb}
use Rattle.std.proofs.lemmas.List.{length-map, length-replicate}
use mathlib.Core.Option.{some, some-injective, some-ne-none}
use lib.ListN.{get_elem?}
use Rattle.atomic_table.specs.Table.{opening}
use Rattle.worded.specs.Views.{first_view}
use Rattle.worded.specs.Histories.{Knows, HasTag}
use Rattle.worded.proofs.TagsAndPrefixes.{zero_not, same_id, no_tag, only_one, not_first}
use Rattle.parcel_channel.specs.declared.parcel.ParcelEntry.{ParcelEntry}
use Rattle.parcel_channel.specs.Parcels.{state_from, LegalFrom, Legal, maker}
use Rattle.parcel_channel.specs.Tables.{Fits, word_count, HoldsParcels}
use Rattle.parcel_channel.specs.Seen.{Seen}
use Rattle.joined_words.proofs.PartsOfTables.{at_mapped}

at_replicate : {A : Type 0} (n k : ℕ) (x : A) → k < n → get_elem? (replicate n x) k ≡ some x
at_replicate zero k x lt = absurd (omega (arith, lt))
at_replicate (suc n) zero x lt = refl
at_replicate (suc n) (suc k) x lt = at_replicate n k x (omega (arith, lt))

-- the first seat has the tag 0
abbrev first_owner : ℕ → ℕ
first_owner t = if t == 0 then 1 else 0

nothing_yet : (T : Type 0) (n : ℕ) → Legal {T = T} n []
unfolding LegalFrom
nothing_yet T n = tt

module _ {T : Type 0} where
  first_fits : (i m : ℕ) → m ≡ 0 → Fits {T = T} [] i m
  unfolding state_from
  first_fits i m none = record { counter = λ e. none; parcel = λ k e. none }

  mine : (n : ℕ) → Knows (Legal n) (Fits {T = T}) maker [] first_owner 0 (first_view n)
  mine n = record {
    begins = ([], refl);
    told = ([], refl);
    owned = λ t h. (ap (λ (b : Bool). if b then 1 else 0) (eq-eqb t 0 (only_one t 0 h)), refl);
    given_to = λ t h. absurd (no_tag t h);
    chief = λ o. (refl, λ t h. ap (λ (b : Bool). if b then 1 else 0) (ne_eqb t 0 (not_first t 0 [] h).0));
  }

  first_views : (n j : ℕ) (u : Seen T) → get_elem? (first_view n ∷ []) j ≡ some u → Knows (Legal n) (Fits {T = T}) maker [] first_owner j u
  first_views n zero u e = subst (Knows (Legal n) Fits maker [] first_owner 0) (some-injective (first_view n) u e) (mine n)
  first_views n (suc j) u e = absurd (some-ne-none u (sym e))

  first_held : (n t j : ℕ) (b : Bool) → (t == 0) ≡ b → (if b then 1 else 0) ≡ suc j
      → HasTag {E = ParcelEntry T} {K = ℕ} (first_view n ∷ []) j t
  first_held n t zero true e o = (first_view n, refl, ap (λ (b : Bool). if b then true else false) e)
  first_held n t (suc j) true e o = absurd (zero_not (same_id 0 (suc j) o))
  first_held n t j false e o = absurd (zero_not o)

  -- the table at the start
  pub opens : (n : ℕ) (words : List ℕ) → length words ≡ word_count n → ((i : ℕ) → i < word_count n → get_or words i 0 ≡ 0)
      → HoldsParcels {T = T} n (opening words (replicate n None) (first_view n))
  unfolding state_from
  opens n words long zeros = record {
    one = record {
      log = [];
      owner = first_owner;
      is_legal = nothing_yet T n;
      unowned = λ t z. refl;
      held = λ t j o. first_held n t j (t == 0) refl o;
      wide = long;
      words_fit = λ i lt. first_fits i (get_or words i 0) (zeros i lt);
      views_fit = first_views n;
    };
    many = length-map (replicate n None) some ∙ length-replicate n None;
    homes = λ k lt. at_mapped some (replicate n None) k None (at_replicate n k None lt);
  }
