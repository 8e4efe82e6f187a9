-- Gates as they are made, and passes that were split off.
use Rattle.std.specs.Prelude.{◌≡◌, ℕ, zero, suc, ◌+◌, ◌*◌, ◌<◌, Bool, true, false, List, [], ◌∷◌, if◌then◌else◌, slice_index, refl}
use Rattle.std.proofs.Common.{sym, ap, ◌∙◌, subst, arith, ne_eqb, eq-eqb}
use Rattle.worded.specs.Views.{has_tag, first_view, new_view, with_next}
use Rattle.worded.specs.Histories.{entries_of}
use Rattle.gates.specs.declared.act.GateEntry.{GateEntry}
use Rattle.gates.specs.Gates.{start, state_from, state_of, LegalFrom, Legal, maker}
use Rattle.gates.specs.Words.{mask_of, Fits}
use Rattle.gates.specs.Seen.{Seen, first_tag}
use Rattle.gates.proofs.StatesStaySound.{Counted, counted_others}
use Rattle.gates.proofs.PassesTell.{PassLaws}

pub nothing_yet : (n : ℕ) → Legal n []
unfolding LegalFrom
nothing_yet n = tt

none_set : (k : ℕ) → mask_of (λ t. false) k ≡ 0
unfolding mask_of
none_set zero = refl
none_set (suc k) = let h : mask_of (λ t. false) k ≡ 0 = none_set k in omega (arith, h)

plain : (n m : ℕ) → m ≡ 0 → n ≡ n + 65536 * m
plain n m e = omega (arith, e)

pub nothing_held : (n t : ℕ) → Counted t 0 false (state_of n [])
unfolding state_from
nothing_held n t = record { claimed = refl; calm = λ e. refl }

pub first_laws : (n : ℕ) (v : Seen) → v ≡ first_view n → PassLaws 0 0 0 false v
unfolding LegalFrom
first_laws n v e = subst (PassLaws 0 0 0 false) (sym e)
    (record { numbered = (refl, refl); ungiven = λ t lt. above t lt; legal = tt; counted = nothing_held n 0 })
  where
    above : (t : ℕ) → 0 < t → has_tag t (0 ∷ []) ≡ false
    above t lt = ap (λ (b : Bool). if b then true else false) (ne_eqb t 0 (λ e. absurd (omega (arith, lt, e))))

-- a tag that made no entry holds nothing
pub unmade : (n t : ℕ) (log : List GateEntry) → Legal n log → entries_of maker t log ≡ [] → Counted t 0 false (state_of n log)
unmade n t log legal none = counted_others t 0 false (start n) log legal none (record { claimed = refl; calm = λ e. refl })

-- the laws of a pass that was split off
pub split_laws : (n t : ℕ) (w : Seen) → Legal w.key w.seen → entries_of maker t w.seen ≡ [] → w.tags ≡ t ∷ [] → w.given ≡ []
    → PassLaws t 0 0 false w
split_laws n t w legal none tags given = record {
  numbered = (ap first_tag tags, ap (has_tag t) tags ∙ has_here t);
  ungiven = λ u lt. ap (has_tag u) given;
  legal = legal;
  counted = unmade w.key t w.seen legal none;
}
  where
    has_here : (t : ℕ) → has_tag t (t ∷ []) ≡ true
    has_here t = ap (λ (b : Bool). if b then true else false) (eq-eqb t t refl)

pub split_laws_at : (splits : ℕ) (v w : Seen) → Legal v.key v.seen → entries_of maker (splits + 1) v.seen ≡ []
    → w ≡ new_view (with_next v (splits + 1)) → PassLaws (splits + 1) 0 0 false w
split_laws_at splits v w legal none is = subst (PassLaws (splits + 1) 0 0 false) (sym is)
    (split_laws v.key (splits + 1) (new_view (with_next v (splits + 1))) legal none refl refl)

pub first_fits_at : (n : ℕ) (ws : List ℕ) (i : ℕ) → slice_index ws 0 ≡ n → Fits n [] i (slice_index ws i)
unfolding state_from
first_fits_at n ws i is = record {
  word = λ e. ap (slice_index ws) e ∙ is ∙ plain n (mask_of (λ t. false) 48) (none_set 48);
}
