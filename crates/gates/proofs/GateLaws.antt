-- What holds of a gate between any two steps.
use Rattle.std.specs.Prelude.{◌≡◌, ℕ, suc, ◌+◌, ◌<◌, ◌≤◌, List, [], ◌∷◌, length, refl}
use Rattle.std.proofs.Common.{sym, ap, ◌∙◌, subst, arith}
use mathlib.Core.Logic.{dite}
use mathlib.Core.List.{IsPrefix}
use native.Mathlib.Decide.{ℕ_discrete}
use Rattle.atomic_table.specs.Table.{State as Table}
use Rattle.worded.specs.Histories.{HasOneHistory, entries_of}
use Rattle.worded.specs.declared.view.View.{View}
use Rattle.gates.specs.declared.act.GateEntry.{GateEntry}
use Rattle.gates.specs.Gates.{State, count, after, state_of, state_from, claims, LegalFrom, Legal, maker}
use Rattle.gates.specs.Words.{Fits}
use Rattle.gates.specs.Laws.{OneHolder, AddsUp, HoldsGate}
use Rattle.worded.proofs.TagsAndPrefixes.{entries_of_rest}
use Rattle.gates.proofs.HistoriesGoOn.{apart_first, state_more, Legal-rest}
use Rattle.gates.proofs.StatesStaySound.{Sound, sound_of, count_else, count_small, claims_other}

few_left : (f l k n : ℕ) → f + l ≡ n → n ≡ 1 → l ≡ suc k → k ≡ 0
few_left f l k n e h s = omega (arith, e, h, s)

none_there : (t : ℕ) (us : List ℕ) → length us ≡ 0 → 0 < count t us → ⊥
none_there t us e h = let c : count t us ≤ length us = count_small t us in omega (arith, c, e, h)

one_there : (t u : ℕ) (us : List ℕ) → length us ≡ 0 → 0 < count t (u ∷ us) → u ≡ t
one_there t u us e h = dite (ℕ_discrete u t) (λ is. is)
    (λ ne. absurd (none_there t us e (subst (λ n. 0 < n) (count_else t u us ne) h)))

pub one_holder : (n : ℕ) (s : State) → Sound n s → n ≡ 1 → OneHolder s
one_holder n s h is t u p q = by_list s.holders refl p q
  where
    by_list : (l : List ℕ) → s.holders ≡ l → 0 < count t l → 0 < count u l → t ≡ u
    by_list [] e p q = absurd (omega (arith, p))
    by_list (x ∷ l) e p q = let none : length l ≡ 0 = few_left s.free (length s.holders) (length l) n h.total is (ap length e) in
        sym (one_there t x l none p) ∙ one_there u x l none q

pub adds_up : (n : ℕ) (log : List GateEntry) → Legal n log → AddsUp n (state_of n log)
adds_up n log legal = let h : Sound n (state_of n log) = sound_of n log legal in
    record { total = h.total; served = h.served; mutex = one_holder n (state_of n log) h }

-- what a pass has seen tells what its tags hold or wait for
pub claims_since : (s : State) (t : ℕ) (es : List GateEntry) → LegalFrom s es → entries_of maker t es ≡ []
    → claims t (state_from s es) ≡ claims t s
unfolding state_from LegalFrom
claims_since s t [] k none = refl
claims_since s t (e ∷ es) k none = let r = apart_first t e es none in
    claims_since (after s e.who e.act) t es k.1 r.1 ∙ claims_other s e.who e.act t r.0 k.0

pub claims_known : (n t : ℕ) (seen log : List GateEntry) → IsPrefix seen log → Legal n log
    → entries_of maker t log ≡ entries_of maker t seen
    → claims t (state_of n log) ≡ claims t (state_of n seen)
claims_known n t seen log b legal same =
    let parts = Legal-rest n seen b.0 (subst (Legal n) (sym b.1) legal) in
    ap (λ l. claims t (state_of n l)) (sym b.1) ∙ ap (claims t) (state_more n seen b.0)
    ∙ claims_since (state_of n seen) t b.0 parts.1 (entries_of_rest maker t seen b.0 log (sym b.1) same)

pub holds_gate : (n : ℕ) (s : Table GateEntry (View GateEntry ℕ)) → HasOneHistory (Legal n) (Fits n) maker 49 s → HoldsGate n s
holds_gate n s r = record {
  log = r.log;
  legal = r.is_legal;
  adds_up = adds_up n r.log r.is_legal;
  word = (r.words_fit 0 (omega arith)).word refl;
  prefixes = λ id v at. (r.views_fit id v at).begins;
  own = λ id t v at h. ((r.views_fit id v at).owned t h).1;
  known = λ id t v at h. claims_known n t v.seen r.log (r.views_fit id v at).begins r.is_legal ((r.views_fit id v at).owned t h).1;
}
