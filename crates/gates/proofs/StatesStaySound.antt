-- What holds after each legal history: the permits add up, and what a tag holds or waits for is its own affair.
use Rattle.std.specs.Prelude.{◌≡◌, ℕ, suc, ◌+◌, ◌-◌, ◌==◌, ◌<◌, ◌≤◌, Bool, true, false, List, [], ◌∷◌, length, if◌then◌else◌, refl}
use Rattle.std.proofs.Common.{sym, ap, ◌∙◌, subst, arith, ne_eqb, eq-eqb}
use mathlib.Core.Logic.{dite}
use native.Mathlib.Decide.{ℕ_discrete}
use Rattle.worded.specs.Histories.{entries_of}
use Rattle.gates.specs.declared.act.GateAct.{GateAct}
use Rattle.gates.specs.declared.act.GateAct.TheVariants.{Take, Wait, Give, Grant, GiveUp}
use Rattle.gates.specs.declared.act.GateEntry.{GateEntry}
use Rattle.gates.specs.Gates.{State, start, count, without, put, one_if, after, state_from, state_of, holds, claims, NobodyWaits, Needs, LegalFrom, Legal, maker}
use Rattle.gates.specs.Answers.{held_then, waits_then, ReadyFor}
use Rattle.gates.proofs.HistoriesGoOn.{put_here, put_else, put_false, apart_first}

-- ---- lists of tags

pub count_here : (t u : ℕ) (us : List ℕ) → u ≡ t → count t (u ∷ us) ≡ suc (count t us)
count_here t u us is = ap (λ (b : Bool). if b then suc (count t us) else count t us) (eq-eqb u t is)

pub count_else : (t u : ℕ) (us : List ℕ) → (u ≡ t → ⊥) → count t (u ∷ us) ≡ count t us
count_else t u us ne = ap (λ (b : Bool). if b then suc (count t us) else count t us) (ne_eqb u t ne)

without_here : (t u : ℕ) (us : List ℕ) → u ≡ t → without t (u ∷ us) ≡ us
without_here t u us is = ap (λ (b : Bool). if b then us else u ∷ without t us) (eq-eqb u t is)

without_else : (t u : ℕ) (us : List ℕ) → (u ≡ t → ⊥) → without t (u ∷ us) ≡ u ∷ without t us
without_else t u us ne = ap (λ (b : Bool). if b then us else u ∷ without t us) (ne_eqb u t ne)

pub without_length : (t : ℕ) (us : List ℕ) → 0 < count t us → suc (length (without t us)) ≡ length us
without_length t [] h = absurd (omega (arith, h))
without_length t (u ∷ us) h = dite (ℕ_discrete u t)
    (λ is. ap (λ (l : List ℕ). suc (length l)) (without_here t u us is))
    (λ ne. ap (λ (l : List ℕ). suc (length l)) (without_else t u us ne)
    ∙ ap suc (without_length t us (subst (λ n. 0 < n) (count_else t u us ne) h)))

pub without_own : (t : ℕ) (us : List ℕ) → 0 < count t us → suc (count t (without t us)) ≡ count t us
without_own t [] h = absurd (omega (arith, h))
without_own t (u ∷ us) h = dite (ℕ_discrete u t)
    (λ is. ap (λ (l : List ℕ). suc (count t l)) (without_here t u us is) ∙ sym (count_here t u us is))
    (λ ne. ap (λ (l : List ℕ). suc (count t l)) (without_else t u us ne) ∙ ap suc (count_else t u (without t us) ne)
    ∙ without_own t us (subst (λ n. 0 < n) (count_else t u us ne) h) ∙ sym (count_else t u us ne))

pub without_other : (t v : ℕ) (us : List ℕ) → (t ≡ v → ⊥) → count v (without t us) ≡ count v us
without_other t v [] apart = refl
without_other t v (u ∷ us) apart = dite (ℕ_discrete u t)
    (λ is. ap (count v) (without_here t u us is) ∙ sym (count_else v u us (λ e. apart (sym is ∙ e))))
    (λ ne. ap (count v) (without_else t u us ne)
    ∙ ap (λ n. if u == v then suc n else n) (without_other t v us apart))

pub count_small : (t : ℕ) (us : List ℕ) → count t us ≤ length us
count_small t [] = omega arith
count_small t (u ∷ us) = by_test (u == t) (count_small t us)
  where
    by_test : (b : Bool) → count t us ≤ length us → (if b then suc (count t us) else count t us) ≤ suc (length us)
    by_test true h = omega (arith, h)
    by_test false h = omega (arith, h)

-- ---- the permits

pub record Sound (n : ℕ) (s : State) : Type 0 where
  pub total : s.free + length s.holders ≡ n
  pub served : 0 < s.free → NobodyWaits s
  pub few : (t : ℕ) → 48 ≤ t → s.waits t ≡ false

taken : (f l n : ℕ) → 0 < f → f + l ≡ n → (f - 1) + suc l ≡ n
taken f l n h e = omega (arith, h, e)

given : (f l k n : ℕ) → suc l ≡ k → f + k ≡ n → suc f + l ≡ n
given f l k n h e = omega (arith, h, e)

granted : (f l k n : ℕ) → l ≡ k → f + k ≡ n → f + l ≡ n
granted f l k n h e = omega (arith, h, e)

less_free : (f : ℕ) → 0 < f - 1 → 0 < f
less_free f h = omega (arith, h)

pub sound_step : (n : ℕ) (s : State) (who : ℕ) (act : GateAct) → Sound n s → Needs s who act → Sound n (after s who act)
sound_step n s who Take h k = record {
  total = taken s.free (length s.holders) n k h.total;
  served = λ f. h.served (less_free s.free f);
  few = h.few;
}
sound_step n s who Wait h k = record {
  total = h.total;
  served = λ f. absurd (omega (arith, f, k.0));
  few = λ t le. put_else who t true s.waits (λ e. absurd (omega (arith, e, le, k.2))) ∙ h.few t le;
}
sound_step n s who Give h k = record {
  total = given s.free (length (without who s.holders)) (length s.holders) n (without_length who s.holders k.0) h.total;
  served = λ f. k.1;
  few = h.few;
}
sound_step n s who (Grant u) h k = record {
  total = granted s.free (suc (length (without who s.holders))) (length s.holders) n (without_length who s.holders k.0) h.total;
  served = λ f t. put_false u t s.waits (h.served f t);
  few = λ t le. put_false u t s.waits (h.few t le);
}
sound_step n s who GiveUp h k = record {
  total = h.total;
  served = λ f t. put_false who t s.waits (h.served f t);
  few = λ t le. put_false who t s.waits (h.few t le);
}

pub sound_from : (n : ℕ) (s : State) (es : List GateEntry) → Sound n s → LegalFrom s es → Sound n (state_from s es)
unfolding state_from LegalFrom
sound_from n s [] h k = h
sound_from n s (e ∷ es) h k = sound_from n (after s e.who e.act) es (sound_step n s e.who e.act h k.0) k.1

all_free : (n : ℕ) → n + 0 ≡ n
all_free n = omega arith

pub start_sound : (n : ℕ) → Sound n (start n)
start_sound n = record { total = all_free n; served = λ f t. refl; few = λ t le. refl }

pub sound_of : (n : ℕ) (log : List GateEntry) → Legal n log → Sound n (state_of n log)
sound_of n log k = sound_from n (start n) log (start_sound n) k

-- ---- what one tag holds or waits for

-- no step of another changes it
pub claims_other : (s : State) (who : ℕ) (act : GateAct) (t : ℕ) → (who ≡ t → ⊥) → Needs s who act → claims t (after s who act) ≡ claims t s
claims_other s who Take t ne k = ap (λ n. n + one_if (s.waits t)) (count_else t who s.holders ne)
claims_other s who Wait t ne k = ap (λ b. holds t s + one_if b) (put_else who t true s.waits ne)
claims_other s who Give t ne k = ap (λ n. n + one_if (s.waits t)) (without_other who t s.holders ne)
claims_other s who (Grant u) t ne k = dite (ℕ_discrete u t)
    (λ is. let a : count t (u ∷ without who s.holders) ≡ suc (count t s.holders) =
    count_here t u (without who s.holders) is ∙ ap suc (without_other who t s.holders ne) in
    let b : one_if (put u false s.waits t) ≡ 0 = ap one_if (ap (put u false s.waits) (sym is) ∙ put_here u false s.waits) in
    let c : one_if (s.waits t) ≡ 1 = ap one_if (ap s.waits (sym is) ∙ k.1) in
    omega (arith, a, b, c))
    (λ apart. (λ i. (count_else t u (without who s.holders) apart ∙ without_other who t s.holders ne) i
    + one_if (put_else u t false s.waits apart i)))
claims_other s who GiveUp t ne k = ap (λ b. holds t s + one_if b) (put_else who t false s.waits ne)

-- who does not wait does not by another's step
pub calm_other : (s : State) (who : ℕ) (act : GateAct) (t : ℕ) → (who ≡ t → ⊥) → s.waits t ≡ false → (after s who act).waits t ≡ false
calm_other s who Wait t ne h = put_else who t true s.waits ne ∙ h
calm_other s who (Grant u) t ne h = put_false u t s.waits h
calm_other s who GiveUp t ne h = put_false who t s.waits h
calm_other s who other t ne h = h

-- what a pass counts
pub record Counted (who held : ℕ) (waits : Bool) (s : State) : Type 0 where
  pub claimed : claims who s ≡ held + one_if waits
  pub calm : waits ≡ false → s.waits who ≡ false

pub counted_others : (who held : ℕ) (waits : Bool) (s : State) (es : List GateEntry) → LegalFrom s es → entries_of maker who es ≡ []
    → Counted who held waits s → Counted who held waits (state_from s es)
unfolding state_from LegalFrom
counted_others who held waits s [] k none h = h
counted_others who held waits s (e ∷ es) k none h = let r = apart_first who e es none in
    counted_others who held waits (after s e.who e.act) es k.1 r.1 (record {
      claimed = claims_other s e.who e.act who r.0 k.0 ∙ h.claimed;
      calm = λ f. calm_other s e.who e.act who r.0 (h.calm f);
    })

more : (c w held p : ℕ) → c + w ≡ held + p → suc c + w ≡ (held + 1) + p
more c w held p e = omega (arith, e)

fewer : (c d w held p : ℕ) → suc d ≡ c → 0 < held → c + w ≡ held + p → d + w ≡ (held - 1) + p
fewer c d w held p s some e = omega (arith, s, some, e)

is_true : (a b : Bool) → (a ≡ false → b ≡ false) → b ≡ true → a ≡ true
is_true true b h k = refl
is_true false b h k = let z : true ≡ false = sym k ∙ h refl in cc

pub counted_own : (s : State) (who : ℕ) (act : GateAct) (held : ℕ) (waits : Bool) → Needs s who act → ReadyFor act held waits
    → Counted who held waits s → Counted who (held_then act held) (waits_then act waits) (after s who act)
counted_own s who Take held waits k r h = record {
  claimed = ap (λ n. n + one_if (s.waits who)) (count_here who who s.holders refl)
      ∙ more (count who s.holders) (one_if (s.waits who)) held (one_if waits) h.claimed;
  calm = h.calm;
}
counted_own s who Wait held waits k r h = record {
  claimed = let a : one_if (put who true s.waits who) ≡ 1 = ap one_if (put_here who true s.waits) in
      let b : one_if (s.waits who) ≡ 0 = ap one_if k.1 in
      let c : one_if waits ≡ 0 = ap one_if r in
      let d : count who s.holders + one_if (s.waits who) ≡ held + one_if waits = h.claimed in omega (arith, a, b, c, d);
  calm = λ f. cc;
}
counted_own s who Give held waits k r h = record {
  claimed = fewer (count who s.holders) (count who (without who s.holders)) (one_if (s.waits who)) held (one_if waits)
      (without_own who s.holders k.0) r h.claimed;
  calm = h.calm;
}
counted_own s who (Grant u) held waits k r h = record {
  claimed = dite (ℕ_discrete u who)
      (λ is. let a : count who (u ∷ without who s.holders) ≡ count who s.holders =
      count_here who u (without who s.holders) is ∙ without_own who s.holders k.0 in
      let b : one_if (put u false s.waits who) ≡ 0 = ap one_if (ap (put u false s.waits) (sym is) ∙ put_here u false s.waits) in
      let c : one_if (s.waits who) ≡ 1 = ap one_if (ap s.waits (sym is) ∙ k.1) in
      let d : count who s.holders + one_if (s.waits who) ≡ held + one_if waits = h.claimed in omega (arith, a, b, c, d, r))
      (λ apart. (λ i. count_else who u (without who s.holders) apart i + one_if (put_else u who false s.waits apart i))
      ∙ fewer (count who s.holders) (count who (without who s.holders)) (one_if (s.waits who)) held (one_if waits)
      (without_own who s.holders k.0) r h.claimed);
  calm = λ f. put_false u who s.waits (h.calm f);
}
counted_own s who GiveUp held waits k r h = record {
  claimed = let a : one_if (put who false s.waits who) ≡ 0 = ap one_if (put_here who false s.waits) in
      let b : one_if (s.waits who) ≡ 1 = ap one_if k in
      let c : one_if waits ≡ 1 = ap one_if (is_true waits (s.waits who) h.calm k) in
      let d : count who s.holders + one_if (s.waits who) ≡ held + one_if waits = h.claimed in omega (arith, a, b, c, d);
  calm = λ f. put_here who false s.waits;
}

pub one_small : (b : Bool) → one_if b ≤ 1
one_small true = omega arith
one_small false = omega arith

-- it holds as many as it counts, at least
pub holds_more : (who held : ℕ) (waits : Bool) (s : State) → Counted who held waits s → held ≤ holds who s
holds_more who held true s h = let d : count who s.holders + one_if (s.waits who) ≡ held + 1 = h.claimed in
    omega (arith, d, one_small (s.waits who))
holds_more who held false s h = let d : count who s.holders + one_if (s.waits who) ≡ held + 0 = h.claimed in
    let b : one_if (s.waits who) ≡ 0 = ap one_if (h.calm refl) in omega (arith, d, b)

pub held_small : (n who held : ℕ) (waits : Bool) (s : State) → Sound n s → Counted who held waits s → n ≤ 65535 → held ≤ 65536
held_small n who held waits s sound h le = let a : count who s.holders ≤ length s.holders = count_small who s.holders in
    let b : s.free + length s.holders ≡ n = sound.total in
    let c : held ≤ count who s.holders = holds_more who held waits s h in omega (arith, a, b, c, le)
