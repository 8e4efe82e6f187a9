-- Each step about those who wait keeps what holds of the table of a ring.
use Rattle.std.proofs.Common.{◌≡◌, ◌≢◌, ℕ, ◌<◌, eqb, Bool, true, false, [], ◌∷◌, ◌++◌, get_or, sym, refl, ap, ◌∙◌, subst, eq-eqb, ne_eqb, Option, MatchBool}
use Rattle.std.specs.Int.{bit_at}
use mathlib.Core.Logic.{dite}
use native.Mathlib.Decide.{ℕ_discrete}
use prog.Atomic.{either}
use Rattle.atomic_table.specs.Table.{Act, keeps, Valid, stepped, carried_after, Allows}
use Rattle.worded.specs.Exchanges.{Loaded, Entered, MayEnter}
use Rattle.worded.proofs.OnTheWords.{sights, entries}
use Rattle.ring_channel.specs.declared.act.RingAct.TheVariants.{Waiting}
use Rattle.ring_channel.specs.declared.act.RingEntry.{RingEntry}
use Rattle.ring_channel.specs.declared.act.RingSide.{RingSide}
use Rattle.ring_channel.specs.declared.act.WaitStep.{WaitStep}
use Rattle.ring_channel.specs.declared.act.WaitStep.TheVariants.{Call}
use Rattle.ring_channel.specs.Rings.{State, cleared, Legal, maker}
use Rattle.ring_channel.specs.Tables.{Fits, word_count, wait_word, HoldsRing}
use Rattle.ring_channel.specs.Seen.{Seen, Sat, own_tag, entry_of}
use Rattle.ring_channel.specs.Looks.{Made, MadeIf}
use Rattle.ring_channel.proofs.Bits.{same_cleared}
use Rattle.ring_channel.proofs.HistoriesGoOn.{state_push}
use Rattle.ring_channel.proofs.MayWait.{side_same}
use Rattle.ring_channel.proofs.StepsKeep.{holds_same}

module _ {T : Type 0} where
  abbrev pub May : ℕ → ℕ → RingSide → WaitStep → Sat T → ℕ → ℕ → Type 0
  May n word d w m old new = MayEnter (Legal n) (Fits n) maker m.0 word old new (entry_of (own_tag m.0) (Waiting d w))

  -- a step that always makes its entry
  pub makes : (n slots id word : ℕ) (new : ℕ → ℕ) (d : RingSide) (w : WaitStep) (m : Sat T) → m.0.key ≡ n → word < word_count n
      → ((old : ℕ) → May n word d w m old (new old))
      → Allows (HoldsRing n) slots id m word new (λ i r. Made m.0.key word i d w m r)
  makes n slots id word new d w m is lt b = subst (λ k. Allows (HoldsRing n) slots id m word new (λ i r. Made k word i d w m r)) (sym is)
      step
    where
      step : Allows (HoldsRing n) slots id m word new (λ i r. Made n word i d w m r)
      step s r long at small = let old : ℕ = get_or s.words word 0 in let e : RingEntry T = entry_of (own_tag m.0) (Waiting d w) in
          let q = entries ℕ (Legal n) (Fits n) maker (word_count n) s.homes s r.one id word old (new old) e m.0 at lt refl (b old) in (
            q.view,
            keeps,
            tt,
            holds_same n s r (r.one.log ++ e ∷ []) _ _ q.follows (ap (λ (z : State T). z.cells) (state_push n r.one.log e)),
            (q.entered, refl),
          )

  -- a load that makes its entry where this holds of the word
  pub looks : (n slots id word : ℕ) (c : ℕ → Bool) (d : RingSide) (w : WaitStep) (m : Sat T) → m.0.key ≡ n → word < word_count n
      → ((old : ℕ) → c old ≡ true → May n word d w m old old)
      → Allows (HoldsRing n) slots id m word (λ i. i) (λ i r. MadeIf (c i) m.0.key word i d w m r)
  looks n slots id word c d w m is lt b = subst (λ k. Allows (HoldsRing n) slots id m word (λ i. i)
      (λ i r. MadeIf (c i) k word i d w m r)) (sym is) step
    where
      step : Allows (HoldsRing n) slots id m word (λ i. i) (λ i r. MadeIf (c i) n word i d w m r)
      step s r long at small = by_test (c old) refl
        where
          old : ℕ
          old = get_or s.words word 0

          e : RingEntry T
          e = entry_of (own_tag m.0) (Waiting d w)

          by_test : (t : Bool) → c old ≡ t → (x : Seen T) × (a : Act (Option T)) × Valid s.homes m.1 a
              × HoldsRing n (stepped s word old id m.1 x a)
              × (MatchBool t (Entered (Legal n) (Fits n) maker word old e m.0 x) (Loaded (Legal n) (Fits n) maker word old m.0 x)
              × (carried_after m.1 a ≡ m.1))
          by_test true t = let q = entries ℕ (Legal n) (Fits n) maker (word_count n) s.homes s r.one id word old old e m.0 at lt refl
              (b old t)
              in (
                q.view,
                keeps,
                tt,
                holds_same n s r (r.one.log ++ e ∷ []) _ _ q.follows (ap (λ (z : State T). z.cells) (state_push n r.one.log e)),
                (q.entered, refl),
              )
          by_test false t = let q = sights ℕ (Legal n) (Fits n) maker (word_count n) s.homes s r.one id word m.0 at lt in
              (q.view, keeps, tt, holds_same n s r r.one.log _ _ q.follows refl, (q.loaded, refl))

  -- an exchange that makes its entry where it finds the word
  pub exchanges : (n slots id word old new : ℕ) (d : RingSide) (w : WaitStep) (m : Sat T) → m.0.key ≡ n → word < word_count n
      → May n word d w m old new
      → Allows (HoldsRing n) slots id m word (λ i. either (eqb i old) new i) (λ i r. MadeIf (eqb i old) m.0.key word i d w m r)
  exchanges n slots id word old new d w m is lt b = subst (λ k. Allows (HoldsRing n) slots id m word (λ i. either (eqb i old) new i)
      (λ i r. MadeIf (eqb i old) k word i d w m r)) (sym is) step
    where
      step : Allows (HoldsRing n) slots id m word (λ i. either (eqb i old) new i) (λ i r. MadeIf (eqb i old) n word i d w m r)
      step s r long at small = dite (ℕ_discrete found old) hit miss
        where
          found : ℕ
          found = get_or s.words word 0

          e : RingEntry T
          e = entry_of (own_tag m.0) (Waiting d w)

          Goal : Bool → Type 0
          Goal t = (x : Seen T) × (a : Act (Option T)) × Valid s.homes m.1 a × HoldsRing n (stepped s word (either t new found) id m.1 x a)
              × (MatchBool t (Entered (Legal n) (Fits n) maker word found e m.0 x) (Loaded (Legal n) (Fits n) maker word found m.0 x)
              × (carried_after m.1 a ≡ m.1))

          hit : found ≡ old → Goal (eqb found old)
          hit same = let q = entries ℕ (Legal n) (Fits n) maker (word_count n) s.homes s r.one id word found new e m.0 at lt refl
              (subst (λ z. May n word d w m z new) (sym same) b) in
              subst Goal (sym (eq-eqb found old same)) (
                q.view,
                keeps,
                tt,
                holds_same n s r (r.one.log ++ e ∷ []) _ _ q.follows (ap (λ (z : State T). z.cells) (state_push n r.one.log e)),
                (q.entered, refl),
              )

          miss : found ≢ old → Goal (eqb found old)
          miss ne = let q = sights ℕ (Legal n) (Fits n) maker (word_count n) s.homes s r.one id word m.0 at lt in
              subst Goal (sym (ne_eqb found old ne)) (q.view, keeps, tt, holds_same n s r r.one.log _ _ q.follows refl, (q.loaded, refl))

  -- ---- the same where the word tells the side

  pub makes_on : (n slots id word : ℕ) (X : Type 0) (new : ℕ → ℕ) (d : RingSide) (w : WaitStep) (m : Sat T) → m.0.key ≡ n
      → word ≡ wait_word d → word < word_count n → ((old : ℕ) → May n word d w m old (new old))
      → Allows (HoldsRing n) slots id m word new (λ i r. (e : RingSide) → word ≡ wait_word e → X → Made m.0.key word i e w m r)
  makes_on n slots id word X new d w m is here lt b s r long at small = let z = makes n slots id word new d w m is lt b s r long at small
      in (
        z.0,
        z.1,
        z.2,
        z.3,
        λ e same x. subst (λ j. Made m.0.key word (get_or s.words word 0) j w m (z.0, carried_after m.1 z.1)) (side_same d e (sym here ∙ same))
            z.4,
      )

  pub looks_on : (n slots id word : ℕ) (c : ℕ → Bool) (d : RingSide) (w : WaitStep) (m : Sat T) → m.0.key ≡ n → word ≡ wait_word d
      → word < word_count n → ((old : ℕ) → c old ≡ true → May n word d w m old old)
      → Allows (HoldsRing n) slots id m word (λ i. i) (λ i r. (e : RingSide) → word ≡ wait_word e → MadeIf (c i) m.0.key word i e w m r)
  looks_on n slots id word c d w m is here lt b s r long at small = let z = looks n slots id word c d w m is lt b s r long at small in (
    z.0,
    z.1,
    z.2,
    z.3,
    λ e same. subst (λ j. MadeIf (c (get_or s.words word 0)) m.0.key word (get_or s.words word 0) j w m (z.0, carried_after m.1 z.1))
        (side_same d e (sym here ∙ same)) z.4,
  )

  pub calls_on : (n slots id word old new t : ℕ) (d : RingSide) (m : Sat T) → m.0.key ≡ n → word ≡ wait_word d → word < word_count n
      → t < 64 → new ≡ cleared t old → May n word d (Call t) m old new
      → Allows (HoldsRing n) slots id m word (λ i. either (eqb i old) new i) (λ i r. (e : RingSide) (u : ℕ) → word ≡ wait_word e → u < 64
      → bit_at old u ≡ 1 → new ≡ cleared u old → MadeIf (eqb i old) m.0.key word i e (Call u) m r)
  calls_on n slots id word old new t d m is here lt few left b s r long at small =
      let z = exchanges n slots id word old new d (Call t) m is lt b s r long at small in let found : ℕ = get_or s.words word 0 in (
        z.0,
        z.1,
        z.2,
        z.3,
        λ e u same low set gone. subst (λ (j : RingSide × ℕ). MadeIf (eqb found old) m.0.key word found j.0 (Call j.1) m
            (z.0, carried_after m.1 z.1)) (λ k. (side_same d e (sym here ∙ same) k, same_cleared old t u few low set (sym left ∙ gone) k))
            z.4,
      )
