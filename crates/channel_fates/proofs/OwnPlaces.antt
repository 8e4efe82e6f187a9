-- The wait of a plain call is that of one place alone.
use Rattle.std.specs.Prelude.{◌≡◌, ℕ, ◌≤◌, ◌==◌, nat_lt, Bool, true, false, List, [], ◌∷◌, ◌++◌, Option, Some, None, refl, if◌then◌else◌, ◌⊎◌}
use Rattle.std.proofs.Common.{sym, ap, ◌∙◌, subst, arith, inl, inr, ⊎_elim}
use Rattle.std.proofs.lemmas.Bool.{eqb-true, ltb-true, MatchBool-at_false, cases_Bool}
use Rattle.std.proofs.lemmas.Option.{cond_some}
use Rattle.co_base.specs.declared.names.WaitId.{WaitId}
use Rattle.channel_model.specs.declared.acts.Act.{Act}
use Rattle.channel_model.specs.declared.acts.Act.TheVariants.{Offer, Await}
use Rattle.channel_model.specs.Answers.{IsOwnWait}
use Rattle.channel_model.specs.Channels.{Shape, State, Wait, same_wait, start}
use Rattle.channel_model.specs.Effects.{after, resolved_wait, name_clause, settled_wait}
use Rattle.channel_model.specs.Needs.{Needs, MayName, JoinsWait, began_by_select}
use Rattle.channel_model.specs.Fates.{is_at, wait_at, places_wait, offers_at, first_some}
use Rattle.channel_model.proofs.Waits.{same_wait-eq, at_wait}
use Rattle.channel_model.proofs.Others.{Stays}
use Rattle.channel_model.proofs.OwnWaits.{ComesFrom, begins, act_from}
use Rattle.channel_model.proofs.Resolutions.{always_keeps}
use Rattle.channel_model.proofs.Placed.{Placed, placed_after, start_placed}
use Rattle.channel_fates.proofs.Appended.{any_count, first_kept, first_last}
use Rattle.channel_fates.proofs.OncePlaced.{counted_after, at_both}
use Rattle.channel_fates.proofs.StandsByActs.{offers, enters_count, offer_here, clause_offered, wait_placed, here}
use Rattle.channel_fates.proofs.HeldWhileOpen.{offer_of}
use Rattle.channel_fates.proofs.Chosen.{wait_before}
use Rattle.channel_fates.proofs.ChosenOnce.{Told}

abbrev pub name_of : ℕ → ℕ → WaitId
name_of c p = record { channel = c; place = p }

-- the wait began at a select's clause
abbrev Selects : Option Wait → Type 0
Selects None = ⊥
Selects (Some x) = began_by_select x.clauses ≡ true

abbrev begins_plain : List (ℕ × ℕ) → Bool
begins_plain [] = false
begins_plain (x ∷ xs) = x.0 == 0

-- the wait began with a plain call
abbrev IsPlainWait : Option Wait → Type 0
IsPlainWait None = ⊥
IsPlainWait (Some x) = begins_plain x.clauses ≡ true

select_more : (xs : List (ℕ × ℕ)) (y : ℕ × ℕ) → began_by_select xs ≡ true → began_by_select (xs ++ y ∷ []) ≡ true
select_more [] y e = cc
select_more (x ∷ xs) y e = e

plain_more : (xs : List (ℕ × ℕ)) (y : ℕ × ℕ) → begins_plain xs ≡ true → begins_plain (xs ++ y ∷ []) ≡ true
plain_more [] y e = cc
plain_more (x ∷ xs) y e = e

selects_stays : (who : ℕ) → Stays who Selects
selects_stays who = record {
  resolved = λ how x h. elim x as (λ y. Selects y → Selects (resolved_wait how y)) [ None ↦ λ k. k | Some y ↦ λ k. k ] h;
  named = λ n k c x h. elim x as (λ y. Selects y → Selects (name_clause n k c y))
      [ None ↦ λ f. absurd f | Some y ↦ λ f. select_more y.clauses (k, c) f ] h;
  settled = λ n outcome x apart m h. elim x as (λ y. Selects y → Selects (settled_wait outcome y)) [ None ↦ λ k. k | Some y ↦ λ k. k ] h;
}

plain_stays : (who : ℕ) → Stays who IsPlainWait
plain_stays who = record {
  resolved = λ how x h. elim x as (λ y. IsPlainWait y → IsPlainWait (resolved_wait how y)) [ None ↦ λ k. k | Some y ↦ λ k. k ] h;
  named = λ n k c x h. elim x as (λ y. IsPlainWait y → IsPlainWait (name_clause n k c y))
      [ None ↦ λ f. absurd f | Some y ↦ λ f. plain_more y.clauses (k, c) f ] h;
  settled = λ n outcome x apart m h. elim x as (λ y. IsPlainWait y
      → IsPlainWait (settled_wait outcome y)) [ None ↦ λ k. k | Some y ↦ λ k. k ] h;
}

-- no clause is that of a plain call and that of a select
pub two_clauses : (j k : ℕ) → j ≡ k → (j == 0) ≡ true → nat_lt 0 k ≡ true → ⊥
two_clauses j k e f g = let z = eqb-true j 0 f in let l = ltb-true 0 k g in omega arith

begins_one : (xs : List (ℕ × ℕ)) → began_by_select xs ≡ true → begins_plain xs ≡ true → ⊥
begins_one [] e f = cc
begins_one (x ∷ xs) e f = two_clauses x.0 x.0 refl f e

plain_or_select : (x : Option Wait) → Selects x → IsPlainWait x → ⊥
plain_or_select None e f = e
plain_or_select (Some x) e f = begins_one x.clauses e f

-- ---- the act that names a wait

-- the act offers or awaits here, with this wait
abbrev Names : ℕ → ℕ → WaitId → Act → Type 0
Names c p w act = ((v : ℕ) × (k : ℕ) × (act ≡ Offer c p v w k)) ⊎ ((k : ℕ) × (act ≡ Await c p w k))

names_of : (c p : ℕ) (w : WaitId) (act : Act) → places_wait c p act ≡ Some w → Names c p w act
names_of c p w (Offer d q v u k) e = let t = cond_some (is_at c p d q) u w e in let m = at_both c p d q t.0
    in inl (v, k, ap (λ x. Offer x q v u k) m.0 ∙ (ap (λ x. Offer c x v u k) m.1 ∙ ap (λ x. Offer c p v x k) t.1))
names_of c p w (Await d q u k) e = let t = cond_some (is_at c p d q) u w e in let m = at_both c p d q t.0
    in inr (k, ap (λ x. Await x q u k) m.0 ∙ (ap (λ x. Await c x u k) m.1 ∙ ap (λ x. Await c p x k) t.1))
names_of c p w other e = cc

joining : (who k c : ℕ) (x : Option Wait) → JoinsWait who k c x → Selects x
joining who k c None m = m
joining who k c (Some x) m = m.select

-- it has the place's own name, or began at a select's clause
named_own : (who k c p : ℕ) (w : WaitId) (s : State) → MayName who k c p w s → (w ≡ name_of c p) ⊎ Selects (s.waits w)
named_own who k c p w s may = ⊎_elim
    (λ e. inl (same_wait-eq w (name_of c p) e))
    (λ e. inr (joining who k c (s.waits w) (MatchBool-at_false (k ≤ 7) (JoinsWait who k c (s.waits w)) e may)))
    (cases_Bool (same_wait w (name_of c p)))

not_joining : (who c : ℕ) (x : Option Wait) → JoinsWait who 0 c x → ⊥
not_joining who c None m = m
not_joining who c (Some x) m = let l = m.low in omega arith

-- named by a plain call, it has the place's own name
named_plain : (who c p : ℕ) (w : WaitId) (s : State) → MayName who 0 c p w s → w ≡ name_of c p
named_plain who c p w s may = ⊎_elim
    (λ e. same_wait-eq w (name_of c p) e)
    (λ e. absurd (not_joining who c (s.waits w) (MatchBool-at_false (0 ≤ 7) (JoinsWait who 0 c (s.waits w)) e may)))
    (cases_Bool (same_wait w (name_of c p)))

begun_plain : (who c : ℕ) (x : Option Wait) → x ≡ None → IsPlainWait (name_clause who 0 c x)
begun_plain who c None e = refl
begun_plain who c (Some x) e = cc

clause_is : (c p k j : ℕ) (v : ℕ) (w : WaitId) → offers_at c p (Offer c p v w k) ≡ Some j → k ≡ j
clause_is c p k j v w e = let f : (if is_at c p c p then Some k else None) ≡ Some k = ap (λ b. if b then Some k else None) (here c p) in cc

-- the act offers here with the number of a plain call
plain_offer : (c p : ℕ) (act : Act) → offers_at c p act ≡ Some 0 → (v : ℕ) × (w : WaitId) × (act ≡ Offer c p v w 0)
plain_offer c p act e =
    let o = offer_of c p act (offer_here c p 0 act e) in
    let k : o.2 ≡ 0 = clause_is c p o.2 0 o.0 o.1 (ap (offers_at c p) (sym o.3) ∙ e) in
    (o.0, o.1, o.3 ∙ ap (λ x. Offer c p o.0 o.1 x) k)

-- ---- all acts

pub record OwnPlaces (acts : List Act) (s : State) : Type 0 where
  pub placed : Placed s
  own : (c p : ℕ) (w : WaitId) → wait_at c p acts ≡ Some w → (w ≡ name_of c p) ⊎ Selects (s.waits w)
  plain : (c p : ℕ) (w : WaitId) → first_some (offers_at c p) acts ≡ Some 0 → wait_at c p acts ≡ Some w → IsPlainWait (s.waits w)
  -- a wait begins at the place whose name it has
  pub begun : (c p : ℕ) → (s.waits (name_of c p) ≡ None) ⊎ (wait_at c p acts ≡ Some (name_of c p))

own_comes : (who : ℕ) → ComesFrom who (IsOwnWait who)
own_comes who = record {
  resolved = λ how x h. elim x as (λ y. IsOwnWait who (resolved_wait how y) → IsOwnWait who y) [ None ↦ λ k. k | Some y ↦ λ k. k ] h;
  named = λ n k c x h. elim x as (λ y. IsOwnWait who (name_clause n k c y) → IsOwnWait who y
      ⊎ (n ≡ who)) [ None ↦ λ f. inr f | Some y ↦ λ f. inl f ] h;
  settled = λ outcome x h. elim x as (λ y. IsOwnWait who (settled_wait outcome y) → IsOwnWait who y) [ None ↦ λ k. k | Some y ↦ λ k. k ] h;
}

-- what names a wait that may begin by it
begins_names : (w : WaitId) (act : Act) → begins act ≡ Some w → ((d : ℕ) × (q : ℕ) × (v : ℕ) × (k : ℕ) × (act ≡ Offer d q v w k))
    ⊎ ((d : ℕ) × (q : ℕ) × (k : ℕ) × (act ≡ Await d q w k))
begins_names w (Offer d q v u k) e = let f : u ≡ w = cc in inl (d, q, v, k, ap (λ x. Offer d q v x k) f)
begins_names w (Await d q u k) e = let f : u ≡ w = cc in inr (d, q, k, ap (λ x. Await d q x k) f)
begins_names w other e = cc

named_begins : (who k d q : ℕ) (w : WaitId) (s : State) → MayName who k d q w s → (w ≡ name_of d q) ⊎ (s.waits w ≡ None → ⊥)
named_begins who k d q w s may = ⊎_elim
    (λ e. inl (same_wait-eq w (name_of d q) e))
    (λ e. inr (joins (s.waits w) (MatchBool-at_false (k ≤ 7) (JoinsWait who k d (s.waits w)) e may)))
    (cases_Bool (same_wait w (name_of d q)))
  where
    joins : (x : Option Wait) → JoinsWait who k d x → x ≡ None → ⊥
    joins None m e = m
    joins (Some x) m e = cc

own_there : (who : ℕ) (x : Option Wait) → IsOwnWait who x → x ≡ None → ⊥
own_there who None h e = h
own_there who (Some x) h e = cc

module _ (shape : Shape) (acts : List Act) (s : State) (who : ℕ) (act : Act) (n : Needs shape s who act) (t : Told acts s)
    (h : OwnPlaces acts s) where
  own_now : (c p : ℕ) (w : WaitId) → Names c p w act → (w ≡ name_of c p) ⊎ Selects (s.waits w)
  own_now c p w m =
      ⊎_elim
      (λ o. let k : Needs shape s who (Offer c p o.0 w o.1) = subst (Needs shape s who) o.2 n in named_own who o.1 c p w s k.4)
      (λ a. let k : Needs shape s who (Await c p w a.0) = subst (Needs shape s who) a.1 n in named_own who a.0 c p w s k.3)
      m

  own_after : (c p : ℕ) (w : WaitId) → wait_at c p (acts ++ act ∷ []) ≡ Some w → (w ≡ name_of c p) ⊎ Selects ((after s who act).waits w)
  own_after c p w e = ⊎_elim (λ k. inl k) (λ k. inr (always_keeps shape Selects selects_stays who w s act n k))
      (by_wait (wait_at c p acts) refl)
    where
      by_wait : (o : Option WaitId) → wait_at c p acts ≡ o → (w ≡ name_of c p) ⊎ Selects (s.waits w)
      by_wait (Some u) k = h.own c p w (let m = first_kept (places_wait c p) acts (act ∷ []) u k in let f : u ≡ w = cc in k
          ∙ ap (λ x. Some x) f)
      by_wait None k = own_now c p w (names_of c p w act (sym (first_last (places_wait c p) acts act k) ∙ e))

  plain_now : (c p : ℕ) (w : WaitId) → offers_at c p act ≡ Some 0 → wait_at c p (acts ++ act ∷ []) ≡ Some w
      → IsPlainWait ((after s who act).waits w)
  plain_now c p w e f =
      let o = plain_offer c p act e in
      let m : Needs shape s who (Offer c p o.0 o.1 0) = subst (Needs shape s who) o.2 n in
      let first = m.1.first in
      let named : wait_at c p (acts ++ act ∷ []) ≡ Some o.1 =
      wait_placed c p acts act (s.channels c) o.1 (t.counted c p) first (ap (places_wait c p) o.2
      ∙ ap (λ b. if b then Some o.1 else None) (here c p)) in
      let same : o.1 ≡ w = cc in
      let own : o.1 ≡ name_of c p = named_plain who c p o.1 s m.4 in
      let none : s.waits o.1 ≡ None = ap s.waits own ∙ h.placed (name_of c p) (omega arith) in
      subst (λ u. IsPlainWait ((after s who act).waits u)) same
      (subst (λ a. IsPlainWait ((after s who a).waits o.1)) (sym o.2)
      (subst IsPlainWait (sym (at_wait o.1 (name_clause who 0 c (s.waits o.1)) s.waits)) (begun_plain who c (s.waits o.1) none)))

  plain_after : (c p : ℕ) (w : WaitId) → first_some (offers_at c p) (acts ++ act ∷ []) ≡ Some 0 → wait_at c p (acts ++ act ∷ []) ≡ Some w
      → IsPlainWait ((after s who act).waits w)
  plain_after c p w e f = by_clause (first_some (offers_at c p) acts) refl
    where
      by_clause : (o : Option ℕ) → first_some (offers_at c p) acts ≡ o → IsPlainWait ((after s who act).waits w)
      by_clause (Some j) k =
          let m = first_kept (offers_at c p) acts (act ∷ []) j k in
          let z : j ≡ 0 = cc in
          let o = any_count (offers c p) acts (clause_offered c p j acts k) in
          let l = enters_count c p acts in
          always_keeps shape IsPlainWait plain_stays who w s act n
          (h.plain c p w (k ∙ ap (λ x. Some x) z) (wait_before c p acts act w (omega arith)
          (counted_after shape acts s who act n t.counted c p).given f))
      by_clause None k = plain_now c p w (sym (first_last (offers_at c p) acts act k) ∙ e) f

  begun_before : (c p : ℕ) → (s.waits (name_of c p) ≡ None → ⊥) → wait_at c p (acts ++ act ∷ []) ≡ Some (name_of c p)
  begun_before c p there = ⊎_elim (λ e. absurd (there e)) (λ e. first_kept (places_wait c p) acts (act ∷ []) (name_of c p) e) (h.begun c p)

  begun_here : (c p d q : ℕ) → name_of c p ≡ name_of d q → q ≡ (s.channels d).next → places_wait d q act ≡ Some (name_of c p)
      → wait_at c p (acts ++ act ∷ []) ≡ Some (name_of c p)
  begun_here c p d q e f m =
      let at : wait_at d q (acts ++ act ∷ []) ≡ Some (name_of c p) =
      wait_placed d q acts act (s.channels d) (name_of c p) (t.counted d q) f m in
      subst (λ (x : WaitId). wait_at x.channel x.place (acts ++ act ∷ []) ≡ Some (name_of c p)) (sym e) at

  begun_now : (c p : ℕ) → begins act ≡ Some (name_of c p) → wait_at c p (acts ++ act ∷ []) ≡ Some (name_of c p)
  begun_now c p e =
      ⊎_elim
      (λ o. let m : Needs shape s who (Offer o.0 o.1 o.2 (name_of c p) o.3) = subst (Needs shape s who) o.4 n in
      ⊎_elim (λ f. begun_here c p o.0 o.1 f m.1.first (ap (places_wait o.0 o.1) o.4
      ∙ ap (λ b. if b then Some (name_of c p) else None) (here o.0 o.1))) (λ f. begun_before c p f)
      (named_begins who o.3 o.0 o.1 (name_of c p) s m.4))
      (λ a. let m : Needs shape s who (Await a.0 a.1 (name_of c p) a.2) = subst (Needs shape s who) a.3 n in
      ⊎_elim (λ f. begun_here c p a.0 a.1 f m.1.first (ap (places_wait a.0 a.1) a.3
      ∙ ap (λ b. if b then Some (name_of c p) else None) (here a.0 a.1))) (λ f. begun_before c p f)
      (named_begins who a.2 a.0 a.1 (name_of c p) s m.3))
      (begins_names (name_of c p) act e)

  begun_after : (c p : ℕ) → ((after s who act).waits (name_of c p) ≡ None) ⊎ (wait_at c p (acts ++ act ∷ []) ≡ Some (name_of c p))
  begun_after c p = by_wait ((after s who act).waits (name_of c p)) refl
    where
      by_wait : (x : Option Wait) → (after s who act).waits (name_of c p) ≡ x → ((after s who act).waits (name_of c p) ≡ None)
          ⊎ (wait_at c p (acts ++ act ∷ []) ≡ Some (name_of c p))
      by_wait None e = inl e
      by_wait (Some x) e =
          let own : IsOwnWait x.owner ((after s who act).waits (name_of c p)) = subst (IsOwnWait x.owner) (sym e) refl in
          inr (⊎_elim (λ k. begun_before c p (own_there x.owner (s.waits (name_of c p)) k)) (λ k. begun_now c p k.1)
          (act_from x.owner (IsOwnWait x.owner) (own_comes x.owner) who (name_of c p) s act own))

  pub own_places_after : OwnPlaces (acts ++ act ∷ []) (after s who act)
  own_places_after = record { placed = placed_after shape s who act n h.placed; own = own_after; plain = plain_after; begun = begun_after }

pub start_own_places : OwnPlaces [] start
start_own_places = record { placed = start_placed; own = λ c p w e. cc; plain = λ c p w e f. cc; begun = λ c p. inl refl }

same_name : (c p d q : ℕ) → name_of c p ≡ name_of d q → (c ≡ d) × (p ≡ q)
same_name c p d q e = (ap (λ (w : WaitId). w.channel) e, ap (λ (w : WaitId). w.place) e)

-- the wait of a plain offer has no other place
pub alone : (acts : List Act) (s : State) → OwnPlaces acts s → (c p d q : ℕ) (w : WaitId) → first_some (offers_at c p) acts ≡ Some 0
    → wait_at c p acts ≡ Some w → wait_at d q acts ≡ Some w → (c ≡ d) × (p ≡ q)
alone acts s h c p d q w e f g = same_name c p d q (sym (its_own c p f) ∙ its_own d q g)
  where
    its_own : (a b : ℕ) → wait_at a b acts ≡ Some w → w ≡ name_of a b
    its_own a b k = ⊎_elim (λ m. m) (λ m. absurd (plain_or_select (s.waits w) m (h.plain c p w e f))) (h.own a b w k)
