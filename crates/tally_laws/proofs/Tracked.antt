-- What the tally of a caller says of its wait, and how many plain offers it took back, after each entry of a legal history.
use Rattle.std.specs.Prelude.{◌≡◌, ◌≢◌, ℕ, ◌+◌, ◌≤◌, ◌==◌, Bool, true, false, ◌||◌, cond, List, [], ◌∷◌, ◌++◌, Option, Some, None, MatchBool, refl, ◌⊎◌, is_some, if◌then◌else◌}
use Rattle.std.specs.List.{list_any}
use Rattle.std.proofs.Common.{sym, ap, ◌∙◌, subst, arith, inl, inr, ⊎_elim, append_assoc}
use Rattle.std.proofs.lemmas.Bool.{eqb-true, false_from_ne_true, both_ways}
use Rattle.std.proofs.lemmas.Bool.Decides.{nat_tests}
use Rattle.std.proofs.Math.Bool.{or-true}
use Rattle.co_base.specs.declared.names.WaitId.{WaitId}
use Rattle.channel_model.specs.declared.acts.Act.{Act}
use Rattle.channel_model.specs.declared.acts.Act.TheVariants.{Offer, Await, Withdraw, Settle}
use Rattle.channel_model.specs.declared.acts.Entry.{Entry}
use Rattle.channel_model.specs.declared.acts.Settled.{Settled}
use Rattle.channel_model.specs.Channels.{Shape, State, Wait, same_wait, start}
use Rattle.channel_model.specs.Effects.{after, put_wait, name_clause, resolved_wait, settled_wait}
use Rattle.channel_model.specs.Needs.{Needs, HasPlace, MayName, JoinsWait, IsOpenOf}
use Rattle.channel_model.specs.Answers.{IsUnsettledOf, IsSettledWait, IsResolvedWait}
use Rattle.channel_model.specs.Fates.{withdraws, offers_at, first_some, of_offer, is_wait}
use Rattle.channel_model.specs.Histories.{replay, replay_from, acts_of, acts_in, Legal}
use Rattle.channel_model.specs.Laws.{how_many}
use Rattle.channel_model.proofs.Histories.{replay_push, acts_of-append, Legal-last, Legal-prefix}
use Rattle.channel_model.proofs.Others.{other_keeps, unsettled_stays}
use Rattle.channel_model.proofs.OwnWaits.{ComesFrom, act_from}
use Rattle.channel_model.proofs.Resolutions.{always_keeps, settles_turns}
use Rattle.channel_model.proofs.Spans.{nothing_more}
use Rattle.channel_model.proofs.Waits.{same_wait-eq, same_wait-refl, at_wait, one_change}
use Rattle.channel_fates.proofs.Appended.{any_cases, any_count, first_kept, first_last}
use Rattle.channel_fates.proofs.OncePlaced.{awaits, counted_after}
use Rattle.channel_fates.proofs.StandsByActs.{offers, enters_count, clause_offered, offer_here, here}
use Rattle.channel_fates.proofs.Chosen.{wait_counted}
use Rattle.tally_laws.specs.Kinds.{is_plain_offer, takes_back}
use Rattle.tally_laws.specs.Tallies.{Tally, empty, with_act, tally_of}
use Rattle.tally_laws.specs.Settlings.{may_name, has_one_wait}
use Rattle.tally_laws.proofs.Given.{HasBegun, begun_stays}
use Rattle.tally_laws.proofs.Kept.{Kept, replay_kept}
use Rattle.tally_laws.proofs.Shares.{counts_one}
use Rattle.tally_laws.proofs.ByKind.{own_wait}
use Rattle.tally_laws.proofs.OneWaits.{wait_after, waits_after, fits_wait, wait_last, act_last, fits_next}
use Rattle.channel_model.proofs.Apart.{how_many_push}

-- how many plain offers the wait has that a caller has
abbrev plain_in : List Act → Option WaitId → ℕ
plain_in acts None = 0
plain_in acts (Some w) = cond (is_plain_offer acts w) 1 0

-- the caller has just this wait, and its tally says how many plain offers that has and how many were taken back
pub record Tracked (who : ℕ) (acts : List Act) (s : State) (mine : List Act) (o : Option WaitId) (t : Tally) : Type 0 where
  pub only : (w : WaitId) → IsUnsettledOf who (s.waits w) → o ≡ Some w
  pub has : (w : WaitId) → o ≡ Some w → IsUnsettledOf who (s.waits w)
  pub plain : t.plain_offers ≡ plain_in acts o
  pub back : t.counts.taken_back ≡ how_many (takes_back acts) mine
  pub known : (w : WaitId) → list_any (withdraws w) mine ≡ true → HasBegun (s.waits w)

unsettled_begun : (who : ℕ) (x : Option Wait) → IsUnsettledOf who x → HasBegun x
unsettled_begun who None h = absurd h
unsettled_begun who (Some x) h = refl

-- ---- what lasts

module _ (shape : Shape) (acts : List Act) (s : State) (k : Kept shape acts s) (maker : ℕ) (act : Act) (n : Needs shape s maker act) where
  -- a place that was given out gets no offer more
  nothing_offered : (c p : ℕ) → 1 ≤ how_many (offers c p) acts + how_many (awaits c p) acts → (o : Option ℕ) → offers_at c p act ≡ o
      → o ≡ None
  nothing_offered c p l None f = refl
  nothing_offered c p l (Some j) f =
      let x = counts_one (offers c p act) (offer_here c p j act f) in
      let a = how_many_push (offers c p) acts act in
      let b = how_many_push (awaits c p) acts act in
      let e = enters_count c p (acts ++ act ∷ []) in
      let g = (counted_after shape acts s maker act n k.traced.told.counted c p).given in
      absurd (omega arith)

  clause_stays : (w : WaitId) → HasBegun (s.waits w) → is_plain_offer (acts ++ act ∷ []) w ≡ is_plain_offer acts w
  clause_stays w b = ap (of_offer (λ j. j == 0)) (by_clause (first_some (offers_at w.channel w.place) acts) refl)
    where
      by_clause : (o : Option ℕ) → first_some (offers_at w.channel w.place) acts ≡ o
          → first_some (offers_at w.channel w.place) (acts ++ act ∷ []) ≡ o
      by_clause (Some j) e = first_kept (offers_at w.channel w.place) acts (act ∷ []) j e
      by_clause None e =
          first_last (offers_at w.channel w.place) acts act e
          ∙ nothing_offered w.channel w.place (wait_counted w.channel w.place acts w (own_wait shape acts s k w b))
          (offers_at w.channel w.place act) refl

  back_stays : (mine : List Act) → ((w : WaitId) → list_any (withdraws w) mine ≡ true → HasBegun (s.waits w))
      → how_many (takes_back (acts ++ act ∷ [])) mine ≡ how_many (takes_back acts) mine
  back_stays [] h = refl
  back_stays (Withdraw w why ∷ mine) h =
      let r = back_stays mine (λ v e. h v (ap (λ b. same_wait v w || b) e ∙ or-true (same_wait v w))) in
      let a : ◌≡◌ {A = ℕ} (cond (is_plain_offer (acts ++ act ∷ []) w) 1 0) (cond (is_plain_offer acts w) 1 0) =
      ap (λ b. cond b 1 0) (clause_stays w (h w (ap (λ b. b || list_any (withdraws w) mine) (same_wait-refl w)))) in
      omega arith
  back_stays (other ∷ mine) h = let r = back_stays mine h in omega arith

  plain_stays : (o : Option WaitId) → ((w : WaitId) → o ≡ Some w → HasBegun (s.waits w)) → plain_in (acts ++ act ∷ []) o ≡ plain_in acts o
  plain_stays None h = refl
  plain_stays (Some w) h = ap (λ b. cond b 1 0) (clause_stays w (h w refl))

  begun_then : (w : WaitId) → HasBegun (s.waits w) → HasBegun ((after s maker act).waits w)
  begun_then w h = always_keeps shape HasBegun begun_stays maker w s act n h

-- ---- unsettled waits, before and after

unsettled_comes : (who : ℕ) → ComesFrom who (IsUnsettledOf who)
unsettled_comes who = record {
  resolved = λ how x h. elim x as (λ y. IsUnsettledOf who (resolved_wait how y)
      → IsUnsettledOf who y) [ None ↦ λ k. k | Some y ↦ λ k. k ] h;
  named = λ n k c x h. elim x as (λ y. IsUnsettledOf who (name_clause n k c y) → IsUnsettledOf who y
      ⊎ (n ≡ who)) [ None ↦ λ f. inr f.0 | Some y ↦ λ f. inl f ] h;
  settled = λ outcome x h. settled_not who outcome x h;
}
  where
    settled_not : (who : ℕ) (outcome : Settled) (x : Option Wait) → IsUnsettledOf who (settled_wait outcome x) → IsUnsettledOf who x
    settled_not who outcome None h = h
    settled_not who outcome (Some x) h = let e = h.1 in cc

apart : (n : ℕ) → n + 1 ≢ n
apart n e = absurd (omega arith)

-- a wait of who stays unsettled by each act of its own that does not settle it
own_keeps : (shape : Shape) (who : ℕ) (v : WaitId) (s : State) (act : Act) → Needs shape s who act
    → ((outcome : Settled) → act ≡ Settle v outcome → ⊥) → IsUnsettledOf who (s.waits v) → IsUnsettledOf who ((after s who act).waits v)
own_keeps shape who v s (Offer c p x w k) n a h = one_change (IsUnsettledOf who) s.waits w v (name_clause who k c)
    ((unsettled_stays who).named who k c (s.waits v)) h
own_keeps shape who v s (Await c p w k) n a h = one_change (IsUnsettledOf who) s.waits w v (name_clause who k c)
    ((unsettled_stays who).named who k c (s.waits v)) h
own_keeps shape who v s (Withdraw w why) n a h = one_change (IsUnsettledOf who) s.waits w v (resolved_wait _)
    ((unsettled_stays who).resolved _ (s.waits v)) h
own_keeps shape who v s (Settle w outcome) n a h = by_test (same_wait w v) refl
  where
    by_test : (b : Bool) → same_wait w v ≡ b → IsUnsettledOf who (if b then settled_wait outcome (s.waits w) else s.waits v)
    by_test true e = absurd (a outcome (ap (λ u. Settle u outcome) (same_wait-eq w v e)))
    by_test false e = h
own_keeps shape who v s other n a h = other_keeps shape who (IsUnsettledOf who) (unsettled_stays who) (who + 1) v s other (apart who) n h

-- the clause is one more of the wait that the caller has, or begins one where it has none
abbrev Named : ℕ → State → Option WaitId → ℕ → ℕ → ℕ → WaitId → Type 0
Named who s o c p j w = ((o ≡ Some w) × IsUnsettledOf who (s.waits w) × ((j == 0) ≡ false))
    ⊎ ((o ≡ None) × (s.waits w ≡ None) × (w ≡ record { channel = c; place = p }))

-- ---- entries of others

module _ (shape : Shape) (who : ℕ) (acts : List Act) (s : State) (k : Kept shape acts s) (mine : List Act) (o : Option WaitId) (t : Tally)
    (h : Tracked who acts s mine o t) where
  has_begun : (w : WaitId) → o ≡ Some w → HasBegun (s.waits w)
  has_begun w e = unsettled_begun who (s.waits w) (h.has w e)

  other_tracked : (maker : ℕ) (act : Act) → maker ≢ who → Needs shape s maker act
      → Tracked who (acts ++ act ∷ []) (after s maker act) mine o t
  other_tracked maker act a n = record {
    only = λ w u. h.only w (⊎_elim (λ x. x) (λ y. absurd (a y.0)) (act_from who (IsUnsettledOf who) (unsettled_comes who) maker w s act u));
    has = λ w e. other_keeps shape who (IsUnsettledOf who) (unsettled_stays who) maker w s act a n (h.has w e);
    plain = h.plain ∙ sym (plain_stays shape acts s k maker act n o has_begun);
    back = h.back ∙ sym (back_stays shape acts s k maker act n mine h.known);
    known = λ w e. begun_then shape acts s k maker act n w (h.known w e);
  }

  -- ---- own entries

  -- an own act that names and settles no wait, and withdraws none
  back_then : (act : Act) → Needs shape s who act → takes_back (acts ++ act ∷ []) act ≡ false
      → how_many (takes_back acts) mine ≡ how_many (takes_back (acts ++ act ∷ [])) (mine ++ act ∷ [])
  back_then act n e =
      let a = how_many_push (takes_back (acts ++ act ∷ [])) mine act in
      let b = back_stays shape acts s k who act n mine h.known in
      let f : ◌≡◌ {A = ℕ} (cond (takes_back (acts ++ act ∷ []) act) 1 0) 0 = ap (λ x. cond x 1 0) e in
      omega arith

  known_then : (act : Act) → Needs shape s who act → ((w : WaitId) → withdraws w act ≡ true → HasBegun (s.waits w)) → (w : WaitId)
      → list_any (withdraws w) (mine ++ act ∷ []) ≡ true → HasBegun ((after s who act).waits w)
  known_then act n now w e = begun_then shape acts s k who act n w
      (⊎_elim (λ old. h.known w old) (λ new. now w new) (any_cases (withdraws w) mine act e))

  joins_unsettled : (j c : ℕ) (x : Option Wait) → JoinsWait who j c x → IsUnsettledOf who x × ((j == 0) ≡ false)
  joins_unsettled j c None m = absurd m
  joins_unsettled j c (Some x) m = (
    (m.own, m.unsettled),
    false_from_ne_true (j == 0) (λ e. let z = eqb-true j 0 e in let l = m.low in omega arith),
  )

  nothing_yet : (w : WaitId) (x : Option WaitId) → o ≡ x → may_name w x ≡ true → s.waits w ≡ None → x ≡ None
  nothing_yet w None e f z = refl
  nothing_yet w (Some u) e f z =
      let same = same_wait-eq w u f in
      absurd (subst (IsUnsettledOf who) (ap s.waits (sym same) ∙ z) (h.has u e))

  named_so : (c p j places : ℕ) (w : WaitId) → HasPlace places p (s.channels c) → MayName who j c p w s → may_name w o ≡ true
      → Named who s o c p j w
  named_so c p j places w place may f = by_test (same_wait w (record { channel = c; place = p })) refl may
    where
      by_test : (b : Bool) → same_wait w (record { channel = c; place = p }) ≡ b → MatchBool b (j ≤ 7) (JoinsWait who j c (s.waits w))
          → Named who s o c p j w
      by_test true e m =
          let own : w ≡ record { channel = c; place = p } = same_wait-eq w (record { channel = c; place = p }) e in
          let first = place.first in
          let z : s.waits w ≡ None = ap s.waits own ∙ k.traced.own.placed (record { channel = c; place = p }) (omega arith) in
          inr (nothing_yet w o refl f z, z, own)
      by_test false e m = let u = joins_unsettled j c (s.waits w) m in inl (h.only w u.0, u.0, u.1)

  named_only : (c p j : ℕ) (w v : WaitId) → Named who s o c p j w → IsUnsettledOf who (s.waits v) → Some w ≡ Some v
  named_only c p j w v m u =
      let e = h.only v u in
      ⊎_elim (λ x. let f = x.0 in sym f ∙ e) (λ x. let f = x.0 in cc) m

  named_has : (c p j : ℕ) (w v : WaitId) → Named who s o c p j w → Some w ≡ Some v
      → IsUnsettledOf who (put_wait w (name_clause who j c (s.waits w)) s.waits v)
  named_has c p j w v m e =
      let same : w ≡ v = cc in
      subst (λ u. IsUnsettledOf who (put_wait w (name_clause who j c (s.waits w)) s.waits u)) same
      (subst (IsUnsettledOf who) (sym (at_wait w (name_clause who j c (s.waits w)) s.waits))
      (⊎_elim (λ x. (unsettled_stays who).named who j c (s.waits w) x.1)
      (λ x. subst (λ y. IsUnsettledOf who (name_clause who j c y)) (sym x.1) (refl, refl)) m))

  -- nothing was offered before at a place that is given out now
  fresh_clause : (c p places : ℕ) → HasPlace places p (s.channels c) → first_some (offers_at c p) acts ≡ None
  fresh_clause c p places place = by_clause (first_some (offers_at c p) acts) refl
    where
      by_clause : (x : Option ℕ) → first_some (offers_at c p) acts ≡ x → x ≡ None
      by_clause None e = refl
      by_clause (Some j) e =
          let first = place.first in
          let a = (k.traced.told.counted c p).fresh (omega arith) in
          let b = any_count (offers c p) acts (clause_offered c p j acts e) in
          let d = enters_count c p acts in
          absurd (omega arith)

  -- how many plain offers the wait has, with a clause more that is plain or not
  named_plain : (c p j places : ℕ) (w : WaitId) (act : Act) (extra : Bool) → Needs shape s who act → HasPlace places p (s.channels c)
      → Named who s o c p j w → ((j == 0) ≡ false → extra ≡ false) → of_offer (λ i. i == 0) (offers_at c p act) ≡ extra
      → t.plain_offers + cond extra 1 0 ≡ cond (is_plain_offer (acts ++ act ∷ []) w) 1 0
  named_plain c p j places w act extra n place m plainly says =
      ⊎_elim
      (λ x.
      let a : t.plain_offers ≡ cond (is_plain_offer acts w) 1 0 = h.plain ∙ ap (plain_in acts) x.0 in
      let b : ◌≡◌ {A = ℕ} (cond (is_plain_offer (acts ++ act ∷ []) w) 1 0) (cond (is_plain_offer acts w) 1 0) =
      ap (λ y. cond y 1 0) (clause_stays shape acts s k who act n w (unsettled_begun who (s.waits w) x.1)) in
      let d : ◌≡◌ {A = ℕ} (cond extra 1 0) 0 = ap (λ y. cond y 1 0) (plainly x.2) in
      omega arith)
      (λ x.
      let a : t.plain_offers ≡ 0 = h.plain ∙ ap (plain_in acts) x.0 in
      let f : is_plain_offer (acts ++ act ∷ []) w ≡ extra = ap (is_plain_offer (acts ++ act ∷ [])) x.2
      ∙ (ap (of_offer (λ i. i == 0)) (first_last (offers_at c p) acts act (fresh_clause c p places place)) ∙ says) in
      let b : ◌≡◌ {A = ℕ} (cond (is_plain_offer (acts ++ act ∷ []) w) 1 0) (cond extra 1 0) = ap (λ y. cond y 1 0) f in
      omega arith)
      m

  open_unsettled : (w : WaitId) → IsOpenOf who (s.waits w) → IsUnsettledOf who (s.waits w)
  open_unsettled w h = by_wait (s.waits w) h (k.traced.ended.resolved w)
    where
      by_wait : (x : Option Wait) → IsOpenOf who x → (IsSettledWait x → IsResolvedWait x) → IsUnsettledOf who x
      by_wait None m r = absurd m
      by_wait (Some x) m r = (m.0, by_end x.settled r)
        where
          by_end : (ending : Option Settled) → (is_some ending ≡ true → is_some x.resolved ≡ true) → ending ≡ None
          by_end None r = refl
          by_end (Some y) r = let a : is_some x.resolved ≡ true = r refl in let b : is_some x.resolved ≡ false = ap is_some m.1
              in absurd (both_ways _ b a)

  -- an act that is none of the four leaves the wait and the plain offers
  own_tracked : (act : Act) → Needs shape s who act → fits_wait o act ≡ true
      → Tracked who (acts ++ act ∷ []) (after s who act) (mine ++ act ∷ []) (wait_after o act) (with_act t act)
  own_tracked (Offer c p v w j) n f =
      let m = named_so c p j _ w n.1 n.4 f in
      record {
        only = λ x u. ⊎_elim (λ e. named_only c p j w x m e) (λ e. e.1)
            (act_from who (IsUnsettledOf who) (unsettled_comes who) who x s (Offer c p v w j) u);
        has = λ x e. named_has c p j w x m e;
        plain = named_plain c p j _ w (Offer c p v w j) (j == 0) n n.1 m (λ e. e)
            (ap (λ b. of_offer (λ i. i == 0) (if b then Some j else None)) (here c p));
        back = let a = back_then (Offer c p v w j) n refl in let b = h.back in omega arith;
        known = known_then (Offer c p v w j) n (λ x e. cc);
      }
  own_tracked (Await c p w j) n f =
      let m = named_so c p j _ w n.1 n.3 f in
      record {
        only = λ x u. ⊎_elim (λ e. named_only c p j w x m e) (λ e. e.1)
            (act_from who (IsUnsettledOf who) (unsettled_comes who) who x s (Await c p w j) u);
        has = λ x e. named_has c p j w x m e;
        plain = let a = named_plain c p j _ w (Await c p w j) false n n.1 m (λ e. refl) refl in omega arith;
        back = let a = back_then (Await c p w j) n refl in let b = h.back in omega arith;
        known = known_then (Await c p w j) n (λ x e. cc);
      }
  own_tracked (Withdraw w why) n f =
      let u = open_unsettled w n in
      let e = h.only w u in
      let b = unsettled_begun who (s.waits w) u in
      record {
        only = λ x y. h.only x (⊎_elim (λ z. z) (λ z. let q = z.1
            in cc) (act_from who (IsUnsettledOf who) (unsettled_comes who) who x s (Withdraw w why) y));
        has = λ x y. own_keeps shape who x s (Withdraw w why) n (λ outcome z. cc) (h.has x y);
        plain = h.plain ∙ sym (plain_stays shape acts s k who (Withdraw w why) n o has_begun);
        back =
            let a = how_many_push (takes_back (acts ++ Withdraw w why ∷ [])) mine (Withdraw w why) in
            let d = back_stays shape acts s k who (Withdraw w why) n mine h.known in
            let g : t.plain_offers ≡ cond (is_plain_offer acts w) 1 0 = h.plain ∙ ap (plain_in acts) e in
            let i : ◌≡◌ {A = ℕ} (cond (is_plain_offer (acts ++ Withdraw w why ∷ []) w) 1 0) (cond (is_plain_offer acts w) 1 0) =
            ap (λ y. cond y 1 0) (clause_stays shape acts s k who (Withdraw w why) n w b) in
            let j = h.back in
            omega arith;
        known = known_then (Withdraw w why) n (λ x y. subst (λ v. HasBegun (s.waits v)) (sym (same_wait-eq x w y)) b);
      }
  own_tracked (Settle w outcome) n f = record {
    only = λ x u. absurd (settled_now x u);
    has = λ x e. cc;
    plain = refl;
    back = let a = back_then (Settle w outcome) n refl in let b = h.back in omega arith;
    known = known_then (Settle w outcome) n (λ x e. cc);
  }
    where
      had : (y : Option WaitId) → o ≡ y → is_wait w y ≡ true → o ≡ Some w
      had None e q = cc
      had (Some u) e q = e ∙ ap (λ v. Some v) (sym (same_wait-eq w u q))

      settled_not : (x : Option Wait) → IsSettledWait x → IsUnsettledOf who x → ⊥
      settled_not None a b = a
      settled_not (Some x) a b = let d : is_some x.settled ≡ false = ap is_some b.1 in both_ways _ d a

      settled_now : (x : WaitId) → IsUnsettledOf who ((after s who (Settle w outcome)).waits x) → ⊥
      settled_now x u =
          ⊎_elim
          (λ e.
          let a = h.only x e in
          let b = had o refl f in
          let same : w ≡ x = cc in
          settled_not _ (settles_turns shape s who (Settle w outcome) n w refl).now
          (subst (λ v. IsUnsettledOf who ((after s who (Settle w outcome)).waits v)) (sym same) u))
          (λ e. let q = e.1 in cc)
          (act_from who (IsUnsettledOf who) (unsettled_comes who) who x s (Settle w outcome) u)
  own_tracked other n f = record {
    only = λ x y. h.only x (⊎_elim (λ z. z) (λ z. let q = z.1
        in cc) (act_from who (IsUnsettledOf who) (unsettled_comes who) who x s other y));
    has = λ x y. own_keeps shape who x s other n (λ outcome z. cc) (h.has x y);
    plain = h.plain ∙ sym (plain_stays shape acts s k who other n o has_begun);
    back = let a = back_then other n refl in let b = h.back in omega arith;
    known = known_then other n (λ x e. cc);
  }

-- ---- all entries

cast : (who : ℕ) (acts acts' : List Act) (s s' : State) (mine : List Act) (o o' : Option WaitId) (t t' : Tally) → acts ≡ acts' → s ≡ s'
    → o ≡ o' → t ≡ t' → Tracked who acts s mine o t → Tracked who acts' s' mine o' t'
cast who acts acts' s s' mine o o' t t' a b c d h =
    subst (λ x. Tracked who x s' mine o' t') a (subst (λ x. Tracked who acts x mine o' t') b
    (subst (λ x. Tracked who acts s mine x t') c (subst (λ x. Tracked who acts s mine o x) d h)))

-- what is tracked of a caller after this history
abbrev pub TrackedAfter : ℕ → List Entry → Type 0
TrackedAfter who es = Tracked who (acts_in es) (replay es) (acts_of who es) (waits_after None (acts_of who es)) (tally_of (acts_of who es))

acts_push : (es : List Entry) (e : Entry) → acts_in (es ++ e ∷ []) ≡ acts_in es ++ e.act ∷ []
acts_push [] e = refl
acts_push (x ∷ es) e = ap (λ l. x.act ∷ l) (acts_push es e)

first_own : (who : ℕ) (e : Entry) (es : List Entry) → acts_of who (e ∷ es) ≡
    (if e.who == who then e.act ∷ acts_of who es else acts_of who es)
unfolding acts_of
first_own who e es = refl

none_own : (who : ℕ) → acts_of who [] ≡ []
unfolding acts_of
none_own who = refl

one_own : (who : ℕ) (e : Entry) (es : List Entry) (b : Bool) → (e.who == who) ≡ b
    → acts_of who (e ∷ es) ≡ (if b then e.act ∷ acts_of who es else acts_of who es)
one_own who e es b q = first_own who e es ∙ ap (λ x. if x then e.act ∷ acts_of who es else acts_of who es) q

own_push : (who : ℕ) (es : List Entry) (e : Entry) → (e.who == who) ≡ true → acts_of who es ++ e.act ∷ [] ≡ acts_of who (es ++ e ∷ [])
own_push who es e q = sym (acts_of-append who es (e ∷ [])
    ∙ ap (λ l. acts_of who es ++ l) (one_own who e [] true q ∙ ap (λ l. e.act ∷ l) (none_own who)))

other_push : (who : ℕ) (es : List Entry) (e : Entry) → (e.who == who) ≡ false → acts_of who es ≡ acts_of who (es ++ e ∷ [])
other_push who es e q = sym (acts_of-append who es (e ∷ [])
    ∙ (ap (λ l. acts_of who es ++ l) (one_own who e [] false q ∙ none_own who) ∙ nothing_more (acts_of who es)))

module _ (shape : Shape) (who : ℕ) where
  track_push : (es : List Entry) (e : Entry) → Legal shape (es ++ e ∷ [])
      → ((e.who == who) ≡ true → fits_wait (waits_after None (acts_of who es)) e.act ≡ true) → TrackedAfter who es
      → TrackedAfter who (es ++ e ∷ [])
  track_push es e legal fits h = by_test (e.who == who) refl
    where
      l : Legal shape es × Needs shape (replay es) e.who e.act
      l = Legal-last shape es e legal

      not_who : (e.who == who) ≡ false → e.who ≢ who
      not_who q m = let x : (e.who == who) ≡ true = grind (arith, nat_tests) in both_ways _ q x

      by_test : (b : Bool) → (e.who == who) ≡ b → TrackedAfter who (es ++ e ∷ [])
      by_test true q =
          let m : e.who ≡ who = eqb-true e.who who q in
          let n : Needs shape (replay es) who e.act = subst (λ x. Needs shape (replay es) x e.act) m l.1 in
          let mine = acts_of who es in
          let r = own_tracked shape who (acts_in es) (replay es) (replay_kept shape es l.0) mine (waits_after None mine) (tally_of mine) h
          e.act n (fits q) in
          subst (λ x. Tracked who (acts_in (es ++ e ∷ [])) (replay (es ++ e ∷ [])) x (waits_after None x) (tally_of x))
          (own_push who es e q)
          (cast who _ _ _ _ (mine ++ e.act ∷ []) _ _ _ _ (sym (acts_push es e)) (ap (λ x. after (replay es) x e.act) (sym m)
          ∙ sym (replay_push es e)) (sym (wait_last None mine e.act)) (sym (act_last empty mine e.act)) r)
      by_test false q =
          let mine = acts_of who es in
          let r = other_tracked shape who (acts_in es) (replay es) (replay_kept shape es l.0) mine (waits_after None mine) (tally_of mine) h
          e.who e.act (not_who q) l.1 in
          subst (λ x. Tracked who (acts_in (es ++ e ∷ [])) (replay (es ++ e ∷ [])) x (waits_after None x) (tally_of x))
          (other_push who es e q)
          (cast who _ _ _ _ mine _ _ _ _ (sym (acts_push es e)) (sym (replay_push es e)) refl refl r)

  fits_then : (xs : List Entry) (y : Entry) (ys : List Entry) → has_one_wait None (acts_of who (xs ++ y ∷ ys)) ≡ true
      → (y.who == who) ≡ true → fits_wait (waits_after None (acts_of who xs)) y.act ≡ true
  fits_then xs y ys f q =
      fits_next None (acts_of who xs) y.act (acts_of who ys)
      (ap (has_one_wait None) (sym (acts_of-append who xs (y ∷ ys) ∙ ap (λ l. acts_of who xs ++ l) (one_own who y ys true q))) ∙ f)

  track : (ys xs : List Entry) → Legal shape (xs ++ ys) → has_one_wait None (acts_of who (xs ++ ys)) ≡ true → TrackedAfter who xs
      → TrackedAfter who (xs ++ ys)
  track [] xs l f h = subst (TrackedAfter who) (sym (nothing_more xs)) h
  track (y ∷ ys) xs l f h =
      let e : (xs ++ y ∷ []) ++ ys ≡ xs ++ y ∷ ys = append_assoc xs (y ∷ []) ys in
      let l' : Legal shape ((xs ++ y ∷ []) ++ ys) = subst (Legal shape) (sym e) l in
      subst (TrackedAfter who) e
      (track ys (xs ++ y ∷ []) l' (subst (λ es. has_one_wait None (acts_of who es) ≡ true) (sym e) f)
      (track_push xs y (Legal-prefix shape (xs ++ y ∷ []) ys l') (fits_then xs y ys f) h))

  start_tracked : Tracked who [] start [] None empty
  start_tracked = record { only = λ w u. absurd u; has = λ w e. cc; plain = refl; back = refl; known = λ w e. cc }

  pub replay_tracked : (history : List Entry) → Legal shape history → has_one_wait None (acts_of who history) ≡ true
      → TrackedAfter who history
  unfolding replay_from
  replay_tracked history l f = track history [] l f (subst (λ x. Tracked who [] start x (waits_after None x) (tally_of x))
      (sym (none_own who)) start_tracked)
