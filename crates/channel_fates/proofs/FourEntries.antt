-- At most four entries name a place.
use Rattle.std.specs.Prelude.{◌≡◌, ℕ, ◌+◌, ◌<◌, ◌≤◌, ◌==◌, Bool, true, false, not, ◌||◌, cond, List, [], ◌∷◌, Option, Some, None, is_none, is_some, refl, if◌then◌else◌, MatchBool}
use Rattle.std.specs.List.{list_all}
use Rattle.std.proofs.Common.{sym, ap, ◌∙◌, subst, arith, inl, ⊎_elim, ne_eqb}
use Rattle.std.proofs.lemmas.Bool.{eqb-true, both_ways, cases_lt, cond_both, not_from_true, or_from, or_right}
use Rattle.co_base.specs.declared.names.WaitId.{WaitId}
use Rattle.channel_model.specs.declared.acts.Act.{Act}
use Rattle.channel_model.specs.declared.acts.Act.TheVariants.{Hand, Admit}
use Rattle.channel_model.specs.declared.acts.Entry.{Entry}
use Rattle.channel_model.specs.declared.acts.Kind.{Kind}
use Rattle.channel_model.specs.declared.standing.Party.{Party}
use Rattle.channel_model.specs.declared.standing.Resolution.TheVariants as resolved
use Rattle.channel_model.specs.declared.standing.Standing.{Standing}
use Rattle.channel_model.specs.declared.standing.Receiver.{Receiver}
use Rattle.channel_model.specs.Answers.{IsResolvedWait}
use Rattle.channel_model.specs.Channels.{Shape, State, Channel, Wait, start, places_at, kind_at, is_full}
use Rattle.channel_model.specs.Effects.{after, is_held_by, admitted, place_offer, place_receiver, holder_at, resolve_holder, with_queue, is_elsewhere}
use Rattle.channel_model.specs.Needs.{Needs, HasPlace, MayBeAdmitted}
use Rattle.channel_model.specs.Histories.{replay, acts_in, Legal, LegalFrom}
use Rattle.channel_model.specs.Fates.{admits, withdraws, removes}
use Rattle.channel_model.specs.Laws.{how_many, Ascends, StandsInOrder, resolves, settles, one_if, resolutions_from, settlements_of}
use Rattle.channel_model.proofs.Elements.{all_filter, all_rest, all_first, all_more, all_push}
use Rattle.channel_model.proofs.EveryAct.{ChannelKeeps, after_keeps}
use Rattle.channel_model.proofs.InOrder.{order_keeps}
use Rattle.channel_model.proofs.OneEntry.{resolutions_of_bound, settlements_of_bound}
use Rattle.channel_fates.specs.Places.{is_of_place}
use Rattle.channel_fates.proofs.Appended.{count_any}
use Rattle.channel_fates.proofs.OncePlaced.{enters, answers, awaits, at_both}
use Rattle.channel_fates.proofs.ChosenOnce.{admitted_resolved}
use Rattle.channel_fates.proofs.OwnPlaces.{name_of}
use Rattle.channel_fates.proofs.Traced.{replay_traced}
use Rattle.channel_model.proofs.Left.{put_here}

-- ---- an offer is admitted at most once

-- no offer at this place waits
abbrev is_free : ℕ → Standing → Bool
is_free p o = not (o.place == p) || is_none o.holder

record NoneHeld (p : ℕ) (ch : Channel) : Type 0 where
  given : p < ch.next
  free : list_all (is_free p) ch.queue ≡ true

admitted_free : (p q : ℕ) (os : List Standing) → list_all (is_free p) os ≡ true → list_all (is_free p) (admitted q os) ≡ true
admitted_free p q [] h = refl
admitted_free p q (o ∷ os) h =
    cond_both (o.place == q) (record o { holder = None } ∷ os) (o ∷ admitted q os) (λ l. list_all (is_free p) l ≡ true)
    (λ e. all_more (is_free p) (record o { holder = None }) os (or_right (not (o.place == p)) true refl) (all_rest (is_free p) o os h))
    (λ e. all_more (is_free p) o (admitted q os) (all_first (is_free p) o os h) (admitted_free p q os (all_rest (is_free p) o os h)))

elsewhere_free : (p : ℕ) (o : Standing) → (o.place ≡ p → ⊥) → is_free p o ≡ true
elsewhere_free p o ne = ap (λ b. not b || is_none o.holder) (ne_eqb o.place p ne)

offer_free : (p q places : ℕ) (b : Bool) (o : Standing) (ch : Channel) → HasPlace places q ch → o.place ≡ q → NoneHeld p ch
    → NoneHeld p (place_offer b o ch)
offer_free p q places false o ch h e x = record { given = let g = x.given in omega arith; free = x.free }
offer_free p q places true o ch h e x = record {
  given = let g = x.given
      in omega arith;
  free = all_push (is_free p) ch.queue o x.free
      (elsewhere_free p o (λ is. let g = x.given in let f = h.first in omega arith));
}

receiver_free : (p : ℕ) (b : Bool) (r : Receiver) (ch : Channel) → NoneHeld p ch → NoneHeld p (place_receiver b r ch)
receiver_free p true r ch x = record { given = let g = x.given in omega arith; free = x.free }
receiver_free p false r ch x = record { given = let g = x.given in omega arith; free = x.free }

free_keeps : (shape : Shape) (p : ℕ) → ChannelKeeps shape (λ d ch. NoneHeld p ch)
free_keeps shape p = record {
  without = λ w d ch h. record {
    given = h.given;
    free =
        all_filter (is_free p) (λ (o : Standing). not (is_held_by w o.holder)) ch.queue h.free;
  };
  rest = λ d o os ch e h. record {
    given = h.given;
    free =
        all_rest (is_free p) o os (subst (λ (l : List Standing). list_all (is_free p) l ≡ true) e h.free);
  };
  admit = λ d q ch h. record { given = h.given; free = admitted_free p q ch.queue h.free };
  spurn = λ d q ch h. record { given = h.given; free = all_filter (is_free p) (is_elsewhere q) ch.queue h.free };
  put = λ d q v ch h n x. offer_free p q (places_at shape d) true (record { place = q; value = v; holder = None }) ch h refl x;
  offer = λ d q b o ch h n s e x. offer_free p q (places_at shape d) b o ch h e x;
  await = λ d q b r ch h n e x. receiver_free p b r ch x;
  close = λ d v ch e h. record { given = h.given; free = h.free };
  void = λ d ch e h. record { given = h.given; free = h.free };
}

above_free : (p n m : ℕ) (os : List Standing) → p < n → Ascends (λ (o : Standing). o.place) n m os → list_all (is_free p) os ≡ true
above_free p n m [] lt h = refl
above_free p n m (o ∷ os) lt h = all_more (is_free p) o os (elsewhere_free p o (λ is. let k = h.0 in omega arith))
    (above_free p (o.place + 1) m os (let k = h.0 in omega arith) h.1)

-- after its admission none is held at the place
now_free : (p n m : ℕ) (kind : Kind) (k : ℕ) (os : List Standing) → Ascends (λ (o : Standing). o.place) n m os → MayBeAdmitted kind p k os
    → (list_all (is_free p) (admitted p os) ≡ true) × (p < m)
now_free p n m kind k [] h a = absurd a
now_free p n m kind k (o ∷ os) h a = by_test (o.place == p) refl a (λ b. now_free p (o.place + 1) m kind (k + 1) os h.1 b)
  where
    below : (n m : ℕ) (os : List Standing) → Ascends (λ (o : Standing). o.place) n m os → n ≤ m
    below n m [] h = h
    below n m (o ∷ os) h = let k = below (o.place + 1) m os h.1 in let l = h.0 in omega arith

    by_test : (b : Bool) → (o.place == p) ≡ b → MatchBool b ((is_some o.holder ≡ true)
        × (is_full kind k ≡ false)) (MayBeAdmitted kind p (k + 1) os)
        → (MayBeAdmitted kind p (k + 1) os → (list_all (is_free p) (admitted p os) ≡ true) × (p < m))
        → (list_all (is_free p) (if b then record o { holder = None } ∷ os else o ∷ admitted p os) ≡ true) × (p < m)
    by_test true e a later =
        let at : o.place ≡ p = eqb-true o.place p e in (
          all_more (is_free p) (record o { holder = None }) os (or_right (not (o.place == p)) true refl)
              (above_free p (o.place + 1) m os (omega arith) h.1),
          let l = below (o.place + 1) m os h.1 in omega arith,
        )
    by_test false e a later =
        let rest = later a in
        (all_more (is_free p) o (admitted p os) (ap (λ b. not b || is_none o.holder) e) rest.0, rest.1)

not_held : (p : ℕ) (kind : Kind) (k : ℕ) (os : List Standing) → list_all (is_free p) os ≡ true → MayBeAdmitted kind p k os → ⊥
not_held p kind k [] h a = a
not_held p kind k (o ∷ os) h a = by_test (o.place == p) refl a (λ b. not_held p kind (k + 1) os (all_rest (is_free p) o os h) b)
  where
    held : (o.place == p) ≡ true → (x : Option Party) → (not (o.place == p) || is_none x) ≡ true → is_some x ≡ true → ⊥
    held e None f g = cc
    held e (Some x) f g = both_ways _ (or_from _ false (not_from_true (o.place == p) e) refl) f

    by_test : (b : Bool) → (o.place == p) ≡ b → MatchBool b ((is_some o.holder ≡ true)
        × (is_full kind k ≡ false)) (MayBeAdmitted kind p (k + 1) os) → (MayBeAdmitted kind p (k + 1) os → ⊥) → ⊥
    by_test true e a later = held e o.holder (all_first (is_free p) o os h) a.0
    by_test false e a later = later a

-- so an admission leaves none held at its place
admit_frees : (shape : Shape) (s : State) (who c p : ℕ) → StandsInOrder (s.channels c)
    → MayBeAdmitted (kind_at shape c) p 0 (s.channels c).queue → NoneHeld p ((after s who (Admit c p)).channels c)
admit_frees shape s who c p h a = by_holder (holder_at p (s.channels c).queue)
  where
    queued : NoneHeld p ((with_queue c (admitted p (s.channels c).queue) s).channels c)
    queued =
        let f = now_free p 0 (s.channels c).next (kind_at shape c) 0 (s.channels c).queue h.offers a in
        let k : NoneHeld p (record (s.channels c) { queue = admitted p (s.channels c).queue }) = record { given = f.1; free = f.0 } in
        subst (NoneHeld p) (sym (put_here c (record (s.channels c) { queue = admitted p (s.channels c).queue }) s.channels)) k

    by_holder : (o : Option Party)
        → NoneHeld p ((resolve_holder o resolved.Admitted (with_queue c (admitted p (s.channels c).queue) s)).channels c)
    by_holder None = queued
    by_holder (Some x) = (free_keeps shape p).without x.wait c ((with_queue c (admitted p (s.channels c).queue) s).channels c) queued

admit_of : (c p : ℕ) (act : Act) → admits c p act ≡ true → act ≡ Admit c p
admit_of c p (Admit d q) e = let k = at_both c p d q e in ap (λ x. Admit x q) k.0 ∙ ap (λ x. Admit c x) k.1
admit_of c p other e = cc

admissions : (shape : Shape) (c p : ℕ) (s : State) (es : List Entry) → LegalFrom shape s es → StandsInOrder (s.channels c)
    → (how_many (admits c p) (acts_in es) ≤ 1) × (NoneHeld p (s.channels c) → how_many (admits c p) (acts_in es) ≡ 0)
unfolding LegalFrom
admissions shape c p s [] l h = (omega arith, λ k. refl)
admissions shape c p s (e ∷ es) l h =
    by_test (admissions shape c p (after s e.who e.act) es l.1
    (after_keeps shape (λ d ch. StandsInOrder ch) (order_keeps shape) s e.who e.act c l.0 h)) (admits c p e.act) refl
  where
    by_test : (how_many (admits c p) (acts_in es) ≤ 1) × (NoneHeld p ((after s e.who e.act).channels c)
        → how_many (admits c p) (acts_in es) ≡ 0)
        → (b : Bool) → admits c p e.act ≡ b → (cond b 1 0 + how_many (admits c p) (acts_in es) ≤ 1)
        × (NoneHeld p (s.channels c) → cond b 1 0 + how_many (admits c p) (acts_in es) ≡ 0)
    by_test rest true t =
        let is = admit_of c p e.act t in
        let n : Needs shape s e.who (Admit c p) = subst (Needs shape s e.who) is l.0 in
        let none = rest.1 (subst (λ a. NoneHeld p ((after s e.who a).channels c)) (sym is) (admit_frees shape s e.who c p h n.1)) in
        (omega arith, λ k. absurd (not_held p (kind_at shape c) 0 (s.channels c).queue k.free n.1))
    by_test rest false t = (
      let k = rest.0 in omega arith,
      λ k. let m =
          rest.1 (after_keeps shape (λ d ch. NoneHeld p ch) (free_keeps shape p) s e.who e.act c l.0 k) in omega arith,
    )

-- ---- a wait is withdrawn at most once

pub withdraw_resolves : (w : WaitId) (s : State) (act : Act) → cond (withdraws w act) 1 0 ≤ one_if w (resolves s act)
withdraw_resolves w s (Hand c p v) = omega arith
withdraw_resolves w s other = omega arith

withdrawals : (w : WaitId) (s : State) (es : List Entry) → how_many (withdraws w) (acts_in es) ≤ resolutions_from w s es
unfolding resolutions_from
withdrawals w s [] = omega arith
withdrawals w s (e ∷ es) = let k = withdrawals w (after s e.who e.act) es in let m = withdraw_resolves w s e.act in omega arith

-- ---- all entries of a place

named_here : (c p : ℕ) (act : Act)
    → cond (is_of_place c p act) 1 0 ≤ cond (enters c p act) 1 0 + cond (awaits c p act) 1 0 + cond (removes c p act) 1 0 + cond
    (answers c p act) 1 0 + cond (admits c p act) 1 0 + cond (withdraws (name_of c p) act) 1 0 + one_if (name_of c p) (settles act)
named_here c p (Hand d q v) = omega arith
named_here c p other = omega arith

all_named : (c p : ℕ) (es : List Entry)
    → how_many (is_of_place c p) (acts_in es) ≤ how_many (enters c p) (acts_in es) + how_many (awaits c p) (acts_in es) + how_many
    (removes c p) (acts_in es) + how_many (answers c p) (acts_in es) + how_many (admits c p) (acts_in es) + how_many
    (withdraws (name_of c p)) (acts_in es) + settlements_of (name_of c p) es
unfolding settlements_of
all_named c p [] = omega arith
all_named c p (e ∷ es) = let k = all_named c p es in let m = named_here c p e.act in omega arith

there : (x : Option Wait) → IsResolvedWait x → x ≡ None → ⊥
there None h e = h
there (Some x) h e = cc

pub replay_four_entries : (shape : Shape) (history : List Entry) (c p : ℕ) → Legal shape history
    → how_many (is_of_place c p) (acts_in history) ≤ 4
replay_four_entries shape history c p l =
    let t = replay_traced shape history l in
    let counted = t.told.counted c p in
    let w = name_of c p in
    let q = counted.queue in
    let r = counted.receivers in
    let g = counted.given in
    let a : how_many (admits c p) (acts_in history) ≤ 1 =
    (admissions shape c p start history l (record { offers = omega arith; receivers = omega arith; one_side = inl refl })).0 in
    let b : how_many (withdraws w) (acts_in history) ≤ 1 =
    (let k = withdrawals w start history in let m = resolutions_of_bound shape history w l in omega arith) in
    let d = settlements_of_bound shape history w l in
    let all = all_named c p history in
    let both : 1 ≤ how_many (admits c p) (acts_in history) → 1 ≤ how_many (withdraws w) (acts_in history) → ⊥ = λ x y.
    let admitted = admitted_resolved c p (acts_in history) (count_any (admits c p) (acts_in history) x) in
    let withdrawn = count_any (withdraws w) (acts_in history) y in
    ⊎_elim (λ none. there ((replay history).waits w) (t.chosen.withdrawn w withdrawn) none)
    (λ e. t.chosen.apart c p w (e, admitted) withdrawn) (t.own.begun c p) in
    ⊎_elim
    (λ x. ⊎_elim (λ y. absurd (both x y)) (λ y. omega arith) (cases_lt 0 (how_many (withdraws w) (acts_in history))))
    (λ x. omega arith)
    (cases_lt 0 (how_many (admits c p) (acts_in history)))
