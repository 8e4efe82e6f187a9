-- An offer stands while its wait is open.
use Rattle.std.specs.Prelude.{◌≡◌, ℕ, ◌+◌, ◌≤◌, ◌==◌, Bool, true, false, not, ◌&&◌, cond, List, [], ◌∷◌, ◌++◌, Option, Some, None, refl, if◌then◌else◌, ◌⊎◌, is_some, is_none}
use Rattle.std.specs.List.{list_any, AllByRecursion}
use Rattle.std.proofs.Common.{sym, ap, ◌∙◌, subst, arith, inl, inr, ⊎_elim}
use Rattle.std.proofs.lemmas.Bool.{eqb-true, cases_Bool, cond_both}
use Rattle.co_base.specs.declared.names.WaitId.{WaitId}
use Rattle.channel_model.specs.declared.acts.Act.{Act}
use Rattle.channel_model.specs.declared.acts.Act.TheVariants.{Hand, Put, Offer, Await, Take, Admit, Drop, Spurn, Close, Void, Drain, WakeClosed, Withdraw, Settle}
use Rattle.channel_model.specs.declared.standing.Party.{Party}
use Rattle.channel_model.specs.declared.standing.Standing.{Standing}
use Rattle.channel_model.specs.declared.standing.Receiver.{Receiver}
use Rattle.channel_model.specs.declared.standing.Resolution.{Resolution}
use Rattle.channel_model.specs.Channels.{Shape, State, Channel, Wait, same_wait, start, kind_at, drops, spurns}
use Rattle.channel_model.specs.Effects.{after, resolve_first, resolve_holder, resolve_offer, remove_first, with_queue, without, is_held_by, put_channel, admitted, holder_at, is_open, place_offer, place_receiver, spurned}
use Rattle.channel_model.specs.Needs.{Needs}
use Rattle.channel_model.specs.Fates.{wait_at, places_wait}
use Rattle.channel_model.specs.Laws.{how_many, resolves, wait_of_party, first_waiting, first_holding}
use Rattle.channel_model.proofs.Waits.{same_wait-eq, same_wait-refl}
use Rattle.channel_model.proofs.Resolutions.{resolved_stays, resolves_turns, always_keeps}
use Rattle.channel_model.specs.Answers.{IsResolvedWait}
use Rattle.channel_model.proofs.Placed.{same_number}
use Rattle.channel_fates.proofs.Appended.{any_cases, any_count}
use Rattle.channel_fates.proofs.OncePlaced.{counted_after, at_both}
use Rattle.channel_fates.proofs.StandsByActs.{offers, HolderKnown, OfferKnown, enters_count, wait_placed, here}
use Rattle.channel_fates.proofs.Chosen.{wait_before}
use Rattle.channel_fates.proofs.ChosenOnce.{Told}
use Rattle.channel_fates.proofs.Endings.{KindsKept, waits_or_drops, waits_or_spurns}
use Rattle.channel_fates.proofs.KeptUntilRemoved.{filter_keeps}
use Rattle.channel_model.proofs.Apart.{how_many_push}
use Rattle.channel_model.proofs.Left.{put_here}

-- ---- words

-- the wait holds this offer, and it has this place
abbrev pub is_held : ℕ → WaitId → Standing → Bool
is_held p w o = (o.place == p) && is_held_by w o.holder

-- an offer of the wait stands at this place
abbrev pub Stands : ℕ → WaitId → Channel → Type 0
Stands p w ch = 1 ≤ how_many (is_held p w) ch.queue

-- one still stands, or the act resolves the wait
abbrev StandsOr : ℕ → WaitId → Option WaitId → Channel → Type 0
StandsOr p w o ch = Stands p w ch ⊎ (o ≡ Some w)

-- ---- a wait that is resolved takes its own offers alone

held_stays : (w v : WaitId) (b : Bool) (h : Option Party) → same_wait v w ≡ false → (b && is_held_by w h) ≡ true
    → not (is_held_by v h) ≡ true
held_stays w v b None k e = refl
held_stays w v false (Some x) k e = cc
held_stays w v true (Some x) k e = let m = same_wait-eq w x.wait e in subst (λ u. not (same_wait v u) ≡ true) m (ap not k)

without_stands : (p : ℕ) (w v : WaitId) (ch : Channel) → Stands p w ch → Stands p w (without v ch) ⊎ (Some v ≡ Some w)
without_stands p w v ch h = ⊎_elim
    (λ e. inr (ap (λ u. Some u) (same_wait-eq v w e)))
    (λ e. inl (let k = filter_keeps (is_held p w) (λ (o : Standing). not (is_held_by v o.holder))
    (λ o m. held_stays w v (o.place == p) o.holder e m) ch.queue in omega arith))
    (cases_Bool (same_wait v w))

first_stands : (p c : ℕ) (w : WaitId) (rs : List Receiver) (how : ℕ → Resolution) (s : State) → Stands p w (s.channels c)
    → StandsOr p w (first_waiting rs) ((resolve_first rs how s).channels c)
first_stands p c w [] how s h = inl h
first_stands p c w (r ∷ rs) how s h = without_stands p w r.party.wait (s.channels c) h

holder_stands : (p c : ℕ) (w : WaitId) (x : Option Party) (how : ℕ → Resolution) (s : State) → StandsOr p w (wait_of_party x) (s.channels c)
    → StandsOr p w (wait_of_party x) ((resolve_holder x how s).channels c)
holder_stands p c w None how s h = h
holder_stands p c w (Some x) how s h = ⊎_elim (λ k. without_stands p w x.wait (s.channels c) k) (λ e. inr e) h

-- ---- the first offer goes

held_party : (w : WaitId) (b : Bool) (h : Option Party) → (b && is_held_by w h) ≡ true → wait_of_party h ≡ Some w
held_party w true None e = cc
held_party w true (Some x) e = ap (λ u. Some u) (sym (same_wait-eq w x.wait e))
held_party w false h e = cc

-- it is the wait's, or the wait's stand after it
first_or_rest : (p : ℕ) (w : WaitId) (o : Standing) (os : List Standing) → 1 ≤ how_many (is_held p w) (o ∷ os)
    → (1 ≤ how_many (is_held p w) os) ⊎ (wait_of_party o.holder ≡ Some w)
first_or_rest p w o os h = by_test (is_held p w o) refl h
  where
    by_test : (b : Bool) → is_held p w o ≡ b → 1 ≤ cond b 1 0 + how_many (is_held p w) os → (1 ≤ how_many (is_held p w) os)
        ⊎ (wait_of_party o.holder ≡ Some w)
    by_test true e h = inr (held_party w (o.place == p) o.holder e)
    by_test false e h = inl (omega arith)

-- only the channel of the act changes
put_stands : (p d c : ℕ) (w : WaitId) (o : Option WaitId) (x : Channel) (s : State) → (Stands p w (s.channels d) → StandsOr p w o x)
    → Stands p w (s.channels c) → StandsOr p w o (put_channel d x s.channels c)
put_stands p d c w o x s k h = cond_both (d == c) x (s.channels c) (StandsOr p w o)
    (λ e. k (subst (λ n. Stands p w (s.channels n)) (sym (eqb-true d c e)) h)) (λ e. inl h)

popped : (p d c : ℕ) (w : WaitId) (o : Standing) (os : List Standing) (s : State) → (s.channels d).queue ≡ o ∷ os
    → Stands p w (s.channels c) → StandsOr p w (wait_of_party o.holder) ((with_queue d os s).channels c)
popped p d c w o os s e h = put_stands p d c w (wait_of_party o.holder) (record (s.channels d) { queue = os }) s
    (λ k. first_or_rest p w o os (subst (λ q. 1 ≤ how_many (is_held p w) q) e k)) h

offer_stands : (p d c : ℕ) (w : WaitId) (os : List Standing) (how : ℕ → Resolution) (s : State) → (s.channels d).queue ≡ os
    → Stands p w (s.channels c) → StandsOr p w (first_holding os) ((resolve_offer d os how s).channels c)
offer_stands p d c w [] how s e h = inl h
offer_stands p d c w (o ∷ os) how s e h = holder_stands p c w o.holder how (with_queue d os s) (popped p d c w o os s e h)

-- an offer that is dropped was held by nobody
unheld : (shape : Shape) (acts : List Act) (d : ℕ) (w : WaitId) (h : Option Party) (q n : ℕ) → KindsKept shape acts
    → drops (kind_at shape d) n ≡ true → HolderKnown acts d q h → wait_of_party h ≡ Some w → ⊥
unheld shape acts d w None q n k e h f = cc
unheld shape acts d w (Some x) q n k e h f = waits_or_drops (kind_at shape d) n (k.offered d q h.0) e

drop_stands : (shape : Shape) (acts : List Act) (p d c n : ℕ) (w : WaitId) (os : List Standing) (s : State) → KindsKept shape acts
    → drops (kind_at shape d) n ≡ true → AllByRecursion (OfferKnown acts d) os → (s.channels d).queue ≡ os → Stands p w (s.channels c)
    → Stands p w ((remove_first d os s).channels c)
drop_stands shape acts p d c n w [] s k f a e h = h
drop_stands shape acts p d c n w (o ∷ os) s k f a e h =
    ⊎_elim (λ x. x) (λ x. absurd (unheld shape acts d w o.holder o.place n k f a.0.0 x)) (popped p d c w o os s e h)

-- so was one that is spurned
unheld_spurned : (shape : Shape) (acts : List Act) (d : ℕ) (w : WaitId) (h : Option Party) (q n : ℕ) → KindsKept shape acts
    → spurns (kind_at shape d) n ≡ true → HolderKnown acts d q h → wait_of_party h ≡ Some w → ⊥
unheld_spurned shape acts d w None q n k e h f = cc
unheld_spurned shape acts d w (Some x) q n k e h f = waits_or_spurns (kind_at shape d) n (k.offered d q h.0) e

none_held : (shape : Shape) (acts : List Act) (p d n : ℕ) (w : WaitId) (os : List Standing) → KindsKept shape acts
    → spurns (kind_at shape d) n ≡ true → AllByRecursion (OfferKnown acts d) os → 1 ≤ how_many (is_held p w) os → ⊥
none_held shape acts p d n w [] k f a h = absurd (omega arith)
none_held shape acts p d n w (o ∷ os) k f a h = ⊎_elim (λ x. none_held shape acts p d n w os k f a.1 x)
    (λ x. unheld_spurned shape acts d w o.holder o.place n k f a.0.0 x) (first_or_rest p w o os h)

spurn_stands : (shape : Shape) (acts : List Act) (p d c q n : ℕ) (w : WaitId) (s : State) → KindsKept shape acts
    → spurns (kind_at shape d) n ≡ true → AllByRecursion (OfferKnown acts d) (s.channels d).queue → Stands p w (s.channels c)
    → Stands p w ((with_queue d (spurned q (s.channels d).queue) s).channels c)
spurn_stands shape acts p d c q n w s k f a h =
    ⊎_elim (λ x. x) (λ e. cc)
    (put_stands p d c w None (record (s.channels d) { queue = spurned q (s.channels d).queue }) s
    (λ x. absurd (none_held shape acts p d n w (s.channels d).queue k f a x)) h)

-- ---- an offer is admitted

admitted_stands : (p q : ℕ) (w : WaitId) (os : List Standing) → 1 ≤ how_many (is_held p w) os → (1 ≤ how_many (is_held p w) (admitted q os))
    ⊎ (wait_of_party (holder_at q os) ≡ Some w)
admitted_stands p q w [] h = absurd (omega arith)
admitted_stands p q w (o ∷ os) h = by_test (o.place == q) (first_or_rest p w o os h) (admitted_stands p q w os)
  where
    by_first : (b : Bool) → is_held p w o ≡ b → 1 ≤ cond b 1 0 + how_many (is_held p w) os
        → (1 ≤ how_many (is_held p w) os → (1 ≤ how_many (is_held p w) (admitted q os)) ⊎ (wait_of_party (holder_at q os) ≡ Some w))
        → (1 ≤ cond (is_held p w o) 1 0 + how_many (is_held p w) (admitted q os)) ⊎ (wait_of_party (holder_at q os) ≡ Some w)
    by_first true e h k = let f : ◌≡◌ {A = ℕ} (cond (is_held p w o) 1 0) 1 = ap (λ b. cond b 1 0) e in inl (omega arith)
    by_first false e h k = ⊎_elim (λ m. inl (omega arith)) (λ f. inr f) (k (omega arith))

    by_test : (b : Bool) → (1 ≤ how_many (is_held p w) os) ⊎ (wait_of_party o.holder ≡ Some w)
        → (1 ≤ how_many (is_held p w) os → (1 ≤ how_many (is_held p w) (admitted q os)) ⊎ (wait_of_party (holder_at q os) ≡ Some w))
        → (1 ≤ how_many (is_held p w) (if b then record o { holder = None } ∷ os else o ∷ admitted q os))
        ⊎ (wait_of_party (if b then o.holder else holder_at q os) ≡ Some w)
    by_test true x k = ⊎_elim (λ m. inl (omega arith)) (λ e. inr e) x
    by_test false x k = by_first (is_held p w o) refl h k

-- ---- what comes leaves the others

offer_comes : (p : ℕ) (w : WaitId) (b : Bool) (o : Standing) (ch : Channel) → Stands p w ch → Stands p w (place_offer b o ch)
offer_comes p w false o ch h = h
offer_comes p w true o ch h = let k = how_many_push (is_held p w) ch.queue o in omega arith

receiver_comes : (p : ℕ) (w : WaitId) (b : Bool) (r : Receiver) (ch : Channel) → Stands p w ch → Stands p w (place_receiver b r ch)
receiver_comes p w false r ch h = h
receiver_comes p w true r ch h = h

act_stands : (shape : Shape) (acts : List Act) (s : State) (who : ℕ) (act : Act) → Needs shape s who act → Told acts s
    → KindsKept shape acts → (c p : ℕ) (w : WaitId) → Stands p w (s.channels c)
    → StandsOr p w (resolves s act) ((after s who act).channels c)
act_stands shape acts s who (Hand d q v) n t k c p w h = first_stands p c w (s.channels d).receivers _ s h
act_stands shape acts s who (Put d q v) n t k c p w h =
    put_stands p d c w None _ s (λ x. inl (offer_comes p w true (record { place = q; value = v; holder = None }) (s.channels d) x)) h
act_stands shape acts s who (Offer d q v u j) n t k c p w h =
    put_stands p d c w None _ s (λ x. inl (offer_comes p w (is_open (s.waits u))
    (record { place = q; value = v; holder = Some (record { wait = u; clause = j }) }) (s.channels d) x)) h
act_stands shape acts s who (Await d q u j) n t k c p w h =
    put_stands p d c w None _ s (λ x. inl (receiver_comes p w (is_open (s.waits u))
    (record { place = q; party = record { wait = u; clause = j } }) (s.channels d) x)) h
act_stands shape acts s who (Take d q v) n t k c p w h = offer_stands p d c w (s.channels d).queue _ s refl h
act_stands shape acts s who (Admit d q) n t k c p w h =
    holder_stands p c w (holder_at q (s.channels d).queue) _ (with_queue d (admitted q (s.channels d).queue) s)
    (put_stands p d c w (wait_of_party (holder_at q (s.channels d).queue))
    (record (s.channels d) { queue = admitted q (s.channels d).queue }) s (λ x. admitted_stands p q w (s.channels d).queue x) h)
act_stands shape acts s who (Drop d q v) n t k c p w h =
    inl (drop_stands shape acts p d c _ w (s.channels d).queue s k n.1 (t.known d).offers refl h)
act_stands shape acts s who (Spurn d q v) n t k c p w h = inl (spurn_stands shape acts p d c q _ w s k n.1 (t.known d).offers h)
act_stands shape acts s who (Close d v) n t k c p w h = put_stands p d c w None _ s (λ x. inl x) h
act_stands shape acts s who (Void d) n t k c p w h = put_stands p d c w None _ s (λ x. inl x) h
act_stands shape acts s who (Drain d q v) n t k c p w h = offer_stands p d c w (s.channels d).queue _ s refl h
act_stands shape acts s who (WakeClosed d q) n t k c p w h = first_stands p c w (s.channels d).receivers _ s h
act_stands shape acts s who (Withdraw u why) n t k c p w h = without_stands p w u (s.channels c) h
act_stands shape acts s who (Settle u outcome) n t k c p w h = inl h

-- ---- all acts

-- an offer whose wait is open stands
pub record OffersHeld (acts : List Act) (s : State) : Type 0 where
  pub held : (c p : ℕ) (w : WaitId) → list_any (offers c p) acts ≡ true → wait_at c p acts ≡ Some w → IsResolvedWait (s.waits w)
      ⊎ Stands p w (s.channels c)

-- the act is an Offer at this place
pub offer_of : (c p : ℕ) (act : Act) → offers c p act ≡ true → (v : ℕ) × (w : WaitId) × (k : ℕ) × (act ≡ Offer c p v w k)
offer_of c p (Offer d q v w k) e = let m = at_both c p d q e in (v, w, k, ap (λ x. Offer x q v w k) m.0 ∙ ap (λ x. Offer c x v w k) m.1)
offer_of c p other e = cc

not_open : (x : Option Wait) → is_open x ≡ false → IsResolvedWait x
not_open None e = cc
not_open (Some x) e = by_how x.resolved e
  where
    by_how : (o : Option Resolution) → is_none o ≡ false → is_some o ≡ true
    by_how None e = cc
    by_how (Some how) e = refl

held_itself : (p : ℕ) (w : WaitId) → ((p == p) && same_wait w w) ≡ true
held_itself p w = ap (λ b. b && same_wait w w) (same_number p) ∙ same_wait-refl w

offer_placed : (p v k : ℕ) (w : WaitId) (ch : Channel) → Stands p w
    (place_offer true (record { place = p; value = v; holder = Some (record { wait = w; clause = k }) }) ch)
offer_placed p v k w ch =
    let o : Standing = record { place = p; value = v; holder = Some (record { wait = w; clause = k }) } in
    let n = how_many_push (is_held p w) ch.queue o in
    let one : ◌≡◌ {A = ℕ} (cond (is_held p w o) 1 0) 1 = ap (λ b. cond b 1 0) (held_itself p w) in
    omega arith

offered_now : (who c p v k : ℕ) (w : WaitId) (s : State)
    → (IsResolvedWait (s.waits w) → IsResolvedWait ((after s who (Offer c p v w k)).waits w))
    → IsResolvedWait ((after s who (Offer c p v w k)).waits w) ⊎ Stands p w ((after s who (Offer c p v w k)).channels c)
offered_now who c p v k w s stays = by_open (is_open (s.waits w)) refl
  where
    by_open : (b : Bool) → is_open (s.waits w) ≡ b → IsResolvedWait ((after s who (Offer c p v w k)).waits w)
        ⊎ Stands p w (put_channel c (place_offer b (record { place = p; value = v; holder = Some (record { wait = w; clause = k }) })
        (s.channels c)) s.channels c)
    by_open true e = inr (subst (Stands p w) (sym (put_here c _ s.channels)) (offer_placed p v k w (s.channels c)))
    by_open false e = inl (stays (not_open (s.waits w) e))

module _ (shape : Shape) (acts : List Act) (s : State) (who : ℕ) (act : Act) (n : Needs shape s who act) (t : Told acts s)
    (kinds : KindsKept shape acts) (h : OffersHeld acts s) where
  stays : (w : WaitId) → IsResolvedWait (s.waits w) → IsResolvedWait ((after s who act).waits w)
  stays w k = always_keeps shape IsResolvedWait resolved_stays who w s act n k

  held_before : (c p : ℕ) (w : WaitId) → IsResolvedWait (s.waits w) ⊎ Stands p w (s.channels c) → IsResolvedWait ((after s who act).waits w)
      ⊎ Stands p w ((after s who act).channels c)
  held_before c p w k =
      ⊎_elim
      (λ r. inl (stays w r))
      (λ x. ⊎_elim (λ y. inr y) (λ e. inl (resolves_turns shape s who act t.stand n w e).now)
      (act_stands shape acts s who act n t kinds c p w x))
      k

  held_now : (c p : ℕ) (w : WaitId) → offers c p act ≡ true → wait_at c p (acts ++ act ∷ []) ≡ Some w
      → IsResolvedWait ((after s who act).waits w) ⊎ Stands p w ((after s who act).channels c)
  held_now c p w e f =
      let o = offer_of c p act e in
      let m : Needs shape s who (Offer c p o.0 o.1 o.2) = subst (Needs shape s who) o.3 n in
      let named : wait_at c p (acts ++ act ∷ []) ≡ Some o.1 =
      wait_placed c p acts act (s.channels c) o.1 (t.counted c p) m.1.first (ap (places_wait c p) o.3
      ∙ ap (λ b. if b then Some o.1 else None) (here c p)) in
      let same : o.1 ≡ w = cc in
      subst (λ u. IsResolvedWait ((after s who act).waits u) ⊎ Stands p u ((after s who act).channels c)) same
      (subst (λ a. IsResolvedWait ((after s who a).waits o.1) ⊎ Stands p o.1 ((after s who a).channels c)) (sym o.3)
      (offered_now who c p o.0 o.2 o.1 s (subst (λ a. IsResolvedWait (s.waits o.1)
      → IsResolvedWait ((after s who a).waits o.1)) o.3 (stays o.1))))

  held_then : (c p : ℕ) (w : WaitId) → list_any (offers c p) (acts ++ act ∷ []) ≡ true → wait_at c p (acts ++ act ∷ []) ≡ Some w
      → IsResolvedWait ((after s who act).waits w) ⊎ Stands p w ((after s who act).channels c)
  held_then c p w e f =
      ⊎_elim
      (λ old.
      let k = any_count (offers c p) acts old in
      let m = enters_count c p acts in
      held_before c p w (h.held c p w old (wait_before c p acts act w (omega arith)
      (counted_after shape acts s who act n t.counted c p).given f)))
      (λ new. held_now c p w new f)
      (any_cases (offers c p) acts act e)

  pub held_after : OffersHeld (acts ++ act ∷ []) (after s who act)
  held_after = record { held = held_then }

pub start_held : OffersHeld [] start
start_held = record { held = λ c p w e f. cc }
