-- Which act gives room to a held offer.
use Rattle.std.proofs.Common.{◌≡◌, ℕ, ◌<◌, arith, length, Bool, true, false, not, ◌&&◌, List, [], ◌∷◌, ◌++◌, filter, refl, ap, sym, ◌∙◌, subst, ⊎_elim, Option, Some, None}
use Rattle.std.specs.Prelude.{◌==◌, ◌+◌, ◌||◌, nat_lt, is_some, is_none}
use Rattle.std.specs.List.{list_any, list_all, AllByRecursion}
use Rattle.std.proofs.lemmas.Bool.{eqb-true, ltb-true, lt-ltb, not-true, or_left, or_right, or_from, or_cases, both_ways, and_from, and_left, and_right, and_cases, cases_Bool, cond_both, cond-false, false≢true}
use Rattle.std.proofs.lemmas.Bool.Decides.{nat_tests}
use Rattle.co_base.specs.declared.names.WaitId.{WaitId}
use Rattle.channel_model.specs.declared.acts.Act.{Act}
use Rattle.channel_model.specs.declared.acts.Act.TheVariants.{Hand, Put, Offer, Await, Take, Admit, Drop, Spurn, Close, Void, Drain, WakeClosed, Withdraw, Settle}
use Rattle.channel_model.specs.declared.acts.Entry.{Entry}
use Rattle.channel_model.specs.declared.acts.Kind.{Kind}
use Rattle.channel_model.specs.declared.acts.Kind.TheVariants.{Rendezvous, Buffered, Signal}
use Rattle.channel_model.specs.declared.standing.Party.{Party}
use Rattle.channel_model.specs.declared.standing.Standing.{Standing}
use Rattle.channel_model.specs.declared.standing.Receiver.{Receiver}
use Rattle.channel_model.specs.declared.standing.Resolution.{Resolution}
use Rattle.channel_model.specs.declared.standing.Resolution.TheVariants as resolved
use Rattle.channel_model.specs.Channels.{Shape, State, Channel, kind_at, is_full, suspends}
use Rattle.channel_model.specs.Effects.{after, is_open, is_elsewhere, spurned, is_held_by, admitted, place_offer, put_channel, resolve_first, resolve_holder, with_queue, remove_first, resolve_offer}
use Rattle.channel_model.specs.Needs.{Needs}
use Rattle.channel_model.specs.Owing.{owes_admission_below}
use Rattle.channel_model.specs.Histories.{replay, Legal}
use Rattle.channel_model.specs.Laws.{Ascends as ChannelAscends}
use Rattle.channel_model.proofs.InOrder.{replay_in_order}
use Rattle.channel_model.proofs.Sound.{sound}
use Rattle.script_laws.proofs.ClosedChannels.{AllBefore, or_more, all_filtered, all_admitted, by_put, receiver_queue}
use Rattle.script_grammar.proofs.Truths.{both_true}
use Rattle.script_laws.proofs.QueuesFit.{all_placed}
use Rattle.script_laws.proofs.OffersAdmitted.{held_before}
use Rattle.script_laws.proofs.OffersAdmitted.{stands_held, owes_admit, MayRaiseAdmit, AdmitIsRaised}
use Rattle.channel_model.proofs.PlacedFull.{drops_not, spurns_not}

-- all stand at places after this one
abbrev pub AllBehind : ℕ → List Standing → Type 0
AllBehind n os = AllByRecursion (λ (o : Standing). n < o.place) os

unfoldable pub Ascends : List Standing → Type 0
Ascends [] = Unit {0}
Ascends (o ∷ os) = AllBehind o.place os × Ascends os

one_full : (kind : Kind) (n : ℕ) → is_full kind (n + 1) ≡ false → is_full kind n ≡ false
one_full Rendezvous n h = cc
one_full (Buffered k) n h = grind (arith, nat_tests)
one_full Signal n h = cc
one_full other n h = refl

-- where some offer below the mark has room, there is room at the front, and the front is below the mark
pub record FrontHasRoom (kind : Kind) (m n p : ℕ) : Type 0 where
  pub room : is_full kind n ≡ false
  pub low : p < m

front : (kind : Kind) (m n p : ℕ) (os : List Standing) → AllBehind p os → owes_admission_below kind m n os ≡ true → FrontHasRoom kind m n p
front kind m n p [] h t = cc
front kind m n p (o ∷ os) h t = ⊎_elim
    (λ k. let q = both_true _ _ (both_true _ _ k).1 in record {
      room = not-true _ q.1;
      low = let low = ltb-true o.place m q.0 in let behind : p < o.place = h.0 in omega arith;
    })
    (λ k. let r = front kind m (n + 1) p os h.1 k in record { room = one_full kind n r.room; low = r.low }) (or_cases _ _ t)

filtered_owes : (kind : Kind) (m n : ℕ) (test : Standing → Bool) (os : List Standing)
    → ((o : Standing) → test o ≡ false → is_some o.holder ≡ true) → Ascends os → owes_admission_below kind m n (filter test os) ≡ true
    → owes_admission_below kind m n os ≡ true
unfolding Ascends
filtered_owes kind m n test [] only a t = t
filtered_owes kind m n test (o ∷ os) only a t =
    cond_both (test o) (o ∷ filter test os) (filter test os)
    (λ l. owes_admission_below kind m n l ≡ true → owes_admission_below kind m n (o ∷ os) ≡ true)
    (λ e u. or_more _ _ _ _ u (λ k. k) (filtered_owes kind m (n + 1) test os only a.1))
    (λ e u. let r = front kind m n o.place os a.0 (filtered_owes kind m n test os only a.1 u)
    in or_left _ _ (and_from _ _ (only o e) (and_from _ _ (lt-ltb o.place m r.low) (ap not r.room)))) t

filtered_stands : (q : ℕ) (test : Standing → Bool) (os : List Standing) → list_any (stands_held q) (filter test os) ≡ true
    → list_any (stands_held q) os ≡ true
filtered_stands q test [] t = t
filtered_stands q test (o ∷ os) t =
    cond_both (test o) (o ∷ filter test os) (filter test os)
    (λ l. list_any (stands_held q) l ≡ true → list_any (stands_held q) (o ∷ os) ≡ true)
    (λ e u. or_more _ _ _ _ u (λ k. k) (filtered_stands q test os)) (λ e u. or_right _ _ (filtered_stands q test os u)) t

-- an offer that is kept without a wait gives nobody room
admitted_owes : (kind : Kind) (m n p : ℕ) (os : List Standing) → owes_admission_below kind m n (admitted p os) ≡ true
    → owes_admission_below kind m n os ≡ true
admitted_owes kind m n p [] t = t
admitted_owes kind m n p (o ∷ os) t =
    cond_both (o.place == p) (record o { holder = None } ∷ os) (o ∷ admitted p os)
    (λ l. owes_admission_below kind m n l ≡ true → owes_admission_below kind m n (o ∷ os) ≡ true) (λ e u. or_right _ _ u)
    (λ e u. or_more _ _ _ _ u (λ k. k) (admitted_owes kind m (n + 1) p os)) t

-- a last offer that is not held, or stands at the mark or behind it, counts for nothing
last_owes : (kind : Kind) (m n : ℕ) (os : List Standing) (o : Standing) → (is_some o.holder && nat_lt o.place m) ≡ false
    → owes_admission_below kind m n (os ++ o ∷ []) ≡ owes_admission_below kind m n os
last_owes kind m n [] o h = or_from _ false (⊎_elim (λ k. and_left (is_some o.holder) _ k)
    (λ k. and_right (is_some o.holder) _ (and_left (nat_lt o.place m) _ k)) (and_cases _ _ h)) refl
last_owes kind m n (x ∷ os) o h = ap (λ b. (is_some x.holder && (nat_lt x.place m && not (is_full kind n)))
    || b) (last_owes kind m (n + 1) os o h)

last_stands : (q : ℕ) (os : List Standing) (o : Standing) → stands_held q o ≡ false
    → list_any (stands_held q) (os ++ o ∷ []) ≡ list_any (stands_held q) os
last_stands q [] o h = ap (λ b. b || false) h
last_stands q (x ∷ os) o h = ap (λ b. stands_held q x || b) (last_stands q os o h)

-- ---- laws: places ascend, and only a kind that suspends holds offers

-- nobody holds an offer
abbrev pub NoneHeld : List Standing → Type 0
NoneHeld os = AllByRecursion (λ (o : Standing). is_some o.holder ≡ false) os

-- the queue is in order, and where the kind does not suspend nobody holds an offer
pub record IsOrdered (kind : Kind) (ch : Channel) : Type 0 where
  pub ascends : Ascends ch.queue
  pub none : suspends kind ≡ false → NoneHeld ch.queue

ascends_filter : (test : Standing → Bool) (os : List Standing) → Ascends os → Ascends (filter test os)
unfolding Ascends
ascends_filter test [] h = tt
ascends_filter test (o ∷ os) h =
    let k = ascends_filter test os h.1 in
    cond_both (test o) (o ∷ filter test os) (filter test os) Ascends
    (λ e. (all_filtered (λ (x : Standing). o.place < x.place) test os h.0, k)) (λ e. k)

ascends_admitted : (p : ℕ) (os : List Standing) → Ascends os → Ascends (admitted p os)
unfolding Ascends
ascends_admitted p [] h = tt
ascends_admitted p (o ∷ os) h =
    cond_both (o.place == p) (record o { holder = None } ∷ os) (o ∷ admitted p os) Ascends (λ e. h)
    (λ e. (all_admitted (λ (x : Standing). o.place < x.place) (λ x k. k) p os h.0, ascends_admitted p os h.1))

no_stands : (q : ℕ) (os : List Standing) → NoneHeld os → list_any (stands_held q) os ≡ false
no_stands q [] h = refl
no_stands q (o ∷ os) h = or_from _ _ (and_right (o.place == q) _ h.0) (no_stands q os h.1)

-- ---- acts that give no room

-- in order still, and with no more room for a held offer
pub record Tight (kind : Kind) (a b : Channel) : Type 0 where
  pub ordered : IsOrdered kind a → IsOrdered kind b
  pub owes : (q : ℕ) → IsOrdered kind a → owes_admit kind q b ≡ true → owes_admit kind q a ≡ true

tight_same : (kind : Kind) (a : Channel) → Tight kind a a
tight_same kind a = record { ordered = λ h. h; owes = λ q h t. t }

tight_then : (kind : Kind) (a b c : Channel) → Tight kind a b → Tight kind b c → Tight kind a c
tight_then kind a b c f g = record { ordered = λ h. g.ordered (f.ordered h); owes = λ q h t. f.owes q h (g.owes q (f.ordered h) t) }

held_removed : (w : WaitId) (h : Option Party) → not (is_held_by w h) ≡ false → is_some h ≡ true
held_removed w None e = cc
held_removed w (Some p) e = refl

tight_without : (kind : Kind) (w : WaitId) (a : Channel) → Tight kind a (Rattle.channel_model.specs.Effects.without w a)
tight_without kind w a = record {
  ordered = λ h. record {
    ascends = ascends_filter (λ (o : Standing). not (is_held_by w o.holder)) a.queue h.ascends;
    none = λ s. all_filtered (λ (o : Standing). is_some o.holder ≡ false) (λ (o : Standing). not (is_held_by w o.holder)) a.queue
        (h.none s);
  };
  owes = λ q h t.
      let r = both_true _ _ t in
      and_from _ _ (filtered_stands q (λ (o : Standing). not (is_held_by w o.holder)) a.queue r.0)
      (filtered_owes kind (q + 1) 0 (λ (o : Standing). not (is_held_by w o.holder)) a.queue (λ o. held_removed w o.holder) h.ascends r.1);
}

admitted_stands : (q p : ℕ) (os : List Standing) → list_any (stands_held q) (admitted p os) ≡ true → list_any (stands_held q) os ≡ true
admitted_stands q p [] t = t
admitted_stands q p (o ∷ os) t =
    cond_both (o.place == p) (record o { holder = None } ∷ os) (o ∷ admitted p os)
    (λ l. list_any (stands_held q) l ≡ true → list_any (stands_held q) (o ∷ os) ≡ true)
    (λ e u. or_more (stands_held q (record o { holder = None })) (list_any (stands_held q) os) (stands_held q o) _ u
    (λ k. absurd (false≢true (both_true (o.place == q) false k).1)) (λ k. k))
    (λ e u. or_more _ _ _ _ u (λ k. k) (admitted_stands q p os)) t

tight_admitted : (kind : Kind) (p : ℕ) (a : Channel) → Tight kind a (record a { queue = admitted p a.queue })
tight_admitted kind p a = record {
  ordered = λ h. record {
    ascends = ascends_admitted p a.queue h.ascends;
    none = λ s. all_admitted (λ (o : Standing). is_some o.holder ≡ false) (λ o k. refl) p a.queue (h.none s);
  };
  owes = λ q h t. let r = both_true _ _ t in and_from _ _ (admitted_stands q p a.queue r.0) (admitted_owes kind (q + 1) 0 p a.queue r.1);
}

tight_first : (kind : Kind) (rs : List Receiver) (how : ℕ → Resolution) (s : State) (c : ℕ)
    → Tight kind (s.channels c) ((resolve_first rs how s).channels c)
tight_first kind [] how s c = tight_same kind (s.channels c)
tight_first kind (r ∷ rs) how s c = tight_without kind r.party.wait (s.channels c)

tight_holder : (kind : Kind) (p : Option Party) (how : ℕ → Resolution) (s : State) (c : ℕ)
    → Tight kind (s.channels c) ((resolve_holder p how s).channels c)
tight_holder kind None how s c = tight_same kind (s.channels c)
tight_holder kind (Some p) how s c = tight_without kind p.wait (s.channels c)

tight_put : (kind : Kind) (s : State) (d : ℕ) (ch : Channel) → Tight kind (s.channels d) ch → (c : ℕ)
    → Tight kind (s.channels c) (put_channel d ch s.channels c)
tight_put kind s d ch h c = cond_both (d == c) ch (s.channels c) (Tight kind (s.channels c))
    (λ e. subst (λ u. Tight kind (s.channels u) ch) (eqb-true d c e) h) (λ e. tight_same kind (s.channels c))

tight_admit : (kind : Kind) (s : State) (who d p c : ℕ) → Tight kind (s.channels c) ((after s who (Admit d p)).channels c)
tight_admit kind s who d p c = tight_then kind (s.channels c) ((with_queue d (admitted p (s.channels d).queue) s).channels c) _
    (tight_put kind s d (record (s.channels d) { queue = admitted p (s.channels d).queue }) (tight_admitted kind p (s.channels d)) c)
    (tight_holder kind _ _ (with_queue d (admitted p (s.channels d).queue) s) c)

-- ---- the laws, act by act

abbrev pub AllOrdered : Shape → State → Type 0
AllOrdered shape s = (c : ℕ) → IsOrdered (kind_at shape c) (s.channels c)

behind_of : (n m p : ℕ) (os : List Standing) → p < n → ChannelAscends (λ (o : Standing). o.place) n m os → AllBehind p os
behind_of n m p [] lt h = tt
behind_of n m p (o ∷ os) lt h = (let g = h.0 in omega arith, behind_of (o.place + 1) m p os (let g = h.0 in omega arith) h.1)

ascends_of : (n m : ℕ) (os : List Standing) → ChannelAscends (λ (o : Standing). o.place) n m os → Ascends os
unfolding Ascends
ascends_of n m [] h = tt
ascends_of n m (o ∷ os) h = (behind_of (o.place + 1) m o.place os (omega arith) h.1, ascends_of (o.place + 1) m os h.1)

none_of : (os : List Standing) → list_all (λ (o : Standing). is_none o.holder) os ≡ true → NoneHeld os
none_of [] h = tt
none_of (o ∷ os) h = let r = both_true (is_none o.holder) (list_all (λ (o : Standing). is_none o.holder) os) h
    in (not_some o.holder r.0, none_of os r.1)
  where
    not_some : (x : Option Party) → is_none x ≡ true → is_some x ≡ false
    not_some None e = refl
    not_some (Some p) e = cc

pub all_ordered : (shape : Shape) (es : List Entry) → Legal shape es → AllOrdered shape (replay es)
all_ordered shape es l = λ c. record {
  ascends = ascends_of 0 ((replay es).channels c).next ((replay es).channels c).queue (replay_in_order shape es c l).offers;
  none = λ s. none_of ((replay es).channels c).queue (((sound shape es l).channels c).kept s);
}

-- ---- which act raises it

no_holder : (q : ℕ) (o : Standing) → o.holder ≡ None → stands_held q o ≡ false
no_holder q o e = and_right (o.place == q) (is_some o.holder) (ap is_some e)

-- an offer that comes last, at another place
by_last : (kind : Kind) (q : ℕ) (b : Bool) (o : Standing) (ch : Channel) → AllBefore ch.next ch.queue → o.place ≡ ch.next
    → stands_held q o ≡ false → owes_admit kind q ch ≡ false → owes_admit kind q (place_offer b o ch) ≡ true → ⊥
by_last kind q false o ch p e n f t = both_ways (owes_admit kind q ch) f t
by_last kind q true o ch p e n f t =
    let r = both_true _ _ t in
    let stands : list_any (stands_held q) ch.queue ≡ true = sym (last_stands q ch.queue o n) ∙ r.0 in
    let low : q < ch.next = held_before q ch.next ch.queue p stands in
    let high : nat_lt o.place (q + 1) ≡ false = grind (arith, nat_tests) in
    both_ways (owes_admit kind q ch) f (and_from (list_any (stands_held q) ch.queue) (owes_admission_below kind (q + 1) 0 ch.queue) stands
    (sym (last_owes kind (q + 1) 0 ch.queue o (and_right (is_some o.holder) (nat_lt o.place (q + 1)) high)) ∙ r.1))

-- where the first offer of another channel goes
elsewhere : (shape : Shape) (s : State) (c q d : ℕ) (qs : List Standing) (how : ℕ → Resolution) → AllOrdered shape s → (d == c) ≡ false
    → owes_admit (kind_at shape c) q (s.channels c) ≡ false → owes_admit (kind_at shape c) q ((resolve_offer d qs how s).channels c) ≡ true
    → ⊥
elsewhere shape s c q d [] how h e f t = both_ways (owes_admit (kind_at shape c) q (s.channels c)) f t
elsewhere shape s c q d (o ∷ os) how h e f t =
    let same : (with_queue d os s).channels c ≡ s.channels c = cond-false (d == c) _ _ e in
    both_ways (owes_admit (kind_at shape c) q (s.channels c)) f (subst (λ x. owes_admit (kind_at shape c) q x ≡ true) same
    ((tight_holder (kind_at shape c) o.holder how (with_queue d os s) c).owes q (subst (IsOrdered (kind_at shape c)) (sym same) (h c)) t))

none_room : (kind : Kind) (q : ℕ) (ch : Channel) → NoneHeld ch.queue → owes_admit kind q ch ≡ true → ⊥
none_room kind q ch n t = both_ways (list_any (stands_held q) ch.queue) (no_stands q ch.queue n) (both_true _ _ t).0

removed_room : (shape : Shape) (s : State) (c q d : ℕ) (qs : List Standing) → (s.channels d).queue ≡ qs → NoneHeld (s.channels d).queue
    → owes_admit (kind_at shape c) q (s.channels c) ≡ false → owes_admit (kind_at shape c) q ((remove_first d qs s).channels c) ≡ true → ⊥
removed_room shape s c q d [] e n f t = both_ways (owes_admit (kind_at shape c) q (s.channels c)) f t
removed_room shape s c q d (o ∷ os) e n f t =
    let ch : Channel = record (s.channels d) { queue = os } in
    by_put ⊥ (owes_admit (kind_at shape c) q) s d c ch f t (λ k g. none_room (kind_at shape c) q ch (subst NoneHeld e n).1)

room_raised : (shape : Shape) (s : State) (who c q : ℕ) (act : Act) → ((u : ℕ) → AllBefore (s.channels u).next (s.channels u).queue)
    → AllOrdered shape s → Needs shape s who act → owes_admit (kind_at shape c) q (s.channels c) ≡ false
    → owes_admit (kind_at shape c) q ((after s who act).channels c) ≡ true → MayRaiseAdmit c q act
room_raised shape s who c q (Put d r v) p h n f t = absurd (by_put ⊥ (owes_admit (kind_at shape c) q) s d c _ f t
    (λ e g. by_last (kind_at shape c) q true (record { place = r; value = v; holder = None }) (s.channels d) (p d) n.1.first
    (no_holder q (record { place = r; value = v; holder = None }) refl) g))
room_raised shape s who c q (Offer d r v w i) p h n f t = by_put ((d ≡ c) × (r ≡ q)) (owes_admit (kind_at shape c) q) s d c _ f t
    (λ e g u. (
      e,
      ⊎_elim (eqb-true r q) (λ m. absurd (by_last (kind_at shape c) q (is_open (s.waits w))
          (record { place = r; value = v; holder = Some (record { wait = w; clause = i }) }) (s.channels d) (p d) n.1.first
          (ap (λ b. b && true) m) g u)) (cases_Bool (r == q)),
    ))
room_raised shape s who c q (Await d r w i) p h n f t = absurd (by_put ⊥ (owes_admit (kind_at shape c) q) s d c _ f t
    (λ e g u. both_ways _ g (subst (λ l. (list_any (stands_held q) l && owes_admission_below (kind_at shape c) (q + 1) 0 l) ≡ true)
    (receiver_queue (is_open (s.waits w)) _ (s.channels d)) u)))
room_raised shape s who c q (Close d v) p h n f t = absurd (by_put ⊥ (owes_admit (kind_at shape c) q) s d c _ f t (λ e. both_ways _))
room_raised shape s who c q (Void d) p h n f t = absurd (by_put ⊥ (owes_admit (kind_at shape c) q) s d c _ f t (λ e. both_ways _))
room_raised shape s who c q (Hand d r v) p h n f t = absurd
    (both_ways (owes_admit (kind_at shape c) q (s.channels c)) f
    ((tight_first (kind_at shape c) (s.channels d).receivers (λ k. resolved.Handed k v) s c).owes q (h c) t))
room_raised shape s who c q (WakeClosed d r) p h n f t =
    absurd (both_ways (owes_admit (kind_at shape c) q (s.channels c)) f ((tight_first (kind_at shape c) (s.channels d).receivers
    (λ k. resolved.Closed k (Rattle.channel_model.specs.Effects.close_value (s.channels d).closed)) s c).owes q (h c) t))
room_raised shape s who c q (Withdraw w why) p h n f t =
    absurd (both_ways (owes_admit (kind_at shape c) q (s.channels c)) f ((tight_without (kind_at shape c) w (s.channels c)).owes q (h c) t))
room_raised shape s who c q (Admit d r) p h n f t = absurd
    (both_ways (owes_admit (kind_at shape c) q (s.channels c)) f ((tight_admit (kind_at shape c) s who d r c).owes q (h c) t))
room_raised shape s who c q (Take d r v) p h n f t = ⊎_elim (eqb-true d c)
    (λ k. absurd (elsewhere shape s c q d (s.channels d).queue resolved.Taken h k f t)) (cases_Bool (d == c))
room_raised shape s who c q (Drain d r v) p h n f t = ⊎_elim (eqb-true d c)
    (λ k. absurd (elsewhere shape s c q d (s.channels d).queue (λ i. resolved.Voided) h k f t)) (cases_Bool (d == c))
room_raised shape s who c q (Drop d r v) p h n f t = absurd
    (removed_room shape s c q d (s.channels d).queue refl ((h d).none (drops_not (kind_at shape d) (length (s.channels d).queue) n.1)) f t)
room_raised shape s who c q (Spurn d r v) p h n f t =
    let ch : Channel = record (s.channels d) { queue = spurned r (s.channels d).queue } in
    let none = all_filtered (λ (o : Standing). is_some o.holder ≡ false) (is_elsewhere r) (s.channels d).queue
    ((h d).none (spurns_not (kind_at shape d) (s.stood d r) n.1)) in
    absurd (by_put ⊥ (owes_admit (kind_at shape c) q) s d c ch f t (λ e g. none_room (kind_at shape c) q ch none))
room_raised shape s who c q (Settle w outcome) p h n f t = absurd (both_ways (owes_admit (kind_at shape c) q (s.channels c)) f t)

pub admit_is_raised : AdmitIsRaised
admit_is_raised shape es who c q act l n f t = room_raised shape (replay es) who c q act (all_placed shape es l) (all_ordered shape es l) n
    f t
