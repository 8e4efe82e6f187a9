-- A wait has the name of a place that was given out.
use Rattle.std.specs.Prelude.{◌≡◌, ℕ, ◌+◌, ◌<◌, ◌≤◌, ◌==◌, Bool, true, false, List, [], ◌∷◌, Option, Some, None, refl, if◌then◌else◌, MatchBool, ◌⊎◌}
use Rattle.std.proofs.Common.{sym, ap, ◌∙◌, subst, arith, inl, inr, ⊎_elim}
use Rattle.std.proofs.lemmas.Bool.{cases_lt}
use Rattle.std.proofs.lemmas.Bool.{eqb-true}
use Rattle.std.proofs.lemmas.Bool.Decides.{nat_tests}
use Rattle.co_base.specs.declared.names.WaitId.{WaitId}
use Rattle.channel_model.specs.declared.acts.Act.{Act}
use Rattle.channel_model.specs.declared.acts.Act.TheVariants.{Put, Offer, Await, Take, Admit, Drop, Spurn, Close, Void, Drain, Withdraw, Settle}
use Rattle.channel_model.specs.declared.acts.Entry.{Entry}
use Rattle.channel_model.specs.declared.standing.Party.{Party}
use Rattle.channel_model.specs.declared.standing.Standing.{Standing}
use Rattle.channel_model.specs.declared.standing.Receiver.{Receiver}
use Rattle.channel_model.specs.declared.standing.Resolution.{Resolution}
use Rattle.channel_model.specs.Channels.{Shape, State, Channel, Wait, same_wait, start, places_at}
use Rattle.channel_model.specs.Effects.{after, resolve, resolve_first, resolve_holder, resolve_offer, remove_first, with_queue, put_wait, put_channel, resolved_wait, name_clause, settled_wait, is_open, place_offer, place_receiver, holder_at}
use Rattle.channel_model.specs.Needs.{Needs, HasPlace, MayName, JoinsWait}
use Rattle.channel_model.specs.Histories.{replay, replay_from, Legal, LegalFrom}
use Rattle.channel_model.proofs.Waits.{same_wait-eq, put_none}

-- no wait has a place that was not given out
abbrev pub Placed : State → Type 0
Placed s = (v : WaitId) → (s.channels v.channel).next ≤ v.place → s.waits v ≡ None

pub same_number : (n : ℕ) → (n == n) ≡ true
same_number n = grind (arith, nat_tests)

-- waits that a change leaves away where they are away
pub record Grows (s t : State) : Type 0 where
  pub counts : (c : ℕ) → (s.channels c).next ≤ (t.channels c).next
  pub absent : (v : WaitId) → s.waits v ≡ None → t.waits v ≡ None

grown : (s t : State) → Grows s t → Placed s → Placed t
grown s t g h v le = g.absent v (h v (let k = g.counts v.channel in omega arith))

grows_then : (s t u : State) → Grows s t → Grows t u → Grows s u
grows_then s t u g h = record {
  counts = λ c. let k = g.counts c in let l = h.counts c
      in omega arith;
  absent = λ v e. h.absent v (g.absent v e);
}

resolve_grows : (w : WaitId) (how : Resolution) (s : State) → Grows s (resolve w how s)
resolve_grows w how s = record { counts = λ c. omega arith; absent = λ v e. put_none s.waits w v (resolved_wait how) refl e }

first_grows : (rs : List Receiver) (how : ℕ → Resolution) (s : State) → Grows s (resolve_first rs how s)
first_grows [] how s = record { counts = λ c. omega arith; absent = λ v e. e }
first_grows (r ∷ rs) how s = resolve_grows r.party.wait (how r.party.clause) s

holder_grows : (p : Option Party) (how : ℕ → Resolution) (s : State) → Grows s (resolve_holder p how s)
holder_grows None how s = record { counts = λ c. omega arith; absent = λ v e. e }
holder_grows (Some p) how s = resolve_grows p.wait (how p.clause) s

put_grows : (s : State) (c : ℕ) (ch : Channel) → (s.channels c).next ≤ ch.next
    → Grows s (record s { channels = put_channel c ch s.channels })
put_grows s c ch le = record { counts = λ d. by_test d (c == d) refl; absent = λ v e. e }
  where
    by_test : (d : ℕ) (b : Bool) → (c == d) ≡ b → (s.channels d).next ≤ (if b then ch else s.channels d).next
    by_test d true e = subst (λ n. (s.channels n).next ≤ ch.next) (eqb-true c d e) le
    by_test d false e = omega arith

removed_grows : (s : State) (c : ℕ) (q : List Standing) → Grows s (remove_first c q s)
removed_grows s c [] = record { counts = λ c. omega arith; absent = λ v e. e }
removed_grows s c (o ∷ os) = put_grows s c (record (s.channels c) { queue = os }) (omega arith)

received_grows : (s : State) (c : ℕ) (q : List Standing) (how : ℕ → Resolution) → Grows s (resolve_offer c q how s)
received_grows s c [] how = record { counts = λ c. omega arith; absent = λ v e. e }
received_grows s c (o ∷ os) how =
    grows_then s (with_queue c os s) (resolve_holder o.holder how (with_queue c os s))
    (put_grows s c (record (s.channels c) { queue = os }) (omega arith)) (holder_grows o.holder how (with_queue c os s))

offer_next : (b : Bool) (o : Standing) (ch : Channel) → (place_offer b o ch).next ≡ ch.next + 1
offer_next true o ch = refl
offer_next false o ch = refl

receiver_next : (b : Bool) (r : Receiver) (ch : Channel) → (place_receiver b r ch).next ≡ ch.next + 1
receiver_next true r ch = refl
receiver_next false r ch = refl

-- the wait that is named has a place
named_place : (who k c p : ℕ) (w : WaitId) (s : State) (b : Bool) → same_wait w (record { channel = c; place = p }) ≡ b
    → MatchBool b (k ≤ 7) (JoinsWait who k c (s.waits w)) → Placed s → p ≡ (s.channels c).next
    → (w ≡ record { channel = c; place = p }) ⊎ (w.place < (s.channels w.channel).next)
named_place who k c p w s true e m h is = inl (same_wait-eq w _ e)
named_place who k c p w s false e m h is = inr (there (s.waits w) refl m)
  where
    there : (x : Option Wait) → s.waits w ≡ x → JoinsWait who k c x → w.place < (s.channels w.channel).next
    there None e m = absurd m
    there (Some x) e m = ⊎_elim (λ lt. lt) (λ le. let n : s.waits w ≡ None = h w le in cc) (cases_lt w.place (s.channels w.channel).next)

-- after a place was given out, with a clause named
named_placed : (who k c p places : ℕ) (w : WaitId) (s : State) (ch : Channel) → Placed s → HasPlace places p (s.channels c)
    → MayName who k c p w s → ch.next ≡ (s.channels c).next + 1
    → Placed (record s { channels = put_channel c ch s.channels; waits = put_wait w (name_clause who k c (s.waits w)) s.waits })
named_placed who k c p places w s ch h place may e v le = by_test (same_wait w v) refl
  where
    mono : (d : ℕ) → (s.channels d).next ≤ (put_channel c ch s.channels d).next
    mono d = (put_grows s c ch (omega (arith, e))).counts d

    here : (put_channel c ch s.channels c).next ≡ (s.channels c).next + 1
    here = ap (λ b. (if b then ch else s.channels c).next) (same_number c) ∙ e

    at_w : (put_channel c ch s.channels w.channel).next ≤ w.place → ⊥
    at_w le = ⊎_elim
        (λ q. let l : (put_channel c ch s.channels c).next ≤ p =
        subst (λ (u : WaitId). (put_channel c ch s.channels u.channel).next ≤ u.place) q le in omega (arith, here, place.first))
        (λ lt. let m = mono w.channel in omega arith)
        (named_place who k c p w s (same_wait w (record { channel = c; place = p })) refl may h place.first)

    by_test : (b : Bool) → same_wait w v ≡ b → (if b then name_clause who k c (s.waits w) else s.waits v) ≡ None
    by_test true t =
        absurd (at_w (subst (λ (u : WaitId). (put_channel c ch s.channels u.channel).next ≤ u.place) (sym (same_wait-eq w v t)) le))
    by_test false t = h v (let m = mono v.channel in omega arith)

pub placed_after : (shape : Shape) (s : State) (who : ℕ) (act : Act) → Needs shape s who act → Placed s → Placed (after s who act)
placed_after shape s who (Put c p v) n h = grown s _ (put_grows s c _ (omega arith)) h
placed_after shape s who (Offer c p v w k) n h = named_placed who k c p (places_at shape c) w s _ h n.1 n.4
    (offer_next (is_open (s.waits w)) _ (s.channels c))
placed_after shape s who (Await c p w k) n h = named_placed who k c p (places_at shape c) w s _ h n.1 n.3
    (receiver_next (is_open (s.waits w)) _ (s.channels c))
placed_after shape s who (Take c p v) n h = grown s _ (received_grows s c (s.channels c).queue _) h
placed_after shape s who (Admit c p) n h = grown s _ (grows_then s _ _ (put_grows s c _ (omega arith))
    (holder_grows (holder_at p (s.channels c).queue) _ _)) h
placed_after shape s who (Drop c p v) n h = grown s _ (removed_grows s c (s.channels c).queue) h
placed_after shape s who (Spurn c p v) n h = grown s _ (put_grows s c _ (omega arith)) h
placed_after shape s who (Close c v) n h = grown s _ (put_grows s c _ (omega arith)) h
placed_after shape s who (Void c) n h = grown s _ (put_grows s c _ (omega arith)) h
placed_after shape s who (Drain c p v) n h = grown s _ (received_grows s c (s.channels c).queue _) h
placed_after shape s who (Withdraw w why) n h = grown s _ (resolve_grows w _ s) h
placed_after shape s who (Settle w outcome) n h = grown s (record s { waits = put_wait w (settled_wait outcome (s.waits w)) s.waits })
    (record { counts = λ c. omega arith; absent = λ v e. put_none s.waits w v (settled_wait outcome) refl e }) h
placed_after shape s who other n h = grown s _ (first_grows _ _ s) h

from_placed : (shape : Shape) (s : State) (es : List Entry) → LegalFrom shape s es → Placed s → Placed (replay_from s es)
unfolding LegalFrom replay_from
from_placed shape s [] l h = h
from_placed shape s (e ∷ es) l h = from_placed shape (after s e.who e.act) es l.1 (placed_after shape s e.who e.act l.0 h)

pub start_placed : Placed start
start_placed v le = refl

pub replay_placed : (shape : Shape) (es : List Entry) → Legal shape es → Placed (replay es)
replay_placed shape es l = from_placed shape start es l start_placed
