-- At the end of a run no channel has more elements than its kind keeps.
use Rattle.std.proofs.Common.{◌≡◌, ℕ, zero, suc, ◌<◌, ◌≤◌, arith, length, Bool, true, false, ◌&&◌, List, [], ◌∷◌, ◌++◌, refl, ap, sym, ◌∙◌, subst, None}
use Rattle.std.specs.Prelude.{◌==◌, ◌+◌, nat_le, nat_lt, cond}
use Rattle.std.proofs.lemmas.Bool.{eqb-true, both_ways, and_from, and_right, false_from_ne_true}
use Rattle.std.proofs.lemmas.Bool.Decides.{nat_tests}
use Rattle.channel_model.specs.declared.acts.Act.{Act}
use Rattle.channel_model.specs.declared.acts.Act.TheVariants.{Put, Offer, Await, Close, Void}
use Rattle.channel_model.specs.declared.acts.Entry.{Entry}
use Rattle.channel_model.specs.declared.acts.Kind.{Kind}
use Rattle.channel_model.specs.declared.acts.Kind.TheVariants.{Rendezvous, Conflated, DropOldest}
use Rattle.channel_model.specs.declared.standing.Standing.{Standing}
use Rattle.channel_model.specs.Channels.{Shape, State, Channel, kind_at, drops, suspends}
use Rattle.channel_model.specs.Effects.{after, is_open, place_offer}
use Rattle.channel_model.specs.Needs.{Needs}
use Rattle.channel_model.specs.Owing.{offers_up_to}
use Rattle.channel_model.specs.Histories.{replay, Legal}
use Rattle.channel_model.specs.Laws.{Ascends}
use Rattle.channel_model.proofs.InOrder.{replay_in_order}
use Rattle.job_model.specs.declared.acts.JobEntry.{JobEntry}
use Rattle.note_book.specs.declared.book.Item.{Item}
use Rattle.call_meaning.specs.Telling.{Told, FitsUpTo}
use Rattle.script_grammar.specs.Programs.{Program}
use Rattle.script_meaning.specs.Shapes.{floor_shape}
use Rattle.script_meaning.specs.Books.{BooksOf}
use Rattle.script_meaning.proofs.Debts.{part}
use Rattle.script_meaning.proofs.ActsFollowed.{Follows}
use Rattle.script_meaning.proofs.ChannelStories.{who_did, deed}
use Rattle.script_laws.proofs.ChannelDebts.{CallDebt, BehindOf, CallPaidAt, by_fact, nobody_owes, needs_there}
use Rattle.script_laws.proofs.ClosedChannels.{Less, AllBefore, less_after, by_put, receiver_queue}
use Rattle.script_grammar.proofs.Truths.{both_true}

-- place q was given out, and up to it more elements stand than the kind keeps
abbrev pub owes_drop : Kind → ℕ → Channel → Bool
owes_drop kind q ch = nat_lt q ch.next && drops kind (offers_up_to q ch.queue)

abbrev pub IsPutAt : ℕ → ℕ → Act → Type 0
IsPutAt c q (Put d r v) = (d ≡ c) × (r ≡ q)
IsPutAt c q other = ⊥

-- ---- all offers stand at places that were given out

abbrev pub IsPlaced : Channel → Type 0
IsPlaced ch = AllBefore ch.next ch.queue

abbrev pub AllPlaced : State → Type 0
AllPlaced s = (c : ℕ) → IsPlaced (s.channels c)

-- numbers that ascend and lie below m are below it
low : (n m : ℕ) (os : List Standing) → Ascends (λ (o : Standing). o.place) n m os → n ≤ m
low n m [] h = h
low n m (o ∷ os) h = let k = low (o.place + 1) m os h.1 in let g = h.0 in omega arith

ascending_before : (n m : ℕ) (os : List Standing) → Ascends (λ (o : Standing). o.place) n m os → AllBefore m os
ascending_before n m [] h = tt
ascending_before n m (o ∷ os) h = (let k = low (o.place + 1) m os h.1 in omega arith, ascending_before (o.place + 1) m os h.1)

pub all_placed : (shape : Shape) (es : List Entry) → Legal shape es → AllPlaced (replay es)
all_placed shape es l = λ c. ascending_before 0 ((replay es).channels c).next ((replay es).channels c).queue
    (replay_in_order shape es c l).offers

-- ---- kinds

fewer_drop : (kind : Kind) (m n : ℕ) → m ≤ n → drops kind m ≡ true → drops kind n ≡ true
fewer_drop Conflated m n h d = grind (arith, nat_tests)
fewer_drop (DropOldest k) m n h d = grind (arith, nat_tests)
fewer_drop other m n h d = cc

none_drops : (kind : Kind) → drops kind 0 ≡ true → ⊥
none_drops (DropOldest k) d = grind (arith, nat_tests)
none_drops other d = cc

waiting_keeps : (kind : Kind) (n : ℕ) → suspends kind ≡ true → drops kind n ≡ true → ⊥
waiting_keeps Rendezvous n s d = cc
waiting_keeps other n s d = cc

-- ---- which act raises it

drop_by_less : (kind : Kind) (q : ℕ) (a b : Channel) → Less a b → owes_drop kind q a ≡ false → owes_drop kind q b ≡ true → ⊥
drop_by_less kind q a b h f t =
    let r = both_true (nat_lt q b.next) (drops kind (offers_up_to q b.queue)) t in
    both_ways (owes_drop kind q a) f (and_from (nat_lt q a.next) (drops kind (offers_up_to q a.queue)) (ap (λ n. nat_lt q n) (sym h.next)
    ∙ r.0) (fewer_drop kind (offers_up_to q b.queue) (offers_up_to q a.queue) (h.up_to q) r.1))

last_up_to : (q : ℕ) (os : List Standing) (o : Standing) → nat_le o.place q ≡ false → offers_up_to q (os ++ o ∷ []) ≡ offers_up_to q os
last_up_to q [] o h = ap (λ b. cond b 1 0 + 0) h
last_up_to q (x ∷ os) o h = ap (λ n. cond (nat_le x.place q) 1 0 + n) (last_up_to q os o h)

put_there : (kind : Kind) (q : ℕ) (o : Standing) (ch : Channel) → o.place ≡ ch.next → owes_drop kind q ch ≡ false
    → owes_drop kind q (place_offer true o ch) ≡ true → o.place ≡ q
put_there kind q o ch e f t = at (o.place == q) refl
  where
    parts : (nat_lt q (ch.next + 1) ≡ true) × (drops kind (offers_up_to q (ch.queue ++ o ∷ [])) ≡ true)
    parts = both_true (nat_lt q (ch.next + 1)) (drops kind (offers_up_to q (ch.queue ++ o ∷ []))) t

    at : (b : Bool) → (o.place == q) ≡ b → o.place ≡ q
    at true h = eqb-true o.place q h
    at false h =
        let first : nat_lt q (ch.next + 1) ≡ true = parts.0 in
        let low : nat_lt q ch.next ≡ true = grind (arith, nat_tests) in
        let high : nat_le o.place q ≡ false = grind (arith, nat_tests) in
        absurd (both_ways (owes_drop kind q ch) f (and_from (nat_lt q ch.next) (drops kind (offers_up_to q ch.queue)) low
        (ap (λ n. drops kind n) (sym (last_up_to q ch.queue o high)) ∙ parts.1)))

drop_raised : (shape : Shape) (s : State) (who c q : ℕ) (act : Act) → Needs shape s who act
    → owes_drop (kind_at shape c) q (s.channels c) ≡ false → owes_drop (kind_at shape c) q ((after s who act).channels c) ≡ true
    → IsPutAt c q act
drop_raised shape s who c q (Put d r v) n f t = by_put ((d ≡ c) × (r ≡ q)) (owes_drop (kind_at shape c) q) s d c _ f t
    (λ e g h. (e, put_there (kind_at shape c) q (record { place = r; value = v; holder = None }) (s.channels d) n.1.first g h))
drop_raised shape s who c q (Offer d r v w k) n f t = absurd (by_put ⊥ (owes_drop (kind_at shape c) q) s d c _ f t
    (λ e g h. waiting_keeps (kind_at shape c) _ (subst (λ u. suspends (kind_at shape u) ≡ true) e n.3) (both_true _ _ h).1))
drop_raised shape s who c q (Await d r w k) n f t = absurd (by_put ⊥ (owes_drop (kind_at shape c) q) s d c _ f t
    (λ e g h. none_drops (kind_at shape c) (subst (λ l. drops (kind_at shape c) (offers_up_to q l) ≡ true)
    (receiver_queue (is_open (s.waits w)) _ (s.channels d) ∙ n.2) (both_true _ _ h).1)))
drop_raised shape s who c q (Close d v) n f t = absurd (by_put ⊥ (owes_drop (kind_at shape c) q) s d c _ f t (λ e. both_ways _))
drop_raised shape s who c q (Void d) n f t = absurd (by_put ⊥ (owes_drop (kind_at shape c) q) s d c _ f t (λ e. both_ways _))
drop_raised shape s who c q other n f t = absurd (drop_by_less (kind_at shape c) q (s.channels c) _ (less_after s who other refl c) f t)

drop_pays : (shape : Shape) (channels : List Entry) (c q k : ℕ) (act : Act) (before : List Entry) (ys : List Told)
    → BehindOf shape k channels before act ys → IsPutAt c q act → Follows act ys
    → CallPaidAt shape k (λ s. owes_drop (kind_at shape c) q (s.channels c)) (IsPutAt c q) channels (part who_did deed k before ++ act ∷ [])
drop_pays shape channels c q k (Put d r v) before ys b e f =
    by_fact shape channels (λ s. owes_drop (kind_at shape c) q (s.channels c)) (IsPutAt c q) k (FitsUpTo d r)
    (λ s h. and_right (nat_lt q (s.channels c).next) _ (subst (λ u. drops (kind_at shape c) (offers_up_to u (s.channels c).queue) ≡ false)
    e.1
    (subst (λ u. drops (kind_at shape u) (offers_up_to r (s.channels u).queue) ≡ false) e.0 h))) before (Put d r v) ys b f.0
drop_pays shape channels c q k other before ys b e f = absurd e

drops_none : (kind : Kind) → drops kind 0 ≡ false
drops_none kind = false_from_ne_true (drops kind 0) (none_drops kind)

drop_debt : (shape : Shape) (channels : List Entry) → Legal shape channels → (c q : ℕ) → CallDebt shape channels
drop_debt shape channels l c q = record {
  owes = λ s. owes_drop (kind_at shape c) q (s.channels c);
  Raises = IsPutAt c q;
  first = and_right (nat_lt q 0) (drops (kind_at shape c) 0) (drops_none (kind_at shape c));
  rises = λ before e rest parts f t. drop_raised shape (replay before) e.who c q e.act (needs_there shape channels before e rest l parts) f
      t;
  pays = λ k before e rest ys parts mine owed behind r f. drop_pays shape channels c q k e.act before ys behind r f;
}

-- ---- at the end

all_up_to : (n : ℕ) (os : List Standing) → AllBefore (suc n) os → offers_up_to n os ≡ length os
all_up_to n [] h = refl
all_up_to n (o ∷ os) h =
    let rest = all_up_to n os h.1 in
    let low : o.place < suc n = h.0 in
    let here : nat_le o.place n ≡ true = grind (arith, nat_tests) in
    ap (λ b. cond b 1 0 + offers_up_to n os) here ∙ omega arith

none_placed : (os : List Standing) → AllBefore 0 os → os ≡ []
none_placed [] h = refl
none_placed (o ∷ os) h = absurd (let k : o.place < 0 = h.0 in omega arith)

fits : (kind : Kind) (ch : Channel) → IsPlaced ch → ((q : ℕ) → owes_drop kind q ch ≡ false) → drops kind (length ch.queue) ≡ false
fits kind ch placed free = at ch.next refl
  where
    at : (n : ℕ) → ch.next ≡ n → drops kind (length ch.queue) ≡ false
    at zero e = false_from_ne_true (drops kind (length ch.queue)) (λ d. none_drops kind
        (subst (λ l. drops kind (length l) ≡ true) (none_placed ch.queue (subst (λ n. AllBefore n ch.queue) e placed)) d))
    at (suc n) e =
        let all : offers_up_to n ch.queue ≡ length ch.queue = all_up_to n ch.queue (subst (λ m. AllBefore m ch.queue) e placed) in
        let given : nat_lt n ch.next ≡ true = grind (arith, nat_tests) in
        false_from_ne_true (drops kind (length ch.queue)) (λ d. both_ways (owes_drop kind n ch) (free n)
        (and_from (nat_lt n ch.next) (drops kind (offers_up_to n ch.queue)) given (ap (λ m. drops kind m) all ∙ d)))

abbrev pub FitsAtEnd : Type 0
FitsAtEnd = (p : Program) (books : List (List Item)) (channels : List Entry) (jobs : List JobEntry) → BooksOf p books channels jobs
    → (c : ℕ) → drops (kind_at (floor_shape p) c) (length ((replay channels).channels c).queue) ≡ false

-- each queue fits at the end of a run
pub fits_at_end : FitsAtEnd
unfolding drop_debt
fits_at_end p books channels jobs of c = fits (kind_at (floor_shape p) c) ((replay channels).channels c)
    (all_placed (floor_shape p) channels of.legal_channels c)
    (λ q. nobody_owes p books channels jobs of (drop_debt (floor_shape p) channels of.legal_channels c q))
