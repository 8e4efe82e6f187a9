-- At the end of a run no receiver stands on a closed channel, and no offer on a voided one.
use Rattle.script_grammar.proofs.Truths.{both_true}
use Rattle.std.proofs.Common.{◌≡◌, ℕ, ◌<◌, ◌≤◌, arith, Bool, true, false, not, ◌&&◌, List, [], ◌∷◌, ◌++◌, filter, refl, ap, sym, ◌∙◌, subst, ⊎_elim, Option, Some, None}
use Rattle.std.specs.Prelude.{◌==◌, ◌||◌, ◌+◌, is_some}
use Rattle.std.specs.List.{AllByRecursion}
use Rattle.std.proofs.lemmas.Bool.{eqb-true, or_left, or_right, or_cases, both_ways, and_from, and_right, cond_both}
use Rattle.co_base.specs.declared.names.WaitId.{WaitId}
use Rattle.channel_model.specs.declared.acts.Act.{Act}
use Rattle.channel_model.specs.declared.acts.Act.TheVariants.{Hand, Put, Offer, Await, Take, Admit, Drop, Spurn, Close, Void, Drain, WakeClosed, Withdraw, Settle}
use Rattle.channel_model.specs.declared.acts.Entry.{Entry}
use Rattle.channel_model.specs.declared.acts.Kind.{Kind}
use Rattle.channel_model.specs.declared.standing.Party.{Party}
use Rattle.channel_model.specs.declared.standing.Standing.{Standing}
use Rattle.channel_model.specs.declared.standing.Receiver.{Receiver}
use Rattle.channel_model.specs.declared.standing.Resolution.{Resolution}
use Rattle.channel_model.specs.declared.standing.Resolution.TheVariants as resolved
use Rattle.channel_model.specs.Channels.{Shape, State, Channel, same_wait, spurns}
use Rattle.channel_model.specs.Effects.{after, put_channel, is_held_by, resolve, resolve_first, resolve_holder, resolve_offer, remove_first, with_queue, admitted, is_open, place_offer, place_receiver, is_elsewhere, spurned}
use Rattle.channel_model.specs.Needs.{Needs}
use Rattle.channel_model.specs.Histories.{replay, Legal}
use Rattle.channel_model.proofs.Sound.{sound}
use Rattle.channel_model.specs.Owing.{stands_any, owes_spurn_at, offers_up_to}
use Rattle.job_model.specs.declared.acts.JobEntry.{JobEntry}
use Rattle.note_book.specs.declared.book.Item.{Item}
use Rattle.call_meaning.specs.Telling.{Told, NoReceiver, NothingQueued}
use Rattle.script_grammar.specs.Programs.{Program}
use Rattle.script_meaning.specs.Shapes.{floor_shape}
use Rattle.script_meaning.specs.Books.{BooksOf}
use Rattle.script_meaning.proofs.Debts.{part}
use Rattle.script_meaning.proofs.ActsFollowed.{Follows}
use Rattle.script_meaning.proofs.ChannelStories.{who_did, deed}
use Rattle.script_laws.proofs.ChannelDebts.{CallDebt, BehindOf, CallPaidAt, by_fact, nobody_owes, needs_there, legal_before}
use Rattle.channel_model.proofs.Stood.{spurns_more}

-- ---- what most acts do to a channel: who stands there may go

-- all stand at places before this one
abbrev pub AllBefore : ℕ → List Standing → Type 0
AllBefore n os = AllByRecursion (λ (o : Standing). o.place < n) os

-- one of two tests passes, if one of two that imply them does
pub or_more : (a b c d : Bool) → (a || b) ≡ true → (a ≡ true → c ≡ true) → (b ≡ true → d ≡ true) → (c || d) ≡ true
or_more a b c d e f g = ⊎_elim (λ h. or_left c d (f h)) (λ h. or_right c d (g h)) (or_cases a b e)

-- what holds of all offers holds of those that pass a test
pub all_filtered : (P : Standing → Type 0) (test : Standing → Bool) (os : List Standing) → AllByRecursion P os
    → AllByRecursion P (filter test os)
all_filtered P test [] h = tt
all_filtered P test (o ∷ os) h = cond_both (test o) (o ∷ filter test os) (filter test os) (AllByRecursion P)
    (λ e. (h.0, all_filtered P test os h.1)) (λ e. all_filtered P test os h.1)

-- and behind an admission, if it holds of an offer whose holder may go
pub all_admitted : (P : Standing → Type 0) → ((o : Standing) → P o → P (record o { holder = None })) → (p : ℕ) (os : List Standing)
    → AllByRecursion P os → AllByRecursion P (admitted p os)
all_admitted P f p [] h = tt
all_admitted P f p (o ∷ os) h = cond_both (o.place == p) (record o { holder = None } ∷ os) (o ∷ admitted p os) (AllByRecursion P)
    (λ e. (f o h.0, h.1)) (λ e. (h.0, all_admitted P f p os h.1))

pub filtered_up_to : (test : Standing → Bool) (q : ℕ) (os : List Standing) → offers_up_to q (filter test os) ≤ offers_up_to q os
filtered_up_to test q [] = omega arith
filtered_up_to test q (o ∷ os) =
    let h = filtered_up_to test q os in
    cond_both (test o) (o ∷ filter test os) (filter test os) (λ l. offers_up_to q l ≤ offers_up_to q (o ∷ os)) (λ e. omega arith)
    (λ e. omega arith)

admitted_up_to : (p q : ℕ) (os : List Standing) → offers_up_to q (admitted p os) ≤ offers_up_to q os
admitted_up_to p q [] = omega arith
admitted_up_to p q (o ∷ os) =
    let h = admitted_up_to p q os in
    cond_both (o.place == p) (record o { holder = None } ∷ os) (o ∷ admitted p os) (λ l. offers_up_to q l ≤ offers_up_to q (o ∷ os))
    (λ e. omega arith) (λ e. omega arith)

-- ---- elements that are too many for a kind that does not keep its latest

-- with more offers before the list, no fewer are too many
pub more_owes : (kind : Kind) (q m n : ℕ) (os : List Standing) → m ≤ n → owes_spurn_at kind q m os ≡ true → owes_spurn_at kind q n os ≡ true
more_owes kind q m n [] h e = cc
more_owes kind q m n (o ∷ os) h e = or_more _ _ _ _ e
    (λ k. let both = both_true _ _ k in and_from _ _ both.0 (spurns_more kind m n h both.1))
    (more_owes kind q (m + 1) (n + 1) os (omega (arith, h)))

filtered_owes : (test : Standing → Bool) (kind : Kind) (q m n : ℕ) (os : List Standing) → m ≤ n
    → owes_spurn_at kind q m (filter test os) ≡ true → owes_spurn_at kind q n os ≡ true
filtered_owes test kind q m n [] h e = cc
filtered_owes test kind q m n (o ∷ os) h e =
    cond_both (test o) (o ∷ filter test os) (filter test os)
    (λ l. owes_spurn_at kind q m l ≡ true → owes_spurn_at kind q n (o ∷ os) ≡ true)
    (λ t u. or_more _ _ _ _ u (λ k. let both = both_true _ _ k in and_from _ _ both.0 (spurns_more kind m n h both.1))
    (filtered_owes test kind q (m + 1) (n + 1) os (omega (arith, h))))
    (λ t u. or_right _ _ (filtered_owes test kind q m (n + 1) os (omega (arith, h)) u)) e

admitted_owes : (p : ℕ) (kind : Kind) (q n : ℕ) (os : List Standing) → owes_spurn_at kind q n (admitted p os) ≡ owes_spurn_at kind q n os
admitted_owes p kind q n [] = refl
admitted_owes p kind q n (o ∷ os) =
    cond_both (o.place == p) (record o { holder = None } ∷ os) (o ∷ admitted p os)
    (λ l. owes_spurn_at kind q n l ≡ owes_spurn_at kind q n (o ∷ os)) (λ e. refl)
    (λ e. ap (λ (x : Bool). ((o.place == q) && spurns kind n) || x) (admitted_owes p kind q (n + 1) os))

rest_owes : (qs : List Standing) (o : Standing) (os : List Standing) (kind : Kind) (q m n : ℕ) → qs ≡ o ∷ os → m ≤ n
    → owes_spurn_at kind q m os ≡ true → owes_spurn_at kind q n qs ≡ true
rest_owes qs o os kind q m n e h t = subst (λ l. owes_spurn_at kind q n l ≡ true) (sym e)
    (or_right ((o.place == q) && spurns kind n) _ (more_owes kind q m (n + 1) os (omega (arith, h)) t))

pub record Less (a b : Channel) : Type 0 where
  pub closed : b.closed ≡ a.closed
  pub voided : b.voided ≡ a.voided
  pub receivers : stands_any b.receivers ≡ true → stands_any a.receivers ≡ true
  pub queue : stands_any b.queue ≡ true → stands_any a.queue ≡ true
  pub next : b.next ≡ a.next
  pub up_to : (q : ℕ) → offers_up_to q b.queue ≤ offers_up_to q a.queue
  pub places : (n : ℕ) → AllBefore n a.queue → AllBefore n b.queue
  pub spurn : (kind : Kind) (q m n : ℕ) → m ≤ n → owes_spurn_at kind q m b.queue ≡ true → owes_spurn_at kind q n a.queue ≡ true

abbrev pub AllLess : State → State → Type 0
AllLess s t = (c : ℕ) → Less (s.channels c) (t.channels c)

pub less_same : (a : Channel) → Less a a
less_same a = record {
  closed = refl;
  voided = refl;
  receivers = λ h. h;
  queue = λ h. h;
  next = refl;
  up_to = λ q. omega arith;
  places =
      λ n h. h;
  spurn = λ kind q m n h e. more_owes kind q m n a.queue h e;
}

less_then : (s t u : State) → AllLess s t → AllLess t u → AllLess s u
less_then s t u f g = λ c. record {
  closed = (g c).closed ∙ (f c).closed;
  voided = (g c).voided
      ∙ (f c).voided;
  receivers = λ h. (f c).receivers ((g c).receivers h);
  queue = λ h. (f c).queue ((g c).queue h);
  next = (g c).next
      ∙ (f c).next;
  up_to = λ q. let a = (f c).up_to q in let b = (g c).up_to q
      in omega arith;
  places = λ n h. (g c).places n ((f c).places n h);
  spurn =
      λ kind q m n h e. (f c).spurn kind q n n (omega arith) ((g c).spurn kind q m n h e);
}

fewer : {A : Type 0} (test : A → Bool) (xs : List A) → stands_any (filter test xs) ≡ true → stands_any xs ≡ true
fewer test [] h = h
fewer test (x ∷ xs) h = refl

less_put : (s : State) (c : ℕ) (ch : Channel) → Less (s.channels c) ch → AllLess s (record s { channels = put_channel c ch s.channels })
less_put s c ch h = λ d. cond_both (c == d) ch (s.channels d) (Less (s.channels d))
    (λ e. subst (λ n. Less (s.channels n) ch) (eqb-true c d e) h) (λ e. less_same (s.channels d))

less_resolve : (w : WaitId) (how : Resolution) (s : State) → AllLess s (resolve w how s)
less_resolve w how s = λ c. record {
  closed = refl;
  voided = refl;
  receivers =
      λ h. fewer (λ (r : Receiver). not (same_wait w r.party.wait)) (s.channels c).receivers h;
  queue =
      λ h. fewer (λ (o : Standing). not (is_held_by w o.holder)) (s.channels c).queue h;
  next = refl;
  up_to =
      λ q. filtered_up_to (λ (o : Standing). not (is_held_by w o.holder)) q (s.channels c).queue;
  places =
      λ n h. all_filtered (λ (o : Standing). o.place < n) (λ (o : Standing). not (is_held_by w o.holder)) (s.channels c).queue h;
  spurn =
      λ kind q m n h e. filtered_owes (λ (o : Standing). not (is_held_by w o.holder)) kind q m n (s.channels c).queue h e;
}

less_first : (rs : List Receiver) (how : ℕ → Resolution) (s : State) → AllLess s (resolve_first rs how s)
less_first [] how s = λ c. less_same (s.channels c)
less_first (r ∷ rs) how s = less_resolve r.party.wait (how r.party.clause) s

less_holder : (p : Option Party) (how : ℕ → Resolution) (s : State) → AllLess s (resolve_holder p how s)
less_holder None how s = λ c. less_same (s.channels c)
less_holder (Some p) how s = less_resolve p.wait (how p.clause) s

less_queue : (c : ℕ) (os : List Standing) (s : State) → (stands_any os ≡ true → stands_any (s.channels c).queue ≡ true)
    → ((q : ℕ) → offers_up_to q os ≤ offers_up_to q (s.channels c).queue) → ((n : ℕ) → AllBefore n (s.channels c).queue → AllBefore n os)
    → ((kind : Kind) (q m n : ℕ) → m ≤ n → owes_spurn_at kind q m os ≡ true → owes_spurn_at kind q n (s.channels c).queue ≡ true)
    → AllLess s (with_queue c os s)
less_queue c os s h u b l = less_put s c (record (s.channels c) { queue = os })
    (record { closed = refl; voided = refl; receivers = λ h. h; queue = h; next = refl; up_to = u; places = b; spurn = l })

some_stands : (q : List Standing) (o : Standing) (os : List Standing) → q ≡ o ∷ os → stands_any q ≡ true
some_stands q o os e = ap stands_any e

rest_up_to : (qs : List Standing) (o : Standing) (os : List Standing) (q : ℕ) → qs ≡ o ∷ os → offers_up_to q os ≤ offers_up_to q qs
rest_up_to qs o os q e = subst (λ l. offers_up_to q os ≤ offers_up_to q l) (sym e) (omega arith)

less_rest : (c : ℕ) (o : Standing) (os : List Standing) (s : State) → (s.channels c).queue ≡ o ∷ os → AllLess s (with_queue c os s)
less_rest c o os s e = less_queue c os s (λ h. some_stands (s.channels c).queue o os e) (λ q. rest_up_to (s.channels c).queue o os q e)
    (λ n h. (subst (AllBefore n) e h).1) (λ kind q m n h t. rest_owes (s.channels c).queue o os kind q m n e h t)

less_offer : (c : ℕ) (q : List Standing) (how : ℕ → Resolution) (s : State) → (s.channels c).queue ≡ q → AllLess s (resolve_offer c q how s)
less_offer c [] how s e = λ d. less_same (s.channels d)
less_offer c (o ∷ os) how s e = less_then s (with_queue c os s) (resolve_holder o.holder how (with_queue c os s)) (less_rest c o os s e)
    (less_holder o.holder how (with_queue c os s))

less_removed : (c : ℕ) (q : List Standing) (s : State) → (s.channels c).queue ≡ q → AllLess s (remove_first c q s)
less_removed c [] s e = λ d. less_same (s.channels d)
less_removed c (o ∷ os) s e = less_rest c o os s e

still_stand : (q : ℕ) (os : List Standing) → stands_any (admitted q os) ≡ true → stands_any os ≡ true
still_stand q [] h = h
still_stand q (o ∷ os) h = refl

abbrev pub is_lessening : Act → Bool
is_lessening (Put c q v) = false
is_lessening (Offer c q v w n) = false
is_lessening (Await c q w n) = false
is_lessening (Close c v) = false
is_lessening (Void c) = false
is_lessening other = true

pub less_after : (s : State) (who : ℕ) (act : Act) → is_lessening act ≡ true → AllLess s (after s who act)
less_after s who (Hand c p v) h = less_first (s.channels c).receivers _ s
less_after s who (Take c p v) h = less_offer c (s.channels c).queue _ s refl
less_after s who (Admit c p) h = less_then s (with_queue c (admitted p (s.channels c).queue) s) (after s who (Admit c p))
    (less_queue c (admitted p (s.channels c).queue) s (λ h. still_stand p (s.channels c).queue h)
    (λ q. admitted_up_to p q (s.channels c).queue) (λ n h. all_admitted (λ (o : Standing). o.place < n) (λ o k. k) p (s.channels c).queue h)
    (λ kind q m n h e. more_owes kind q m n (s.channels c).queue h (sym (admitted_owes p kind q m (s.channels c).queue) ∙ e)))
    (less_holder _ _ (with_queue c (admitted p (s.channels c).queue) s))
less_after s who (Drop c p v) h = less_removed c (s.channels c).queue s refl
less_after s who (Spurn c p v) h = less_queue c (spurned p (s.channels c).queue) s (λ h. fewer (is_elsewhere p) (s.channels c).queue h)
    (λ q. filtered_up_to (is_elsewhere p) q (s.channels c).queue)
    (λ n h. all_filtered (λ (o : Standing). o.place < n) (is_elsewhere p) (s.channels c).queue h)
    (λ kind q m n h e. filtered_owes (is_elsewhere p) kind q m n (s.channels c).queue h e)
less_after s who (Drain c p v) h = less_offer c (s.channels c).queue _ s refl
less_after s who (WakeClosed c p) h = less_first (s.channels c).receivers _ s
less_after s who (Withdraw w why) h = less_resolve w (resolved.Withdrawn why) s
less_after s who (Settle w outcome) h = λ c. less_same (s.channels c)
less_after s who other h = cc

-- ---- what a change of one channel raises

-- it is owed by this channel, which did not owe it
pub by_put : (A : Type 0) (owes : Channel → Bool) (s : State) (d c : ℕ) (ch : Channel) → owes (s.channels c) ≡ false
    → owes (put_channel d ch s.channels c) ≡ true → (d ≡ c → owes (s.channels d) ≡ false → owes ch ≡ true → A) → A
by_put A owes s d c ch f t k = cond_both (d == c) ch (s.channels c) (λ x. owes x ≡ true → A)
    (λ e. let same = eqb-true d c e in k same (subst (λ n. owes (s.channels n) ≡ false) (sym same) f))
    (λ e u. absurd (both_ways (owes (s.channels c)) f u)) t

-- a receiver that is placed leaves the queue as it is
pub receiver_queue : (b : Bool) (r : Receiver) (ch : Channel) → (place_receiver b r ch).queue ≡ ch.queue
receiver_queue true r ch = refl
receiver_queue false r ch = refl

-- ---- receivers of closed channels

abbrev pub keeps_receivers : Channel → Bool
keeps_receivers ch = is_some ch.closed && stands_any ch.receivers

abbrev pub owes_close : ℕ → State → Bool
owes_close c s = keeps_receivers (s.channels c)

abbrev pub IsCloseOf : ℕ → Act → Type 0
IsCloseOf c (Close d v) = d ≡ c
IsCloseOf c other = ⊥

by_less : (a b : Channel) → Less a b → keeps_receivers a ≡ false → keeps_receivers b ≡ true → ⊥
by_less a b h f t =
    let q = both_true (is_some b.closed) (stands_any b.receivers) t in
    both_ways (keeps_receivers a) f (and_from (is_some a.closed) (stands_any a.receivers) (sym (ap is_some h.closed)
    ∙ q.0) (h.receivers q.1))

same_receivers : (b : Bool) (o : Standing) (ch : Channel) → keeps_receivers (place_offer b o ch) ≡ keeps_receivers ch
same_receivers true o ch = refl
same_receivers false o ch = refl

none_closed : (b : Bool) (r : Receiver) (ch : Channel) → ch.closed ≡ None → keeps_receivers (place_receiver b r ch) ≡ false
none_closed true r ch e = ap (λ (x : Option ℕ). is_some x && stands_any (ch.receivers ++ r ∷ [])) e
none_closed false r ch e = ap (λ (x : Option ℕ). is_some x && stands_any ch.receivers) e

close_raised : (shape : Shape) (s : State) (who c : ℕ) (act : Act) → Needs shape s who act → owes_close c s ≡ false
    → owes_close c (after s who act) ≡ true → IsCloseOf c act
close_raised shape s who c (Put d q v) n f t = absurd (by_put ⊥ keeps_receivers s d c _ f t (λ e. both_ways _))
close_raised shape s who c (Offer d q v w k) n f t = absurd (by_put ⊥ keeps_receivers s d c _ f t
    (λ e g h. both_ways _ g (sym (same_receivers (is_open (s.waits w)) _ (s.channels d)) ∙ h)))
close_raised shape s who c (Await d q w k) n f t = absurd (by_put ⊥ keeps_receivers s d c _ f t
    (λ e g. both_ways _ (none_closed (is_open (s.waits w)) _ (s.channels d) n.1.open_now)))
close_raised shape s who c (Close d v) n f t = by_put (d ≡ c) keeps_receivers s d c _ f t (λ e g h. e)
close_raised shape s who c (Void d) n f t = absurd (by_put ⊥ keeps_receivers s d c _ f t (λ e. both_ways _))
close_raised shape s who c other n f t = absurd (by_less (s.channels c) _ (less_after s who other refl c) f t)

none_receives : (c : ℕ) (s : State) → (s.channels c).receivers ≡ [] → owes_close c s ≡ false
none_receives c s e = and_right (is_some (s.channels c).closed) (stands_any (s.channels c).receivers) (ap stands_any e)

close_pays : (shape : Shape) (channels : List Entry) (c k : ℕ) (act : Act) (before : List Entry) (ys : List Told)
    → BehindOf shape k channels before act ys → IsCloseOf c act → Follows act ys
    → CallPaidAt shape k (owes_close c) (IsCloseOf c) channels (part who_did deed k before ++ act ∷ [])
close_pays shape channels c k (Close d v) before ys b e f =
    by_fact shape channels (owes_close c) (IsCloseOf c) k (NoReceiver d)
    (λ s h. none_receives c s (subst (λ n. (s.channels n).receivers ≡ []) e h)) before (Close d v) ys b f
close_pays shape channels c k other before ys b e f = absurd e

close_debt : (shape : Shape) (channels : List Entry) → Legal shape channels → (c : ℕ) → CallDebt shape channels
close_debt shape channels l c = record {
  owes = owes_close c;
  Raises = IsCloseOf c;
  first = refl;
  rises = λ before e rest parts f t. close_raised shape (replay before) e.who c e.act (needs_there shape channels before e rest l parts) f
      t;
  pays = λ k before e rest ys parts mine owed behind r f. close_pays shape channels c k e.act before ys behind r f;
}

-- none stands on a closed channel
pub no_receiver_waits : (p : Program) (books : List (List Item)) (channels : List Entry) (jobs : List JobEntry)
    → BooksOf p books channels jobs → (c : ℕ) → (is_some ((replay channels).channels c).closed
    && stands_any ((replay channels).channels c).receivers) ≡ false
unfolding close_debt
no_receiver_waits p books channels jobs of c = nobody_owes p books channels jobs of
    (close_debt (floor_shape p) channels of.legal_channels c)

-- ---- offers on voided channels

abbrev pub keeps_offers : Channel → Bool
keeps_offers ch = ch.voided && stands_any ch.queue

abbrev pub owes_void : ℕ → State → Bool
owes_void c s = keeps_offers (s.channels c)

abbrev pub IsVoidOf : ℕ → Act → Type 0
IsVoidOf c (Void d) = d ≡ c
IsVoidOf c other = ⊥

-- a voided channel is closed
abbrev pub ClosedIfVoided : State → Type 0
ClosedIfVoided s = (c : ℕ) → (s.channels c).voided ≡ true → is_some (s.channels c).closed ≡ true

abbrev pub IsFit : Channel → Type 0
IsFit ch = ch.voided ≡ true → is_some ch.closed ≡ true

pub closed_if_voided : (shape : Shape) (es : List Entry) → Legal shape es → ClosedIfVoided (replay es)
closed_if_voided shape es l = λ c v. at v ((replay es).channels c).closed (((sound shape es l).channels c).voided)
  where
    at : {b : Bool} → b ≡ true → (o : Option ℕ) → (o ≡ None → b ≡ false) → is_some o ≡ true
    at v None h = let f = h refl in cc
    at v (Some x) h = refl

queue_by_less : (a b : Channel) → Less a b → keeps_offers a ≡ false → keeps_offers b ≡ true → ⊥
queue_by_less a b h f t =
    let q = both_true b.voided (stands_any b.queue) t in
    both_ways (keeps_offers a) f (and_from a.voided (stands_any a.queue) (sym h.voided ∙ q.0) (h.queue q.1))

open_not_voided : (ch : Channel) (y : Bool) → IsFit ch → ch.closed ≡ None → (ch.voided && y) ≡ true → ⊥
open_not_voided ch y f e h = both_ways (is_some ch.closed) (ap is_some e) (f (both_true ch.voided y h).0)

none_offered : (b : Bool) (o : Standing) (ch : Channel) → IsFit ch → ch.closed ≡ None → keeps_offers (place_offer b o ch) ≡ true → ⊥
none_offered true o ch = open_not_voided ch _
none_offered false o ch = open_not_voided ch _

none_awaited : (b : Bool) (r : Receiver) (ch : Channel) → IsFit ch → ch.closed ≡ None → keeps_offers (place_receiver b r ch) ≡ true → ⊥
none_awaited true r ch = open_not_voided ch _
none_awaited false r ch = open_not_voided ch _

void_raised : (shape : Shape) (s : State) (who c : ℕ) (act : Act) → ClosedIfVoided s → Needs shape s who act → owes_void c s ≡ false
    → owes_void c (after s who act) ≡ true → IsVoidOf c act
void_raised shape s who c (Put d q v) fit n f t = absurd (by_put ⊥ keeps_offers s d c _ f t
    (λ e g. none_offered true _ (s.channels d) (fit d) n.1.open_now))
void_raised shape s who c (Offer d q v w k) fit n f t = absurd (by_put ⊥ keeps_offers s d c _ f t
    (λ e g. none_offered (is_open (s.waits w)) _ (s.channels d) (fit d) n.1.open_now))
void_raised shape s who c (Await d q w k) fit n f t = absurd (by_put ⊥ keeps_offers s d c _ f t
    (λ e g. none_awaited (is_open (s.waits w)) _ (s.channels d) (fit d) n.1.open_now))
void_raised shape s who c (Close d v) fit n f t = absurd (by_put ⊥ keeps_offers s d c _ f t (λ e. both_ways _))
void_raised shape s who c (Void d) fit n f t = by_put (d ≡ c) keeps_offers s d c _ f t (λ e g h. e)
void_raised shape s who c other fit n f t = absurd (queue_by_less (s.channels c) _ (less_after s who other refl c) f t)

none_queued : (c : ℕ) (s : State) → (s.channels c).queue ≡ [] → owes_void c s ≡ false
none_queued c s e = and_right (s.channels c).voided (stands_any (s.channels c).queue) (ap stands_any e)

void_pays : (shape : Shape) (channels : List Entry) (c k : ℕ) (act : Act) (before : List Entry) (ys : List Told)
    → BehindOf shape k channels before act ys → IsVoidOf c act → Follows act ys
    → CallPaidAt shape k (owes_void c) (IsVoidOf c) channels (part who_did deed k before ++ act ∷ [])
void_pays shape channels c k (Void d) before ys b e f =
    by_fact shape channels (owes_void c) (IsVoidOf c) k (NothingQueued d)
    (λ s h. none_queued c s (subst (λ n. (s.channels n).queue ≡ []) e h)) before (Void d) ys b f
void_pays shape channels c k other before ys b e f = absurd e

void_debt : (shape : Shape) (channels : List Entry) → Legal shape channels → (c : ℕ) → CallDebt shape channels
void_debt shape channels l c = record {
  owes = owes_void c;
  Raises = IsVoidOf c;
  first = refl;
  rises = λ before e rest parts f t. void_raised shape (replay before) e.who c e.act
      (closed_if_voided shape before (legal_before shape channels before e rest l parts)) (needs_there shape channels before e rest l parts)
      f t;
  pays = λ k before e rest ys parts mine owed behind r f. void_pays shape channels c k e.act before ys behind r f;
}

-- nothing is queued on one
pub no_offer_is_left : (p : Program) (books : List (List Item)) (channels : List Entry) (jobs : List JobEntry)
    → BooksOf p books channels jobs → (c : ℕ) → (((replay channels).channels c).voided && stands_any ((replay channels).channels c).queue) ≡
    false
unfolding void_debt
no_offer_is_left p books channels jobs of c = nobody_owes p books channels jobs of (void_debt (floor_shape p) channels of.legal_channels c)
