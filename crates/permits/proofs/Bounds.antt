-- A coroutine gets at most two permits for each place, so that their number fits.
use Rattle.std.specs.Prelude.{◌≡◌, ℕ, zero, suc, ◌+◌, ◌*◌, ◌<◌, ◌≤◌, ◌==◌, nat_lt, Bool, true, false, not, ◌&&◌, ◌||◌, cond, List, [], ◌∷◌, ◌++◌, filter, length, Option, Some, None, refl, if◌then◌else◌}
use Rattle.std.specs.List.{list_all}
use Rattle.std.proofs.Common.{ap, ◌∙◌, subst, arith, ⊎_elim}
use Rattle.std.proofs.lemmas.Bool.{eqb-true, cases_lt}
use Rattle.std.proofs.lemmas.Bool.Decides.{nat_tests}
use Rattle.co_base.specs.declared.names.WaitId.{WaitId}
use Rattle.channel_model.specs.declared.acts.Act.{Act}
use Rattle.channel_model.specs.declared.acts.Act.TheVariants.{Hand, Put, Offer, Await, Take, Admit, Drop, Spurn, Close, Void, Drain, WakeClosed, Withdraw, Settle}
use Rattle.channel_model.specs.declared.acts.Entry.{Entry}
use Rattle.channel_model.specs.declared.acts.Settled.{Settled}
use Rattle.channel_model.specs.declared.standing.Party.{Party}
use Rattle.channel_model.specs.declared.standing.Standing.{Standing}
use Rattle.channel_model.specs.declared.standing.Receiver.{Receiver}
use Rattle.channel_model.specs.declared.standing.Resolution.{Resolution}
use Rattle.channel_model.specs.declared.standing.Resolution.TheVariants as resolved
use Rattle.channel_model.specs.Channels.{Shape, State, Channel, Wait, start, IsShape}
use Rattle.channel_model.specs.Effects.{after, resolve, resolve_first, resolve_holder, resolve_offer, remove_first, with_queue, put_channel, put_wait, name_clause, admitted, holder_at, is_open, is_held_by, place_offer, place_receiver, is_elsewhere, spurned}
use Rattle.channel_model.specs.Needs.{Needs, MaySettle, IsFirstOffer}
use Rattle.channel_model.specs.Histories.{replay, replay_from, Legal, LegalFrom, acts_of, acts_in}
use Rattle.channel_model.specs.Laws.{how_many, one_if, settles, settlements_of}
use Rattle.channel_model.proofs.Placed.{Placed, placed_after, start_placed}
use Rattle.channel_model.proofs.Elements.{all_first, all_rest, all_more}
use Rattle.channel_model.proofs.OneEntry.{settlements_of_bound}
use Rattle.channel_model.proofs.Sound.{sound, given_keeps}
use Rattle.channel_model.proofs.EveryAct.{after_keeps}
use Rattle.permits.specs.Parts.{gets_permit, brings_element, got}
use Rattle.permits.specs.Sums.{sum_of}
use Rattle.permits.proofs.Sums.{sum_plus, sum_same, sum_most, sum_one}

abbrev one : Bool → ℕ
one b = cond b 1 0

-- ---- takes

abbrev takes_on : ℕ → Act → Bool
takes_on c (Take d p v) = d == c
takes_on c other = false

-- the places that were given out grow by what was taken and what stands more
abbrev Sheds : ℕ → ℕ → State → State → Type 0
Sheds c t s u = t + (length (u.channels c).queue + (s.channels c).next) ≤ length (s.channels c).queue + (u.channels c).next

sheds_on : (c t r : ℕ) (s u v : State) → Sheds c t s u → Sheds c r u v → Sheds c (t + r) s v
sheds_on c t r s u v h k = omega arith

filter_less : {X : Type 0} (p : X → Bool) (xs : List X) → length (filter p xs) ≤ length xs
filter_less p [] = omega arith
filter_less p (x ∷ xs) = by_test (p x) (filter_less p xs)
  where
    by_test : (b : Bool) → length (filter p xs) ≤ length xs → length (cond b (x ∷ filter p xs) (filter p xs)) ≤ length (x ∷ xs)
    by_test true h = omega arith
    by_test false h = omega arith

resolve_sheds : (c : ℕ) (w : WaitId) (how : Resolution) (s : State) → Sheds c 0 s (resolve w how s)
resolve_sheds c w how s = let k = filter_less (λ (o : Standing). not (is_held_by w o.holder)) (s.channels c).queue in omega arith

first_sheds : (c : ℕ) (rs : List Receiver) (how : ℕ → Resolution) (s : State) → Sheds c 0 s (resolve_first rs how s)
first_sheds c [] how s = omega arith
first_sheds c (r ∷ rs) how s = resolve_sheds c r.party.wait (how r.party.clause) s

holder_sheds : (c : ℕ) (p : Option Party) (how : ℕ → Resolution) (s : State) → Sheds c 0 s (resolve_holder p how s)
holder_sheds c None how s = omega arith
holder_sheds c (Some p) how s = resolve_sheds c p.wait (how p.clause) s

-- a channel is put that shed so much
put_sheds : (c d t : ℕ) (ch : Channel) (s : State) (waits : WaitId → Option Wait)
    → t + (length ch.queue + (s.channels d).next) ≤ length (s.channels d).queue + ch.next
    → Sheds c (cond (d == c) t 0) s (record { channels = put_channel d ch s.channels; waits = waits; stood = s.stood })
put_sheds c d t ch s waits h = by_test (d == c) refl
  where
    by_test : (b : Bool) → (d == c) ≡ b → cond b t 0 + (length (if b then ch else s.channels c).queue + (s.channels c).next) ≤ length
        (s.channels c).queue + (if b then ch else s.channels c).next
    by_test true e = subst (λ n. t + (length ch.queue + (s.channels n).next) ≤ length (s.channels n).queue + ch.next) (eqb-true d c e) h
    by_test false e = omega arith

none_of : (b : Bool) → cond b 0 0 ≡ (let n : ℕ = 0 in n)
none_of true = refl
none_of false = refl

put_keeps : (c d : ℕ) (ch : Channel) (s : State) (waits : WaitId → Option Wait)
    → length ch.queue + (s.channels d).next ≤ length (s.channels d).queue + ch.next
    → Sheds c 0 s (record { channels = put_channel d ch s.channels; waits = waits; stood = s.stood })
put_keeps c d ch s waits h = let k = put_sheds c d 0 ch s waits (omega (arith, h)) in let z = none_of (d == c) in omega arith

offer_grows : (b : Bool) (o : Standing) (ch : Channel) → length (place_offer b o ch).queue + ch.next ≤ length ch.queue +
    (place_offer b o ch).next
offer_grows true o ch = let k = pushed ch.queue in omega arith
  where
    pushed : (os : List Standing) → length (os ++ o ∷ []) ≡ length os + 1
    pushed [] = refl
    pushed (x ∷ os) = let k = pushed os in omega arith
offer_grows false o ch = omega arith

receiver_grows : (b : Bool) (r : Receiver) (ch : Channel)
    → length (place_receiver b r ch).queue + ch.next ≤ length ch.queue + (place_receiver b r ch).next
receiver_grows true r ch = omega arith
receiver_grows false r ch = omega arith

popped : (o : Standing) (os q : List Standing) → q ≡ o ∷ os → length q ≡ length os + 1
popped o os q e = ap length e ∙ (let k : length (o ∷ os) ≡ length os + 1 = omega arith in k)

offer_sheds : (c d : ℕ) (q : List Standing) (how : ℕ → Resolution) (s : State) → (s.channels d).queue ≡ q
    → Sheds c 0 s (resolve_offer d q how s)
offer_sheds c d [] how s e = omega arith
offer_sheds c d (o ∷ os) how s e =
    sheds_on c 0 0 s (with_queue d os s) (resolve_holder o.holder how (with_queue d os s))
    (put_keeps c d (record (s.channels d) { queue = os }) s s.waits (let k = popped o os (s.channels d).queue e in omega arith))
    (holder_sheds c o.holder how (with_queue d os s))

take_sheds : (c d p v : ℕ) (q : List Standing) (how : ℕ → Resolution) (s : State) → (s.channels d).queue ≡ q → IsFirstOffer p v q
    → Sheds c (one (d == c)) s (resolve_offer d q how s)
take_sheds c d p v [] how s e first = absurd first
take_sheds c d p v (o ∷ os) how s e first =
    let a = put_sheds c d 1 (record (s.channels d) { queue = os }) s s.waits (let k = popped o os (s.channels d).queue e in omega arith) in
    let b = holder_sheds c o.holder how (with_queue d os s) in
    omega arith

removed_sheds : (c d : ℕ) (q : List Standing) (s : State) → (s.channels d).queue ≡ q → Sheds c 0 s (remove_first d q s)
removed_sheds c d [] s e = omega arith
removed_sheds c d (o ∷ os) s e = put_keeps c d (record (s.channels d) { queue = os }) s s.waits (let k = popped o os (s.channels d).queue e
    in omega arith)

fewer_stand : (test : Standing → Bool) (os : List Standing) → length (filter test os) ≤ length os
fewer_stand test [] = omega arith
fewer_stand test (o ∷ os) = by_test (test o) (fewer_stand test os)
  where
    by_test : (b : Bool) → length (filter test os) ≤ length os → length (if b then o ∷ filter test os else filter test os) ≤ length (o ∷ os)
    by_test true h = omega arith
    by_test false h = omega arith

same_length : (p : ℕ) (os : List Standing) → length (admitted p os) ≡ length os
same_length p [] = refl
same_length p (o ∷ os) = by_test (o.place == p) (same_length p os)
  where
    by_test : (b : Bool) → length (admitted p os) ≡ length os
        → length (if b then record o { holder = None } ∷ os else o ∷ admitted p os) ≡ length (o ∷ os)
    by_test true h = omega arith
    by_test false h = omega arith

after_sheds : (shape : Shape) (c : ℕ) (s : State) (who : ℕ) (act : Act) → Needs shape s who act
    → Sheds c (one (takes_on c act)) s (after s who act)
after_sheds shape c s who (Hand d p v) n = first_sheds c (s.channels d).receivers _ s
after_sheds shape c s who (Put d p v) n = put_keeps c d _ s s.waits
    (offer_grows true (record { place = p; value = v; holder = None }) (s.channels d))
after_sheds shape c s who (Offer d p v w k) n = put_keeps c d _ s (put_wait w (name_clause who k d (s.waits w)) s.waits)
    (offer_grows (is_open (s.waits w)) (record { place = p; value = v; holder = Some (record { wait = w; clause = k }) }) (s.channels d))
after_sheds shape c s who (Await d p w k) n = put_keeps c d _ s (put_wait w (name_clause who k d (s.waits w)) s.waits)
    (receiver_grows (is_open (s.waits w)) (record { place = p; party = record { wait = w; clause = k } }) (s.channels d))
after_sheds shape c s who (Take d p v) n = take_sheds c d p v (s.channels d).queue resolved.Taken s refl n.1
after_sheds shape c s who (Admit d p) n =
    sheds_on c 0 0 s (with_queue d (admitted p (s.channels d).queue) s)
    (resolve_holder (holder_at p (s.channels d).queue) resolved.Admitted (with_queue d (admitted p (s.channels d).queue) s))
    (put_keeps c d (record (s.channels d) { queue = admitted p (s.channels d).queue }) s s.waits
    (let k = same_length p (s.channels d).queue in omega arith)) (holder_sheds c (holder_at p (s.channels d).queue) resolved.Admitted _)
after_sheds shape c s who (Drop d p v) n = removed_sheds c d (s.channels d).queue s refl
after_sheds shape c s who (Spurn d p v) n = put_keeps c d (record (s.channels d) { queue = spurned p (s.channels d).queue }) s s.waits
    (let k = fewer_stand (is_elsewhere p) (s.channels d).queue in omega arith)
after_sheds shape c s who (Close d v) n = put_keeps c d _ s s.waits (omega arith)
after_sheds shape c s who (Void d) n = put_keeps c d _ s s.waits (omega arith)
after_sheds shape c s who (Drain d p v) n = offer_sheds c d (s.channels d).queue (λ k. resolved.Voided) s refl
after_sheds shape c s who (WakeClosed d p) n = first_sheds c (s.channels d).receivers _ s
after_sheds shape c s who (Withdraw w why) n = resolve_sheds c w (resolved.Withdrawn why) s
after_sheds shape c s who (Settle w outcome) n = omega arith

takes_from : (shape : Shape) (c : ℕ) (s : State) (es : List Entry) → LegalFrom shape s es
    → Sheds c (how_many (takes_on c) (acts_in es)) s (replay_from s es)
unfolding LegalFrom replay_from
takes_from shape c s [] l = omega arith
takes_from shape c s (e ∷ es) l =
    let a = after_sheds shape c s e.who e.act l.0 in
    let b = takes_from shape c (after s e.who e.act) es l.1 in
    omega arith

-- ---- settlements

abbrev settles_on : ℕ → Act → Bool
settles_on c (Settle w outcome) = w.channel == c
settles_on c other = false

abbrev settles_below : ℕ → ℕ → Act → Bool
settles_below c m (Settle w outcome) = not (w.channel == c) || nat_lt w.place m
settles_below c m other = true

wait_below : (s : State) (w : WaitId) (who : ℕ) (outcome : Settled) → Placed s → MaySettle who outcome (s.waits w)
    → w.place < (s.channels w.channel).next
wait_below s w who outcome h m = ⊎_elim (λ lt. lt) (λ le. absurd (gone (s.waits w) (h w le) m))
    (cases_lt w.place (s.channels w.channel).next)
  where
    gone : (x : Option Wait) → x ≡ None → MaySettle who outcome x → ⊥
    gone None e m = m
    gone (Some x) e m = cc

next_grows : (shape : Shape) (c : ℕ) (s : State) (es : List Entry) → LegalFrom shape s es
    → (s.channels c).next ≤ ((replay_from s es).channels c).next
unfolding LegalFrom replay_from
next_grows shape c s [] l = omega arith
next_grows shape c s (e ∷ es) l =
    let a : (s.channels c).next ≤ ((after s e.who e.act).channels c).next =
    after_keeps shape (λ d ch. (s.channels c).next ≤ ch.next) (given_keeps shape (s.channels c).next) s e.who e.act c l.0 (omega arith)
    in
    let b = next_grows shape c (after s e.who e.act) es l.1 in
    omega arith

act_below : (c m : ℕ) (shape : Shape) (s : State) (who : ℕ) (act : Act) → Placed s → Needs shape s who act → (s.channels c).next ≤ m
    → settles_below c m act ≡ true
act_below c m shape s who (Settle w outcome) h n le = by_test (w.channel == c) refl
  where
    by_test : (b : Bool) → (w.channel == c) ≡ b → (not b || nat_lt w.place m) ≡ true
    by_test true e =
        let lt : w.place < (s.channels c).next = subst (λ k. w.place < (s.channels k).next) (eqb-true w.channel c e)
        (wait_below s w who outcome h n) in
        grind (arith, nat_tests)
    by_test false e = refl
act_below c m shape s who other h n le = refl

settled_below : (shape : Shape) (c m : ℕ) (s : State) (es : List Entry) → LegalFrom shape s es → Placed s
    → ((replay_from s es).channels c).next ≤ m → list_all (settles_below c m) (acts_in es) ≡ true
unfolding LegalFrom replay_from
settled_below shape c m s [] l h le = refl
settled_below shape c m s (e ∷ es) l h le =
    all_more (settles_below c m) e.act (acts_in es)
    (act_below c m shape s e.who e.act h l.0 (let k = next_grows shape c s (e ∷ es) l in omega arith))
    (settled_below shape c m (after s e.who e.act) es l.1 (placed_after shape s e.who e.act l.0 h) le)

abbrev wait_of : ℕ → ℕ → WaitId
wait_of c p = record { channel = c; place = p }

zeros : (m : ℕ) → sum_of m (λ p. 0) ≡ 0
unfolding sum_of
zeros zero = refl
zeros (suc m) = let k = zeros m in omega arith

one_settled : (c m : ℕ) (act : Act) → settles_below c m act ≡ true
    → sum_of m (λ p. one_if (wait_of c p) (settles act)) ≡ one (settles_on c act)
one_settled c m (Settle w outcome) h = by_test (w.channel == c) refl h
  where
    below_one : nat_lt w.place m ≡ true → w.place < m
    below_one h = grind (arith, nat_tests)

    same : (p : ℕ) → (w.channel == c) ≡ true → one_if (wait_of c p) (Some w) ≡ cond (w.place == p) 1 0
    same p e =
        let a : (c == w.channel) ≡ true = grind (arith, nat_tests) in
        let b : (p == w.place) ≡ (w.place == p) = grind (arith, nat_tests) in
        ap (λ x. if x && (p == w.place) then 1 else 0) a ∙ ap (λ x. if x then 1 else 0) b ∙ as_cond (w.place == p)
      where
        as_cond : (x : Bool) → (if x then 1 else 0) ≡ one x
        as_cond true = refl
        as_cond false = refl

    other : (p : ℕ) → (w.channel == c) ≡ false → one_if (wait_of c p) (Some w) ≡ 0
    other p e = let a : (c == w.channel) ≡ false = grind (arith, nat_tests) in ap (λ x. if x && (p == w.place) then 1 else 0) a

    by_test : (b : Bool) → (w.channel == c) ≡ b → (not b || nat_lt w.place m) ≡ true → sum_of m (λ p. one_if (wait_of c p) (Some w)) ≡ one b
    by_test true e h = sum_same m _ _ (λ p. same p e) ∙ sum_one m w.place 1 (below_one h)
    by_test false e h = sum_same m _ _ (λ p. other p e) ∙ zeros m
one_settled c m other h = zeros m

settled_sum : (c m : ℕ) (es : List Entry) → list_all (settles_below c m) (acts_in es) ≡ true
    → sum_of m (λ p. settlements_of (wait_of c p) es) ≡ how_many (settles_on c) (acts_in es)
unfolding settlements_of
settled_sum c m [] h = zeros m
settled_sum c m (e ∷ es) h =
    let a = one_settled c m e.act (all_first (settles_below c m) e.act (acts_in es) h) in
    let b = settled_sum c m es (all_rest (settles_below c m) e.act (acts_in es) h) in
    let s = sum_plus m (λ p. one_if (wait_of c p) (settles e.act)) (λ p. settlements_of (wait_of c p) es) in
    omega arith

-- ---- both

got_parts : (c : ℕ) (acts : List Act) → got c acts ≤ how_many (takes_on c) acts + how_many (settles_on c) acts
got_parts c [] = omega arith
got_parts c (act ∷ acts) = let k = got_parts c acts in let m = one_part act in omega arith
  where
    one_part : (act : Act) → one (gets_permit c act) ≤ one (takes_on c act) + one (settles_on c act)
    one_part (Take d p v) = omega arith
    one_part (Settle w outcome) = by_test (w.channel == c)
      where
        by_test : (b : Bool) → one (b && brings_element outcome) ≤ 0 + one b
        by_test true = at_most (brings_element outcome)
          where
            at_most : (b : Bool) → one b ≤ 1
            at_most true = omega arith
            at_most false = omega arith
        by_test false = omega arith
    one_part other = omega arith

own_less : (p : Act → Bool) (who : ℕ) (es : List Entry) → how_many p (acts_of who es) ≤ how_many p (acts_in es)
unfolding acts_of
own_less p who [] = omega arith
own_less p who (e ∷ es) = by_test (e.who == who) (own_less p who es)
  where
    by_test : (b : Bool) → how_many p (acts_of who es) ≤ how_many p (acts_in es)
        → how_many p (if b then e.act ∷ acts_of who es else acts_of who es) ≤ cond (p e.act) 1 0 + how_many p (acts_in es)
    by_test true h = omega arith
    by_test false h = omega arith

pub got_bound : (shape : Shape) (c who : ℕ) (es : List Entry) → Legal shape es → IsShape shape → c < length shape
    → got c (acts_of who es) ≤ 2097152
got_bound shape c who es l is c_low =
    let next = ((replay es).channels c).next in
    let few : next ≤ 1048576 = (let a = ((sound shape es l).channels c).within in let b = (is c c_low).few in omega arith) in
    let t = takes_from shape c start es l in
    let low = settled_below shape c next start es l start_placed (omega arith) in
    let s = settled_sum c next es low in
    let m = sum_most next (λ p. settlements_of (wait_of c p) es) 1 (λ p. settlements_of_bound shape es (wait_of c p) l) in
    let k : next * 1 ≡ next = omega arith in
    let g = got_parts c (acts_of who es) in
    let a = own_less (takes_on c) who es in
    let b = own_less (settles_on c) who es in
    omega arith
