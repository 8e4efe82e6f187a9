-- The tallies of all books, added, number the acts of all callers.
use Rattle.std.specs.Prelude.{◌≡◌, ℕ, ◌+◌, ◌≤◌, ◌==◌, Bool, true, false, ◌||◌, cond, List, [], ◌∷◌, length, Option, Some, None, refl, if◌then◌else◌, is_some, slice_index_or}
use Rattle.std.specs.List.{list_any}
use Rattle.std.proofs.Common.{sym, ap, ◌∙◌, ⊎_elim, arith}
use Rattle.std.proofs.lemmas.Bool.{false_from_ne_true, both_ways, or_left, or_right, or_cases, cond_both}
use Rattle.co_base.specs.declared.names.WaitId.{WaitId}
use Rattle.channel_model.specs.declared.acts.Act.{Act}
use Rattle.channel_model.specs.declared.acts.Act.TheVariants.{Hand, Put, Offer, Take, Drop, Spurn, Drain, WakeClosed, Withdraw, Settle}
use Rattle.channel_model.specs.declared.acts.Entry.{Entry}
use Rattle.channel_model.specs.Answers.{IsUnsettledOf, IsSettledWait}
use Rattle.channel_model.specs.Channels.{Shape, Wait}
use Rattle.channel_model.specs.Histories.{replay, acts_of, acts_in, Legal}
use Rattle.channel_model.specs.Laws.{how_many}
use Rattle.note_book.specs.declared.book.Item.{Item}
use Rattle.note_book.specs.Items.{channel_acts_in}
use Rattle.tally_laws.specs.Counts.{Counts, nothing, added}
use Rattle.tally_laws.specs.Elements.{AreFatesOf}
use Rattle.tally_laws.specs.Kinds.{is_hand, is_put, is_offer, is_take, is_drop, is_spurn, is_drain, is_wake, is_withdraw, is_settle, gives_value, gives_up, settles_wait, takes_back, offers_settled}
use Rattle.tally_laws.specs.Settlings.{ResolvedAreSettled, has_one_wait, AreBooks}
use Rattle.tally_laws.specs.Tallies.{Tally, empty, count_of, tally_of, tallied}
use Rattle.tally_laws.proofs.Summed.{sum_same}
use Rattle.tally_laws.proofs.Counting.{count_same}
use Rattle.tally_laws.proofs.Kept.{replay_kept}
use Rattle.tally_laws.proofs.FatesOf.{fates_counted}
use Rattle.tally_laws.proofs.Summing.{sum_over, by_items, item_past}
use Rattle.tally_laws.proofs.Parted.{by_callers}
use Rattle.tally_laws.proofs.Printed.{channel_parts}
use Rattle.tally_laws.proofs.OneWaits.{waits_after, stateless, offers_as, ended_offers}
use Rattle.tally_laws.proofs.Tracked.{replay_tracked}

-- ---- what a test of all acts says of one caller's

own_any : (f : Act → Bool) (who : ℕ) (es : List Entry) → list_any f (acts_of who es) ≡ true → list_any f (acts_in es) ≡ true
unfolding acts_of
own_any f who [] h = cc
own_any f who (e ∷ es) h =
    cond_both (e.who == who) (e.act ∷ acts_of who es) (acts_of who es)
    (λ acts. list_any f acts ≡ true → list_any f (acts_in (e ∷ es)) ≡ true)
    (λ own q. ⊎_elim (λ t. or_left _ _ t) (λ t. or_right (f e.act) _ (own_any f who es t)) (or_cases (f e.act) _ q))
    (λ other q. or_right (f e.act) _ (own_any f who es q)) h

-- ---- one caller

-- the wait is settled by one of these acts
abbrev ends_in : List Act → WaitId → Bool
ends_in acts w = list_any (settles_wait w) acts

settled_offer : (acts : List Act) (a : Act) → offers_as (ends_in acts) a ≡ offers_settled acts a
settled_offer acts (Offer c p v w k) = refl
settled_offer acts other = refl

settled_or_not : (who : ℕ) (x : Option Wait) → IsSettledWait x → IsUnsettledOf who x → ⊥
settled_or_not who None a b = a
settled_or_not who (Some x) a b = let d : is_some x.settled ≡ false = ap is_some b.1 in both_ways _ d a

module _ (shape : Shape) (history : List Entry) (l : Legal shape history) (who : ℕ) (one : has_one_wait None (acts_of who history) ≡ true)
  where
    last_open : (w : WaitId) → waits_after None (acts_of who history) ≡ Some w → ends_in (acts_in history) w ≡ false
    last_open w e =
        false_from_ne_true (ends_in (acts_in history) w)
        (λ h. settled_or_not who ((replay history).waits w) ((replay_kept shape history l).settled w h)
        ((replay_tracked shape who history l one).has w e))

    pub own_ended : (tally_of (acts_of who history)).counts.ended ≡ how_many (offers_settled (acts_in history)) (acts_of who history)
    own_ended =
        let a = ended_offers (ends_in (acts_in history)) None empty (acts_of who history) refl one
        (λ w h. own_any (settles_wait w) who history h) last_open in
        let b = count_same (offers_as (ends_in (acts_in history))) (offers_settled (acts_in history)) (settled_offer (acts_in history))
        (acts_of who history) in
        omega arith

    pub own_back : (tally_of (acts_of who history)).counts.taken_back ≡ how_many (takes_back (acts_in history)) (acts_of who history)
    own_back = (replay_tracked shape who history l one).back

-- ---- all books

tallied_field : (field : Counts → ℕ) → ((x y : Counts) → field (added x y) ≡ field x + field y) → field nothing ≡ 0
    → (books : List (List Item)) → field (tallied books) ≡ sum_over (λ book. field (tally_of (channel_acts_in book)).counts) books
tallied_field field add zero_field [] = zero_field
tallied_field field add zero_field (book ∷ books) =
    let a = add (tally_of (channel_acts_in book)).counts (tallied books) in
    let b = tallied_field field add zero_field books in
    omega arith

module _ (history : List Entry) (books : List (List Item)) (are : AreBooks books history) where
  nobody_past : (k : ℕ) → length books ≤ k → acts_of k history ≡ []
  nobody_past k h = are.parts k ∙ ap channel_acts_in (item_past [] books k h)

  own_one : (k : ℕ) → has_one_wait None (acts_of k history) ≡ true
  own_one k = ap (has_one_wait None) (are.parts k) ∙ are.one_wait k

  total : (field : Counts → ℕ) (f : Act → Bool) → ((x y : Counts) → field (added x y) ≡ field x + field y) → field nothing ≡ 0
      → ((k : ℕ) → field (tally_of (acts_of k history)).counts ≡ how_many f (acts_of k history))
      → field (tallied books) ≡ how_many f (acts_in history)
  total field f add zero_field own =
      tallied_field field add zero_field books
      ∙ (sym (by_items (λ book. field (tally_of (channel_acts_in book)).counts) [] books)
      ∙ (sum_same (λ k. field (tally_of (channel_acts_in (slice_index_or books k []))).counts) (λ k. how_many f (acts_of k history))
      (length books) (λ k m. ap (λ acts. field (tally_of acts).counts) (sym (are.parts k)) ∙ own k)
      ∙ by_callers (λ (e : Entry). e.who) (λ (e : Entry). e.act) acts_of channel_parts f (length books) history nobody_past))

  -- a field to which each act adds what the test says of it
  plain_total : (field : Counts → ℕ) (f : Act → Bool) → ((x y : Counts) → field (added x y) ≡ field x + field y) → field nothing ≡ 0
      → ((t : Tally) (a : Act) → field (count_of t a) ≡ cond (f a) 1 0)
      → field (tallied books) ≡ how_many f (acts_in history)
  plain_total field f add zero_field step = total field f add zero_field (λ k. let a = stateless field f add step empty (acts_of k history)
      in let z = zero_field in omega arith)

hands_step : (t : Tally) (a : Act) → (count_of t a).hands ≡ cond (is_hand a) 1 0
hands_step t (Hand c p v) = refl
hands_step t other = refl

puts_step : (t : Tally) (a : Act) → (count_of t a).puts ≡ cond (is_put a) 1 0
puts_step t (Put c p v) = refl
puts_step t other = refl

offers_step : (t : Tally) (a : Act) → (count_of t a).offers ≡ cond (is_offer a) 1 0
offers_step t (Offer c p v w k) = refl
offers_step t other = refl

takes_step : (t : Tally) (a : Act) → (count_of t a).takes ≡ cond (is_take a) 1 0
takes_step t (Take c p v) = refl
takes_step t other = refl

drops_step : (t : Tally) (a : Act) → (count_of t a).drops ≡ cond (is_drop a) 1 0
drops_step t (Drop c p v) = refl
drops_step t other = refl

spurns_step : (t : Tally) (a : Act) → (count_of t a).spurns ≡ cond (is_spurn a) 1 0
spurns_step t (Spurn c p v) = refl
spurns_step t other = refl

drains_step : (t : Tally) (a : Act) → (count_of t a).drains ≡ cond (is_drain a) 1 0
drains_step t (Drain c p v) = refl
drains_step t other = refl

wakes_step : (t : Tally) (a : Act) → (count_of t a).wakes ≡ cond (is_wake a) 1 0
wakes_step t (WakeClosed c p) = refl
wakes_step t other = refl

withdraws_step : (t : Tally) (a : Act) → (count_of t a).withdraws ≡ cond (is_withdraw a) 1 0
withdraws_step t (Withdraw w why) = refl
withdraws_step t other = refl

settles_step : (t : Tally) (a : Act) → (count_of t a).settles ≡ cond (is_settle a) 1 0
settles_step t (Settle w outcome) = refl
settles_step t other = refl

values_step : (t : Tally) (a : Act) → (count_of t a).values ≡ cond (gives_value a) 1 0
values_step t (Settle w outcome) = refl
values_step t other = refl

given_up_step : (t : Tally) (a : Act) → (count_of t a).given_up ≡ cond (gives_up a) 1 0
given_up_step t (Settle w outcome) = refl
given_up_step t other = refl

pub books_counted : (shape : Shape) (history : List Entry) (books : List (List Item)) → Legal shape history
    → ResolvedAreSettled (replay history) → AreBooks books history → AreFatesOf shape (acts_in history) (tallied books)
books_counted shape history books l rest are =
    let f = fates_counted shape history l rest in
    let a = plain_total history books are (λ x. x.hands) is_hand (λ x y. refl) refl hands_step in
    let b = plain_total history books are (λ x. x.puts) is_put (λ x y. refl) refl puts_step in
    let c = plain_total history books are (λ x. x.offers) is_offer (λ x y. refl) refl offers_step in
    let d = plain_total history books are (λ x. x.takes) is_take (λ x y. refl) refl takes_step in
    let e = plain_total history books are (λ x. x.drops) is_drop (λ x y. refl) refl drops_step in
    let p = plain_total history books are (λ x. x.spurns) is_spurn (λ x y. refl) refl spurns_step in
    let g = plain_total history books are (λ x. x.drains) is_drain (λ x y. refl) refl drains_step in
    let h = plain_total history books are (λ x. x.wakes) is_wake (λ x y. refl) refl wakes_step in
    let i = plain_total history books are (λ x. x.withdraws) is_withdraw (λ x y. refl) refl withdraws_step in
    let j = plain_total history books are (λ x. x.settles) is_settle (λ x y. refl) refl settles_step in
    let k = plain_total history books are (λ x. x.values) gives_value (λ x y. refl) refl values_step in
    let m = plain_total history books are (λ x. x.given_up) gives_up (λ x y. refl) refl given_up_step in
    let n = total history books are (λ x. x.taken_back) (takes_back (acts_in history)) (λ x y. refl) refl
    (λ q. own_back shape history l q (own_one history books are q)) in
    let o = total history books are (λ x. x.ended) (offers_settled (acts_in history)) (λ x y. refl) refl
    (λ q. own_ended shape history l q (own_one history books are q)) in
    let elements_are = f.elements in
    let received_are = f.received in
    let undelivered_are = f.undelivered in
    let dropped_are = f.dropped in
    let spurned_are = f.spurned in
    let withdrawn_are = f.withdrawn in
    let held_are = f.held in
    record {
      elements = omega arith;
      received = omega arith;
      undelivered = omega arith;
      dropped = omega arith;
      spurned = omega arith;
      withdrawn = omega arith;
      held = omega arith;
    }
