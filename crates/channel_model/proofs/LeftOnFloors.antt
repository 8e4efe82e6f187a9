-- How much is left of all channels of a floor together: no act raises it, and each that receives lowers it.
use Rattle.std.specs.Prelude.{◌≡◌, ◌≢◌, ℕ, zero, suc, ◌+◌, ◌<◌, ◌≤◌, ◌==◌, Bool, true, false, cond, List, [], ◌∷◌, ◌++◌, length, refl, if◌then◌else◌}
use Rattle.std.proofs.Common.{sym, ap, ◌∙◌, subst, arith}
use Rattle.std.proofs.lemmas.Bool.{eqb-true}
use Rattle.std.proofs.lemmas.Bool.Decides.{nat_tests}
use Rattle.co_base.specs.declared.names.WaitId.{WaitId}
use Rattle.channel_model.specs.declared.acts.Act.{Act}
use Rattle.channel_model.specs.declared.acts.Act.TheVariants.{Hand, Put, Offer, Await, Take, Admit, Drop, Spurn, Close, Void, Drain, WakeClosed, Withdraw, Settle}
use Rattle.channel_model.specs.declared.acts.Entry.{Entry}
use Rattle.channel_model.specs.declared.standing.Receiver.{Receiver}
use Rattle.channel_model.specs.declared.standing.Resolution.TheVariants as resolved
use Rattle.channel_model.specs.Channels.{Shape, State, Channel, places_at, start}
use Rattle.channel_model.specs.Effects.{after, is_open, place_receiver}
use Rattle.channel_model.specs.Needs.{Needs, HasPlace, IsFirstOffer}
use Rattle.channel_model.specs.Histories.{replay, replay_from, acts_of, Legal, LegalFrom}
use Rattle.channel_model.specs.Floors.{Floor, Added}
use Rattle.channel_model.proofs.Histories.{replay_from-append, LegalFrom-parts, acts_of-append}
use Rattle.channel_model.proofs.Apart.{how_many_push}
use Rattle.channel_model.proofs.EveryAct.{after_keeps}
use Rattle.channel_model.specs.Left.{is_any, left, left_below, left_all}
use Rattle.channel_model.proofs.Left.{left_keeps, take_lower, put_here}

-- ---- acts that receive

-- the act takes an element, or places a receive
abbrev pub is_receipt : Act → Bool
is_receipt (Take c p v) = true
is_receipt (Await c p w k) = true
is_receipt other = false

abbrev pub receipts_in : List Act → ℕ
receipts_in [] = 0
receipts_in (a ∷ acts) = cond (is_receipt a) 1 0 + receipts_in acts

pub receipts_in-append : (xs ys : List Act) → receipts_in (xs ++ ys) ≡ receipts_in xs + receipts_in ys
receipts_in-append [] ys = omega arith
receipts_in-append (a ∷ xs) ys = omega (arith, receipts_in-append xs ys)

-- ---- what an act leaves

-- no act raises what is left of a channel
channel_less : (shape : Shape) (s : State) (who : ℕ) (act : Act) (d : ℕ) → Needs shape s who act
    → left (places_at shape d) ((after s who act).channels d) ≤ left (places_at shape d) (s.channels d)
channel_less shape s who act d n = after_keeps shape (λ e ch. left (places_at shape e) ch ≤ left (places_at shape d) (s.channels d))
    (left_keeps shape (left (places_at shape d) (s.channels d))) s who act d n (omega arith)

-- and one that receives lowers it at its channel
take_less : (shape : Shape) (who c p v : ℕ) (s : State) → IsFirstOffer p v (s.channels c).queue
    → left (places_at shape c) ((after s who (Take c p v)).channels c) < left (places_at shape c) (s.channels c)
take_less shape who c p v s h = take_lower shape c p v (s.channels c).queue resolved.Taken s refl h

placed_less : (b : Bool) (places : ℕ) (r : Receiver) (ch : Channel) → ch.next < places
    → left places (place_receiver b r ch) < left places ch
placed_less true places r ch h = omega (arith, how_many_push is_any ch.receivers r, h)
placed_less false places r ch h = omega (arith, h)

await_less : (shape : Shape) (who c p k : ℕ) (w : WaitId) (s : State) → HasPlace (places_at shape c) p (s.channels c)
    → left (places_at shape c) ((after s who (Await c p w k)).channels c) < left (places_at shape c) (s.channels c)
await_less shape who c p k w s h =
    let r : Receiver = record { place = p; party = record { wait = w; clause = k } } in
    subst (λ ch. left (places_at shape c) ch < left (places_at shape c) (s.channels c))
    (sym (put_here c (place_receiver (is_open (s.waits w)) r (s.channels c)) s.channels))
    (placed_less (is_open (s.waits w)) (places_at shape c) r (s.channels c) h.left)

all_less : (shape : Shape) (n : ℕ) (s t : State) → ((d : ℕ)
    → left (places_at shape d) (t.channels d) ≤ left (places_at shape d) (s.channels d)) → left_below shape n t ≤ left_below shape n s
all_less shape zero s t h = omega arith
all_less shape (suc n) s t h = let one = h n in omega (arith, one, all_less shape n s t h)

one_lower : (shape : Shape) (n c : ℕ) (s t : State) → c < n
    → left (places_at shape c) (t.channels c) < left (places_at shape c) (s.channels c)
    → ((d : ℕ) → left (places_at shape d) (t.channels d) ≤ left (places_at shape d) (s.channels d))
    → left_below shape n t < left_below shape n s
one_lower shape zero c s t lt e h = absurd (omega (arith, lt))
one_lower shape (suc n) c s t lt e h = by_test (c == n) refl (λ below. one_lower shape n c s t below e h)
  where
    by_test : (b : Bool) → (c == n) ≡ b → (c < n → left_below shape n t < left_below shape n s)
        → left_below shape (suc n) t < left_below shape (suc n) s
    by_test true q more =
        let here : left (places_at shape n) (t.channels n) < left (places_at shape n) (s.channels n) =
        subst (λ d. left (places_at shape d) (t.channels d) < left (places_at shape d) (s.channels d)) (eqb-true c n q) e in
        omega (arith, here, all_less shape n s t h)
    by_test false q more =
        let other : c ≢ n = λ f. grind (arith, nat_tests) in
        let below : c < n = omega (arith, lt, other) in
        let one = h n in
        omega (arith, one, more below)

-- by so much at least an act lowers what is left of all channels
act_less : (shape : Shape) (s : State) (who : ℕ) (act : Act) → Needs shape s who act
    → left_below shape (length shape) (after s who act) + cond (is_receipt act) 1 0 ≤ left_below shape (length shape) s
act_less shape s who act n = by_act act n (λ d. channel_less shape s who act d n)
  where
    by_act : (act : Act) → Needs shape s who act → ((d : ℕ)
        → left (places_at shape d) ((after s who act).channels d) ≤ left (places_at shape d) (s.channels d))
        → left_below shape (length shape) (after s who act) + cond (is_receipt act) 1 0 ≤ left_below shape (length shape) s
    by_act (Hand c p v) n h = omega (arith, all_less shape (length shape) s (after s who (Hand c p v)) h)
    by_act (Put c p v) n h = omega (arith, all_less shape (length shape) s (after s who (Put c p v)) h)
    by_act (Offer c p v w k) n h = omega (arith, all_less shape (length shape) s (after s who (Offer c p v w k)) h)
    by_act (Await c p w k) n h = omega (
      arith,
      one_lower shape (length shape) c s (after s who (Await c p w k)) n.0
          (await_less shape who c p k w s n.1) h,
    )
    by_act (Take c p v) n h = omega (
      arith,
      one_lower shape (length shape) c s (after s who (Take c p v)) n.0
          (take_less shape who c p v s n.1) h,
    )
    by_act (Admit c p) n h = omega (arith, all_less shape (length shape) s (after s who (Admit c p)) h)
    by_act (Drop c p v) n h = omega (arith, all_less shape (length shape) s (after s who (Drop c p v)) h)
    by_act (Spurn c p v) n h = omega (arith, all_less shape (length shape) s (after s who (Spurn c p v)) h)
    by_act (Close c v) n h = omega (arith, all_less shape (length shape) s (after s who (Close c v)) h)
    by_act (Void c) n h = omega (arith, all_less shape (length shape) s (after s who (Void c)) h)
    by_act (Drain c p v) n h = omega (arith, all_less shape (length shape) s (after s who (Drain c p v)) h)
    by_act (WakeClosed c p) n h = omega (arith, all_less shape (length shape) s (after s who (WakeClosed c p)) h)
    by_act (Withdraw w why) n h = omega (arith, all_less shape (length shape) s (after s who (Withdraw w why)) h)
    by_act (Settle w outcome) n h = omega (arith, all_less shape (length shape) s (after s who (Settle w outcome)) h)

-- ---- over histories

entries_less : (shape : Shape) (who : ℕ) (s : State) (es : List Entry) → LegalFrom shape s es
    → left_below shape (length shape) (replay_from s es) + receipts_in (acts_of who es) ≤ left_below shape (length shape) s
unfolding replay_from LegalFrom acts_of
entries_less shape who s [] l = omega arith
entries_less shape who s (e ∷ es) l =
    by_test (e.who == who) (entries_less shape who (after s e.who e.act) es l.1) (act_less shape s e.who e.act l.0)
  where
    by_test : (b : Bool) → left_below shape (length shape) (replay_from (after s e.who e.act) es) + receipts_in (acts_of who es) ≤
        left_below shape (length shape) (after s e.who e.act)
        → left_below shape (length shape) (after s e.who e.act) + cond (is_receipt e.act) 1 0 ≤ left_below shape (length shape) s
        → left_below shape (length shape) (replay_from (after s e.who e.act) es) + receipts_in
        (if b then e.act ∷ acts_of who es else acts_of who es) ≤ left_below shape (length shape) s
    by_test true more one = omega (arith, more, one)
    by_test false more one = omega (arith, more, one)

-- calls of who lower what is left of all channels by the elements at least that they received, whatever others did
pub added_lowers : (who : ℕ) (acts : List Act) (shape : Shape) (a b : Floor) → shape ≡ b.shape → Legal b.shape b.seen → Added who acts a b
    → left_all shape b.seen + receipts_in acts ≤ left_all shape a.seen
added_lowers who acts shape a b is l m =
    let rest = m.longer.0 in
    let all : a.seen ++ rest ≡ b.seen = m.longer.1 in
    let legal : Legal shape (a.seen ++ rest) = subst (Legal shape) (sym all) (subst (λ z. Legal z b.seen) (sym is) l) in
    let parts = LegalFrom-parts shape start a.seen rest legal in
    let less = entries_less shape who (replay a.seen) rest parts.1 in
    let then_is : left_all shape b.seen ≡ left_below shape (length shape) (replay_from (replay a.seen) rest) =
    ap (left_all shape) (sym all) ∙ ap (left_below shape (length shape)) (replay_from-append start a.seen rest) in
    let mine : acts_of who a.seen ++ acts_of who rest ≡ acts_of who a.seen ++ acts = sym (acts_of-append who a.seen rest)
    ∙ ap (acts_of who) all ∙ m.mine in
    let counts : receipts_in (acts_of who a.seen) + receipts_in (acts_of who rest) ≡ receipts_in (acts_of who a.seen) + receipts_in acts =
    sym (receipts_in-append (acts_of who a.seen) (acts_of who rest)) ∙ ap receipts_in mine ∙ receipts_in-append (acts_of who a.seen) acts in
    omega (arith, less, then_is, counts)
