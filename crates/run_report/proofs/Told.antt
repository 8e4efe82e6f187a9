-- What an act tells, joined with what those before and after it tell.
use Rattle.std.proofs.Common.{◌≡◌, ℕ, Bool, true, false, ◌&&◌, ◌||◌, List, [], ◌∷◌, ◌++◌, Option, Some, None, if◌then◌else◌, refl, sym, ap, ◌∙◌, inl, inr, arith}
use Rattle.std.proofs.Math.Bool.{or-false, or_assoc}
use Rattle.std.proofs.lemmas.Bool.Decides.{eqb_tells, nat_tests}
use Rattle.channel_model.specs.declared.acts.Act.{Act}
use Rattle.channel_model.specs.declared.acts.ChannelNote.TheVariants as note
use Rattle.channel_model.specs.declared.acts.Act.TheVariants.{Hand, Put, Offer, Await, Take, Admit, Drop, Spurn, Drain, Withdraw, Settle}
use Rattle.co_base.specs.declared.names.WaitId.{WaitId}
use Rattle.channel_model.specs.Channels.{same_wait}
use Rattle.channel_model.specs.Fates.{is_at, or_else, is_value, is_undelivered}
use Rattle.note_book.specs.declared.book.Item.{Item}
use Rattle.note_book.specs.declared.book.Item.TheVariants as item
use Rattle.note_book.specs.Items.{channel_acts_in}
use Rattle.run_report.specs.declared.facts.Facts.{Facts}
use Rattle.run_report.proofs.Joining.{option_or-none, option_or-assoc}
use Rattle.run_report.specs.Facts.{nothing, facts_of, joined, told, told_at, told_by}

-- ---- joining

pub joined-nothing : (x : Facts) → joined x nothing ≡ x
joined-nothing x = λ i. record {
  element = option_or-none x.element i;
  wait = option_or-none x.wait i;
  clause = option_or-none x.clause i;
  handed = or-false x.handed i;
  taken = or-false x.taken i;
  admitted = or-false x.admitted i;
  dropped = or-false x.dropped i;
  spurned = or-false x.spurned i;
  drained = or-false x.drained i;
  received = or-false x.received i;
  gave_up = or-false x.gave_up i;
  withdrawn = or-false x.withdrawn i;
}

pub joined-assoc : (x y z : Facts) → joined (joined x y) z ≡ joined x (joined y z)
joined-assoc x y z = λ i. record {
  element = option_or-assoc x.element y.element z.element i;
  wait = option_or-assoc x.wait y.wait z.wait i;
  clause = option_or-assoc x.clause y.clause z.clause i;
  handed = or_assoc x.handed y.handed z.handed i;
  taken = or_assoc x.taken y.taken z.taken i;
  admitted = or_assoc x.admitted y.admitted z.admitted i;
  dropped = or_assoc x.dropped y.dropped z.dropped i;
  spurned = or_assoc x.spurned y.spurned z.spurned i;
  drained = or_assoc x.drained y.drained z.drained i;
  received = or_assoc x.received y.received z.received i;
  gave_up = or_assoc x.gave_up y.gave_up z.gave_up i;
  withdrawn = or_assoc x.withdrawn y.withdrawn z.withdrawn i;
}

-- ---- one act

hand_told : (b : Bool) (v : ℕ) (x : Facts) → joined (if b then record nothing { element = Some v; handed = true } else nothing) x ≡
    record x { element = or_else (if b then Some v else None) x.element; handed = b || x.handed }
hand_told true v x = refl
hand_told false v x = refl

put_told : (b : Bool) (v : ℕ) (x : Facts) → joined (if b then record nothing { element = Some v } else nothing) x ≡
    record x { element = or_else (if b then Some v else None) x.element }
put_told true v x = refl
put_told false v x = refl

offer_told : (b : Bool) (v : ℕ) (w : WaitId) (k : ℕ) (x : Facts)
    → joined (if b then record nothing { element = Some v; wait = Some w; clause = Some k } else nothing) x ≡
    record x {
      element = or_else (if b then Some v else None) x.element;
      wait = or_else (if b then Some w else None) x.wait;
      clause =
          or_else (if b then Some k else None) x.clause;
    }
offer_told true v w k x = refl
offer_told false v w k x = refl

await_told : (b : Bool) (w : WaitId) (x : Facts) → joined (if b then record nothing { wait = Some w } else nothing) x ≡
    record x { wait = or_else (if b then Some w else None) x.wait }
await_told true w x = refl
await_told false w x = refl

take_told : (b : Bool) (x : Facts) → joined (if b then record nothing { taken = true } else nothing) x ≡ record x { taken = b || x.taken }
take_told true x = refl
take_told false x = refl

admit_told : (b : Bool) (x : Facts) → joined (if b then record nothing { admitted = true } else nothing) x ≡
    record x { admitted = b || x.admitted }
admit_told true x = refl
admit_told false x = refl

drop_told : (b : Bool) (x : Facts) → joined (if b then record nothing { dropped = true } else nothing) x ≡
    record x { dropped = b || x.dropped }
drop_told true x = refl
drop_told false x = refl

spurn_told : (b : Bool) (x : Facts) → joined (if b then record nothing { spurned = true } else nothing) x ≡
    record x { spurned = b || x.spurned }
spurn_told true x = refl
spurn_told false x = refl

drain_told : (b : Bool) (x : Facts) → joined (if b then record nothing { drained = true } else nothing) x ≡
    record x { drained = b || x.drained }
drain_told true x = refl
drain_told false x = refl

withdraw_told : (b : Bool) (x : Facts) → joined (if b then record nothing { withdrawn = true } else nothing) x ≡
    record x { withdrawn = b || x.withdrawn }
withdraw_told true x = refl
withdraw_told false x = refl

settle_told : (b is_received is_given_up : Bool) (x : Facts)
    → joined (if b then record nothing { received = is_received; gave_up = is_given_up } else nothing) x ≡
    record x { received = (b && is_received) || x.received; gave_up = (b && is_given_up) || x.gave_up }
settle_told true r g x = refl
settle_told false r g x = refl

-- a wait and the place that has its name
pub is_at-wait : (w v : WaitId) → is_at w.channel w.place v.channel v.place ≡ same_wait w v
is_at-wait w v = grind (arith, nat_tests)

-- what the first act tells, joined with what the others tell
pub facts_of-cons : (c p : ℕ) (a : Act) (acts : List Act) → joined (told_at c p (told a)) (facts_of c p acts) ≡ facts_of c p (a ∷ acts)
facts_of-cons c p (Hand d q v) acts = hand_told (is_at c p d q) v (facts_of c p acts)
facts_of-cons c p (Put d q v) acts = put_told (is_at c p d q) v (facts_of c p acts)
facts_of-cons c p (Offer d q v w k) acts = offer_told (is_at c p d q) v w k (facts_of c p acts)
facts_of-cons c p (Await d q w k) acts = await_told (is_at c p d q) w (facts_of c p acts)
facts_of-cons c p (Take d q v) acts = take_told (is_at c p d q) (facts_of c p acts)
facts_of-cons c p (Admit d q) acts = admit_told (is_at c p d q) (facts_of c p acts)
facts_of-cons c p (Drop d q v) acts = drop_told (is_at c p d q) (facts_of c p acts)
facts_of-cons c p (Spurn d q v) acts = spurn_told (is_at c p d q) (facts_of c p acts)
facts_of-cons c p (Drain d q v) acts = drain_told (is_at c p d q) (facts_of c p acts)
facts_of-cons c p (Withdraw w why) acts =
    withdraw_told (is_at c p w.channel w.place) (facts_of c p acts)
    ∙ ap (λ b. record (facts_of c p acts) { withdrawn = b || (facts_of c p acts).withdrawn })
    (is_at-wait (record { channel = c; place = p }) w)
facts_of-cons c p (Settle w outcome) acts =
    settle_told (is_at c p w.channel w.place) (is_value outcome) (is_undelivered outcome) (facts_of c p acts)
    ∙ ap (λ b. record (facts_of c p acts) {
      received = (b && is_value outcome)
          || (facts_of c p acts).received;
      gave_up = (b && is_undelivered outcome) || (facts_of c p acts).gave_up;
    })
    (is_at-wait (record { channel = c; place = p }) w)
facts_of-cons c p other acts = refl

-- ---- what is added at one place

-- the value that was joined there, seen from any place
pub joined-at : (value : ℕ → ℕ → Facts) (c p d q : ℕ) (x : Facts)
    → (if is_at c p d q then joined (value d q) x else value c p) ≡ joined (value c p) (if is_at c p d q then x else nothing)
joined-at value c p d q x =
    elim (eqb_tells d c) [
      | inl h ↦ elim (eqb_tells q p) [
        | inl k ↦ rw (h.0, k.0) (rw (h.1, k.1) refl)
        | inr k ↦ rw (h.0, k.0) (sym (joined-nothing (value c p)))
      ]
      | inr h ↦ rw h.0 (sym (joined-nothing (value c p)))
    ]

-- the same, for the place that was told of
pub added_at : (value : ℕ → ℕ → Facts) (at : WaitId) (x : Facts) (all : Option (WaitId × Facts)) (stored new : Facts) (c p : ℕ)
    → all ≡ Some (at, x)
    → stored ≡ joined (value at.channel at.place) x
    → new ≡ (if is_at c p at.channel at.place then stored else value c p)
    → new ≡ joined (value c p) (told_at c p all)
added_at value at x all stored new c p e s n =
    n
    ∙ ap (λ y. if is_at c p at.channel at.place then y else value c p) s
    ∙ joined-at value c p at.channel at.place x
    ∙ ap (λ y. joined (value c p) (told_at c p y)) (sym e)

-- nothing was told
pub nothing_added : (x : Facts) (all : Option (WaitId × Facts)) (c p : ℕ) → all ≡ None → x ≡ joined x (told_at c p all)
nothing_added x all c p e = sym (joined-nothing x) ∙ ap (λ y. joined x (told_at c p y)) (sym e)

-- ---- items and books

-- what the first item tells, joined with what the others tell
facts_of-item : (c p : ℕ) (i : Item) (items : List Item)
    → joined (told_at c p (told_by i)) (facts_of c p (channel_acts_in items)) ≡ facts_of c p (channel_acts_in (i ∷ items))
facts_of-item c p (item.Channel (note.Made a)) items = facts_of-cons c p a (channel_acts_in items)
facts_of-item c p other items = refl

-- what some acts tell, joined with what others tell after them
facts_of-append : (c p : ℕ) (xs ys : List Act) → joined (facts_of c p xs) (facts_of c p ys) ≡ facts_of c p (xs ++ ys)
facts_of-append c p [] ys = refl
facts_of-append c p (x ∷ xs) ys =
    ap (λ y. joined y (facts_of c p ys)) (sym (facts_of-cons c p x xs))
    ∙ joined-assoc (told_at c p (told x)) (facts_of c p xs) (facts_of c p ys)
    ∙ ap (joined (told_at c p (told x))) (facts_of-append c p xs ys)
    ∙ facts_of-cons c p x (xs ++ ys)

-- one item more was told of
pub told_more : (before here all : Facts) (c p : ℕ) (i : Item) (items : List Item) → here ≡ joined before (told_at c p (told_by i))
    → joined before (facts_of c p (channel_acts_in (i ∷ items))) ≡ all → joined here (facts_of c p (channel_acts_in items)) ≡ all
told_more before here all c p i items h e =
    ap (λ x. joined x (facts_of c p (channel_acts_in items))) h
    ∙ joined-assoc before (told_at c p (told_by i)) (facts_of c p (channel_acts_in items))
    ∙ ap (joined before) (facts_of-item c p i items)
    ∙ e

-- some acts more were told of
pub all_told_more : (before here all : Facts) (c p : ℕ) (acts more : List Act) → here ≡ joined before (facts_of c p acts)
    → joined before (facts_of c p (acts ++ more)) ≡ all → joined here (facts_of c p more) ≡ all
all_told_more before here all c p acts more h e =
    ap (λ x. joined x (facts_of c p more)) h
    ∙ joined-assoc before (facts_of c p acts) (facts_of c p more)
    ∙ ap (joined before) (facts_of-append c p acts more)
    ∙ e
