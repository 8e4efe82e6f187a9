-- Behind the declared channels stand signals, which carry no element.
use Rattle.std.specs.Prelude.{◌≡◌, ℕ, zero, suc, ◌<◌, ◌≤◌, ◌==◌, Bool, true, false, ◌&&◌, cond, List, [], ◌∷◌, ◌++◌, length, Option, Some, None, refl, is_some, if◌then◌else◌}
use Rattle.std.specs.List.{list_all}
use Rattle.std.proofs.Common.{sym, ap, ◌∙◌, subst, arith, ⊎_elim}
use Rattle.std.proofs.lemmas.Bool.{cases_lt, and_parts, both_ways}
use Rattle.channel_model.specs.declared.acts.Act.{Act}
use Rattle.channel_model.specs.declared.acts.Act.TheVariants.{Hand, Put, Offer}
use Rattle.channel_model.specs.declared.acts.Entry.{Entry}
use Rattle.channel_model.specs.declared.acts.Fate.{Fate}
use Rattle.channel_model.specs.declared.acts.Fate.TheVariants as fate
use Rattle.channel_model.specs.declared.acts.Kind.{Kind}
use Rattle.channel_model.specs.declared.acts.Kind.TheVariants.{Signal}
use Rattle.channel_model.specs.Channels.{Shape, State, kind_at, places_at, is_full, suspends, is_signal, start}
use Rattle.channel_model.specs.Effects.{after}
use Rattle.channel_model.specs.Needs.{Needs}
use Rattle.channel_model.specs.Fates.{is_at, brings, element_at, fate_at, or_else}
use Rattle.channel_model.specs.Histories.{replay, acts_in, Legal, LegalFrom}
use Rattle.note_book.specs.declared.book.Item.{Item}
use Rattle.channel_fates.proofs.OncePlaced.{at_both}
use Rattle.tally_laws.specs.Counts.{Counts, counts_of}
use Rattle.tally_laws.specs.Elements.{number_of, has_element, has_fate, places_where, AreSignals, AreFatesOf}
use Rattle.tally_laws.specs.Settlings.{ResolvedAreSettled, AreBooks}
use Rattle.tally_laws.specs.Tallies.{tallied}
use Rattle.tally_laws.specs.Sums.{sum_below}
use Rattle.tally_laws.proofs.Summed.{sum_same, sum_none}
use Rattle.tally_laws.proofs.FatesOf.{fates_counted}
use Rattle.tally_laws.proofs.Books.{books_counted}

-- ---- no element comes to a signal

full_kind : (kind : Kind) (n : ℕ) → is_full kind n ≡ false → is_signal kind ≡ false
full_kind Signal n e = cc
full_kind other n e = refl

suspending_kind : (kind : Kind) → suspends kind ≡ true → is_signal kind ≡ false
suspending_kind Signal e = cc
suspending_kind other e = refl

at_channel : (shape : Shape) (c p d q : ℕ) (b : Bool) (v u : ℕ) → is_at c p d q ≡ b → (if b then Some v else None) ≡ Some u
    → is_signal (kind_at shape d) ≡ false → is_signal (kind_at shape c) ≡ false
at_channel shape c p d q true v u e f h = subst (λ x. is_signal (kind_at shape x) ≡ false) (at_both c p d q e).0 h
at_channel shape c p d q false v u e f h = cc

brought_kind : (shape : Shape) (s : State) (who : ℕ) (act : Act) (c p u : ℕ) → Needs shape s who act → brings c p act ≡ Some u
    → is_signal (kind_at shape c) ≡ false
brought_kind shape s who (Hand d q v) c p u n e = at_channel shape c p d q (is_at c p d q) v u refl e n.1
brought_kind shape s who (Put d q v) c p u n e = at_channel shape c p d q (is_at c p d q) v u refl e (full_kind (kind_at shape d) _ n.3)
brought_kind shape s who (Offer d q v w k) c p u n e = at_channel shape c p d q (is_at c p d q) v u refl e
    (suspending_kind (kind_at shape d) n.3)
brought_kind shape s who other c p u n e = cc

element_kind : (shape : Shape) (s : State) (es : List Entry) (c p u : ℕ) → LegalFrom shape s es → element_at c p (acts_in es) ≡ Some u
    → is_signal (kind_at shape c) ≡ false
unfolding LegalFrom
element_kind shape s [] c p u l e = cc
element_kind shape s (x ∷ es) c p u l e = by_first (brings c p x.act) refl e (element_kind shape (after s x.who x.act) es c p u l.1)
  where
    by_first : (o : Option ℕ) → brings c p x.act ≡ o → or_else o (element_at c p (acts_in es)) ≡ Some u
        → (element_at c p (acts_in es) ≡ Some u → is_signal (kind_at shape c) ≡ false) → is_signal (kind_at shape c) ≡ false
    by_first (Some v) f h k = brought_kind shape s x.who x.act c p v l.0 f
    by_first None f h k = k h

no_element : (shape : Shape) (history : List Entry) (c p : ℕ) → Legal shape history → is_signal (kind_at shape c) ≡ true
    → has_element (acts_in history) c p ≡ false
no_element shape history c p l s = by_element (element_at c p (acts_in history)) refl
  where
    by_element : (o : Option ℕ) → element_at c p (acts_in history) ≡ o → is_some o ≡ false
    by_element None e = refl
    by_element (Some u) e = absurd (both_ways _ (element_kind shape start history c p u l e) s)

-- ---- the shape behind the declared channels

all_signals : (ys : Shape) (c : ℕ) → list_all (λ y. is_signal y.0) ys ≡ true → is_signal (kind_at ys c) ≡ true
all_signals [] c h = refl
all_signals (y ∷ ys) zero h = (and_parts (is_signal y.0) (list_all (λ y. is_signal y.0) ys) h).0
all_signals (y ∷ ys) (suc c) h = all_signals ys c (and_parts (is_signal y.0) (list_all (λ y. is_signal y.0) ys) h).1

rest_is_signal : (xs ys : Shape) (c : ℕ) → list_all (λ y. is_signal y.0) ys ≡ true → length xs ≤ c → is_signal (kind_at (xs ++ ys) c) ≡ true
rest_is_signal [] ys c h l = all_signals ys c h
rest_is_signal (x ∷ xs) ys zero h l = absurd (omega arith)
rest_is_signal (x ∷ xs) ys (suc c) h l = rest_is_signal xs ys c h (omega arith)

declared_places : (xs ys : Shape) (c : ℕ) → c < length xs → places_at (xs ++ ys) c ≡ places_at xs c
declared_places [] ys c l = absurd (omega arith)
declared_places (x ∷ xs) ys zero l = refl
declared_places (x ∷ xs) ys (suc c) l = declared_places xs ys c (omega arith)

no_fewer : (xs ys : Shape) → length xs ≤ length (xs ++ ys)
no_fewer [] ys = omega arith
no_fewer (x ∷ xs) ys = let k = no_fewer xs ys in omega arith

-- ---- sums

sum_cut : (f : ℕ → ℕ) (m n : ℕ) → m ≤ n → ((i : ℕ) → m ≤ i → f i ≡ 0) → sum_below f n ≡ sum_below f m
sum_cut f m zero l h = let e : m ≡ 0 = omega (arith, l) in sym (ap (sum_below f) e)
sum_cut f m (suc n) l h =
    ⊎_elim
    (λ k. let e : suc n ≡ m = omega arith in ap (sum_below f) e)
    (λ k. let r = sum_cut f m n k h in let a = h n k in omega arith)
    (cases_lt n m)

same_places : (f : ℕ → ℕ) (m n : ℕ) → m ≡ n → sum_below f m ≡ sum_below f n
same_places f m n e = ap (sum_below f) e

-- a test that passes nowhere behind the declared channels passes as often as on these
declared_alone : (xs ys : Shape) (test : ℕ → ℕ → Bool) → ((c p : ℕ) → length xs ≤ c → test c p ≡ false)
    → places_where (xs ++ ys) test ≡ places_where xs test
declared_alone xs ys test h =
    sum_cut (λ c. sum_below (λ p. cond (test c p) 1 0) (places_at (xs ++ ys) c)) (length xs) (length (xs ++ ys)) (no_fewer xs ys)
    (λ c l. sum_none (λ p. cond (test c p) 1 0) (places_at (xs ++ ys) c) (λ p k. ap (λ b. cond b 1 0) (h c p l)))
    ∙ sum_same (λ c. sum_below (λ p. cond (test c p) 1 0) (places_at (xs ++ ys) c))
    (λ c. sum_below (λ p. cond (test c p) 1 0) (places_at xs c)) (length xs)
    (λ c l. same_places (λ p. cond (test c p) 1 0) _ _ (declared_places xs ys c l))

-- what holds with the signals holds of the declared channels
fates_of_declared : (declared signals : Shape) (history : List Entry) (n : Counts) → AreSignals signals
    → Legal (declared ++ signals) history → AreFatesOf (declared ++ signals) (acts_in history) n → AreFatesOf declared (acts_in history) n
fates_of_declared declared signals history n h l f = record {
  elements = sym (declared_alone declared signals (has_element (acts_in history)) none_there) ∙ f.elements;
  received = sym (declared_alone declared signals (has_fate fate.Received (acts_in history)) (no_fate fate.Received)) ∙ f.received;
  undelivered = sym (declared_alone declared signals (has_fate fate.Undelivered (acts_in history)) (no_fate fate.Undelivered))
      ∙ f.undelivered;
  dropped = sym (declared_alone declared signals (has_fate fate.Dropped (acts_in history)) (no_fate fate.Dropped)) ∙ f.dropped;
  spurned = sym (declared_alone declared signals (has_fate fate.Spurned (acts_in history)) (no_fate fate.Spurned)) ∙ f.spurned;
  withdrawn = sym (declared_alone declared signals (has_fate fate.Withdrawn (acts_in history)) (no_fate fate.Withdrawn)) ∙ f.withdrawn;
  held = sym (declared_alone declared signals (has_fate fate.Held (acts_in history)) (no_fate fate.Held)) ∙ f.held;
}
  where
    none_there : (c p : ℕ) → length declared ≤ c → has_element (acts_in history) c p ≡ false
    none_there c p k = no_element (declared ++ signals) history c p l (rest_is_signal declared signals c h k)

    no_fate : (g : Fate) (c p : ℕ) → length declared ≤ c → has_fate g (acts_in history) c p ≡ false
    no_fate g c p k = ap (λ b. b && (number_of (fate_at c p (acts_in history)) == number_of g)) (none_there c p k)

pub declared_fates : (declared signals : Shape) (history : List Entry) → AreSignals signals → Legal (declared ++ signals) history
    → ResolvedAreSettled (replay history) → AreFatesOf declared (acts_in history) (counts_of (acts_in history))
declared_fates declared signals history h l rest = fates_of_declared declared signals history (counts_of (acts_in history)) h l
    (fates_counted (declared ++ signals) history l rest)

pub declared_books : (declared signals : Shape) (history : List Entry) (books : List (List Item)) → AreSignals signals
    → Legal (declared ++ signals) history → ResolvedAreSettled (replay history) → AreBooks books history
    → AreFatesOf declared (acts_in history) (tallied books)
declared_books declared signals history books h l rest are =
    fates_of_declared declared signals history (tallied books) h l (books_counted (declared ++ signals) history books l rest are)
