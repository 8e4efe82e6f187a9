-- What an admittance and a drop tell of a floor, and where nothing is to be dropped.
use Rattle.std.proofs.Common.{◌≡◌, ℕ, ◌+◌, ◌<◌, ◌≤◌, ◌==◌, nat_le, nat_lt, cond, Bool, true, false, true≢false, ◌||◌, List, [], ◌∷◌, ◌++◌, if◌then◌else◌, Option, Some, None, sym, refl, ap, ◌∙◌, subst, inl, arith, append_assoc}
use Rattle.std.specs.List.{list_any, list_all}
use Rattle.std.proofs.lemmas.Bool.Decides.{nat_tests}
use Rattle.std.proofs.lemmas.Bool.{eqb-true, and_parts}
use Rattle.worded.specs.Views.{has_tag}
use Rattle.channel_model.specs.declared.acts.Kind.{Kind}
use Rattle.channel_model.specs.declared.acts.Kind.TheVariants.{Rendezvous, Buffered, Unlimited, DropOldest}
use Rattle.channel_model.specs.declared.acts.Act.{Act}
use Rattle.channel_model.specs.declared.acts.Act.TheVariants.{Hand, Put, Admit}
use Rattle.channel_model.specs.declared.acts.Entry.{Entry}
use Rattle.channel_model.specs.declared.standing.Standing.{Standing}
use Rattle.channel_model.specs.Channels.{Shape, State, Channel, kind_at, places_at, suspends, drops, spurns}
use Rattle.channel_model.specs.Effects.{after}
use Rattle.channel_model.specs.Needs.{Needs}
use Rattle.channel_model.specs.Histories.{replay, acts_of, Legal}
use Rattle.channel_model.specs.Laws.{NoneBelow}
use Rattle.channel_model.specs.Owing.{offers_up_to}
use Rattle.channel_model.specs.Answers.{AdmitAnswer, IsAdmittedBelow, IsTrimmed, is_put_at}
use Rattle.channel_model.proofs.Elements.{all_first, all_rest}
use Rattle.channel_model.proofs.Histories.{Legal-last, Legal-prefix, replay_push}
use Rattle.channel_model.proofs.Later.{given_later}
use Rattle.channel_model.proofs.Left.{put_here}
use Rattle.cell_words.specs.declared.hub.Hub.{Hub}
use Rattle.cell_words.specs.declared.pass.Pass.{Pass}
use Rattle.cell_words.specs.declared.found.Waiter.{Waiter}
use Rattle.word_rules.specs.Cells.{buffered, cell_of}
use Rattle.cell_words.specs.Hubs.{shape_of, seen_by, SameGiving}
use Rattle.cell_words.specs.Seen.{Seen, Sees}
use Rattle.cell_words.specs.Answers.{AdmitBelowAnswer, Offers, WasPut}
use Rattle.cell_words.proofs.CellsLast.{kept_more}
use Rattle.cell_words.proofs.LooksAtCells.{sees_then, given_seen}
use Rattle.cell_words.proofs.HeldWhereSendsWait.{is_offer, never_held}
use Rattle.cell_calls.specs.HubFloors.{hub_floor}
use Rattle.cell_calls.proofs.CallsTell.{looked_of, made_of, step_of, prefix_seen, no_more_places}
use Rattle.cell_words.proofs.WalksToAdmit.{sees_self}

-- ---- an admittance

pub admitted_of : (hub : Hub) (who : ℕ) (a b : Pass) (c mark : ℕ) → has_tag who (seen_by a).tags ≡ true → (answer : Option (ℕ × ℕ))
    → AdmitBelowAnswer (shape_of hub) who c mark (seen_by a) (seen_by b) answer
    → AdmitAnswer who c mark (hub_floor hub a) (hub_floor hub b) answer
admitted_of hub who a b c mark own (Some x) h = record {
  made =
      made_of hub who a b (seen_by a) (Admit c x.0) own (sees_self (seen_by a)) h.0.made;
  below = h.1;
  of = h.0.of;
}
admitted_of hub who a b c mark own None h = (
  looked_of hub who a b own (sees_then (seen_by a) h.then (seen_by b) h.sees h.later),
  step_of hub who a b h.then (IsAdmittedBelow (shape_of hub) c mark) h.sees (prefix_seen h.then (seen_by b) h.later) h.nothing,
)

pub admit_giving : (hub : Hub) (who : ℕ) (a b : Pass) (c mark : ℕ) → (answer : Option (ℕ × ℕ))
    → AdmitBelowAnswer (shape_of hub) who c mark (seen_by a) (seen_by b) answer → SameGiving a b
admit_giving hub who a b c mark (Some x) h = h.0.made.giving
admit_giving hub who a b c mark None h = h.later.giving ∙ h.sees.giving

-- ---- kinds that drop

more_than : (n : ℕ) → nat_lt n (n + 1) ≡ true
more_than n = grind (arith, nat_tests)

-- where elements are dropped, no send waits
pub dropping_waits_not : (kind : Kind) (most : ℕ) → ((n : ℕ) → drops kind n ≡ nat_lt most n) → suspends kind ≡ false
dropping_waits_not Rendezvous most h = let e : false ≡ true = h (most + 1) ∙ more_than most in cc
dropping_waits_not (Buffered k) most h = let e : false ≡ true = h (most + 1) ∙ more_than most in cc
dropping_waits_not Unlimited most h = refl
dropping_waits_not other most h = refl

-- and where the latest is not kept
as_many : (n : ℕ) → nat_le n n ≡ true
as_many n = grind (arith, nat_tests)

pub spurning_waits_not : (kind : Kind) (most : ℕ) → ((n : ℕ) → spurns kind n ≡ nat_le most n) → suspends kind ≡ false
spurning_waits_not Rendezvous most h = let e : false ≡ true = h most ∙ as_many most in cc
spurning_waits_not (Buffered k) most h = let e : false ≡ true = h most ∙ as_many most in cc
spurning_waits_not Unlimited most h = refl
spurning_waits_not other most h = refl

drops_none : (kind : Kind) → drops kind 0 ≡ false
drops_none (DropOldest k) = grind (arith, nat_tests)
drops_none other = refl

-- no offer waits in a channel that drops
pub nobody_waits : (shape : Shape) (c p : ℕ) (x : Waiter) (log : List Entry) → Legal shape log → suspends (kind_at shape c) ≡ false
    → Offers shape c p x log → ⊥
nobody_waits shape c p x log l kind h = true≢false (sym (ap is_offer h.cell) ∙ never_held shape c p kind log l)

-- an element that was put stands, or was removed
pub put_seen : (shape : Shape) (c p v : ℕ) (a b : Seen) → Sees a b → Legal shape b.seen → cell_of a.seen c p ≡ buffered v
    → WasPut c p v b.seen
put_seen shape c p v a b s l h = subst (WasPut c p v) (sym s.now)
    (kept_more shape c p v a.seen s.others (subst (Legal shape) s.now l) (inl h))

-- ---- nothing to drop

-- nothing is ever
pub trimmed_ever : (shape : Shape) (c mine : ℕ) (s : State) → ((n : ℕ) → drops (kind_at shape c) n ≡ false) → IsTrimmed shape c mine s
trimmed_ever shape c mine s h = h (offers_up_to mine (s.channels c).queue)

trimmed_count : (shape : Shape) (c mine : ℕ) (s : State) → offers_up_to mine (s.channels c).queue ≡ 0 → IsTrimmed shape c mine s
trimmed_count shape c mine s e = ap (drops (kind_at shape c)) e ∙ drops_none (kind_at shape c)

-- nothing stands
pub trimmed_empty : (shape : Shape) (c mine : ℕ) (s : State) → (s.channels c).queue ≡ [] → IsTrimmed shape c mine s
trimmed_empty shape c mine s e = trimmed_count shape c mine s (ap (offers_up_to mine) e)

above : (n mine p : ℕ) → mine < n → nat_le n p ≡ true → nat_le p mine ≡ false
above n mine p lt h = grind (arith, nat_tests)

none_up_to : (n mine : ℕ) (os : List Standing) → mine < n → list_all (λ (o : Standing). nat_le n o.place) os ≡ true
    → offers_up_to mine os ≡ 0
none_up_to n mine [] lt h = refl
none_up_to n mine (o ∷ os) lt h =
    let rest = none_up_to n mine os lt (all_rest (λ (o : Standing). nat_le n o.place) o os h) in
    let none : ◌≡◌ {A = ℕ} (cond (nat_le o.place mine) 1 0) 0 =
    ap {B = ℕ} (λ (b : Bool). cond b 1 0) (above n mine o.place lt (all_first (λ (o : Standing). nat_le n o.place) o os h)) in
    omega arith

-- nothing stands up to the own place
pub trimmed_below : (shape : Shape) (c mine n : ℕ) (s : State) → mine < n → NoneBelow 0 n (s.channels c) → IsTrimmed shape c mine s
trimmed_below shape c mine n s lt h = trimmed_count shape c mine s (none_up_to n mine (s.channels c).queue lt h.offers)

-- ---- an own Put has a place that was given out

same_place : (c p d q v : ℕ) → is_put_at c p (Put d q v) ≡ true → (d ≡ c) × (q ≡ p)
same_place c p d q v h = let t = and_parts (d == c) (q == p) h in (eqb-true d c t.0, eqb-true q p t.1)

module _ (shape : Shape) (who c p : ℕ) where
  -- right after the Put
  given_next : (xs : List Entry) (e : Entry) → Legal shape (xs ++ e ∷ []) → (act : Act) → e.act ≡ act → is_put_at c p act ≡ true
      → p < ((replay (xs ++ e ∷ [])).channels c).next
  given_next xs e l (Put d q v) is h =
      let n = subst (Needs shape (replay xs) e.who) is (Legal-last shape xs e l).1 in
      let at = same_place c p d q v h in
      subst (λ (s : State). p < (s.channels c).next) (sym (replay_push xs e ∙ ap (after (replay xs) e.who) is))
      (subst (λ (k : ℕ). p < ((after (replay xs) e.who (Put d q v)).channels k).next) at.0
      (subst (λ (ch : Channel). p < ch.next) (sym (put_here d _ (replay xs).channels)) (let f = n.1.first in let g = at.1 in omega arith)))
  given_next xs e l (Hand d q v) is h = cc
  given_next xs e l other is h = cc

  -- after its first entry, or after the others
  given_or : (xs : List Entry) (e : Entry) (es : List Entry) → Legal shape (xs ++ e ∷ es)
      → (Legal shape ((xs ++ e ∷ []) ++ es) → list_any (is_put_at c p) (acts_of who es) ≡ true
      → p < ((replay ((xs ++ e ∷ []) ++ es)).channels c).next)
      → (b : Bool) → list_any (is_put_at c p) (if b then e.act ∷ acts_of who es else acts_of who es) ≡ true
      → p < ((replay (xs ++ e ∷ es)).channels c).next
  given_or xs e es l later b h = subst (λ (hs : List Entry). p < ((replay hs).channels c).next) parts (by_test b h)
    where
      parts : (xs ++ e ∷ []) ++ es ≡ xs ++ e ∷ es
      parts = append_assoc xs (e ∷ []) es

      legal : Legal shape ((xs ++ e ∷ []) ++ es)
      legal = subst (Legal shape) (sym parts) l

      first : is_put_at c p e.act ≡ true → p < ((replay ((xs ++ e ∷ []) ++ es)).channels c).next
      first k = let n = given_next xs e (Legal-prefix shape (xs ++ e ∷ []) es legal) e.act refl k
          in let m = given_later shape (xs ++ e ∷ []) es c legal in omega arith

      first_or : (t : Bool) → is_put_at c p e.act ≡ t → (t || list_any (is_put_at c p) (acts_of who es)) ≡ true
          → p < ((replay ((xs ++ e ∷ []) ++ es)).channels c).next
      first_or true is k = first is
      first_or false is k = later legal k

      by_test : (t : Bool) → list_any (is_put_at c p) (if t then e.act ∷ acts_of who es else acts_of who es) ≡ true
          → p < ((replay ((xs ++ e ∷ []) ++ es)).channels c).next
      by_test true k = first_or (is_put_at c p e.act) refl k
      by_test false k = later legal k

  given_from : (xs ys : List Entry) → Legal shape (xs ++ ys) → list_any (is_put_at c p) (acts_of who ys) ≡ true
      → p < ((replay (xs ++ ys)).channels c).next
  unfolding acts_of
  given_from xs [] l h = cc
  given_from xs (e ∷ es) l h = given_or xs e es l (given_from (xs ++ e ∷ []) es) (e.who == who) h

  pub own_put_given : (log : List Entry) → Legal shape log → list_any (is_put_at c p) (acts_of who log) ≡ true
      → p < ((replay log).channels c).next
  own_put_given log l h = given_from [] log l h

  pub own_put_within : (log : List Entry) → Legal shape log → list_any (is_put_at c p) (acts_of who log) ≡ true → p < places_at shape c
  own_put_within log l h = let g = own_put_given log l h in let m = no_more_places shape log c (p + 1) l (omega arith) in omega arith

-- so it is later, and the channel does not end there
pub later_given : (shape : Shape) (who c p : ℕ) (v w : Seen) → Sees v w → Legal shape v.seen → Legal shape w.seen
    → list_any (is_put_at c p) (acts_of who v.seen) ≡ true → p < ((replay w.seen).channels c).next
later_given shape who c p v w s lv lw h =
    let g = own_put_given shape who c p v.seen lv h in
    let later : p + 1 ≤ ((replay w.seen).channels c).next = given_seen shape (p + 1) c v w s lw (omega arith) in
    omega arith

pub not_the_end : (shape : Shape) (who c p : ℕ) (v w : Seen) → Sees v w → Legal shape v.seen → Legal shape w.seen
    → list_any (is_put_at c p) (acts_of who v.seen) ≡ true → ((replay w.seen).channels c).next ≡ p → ⊥
not_the_end shape who c p v w s lv lw h end = let g = later_given shape who c p v w s lv lw h in omega (arith, end)
