-- What a step, a meeting and an end say of a seat that was told nothing before, with the order of the entries of both parts.
use Rattle.std.specs.Prelude.{◌≡◌, ℕ, ◌==◌, Bool, true, false, List, [], ◌∷◌, ◌++◌, MatchBool}
use Rattle.std.proofs.Common.{sym, ap, ◌∙◌, subst, append_assoc, append-nil}
use mathlib.Core.Option.{some}
use mathlib.Core.List.{IsPrefix}
use Rattle.worded.specs.declared.view.View.{View}
use Rattle.worded.specs.Views as pair
use Rattle.worded.specs.Histories.{entries_of}
use Rattle.worded.specs.Exchanges.{Loaded, Entered, Exchanged, Met, TookIn}
use Rattle.worded.proofs.StepsOfSeats as steps
use Rattle.worded.proofs.TagsNotGiven.{by_exchange}
use Rattle.joined_words.specs.Seen.{SeenIn, order_in, view_of, tags_given, Sees, Turns, ExchangeAnswer, MeetAnswer, EndAnswer}

-- ---- the order goes on

module _ {E S : Type 0} (sides : E → List S) where
  pub order-append : (xs ys : List E) → order_in sides (xs ++ ys) ≡ order_in sides xs ++ order_in sides ys
  order-append [] ys = sym (append-nil (order_in sides ys)) ∙ append-nil (order_in sides ys)
  order-append (x ∷ xs) ys = ap (λ (l : List S). sides x ++ l) (order-append xs ys)
      ∙ sym (append_assoc (sides x) (order_in sides xs) (order_in sides ys))

  pub order_of_prefix : (xs ys : List E) → IsPrefix xs ys → IsPrefix (order_in sides xs) (order_in sides ys)
  order_of_prefix xs ys p = (order_in sides p.0, sym (order-append xs p.0) ∙ ap (order_in sides) p.1)

module _ {E K S : Type 0} (sides : E → List S) (legal : List E → Type 0) (fits : List E → ℕ → ℕ → Type 0) (who : E → ℕ) where
  pub order_loaded : (word n : ℕ) (v w : View E K) → Loaded legal fits who word n v w
      → IsPrefix (order_in sides v.seen) (order_in sides w.seen) × (w.given ≡ v.given)
  order_loaded word n v w l = (
    order_of_prefix sides v.seen w.seen (l.others, sym (ap (λ (x : View E K). x.seen) l.now)),
    ap (λ (x : View E K). x.given) l.now,
  )

  pub order_exchanged : (word old n : ℕ) (e : E) (v w : View E K) → Exchanged legal fits who word old n (some e) v w
      → IsPrefix (order_in sides v.seen) (order_in sides w.seen) × (w.given ≡ v.given)
  order_exchanged word old n e v w told = by_exchange legal fits who word old n e v w
      (IsPrefix (order_in sides v.seen) (order_in sides w.seen) × (w.given ≡ v.given))
      (λ m. (
        order_of_prefix sides v.seen w.seen
            (m.others ++ e ∷ [], sym (append_assoc v.seen m.others (e ∷ [])) ∙ sym (ap (λ (x : View E K). x.seen) m.now)),
        ap (λ (x : View E K). x.given) m.now,
      )) (λ l. order_loaded word n v w l) told

  pub order_met : (v : View E K) (seen : List E) (w : View E K) → Met legal fits who v seen w
      → IsPrefix (order_in sides v.seen) (order_in sides w.seen) × IsPrefix (order_in sides seen) (order_in sides w.seen)
      × (w.given ≡ v.given)
  order_met v seen w m =
      let now : w.seen ≡ v.seen ++ m.others = ap (λ (x : View E K). x.seen) m.now in (
        order_of_prefix sides v.seen w.seen (m.others, sym now),
        order_of_prefix sides seen w.seen (subst (IsPrefix seen) (sym now) m.told),
        ap (λ (x : View E K). x.given) m.now,
      )

  pub order_ended : (v u w : View E K) → TookIn legal fits who v u w
      → IsPrefix (order_in sides v.seen) (order_in sides w.seen) × IsPrefix (order_in sides u.seen) (order_in sides w.seen)
      × (w.given ≡ v.given)
  order_ended v u w m =
      let now : w.seen ≡ v.seen ++ m.others = ap (λ (x : View E K). x.seen) m.now in (
        order_of_prefix sides v.seen w.seen (m.others, sym now),
        order_of_prefix sides u.seen w.seen (subst (IsPrefix u.seen) (sym now) m.told),
        ap (λ (x : View E K). x.given) m.now,
      )

-- ---- what is told of a part, with the order

giving_all : {F L S : Type 0} (v w : SeenIn F L S) → pair.tags_given (view_of w) ≡ pair.tags_given (view_of v) → w.given_all ≡ v.given_all
    → tags_given w ≡ tags_given v
giving_all v w part all i = ((part i).0, (part i).1, all i)

module _ {F L S : Type 0} {legal : List F → Type 0} {fits : List F → ℕ → ℕ → Type 0} {who : F → ℕ} where
  pub sees_of : (word n : ℕ) (v w : SeenIn F L S) → v.heard_tags ≡ []
      → IsPrefix v.order w.order × (w.given_all ≡ v.given_all)
      → Loaded legal fits who word n (view_of v) (view_of w) → Sees who v w
  sees_of word n v w idle order h = let s = steps.sees_of idle h in
      record { others = s.others; now = s.now; apart = s.apart; tags = s.tags; giving = giving_all v w s.giving order.1; order = order.0 }

  -- a meeting shows what a look shows
  pub sees_of_met : (v w : SeenIn F L S) {seen : List F} → v.heard_tags ≡ []
      → IsPrefix v.order w.order × (w.given_all ≡ v.given_all) → Met legal fits who (view_of v) seen (view_of w) → Sees who v w
  sees_of_met v w idle order m = record {
    others = m.others;
    now = ap (λ (x : View F L). x.seen) m.now;
    apart = m.apart;
    tags = ap (λ (x : View F L). x.tags) m.now ∙ ap (λ (l : List ℕ). v.tags ++ l) idle ∙ append-nil v.tags;
    giving = giving_all v w (ap (λ (x : View F L). (x.chief, x.given)) m.now) order.1;
    order = order.0;
  }

  pub turns_of : (word old : ℕ) (e : F) (v w : SeenIn F L S) → v.heard_tags ≡ []
      → IsPrefix v.order w.order × (w.given_all ≡ v.given_all)
      → Entered legal fits who word old e (view_of v) (view_of w) → Turns fits who word old e v w
  turns_of word old e v w idle order h = let t = steps.turns_of idle h in record {
    made = record {
      others = t.made.others;
      now = t.made.now;
      apart = t.made.apart;
      tags = t.made.tags;
      giving = giving_all v w t.made.giving order.1;
      order = order.0;
    };
    found = t.found;
  }

  pub meet_answer : (same : ℕ → List F → List F → Type 0)
      → ((t : ℕ) (xs ys : List F) → entries_of who t ys ≡ entries_of who t xs → same t xs ys) → (v u w : SeenIn F L S) → v.heard_tags ≡ []
      → IsPrefix v.order w.order × IsPrefix u.order w.order × (w.given_all ≡ v.given_all)
      → Met legal fits who (view_of v) u.seen (view_of w) → MeetAnswer same v u w
  meet_answer same f v u w idle order h = let m = steps.meet_answer same f {u = view_of u} idle h in record {
    goes_on = m.goes_on;
    told = m.told;
    own = m.own;
    tags = m.tags;
    giving = giving_all v w m.giving order.2;
    order = order.0;
    told_order = order.1;
  }

  pub end_answer : (same : ℕ → List F → List F → Type 0)
      → ((t : ℕ) (xs ys : List F) → entries_of who t ys ≡ entries_of who t xs → same t xs ys) → (v u w : SeenIn F L S)
      → IsPrefix v.order w.order × IsPrefix u.order w.order × (w.given_all ≡ v.given_all)
      → TookIn legal fits who (view_of v) (view_of u) (view_of w)
      → EndAnswer same v u w
  end_answer same f v u w order h = let m = steps.end_answer same f h in record {
    goes_on = m.goes_on;
    told = m.told;
    own = m.own;
    taken = m.taken;
    callers = m.callers;
    giving = giving_all v w m.giving order.2;
    order = order.0;
    told_order = order.1;
  }

module _ {F L S : Type 0} (legal : List F → Type 0) (fits : List F → ℕ → ℕ → Type 0) (who : F → ℕ) where
  pub told_of : (word old n : ℕ) (e : F) (v w : SeenIn F L S) → v.heard_tags ≡ []
      → IsPrefix v.order w.order × (w.given_all ≡ v.given_all)
      → Exchanged legal fits who word old n (some e) (view_of v) (view_of w) → ExchangeAnswer fits who word old e v w n
  told_of word old n e v w idle order told = by_test (n == old) told
    where
      by_test : (b : Bool)
          → MatchBool b (Entered legal fits who word old e (view_of v) (view_of w)) (Loaded legal fits who word n (view_of v) (view_of w))
          → MatchBool b (Turns fits who word old e v w) (Sees who v w × fits w.seen word n)
      by_test true m = turns_of word old e v w idle order m
      by_test false l = (sees_of word n v w idle order l, steps.fits_of l)
