-- What a step, a meeting and an end say of a seat that was told nothing before.
use Rattle.std.specs.Prelude.{◌≡◌, ℕ, ◌==◌, Bool, true, false, List, [], ◌∷◌, ◌++◌, MatchBool, refl}
use Rattle.std.proofs.Common.{sym, ap, ◌∙◌, subst, append-nil}
use mathlib.Core.Option.{some}
use mathlib.Core.List.{IsPrefix}
use Rattle.worded.specs.declared.view.View.{View}
use Rattle.worded.specs.Views.{has_tag, tags_given, first_view, EachUngiven}
use Rattle.worded.specs.Histories.{entries_of}
use Rattle.worded.specs.Exchanges.{Loaded, Entered, Exchanged, Met, TookIn}
use Rattle.worded.specs.Steps.{Sees, Turns, ExchangeAnswer, MeetAnswer, EndAnswer}
use Rattle.worded.proofs.TagsAndPrefixes.{entries_of-append}
use Rattle.worded.proofs.TagsHeld.{has_tag-or}
use Rattle.worded.proofs.TagsNotGiven.{NoneUngiven, by_exchange, none_loaded, none_entered, none_met, none_ended}

-- others' entries are not the own
pub still_own : {E : Type 0} (who : E → ℕ) (t : ℕ) (xs others : List E) → entries_of who t others ≡ []
    → entries_of who t (xs ++ others) ≡ entries_of who t xs
still_own {E} who t xs others e = entries_of-append who t xs others ∙ ap (λ (l : List E). entries_of who t xs ++ l) e
    ∙ append-nil (entries_of who t xs)

module _ {E K : Type 0} {legal : List E → Type 0} {fits : List E → ℕ → ℕ → Type 0} {who : E → ℕ} where
  pub sees_of : {word n : ℕ} {v w : View E K} → v.heard_tags ≡ [] → Loaded legal fits who word n v w → Sees who v w
  sees_of {v = v} idle h = record {
    others = h.others;
    now = ap (λ (u : View E K). u.seen) h.now;
    apart = h.added.apart;
    tags = ap (λ (u : View E K). u.tags) h.now ∙ ap (λ (l : List ℕ). v.tags ++ l) idle ∙ append-nil v.tags;
    giving = ap tags_given h.now;
  }

  pub fits_of : {word n : ℕ} {v w : View E K} → Loaded legal fits who word n v w → fits w.seen word n
  fits_of {word = word} {n = n} h = subst (λ (l : List E). fits l word n) (sym (ap (λ (u : View E K). u.seen) h.now)) h.found

  pub turns_of : {word old : ℕ} {e : E} {v w : View E K} → v.heard_tags ≡ [] → Entered legal fits who word old e v w
      → Turns fits who word old e v w
  turns_of {v = v} idle h = record {
    made = record {
      others = h.others;
      now = ap (λ (u : View E K). u.seen) h.now;
      apart = h.added.apart;
      tags = ap (λ (u : View E K). u.tags) h.now ∙ ap (λ (l : List ℕ). v.tags ++ l) idle ∙ append-nil v.tags;
      giving = ap tags_given h.now;
    };
    found = h.found;
  }

  -- `same` holds where the entries of the tag are the same
  pub meet_answer : (same : ℕ → List E → List E → Type 0)
      → ((t : ℕ) (xs ys : List E) → entries_of who t ys ≡ entries_of who t xs → same t xs ys) → {v u w : View E K} → v.heard_tags ≡ []
      → Met legal fits who v u.seen w → MeetAnswer same v u w
  meet_answer same f {v = v} {u = u} {w = w} idle m = record {
    goes_on = (m.others, sym now);
    told = subst (IsPrefix u.seen) (sym now) m.told;
    own = λ t h. f t v.seen w.seen (ap (entries_of who t) now ∙ still_own who t v.seen m.others (m.apart t h));
    tags = ap (λ (x : View E K). x.tags) m.now ∙ ap (λ (l : List ℕ). v.tags ++ l) idle ∙ append-nil v.tags;
    giving = ap tags_given m.now;
  }
    where
      now : w.seen ≡ v.seen ++ m.others
      now = ap (λ (x : View E K). x.seen) m.now

  pub end_answer : (same : ℕ → List E → List E → Type 0)
      → ((t : ℕ) (xs ys : List E) → entries_of who t ys ≡ entries_of who t xs → same t xs ys) → {v u w : View E K}
      → TookIn legal fits who v u w → EndAnswer same v u w
  end_answer same f {v = v} {u = u} {w = w} m = record {
    goes_on = (m.others, sym now);
    told = subst (IsPrefix u.seen) (sym now) m.told;
    own = λ t h. f t v.seen w.seen (ap (entries_of who t) now ∙ still_own who t v.seen m.others (m.apart t h));
    taken = λ t h. f t u.seen w.seen (ap (entries_of who t) now ∙ m.given_to t h);
    callers = λ t. ap (λ (x : View E K). has_tag t x.tags) m.now ∙ has_tag-or t v.tags u.tags;
    giving = ap tags_given m.now;
  }
    where
      now : w.seen ≡ v.seen ++ m.others
      now = ap (λ (x : View E K). x.seen) m.now

module _ {E K : Type 0} (legal : List E → Type 0) (fits : List E → ℕ → ℕ → Type 0) (who : E → ℕ) where
  pub told_of : (word old n : ℕ) (e : E) (v w : View E K) → v.heard_tags ≡ [] → Exchanged legal fits who word old n (some e) v w
      → ExchangeAnswer fits who word old e v w n
  told_of word old n e v w idle told = by_test (n == old) told
    where
      by_test : (b : Bool) → MatchBool b (Entered legal fits who word old e v w) (Loaded legal fits who word n v w)
          → MatchBool b (Turns fits who word old e v w) (Sees who v w × fits w.seen word n)
      by_test true m = turns_of idle m
      by_test false l = (sees_of idle l, fits_of l)

-- ---- the laws of a seat

-- it has this key, has seen a legal history, and this holds of each tag that it may give out and has not
pub record HasLaws {E K : Type 0} (legal : K → List E → Type 0) (none : ℕ → View E K → Type 0) (k : K) (w : View E K) : Type 0 where
  pub key : w.key ≡ k
  pub legal_seen : legal w.key w.seen
  pub ungiven : EachUngiven none w

module _ {E K : Type 0} (legal : K → List E → Type 0) (who : E → ℕ) (none : ℕ → View E K → Type 0)
    (follows : (v : View E K) → legal v.key v.seen → (t : ℕ) → entries_of who t v.seen ≡ [] → none t v) where
  has_laws : (k : K) (w : View E K) (log : List E) → w.key ≡ k → w.seen ≡ log → legal k log → NoneUngiven who w → HasLaws legal none k w
  has_laws k w log key is h n = record { key = key; legal_seen = seen; ungiven = λ c t u. follows w seen t (n c t u) }
    where
      seen : legal w.key w.seen
      seen = subst (λ (x : K × List E). legal x.0 x.1) (λ i. (sym key i, sym is i)) h

  pub laws_loaded : {fits : List E → ℕ → ℕ → Type 0} {k : K} {word n : ℕ} {v w : View E K} → v.key ≡ k
      → Loaded (legal k) fits who word n v w → HasLaws legal none k w
  laws_loaded {k = k} {v = v} {w = w} key l = has_laws k w (v.seen ++ l.others) (ap (λ (x : View E K). x.key) l.now ∙ key)
      (ap (λ (x : View E K). x.seen) l.now) l.added.is_legal (none_loaded l)

  pub laws_exchanged : (fits : List E → ℕ → ℕ → Type 0) (k : K) (word old n : ℕ) (e : E) (v w : View E K) → v.key ≡ k
      → has_tag (who e) v.tags ≡ true → Exchanged (legal k) fits who word old n (some e) v w → HasLaws legal none k w
  laws_exchanged fits k word old n e v w key own told = by_exchange (legal k) fits who word old n e v w (HasLaws legal none k w)
      (λ m. has_laws k w ((v.seen ++ m.others) ++ e ∷ []) (ap (λ (x : View E K). x.key) m.now ∙ key) (ap (λ (x : View E K). x.seen) m.now)
      m.is_legal (none_entered own m)) (λ l. laws_loaded key l) told

  pub laws_met : {fits : List E → ℕ → ℕ → Type 0} {k : K} {v w : View E K} {seen : List E} → v.key ≡ k
      → Met (legal k) fits who v seen w → HasLaws legal none k w
  laws_met {k = k} {v = v} {w = w} key m = has_laws k w (v.seen ++ m.others) (ap (λ (x : View E K). x.key) m.now ∙ key)
      (ap (λ (x : View E K). x.seen) m.now) m.is_legal (none_met m)

  pub laws_ended : {fits : List E → ℕ → ℕ → Type 0} {k : K} {v u w : View E K} → v.key ≡ k
      → TookIn (legal k) fits who v u w → HasLaws legal none k w
  laws_ended {k = k} {v = v} {w = w} key m = has_laws k w (v.seen ++ m.others) (ap (λ (x : View E K). x.key) m.now ∙ key)
      (ap (λ (x : View E K). x.seen) m.now) m.is_legal (none_ended m)

  -- the first seat
  pub laws_first : (k : K) (w : View E K) → w ≡ first_view k → legal k [] → HasLaws legal none k w
  laws_first k w is h = has_laws k w [] (ap (λ (x : View E K). x.key) is) (ap (λ (x : View E K). x.seen) is) h
      (subst (NoneUngiven who) (sym is) none_yet)
    where
      none_yet : NoneUngiven who (first_view {E = E} k)
      none_yet c t h = refl
