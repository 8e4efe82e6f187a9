-- That a tag which was not given out has no entry stays so by each step.
use Rattle.std.proofs.Common.{◌≡◌, ℕ, ◌==◌, Bool, true, false, true≢false, List, [], ◌++◌, MatchBool, sym, ap, ◌∙◌, subst}
use mathlib.Core.Option.{some}
use Rattle.worded.specs.declared.view.View.{View}
use Rattle.worded.specs.Views.{has_tag, with_next, next_given, new_view, EachUngiven}
use Rattle.worded.specs.Histories.{entries_of}
use Rattle.worded.specs.Exchanges.{Loaded, Entered, Exchanged, Met, TookIn}
use Rattle.worded.proofs.TagsAndPrefixes.{entries_of_else, not_first}

-- a seat that gives out tags has seen no entry of one that it has not given out
abbrev pub NoneUngiven : {E K : Type 0} → (E → ℕ) → View E K → Type 0
NoneUngiven {E} {K} who = EachUngiven (λ t (v : View E K). entries_of who t v.seen ≡ [])

module _ {E K : Type 0} {legal : List E → Type 0} {fits : List E → ℕ → ℕ → Type 0} {who : E → ℕ} where
  pub none_loaded : {word n : ℕ} {v w : View E K} → Loaded legal fits who word n v w → NoneUngiven who w
  none_loaded l = subst (NoneUngiven who) (sym l.now) l.added.ungiven

  pub none_entered : {word old : ℕ} {e : E} {v w : View E K} → has_tag (who e) v.tags ≡ true → Entered legal fits who word old e v w
      → NoneUngiven who w
  none_entered {e = e} {v = v} own m = subst (NoneUngiven who) (sym m.now) (λ c t h. entries_of_else who t (v.seen ++ m.others) e
      (λ same. true≢false (sym (m.added.given_out c (who e) own) ∙ ap (λ n. has_tag n v.given) same ∙ h)) ∙ m.added.ungiven c t h)

  pub none_met : {v w : View E K} {seen : List E} → Met legal fits who v seen w → NoneUngiven who w
  none_met m = subst (NoneUngiven who) (sym m.now) m.ungiven

  pub none_ended : {v u w : View E K} → TookIn legal fits who v u w → NoneUngiven who w
  none_ended m = subst (NoneUngiven who) (sym m.now) m.ungiven

module _ {E K : Type 0} (legal : List E → Type 0) (fits : List E → ℕ → ℕ → Type 0) (who : E → ℕ) where
  -- what an exchange told, by cases
  pub by_exchange : (word old n : ℕ) (e : E) (v w : View E K) (P : Type 0) → (Entered legal fits who word old e v w → P)
      → (Loaded legal fits who word n v w → P) → Exchanged legal fits who word old n (some e) v w → P
  by_exchange word old n e v w P f g told = by_test (n == old) told
    where
      by_test : (b : Bool) → MatchBool b (Entered legal fits who word old e v w) (Loaded legal fits who word n v w) → P
      by_test true m = f m
      by_test false l = g l

  pub none_exchanged : (word old n : ℕ) (e : E) (v w : View E K) → has_tag (who e) v.tags ≡ true
      → Exchanged legal fits who word old n (some e) v w → NoneUngiven who w
  none_exchanged word old n e v w own told = by_exchange word old n e v w (NoneUngiven who w) (λ m. none_entered own m)
      (λ l. none_loaded l) told

module _ {E K : Type 0} (holds : ℕ → View E K → Type 0) where
  -- a seat that gives out a tag
  pub ungiven_giver : (v : View E K) (t : ℕ) → ((u : ℕ) → holds u v → holds u (next_given (with_next v t))) → EachUngiven holds v
      → EachUngiven holds (next_given (with_next v t))
  ungiven_giver v t still n c u h = still u (n c u (not_first u t v.given h).1)

  -- and the seat that it is given to, which gives out none
  pub ungiven_given : (v : View E K) → EachUngiven holds (new_view v)
  ungiven_given v c t h = absurd (true≢false (sym c))
