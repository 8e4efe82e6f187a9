-- A forest as it is made.
use Rattle.std.specs.Prelude.{◌≡◌, ◌≢◌, ℕ, ◌+◌, ◌==◌, Bool, true, false, List, [], ◌∷◌, if◌then◌else◌, refl}
use Rattle.std.proofs.Common.{sym, ap, ◌∙◌, subst, arith, get_or, eq-eqb, ne_eqb}
use Rattle.co_base.specs.Orders.{Side}
use mathlib.Core.Logic.{dite}
use native.Mathlib.Decide.{ℕ_discrete}
use Rattle.job_model.specs.Floors.{IsFreshFloor}
use Rattle.channel_model.specs.Channels.{Shape as ChannelShape}
use Rattle.channel_model.specs.Histories.{Legal, LegalFrom}
use Rattle.worded.specs.declared.view.View.{View}
use Rattle.worded.specs.Views.{has_tag, first_view, having_seen, told_by, with_next, next_given, new_view}
use Rattle.worded.specs.Histories.{entries_of}
use Rattle.worded.specs.Exchanges.{TookIn}
use Rattle.word_rules.specs.Words as cells
use Rattle.word_rules.specs.declared.size.ForestSize.{ForestSize}
use Rattle.word_rules.specs.Deeds.{history_of, store_from, Fits}
use Rattle.word_rules.proofs.FirstRows.{first_words_fit}
use Rattle.job_words.specs.Passes.{floor_of}

-- the word that the root has, by its place among those of the forest
ninth : (i : ℕ) → ◌≡◌ {A = ℕ} (if (9 + i) == 9 then 2 else 0) (if i == 0 then 2 else 0)
ninth i = ap (λ (b : Bool). if b then 2 else 0) (dite (ℕ_discrete i 0)
    (λ e. eq-eqb (9 + i) 9 (omega arith) ∙ sym (eq-eqb i 0 e)) (λ ne. ne_eqb (9 + i) 9 (λ k. ne (omega arith)) ∙ sym (ne_eqb i 0 ne)))

-- behind the words of no channel
pub first_fits : (ws : List ℕ) → ((i : ℕ) → get_or ws i 0 ≡ (if i == 9 then 2 else 0)) → (kinds : ChannelShape) → kinds ≡ []
    → (size : ForestSize) (i : ℕ) → Fits size [] i (get_or ws ((8 + cells.word_count kinds) + i) 0)
first_fits ws h kinds none size i = subst (λ (k : ChannelShape). Fits size [] i (get_or ws ((8 + cells.word_count k) + i) 0)) (sym none)
    (first_words_fit (λ j. get_or ws (9 + j) 0) (λ j. h (9 + j) ∙ ninth j) size i)

pub no_entries : (shape : ChannelShape) → Legal shape []
unfolding LegalFrom
no_entries shape = tt

-- ---- the first seat, with a tag of both parts

-- an entry of nobody is none
no_entry : {E : Type 0} (who : E → ℕ) (es : List E) → ((t : ℕ) → entries_of who t es ≡ []) → es ≡ []
no_entry who [] h = refl
no_entry who (e ∷ es) h = absurd (cons_ne e (entries_of who (who e) es)
    (sym (ap (λ (b : Bool). if b then e ∷ entries_of who (who e) es else entries_of who (who e) es) (eq-eqb (who e) (who e) refl))
    ∙ h (who e)))
  where
    cons_ne : {E : Type 0} (e : E) (es : List E) → e ∷ es ≡ [] → ⊥
    cons_ne e es is = cc

module _ {E K : Type 0} (legal : List E → Type 0) (fits : List E → ℕ → ℕ → Type 0) (who : E → ℕ) (key : K) where
  -- the first seat as it is made, as it has given out the tag 1, and the seat of that tag
  abbrev made : View E K
  made = first_view key

  abbrev giver : View E K
  giver = next_given (with_next made 1)

  abbrev given : View E K
  given = new_view (with_next made 1)

  -- who took in the one other seat knows that nobody made an entry: every tag is its own, or was not given out
  none_added : (w : View E K) → (m : TookIn legal fits who giver given w) → m.others ≡ []
  none_added w m = no_entry who m.others (λ t. dite (ℕ_discrete t 0) (λ e. m.apart t (ap (λ n. has_tag n (0 ∷ [])) e))
      (λ n. dite (ℕ_discrete t 1) (λ e. m.given_to t (ap (λ n. has_tag n (1 ∷ [])) e)) (λ o. m.ungiven refl t (not_among t n o))))
    where
      not_among : (t : ℕ) → t ≢ 0 → t ≢ 1 → has_tag t (1 ∷ 0 ∷ []) ≡ false
      not_among t n o = ap (λ (b : Bool). if b then true else has_tag t (0 ∷ [])) (ne_eqb t 1 o)
          ∙ ap (λ (b : Bool). if b then true else false) (ne_eqb t 0 n)

  pub took_both : (u v x w : View E K) → u ≡ made → v ≡ next_given (with_next u 1) → x ≡ new_view (with_next u 1)
      → TookIn legal fits who v x w → w ≡ having_seen (told_by giver given) []
  took_both u v x w eu ev ex m =
      let m' = subst (λ (p : View E K × View E K). TookIn legal fits who p.0 p.1 w)
      (λ i. ((ev ∙ ap (λ y. next_given (with_next y 1)) eu) i, (ex ∙ ap (λ y. new_view (with_next y 1)) eu) i)) m in
      m'.now ∙ ap (having_seen (told_by giver given)) (none_added w m')

pub fresh : (size : ForestSize) (tags : List ℕ) (order : List Side)
    → IsFreshFloor (record { coroutines = size.coroutines; rows = size.rows })
    (floor_of size tags [] order)
unfolding history_of store_from
fresh size tags order = record { shape = refl; seen = refl; claims = λ r. refl }
