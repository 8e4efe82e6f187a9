-- The acts of a tag, by its entries.
use Rattle.std.specs.Prelude.{◌≡◌, ℕ, ◌==◌, Bool, true, false, List, [], ◌∷◌, if◌then◌else◌, refl}
use Rattle.std.proofs.Common.{sym, ap, ◌∙◌}
use Rattle.worded.specs.Histories.{entries_of}
use Rattle.worded.specs.declared.view.View.{View}
use Rattle.channel_model.specs.declared.acts.Act.{Act}
use Rattle.channel_model.specs.declared.acts.Entry.{Entry}
use Rattle.channel_model.specs.Histories.{Legal, acts_of}
use Rattle.word_rules.specs.declared.layout.Layout.{Layout}
use Rattle.cell_words.specs.Seen.{NothingOf}
use Rattle.word_rules.specs.Words.{maker}

-- the acts of these entries
abbrev pub acts_in : List Entry → List Act
acts_in [] = []
acts_in (e ∷ es) = e.act ∷ acts_in es

pub acts_of_entries : (t : ℕ) (es : List Entry) → acts_of t es ≡ acts_in (entries_of maker t es)
unfolding acts_of
acts_of_entries t [] = refl
acts_of_entries t (e ∷ es) = by_test (e.who == t) (acts_of_entries t es)
  where
    by_test : (b : Bool) → acts_of t es ≡ acts_in (entries_of maker t es)
        → (if b then e.act ∷ acts_of t es else acts_of t es) ≡ acts_in (if b then e ∷ entries_of maker t es else entries_of maker t es)
    by_test true h = ap (λ (l : List Act). e.act ∷ l) h
    by_test false h = h

-- whose entries are the same, its acts are
pub same_acts : (t : ℕ) (old new : List Entry) → entries_of maker t new ≡ entries_of maker t old → acts_of t new ≡ acts_of t old
same_acts t old new e = acts_of_entries t new ∙ ap acts_in e ∙ sym (acts_of_entries t old)

pub no_acts : (t : ℕ) (es : List Entry) → entries_of maker t es ≡ [] → acts_of t es ≡ []
no_acts t es e = acts_of_entries t es ∙ ap acts_in e

-- ---- the laws of a pass

abbrev pub legal_at : Layout → List Entry → Type 0
legal_at k = Legal k.kinds

pub nothing_of : (v : View Entry Layout) → legal_at v.key v.seen → (t : ℕ) → entries_of maker t v.seen ≡ [] → NothingOf t v
nothing_of v h t e = no_acts t v.seen e
