-- What holds of a seat of the table, and of what it knows of the channels.
use Rattle.std.proofs.Common.{◌≡◌, ℕ, ◌/◌, ◌%◌, ◌^◌, ◌<◌, ◌≤◌, Bool, true, if◌then◌else◌, ne_eqb, List, [], ◌∷◌, ◌++◌, length, sym, ap, ◌∙◌, subst, arith, append-nil}
use mathlib.Core.Option.{some}
use Rattle.atomic_table.specs.Seated.{TableId}
use Rattle.atomic_table.specs.declared.shared.Seat.{Seat}
use Rattle.worded.specs.declared.view.View.{View}
use Rattle.worded.specs.Views.{IsIdleSeatOf, SameSeat, has_tag, is_bare, having_seen, told_by}
use Rattle.worded.specs.Exchanges.{Loaded, Exchanged}
use Rattle.worded.proofs.TagsNotGiven.{by_exchange}
use Rattle.either.specs.declared.Either.{Either}
use Rattle.joined_words.specs.Parts.{tag_in, tags_in}
use Rattle.joined_words.proofs.PartsOfLists.{has_tag-in}
use Rattle.channel_model.specs.declared.acts.Entry.{Entry}
use Rattle.channel_model.specs.Channels.{Shape}
use Rattle.word_rules.specs.declared.deed.Deed.{Deed}
use Rattle.word_rules.specs.declared.layout.Layout.{Layout}
use Rattle.word_rules.specs.declared.size.ForestSize.{ForestSize}
use Rattle.word_rules.specs.Words.{cells_in}
use Rattle.cell_words.specs.Sizes.{IsSized, table_words}
use Rattle.cell_words.specs.Seen.{Known, on_channels}

pub key_on : (v : Known) (k : Layout × ForestSize) → v.key ≡ k → (on_channels v).key ≡ k.0
unfolding on_channels
key_on v k is = ap (λ (x : Layout × ForestSize). x.0) is

pub heard_on : (v : Known) → v.heard_tags ≡ [] → (on_channels v).heard_tags ≡ []
unfolding on_channels
heard_on v is = ap (tags_in 0) is

-- a tag of the channels, as the table has it
pub whole_tag : (who : ℕ) (v : Known) → has_tag who (on_channels v).tags ≡ true → has_tag (tag_in 0 who) v.tags ≡ true
unfolding on_channels
whole_tag who v own = sym (has_tag-in 0 who v.tags (omega arith)) ∙ own

-- a tag of the rows is none of the channels
pub gave_beside : (t : ℕ) (ts : List ℕ) → tags_in 0 (tag_in 1 t ∷ ts) ≡ tags_in 0 ts
gave_beside t ts = ap (λ (b : Bool). if b then tag_in 1 t / 2 ∷ tags_in 0 ts else tags_in 0 ts)
    (ne_eqb (tag_in 1 t % 2) 0 (λ e. omega (arith, e)))

-- ---- how many words

pub channels_few : (shape : Shape) → length shape ≤ cells_in shape
channels_few [] = omega arith
channels_few (x ∷ xs) = let h = channels_few xs in omega arith

-- the table has all its words, and they are few
pub words_few : {words cells : ℕ} {key : Layout × ForestSize} {kinds : Shape} {firsts : List ℕ} → IsSized words key kinds firsts cells
    → (words ≡ table_words key) × (table_words key < 2 ^ 64)
words_few {key = key} s =
    let n = channels_few key.0.kinds in
    let f = s.few in
    let r = s.rows in
    (s.wide, omega (arith, n, f, r))

pub words_some : {words cells : ℕ} {key : Layout × ForestSize} {kinds : Shape} {firsts : List ℕ} → IsSized words key kinds firsts cells
    → (words ≡ table_words key) × (0 < table_words key)
words_some s = (s.wide, omega arith)

-- so has the same table, as it was lent
pub words_at : {id lent : TableId} {key same : Layout × ForestSize} → lent ≡ id → same ≡ key
    → (id.words ≡ table_words key) × (table_words key < 2 ^ 64) → (lent.words ≡ table_words same) × (table_words same < 2 ^ 64)
words_at i k w = (
  ap (λ (x : TableId). x.words) i ∙ w.0
      ∙ sym (ap table_words k),
  subst (λ (x : Layout × ForestSize). table_words x < 2 ^ 64)
      (sym k) w.1,
)

pub some_at : {id lent : TableId} {key same : Layout × ForestSize} → lent ≡ id → same ≡ key
    → (id.words ≡ table_words key) × (0 < table_words key) → (lent.words ≡ table_words same) × (0 < table_words same)
some_at i k w = (
  ap (λ (x : TableId). x.words) i ∙ w.0 ∙ sym (ap table_words k),
  subst (λ (x : Layout × ForestSize). 0 < table_words x)
      (sym k) w.1,
)

-- ---- seats that were told nothing

abbrev pub HubSeat : Type 0
HubSeat = Seat (Either Entry Deed) Known

-- after each step a seat has seen all that it was told
pub idle_after : (table : TableId) (key : Layout × ForestSize) (old new : HubSeat) (log : List (Either Entry Deed))
    → IsIdleSeatOf table key old → SameSeat old new → new.me.0 ≡ having_seen old.me.0 log → IsIdleSeatOf table key new
idle_after table key old new log idle same is = (
  same.0 ∙ idle.0,
  ap (λ (v : Known). v.key) is ∙ idle.1,
  ap (λ (v : Known). v.heard_tags) is,
  subst (λ (l : List (ℕ × Either Entry Deed)). is_bare l ≡ true) (sym same.2) idle.3,
)

-- and after one that shows nothing it is as it was
pub idle_same : (table : TableId) (key : Layout × ForestSize) (old new : HubSeat) → IsIdleSeatOf table key old → SameSeat old new
    → new.me.0 ≡ old.me.0 → IsIdleSeatOf table key new
idle_same table key old new idle same is = (
  same.0 ∙ idle.0,
  ap (λ (v : Known). v.key) is ∙ idle.1,
  ap (λ (v : Known). v.heard_tags) is ∙ idle.2,
  subst (λ (l : List (ℕ × Either Entry Deed)). is_bare l ≡ true) (sym same.2) idle.3,
)

-- who took in another has seen all that it was told with its tags
pub idle_ended : (table : TableId) (key : Layout × ForestSize) (old : HubSeat) (u : Known) (new : HubSeat)
    (log : List (Either Entry Deed)) → IsIdleSeatOf table key old → SameSeat old new → new.me.0 ≡ having_seen (told_by old.me.0 u) log
    → IsIdleSeatOf table key new
idle_ended table key old u new log idle same is = (
  same.0 ∙ idle.0,
  ap (λ (v : Known). v.key) is ∙ idle.1,
  ap (λ (v : Known). v.heard_tags) is,
  subst (λ (l : List (ℕ × Either Entry Deed)). is_bare l ≡ true) (sym same.2) idle.3,
)

-- and it has the tags that it had
same_tags : {E K : Type 0} (v w : View E K) (log : List E) → v.heard_tags ≡ [] → w ≡ having_seen v log → w.tags ≡ v.tags
same_tags {E} {K} v w log idle is = ap (λ (u : View E K). u.tags) is ∙ ap (λ (l : List ℕ). v.tags ++ l) idle ∙ append-nil v.tags

module _ {E K : Type 0} {legal : List E → Type 0} {fits : List E → ℕ → ℕ → Type 0} {who : E → ℕ} where
  pub tags_loaded : {word n : ℕ} {v w : View E K} → v.heard_tags ≡ [] → Loaded legal fits who word n v w → w.tags ≡ v.tags
  tags_loaded {v = v} {w = w} idle l = same_tags v w (v.seen ++ l.others) idle l.now

module _ {E K : Type 0} (legal : List E → Type 0) (fits : List E → ℕ → ℕ → Type 0) (who : E → ℕ) where
  pub tags_exchanged : (word old n : ℕ) (e : E) (v w : View E K) → v.heard_tags ≡ [] → Exchanged legal fits who word old n (some e) v w
      → w.tags ≡ v.tags
  tags_exchanged word old n e v w idle told = by_exchange legal fits who word old n e v w (w.tags ≡ v.tags)
      (λ m. same_tags v w ((v.seen ++ m.others) ++ e ∷ []) idle m.now) (λ l. tags_loaded idle l) told
