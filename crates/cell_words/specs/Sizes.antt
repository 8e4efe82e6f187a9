-- How large a hub is.
use Rattle.std.specs.Prelude.{◌≡◌, ℕ, ◌<◌, List, length, slice_index}
use Rattle.joined_words.specs.Joints.{joint_size}
use Rattle.channel_model.specs.Channels.{Shape, IsShape}
use Rattle.word_rules.specs.declared.layout.Layout.{Layout}
use Rattle.word_rules.specs.declared.size.ForestSize.{ForestSize}
use Rattle.word_rules.specs.Words.{base, cells_in, word_count}
use Rattle.word_rules.specs.Deeds as rows

-- the numbers of the first cells of the first n channels
pub record AreFirsts (shape : Shape) (n : ℕ) (firsts : List ℕ) : Type 0 where
  pub count : length firsts ≡ n
  pub first : (c : ℕ) → c < n → slice_index firsts c ≡ base shape c

-- how many words the table of channels and rows has
abbrev pub table_words : Layout × ForestSize → ℕ
table_words = joint_size (λ (layout : Layout). word_count layout.kinds) rows.word_count

-- the table has the words of these channels, and of rows that some forest has; a hub keeps the kinds, the number of the first cell of
-- each channel, and how many cells there are
pub record IsSized (words : ℕ) (key : Layout × ForestSize) (kinds : Shape) (firsts : List ℕ) (cells : ℕ) : Type 0 where
  pub wide : words ≡ table_words key
  pub rows : key.1.rows < 65536
  pub same : kinds ≡ key.0.kinds
  pub count : length firsts ≡ length key.0.kinds
  pub first : (c : ℕ) → c < length key.0.kinds → slice_index firsts c ≡ base key.0.kinds c
  pub few : cells_in key.0.kinds < 8388608
  pub total : cells ≡ cells_in key.0.kinds
  pub places : IsShape key.0.kinds
