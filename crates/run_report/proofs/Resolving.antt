-- Whether a wait was resolved elsewhere, item by item and book by book.
use Rattle.std.proofs.Common.{◌≡◌, ℕ, Bool, ◌||◌, List, ◌∷◌, ◌++◌, Option, refl, sym, ap, ◌∙◌}
use Rattle.std.proofs.Math.Bool.{or_assoc}
use Rattle.std.proofs.lemmas.List.Folds.{list_any-append}
use Rattle.channel_model.specs.declared.acts.Act.{Act}
use Rattle.channel_model.specs.declared.acts.ChannelNote.TheVariants as note
use Rattle.co_base.specs.declared.names.WaitId.{WaitId}
use Rattle.channel_model.specs.Fates.{resolves_at}
use Rattle.note_book.specs.declared.book.Item.{Item}
use Rattle.note_book.specs.declared.book.Item.TheVariants as item
use Rattle.note_book.specs.Items.{channel_acts_in}
use Rattle.run_report.specs.Resolutions.{is_resolved_at, is_resolved_elsewhere, resolved_by}

module _ (waits : ℕ → ℕ → Option WaitId) (c p : ℕ) (w : WaitId) where
  -- the first item, and then the others
  by_item : (i : Item) (items : List Item)
      → (is_resolved_at waits c p w (resolved_by i) || is_resolved_elsewhere waits c p w (channel_acts_in items)) ≡
      is_resolved_elsewhere waits c p w (channel_acts_in (i ∷ items))
  by_item (item.Channel (note.Made a)) items = refl
  by_item other items = refl

  -- one item more was looked at
  pub resolved_more : (before here all : Bool) (i : Item) (items : List Item)
      → here ≡ (before || is_resolved_at waits c p w (resolved_by i))
      → (before || is_resolved_elsewhere waits c p w (channel_acts_in (i ∷ items))) ≡ all
      → (here || is_resolved_elsewhere waits c p w (channel_acts_in items)) ≡ all
  resolved_more before here all i items h e =
      ap (λ x. x || is_resolved_elsewhere waits c p w (channel_acts_in items)) h
      ∙ or_assoc before (is_resolved_at waits c p w (resolved_by i)) (is_resolved_elsewhere waits c p w (channel_acts_in items))
      ∙ ap (λ x. before || x) (by_item i items)
      ∙ e

  -- some acts more were looked at
  pub all_resolved_more : (before here all : Bool) (acts more : List Act)
      → here ≡ (before || is_resolved_elsewhere waits c p w acts)
      → (before || is_resolved_elsewhere waits c p w (acts ++ more)) ≡ all
      → (here || is_resolved_elsewhere waits c p w more) ≡ all
  all_resolved_more before here all acts more h e =
      ap (λ x. x || is_resolved_elsewhere waits c p w more) h
      ∙ or_assoc before (is_resolved_elsewhere waits c p w acts) (is_resolved_elsewhere waits c p w more)
      ∙ ap (λ x. before || x) (sym (list_any-append (λ a. is_resolved_at waits c p w (resolves_at a)) acts more))
      ∙ e
