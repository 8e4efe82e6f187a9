-- Each wait that a book gives up was taken back, or a cancellation was seen before.
use Rattle.std.specs.Prelude.{◌≡◌, ℕ, true, false, List, [], ◌∷◌, ◌++◌, Option, Some, None, refl}
use mathlib.Core.List.{IsPrefix}
use Rattle.std.proofs.Common.{sym, ap, ◌∙◌, subst}
use Rattle.std.proofs.lemmas.Bool.{both_ways}
use Rattle.co_base.specs.declared.names.WaitId.{WaitId}
use Rattle.channel_model.specs.declared.acts.Act.{Act}
use Rattle.channel_model.specs.declared.acts.Act.TheVariants.{Withdraw, Settle}
use Rattle.channel_model.specs.declared.acts.Entry.{Entry}
use Rattle.channel_model.specs.declared.acts.Why.TheVariants as why
use Rattle.channel_model.specs.declared.acts.Settled.{Settled}
use Rattle.channel_model.specs.declared.acts.Settled.TheVariants as settled
use Rattle.channel_model.specs.declared.acts.ChannelNote.TheVariants as of_channel
use Rattle.channel_model.specs.Channels.{Shape, State}
use Rattle.channel_model.specs.Histories.{replay, Legal}
use Rattle.channel_model.proofs.Histories.{Legal-prefix}
use Rattle.job_model.specs.declared.acts.JobNote.TheVariants as of_job
use Rattle.note_book.specs.declared.book.Item.{Item}
use Rattle.note_book.specs.declared.book.Item.TheVariants as item
use Rattle.note_book.specs.Items.{channel_acts_in}
use Rattle.note_book.proofs.Appended.{channel_acts_in-append}
use Rattle.call_meaning.specs.Telling.{Told, note, items_in}
use Rattle.call_meaning.specs.Facts.{IsWithdrawnOrVoided}
use Rattle.call_meaning.specs.ChannelCalls.{is_given_up}
use Rattle.call_meaning.specs.Stories.{Moment, beginning, IsTrue, with_told, story_of}
use Rattle.script_grammar.specs.Programs.{Program}
use Rattle.script_meaning.specs.Shapes.{floor_shape}
use Rattle.script_meaning.specs.Configs.{Config}
use Rattle.script_meaning.specs.Books.{Runs}
use Rattle.script_meaning.specs.Laws.{wait_of, settle_note, IsBehindSaw, MayGiveUp, GivesUpAfterSaw}
use Rattle.script_meaning.proofs.Debts.{same_tail}
use Rattle.script_meaning.proofs.ActsFollowed.{call_told}
use Rattle.script_laws.proofs.TakenBack.{back_later, withdrawn_wait}
use Rattle.script_meaning.proofs.WaitsTold.{WaitsTold, is_waitless, named_by, all_told}

wider_saw : (w : WaitId) (i : Item) (notes : List Item) → IsBehindSaw w notes → IsBehindSaw w (i ∷ notes)
wider_saw w i notes (IsBehindSaw.seen before row e) = IsBehindSaw.seen (i ∷ before) row (ap (λ l. i ∷ l) e)
wider_saw w i notes (IsBehindSaw.withdrawn before row e) = IsBehindSaw.withdrawn (i ∷ before) row (ap (λ l. i ∷ l) e)
wider_saw w i notes (IsBehindSaw.late before row e) = IsBehindSaw.late (i ∷ before) row (ap (λ l. i ∷ l) e)

wider : (w : WaitId) (s : State) (i : Item) (notes : List Item) (outcome : Settled) → MayGiveUp w s notes outcome
    → MayGiveUp w s (i ∷ notes) outcome
wider w s i notes _ (MayGiveUp.taken_back h) = MayGiveUp.taken_back h
wider w s i notes _ (MayGiveUp.after_saw outcome h) = MayGiveUp.after_saw outcome (wider_saw w i notes h)

-- an item stands first, or later
first_or_later : (P : List Item → Type 0) (i : Item) (items before rest : List Item) (x : Item) → i ∷ items ≡ before ++ x ∷ rest
    → (i ≡ x → P []) → ((later : List Item) → items ≡ later ++ x ∷ rest → P (i ∷ later)) → P before
first_or_later P i items [] rest x e now after = now (same_tail i x items rest e).0
first_or_later P i items (b ∷ before) rest x e now after =
    let t = same_tail i b items (before ++ x ∷ rest) e in
    subst (λ c. P (c ∷ before)) t.0 (after before t.1)

settled_same : (w u : WaitId) (outcome other : Settled) → item.Channel (of_channel.Made (Settle u other)) ≡ settle_note w outcome → (u ≡ w)
    × (other ≡ outcome)
settled_same w u outcome other e = (cc, cc)

not_waitless : (i : Item) (w : WaitId) (outcome : Settled) → is_waitless (call_told (note i)) ≡ true → i ≡ settle_note w outcome → ⊥
not_waitless i w outcome q e = let f : is_waitless (call_told (note i)) ≡ false = ap (λ j. is_waitless (call_told (note j))) e
    in both_ways (is_waitless (call_told (note i))) f q

names_none : (a : Act) (u w : WaitId) (outcome : Settled) → named_by a ≡ Some u → item.Channel (of_channel.Made a) ≡ settle_note w outcome
    → ⊥
names_none a u w outcome q e =
    let f : a ≡ Settle w outcome = cc in
    let g : named_by a ≡ None = ap named_by f in
    let h : Some u ≡ None = sym q ∙ g in
    cc

legal_there : (shape : Shape) (at now : List Entry) → Legal shape now → IsPrefix at now → Legal shape at
legal_there shape at now l p = Legal-prefix shape at p.0 (subst (Legal shape) (sym p.1) l)

module _ (shape : Shape) (k : ℕ) (now : Moment) (l : Legal shape now.channels) where
  abbrev pub Given : WaitId → Settled → List Item → Type 0
  Given w outcome notes = MayGiveUp w (replay now.channels) notes outcome

  -- where the wait was taken back, it may end as cancelled
  back : (u w : WaitId) (outcome : Settled) (notes : List Item)
      → item.Channel (of_channel.Made (Settle u settled.Cancelled)) ≡ settle_note w outcome
      → IsWithdrawnOrVoided ((replay now.channels).waits u)
      → Given w outcome notes
  back u w outcome notes e b =
      let s = settled_same w u outcome settled.Cancelled e in
      subst (λ x. Given w x notes) s.1 (MayGiveUp.taken_back (subst (λ x. IsWithdrawnOrVoided ((replay now.channels).waits x)) s.0 b))

  -- where a cancellation was seen, it may end in any way
  seen : (u w : WaitId) (other outcome : Settled) (notes : List Item)
      → item.Channel (of_channel.Made (Settle u other)) ≡ settle_note w outcome → IsBehindSaw u notes → Given w outcome notes
  seen u w other outcome notes e b = MayGiveUp.after_saw outcome (subst (λ x. IsBehindSaw x notes) (settled_same w u outcome other e).0 b)

  pub gives_up : (items : List Item) (earlier : Moment) (o o' : Option WaitId) (told : List Told) → WaitsTold o told o'
      → IsTrue (story_of shape k now) items earlier told
      → (before rest : List Item) (w : WaitId) (outcome : Settled) → items_in told ≡ before ++ settle_note w outcome ∷ rest
      → is_given_up outcome ≡ true → MayGiveUp w (replay now.channels) before outcome
  unfolding IsTrue items_in
  gives_up items earlier _ _ _ (WaitsTold.none o) t [] rest w outcome e g = cc
  gives_up items earlier _ _ _ (WaitsTold.none o) t (b ∷ before) rest w outcome e g = cc
  gives_up items earlier _ _ _ (WaitsTold.other o o' (note i) more q h) t before rest w outcome e g =
      first_or_later (Given w outcome) i (items_in more) before rest (settle_note w outcome) e
      (λ f. absurd (not_waitless i w outcome q f))
      (λ later f. wider w (replay now.channels) i later outcome
      (gives_up (with_told (note i) items) t.0 o o' more h t.2 later rest w outcome f g))
  gives_up items earlier _ _ _ (WaitsTold.other o o' looks more q h) t before rest w outcome e g =
      gives_up items t.0 o o' more h t.2 before rest w outcome e g
  gives_up items earlier _ _ _ (WaitsTold.begins u o a more q h) t before rest w outcome e g =
      first_or_later (Given w outcome) _ (items_in more) before rest (settle_note w outcome) e
      (λ f. absurd (names_none a u w outcome q f))
      (λ later f. wider w (replay now.channels) _ later outcome (gives_up _ t.0 (Some u) o more h t.2 later rest w outcome f g))
  gives_up items earlier _ _ _ (WaitsTold.joins u o a more q h) t before rest w outcome e g =
      first_or_later (Given w outcome) _ (items_in more) before rest (settle_note w outcome) e
      (λ f. absurd (names_none a u w outcome q f))
      (λ later f. wider w (replay now.channels) _ later outcome (gives_up _ t.0 (Some u) o more h t.2 later rest w outcome f g))
  gives_up items earlier _ _ _ (WaitsTold.ends u other o more q h) t before rest w outcome e g =
      first_or_later (Given w outcome) _ (items_in more) before rest (settle_note w outcome) e
      (λ f. absurd (both_ways (is_given_up outcome) (ap is_given_up (sym (settled_same w u outcome other f).1) ∙ q) g))
      (λ later f. wider w (replay now.channels) _ later outcome (gives_up _ t.0 None o more h t.2 later rest w outcome f g))
  gives_up items earlier _ _ _ (WaitsTold.taken_back u o more h) t before rest w outcome e g =
      first_or_later (Given w outcome) _ (items_in more) before rest (settle_note w outcome) e
      (λ f. back u w outcome [] f (back_later shape t.0.channels now.channels u l t.1.not_after.channels t.1.holds))
      (λ later f. wider w (replay now.channels) _ later outcome (gives_up _ t.2.0 None o more h t.2.2 later rest w outcome f g))
  gives_up items earlier _ _ _ (WaitsTold.revokes u o more h) t before rest w outcome e g =
      first_or_later (Given w outcome) _ _ before rest (settle_note w outcome) e
      (λ f. cc)
      (λ later f. first_or_later (λ notes. Given w outcome (item.Channel (of_channel.Made (Withdraw u why.Revoked)) ∷ notes)) _
      (items_in more) later rest (settle_note w outcome) f
      (λ z. back u w outcome (item.Channel (of_channel.Made (Withdraw u why.Revoked)) ∷ []) z
      (back_later shape t.2.0.channels now.channels u l t.2.1.not_after.channels
      (withdrawn_wait shape k t.2.0.channels (channel_acts_in items) [] u why.Revoked
      (legal_there shape t.2.0.channels now.channels l t.2.1.not_after.channels)
      (t.2.1.channel_acts ∙ channel_acts_in-append items (item.Channel (of_channel.Made (Withdraw u why.Revoked)) ∷ [])))))
      (λ last z. wider w (replay now.channels) _ _ outcome (wider w (replay now.channels) _ last outcome
      (gives_up _ t.2.0 None o more h t.2.2 last rest w outcome z g))))
  gives_up items earlier _ _ _ (WaitsTold.dispatched u row other o more h) t before rest w outcome e g =
      first_or_later (Given w outcome) _ _ before rest (settle_note w outcome) e
      (λ f. cc)
      (λ later f. first_or_later (λ notes. Given w outcome (item.Job (of_job.Saw row) ∷ notes)) _ (items_in more) later rest
      (settle_note w outcome) f
      (λ z. seen u w other outcome (item.Job (of_job.Saw row) ∷ []) z (IsBehindSaw.seen [] row refl))
      (λ last z. wider w (replay now.channels) _ _ outcome (wider w (replay now.channels) _ last outcome
      (gives_up _ t.2.0 None o more h t.2.2 last rest w outcome z g))))
  gives_up items earlier _ _ _ (WaitsTold.withdrawn u row other o more h) t before rest w outcome e g =
      first_or_later (Given w outcome) _ _ before rest (settle_note w outcome) e
      (λ f. cc)
      (λ one f. first_or_later (λ notes. Given w outcome (item.Job (of_job.Saw row) ∷ notes)) _ _ one rest (settle_note w outcome) f
      (λ z. cc)
      (λ two z. first_or_later (λ notes. Given w outcome (item.Job (of_job.Saw row) ∷ item.Channel
      (of_channel.Made (Withdraw u why.Cancelled)) ∷ notes)) _ (items_in more) two rest (settle_note w outcome) z
      (λ y. seen u w other outcome _ y (IsBehindSaw.withdrawn [] row refl))
      (λ last y. wider w (replay now.channels) _ _ outcome (wider w (replay now.channels) _ _ outcome
      (wider w (replay now.channels) _ last outcome (gives_up _ t.2.2.0 None o more h t.2.2.2 last rest w outcome y g))))))
  gives_up items earlier _ _ _ (WaitsTold.late u row other o more h) t before rest w outcome e g =
      first_or_later (Given w outcome) _ _ before rest (settle_note w outcome) e
      (λ f. cc)
      (λ one f. first_or_later (λ notes. Given w outcome (item.Job (of_job.Saw row) ∷ notes)) _ _ one rest (settle_note w outcome) f
      (λ z. cc)
      (λ two z. first_or_later (λ notes. Given w outcome (item.Job (of_job.Saw row) ∷ item.Channel (of_channel.Late u) ∷ notes)) _
      (items_in more) two rest (settle_note w outcome) z
      (λ y. seen u w other outcome _ y (IsBehindSaw.late [] row refl))
      (λ last y. wider w (replay now.channels) _ _ outcome (wider w (replay now.channels) _ _ outcome
      (wider w (replay now.channels) _ last outcome (gives_up _ t.2.2.0 None o more h t.2.2.2 last rest w outcome y g))))))

pub gives_up_after_saw : (p : Program) (k : ℕ) (now : Moment) (book : List Item) (x : Config) → Legal (floor_shape p) now.channels
    → Runs p k now book x → GivesUpAfterSaw (replay now.channels) book
gives_up_after_saw p k now book x l r = λ before rest w outcome e g.
    gives_up (floor_shape p) k now l [] beginning None (wait_of x.stage) r.told (all_told p k r.told x r.reaches) r.is_true before rest w
    outcome (r.written ∙ e) g
