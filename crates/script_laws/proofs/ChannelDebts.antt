-- No debt of the channels is left at the end of a run, if what follows the act that raises it takes it away.
use Rattle.std.proofs.lemmas.List.{append-nil}
use Rattle.std.proofs.Common.{◌≡◌, ℕ, Bool, true, false, List, [], ◌∷◌, ◌++◌, ap, sym, ◌∙◌, subst, append_assoc, inl, inr, ◌⊎◌, ⊎_elim, Option, Some, None, arith}
use Rattle.std.proofs.lemmas.Bool.{cases_lt}
use Rattle.channel_model.specs.declared.acts.Act.{Act}
use Rattle.channel_model.specs.declared.acts.Entry.{Entry}
use Rattle.channel_model.specs.Channels.{Shape, State, start}
use Rattle.channel_model.specs.Effects.{after}
use Rattle.channel_model.specs.Histories.{replay, Legal, LegalFrom}
use Rattle.channel_model.proofs.Histories.{LegalFrom-parts}
use Rattle.channel_model.specs.Needs.{Needs}
use Rattle.job_model.specs.declared.acts.JobEntry.{JobEntry}
use Rattle.note_book.specs.declared.book.Item.{Item}
use Rattle.note_book.specs.Items.{channel_acts_in}
use Rattle.call_meaning.specs.Telling.{Told, on_channels, ChannelFact}
use Rattle.call_meaning.specs.Facts.{ChannelFactHolds}
use Rattle.script_grammar.specs.Programs.{Program}
use Rattle.script_grammar.specs.Tags.{coroutine_count}
use Rattle.script_meaning.specs.Shapes.{floor_shape}
use Rattle.script_meaning.specs.Configs.{Config}
use Rattle.script_meaning.specs.Books.{Reaches, BooksOf}
use Rattle.script_meaning.proofs.Debts.{not_empty, part, part-append, part_push, Exists, Pays, nothing_owed}
use Rattle.script_meaning.proofs.Payments.{acts_told, IsPaid, AllPaid, PaidAt, all_pays, takes_off}
use Rattle.script_meaning.proofs.ActsFollowed.{call_told, IsTold, Follows, IsFollowed, AllFollowed, all_followed}
use Rattle.script_meaning.proofs.ChannelStories.{step, who_did, deed, CallHolds, CallsSo, same_state, same_part, true_so, told_parts}
use Rattle.script_meaning.proofs.JobDebts.{no_book}

pub record HasTold (p : Program) (channels : List Entry) (k : ℕ) : Type 0 where
  pub told : List Told
  pub config : Config
  pub reaches : Reaches p k told config
  pub so : CallsSo (floor_shape p) k channels [] told
  pub acts : acts_told step start who_did deed k call_told (CallHolds (floor_shape p)) told ≡ part who_did deed k channels

has_told : (p : Program) (books : List (List Item)) (channels : List Entry) (jobs : List JobEntry) → BooksOf p books channels jobs → (k : ℕ)
    → HasTold p channels k ⊎ (part who_did deed k channels ≡ [])
has_told p books channels jobs of k = ⊎_elim
    (λ l.
    let r = of.runs k l in
    inl (record {
      told = r.told;
      config = of.ends_at k;
      reaches = r.reaches;
      so = true_so _ [] _ r.told r.is_true;
      acts = sym (told_parts (floor_shape p) k r.told) ∙ ap channel_acts_in r.written ∙ sym (of.channel_parts k)
          ∙ sym (same_part k channels);
    }))
    (λ l. let count = of.count in inr (same_part k channels ∙ of.channel_parts k
    ∙ ap channel_acts_in (no_book books k (omega (arith, count, l)))))
    (cases_lt k (coroutine_count p))

abbrev pub CallPaidAt : Shape → ℕ → (State → Bool) → (Act → Type 0) → List Entry → List Act → Type 0
CallPaidAt shape k owes Raises history done = PaidAt step start who_did deed k call_told (CallHolds shape) owes Raises Follows history done

abbrev pub BehindOf : Shape → ℕ → List Entry → List Entry → Act → List Told → Type 0
BehindOf shape k channels before act ys = (part who_did deed k channels ≡ (part who_did deed k before ++ act ∷ [])
    ++ acts_told step start who_did deed k call_told (CallHolds shape) ys)
    × CallsSo shape k channels (part who_did deed k before ++ act ∷ []) ys

pub record CallDebt (shape : Shape) (channels : List Entry) : Type 1 where
  pub owes : State → Bool
  pub Raises : Act → Type 0
  pub first : owes start ≡ false
  pub rises : (before : List Entry) (e : Entry) (rest : List Entry) → channels ≡ before ++ e ∷ rest → owes (replay before) ≡ false
      → owes (after (replay before) e.who e.act) ≡ true → Raises e.act
  pub pays : (k : ℕ) (before : List Entry) (e : Entry) (rest : List Entry) (ys : List Told) → channels ≡ before ++ e ∷ rest → e.who ≡ k
      → owes (after (replay before) e.who e.act) ≡ true → BehindOf shape k channels before e.act ys → Raises e.act → Follows e.act ys
      → CallPaidAt shape k owes Raises channels (part who_did deed k before ++ e.act ∷ [])

-- one told fact that takes the debt away
pub by_fact : (shape : Shape) (channels : List Entry) (owes : State → Bool) (Raises : Act → Type 0) (k : ℕ) (fact : ChannelFact)
    → ((s : State) → ChannelFactHolds shape fact s → owes s ≡ false) → (before : List Entry) (act : Act) (ys : List Told)
    → BehindOf shape k channels before act ys → Exists (IsTold (on_channels fact)) ys
    → CallPaidAt shape k owes Raises channels (part who_did deed k before ++ act ∷ [])
by_fact shape channels owes Raises k fact free before act ys behind x =
    takes_off step start who_did deed k call_told (CallHolds shape) owes Raises Follows channels (IsTold (on_channels fact))
    (λ t at more parts holds m is. subst (λ s. owes s ≡ false) (sym (same_state start at))
    (free (replay at) (subst (λ u. CallHolds shape u at) is holds)))
    (λ t b m is before rest e parts q. absurd (let n : None ≡ Some b = ap call_told (sym is) ∙ m in cc))
    (part who_did deed k before ++ act ∷ []) [] ys (behind.0
    ∙ ap (λ l. l ++ acts_told step start who_did deed k call_told (CallHolds shape) ys)
    (sym (append-nil (part who_did deed k before ++ act ∷ []))))
    (subst (λ l. CallsSo shape k channels l ys) (sym (append-nil (part who_did deed k before ++ act ∷ []))) behind.1) x

all_paid : (shape : Shape) (k : ℕ) (owes : State → Bool) (Raises : Act → Type 0) (told : List Told) → AllFollowed told
    → AllPaid step start who_did deed k call_told (CallHolds shape) owes Raises Follows told
unfolding AllFollowed AllPaid
all_paid shape k owes Raises [] h = tt
all_paid shape k owes Raises (t ∷ told) h = (at (call_told t) h.0, all_paid shape k owes Raises told h.1)
  where
    at : (o : Option Act) → IsFollowed o told → IsPaid step start who_did deed k call_told (CallHolds shape) owes Raises Follows o told
    at None f = tt
    at (Some a) f = λ r. f

pub nobody_owes : (p : Program) (books : List (List Item)) (channels : List Entry) (jobs : List JobEntry) → BooksOf p books channels jobs
    → (d : CallDebt (floor_shape p) channels) → d.owes (replay channels) ≡ false
nobody_owes p books channels jobs of d = subst (λ s. d.owes s ≡ false) (same_state start channels)
    (nothing_owed step who_did d.owes start channels d.first pays)
  where
    none_of : (k : ℕ) → part who_did deed k channels ≡ [] → Pays step who_did d.owes start k channels
    none_of k none before e rest parts mine free owed = absurd
        (not_empty (part who_did deed k before) (part who_did deed k rest) e.act (sym none
        ∙ ap (part who_did deed k) (parts ∙ sym (append_assoc before (e ∷ []) rest)) ∙ part-append who_did deed k (before ++ e ∷ []) rest
        ∙ ap (λ l. l ++ part who_did deed k rest) (part_push who_did deed k before e mine)
        ∙ append_assoc (part who_did deed k before) (e.act ∷ []) (part who_did deed k rest)))

    one_of : (k : ℕ) → HasTold p channels k → Pays step who_did d.owes start k channels
    one_of k h = all_pays step start who_did deed k call_told (CallHolds (floor_shape p)) d.owes d.Raises Follows channels h.told h.so
        h.acts
        (all_paid (floor_shape p) k d.owes d.Raises h.told (all_followed p k h.told h.config h.reaches))
        (λ before e rest parts mine free owed. d.rises before e rest parts (subst (λ t. d.owes t ≡ false) (same_state start before) free)
        (subst (λ t. d.owes (after t e.who e.act) ≡ true) (same_state start before) owed))
        (λ before e rest ys parts mine owed acts so r x. d.pays k before e rest ys parts mine
        (subst (λ t. d.owes (after t e.who e.act) ≡ true) (same_state start before) owed) (acts, so) r x)

    pays : (k : ℕ) → Pays step who_did d.owes start k channels
    pays k = ⊎_elim (λ (h : HasTold p channels k). one_of k h) (λ (n : part who_did deed k channels ≡ []). none_of k n)
        (has_told p books channels jobs of k)

-- ---- what an entry of the history met

pub needs_there : (shape : Shape) (channels before : List Entry) (e : Entry) (rest : List Entry) → Legal shape channels → channels ≡ before
    ++ e ∷ rest → Needs shape (replay before) e.who e.act
unfolding LegalFrom
needs_there shape channels before e rest l q = (LegalFrom-parts shape start before (e ∷ rest) (subst (Legal shape) q l)).1.0

pub legal_before : (shape : Shape) (channels before : List Entry) (e : Entry) (rest : List Entry) → Legal shape channels → channels ≡ before
    ++ e ∷ rest → Legal shape before
legal_before shape channels before e rest l q = (LegalFrom-parts shape start before (e ∷ rest) (subst (Legal shape) q l)).0
