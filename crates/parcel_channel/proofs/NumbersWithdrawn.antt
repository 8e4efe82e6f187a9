-- The number of an offer that was withdrawn.
use Rattle.std.specs.Prelude.{◌≡◌, ℕ, Bool, true, false, Option, Some, None, if◌then◌else◌, refl}
use Rattle.std.proofs.Common.{ap, sym, ◌∙◌, subst}
use Rattle.channel_model.specs.declared.acts.Settled.{Settled}
use Rattle.channel_model.specs.declared.acts.Why.TheVariants as why
use Rattle.channel_model.specs.declared.standing.Resolution.{Resolution}
use Rattle.channel_model.specs.declared.standing.Resolution.TheVariants as resolved
use Rattle.channel_model.specs.Laws.{IsResolvedAs}
use Rattle.channel_model.proofs.Later.{resolved_later}
use Rattle.word_rules.specs.Cells.{Cell, free, cell_of}
use Rattle.word_rules.specs.Words.{parts_word, word_of_wait, word_of_cell}
use Rattle.channel_model.specs.Channels.{Shape}
use Rattle.channel_model.specs.Histories.{Legal, replay}
use Rattle.channel_model.specs.Answers.{IsOwnWait, IsReadyWait}
use Rattle.channel_model.specs.Channels.{Wait}
use Rattle.co_base.specs.declared.names.WaitId.{WaitId}
use Rattle.word_rules.specs.declared.wait_word.WaitWord.{WaitWord}
use Rattle.word_rules.specs.declared.cell_word.CellWord.{CellWord}
use Rattle.cell_words.specs.Answers.{IsCellWord, IsWaitWord}
use Rattle.cell_words.specs.Seen.{Seen, Sees}
use Rattle.parcel_channel.specs.Numbers.{is_withdrawn_how, is_withdrawn, number_in, withdrawn_at, is_cancel, number_of_state}

-- the word of a wait tells whether its coroutine withdrew it
pub word_withdrawn : (y : Option Wait) (word : WaitWord) → word ≡ word_of_wait y → is_cancel word.by ≡ is_withdrawn y
word_withdrawn None word is = ap (λ (z : WaitWord). is_cancel z.by) is
word_withdrawn (Some x) word is = ap (λ (z : WaitWord). is_cancel z.by) is ∙ by_how x.resolved x.settled
  where
    by_how : (how : Option Resolution) (o : Option Settled) → is_cancel (parts_word how o).by ≡ is_withdrawn_how how
    by_how None o = refl
    by_how (Some (resolved.Handed k v)) None = refl
    by_how (Some (resolved.Handed k v)) (Some z) = refl
    by_how (Some (resolved.Taken k)) None = refl
    by_how (Some (resolved.Taken k)) (Some z) = refl
    by_how (Some (resolved.Admitted k)) None = refl
    by_how (Some (resolved.Admitted k)) (Some z) = refl
    by_how (Some (resolved.Closed k v)) None = refl
    by_how (Some (resolved.Closed k v)) (Some z) = refl
    by_how (Some (resolved.Withdrawn why.Cancelled)) None = refl
    by_how (Some (resolved.Withdrawn why.Cancelled)) (Some z) = refl
    by_how (Some (resolved.Withdrawn why.Revoked)) None = refl
    by_how (Some (resolved.Withdrawn why.Revoked)) (Some z) = refl
    by_how (Some resolved.Voided) None = refl
    by_how (Some resolved.Voided) (Some z) = refl

-- a wait that was withdrawn stays so
withdrawn_as : (y : Option Wait) → is_withdrawn y ≡ true → IsResolvedAs (resolved.Withdrawn why.Cancelled) y
withdrawn_as None h = cc
withdrawn_as (Some x) h = by_how x.resolved h
  where
    by_how : (how : Option Resolution) → is_withdrawn_how how ≡ true → how ≡ Some (resolved.Withdrawn why.Cancelled)
    by_how None g = cc
    by_how (Some (resolved.Handed k v)) g = cc
    by_how (Some (resolved.Taken k)) g = cc
    by_how (Some (resolved.Admitted k)) g = cc
    by_how (Some (resolved.Closed k v)) g = cc
    by_how (Some (resolved.Withdrawn why.Cancelled)) g = refl
    by_how (Some (resolved.Withdrawn why.Revoked)) g = cc
    by_how (Some resolved.Voided) g = cc

as_withdrawn : (y : Option Wait) → IsResolvedAs (resolved.Withdrawn why.Cancelled) y → is_withdrawn y ≡ true
as_withdrawn None h = absurd h
as_withdrawn (Some x) h = ap is_withdrawn_how h

still_withdrawn : (shape : Shape) (w : WaitId) (v u : Seen) → Sees v u → Legal shape u.seen → is_withdrawn ((replay v.seen).waits w) ≡ true
    → is_withdrawn ((replay u.seen).waits w) ≡ true
still_withdrawn shape w v u s l h = as_withdrawn ((replay u.seen).waits w)
    (subst (λ es. IsResolvedAs (resolved.Withdrawn why.Cancelled) ((replay es).waits w)) (sym s.now)
    (resolved_later shape v.seen s.others w (resolved.Withdrawn why.Cancelled) (subst (Legal shape) s.now l)
    (withdrawn_as ((replay v.seen).waits w) h)))

-- the word of a cell tells the number that was offered there
word_number : (shape : Shape) (x : Cell) (p : ℕ) (word : CellWord) → word ≡ word_of_cell shape 0 p x
    → number_of_state word.state word.value ≡ number_in x
word_number shape free p word is = ap (λ (z : CellWord). number_of_state z.state z.value) is
word_number shape other p word is = ap (λ (z : CellWord). number_of_state z.state z.value) is

-- the wait was not withdrawn
pub none_withdrawn : (w : WaitId) (v : Seen) (word : WaitWord) → IsWaitWord w v.seen word → is_cancel word.by ≡ false
    → None ≡ withdrawn_at w v.seen
none_withdrawn w v word is h = ap (λ (b : Bool). if b then number_in (cell_of v.seen 0 w.place) else None) (sym h
    ∙ word_withdrawn ((replay v.seen).waits w) word is.0)

-- it was, and its cell was looked at then
pub was_withdrawn_at : (shape : Shape) (w : WaitId) (v u : Seen) (word : WaitWord) (cell : CellWord) → Sees v u → Legal shape u.seen
    → IsWaitWord w v.seen word → is_cancel word.by ≡ true → IsCellWord shape 0 w.place u.seen cell
    → number_of_state cell.state cell.value ≡ withdrawn_at w u.seen
was_withdrawn_at shape w v u word cell s l is h at =
    word_number shape (cell_of u.seen 0 w.place) w.place cell at.0
    ∙ ap (λ (b : Bool). if b then number_in (cell_of u.seen 0 w.place) else None)
    (sym (still_withdrawn shape w v u s l (sym (word_withdrawn ((replay v.seen).waits w) word is.0) ∙ h)))

pub ready_own : (who : ℕ) (x : Option Wait) → IsReadyWait who x → IsOwnWait who x
ready_own who (Some x) h = h.0
ready_own who None h = absurd h
