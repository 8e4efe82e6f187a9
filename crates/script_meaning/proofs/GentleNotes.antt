-- Which groups note no end of a Job and no Close of a done channel, which note no refusal, and which attach no row.
use Rattle.std.specs.Prelude.{◌≡◌, ℕ, ◌<◌, nat_le, Bool, true, false, not, ◌&&◌, List, [], ◌∷◌, ◌++◌, refl}
use Rattle.std.specs.List.{list_any, list_all}
use Rattle.std.proofs.Common.{ap, ◌∙◌, arith}
use Rattle.std.proofs.lemmas.Bool.Decides.{nat_tests}
use Rattle.std.proofs.lemmas.Bool.{not-true, or_from}
use Rattle.channel_model.specs.declared.acts.Act.{Act}
use Rattle.channel_model.specs.declared.acts.Act.TheVariants.{Hand, Put, Offer, Await, Take, Admit, Drop, Spurn, Close, Void}
use Rattle.channel_model.specs.declared.acts.ChannelNote.{ChannelNote}
use Rattle.channel_model.specs.declared.acts.ChannelNote.TheVariants as heard_as
use Rattle.job_model.specs.declared.acts.JobAct.{JobAct}
use Rattle.job_model.specs.declared.acts.JobAct.TheVariants.{Attach, Finish}
use Rattle.job_model.specs.declared.acts.JobNote.{JobNote}
use Rattle.job_model.specs.declared.acts.JobNote.TheVariants as known
use Rattle.note_book.specs.declared.book.Item.{Item}
use Rattle.note_book.specs.declared.book.Item.TheVariants as item
use Rattle.note_book.specs.Items.{channel_act, channel_acts_in}
use Rattle.call_meaning.specs.Telling.{Told, did, items_in}
use Rattle.script_meaning.specs.Books.{is_refusal, is_channel_refusal, is_job_refusal}
use Rattle.script_meaning.proofs.GroupNotes.{AllPass, PassesCalls, is_no_close, is_answer, both, job_note, all_none, noted_all}

-- ---- the tests

-- no Close of a done channel; base is the first of these
abbrev pub leaves_dones : ℕ → Act → Bool
leaves_dones base (Close c v) = not (nat_le base c)
leaves_dones base other = true

abbrev pub is_no_finish : JobAct → Bool
is_no_finish (Finish q end) = false
is_no_finish other = true

abbrev pub attaches_none : JobAct → Bool
attaches_none (Attach p q kind tag now) = false
attaches_none other = true

abbrev pub is_gentle_call : ℕ → ChannelNote → Bool
is_gentle_call base (heard_as.Made act) = leaves_dones base act
is_gentle_call base other = true

abbrev pub is_gentle_note : JobNote → Bool
is_gentle_note (known.Made act) = is_no_finish act
is_gentle_note other = true

-- no end of a Job, and no Close of a done channel
abbrev pub is_gentle : ℕ → Item → Bool
is_gentle base (item.Channel n) = is_gentle_call base n
is_gentle base (item.Job n) = is_gentle_note n

abbrev pub is_mild_call : ℕ → ChannelNote → Bool
is_mild_call base (heard_as.Made act) = leaves_dones base act
is_mild_call base (heard_as.Spent c) = not (nat_le base c)
is_mild_call base other = true

abbrev pub is_mild_note : JobNote → Bool
is_mild_note (known.Made act) = is_no_finish act
is_mild_note known.NoRow = false
is_mild_note known.Used = false
is_mild_note known.ParentEnded = false
is_mild_note other = true

-- neither that nor a refusal
abbrev pub is_mild : ℕ → Item → Bool
is_mild base (item.Channel n) = is_mild_call base n
is_mild base (item.Job n) = is_mild_note n

abbrev pub is_ending_call : ℕ → ChannelNote → Bool
is_ending_call base (heard_as.Spent c) = not (nat_le base c)
is_ending_call base other = true

abbrev pub is_ending_note : JobNote → Bool
is_ending_note (known.Made act) = attaches_none act
is_ending_note known.NoRow = false
is_ending_note known.Used = false
is_ending_note known.ParentEnded = false
is_ending_note other = true

-- ---- what calls note passes

leaves_most : (base : ℕ) (act : Act) → is_no_close act ≡ true → leaves_dones base act ≡ true
leaves_most base (Hand c p v) e = refl
leaves_most base (Put c p v) e = refl
leaves_most base (Offer c p v w k) e = refl
leaves_most base (Await c p w k) e = refl
leaves_most base (Take c p v) e = refl
leaves_most base (Admit c p) e = refl
leaves_most base (Drop c p v) e = refl
leaves_most base (Spurn c p v) e = refl
leaves_most base (Close c v) e = cc
leaves_most base (Void c) e = refl
leaves_most base other e = refl

-- a test that passes each answer of a channel but the two that are none
answers_pass : (T : ChannelNote → Bool) → ((c value v : ℕ) → T (heard_as.SendClosed c value v) ≡ true)
    → ((c value v : ℕ) → T (heard_as.TrySendClosed c value v) ≡ true) → ((c v : ℕ) → T (heard_as.ReceiveClosed c v) ≡ true)
    → ((c v : ℕ) → T (heard_as.TryReceiveClosed c v) ≡ true) → ((c v : ℕ) → T (heard_as.AlreadyClosed c v) ≡ true)
    → ((c value : ℕ) → T (heard_as.Full c value) ≡ true) → ((c : ℕ) → T (heard_as.Empty c) ≡ true)
    → ((c q : ℕ) → T (heard_as.Partner c q) ≡ true) → ((w : _) → T (heard_as.MainResolved w) ≡ true)
    → ((w : _) → T (heard_as.Late w) ≡ true) → (n : ChannelNote) → is_answer n ≡ true → T n ≡ true
answers_pass T a b c d e f g h i j (heard_as.Made act) k = cc
answers_pass T a b c d e f g h i j (heard_as.SendClosed x value v) k = a x value v
answers_pass T a b c d e f g h i j (heard_as.TrySendClosed x value v) k = b x value v
answers_pass T a b c d e f g h i j (heard_as.ReceiveClosed x v) k = c x v
answers_pass T a b c d e f g h i j (heard_as.TryReceiveClosed x v) k = d x v
answers_pass T a b c d e f g h i j (heard_as.AlreadyClosed x v) k = e x v
answers_pass T a b c d e f g h i j (heard_as.Full x value) k = f x value
answers_pass T a b c d e f g h i j (heard_as.Empty x) k = g x
answers_pass T a b c d e f g h i j (heard_as.Spent x) k = cc
answers_pass T a b c d e f g h i j (heard_as.Partner x q) k = h x q
answers_pass T a b c d e f g h i j (heard_as.MainResolved w) k = i w
answers_pass T a b c d e f g h i j (heard_as.Late w) k = j w

pub mild_allows : (base : ℕ) → PassesCalls (is_mild base)
mild_allows base = record {
  acts = λ act e. leaves_most base act e;
  answers = λ n e. answers_pass (λ m. is_mild_call base m) (λ c u v. refl) (λ c u v. refl) (λ c v. refl) (λ c v. refl) (λ c v. refl)
      (λ c u. refl) (λ c. refl) (λ c q. refl) (λ w. refl) (λ w. refl) n e;
  starts = λ row. refl;
  cancels = λ row reason. refl;
  saw = λ row. refl;
  saw_end = λ row end. refl;
  fail = λ code. refl;
}

-- a channel that is declared is below the first done channel
pub below_dones : (base c : ℕ) → c < base → not (nat_le base c) ≡ true
below_dones base c lt = grind (arith, nat_tests)

-- an Attach is mild
pub attach_mild : (base p q : ℕ) (kind : _) (tag : ℕ) (now : Bool) → AllPass (is_mild base) (did (Attach p q kind tag now) ∷ [])
attach_mild base p q kind tag now = noted_all (is_mild base) (job_note (Attach p q kind tag now)) [] refl (all_none (is_mild base))

-- ---- what gentle notes are

pub gentle_leaves : (base : ℕ) (items : List Item) → list_all (is_gentle base) items ≡ true
    → list_all (leaves_dones base) (channel_acts_in items) ≡ true
gentle_leaves base [] h = refl
gentle_leaves base (item.Channel n ∷ items) h = let two = both (is_gentle_call base n) _ h in here n two.0 (gentle_leaves base items two.1)
  where
    here : (n : ChannelNote) → is_gentle_call base n ≡ true → list_all (leaves_dones base) (channel_acts_in items) ≡ true
        → list_all (leaves_dones base) (channel_act n ++ channel_acts_in items) ≡ true
    here (heard_as.Made act) e k = ap (λ b. b && list_all (leaves_dones base) (channel_acts_in items)) e ∙ k
    here (heard_as.SendClosed c value v) e k = k
    here other e k = k
gentle_leaves base (item.Job n ∷ items) h = gentle_leaves base items (both (is_gentle_note n) _ h).1

-- ---- what mild notes are

call_gentle : (base : ℕ) (n : ChannelNote) → is_mild_call base n ≡ true → is_gentle_call base n ≡ true
call_gentle base (heard_as.Made act) e = e
call_gentle base other e = refl

note_gentle : (n : JobNote) → is_mild_note n ≡ true → is_gentle_note n ≡ true
note_gentle (known.Made act) e = e
note_gentle other e = refl

pub mild_gentle : (base : ℕ) (items : List Item) → list_all (is_mild base) items ≡ true → list_all (is_gentle base) items ≡ true
mild_gentle base [] h = refl
mild_gentle base (item.Channel n ∷ items) h = let two = both (is_mild_call base n) _ h
    in ap (λ b. b && list_all (is_gentle base) items) (call_gentle base n two.0) ∙ mild_gentle base items two.1
mild_gentle base (item.Job n ∷ items) h = let two = both (is_mild_note n) _ h
    in ap (λ b. b && list_all (is_gentle base) items) (note_gentle n two.0) ∙ mild_gentle base items two.1

call_unrefused : (base : ℕ) (n : ChannelNote) → is_ending_call base n ≡ true → is_channel_refusal base n ≡ false
call_unrefused base (heard_as.Spent c) e = not-true (nat_le base c) e
call_unrefused base other e = refl

mild_unspent : (base : ℕ) (n : ChannelNote) → is_mild_call base n ≡ true → is_ending_call base n ≡ true
mild_unspent base (heard_as.Spent c) e = e
mild_unspent base other e = refl

mild_unrefused_note : (n : JobNote) → is_mild_note n ≡ true → is_job_refusal n ≡ false
mild_unrefused_note known.NoRow e = cc
mild_unrefused_note known.Used e = cc
mild_unrefused_note known.ParentEnded e = cc
mild_unrefused_note other e = refl

unrefused_items : (base : ℕ) (T : Item → Bool) → ((i : Item) → T i ≡ true → is_refusal base i ≡ false) → (items : List Item)
    → list_all T items ≡ true → list_any (is_refusal base) items ≡ false
unrefused_items base T k [] h = refl
unrefused_items base T k (i ∷ items) h = let two = both (T i) (list_all T items) h
    in or_from _ _ (k i two.0) (unrefused_items base T k items two.1)

-- ---- no refusal

abbrev pub Unrefused : ℕ → List Told → Type 0
Unrefused base told = list_any (is_refusal base) (items_in told) ≡ false

mild_item : (base : ℕ) (i : Item) → is_mild base i ≡ true → is_refusal base i ≡ false
mild_item base (item.Channel n) e = call_unrefused base n (mild_unspent base n e)
mild_item base (item.Job n) e = mild_unrefused_note n e

pub mild_unrefused : (base : ℕ) (told : List Told) → AllPass (is_mild base) told → Unrefused base told
mild_unrefused base told h = unrefused_items base (is_mild base) (mild_item base) (items_in told) h
