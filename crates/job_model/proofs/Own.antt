-- What later calls leave of a caller's own Jobs.
use Rattle.std.specs.Prelude.{◌≡◌, ℕ, ◌==◌, Bool, true, false, List, [], ◌∷◌, ◌++◌, Option, Some, None, if◌then◌else◌, refl, is_some, option_map}
use Rattle.std.specs.List.{list_any}
use mathlib.Core.List.{IsPrefix}
use Rattle.std.proofs.Common.{sym, ap, ◌∙◌, subst}
use Rattle.std.proofs.lemmas.Bool.{eq-eqb, eqb-true, or_parts}
use Rattle.job_model.specs.declared.acts.JobState.{JobState}
use Rattle.job_model.specs.declared.acts.JobState.TheVariants.{New, Active, Cancelling, Cancelled, Completed}
use Rattle.job_model.specs.declared.acts.JobAct.{JobAct}
use Rattle.job_model.specs.declared.acts.JobAct.TheVariants.{Attach, Gone}
use Rattle.job_model.specs.declared.acts.JobEntry.{JobEntry}
use Rattle.job_model.specs.declared.floor.JobView.{JobView}
use Rattle.job_model.specs.Trees.{Shape, Job, Tree, is_new, is_cancellable, is_ended, state_of, parent_of, parent_row, was_told}
use Rattle.job_model.specs.Acts.{ends_body, tells}
use Rattle.job_model.specs.Effects.{after}
use Rattle.job_model.specs.Needs.{Needs, OwnsBody, MayEndBody, MayTell, IsFinishedBy}
use Rattle.job_model.specs.Families.{IsEnded, IsCancellingOrEnded}
use Rattle.job_model.specs.Histories.{replay, replay_from, Legal, LegalFrom, acts_of}
use Rattle.job_model.specs.Floors.{Floor, Added}
use Rattle.job_model.specs.Answers.{view_of, LookAnswer}
use Rattle.job_model.specs.Laws.{HasFamilies, IsSoundRow, is_bodiless, has_ended}
use Rattle.job_model.proofs.Histories.{replay-append, Legal-append, acts_of-append}
use Rattle.job_model.proofs.Rows.{same}
use Rattle.job_model.proofs.Steps.{RowStep, row_step}
use Rattle.job_model.proofs.Lasting.{Lasts, history_keeps, attached_lasts}
use Rattle.job_model.proofs.Families.{after_families, replay_families, finished_ended}
use Rattle.job_model.proofs.RowMarks.{live_before}
use Rattle.job_model.proofs.Ends.{told_only}

-- ---- what no act takes away

-- a fact of a row that lasts holds at each longer history
pub prefix_keeps : (P : Option Job → Type 0) → Lasts P → (shape : Shape) (xs ys : List JobEntry) (q : ℕ) → Legal shape ys → IsPrefix xs ys
    → P (replay xs q) → P (replay ys q)
prefix_keeps P k shape xs ys q l p h =
    let parts = (Legal-append shape xs p.0).0 (subst (Legal shape) (sym p.1) l) in
    subst (λ es. P (replay es q)) p.1 (subst (λ (t : Tree). P (t q)) (sym (replay-append xs p.0))
    (history_keeps P k shape (replay xs) p.0 q parts.1 h))

-- ---- what only the caller's own acts take away

-- what one entry says of the caller's acts of a kind
none_now : (t : JobAct → Bool) (who : ℕ) (e : JobEntry) (es : List JobEntry) → list_any t (acts_of who (e ∷ es)) ≡ false
    → (e.who ≡ who → t e.act ≡ false) × (list_any t (acts_of who es) ≡ false)
unfolding acts_of
none_now t who e es h = by_test (e.who == who) refl h
  where
    by_test : (b : Bool) → (e.who == who) ≡ b → list_any t (if b then e.act ∷ acts_of who es else acts_of who es) ≡ false
        → (e.who ≡ who → t e.act ≡ false) × (list_any t (acts_of who es) ≡ false)
    by_test true k m = (λ u. (or_parts (t e.act) (list_any t (acts_of who es)) m).0, (or_parts (t e.act) (list_any t (acts_of who es)) m).1)
    by_test false k m = (λ u. absurd (let v : true ≡ false = sym (eq-eqb e.who who u) ∙ k in cc), m)

own_from : (P : Tree → Type 0) (t : JobAct → Bool) (who : ℕ)
    → ((shape : Shape) (tree : Tree) (n : ℕ) (act : JobAct) → HasFamilies tree → Needs shape tree n act → (n ≡ who → t act ≡ false) → P tree
    → P (after tree n act))
    → (shape : Shape) (tree : Tree) (es : List JobEntry) → HasFamilies tree → LegalFrom shape tree es → list_any t (acts_of who es) ≡ false
    → P tree → P (replay_from tree es)
unfolding LegalFrom replay_from
own_from P t who step shape tree [] h l n p = p
own_from P t who step shape tree (e ∷ es) h l n p =
    let k = none_now t who e es n in
    own_from P t who step shape (after tree e.who e.act) es (after_families shape tree e.who e.act l.0 h) l.1 k.1
    (step shape tree e.who e.act h l.0 k.0 p)

-- the acts of the caller between two histories
pub acts_between : (who : ℕ) (xs rest : List JobEntry) (acts : List JobAct) → acts_of who (xs ++ rest) ≡ acts_of who xs ++ acts
    → acts_of who rest ≡ acts
acts_between who xs rest acts e = front_off (acts_of who xs) (acts_of who rest) acts (sym (acts_of-append who xs rest) ∙ e)
  where
    front_off : (a b c : List JobAct) → a ++ b ≡ a ++ c → b ≡ c
    front_off [] b c k = k
    front_off (x ∷ a) b c k = front_off a b c (let m : a ++ b ≡ a ++ c = cc in m)

own_kept : (P : Tree → Type 0) (t : JobAct → Bool) (who : ℕ)
    → ((shape : Shape) (tree : Tree) (n : ℕ) (act : JobAct) → HasFamilies tree → Needs shape tree n act → (n ≡ who → t act ≡ false) → P tree
    → P (after tree n act))
    → (acts : List JobAct) (rows : List ℕ) (old new : Floor) → Legal new.shape new.seen → Added who acts rows old new
    → list_any t acts ≡ false → P (replay old.seen) → P (replay new.seen)
own_kept P t who step acts rows old new l a none h =
    let rest = a.longer.0 in
    let is : old.seen ++ rest ≡ new.seen = a.longer.1 in
    let parts = (Legal-append new.shape old.seen rest).0 (subst (Legal new.shape) (sym is) l) in
    let mine : acts_of who rest ≡ acts = acts_between who old.seen rest acts (ap (acts_of who) is ∙ a.mine) in
    subst (λ es. P (replay es)) is (subst P (sym (replay-append old.seen rest))
    (own_from P t who step new.shape (replay old.seen) rest (replay_families new.shape old.seen parts.0) parts.1 (ap (list_any t) mine
    ∙ none) h))

-- ---- the own body

body_step : (shape : Shape) (tree : Tree) (n who q : ℕ) (act : JobAct) (x y : Option Job) → RowStep shape tree n q act x y
    → (n ≡ who → ends_body q act ≡ false) → MayEndBody who x → MayEndBody who y
body_step shape tree n who q _ _ _ (RowStep.is_attached p kind tag cancelled m i) k h = absurd h
body_step shape tree n who q _ _ _ (RowStep.is_started j e) k h = (h.0, refl, h.2)
body_step shape tree n who q _ _ _ (RowStep.body_ends v j m) k h = absurd (let u : true ≡ false = sym (same q) ∙ k (sym m.0 ∙ h.0) in cc)
body_step shape tree n who q _ _ _ (RowStep.is_cancelled reason j m o) k h = (h.0, refl, h.2)
body_step shape tree n who q _ _ _ (RowStep.ends end j m) k h = absurd (let u : true ≡ false = sym m.0 ∙ h.2 in cc)
body_step shape tree n who q _ _ _ other k h = h

-- the caller may still end a body, where its calls did not
pub own_body_kept : (who row : ℕ) (acts : List JobAct) (rows : List ℕ) (old new : Floor) → Legal new.shape new.seen
    → Added who acts rows old new → list_any (ends_body row) acts ≡ false → MayEndBody who (replay old.seen row)
    → MayEndBody who (replay new.seen row)
own_body_kept who row acts rows old new l a none h =
    own_kept (λ tree. MayEndBody who (tree row)) (ends_body row) who
    (λ shape tree n act k m f p. body_step shape tree n who row act _ _ (row_step shape tree n act row m) f p) acts rows old new l a
    none h

owned_step : (shape : Shape) (tree : Tree) (n who q : ℕ) (act : JobAct) (x y : Option Job) → RowStep shape tree n q act x y
    → (n ≡ who → ends_body q act ≡ false) → OwnsBody who x → OwnsBody who y
owned_step shape tree n who q _ _ _ (RowStep.is_attached p kind tag cancelled m i) k h = absurd h
owned_step shape tree n who q _ _ _ (RowStep.body_ends v j m) k h = absurd (let u : true ≡ false = sym (same q) ∙ k (sym m.0 ∙ h.0) in cc)
owned_step shape tree n who q _ _ _ (RowStep.ends end j m) k h = absurd (let u : true ≡ false = sym m.0 ∙ h.1 in cc)
owned_step shape tree n who q _ _ _ other k h = h

-- the body is still the caller's and has not ended, where its calls did not end it
pub owned_body_kept : (who row : ℕ) (acts : List JobAct) (rows : List ℕ) (old new : Floor) → Legal new.shape new.seen
    → Added who acts rows old new → list_any (ends_body row) acts ≡ false → OwnsBody who (replay old.seen row)
    → OwnsBody who (replay new.seen row)
owned_body_kept who row acts rows old new l a none h =
    own_kept (λ tree. OwnsBody who (tree row)) (ends_body row) who
    (λ shape tree n act k m f p. owned_step shape tree n who row act _ _ (row_step shape tree n act row m) f p) acts rows old new l a
    none h

past_new : (s : JobState) → is_cancellable s ≡ false → is_new s ≡ false
past_new New e = cc
past_new Active e = refl
past_new other e = refl

-- a body whose Job is Cancelling may end
pub may_end_cancelled : (who : ℕ) (x : Option Job) → OwnsBody who x → IsCancellingOrEnded x → MayEndBody who x
may_end_cancelled who None h c = absurd h
may_end_cancelled who (Some j) h c = (h.0, past_new j.state c, h.1)

running_or_cancelling : (s : JobState) → (is_bodiless s ≡ true → true ≡ false) → is_ended s ≡ false
running_or_cancelling Cancelled b = absurd (let k : true ≡ false = b refl in cc)
running_or_cancelling Completed b = absurd (let k : true ≡ false = b refl in cc)
running_or_cancelling other b = refl

-- a Job whose body has not ended has not ended
pub owned_not_ended : (who : ℕ) (x : Option Job) → OwnsBody who x → IsSoundRow x → has_ended x ≡ false
owned_not_ended who None h s = absurd h
owned_not_ended who (Some j) h s = running_or_cancelling j.state (λ b. sym (s.bodiless b) ∙ h.1)

still_cancelling : (s : JobState) → is_cancellable s ≡ false → is_ended s ≡ false → s ≡ Cancelling
still_cancelling Cancelling c e = refl
still_cancelling other c e = cc

-- it is Cancelling where it is Cancelling or ended
pub owned_cancelling : (who : ℕ) (x : Option Job) → OwnsBody who x → IsSoundRow x → IsCancellingOrEnded x → state_of x ≡ Some Cancelling
owned_cancelling who None h s c = absurd h
owned_cancelling who (Some j) h s c = ap (λ (t : JobState). Some t) (still_cancelling j.state c (owned_not_ended who (Some j) h s))

-- ---- a Job that the caller finished

finisher_step : (shape : Shape) (tree : Tree) (n who q : ℕ) (act : JobAct) (x y : Option Job) → RowStep shape tree n q act x y → IsEnded x
    → IsFinishedBy who x → IsFinishedBy who y
finisher_step shape tree n who q _ _ _ (RowStep.is_attached p kind tag cancelled m i) e h = absurd h
finisher_step shape tree n who q _ _ _ (RowStep.ends end j m) e h =
    absurd (let u : true ≡ false = sym e ∙ live_before j.state j end m.2 in cc)
finisher_step shape tree n who q _ _ _ other e h = h

-- the test of a Gone of this row
gone_names : (r : ℕ) (act : JobAct) (P : Type 0) → tells r act ≡ true → ((q : ℕ) → act ≡ Gone q → r ≡ q → P) → P
gone_names r (Gone q) P e h = h q refl (eqb-true r q e)
gone_names r (Attach p q kind tag cancelled) P e h = cc
gone_names r other P e h = cc

same_finisher : (who n : ℕ) (x : Option Job) → IsFinishedBy who x → IsFinishedBy n x → n ≡ who
same_finisher who n None h k = absurd h
same_finisher who n (Some j) h k = let u : Some n ≡ Some who = sym k ∙ h in cc

untold_step : (shape : Shape) (tree : Tree) (n who r : ℕ) (act : JobAct) → HasFamilies tree → Needs shape tree n act
    → (n ≡ who → tells r act ≡ false) → IsFinishedBy who (tree r) → was_told r (parent_row tree r) ≡ false
    → was_told r (parent_row (after tree n act) r) ≡ false
untold_step shape tree n who r act k m f h e = by_test (was_told r (parent_row (after tree n act) r)) refl (tells r act) refl
  where
    by_test : (b : Bool) → was_told r (parent_row (after tree n act) r) ≡ b → (c : Bool) → tells r act ≡ c
        → was_told r (parent_row (after tree n act) r) ≡ false
    by_test false u c v = u
    by_test true u false v = absurd (let w : true ≡ false = sym (told_only shape tree n act r k m (parent_of (after tree n act r)) refl u v)
        ∙ e in cc)
    by_test true u true v =
        gone_names r act _ v (λ q is at.
        let told : Needs shape tree n (Gone q) = subst (Needs shape tree n) is m in
        let by : n ≡ who = same_finisher who n (tree r) h (subst (λ z. IsFinishedBy n (tree z)) (sym at) told.0) in
        absurd (let w : true ≡ false = sym v ∙ f by in cc))

pub tell_step : (shape : Shape) (tree : Tree) (n who r : ℕ) (act : JobAct) → HasFamilies tree → Needs shape tree n act
    → (n ≡ who → tells r act ≡ false) → MayTell who r tree → MayTell who r (after tree n act)
tell_step shape tree n who r act k m f h = (
  finisher_step shape tree n who r act _ _ (row_step shape tree n act r m)
      (finished_ended who (tree r) h.0 (k.rows r)) h.0,
  untold_step shape tree n who r act k m f h.0 h.1,
  h.2,
)

-- the caller may still tell that a Job is gone, where its calls did not
pub own_gone_kept : (who row : ℕ) (acts : List JobAct) (rows : List ℕ) (old new : Floor) → Legal new.shape new.seen
    → Added who acts rows old new → list_any (tells row) acts ≡ false → MayTell who row (replay old.seen)
    → MayTell who row (replay new.seen)
own_gone_kept who row acts rows old new l a none h =
    own_kept (MayTell who row) (tells row) who (λ shape tree n act k m f p. tell_step shape tree n who row act k m f p) acts rows old new l
    a none h

-- ---- what is attached

is_seen : (x : Option Job) (v : JobView) → option_map view_of x ≡ Some v → is_some x ≡ true
is_seen None v e = cc
is_seen (Some j) v e = refl

-- what was seen is attached
pub seen_attached : (who row : ℕ) (v : JobView) (a b : Floor) → Legal b.shape b.seen → LookAnswer who row a b (Some v)
    → is_some (replay b.seen row) ≡ true
seen_attached who row v a b l k =
    let m = k.1 in
    prefix_keeps _ attached_lasts b.shape m.moment b.seen row l m.before (is_seen (replay m.moment row) v m.holds)

-- the root is attached
pub root_attached : (shape : Shape) (es : List JobEntry) → Legal shape es → is_some (replay es 0) ≡ true
unfolding replay_from
root_attached shape es l = prefix_keeps _ attached_lasts shape [] es 0 l (es, refl) refl
