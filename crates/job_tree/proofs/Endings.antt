-- The end of one Job, and of its parents.
use Rattle.std.specs.Prelude.{◌≡◌, ◌≢◌, ℕ, Bool, true, false, List, [], ◌∷◌, ◌++◌, Option, Some, None, Result, Ok, Err, option_map, is_some, refl}
use Rattle.co_base.proofs.Orders.{order_same}
use mathlib.Core.List.{IsPrefix}
use Rattle.std.proofs.Common.{sym, ap, ◌∙◌, subst, append_assoc}
use Rattle.co_base.specs.declared.names.Memory.{Memory}
use Rattle.job_model.specs.declared.acts.End.{End}
use Rattle.job_model.specs.declared.acts.JobAct.{JobAct}
use Rattle.job_model.specs.declared.acts.JobAct.TheVariants.{Finish}
use Rattle.job_model.specs.declared.acts.JobEntry.{JobEntry}
use Rattle.job_model.specs.declared.floor.Finished.{Finished}
use Rattle.job_model.specs.declared.floor.Finished.TheVariants as finished
use Rattle.job_model.specs.Trees.{Shape, Job, Tree, parent_of, parent_row, row_of, was_told, is_done}
use Rattle.job_model.specs.Effects.{after, ended_by}
use Rattle.job_model.specs.Needs.{Needs, MayFinish, MayTell, IsFinishedBy}
use Rattle.job_model.specs.Families.{IsEnded}
use Rattle.job_model.specs.Answers.{FinishAnswer}
use Rattle.job_model.specs.Histories.{replay, Legal}
use Rattle.job_model.specs.Laws.{HasFamilies}
use Rattle.job_model.specs.Floors.{Floor, SameSetting, HasRoom, Looked, Made, AtStep, Added}
use Rattle.job_model.proofs.Histories.{replay_push, Legal-last}
use Rattle.job_model.proofs.Spans.{nothing_more, prefix_then, added_looked, added_room, added_made, added_then, setting_then}
use Rattle.job_model.proofs.Families.{changed_here, replay_families}
use Rattle.job_model.proofs.RowMarks.{live_before}
use Rattle.job_model.proofs.Ends.{told_only}
use Rattle.job_model.proofs.Own.{own_gone_kept}
use Rattle.note_book.specs.declared.book.Item.{Item}
use Rattle.call_meaning.specs.Seen.{SeenOnJobs, tree_in}
use Rattle.job_tree.specs.Endings.{SeenWith, IsEndedBy, MayNotEnd, EndAnswer, IsFinishedUp}
use Rattle.job_tree.specs.declared.ends.Rise.{Rise}
use Rattle.job_tree.specs.declared.ends.Rise.TheVariants as rise
use Rattle.job_tree.proofs.Climbs.{parent_attached}
use Rattle.job_tree.proofs.Looks.{looked_self}

-- ---- who finished a Job may tell

finished_now : (who : ℕ) (end : End) (x : Option Job) → MayFinish end x → IsFinishedBy who (option_map (ended_by who end) x)
finished_now who end None m = absurd m
finished_now who end (Some j) m = refl

not_ended : (end : End) (x : Option Job) → MayFinish end x → IsEnded x → ⊥
not_ended end None m h = m
not_ended end (Some j) m h = let u : true ≡ false = sym h ∙ live_before j.state j end m.2 in cc

told_ended : (tree : Tree) (row : ℕ) (o : Option ℕ) → HasFamilies tree → was_told row (row_of tree o) ≡ true → IsEnded (tree row)
told_ended tree row None fam h = cc
told_ended tree row (Some p) fam h = fam.gone p row h

untold_after : (shape : Shape) (tree : Tree) (who row : ℕ) (end : End) → HasFamilies tree → Needs shape tree who (Finish row end)
    → was_told row (parent_row (after tree who (Finish row end)) row) ≡ false
untold_after shape tree who row end fam n = by_test (was_told row (parent_row (after tree who (Finish row end)) row)) refl
  where
    by_test : (b : Bool) → was_told row (parent_row (after tree who (Finish row end)) row) ≡ b
        → was_told row (parent_row (after tree who (Finish row end)) row) ≡ false
    by_test true e =
        absurd (not_ended end (tree row) n (told_ended tree row (parent_of (tree row)) fam
        (told_only shape tree who (Finish row end) row fam n (parent_of (after tree who (Finish row end) row)) refl e refl)))
    by_test false e = e

pub may_tell : (who row : ℕ) (end : End) (a b : Floor) → Legal b.shape b.seen → Made who (Finish row end) [] a b → row ≢ 0
    → MayTell who row (replay b.seen)
may_tell who row end a b l m z =
    let entry : JobEntry = record { who = who; act = Finish row end } in
    let parts = Legal-last b.shape m.before entry (subst (Legal b.shape) m.last l) in
    let tree : Tree = replay m.before in
    let fam = replay_families b.shape m.before parts.0 in
    let by : IsFinishedBy who (after tree who (Finish row end) row) =
    subst (IsFinishedBy who) (sym (changed_here row (ended_by who end) tree)) (finished_now who end (tree row) parts.1) in
    let is : replay b.seen ≡ after tree who (Finish row end) = ap replay m.last ∙ replay_push m.before entry in
    subst (MayTell who row) (sym is) (by, untold_after b.shape tree who row end fam parts.1, z)

-- and still may where others made entries of their own
pub may_tell_later : (who row : ℕ) (a b : Floor) → Legal b.shape b.seen → Looked who [] a b → MayTell who row (replay a.seen)
    → MayTell who row (replay b.seen)
may_tell_later who row a b l h m = own_gone_kept who row [] [] a b l (added_looked who [] a b h) refl m

-- the caller still is one
pub caller_still : (who : ℕ) (a b : Floor) → SameSetting a b → a.callers who ≡ true → b.callers who ≡ true
caller_still who a b same c = ap (λ (f : ℕ → Bool). f who) same.callers ∙ c

-- ---- what was added

pub added_same : (who : ℕ) (a b : Floor) → b ≡ a → Added who [] [] a b
added_same who a b e = subst (λ x. Added who [] [] a x) (sym e) (added_looked who [] a a (looked_self who a))

pub added_end : (who n : ℕ) (act : JobAct) (a b c : Floor) → HasRoom n a b → Made who act [] b c → Added who (act ∷ []) [] a c
added_end who n act a b c h m = added_then who [] (act ∷ []) [] [] a b c (added_room who n a b h) (added_made who act [] b c m)

-- the same floor by another name
pub added_as : (who : ℕ) (acts : List JobAct) {a b c : Floor} → c ≡ b → Added who acts [] a b → Added who acts [] a c
added_as who acts {a} e h = subst (λ x. Added who acts [] a x) (sym e) h

-- and what others then did was seen
pub added_on_look : (who : ℕ) (acts : List JobAct) (a b c : Floor) → Added who acts [] a b → Looked who [] b c → Added who acts [] a c
added_on_look who acts a b c h k =
    subst (λ (l : List JobAct). Added who l [] a c) (nothing_more acts) (added_then who acts [] [] [] a b c h (added_looked who [] b c k))

pub added_linked : (who : ℕ) (act : JobAct) (a b c : Floor) → Made who act [] a b → Looked who [] b c → Added who (act ∷ []) [] a c
added_linked who act a b c h k = added_then who (act ∷ []) [] [] [] a b c (added_made who act [] a b h) (added_looked who [] b c k)

-- ---- what was noted

pub appended_end : (ended : List Item) (fin : Item) {items ready noted after : List Item} → ready ≡ items → noted ≡ ready ++ fin ∷ []
    → after ≡ noted ++ ended
    → after ≡ items ++ (fin ∷ ended)
appended_end ended fin {items} e f g =
    g ∙ ap (λ (l : List Item). l ++ ended) (f ∙ ap (λ (l : List Item). l ++ fin ∷ []) e) ∙ append_assoc items (fin ∷ []) ended

-- and the word to the parent
pub appended_word : (fin gone : Item) (items ended : List Item) {noted after : List Item} → noted ≡ items ++ (fin ∷ ended)
    → after ≡ noted ++ gone ∷ [] → after ≡ items ++ (fin ∷ (ended ++ gone ∷ []))
appended_word fin gone items ended e f = f ∙ ap (λ (l : List Item). l ++ gone ∷ []) e ∙ append_assoc items (fin ∷ ended) (gone ∷ [])

pub appended_none : (fin : Item) (items ended : List Item) {noted : List Item} → noted ≡ items ++ (fin ∷ ended)
    → noted ≡ items ++ (fin ∷ (ended ++ []))
appended_none fin items ended e = e ∙ ap (λ (l : List Item). items ++ fin ∷ l) (sym (nothing_more ended))

-- ---- answers

-- all acts of the end of a Job
pub end_added : {T : Type 0} {prepares : T → T → Type 0} {does : T → Floor → ℕ → End → List Item → T → Floor → Type 0} {leaves : T → T
    → Floor → Type 0} {row : ℕ} {told : List JobAct}
    {a b : SeenWith T} → (h : IsEndedBy prepares does leaves row told a b)
    → Added a.seen.who (Finish row h.end ∷ told) [] a.seen.floor b.seen.floor
end_added {row = row} {told = told} {a = a} {b = b} h =
    added_then a.seen.who (Finish row h.end ∷ []) told [] [] a.seen.floor h.after b.seen.floor
    (added_then a.seen.who (Finish row h.end ∷ []) [] [] [] a.seen.floor h.between h.after h.finished h.looked) h.word

-- the Job was not ended
pub record WasNotNow (row : ℕ) (a c : SeenOnJobs) : Type 0 where
  pub added : Added a.who [] [] a.floor c.floor
  pub why : MayNotEnd row a c

earlier : (a b c : Floor) (P : Tree → Type 0) → IsPrefix a.seen b.seen → AtStep b c P → AtStep a c P
earlier a b c P p m = record { moment = m.moment; after = prefix_then a.seen b.seen m.moment p m.after; before = m.before; holds = m.holds }

pub was_not_now : (row n : ℕ) (a : SeenOnJobs) (b : Floor) (c : SeenOnJobs) (r : Finished) → HasRoom n a.floor b
    → ((end : End) → r ≡ finished.Now end → ⊥) → FinishAnswer a.who row b c.floor r → WasNotNow row a c
was_not_now row n a b c (finished.Now end) h never k = absurd (never end refl)
was_not_now row n a b c finished.Already h never k = record {
  added = added_then a.who [] [] [] [] a.floor b c.floor (added_room a.who n a.floor b h) (added_looked a.who [] b c.floor k.0);
  why = MayNotEnd.had_ended k.1;
}
was_not_now row n a b c finished.NotYet h never k = record {
  added = added_then a.who [] [] [] [] a.floor b c.floor (added_room a.who n a.floor b h) (added_looked a.who [] b c.floor k.0);
  why = MayNotEnd.not_done (earlier a.floor b c.floor _ (added_room a.who n a.floor b h).longer k.1);
}

-- ---- the parent

pub owed_at : (row : ℕ) (a d x : Floor) → IsPrefix a.seen d.seen → IsPrefix d.seen x.seen → is_done (parent_row (replay d.seen) row) ≡ true
    → AtStep a x (λ tree. is_done (parent_row tree row) ≡ true)
owed_at row a d x q p e = record { moment = d.seen; after = q; before = p; holds = e }

-- ---- the same floor by another name

pub finish_as : (who row : ℕ) (a : Floor) (r : Finished) {b c : Floor} → c ≡ b → FinishAnswer who row a b r → FinishAnswer who row a c r
finish_as who row a r e h = subst (λ f. FinishAnswer who row a f r) (sym e) h

pub idle_as : (row : ℕ) {b c : Floor} {done : Bool} → c ≡ b → is_done (parent_row (replay b.seen) row) ≡ done
    → is_done (parent_row (replay c.seen) row) ≡ done
idle_as row e h = ap (λ f. is_done (parent_row (replay f.seen) row)) e ∙ h

pub prefix_as : (xs : List JobEntry) {b c : Floor} → c ≡ b → IsPrefix xs b.seen → IsPrefix xs c.seen
prefix_as xs e h = subst (λ f. IsPrefix xs f.seen) (sym e) h

-- ---- the parents

-- the Job was ended, and its parent owes its own end
pub record IsOwed (row p : ℕ) (a b : SeenOnJobs) : Type 0 where
  pub acts : List JobAct
  pub who : b.who ≡ a.who
  pub added : Added a.who acts [] a.floor b.floor
  pub parent : parent_of (tree_in b row) ≡ Some p

pub owed : {T : Type 0} {prepares : T → T → Type 0} {does : T → Floor → ℕ → End → List Item → T → Floor → Type 0} {leaves : T → T → Floor
    → Type 0} {row p : ℕ} {a b : SeenWith T}
    → EndAnswer prepares does leaves row a b (Ok (rise.To p)) → IsOwed row p a.seen b.seen
owed (EndAnswer.owes _ z h q m) = record { acts = _; who = h.who; added = end_added h; parent = q }

-- the ends so far, up to this row
pub record IsRise {T : Type 0} (prepares : T → T → Type 0) (does : T → Floor → ℕ → End → List Item → T → Floor → Type 0) (leaves : T → T
    → Floor → Type 0) (row at : ℕ) (a b : SeenWith T)
    : Type 0 where
  pub who : b.seen.who ≡ a.seen.who
  pub same : SameSetting a.seen.floor b.seen.floor
  pub attached : is_some (tree_in b.seen at) ≡ true
  pub on : (c : SeenWith T) (r : Result (Unit {0}) Memory) → IsFinishedUp prepares does leaves at b c r
      → IsFinishedUp prepares does leaves row a c r

pub first_rise : {T : Type 0} {prepares : T → T → Type 0} {does : T → Floor → ℕ → End → List Item → T → Floor → Type 0} {leaves : T → T
    → Floor → Type 0} {row : ℕ} {a : SeenWith T}
    → is_some (tree_in a.seen row) ≡ true → IsRise prepares does leaves row row a a
first_rise s = record {
  who = refl;
  same = record { shape = refl; alone = refl; callers = refl; order = order_same _; joint = refl };
  attached = s;
  on = λ c r h. h;
}

pub rise_up : {T : Type 0} {prepares : T → T → Type 0} {does : T → Floor → ℕ → End → List Item → T → Floor → Type 0} {leaves : T → T → Floor
    → Type 0} {row at p : ℕ} {a b c : SeenWith T}
    → Legal c.seen.floor.shape c.seen.floor.seen → IsRise prepares does leaves row at a b
    → EndAnswer prepares does leaves at b c (Ok (rise.To p))
    → IsRise prepares does leaves row p a c
rise_up {at = at} {p = p} {a = a} {b = b} {c = c} l h m =
    let o = owed m in
    record {
      who = o.who ∙ h.who;
      same = setting_then a.seen.floor b.seen.floor c.seen.floor h.same o.added.same;
      attached = parent_attached c.seen.floor.shape c.seen.floor.seen at p l o.parent;
      on = λ d r u. h.on d r (IsFinishedUp.goes_up at p b c d r m u);
    }

pub rise_stops : {T : Type 0} {prepares : T → T → Type 0} {does : T → Floor → ℕ → End → List Item → T → Floor → Type 0} {leaves : T → T
    → Floor → Type 0} {row at : ℕ} {a b c : SeenWith T}
    → IsRise prepares does leaves row at a b → EndAnswer prepares does leaves at b c (Ok rise.Stops)
    → IsFinishedUp prepares does leaves row a c (Ok tt)
rise_stops {at = at} {b = b} {c = c} h m = h.on c (Ok tt) (IsFinishedUp.stops at b c m)

pub rise_fails : {T : Type 0} {prepares : T → T → Type 0} {does : T → Floor → ℕ → End → List Item → T → Floor → Type 0} {leaves : T → T
    → Floor → Type 0} {row at : ℕ} {a b c : SeenWith T}
    {memory : Memory} → IsRise prepares does leaves row at a b → EndAnswer prepares does leaves at b c (Err memory)
    → IsFinishedUp prepares does leaves row a c (Err memory)
rise_fails {at = at} {b = b} {c = c} {memory = memory} h m = h.on c (Err memory) (IsFinishedUp.no_memory memory at b c m)

pub same_answer : {T : Type 0} {prepares : T → T → Type 0} {does : T → Floor → ℕ → End → List Item → T → Floor → Type 0} {leaves : T → T
    → Floor → Type 0} {row : ℕ} {a b : SeenWith T} {x y : Rise}
    → x ≡ y → EndAnswer prepares does leaves row a b (Ok x) → EndAnswer prepares does leaves row a b (Ok y)
same_answer {prepares = prepares} {does = does} {leaves = leaves} {row = row} {a = a} {b = b} h k =
    subst (λ r. EndAnswer prepares does leaves row a b (Ok r)) h k

-- ---- what all of it added

-- calls of one caller made these acts, and claimed no row
pub record HasAdded (a b : SeenOnJobs) : Type 0 where
  pub acts : List JobAct
  pub who : b.who ≡ a.who
  pub added : Added a.who acts [] a.floor b.floor

answer_added : {T : Type 0} {prepares : T → T → Type 0} {does : T → Floor → ℕ → End → List Item → T → Floor → Type 0} {leaves : T → T
    → Floor → Type 0} {row : ℕ} {a b : SeenWith T}
    {r : Result Rise Memory} → EndAnswer prepares does leaves row a b r → HasAdded a.seen b.seen
answer_added (EndAnswer.no_memory _ h) = record { acts = []; who = h.who; added = h.added }
answer_added (EndAnswer.not_now h m) = record { acts = []; who = h.who; added = h.added }
answer_added (EndAnswer.root z h) = record { acts = _; who = h.who; added = end_added h }
answer_added (EndAnswer.waits z h d) = record { acts = _; who = h.who; added = end_added h }
answer_added (EndAnswer.owes _ z h q m) = record { acts = _; who = h.who; added = end_added h }

added_on : {a b c : SeenOnJobs} → HasAdded a b → HasAdded b c → HasAdded a c
added_on {a} {b} {c} h k =
    let more : Added a.who k.acts [] b.floor c.floor = subst (λ n. Added n k.acts [] b.floor c.floor) h.who k.added in
    record {
      acts = h.acts ++ k.acts;
      who = k.who ∙ h.who;
      added = added_then a.who h.acts k.acts [] [] a.floor b.floor c.floor h.added more;
    }

pub finished_added : {T : Type 0} {prepares : T → T → Type 0} {does : T → Floor → ℕ → End → List Item → T → Floor → Type 0} {leaves : T → T
    → Floor → Type 0} {row : ℕ} {a b : SeenWith T}
    {r : Result (Unit {0}) Memory} → IsFinishedUp prepares does leaves row a b r → HasAdded a.seen b.seen
finished_added (IsFinishedUp.stops _ _ _ h) = answer_added h
finished_added (IsFinishedUp.no_memory m _ _ _ h) = answer_added h
finished_added (IsFinishedUp.goes_up _ p a b c r h more) = added_on (answer_added h) (finished_added more)
