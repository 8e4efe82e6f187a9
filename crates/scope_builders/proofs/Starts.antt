-- Jobs that are attached, started and cancelled.
use Rattle.std.specs.Prelude.{◌≡◌, ℕ, Bool, true, false, List, [], ◌∷◌, ◌++◌, Option, Some, None, Result, Ok, Err, is_some, option_map, refl, if◌then◌else◌, ◌<◌, ◌≤◌}
use Rattle.std.proofs.Common.{sym, ap, ◌∙◌, subst}
use Rattle.job_model.specs.declared.acts.JobState.TheVariants.{New}
use Rattle.job_model.specs.declared.acts.JobAct.TheVariants.{Attach, Start}
use Rattle.job_model.specs.declared.acts.JobNote.{JobNote}
use Rattle.job_model.specs.declared.acts.JobNote.TheVariants.{NoRow, Used, ParentEnded}
use Rattle.job_model.specs.declared.acts.JobKind.{JobKind}
use Rattle.job_model.specs.declared.acts.JobEntry.{JobEntry}
use Rattle.job_model.specs.declared.acts.Reason.TheVariants as reasons
use Rattle.job_model.specs.declared.floor.Attached.{Attached}
use Rattle.job_model.specs.declared.floor.AttachError.{AttachError}
use Rattle.job_model.specs.declared.floor.AttachError.TheVariants as error
use Rattle.job_model.specs.Trees.{Shape, Job, Tree, is_new, state_of}
use Rattle.job_model.specs.Effects.{change, first_state, new_child, with_child, started}
use Rattle.job_model.specs.Needs.{IsRowFor, MayEndBody}
use Rattle.job_model.specs.Histories.{replay, Legal}
use Rattle.job_model.specs.Floors.{Floor, HasRoom, Looked, Added}
use Rattle.job_model.specs.Answers.{AttachAnswer, FoundNoRow, FoundUsed, FoundParentEnded, IsNotNew, StartAnswer}
use Rattle.job_model.proofs.Histories.{Legal-last, replay_push}
use Rattle.job_model.proofs.Spans.{added_made, added_looked, looked_moment, added_after}
use Rattle.job_model.proofs.Rows.{same}
use Rattle.job_model.proofs.Families.{changed_here}
use Rattle.job_model.proofs.Lasting.{not_new_lasts}
use Rattle.job_model.proofs.Own.{prefix_keeps}
use Rattle.note_book.specs.declared.book.Item.TheVariants as item
use Rattle.note_book.specs.Items.{job_act}
use Rattle.call_meaning.specs.Telling.{on_jobs, NotNew, HasEnded, did, knew}
use Rattle.call_meaning.specs.Facts.{JobFactHolds, JobNoteHolds}
use Rattle.call_meaning.specs.JobCalls.{scope_kind}
use Rattle.call_meaning.specs.Seen.{SeenOnJobs, tree_in}
use Rattle.call_meaning.specs.Calls.{ToldOnJobs}
use Rattle.call_meaning.proofs.JobTellings.{nobody_called, told_fact, told_knew, told_did, told_so, told_then, told_before}
use Rattle.job_tree.specs.Notes.{made_note}
use Rattle.job_tree.specs.Passes.{IsPass, IsPartOfPass}
use Rattle.job_tree.proofs.PassesTold.{told_noted}
use Rattle.scope_builders.specs.declared.builder.LaunchError.{LaunchError}
use Rattle.scope_builders.specs.declared.builder.LaunchError.TheVariants as launch
use Rattle.scope_builders.specs.Calls.{IsScopeRow, EnterAnswer, StartedAnswer, CancelledAll, CancelledSome}
use Rattle.scope_builders.specs.Parts.{HasAttached, MetParentEnded, AttachedAnswer}
use Rattle.scope_builders.proofs.Rooms.{IsRoomed, told_roomed, added_roomed}

-- ---- attach

-- a child is as it was attached
attached_here : (who p r tag : ℕ) (kind : JobKind) (cancelled : Bool) (before seen : List JobEntry) → seen ≡ before
    ++ record { who = who; act = Attach p r kind tag cancelled } ∷ [] → replay seen r ≡ Some (new_child p kind tag cancelled)
attached_here who p r tag kind cancelled before seen e =
    ap (λ (es : List JobEntry). replay es r) e
    ∙ ap (λ (t : Tree). t r) (replay_push before (record { who = who; act = Attach p r kind tag cancelled }))
    ∙ ap (λ b. if b then Some (new_child p kind tag cancelled) else change p (with_child r) (replay before) r) (same r)

pub has_attached : {parent tag n : ℕ} {kind : JobKind} {child : Attached} {a b c : SeenOnJobs} → IsRoomed n a b
    → Legal c.floor.shape c.floor.seen
    → AttachAnswer a.who parent kind tag b.floor c.floor (Ok child) → c.who ≡ a.who
    → c.items ≡ b.items ++ made_note (Attach parent child.row kind tag child.cancelled) ∷ [] → HasAttached parent kind tag a c child
has_attached {parent} {tag} {n} {kind} {child} {a} {b} {c} h l m w k =
    let who : ℕ = a.who in
    let entry : JobEntry = record { who = who; act = Attach parent child.row kind tag child.cancelled } in
    let row_for = (Legal-last c.floor.shape m.before entry (subst (Legal c.floor.shape) m.last l)).1.3 in
    let told : ToldOnJobs (child.row ∷ []) (record b { who = who }) c (did entry.act ∷ []) = told_did entry.act w k m in
    record {
      row_for = subst (λ (s : Shape). IsRowFor s who kind tag child.row) (m.same.shape ∙ h.room.same.shape) row_for;
      noted = told_roomed (record { who = refl; items = h.items; room = h.room }) told;
      here = attached_here who parent child.row tag kind child.cancelled m.before c.floor.seen m.last;
    }

-- an answer that says nothing of the Jobs
knew_roomed : {n : ℕ} (note : JobNote) {a b c : SeenOnJobs} → job_act note ≡ [] → ((tree : Tree) → JobNoteHolds note tree) → IsRoomed n a b
    → Looked a.who [] b.floor c.floor → c.who ≡ a.who → c.items ≡ b.items ++ item.Job note ∷ [] → ToldOnJobs [] a c (knew note ∷ [])
knew_roomed {n} note {a} {b} {c} none holds h look w k =
    let who : ℕ = a.who in
    let added = added_looked who [] b.floor c.floor look in
    let so = added_after who [] [] b.floor c.floor (JobNoteHolds note) added (holds (tree_in c)) in
    let told : ToldOnJobs [] (record b { who = who }) c (knew note ∷ []) = told_knew note none w k added so in
    told_roomed (record { who = refl; items = h.items; room = h.room }) told

-- each row for scopes was seen claimed
pub found_no_row : (parent tag : ℕ) (kind : JobKind) {n : ℕ} {x : AttachError} {a b c : SeenOnJobs} → x ≡ error.NoRow → IsRoomed n a b
    → AttachAnswer a.who parent kind tag b.floor c.floor (Err x) → c.who ≡ a.who → c.items ≡ b.items ++ item.Job NoRow ∷ []
    → AttachedAnswer parent kind tag a c (Err launch.NoRow)
found_no_row parent tag kind {n} {x} {a} {b} {c} is h answer w k =
    let m : FoundNoRow a.who kind b.floor c.floor = subst (λ (y : AttachError). AttachAnswer a.who parent kind tag b.floor c.floor (Err y))
    is answer in
    let same = m.looked.same.shape in (
      m.scope,
      λ r s. m.used r (subst (λ (t : Shape). t.coroutines ≤ r) same s.behind) (subst (λ (t : Shape). r < t.rows) same s.within),
      knew_roomed NoRow refl (λ tree. tt) h m.looked w k,
    )

-- the coroutine's row was seen claimed
pub found_used : (parent tag : ℕ) (kind : JobKind) {n : ℕ} {x : AttachError} {a b c : SeenOnJobs} → x ≡ error.Used → IsRoomed n a b
    → AttachAnswer a.who parent kind tag b.floor c.floor (Err x) → c.who ≡ a.who → c.items ≡ b.items ++ item.Job Used ∷ []
    → AttachedAnswer parent kind tag a c (Err launch.Used)
found_used parent tag kind {n} {x} {a} {b} {c} is h answer w k =
    let m : FoundUsed a.who kind tag b.floor c.floor =
    subst (λ (y : AttachError). AttachAnswer a.who parent kind tag b.floor c.floor (Err y)) is answer in
    (m.coroutine, m.used, knew_roomed Used refl (λ tree. tt) h m.looked w k)

-- the parent had ended
pub found_ended : {parent n tag : ℕ} {kind : JobKind} {x : AttachError} {a b c : SeenOnJobs} → x ≡ error.ParentEnded → IsRoomed n a b
    → AttachAnswer a.who parent kind tag b.floor c.floor (Err x) → c.who ≡ a.who → c.items ≡ b.items ++ item.Job ParentEnded ∷ []
    → MetParentEnded parent kind tag a c
found_ended {parent} {n} {tag} {kind} {x} {a} {b} {c} is h answer w k =
    let who : ℕ = a.who in
    let m : FoundParentEnded who parent kind tag b.floor c.floor =
    subst (λ (y : AttachError). AttachAnswer who parent kind tag b.floor c.floor (Err y)) is answer in
    let rows : List ℕ = m.row ∷ [] in
    let first : SeenOnJobs = record b { who = who } in
    let between : SeenOnJobs = record { who = who; floor = c.floor; items = b.items } in
    let none = nobody_called who c.floor in
    let ended = looked_moment who rows b.floor c.floor (JobFactHolds (HasEnded parent)) m.looked m.ended in
    let had : ToldOnJobs rows first between (on_jobs (HasEnded parent) ∷ []) =
    told_fact (HasEnded parent) refl refl (added_looked who rows b.floor c.floor m.looked) ended in
    let heard : ToldOnJobs [] between c (knew ParentEnded ∷ []) =
    told_knew ParentEnded refl w k none (added_after who [] [] c.floor c.floor _ none tt) in
    record {
      row = m.row;
      row_for = subst (λ (s : Shape). IsRowFor s who kind tag m.row) h.room.same.shape m.row_for;
      noted = told_roomed (record { who = refl; items = h.items; room = h.room }) (told_then had heard);
    }

-- ---- enter

scope_row : (who row : ℕ) (supervisor : Bool) (j : Floor) → IsRowFor j.shape who (scope_kind supervisor) who row → IsScopeRow j row
scope_row who row supervisor j h = record { behind = h.1; within = h.2 }

first_not_new : (cancelled : Bool) → is_new (first_state cancelled false) ≡ false
first_not_new true = refl
first_not_new false = refl

pub enter_answer : (parent : ℕ) (supervisor : Bool) (a b : SeenOnJobs) (r : Result Attached LaunchError)
    → AttachedAnswer parent (scope_kind supervisor) a.who a b r → EnterAnswer parent supervisor a b r
enter_answer parent supervisor a b (Ok x) h = record {
  of_scopes = scope_row a.who x.row supervisor a.floor h.row_for;
  noted = h.noted;
  own = subst (MayEndBody a.who) (sym h.here) (refl, first_not_new x.cancelled, refl);
}
enter_answer parent supervisor a b (Err launch.NoRow) h = (h.1, h.2)
enter_answer parent supervisor a b (Err launch.Used) h = let k : true ≡ false = h.0 in cc
enter_answer parent supervisor a b (Err launch.ParentEnded) h = record {
  row = h.row;
  of_scopes = scope_row a.who h.row supervisor a.floor h.row_for;
  noted = h.noted;
}
enter_answer parent supervisor a b (Err launch.Memory) h = h

-- ---- start

started_not_new : (x : Option Job) → is_some x ≡ true → IsNotNew (option_map started x)
started_not_new None h = cc
started_not_new (Some j) h = refl

is_new_some : (x : Option Job) → state_of x ≡ Some New → is_some x ≡ true
is_new_some None e = cc
is_new_some (Some j) e = refl

-- a Job was New and was started
pub started_now : {row n : ℕ} {a b d : SeenOnJobs} {c : Floor} → IsRoomed n a b → Legal c.shape c.seen → Legal d.floor.shape d.floor.seen
    → StartAnswer a.who row b.floor c true → Looked a.who [] c d.floor → d.who ≡ a.who → d.items ≡ b.items ++ made_note (Start row) ∷ []
    → StartedAnswer row a d (Ok true)
started_now {row} {n} {a} {b} {d} {c} h lc ld m k w e =
    let who : ℕ = a.who in
    let entry : JobEntry = record { who = who; act = Start row } in
    let tree : Tree = replay m.before in
    let need : state_of (tree row) ≡ Some New = (Legal-last c.shape m.before entry (subst (Legal c.shape) m.last lc)).1 in
    let is : change row started tree row ≡ replay c.seen row =
    sym (ap (λ t. t row) (ap replay m.last ∙ replay_push m.before entry)) in
    let now : IsNotNew (replay c.seen row) = subst IsNotNew (sym (changed_here row started tree)
    ∙ is) (started_not_new (tree row) (is_new_some (tree row) need)) in
    let later : IsNotNew (tree_in d row) = prefix_keeps IsNotNew not_new_lasts d.floor.shape c.seen d.floor.seen row ld k.longer now in
    let first : SeenOnJobs = record b { who = who } in
    let between : SeenOnJobs = record { who = who; floor = c; items = d.items } in
    let told : ToldOnJobs [] first between (did (Start row) ∷ []) = told_did (Start row) refl e m in
    let still : ToldOnJobs [] first d (did (Start row) ∷ []) = told_before told w refl (added_looked who [] c d.floor k) in
    told_roomed (record { who = refl; items = h.items; room = h.room }) (told_so (NotNew row) still later)

-- it was not New
pub started_before : {row n : ℕ} {a b c : SeenOnJobs} → IsRoomed n a b → StartAnswer a.who row b.floor c.floor false → c.who ≡ a.who
    → c.items ≡ b.items → StartedAnswer row a c (Ok false)
started_before {row} {n} {a} {b} {c} h m w e =
    let who : ℕ = a.who in
    let so = looked_moment who [] b.floor c.floor (JobFactHolds (NotNew row)) m.0 m.1 in
    let told : ToldOnJobs [] (record b { who = who }) c (on_jobs (NotNew row) ∷ []) =
    told_fact (NotNew row) w e (added_looked who [] b.floor c.floor m.0) so in
    told_roomed (record { who = refl; items = h.items; room = h.room }) told

pub started_added : (who row n : ℕ) (j j1 j2 : Floor) → HasRoom n j j1 → StartAnswer who row j1 j2 true → Added who (Start row ∷ []) [] j j2
started_added who row n j j1 j2 h m = added_roomed who n (Start row ∷ []) [] j j1 j2 h (added_made who (Start row) [] j1 j2 m)

-- ---- cancel

pub cancelled_all : {row : ℕ} {newly : Bool} {a b : SeenOnJobs} {count : ℕ} → IsPass row reasons.Request newly a b count
    → CancelledAll row a b count
cancelled_all {newly = newly} p = record {
  newly = newly;
  told = p.told;
  group = p.group;
  noted = p.noted;
  counted = p.counted;
  all = p.all;
}

-- there was no memory for all
pub cancelled_part : {row : ℕ} {a b : SeenOnJobs} → IsPartOfPass row reasons.Request a b → CancelledSome row a b
cancelled_part h = record { newly = h.newly; below = h.below; noted = told_noted h.noted; cancels = h.cancels }
