-- What the calls need, and tell, after room was made.
use Rattle.std.specs.Prelude.{◌≡◌, ℕ, true, List, [], is_some, refl}
use Rattle.std.proofs.Common.{sym, subst}
use Rattle.job_model.specs.Histories.{replay, Legal}
use Rattle.job_model.specs.Floors.{Floor, HasRoom, MayCall, Added}
use Rattle.job_model.proofs.Spans.{added_room, added_then}
use Rattle.job_model.specs.declared.acts.JobAct.{JobAct}
use Rattle.note_book.specs.declared.book.Item.{Item}
use Rattle.call_meaning.specs.Telling.{Told}
use Rattle.call_meaning.specs.Seen.{SeenOnJobs, SeenOnBoth}
use Rattle.call_meaning.specs.Calls.{ToldOnJobs}
use Rattle.call_meaning.proofs.JobTellings.{nobody_called, told_nothing, told_after}
use Rattle.job_tree.proofs.Looks.{may_later}
use Rattle.scope_builders.specs.Calls.{MayBuild}

-- room was made for so many entries, and nothing was noted
pub record IsRoomed (n : ℕ) (a b : SeenOnJobs) : Type 0 where
  pub who : b.who ≡ a.who
  pub items : b.items ≡ a.items
  pub room : HasRoom n a.floor b.floor

pub made_room : {who n : ℕ} {a b : Floor} {i j : List Item} → HasRoom n a b → j ≡ i
    → IsRoomed n (record { who = who; floor = a; items = i }) (record { who = who; floor = b; items = j })
made_room h e = record { who = refl; items = e; room = h }

-- no memory: nothing was told
pub told_none : {a b : SeenOnJobs} → b.floor ≡ a.floor → b.who ≡ a.who → b.items ≡ a.items → ToldOnJobs [] a b []
told_none {a} {b} e w f =
    told_nothing w f (subst (λ (x : Floor). Added a.who [] [] a.floor x) (sym e) (nobody_called a.who a.floor))

pub told_roomed : {n : ℕ} {rows : List ℕ} {a b c : SeenOnJobs} {told : List Told} → IsRoomed n a b → ToldOnJobs rows b c told
    → ToldOnJobs rows a c told
told_roomed {n} {a = a} {b = b} h m = told_after h.who h.items (added_room a.who n a.floor b.floor h.room) m

pub added_roomed : (who n : ℕ) (acts : List JobAct) (rows : List ℕ) (a b c : Floor) → HasRoom n a b → Added who acts rows b c
    → Added who acts rows a c
added_roomed who n acts rows a b c h k = added_then who [] acts [] rows a b c (added_room who n a b h) k

-- the Jobs by another name
pub added_to : {who : ℕ} {acts : List JobAct} {rows : List ℕ} {a b c : Floor} → c ≡ b → Added who acts rows a b → Added who acts rows a c
added_to {who} {acts} {rows} {a} e h = subst (λ (x : Floor). Added who acts rows a x) (sym e) h

-- the caller may still call for the row
pub may_call_after : {base row : ℕ} {acts : List JobAct} {rows : List ℕ} {a : SeenOnBoth} {j' : Floor} → MayBuild base a
    → is_some (replay a.jobs.seen row) ≡ true → Added a.who acts rows a.jobs j' → Legal j'.shape j'.seen → MayCall a.who row j'
may_call_after {row = row} {a = a} {j' = j'} m s h l =
    may_later a.who row a.jobs j' h.same h.longer l (record { caller = m.of_jobs; attached = s })
