use Rattle.std.specs.Prelude.{List, [], ◌∷◌, ◌++◌}
use Rattle.std.proofs.Common.{◌≡◌, true, false, sym, ap, ◌∙◌, refl}
use Rattle.job_model.specs.declared.acts.JobAct.TheVariants.{Cancel}
use Rattle.job_model.proofs.Spans.{added_made}
use Rattle.note_book.specs.declared.book.Item.{Item}
use Rattle.job_tree.specs.Notes.{made_note}
use Rattle.job_tree.proofs.Looks.{in_rows, may_later, holds_later, never_none, seen_cancelled, room_seen, step_cancelled, made_cancelled, noted_one, looked_then}
use Rattle.job_tree.proofs.Causes.{made_failure}
use Rattle.job_tree.proofs.Notes.{noted_looked}
use Rattle.job_tree.proofs.Rooms.{looked_room, cancel_room, looked_fewer, looked_fewer_twice, cancel_fewer}
use Rattle.job_tree.proofs.caller.JobCaller.cancel_job.Goals as goal

pub look-requires-clause-row : goal.look-requires-clause-row
look-requires-clause-row g c = in_rows _ _ _ (g.met.F.JobFloor.shaped c.args.self.now.floor.now)
    (g.met.F.JobFloor.legal c.args.self.now.floor.now) c.requires.can

pub returns-in_default-clause-answer : goal.returns-in_default-clause-answer
returns-in_default-clause-answer g c = never_none _ _ _ _ _ (g.met.F.JobFloor.legal c.look.new.self) c.requires.can
    c.in_default.ensures.answer

pub returns-in_default-clause-room : goal.returns-in_default-clause-room
returns-in_default-clause-room g c = λ e. looked_room _ _ _ _ _ _ c.look.ensures.answer.0 refl (c.requires.room e)

pub returns-then-not-is_cancellable-clause-answer : goal.returns-then-not-is_cancellable-clause-answer
returns-then-not-is_cancellable-clause-answer g c = record {
  noted = noted_looked (record { who = refl; items = refl; looked = c.look.ensures.answer.0 });
  fewer = looked_fewer _ _ _ _ c.look.ensures.answer.0;
  failed = λ e f. absurd (let u : false ≡ true = e in cc);
  cancelled = seen_cancelled _ _ _ _ _ (g.met.F.JobFloor.legal c.look.new.self) c.in-Some.ensures.answer
      (sym c.if-not-is_cancellable.ensures);
}

pub returns-then-not-is_cancellable-clause-room : goal.returns-then-not-is_cancellable-clause-room
returns-then-not-is_cancellable-clause-room g c = λ e. looked_room _ _ _ _ _ _ c.look.ensures.answer.0 refl (c.requires.room e)

-- room was made before, or for the one entry
pub room_for_cancel-requires-clause-floor : goal.room_for_cancel-requires-clause-floor
room_for_cancel-requires-clause-floor g c = λ e.
    (room_seen _ _ _ _ _ _ (g.met.F.JobFloor.shaped c.args.self.now.floor.now) (g.met.F.JobFloor.legal c.args.self.now.floor.now)
    (g.met.F.JobFloor.legal c.look.new.self) c.requires.can c.in-Some.ensures.answer (sym c.if-not-is_cancellable.ensures)
    (c.requires.room e)).floor_room

pub room_for_cancel-requires-clause-book : goal.room_for_cancel-requires-clause-book
room_for_cancel-requires-clause-book g c = λ e.
    (room_seen _ _ _ _ _ _ (g.met.F.JobFloor.shaped c.args.self.now.floor.now) (g.met.F.JobFloor.legal c.args.self.now.floor.now)
    (g.met.F.JobFloor.legal c.look.new.self) c.requires.can c.in-Some.ensures.answer (sym c.if-not-is_cancellable.ensures)
    (c.requires.room e)).book_room

pub returns-in-Err-clause-answer : goal.returns-in-Err-clause-answer
returns-in-Err-clause-answer g c =
    let k = looked_then _ _ _ _ c.look.ensures.answer.0 (c.room_for_cancel.ensures.looked _) in
    (c.in-Err.ensures.memory, noted_looked (record { who = refl; items = c.room_for_cancel.ensures.items; looked = k }))

pub returns-in-Err-clause-room : goal.returns-in-Err-clause-room
returns-in-Err-clause-room g c = λ e. looked_room _ _ _ _ _ _
    (looked_then _ _ _ _ c.look.ensures.answer.0 (c.room_for_cancel.ensures.looked _)) (c.room_for_cancel.ensures.same_spare e)
    (c.requires.room e)

pub cancel_one-requires : goal.cancel_one-requires
cancel_one-requires g c =
    let l = g.met.F.JobFloor.legal c.room_for_cancel.new.floor in
    let k = looked_then _ _ _ _ c.look.ensures.answer.0 (c.room_for_cancel.ensures.looked _) in
    record {
      can = may_later _ _ _ _ k.same k.longer l c.requires.can;
      room = c.in_default-room_for_cancel.ensures.floor_room;
      reason = holds_later _ _ _ _ _ k.same k.longer l c.requires.reason;
    }

pub note-requires : goal.note-requires
note-requires g c = record { room = c.in_default-room_for_cancel.ensures.book_room }

pub wake_job-requires : goal.wake_job-requires
wake_job-requires g c =
    let k = looked_then _ _ _ _ c.look.ensures.answer.0 (c.room_for_cancel.ensures.looked _) in
    let m = added_made _ _ _ _ _ c.in-Now.ensures.answer in
    record {
      can = may_later _ _ _ _ m.same m.longer (g.met.F.JobFloor.legal c.cancel_one.new.self)
          (may_later _ _ _ _ k.same k.longer (g.met.F.JobFloor.legal c.room_for_cancel.new.floor) c.requires.can);
    }

pub returns-in-Now-clause-answer : goal.returns-in-Now-clause-answer
returns-in-Now-clause-answer g c =
    let k = looked_then _ _ _ _ c.look.ensures.answer.0 (c.room_for_cancel.ensures.looked _) in
    record {
      noted = noted_one k c.in-Now.ensures.answer c.wake_job.ensures.looked refl
          (c.note.ensures.items ∙ ap (λ (l : List Item). l ++ made_note (Cancel c.args.row c.args.reason) ∷ [])
          c.room_for_cancel.ensures.items);
      fewer = cancel_fewer _ _ _ _ _ _ k (g.met.F.JobFloor.legal c.cancel_one.new.self)
          (in_rows _ _ _ (g.met.F.JobFloor.shaped c.args.self.now.floor.now) (g.met.F.JobFloor.legal c.args.self.now.floor.now)
          c.requires.can) c.in-Now.ensures.answer c.wake_job.ensures.looked;
      failed = λ e f. made_failure _ _ _ _ (g.F.JobFloor.view c.cancel_one.new.self) (g.F.JobFloor.view c.wake_job.new.floor)
          (g.met.F.JobFloor.legal c.cancel_one.new.self) (g.met.F.JobFloor.legal c.wake_job.new.floor) c.in-Now.ensures.answer
          c.wake_job.ensures.looked.longer f;
      cancelled = made_cancelled _ _ _ _ (g.F.JobFloor.view c.cancel_one.new.self) (g.F.JobFloor.view c.wake_job.new.floor)
          (g.met.F.JobFloor.legal c.wake_job.new.floor) c.in-Now.ensures.answer c.wake_job.ensures.looked.longer;
    }

pub returns-in-Now-clause-room : goal.returns-in-Now-clause-room
returns-in-Now-clause-room g c = λ e.
    let k = looked_then _ _ _ _ c.look.ensures.answer.0 (c.room_for_cancel.ensures.looked _) in
    let l = g.met.F.JobFloor.legal c.room_for_cancel.new.floor in
    looked_room _ _ _ _ _ _ c.wake_job.ensures.looked refl
    (cancel_room _ _ _ _ _ _ _ (g.met.F.JobFloor.legal c.cancel_one.new.self)
    (in_rows _ _ _ (g.met.F.JobFloor.shaped c.room_for_cancel.new.floor) l (may_later _ _ _ _ k.same k.longer l c.requires.can))
    c.in-Now.ensures.answer c.note.ensures.spare
    (looked_room _ _ _ _ _ _ k (c.room_for_cancel.ensures.same_spare e) (c.requires.room e)))

pub returns-in-Already-clause-answer : goal.returns-in-Already-clause-answer
returns-in-Already-clause-answer g c =
    let k = looked_then _ _ _ _ c.look.ensures.answer.0 (c.room_for_cancel.ensures.looked _) in
    record {
      noted = noted_looked (record {
        who = refl;
        items = c.room_for_cancel.ensures.items;
        looked =
            looked_then _ _ _ _ k c.in-Already.ensures.answer.0;
      });
      fewer = looked_fewer_twice _ _ _ _ _ k c.in-Already.ensures.answer.0;
      failed = λ e f. absurd (let u : false ≡ true = e in cc);
      cancelled = step_cancelled _ _ _ (g.met.F.JobFloor.legal c.cancel_one.new.self) c.in-Already.ensures.answer.1;
    }

pub returns-in-Already-clause-room : goal.returns-in-Already-clause-room
returns-in-Already-clause-room g c = λ e.
    looked_room _ _ _ _ _ _ c.in-Already.ensures.answer.0 refl
    (looked_room _ _ _ _ _ _ (looked_then _ _ _ _ c.look.ensures.answer.0 (c.room_for_cancel.ensures.looked _))
    (c.room_for_cancel.ensures.same_spare e) (c.requires.room e))
