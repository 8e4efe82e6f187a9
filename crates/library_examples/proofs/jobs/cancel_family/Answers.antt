use Rattle.std.specs.Prelude.{◌≡◌, ℕ, ◌+◌, Bool, List, ◌++◌, length}
use Rattle.std.proofs.Common.{sym, ap, ◌∙◌, arith, length-append}
use Rattle.job_model.specs.Trees.{Shape}
use Rattle.job_model.specs.Floors.{Floor, HasRoom, MayCall}
use Rattle.note_book.specs.declared.book.Item.{Item}
use Rattle.job_tree.proofs.Rooms.{room_for_rows}
use Rattle.library_examples.proofs.jobs.cancel_family.Goals as goal

-- whoever might call still may once room was made
calls_still : (who row n : ℕ) (a b : Floor) → HasRoom n a b → MayCall who row a → MayCall who row b
calls_still who row n a b h m = record {
  caller = ap (λ (f : ℕ → Bool). f who) h.same.callers ∙ m.caller;
  attached = rw h.seen m.attached;
}

-- a list has so many items more
longer_by : (old mid new more : List Item) (count : ℕ) → mid ≡ old → new ≡ mid ++ more → count ≡ length more
    → length new ≡ length old + count
longer_by old mid new more count e f g = ap length f ∙ length-append mid more ∙ (λ i. length (e i) + sym g i)

pub cancel_pass-requires-clause-can : goal.cancel_pass-requires-clause-can
cancel_pass-requires-clause-can g c = calls_still _ _ _ _ _ c.in_default-room.ensures.ok c.requires.can

pub cancel_pass-requires-clause-reason : goal.cancel_pass-requires-clause-reason
cancel_pass-requires-clause-reason g c = tt

pub cancel_pass-requires-clause-room : goal.cancel_pass-requires-clause-room
cancel_pass-requires-clause-room g c =
    let made = c.in_default-room.ensures.ok in
    let rows = ap (λ (s : Shape). s.rows) made.same.shape in
    room_for_rows _ _ (omega (arith, rows, made.room, c.rows.ensures, c.from-rows.ensures))
    (omega (arith, rows, c.in_default.ensures.ok, c.rows.ensures, c.from-rows.ensures))

pub returns-clause-family : goal.returns-clause-family
returns-clause-family g c = c.cancel_pass.ensures.pass.pass.all

pub returns-clause-noted : goal.returns-clause-noted
returns-clause-noted g c =
    let pass = c.cancel_pass.ensures.pass.pass in
    longer_by _ _ _ _ _ c.room.ensures.items pass.noted.appended pass.counted

pub returns-in-Err-clause-noted : goal.returns-in-Err-clause-noted
returns-in-Err-clause-noted g c = tt

pub returns-in-Err-room-clause-noted : goal.returns-in-Err-room-clause-noted
returns-in-Err-room-clause-noted g c = tt
