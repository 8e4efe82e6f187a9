use Rattle.std.proofs.Common.{rules}
use Rattle.std.proofs.lemmas.List.Sorted.{answers_always}
use Rattle.one_thread_floor.proofs.ByHalves.{found, not_found}
use Rattle.one_thread_floor.proofs.list_removal.index_at.Goals as goal

pub returns-in-Ok-clause-at : goal.returns-in-Ok-clause-at
returns-in-Ok-clause-at g c =
    let by_place = c.in-Ok.ensures.position g.T.Queued.stands_at (answers_always _ _ _ (λ f a r h called. search rules)) in
    found g.T.Queued.stands_at c.args.place c.in-Ok.i c.args.queue.now.items by_place

pub returns-in-Err-clause-none : goal.returns-in-Err-clause-none
returns-in-Err-clause-none g c =
    let by_place = c.in-Err.ensures.position g.T.Queued.stands_at (answers_always _ _ _ (λ f a r h called. search rules)) in
    not_found g.T.Queued.stands_at c.args.place c.in-Err.field-0 c.args.queue.now.items c.requires by_place
