use Rattle.std.proofs.Common.{◌≡◌, ◌++◌, ap, sym, ◌∙◌, subst, map, ◌∷◌, [], map-id, length, arith, append_assoc, length-append}
use Rattle.std.proofs.lemmas.Iterator.Adapters.{YieldsList-from_vec}
use Rattle.std.proofs.lemmas.Iterator.Consumers.{YieldsList-end, YieldsList-turn}
use Rattle.std.proofs.lemmas.List.{map-append}
use Rattle.std.proofs.lemmas.List.Elements.{All-push, All-weaker}
use Rattle.shared_floors.specs.Meetings.{EndedOnChannels, EndedOnJobs}
use Rattle.poll_states.specs.Frames.{items_of}
use Rattle.run_laws.specs.LastRounds.{books_seen}
use Rattle.run_laws.specs.Ends.{IsBroughtTo}
use Rattle.run_laws.proofs.BroughtTogether.{brought_still, brought_now}
use Rattle.engine_many.specs.Parts.{sight_of}
use Rattle.engine_many.specs.Endings.{AreBrought}
use Rattle.engine_many.proofs.ending.end_others.Goals as goal

pub push_reserved-requires : goal.push_reserved-requires
push_reserved-requires g c =
    let began = c.into_iter-other-iterator.ensures.into_iter_gives in
    let turn = YieldsList-turn (YieldsList-from_vec c.args.others.items began.0 (c.into_iter-other-iterator.result.rest.ok.0
    ∙ ap length began.0)) c.loop-other.yielded c.loop-other.other-iterator c.loop-other.yielded_by c.next.result c.next.new.self
    c.in-Some.other c.in-Some.is c.next.ensures.steps in
    omega (arith, turn.0, c.loop-other.invariant.count, c.loop-other.invariant.capacity)

pub loop-other-preserved : goal.loop-other-preserved
loop-other-preserved g c =
    let i = c.loop-other.invariant in
    let at = sight_of g.C.ChannelFloor.view g.J.JobFloor.view in
    let p = g.N.ScriptName.program in
    let same = c.into_parts-frame.ensures.same in
    let ended = subst (λ z. EndedOnChannels (g.C.ChannelFloor.view c.loop-other.channels) (g.C.ChannelFloor.view c.end.new.self)
    (g.C.ChannelFloor.view z.1)) same c.end.ensures.ended in
    let jobs = subst (λ z. EndedOnJobs (g.J.JobFloor.view c.loop-other.jobs) (g.J.JobFloor.view c.end-in-loop-other.new.self)
    (g.J.JobFloor.view z.2)) same c.end-in-loop-other.ensures.ended in
    record {
      count = omega (arith, c.push_reserved.ensures.len, i.count, length-append c.loop-other.yielded (c.in-Some.other ∷ []));
      capacity = c.push_reserved.ensures.capacity ∙ i.capacity;
      anchor = c.end.ensures.anchor ∙ i.anchor;
      books = ap (map g.B.NoteBook.items) c.push_reserved.ensures.items ∙ map-append g.B.NoteBook.items _ _
          ∙ ap (λ l. l ++ g.B.NoteBook.items c.into_book.result ∷ []) i.books
          ∙ append_assoc (map g.B.NoteBook.items c.args.books.now.items) (books_seen at c.loop-other.yielded) _
          ∙ ap (λ l. map g.B.NoteBook.items c.args.books.now.items ++ l)
          (ap (λ n. books_seen at c.loop-other.yielded ++ n ∷ []) (c.into_book.ensures ∙ ap (λ z. items_of z.0) same)
          ∙ sym (map-append (λ z. (at z).frame.book) c.loop-other.yielded (c.in-Some.other ∷ [])));
      still = λ s there. brought_still p _ _ _ _ _ _ s ended jobs (i.still s there);
      others = λ s there. All-push (λ x. IsBroughtTo p (g.C.ChannelFloor.view c.end.new.self)
          (g.J.JobFloor.view c.end-in-loop-other.new.self) (at x))
          c.loop-other.yielded c.in-Some.other
          (All-weaker _ _ (λ z b. brought_still p _ _ _ _ _ _ (at z) ended jobs b) c.loop-other.yielded (i.others s there))
          (brought_now p _ _ _ _ s (at c.in-Some.other) ended jobs (i.still s there) there.keeps c.into_parts-frame.ensures.keeps);
    }

pub returns-clause-books : goal.returns-clause-books
returns-clause-books g c =
    let began = c.into_iter-other-iterator.ensures.into_iter_gives in
    let end = YieldsList-end (YieldsList-from_vec c.args.others.items began.0 (c.into_iter-other-iterator.result.rest.ok.0
    ∙ ap length began.0)) c.loop-other.yielded c.loop-other.other-iterator c.loop-other.yielded_by c.next.result c.next.new.self
    c.in-None.is c.next.ensures.steps in
    let e : c.loop-other.yielded ≡ c.args.others.items = sym (map-id c.loop-other.yielded) ∙ end.0 in
    c.loop-other.invariant.books ∙ ap (λ l. map g.B.NoteBook.items c.args.books.now.items
    ++ books_seen (sight_of g.C.ChannelFloor.view g.J.JobFloor.view) l) e

pub returns-clause-others : goal.returns-clause-others
returns-clause-others g c =
    let began = c.into_iter-other-iterator.ensures.into_iter_gives in
    let end = YieldsList-end (YieldsList-from_vec c.args.others.items began.0 (c.into_iter-other-iterator.result.rest.ok.0
    ∙ ap length began.0)) c.loop-other.yielded c.loop-other.other-iterator c.loop-other.yielded_by c.next.result c.next.new.self
    c.in-None.is c.next.ensures.steps in
    let e : c.loop-other.yielded ≡ c.args.others.items = sym (map-id c.loop-other.yielded) ∙ end.0 in
    subst (AreBrought g.N.ScriptName.program (g.C.ChannelFloor.view c.args.channels.now) (g.J.JobFloor.view c.args.jobs.now)
    (g.C.ChannelFloor.view c.loop-other.channels) (g.J.JobFloor.view c.loop-other.jobs)
    (sight_of g.C.ChannelFloor.view g.J.JobFloor.view)) e c.loop-other.invariant.others
