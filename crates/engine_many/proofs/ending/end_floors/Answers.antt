use Rattle.std.proofs.Common.{◌++◌, ◌∷◌, [], ap, sym, ◌∙◌, subst, map}
use Rattle.shared_floors.specs.Meetings.{EndedOnJobs}
use Rattle.poll_states.specs.Frames.{items_of}
use Rattle.run_laws.specs.Sights.{KnowsTags}
use Rattle.run_laws.specs.LastRounds.{books_seen}
use Rattle.run_laws.specs.Ends.{IsBroughtTo}
use Rattle.run_laws.proofs.Hearing.{tags_same}
use Rattle.run_laws.proofs.BroughtTogether.{brought_still, all_still, none_else}
use Rattle.engine_many.specs.Parts.{sight_of}
use Rattle.engine_many.proofs.WholeFloors.{aside_there, brought_itself, ended_heard}
use Rattle.engine_many.proofs.ending.end_floors.Goals as goal

pub returns : goal.returns
returns g c =
    let at = sight_of g.C.ChannelFloor.view g.J.JobFloor.view in
    let p = g.N.ScriptName.program in
    let calls = g.C.SharedChannels.may_act in
    let acts = g.J.SharedBeside.may_act_beside in
    let same = c.into_parts-frame.ensures.same in
    let own = subst (λ z. IsBroughtTo p (g.C.ChannelFloor.view z.1) (g.J.JobFloor.view z.2) (at c.args.root)) (sym same)
    (brought_itself p (at c.args.root) c.into_parts-frame.ensures.keeps) in
    let there = c.end_others.ensures.still (at c.args.root) own in
    let ended = ended_heard _ _ _ _ (c.learn.ensures.looked _ there.caller) c.learn.ensures.looked c.end-2.ensures.ended in
    let jobs = subst (λ f. EndedOnJobs (g.J.JobFloor.view c.end_others.new.jobs) f (g.J.JobFloor.view c.args.aside.1))
    (sym c.learn.ensures.jobs) c.end.ensures.ended in
    let anchor = c.end_others.ensures.anchor ∙ ap (λ z. g.C.ChannelFloor.anchor z.1) same in
    let knows = subst (λ t. KnowsTags p t (calls (g.C.ChannelFloor.anchor c.args.root.1)) (acts (g.C.ChannelFloor.anchor c.args.root.1)))
    c.requires.root c.into_parts-frame.ensures.tags in
    let heard = c.learn.ensures.channels_anchor ∙ anchor in
    record {
      books = c.end_others.ensures.books
          ∙ ap (λ l. map g.B.NoteBook.items l ++ books_seen at c.args.others.items) (c.push_reserved.ensures.items
          ∙ ap (λ l. l ++ c.into_book.result ∷ []) c.requires.empty)
          ∙ ap (λ n. n ∷ books_seen at c.args.others.items) (c.into_book.ensures ∙ ap (λ z. items_of z.0) same);
      root = brought_still p _ _ _ _ _ _ (at c.args.root) ended jobs there;
      others = all_still at p _ _ _ _ _ _ c.args.others.items ended jobs (c.end_others.ensures.others (at c.args.root) own);
      aside = aside_there p _ _ _ _ _ _ ended jobs c.requires.aside;
      tags = tags_same p 0 _ _ _ _ (ap calls (c.end-2.ensures.anchor ∙ heard)) (ap acts (c.end-2.ensures.anchor ∙ heard)) knows;
      none = none_else p _ _ _ _ _ _ (calls (g.C.ChannelFloor.anchor c.end-2.new.self))
          (acts (g.C.ChannelFloor.anchor c.learn.new.channels))
          ended jobs c.requires.aside
          (tags_same p 0 _ _ _ _ (ap calls (c.end-2.ensures.anchor ∙ heard)) (ap acts heard) knows)
          c.end-2.ensures.none c.learn.ensures.none c.learn.ensures.unclaimed;
    }
