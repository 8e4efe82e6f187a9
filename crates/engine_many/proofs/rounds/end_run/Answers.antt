use Rattle.std.proofs.Common.{rules, arith, ℕ, List, ◌∷◌, map, ◌≡◌, ◌<◌, ◌++◌, length, ap, sym, subst, ◌∙◌, get_or, take, drop, take_at, remove}
use Rattle.std.proofs.lemmas.Grind.{common_steps}
use Rattle.run_laws.specs.Sights.{CountUp}
use Rattle.run_laws.specs.LastRounds.{AllRested}
use Rattle.run_laws.specs.Ends.{IsRunInOneOrderIf, AreJoint}
use Rattle.run_laws.proofs.Lists.{first_of as taken_first}
use Rattle.run_laws.proofs.BroughtTogether.{run_over}
use Rattle.run_laws.proofs.Lists.{same_length, some_coroutine}
use Rattle.script_meaning.specs.Polls.{Frame}
use Rattle.engine_many.specs.Parts.{sight_of, tag_of, tags_of}
use Rattle.engine_many.proofs.WholeFloors.{are_whole}
use Rattle.engine_many.proofs.rounds.end_run.Goals as goal

-- the list is the first of those in its place, and the rest
split_first : {X : Type 0} (tag : X → ℕ) (xs ys rest : List X) (n : ℕ) (root : X) → map tag ys ≡ map tag xs → length xs ≡ n
    → 0 < length xs → root ≡ get_or (take n (ys ++ drop (length ys) xs)) 0 root → rest ≡ remove (take n (ys ++ drop (length ys) xs)) 0
    → ys ≡ root ∷ rest
split_first tag xs ys rest n root same long some first others =
    let equal = same_length tag xs ys same in
    let met : take n (ys ++ drop (length ys) xs) ≡ ys = take_at ys (drop (length ys) xs) n (equal ∙ long) in
    taken_first ys rest root (subst (λ k. 0 < k) (sym equal) some) (subst (λ l. root ≡ get_or l 0 root) met first)
    (subst (λ l. rest ≡ remove l 0) met others)

-- its first has the tag 0 where the tags count up
first_tag : {X : Type 0} (tag : X → ℕ) (xs ys rest : List X) (root : X) → map tag ys ≡ map tag xs → ys ≡ root ∷ rest
    → CountUp 0 (map tag xs) → tag root ≡ 0
first_tag tag xs ys rest root same whole up = (subst (λ l. CountUp 0 (map tag l)) whole (subst (CountUp 0) (sym same) up)).0

pub meet_all-requires : goal.meet_all-requires
meet_all-requires g c = record {
  some = subst (λ l. 0 < length l) (sym c.deref_mut.ensures.value) (subst (λ n. 0 < n) (sym c.requires.count)
      (some_coroutine g.N.ScriptName.program c.requires.script));
}

pub remove-root-requires : goal.remove-root-requires
remove-root-requires g c = let some : 0 < length c.args.tasks.items =
    subst (λ n. 0 < n) (sym c.requires.count) (some_coroutine g.N.ScriptName.program c.requires.script)
    in first_of (search rules, grind (arith, common_steps))

pub returns : goal.returns
returns g c =
    let at = sight_of g.C.ChannelFloor.view g.J.JobFloor.view in
    let p = g.N.ScriptName.program in
    let xs = c.args.tasks.items in
    let ys = c.meet_all.new.tasks in
    let same : tags_of ys ≡ tags_of xs = c.meet_all.ensures.tags ∙ ap tags_of c.deref_mut.ensures.value in
    let equal = same_length tag_of xs ys same in
    let e : length ys ≡ c.args.tasks.len = omega (arith, equal, c.args.tasks.ok.0) in
    let met : take c.args.tasks.len (ys ++ drop (length ys) xs) ≡ ys = take_at ys (drop (length ys) xs) c.args.tasks.len e in
    let whole = taken_first ys c.remove-root.new.self.items c.remove-root.result
    (subst (λ n. 0 < n) (sym (equal ∙ c.requires.count)) (some_coroutine p c.requires.script))
    (subst (λ l. c.remove-root.result ≡ get_or l 0 c.remove-root.result) met c.remove-root.ensures.value)
    (subst (λ l. c.remove-root.new.self.items ≡ remove l 0) met c.remove-root.ensures.items) in
    let left = c.end_floors.result in
    let count = ap length (sym whole) ∙ equal ∙ c.requires.count in
    let up = subst (λ l. CountUp 0 (tags_of l)) whole (subst (CountUp 0) (sym same) c.requires.tags) in
    record {
      rest = subst (λ b. IsRunInOneOrderIf (AreJoint g.J.JobFloor.view) p b (g.C.ChannelFloor.view left.channels).seen
          (g.J.JobFloor.view left.jobs).seen
          c.look_at_root-end.result) (sym c.end_floors.ensures.books)
          (run_over at p c.remove-root.result c.look_at_root-end.new.self c.remove-root.new.self.items (g.C.ChannelFloor.view left.channels)
          (g.J.JobFloor.view left.jobs) c.look_at_root-end.result
          c.requires.script count up (subst (AllRested at p) whole
          (c.meet_all.ensures.rested p (subst (AllRested at p) (sym c.deref_mut.ensures.value) c.requires.rested)))
          c.look_at_root-end.ensures.more c.look_at_root-end.ensures.seen c.end_floors.ensures.root c.end_floors.ensures.others
          c.end_floors.ensures.none
          (g.met.C.ChannelFloor.legal left.channels) (g.met.J.JobFloor.legal left.jobs) (g.met.J.JobFloor.claimed left.jobs)
          (AreJoint g.J.JobFloor.view) (λ joint x. joint x.2));
      whole = are_whole at p c.look_at_root-end.new.self c.remove-root.new.self.items (g.C.ChannelFloor.view left.channels)
          (g.J.JobFloor.view left.jobs) (g.C.SharedChannels.may_act (g.C.ChannelFloor.anchor left.channels))
          (g.J.SharedBeside.may_act_beside (g.C.ChannelFloor.anchor left.channels)) count
          (ap (λ (f : Frame). f.tag) c.look_at_root-end.ensures.more.frame ∙ up.0, up.1)
          c.end_floors.ensures.root c.end_floors.ensures.others c.end_floors.ensures.aside c.end_floors.ensures.tags
          c.end_floors.ensures.none;
    }

pub look_at_root-end-requires : goal.look_at_root-end-requires
look_at_root-end-requires g c =
    let xs = c.args.tasks.items in
    let ys = c.meet_all.new.tasks in
    let same : tags_of ys ≡ tags_of xs = c.meet_all.ensures.tags ∙ ap tags_of c.deref_mut.ensures.value in
    first_tag tag_of xs ys c.remove-root.new.self.items c.remove-root.result same
    (split_first tag_of xs ys _ c.args.tasks.len _ same (sym c.args.tasks.ok.0) (subst (λ n. 0 < n) (sym c.requires.count)
    (some_coroutine g.N.ScriptName.program c.requires.script)) c.remove-root.ensures.value c.remove-root.ensures.items) c.requires.tags

pub end_floors-requires-clause-root : goal.end_floors-requires-clause-root
end_floors-requires-clause-root g c =
    let xs = c.args.tasks.items in
    let ys = c.meet_all.new.tasks in
    let same : tags_of ys ≡ tags_of xs = c.meet_all.ensures.tags ∙ ap tags_of c.deref_mut.ensures.value in
    ap (λ (f : Frame). f.tag) c.look_at_root-end.ensures.more.frame
    ∙ first_tag tag_of xs ys c.remove-root.new.self.items c.remove-root.result same
    (split_first tag_of xs ys _ c.args.tasks.len _ same (sym c.args.tasks.ok.0) (subst (λ n. 0 < n) (sym c.requires.count)
    (some_coroutine g.N.ScriptName.program c.requires.script)) c.remove-root.ensures.value c.remove-root.ensures.items) c.requires.tags

pub end_floors-requires-clause-room : goal.end_floors-requires-clause-room
end_floors-requires-clause-room g c =
    let xs = c.args.tasks.items in
    let ys = c.meet_all.new.tasks in
    let same : tags_of ys ≡ tags_of xs = c.meet_all.ensures.tags ∙ ap tags_of c.deref_mut.ensures.value in
    let whole = split_first tag_of xs ys c.remove-root.new.self.items c.args.tasks.len c.remove-root.result same
    (sym c.args.tasks.ok.0) (subst (λ n. 0 < n) (sym c.requires.count)
    (some_coroutine g.N.ScriptName.program c.requires.script)) c.remove-root.ensures.value c.remove-root.ensures.items in
    omega (arith, ap length whole, same_length tag_of xs ys same, c.in_ok-room.ensures.capacity, c.len.ensures, c.args.tasks.ok.0)

pub end_floors-requires-clause-aside : goal.end_floors-requires-clause-aside
end_floors-requires-clause-aside g c = c.requires.aside
