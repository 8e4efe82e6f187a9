use Rattle.std.proofs.Common.{◌≡◌, ◌++◌, ap, subst, ◌∙◌, arith, length, take, drop, take_at, false, IfOk}
use Rattle.std.proofs.lemmas.Result.{IfOk-weaker}
use Rattle.run_laws.specs.LastRounds.{AllMet, AllRested}
use Rattle.run_laws.proofs.Lists.{same_length}
use Rattle.engine_many.specs.Parts.{sight_of, tag_of, tags_of}
use Rattle.engine_many.proofs.rounds.last_round.Goals as goal

pub returns-clause-tags : goal.returns-clause-tags
returns-clause-tags g c =
    let xs = c.args.tasks.items in
    let ys = c.meet_all.new.tasks in
    let same : tags_of ys ≡ tags_of xs = c.meet_all.ensures.tags ∙ ap tags_of c.deref_mut.ensures.value in
    let count = same_length tag_of xs ys same in
    let e : length ys ≡ c.args.tasks.len = omega (arith, count, c.args.tasks.ok.0) in
    let met : take c.args.tasks.len (ys ++ drop (length ys) xs) ≡ ys = take_at ys (drop (length ys) xs) c.args.tasks.len e in
    IfOk-weaker c.poll_all.result (λ r. tags_of r.0.items ≡ tags_of ys) (λ r. tags_of r.0.items ≡ tags_of xs) (λ r q. q ∙ same)
    (subst (λ l. IfOk c.poll_all.result (λ r. tags_of r.0.items ≡ tags_of l)) met c.poll_all.ensures.tags)

pub returns-clause-rested : goal.returns-clause-rested
returns-clause-rested g c =
    let at = sight_of g.C.ChannelFloor.view g.J.JobFloor.view in
    let p = g.N.ScriptName.program in
    let xs = c.args.tasks.items in
    let ys = c.meet_all.new.tasks in
    let same : tags_of ys ≡ tags_of xs = c.meet_all.ensures.tags ∙ ap tags_of c.deref_mut.ensures.value in
    let count = same_length tag_of xs ys same in
    let e : length ys ≡ c.args.tasks.len = omega (arith, count, c.args.tasks.ok.0) in
    let met : take c.args.tasks.len (ys ++ drop (length ys) xs) ≡ ys = take_at ys (drop (length ys) xs) c.args.tasks.len e in
    IfOk-weaker c.poll_all.result (λ r. r.1 ≡ false → AllMet at ys → AllRested at p r.0.items)
    (λ r. r.1 ≡ false → AllRested at p r.0.items) (λ r h none. h none c.meet_all.ensures.met)
    (subst (λ l. IfOk c.poll_all.result (λ r. r.1 ≡ false → AllMet at l → AllRested at p r.0.items)) met c.poll_all.ensures.rested)
