use Rattle.std.proofs.Common.{rules, ◌≡◌, suc, ◌+◌, ◌-◌, get_or, length-append, sym, ap, ◌∙◌, subst, arith, length, ◌∷◌, [], ◌++◌}
use Rattle.std.specs.Prelude.{vec_len, option_to_list}
use Rattle.task_berths.specs.Answers.{AllAtHome}
use Rattle.task_berths.proofs.TasksByTag.{Turned, turned_first, turned_rest, home_more}
use Rattle.task_berths.proofs.closing.move_in.Goals as goal

pub loop-task-init : goal.loop-task-init
loop-task-init g c = (
  search rules,
  (
    search rules,
    (
      search rules,
      (
        subst (AllAtHome g.T.Tagged.tag_of) (sym c.in_ok-slots.ensures.items) (λ t lt. absurd (omega (arith, lt))),
        subst (λ n. Turned g.T.Tagged.tag_of n c.reverse.new.self.items) (sym c.args.tasks.now.ok.0)
            (turned_first g.T.Tagged.tag_of c.args.tasks.now.items c.reverse.new.self.items c.requires.tags (sym c.reverse.new.self.ok.0
            ∙ c.reverse.ensures.len ∙ c.args.tasks.now.ok.0)
            (λ k d lt. c.reverse.ensures.by_index k d (omega (arith, lt, c.args.tasks.now.ok.0))
            ∙ ap (λ n. get_or c.args.tasks.now.items (n - 1 - k) d) c.args.tasks.now.ok.0)),
      ),
    ),
  ),
)

pub loop-task-preserved : goal.loop-task-preserved
loop-task-preserved g c = let inv = c.loop-task.invariant in
    let split : c.loop-task.tasks.items ≡ c.pop.new.self.items ++ c.in-Some.task ∷ [] = c.pop.ensures.items
    ∙ ap (λ o. c.pop.new.self.items ++ option_to_list o) c.in-Some.is in
    let q = turned_rest g.T.Tagged.tag_of (vec_len c.args.tasks.now) c.pop.new.self.items c.in-Some.task
    (subst (Turned g.T.Tagged.tag_of (vec_len c.args.tasks.now)) split inv.1.1.1.1) in
    let len : vec_len c.loop-task.tasks ≡ suc (vec_len c.pop.new.self) = c.loop-task.tasks.ok.0 ∙ ap length split
    ∙ length-append c.pop.new.self.items (c.in-Some.task ∷ []) ∙ omega (arith, c.pop.new.self.ok.0) in (
      omega (arith, inv.0, len, c.push_reserved.ensures.len),
      (
        c.pop.ensures.capacity ∙ inv.1.0,
        (
          omega (arith, inv.1.1.0, c.push_reserved.ensures.capacity),
          (
            subst (AllAtHome g.T.Tagged.tag_of) (sym c.push_reserved.ensures.items)
                (home_more g.T.Tagged.tag_of c.loop-task.slots.items c.in-Some.task inv.1.1.1.0
                (omega (arith, q.1, inv.0, len, c.pop.new.self.ok.0, c.loop-task.slots.ok.0))),
            q.0,
          ),
        ),
      ),
    )
