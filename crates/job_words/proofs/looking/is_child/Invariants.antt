use Rattle.std.proofs.Common.{[]}
use Rattle.job_model.specs.Families.{children_of}
use Rattle.word_rules.specs.Deeds.{store_of}
use Rattle.job_words.specs.Passes.{Goes}
use Rattle.job_words.specs.Attaches.{IsAttached}
use Rattle.job_words.specs.Forests.{seen_by, IsOwn}
use Rattle.job_words.proofs.ChildrenInOrder.{IsAhead, ahead}
use Rattle.job_words.proofs.looking.is_child.Given as goal

abbrev pub invariant-walk : goal.invariant-walk
invariant-walk l = record {
  own : IsOwn l.forest l.pass l.who;
  goes : Goes l.who [] (seen_by l.initial.pass) (seen_by l.pass);
  parent : IsAttached (seen_by l.initial.pass) l.parent;
  ahead : IsAhead (children_of ((store_of (seen_by l.initial.pass).seen).tree l.parent)) l.row l.next;
}

abbrev pub decreases-walk : goal.decreases-walk
decreases-walk l = ahead l.next (children_of ((store_of (seen_by l.pass).seen).tree l.parent))
