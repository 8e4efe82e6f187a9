use Rattle.std.proofs.Common.{◌++◌, ◌∷◌, [], ◌∙◌, ap, sym, rules}
use Rattle.script_reader.specs.Scripts.{program_of}
use Rattle.run_explanation.specs.Answers.{name_of_tag}
use Rattle.run_explanation.proofs.Lines.{names_more}
use Rattle.run_explanation.proofs.naming.names_of.Goals as goal

pub loop-tag-preserved : goal.loop-tag-preserved
loop-tag-preserved c = record {
  made =
      c.in_ok-push_name.ensures
      ∙ ap (λ l. l ++ name_of_tag (program_of c.args.script.now) c.loop-tag.tag ∷ []) c.loop-tag.invariant.made
      ∙ sym (names_more (program_of c.args.script.now) c.loop-tag.tag);
  within = search rules;
}
