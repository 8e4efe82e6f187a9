use Rattle.std.specs.Prelude.{◌≡◌, IfOk}
use Rattle.std.proofs.Common.{sym, subst}
use Rattle.command_line.proofs.Asked.{no_words, as_run, as_check, as_sum, as_none}
use Rattle.command_line.proofs.words.command_of.Goals as goal

pub returns-in_default-clause-exact : goal.returns-in_default-clause-exact
returns-in_default-clause-exact c = no_words c.args.words.now c.in_default.len_below

pub returns-then-eq-clause-exact : goal.returns-then-eq-clause-exact
returns-then-eq-clause-exact c =
    subst (λ asked. IfOk c.run_in.result (λ command. command ≡ asked)) (sym (as_run c.args.words.now c.name-item.result _
    c.in-len1-up.len_at_least c.name-item.is c.as_str.ensures.value c.if-eq.ensures)) c.run_in.ensures.exact

pub returns-then-eq-2-clause-exact : goal.returns-then-eq-2-clause-exact
returns-then-eq-2-clause-exact c =
    subst (λ asked. IfOk c.check_in.result (λ command. command ≡ asked)) (sym (as_check c.args.words.now c.name-item.result _ _
    c.in-len1-up.len_at_least c.name-item.is c.as_str.ensures.value c.if-eq.ensures c.as_str-else-eq.ensures.value c.if-eq-2.ensures))
    c.check_in.ensures.exact

pub returns-then-eq-3-clause-exact : goal.returns-then-eq-3-clause-exact
returns-then-eq-3-clause-exact c =
    subst (λ asked. IfOk c.sum_in.result (λ command. command ≡ asked)) (sym (as_sum c.args.words.now c.name-item.result _ _ _
    c.in-len1-up.len_at_least c.name-item.is c.as_str.ensures.value c.if-eq.ensures c.as_str-else-eq.ensures.value c.if-eq-2.ensures
    c.as_str-else-eq-2.ensures.value c.if-eq-3.ensures)) c.sum_in.ensures.exact

pub returns-else-eq-3-clause-exact : goal.returns-else-eq-3-clause-exact
returns-else-eq-3-clause-exact c = as_none c.args.words.now c.name-item.result _ _ _ c.in-len1-up.len_at_least c.name-item.is
    c.as_str.ensures.value c.if-eq.ensures c.as_str-else-eq.ensures.value c.if-eq-2.ensures c.as_str-else-eq-2.ensures.value
    c.if-eq-3.ensures
