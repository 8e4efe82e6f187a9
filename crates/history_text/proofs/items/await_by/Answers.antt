use Rattle.std.proofs.Common.{sym, ◌∙◌}
use Rattle.history_text.specs.Names.{listed}
use Rattle.history_text.proofs.WordCounts.{await_few, await_many}
use Rattle.history_text.proofs.Placed.{await_of}
use Rattle.history_text.proofs.items.await_by.Goals as goal

pub returns-in_default : goal.returns-in_default
returns-in_default c = await_few (listed c.args.names.now) c.args.words.now c.in_default.len_below

pub returns-in_default-3 : goal.returns-in_default-3
returns-in_default-3 c = await_many (listed c.args.names.now) c.args.words.now c.in_default.len_at_least

pub returns-in_default-2 : goal.returns-in_default-2
returns-in_default-2 c =
    await_of (listed c.args.names.now) c.args.words.now _ _ _ _ c.in-len4.len_at_least c.in-len4.len_below c.in_default-2.ensures
    c.in_default-2.ensures' c.in_default-2.ensures'' c.in_default-2.ensures'''

pub returns-in_default-2-2 : goal.returns-in_default-2-2
returns-in_default-2-2 c =
    await_of (listed c.args.names.now) c.args.words.now _ _ _ _ c.in-len4.len_at_least c.in-len4.len_below c.in_default-2.ensures
    c.in_default-2.ensures' (sym c.in_default-2.is-2 ∙ c.wait_at.ensures) c.clause_at.ensures

pub returns-in_default-2-3 : goal.returns-in_default-2-3
returns-in_default-2-3 c =
    await_of (listed c.args.names.now) c.args.words.now _ _ _ _ c.in-len4.len_at_least c.in-len4.len_below c.in_default-2.ensures
    (sym c.in_default-2.is-1 ∙ c.value_of.ensures) c.wait_at.ensures c.clause_at.ensures

pub returns-in_default-2-4 : goal.returns-in_default-2-4
returns-in_default-2-4 c =
    await_of (listed c.args.names.now) c.args.words.now _ _ _ _ c.in-len4.len_at_least c.in-len4.len_below (sym c.in_default-2.is-0
    ∙ c.channel_at.ensures) c.value_of.ensures c.wait_at.ensures c.clause_at.ensures

pub returns : goal.returns
returns c =
    await_of (listed c.args.names.now) c.args.words.now _ _ _ _ c.in-len4.len_at_least c.in-len4.len_below c.in-Some-Some-Some-Some.ensures
    c.in-Some-Some-Some-Some.ensures' c.in-Some-Some-Some-Some.ensures'' c.in-Some-Some-Some-Some.ensures'''
