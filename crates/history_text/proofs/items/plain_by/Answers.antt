use Rattle.std.proofs.Common.{refl, ◌∙◌}
use Rattle.history_text.specs.Names.{listed}
use Rattle.history_text.proofs.WordCounts.{plain_many}
use Rattle.history_text.proofs.Placed.{plain_of_one, plain_of_three, plain_of_two}
use Rattle.history_text.proofs.items.plain_by.Goals as goal

pub returns-in_default-2 : goal.returns-in_default-2
returns-in_default-2 c = plain_many (listed c.args.names.now) c.args.verb.now c.args.words.now c.in_default.len_at_least

pub returns-in_err-channel_at-in-len1 : goal.returns-in_err-channel_at-in-len1
returns-in_err-channel_at-in-len1 c =
    c.from_residual.ensures ∙ plain_of_one (listed c.args.names.now) c.args.verb.now c.args.words.now _ c.in-len1.len_at_least
    c.in-len1.len_below c.in_err-channel_at-in-len1.ensures

pub returns-in_ok-channel_at-in-len1 : goal.returns-in_ok-channel_at-in-len1
returns-in_ok-channel_at-in-len1 c =
    c.of_channel.ensures ∙ plain_of_one (listed c.args.names.now) c.args.verb.now c.args.words.now _ c.in-len1.len_at_least
    c.in-len1.len_below c.in_ok-channel_at-in-len1.ensures

pub returns-in_err-channel_at-in-len2 : goal.returns-in_err-channel_at-in-len2
returns-in_err-channel_at-in-len2 c =
    c.from_residual-in_err-channel_at-in-len2.ensures ∙ plain_of_two (listed c.args.names.now) c.args.verb.now c.args.words.now _ _
    c.in-len2.len_at_least c.in-len2.len_below c.in_err-channel_at-in-len2.ensures refl

pub returns-in_err-value_of-in-len2 : goal.returns-in_err-value_of-in-len2
returns-in_err-value_of-in-len2 c =
    c.from_residual-in_err-value_of-in-len2.ensures ∙ plain_of_two (listed c.args.names.now) c.args.verb.now c.args.words.now _ _
    c.in-len2.len_at_least c.in-len2.len_below c.in_ok-channel_at-in-len2.ensures c.in_err-value_of-in-len2.ensures

pub returns-in_ok-value_of-in-len2 : goal.returns-in_ok-value_of-in-len2
returns-in_ok-value_of-in-len2 c =
    c.of_number.ensures ∙ plain_of_two (listed c.args.names.now) c.args.verb.now c.args.words.now _ _ c.in-len2.len_at_least
    c.in-len2.len_below c.in_ok-channel_at-in-len2.ensures c.in_ok-value_of-in-len2.ensures

pub returns-in_err-channel_at-in-len3 : goal.returns-in_err-channel_at-in-len3
returns-in_err-channel_at-in-len3 c =
    c.from_residual-in_err-channel_at-in-len3.ensures ∙ plain_of_three (listed c.args.names.now) c.args.verb.now c.args.words.now _ _ _
    c.in-len3.len_at_least c.in-len3.len_below c.in_err-channel_at-in-len3.ensures refl refl

pub returns-in_err-value_of-in-len3 : goal.returns-in_err-value_of-in-len3
returns-in_err-value_of-in-len3 c =
    c.from_residual-in_err-value_of-in-len3.ensures ∙ plain_of_three (listed c.args.names.now) c.args.verb.now c.args.words.now _ _ _
    c.in-len3.len_at_least c.in-len3.len_below c.in_ok-channel_at-in-len3.ensures c.in_err-value_of-in-len3.ensures refl

pub returns-in_err-value_of-in-len3-2 : goal.returns-in_err-value_of-in-len3-2
returns-in_err-value_of-in-len3-2 c =
    c.from_residual-in_err-value_of-in-len3-2.ensures ∙ plain_of_three (listed c.args.names.now) c.args.verb.now c.args.words.now _ _ _
    c.in-len3.len_at_least c.in-len3.len_below c.in_ok-channel_at-in-len3.ensures c.in_ok-value_of-in-len3.ensures
    c.in_err-value_of-in-len3-2.ensures

pub returns-in_ok-value_of-in-len3-2 : goal.returns-in_ok-value_of-in-len3-2
returns-in_ok-value_of-in-len3-2 c =
    c.of_numbers.ensures ∙ plain_of_three (listed c.args.names.now) c.args.verb.now c.args.words.now _ _ _ c.in-len3.len_at_least
    c.in-len3.len_below c.in_ok-channel_at-in-len3.ensures c.in_ok-value_of-in-len3.ensures c.in_ok-value_of-in-len3-2.ensures
