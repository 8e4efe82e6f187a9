use Rattle.std.proofs.Common.{rules, arith, ap, ◌∙◌, get_or, ◌-◌, ◌*◌, ◌≡◌}
use Rattle.ring_channel.specs.Tables.{first_word}
use Rattle.ring_channel.proofs.NewRings.{one_word_more}
use Rattle.ring_channel.proofs.meeting.first_words.Goals as goal

pub loop-i-preserved : goal.loop-i-preserved
loop-i-preserved c = let inv = c.loop-i.invariant in
    let is : c.saturating_sub.result ≡ c.loop-i.i - 32 = search rules in (
      omega (arith, c.loop-i-test.true),
      search rules,
      search rules,
      λ k lt. ap (λ l. get_or l k 0) c.push_reserved.ensures.items
          ∙ one_word_more first_word c.loop-i.words.items c.loop-i.i _ (search rules) (ap (λ z. 2 * z) is) inv.3 k lt,
    )
