use Rattle.std.proofs.Common.{arith, rules, ◌≡◌, ◌++◌, ◌∷◌, [], ℕ, zero, suc, List, Option, None, Vec, Global, length, length-append, get_or, refl, ap, ◌∙◌}
use Rattle.script_reader.proofs.tags.no_lists.Goals as goal

-- one more that is missing
none_pushed : (xs : List (Option (Vec ℕ Global))) → ((k : ℕ) → get_or xs k None ≡ None) → (k : ℕ) → get_or (xs ++ None ∷ []) k None ≡ None
none_pushed [] none zero = refl
none_pushed [] none (suc k) = refl
none_pushed (x ∷ xs) none zero = none 0
none_pushed (x ∷ xs) none (suc k) = none_pushed xs (λ j. none (suc j)) k

pub loop-block-preserved : goal.loop-block-preserved
loop-block-preserved c =
    let pushed : c.push.new.self.items ≡ c.loop-block.lists.items ++ None ∷ [] = search rules in
    record {
      long = omega (arith, ap length pushed, length-append c.loop-block.lists.items (None ∷ []), c.loop-block.invariant.long);
      none = λ k. ap (λ l. get_or l k None) pushed ∙ none_pushed c.loop-block.lists.items c.loop-block.invariant.none k;
    }
