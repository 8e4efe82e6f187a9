-- What is so of a pass after it looked for those who wait.
use Rattle.std.specs.Prelude.{◌≡◌, ℕ, Bool, true, false, List, [], ◌∷◌, ◌++◌}
use Rattle.std.proofs.Common.{sym, ap, ◌∙◌, subst}
use Rattle.ring_channel.specs.declared.act.RingSide.{RingSide}
use Rattle.ring_channel.specs.declared.act.WaitStep.{WaitStep}
use Rattle.ring_channel.specs.Seen.{Sat, first_tag, own_tag, SameTags, IsIdle}
use Rattle.ring_channel.specs.declared.act.WaitStep.TheVariants.{Leave, GoesOn}
use Rattle.ring_channel.specs.Answers.{Adds}
use Rattle.ring_channel.specs.Looks.{seen_if, entries_on, Does, Waited, WaitAnswer}
use Rattle.ring_channel.proofs.WaitsTold.{does_then}

module _ {T : Type 0} where
  -- which tags it has
  pub does_same : (n : ℕ) (d : RingSide) (ws : List WaitStep) (a r : Sat T) → Does n d ws a r
      → (own_tag r.0 ≡ own_tag a.0) × SameTags a.0 r.0
  does_same n d ws a r x = (ap first_tag x.adds.tags, (x.adds.tags, x.adds.giving))

  -- it holds no slot
  pub does_idle : (n : ℕ) (d : RingSide) (ws : List WaitStep) (a r : Sat T) → a.0.key ≡ n → IsIdle a.0.key a.0 → Does n d ws a r
      → IsIdle r.0.key r.0
  does_idle n d ws a r is idle x = subst (λ k. IsIdle k r.0) (sym (x.key ∙ is)) (x.idle (subst (λ k. IsIdle k a.0) is idle))

  pub waited_does : (n : ℕ) (d : RingSide) (a r : Sat T) (b : Bool) → Waited n d a r b → (ws : List WaitStep) × Does n d ws a r
  waited_does n d a r true x = (_, x)
  waited_does n d a r false x = (_, does_then n d _ _ a x.stood r x.stands x.leaves)

  pub wait_answer : (n : ℕ) (d : RingSide) (a r : Sat T) (b : Bool) → Waited n d a r b → WaitAnswer n (own_tag a.0) d a.0 r.0 b
  wait_answer n d a r true x = x.adds
  wait_answer n d a r false x = record {
    stood = x.stood.0;
    stands = x.stands.adds;
    may_go = x.may_go;
    seen = x.seen;
    leaves = subst (λ t. Adds t (entries_on t d (seen_if x.seen GoesOn ++ Leave ∷ [])) x.stood.0 r.0) (ap first_tag x.stands.adds.tags)
        x.leaves.adds;
  }
