-- What is known behind a call of the own, and behind one of another.
use Rattle.std.specs.Prelude.{◌≡◌, ◌≢◌, ℕ, ◌==◌, Bool, true, false, List, [], ◌∷◌, ◌++◌, Option, Some, None, refl, if◌then◌else◌}
use Rattle.std.proofs.Common.{sym, ap, ◌∙◌}
use Rattle.std.proofs.lemmas.Bool.{eqb-true}
use Rattle.co_base.specs.declared.names.WaitId.{WaitId}
use Rattle.channel_model.specs.declared.acts.Act.{Act}
use Rattle.channel_model.specs.Answers.{IsUnsettledOf}
use Rattle.channel_model.specs.Histories.{acts_of, Legal}
use Rattle.channel_model.specs.Floors.{Floor, entries_by}
use Rattle.channel_model.proofs.Histories.{acts_of-append}
use Rattle.channel_model.proofs.Others.{others_keep, unsettled_stays}
use Rattle.channel_model.proofs.Spans.{nothing_more}
use Rattle.permits.proofs.UsesGo.{uses_kept}
use Rattle.floor_tests.specs.declared.permit_calls.known_calls.Known.{Known}
use Rattle.floor_tests.specs.KnownPermits.{Knows, IsOwnWait, Adds}

-- ---- behind another's call

none_of_other : (k who : ℕ) (acts : List Act) → k ≢ who → acts_of k (entries_by who acts) ≡ []
unfolding acts_of
none_of_other k who [] ne = refl
none_of_other k who (act ∷ acts) ne = ap (λ (b : Bool). if b then act ∷ acts_of k (entries_by who acts) else acts_of k
    (entries_by who acts)) (by_test (who == k) refl) ∙ none_of_other k who acts ne
  where
    by_test : (b : Bool) → (who == k) ≡ b → b ≡ false
    by_test true e = absurd (ne (sym (eqb-true who k e)))
    by_test false e = refl

same_acts : (k who : ℕ) (a d : Floor) → k ≢ who → a.alone ≡ true → Adds who a d → acts_of k d.seen ≡ acts_of k a.seen
same_acts k who a d ne alone h =
    ap (acts_of k) (h.added.alone alone) ∙ acts_of-append k a.seen (entries_by who h.acts)
    ∙ ap (λ l. acts_of k a.seen ++ l) (none_of_other k who h.acts ne) ∙ nothing_more (acts_of k a.seen)

wait_kept : (c k who : ℕ) (w : Option WaitId) (a d : Floor) → Legal d.shape d.seen → Adds who a d → acts_of k d.seen ≡ acts_of k a.seen
    → IsOwnWait c k w a → IsOwnWait c k w d
wait_kept c k who None a d l h e x = tt
wait_kept c k who (Some w) a d l h e x = (
  x.0,
  others_keep d.shape k (IsUnsettledOf k) (unsettled_stays k) w a.seen d.seen l h.added.longer
      e x.1,
)

pub others_know : (c n k who : ℕ) (known : Known) (a d : Floor) → Legal d.shape d.seen → k ≢ who → a.alone ≡ true → Adds who a d
    → Knows c n k known a → Knows c n k known d
others_know c n k who known a d l ne alone h x =
    let e = same_acts k who a d ne alone h in
    record {
      uses = uses_kept c n k known.held a d h.added.same e x.uses;
      wait = wait_kept c k who known.wait a d l h e x.wait;
    }
