-- What is known of places and waits tells each element with its fate.
use Rattle.std.proofs.Common.{◌≡◌, ℕ, ◌==◌, nat_lt, Bool, not, ◌&&◌, ◌||◌, List, Option, Some, None, if◌then◌else◌, refl, ap, ◌∙◌}
use Rattle.std.specs.List.{list_any}
use Rattle.channel_model.specs.declared.acts.Act.{Act}
use Rattle.channel_model.specs.declared.acts.Fate.{Fate}
use Rattle.channel_model.specs.declared.acts.Fate.TheVariants as fate
use Rattle.co_base.specs.declared.names.WaitId.{WaitId}
use Rattle.channel_model.specs.Fates.{takes, hands, admits, drains, offers_at, first_some, withdraws, settles_value, settles_undelivered, element_at, wait_at, of_wait, of_offer, is_dropped, is_spurned, resolves_at, resolves_elsewhere, is_chosen_elsewhere}
use Rattle.run_report.specs.declared.facts.Facts.{Facts}
use Rattle.run_report.specs.Facts.{facts_of, nothing}
use Rattle.run_report.specs.Resolutions.{is_resolved_at, is_resolved_elsewhere}
use Rattle.run_report.specs.Elements.{with_fate, element_of}
use Rattle.run_report.specs.Known.{facts_of_wait, fate_by, element_from}

-- ---- where a wait was resolved

is_resolved_at-same : (acts : List Act) (c p : ℕ) (w : WaitId) (x : Option (ℕ × ℕ))
    → is_resolved_at (λ d q. wait_at d q acts) c p w x ≡ resolves_elsewhere c p w acts x
is_resolved_at-same acts c p w None = refl
is_resolved_at-same acts c p w (Some x) = refl

is_resolved_elsewhere-same : (acts : List Act) (c p : ℕ) (w : WaitId)
    → is_resolved_elsewhere (λ d q. wait_at d q acts) c p w acts ≡ is_chosen_elsewhere c p w acts
is_resolved_elsewhere-same acts c p w = λ i. list_any (λ a. is_resolved_at-same acts c p w (resolves_at a) i) acts

-- ---- the fate of one element

-- the fate at a place, with the wait that stands there
abbrev fate_with : List Act → ℕ → ℕ → Option WaitId → Fate
fate_with acts c p o =
    let taken_back = not (list_any (admits c p) acts) && of_wait (λ w. list_any (withdraws w) acts) o in
    if list_any (takes c p) acts || (list_any (hands c p) acts && of_wait (λ w. list_any (settles_value w) acts) o) then fate.Received
    else if list_any (drains c p) acts || ((list_any (hands c p) acts && of_wait (λ w. list_any (settles_undelivered w) acts) o)
    || of_offer (λ k. (k == 0) && taken_back) (first_some (offers_at c p) acts)) then fate.Undelivered
    else if is_dropped c p acts then fate.Dropped
    else if is_spurned c p acts then fate.Spurned
    else if of_offer (λ k. nat_lt 0 k && (taken_back || (not (list_any (admits c p) acts)
    && of_wait (λ w. is_chosen_elsewhere c p w acts) o))) (first_some (offers_at c p) acts) then fate.Withdrawn
    else fate.Held

fate_by-wait : (acts : List Act) (c p : ℕ) (o : Option WaitId)
    → fate_by (facts_of c p acts) (facts_of_wait (λ d q. facts_of d q acts) o) (of_wait (λ w. is_chosen_elsewhere c p w acts) o) ≡
    fate_with acts c p o
fate_by-wait acts c p None = refl
fate_by-wait acts c p (Some w) = refl

-- ---- all elements

element_from-exact : (acts : List Act) (c p : ℕ) → element_from (λ d q. facts_of d q acts) (λ d q w. is_chosen_elsewhere d q w acts) c p ≡
    element_of acts c p
element_from-exact acts c p = ap (with_fate (element_at c p acts)) (fate_by-wait acts c p (wait_at c p acts))

-- two tables that say what the acts say
pub element_from-tables : (facts : ℕ → ℕ → Facts) (elsewhere : ℕ → ℕ → WaitId → Bool) (acts : List Act)
    → ((c p : ℕ) → facts c p ≡ facts_of c p acts)
    → ((c p : ℕ) (w : WaitId) → elsewhere c p w ≡ is_resolved_elsewhere (λ d q. (facts d q).wait) c p w acts)
    → element_from facts elsewhere ≡ element_of acts
element_from-tables facts elsewhere acts f e =
    let same : (c p : ℕ) (w : WaitId) → elsewhere c p w ≡ is_chosen_elsewhere c p w acts =
    λ c p w. e c p w ∙ (λ i. is_resolved_elsewhere (λ d q. (f d q i).wait) c p w acts) ∙ is_resolved_elsewhere-same acts c p w in
    (λ i. element_from (λ c p. f c p i) (λ c p w. same c p w i)) ∙ (λ i c p. element_from-exact acts c p i)

-- a place of which nothing is known has no element
pub no_element : (here : Facts) (f : Fate) → here ≡ nothing → with_fate here.element f ≡ None
no_element here f e = ap (λ (x : Facts). with_fate x.element f) e
