-- The fate of an element, from what is known of its place and of its wait.
use Rattle.std.specs.Prelude.{◌≡◌, ℕ, ◌==◌, nat_lt, Bool, not, ◌&&◌, ◌||◌, Option, Some, None, if◌then◌else◌}
use Rattle.co_base.specs.declared.names.WaitId.{WaitId}
use Rattle.channel_model.specs.declared.acts.Fate.{Fate}
use Rattle.channel_model.specs.declared.acts.Fate.TheVariants as fate
use Rattle.channel_model.specs.Fates.{of_wait, of_offer}
use Rattle.run_report.specs.declared.facts.Facts.{Facts}
use Rattle.run_report.specs.declared.fates.Known.{Known}
use Rattle.run_report.specs.Facts.{nothing}
use Rattle.run_report.specs.Resolutions.{is_elsewhere}
use Rattle.run_report.specs.Tables.{value_at}
use Rattle.run_report.specs.Elements.{with_fate}

-- what is said of the wait of a place
abbrev pub facts_of_wait : (ℕ → ℕ → Facts) → Option WaitId → Facts
facts_of_wait facts None = nothing
facts_of_wait facts (Some w) = facts w.channel w.place

-- the element was taken, or handed to a receiver that ended with a value
abbrev pub has_received : Facts → Facts → Bool
has_received here wait = here.taken || (here.handed && wait.received)

-- the offer was not admitted, and its wait was withdrawn
abbrev pub has_withdrawn : Facts → Facts → Bool
has_withdrawn here wait = not here.admitted && wait.withdrawn

-- the element came back undelivered: drained, given up by its receiver, or taken back by a plain send
abbrev pub has_given_up : Facts → Facts → Bool
has_given_up here wait = here.drained || ((here.handed && wait.gave_up) || of_offer (λ k. (k == 0) && has_withdrawn here wait) here.clause)

-- a select took its offer back, or chose another clause
abbrev pub has_left : Facts → Facts → Bool → Bool
has_left here wait elsewhere = of_offer (λ k. nat_lt 0 k && (has_withdrawn here wait || (not here.admitted && elsewhere))) here.clause

-- the fate, from what is said of the place and of its wait, and whether the wait was resolved elsewhere
abbrev pub fate_by : Facts → Facts → Bool → Fate
fate_by here wait elsewhere =
    if has_received here wait then fate.Received
    else if has_given_up here wait then fate.Undelivered
    else if here.dropped then fate.Dropped
    else if here.spurned then fate.Spurned
    else if has_left here wait elsewhere then fate.Withdrawn
    else fate.Held

-- the element of a place with its fate, from what is said of each place and where each wait was resolved
abbrev pub element_from : (ℕ → ℕ → Facts) → (ℕ → ℕ → WaitId → Bool) → ℕ → ℕ → Option (ℕ × Fate)
element_from facts elsewhere c p =
    let here = facts c p in
    with_fate here.element (fate_by here (facts_of_wait facts here.wait) (of_wait (elsewhere c p) here.wait))

-- the wait was resolved elsewhere than here
abbrev pub elsewhere_in : Known → ℕ → ℕ → WaitId → Bool
elsewhere_in known c p w = is_elsewhere c p (value_at known.resolved w.channel w.place)

-- the element of a place with its fate, from the two tables
abbrev pub element_in : Known → ℕ → ℕ → Option (ℕ × Fate)
element_in known = element_from (value_at known.facts) (elsewhere_in known)

-- where no act names a place, nothing is known of it
abbrev pub IsPlain : Known → Type 0
IsPlain known = known.facts.plain ≡ nothing
