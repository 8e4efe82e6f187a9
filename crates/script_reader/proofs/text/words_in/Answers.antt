use Rattle.std.proofs.Common.{arith, ◌≡◌, ap, sym, ◌∙◌, refl, subst}
use Rattle.std.proofs.lemmas.List.{length-map}
use Rattle.script_grammar.specs.Programs.{places_in}
use Rattle.script_grammar.specs.Reads.{after, load}
use Rattle.script_grammar.proofs.FormsSpelled.{form_found}
use Rattle.script_reader.specs.Programs.{declared_of}
use Rattle.script_reader.specs.Reading.{view, said}
use Rattle.script_reader.specs.Holding.{IsKept}
use Rattle.script_reader.proofs.Kept.{IsKept-after, CanEnter-from_Says, few_jobs, room_left}
use Rattle.script_reader.proofs.text.words_in.Goals as goal

pub totals_after-requires-clause-said : goal.totals_after-requires-clause-said
totals_after-requires-clause-said c =
    let s = view c.args.reading.now in
    (_, form_found s s.current _ _ (said c.in_ok-form.form) refl c.in_ok-form.ensures)

pub form_of-requires : goal.form_of-requires
form_of-requires c =
    let r = c.args.reading.now in
    few_jobs r.current c.requires.holds.kept.jobs c.requires.holds.kept.within.current

pub enter-requires-clause-jobs : goal.enter-requires-clause-jobs
enter-requires-clause-jobs c =
    let r = c.args.reading.now in
    few_jobs r.current c.requires.holds.kept.jobs c.requires.holds.kept.within.current

pub enter-requires-clause-channels : goal.enter-requires-clause-channels
enter-requires-clause-channels c =
    omega (arith, c.requires.holds.kept.within.channels, length-map c.args.reading.now.channels.items.items declared_of)

pub enter-requires-clause-blocks : goal.enter-requires-clause-blocks
enter-requires-clause-blocks c =
    let r = c.args.reading.now in
    room_left r.coroutines.items.items (view r).current c.requires.short

pub enter-requires-clause-weight : goal.enter-requires-clause-weight
enter-requires-clause-weight c = c.in_ok-totals.ensures.weight

pub enter-requires-clause-can : goal.enter-requires-clause-can
enter-requires-clause-can c =
    let s = view c.args.reading.now in
    CanEnter-from_Says s _ (said c.in_ok-form.form) c.requires.holds.kept
    (form_found s s.current _ _ (said c.in_ok-form.form) refl c.in_ok-form.ensures)

pub returns-clause-holds : goal.returns-clause-holds
returns-clause-holds c =
    let s = view c.args.reading.now in
    let f = said c.in_ok-form.form in
    let says = form_found s s.current _ _ f refl c.in_ok-form.ensures in
    let is : view c.enter.new.reading ≡ after f s = c.in_ok-enter.ensures.view in
    let totals = c.in_ok-totals.ensures in
    record {
      kept = subst IsKept (sym is) (IsKept-after s _ f c.requires.holds.kept says totals.within);
      places = totals.places ∙ ap (λ t. places_in t.channels) (sym is);
      load = totals.load ∙ ap load (sym is);
    }
