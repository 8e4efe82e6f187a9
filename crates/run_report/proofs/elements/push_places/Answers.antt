use Rattle.std.proofs.Common.{◌++◌, ◌-◌, ℕ, List, string_bytes, ap, sym, ◌∙◌, arith}
use Rattle.script_reader.specs.Programs.{declared_of}
use Rattle.run_report.specs.Elements.{element_line}
use Rattle.run_report.specs.Known.{element_in}
use Rattle.run_report.proofs.Lines.{places_more, places_end}
use Rattle.run_report.proofs.elements.push_places.Goals as goal

pub loop-place-preserved : goal.loop-place-preserved
loop-place-preserved c =
    let name = (declared_of c.args.channel.now).name in
    let before = string_bytes c.loop-place.out in
    places_more (λ p. element_line name p (element_in c.args.known.now c.args.c p)) (string_bytes c.args.out.now) before
    (string_bytes c.push_element.new.out) c.loop-place.place c.loop-place.invariant
    (c.in_ok-push_element.ensures ∙ ap (λ e. before ++ element_line name c.loop-place.place e) c.element.ensures)

pub returns-then-reach-place : goal.returns-then-reach-place
returns-then-reach-place c =
    let name = (declared_of c.args.channel.now).name in
    let at_place : ℕ → List ℕ = λ p. element_line name p (element_in c.args.known.now c.args.c p) in
    let place = c.loop-place.place in
    let rest = c.args.channel.now.places - place in
    let all = places_end at_place place rest c.args.channel.now.places (omega arith)
    (λ p h. ap (element_line name p) (c.reach-reach.ensures p (omega (arith, h, c.if-reach-place.true)))) in
    c.loop-place.invariant ∙ ap (λ (l : List ℕ). string_bytes c.args.out.now ++ l) (sym all)
