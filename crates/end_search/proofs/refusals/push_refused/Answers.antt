use Rattle.std.specs.Prelude.{◌≡◌, ◌++◌, ℕ, List, OnOk, string_bytes}
use Rattle.std.specs.Fmt.{decimal}
use lib.Chars.{codes}
use Rattle.std.proofs.Common.{ap, length, refl, subst, sym, ◌∙◌, append-nil}
use Rattle.std.specs.Prelude.{option_map}
use Rattle.std.proofs.lemmas.Bool.{ltb-false}
use Rattle.std.proofs.lemmas.Option.{slice_get-map, slice_get_past, slice_get_read}
use Rattle.script_reader.specs.Programs.{declared_of}
use Rattle.end_search.specs.Blocks.{refused_on}
use Rattle.end_search.proofs.refusals.push_refused.Goals as goal

pub returns-in-Some : goal.returns-in-Some
returns-in-Some c =
    let channels = c.args.channels.now in
    let channel = c.in-Some.channel.now in
    let Stands = λ (l : List ℕ). OnOk c.write.result (string_bytes c.write.new.self ≡ string_bytes c.args.out.now ++ l) in
    let declared = slice_get-map declared_of channels c.args.c
    ∙ ap (option_map declared_of) (slice_get_read channels _ c.args.c channel refl c.in-Some.ensures.lookup.3.0
    (c.in-Some.ensures.lookup.3.1 channel)) in
    subst (λ found. Stands (refused_on found c.args.value)) (sym declared)
    (subst (λ name. Stands (codes "  refused " ++ (name ++ (codes " " ++ (decimal c.args.value ++ codes "\n")))))
    c.as_str-name.ensures.value
    c.write.ensures.bytes)

pub returns-in-None : goal.returns-in-None
returns-in-None c =
    let channels = c.args.channels.now in
    let past = ltb-false c.args.c (length channels) (sym c.in-None.ensures.lookup.0) in
    let none = slice_get-map declared_of channels c.args.c ∙ ap (option_map declared_of) (slice_get_past channels c.args.c past) in
    sym (append-nil (string_bytes c.args.out.now))
    ∙ ap (λ found. string_bytes c.args.out.now ++ refused_on found c.args.value) (sym none)
