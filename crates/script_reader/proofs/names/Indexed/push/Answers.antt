use Rattle.std.proofs.Common.{arith, ◌≡◌, ◌+◌, ◌∙◌, ◌++◌, ◌∷◌, [], ap, ap₂, sym, rules, map, length, Some, ℕ, Option, string_bytes, if◌then◌else◌}
use Rattle.std.proofs.lemmas.List.{length-map, map-append}
use Rattle.std.proofs.lemmas.Map.Text.{btree_map_updates_text}
use Rattle.std.specs.Str.{bytes_eq}
use Rattle.script_grammar.specs.Places.{place_from}
use Rattle.script_grammar.proofs.NamePlaces.{place_from-push}
use Rattle.script_reader.proofs.names.Indexed.push.Goals as goal

pub invariant_of-self-2 : goal.invariant_of-self-2
invariant_of-self-2 g c = record {
  indexed = λ q.
      let name = g.T.Named.name_of c.args.item in
      let items = c.args.self.now.items.items in
      let names = map g.T.Named.name_of items in
      let bytes : string_bytes c.in_ok-name.name ≡ name = search rules in
      let pushed : c.push.new.self.items ≡ items ++ c.args.item ∷ [] = search rules in
      let place : c.len-place.result ≡ 0 + length names = omega (arith, length-map items g.T.Named.name_of) in
      btree_map_updates_text (string_bytes c.in_ok-name.name) c.args.self.now.index c.insert.new.self _ c.in_ok-insert.ensures.updates q
      ∙ ap₂ (λ (n : ℕ) (o : Option ℕ). if bytes_eq (string_bytes c.in_ok-name.name) q then Some n else o) place (c.args.self.now.indexed q)
      ∙ ap (λ b. if bytes_eq b q then Some (0 + length names) else place_from 0 q names) bytes
      ∙ sym (place_from-push 0 name q names c.requires.fresh)
      ∙ ap (place_from 0 q) (sym (map-append g.T.Named.name_of items (c.args.item ∷ [])) ∙ ap (map g.T.Named.name_of) (sym pushed));
}
