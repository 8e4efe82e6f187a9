use Rattle.std.proofs.Common.{◌≡◌, ℕ, ◌-◌, ◌<◌, ◌≤◌, arith, ap, ap₂, sym, ◌∙◌, subst, length, map, List, Some}
use Rattle.std.proofs.lemmas.List.{length-map}
use Rattle.script_grammar.specs.Tags.{size_in, sizes_in, spawned_by, tags_for, tags_of}
use Rattle.script_grammar.specs.Declarations.{launch_back, all_below}
use Rattle.script_grammar.proofs.NamedIsDeclared.{Declares-from_program}
use Rattle.script_grammar.proofs.Layouts.{block_named-within}
use Rattle.script_reader.specs.declared.script.Coroutine.{Coroutine}
use Rattle.script_reader.specs.declared.script.Spawn.{Spawn}
use Rattle.script_reader.specs.Programs.{program_from, block_of, spawn_of}
use Rattle.script_reader.specs.Closings.{closing_places}
use Rattle.script_reader.proofs.Finished.{sizes_light, few_tags, tags_are, scopes_are}
use Rattle.script_reader.proofs.finish.script_from.Goals as goal

pub all_sizes-requires : goal.all_sizes-requires
all_sizes-requires c =
    let p = program_from c.args.version c.args.channels.items c.args.coroutines.items c.args.spawns.items in
    let P : List Coroutine → Type 0 = λ cs. (k : ℕ) → k < length cs → size_in (map block_of cs) k ≤ 16000 in
    subst P (sym c.deref.ensures.value) (λ k h. sizes_light p c.requires.program k
    (omega (arith, h, length-map c.args.coroutines.items block_of)))

pub tags_in-requires-clause-back : goal.tags_in-requires-clause-back
tags_in-requires-clause-back c =
    let p = program_from c.args.version c.args.channels.items c.args.coroutines.items c.args.spawns.items in
    ap (λ cs. launch_back 0 (map block_of cs)) c.deref-2.ensures.value ∙ (Declares-from_program p c.requires.program).launches

pub tags_in-requires-clause-main : goal.tags_in-requires-clause-main
tags_in-requires-clause-main c =
    omega (
      arith,
      block_named-within _ 0 (map block_of c.args.coroutines.items) c.args.main c.requires.main,
      length-map c.args.coroutines.items block_of,
      ap length c.deref-2.ensures.value,
    )

pub tags_in-requires-clause-spawns : goal.tags_in-requires-clause-spawns
tags_in-requires-clause-spawns c =
    let p = program_from c.args.version c.args.channels.items c.args.coroutines.items c.args.spawns.items in
    ap (λ cs. all_below (length (map block_of cs)) (spawned_by (map spawn_of c.deref-3.result.now))) c.deref-2.ensures.value
    ∙ ap (λ ss. all_below (length (map block_of c.args.coroutines.items)) (spawned_by (map spawn_of ss))) c.deref-3.ensures.value
    ∙ (Declares-from_program p c.requires.program).spawns

pub tags_in-requires-clause-few : goal.tags_in-requires-clause-few
tags_in-requires-clause-few c =
    let p = program_from c.args.version c.args.channels.items c.args.coroutines.items c.args.spawns.items in
    let P : List Coroutine
    → Type 0 = λ cs. length (tags_for (map block_of cs) (spawned_by (map spawn_of c.deref-3.result.now)) (Some c.args.main)) ≤ 16000 in
    let Q : List Spawn
    → Type 0 = λ ss. length (tags_for (map block_of c.args.coroutines.items) (spawned_by (map spawn_of ss)) (Some c.args.main)) ≤ 16000
    in
    subst P (sym c.deref-2.ensures.value) (subst Q (sym c.deref-3.ensures.value)
    (few_tags p c.args.main c.requires.program c.requires.main))

-- the tags of equal lists
tags_same : (ds cs : List Coroutine) (ts ss : List Spawn) (main : ℕ) (tags : List ℕ)
    → tags ≡ tags_for (map block_of ds) (spawned_by (map spawn_of ts)) (Some main) → ds ≡ cs → ts ≡ ss
    → tags ≡ tags_for (map block_of cs) (spawned_by (map spawn_of ss)) (Some main)
tags_same ds cs ts ss main tags is d t = is
    ∙ ap₂ (λ (a : List Coroutine) (b : List Spawn). tags_for (map block_of a) (spawned_by (map spawn_of b)) (Some main)) d t

pub overflow_cast-scopes-2 : goal.overflow_cast-scopes-2
overflow_cast-scopes-2 c =
    let p = program_from c.args.version c.args.channels.items c.args.coroutines.items c.args.spawns.items in
    let tags : c.in_ok-tags.tags.items ≡ tags_of p = tags_are p c.args.main c.in_ok-tags.tags.items c.requires.main
    (tags_same _ _ _ _ c.args.main c.in_ok-tags.tags.items c.in_ok-tags.ensures c.deref-2.ensures.value c.deref-3.ensures.value) in
    let scopes = scopes_are p 0 (length c.in_ok-tags.tags.items) c.args.load c.requires.program c.requires.load (ap length tags) in
    omega (arith, scopes.0, scopes.1, c.len.ensures, c.in_ok-tags.tags.ok.0)

pub overflow_sub-scopes : goal.overflow_sub-scopes
overflow_sub-scopes c =
    let p = program_from c.args.version c.args.channels.items c.args.coroutines.items c.args.spawns.items in
    let tags : c.in_ok-tags.tags.items ≡ tags_of p = tags_are p c.args.main c.in_ok-tags.tags.items c.requires.main
    (tags_same _ _ _ _ c.args.main c.in_ok-tags.tags.items c.in_ok-tags.ensures c.deref-2.ensures.value c.deref-3.ensures.value) in
    let scopes = scopes_are p 0 (length c.in_ok-tags.tags.items) c.args.load c.requires.program c.requires.load (ap length tags) in
    omega (arith, scopes.0, c.len.ensures, c.in_ok-tags.tags.ok.0)

pub invariant_of-result : goal.invariant_of-result
invariant_of-result c =
    let p = program_from c.args.version c.args.channels.items c.args.coroutines.items c.args.spawns.items in
    let tags : c.in_ok-tags.tags.items ≡ tags_of p = tags_are p c.args.main c.in_ok-tags.tags.items c.requires.main
    (tags_same _ _ _ _ c.args.main c.in_ok-tags.tags.items c.in_ok-tags.ensures c.deref-2.ensures.value c.deref-3.ensures.value) in
    let scopes = scopes_are p (c.args.load - c.len.result) (length c.in_ok-tags.tags.items) c.args.load c.requires.program c.requires.load
    (ap length tags) in
    record {
      well_formed = c.requires.program;
      sized = c.in_ok-sizes.ensures ∙ ap (λ cs. sizes_in (map block_of cs)) c.deref.ensures.value;
      tagged = tags;
      closed = c.in_ok-closings.ensures ∙ ap (map (λ (d : Coroutine). closing_places d.code.items)) c.deref-4.ensures.value;
      short = c.requires.short;
      counted = scopes.2 (omega (arith, scopes.0, c.len.ensures, c.in_ok-tags.tags.ok.0));
    }
