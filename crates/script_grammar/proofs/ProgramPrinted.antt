-- The canonical lines of a program say it.
use Rattle.std.proofs.Common.{◌≡◌, ℕ, ◌≤◌, [], ◌∷◌, ◌++◌, refl, ap, sym, arith, Bool, true, false, if◌then◌else◌, ◌&&◌, nat_le, map}
use Rattle.std.specs.Prelude.{◌==◌}
use Rattle.std.proofs.lemmas.Bool.Decides.{nat_tests}
use Rattle.script_grammar.specs.Programs.{Program, channel_names, block_names, name_of}
use Rattle.script_grammar.specs.Lines.{version_words, channel_words, spawn_words}
use Rattle.script_grammar.specs.Reads.{Read, version_is, start}
use Rattle.script_grammar.specs.Grammar.{SayAll}
use Rattle.script_grammar.specs.Canonical.{version_lines, blocks_lines, canonical}
use Rattle.script_grammar.specs.WellFormed.{weights_from, IsProgram}
use Rattle.script_grammar.proofs.Truths.{both_true, le-from_true, same-from_true}
use Rattle.script_grammar.proofs.ChannelsPrinted.{SayAll-append, between, channels_said}
use Rattle.script_grammar.proofs.BlocksPrinted.{blocks_said, spawns_said}

version_said : (version : ℕ) → (nat_le 1 version && nat_le version 2) ≡ true
    → SayAll start (version_lines version) (between version [] [] [] [])
version_said version h = by_test (version == 2) refl
  where
    one : (version == 2) ≡ false → 1 ≡ version
    one e =
        let two = both_true _ _ h in
        let low : 1 ≤ version = le-from_true 1 version two.0 in
        let high : version ≤ 2 = le-from_true version 2 two.1 in
        grind (arith, nat_tests)

    by_test : (b : Bool) → (version == 2) ≡ b → SayAll start (if b then version_words ∷ [] else []) (between version [] [] [] [])
    by_test true e = (
      version_is,
      (refl, refl),
      record { channels = omega arith; places = omega arith; current = tt; load = omega arith },
      ap (λ v. between v [] [] [] []) (sym (same-from_true version 2 e)),
    )
    by_test false e = ap (λ v. between v [] [] [] []) (one e)

-- the script as it stands after the canonical lines
abbrev pub last_of : Program → Read
last_of p = between p.version p.channels p.blocks (weights_from [] p.blocks) p.spawns

pub canonical_said : (p : Program) → IsProgram p → SayAll start (canonical p) (last_of p)
canonical_said p is =
    let weights = weights_from [] p.blocks in
    let names = block_names p.blocks in
    let channels = map (λ c. channel_words c true true) p.channels in
    let blocks = blocks_lines (channel_names p.channels) names p.blocks in
    let spawns = map (λ s. spawn_words (name_of names s.0) s.1 true) p.spawns in
    let none = between p.version [] [] [] [] in
    let declared = between p.version p.channels [] [] [] in
    let blocked = between p.version p.channels p.blocks weights [] in
    SayAll-append start none (last_of p) (version_lines p.version) (channels ++ (blocks ++ spawns)) (version_said p.version is.version)
    (SayAll-append none declared (last_of p) channels (blocks
    ++ spawns) (channels_said p.version [] p.channels is.channel_names is.channels is.few_channels is.few_places)
    (SayAll-append declared blocked (last_of p) blocks spawns
    (blocks_said p.version p.channels [] p.blocks [] names is.few_channels is.few_places refl refl (omega (arith, is.load)) is.blocks)
    (spawns_said p.version p.channels p.blocks weights [] p.spawns is.few_channels is.few_places is.load is.spawns)))
