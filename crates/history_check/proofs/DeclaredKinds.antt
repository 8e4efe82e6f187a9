-- A floor of the channels that a script declares may be made.
use Rattle.std.specs.Prelude.{◌≡◌, ℕ, ◌==◌, List, [], ◌∷◌, map, refl, true}
use Rattle.std.proofs.Common.{ap, arith, subst}
use Rattle.std.proofs.lemmas.List.{get_or_default}
use Rattle.std.specs.List.{All}
use Rattle.std.proofs.lemmas.Bool.Decides.{nat_tests}
use Rattle.channel_model.specs.declared.acts.Kind.{Kind}
use Rattle.channel_model.specs.declared.acts.Kind.TheVariants.{Buffered, DropOldest, DropLatest, Signal}
use Rattle.channel_model.specs.Channels.{kind_at}
use Rattle.one_thread_floor.specs.ListFloors.{MayBeMade, has_capacity}
use Rattle.script_grammar.specs.Programs.{Declared, Program, shape_of}
use Rattle.script_reader.specs.declared.script.Channel.{Channel}
use Rattle.script_reader.specs.Programs.{declared_of}
use Rattle.script_grammar.specs.Grammar.{is_kind, is_capacity}
use Rattle.script_grammar.specs.WellFormed.{IsProgram}
use Rattle.script_grammar.proofs.Truths.{both_true}
use Rattle.script_grammar.proofs.Declarations.{places_at-shape_of, kind_at-shape}

some_kept : (k : ℕ) → is_capacity k ≡ true → has_capacity (DropLatest k) ≡ true
some_kept k e = grind (arith, nat_tests)

capacity_of : (version : ℕ) (kind : Kind) → is_kind version kind ≡ true → has_capacity kind ≡ true
capacity_of version (Buffered k) e = grind (arith, nat_tests)
capacity_of version (DropOldest k) e = grind (arith, nat_tests)
capacity_of version (DropLatest k) e = let two = both_true (version == 2) _ e in some_kept k two.1
capacity_of version other e = refl

pub all_may_be_made : (p : Program) → IsProgram p → All MayBeMade (shape_of p)
all_may_be_made p ok c d lt = subst MayBeMade (get_or_default (shape_of p) c (Signal, 0) d lt)
    (let places = places_at-shape_of p ok c lt in
    record { some = places.0; few = places.1; capacity = capacity_of p.version (kind_at (shape_of p) c) (kind_at-shape p ok c lt) })

-- the kinds of channels as they lie in memory
pub declared_kinds : (xs : List Channel) → map {B = Kind × ℕ} (λ (c : Channel). (c.kind, c.places)) xs
    ≡ map {B = Kind × ℕ} (λ (c : Declared). (c.kind, c.places)) (map declared_of xs)
declared_kinds [] = refl
declared_kinds (x ∷ xs) = ap (λ (l : List (Kind × ℕ)). (x.kind, x.places) ∷ l) (declared_kinds xs)
