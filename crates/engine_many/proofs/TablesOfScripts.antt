-- The channels of a script fit a hub.
use Rattle.std.specs.Prelude.{◌≡◌, ℕ, zero, suc, ◌+◌, ◌*◌, ◌<◌, List, [], ◌∷◌, ◌++◌, length, map, replicate, refl}
use Rattle.std.proofs.Common.{arith}
use Rattle.channel_model.specs.declared.acts.Kind.TheVariants.{Signal}
use Rattle.channel_model.specs.Channels.{Shape, IsShape, HasPlaces}
use Rattle.word_rules.specs.Words.{cells_in}
use Rattle.script_grammar.specs.Programs.{Program, Declared, shape_of, places_in}
use Rattle.script_grammar.specs.WellFormed.{IsProgram}
use Rattle.script_grammar.specs.Tags.{job_count}
use Rattle.script_grammar.proofs.Declarations.{places_at-shape_of}
use Rattle.script_meaning.specs.Shapes.{floor_shape}
use Rattle.engine_base.proofs.ChannelKinds.{each_channel, few_jobs}

cells-append : (xs ys : Shape) → cells_in (xs ++ ys) ≡ cells_in xs + cells_in ys
cells-append [] ys = omega arith
cells-append (x ∷ xs) ys = let h = cells-append xs ys in omega arith

cells-declared : (cs : List Declared) → cells_in (map (λ c. (c.kind, c.places)) cs) ≡ places_in cs + length cs
cells-declared [] = refl
cells-declared (c ∷ cs) = let h = cells-declared cs in omega arith

cells-signals : (n : ℕ) → cells_in (replicate n (Signal, 1)) ≡ 2 * n
cells-signals zero = refl
cells-signals (suc n) = let h = cells-signals n in omega arith

-- each channel has a cell for each place and one more; each done channel has two
cells-script : (p : Program) → cells_in (floor_shape p) ≡ places_in p.channels + length p.channels + 2 * job_count p
cells-script p = omega (
  arith,
  cells-append (shape_of p) (replicate (job_count p) (Signal, 1)),
  cells-declared p.channels,
  cells-signals (job_count p),
)

pub few_cells : (p : Program) → IsProgram p → cells_in (floor_shape p) < 8388608
few_cells p ok = omega (arith, cells-script p, ok.few_channels, ok.few_places, few_jobs p ok)

pub is_shape : (p : Program) → IsProgram p → IsShape (floor_shape p)
is_shape p ok = each_channel (λ x. HasPlaces x.1) p (λ c lt. let places = places_at-shape_of p ok c lt
    in record { some = places.0; few = places.1 }) (record { some = omega arith; few = omega arith })
