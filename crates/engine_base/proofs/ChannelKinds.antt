-- The channels of a script's floor: those that the script declares, and a signal for each Job.
use Rattle.std.proofs.Common.{◌≡◌, ℕ, ◌-◌, ◌<◌, ◌≤◌, ◌+◌, Bool, true, false, nat_lt, List, [], ◌∷◌, length, map, refl, ap, sym, ◌∙◌, subst, arith, get_or, length-append}
use Rattle.std.specs.Prelude.{replicate}
use Rattle.std.proofs.lemmas.List.{get_or_append_left, get_or-append_right, get_or-replicate, length-replicate}
use Rattle.channel_model.specs.declared.acts.Kind.{Kind}
use Rattle.channel_model.specs.declared.acts.Kind.TheVariants.{Signal}
use Rattle.script_reader.specs.declared.script.Channel.{Channel}
use Rattle.script_reader.specs.Programs.{declared_of}
use Rattle.script_grammar.specs.Programs.{Program, Declared, shape_of}
use Rattle.script_grammar.specs.WellFormed.{IsProgram}
use Rattle.script_grammar.specs.Tags.{job_count}
use Rattle.script_grammar.proofs.Truths.{lt-from_true, le-from_lt_false}
use Rattle.script_grammar.proofs.Declarations.{length-shape_of}
use Rattle.script_grammar.proofs.JobsCounted.{whole_load-job_count}
use Rattle.script_meaning.specs.Shapes.{floor_shape}

-- a script has few Jobs
pub few_jobs : (p : Program) → IsProgram p → job_count p ≤ 16000
few_jobs p ok = omega (arith, ok.load, whole_load-job_count p ok)

pub length-floor_shape : (p : Program) → length (floor_shape p) ≡ length p.channels + job_count p
length-floor_shape p = omega (
  arith,
  length-append (shape_of p) (replicate (job_count p) (Signal, 1)),
  length-shape_of p,
  length-replicate {A = Kind × ℕ} (job_count p) (Signal, 1),
)

pub few_channels : (p : Program) → IsProgram p → length (floor_shape p) ≤ 65536
few_channels p ok = omega (arith, length-floor_shape p, ok.few_channels, few_jobs p ok)

-- what holds of the declared channels and of a signal with one place holds of each
pub each_channel : (P : Kind × ℕ → Type 0) (p : Program) → ((c : ℕ) → c < length (shape_of p) → P (get_or (shape_of p) c (Signal, 0)))
    → P (Signal, 1) → (c : ℕ) → c < length (floor_shape p) → P (get_or (floor_shape p) c (Signal, 0))
each_channel P p declared done c lt = by_test (nat_lt c n) refl
  where
    n : ℕ
    n = length (shape_of p)

    signals : List (Kind × ℕ)
    signals = replicate (job_count p) (Signal, 1)

    in_range : n ≤ c → c - n < job_count p
    in_range le = omega (arith, lt, le, length-floor_shape p, length-shape_of p)

    by_test : (b : Bool) → nat_lt c n ≡ b → P (get_or (floor_shape p) c (Signal, 0))
    by_test true e =
        let low = lt-from_true c n e in
        subst P (sym (get_or_append_left (shape_of p) signals (Signal, 0) c low)) (declared c low)
    by_test false e =
        let le = le-from_lt_false c n e in
        subst P (sym (get_or-append_right (shape_of p) signals n c (Signal, 0) refl le
        ∙ get_or-replicate (job_count p) (c - n) (Signal, 1) (Signal, 0) (in_range le))) done

-- ---- the declared channels

map-map : {A B C : Type 0} (g : B → C) (f : A → B) (xs : List A) → map g (map f xs) ≡ map (λ x. g (f x)) xs
map-map g f [] = refl
map-map g f (x ∷ xs) = ap (λ l. g (f x) ∷ l) (map-map g f xs)

pub declared_kinds : (p : Program) (channels : List Channel) → map declared_of channels ≡ p.channels
    → map (λ (c : Channel). (c.kind, c.places)) channels ≡ shape_of p
declared_kinds p channels e = sym (map-map (λ (d : Declared). (d.kind, d.places)) declared_of channels)
    ∙ ap (map (λ (d : Declared). (d.kind, d.places))) e
