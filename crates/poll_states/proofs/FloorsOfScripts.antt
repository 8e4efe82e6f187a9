-- The floors of a script: its declared channels, and then a signal of one place for each Job.
use Rattle.std.specs.Prelude.{◌≡◌, ℕ, ◌+◌, ◌-◌, ◌<◌, ◌≤◌, true, false, length, replicate, slice_get, Some, refl}
use Rattle.std.proofs.Common.{sym, ap, ◌∙◌, subst, arith, length-append, get_or}
use Rattle.std.proofs.lemmas.List.{length-replicate, get_or_append_left, get_or-append_right, get_or-replicate}
use Rattle.std.proofs.lemmas.Option.{slice_get-get_or}
use Rattle.channel_model.specs.declared.acts.Kind.{Kind}
use Rattle.channel_model.specs.declared.acts.Kind.TheVariants.{Signal}
use Rattle.channel_model.specs.Channels.{Shape, kind_at, is_signal}
use Rattle.channel_model.specs.Floors.{Floor as ChannelFloor, MayCall}
use Rattle.job_model.specs.Trees.{Shape as JobShape}
use Rattle.job_model.specs.Done.{done_channel}
use Rattle.call_meaning.specs.Seen.{SeenOnBoth}
use Rattle.scope_builders.specs.Calls.{MayBuild}
use Rattle.script_grammar.specs.Programs.{Program, shape_of}
use Rattle.script_grammar.specs.Tags.{job_count}
use Rattle.script_grammar.specs.WellFormed.{IsProgram}
use Rattle.script_grammar.proofs.Declarations.{length-shape_of, is_signal-shape_of}
use Rattle.script_grammar.proofs.JobsCounted.{whole_load-job_count}
use Rattle.script_meaning.specs.Shapes.{floor_shape, job_shape, base_of}

pub length-floor_shape : (p : Program) → length (floor_shape p) ≡ base_of p + job_count p
length-floor_shape p = omega (
  arith,
  length-append (shape_of p) (replicate (job_count p) (Signal, 1)),
  length-shape_of p,
  length-replicate {A = Kind × ℕ} (job_count p) (Signal, 1),
)

-- the channel at the base and behind it
at_done : (p : Program) (r : ℕ) → r < job_count p → get_or (floor_shape p) (base_of p + r) (Signal, 0) ≡ (Signal, 1)
at_done p r lt =
    let low : length (shape_of p) ≤ base_of p + r = omega (arith, length-shape_of p) in
    let off : base_of p + r - length (shape_of p) ≡ r = omega (arith, length-shape_of p) in
    get_or-append_right (shape_of p) (replicate (job_count p) (Signal, 1)) (length (shape_of p)) (base_of p + r) (Signal, 0) refl low
    ∙ ap (λ n. get_or (replicate (job_count p) (Signal, 1)) n (Signal, 0)) off
    ∙ get_or-replicate (job_count p) r (Signal, 1) (Signal, 0) lt

pub may_build : (p : Program) (base : ℕ) (a : SeenOnBoth) → IsProgram p → a.channels.shape ≡ floor_shape p → a.jobs.shape ≡ job_shape p
    → a.channels.callers a.who ≡ true → a.jobs.callers a.who ≡ true → base ≡ base_of p → MayBuild base a
may_build p base a ok e f g h is = subst (λ b. MayBuild b a) (sym is) (record {
  of_channels = g;
  of_jobs = h;
  done = omega (arith, long, ap (λ (s : JobShape). s.rows) f);
  signals = λ r lt.
      let le : r < job_count p = omega (arith, lt, ap (λ (s : JobShape). s.rows) f) in
      let inside : base_of p + r < length (floor_shape p) = omega (arith, le, length-floor_shape p) in
      ap (λ (s : Shape). slice_get s (done_channel (base_of p) r)) e ∙ slice_get-get_or (floor_shape p) (base_of p + r) (Signal, 0) inside
      ∙ ap Some (at_done p r le);
  few = omega (arith, long, ok.few_channels, ok.load, whole_load-job_count p ok);
})
  where
    long : length a.channels.shape ≡ base_of p + job_count p
    long = ap (λ (s : Shape). length s) e ∙ length-floor_shape p

-- a declared channel may be called
pub may_call : (p : Program) (k n : ℕ) (c : ChannelFloor) → c.shape ≡ floor_shape p → c.callers k ≡ true → n < length (shape_of p)
    → MayCall k n c
may_call p k n c e h lt = record {
  caller = h;
  channel =
      omega (arith, lt, length-floor_shape p, length-shape_of p, ap (λ (s : Shape). length s) e);
}

-- it carries elements
pub no_signal : (p : Program) (n : ℕ) (shape : Shape) → IsProgram p → shape ≡ floor_shape p → n < length (shape_of p)
    → is_signal (kind_at shape n) ≡ false
no_signal p n shape ok e lt =
    ap (λ (s : Shape). is_signal (kind_at s n)) e
    ∙ ap (λ (x : Kind × ℕ). is_signal x.0) (get_or_append_left (shape_of p) (replicate (job_count p) (Signal, 1)) (Signal, 0) n lt)
    ∙ is_signal-shape_of p ok n lt
