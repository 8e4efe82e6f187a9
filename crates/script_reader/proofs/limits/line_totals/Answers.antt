use Rattle.std.proofs.Common.{arith, ◌≡◌, ◌+◌, ◌-◌, ◌*◌, length, ap, refl, ◌∙◌, ℕ, Vec, Global, Option, Some, None}
use Rattle.std.specs.Prelude.{is_some, option_map}
use Rattle.script_grammar.specs.Blocks.{product, own_weight, nest_after}
use Rattle.script_grammar.specs.Reads.{main_weight}
use Rattle.script_reader.specs.Reading.{view, open_of}
use Rattle.script_reader.proofs.Loads.{limited-deep, limited-clauses, limited-weight, limited-line}
use Rattle.script_reader.proofs.limits.line_totals.Goals as goal

is_some-map : {A B : Type 0} (f : A → B) (o : Option A) → is_some o ≡ is_some (option_map f o)
is_some-map f None = refl
is_some-map f (Some x) = refl

pub returns-then-depth_after-gt-MOST_DEPTH : goal.returns-then-depth_after-gt-MOST_DEPTH
returns-then-depth_after-gt-MOST_DEPTH c = λ job.
    let s = view c.args.reading.now in
    let b = open_of c.args.block.now in
    let selecting : c.is_some.result ≡ is_some b.clauses = c.is_some.ensures
    ∙ is_some-map (λ (v : Vec ℕ Global). v.items) c.args.block.now.clauses in
    let deep : c.depth_after.result ≡ length (nest_after b.clauses b.nest c.args.line) = c.depth_after.ensures b.clauses selecting
    ∙ ap (λ n. length (nest_after b.clauses n c.args.line)) c.deref.ensures.value in
    limited-deep s b c.args.line job c.requires.current (omega (arith, deep, c.if-depth_after-gt-MOST_DEPTH.true))

pub returns-then-clauses_after-gt-MOST_CLAUSES : goal.returns-then-clauses_after-gt-MOST_CLAUSES
returns-then-clauses_after-gt-MOST_CLAUSES c = λ job.
    let s = view c.args.reading.now in
    let b = open_of c.args.block.now in
    let selecting : c.is_some.result ≡ is_some b.clauses = c.is_some.ensures
    ∙ is_some-map (λ (v : Vec ℕ Global). v.items) c.args.block.now.clauses in
    let deep : c.depth_after.result ≡ length (nest_after b.clauses b.nest c.args.line) = c.depth_after.ensures b.clauses selecting
    ∙ ap (λ n. length (nest_after b.clauses n c.args.line)) c.deref.ensures.value in
    limited-clauses s b c.args.line job c.requires.current
    (omega (arith, deep, c.if-depth_after-gt-MOST_DEPTH.false))
    (omega (arith, c.clauses_after.ensures, c.if-clauses_after-gt-MOST_CLAUSES.true))

pub returns-then-weight-gt-MOST_JOBS : goal.returns-then-weight-gt-MOST_JOBS
returns-then-weight-gt-MOST_JOBS c = λ job.
    let s = view c.args.reading.now in
    let b = open_of c.args.block.now in
    let selecting : c.is_some.result ≡ is_some b.clauses = c.is_some.ensures
    ∙ is_some-map (λ (v : Vec ℕ Global). v.items) c.args.block.now.clauses in
    let deep : c.depth_after.result ≡ length (nest_after b.clauses b.nest c.args.line) = c.depth_after.ensures b.clauses selecting
    ∙ ap (λ n. length (nest_after b.clauses n c.args.line)) c.deref.ensures.value in
    let own : c.own_weight.result ≡ own_weight s.weights c.args.line = c.own_weight.ensures
    ∙ ap (λ w. own_weight w c.args.line) c.deref-2.ensures.value in
    limited-weight s b c.args.line job c.requires.current
    (omega (arith, deep, c.if-depth_after-gt-MOST_DEPTH.false))
    (omega (arith, c.clauses_after.ensures, c.if-clauses_after-gt-MOST_CLAUSES.false))
    (omega (arith, c.grown-weight.ensures.above c.if-weight-gt-MOST_JOBS.true, ap (λ w. product b.nest * w) own))

pub returns-then-load-gt-MOST_JOBS : goal.returns-then-load-gt-MOST_JOBS
returns-then-load-gt-MOST_JOBS c = λ job.
    let s = view c.args.reading.now in
    let b = open_of c.args.block.now in
    let h = c.requires.holds in
    let more = product b.nest * own_weight s.weights c.args.line in
    let selecting : c.is_some.result ≡ is_some b.clauses = c.is_some.ensures
    ∙ is_some-map (λ (v : Vec ℕ Global). v.items) c.args.block.now.clauses in
    let deep : c.depth_after.result ≡ length (nest_after b.clauses b.nest c.args.line) = c.depth_after.ensures b.clauses selecting
    ∙ ap (λ n. length (nest_after b.clauses n c.args.line)) c.deref.ensures.value in
    let own : c.own_weight.result ≡ own_weight s.weights c.args.line = c.own_weight.ensures
    ∙ ap (λ w. own_weight w c.args.line) c.deref-2.ensures.value in
    let grown : c.grown-weight.result ≡ b.weight + more = c.grown-weight.ensures.same c.if-weight-gt-MOST_JOBS.false
    ∙ ap (λ w. b.weight + product b.nest * w) own in
    let added : c.grown-weight.result - c.args.block.now.weight ≡ more = omega (arith, grown) in
    limited-line s b c.args.line job c.requires.current h.kept.within
    (omega (arith, deep, c.if-depth_after-gt-MOST_DEPTH.false))
    (omega (arith, c.clauses_after.ensures, c.if-clauses_after-gt-MOST_CLAUSES.false))
    (omega (arith, grown, c.if-weight-gt-MOST_JOBS.false))
    (omega (arith, c.if-load-gt-MOST_JOBS.true, c.grown_load-load.ensures, h.load, ap (main_weight b.name) added))
