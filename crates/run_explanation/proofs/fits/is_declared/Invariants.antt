use Rattle.std.proofs.Common.{◌≡◌, length, map}
use Rattle.std.specs.List.{list_any}
use Rattle.std.specs.Str.{bytes_eq}
use Rattle.script_grammar.specs.Programs.{channel_names}
use Rattle.script_reader.specs.Programs.{declared_of}
use Rattle.run_explanation.proofs.fits.is_declared.Given as goal

abbrev pub invariant-loop-rest : goal.invariant-loop-rest
invariant-loop-rest l = list_any (λ name. bytes_eq name l.word) (channel_names (map declared_of l.rest))
    ≡ list_any (λ name. bytes_eq name l.word) (channel_names (map declared_of l.channels))

abbrev pub decreases-loop-rest : goal.decreases-loop-rest
decreases-loop-rest l = length l.rest
