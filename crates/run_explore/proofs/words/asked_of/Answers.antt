use Rattle.std.proofs.Common.{◌≡◌, map, string_bytes, subst, IfOk, option_and_then, option_map}
use Rattle.program_input.specs.Words.{matches_by}
use Rattle.run_explore.specs.Words.{asked_by, request_of}
use Rattle.run_explore.proofs.words.asked_of.Goals as goal

pub returns : goal.returns
returns c =
    subst
    (λ line. IfOk c.asked_in.result (λ asked. option_map request_of asked
    ≡ option_and_then asked_by (matches_by line (map string_bytes c.args.words.now)))) c.in_ok-line.ensures c.asked_in.ensures
