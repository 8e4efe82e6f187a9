use Rattle.std.proofs.Common.{rules, map, string_bytes}
use Rattle.clap.specs.Words.{app_of}
use Rattle.program_input.proofs.Matched.{matched, refused, simple}
use Rattle.program_input.proofs.words.matches_of.Goals as goal

pub returns-in-Ok : goal.returns-in-Ok
returns-in-Ok c =
    matched (app_of c.args.line) (map string_bytes c.args.words.now) _ (c.in-Ok.ensures.kinds c.requires)
    (c.in-Ok.ensures.matches (simple (app_of c.args.line) c.requires)).0

pub returns : goal.returns
returns c =
    refused (app_of c.args.line) (map string_bytes c.args.words.now) c.in-Err.error (c.in-Err.ensures.kinds c.requires) (search rules)
