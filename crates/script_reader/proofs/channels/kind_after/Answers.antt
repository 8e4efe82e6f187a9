use Rattle.std.proofs.Common.{◌≡◌, true, false, rules}
use Rattle.std.specs.Str.{bytes_eq}
use lib.Chars.{codes}
use Rattle.script_grammar.specs.Words.{texts}
use Rattle.script_reader.proofs.KindWords.{kind-rendezvous, kind-buffered, kind-unlimited, kind-conflated, kind-dropoldest}
use Rattle.script_reader.proofs.channels.kind_after.Goals as goal

pub returns-then-eq : goal.returns-then-eq
returns-then-eq c =
    let w = c.args.word.now in
    let e : bytes_eq w (codes "rendezvous") ≡ true = search rules in
    kind-rendezvous c.args.version w (texts c.args.rest.now) e

pub returns-then-eq-2 : goal.returns-then-eq-2
returns-then-eq-2 c =
    let w = c.args.word.now in
    let n0 : bytes_eq w (codes "rendezvous") ≡ false = search rules in
    let e : bytes_eq w (codes "buffered") ≡ true = search rules in
    rw (kind-buffered c.args.version w (texts c.args.rest.now) n0 e) c.buffered_of.ensures

pub returns-then-eq-3 : goal.returns-then-eq-3
returns-then-eq-3 c =
    let w = c.args.word.now in
    let n0 : bytes_eq w (codes "rendezvous") ≡ false = search rules in
    let n1 : bytes_eq w (codes "buffered") ≡ false = search rules in
    let e : bytes_eq w (codes "unlimited") ≡ true = search rules in
    kind-unlimited c.args.version w (texts c.args.rest.now) n0 n1 e

pub returns-then-eq-4 : goal.returns-then-eq-4
returns-then-eq-4 c =
    let w = c.args.word.now in
    let n0 : bytes_eq w (codes "rendezvous") ≡ false = search rules in
    let n1 : bytes_eq w (codes "buffered") ≡ false = search rules in
    let n2 : bytes_eq w (codes "unlimited") ≡ false = search rules in
    let e : bytes_eq w (codes "conflated") ≡ true = search rules in
    kind-conflated c.args.version w (texts c.args.rest.now) n0 n1 n2 e

pub returns-then-eq-5 : goal.returns-then-eq-5
returns-then-eq-5 c =
    let w = c.args.word.now in
    let n0 : bytes_eq w (codes "rendezvous") ≡ false = search rules in
    let n1 : bytes_eq w (codes "buffered") ≡ false = search rules in
    let n2 : bytes_eq w (codes "unlimited") ≡ false = search rules in
    let n3 : bytes_eq w (codes "conflated") ≡ false = search rules in
    let e : bytes_eq w (codes "dropoldest") ≡ true = search rules in
    rw (kind-dropoldest c.args.version w (texts c.args.rest.now) n0 n1 n2 n3 e) c.dropping.ensures
