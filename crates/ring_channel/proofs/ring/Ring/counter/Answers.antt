use Rattle.std.proofs.Common.{◌∙◌, ap, sym, arith}
use Rattle.worded.specs.Views.{is_bare}
use Rattle.ring_channel.proofs.CountersRead.{counter_read}
use Rattle.ring_channel.proofs.ring.Ring.counter.Goals as goal

pub load_word-requires-clause-key : goal.load_word-requires-clause-key
load_word-requires-clause-key g c = c.requires.of.1 ∙ sym c.args.self.now.many

pub load_word-requires-clause-word : goal.load_word-requires-clause-word
load_word-requires-clause-word g c = let few = c.requires.word in omega (arith, few)

pub invariant_of-pass-clause-seated : goal.invariant_of-pass-clause-seated
invariant_of-pass-clause-seated g c = (counter_read c.args.self.now.table.shared.key c.args.self.now.slots c.args.word c.load_word.result c.args.pass.now.seat.me
    c.load_word.new.seat.me c.args.self.now.many c.requires.of.1 c.args.pass.now.seated c.args.pass.now.idle c.load_word.ensures.loaded).seated

pub invariant_of-pass-clause-idle : goal.invariant_of-pass-clause-idle
invariant_of-pass-clause-idle g c = (counter_read c.args.self.now.table.shared.key c.args.self.now.slots c.args.word c.load_word.result c.args.pass.now.seat.me
    c.load_word.new.seat.me c.args.self.now.many c.requires.of.1 c.args.pass.now.seated c.args.pass.now.idle c.load_word.ensures.loaded).idle

pub returns-clause-same : goal.returns-clause-same
returns-clause-same g c = (counter_read c.args.self.now.table.shared.key c.args.self.now.slots c.args.word c.load_word.result c.args.pass.now.seat.me
    c.load_word.new.seat.me c.args.self.now.many c.requires.of.1 c.args.pass.now.seated c.args.pass.now.idle c.load_word.ensures.loaded).same

pub returns-clause-adds : goal.returns-clause-adds
returns-clause-adds g c = (counter_read c.args.self.now.table.shared.key c.args.self.now.slots c.args.word c.load_word.result c.args.pass.now.seat.me
    c.load_word.new.seat.me c.args.self.now.many c.requires.of.1 c.args.pass.now.seated c.args.pass.now.idle c.load_word.ensures.loaded).adds

pub returns-clause-found : goal.returns-clause-found
returns-clause-found g c = (counter_read c.args.self.now.table.shared.key c.args.self.now.slots c.args.word c.load_word.result c.args.pass.now.seat.me
    c.load_word.new.seat.me c.args.self.now.many c.requires.of.1 c.args.pass.now.seated c.args.pass.now.idle c.load_word.ensures.loaded).found

pub invariant_of-pass-clause-bare : goal.invariant_of-pass-clause-bare
invariant_of-pass-clause-bare g c = ap is_bare c.load_word.ensures.same.2 ∙ c.args.pass.now.bare

pub returns-clause-of : goal.returns-clause-of
returns-clause-of g c = (
  c.load_word.ensures.same.0 ∙ c.requires.of.0,
  (counter_read c.args.self.now.table.shared.key c.args.self.now.slots c.args.word c.load_word.result c.args.pass.now.seat.me
      c.load_word.new.seat.me c.args.self.now.many c.requires.of.1 c.args.pass.now.seated c.args.pass.now.idle c.load_word.ensures.loaded).key,
)
