use Rattle.std.proofs.Common.{◌≡◌, ◌+◌, ◌++◌, map, length, vec_len, vec_capacity}
use Rattle.engine_many.specs.Parts.{sight_of}
use Rattle.engine_many.specs.Endings.{AreBrought, StaysBrought}
use Rattle.run_laws.specs.LastRounds.{books_seen}
use Rattle.engine_many.proofs.ending.end_others.Given as goal

abbrev pub invariant-loop-other : goal.invariant-loop-other
invariant-loop-other g l = record {
  count : vec_len l.books ≡ vec_len l.initial.books + length l.yielded;
  capacity : vec_capacity l.books ≡ vec_capacity l.initial.books;
  anchor : g.C.ChannelFloor.anchor l.channels ≡ g.C.ChannelFloor.anchor l.initial.channels;
  books : map g.B.NoteBook.items l.books.items
      ≡ map g.B.NoteBook.items l.initial.books.items ++ books_seen (sight_of g.C.ChannelFloor.view g.J.JobFloor.view) l.yielded;
  still : StaysBrought g.N.ScriptName.program (g.C.ChannelFloor.view l.initial.channels) (g.J.JobFloor.view l.initial.jobs)
      (g.C.ChannelFloor.view l.channels) (g.J.JobFloor.view l.jobs);
  others : AreBrought g.N.ScriptName.program (g.C.ChannelFloor.view l.initial.channels) (g.J.JobFloor.view l.initial.jobs)
      (g.C.ChannelFloor.view l.channels) (g.J.JobFloor.view l.jobs) (sight_of g.C.ChannelFloor.view g.J.JobFloor.view) l.yielded;
}
