-- A hidden end and the parts of a box own what a box at the same types owns.
use mir.Syntax.{impl, tnil, dnil}
use mathlib.Core.List.{[]}
use denote.Signature.{Slot, plain}
use Rattle.std_alloc.proofs.BoxSteps.Form.{Bx}
use Rattle.std_heap.specs.contracts.Global as Heap
use Rattle.std_heap.specs.contracts.GlobalAllocator.TheImpl.{ghosts, dict}
use Rattle.std_heap.proofs.Global.TheLaws as heap
use Rattle.channel_ends.specs.contracts.end.End as End
use Rattle.channel_ends.proofs.end.End.TheLaws as end
use Rattle.channel_ends.specs.contracts.parts.Parts as Parts
use Rattle.channel_ends.specs.contracts.hidden.Hidden as Hidden

abbrev pub E : Bx
E = record {
  row = End.the_row;
  laws = end.the_row_laws;
  al =
      record { row = Heap.the_row; laws = heap.the_row_laws; g = ghosts; d = dict; drops = impl [] tnil dnil };
}

abbrev pub FromParts : Slot 0
FromParts = plain (λ _. Parts.the_row End.the_row Heap.the_row ghosts)

abbrev pub FromHidden : Slot 0
FromHidden = plain (λ _. Hidden.the_row)

abbrev pub FromGlobal : Slot 0
FromGlobal = plain (λ _. Heap.the_row)
