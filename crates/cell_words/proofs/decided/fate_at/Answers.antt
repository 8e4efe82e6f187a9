use Rattle.std.proofs.Common.{false}
use Rattle.channel_model.specs.Channels.{kind_at}
use Rattle.cell_words.specs.Hubs.{shape_of}
use Rattle.cell_words.proofs.OffersBefore.{spurns_as}
use Rattle.cell_words.proofs.decided.fate_at.Goals as goal

pub fate_by_cell-requires-clause-never : goal.fate_by_cell-requires-clause-never
fate_by_cell-requires-clause-never c =
    spurns_as c.kind_of.result (kind_at (shape_of c.args.hub.now) c.args.c) (λ n. false) c.kind_of.ensures c.in-None.ensures
