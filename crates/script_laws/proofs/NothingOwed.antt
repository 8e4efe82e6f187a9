-- At the end of a run nothing is owed on the channels.
use Rattle.std.proofs.Common.{List}
use Rattle.std.proofs.lemmas.Bool.{or_from}
use Rattle.channel_model.specs.declared.acts.Entry.{Entry}
use Rattle.channel_model.specs.Histories.{replay}
use Rattle.channel_model.specs.Owing.{OwesNothing}
use Rattle.job_model.specs.declared.acts.JobEntry.{JobEntry}
use Rattle.note_book.specs.declared.book.Item.{Item}
use Rattle.script_grammar.specs.Programs.{Program}
use Rattle.script_meaning.specs.Shapes.{floor_shape}
use Rattle.script_meaning.specs.Books.{BooksOf}
use Rattle.script_laws.proofs.ClosedChannels.{no_receiver_waits, no_offer_is_left}
use Rattle.script_laws.proofs.QueuesFit.{fits_at_end}
use Rattle.script_laws.proofs.OversSpurned.{none_to_spurn}
use Rattle.script_laws.proofs.OffersAdmitted.{AdmittedAtEnd, admitted_at_end}
use Rattle.script_laws.proofs.RoomRaised.{admit_is_raised}

admitted : AdmittedAtEnd
admitted = admitted_at_end admit_is_raised

pub nothing_is_owed : (p : Program) (books : List (List Item)) (channels : List Entry) (jobs : List JobEntry)
    → BooksOf p books channels jobs → OwesNothing (floor_shape p) (replay channels)
nothing_is_owed p books channels jobs of c lt = or_from _ _ (admitted p books channels jobs of c)
    (or_from _ _ (no_receiver_waits p books channels jobs of c)
    (or_from _ _ (no_offer_is_left p books channels jobs of c)
    (or_from _ _ (fits_at_end p books channels jobs of c) (none_to_spurn p books channels jobs of c))))
