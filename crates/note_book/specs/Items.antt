-- The acts among the notes.
use Rattle.std.specs.Prelude.{List, [], ◌∷◌, ◌++◌}
use Rattle.channel_model.specs.declared.acts.Act.{Act}
use Rattle.channel_model.specs.declared.acts.ChannelNote.{ChannelNote}
use Rattle.channel_model.specs.declared.acts.ChannelNote.TheVariants as of_channel
use Rattle.job_model.specs.declared.acts.JobAct.{JobAct}
use Rattle.job_model.specs.declared.acts.JobNote.{JobNote}
use Rattle.job_model.specs.declared.acts.JobNote.TheVariants as of_job
use Rattle.note_book.specs.declared.book.Item.{Item}
use Rattle.note_book.specs.declared.book.Item.TheVariants as item

-- the act of a note on a channel, if it is of one
abbrev pub channel_act : ChannelNote → List Act
channel_act (of_channel.Made act) = act ∷ []
channel_act (of_channel.SendClosed c value v) = []
channel_act (of_channel.TrySendClosed c value v) = []
channel_act (of_channel.ReceiveClosed c v) = []
channel_act (of_channel.TryReceiveClosed c v) = []
channel_act (of_channel.AlreadyClosed c v) = []
channel_act (of_channel.Full c value) = []
channel_act (of_channel.Empty c) = []
channel_act (of_channel.Spent c) = []
channel_act (of_channel.Partner c place) = []
channel_act (of_channel.MainResolved w) = []
channel_act (of_channel.Late w) = []

-- the act of a note on a Job, if it is of one
abbrev pub job_act : JobNote → List JobAct
job_act (of_job.Made act) = act ∷ []
job_act (of_job.Saw row) = []
job_act (of_job.SawEnd row end) = []
job_act (of_job.Fail code) = []
job_act of_job.NoRow = []
job_act of_job.Used = []
job_act of_job.ParentEnded = []

-- the acts on channels, in their order
abbrev pub channel_acts_in : List Item → List Act
channel_acts_in [] = []
channel_acts_in (item.Channel note ∷ items) = channel_act note ++ channel_acts_in items
channel_acts_in (item.Job note ∷ items) = channel_acts_in items

-- the acts on Jobs, in their order
abbrev pub job_acts_in : List Item → List JobAct
job_acts_in [] = []
job_acts_in (item.Channel note ∷ items) = job_acts_in items
job_acts_in (item.Job note ∷ items) = job_act note ++ job_acts_in items
