use Rattle.script_printer.proofs.printer.push_kind.Goals as goal

pub returns-in-Rendezvous : goal.returns-in-Rendezvous
returns-in-Rendezvous c = rw c.in-Rendezvous.is c.push_plain_channel.ensures

pub returns-in-Unlimited : goal.returns-in-Unlimited
returns-in-Unlimited c = rw c.in-Unlimited.is c.push_plain_channel-in-Unlimited.ensures

pub returns-in-Conflated : goal.returns-in-Conflated
returns-in-Conflated c = rw c.in-Conflated.is c.push_plain_channel-in-Conflated.ensures

pub returns-in-Buffered : goal.returns-in-Buffered
returns-in-Buffered c = rw c.in-Buffered.is c.push_sized_channel.ensures

pub returns-in-DropOldest : goal.returns-in-DropOldest
returns-in-DropOldest c = rw c.in-DropOldest.is c.push_sized_channel-in-DropOldest.ensures

pub returns-in-DropLatest : goal.returns-in-DropLatest
returns-in-DropLatest c = rw c.in-DropLatest.is c.push_sized_channel-in-DropLatest.ensures
