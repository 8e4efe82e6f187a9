pub mod ChannelKinds
