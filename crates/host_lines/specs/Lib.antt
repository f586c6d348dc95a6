pub mod Traffic
pub mod Told
pub mod State
pub mod LineCalls
pub mod Laws
pub mod MemLines
pub mod MemPeers
