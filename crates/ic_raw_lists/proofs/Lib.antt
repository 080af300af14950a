pub mod SharedEnds
pub mod Transfers
pub mod RingWalks
pub mod RingViews
pub mod OpenedRings
pub mod MergedRings
