-- Records that are known to be proper.
pub mod Disjoint
pub mod Taking
pub mod StandingResiduals
pub mod Going
pub mod Tails
pub mod Heads
pub mod Ending
pub mod LaidOut
pub mod Counting
pub mod Beginning
pub mod Transfer
pub mod JoinLemmas
pub mod CopyingLemmas
pub mod CoveredLemmas
pub mod DecodeLemmas
pub mod Near
